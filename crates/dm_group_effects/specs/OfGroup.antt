-- Events of a group and of no volume: its calls, those of them that fail, its step in doubt that landed, and looks.
use Rattle.dm_model.specs.declared.call.Call.{Call}
use Rattle.dm_model.specs.declared.call.Call.TheVariants as call
use Rattle.dm_model.specs.declared.call.Component.{Component}
use Rattle.dm_model.specs.declared.call.Component.TheVariants as component
use Rattle.dm_model.specs.declared.call.Event.{Event}
use Rattle.dm_model.specs.declared.call.Event.TheVariants as event

abbrev pub IsGroupCall : Call → Type 0
IsGroupCall (call.Daemon c) = ⊥
IsGroupCall (call.Group g c) = Unit {0}
IsGroupCall (call.Volume g vsn c) = ⊥

abbrev pub IsGroup : Component → Type 0
IsGroup component.Daemon = ⊥
IsGroup (component.Group g) = Unit {0}

abbrev pub IsOfGroup : Event → Type 0
IsOfGroup (event.Call c) = IsGroupCall c
IsOfGroup (event.Fault c healed checkpointed) = IsGroupCall c
IsOfGroup (event.Landed c) = IsGroup c
IsOfGroup (event.Look c) = Unit {0}
IsOfGroup event.Stop = ⊥
