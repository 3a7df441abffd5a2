-- Events of the daemon, and of no group: its calls, those of them that fail, its step in doubt that landed, and looks.
use Rattle.dm_model.specs.declared.call.Call.{Call}
use Rattle.dm_model.specs.declared.call.Call.TheVariants as call
use Rattle.dm_model.specs.declared.call.Component.{Component}
use Rattle.dm_model.specs.declared.call.Component.TheVariants as component
use Rattle.dm_model.specs.declared.call.Event.{Event}
use Rattle.dm_model.specs.declared.call.Event.TheVariants as event

abbrev pub IsDaemonCall : Call → Type 0
IsDaemonCall (call.Daemon c) = Unit {0}
IsDaemonCall (call.Group g c) = ⊥
IsDaemonCall (call.Volume g vsn c) = ⊥

abbrev pub IsDaemon : Component → Type 0
IsDaemon component.Daemon = Unit {0}
IsDaemon (component.Group g) = ⊥

abbrev pub IsOfDaemon : Event → Type 0
IsOfDaemon (event.Call c) = IsDaemonCall c
IsOfDaemon (event.Fault c healed checkpointed) = IsDaemonCall c
IsOfDaemon (event.Landed c) = IsDaemon c
IsOfDaemon (event.Look c) = Unit {0}
IsOfDaemon event.Stop = ⊥
