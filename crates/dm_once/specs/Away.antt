-- A bitfile that a group hasn't, and the events that give it to the group.
use Rattle.std.specs.Prelude.{◌≡◌, ℕ, None, Some}
use Rattle.std.specs.FinMap as map
use Rattle.dm_tables.specs.Rows.{EachRow}
use Rattle.dm_durable.specs.declared.group.GroupRecord.{GroupRecord}
use Rattle.dm_durable.specs.declared.group.GroupStep.{GroupStep}
use Rattle.dm_durable.specs.declared.group.GroupStep.TheVariants as step
use Rattle.dm_model.specs.declared.call.Call.TheVariants as call
use Rattle.dm_model.specs.declared.call.Component.TheVariants as component
use Rattle.dm_model.specs.declared.call.Event.{Event}
use Rattle.dm_model.specs.declared.call.Event.TheVariants as event
use Rattle.dm_model.specs.declared.call.GroupCall.{GroupCall}
use Rattle.dm_model.specs.declared.call.GroupCall.TheVariants as group_call
use Rattle.dm_model.specs.declared.state.Joint.{Joint}
use Rattle.dm_model.specs.declared.state.Reserved.{Reserved}
use Rattle.dm_model.specs.declared.state.Side.{Side}

-- the group hasn't the bitfile
abbrev pub IsAwayIn : Joint → ℕ → ℕ → Type 0
IsAwayIn j g b = EachRow j.sides (λ h s. h ≡ g → map.get s.group.tables.bitfiles b ≡ None)

-- a step commits no such bitfile
abbrev pub CommitsOther : ℕ → GroupStep → Type 0
CommitsOther b (step.Volume vsn slot version size) = Unit {0}
CommitsOther b (step.Commit d len chunks) = d.0 ≡ b → ⊥
CommitsOther b (step.Delete d) = Unit {0}
CommitsOther b (step.Move d from to) = Unit {0}
CommitsOther b (step.Free vsn) = Unit {0}
CommitsOther b (step.Reuse vsn epoch version) = Unit {0}

-- a call is no commit of a reservation of the bitfile
abbrev pub ReservesOther : ℕ → Side → GroupCall → Type 0
ReservesOther b s (group_call.Commit n sums now) = (r : Reserved) → map.get s.group.reservations n ≡ Some r → r.bfid.0 ≡ b → ⊥
ReservesOther b s group_call.Missing = Unit {0}
ReservesOther b s (group_call.MountNew vsn m) = Unit {0}
ReservesOther b s (group_call.AddVolume m now) = Unit {0}
ReservesOther b s (group_call.Reserve d len n) = Unit {0}
ReservesOther b s (group_call.MountPiece n k m) = Unit {0}
ReservesOther b s (group_call.MountChunk d offset m) = Unit {0}
ReservesOther b s (group_call.Unmount m) = Unit {0}
ReservesOther b s (group_call.Abort n) = Unit {0}
ReservesOther b s (group_call.Delete d now) = Unit {0}
ReservesOther b s group_call.MergeList = Unit {0}
ReservesOther b s (group_call.MergeNext merged source job from to) = Unit {0}
ReservesOther b s (group_call.MoveDone job sum now) = Unit {0}
ReservesOther b s (group_call.DropMove job) = Unit {0}
ReservesOther b s (group_call.Free vsn now) = Unit {0}
ReservesOther b s (group_call.ReuseNext m now) = Unit {0}
ReservesOther b s (group_call.Reuse m now) = Unit {0}
ReservesOther b s group_call.Rows = Unit {0}
ReservesOther b s group_call.Volumes = Unit {0}

-- an event is no such commit in the group, and no commit in doubt of the bitfile that landed there
abbrev pub BringsOther : Joint → ℕ → ℕ → Event → Type 0
BringsOther j g b (event.Call (call.Daemon c)) = Unit {0}
BringsOther j g b (event.Call (call.Group h c)) = h.0 ≡ g → (s : Side) → map.get j.sides h.0 ≡ Some s → ReservesOther b s c
BringsOther j g b (event.Call (call.Volume h vsn c)) = Unit {0}
BringsOther j g b (event.Fault c healed checkpointed) = Unit {0}
BringsOther j g b (event.Landed component.Daemon) = Unit {0}
BringsOther j g b (event.Landed (component.Group h)) =
    h.0 ≡ g → (s : Side) (r : GroupRecord) → map.get j.sides h.0 ≡ Some s → s.group.doubt ≡ Some r → CommitsOther b r.step
BringsOther j g b (event.Look c) = Unit {0}
BringsOther j g b event.Stop = Unit {0}
