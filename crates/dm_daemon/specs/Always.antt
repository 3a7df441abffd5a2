-- Calls that may always be made.
use Rattle.std.specs.Prelude.{⊤}
use Rattle.dm_model.specs.declared.call.DaemonCall.{DaemonCall}
use Rattle.dm_model.specs.declared.call.DaemonCall.TheVariants as call

-- the call takes no request and rests on nothing that a sound state has
abbrev pub NeedsNothing : DaemonCall → Type 0
NeedsNothing (call.BeginPut path asked now k) = ⊥
NeedsNothing (call.CopyStored k group now) = ⊥
NeedsNothing (call.EndPut k now) = ⊥
NeedsNothing (call.Release path now) = ⊤
NeedsNothing (call.BeginRecall path k) = ⊤
NeedsNothing (call.EndRecall k bytes now) = ⊥
NeedsNothing (call.DropRecall k) = ⊥
NeedsNothing (call.Write path bytes now) = ⊥
NeedsNothing (call.Patch path offset bytes now) = ⊥
NeedsNothing (call.Remove path now) = ⊤
NeedsNothing (call.MakeDump name now) = ⊥
NeedsNothing (call.Undump name now) = ⊤
NeedsNothing (call.Restore name path target now) = ⊥
NeedsNothing (call.SetAge age now) = ⊤
NeedsNothing (call.HardDelete now) = ⊥
NeedsNothing (call.NextDropping after) = ⊤
NeedsNothing (call.Dropped b now) = ⊥
NeedsNothing (call.Attributes path) = ⊤
NeedsNothing call.List = ⊤
