-- What the calls of the daemon are about: the verdicts on those of one part are made by one function.
use Rattle.dm_model.specs.declared.call.DaemonCall.{DaemonCall}
use Rattle.dm_model.specs.declared.call.DaemonCall.TheVariants as call

pub data Part : Type 0 where
  Puts : Part
  Recalls : Part
  Changes : Part
  Dumps : Part
  Deletes : Part
  Told : Part

abbrev pub part_of : DaemonCall → Part
part_of (call.BeginPut path asked now k) = Puts
part_of (call.CopyStored k group now) = Puts
part_of (call.EndPut k now) = Puts
part_of (call.Release path now) = Changes
part_of (call.BeginRecall path k) = Recalls
part_of (call.EndRecall k bytes now) = Recalls
part_of (call.DropRecall k) = Recalls
part_of (call.Write path bytes now) = Changes
part_of (call.Patch path offset bytes now) = Changes
part_of (call.Remove path now) = Changes
part_of (call.MakeDump name now) = Dumps
part_of (call.Undump name now) = Dumps
part_of (call.Restore name path target now) = Dumps
part_of (call.SetAge age now) = Dumps
part_of (call.HardDelete now) = Deletes
part_of (call.NextDropping after) = Deletes
part_of (call.Dropped b now) = Deletes
part_of (call.Attributes path) = Told
part_of call.List = Told
