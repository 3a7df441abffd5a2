-- What the calls of a group are about: the verdicts on those of one part are made by one function.
use Rattle.dm_model.specs.declared.call.GroupCall.{GroupCall}
use Rattle.dm_model.specs.declared.call.GroupCall.TheVariants as call

pub data Part : Type 0 where
  Volumes : Part
  Mounts : Part
  Copies : Part
  Merges : Part
  Told : Part

abbrev pub part_of : GroupCall → Part
part_of call.Missing = Volumes
part_of (call.MountNew vsn m) = Mounts
part_of (call.AddVolume m now) = Volumes
part_of (call.Reserve b len n) = Copies
part_of (call.MountPiece n k m) = Mounts
part_of (call.MountChunk b offset m) = Mounts
part_of (call.Unmount m) = Mounts
part_of (call.Commit n sums now) = Copies
part_of (call.Abort n) = Copies
part_of (call.Delete b now) = Copies
part_of call.MergeList = Merges
part_of (call.MergeNext merged source job from to) = Merges
part_of (call.MoveDone job sum now) = Merges
part_of (call.DropMove job) = Merges
part_of (call.Free vsn now) = Volumes
part_of (call.ReuseNext m now) = Volumes
part_of (call.Reuse m now) = Volumes
part_of call.Rows = Told
part_of call.Volumes = Told
