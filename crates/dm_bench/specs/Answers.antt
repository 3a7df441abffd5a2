-- What the results of calls are answers of, and the numbers of the tokens that calls made. Where a call made none, the number means
-- nothing, and is 0.
use Rattle.std.specs.Prelude.{ℕ, Option, None, Some, Result, Ok, Err, List, take}
use Rattle.dm_base.specs.declared.error.DaemonError.{DaemonError}
use Rattle.dm_base.specs.declared.error.DaemonError.TheVariants as error
use Rattle.dm_base.specs.declared.error.GroupError.{GroupError}
use Rattle.dm_base.specs.declared.error.GroupError.TheVariants as group_error
use Rattle.dm_base.specs.declared.identifier.Secs.{Secs}
use Rattle.dm_base.specs.declared.request.Found.{Found}
use Rattle.dm_base.specs.declared.request.Found.TheVariants as found
use Rattle.dm_base.specs.declared.request.PutStart.{PutStart}
use Rattle.dm_base.specs.declared.serial.Vsn.{Vsn}
use Rattle.dm_base.specs.declared.volume.MergeNext.{MergeNext}
use Rattle.dm_base.specs.declared.volume.MergeNext.TheVariants as merge
use Rattle.dm_base.specs.declared.volume.Mount.{Mount}
use Rattle.dm_base.specs.declared.volume.Next.{Next}
use Rattle.dm_base.specs.declared.volume.Next.TheVariants as next
use Rattle.dm_base.specs.declared.volume.Reservation.{Reservation}
use Rattle.dm_base.specs.declared.volume.ReuseJob.{ReuseJob}
use Rattle.dm_base.specs.declared.volume.SparseList.{SparseList}
use Rattle.dm_host.specs.declared.Failed.{Failed}
use Rattle.dm_daemon_acts.specs.Acts.{Report, IsAnswer, IsFault, IsNoMemory, report_of_error}
use Rattle.dm_model.specs.declared.answer.Answer.{Answer}
use Rattle.dm_model.specs.declared.answer.Answer.TheVariants as answer
use Rattle.dm_model.specs.declared.call.DaemonCall.{DaemonCall}
use Rattle.dm_model.specs.declared.call.DaemonCall.TheVariants as daemon_call
use Rattle.dm_model.specs.declared.call.GroupCall.{GroupCall}
use Rattle.dm_model.specs.declared.call.GroupCall.TheVariants as group_call
use Rattle.dm_model.specs.Files.{groups_of}

-- ---- the daemon

abbrev pub put_begun : PutStart → Answer
put_begun s = answer.PutBegun s.request.number s.bfid s.bytes s.change

abbrev pub put_number : Result PutStart DaemonError → ℕ
put_number (Ok s) = s.request.number
put_number (Err e) = 0

abbrev pub recall_begun : Found → Answer
recall_begun (found.Online bytes) = answer.Online bytes
recall_begun (found.Offline s) = answer.RecallBegun s.request.number s.bfid s.len (groups_of s.asked)

abbrev pub found_number : Found → ℕ
found_number (found.Online bytes) = 0
found_number (found.Offline s) = s.request.number

abbrev pub recall_number : Result Found DaemonError → ℕ
recall_number (Ok f) = found_number f
recall_number (Err e) = 0

-- a recall is dropped where memory for its end is refused
abbrev pub recall_ended_call : {X : Type 0} → ℕ → List ℕ → Secs → Result X DaemonError → DaemonCall
recall_ended_call k bytes now (Ok there) = daemon_call.EndRecall k bytes now
recall_ended_call k bytes now (Err error.NoMemory) = daemon_call.DropRecall k
recall_ended_call k bytes now (Err e) = daemon_call.EndRecall k bytes now

abbrev pub recall_ended : {X : Type 0} → (X → List ℕ) → Result X DaemonError → Report
recall_ended f (Ok x) = IsAnswer (answer.Recalled (f x))
recall_ended f (Err error.NoMemory) = IsAnswer answer.RecallDropped
recall_ended f (Err e) = report_of_error e

-- ---- groups

abbrev pub group_report_of_error : GroupError → Report
group_report_of_error (group_error.NoRoom have need) = IsAnswer (answer.GroupRefused (group_error.NoRoom have need))
group_report_of_error (group_error.NotYet is_mounted free) = IsAnswer (answer.GroupRefused (group_error.NotYet is_mounted free))
group_report_of_error group_error.GroupFault = IsFault
group_report_of_error (group_error.Moved chunk) = IsAnswer (answer.GroupRefused (group_error.Moved chunk))
group_report_of_error group_error.NoMemory = IsNoMemory

abbrev pub group_report_of : {X : Type 0} → (X → Answer) → Result X GroupError → Report
group_report_of f (Ok x) = IsAnswer (f x)
group_report_of f (Err e) = group_report_of_error e

abbrev pub mounted : Mount → Answer
mounted m = answer.Mounted m.number m.vsn m.epoch

abbrev pub mount_number : Result Mount GroupError → ℕ
mount_number (Ok m) = m.number
mount_number (Err e) = 0

-- a volume is unmounted where memory for its row is refused
abbrev pub volume_added_call : ℕ → Secs → Result (Unit {0}) GroupError → GroupCall
volume_added_call m now (Ok u) = group_call.AddVolume m now
volume_added_call m now (Err group_error.NoMemory) = group_call.Unmount m
volume_added_call m now (Err e) = group_call.AddVolume m now

abbrev pub volume_added : Result (Unit {0}) GroupError → Report
volume_added (Ok u) = IsAnswer answer.VolumeAdded
volume_added (Err group_error.NoMemory) = IsAnswer answer.Unmounted
volume_added (Err e) = group_report_of_error e

abbrev pub reserved : Reservation → Answer
reserved r = answer.Reserved r.number r.chunk r.pieces

abbrev pub reservation_number : Result Reservation GroupError → ℕ
reservation_number (Ok r) = r.number
reservation_number (Err e) = 0

abbrev pub chunk_mounted : Next → Answer
chunk_mounted next.End = answer.AtEnd
chunk_mounted (next.At m chunk) = answer.AtChunk m.number m.epoch chunk

abbrev pub number_of_next : Next → ℕ
number_of_next next.End = 0
number_of_next (next.At m chunk) = m.number

abbrev pub next_number : Result Next GroupError → ℕ
next_number (Ok n) = number_of_next n
next_number (Err e) = 0

abbrev pub sparse_volumes : SparseList → Answer
sparse_volumes l = answer.SparseVolumes (take l.count l.vsns)

abbrev pub merge_begun : MergeNext → Answer
merge_begun merge.Empty = answer.SourceEmpty
merge_begun (merge.Move j) =
    answer.MoveBegun j.number j.bfid j.total j.from j.to j.source.number j.source.epoch j.target.number j.target.epoch j.version

abbrev pub call_of_merge : List Vsn → Vsn → MergeNext → GroupCall
call_of_merge list source merge.Empty = group_call.MergeNext list source 0 0 0
call_of_merge list source (merge.Move j) = group_call.MergeNext list source j.number j.source.number j.target.number

abbrev pub merge_next_call : List Vsn → Vsn → Result MergeNext GroupError → GroupCall
merge_next_call list source (Ok n) = call_of_merge list source n
merge_next_call list source (Err e) = group_call.MergeNext list source 0 0 0

abbrev pub reuse_begun : Option ReuseJob → Answer
reuse_begun None = answer.NoneReusable
reuse_begun (Some j) = answer.ReuseBegun j.mount.number j.mount.vsn j.mount.epoch j.next_epoch j.version

abbrev pub number_of_reuse : Option ReuseJob → ℕ
number_of_reuse None = 0
number_of_reuse (Some j) = j.mount.number

abbrev pub reuse_number : Result (Option ReuseJob) GroupError → ℕ
reuse_number (Ok o) = number_of_reuse o
reuse_number (Err e) = 0

-- ---- volumes

-- of a call on a volume, which answers this or fails
abbrev pub volume_report_of : Answer → Result (Unit {0}) Failed → Report
volume_report_of a (Ok u) = IsAnswer a
volume_report_of a (Err f) = IsFault
