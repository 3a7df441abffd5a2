-- What a call of the daemon leaves and makes is nothing on a volume, and no more than a request.
use Rattle.std.proofs.Common.{ℕ, Option, None, Some, List, [], ◌∷◌}
use Rattle.std.specs.FinMap as map
use Rattle.dm_base.specs.declared.identifier.Bfid.{Bfid}
use Rattle.dm_base.specs.declared.identifier.GroupId.{GroupId}
use Rattle.dm_durable.specs.declared.daemon.Contents.{Contents}
use Rattle.dm_durable.specs.declared.daemon.Contents.TheVariants.{Regular, Making, Dual, Offline}
use Rattle.dm_durable.specs.declared.daemon.Dump.{Dump}
use Rattle.dm_durable.specs.declared.daemon.DumpInode.{DumpInode}
use Rattle.dm_durable.specs.declared.daemon.Entry.{Entry}
use Rattle.dm_model.specs.declared.call.DaemonCall.{DaemonCall}
use Rattle.dm_model.specs.declared.call.DaemonCall.TheVariants as daemon_call
use Rattle.dm_model.specs.declared.plan.Mark.{Mark}
use Rattle.dm_model.specs.declared.plan.Mark.TheVariants as mark
use Rattle.dm_model.specs.declared.plan.Opening.{Opening}
use Rattle.dm_model.specs.declared.plan.Opening.TheVariants as opening
use Rattle.dm_model.specs.declared.state.Daemon.{Daemon}
use Rattle.dm_model.specs.declared.state.OpenRequest.{OpenRequest}
use Rattle.dm_model.specs.DaemonCalls.{attributes, begin_put, begin_recall, begin_recall_of, copy_stored, daemon_plan, drop_recall, dropped}
use Rattle.dm_model.specs.DaemonCalls.{end_put, end_recall, hard_delete_of, patch, release, remove, restore, restore_file, taken_at, time_at}
use Rattle.dm_model.specs.Files.{File, file_at}
use Rattle.dm_model.specs.Plan.{Plan}

abbrev pub NoMark : Mark → Type 0
NoMark mark.Nothing = Unit {0}
NoMark (mark.Zone g vsn place zone d index e) = ⊥
NoMark (mark.Target g vsn m place zone) = ⊥
NoMark (mark.Label g vsn m e version text) = ⊥
NoMark (mark.Read g d offset bytes) = ⊥
NoMark (mark.Source g m bytes) = ⊥
NoMark (mark.Deleted g d) = ⊥

abbrev pub OnlyRequest : Opening → Type 0
OnlyRequest opening.Nothing = Unit {0}
OnlyRequest (opening.Put k r len groups) = Unit {0}
OnlyRequest (opening.Recall k r recall) = Unit {0}
OnlyRequest (opening.Reservation g n r) = ⊥
OnlyRequest (opening.Mount g m vsn epoch made) = ⊥
OnlyRequest (opening.Move g job x source_epoch target_epoch) = ⊥
OnlyRequest (opening.Reuse g m epoch x reading) = ⊥

pub record Requests (p : Plan) : Type 0 where
  pub marks : NoMark p.mark
  pub opens : OnlyRequest p.opens

module _ (d : Daemon) where
  put_begins : (path : List ℕ) (asked : List (Option GroupId)) (now k : ℕ) (o : Option File) → Requests (begin_put d path asked now k o)
  put_begins path asked now k None = record { marks = tt; opens = tt }
  put_begins path asked now k (Some f) = record { marks = tt; opens = tt }

  copy_is_stored : (g : GroupId) (now : ℕ) (o : Option OpenRequest) → Requests (copy_stored d g now o)
  copy_is_stored g now None = record { marks = tt; opens = tt }
  copy_is_stored g now (Some r) = record { marks = tt; opens = tt }

  put_ends : (k now : ℕ) (o : Option OpenRequest) → Requests (end_put d k now o)
  put_ends k now None = record { marks = tt; opens = tt }
  put_ends k now (Some r) = record { marks = tt; opens = tt }

  file_released : (path : List ℕ) (now : ℕ) (o : Option File) → Requests (release d path now o)
  file_released path now None = record { marks = tt; opens = tt }
  file_released path now (Some f) = record { marks = tt; opens = tt }

  recall_begins_of : (k : ℕ) (f : File) (c : Contents) → Requests (begin_recall_of d k f c)
  recall_begins_of k f (Regular bytes) = record { marks = tt; opens = tt }
  recall_begins_of k f (Making bytes b) = record { marks = tt; opens = tt }
  recall_begins_of k f (Dual bytes b) = record { marks = tt; opens = tt }
  recall_begins_of k f (Offline len b) = record { marks = tt; opens = tt }

  recall_begins : (k : ℕ) (o : Option File) → Requests (begin_recall d k o)
  recall_begins k None = record { marks = tt; opens = tt }
  recall_begins k (Some f) = recall_begins_of k f f.inode.contents

  recall_ends : (k : ℕ) (bytes : List ℕ) (now : ℕ) (o : Option OpenRequest) → Requests (end_recall d k bytes now o)
  recall_ends k bytes now None = record { marks = tt; opens = tt }
  recall_ends k bytes now (Some r) = record { marks = tt; opens = tt }

  recall_dropped : (k : ℕ) (o : Option OpenRequest) → Requests (drop_recall d k o)
  recall_dropped k None = record { marks = tt; opens = tt }
  recall_dropped k (Some r) = record { marks = tt; opens = tt }

  file_patched : (path : List ℕ) (offset : ℕ) (bytes : List ℕ) (now : ℕ) (o : Option File) → Requests (patch d path offset bytes now o)
  file_patched path offset bytes now None = record { marks = tt; opens = tt }
  file_patched path offset bytes now (Some f) = record { marks = tt; opens = tt }

  file_removed : (path : List ℕ) (now : ℕ) (o : Option File) → Requests (remove d path now o)
  file_removed path now None = record { marks = tt; opens = tt }
  file_removed path now (Some f) = record { marks = tt; opens = tt }

  file_restored_in : (name path target : List ℕ) (now : ℕ) (dump : Dump) (o : Option DumpInode) → Requests (restore_file d name path target now dump o)
  file_restored_in name path target now dump None = record { marks = tt; opens = tt }
  file_restored_in name path target now dump (Some f) = record { marks = tt; opens = tt }

  file_restored : (name path target : List ℕ) (now : ℕ) (o : Option Dump) → Requests (restore d name path target now o)
  file_restored name path target now None = record { marks = tt; opens = tt }
  file_restored name path target now (Some dump) = file_restored_in name path target now dump (map.get dump.files path)

  hard_deleted : (now : ℕ) (bs : List Bfid) → Requests (hard_delete_of d now bs)
  hard_deleted now [] = record { marks = tt; opens = tt }
  hard_deleted now (b ∷ bs) = record { marks = tt; opens = tt }

  entry_dropped : (b : Bfid) (now : ℕ) (o : Option Entry) → Requests (dropped d b now o)
  entry_dropped b now None = record { marks = tt; opens = tt }
  entry_dropped b now (Some e) = record { marks = tt; opens = tt }

  file_told : (path : List ℕ) (o : Option File) → Requests (attributes d path o)
  file_told path None = record { marks = tt; opens = tt }
  file_told path (Some f) = record { marks = tt; opens = tt }

  pub daemon_requests : (c : DaemonCall) → Requests (daemon_plan d c)
  daemon_requests (daemon_call.BeginPut path asked now k) = put_begins path asked now.0 k (file_at d path)
  daemon_requests (daemon_call.CopyStored k group now) = copy_is_stored group now.0 (map.get d.requests k)
  daemon_requests (daemon_call.EndPut k now) = put_ends k now.0 (map.get d.requests k)
  daemon_requests (daemon_call.Release path now) = file_released path now.0 (file_at d path)
  daemon_requests (daemon_call.BeginRecall path k) = recall_begins k (file_at d path)
  daemon_requests (daemon_call.EndRecall k bytes now) = recall_ends k bytes now.0 (map.get d.requests k)
  daemon_requests (daemon_call.DropRecall k) = recall_dropped k (map.get d.requests k)
  daemon_requests (daemon_call.Write path bytes now) = record { marks = tt; opens = tt }
  daemon_requests (daemon_call.Patch path offset bytes now) = file_patched path offset bytes now.0 (file_at d path)
  daemon_requests (daemon_call.Remove path now) = file_removed path now.0 (file_at d path)
  daemon_requests (daemon_call.MakeDump name now) = record { marks = tt; opens = tt }
  daemon_requests (daemon_call.Undump name now) = record { marks = tt; opens = tt }
  daemon_requests (daemon_call.Restore name path target now) = file_restored name path target now.0 (map.get d.tables.dumps name)
  daemon_requests (daemon_call.SetAge age now) = record { marks = tt; opens = tt }
  daemon_requests (daemon_call.HardDelete now) = hard_deleted now.0 (taken_at d (time_at d now.0))
  daemon_requests (daemon_call.NextDropping after) = record { marks = tt; opens = tt }
  daemon_requests (daemon_call.Dropped b now) = entry_dropped b now.0 (map.get d.tables.entries b.0)
  daemon_requests (daemon_call.Attributes path) = file_told path (file_at d path)
  daemon_requests daemon_call.List = record { marks = tt; opens = tt }
