-- The number of a request that a call of the daemon makes is new.
use Rattle.std.proofs.Common.{ℕ, Some, None, Option, List, [], ◌∷◌, ◌++◌}
use Rattle.std.proofs.lemmas.Bool.{leb-true}
use Rattle.std.specs.FinMap as map
use Rattle.dm_base.specs.declared.identifier.Bfid.{Bfid}
use Rattle.dm_base.specs.declared.identifier.GroupId.{GroupId}
use Rattle.dm_durable.specs.declared.daemon.Contents.{Contents}
use Rattle.dm_durable.specs.declared.daemon.Contents.TheVariants.{Regular, Making, Dual, Offline}
use Rattle.dm_durable.specs.declared.daemon.Dump.{Dump}
use Rattle.dm_durable.specs.declared.daemon.DumpInode.{DumpInode}
use Rattle.dm_durable.specs.declared.daemon.Entry.{Entry}
use Rattle.dm_model.specs.declared.answer.Answer.{Answer}
use Rattle.dm_model.specs.declared.call.DaemonCall.{DaemonCall}
use Rattle.dm_model.specs.declared.call.DaemonCall.TheVariants as daemon_call
use Rattle.dm_model.specs.declared.plan.Opening.{Opening}
use Rattle.dm_model.specs.declared.plan.Opening.TheVariants as opening
use Rattle.dm_model.specs.declared.state.Daemon.{Daemon}
use Rattle.dm_model.specs.declared.state.OpenRequest.{OpenRequest}
use Rattle.dm_model.specs.DaemonCalls.{attributes, begin_put, begin_recall, begin_recall_of, copy_stored, daemon_plan, drop_recall, dropped}
use Rattle.dm_model.specs.DaemonCalls.{end_put, end_recall, hard_delete_of, patch, release, remove, restore, restore_file, taken_at, time_at}
use Rattle.dm_model.specs.Files.{File, file_at}
use Rattle.dm_model.specs.Guards.{AllHold, Guarded}
use Rattle.dm_model.specs.Plan.{Plan, Needs, guards_always, guards_of, if_accepted}
use Rattle.dm_model.proofs.Shares.{OpensOf}
use Rattle.dm_shown.proofs.PathsAsked.{IsNewOf}

-- ---- what a call of the daemon makes is new

abbrev NewOf : Daemon → Plan → Type 0
NewOf d p = AllHold p.making → IsNewOf d.next_request p.opens

module _ (d : Daemon) where
  put_begins : (path : List ℕ) (asked : List (Option GroupId)) (now k : ℕ) (o : Option File) → NewOf d (begin_put d path asked now k o)
  put_begins path asked now k None hold = tt
  put_begins path asked now k (Some f) hold = leb-true d.next_request k hold.0

  copy_is_stored : (g : GroupId) (now : ℕ) (o : Option OpenRequest) → NewOf d (copy_stored d g now o)
  copy_is_stored g now None hold = tt
  copy_is_stored g now (Some r) hold = tt

  put_ends : (k now : ℕ) (o : Option OpenRequest) → NewOf d (end_put d k now o)
  put_ends k now None hold = tt
  put_ends k now (Some r) hold = tt

  file_released : (path : List ℕ) (now : ℕ) (o : Option File) → NewOf d (release d path now o)
  file_released path now None hold = tt
  file_released path now (Some f) hold = tt

  recall_begins_of : (k : ℕ) (f : File) (c : Contents) → NewOf d (begin_recall_of d k f c)
  recall_begins_of k f (Regular bytes) hold = tt
  recall_begins_of k f (Making bytes b) hold = tt
  recall_begins_of k f (Dual bytes b) hold = tt
  recall_begins_of k f (Offline len b) hold = leb-true d.next_request k hold.0

  recall_begins : (k : ℕ) (o : Option File) → NewOf d (begin_recall d k o)
  recall_begins k None hold = tt
  recall_begins k (Some f) hold = recall_begins_of k f f.inode.contents hold

  recall_ends : (k : ℕ) (bytes : List ℕ) (now : ℕ) (o : Option OpenRequest) → NewOf d (end_recall d k bytes now o)
  recall_ends k bytes now None hold = tt
  recall_ends k bytes now (Some r) hold = tt

  recall_dropped : (k : ℕ) (o : Option OpenRequest) → NewOf d (drop_recall d k o)
  recall_dropped k None hold = tt
  recall_dropped k (Some r) hold = tt

  file_patched : (path : List ℕ) (offset : ℕ) (bytes : List ℕ) (now : ℕ) (o : Option File) → NewOf d (patch d path offset bytes now o)
  file_patched path offset bytes now None hold = tt
  file_patched path offset bytes now (Some f) hold = tt

  file_removed : (path : List ℕ) (now : ℕ) (o : Option File) → NewOf d (remove d path now o)
  file_removed path now None hold = tt
  file_removed path now (Some f) hold = tt

  file_restored_in : (name path target : List ℕ) (now : ℕ) (dump : Dump) (o : Option DumpInode) → NewOf d (restore_file d name path target now dump o)
  file_restored_in name path target now dump None hold = tt
  file_restored_in name path target now dump (Some f) hold = tt

  file_restored : (name path target : List ℕ) (now : ℕ) (o : Option Dump) → NewOf d (restore d name path target now o)
  file_restored name path target now None hold = tt
  file_restored name path target now (Some dump) hold = file_restored_in name path target now dump (map.get dump.files path) hold

  hard_deleted : (now : ℕ) (bs : List Bfid) → NewOf d (hard_delete_of d now bs)
  hard_deleted now [] hold = tt
  hard_deleted now (b ∷ bs) hold = tt

  entry_dropped : (b : Bfid) (now : ℕ) (o : Option Entry) → NewOf d (dropped d b now o)
  entry_dropped b now None hold = tt
  entry_dropped b now (Some e) hold = tt

  file_told : (path : List ℕ) (o : Option File) → NewOf d (attributes d path o)
  file_told path None hold = tt
  file_told path (Some f) hold = tt

  pub new_of : (c : DaemonCall) → NewOf d (daemon_plan d c)
  new_of (daemon_call.BeginPut path asked now k) hold = put_begins path asked now.0 k (file_at d path) hold
  new_of (daemon_call.CopyStored k group now) hold = copy_is_stored group now.0 (map.get d.requests k) hold
  new_of (daemon_call.EndPut k now) hold = put_ends k now.0 (map.get d.requests k) hold
  new_of (daemon_call.Release path now) hold = file_released path now.0 (file_at d path) hold
  new_of (daemon_call.BeginRecall path k) hold = recall_begins k (file_at d path) hold
  new_of (daemon_call.EndRecall k bytes now) hold = recall_ends k bytes now.0 (map.get d.requests k) hold
  new_of (daemon_call.DropRecall k) hold = recall_dropped k (map.get d.requests k) hold
  new_of (daemon_call.Write path bytes now) hold = tt
  new_of (daemon_call.Patch path offset bytes now) hold = file_patched path offset bytes now.0 (file_at d path) hold
  new_of (daemon_call.Remove path now) hold = file_removed path now.0 (file_at d path) hold
  new_of (daemon_call.MakeDump name now) hold = tt
  new_of (daemon_call.Undump name now) hold = tt
  new_of (daemon_call.Restore name path target now) hold = file_restored name path target now.0 (map.get d.tables.dumps name) hold
  new_of (daemon_call.SetAge age now) hold = tt
  new_of (daemon_call.HardDelete now) hold = hard_deleted now.0 (taken_at d (time_at d now.0)) hold
  new_of (daemon_call.NextDropping after) hold = tt
  new_of (daemon_call.Dropped b now) hold = entry_dropped b now.0 (map.get d.tables.entries b.0) hold
  new_of (daemon_call.Attributes path) hold = file_told path (file_at d path) hold
  new_of daemon_call.List hold = tt

-- the guards behind others
back_holds : (ts us : List Guarded) → AllHold (ts ++ us) → AllHold us
back_holds [] us hold = hold
back_holds (t ∷ ts) us hold = back_holds ts us hold.1

-- a call that is refused makes nothing
pub new_if : (next : ℕ) (p : Plan) (n : Needs) (o : Option Answer) → (AllHold p.making → IsNewOf next p.opens) → AllHold (guards_of o p n)
    → IsNewOf next (if_accepted o opening.Nothing p.opens)
new_if next p n None new hold = new (back_holds (guards_always p n) p.making hold)
new_if next p n (Some a) new hold = tt

-- what a group's call makes is no request
pub group_new : (g : GroupId) (next : ℕ) (o : Opening) → OpensOf g o → IsNewOf next o
group_new g next opening.Nothing of = tt
group_new g next (opening.Put k r len groups) of = absurd of
group_new g next (opening.Recall k r recall) of = absurd of
group_new g next (opening.Reservation h n r) of = tt
group_new g next (opening.Mount h m vsn epoch made) of = tt
group_new g next (opening.Move h job moving source_epoch target_epoch) of = tt
group_new g next (opening.Reuse h m epoch reusing reading) of = tt
