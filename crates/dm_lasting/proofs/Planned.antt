-- Which calls of the daemon journal that a copy is stored.
use Rattle.std.proofs.Common.{◌≡◌, ℕ, Option, None, Some, List, [], ◌∷◌, refl}
use Rattle.std.specs.FinMap as map
use Rattle.dm_base.specs.declared.identifier.Bfid.{Bfid}
use Rattle.dm_base.specs.declared.identifier.GroupId.{GroupId}
use Rattle.dm_durable.specs.declared.daemon.Contents.{Contents}
use Rattle.dm_durable.specs.declared.daemon.Contents.TheVariants.{Regular, Making, Dual, Offline}
use Rattle.dm_durable.specs.declared.daemon.Dump.{Dump}
use Rattle.dm_durable.specs.declared.daemon.DumpInode.{DumpInode}
use Rattle.dm_durable.specs.declared.daemon.Entry.{Entry}
use Rattle.dm_model.specs.declared.answer.Answer.{Answer}
use Rattle.dm_model.specs.declared.call.DaemonCall.{DaemonCall}
use Rattle.dm_model.specs.declared.call.DaemonCall.TheVariants as daemon_call
use Rattle.dm_model.specs.declared.plan.Payload.{Payload}
use Rattle.dm_model.specs.declared.plan.Payload.TheVariants as payload
use Rattle.dm_model.specs.declared.state.Daemon.{Daemon}
use Rattle.dm_model.specs.declared.state.OpenRequest.{OpenRequest}
use Rattle.dm_model.specs.DaemonCalls.{attributes, begin_put, begin_recall, begin_recall_of, contents_of, copy_stored, daemon_plan, drop_recall, dropped}
use Rattle.dm_model.specs.DaemonCalls.{end_put, end_recall, hard_delete_of, patch, release, remove, restore, restore_file, step_taken, taken_at, time_at}
use Rattle.dm_model.specs.Files.{File, file_at}
use Rattle.dm_model.specs.Plan.{Plan, if_accepted, prepared_plan, refusal_of}
use Rattle.dm_lasting.specs.Comes.{IsCopyStored, IsStoredOf}

-- what is journalled says that the group stored its copy of the bitfile
abbrev pub Stores : ℕ → ℕ → Option Payload → Type 0
Stores b g None = ⊥
Stores b g (Some (payload.Daemon r)) = IsStoredOf b g r.step
Stores b g (Some (payload.Group h r)) = ⊥

module _ (b h : ℕ) where
  said : (o : Option Answer) (q : Option Payload) → Stores b h (if_accepted o None q) → Stores b h q
  said None q stores = stores
  said (Some a) q stores = absurd stores

  abbrev Silent : Plan → Type 0
  Silent p = Stores b h p.payload → ⊥

  module _ (d : Daemon) where
    put_begins : (path : List ℕ) (asked : List (Option GroupId)) (now k : ℕ) (o : Option File) → Silent (begin_put d path asked now k o)
    put_begins path asked now k None stores = stores
    put_begins path asked now k (Some f) stores = stores

    put_ends : (k now : ℕ) (o : Option OpenRequest) → Silent (end_put d k now o)
    put_ends k now None stores = stores
    put_ends k now (Some r) stores = stores

    file_released : (path : List ℕ) (now : ℕ) (o : Option File) → Silent (release d path now o)
    file_released path now None stores = stores
    file_released path now (Some f) stores = stores

    recall_begins_of : (k : ℕ) (f : File) (c : Contents) → Silent (begin_recall_of d k f c)
    recall_begins_of k f (Regular bytes) stores = stores
    recall_begins_of k f (Making bytes c) stores = stores
    recall_begins_of k f (Dual bytes c) stores = stores
    recall_begins_of k f (Offline len c) stores = stores

    recall_begins : (k : ℕ) (o : Option File) → Silent (begin_recall d k o)
    recall_begins k None stores = stores
    recall_begins k (Some f) stores = recall_begins_of k f f.inode.contents stores

    taken_of : (now n : ℕ) (bytes : List ℕ) (c : Contents) → Stores b h (step_taken d now n bytes c) → ⊥
    taken_of now n bytes (Regular old) stores = stores
    taken_of now n bytes (Making old c) stores = stores
    taken_of now n bytes (Dual old c) stores = stores
    taken_of now n bytes (Offline len c) stores = stores

    recall_ends : (k : ℕ) (bytes : List ℕ) (now : ℕ) (o : Option OpenRequest) → Silent (end_recall d k bytes now o)
    recall_ends k bytes now None stores = stores
    recall_ends k bytes now (Some r) stores = taken_of now r.ino.0 bytes (contents_of (map.get d.tables.inodes r.ino.0)) stores

    recall_dropped : (k : ℕ) (o : Option OpenRequest) → Silent (drop_recall d k o)
    recall_dropped k None stores = stores
    recall_dropped k (Some r) stores = stores

    file_patched : (path : List ℕ) (offset : ℕ) (bytes : List ℕ) (now : ℕ) (o : Option File) → Silent (patch d path offset bytes now o)
    file_patched path offset bytes now None stores = stores
    file_patched path offset bytes now (Some f) stores = stores

    file_removed : (path : List ℕ) (now : ℕ) (o : Option File) → Silent (remove d path now o)
    file_removed path now None stores = stores
    file_removed path now (Some f) stores = stores

    restored_in : (name path target : List ℕ) (now : ℕ) (dump : Dump) (o : Option DumpInode) → Silent (restore_file d name path target now dump o)
    restored_in name path target now dump None stores = stores
    restored_in name path target now dump (Some f) stores = stores

    file_restored : (name path target : List ℕ) (now : ℕ) (o : Option Dump) → Silent (restore d name path target now o)
    file_restored name path target now None stores = stores
    file_restored name path target now (Some dump) stores = restored_in name path target now dump (map.get dump.files path) stores

    hard_deleted : (now : ℕ) (bs : List Bfid) → Silent (hard_delete_of d now bs)
    hard_deleted now [] stores = stores
    hard_deleted now (c ∷ cs) stores = stores

    entry_dropped : (c : Bfid) (now : ℕ) (o : Option Entry) → Silent (dropped d c now o)
    entry_dropped c now None stores = stores
    entry_dropped c now (Some e) stores = stores

    file_told : (path : List ℕ) (o : Option File) → Silent (attributes d path o)
    file_told path None stores = stores
    file_told path (Some f) stores = stores

    copy_is_stored : (k : ℕ) (g : GroupId) (now : ℕ) (o : Option OpenRequest) → map.get d.requests k ≡ o → Stores b h (copy_stored d g now o).payload
        → (r : OpenRequest) × (map.get d.requests k ≡ Some r) × (r.bfid.0 ≡ b) × (g.0 ≡ h)
    copy_is_stored k g now None is stores = absurd stores
    copy_is_stored k g now (Some r) is stores = (r, is, stores.0, stores.1)

    stores_plan : (c : DaemonCall) → Stores b h (daemon_plan d c).payload → IsCopyStored d b h c
    stores_plan (daemon_call.BeginPut path asked now k) stores = put_begins path asked now.0 k (file_at d path) stores
    stores_plan (daemon_call.CopyStored k g now) stores = copy_is_stored k g now.0 (map.get d.requests k) refl stores
    stores_plan (daemon_call.EndPut k now) stores = put_ends k now.0 (map.get d.requests k) stores
    stores_plan (daemon_call.Release path now) stores = file_released path now.0 (file_at d path) stores
    stores_plan (daemon_call.BeginRecall path k) stores = recall_begins k (file_at d path) stores
    stores_plan (daemon_call.EndRecall k bytes now) stores = recall_ends k bytes now.0 (map.get d.requests k) stores
    stores_plan (daemon_call.DropRecall k) stores = recall_dropped k (map.get d.requests k) stores
    stores_plan (daemon_call.Write path bytes now) stores = stores
    stores_plan (daemon_call.Patch path offset bytes now) stores = file_patched path offset bytes now.0 (file_at d path) stores
    stores_plan (daemon_call.Remove path now) stores = file_removed path now.0 (file_at d path) stores
    stores_plan (daemon_call.MakeDump name now) stores = stores
    stores_plan (daemon_call.Undump name now) stores = stores
    stores_plan (daemon_call.Restore name path target now) stores = file_restored name path target now.0 (map.get d.tables.dumps name) stores
    stores_plan (daemon_call.SetAge age now) stores = stores
    stores_plan (daemon_call.HardDelete now) stores = hard_deleted now.0 (taken_at d (time_at d now.0)) stores
    stores_plan (daemon_call.NextDropping after) stores = stores
    stores_plan (daemon_call.Dropped c now) stores = entry_dropped c now.0 (map.get d.tables.entries c.0) stores
    stores_plan (daemon_call.Attributes path) stores = file_told path (file_at d path) stores
    stores_plan daemon_call.List stores = stores

    pub says_stored : (c : DaemonCall) → Stores b h (prepared_plan (daemon_plan d c)).payload → IsCopyStored d b h c
    says_stored c stores = stores_plan c (said (refusal_of (daemon_plan d c)) (daemon_plan d c).payload stores)
