-- The plain steps of a call of the daemon, by its arguments, do what the record that it journals does.
use Rattle.std.proofs.Common.{◌≡◌, ℕ, Bool, true, false, cond, Some, None, Option, List, [], ◌∷◌, refl, sym, ap, ◌∙◌}
use Rattle.std.specs.Option.{option_map_or}
use Rattle.std.specs.FinMap as map
use Rattle.dm_base.specs.declared.identifier.Bfid.{Bfid}
use Rattle.dm_base.specs.declared.identifier.GroupId.{GroupId}
use Rattle.dm_base.specs.declared.identifier.Ino.{Ino}
use Rattle.dm_base.specs.declared.identifier.Secs.{Secs}
use Rattle.dm_base.specs.declared.reply.FileState.TheVariants.{Unmigrating, Offline as Away}
use Rattle.dm_durable.specs.declared.daemon.Contents.{Contents}
use Rattle.dm_durable.specs.declared.daemon.Contents.TheVariants.{Regular, Making, Dual, Offline}
use Rattle.dm_durable.specs.declared.daemon.Dump.{Dump}
use Rattle.dm_durable.specs.declared.daemon.DumpInode.{DumpInode}
use Rattle.dm_durable.specs.declared.daemon.Entry.{Entry}
use Rattle.dm_durable.specs.declared.daemon.Inode.{Inode}
use Rattle.dm_durable.specs.Inodes.{bytes_online}
use Rattle.dm_durable.specs.Tables.{ByNumber}
use Rattle.dm_model.specs.declared.answer.Answer.{Answer}
use Rattle.dm_model.specs.declared.call.DaemonCall.{DaemonCall}
use Rattle.dm_model.specs.declared.call.DaemonCall.TheVariants as call
use Rattle.dm_model.specs.declared.plan.Payload.{Payload}
use Rattle.dm_model.specs.declared.state.Daemon.{Daemon}
use Rattle.dm_model.specs.declared.state.Joint.{Joint}
use Rattle.dm_model.specs.declared.state.OpenRequest.{OpenRequest}
use Rattle.dm_model.specs.DaemonCalls.{attributes, begin_put, begin_recall, begin_recall_of, contents_of, copy_stored, daemon_plan, drop_recall, dropped}
use Rattle.dm_model.specs.DaemonCalls.{end_put, end_recall, hard_delete_of, patch, release, remove, restore, restore_file, step_taken, taken_at, time_at}
use Rattle.dm_model.specs.Files.{File, file_at, file_named, file_of, has_open_recall, is_away, state_of}
use Rattle.dm_model.specs.Guards.{NoneHold, first_true}
use Rattle.dm_model.specs.Plan.{Plan, if_accepted, prepared_plan, refusal_of}
use Rattle.dm_model.specs.Project.{plain_run, steps_at, steps_of_call}
use Rattle.dm_plain.specs.declared.step.PlainStep.{PlainStep}
use Rattle.dm_plain.specs.Namespace.{Namespace, bytes_of, with_file}
use Rattle.dm_plain.specs.Patching.{with_patch as plain_patched}
use Rattle.dm_plain.specs.Steps.{range_replaced}
use Rattle.dm_rules.specs.Patching.{with_patch}
use Rattle.dm_shown.proofs.FilesShown.{bytes_in, bytes_named, content_bytes, get-shown}
use Rattle.dm_shown.proofs.PlansShown.{AgreesWith, files_of, payload_steps}

-- ---- calls but patches

-- the steps of a call are those of the record that its plan journals
abbrev Gives : Plan → List PlainStep → Type 0
Gives p steps = steps_at p.payload steps ≡ payload_steps p.payload

-- so they are where it may be refused
given_if : (refusal : Option Answer) (p : Option Payload) (steps : List PlainStep) → steps_at p steps ≡ payload_steps p
    → steps_at (if_accepted refusal None p) steps ≡ payload_steps (if_accepted refusal None p)
given_if None p steps gives = gives
given_if (Some a) p steps gives = refl

module _ (d : Daemon) where
  put_begins : (path : List ℕ) (asked : List (Option GroupId)) (now k : ℕ) (o : Option File) → Gives (begin_put d path asked now k o) []
  put_begins path asked now k None = refl
  put_begins path asked now k (Some f) = refl

  copy_is_stored : (g : GroupId) (now : ℕ) (o : Option OpenRequest) → Gives (copy_stored d g now o) []
  copy_is_stored g now None = refl
  copy_is_stored g now (Some r) = refl

  put_ends : (k now : ℕ) (o : Option OpenRequest) → Gives (end_put d k now o) []
  put_ends k now None = refl
  put_ends k now (Some r) = refl

  file_released : (path : List ℕ) (now : ℕ) (o : Option File) → Gives (release d path now o) []
  file_released path now None = refl
  file_released path now (Some f) = refl

  recall_begins_of : (k : ℕ) (f : File) (c : Contents) → Gives (begin_recall_of d k f c) []
  recall_begins_of k f (Regular bytes) = refl
  recall_begins_of k f (Making bytes b) = refl
  recall_begins_of k f (Dual bytes b) = refl
  recall_begins_of k f (Offline len b) = refl

  recall_begins : (k : ℕ) (o : Option File) → Gives (begin_recall d k o) []
  recall_begins k None = refl
  recall_begins k (Some f) = recall_begins_of k f f.inode.contents

  taken_of : (now n : ℕ) (bytes : List ℕ) (c : Contents) → steps_at (step_taken d now n bytes c) [] ≡ payload_steps (step_taken d now n bytes c)
  taken_of now n bytes (Regular old) = refl
  taken_of now n bytes (Making old b) = refl
  taken_of now n bytes (Dual old b) = refl
  taken_of now n bytes (Offline len b) = refl

  recall_ends : (k : ℕ) (bytes : List ℕ) (now : ℕ) (o : Option OpenRequest) → Gives (end_recall d k bytes now o) []
  recall_ends k bytes now None = refl
  recall_ends k bytes now (Some r) = taken_of now r.ino.0 bytes (contents_of (map.get d.tables.inodes r.ino.0))

  recall_dropped : (k : ℕ) (o : Option OpenRequest) → Gives (drop_recall d k o) []
  recall_dropped k None = refl
  recall_dropped k (Some r) = refl

  file_removed : (path : List ℕ) (now : Secs) (o : Option File) → Gives (remove d path now.0 o) (steps_of_call (call.Remove path now))
  file_removed path now None = refl
  file_removed path now (Some f) = refl

  file_restored_in : (name path target : List ℕ) (now : Secs) (dump : Dump) (o : Option DumpInode)
      → Gives (restore_file d name path target now.0 dump o) (steps_of_call (call.Restore name path target now))
  file_restored_in name path target now dump None = refl
  file_restored_in name path target now dump (Some f) = refl

  file_restored : (name path target : List ℕ) (now : Secs) (o : Option Dump)
      → Gives (restore d name path target now.0 o) (steps_of_call (call.Restore name path target now))
  file_restored name path target now None = refl
  file_restored name path target now (Some dump) = file_restored_in name path target now dump (map.get dump.files path)

  hard_deleted : (now : ℕ) (bs : List Bfid) → Gives (hard_delete_of d now bs) []
  hard_deleted now [] = refl
  hard_deleted now (b ∷ bs) = refl

  entry_dropped : (b : Bfid) (now : ℕ) (o : Option Entry) → Gives (dropped d b now o) []
  entry_dropped b now None = refl
  entry_dropped b now (Some e) = refl

  file_told : (path : List ℕ) (o : Option File) → Gives (attributes d path o) []
  file_told path None = refl
  file_told path (Some f) = refl

-- ---- a patch

-- a file that isn't away has its bytes on the disk
away_of : (b : Bool) → is_away (cond b Unmigrating Away) ≡ true
away_of true = refl
away_of false = refl

online_bytes : (requests : ByNumber OpenRequest) (n : ℕ) (contents : ByNumber (List ℕ)) (c : Contents) → is_away (state_of requests n c) ≡ false
    → bytes_online c ≡ content_bytes contents c
online_bytes requests n contents (Regular bytes) here = refl
online_bytes requests n contents (Making bytes b) here = refl
online_bytes requests n contents (Dual bytes b) here = refl
online_bytes requests n contents (Offline len b) here = let away = away_of (has_open_recall requests n) in absurd (cc)

-- the file of a path has the bytes that are shown there
bytes_at : (contents : ByNumber (List ℕ)) (n : ℕ) (o : Option Inode) (f : File) → file_of n o ≡ Some f
    → bytes_in contents o ≡ content_bytes contents f.inode.contents
bytes_at contents n None f is = absurd (cc)
bytes_at contents n (Some i) f is =
    let g : File = record { number = n; inode = i } in
    let same : g ≡ f = cc in
    ap (λ (x : File). content_bytes contents x.inode.contents) same

-- the file that a name leads to has the bytes of its contents
pub bytes_of_file : (contents : ByNumber (List ℕ)) (inodes : ByNumber Inode) (name : Option Ino) (f : File) → file_named inodes name ≡ Some f
    → bytes_named contents inodes name ≡ Some (content_bytes contents f.inode.contents)
bytes_of_file contents inodes None f is = absurd (cc)
bytes_of_file contents inodes (Some n) f is = ap (λ bytes. Some bytes) (bytes_at contents n.0 (map.get inodes n.0) f is)

-- a patch of a file with these bytes is a write of the patched ones
patch_is_write : (path : List ℕ) (offset : ℕ) (bytes old : List ℕ) (ns : Namespace) → map.get ns.files path ≡ Some old
    → range_replaced path offset bytes ns ≡ with_file path (with_patch offset bytes old) ns
unfolding range_replaced bytes_of plain_patched
patch_is_write path offset bytes old ns is = ap (λ o. option_map_or (λ was. with_file path (plain_patched offset bytes was) ns) o ns) is

-- none holds where there is no first one
none_hold : {X : Type 0} (ts : List (Bool × X)) → first_true ts ≡ None → NoneHold ts
none_hold [] e = tt
none_hold (t ∷ ts) e =
    elim t.0 as (λ b. cond b (Some t.1) (first_true ts) ≡ None → (b ≡ false) × NoneHold ts) [
      | true ↦ λ none. cc
      | false ↦ λ rest. (refl, none_hold ts rest)
    ] e

module _ (j : Joint) (ns : Namespace) (a : AgreesWith (files_of j) ns) where
  -- the same namespace after the steps as after those of the record
  abbrev Does : Option Payload → List PlainStep → Type 0
  Does p steps = plain_run (steps_at p steps) ns ≡ plain_run (payload_steps p) ns

  does_given : (p : Plan) (steps : List PlainStep) → Gives p steps → Does (prepared_plan p).payload steps
  does_given p steps gives = ap (λ ss. plain_run ss ns) (given_if (refusal_of p) p.payload steps gives)

  patched_none : (refusal : Option Answer) (steps : List PlainStep) → Does (if_accepted refusal None None) steps
  patched_none None steps = refl
  patched_none (Some r) steps = refl

  -- the file of a path is the one that the namespace has there
  file_there : (path : List ℕ) (f : File) → file_at j.daemon path ≡ Some f
      → map.get ns.files path ≡ Some (content_bytes j.history.contents f.inode.contents)
  file_there path f is =
      ap (λ files. map.get files path) a.files ∙ get-shown j.daemon.tables.names j.daemon.tables.inodes j.history.contents path
      ∙ bytes_of_file j.history.contents j.daemon.tables.inodes (map.get j.daemon.tables.names path) f is

  patched_file : (path : List ℕ) (offset : ℕ) (bytes : List ℕ) (now : Secs) (f : File) (refusal : Option Answer) → file_at j.daemon path ≡ Some f
      → (refusal ≡ None → is_away (state_of j.daemon.requests f.number f.inode.contents) ≡ false)
      → Does (if_accepted refusal None (patch j.daemon path offset bytes now.0 (Some f)).payload) (steps_of_call (call.Patch path offset bytes now))
  patched_file path offset bytes now f None is here =
      let own = online_bytes j.daemon.requests f.number j.history.contents f.inode.contents (here refl) in
      patch_is_write path offset bytes (bytes_online f.inode.contents) (record ns { now = time_at j.daemon now.0 })
      (file_there path f is ∙ ap (λ x. Some x) (sym own))
  patched_file path offset bytes now f (Some r) is here = refl

  file_patched : (path : List ℕ) (offset : ℕ) (bytes : List ℕ) (now : Secs) (o : Option File) → file_at j.daemon path ≡ o
      → Does (prepared_plan (patch j.daemon path offset bytes now.0 o)).payload (steps_of_call (call.Patch path offset bytes now))
  file_patched path offset bytes now None is =
      patched_none (refusal_of (patch j.daemon path offset bytes now.0 None)) (steps_of_call (call.Patch path offset bytes now))
  file_patched path offset bytes now (Some f) is =
      let p = patch j.daemon path offset bytes now.0 (Some f) in
      patched_file path offset bytes now f (refusal_of p) is (λ none. (none_hold p.refusals none).1.0)

  -- ---- any call

  -- a call of the daemon gives steps that do what its record does
  pub call_does : (c : DaemonCall) → Does (prepared_plan (daemon_plan j.daemon c)).payload (steps_of_call c)
  call_does (call.BeginPut path asked now k) =
      does_given (daemon_plan j.daemon (call.BeginPut path asked now k)) [] (put_begins j.daemon path asked now.0 k (file_at j.daemon path))
  call_does (call.CopyStored k group now) =
      does_given (daemon_plan j.daemon (call.CopyStored k group now)) [] (copy_is_stored j.daemon group now.0 (map.get j.daemon.requests k))
  call_does (call.EndPut k now) = does_given (daemon_plan j.daemon (call.EndPut k now)) [] (put_ends j.daemon k now.0 (map.get j.daemon.requests k))
  call_does (call.Release path now) =
      does_given (daemon_plan j.daemon (call.Release path now)) [] (file_released j.daemon path now.0 (file_at j.daemon path))
  call_does (call.BeginRecall path k) = does_given (daemon_plan j.daemon (call.BeginRecall path k)) [] (recall_begins j.daemon k (file_at j.daemon path))
  call_does (call.EndRecall k bytes now) =
      does_given (daemon_plan j.daemon (call.EndRecall k bytes now)) [] (recall_ends j.daemon k bytes now.0 (map.get j.daemon.requests k))
  call_does (call.DropRecall k) = does_given (daemon_plan j.daemon (call.DropRecall k)) [] (recall_dropped j.daemon k (map.get j.daemon.requests k))
  call_does (call.Write path bytes now) = does_given (daemon_plan j.daemon (call.Write path bytes now)) (steps_of_call (call.Write path bytes now)) refl
  call_does (call.Patch path offset bytes now) = file_patched path offset bytes now (file_at j.daemon path) refl
  call_does (call.Remove path now) =
      does_given (daemon_plan j.daemon (call.Remove path now)) (steps_of_call (call.Remove path now)) (file_removed j.daemon path now (file_at j.daemon path))
  call_does (call.MakeDump name now) = does_given (daemon_plan j.daemon (call.MakeDump name now)) (steps_of_call (call.MakeDump name now)) refl
  call_does (call.Undump name now) = does_given (daemon_plan j.daemon (call.Undump name now)) (steps_of_call (call.Undump name now)) refl
  call_does (call.Restore name path target now) =
      does_given (daemon_plan j.daemon (call.Restore name path target now)) (steps_of_call (call.Restore name path target now))
      (file_restored j.daemon name path target now (map.get j.daemon.tables.dumps name))
  call_does (call.SetAge age now) = does_given (daemon_plan j.daemon (call.SetAge age now)) (steps_of_call (call.SetAge age now)) refl
  call_does (call.HardDelete now) =
      does_given (daemon_plan j.daemon (call.HardDelete now)) [] (hard_deleted j.daemon now.0 (taken_at j.daemon (time_at j.daemon now.0)))
  call_does (call.NextDropping after) = does_given (daemon_plan j.daemon (call.NextDropping after)) [] refl
  call_does (call.Dropped b now) = does_given (daemon_plan j.daemon (call.Dropped b now)) [] (entry_dropped j.daemon b now.0 (map.get j.daemon.tables.entries b.0))
  call_does (call.Attributes path) = does_given (daemon_plan j.daemon (call.Attributes path)) [] (file_told j.daemon path (file_at j.daemon path))
  call_does call.List = does_given (daemon_plan j.daemon call.List) [] refl
