-- Every legal call of the daemon journals what may land, after what it spends is spent.
use Rattle.std.proofs.Common.{◌≡◌, ℕ, ◌<◌, Bool, true, false, cond, Option, None, Some, List, [], ◌∷◌, length, refl, sym, subst, arith}
use Rattle.std.specs.FinMap as map
use Rattle.dm_base.specs.declared.identifier.Bfid.{Bfid}
use Rattle.dm_base.specs.declared.identifier.GroupId.{GroupId}
use Rattle.dm_durable.specs.declared.daemon.Contents.{Contents}
use Rattle.dm_durable.specs.declared.daemon.Contents.TheVariants.{Regular, Making, Dual, Offline}
use Rattle.dm_durable.specs.declared.daemon.DaemonStep.TheVariants.{HardDelete}
use Rattle.dm_durable.specs.declared.daemon.Dump.{Dump}
use Rattle.dm_durable.specs.declared.daemon.DumpInode.{DumpInode}
use Rattle.dm_durable.specs.declared.daemon.Entry.{Entry}
use Rattle.dm_model.specs.declared.answer.Answer.{Answer}
use Rattle.dm_model.specs.declared.call.DaemonCall.{DaemonCall}
use Rattle.dm_model.specs.declared.call.DaemonCall.TheVariants as call
use Rattle.dm_model.specs.declared.plan.Ending.TheVariants as ending
use Rattle.dm_model.specs.declared.plan.Payload.{Payload}
use Rattle.dm_model.specs.declared.plan.Payload.TheVariants as payload
use Rattle.dm_model.specs.declared.state.Joint.{Joint}
use Rattle.dm_model.specs.declared.state.OpenRequest.{OpenRequest}
use Rattle.dm_model.specs.DaemonCalls.{attributes, begin_put, begin_put_needs, begin_recall, begin_recall_of, contents_of, copy_stored, copy_stored_needs}
use Rattle.dm_model.specs.DaemonCalls.{daemon_needs, daemon_plan, dropped, dropped_needs, drop_recall, end_put, end_put_needs, end_recall, end_recall_needs, step_taken}
use Rattle.dm_model.specs.DaemonCalls.{hard_delete_of, patch, release, remove, restore, restore_file, taken_at, time_at}
use Rattle.dm_model.specs.Effects.{after_ending}
use Rattle.dm_model.specs.Files.{File, file_at}
use Rattle.dm_model.specs.Guards.{AllHold, NoneHold, first_true}
use Rattle.dm_model.specs.Plan.{Plan, guards_always, if_accepted, prepared_plan, refusal_of}
use Rattle.dm_invariant.specs.Doubts.{MayLand}
use Rattle.dm_invariant.specs.Kept.{InvariantHolds}
use Rattle.dm_landing.proofs.CallDeletes.{hard_delete_lands, dropped_lands}
use Rattle.dm_landing.proofs.CallDumps.{dump_lands, undump_lands, restore_lands, age_lands}
use Rattle.dm_landing.proofs.CallFiles.{found, Lands}
use Rattle.dm_landing.proofs.CallPatches.{patch_lands}
use Rattle.dm_landing.proofs.CallPuts.{begin_put_lands, copy_stored_lands, end_put_lands, release_lands}
use Rattle.dm_landing.proofs.CallRecalls.{end_recall_lands}
use Rattle.dm_landing.proofs.CallWrites.{write_lands, remove_lands}

-- ---- refusals

-- none holds where there is no first one
none_hold : {X : Type 0} (ts : List (Bool × X)) → first_true ts ≡ None → NoneHold ts
none_hold [] e = tt
none_hold (t ∷ ts) e =
    elim t.0 as (λ b. cond b (Some t.1) (first_true ts) ≡ None → (b ≡ false) × NoneHold ts) [
      | true ↦ λ none. cc
      | false ↦ λ rest. (refl, none_hold ts rest)
    ] e

-- a payload, if there is one, is a record of the daemon that may land
abbrev pub PayloadLands : Joint → Option Payload → Type 0
PayloadLands j None = Unit {0}
PayloadLands j (Some (payload.Daemon r)) =
    MayLand j.daemon.tables j.daemon.requests j.history.contents j.daemon.cap j.sides r
PayloadLands j (Some (payload.Group g r)) = ⊥

lands_of : (j : Joint) (p : Plan) (refusal : Option Answer) → refusal_of p ≡ refusal → (NoneHold p.refusals → PayloadLands j p.payload)
    → PayloadLands j (if_accepted refusal None p.payload)
lands_of j p None is lands = lands (none_hold p.refusals is)
lands_of j p (Some a) is lands = tt

-- ---- all calls

module _ (j : Joint) (kept : InvariantHolds j) (w : ℕ) where
  -- what the call of this plan journals may land
  abbrev pub Journals : Plan → Type 0
  Journals p = PayloadLands (after_ending w p.ends j) (prepared_plan p).payload

  -- it does so where it does unless it is refused
  journals_by : (p : Plan) → (NoneHold p.refusals → PayloadLands (after_ending w p.ends j) p.payload) → Journals p
  journals_by p lands = lands_of (after_ending w p.ends j) p (refusal_of p) refl lands

  -- one that journals nothing does
  journals_nothing : (p : Plan) → p.payload ≡ None → Journals p
  journals_nothing p none = journals_by p (λ _. subst (PayloadLands (after_ending w p.ends j)) (sym none) tt)

  put_begins : (path : List ℕ) (asked : List (Option GroupId)) (now k : ℕ) (o : Option File) → file_at j.daemon path ≡ o
      → AllHold (guards_always (begin_put j.daemon path asked now k o) (begin_put_needs j.sides asked))
      → Journals (begin_put j.daemon path asked now k o)
  put_begins path asked now k None at legal = journals_nothing (begin_put j.daemon path asked now k None) refl
  put_begins path asked now k (Some f) at legal =
      journals_by (begin_put j.daemon path asked now k (Some f)) (begin_put_lands j kept path asked now k f (found j path f at) legal)

  copy_is_stored : (g : GroupId) (now k : ℕ) (o : Option OpenRequest) → map.get j.daemon.requests k ≡ o
      → AllHold (guards_always (copy_stored j.daemon g now o) (copy_stored_needs j.history g o))
      → Journals (copy_stored j.daemon g now o)
  copy_is_stored g now k None at legal = journals_nothing (copy_stored j.daemon g now None) refl
  copy_is_stored g now k (Some r) at legal = journals_by (copy_stored j.daemon g now (Some r)) (λ none. copy_stored_lands j kept g now k r at legal)

  put_ends : (k now : ℕ) (o : Option OpenRequest) → map.get j.daemon.requests k ≡ o
      → AllHold (guards_always (end_put j.daemon k now o) (end_put_needs j.sides o))
      → Journals (end_put j.daemon k now o)
  put_ends k now None at legal = journals_nothing (end_put j.daemon k now None) refl
  put_ends k now (Some r) at legal =
      let p = end_put j.daemon k now (Some r) in
      journals_by p (end_put_lands j kept (after_ending w p.ends j).sides k now r at legal)

  file_released : (path : List ℕ) (now : ℕ) (o : Option File) → file_at j.daemon path ≡ o
      → Journals (release j.daemon path now o)
  file_released path now None at = journals_nothing (release j.daemon path now None) refl
  file_released path now (Some f) at = journals_by (release j.daemon path now (Some f)) (release_lands j path now f (found j path f at))

  recall_begins_of : (k : ℕ) (f : File) (c : Contents) → Journals (begin_recall_of j.daemon k f c)
  recall_begins_of k f (Regular bytes) = journals_nothing (begin_recall_of j.daemon k f (Regular bytes)) refl
  recall_begins_of k f (Making bytes b) = journals_nothing (begin_recall_of j.daemon k f (Making bytes b)) refl
  recall_begins_of k f (Dual bytes b) = journals_nothing (begin_recall_of j.daemon k f (Dual bytes b)) refl
  recall_begins_of k f (Offline len b) = journals_nothing (begin_recall_of j.daemon k f (Offline len b)) refl

  recall_begins : (k : ℕ) (o : Option File) → Journals (begin_recall j.daemon k o)
  recall_begins k None = journals_nothing (begin_recall j.daemon k None) refl
  recall_begins k (Some f) = recall_begins_of k f f.inode.contents

  file_removed : (path : List ℕ) (now : ℕ) (o : Option File) → file_at j.daemon path ≡ o
      → Journals (remove j.daemon path now o)
  file_removed path now None at = journals_nothing (remove j.daemon path now None) refl
  file_removed path now (Some f) at = journals_by (remove j.daemon path now (Some f)) (remove_lands j path now f (found j path f at))

  file_patched : (path : List ℕ) (offset : ℕ) (bytes : List ℕ) (now : ℕ) (o : Option File) → file_at j.daemon path ≡ o
      → Journals (patch j.daemon path offset bytes now o)
  file_patched path offset bytes now None at = journals_nothing (patch j.daemon path offset bytes now None) refl
  file_patched path offset bytes now (Some f) at =
      journals_by (patch j.daemon path offset bytes now (Some f)) (patch_lands j kept path offset bytes now f at)

  file_restored_in : (name path target : List ℕ) (now : ℕ) (dump : Dump) (o : Option DumpInode) → map.get j.daemon.tables.dumps name ≡ Some dump
      → map.get dump.files path ≡ o → Journals (restore_file j.daemon name path target now dump o)
  file_restored_in name path target now dump None known has = journals_nothing (restore_file j.daemon name path target now dump None) refl
  file_restored_in name path target now dump (Some file) known has =
      journals_by (restore_file j.daemon name path target now dump (Some file)) (restore_lands j kept name path target now dump file known has)

  file_restored : (name path target : List ℕ) (now : ℕ) (o : Option Dump) → map.get j.daemon.tables.dumps name ≡ o
      → Journals (restore j.daemon name path target now o)
  file_restored name path target now None known = journals_nothing (restore j.daemon name path target now None) refl
  file_restored name path target now (Some dump) known = file_restored_in name path target now dump (map.get dump.files path) known refl

  hard_deleted_of : (now : ℕ) (bs : List Bfid) → taken_at j.daemon (time_at j.daemon now) ≡ bs
      → Journals (hard_delete_of j.daemon now bs)
  hard_deleted_of now [] is = journals_nothing (hard_delete_of j.daemon now []) refl
  hard_deleted_of now (b ∷ bs) is =
      journals_by (hard_delete_of j.daemon now (b ∷ bs)) (λ none.
      subst (λ taken. 0 < length taken → Lands j now (HardDelete taken)) is (hard_delete_lands j now) (omega arith))

  entry_dropped : (b : Bfid) (now : ℕ) (o : Option Entry) → map.get j.daemon.tables.entries b.0 ≡ o
      → AllHold (guards_always (dropped j.daemon b now o) (dropped_needs j.history b o))
      → Journals (dropped j.daemon b now o)
  entry_dropped b now None at legal = journals_nothing (dropped j.daemon b now None) refl
  entry_dropped b now (Some e) at legal = journals_by (dropped j.daemon b now (Some e)) (λ none. dropped_lands j kept b now e at legal)

  file_told : (path : List ℕ) (o : Option File) → Journals (attributes j.daemon path o)
  file_told path None = journals_nothing (attributes j.daemon path None) refl
  file_told path (Some f) = journals_nothing (attributes j.daemon path (Some f)) refl

  recall_ends_of : (k : ℕ) (bytes : List ℕ) (now : ℕ) (r : OpenRequest) (c : Contents) → map.get j.daemon.requests k ≡ Some r
      → contents_of (map.get j.daemon.tables.inodes r.ino.0) ≡ c
      → AllHold (guards_always (end_recall j.daemon k bytes now (Some r)) (end_recall_needs (map.get j.workers w) k bytes))
      → NoneHold (end_recall j.daemon k bytes now (Some r)).refusals
      → PayloadLands (after_ending w (ending.Recall k) j) (step_taken j.daemon now r.ino.0 bytes c)
  recall_ends_of k bytes now r (Regular old) at here legal none = tt
  recall_ends_of k bytes now r (Making old b) at here legal none = tt
  recall_ends_of k bytes now r (Dual old b) at here legal none = tt
  recall_ends_of k bytes now r (Offline len b) at here legal none =
      end_recall_lands j kept (map.remove j.daemon.requests k) j.sides w k bytes now r len b at here legal none

  recall_ends : (k : ℕ) (bytes : List ℕ) (now : ℕ) (o : Option OpenRequest) → map.get j.daemon.requests k ≡ o
      → AllHold (guards_always (end_recall j.daemon k bytes now o) (end_recall_needs (map.get j.workers w) k bytes))
      → Journals (end_recall j.daemon k bytes now o)
  recall_ends k bytes now None at legal = journals_nothing (end_recall j.daemon k bytes now None) refl
  recall_ends k bytes now (Some r) at legal =
      journals_by (end_recall j.daemon k bytes now (Some r))
      (recall_ends_of k bytes now r (contents_of (map.get j.daemon.tables.inodes r.ino.0)) at refl legal)

  recall_dropped : (k : ℕ) (o : Option OpenRequest) → Journals (drop_recall j.daemon k o)
  recall_dropped k None = journals_nothing (drop_recall j.daemon k None) refl
  recall_dropped k (Some r) = journals_nothing (drop_recall j.daemon k (Some r)) refl

  -- a call whose guards hold journals a record that may land, or nothing
  pub daemon_call_lands : (c : DaemonCall)
      → AllHold (guards_always (daemon_plan j.daemon c) (daemon_needs j.sides (map.get j.workers w) j.history j.daemon c))
      → Journals (daemon_plan j.daemon c)
  daemon_call_lands (call.BeginPut path asked now k) legal = put_begins path asked now.0 k (file_at j.daemon path) refl legal
  daemon_call_lands (call.CopyStored k group now) legal = copy_is_stored group now.0 k (map.get j.daemon.requests k) refl legal
  daemon_call_lands (call.EndPut k now) legal = put_ends k now.0 (map.get j.daemon.requests k) refl legal
  daemon_call_lands (call.Release path now) legal = file_released path now.0 (file_at j.daemon path) refl
  daemon_call_lands (call.BeginRecall path k) legal = recall_begins k (file_at j.daemon path)
  daemon_call_lands (call.EndRecall k bytes now) legal = recall_ends k bytes now.0 (map.get j.daemon.requests k) refl legal
  daemon_call_lands (call.DropRecall k) legal = recall_dropped k (map.get j.daemon.requests k)
  daemon_call_lands (call.Write path bytes now) legal =
      journals_by (daemon_plan j.daemon (call.Write path bytes now)) (write_lands j path bytes now.0 (file_at j.daemon path) refl)
  daemon_call_lands (call.Patch path offset bytes now) legal = file_patched path offset bytes now.0 (file_at j.daemon path) refl
  daemon_call_lands (call.Remove path now) legal = file_removed path now.0 (file_at j.daemon path) refl
  daemon_call_lands (call.MakeDump name now) legal =
      journals_by (daemon_plan j.daemon (call.MakeDump name now)) (dump_lands j name now.0)
  daemon_call_lands (call.Undump name now) legal =
      journals_by (daemon_plan j.daemon (call.Undump name now)) (undump_lands j name now.0)
  daemon_call_lands (call.Restore name path target now) legal = file_restored name path target now.0 (map.get j.daemon.tables.dumps name) refl
  daemon_call_lands (call.SetAge age now) legal = journals_by (daemon_plan j.daemon (call.SetAge age now)) (age_lands j age now.0)
  daemon_call_lands (call.HardDelete now) legal = hard_deleted_of now.0 (taken_at j.daemon (time_at j.daemon now.0)) refl
  daemon_call_lands (call.NextDropping after) legal = journals_nothing (daemon_plan j.daemon (call.NextDropping after)) refl
  daemon_call_lands (call.Dropped b now) legal = entry_dropped b now.0 (map.get j.daemon.tables.entries b.0) refl legal
  daemon_call_lands (call.Attributes path) legal = file_told path (file_at j.daemon path)
  daemon_call_lands call.List legal = journals_nothing (daemon_plan j.daemon call.List) refl
