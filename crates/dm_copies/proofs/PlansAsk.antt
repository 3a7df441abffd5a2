-- What each call of the daemon spends, journals and makes leaves the copies that are asked for.
use Rattle.std.proofs.Common.{◌≡◌, ◌<◌, ℕ, Bool, true, false, cond, Option, None, Some, List, [], ◌∷◌, length, refl, sym, ap, subst, ◌∙◌, arith, ltb-false}
use Rattle.std.specs.FinMap as map
use Rattle.dm_base.specs.Limits.{number_limit}
use Rattle.dm_base.specs.declared.identifier.Bfid.{Bfid}
use Rattle.dm_base.specs.declared.identifier.GroupId.{GroupId}
use Rattle.dm_durable.specs.declared.daemon.Contents.{Contents}
use Rattle.dm_durable.specs.declared.daemon.Contents.TheVariants.{Regular, Making, Dual, Offline}
use Rattle.dm_durable.specs.declared.daemon.Dump.{Dump}
use Rattle.dm_durable.specs.declared.daemon.DumpInode.{DumpInode}
use Rattle.dm_durable.specs.declared.daemon.Entry.{Entry}
use Rattle.dm_invariant.specs.Among.{IsAmong}
use Rattle.dm_invariant.specs.Doubts.{NoRequestOf}
use Rattle.dm_invariant.proofs.Options.{same_row}
use Rattle.dm_landing.proofs.CallDeletes.{hard_delete_lands}
use Rattle.dm_effects.proofs.RequestsEnded.{recall_no_put}
use Rattle.dm_model.specs.declared.call.DaemonCall.{DaemonCall}
use Rattle.dm_model.specs.declared.call.DaemonCall.TheVariants as daemon_call
use Rattle.dm_model.specs.declared.plan.Ending.TheVariants as ending
use Rattle.dm_model.specs.declared.state.Daemon.{Daemon}
use Rattle.dm_model.specs.declared.state.Joint.{Joint}
use Rattle.dm_model.specs.declared.state.OpenRequest.{OpenRequest}
use Rattle.dm_model.specs.DaemonCalls.{attributes, put_refusals, begin_put, begin_recall, begin_recall_of, copy_stored, daemon_plan, drop_recall, dropped}
use Rattle.dm_model.specs.DaemonCalls.{end_put, end_recall, hard_delete_of, patch, release, remove, restore, restore_file, step_taken, taken_at, time_at}
use Rattle.dm_model.specs.Files.{File, file_at}
use Rattle.dm_model.specs.Guards.{AllHold, NoneHold, first_true}
use Rattle.dm_model.specs.Plan.{Plan, refusal_of}
use Rattle.dm_copies.proofs.PartsAsk.{EndsSpare, PaysSpare}

-- ---- what a legal call spends and journals

-- what its own guards say of a plan, before its refusals are looked at
pub record Spares (d : Daemon) (p : Plan) : Type 0 where
  pub ends : EndsSpare d p.ends
  pub pays : refusal_of p ≡ None → PaysSpare d.tables d.requests p.payload

-- no refusal's test holds where there is no first one
pub none_hold : {X : Type 0} (ts : List (Bool × X)) → first_true ts ≡ None → NoneHold ts
none_hold [] e = tt
none_hold (t ∷ ts) e =
    elim t.0 as (λ b. cond b (Some t.1) (first_true ts) ≡ None → (b ≡ false) × NoneHold ts) [
      | true ↦ λ some. cc
      | false ↦ λ rest. (refl, none_hold ts rest)
    ] e

module _ (j : Joint) where
  abbrev d : Daemon
  d = j.daemon

  quiet : (p : Plan) → p.ends ≡ ending.Nothing → PaysSpare d.tables d.requests p.payload → Spares d p
  quiet p unspent pays = record { ends = subst (λ e. EndsSpare d e) (sym unspent) tt; pays = λ none. pays }

  put_begins : (path : List ℕ) (asked : List (Option GroupId)) (now k : ℕ) (o : Option File) → Spares d (begin_put d path asked now k o)
  put_begins path asked now k None = quiet (begin_put d path asked now k None) refl tt
  put_begins path asked now k (Some f) = record {
    ends = tt;
    pays = λ none. (refl, ltb-false number_limit d.tables.counter (none_hold (put_refusals d f) none).1.1.0);
  }

  copy_is_stored : (g : GroupId) (now : ℕ) (o : Option OpenRequest) → Spares d (copy_stored d g now o)
  copy_is_stored g now None = quiet (copy_stored d g now None) refl tt
  copy_is_stored g now (Some r) = quiet (copy_stored d g now (Some r)) refl tt

  put_ends : (k now : ℕ) (o : Option OpenRequest) → map.get d.requests k ≡ o → Spares d (end_put d k now o)
  put_ends k now None is = quiet (end_put d k now None) refl tt
  put_ends k now (Some r) is = record { ends = (r, is, refl, refl); pays = λ none. tt }

  file_released : (path : List ℕ) (now : ℕ) (o : Option File) → Spares d (release d path now o)
  file_released path now None = quiet (release d path now None) refl tt
  file_released path now (Some f) = quiet (release d path now (Some f)) refl tt

  recall_begins_of : (k : ℕ) (f : File) (c : Contents) → Spares d (begin_recall_of d k f c)
  recall_begins_of k f (Regular bytes) = quiet (begin_recall_of d k f (Regular bytes)) refl tt
  recall_begins_of k f (Making bytes b) = quiet (begin_recall_of d k f (Making bytes b)) refl tt
  recall_begins_of k f (Dual bytes b) = quiet (begin_recall_of d k f (Dual bytes b)) refl tt
  recall_begins_of k f (Offline len b) = quiet (begin_recall_of d k f (Offline len b)) refl tt

  recall_begins : (k : ℕ) (o : Option File) → Spares d (begin_recall d k o)
  recall_begins k None = quiet (begin_recall d k None) refl tt
  recall_begins k (Some f) = recall_begins_of k f f.inode.contents

  taken_pays : (now n : ℕ) (bytes : List ℕ) (c : Contents) → PaysSpare d.tables d.requests (step_taken d now n bytes c)
  taken_pays now n bytes (Regular old) = tt
  taken_pays now n bytes (Making old b) = tt
  taken_pays now n bytes (Dual old b) = tt
  taken_pays now n bytes (Offline len b) = tt

  recall_ends : (k : ℕ) (bytes : List ℕ) (now : ℕ) (o : Option OpenRequest) → map.get d.requests k ≡ o → AllHold (end_recall d k bytes now o).own
      → Spares d (end_recall d k bytes now o)
  recall_ends k bytes now None is hold = quiet (end_recall d k bytes now None) refl tt
  recall_ends k bytes now (Some r) is hold =
      record { ends = (r, is, recall_no_put r.kind hold.0); pays = λ none. taken_pays now r.ino.0 bytes _ }

  recall_dropped : (k : ℕ) (o : Option OpenRequest) → map.get d.requests k ≡ o → AllHold (drop_recall d k o).own → Spares d (drop_recall d k o)
  recall_dropped k None is hold = quiet (drop_recall d k None) refl tt
  recall_dropped k (Some r) is hold = record { ends = (r, is, recall_no_put r.kind hold.0); pays = λ none. tt }

  file_patched : (path : List ℕ) (offset : ℕ) (bytes : List ℕ) (now : ℕ) (o : Option File) → Spares d (patch d path offset bytes now o)
  file_patched path offset bytes now None = quiet (patch d path offset bytes now None) refl tt
  file_patched path offset bytes now (Some f) = quiet (patch d path offset bytes now (Some f)) refl tt

  file_removed : (path : List ℕ) (now : ℕ) (o : Option File) → Spares d (remove d path now o)
  file_removed path now None = quiet (remove d path now None) refl tt
  file_removed path now (Some f) = quiet (remove d path now (Some f)) refl tt

  file_restored_in : (name path target : List ℕ) (now : ℕ) (dump : Dump) (o : Option DumpInode) → Spares d (restore_file d name path target now dump o)
  file_restored_in name path target now dump None = quiet (restore_file d name path target now dump None) refl tt
  file_restored_in name path target now dump (Some f) = quiet (restore_file d name path target now dump (Some f)) refl tt

  file_restored : (name path target : List ℕ) (now : ℕ) (o : Option Dump) → Spares d (restore d name path target now o)
  file_restored name path target now None = quiet (restore d name path target now None) refl tt
  file_restored name path target now (Some dump) = file_restored_in name path target now dump (map.get dump.files path)

  -- what it takes has no open request
  hard_deleted : (now : ℕ) (bs : List Bfid) → (0 < length bs → (b : Bfid) → IsAmong b bs → NoRequestOf d.requests b.0) → Spares d (hard_delete_of d now bs)
  hard_deleted now [] free = quiet (hard_delete_of d now []) refl tt
  hard_deleted now (b ∷ bs) free = quiet (hard_delete_of d now (b ∷ bs)) refl (free (omega arith))

  entry_dropped : (b : Bfid) (now : ℕ) (o : Option Entry) → map.get d.tables.entries b.0 ≡ o → AllHold (dropped d b now o).own → Spares d (dropped d b now o)
  entry_dropped b now None is hold = quiet (dropped d b now None) refl tt
  entry_dropped b now (Some e) is hold =
      quiet (dropped d b now (Some e)) refl (λ f at. ap (λ (x : Entry). x.dropping) (same_row _ f e at is) ∙ hold.0)

  file_told : (path : List ℕ) (o : Option File) → Spares d (attributes d path o)
  file_told path None = quiet (attributes d path None) refl tt
  file_told path (Some f) = quiet (attributes d path (Some f)) refl tt

  pub spares_of : (c : DaemonCall) → AllHold (daemon_plan d c).own → Spares d (daemon_plan d c)
  spares_of (daemon_call.BeginPut path asked now k) hold = put_begins path asked now.0 k (file_at d path)
  spares_of (daemon_call.CopyStored k group now) hold = copy_is_stored group now.0 (map.get d.requests k)
  spares_of (daemon_call.EndPut k now) hold = put_ends k now.0 (map.get d.requests k) refl
  spares_of (daemon_call.Release path now) hold = file_released path now.0 (file_at d path)
  spares_of (daemon_call.BeginRecall path k) hold = recall_begins k (file_at d path)
  spares_of (daemon_call.EndRecall k bytes now) hold = recall_ends k bytes now.0 (map.get d.requests k) refl hold
  spares_of (daemon_call.DropRecall k) hold = recall_dropped k (map.get d.requests k) refl hold
  spares_of (daemon_call.Write path bytes now) hold = quiet (daemon_plan d (daemon_call.Write path bytes now)) refl tt
  spares_of (daemon_call.Patch path offset bytes now) hold = file_patched path offset bytes now.0 (file_at d path)
  spares_of (daemon_call.Remove path now) hold = file_removed path now.0 (file_at d path)
  spares_of (daemon_call.MakeDump name now) hold = quiet (daemon_plan d (daemon_call.MakeDump name now)) refl tt
  spares_of (daemon_call.Undump name now) hold = quiet (daemon_plan d (daemon_call.Undump name now)) refl tt
  spares_of (daemon_call.Restore name path target now) hold = file_restored name path target now.0 (map.get d.tables.dumps name)
  spares_of (daemon_call.SetAge age now) hold = quiet (daemon_plan d (daemon_call.SetAge age now)) refl tt
  spares_of (daemon_call.HardDelete now) hold =
      hard_deleted now.0 (taken_at d (time_at d now.0)) (λ some. (hard_delete_lands j now.0 some).needs)
  spares_of (daemon_call.NextDropping after) hold = quiet (daemon_plan d (daemon_call.NextDropping after)) refl tt
  spares_of (daemon_call.Dropped b now) hold = entry_dropped b now.0 (map.get d.tables.entries b.0) refl hold
  spares_of (daemon_call.Attributes path) hold = file_told path (file_at d path)
  spares_of daemon_call.List hold = quiet (daemon_plan d daemon_call.List) refl tt
