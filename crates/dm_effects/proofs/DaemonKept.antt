-- Every legal call of the daemon keeps the invariant, answered or failed.
use Rattle.std.proofs.Common.{◌≡◌, ℕ, Bool, Option, Some, None, List, [], ◌∷◌, refl, sym, subst}
use Rattle.std.specs.FinMap as map
use Rattle.dm_base.specs.declared.identifier.Bfid.{Bfid}
use Rattle.dm_base.specs.declared.identifier.GroupId.{GroupId}
use Rattle.dm_durable.specs.declared.daemon.Dump.{Dump}
use Rattle.dm_durable.specs.declared.daemon.DumpInode.{DumpInode}
use Rattle.dm_durable.specs.declared.daemon.Entry.{Entry}
use Rattle.dm_model.specs.declared.call.DaemonCall.{DaemonCall}
use Rattle.dm_model.specs.declared.call.DaemonCall.TheVariants as call
use Rattle.dm_model.specs.declared.plan.Ending.TheVariants as ending
use Rattle.dm_model.specs.declared.plan.Opening.TheVariants as opening
use Rattle.dm_model.specs.declared.state.Daemon.{Daemon}
use Rattle.dm_model.specs.declared.state.Joint.{Joint}
use Rattle.dm_model.specs.declared.state.OpenRequest.{OpenRequest}
use Rattle.dm_model.specs.DaemonCalls.{attributes, copy_stored, daemon_needs, daemon_plan, dropped, hard_delete_of, patch, release, remove, restore, restore_file, taken_at, time_at}
use Rattle.dm_model.specs.Effects.{after_ending}
use Rattle.dm_model.specs.Files.{File, file_at}
use Rattle.dm_model.specs.Guards.{AllHold}
use Rattle.dm_model.specs.Plan.{Plan, guards_always, guards_of, prepared_plan, refusal_of}
use Rattle.dm_model.specs.Step.{after_call, after_fault}
use Rattle.dm_invariant.specs.Kept.{InvariantHolds}
use Rattle.dm_effects.proofs.BeginningCalls.{always_hold, begin_put_keeps, begin_recall_keeps, put_unspent, recall_unspent}
use Rattle.dm_effects.proofs.DaemonCalls.{daemon_call_keeps, daemon_fault_keeps}
use Rattle.dm_effects.proofs.PutCalls.{end_put_keeps, end_ended as put_end_ended}
use Rattle.dm_effects.proofs.RecallCalls.{end_recall_keeps, drop_recall_keeps, end_ended as recall_end_ended, drop_ended}

-- ---- calls that spend and make nothing

record SpendsNothing (p : Plan) : Type 0 where
  pub unspent : p.ends ≡ ending.Nothing
  pub unmade : p.opens ≡ opening.Nothing

module _ (d : Daemon) where
  none : (p : Plan) → p.ends ≡ ending.Nothing → p.opens ≡ opening.Nothing → SpendsNothing p
  none p unspent unmade = record { unspent = unspent; unmade = unmade }

  copy_is_stored : (g : GroupId) (now : ℕ) (o : Option OpenRequest) → SpendsNothing (copy_stored d g now o)
  copy_is_stored g now None = none (copy_stored d g now None) refl refl
  copy_is_stored g now (Some r) = none (copy_stored d g now (Some r)) refl refl

  file_released : (path : List ℕ) (now : ℕ) (o : Option File) → SpendsNothing (release d path now o)
  file_released path now None = none (release d path now None) refl refl
  file_released path now (Some f) = none (release d path now (Some f)) refl refl

  file_patched : (path : List ℕ) (offset : ℕ) (bytes : List ℕ) (now : ℕ) (o : Option File) → SpendsNothing (patch d path offset bytes now o)
  file_patched path offset bytes now None = none (patch d path offset bytes now None) refl refl
  file_patched path offset bytes now (Some f) = none (patch d path offset bytes now (Some f)) refl refl

  file_removed : (path : List ℕ) (now : ℕ) (o : Option File) → SpendsNothing (remove d path now o)
  file_removed path now None = none (remove d path now None) refl refl
  file_removed path now (Some f) = none (remove d path now (Some f)) refl refl

  file_restored_in : (name path target : List ℕ) (now : ℕ) (dump : Dump) (o : Option DumpInode)
      → SpendsNothing (restore_file d name path target now dump o)
  file_restored_in name path target now dump None = none (restore_file d name path target now dump None) refl refl
  file_restored_in name path target now dump (Some f) = none (restore_file d name path target now dump (Some f)) refl refl

  file_restored : (name path target : List ℕ) (now : ℕ) (o : Option Dump) → SpendsNothing (restore d name path target now o)
  file_restored name path target now None = none (restore d name path target now None) refl refl
  file_restored name path target now (Some dump) = file_restored_in name path target now dump (map.get dump.files path)

  hard_deleted : (now : ℕ) (bs : List Bfid) → SpendsNothing (hard_delete_of d now bs)
  hard_deleted now [] = none (hard_delete_of d now []) refl refl
  hard_deleted now (b ∷ bs) = none (hard_delete_of d now (b ∷ bs)) refl refl

  entry_dropped : (b : Bfid) (now : ℕ) (o : Option Entry) → SpendsNothing (dropped d b now o)
  entry_dropped b now None = none (dropped d b now None) refl refl
  entry_dropped b now (Some e) = none (dropped d b now (Some e)) refl refl

  file_told : (path : List ℕ) (o : Option File) → SpendsNothing (attributes d path o)
  file_told path None = none (attributes d path None) refl refl
  file_told path (Some f) = none (attributes d path (Some f)) refl refl

-- ---- all calls

module _ (j : Joint) (kept : InvariantHolds j) (w : ℕ) where
  abbrev IsLegal : DaemonCall → Type 0
  IsLegal c =
      let p = daemon_plan j.daemon c in
      AllHold (guards_of (refusal_of p) p (daemon_needs j.sides (map.get j.workers w) j.history j.daemon c))

  abbrev IsLegalFault : DaemonCall → Type 0
  IsLegalFault c = AllHold (guards_always (daemon_plan j.daemon c) (daemon_needs j.sides (map.get j.workers w) j.history j.daemon c))

  always : (c : DaemonCall) → IsLegal c → IsLegalFault c
  always c legal =
      let p = daemon_plan j.daemon c in
      always_hold p (daemon_needs j.sides (map.get j.workers w) j.history j.daemon c) (refusal_of p) legal

  plainly : (c : DaemonCall) → IsLegal c → SpendsNothing (daemon_plan j.daemon c) → InvariantHolds (after_call w (prepared_plan (daemon_plan j.daemon c)) j)
  plainly c legal quiet = daemon_call_keeps j kept w c (always c legal) quiet.unspent quiet.unmade

  -- a call of the daemon whose guards hold keeps the invariant
  pub daemon_kept : (c : DaemonCall) → IsLegal c → InvariantHolds (after_call w (prepared_plan (daemon_plan j.daemon c)) j)
  daemon_kept (call.BeginPut path asked now k) legal = begin_put_keeps j kept w path asked now k legal
  daemon_kept (call.CopyStored k group now) legal = plainly (call.CopyStored k group now) legal (copy_is_stored j.daemon group now.0 (map.get j.daemon.requests k))
  daemon_kept (call.EndPut k now) legal = end_put_keeps j kept w k now (always (call.EndPut k now) legal)
  daemon_kept (call.Release path now) legal = plainly (call.Release path now) legal (file_released j.daemon path now.0 (file_at j.daemon path))
  daemon_kept (call.BeginRecall path k) legal = begin_recall_keeps j kept w path k legal
  daemon_kept (call.EndRecall k bytes now) legal = end_recall_keeps j kept w k bytes now (always (call.EndRecall k bytes now) legal)
  daemon_kept (call.DropRecall k) legal = drop_recall_keeps j kept w k (always (call.DropRecall k) legal)
  daemon_kept (call.Write path bytes now) legal = plainly (call.Write path bytes now) legal (none j.daemon (daemon_plan j.daemon (call.Write path bytes now)) refl refl)
  daemon_kept (call.Patch path offset bytes now) legal =
      plainly (call.Patch path offset bytes now) legal (file_patched j.daemon path offset bytes now.0 (file_at j.daemon path))
  daemon_kept (call.Remove path now) legal = plainly (call.Remove path now) legal (file_removed j.daemon path now.0 (file_at j.daemon path))
  daemon_kept (call.MakeDump name now) legal = plainly (call.MakeDump name now) legal (none j.daemon (daemon_plan j.daemon (call.MakeDump name now)) refl refl)
  daemon_kept (call.Undump name now) legal = plainly (call.Undump name now) legal (none j.daemon (daemon_plan j.daemon (call.Undump name now)) refl refl)
  daemon_kept (call.Restore name path target now) legal =
      plainly (call.Restore name path target now) legal (file_restored j.daemon name path target now.0 (map.get j.daemon.tables.dumps name))
  daemon_kept (call.SetAge age now) legal = plainly (call.SetAge age now) legal (none j.daemon (daemon_plan j.daemon (call.SetAge age now)) refl refl)
  daemon_kept (call.HardDelete now) legal = plainly (call.HardDelete now) legal (hard_deleted j.daemon now.0 (taken_at j.daemon (time_at j.daemon now.0)))
  daemon_kept (call.NextDropping after) legal = plainly (call.NextDropping after) legal (none j.daemon (daemon_plan j.daemon (call.NextDropping after)) refl refl)
  daemon_kept (call.Dropped b now) legal = plainly (call.Dropped b now) legal (entry_dropped j.daemon b now.0 (map.get j.daemon.tables.entries b.0))
  daemon_kept (call.Attributes path) legal = plainly (call.Attributes path) legal (file_told j.daemon path (file_at j.daemon path))
  daemon_kept call.List legal = plainly call.List legal (none j.daemon (daemon_plan j.daemon call.List) refl refl)

  spent_nothing : (c : DaemonCall) → SpendsNothing (daemon_plan j.daemon c) → InvariantHolds (after_ending w (daemon_plan j.daemon c).ends j)
  spent_nothing c quiet = subst (λ e. InvariantHolds (after_ending w e j)) (sym quiet.unspent) kept

  -- what a legal call spends keeps it
  pub daemon_ended : (c : DaemonCall) → IsLegalFault c → InvariantHolds (after_ending w (daemon_plan j.daemon c).ends j)
  daemon_ended (call.BeginPut path asked now k) legal = put_unspent j kept w path asked now.0 k (file_at j.daemon path)
  daemon_ended (call.CopyStored k group now) legal = spent_nothing (call.CopyStored k group now) (copy_is_stored j.daemon group now.0 (map.get j.daemon.requests k))
  daemon_ended (call.EndPut k now) legal = put_end_ended j kept w k now.0 (map.get j.daemon.requests k) refl legal
  daemon_ended (call.Release path now) legal = spent_nothing (call.Release path now) (file_released j.daemon path now.0 (file_at j.daemon path))
  daemon_ended (call.BeginRecall path k) legal = recall_unspent j kept w k (file_at j.daemon path)
  daemon_ended (call.EndRecall k bytes now) legal = recall_end_ended j kept w k bytes now.0 (map.get j.daemon.requests k) refl legal
  daemon_ended (call.DropRecall k) legal = drop_ended j kept w k (map.get j.daemon.requests k) refl legal
  daemon_ended (call.Write path bytes now) legal = kept
  daemon_ended (call.Patch path offset bytes now) legal =
      spent_nothing (call.Patch path offset bytes now) (file_patched j.daemon path offset bytes now.0 (file_at j.daemon path))
  daemon_ended (call.Remove path now) legal = spent_nothing (call.Remove path now) (file_removed j.daemon path now.0 (file_at j.daemon path))
  daemon_ended (call.MakeDump name now) legal = kept
  daemon_ended (call.Undump name now) legal = kept
  daemon_ended (call.Restore name path target now) legal =
      spent_nothing (call.Restore name path target now) (file_restored j.daemon name path target now.0 (map.get j.daemon.tables.dumps name))
  daemon_ended (call.SetAge age now) legal = kept
  daemon_ended (call.HardDelete now) legal = spent_nothing (call.HardDelete now) (hard_deleted j.daemon now.0 (taken_at j.daemon (time_at j.daemon now.0)))
  daemon_ended (call.NextDropping after) legal = kept
  daemon_ended (call.Dropped b now) legal = spent_nothing (call.Dropped b now) (entry_dropped j.daemon b now.0 (map.get j.daemon.tables.entries b.0))
  daemon_ended (call.Attributes path) legal = spent_nothing (call.Attributes path) (file_told j.daemon path (file_at j.daemon path))
  daemon_ended call.List legal = kept

  -- and one that fails keeps it, with its step in doubt or not
  pub daemon_fault_kept : (c : DaemonCall) → IsLegalFault c → (far : Bool) → InvariantHolds (after_fault w (prepared_plan (daemon_plan j.daemon c)) far j)
  daemon_fault_kept c legal = daemon_fault_keeps j kept w c legal (daemon_ended c legal)
