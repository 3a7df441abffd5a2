-- A legal call of the daemon keeps the invariant, where what it spends and what it makes do; so does its fault, and so
-- does a step in doubt that landed.
use Rattle.std.proofs.Common.{◌≡◌, ◌⊎◌, inl, inr, ℕ, Bool, true, false, cond, Option, Some, None, List, [], ◌∷◌, refl, sym, subst}
use Rattle.std.specs.FinMap as map
use Rattle.dm_base.specs.declared.identifier.Bfid.{Bfid}
use Rattle.dm_base.specs.declared.identifier.GroupId.{GroupId}
use Rattle.dm_durable.specs.declared.daemon.Contents.{Contents}
use Rattle.dm_durable.specs.declared.daemon.Contents.TheVariants.{Regular, Making, Dual, Offline}
use Rattle.dm_durable.specs.declared.daemon.DaemonRecord.{DaemonRecord}
use Rattle.dm_durable.specs.declared.daemon.Dump.{Dump}
use Rattle.dm_durable.specs.declared.daemon.DumpInode.{DumpInode}
use Rattle.dm_durable.specs.declared.daemon.Entry.{Entry}
use Rattle.dm_model.specs.declared.answer.Answer.{Answer}
use Rattle.dm_model.specs.declared.call.Component.{Component}
use Rattle.dm_model.specs.declared.call.Component.TheVariants as component
use Rattle.dm_model.specs.declared.call.DaemonCall.{DaemonCall}
use Rattle.dm_model.specs.declared.call.DaemonCall.TheVariants as call
use Rattle.dm_model.specs.declared.plan.Ending.{Ending}
use Rattle.dm_model.specs.declared.plan.Ending.TheVariants as ending
use Rattle.dm_model.specs.declared.plan.Mark.{Mark}
use Rattle.dm_model.specs.declared.plan.Mark.TheVariants as mark
use Rattle.dm_model.specs.declared.plan.Opening.{Opening}
use Rattle.dm_model.specs.declared.plan.Opening.TheVariants as opening
use Rattle.dm_model.specs.declared.plan.Payload.{Payload}
use Rattle.dm_model.specs.declared.plan.Payload.TheVariants as payload
use Rattle.dm_model.specs.declared.plan.Prepared.{Prepared}
use Rattle.dm_model.specs.declared.state.Daemon.{Daemon}
use Rattle.dm_model.specs.declared.state.Joint.{Joint}
use Rattle.dm_model.specs.declared.state.OpenRequest.{OpenRequest}
use Rattle.dm_model.specs.DaemonCalls.{attributes, begin_put, begin_recall, begin_recall_of, copy_stored, daemon_needs, daemon_plan, dropped, drop_recall}
use Rattle.dm_model.specs.DaemonCalls.{end_put, end_recall, hard_delete_of, patch, release, remove, restore, restore_file, taken_at, time_at}
use Rattle.dm_model.specs.Effects.{after_ending, after_failed_mark, after_healing, after_mark, after_opening, after_payload, joint_with_doubt}
use Rattle.dm_model.specs.Files.{File, file_at}
use Rattle.dm_model.specs.Guards.{AllHold}
use Rattle.dm_model.specs.Plan.{Plan, guards_always, if_accepted, prepared_plan, refusal_of}
use Rattle.dm_model.specs.Step.{after_call, after_fault}
use Rattle.dm_invariant.specs.Doubts.{MayLandIf}
use Rattle.dm_invariant.specs.Kept.{InvariantHolds}
use Rattle.dm_landing.proofs.CallsLanded.{PayloadLands, daemon_call_lands}
use Rattle.dm_landing.proofs.DaemonLanded.{daemon_record_landed}

-- ---- steps in doubt

-- a state with another step of the daemon in doubt, or none
abbrev pub with_daemon_doubt : Option DaemonRecord → Joint → Joint
with_daemon_doubt o j = record j { daemon = record j.daemon { doubt = o } }

-- it is kept where that step may land
pub doubt_keeps : (j : Joint) → InvariantHolds j → (o : Option DaemonRecord)
    → MayLandIf j.daemon.tables j.daemon.requests j.history.contents j.daemon.cap j.sides o → InvariantHolds (with_daemon_doubt o j)
doubt_keeps j kept o lands = record {
  files = kept.files;
  dumps = kept.dumps;
  taken = kept.taken;
  requests = kept.requests;
  recalls = kept.recalls;
  configured = kept.configured;
  sides = kept.sides;
  doubt = lands;
}

-- a step in doubt that landed did what it would have done
pub doubt_landed : (j : Joint) → InvariantHolds j → (r : DaemonRecord) → j.daemon.doubt ≡ Some r
    → InvariantHolds (after_payload (Some (payload.Daemon r)) (with_daemon_doubt None j))
doubt_landed j kept r is =
    let may = subst (MayLandIf j.daemon.tables j.daemon.requests j.history.contents j.daemon.cap j.sides) is kept.doubt in
    daemon_record_landed (with_daemon_doubt None j) r (doubt_keeps j kept None tt) may refl

-- ---- payloads

-- a payload that may land keeps the invariant once nothing is in doubt
payload_keeps : (j : Joint) → InvariantHolds j → (p : Option Payload) → PayloadLands j p → InvariantHolds (after_payload p (with_daemon_doubt None j))
payload_keeps j kept None lands = doubt_keeps j kept None tt
payload_keeps j kept (Some (payload.Daemon r)) lands = daemon_record_landed (with_daemon_doubt None j) r (doubt_keeps j kept None tt) lands refl
payload_keeps j kept (Some (payload.Group g r)) lands = absurd lands

-- and so it does in doubt
payload_doubted : (j : Joint) → InvariantHolds j → (far : Bool) (p : Option Payload) → PayloadLands j p → InvariantHolds (joint_with_doubt (cond far p None) j)
payload_doubted j kept false p lands = kept
payload_doubted j kept true None lands = kept
payload_doubted j kept true (Some (payload.Daemon r)) lands = doubt_keeps j kept (Some r) lands
payload_doubted j kept true (Some (payload.Group g r)) lands = absurd lands

-- ---- plans of the daemon

-- a plan is the daemon's, leaves no mark, and heals or journals nothing
pub record OfDaemon (c : Component) (heals : Bool) (p : Option Payload) (m : Mark) : Type 0 where
  pub daemon : c ≡ component.Daemon
  pub unmarked : m ≡ mark.Nothing
  pub healed : (heals ≡ true) ⊎ (p ≡ None)

abbrev pub PlanOfDaemon : Plan → Type 0
PlanOfDaemon p = OfDaemon p.component p.heals p.payload p.mark

healing : (p : Plan) → p.component ≡ component.Daemon → p.mark ≡ mark.Nothing → p.heals ≡ true → PlanOfDaemon p
healing p daemon unmarked heals = record { daemon = daemon; unmarked = unmarked; healed = inl heals }

silent : (p : Plan) → p.component ≡ component.Daemon → p.mark ≡ mark.Nothing → p.payload ≡ None → PlanOfDaemon p
silent p daemon unmarked none = record { daemon = daemon; unmarked = unmarked; healed = inr none }

-- with the tests of its refusals made it is one too
prepared_of : (p : Plan) → PlanOfDaemon p → (o : Option Answer)
    → OfDaemon p.component p.heals (if_accepted o None p.payload) (if_accepted o mark.Nothing p.mark)
prepared_of p of None = of
prepared_of p of (Some a) = record { daemon = of.daemon; unmarked = refl; healed = inr refl }

module _ (d : Daemon) where
  put_begins : (path : List ℕ) (asked : List (Option GroupId)) (now k : ℕ) (o : Option File) → PlanOfDaemon (begin_put d path asked now k o)
  put_begins path asked now k None = healing (begin_put d path asked now k None) refl refl refl
  put_begins path asked now k (Some f) = healing (begin_put d path asked now k (Some f)) refl refl refl

  copy_is_stored : (g : GroupId) (now : ℕ) (o : Option OpenRequest) → PlanOfDaemon (copy_stored d g now o)
  copy_is_stored g now None = healing (copy_stored d g now None) refl refl refl
  copy_is_stored g now (Some r) = healing (copy_stored d g now (Some r)) refl refl refl

  put_ends : (k now : ℕ) (o : Option OpenRequest) → PlanOfDaemon (end_put d k now o)
  put_ends k now None = healing (end_put d k now None) refl refl refl
  put_ends k now (Some r) = healing (end_put d k now (Some r)) refl refl refl

  file_released : (path : List ℕ) (now : ℕ) (o : Option File) → PlanOfDaemon (release d path now o)
  file_released path now None = healing (release d path now None) refl refl refl
  file_released path now (Some f) = healing (release d path now (Some f)) refl refl refl

  recall_begins_of : (k : ℕ) (f : File) (c : Contents) → PlanOfDaemon (begin_recall_of d k f c)
  recall_begins_of k f (Regular bytes) = healing (begin_recall_of d k f (Regular bytes)) refl refl refl
  recall_begins_of k f (Making bytes b) = healing (begin_recall_of d k f (Making bytes b)) refl refl refl
  recall_begins_of k f (Dual bytes b) = healing (begin_recall_of d k f (Dual bytes b)) refl refl refl
  recall_begins_of k f (Offline len b) = healing (begin_recall_of d k f (Offline len b)) refl refl refl

  recall_begins : (k : ℕ) (o : Option File) → PlanOfDaemon (begin_recall d k o)
  recall_begins k None = healing (begin_recall d k None) refl refl refl
  recall_begins k (Some f) = recall_begins_of k f f.inode.contents

  recall_ends : (k : ℕ) (bytes : List ℕ) (now : ℕ) (o : Option OpenRequest) → PlanOfDaemon (end_recall d k bytes now o)
  recall_ends k bytes now None = healing (end_recall d k bytes now None) refl refl refl
  recall_ends k bytes now (Some r) = healing (end_recall d k bytes now (Some r)) refl refl refl

  recall_dropped : (k : ℕ) (o : Option OpenRequest) → PlanOfDaemon (drop_recall d k o)
  recall_dropped k None = silent (drop_recall d k None) refl refl refl
  recall_dropped k (Some r) = silent (drop_recall d k (Some r)) refl refl refl

  file_patched : (path : List ℕ) (offset : ℕ) (bytes : List ℕ) (now : ℕ) (o : Option File) → PlanOfDaemon (patch d path offset bytes now o)
  file_patched path offset bytes now None = healing (patch d path offset bytes now None) refl refl refl
  file_patched path offset bytes now (Some f) = healing (patch d path offset bytes now (Some f)) refl refl refl

  file_removed : (path : List ℕ) (now : ℕ) (o : Option File) → PlanOfDaemon (remove d path now o)
  file_removed path now None = healing (remove d path now None) refl refl refl
  file_removed path now (Some f) = healing (remove d path now (Some f)) refl refl refl

  file_restored_in : (name path target : List ℕ) (now : ℕ) (dump : Dump) (o : Option DumpInode)
      → PlanOfDaemon (restore_file d name path target now dump o)
  file_restored_in name path target now dump None = healing (restore_file d name path target now dump None) refl refl refl
  file_restored_in name path target now dump (Some f) = healing (restore_file d name path target now dump (Some f)) refl refl refl

  file_restored : (name path target : List ℕ) (now : ℕ) (o : Option Dump) → PlanOfDaemon (restore d name path target now o)
  file_restored name path target now None = healing (restore d name path target now None) refl refl refl
  file_restored name path target now (Some dump) = file_restored_in name path target now dump (map.get dump.files path)

  hard_deleted : (now : ℕ) (bs : List Bfid) → PlanOfDaemon (hard_delete_of d now bs)
  hard_deleted now [] = healing (hard_delete_of d now []) refl refl refl
  hard_deleted now (b ∷ bs) = healing (hard_delete_of d now (b ∷ bs)) refl refl refl

  entry_dropped : (b : Bfid) (now : ℕ) (o : Option Entry) → PlanOfDaemon (dropped d b now o)
  entry_dropped b now None = healing (dropped d b now None) refl refl refl
  entry_dropped b now (Some e) = healing (dropped d b now (Some e)) refl refl refl

  file_told : (path : List ℕ) (o : Option File) → PlanOfDaemon (attributes d path o)
  file_told path None = healing (attributes d path None) refl refl refl
  file_told path (Some f) = healing (attributes d path (Some f)) refl refl refl

  -- each call's plan is one
  plan_of_daemon : (c : DaemonCall) → PlanOfDaemon (daemon_plan d c)
  plan_of_daemon (call.BeginPut path asked now k) = put_begins path asked now.0 k (file_at d path)
  plan_of_daemon (call.CopyStored k group now) = copy_is_stored group now.0 (map.get d.requests k)
  plan_of_daemon (call.EndPut k now) = put_ends k now.0 (map.get d.requests k)
  plan_of_daemon (call.Release path now) = file_released path now.0 (file_at d path)
  plan_of_daemon (call.BeginRecall path k) = recall_begins k (file_at d path)
  plan_of_daemon (call.EndRecall k bytes now) = recall_ends k bytes now.0 (map.get d.requests k)
  plan_of_daemon (call.DropRecall k) = recall_dropped k (map.get d.requests k)
  plan_of_daemon (call.Write path bytes now) = healing (daemon_plan d (call.Write path bytes now)) refl refl refl
  plan_of_daemon (call.Patch path offset bytes now) = file_patched path offset bytes now.0 (file_at d path)
  plan_of_daemon (call.Remove path now) = file_removed path now.0 (file_at d path)
  plan_of_daemon (call.MakeDump name now) = healing (daemon_plan d (call.MakeDump name now)) refl refl refl
  plan_of_daemon (call.Undump name now) = healing (daemon_plan d (call.Undump name now)) refl refl refl
  plan_of_daemon (call.Restore name path target now) = file_restored name path target now.0 (map.get d.tables.dumps name)
  plan_of_daemon (call.SetAge age now) = healing (daemon_plan d (call.SetAge age now)) refl refl refl
  plan_of_daemon (call.HardDelete now) = hard_deleted now.0 (taken_at d (time_at d now.0))
  plan_of_daemon (call.NextDropping after) = silent (daemon_plan d (call.NextDropping after)) refl refl refl
  plan_of_daemon (call.Dropped b now) = entry_dropped b now.0 (map.get d.tables.entries b.0)
  plan_of_daemon (call.Attributes path) = file_told path (file_at d path)
  plan_of_daemon call.List = healing (daemon_plan d call.List) refl refl refl

-- ---- calls

-- what a call leaves before it makes anything
abbrev pub served : ℕ → Prepared → Joint → Joint
served w q j = after_mark w q.mark (after_payload q.payload (after_healing q.heals q.component (after_ending w q.ends j)))

healed_keeps : (j : Joint) → InvariantHolds j → (heals : Bool) → InvariantHolds (after_healing heals component.Daemon j)
healed_keeps j kept true = doubt_keeps j kept None tt
healed_keeps j kept false = kept

paid_keeps : (j : Joint) → InvariantHolds j → (heals : Bool) (p : Option Payload) → ((heals ≡ true) ⊎ (p ≡ None)) → PayloadLands j p
    → InvariantHolds (after_payload p (after_healing heals component.Daemon j))
paid_keeps j kept heals p (inl e) lands =
    subst (λ h. InvariantHolds (after_payload p (after_healing h component.Daemon j))) (sym e) (payload_keeps j kept p lands)
paid_keeps j kept heals p (inr e) lands =
    subst (λ q. InvariantHolds (after_payload q (after_healing heals component.Daemon j))) (sym e) (healed_keeps j kept heals)

served_keeps : (j : Joint) (w : ℕ) (q : Prepared) → OfDaemon q.component q.heals q.payload q.mark → InvariantHolds (after_ending w q.ends j)
    → PayloadLands (after_ending w q.ends j) q.payload → InvariantHolds (served w q j)
served_keeps j w q of kept lands =
    let ended = after_ending w q.ends j in
    let paid = subst (λ c. InvariantHolds (after_payload q.payload (after_healing q.heals c ended))) (sym of.daemon)
    (paid_keeps ended kept q.heals q.payload of.healed lands) in
    subst (λ m. InvariantHolds (after_mark w m (after_payload q.payload (after_healing q.heals q.component ended)))) (sym of.unmarked) paid

faulted_keeps : (j : Joint) (w : ℕ) (q : Prepared) (far : Bool) → OfDaemon q.component q.heals q.payload q.mark → InvariantHolds (after_ending w q.ends j)
    → PayloadLands (after_ending w q.ends j) q.payload → InvariantHolds (after_fault w q far j)
faulted_keeps j w q far of kept lands =
    let ended = after_ending w q.ends j in
    subst (λ m. InvariantHolds (joint_with_doubt (cond far q.payload None) (after_failed_mark m ended))) (sym of.unmarked)
    (payload_doubted ended kept far q.payload lands)

module _ (j : Joint) (kept : InvariantHolds j) (w : ℕ) (c : DaemonCall)
    (legal : AllHold (guards_always (daemon_plan j.daemon c) (daemon_needs j.sides (map.get j.workers w) j.history j.daemon c)))
    (ended : InvariantHolds (after_ending w (daemon_plan j.daemon c).ends j)) where
  abbrev p : Plan
  p = daemon_plan j.daemon c

  -- a legal call keeps the invariant until it makes something
  pub daemon_call_served : InvariantHolds (served w (prepared_plan p) j)
  daemon_call_served = served_keeps j w (prepared_plan p) (prepared_of p (plan_of_daemon j.daemon c) (refusal_of p)) ended (daemon_call_lands j kept w c legal)

  -- and so does one that fails
  pub daemon_fault_keeps : (far : Bool) → InvariantHolds (after_fault w (prepared_plan p) far j)
  daemon_fault_keeps far = faulted_keeps j w (prepared_plan p) far (prepared_of p (plan_of_daemon j.daemon c) (refusal_of p)) ended (daemon_call_lands j kept w c legal)

-- a call that opens nothing keeps it
pub opens_nothing : (w : ℕ) (o : Option Answer) (x : Opening) (j : Joint) → x ≡ opening.Nothing → InvariantHolds j → InvariantHolds (after_opening w (if_accepted o opening.Nothing x) j)
opens_nothing w None x j none kept = subst (λ y. InvariantHolds (after_opening w y j)) (sym none) kept
opens_nothing w (Some a) x j none kept = kept

-- a legal call that spends and makes nothing keeps the invariant, answered or failed
pub daemon_call_keeps : (j : Joint) → InvariantHolds j → (w : ℕ) (c : DaemonCall)
    → AllHold (guards_always (daemon_plan j.daemon c) (daemon_needs j.sides (map.get j.workers w) j.history j.daemon c))
    → (daemon_plan j.daemon c).ends ≡ ending.Nothing → (daemon_plan j.daemon c).opens ≡ opening.Nothing
    → InvariantHolds (after_call w (prepared_plan (daemon_plan j.daemon c)) j)
daemon_call_keeps j kept w c legal unspent unmade =
    let p = daemon_plan j.daemon c in
    let ended = subst (λ e. InvariantHolds (after_ending w e j)) (sym unspent) kept in
    opens_nothing w (refusal_of p) p.opens (served w (prepared_plan p) j) unmade (daemon_call_served j kept w c legal ended)
