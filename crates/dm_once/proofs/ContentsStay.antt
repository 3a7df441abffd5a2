-- The content of a bitfile is its content ever after.
use Rattle.std.proofs.Common.{◌≡◌, ◌≢◌, ℕ, Bool, ◌&&◌, Option, None, Some, List, [], ◌∷◌, option_map, refl, sym, ap, subst, ◌∙◌}
use Rattle.std.specs.FinMap as map
use Rattle.dm_base.specs.declared.identifier.GroupId.{GroupId}
use Rattle.dm_tables.proofs.Orders.{numbers}
use Rattle.dm_tables.proofs.Rows.{get-beside}
use Rattle.dm_durable.specs.declared.daemon.DaemonRecord.{DaemonRecord}
use Rattle.dm_durable.specs.declared.daemon.DaemonStep.{DaemonStep}
use Rattle.dm_durable.specs.declared.daemon.DaemonStep.TheVariants.{Write, Remove, BeginPut, Stored, EndPut, Release, Taken, Dump, Undump, Restore, HardDelete, Dropped, Restart, Age}
use Rattle.dm_durable.specs.declared.daemon.DaemonTables.{DaemonTables}
use Rattle.dm_durable.specs.declared.group.GroupRecord.{GroupRecord}
use Rattle.dm_durable.specs.Inodes.{bytes_online}
use Rattle.dm_durable.specs.DaemonConditions.{MayStep}
use Rattle.dm_durable.specs.Tables.{ByNumber}
use Rattle.dm_model.specs.declared.answer.Answer.{Answer}
use Rattle.dm_model.specs.declared.call.Call.{Call}
use Rattle.dm_model.specs.declared.call.Call.TheVariants as call
use Rattle.dm_model.specs.declared.call.Component.TheVariants as component
use Rattle.dm_model.specs.declared.call.DaemonCall.{DaemonCall}
use Rattle.dm_model.specs.declared.call.Event.{Event}
use Rattle.dm_model.specs.declared.call.Event.TheVariants as event
use Rattle.dm_model.specs.declared.plan.Payload.{Payload}
use Rattle.dm_model.specs.declared.plan.Payload.TheVariants as payload
use Rattle.dm_model.specs.declared.state.Joint.{Joint}
use Rattle.dm_model.specs.declared.state.Side.{Side}
use Rattle.dm_model.specs.DaemonCalls.{daemon_needs, daemon_plan}
use Rattle.dm_model.specs.Effects.{after_ending, contents_with}
use Rattle.dm_model.specs.Files.{File, file_named}
use Rattle.dm_model.specs.Plan.{Plan, Needs, guards_of, illegal_call, illegal_fault, prepared_plan, refusal_of}
use Rattle.dm_model.specs.Step.{RunEntry, Run, Stepped, after_call, after_fault, after_landing, after_stop, doubt_outcome, landing_outcome_in, needs_of, outcome_of, plan_of, step}
use Rattle.dm_model.proofs.Shares.{PaysOf}
use Rattle.dm_invariant.specs.Doubts.{MayLandIf}
use Rattle.dm_invariant.specs.Files.{FilesKept}
use Rattle.dm_invariant.specs.Kept.{InvariantHolds}
use Rattle.dm_landing.proofs.CallsLanded.{PayloadLands, daemon_call_lands}
use Rattle.dm_landing.proofs.NamedRows.{next_not_given}
use Rattle.dm_effects.proofs.BeginningCalls.{always_hold}
use Rattle.dm_shown.specs.Along.{KeptAlong}
use Rattle.dm_shown.proofs.RunsShown.{along_rest}
use Rattle.dm_shown.proofs.EventsShown.{all_hold, landed_is, look_is, outcome_is, payload_is, side_pays, volume_pays}
use Rattle.dm_shown.proofs.PlansShown.{Follows, Shown, called_files, failed_files, files_of, files_paid, follows, group_paid, landed_files, still_follows}
use Rattle.dm_shown.proofs.RecordsShown.{contents_after}

-- ---- a record

-- a new content is of no bitfile that had one
content_beside : (contents : ByNumber (List ℕ)) (b d : ℕ) (o : Option File) (bytes : List ℕ) → d ≢ b → map.get contents d ≡ Some bytes
    → map.get (contents_with b o contents) d ≡ Some bytes
content_beside contents b d None bytes differ is = is
content_beside contents b d (Some f) bytes differ is = get-beside numbers contents b (bytes_online f.inode.contents) d differ ∙ is

module _ (t : DaemonTables) (contents : ByNumber (List ℕ)) (cap now : ℕ) (kept : FilesKept t contents cap) (d : ℕ) (bytes : List ℕ)
    (is : map.get contents d ≡ Some bytes) where
  step_stays : (s : DaemonStep) → MayStep t now s → map.get (contents_after t contents s) d ≡ Some bytes
  step_stays (BeginPut path b groups) may =
      content_beside contents b.0 d (file_named t.inodes (map.get t.names path)) bytes
      (λ same. next_not_given t.site t.counter d (same ∙ may.next) (kept.contents_given d bytes is)) is
  step_stays (Write path change own) may = is
  step_stays (Remove path change) may = is
  step_stays (Stored b g) may = is
  step_stays (EndPut n b dual) may = is
  step_stays (Release path) may = is
  step_stays (Taken n own) may = is
  step_stays (Dump name) may = is
  step_stays (Undump name) may = is
  step_stays (Restore name path target change) may = is
  step_stays (HardDelete bfids) may = is
  step_stays (Dropped b) may = is
  step_stays Restart may = is
  step_stays (Age age) may = is

-- ---- an event

record_is : (q r : DaemonRecord) → Some (payload.Daemon q) ≡ Some (payload.Daemon r) → q ≡ r
record_is q r is = cc

module _ (j : Joint) (w : ℕ) (kept : InvariantHolds j) (d : ℕ) (bytes : List ℕ) (is : map.get j.history.contents d ≡ Some bytes) where
  -- the bitfile has this content
  abbrev Has : Shown → Type 0
  Has files = map.get files.1 d ≡ Some bytes

  paid_has : (o : Option Payload) → ((r : DaemonRecord) → o ≡ Some (payload.Daemon r) → Follows (files_of j) r) → Has (files_paid o (files_of j))
  paid_has None follow = is
  paid_has (Some (payload.Daemon r)) follow =
      step_stays j.daemon.tables j.history.contents j.daemon.cap r.time.0 kept.files d bytes is r.step (follow r refl).may.step
  paid_has (Some (payload.Group g r)) follow = is

  lands_follows : (e : Joint) (o : Option Payload) → ((r : DaemonRecord) → Follows (files_of e) r → Follows (files_of j) r) → PayloadLands e o
      → (r : DaemonRecord) → o ≡ Some (payload.Daemon r) → Follows (files_of j) r
  lands_follows e None back lands r at = absurd (cc)
  lands_follows e (Some (payload.Group g q)) back lands r at = absurd lands
  lands_follows e (Some (payload.Daemon q)) back lands r at = subst (λ x. Follows (files_of j) x) (record_is q r at) (back q (follows e q lands))

  called_has : (c : DaemonCall) (k : Joint) (x : Answer) → step j w (event.Call (call.Daemon c)) ≡ Stepped k x → Has (files_of k)
  called_has c k x at =
      let p = daemon_plan j.daemon c in
      let n = daemon_needs j.sides (map.get j.workers w) j.history j.daemon c in
      let o = outcome_is (illegal_call p n) (after_call w (prepared_plan p) j) k (prepared_plan p).answer x at in
      let legal = always_hold p n (refusal_of p) (all_hold (guards_of (refusal_of p) p n) o.0) in
      let lands = daemon_call_lands j kept w c legal in
      subst (λ i. Has (files_of i)) o.1
      (subst Has (sym (called_files w j (prepared_plan p)))
      (paid_has (prepared_plan p).payload
      (lands_follows (after_ending w p.ends j) (prepared_plan p).payload (still_follows w j p.ends) lands)))

  other_has : (g : GroupId) (p : Plan) (n : Needs) (k : Joint) (x : Answer) → PaysOf g (prepared_plan p).payload
      → outcome_of (illegal_call p n) (after_call w (prepared_plan p) j) (prepared_plan p).answer ≡ Stepped k x → Has (files_of k)
  other_has g p n k x of at =
      let o = outcome_is (illegal_call p n) (after_call w (prepared_plan p) j) k (prepared_plan p).answer x at in
      subst (λ i. Has (files_of i)) o.1
      (subst Has (sym (called_files w j (prepared_plan p) ∙ group_paid g (prepared_plan p).payload (files_of j) of)) is)

  faulted_has : (c : Call) (healed checkpointed : Bool) (k : Joint) (x : Answer) → step j w (event.Fault c healed checkpointed) ≡ Stepped k x
      → Has (files_of k)
  faulted_has c healed checkpointed k x at =
      let p = plan_of j c in
      let n = needs_of j w c in
      let far = healed && checkpointed in
      let o = outcome_is (illegal_fault p n) (after_fault w (prepared_plan p) far j) k _ x at in
      subst (λ i. Has (files_of i)) o.1 (subst Has (sym (failed_files w j (prepared_plan p) far)) is)

  landed_has : (k : Joint) (x : Answer) (o : Option DaemonRecord)
      → MayLandIf j.daemon.tables j.daemon.requests j.history.contents j.daemon.cap j.sides o
      → doubt_outcome j component.Daemon (option_map (λ r. payload.Daemon r) o) ≡ Stepped k x → Has (files_of k)
  landed_has k x None may at = absurd (cc)
  landed_has k x (Some r) may at =
      let l = landed_is j k component.Daemon (Some (payload.Daemon r)) x at in
      let same : after_landing component.Daemon (payload.Daemon r) j ≡ k =
      ap (λ p. after_landing component.Daemon p j) (payload_is (payload.Daemon r) l.0 l.1) ∙ l.2 in
      subst (λ i. Has (files_of i)) same
      (subst Has (sym (landed_files j component.Daemon (payload.Daemon r)))
      (paid_has (Some (payload.Daemon r)) (λ q e. subst (λ y. Follows (files_of j) y) (record_is r q e) (follows j r may))))

  group_landed_has : (g : GroupId) (o : Option GroupRecord) (k : Joint) (x : Answer)
      → doubt_outcome j (component.Group g) (option_map (λ r. payload.Group g r) o) ≡ Stepped k x → Has (files_of k)
  group_landed_has g None k x at = absurd (cc)
  group_landed_has g (Some r) k x at =
      let l = landed_is j k (component.Group g) (Some (payload.Group g r)) x at in
      let same : after_landing (component.Group g) (payload.Group g r) j ≡ k =
      ap (λ p. after_landing (component.Group g) p j) (payload_is (payload.Group g r) l.0 l.1) ∙ l.2 in
      subst (λ i. Has (files_of i)) same (subst Has (sym (landed_files j (component.Group g) (payload.Group g r))) is)

  side_landed_has : (g : GroupId) (o : Option Side) (k : Joint) (x : Answer) → landing_outcome_in j g o ≡ Stepped k x → Has (files_of k)
  side_landed_has g None k x at = absurd (cc)
  side_landed_has g (Some s) k x at = group_landed_has g s.group.doubt k x at

  -- each event leaves the bitfile its content
  pub content_stays : (e : Event) (k : Joint) (x : Answer) → step j w e ≡ Stepped k x → map.get k.history.contents d ≡ Some bytes
  content_stays (event.Call (call.Daemon c)) k x at = called_has c k x at
  content_stays (event.Call (call.Group g c)) k x at =
      other_has g (plan_of j (call.Group g c)) (needs_of j w (call.Group g c)) k x (side_pays g c (map.get j.sides g.0)) at
  content_stays (event.Call (call.Volume g vsn c)) k x at =
      other_has g (plan_of j (call.Volume g vsn c)) (needs_of j w (call.Volume g vsn c)) k x (volume_pays g vsn c (map.get j.sides g.0)) at
  content_stays (event.Fault c healed checkpointed) k x at = faulted_has c healed checkpointed k x at
  content_stays (event.Landed component.Daemon) k x at = landed_has k x j.daemon.doubt kept.doubt at
  content_stays (event.Landed (component.Group g)) k x at = side_landed_has g (map.get j.sides g.0) k x at
  content_stays (event.Look c) k x at = subst (λ i. Has (files_of i)) (look_is j k c x at) is
  content_stays event.Stop k x at =
      let same : after_stop j ≡ k = cc in
      subst (λ i. Has (files_of i)) same is

-- ---- runs

pub run_stays : (d : ℕ) (bytes : List ℕ) (j : Joint) (entries : List RunEntry) (k : Joint) → KeptAlong j entries → Run j entries k
    → map.get j.history.contents d ≡ Some bytes → map.get k.history.contents d ≡ Some bytes
run_stays d bytes j [] k kept run is = subst (λ (i : Joint). map.get i.history.contents d ≡ Some bytes) run is
run_stays d bytes j (e ∷ es) k kept run is =
    run_stays d bytes run.0 es k (along_rest j run.0 e es kept run.1) run.2
    (content_stays j e.worker kept.0 d bytes is e.event run.0 e.answer run.1)
