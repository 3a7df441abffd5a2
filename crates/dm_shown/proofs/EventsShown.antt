-- The namespace goes along with each event of the joint machine.
use Rattle.std.proofs.Common.{◌≡◌, ℕ, Bool, true, false, cond, ◌&&◌, Some, None, Option, option_map, List, [], ◌∷◌, refl, sym, ap, subst, ◌∙◌}
use Rattle.std.specs.FinMap as map
use Rattle.dm_base.specs.declared.identifier.GroupId.{GroupId}
use Rattle.dm_base.specs.declared.serial.Vsn.{Vsn}
use Rattle.dm_durable.specs.declared.daemon.DaemonRecord.{DaemonRecord}
use Rattle.dm_durable.specs.declared.group.GroupRecord.{GroupRecord}
use Rattle.dm_model.specs.declared.answer.Answer.{Answer}
use Rattle.dm_model.specs.declared.call.Call.{Call}
use Rattle.dm_model.specs.declared.call.Call.TheVariants as call
use Rattle.dm_model.specs.declared.call.Component.{Component}
use Rattle.dm_model.specs.declared.call.Component.TheVariants as component
use Rattle.dm_model.specs.declared.call.DaemonCall.{DaemonCall}
use Rattle.dm_model.specs.declared.call.Event.{Event}
use Rattle.dm_model.specs.declared.call.Event.TheVariants as event
use Rattle.dm_model.specs.declared.call.GroupCall.{GroupCall}
use Rattle.dm_model.specs.declared.call.VolumeCall.{VolumeCall}
use Rattle.dm_model.specs.declared.guard.Guard.{Guard}
use Rattle.dm_model.specs.declared.plan.Payload.{Payload}
use Rattle.dm_model.specs.declared.plan.Payload.TheVariants as payload
use Rattle.dm_model.specs.declared.plan.Prepared.{Prepared}
use Rattle.dm_model.specs.declared.state.Joint.{Joint}
use Rattle.dm_model.specs.declared.state.Side.{Side}
use Rattle.dm_model.specs.DaemonCalls.{daemon_needs, daemon_plan}
use Rattle.dm_model.specs.GroupCalls.{group_plan}
use Rattle.dm_model.specs.Guards.{Guarded, AllHold, lower_of, lowest_false}
use Rattle.dm_model.specs.Plan.{Plan, Needs, guards_of, illegal_call, illegal_fault, prepared_plan, refusal_of}
use Rattle.dm_model.specs.Project.{event_steps, plain_run, steps_of_doubt}
use Rattle.dm_model.specs.Effects.{after_ending}
use Rattle.dm_model.specs.Step.{Stepped, after_call, after_fault, after_landing, after_stop, doubt_outcome, landing_outcome_in, look_outcome, look_outcome_in}
use Rattle.dm_model.specs.Step.{needs_of, outcome_of, plan_of, side_plan, step, volume_plan_in}
use Rattle.dm_model.specs.VolumeCalls.{mount_in, volume_plan}
use Rattle.dm_model.proofs.PlansOf.{group_plan-of, prepared-of, volume_plan-of}
use Rattle.dm_model.proofs.Shares.{OpensOf, PaysOf}
use Rattle.dm_plain.specs.Namespace.{Namespace}
use Rattle.dm_invariant.specs.Doubts.{MayLandIf}
use Rattle.dm_invariant.specs.Kept.{InvariantHolds}
use Rattle.dm_landing.proofs.CallsLanded.{PayloadLands, daemon_call_lands}
use Rattle.dm_effects.proofs.BeginningCalls.{always_hold}
use Rattle.dm_shown.proofs.CallsShown.{call_does}
use Rattle.dm_shown.proofs.PlansShown.{AgreesWith, Follows, called_files, failed_files, files_of, files_paid, follows, group_paid, landed_files, payload_steps}
use Rattle.dm_shown.proofs.PlansShown.{record_agrees, still_follows, stop_agrees}

-- ---- legal events

-- every test holds where none is the lowest false one
pub all_hold : (ts : List Guarded) → lowest_false ts ≡ None → AllHold ts
all_hold [] e = tt
all_hold (t ∷ ts) e =
    elim t.0 as (λ b. cond b (lowest_false ts) (Some (lower_of t.1 (lowest_false ts))) ≡ None → (b ≡ true) × AllHold ts) [
      | true ↦ λ rest. (refl, all_hold ts rest)
      | false ↦ λ none. cc
    ] e

-- an event that is answered was legal, and came to that state and that answer
pub outcome_is : (o : Option Guard) (after k : Joint) (b a : Answer) → outcome_of o after b ≡ Stepped k a → (o ≡ None) × (after ≡ k) × (b ≡ a)
outcome_is None after k b a is = (refl, cc, cc)
outcome_is (Some guard) after k b a is = absurd (cc)

-- a step in doubt that landed was there
pub landed_is : (j k : Joint) (c : Component) (o : Option Payload) (a : Answer) → doubt_outcome j c o ≡ Stepped k a
    → (p : Payload) × (o ≡ Some p) × (after_landing c p j ≡ k)
landed_is j k c None a is = absurd (cc)
landed_is j k c (Some p) a is = (p, refl, cc)

pub mapped_is : {X Y : Type 0} (f : X → Y) (o : Option X) (y : Y) → option_map f o ≡ Some y → (x : X) × (o ≡ Some x) × (f x ≡ y)
mapped_is f None y is = absurd (cc)
mapped_is f (Some x) y is = (x, refl, cc)

-- and a look changed nothing
looked_is : (j k : Joint) (o : Option Side) (a : Answer) → look_outcome_in j o ≡ Stepped k a → j ≡ k
looked_is j k None a is = absurd (cc)
looked_is j k (Some s) a is = cc

pub look_is : (j k : Joint) (c : Component) (a : Answer) → look_outcome j c ≡ Stepped k a → j ≡ k
look_is j k component.Daemon a is = cc
look_is j k (component.Group g) a is = looked_is j k (map.get j.sides g.0) a is

-- ---- what groups and volumes journal is nothing of the daemon

pub side_pays : (g : GroupId) (c : GroupCall) (o : Option Side) → PaysOf g (prepared_plan (side_plan g c o)).payload
side_pays g c None = tt
side_pays g c (Some s) = (prepared-of g (group_plan g s.group c) (group_plan-of g s.group c)).pays

pub volume_pays : (g : GroupId) (vsn : Vsn) (c : VolumeCall) (o : Option Side) → PaysOf g (prepared_plan (volume_plan_in g vsn c o)).payload
volume_pays g vsn c None = tt
volume_pays g vsn c (Some s) =
    let image = map.get s.images vsn.0 in
    let mount = map.get s.mounts (mount_in c) in
    (prepared-of g (volume_plan g vsn image mount c) (volume_plan-of g vsn image mount c)).pays

-- nor do they make requests
pub side_opens : (g : GroupId) (c : GroupCall) (o : Option Side) → OpensOf g (prepared_plan (side_plan g c o)).opens
side_opens g c None = tt
side_opens g c (Some s) = (prepared-of g (group_plan g s.group c) (group_plan-of g s.group c)).opens

pub volume_opens : (g : GroupId) (vsn : Vsn) (c : VolumeCall) (o : Option Side) → OpensOf g (prepared_plan (volume_plan_in g vsn c o)).opens
volume_opens g vsn c None = tt
volume_opens g vsn c (Some s) =
    let image = map.get s.images vsn.0 in
    let mount = map.get s.mounts (mount_in c) in
    (prepared-of g (volume_plan g vsn image mount c) (volume_plan-of g vsn image mount c)).opens

record_is : (q r : DaemonRecord) → Some (payload.Daemon q) ≡ Some (payload.Daemon r) → q ≡ r
record_is q r is = cc

pub payload_is : (p q : Payload) → Some p ≡ Some q → p ≡ q
payload_is p q is = cc

module _ (j : Joint) (w : ℕ) (ns : Namespace) (kept : InvariantHolds j) (a : AgreesWith (files_of j) ns) where
  -- ---- calls

  -- a payload that may land after what was spent does its steps
  payload_agrees : (p : Prepared) (o : Option Payload) → p.payload ≡ o → ((r : DaemonRecord) → o ≡ Some (payload.Daemon r) → Follows (files_of j) r)
      → AgreesWith (files_of (after_call w p j)) (plain_run (payload_steps o) ns)
  payload_agrees p None is follow = subst (λ files. AgreesWith files ns) (sym (called_files w j p ∙ ap (λ q. files_paid q (files_of j)) is)) a
  payload_agrees p (Some (payload.Daemon r)) is follow =
      subst (λ files. AgreesWith files (plain_run (payload_steps (Some (payload.Daemon r))) ns))
      (sym (called_files w j p ∙ ap (λ q. files_paid q (files_of j)) is)) (record_agrees j ns r kept (follow r refl) a)
  payload_agrees p (Some (payload.Group g r)) is follow =
      subst (λ files. AgreesWith files ns) (sym (called_files w j p ∙ ap (λ q. files_paid q (files_of j)) is)) a

  lands_follows : (p : Prepared) (o : Option Payload) → PayloadLands (after_ending w p.ends j) o → (r : DaemonRecord) → o ≡ Some (payload.Daemon r)
      → Follows (files_of j) r
  lands_follows p None lands r is = absurd (cc)
  lands_follows p (Some (payload.Group g q)) lands r is = absurd lands
  lands_follows p (Some (payload.Daemon q)) lands r is =
      subst (λ x. Follows (files_of j) x) (record_is q r is) (still_follows w j p.ends q (follows (after_ending w p.ends j) q lands))

  called_agrees : (c : DaemonCall) (k : Joint) (x : Answer) → step j w (event.Call (call.Daemon c)) ≡ Stepped k x
      → AgreesWith (files_of k) (plain_run (event_steps j (event.Call (call.Daemon c))) ns)
  called_agrees c k x is =
      let p = daemon_plan j.daemon c in
      let n = daemon_needs j.sides (map.get j.workers w) j.history j.daemon c in
      let o = outcome_is (illegal_call p n) (after_call w (prepared_plan p) j) k (prepared_plan p).answer x is in
      let legal = always_hold p n (refusal_of p) (all_hold (guards_of (refusal_of p) p n) o.0) in
      let lands = daemon_call_lands j kept w c legal in
      subst (λ i. AgreesWith (files_of i) (plain_run (event_steps j (event.Call (call.Daemon c))) ns)) o.1
      (subst (λ m. AgreesWith (files_of (after_call w (prepared_plan p) j)) m) (sym (call_does j ns a c))
      (payload_agrees (prepared_plan p) (prepared_plan p).payload refl (lands_follows (prepared_plan p) (prepared_plan p).payload lands)))

  -- a call of a group or on a volume
  other_agrees : (g : GroupId) (p : Plan) (n : Needs) (k : Joint) (x : Answer) → PaysOf g (prepared_plan p).payload
      → outcome_of (illegal_call p n) (after_call w (prepared_plan p) j) (prepared_plan p).answer ≡ Stepped k x → AgreesWith (files_of k) ns
  other_agrees g p n k x of is =
      let o = outcome_is (illegal_call p n) (after_call w (prepared_plan p) j) k (prepared_plan p).answer x is in
      subst (λ i. AgreesWith (files_of i) ns) o.1
      (subst (λ files. AgreesWith files ns) (sym (called_files w j (prepared_plan p) ∙ group_paid g (prepared_plan p).payload (files_of j) of)) a)

  -- ---- calls that fail, and steps in doubt that land

  faulted_agrees : (c : Call) (healed checkpointed : Bool) (k : Joint) (x : Answer) → step j w (event.Fault c healed checkpointed) ≡ Stepped k x
      → AgreesWith (files_of k) ns
  faulted_agrees c healed checkpointed k x is =
      let p = plan_of j c in
      let n = needs_of j w c in
      let far = healed && checkpointed in
      let o = outcome_is (illegal_fault p n) (after_fault w (prepared_plan p) far j) k _ x is in
      subst (λ i. AgreesWith (files_of i) ns) o.1 (subst (λ files. AgreesWith files ns) (sym (failed_files w j (prepared_plan p) far)) a)

  landed_agrees_of : (k : Joint) (x : Answer) (o : Option DaemonRecord) → j.daemon.doubt ≡ o
      → MayLandIf j.daemon.tables j.daemon.requests j.history.contents j.daemon.cap j.sides o
      → doubt_outcome j component.Daemon (option_map (λ r. payload.Daemon r) o) ≡ Stepped k x → AgreesWith (files_of k) (plain_run (steps_of_doubt o) ns)
  landed_agrees_of k x None at may is = absurd (cc)
  landed_agrees_of k x (Some r) at may is =
      let l = landed_is j k component.Daemon (Some (payload.Daemon r)) x is in
      let same : after_landing component.Daemon (payload.Daemon r) j ≡ k =
      ap (λ p. after_landing component.Daemon p j) (payload_is (payload.Daemon r) l.0 l.1) ∙ l.2 in
      subst (λ i. AgreesWith (files_of i) (plain_run (steps_of_doubt (Some r)) ns)) same
      (subst (λ files. AgreesWith files (plain_run (steps_of_doubt (Some r)) ns)) (sym (landed_files j component.Daemon (payload.Daemon r)))
      (record_agrees j ns r kept (follows j r may) a))

  group_landed_agrees : (g : GroupId) (o : Option GroupRecord) (k : Joint) (x : Answer)
      → doubt_outcome j (component.Group g) (option_map (λ r. payload.Group g r) o) ≡ Stepped k x → AgreesWith (files_of k) ns
  group_landed_agrees g None k x is = absurd (cc)
  group_landed_agrees g (Some r) k x is =
      let l = landed_is j k (component.Group g) (Some (payload.Group g r)) x is in
      let same : after_landing (component.Group g) (payload.Group g r) j ≡ k =
      ap (λ p. after_landing (component.Group g) p j) (payload_is (payload.Group g r) l.0 l.1) ∙ l.2 in
      subst (λ i. AgreesWith (files_of i) ns) same
      (subst (λ files. AgreesWith files ns) (sym (landed_files j (component.Group g) (payload.Group g r))) a)

  side_landed_agrees : (g : GroupId) (o : Option Side) (k : Joint) (x : Answer) → landing_outcome_in j g o ≡ Stepped k x → AgreesWith (files_of k) ns
  side_landed_agrees g None k x is = absurd (cc)
  side_landed_agrees g (Some s) k x is = group_landed_agrees g s.group.doubt k x is

  -- ---- any event

  -- an event does its plain steps
  pub event_agrees : (e : Event) (k : Joint) (x : Answer) → step j w e ≡ Stepped k x → AgreesWith (files_of k) (plain_run (event_steps j e) ns)
  event_agrees (event.Call (call.Daemon c)) k x is = called_agrees c k x is
  event_agrees (event.Call (call.Group g c)) k x is =
      other_agrees g (plan_of j (call.Group g c)) (needs_of j w (call.Group g c)) k x (side_pays g c (map.get j.sides g.0)) is
  event_agrees (event.Call (call.Volume g vsn c)) k x is =
      other_agrees g (plan_of j (call.Volume g vsn c)) (needs_of j w (call.Volume g vsn c)) k x (volume_pays g vsn c (map.get j.sides g.0)) is
  event_agrees (event.Fault c healed checkpointed) k x is = faulted_agrees c healed checkpointed k x is
  event_agrees (event.Landed component.Daemon) k x is = landed_agrees_of k x j.daemon.doubt refl kept.doubt is
  event_agrees (event.Landed (component.Group g)) k x is = side_landed_agrees g (map.get j.sides g.0) k x is
  event_agrees (event.Look c) k x is = subst (λ i. AgreesWith (files_of i) ns) (look_is j k c x is) a
  event_agrees event.Stop k x is =
      let same : after_stop j ≡ k = cc in
      subst (λ i. AgreesWith (files_of i) ns) same (stop_agrees j ns a)
