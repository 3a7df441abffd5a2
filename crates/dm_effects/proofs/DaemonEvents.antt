-- Each legal event of the daemon keeps the invariant, and so does each run of them.
use Rattle.std.proofs.Common.{◌≡◌, ℕ, Bool, true, false, cond, ◌&&◌, Option, Some, None, List, [], ◌∷◌, option_map, refl, sym, subst}
use Rattle.std.specs.List.{AllByRecursion}
use Rattle.std.specs.FinMap as map
use Rattle.dm_base.specs.declared.identifier.GroupId.{GroupId}
use Rattle.dm_durable.specs.declared.daemon.DaemonRecord.{DaemonRecord}
use Rattle.dm_model.specs.declared.answer.Answer.{Answer}
use Rattle.dm_model.specs.declared.call.Call.TheVariants as call
use Rattle.dm_model.specs.declared.call.Component.{Component}
use Rattle.dm_model.specs.declared.call.Component.TheVariants as component
use Rattle.dm_model.specs.declared.call.DaemonCall.{DaemonCall}
use Rattle.dm_model.specs.declared.call.Event.{Event}
use Rattle.dm_model.specs.declared.call.Event.TheVariants as event
use Rattle.dm_model.specs.declared.guard.Guard.{Guard}
use Rattle.dm_model.specs.declared.plan.Payload.{Payload}
use Rattle.dm_model.specs.declared.plan.Payload.TheVariants as payload
use Rattle.dm_model.specs.declared.state.Joint.{Joint}
use Rattle.dm_model.specs.declared.state.Side.{Side}
use Rattle.dm_model.specs.DaemonCalls.{daemon_needs, daemon_plan}
use Rattle.dm_model.specs.Guards.{Guarded, AllHold, lower_of, lowest_false}
use Rattle.dm_model.specs.Plan.{Plan, Needs, guards_always, guards_of, guards_of_fault, illegal_call, illegal_fault, prepared_plan, refusal_of}
use Rattle.dm_model.specs.Step.{RunEntry, Outcome, Run, Stepped, after_call, after_fault, after_landing, daemon_doubt, doubt_outcome, look_outcome, look_outcome_in, outcome_of, step}
use Rattle.dm_invariant.specs.Kept.{InvariantHolds}
use Rattle.dm_effects.specs.OfDaemon.{IsOfDaemon}
use Rattle.dm_effects.proofs.BeginningCalls.{front_holds}
use Rattle.dm_effects.proofs.DaemonCalls.{doubt_landed}
use Rattle.dm_effects.proofs.DaemonKept.{daemon_kept, daemon_fault_kept}

-- every test holds where none is the lowest false one
all_hold : (ts : List Guarded) → lowest_false ts ≡ None → AllHold ts
all_hold [] e = tt
all_hold (t ∷ ts) e =
    elim t.0 as (λ b. cond b (lowest_false ts) (Some (lower_of t.1 (lowest_false ts))) ≡ None → (b ≡ true) × AllHold ts) [
      | true ↦ λ rest. (refl, all_hold ts rest)
      | false ↦ λ none. cc
    ] e

-- an event that is answered was legal, and came to that state
outcome_is : (o : Option Guard) (after k : Joint) (b a : Answer) → outcome_of o after b ≡ Stepped k a → (o ≡ None) × (after ≡ k)
outcome_is None after k b a is = (refl, cc)
outcome_is (Some guard) after k b a is = absurd (cc)

-- so a step in doubt that landed was there
landed_is : (j k : Joint) (c : Component) (o : Option Payload) (a : Answer) → doubt_outcome j c o ≡ Stepped k a
    → (p : Payload) × (o ≡ Some p) × (after_landing c p j ≡ k)
landed_is j k c None a is = absurd (cc)
landed_is j k c (Some p) a is = (p, refl, cc)

mapped_is : {X Y : Type 0} (f : X → Y) (o : Option X) (y : Y) → option_map f o ≡ Some y → (x : X) × (o ≡ Some x) × (f x ≡ y)
mapped_is f None y is = absurd (cc)
mapped_is f (Some x) y is = (x, refl, cc)

-- and a look changed nothing
looked_is : (j k : Joint) (o : Option Side) (a : Answer) → look_outcome_in j o ≡ Stepped k a → j ≡ k
looked_is j k None a is = absurd (cc)
looked_is j k (Some s) a is = cc

look_is : (j k : Joint) (c : Component) (a : Answer) → look_outcome j c ≡ Stepped k a → j ≡ k
look_is j k component.Daemon a is = cc
look_is j k (component.Group g) a is = looked_is j k (map.get j.sides g.0) a is

module _ (j : Joint) (kept : InvariantHolds j) (w : ℕ) (k : Joint) (a : Answer) where
  called_keeps : (c : DaemonCall) → step j w (event.Call (call.Daemon c)) ≡ Stepped k a → InvariantHolds k
  called_keeps c is =
      let p = daemon_plan j.daemon c in
      let n = daemon_needs j.sides (map.get j.workers w) j.history j.daemon c in
      let o = outcome_is (illegal_call p n) (after_call w (prepared_plan p) j) k (prepared_plan p).answer a is in
      subst InvariantHolds o.1 (daemon_kept j kept w c (all_hold (guards_of (refusal_of p) p n) o.0))

  faulted_keeps : (c : DaemonCall) (healed checkpointed : Bool) → step j w (event.Fault (call.Daemon c) healed checkpointed) ≡ Stepped k a → InvariantHolds k
  faulted_keeps c healed checkpointed is =
      let p = daemon_plan j.daemon c in
      let n = daemon_needs j.sides (map.get j.workers w) j.history j.daemon c in
      let far = healed && checkpointed in
      let o = outcome_is (illegal_fault p n) (after_fault w (prepared_plan p) far j) k _ a is in
      let legal = front_holds (guards_always p n) _ (all_hold (guards_of_fault p n) o.0) in
      subst InvariantHolds o.1 (daemon_fault_kept j kept w c legal far)

  landed_keeps : step j w (event.Landed component.Daemon) ≡ Stepped k a → InvariantHolds k
  landed_keeps is =
      let l = landed_is j k component.Daemon (daemon_doubt j) a is in
      let r = mapped_is (λ r. payload.Daemon r) j.daemon.doubt l.0 l.1 in
      subst InvariantHolds l.2 (subst (λ p. InvariantHolds (after_landing component.Daemon p j)) r.2 (doubt_landed j kept r.0 r.1))

  look_keeps : (c : Component) → step j w (event.Look c) ≡ Stepped k a → InvariantHolds k
  look_keeps c is = subst InvariantHolds (look_is j k c a is) kept

  -- a legal event of the daemon keeps the invariant
  pub event_keeps : (e : Event) → IsOfDaemon e → step j w e ≡ Stepped k a → InvariantHolds k
  event_keeps (event.Call (call.Daemon c)) of is = called_keeps c is
  event_keeps (event.Call (call.Group g c)) of is = absurd of
  event_keeps (event.Call (call.Volume g vsn c)) of is = absurd of
  event_keeps (event.Fault (call.Daemon c) healed checkpointed) of is = faulted_keeps c healed checkpointed is
  event_keeps (event.Fault (call.Group g c) healed checkpointed) of is = absurd of
  event_keeps (event.Fault (call.Volume g vsn c) healed checkpointed) of is = absurd of
  event_keeps (event.Landed component.Daemon) of is = landed_keeps is
  event_keeps (event.Landed (component.Group g)) of is = absurd of
  event_keeps (event.Look c) of is = look_keeps c is
  event_keeps event.Stop of is = absurd of

-- and so does a run of them
pub run_keeps : (j : Joint) (entries : List RunEntry) (k : Joint) → InvariantHolds j → AllByRecursion (λ e. IsOfDaemon e.event) entries → Run j entries k → InvariantHolds k
run_keeps j [] k kept of run = subst InvariantHolds run kept
run_keeps j (e ∷ es) k kept of run = run_keeps run.0 es k (event_keeps j kept e.worker run.0 e.answer e.event of.0 run.1) of.1 run.2
