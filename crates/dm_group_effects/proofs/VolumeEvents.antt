-- Each legal event on a volume keeps the invariant, and so does each run of them, where reads and their parts tell apart.
use Rattle.std.proofs.Common.{◌≡◌, ℕ, Bool, ◌&&◌, Option, Some, None, List, [], ◌∷◌, ◌++◌, refl, ap, subst}
use Rattle.std.specs.List.{AllByRecursion}
use Rattle.std.specs.FinMap as map
use Rattle.dm_base.specs.declared.identifier.GroupId.{GroupId}
use Rattle.dm_base.specs.declared.serial.Vsn.{Vsn}
use Rattle.dm_model.specs.declared.answer.Answer.{Answer}
use Rattle.dm_model.specs.declared.call.Call.TheVariants as call
use Rattle.dm_model.specs.declared.call.Event.{Event}
use Rattle.dm_model.specs.declared.call.Event.TheVariants as event
use Rattle.dm_model.specs.declared.call.VolumeCall.{VolumeCall}
use Rattle.dm_model.specs.declared.state.Joint.{Joint}
use Rattle.dm_model.specs.declared.state.Side.{Side}
use Rattle.dm_model.specs.Hashed.{SumsTellApart, hashed_by_volume}
use Rattle.dm_model.specs.GroupCalls.{no_group}
use Rattle.dm_model.specs.Guards.{AllHold}
use Rattle.dm_model.specs.Plan.{Needs, Plan, guards_always, guards_of, guards_of_fault, illegal_call, illegal_fault, no_needs, prepared_plan, refusal_of}
use Rattle.dm_model.specs.Step.{RunEntry, Run, Stepped, after_call, after_fault, call_outcome, fault_outcome, state_after, step, volume_needs_in, volume_plan_in}
use Rattle.dm_invariant.specs.Kept.{InvariantHolds}
use Rattle.dm_effects.proofs.BeginningCalls.{front_holds}
use Rattle.dm_group_effects.specs.OnVolume.{IsOnVolume, ReadTellsApart, ReadsTellApart, parts_by_volume}
use Rattle.dm_group_effects.proofs.GroupEvents.{outcome_is}
use Rattle.dm_group_effects.proofs.GroupPlans.{all_hold}
use Rattle.dm_group_effects.proofs.VolumeCalls.{volume_answered, volume_failed}

-- a legal call that fails was at least allowed to be made
fault_keeps : (j : Joint) (w : ℕ) (p : Plan) (n : Needs) → (AllHold (guards_always p n) → (far : Bool) → InvariantHolds (after_fault w (prepared_plan p) far j))
    → (far : Bool) (k : Joint) (a : Answer) → fault_outcome j w far p n ≡ Stepped k a → InvariantHolds k
fault_keeps j w p n keeps far k a is =
    let o = outcome_is (illegal_fault p n) (after_fault w (prepared_plan p) far j) k _ a is in
    subst InvariantHolds o.1 (keeps (front_holds (guards_always p n) _ (all_hold (guards_of_fault p n) o.0)) far)

call_keeps : (j : Joint) (w : ℕ) (p : Plan) (n : Needs) → (AllHold (guards_of (refusal_of p) p n) → InvariantHolds (after_call w (prepared_plan p) j))
    → (k : Joint) (a : Answer) → call_outcome j w p n ≡ Stepped k a → InvariantHolds k
call_keeps j w p n keeps k a is =
    let o = outcome_is (illegal_call p n) (after_call w (prepared_plan p) j) k (prepared_plan p).answer a is in
    subst InvariantHolds o.1 (keeps (all_hold (guards_of (refusal_of p) p n) o.0))

-- a call that was answered
side_answered : (j : Joint) → InvariantHolds j → (w : ℕ) (g : GroupId) (vsn : Vsn) (c : VolumeCall) (k : Joint) (a : Answer) (o : Option Side)
    → map.get j.sides g.0 ≡ o → SumsTellApart (parts_by_volume j.history.contents c o ++ hashed_by_volume c o)
    → call_outcome j w (volume_plan_in g vsn c o) (volume_needs_in vsn c o) ≡ Stepped k a → InvariantHolds k
side_answered j kept w g vsn c k a None side apart is =
    call_keeps j w (no_group g) no_needs (λ legal. let f = legal.0 in absurd (cc)) k a is
side_answered j kept w g vsn c k a (Some s) side apart is =
    call_keeps j w (volume_plan_in g vsn c (Some s)) (volume_needs_in vsn c (Some s)) (λ legal. volume_answered j kept w g s side vsn c apart legal) k a is

-- and one that failed
side_failed : (j : Joint) → InvariantHolds j → (w : ℕ) (g : GroupId) (vsn : Vsn) (c : VolumeCall) (far : Bool) (k : Joint) (a : Answer) (o : Option Side)
    → map.get j.sides g.0 ≡ o → fault_outcome j w far (volume_plan_in g vsn c o) (volume_needs_in vsn c o) ≡ Stepped k a → InvariantHolds k
side_failed j kept w g vsn c far k a None side is =
    fault_keeps j w (no_group g) no_needs (λ legal far. let f = legal.0 in absurd (cc)) far k a is
side_failed j kept w g vsn c far k a (Some s) side is =
    fault_keeps j w (volume_plan_in g vsn c (Some s)) (volume_needs_in vsn c (Some s)) (λ legal far. volume_failed j kept w g s side vsn c legal far) far k
    a is

module _ (j : Joint) (kept : InvariantHolds j) (w : ℕ) (k : Joint) (a : Answer) where
  -- a legal event on a volume keeps the invariant
  pub volume_event_keeps : (e : Event) → IsOnVolume e → ReadTellsApart j e → step j w e ≡ Stepped k a → InvariantHolds k
  volume_event_keeps (event.Call (call.Daemon c)) of apart is = absurd of
  volume_event_keeps (event.Call (call.Group g c)) of apart is = absurd of
  volume_event_keeps (event.Call (call.Volume g vsn c)) of apart is = side_answered j kept w g vsn c k a (map.get j.sides g.0) refl apart is
  volume_event_keeps (event.Fault (call.Daemon c) healed checkpointed) of apart is = absurd of
  volume_event_keeps (event.Fault (call.Group g c) healed checkpointed) of apart is = absurd of
  volume_event_keeps (event.Fault (call.Volume g vsn c) healed checkpointed) of apart is =
      side_failed j kept w g vsn c (healed && checkpointed) k a (map.get j.sides g.0) refl is
  volume_event_keeps (event.Landed c) of apart is = absurd of
  volume_event_keeps (event.Look c) of apart is = absurd of
  volume_event_keeps event.Stop of apart is = absurd of

-- and so does a run of them
pub volume_run_keeps : (j : Joint) (entries : List RunEntry) (k : Joint) → InvariantHolds j → AllByRecursion (λ e. IsOnVolume e.event) entries
    → ReadsTellApart j entries → Run j entries k → InvariantHolds k
volume_run_keeps j [] k kept of apart run = subst InvariantHolds run kept
volume_run_keeps j (e ∷ es) k kept of apart run =
    volume_run_keeps run.0 es k (volume_event_keeps j kept e.worker run.0 e.answer e.event of.0 apart.0 run.1) of.1
    (subst (λ i. ReadsTellApart i es) (ap (state_after j) run.1) apart.1) run.2
