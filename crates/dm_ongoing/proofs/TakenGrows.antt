-- What a hard delete took stays taken, whatever happens.
use Rattle.std.proofs.Common.{◌≡◌, ℕ, true, Option, None, Some, IsSome, refl, sym, subst, ◌&&◌}
use Rattle.std.specs.FinMap as map
use Rattle.dm_base.specs.declared.identifier.GroupId.{GroupId}
use Rattle.dm_durable.specs.declared.daemon.DaemonStep.{DaemonStep}
use Rattle.dm_durable.specs.declared.group.GroupStep.{GroupStep}
use Rattle.dm_durable.specs.declared.group.GroupStep.TheVariants as group_step
use Rattle.dm_model.specs.declared.answer.Answer.{Answer}
use Rattle.dm_model.specs.declared.call.Component.{Component}
use Rattle.dm_model.specs.declared.call.Component.TheVariants as component
use Rattle.dm_model.specs.declared.call.Event.{Event}
use Rattle.dm_model.specs.declared.call.Event.TheVariants as event
use Rattle.dm_model.specs.declared.plan.Mark.{Mark}
use Rattle.dm_model.specs.declared.plan.Mark.TheVariants as mark
use Rattle.dm_model.specs.declared.plan.Payload.{Payload}
use Rattle.dm_model.specs.declared.plan.Payload.TheVariants as payload
use Rattle.dm_model.specs.declared.plan.Prepared.{Prepared}
use Rattle.dm_model.specs.declared.state.Daemon.{Daemon}
use Rattle.dm_model.specs.declared.state.History.{History}
use Rattle.dm_model.specs.declared.state.Joint.{Joint}
use Rattle.dm_model.specs.declared.state.Side.{Side}
use Rattle.dm_model.specs.Effects.{after_ending, after_healing, history_after_group_step, history_after_mark, history_after_payload, history_after_step}
use Rattle.dm_model.specs.Plan.{illegal_call, illegal_fault, prepared_plan}
use Rattle.dm_model.specs.Step.{Stepped, after_call, after_fault, after_landing, after_stop, doubt_outcome, landing_outcome_in, needs_of, plan_of, step}
use Rattle.dm_landing.proofs.TakenLanded.{taken_stays}
use Rattle.dm_shown.proofs.EventsShown.{landed_is, look_is, outcome_is}
use Rattle.dm_ongoing.specs.Spans.{IsUntaken}

module _ (b : ℕ) where
  abbrev Free : History → Type 0
  Free h = map.get h.taken b ≡ None

  some_not : (o : Option (Unit {0})) → o ≡ None → IsSome o → ⊥
  some_not None none some = cc
  some_not (Some u) none some = cc

  -- what isn't taken after a step of the daemon wasn't before it
  step_free : (d : Daemon) (s : DaemonStep) (h : History) → Free (history_after_step d s h) → Free h
  step_free d s h free = before (map.get h.taken b) refl
    where
      before : (o : Option (Unit {0})) → map.get h.taken b ≡ o → o ≡ None
      before None is = refl
      before (Some u) is = absurd (some_not (map.get (history_after_step d s h).taken b) free (taken_stays d h s b u is))

  group_free : (g : ℕ) (s : GroupStep) (h : History) → Free (history_after_group_step g s h) → Free h
  group_free g (group_step.Volume vsn slot version size) h free = free
  group_free g (group_step.Commit c len chunks) h free = free
  group_free g (group_step.Delete c) h free = free
  group_free g (group_step.Move c from to) h free = free
  group_free g (group_step.Free vsn) h free = free
  group_free g (group_step.Reuse vsn epoch version) h free = free

  payload_free : (d : Daemon) (o : Option Payload) (h : History) → Free (history_after_payload d o h) → Free h
  payload_free d None h free = free
  payload_free d (Some (payload.Daemon r)) h free = step_free d r.step h free
  payload_free d (Some (payload.Group g r)) h free = group_free g.0 r.step h free

  mark_free : (x : Mark) (h : History) → Free (history_after_mark x h) → Free h
  mark_free mark.Nothing h free = free
  mark_free (mark.Zone g vsn place zone c index epoch) h free = free
  mark_free (mark.Target g vsn m place zone) h free = free
  mark_free (mark.Label g vsn m epoch version text) h free = free
  mark_free (mark.Read g c offset bytes) h free = free
  mark_free (mark.Source g m bytes) h free = free
  mark_free (mark.Deleted g c) h free = free

  called_free : (w : ℕ) (p : Prepared) (j : Joint) → IsUntaken (after_call w p j) b → IsUntaken j b
  called_free w p j free =
      let d = (after_healing p.heals p.component (after_ending w p.ends j)).daemon in
      payload_free d p.payload j.history (mark_free p.mark (history_after_payload d p.payload j.history) free)

  landed_free : (c : Component) (p : Payload) (j : Joint) → IsUntaken (after_landing c p j) b → IsUntaken j b
  landed_free c p j free = payload_free (after_healing true c j).daemon (Some p) j.history free

  module _ (j k : Joint) (w : ℕ) (x : Answer) (free : IsUntaken k b) where
    back : (i : Joint) → i ≡ k → IsUntaken i b
    back i same = subst (λ (y : Joint). IsUntaken y b) (sym same) free

    doubt_free : (c : Component) (o : Option Payload) → doubt_outcome j c o ≡ Stepped k x → IsUntaken j b
    doubt_free c o is =
        let l = landed_is j k c o x is in
        landed_free c l.0 j (back (after_landing c l.0 j) l.2)

    side_free : (g : GroupId) (o : Option Side) → landing_outcome_in j g o ≡ Stepped k x → IsUntaken j b
    side_free g None is = absurd (cc)
    side_free g (Some s) is = doubt_free (component.Group g) _ is

    -- what isn't taken after an event wasn't before it
    pub event_free : (e : Event) → step j w e ≡ Stepped k x → IsUntaken j b
    event_free (event.Call c) is =
        let p = plan_of j c in
        let n = needs_of j w c in
        let o = outcome_is (illegal_call p n) (after_call w (prepared_plan p) j) k (prepared_plan p).answer x is in
        called_free w (prepared_plan p) j (back (after_call w (prepared_plan p) j) o.1)
    event_free (event.Fault c healed checkpointed) is =
        let p = plan_of j c in
        let n = needs_of j w c in
        let o = outcome_is (illegal_fault p n) (after_fault w (prepared_plan p) (healed && checkpointed) j) k _ x is in
        back (after_fault w (prepared_plan p) (healed && checkpointed) j) o.1
    event_free (event.Landed component.Daemon) is = doubt_free component.Daemon _ is
    event_free (event.Landed (component.Group g)) is = side_free g (map.get j.sides g.0) is
    event_free (event.Look c) is = back j (look_is j k c x is)
    event_free event.Stop is = let same : after_stop j ≡ k = cc in back (after_stop j) same
