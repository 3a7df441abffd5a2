-- What the words say of the daemon is what the joint machine does to it.
use Rattle.std.proofs.Common.{◌≡◌, ℕ, Bool, true, false, Option, None, Some, refl, sym, ap}
use Rattle.dm_daemon_acts.specs.Acts.{Does, FailedEarly, IsAnswer, IsFault}
use Rattle.dm_model.specs.declared.answer.Answer.{Answer}
use Rattle.dm_model.specs.declared.answer.Answer.TheVariants as answer
use Rattle.dm_model.specs.declared.call.Call.TheVariants as of
use Rattle.dm_model.specs.declared.call.DaemonCall.{DaemonCall}
use Rattle.dm_model.specs.declared.call.Event.TheVariants as event
use Rattle.dm_model.specs.declared.guard.Guard.{Guard}
use Rattle.dm_model.specs.declared.state.Joint.{Joint}
use Rattle.dm_model.specs.DaemonCalls.{daemon_plan}
use Rattle.dm_model.specs.DaemonShare.{daemon_after_fault}
use Rattle.dm_model.specs.Plan.{illegal_call, illegal_fault, prepared_plan}
use Rattle.dm_model.specs.Step.{Outcome, Stepped, Illegal, after_call, after_fault, needs_of, outcome_of, state_after, step}

-- the answer of an outcome that has one
abbrev answer_in : Answer → Outcome → Answer
answer_in a (Stepped k b) = b
answer_in a (Illegal guard) = a

same_state : (o : Option Guard) (s k : Joint) (a b : Answer) → outcome_of o s a ≡ Stepped k b → s ≡ k
same_state None s k a b e = ap (state_after s) e
same_state (Some guard) s k a b e = cc

same_answer : (o : Option Guard) (s k : Joint) (a b : Answer) → outcome_of o s a ≡ Stepped k b → a ≡ b
same_answer None s k a b e = ap (answer_in a) e
same_answer (Some guard) s k a b e = cc

pub answered : (j k : Joint) (w : ℕ) (c : DaemonCall) (a : Answer) → step j w (event.Call (of.Daemon c)) ≡ Stepped k a
    → Does j.daemon k.daemon c (IsAnswer a)
answered j k w c a e =
    let p = daemon_plan j.daemon c in
    let o = illegal_call p (needs_of j w (of.Daemon c)) in
    let s = after_call w (prepared_plan p) j in
    (sym (same_answer o s k (prepared_plan p).answer a e), ap (λ x. x.daemon) (sym (same_state o s k (prepared_plan p).answer a e)))

fault_state : (j k : Joint) (w : ℕ) (c : DaemonCall) (a : Answer) (far : Bool)
    → outcome_of (illegal_fault (daemon_plan j.daemon c) (needs_of j w (of.Daemon c))) (after_fault w (prepared_plan (daemon_plan j.daemon c)) far j) answer.Failed ≡ Stepped k a
    → k.daemon ≡ daemon_after_fault (prepared_plan (daemon_plan j.daemon c)) far j.daemon
fault_state j k w c a far e =
    let p = daemon_plan j.daemon c in
    let o = illegal_fault p (needs_of j w (of.Daemon c)) in
    ap (λ x. x.daemon) (sym (same_state o (after_fault w (prepared_plan p) far j) k answer.Failed a e))

pub failed : (j k : Joint) (w : ℕ) (c : DaemonCall) (a : Answer) → step j w (event.Fault (of.Daemon c) true true) ≡ Stepped k a
    → Does j.daemon k.daemon c IsFault
failed j k w c a e = fault_state j k w c a true e

pub failed_early : (j k : Joint) (w : ℕ) (c : DaemonCall) (a : Answer) (healed : Bool) → step j w (event.Fault (of.Daemon c) healed false) ≡ Stepped k a
    → FailedEarly j.daemon k.daemon c IsFault
failed_early j k w c a true e = (refl, fault_state j k w c a false e)
failed_early j k w c a false e = (refl, fault_state j k w c a false e)
