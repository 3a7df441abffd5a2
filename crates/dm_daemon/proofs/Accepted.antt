-- Calls that are accepted: the record that each journals, and when it may.
use Rattle.std.proofs.Common.{◌≡◌, ℕ, Bool, Option, None, Some, Ok, List, refl, sym, ap, ◌∙◌, subst}
use Rattle.dm_base.specs.declared.identifier.Secs.{Secs}
use Rattle.dm_daemon.proofs.Calling.{IsPlain}
use Rattle.dm_daemon.specs.declared.daemon.Daemon.{Daemon as TheDaemon}
use Rattle.dm_daemon.specs.Calls.{MayAct, MayJournal, MayServe, Settles}
use Rattle.dm_daemon.specs.State.{state_of}
use Rattle.dm_daemon_acts.proofs.Follows.{accepted_may_follow}
use Rattle.dm_daemon_acts.specs.Acts.{Usable}
use Rattle.dm_durable.specs.declared.daemon.DaemonRecord.{DaemonRecord}
use Rattle.dm_durable.specs.declared.daemon.DaemonStep.{DaemonStep}
use Rattle.dm_durable.specs.declared.daemon_journal.DaemonPayload.TheVariants.{Record}
use Rattle.dm_durable.specs.DaemonConditions.{MayFollow}
use Rattle.dm_durable.specs.Fields.{FitsPayload}
use Rattle.dm_host.specs.Disk.{Disk}
use Rattle.dm_model.specs.declared.answer.Answer.{Answer}
use Rattle.dm_model.specs.declared.call.DaemonCall.{DaemonCall}
use Rattle.dm_model.specs.declared.plan.Payload.{Payload}
use Rattle.dm_model.specs.declared.plan.Payload.TheVariants as payload
use Rattle.dm_model.specs.declared.state.Daemon.{Daemon}
use Rattle.dm_model.specs.DaemonCalls.{daemon_plan, journal_payload, step_plan, time_at}
use Rattle.dm_model.specs.Guards.{AllHold}
use Rattle.dm_records.specs.Limits.{IsWithinLimits}
use Rattle.dm_model.specs.Plan.{Plan, if_accepted, prepared_plan, refusal_of}

-- what an accepted call journals may follow
pub may_follow_accepted : (d : Daemon) (c : DaemonCall) (p : Plan) (r : DaemonRecord) → daemon_plan d c ≡ p → AllHold (daemon_plan d c).own → Usable d c
    → refusal_of p ≡ None → p.payload ≡ Some (payload.Daemon r) → MayFollow d.tables r
may_follow_accepted d c p r is own usable accepted pays =
    accepted_may_follow d c r own usable
    (ap (λ q. (prepared_plan q).payload) is ∙ ap (λ o. if_accepted o None p.payload) accepted ∙ pays)

-- the record of a step at the time of the call
pub paid : (d : Daemon) (now : ℕ) (time : Secs) (s s' : DaemonStep) → time.0 ≡ time_at d now → s ≡ s'
    → journal_payload d now s' ≡ Some (payload.Daemon (record { time = time; step = s }))
paid d now time s s' e f = λ i. Some (payload.Daemon (record { time = record { 0 = sym e i }; step = sym f i }))

-- the same of a record that is that one
pub paid_as : (d : Daemon) (now : ℕ) (time : Secs) (s s' : DaemonStep) (q : DaemonRecord) → time.0 ≡ time_at d now → s ≡ s' → q ≡ record { time = time; step = s }
    → journal_payload d now s' ≡ Some (payload.Daemon q)
paid_as d now time s s' q e f same = paid d now time s s' e f ∙ ap (λ (r : DaemonRecord). Some (payload.Daemon r)) (sym same)

-- an accepted call may journal its record
pub may_journal : (a : Disk) (m : TheDaemon) (c : DaemonCall) (p : Plan) (r q : DaemonRecord) → MayAct a m c → daemon_plan (state_of m) c ≡ p → refusal_of p ≡ None
    → p.payload ≡ Some (payload.Daemon r) → FitsPayload (Record r) → IsWithinLimits (Record r) → q ≡ r → MayJournal a m q
may_journal a m c p r q may is accepted pays fits short same = subst (MayJournal a m) (sym same) (record {
  sure = may.sure;
  stands = may.stands;
  fits = fits;
  short = short;
  may = may_follow_accepted (state_of m) c p r is may.own may.usable accepted pays;
})

-- plans that make and spend nothing
pub step_plain : (refusals : List (Bool × Answer)) (o : Option Payload) (a : Answer) → IsPlain (step_plan refusals o a)
step_plain refusals o a = record { stepping = record { component = refl; opens = refl }; ends = refl }

-- ---- from the whole call to the call behind the heal

pub may_act : (a b : Disk) (l m : ℕ) (old mid : TheDaemon) (c : DaemonCall) → Settles a b l m old mid (Ok tt) → MayServe a old c → MayAct b mid c
may_act a b l m old mid c s may = record {
  sure = s.settled.1;
  stands = s.disk.stands;
  own = subst (λ d. AllHold (daemon_plan d c).own) (sym s.settled.0) (may.ready.may mid.landed);
  usable = subst (λ d. Usable d c) (sym s.settled.0) (may.ready.usable mid.landed);
}
