use Rattle.std.proofs.Common.{◌≤◌, length, refl, sym, ◌∙◌, ap, arith}
use Rattle.dm_daemon.proofs.Accepted.{may_journal, paid, paid_as, step_plain}
use Rattle.dm_daemon.proofs.Alike.{journals_alike, may_spelled, spelled_alike}
use Rattle.dm_daemon.proofs.Calling.{acts_refused, acts_stepped}
use Rattle.dm_daemon.specs.State.{state_of}
use Rattle.dm_daemon_tables.specs.Prepared.{record_of}
use Rattle.dm_durable.specs.declared.daemon.DaemonRecord.{DaemonRecord}
use Rattle.dm_durable.specs.declared.daemon.DaemonStep.TheVariants as step
use Rattle.dm_durable.specs.declared.daemon_journal.DaemonPayload.TheVariants.{Record}
use Rattle.dm_model.specs.declared.answer.Answer.TheVariants as answer
use Rattle.dm_model.specs.declared.call.DaemonCall.TheVariants as call
use Rattle.dm_model.specs.DaemonCalls.{set_age}
use Rattle.dm_records.proofs.Lengths.{short}
use Rattle.dm_records.specs.Payloads.{spelling}
use Rattle.dm_daemon.proofs.daemon.Daemon.set_age_settled.Goals as goal

pub spell-len-requires-clause-room : goal.spell-len-requires-clause-room
spell-len-requires-clause-room g c =
    let r : DaemonRecord = record { time = c.time_at-time.result; step = step.Age c.args.age } in
    let few : length (spelling (Record r)) ≤ 20971520 = short (Record r) (c.time_at-time.ensures.word, c.ranges.age.fits) tt in
    let room : 20971520 ≤ length c.args.self.now.buffer.items = c.requires.stands.room in
    omega arith

pub step-requires-clause-may : goal.step-requires-clause-may
step-requires-clause-may g c =
    let s = c.args.self.now in
    may_spelled (g.B.Bay.disk c.args.bay.now) s (record s { buffer = c.spell-len.new.buffer }) (record_of c.age.result)
    (may_journal (g.B.Bay.disk c.args.bay.now) s (call.SetAge c.args.age c.args.now) (set_age (state_of s) c.args.age c.args.now.0)
    (record { time = c.time_at-time.result; step = step.Age c.args.age }) (record_of c.age.result) c.requires refl
    (sym (c.in-None.ensures.first (state_of s) c.args.now.0))
    (paid (state_of s) c.args.now.0 c.time_at-time.result (step.Age c.args.age) (step.Age c.args.age) c.time_at-time.ensures.at refl)
    (c.time_at-time.ensures.word, c.ranges.age.fits) tt c.age.ensures.step)
    refl refl c.spell-len.ensures.size

pub step-requires-clause-ready : goal.step-requires-clause-ready
step-requires-clause-ready g c = c.age.ensures.ready c.args.self.now.journalled.tables

pub step-requires-clause-spelled : goal.step-requires-clause-spelled
step-requires-clause-spelled g c = c.spell-len.ensures.payload ∙ ap (λ (r : DaemonRecord). spelling (Record r)) (sym c.age.ensures.step)

pub returns-in-Some : goal.returns-in-Some
returns-in-Some g c =
    let s = c.args.self.now in
    acts_refused (g.B.Bay.disk c.args.bay.now) (g.B.Bay.count c.args.bay.now) s (call.SetAge c.args.age c.args.now) (set_age (state_of s) c.args.age c.args.now.0) c.in-Some.error refl (step_plain _ _ _)
    c.requires.sure c.requires.stands (sym (c.in-Some.ensures.first (state_of s) c.args.now.0)) c.in-Some.ensures.refusal

pub returns-in-None : goal.returns-in-None
returns-in-None g c =
    let s = c.args.self.now in
    let m = record s { buffer = c.spell-len.new.buffer } in
    acts_stepped (g.B.Bay.disk c.args.bay.now) (g.B.Bay.disk c.step.new.bay) (g.B.Bay.count c.args.bay.now) (g.B.Bay.count c.step.new.bay) s c.step.new.self
    (call.SetAge c.args.age c.args.now) (set_age (state_of s) c.args.age c.args.now.0) (record_of c.age.result) answer.AgeSet c.step.result refl (step_plain _ _ _)
    c.requires.sure (sym (c.in-None.ensures.first (state_of s) c.args.now.0))
    (paid_as (state_of s) c.args.now.0 c.time_at-time.result (step.Age c.args.age) (step.Age c.args.age) (record_of c.age.result) c.time_at-time.ensures.at refl c.age.ensures.step)
    refl
    (journals_alike (g.B.Bay.disk c.args.bay.now) (g.B.Bay.disk c.step.new.bay) (g.B.Bay.count c.args.bay.now) (g.B.Bay.count c.step.new.bay) s m c.step.new.self (record_of c.age.result) c.step.result
    (spelled_alike s m refl) refl refl c.step.ensures)
