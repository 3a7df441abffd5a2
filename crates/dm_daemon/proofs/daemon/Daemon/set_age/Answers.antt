use Rattle.std.proofs.Common.{refl}
use Rattle.dm_daemon.proofs.Accepted.{may_act}
use Rattle.dm_daemon.proofs.Calling.{served, unserved}
use Rattle.dm_daemon_acts.specs.Acts.{report_of}
use Rattle.dm_model.specs.declared.answer.Answer.TheVariants as answer
use Rattle.dm_model.specs.declared.call.DaemonCall.TheVariants as call
use Rattle.dm_daemon.proofs.daemon.Daemon.set_age.Goals as goal

pub set_age_settled-requires : goal.set_age_settled-requires
set_age_settled-requires g c =
    may_act (g.B.Bay.disk c.args.bay.now) (g.B.Bay.disk c.settle.new.bay) (g.B.Bay.count c.args.bay.now) (g.B.Bay.count c.settle.new.bay) c.args.self.now c.settle.new.self (call.SetAge c.args.age c.args.now) c.in-Ok.ensures c.requires

pub returns-in-Ok : goal.returns-in-Ok
returns-in-Ok g c =
    served (g.B.Bay.disk c.args.bay.now) (g.B.Bay.disk c.settle.new.bay) (g.B.Bay.disk c.set_age_settled.new.bay) (g.B.Bay.count c.args.bay.now) (g.B.Bay.count c.settle.new.bay) (g.B.Bay.count c.set_age_settled.new.bay) c.args.self.now c.settle.new.self c.set_age_settled.new.self
    (call.SetAge c.args.age c.args.now) (report_of (λ _. answer.AgeSet) c.set_age_settled.result) c.in-Ok.ensures c.set_age_settled.ensures

pub returns-in-Err : goal.returns-in-Err
returns-in-Err g c =
    let s = c.args.self.now in
    unserved (g.B.Bay.disk c.args.bay.now) (g.B.Bay.disk c.settle.new.bay) (g.B.Bay.count c.args.bay.now) (g.B.Bay.count c.settle.new.bay) s c.settle.new.self (call.SetAge c.args.age c.args.now) _ c.in-Err.ensures refl
