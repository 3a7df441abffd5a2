use Rattle.dm_base.specs.declared.identifier.Secs.{Secs}
use Rattle.dm_daemon.proofs.Always.{always_ready}
use Rattle.dm_daemon.specs.State.{state_of}
use Rattle.dm_model.specs.declared.call.DaemonCall.TheVariants as call
use Rattle.dm_daemon.proofs.tests.age_is_set.Goals as goal

pub set_age-result-requires : goal.set_age-result-requires
set_age-result-requires c = record {
  stands = c.requires;
  ready = always_ready (state_of c.args.daemon.now) (call.SetAge 7 (record { 0 = 9 })) tt;
}
