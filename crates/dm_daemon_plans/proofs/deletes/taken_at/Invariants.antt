use Rattle.std.proofs.Common.{◌≡◌, ◌++◌, ℕ}
use Rattle.dm_base.specs.declared.identifier.Bfid.{Bfid}
use Rattle.dm_durable.specs.declared.daemon.Entry.{Entry}
use Rattle.dm_model.specs.declared.state.Daemon.{Daemon}
use Rattle.dm_model.specs.DaemonCalls.{is_taken_at, taken_at}
use Rattle.dm_daemon_plans.proofs.Lists.{picked}
use Rattle.dm_daemon_plans.proofs.deletes.taken_at.Given as goal

abbrev pub bfid_in : ℕ × Entry → Bfid
bfid_in e = record { 0 = e.0 }

abbrev pub invariant-loop-number : goal.invariant-loop-number
invariant-loop-number l = l.taken.items ++ picked bfid_in (λ e. is_taken_at l.daemon l.now.0 e.0 e.1) l.number-iterator ≡ taken_at l.daemon l.now.0
