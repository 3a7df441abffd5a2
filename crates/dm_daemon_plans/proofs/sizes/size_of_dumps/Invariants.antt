use Rattle.dm_durable.specs.Daemon.{size_of_dumps}
use Rattle.dm_durable.specs.Dumps.{dump_size}
use Rattle.dm_daemon_plans.proofs.Sums.{Summing}
use Rattle.dm_daemon_plans.proofs.sizes.size_of_dumps.Given as goal

abbrev pub invariant-loop-dump : goal.invariant-loop-dump
invariant-loop-dump l = Summing dump_size l.sum l.dump-iterator (size_of_dumps l.dumps)
