use Rattle.std.proofs.Common.{◌≡◌, drop}
use Rattle.dm_durable.specs.Daemon.{with_dropping}
use Rattle.dm_durable_steps.proofs.entries.drop_all.Given as goal

abbrev pub invariant-loop-bfid : goal.invariant-loop-bfid
invariant-loop-bfid l = with_dropping (drop l.bfid-index l.bfids) l.entries ≡ with_dropping l.bfids l.fn.entries
