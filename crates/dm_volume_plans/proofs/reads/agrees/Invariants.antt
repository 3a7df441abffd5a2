use Rattle.std.proofs.Common.{◌≡◌, ◌+◌, drop}
use Rattle.dm_rules.specs.Known.{agrees_with_known}
use Rattle.dm_volume_plans.proofs.reads.agrees.Given as goal

abbrev pub invariant-loop-index : goal.invariant-loop-index
invariant-loop-index l = agrees_with_known l.known (l.place + l.index) (drop l.index l.bytes) ≡ agrees_with_known l.known l.place l.bytes
