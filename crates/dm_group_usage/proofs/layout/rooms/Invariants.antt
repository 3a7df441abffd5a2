use Rattle.std.proofs.Common.{drop}
use Rattle.dm_rules.specs.Plan.{rooms}
use Rattle.dm_group_usage.proofs.Layouts.{Summed}
use Rattle.dm_group_usage.proofs.layout.rooms.Given as goal

abbrev pub invariant-loop-space : goal.invariant-loop-space
invariant-loop-space l = Summed l.sum (rooms l.spaces) l.space-index (drop l.space-index l.spaces)
