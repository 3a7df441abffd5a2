use Rattle.std.proofs.Common.{◌≡◌, drop}
use Rattle.dm_daemon_conditions.specs.Tests.{are_groups}
use Rattle.dm_daemon_conditions.proofs.puts.are_groups.Given as goal

-- what is left decides as the whole does
abbrev pub invariant-loop-group : goal.invariant-loop-group
invariant-loop-group l = are_groups (drop l.group-index l.groups) ≡ are_groups l.groups
