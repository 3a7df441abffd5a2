use Rattle.std.proofs.Common.{◌≡◌, drop}
use Rattle.dm_daemon_tables.specs.Tables.{state_of}
use Rattle.dm_daemon_conditions.specs.Tests.{least_after, may_take}
use Rattle.dm_daemon_conditions.proofs.deletes.may_take.Given as goal

-- what is left, behind the last one, decides as the whole does
abbrev pub invariant-loop-bfid : goal.invariant-loop-bfid
invariant-loop-bfid l =
    may_take (state_of l.tables) l.now.0 (least_after l.last) (drop l.bfid-index l.bfids) ≡ may_take (state_of l.tables) l.now.0 0 l.bfids
