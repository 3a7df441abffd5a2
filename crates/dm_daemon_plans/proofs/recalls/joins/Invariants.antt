use Rattle.std.proofs.Common.{◌≡◌, ◌+◌, length}
use Rattle.std.specs.FinMap.{entries}
use Rattle.dm_model.specs.DaemonCalls.{joins}
use Rattle.dm_daemon_plans.proofs.recalls.joins.Given as goal

-- the parts that are left join the bytes that are left as all do all
abbrev pub invariant-loop-offset : goal.invariant-loop-offset
invariant-loop-offset l = record {
  length_left : l.at + length l.rest ≡ length l.bytes;
  join_left : joins l.at l.offset-iterator l.rest ≡ joins 0 (entries l.parts) l.bytes;
}
