use Rattle.std.proofs.Common.{◌≡◌, ◌+◌, ◌-◌, ◌≤◌}
use Rattle.dm_gen.specs.declared.stage.Stage.TheVariants.{Remove}
use Rattle.dm_gen.specs.Stages.{left_of}
use Rattle.dm_gen.proofs.stage.next_removed.Given as goal

abbrev pub invariant-loop-next : goal.invariant-loop-next
invariant-loop-next l = record {
  within : l.next ≤ l.files + 1;
  same : left_of l.files (Remove l.next) ≡ left_of l.files (Remove l.number);
}

abbrev pub decreases-loop-next : goal.decreases-loop-next
decreases-loop-next l = l.files + 1 - l.next
