use Rattle.std.proofs.Common.{◌≡◌, ◌+◌, ◌-◌, ◌≤◌}
use Rattle.dm_gen.specs.declared.stage.Stage.TheVariants.{Read}
use Rattle.dm_gen.specs.Stages.{left_of}
use Rattle.dm_gen.proofs.stage.next_read.Given as goal

abbrev pub invariant-loop-next : goal.invariant-loop-next
invariant-loop-next l = record {
  within : l.next ≤ l.files + 1;
  same : left_of l.files (Read l.next) ≡ left_of l.files (Read l.number);
}

abbrev pub decreases-loop-next : goal.decreases-loop-next
decreases-loop-next l = l.files + 1 - l.next
