use Rattle.std.proofs.Common.{⊎_elim}
use Rattle.dm_bench.specs.Systems.{machine, machine_lawful}
use Rattle.dm_spine.proofs.Lists.{rises_union, in_union, union_left, union_right}
use Rattle.dm_spine.proofs.Legality.{union_is_legal}
use Rattle.dm_bench.proofs.laws.union_legal.Goals as goal

pub returns-clause-rises : goal.returns-clause-rises
returns-clause-rises c xs ys r s = rises_union 0 xs ys r s

pub returns-clause-members : goal.returns-clause-members
returns-clause-members c xs ys r s agree a = (
  (λ h. in_union a xs ys h),
  (λ h. ⊎_elim (λ t. union_left 0 a xs ys r agree.numbers t) (λ t. union_right a xs ys t) h),
)

pub returns-clause-legal : goal.returns-clause-legal
returns-clause-legal c s xs ys r t agree l k = union_is_legal machine machine_lawful s xs ys r t agree l k
