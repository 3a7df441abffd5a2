use Rattle.std.proofs.Common.{◌≤◌, length, refl, sym, subst, ◌∷◌, []}
use Rattle.dm_model.specs.Begin.{empty_joint}
use Rattle.dm_model.specs.declared.state.Joint.{Joint}
use Rattle.dm_model.specs.Names.{fixed_names}
use Rattle.dm_bench.proofs.Looking.{few_names}
use Rattle.dm_bench.proofs.tests.empty_system.Goals as goal

pub choose-requires : goal.choose-requires
choose-requires c = (empty_joint c.args.daemon.now (c.args.group.now ∷ []), refl)

pub of-requires : goal.of-requires
of-requires c =
    subst (λ (j : Joint). length (fixed_names j 2) ≤ 32768) (sym c.in_ok-loaded.ensures) (few_names c.args.daemon.now c.args.group.now c.requires)
