use Rattle.std.proofs.Common.{◌≡◌, [], ◌∷◌}
use Rattle.dm_model.specs.Begin.{empty_joint}
use Rattle.dm_bench.proofs.tests.empty_system.Given as goal

abbrev pub ghosts-choose : goal.ghosts-choose
ghosts-choose a = record { fits = λ j. j ≡ empty_joint a.about.now.daemon.now (a.about.now.group.now ∷ []) }
