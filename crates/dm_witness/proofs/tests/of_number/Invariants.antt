use Rattle.std.proofs.Common.{◌≡◌}
use Rattle.dm_witness.proofs.tests.of_number.Given as goal

abbrev pub ghosts-choose : goal.ghosts-choose
ghosts-choose a = record { fits = λ x. x ≡ a.about.now }
