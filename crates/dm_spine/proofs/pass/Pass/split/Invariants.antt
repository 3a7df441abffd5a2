use Rattle.std.proofs.Common.{Some}
use Rattle.dm_spine.proofs.pass.Pass.split.Given as goal

abbrev pub ghosts-cut_at : goal.ghosts-cut_at
ghosts-cut_at g a = record { said = Some a.names.now.items }
