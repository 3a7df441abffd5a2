use Rattle.std.proofs.Common.{Some}
use Rattle.dm_spine.proofs.pass.Pass.finish.Given as goal

abbrev pub ghosts-look_at : goal.ghosts-look_at
ghosts-look_at g a = record { said = Some a.table.now.shared.key }
