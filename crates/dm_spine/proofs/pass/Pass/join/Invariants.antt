use Rattle.std.proofs.Common.{Some}
use Rattle.dm_spine.proofs.pass.Pass.join.Given as goal

abbrev pub ghosts-join_at : goal.ghosts-join_at
ghosts-join_at g a = record { said = Some a.table.now.shared.key }
