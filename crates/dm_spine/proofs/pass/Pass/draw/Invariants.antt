use Rattle.std.proofs.Common.{Some}
use Rattle.dm_spine.proofs.pass.Pass.draw.Given as goal

abbrev pub ghosts-draw_at : goal.ghosts-draw_at
ghosts-draw_at g a = record { said = Some (a.table.now.shared.key, g.N.Note.entry a.note.now) }
