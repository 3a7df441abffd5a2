use Rattle.std.proofs.Common.{◌≡◌, ◌++◌, map, take, drop}
use Rattle.dm_rows.proofs.Methods.{with_edit}
use Rattle.dm_rows.proofs.places.edit_all.Given as goal

abbrev pub invariant-loop-row : goal.invariant-loop-row
invariant-loop-row g l = l.rows ≡ map (with_edit (g.F.Edit.edited l.edit)) (take l.row-index l.fn.rows) ++ drop l.row-index l.fn.rows
