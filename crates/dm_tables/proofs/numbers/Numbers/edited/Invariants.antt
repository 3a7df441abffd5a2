use Rattle.std.proofs.Common.{◌≡◌}
use Rattle.dm_tables.specs.Rows.{changed, map_values}
use Rattle.dm_tables.proofs.Copies.{poured}
use Rattle.dm_tables.proofs.numbers.Numbers.edited.Given as goal

-- the rows so far, with those that are left put in, each edited, are the whole
abbrev pub invariant-loop-key : goal.invariant-loop-key
invariant-loop-key g l =
    poured (changed (g.E.TryEditAt.edited l.edit) l.key-iterator) l.edited ≡ map_values (g.E.TryEditAt.edited l.edit) l.fn.self
