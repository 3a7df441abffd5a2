use Rattle.std.proofs.Common.{◌≡◌}
use Rattle.dm_tables.specs.Rows.{changed, map_values}
use Rattle.dm_tables.proofs.Copies.{poured}
use Rattle.dm_tables.proofs.texts.Texts.mapped.Given as goal

-- the rows so far, with those that are left put in, each changed, are the whole
abbrev pub invariant-loop-key : goal.invariant-loop-key
invariant-loop-key g l =
    poured (changed (λ _. g.F.Change.changed l.change) l.key-iterator) l.changed ≡ map_values (λ _. g.F.Change.changed l.change) l.fn.self
