use Rattle.std.proofs.Common.{◌≡◌}
use Rattle.dm_tables.specs.Rows.{any}
use Rattle.dm_tables.proofs.Loops.{asked}
use Rattle.dm_tables.proofs.numbers.Numbers.any.Given as goal

-- what is left decides
abbrev pub invariant-loop-row : goal.invariant-loop-row
invariant-loop-row g l =
    asked (g.T.Test.passes l.test) l.row-iterator ≡ any (λ _. g.T.Test.passes l.test) l.self
