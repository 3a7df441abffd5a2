-- Sums over the chunks of a volume, and what of them is found.
use Rattle.std.specs.Prelude.{ℕ, ◌+◌, cond, List, [], ◌∷◌}
use Rattle.dm_base.specs.declared.volume.Chunk.{Chunk}
use Rattle.dm_durable.specs.declared.group.BitfileRow.{BitfileRow}
use Rattle.dm_durable.specs.Group.{is_on}
use Rattle.dm_durable.specs.Tables.{ByNumber}
use Rattle.dm_rules.specs.Numbers.{lesser}
use Rattle.dm_tables.specs.Totals.{total}

-- what a bitfile's chunks on the volume come to, each its length and `more`
abbrev pub measure_in : ℕ → List ℕ → List Chunk → ℕ
measure_in more vsn [] = 0
measure_in more vsn (c ∷ cs) = cond (is_on vsn c) (more + c.len + measure_in more vsn cs) (measure_in more vsn cs)

-- what all chunks there come to
abbrev pub measure_on : ByNumber BitfileRow → ℕ → List ℕ → ℕ
measure_on bitfiles more vsn = total (λ row. measure_in more vsn row.chunks) bitfiles

-- the greatest number of 128 bits
abbrev pub last_u128 : ℕ
last_u128 = 340282366920938463463374607431768211455

-- a sum as 128 bits hold it: one that passes them stands at their last value
abbrev pub summed : ℕ → ℕ
summed n = lesser n last_u128
