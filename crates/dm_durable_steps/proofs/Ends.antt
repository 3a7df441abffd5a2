-- The ends of volumes, raised chunk by chunk.
use Rattle.std.proofs.Common.{◌≡◌, ℕ, ◌+◌, ◌<◌, ◌≤◌, max, min, List, length, drop, get_or, sym, ap, ◌∙◌, arith}
use Rattle.std.proofs.lemmas.List.{at_drop_more}
use Rattle.std.proofs.Math.ListN.{drop_of_length-le}
use Rattle.dm_base.specs.declared.volume.Chunk.{Chunk}
use Rattle.dm_durable.specs.declared.group.VolumeRow.{VolumeRow}
use Rattle.dm_tables.specs.Rows.{adjust}
use Rattle.dm_durable.specs.Tables.{ByName}
use Rattle.dm_rules.specs.Numbers.{as_word, greater}
use Rattle.dm_durable.specs.Group.{with_ends_behind, with_end_behind}

pub raised_more : (chunks : List Chunk) (i : ℕ) (d : Chunk) (volumes new whole : ByName VolumeRow) → i < length chunks → new ≡ adjust volumes (get_or chunks i d).vsn.0 (with_end_behind (get_or chunks i d)) → with_ends_behind (drop i chunks) volumes ≡ whole → with_ends_behind (drop (i + 1) chunks) new ≡ whole
unfolding with_ends_behind
raised_more chunks i d volumes new whole left is was =
    ap (with_ends_behind (drop (i + 1) chunks)) is ∙ sym (at_drop_more (λ l. with_ends_behind l volumes) chunks i d left) ∙ was

pub raised_all : (chunks : List Chunk) (i : ℕ) (volumes whole : ByName VolumeRow) → length chunks ≤ i → with_ends_behind (drop i chunks) volumes ≡ whole → volumes ≡ whole
unfolding with_ends_behind
raised_all chunks i volumes whole end was = sym (ap (λ l. with_ends_behind l volumes) (drop_of_length-le chunks end)) ∙ was

pub greater_max : (m n : ℕ) → max m n ≡ greater m n
greater_max m n = omega arith

-- a sum that stands at the last value of 64 bits
pub word_min : (n : ℕ) → min n 18446744073709551615 ≡ as_word n
word_min n = omega arith
