-- Which bytes of its bitfile each chunk has.
use Rattle.std.specs.Prelude.{◌≡◌, ℕ, List, None, Some}
use Rattle.std.specs.Prelude as prelude
use Rattle.std.specs.FinMap as map
use Rattle.dm_base.specs.declared.volume.Chunk.{Chunk}
use Rattle.dm_tables.specs.Rows.{EachRow}
use Rattle.dm_durable.specs.declared.group.BitfileRow.{BitfileRow}
use Rattle.dm_durable.specs.Tables.{ByNumber}
use Rattle.dm_model.specs.declared.state.Joint.{Joint}

-- where a chunk begins in its bitfile, and how many bytes it has
abbrev pub span_of : Chunk → ℕ × ℕ
span_of c = (c.offset, c.len)

-- the bitfile is there, in chunks of these spans
pub record RowHasSpans (bitfiles : ByNumber BitfileRow) (b : ℕ) (spans : List (ℕ × ℕ)) : Type 0 where
  pub row : BitfileRow
  pub is : map.get bitfiles b ≡ Some row
  pub same : prelude.map span_of row.chunks ≡ spans

-- so it is in a group
abbrev pub GroupHasSpans : Joint → ℕ → ℕ → List (ℕ × ℕ) → Type 0
GroupHasSpans j g b spans = EachRow j.sides (λ h s. h ≡ g → RowHasSpans s.group.tables.bitfiles b spans)

-- no hard delete took the bitfile
abbrev pub IsUntaken : Joint → ℕ → Type 0
IsUntaken j b = map.get j.history.taken b ≡ None
