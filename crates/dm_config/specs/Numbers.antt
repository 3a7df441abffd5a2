-- The numbers of a group, in two parts.
use Rattle.std.specs.Prelude.{◌≡◌, ℕ, Some}
use Rattle.toml.specs.Data.{Members}
use Rattle.dm_config.specs.declared.group.Numbers.{Numbers}
use Rattle.dm_config.specs.declared.group.Size.{Size}
use Rattle.dm_config.specs.Rows.{drives_in, chunk_in, sparse_in, hold_in, size_in, format_in}

pub record HasNumbers (g : Members) (n : Numbers) : Type 0 where
  pub drives : drives_in g ≡ Some n.drives
  pub chunk : chunk_in g ≡ Some n.chunk
  pub sparse : sparse_in g ≡ Some n.sparse
  pub hold : hold_in g ≡ Some n.hold

pub record HasSize (volumes : ℕ) (g : Members) (s : Size) : Type 0 where
  pub size : size_in volumes g ≡ Some s.size
  pub format : format_in g ≡ Some s.format
