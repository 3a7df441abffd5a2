-- Whether a chunk is on a volume.
use Rattle.std.proofs.Common.{◌≡◌, ◌≢◌, ℕ, true, false, List, refl, sym}
use lib.Pointwise.{bytes_decides}
use Rattle.dm_base.specs.declared.volume.Chunk.{Chunk}
use Rattle.dm_durable.specs.Group.{is_on}

pub on_its : (c : Chunk) (vsn : List ℕ) → vsn ≡ c.vsn.0 → is_on vsn c ≡ true
on_its c vsn e = (bytes_decides c.vsn.0 vsn).1 (sym e)

pub not_on : (c : Chunk) (vsn : List ℕ) → vsn ≢ c.vsn.0 → is_on vsn c ≡ false
not_on c vsn differ =
    elim (is_on vsn c) as (λ t. is_on vsn c ≡ t → t ≡ false) [
      | true ↦ λ e. absurd (differ (sym ((bytes_decides c.vsn.0 vsn).0 e)))
      | false ↦ λ e. refl
    ] refl
