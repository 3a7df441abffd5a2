-- The label at the front of a volume.
use Rattle.std.specs.Prelude.{ℕ, List, [], ◌∷◌, ◌++◌, codes, replicate}
use Rattle.std.specs.Int.{w64, to_be_bytes}

-- the 64 bytes: `DMVOLIM1`, the volume's serial number of six bytes, its group, its version, the epoch, the size of
-- the volume, and zeros
unfoldable pub label : List ℕ → ℕ → ℕ → ℕ → ℕ → List ℕ
label vsn group version epoch size =
    codes "DMVOLIM1" ++ vsn ++ group ∷ version ∷ [] ++ to_be_bytes w64 epoch ++ to_be_bytes w64 size ++ replicate 32 0

-- the length of a label, where the first zone begins
abbrev pub first_zone : ℕ
first_zone = 64
