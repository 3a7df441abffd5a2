-- What is known of a volume: which byte stands at which place. At every other place may stand any byte.
use Rattle.std.specs.Prelude.{◌≡◌, ℕ, ◌+◌, ◌<◌, nat_le, nat_lt, ◌==◌, ◌&&◌, Bool, true, not, Option, None, Some, List, [], ◌∷◌, length, slice_index, zero, suc}
use Rattle.std.specs.FinMap as map
use Rattle.std.specs.Ordering.{nat_cmp}

abbrev pub Known : Type 0
Known = map.FinMap nat_cmp ℕ

-- whether a place lies in the n places from `place` on
abbrev pub within : ℕ → ℕ → ℕ → Bool
within place n p = nat_le place p && nat_lt p (place + n)

-- the bytes were written from `place` on: they are known there
unfoldable pub known_with_write : ℕ → List ℕ → Known → Known
known_with_write place [] known = known
known_with_write place (b ∷ bs) known = map.insert (known_with_write (place + 1) bs known) place b

-- a write of the n places from `place` on failed: what stands there is not known
unfoldable pub known_without_range : ℕ → ℕ → Known → Known
known_without_range place n known = map.retain_keys known (λ p. not (within place n p))

-- whether this byte may stand at a place of which this is known
abbrev pub may_be : Option ℕ → ℕ → Bool
may_be None b = true
may_be (Some known) b = known == b

-- whether the bytes agree, from `place` on, with each place that is known
unfoldable pub agrees_with_known : Known → ℕ → List ℕ → Bool
agrees_with_known known place [] = true
agrees_with_known known place (b ∷ bs) = may_be (map.get known place) b && agrees_with_known known (place + 1) bs

-- a byte and bytes, where both are known
abbrev pub byte_and : Option ℕ → Option (List ℕ) → Option (List ℕ)
byte_and (Some b) (Some bs) = Some (b ∷ bs)
byte_and (Some b) None = None
byte_and None bs = None

-- the n bytes from `place` on, where each is known
unfoldable pub known_bytes : Known → ℕ → ℕ → Option (List ℕ)
known_bytes known place zero = Some []
known_bytes known place (suc n) = byte_and (map.get known place) (known_bytes known (place + 1) n)

-- the content of a volume's file has each known byte at its place, before its end
abbrev pub HasKnown : Known → List ℕ → Type 0
HasKnown known content = (place b : ℕ) → map.get known place ≡ Some b → (place < length content) × (slice_index content place ≡ b)
