-- The rows as the list of their boxes, and where in it the row of a key stands.
use Rattle.std.specs.Prelude.{◌≡◌, ℕ, suc, List, [], ◌∷◌, Option, None, Some, Result, Ok, Err, slice_get, slice_set}
use Rattle.std.specs.Global.{Box}
use Rattle.std.specs.FinMap.Entries.{by_order}
use Rattle.std.specs.declared.cmp.Ordering.{Ordering}

-- the row in a box
abbrev pub row_of : {K V : Type 0} → Box (K × V) → K × V
row_of b = b.value

-- the row of this key, where there is a value
abbrev pub with_key : {K V : Type 0} → K → Option V → Option (K × V)
with_key k None = None
with_key k (Some v) = Some (k, v)

-- a place one further on
abbrev pub one_on : Result ℕ ℕ → Result ℕ ℕ
one_on (Ok i) = Ok (suc i)
one_on (Err i) = Err (suc i)

-- Ok of the place where the row of a key stands, or Err of the place where it would have to be put
abbrev pub place_of : {K V : Type 0} → (K → K → Ordering) → K → List (K × V) → Result ℕ ℕ
place_of R k [] = Err 0
place_of R k (e ∷ es) = by_order (R k e.0) (Err 0) (Ok 0) (one_on (place_of R k es))

-- the row at the place is changed by f, its key stays
abbrev pub EditsAt : {K V : Type 0} → (V → V) → ℕ → List (K × V) → List (K × V) → Type 0
EditsAt {K} {V} f i es fs = (e : K × V) × (slice_get es i ≡ Some e) × (fs ≡ slice_set es i (e.0, f e.1))

-- the row in a box, whose key is known by its text
abbrev pub text_row_of : {K V : Type 0} → (K → List ℕ) → Box (K × V) → List ℕ × V
text_row_of text b = (text b.value.0, b.value.1)
