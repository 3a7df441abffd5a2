-- What clauses see of a table: its rows as a finite map, and for how many more of them there is room.
use Rattle.std.specs.Prelude.{ℕ, length, filter, refl}
use Rattle.std.specs.Ordering.{is_lt}
use Rattle.std.specs.Coded.{Coded, code_by, coded×, coded_ℕ}
use Rattle.std.specs.declared.cmp.Ordering.{Ordering}
use Rattle.std.specs.FinMap as map

pub record TableContents {K : Type 0} (R : K → K → Ordering) (V : Type 0) : Type 0 where
  pub rows : map.FinMap R V
  -- how many rows may be put in before the table has to grow
  pub spare : ℕ

-- it is stored as the pair of its fields
abbrev pub contents_code : {K V : Type 0} {R : K → K → Ordering} → Coded K → Coded V → Coded (TableContents R V)
contents_code {K} {V} {R} k v =
    code_by (map.FinMap R V × ℕ) (coded× (map.code k v) coded_ℕ) (λ t. (t.rows, t.spare)) (λ p. record { rows = p.0; spare = p.1 }) (λ _. refl)

-- how many rows lie before a key
unfoldable pub rank : {K V : Type 0} {R : K → K → Ordering} → map.FinMap R V → K → ℕ
rank {R = R} m k = length (filter (λ e. is_lt (R e.0 k)) (map.entries m))
