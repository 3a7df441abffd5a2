-- The two kinds of tables: by number, and by a text.
use Rattle.std.specs.Prelude.{ℕ, Bool, List, nat_eq}
use Rattle.std.specs.FinMap as map
use Rattle.std.specs.Ordering.{nat_cmp}
use Rattle.std.specs.Cmp.Lexicographic.{slice_cmp}
use lib.Pointwise.{pointwise}

abbrev pub ByNumber : Type 0 → Type 0
ByNumber X = map.FinMap nat_cmp X

abbrev pub ByName : Type 0 → Type 0
ByName X = map.FinMap (slice_cmp nat_cmp) X

-- whether two texts are the same
abbrev pub same_text : List ℕ → List ℕ → Bool
same_text xs ys = pointwise nat_eq xs ys
