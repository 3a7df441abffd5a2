-- An item that was read.
use Rattle.std.proofs.Common.{◌≡◌, ℕ, zero, suc, ◌<◌, List, [], ◌∷◌, length, get_or, refl, arith}

pub read_again : {A : Type 0} (l : List A) (i : ℕ) (y : A) → i < length l → get_or l i y ≡ get_or l i (get_or l i y)
read_again [] i y small = absurd (omega arith)
read_again (x ∷ l) zero y small = refl
read_again (x ∷ l) (suc i) y small = read_again l i y (omega arith)
