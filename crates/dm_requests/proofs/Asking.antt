-- A loop over the rows by their places, which asks each.
use Rattle.std.proofs.Common.{◌≡◌, ◌≤◌, ◌+◌, subst, ℕ, zero, suc, Bool, true, false, None, Some, List, [], ◌∷◌, drop, slice_get, sym, refl, Ordering}
use Rattle.std.specs.FinMap.{FinMap, entries, len, len-entries}
use Rattle.std.proofs.Common.{arith}
use Rattle.std.proofs.lemmas.Option.{slice_get_past}
use Rattle.dm_tables.specs.Rows.{any}
use Rattle.dm_tables.proofs.Loops.{asked, asked_on, asked_here, asked_end, asked_whole}
use Rattle.dm_tables.proofs.Orders.{KeyOrder}

drop_read : {X : Type 0} (xs : List X) (n : ℕ) (x : X) → Some x ≡ slice_get xs n → drop n xs ≡ x ∷ drop (suc n) xs
drop_read [] n x e = cc
drop_read (y ∷ ys) zero x e = cc
drop_read (y ∷ ys) (suc n) x e = drop_read ys n x e

drop_end : {X : Type 0} (xs : List X) (n : ℕ) → None ≡ slice_get xs n → drop n xs ≡ []
drop_end [] zero e = refl
drop_end [] (suc n) e = refl
drop_end (y ∷ ys) zero e = cc
drop_end (y ∷ ys) (suc n) e = drop_end ys n e

module _ {K X : Type 0} {R : K → K → Ordering} (o : KeyOrder R) (p : X → Bool) where
  -- what is left decides
  abbrev pub Asking : ℕ → FinMap R X → Type 0
  Asking at m = asked p (drop at (entries m)) ≡ any (λ _. p) m

  pub asking_begun : (m : FinMap R X) → Asking 0 m
  asking_begun m = asked_whole o p (entries m) m refl

  pub asking_on : (m : FinMap R X) (at : ℕ) (k : K) (x : X) → Some (k, x) ≡ slice_get (entries m) at → p x ≡ false → Asking at m → Asking (at + 1) m
  asking_on m at k x is fails so_far =
      let next : suc at ≡ at + 1 = omega arith in
      subst (λ n. Asking n m) next (asked_on p (drop at (entries m)) (drop (suc at) (entries m)) k x _ (drop_read (entries m) at (k, x) is) fails so_far)

  pub asking_here : (m : FinMap R X) (at : ℕ) (k : K) (x : X) → Some (k, x) ≡ slice_get (entries m) at → p x ≡ true → Asking at m → true ≡ any (λ _. p) m
  asking_here m at k x is here so_far = asked_here p (drop at (entries m)) (drop (suc at) (entries m)) k x _ (drop_read (entries m) at (k, x) is) here so_far

  pub asking_end : (m : FinMap R X) (at : ℕ) → None ≡ slice_get (entries m) at → Asking at m → false ≡ any (λ _. p) m
  asking_end m at is so_far = asked_end p (drop at (entries m)) _ (drop_end (entries m) at is) so_far

  pub asking_past : (m : FinMap R X) (at : ℕ) → len m ≤ at → Asking at m → false ≡ any (λ _. p) m
  asking_past m at past so_far =
      asking_end m at (sym (slice_get_past (entries m) at (let l = len-entries m in let q = past in omega arith))) so_far
