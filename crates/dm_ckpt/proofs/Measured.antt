-- Summing the lengths of rows one after another.
use Rattle.std.proofs.Common.{◌≡◌, ℕ, ◌+◌, ◌<◌, ◌≤◌, List, [], ◌∷◌, length, drop, get_or, sym, ◌∙◌, ap, subst, arith}
use Rattle.std.proofs.lemmas.List.{drop_more, drop_all}
use Rattle.std.specs.List.{AllByRecursion}
use Rattle.dm_journal.specs.Grammar.{Fits, longest}
use Rattle.dm_ckpt.specs.Area.{body_length, body_limit}

-- the first k rows fit, and have this sum
pub record Sums (rows : List (List ℕ)) (k sum : ℕ) : Type 0 where
  pub whole : body_length rows ≡ sum + body_length (drop k rows)
  pub fits : AllByRecursion Fits (drop k rows) → AllByRecursion Fits rows
  pub rest_fits : AllByRecursion Fits rows → AllByRecursion Fits (drop k rows)

pub sums_start : (rows : List (List ℕ)) → Sums rows 0 0
sums_start rows = record { whole = omega arith; fits = λ a. a; rest_fits = λ a. a }

module _ (rows : List (List ℕ)) (k sum : ℕ) (s : Sums rows k sum) (below : k < length rows) where
  next : drop k rows ≡ get_or rows k [] ∷ drop (k + 1) rows
  next = drop_more rows k [] below

  rest : body_length (drop k rows) ≡ 4 + length (get_or rows k []) + body_length (drop (k + 1) rows)
  rest = ap body_length next

  pub sums_fit : AllByRecursion Fits rows → Fits (get_or rows k [])
  sums_fit all = (subst (λ (l : List (List ℕ)). AllByRecursion Fits l) next (s.rest_fits all)).0

  pub sums_more : (n : ℕ) → n ≡ length (get_or rows k []) → n ≤ longest → Sums rows (k + 1) (sum + (n + 4))
  sums_more n is small = record {
    whole = omega (arith, s.whole, rest, is);
    fits = λ all. s.fits (subst (λ (l : List (List ℕ)). AllByRecursion Fits l) (sym next) (omega (arith, is, small), all));
    rest_fits = λ all. (subst (λ (l : List (List ℕ)). AllByRecursion Fits l) next (s.rest_fits all)).1;
  }

  -- the sum is too great, whatever follows
  pub sums_over : (n : ℕ) → n ≡ length (get_or rows k []) → body_limit ≤ sum + (n + 4) → body_limit ≤ body_length rows
  sums_over n is over = omega (arith, s.whole, rest, is, over)

pub sums_end : (rows : List (List ℕ)) (k sum : ℕ) → Sums rows k sum → length rows ≤ k → AllByRecursion Fits rows × (body_length rows ≡ sum)
sums_end rows k sum s past =
    let none : drop k rows ≡ [] = drop_all k rows past in (
      s.fits (subst (λ (l : List (List ℕ)). AllByRecursion Fits l) (sym none) tt),
      s.whole ∙ omega (arith, ap body_length none),
    )
