-- The orders that tables have their keys in: total, and only equal keys tie.
use Rattle.std.proofs.Common.{◌≡◌, ◌≢◌, ◌⊎◌, true, false, refl, ap, ◌∙◌, inl, inr, Ordering, Less, Equal, Greater, nat_cmp, is_eq}
use Rattle.std.specs.Cmp.{IsTotalOrder, nat_cmp_total, tied_itself}
use Rattle.std.specs.Cmp.Lexicographic.{slice_cmp, nat_list_cmp_total}
use Rattle.std.specs.FinMap.{IsAntisymmetric, nat_cmp-IsAntisymmetric, slice_cmp-IsAntisymmetric}
use Rattle.std.specs.Ordering.{eq_by_cmp}

pub record KeyOrder {K : Type 0} (R : K → K → Ordering) : Type 0 where
  pub total : IsTotalOrder R
  pub same : IsAntisymmetric R

-- of keys that are numbers
pub numbers : KeyOrder nat_cmp
numbers = record { total = nat_cmp_total; same = nat_cmp-IsAntisymmetric }

-- of keys that are texts
pub paths : KeyOrder (slice_cmp nat_cmp)
paths = record { total = nat_list_cmp_total; same = slice_cmp-IsAntisymmetric nat_cmp-IsAntisymmetric }

module _ {K : Type 0} {R : K → K → Ordering} (o : KeyOrder R) where
  -- two keys are equal or not
  pub same_or : (k q : K) → (q ≡ k) ⊎ (q ≢ k)
  same_or k q =
      elim (R q k) as (λ r. R q k ≡ r → (q ≡ k) ⊎ (q ≢ k)) [
        | Less ↦ λ e. inr (λ same. cc (e, tied_itself o.total k, ap (λ x. R x k) same))
        | Equal ↦ λ e. inl (o.same q k e)
        | Greater ↦ λ e. inr (λ same. cc (e, tied_itself o.total k, ap (λ x. R x k) same))
      ] refl

  -- the test of equal keys
  pub tied : (k q : K) → q ≡ k → eq_by_cmp R q k ≡ true
  tied k q same = ap (λ x. is_eq (R x k)) same ∙ ap is_eq (tied_itself o.total k)

  -- and of keys that differ
  pub apart : (k q : K) → q ≢ k → eq_by_cmp R q k ≡ false
  apart k q differ =
      elim (R q k) as (λ r. R q k ≡ r → is_eq r ≡ false) [
        | Less ↦ λ e. refl
        | Equal ↦ λ e. absurd (differ (o.same q k e))
        | Greater ↦ λ e. refl
      ] refl

  -- keys that tie are equal
  pub same_of : (q k : K) → eq_by_cmp R q k ≡ true → q ≡ k
  same_of q k t =
      elim (same_or k q) [
        | inl same ↦ same
        | inr differ ↦ let f = apart k q differ in cc
      ]
