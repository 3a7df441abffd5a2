-- Where a line ends.
use Rattle.std.proofs.Common.{◌≡◌, ℕ, zero, suc, ◌⊎◌, inl, inr, ◌<◌, List, [], ◌∷◌, ◌++◌, length, take, refl, ap, arith}
use Rattle.std.proofs.lemmas.Bool.{cases_eq}
use Rattle.dm_proto.specs.Words.{HasNoEnd}

-- a line ends at the first line feed, so two spellings of one input have one first line
pub same_line : (a b x y : List ℕ) → HasNoEnd a → HasNoEnd b → a ++ 10 ∷ x ≡ b ++ 10 ∷ y → (a ≡ b) × (x ≡ y)
same_line [] [] x y p q e = (refl, cc)
same_line [] (d ∷ b) x y p q e = absurd (q.0 (cc))
same_line (c ∷ a) [] x y p q e = absurd (p.0 (cc))
same_line (c ∷ a) (d ∷ b) x y p q e =
    let tails : a ++ 10 ∷ x ≡ b ++ 10 ∷ y = cc in
    let r = same_line a b x y p.1 q.1 tails in
    (cc, r.1)

-- what has no line feed has none inside
pub no_end_inside : (a b x : List ℕ) → HasNoEnd a → a ≡ b ++ 10 ∷ x → ⊥
no_end_inside [] [] x p e = cc
no_end_inside [] (d ∷ b) x p e = cc
no_end_inside (c ∷ a) [] x p e = p.0 (cc)
no_end_inside (c ∷ a) (d ∷ b) x p e = let tails : a ≡ b ++ 10 ∷ x = cc in no_end_inside a b x p.1 tails

-- a front without a line feed is no longer than the first line
pub no_end_front : (a b x y : List ℕ) → HasNoEnd a → length b < length a → a ++ x ≡ b ++ 10 ∷ y → ⊥
no_end_front [] b x y p l e = omega arith
no_end_front (c ∷ a) [] x y p l e = p.0 (cc)
no_end_front (c ∷ a) (d ∷ b) x y p l e =
    let tails : a ++ x ≡ b ++ 10 ∷ y = cc in no_end_front a b x y p.1 (omega arith) tails

pub no_end-append : (a b : List ℕ) → HasNoEnd a → HasNoEnd b → HasNoEnd (a ++ b)
no_end-append [] b p q = q
no_end-append (c ∷ a) b p q = (p.0, no_end-append a b p.1 q)

pub no_end-take : (n : ℕ) (a : List ℕ) → HasNoEnd a → HasNoEnd (take n a)
no_end-take zero a p = tt
no_end-take (suc n) [] p = tt
no_end-take (suc n) (c ∷ a) p = (p.0, no_end-take n a p.1)

-- what a list begins with: a line and its line feed, or there is none
pub record FirstLine (bytes line rest : List ℕ) : Type 0 where
  pub no_end : HasNoEnd line
  pub spelled : bytes ≡ line ++ 10 ∷ rest

pub first_line : (bytes : List ℕ) → ((line : List ℕ) × (rest : List ℕ) × FirstLine bytes line rest) ⊎ HasNoEnd bytes
first_line [] = inr tt
first_line (b ∷ bytes) =
    elim (cases_eq b 10) [
      | inl e ↦ inl ([], bytes, record { no_end = tt; spelled = ap (λ x. x ∷ bytes) e })
      | inr e ↦ elim (first_line bytes) [
        | inl f ↦ inl (b ∷ f.0, f.1, record { no_end = (e, f.2.no_end); spelled = ap (λ bs. b ∷ bs) f.2.spelled })
        | inr h ↦ inr (e, h)
      ]
    ]
