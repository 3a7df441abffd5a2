-- The bytes of a volume that are known, written and forgotten place by place.
use Rattle.std.proofs.Common.{◌≡◌, ◌≢◌, inl, inr, ℕ, ◌+◌, ◌<◌, ◌≤◌, Bool, true, false, cond, not, List, length, drop, get_or, None, sym, ◌∙◌, ap, subst, arith}
use Rattle.std.proofs.Math.Seq.{drop-length}
use Rattle.std.proofs.lemmas.List.{drop_more}
use Rattle.std.proofs.lemmas.Bool.Decides.{nat_tests}
use Rattle.std.specs.FinMap as map
use Rattle.dm_tables.proofs.Orders.{numbers, same_or}
use Rattle.dm_tables.proofs.Rows.{same_rows, removed-here, removed-beside}
use Rattle.dm_rules.specs.Known.{Known, within, known_with_write, known_without_range}

-- no byte is written yet
pub written_begin : (place : ℕ) (bytes : List ℕ) (m : Known) → m ≡ known_with_write (place + length bytes) (drop (length bytes) bytes) m
unfolding known_with_write
written_begin place bytes m = sym (ap (λ (bs : List ℕ). known_with_write (place + length bytes) bs m) (drop-length bytes))

-- the byte before those that are written
one_more : (place i b : ℕ) (bytes : List ℕ) (m : Known) → i < length bytes → get_or bytes i 0 ≡ b
    → map.insert (known_with_write (place + (i + 1)) (drop (i + 1) bytes) m) (place + i) b ≡ known_with_write (place + i) (drop i bytes) m
unfolding known_with_write
one_more place i b bytes m below is =
    let at : place + (i + 1) ≡ place + i + 1 = omega arith in
    ap (λ (p : ℕ). map.insert (known_with_write p (drop (i + 1) bytes) m) (place + i) b) at
    ∙ ap (λ (v : ℕ). map.insert (known_with_write (place + i + 1) (drop (i + 1) bytes) m) (place + i) v) (sym is)
    ∙ sym (ap (λ (bs : List ℕ). known_with_write (place + i) bs m) (drop_more bytes i 0 below))

pub written_on : (place i left b : ℕ) (bytes : List ℕ) (m n back : Known) → left ≡ i + 1 → i < length bytes → get_or bytes i 0 ≡ b
    → n ≡ known_with_write (place + left) (drop left bytes) m → back ≡ map.insert n (place + i) b → back ≡ known_with_write (place + i) (drop i bytes) m
written_on place i left b bytes m n back next below is so_far put =
    let before : n ≡ known_with_write (place + (i + 1)) (drop (i + 1) bytes) m =
    subst (λ (l : ℕ). n ≡ known_with_write (place + l) (drop l bytes) m) next so_far in
    put ∙ ap (λ (k : Known). map.insert k (place + i) b) before ∙ one_more place i b bytes m below is

-- all are written
pub written_end : (place left : ℕ) (bytes : List ℕ) (m n : Known) → left ≡ 0 → n ≡ known_with_write (place + left) (drop left bytes) m → n ≡ known_with_write place bytes m
written_end place left bytes m n none so_far =
    let at : place + 0 ≡ place = omega arith in
    subst (λ (l : ℕ). n ≡ known_with_write (place + l) (drop l bytes) m) none so_far
    ∙ ap (λ (p : ℕ). known_with_write p bytes m) at

kept : (place n : ℕ) (m : Known) (q : ℕ) → map.get (known_without_range place n m) q ≡ cond (not (within place n q)) (map.get m q) None
unfolding known_without_range
kept place n m q =
    map.get-retain_keys m (λ p. not (within place n p)) q
    (λ x tied. ap (λ (p : ℕ). not (within place n p)) (sym (map.nat_cmp-IsAntisymmetric q x tied)))

-- nothing is forgotten yet
out_of_none : (place q : ℕ) → not (within place 0 q) ≡ true
out_of_none place q = grind (arith, nat_tests)

pub forgotten_begin : (place : ℕ) (m : Known) → m ≡ known_without_range place 0 m
forgotten_begin place m =
    same_rows numbers _ _ (λ q. sym (kept place 0 m q ∙ ap (λ (b : Bool). cond b (map.get m q) None) (out_of_none place q)))

in_range : (place i q : ℕ) → q ≡ place + i → not (within place (i + 1) q) ≡ false
in_range place i q same =
    let low : place ≤ q = omega arith in
    let high : q < place + (i + 1) = omega arith in
    grind (arith, nat_tests)

beside_end : (place i q : ℕ) → q ≢ place + i → not (within place i q) ≡ not (within place (i + 1) q)
beside_end place i q apart = grind (arith, nat_tests)

-- the byte behind those that are forgotten
one_less : (place i : ℕ) (m : Known) (q : ℕ) → map.get (map.remove (known_without_range place i m) (place + i)) q ≡ map.get (known_without_range place (i + 1) m) q
one_less place i m q = elim (same_or numbers (place + i) q) [
  | inl same ↦
      let gone : map.get (map.remove (known_without_range place i m) (place + i)) q ≡ None =
      subst (λ (p : ℕ). map.get (map.remove (known_without_range place i m) (place + i)) p ≡ None) (sym same) (removed-here numbers (known_without_range place i m) (place + i)) in
      gone ∙ sym (kept place (i + 1) m q ∙ ap (λ (b : Bool). cond b (map.get m q) None) (in_range place i q same))
  | inr apart ↦
      removed-beside numbers (known_without_range place i m) (place + i) q apart
      ∙ kept place i m q
      ∙ ap (λ (b : Bool). cond b (map.get m q) None) (beside_end place i q apart)
      ∙ sym (kept place (i + 1) m q)
]

pub forgotten_on : (place i : ℕ) (m n back : Known) → n ≡ known_without_range place i m → back ≡ map.remove n (place + i) → back ≡ known_without_range place (i + 1) m
forgotten_on place i m n back so_far taken =
    taken ∙ ap (λ (k : Known). map.remove k (place + i)) so_far ∙ same_rows numbers _ _ (one_less place i m)
