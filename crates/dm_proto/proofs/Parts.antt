-- The words of a text, from its front.
use Rattle.std.proofs.Common.{◌≡◌, ◌≢◌, ℕ, suc, ◌<◌, ◌≤◌, ◌+◌, inl, inr, Bool, true, false, not, eqb, List, [], ◌∷◌, length, get_or, take, drop, refl, sym, ◌∙◌, ap, subst, arith, add-zero}
use Rattle.std.specs.Prelude.{filter, nat_lt, Option, Some, None, unwrap_or, position}
use Rattle.std.proofs.lemmas.Bool.{cases_Bool, cases_lt, false≢true, eqb-true, lt-ltb, not-true, cond-true, cond-false, le-ltb}
use Rattle.std.proofs.lemmas.List.{drop_more, drop_all, take_all, length-take-le, get_or-drop}
use Rattle.std.proofs.lemmas.List.Sums.{prefix_len-le-length, passes_at_first, fails_before_first}
use Rattle.std.proofs.lemmas.List.Splits.{slice_split_first, slice_split_none}
use Rattle.std.specs.List.{position_or_len, slice_split, All}
use Rattle.dm_proto.specs.Words.{parts}

abbrev pub is_space : ℕ → Bool
is_space b = eqb b 32

-- a space at the front is no part
parts-space : (b : ℕ) (bs : List ℕ) → is_space b ≡ true → parts (b ∷ bs) ≡ parts bs
parts-space b bs e = rw e

-- nor are the spaces there
skip_yes : (b : ℕ) (bs : List ℕ) → is_space b ≡ true → parts (drop (position_or_len (λ x. not (is_space x)) bs) bs) ≡ parts bs → parts (drop (position_or_len (λ x. not (is_space x)) (b ∷ bs)) (b ∷ bs)) ≡ parts (b ∷ bs)
skip_yes b bs e rest =
    let n = position_or_len (λ x. not (is_space x)) bs in
    let step : position_or_len (λ x. not (is_space x)) (b ∷ bs) ≡ suc n = (rw e (omega arith)) in
    ap (λ k. parts (drop k (b ∷ bs))) step ∙ rest ∙ sym (parts-space b bs e)

skip_no : (b : ℕ) (bs : List ℕ) → is_space b ≡ false → parts (drop (position_or_len (λ x. not (is_space x)) (b ∷ bs)) (b ∷ bs)) ≡ parts (b ∷ bs)
skip_no b bs e =
    let step : position_or_len (λ x. not (is_space x)) (b ∷ bs) ≡ 0 = (rw e refl) in
    ap (λ k. parts (drop k (b ∷ bs))) step

pub parts-skip : (text : List ℕ) → parts (drop (position_or_len (λ b. not (is_space b)) text) text) ≡ parts text
parts-skip [] = refl
parts-skip (b ∷ bs) =
    elim (cases_Bool (is_space b)) [
      | inl e ↦ skip_yes b bs e (parts-skip bs)
      | inr e ↦ skip_no b bs e
    ]

-- what is left begins with a word
pub begins-skip : (text : List ℕ) → let n = position_or_len (λ b. not (is_space b)) text in n < length text → get_or (drop n text) 0 0 ≢ 32
begins-skip text l e =
    let n = position_or_len (λ b. not (is_space b)) text in
    let here : get_or (drop n text) 0 0 ≡ get_or text n 0 = get_or-drop n text 0 0 ∙ ap (λ k. get_or text k 0) (add-zero n) in
    let at : get_or text n 0 ≡ 32 = sym here ∙ e in
    let passes = passes_at_first (λ b. not (is_space b)) text 0 l in
    false≢true (sym (not-true (is_space (get_or text n 0)) passes) ∙ ap is_space at)

keep : (part : List ℕ) (rest : List (List ℕ)) → 0 < length part → filter (λ part. nat_lt 0 (length part)) (part ∷ rest) ≡ part ∷ filter (λ part. nat_lt 0 (length part)) rest
keep part rest l = cond-true (nat_lt 0 (length part)) _ _ (lt-ltb 0 (length part) l)

-- the first word ends at the first space
some_place : (text : List ℕ) → 0 < length text → get_or text 0 0 ≢ 32 → 0 < position_or_len is_space text
some_place text some front =
    elim (cases_lt 0 (position_or_len is_space text)) [
      | inl l ↦ l
      | inr l ↦
          let e : position_or_len is_space text ≡ 0 = omega arith in
          let passes = passes_at_first is_space text 0 (omega arith) in
          absurd (front (eqb-true _ 32 (subst (λ (k : ℕ). is_space (get_or text k 0) ≡ true) e passes)))
    ]

word_then : (text : List ℕ) → 0 < position_or_len is_space text → position_or_len is_space text < length text → parts text ≡ take (position_or_len is_space text) text ∷ parts (drop (position_or_len is_space text) text)
word_then text some l =
    let n = position_or_len is_space text in
    let rest : parts (drop n text) ≡ parts (drop (n + 1) text) = ap parts (drop_more text n 0 l) ∙ parts-space (get_or text n 0) (drop (n + 1) text) (passes_at_first is_space text 0 l) in
    let split = slice_split_first is_space text 0 l in
    ap (filter (λ part. nat_lt 0 (length part))) split ∙ keep (take n text) (slice_split is_space (drop (n + 1) text)) (subst (λ (k : ℕ). 0 < k) (sym (length-take-le n text (omega arith))) some) ∙ ap (λ x. take n text ∷ x) (sym rest)

word_last : (text : List ℕ) → 0 < length text → length text ≤ position_or_len is_space text → parts text ≡ take (position_or_len is_space text) text ∷ parts (drop (position_or_len is_space text) text)
word_last text some l =
    let n = position_or_len is_space text in
    let none : All (λ b. is_space b ≡ false) text = λ k d h. fails_before_first is_space text k d (omega arith) in
    let split = slice_split_none is_space text none in
    ap (filter (λ part. nat_lt 0 (length part))) split ∙ keep text [] some
    ∙ ap (λ x. x ∷ []) (sym (take_all n text l)) ∙ ap (λ x. take n text ∷ parts x) (sym (drop_all n text l))

pub first_part : (text : List ℕ) → 0 < length text → get_or text 0 0 ≢ 32 → parts text ≡ take (position_or_len is_space text) text ∷ parts (drop (position_or_len is_space text) text)
first_part text some front =
    elim (cases_lt (position_or_len is_space text) (length text)) [
      | inl l ↦ word_then text (some_place text some front) l
      | inr l ↦ word_last text some l
    ]

-- the first place, or the length where there is none
pub place_is : (p : ℕ → Bool) (xs : List ℕ) → unwrap_or (position p xs) (length xs) ≡ position_or_len p xs
place_is p xs = elim (cases_lt (position_or_len p xs) (length xs)) [
  | inl l ↦ ap (λ (o : Option ℕ). unwrap_or o (length xs)) (cond-true (nat_lt (position_or_len p xs) (length xs)) (Some (position_or_len p xs)) None (lt-ltb _ _ l))
  | inr l ↦ ap (λ (o : Option ℕ). unwrap_or o (length xs)) (cond-false (nat_lt (position_or_len p xs) (length xs)) (Some (position_or_len p xs)) None (le-ltb _ _ l)) ∙ (let m = prefix_len-le-length (λ x. not (p x)) xs in omega (arith, m, l))
]

pub place_fits : (p : ℕ → Bool) (xs : List ℕ) → position_or_len p xs ≤ length xs
place_fits p xs = prefix_len-le-length (λ x. not (p x)) xs
