-- Bytes with a range replaced.
use Rattle.std.proofs.Common.{◌≡◌, inl, inr, ℕ, ◌+◌, ◌-◌, max, List, ◌++◌, length, take, drop, replicate, refl, sym, ◌∙◌, ap, arith, length-append, length-drop}
use Rattle.std.proofs.lemmas.Bool.{cases_lt}
use Rattle.std.proofs.lemmas.List.{length-replicate, length-take-le, take_at, drop_at, drop_all, take-append-le, append-nil, append_assoc, replicate-append-replicate}
use Rattle.dm_plain.specs.Patching.{with_zeros, with_overlay, with_patch}

module _ (offset : ℕ) (bytes old : List ℕ) where
  abbrev n : ℕ
  n = length bytes

  length-lengthened : (end : ℕ) → length (with_zeros end old) ≡ max (length old) end
  length-lengthened end = length-append old (replicate (end - length old) 0) ∙ omega (arith, length-replicate {A = ℕ} (end - length old) 0)

  -- what is behind the range stands there already
  behind : drop (offset + n) (with_zeros (offset + n) old) ≡ drop (offset + n) old
  behind = elim (cases_lt (length old) (offset + n)) [
    | inl past ↦ drop_all (offset + n) (with_zeros (offset + n) old) (omega (arith, length-lengthened (offset + n))) ∙ sym (drop_all (offset + n) old (omega arith))
    | inr inside ↦
        let none : offset + n - length old ≡ 0 = omega arith in
        ap (λ (k : ℕ). drop (offset + n) (old ++ replicate k 0)) none ∙ ap (λ (l : List ℕ). drop (offset + n) l) (append-nil old)
  ]

  front_of : (more : ℕ) → offset + n - length old ≡ offset - length old + more → take offset (with_zeros (offset + n) old) ≡ take offset (with_zeros offset old)
  front_of more all =
      let grown : with_zeros (offset + n) old ≡ with_zeros offset old ++ replicate more 0 =
      ap (λ (k : ℕ). old ++ replicate k 0) all
      ∙ ap (λ (l : List ℕ). old ++ l) (sym (replicate-append-replicate (offset - length old) more 0))
      ∙ sym (append_assoc old (replicate (offset - length old) 0) (replicate more 0)) in
      ap (λ (l : List ℕ). take offset l) grown
      ∙ take-append-le offset (with_zeros offset old) (replicate more 0) (omega (arith, length-lengthened offset))

  -- in front of the range it makes no difference how far bytes are lengthened
  front : take offset (with_zeros (offset + n) old) ≡ take offset (with_zeros offset old)
  front = front_of (offset + n - length old - (offset - length old)) (omega arith)

  -- bytes written over those that were lengthened as far as they reach
  pub overlaid-lengthened : with_overlay offset bytes (with_zeros (offset + length bytes) old) ≡ with_patch offset bytes old
  unfolding with_patch
  overlaid-lengthened =
      ap (λ (l : List ℕ). l ++ bytes ++ drop (offset + n) (with_zeros (offset + n) old)) front
      ∙ ap (λ (l : List ℕ). take offset (with_zeros offset old) ++ bytes ++ l) behind

  length-front : length (take offset (with_zeros offset old)) ≡ offset
  length-front = length-take-le offset (with_zeros offset old) (omega (arith, length-lengthened offset))

  split : with_patch offset bytes old ≡ take offset (with_zeros offset old) ++ (bytes ++ drop (offset + n) old)
  unfolding with_patch
  split = append_assoc (take offset (with_zeros offset old)) bytes (drop (offset + n) old)

  pub length-patched : length (with_patch offset bytes old) ≡ max (length old) (offset + length bytes)
  length-patched =
      ap length split ∙ length-append (take offset (with_zeros offset old)) (bytes ++ drop (offset + n) old)
      ∙ omega (arith, length-front, length-append bytes (drop (offset + n) old), length-drop (offset + n) old)

  -- in front of the range stands what stood there, and zeros as far as nothing did
  pub take-patched : take offset (with_patch offset bytes old) ≡ take offset (old ++ replicate (offset - length old) 0)
  take-patched = ap (λ (l : List ℕ). take offset l) split ∙ take_at (take offset (with_zeros offset old)) (bytes ++ drop (offset + n) old) offset length-front

  -- the range has the bytes
  pub range-patched : take (length bytes) (drop offset (with_patch offset bytes old)) ≡ bytes
  range-patched =
      ap (λ (l : List ℕ). take n (drop offset l)) split
      ∙ ap (λ (l : List ℕ). take n l) (drop_at (take offset (with_zeros offset old)) (bytes ++ drop (offset + n) old) offset length-front)
      ∙ take_at bytes (drop (offset + n) old) n refl

  -- behind it stands what stood there
  pub drop-patched : drop (offset + length bytes) (with_patch offset bytes old) ≡ drop (offset + length bytes) old
  unfolding with_patch
  drop-patched = drop_at (take offset (with_zeros offset old) ++ bytes) (drop (offset + n) old) (offset + n) (length-append (take offset (with_zeros offset old)) bytes ∙ omega (arith, length-front))
