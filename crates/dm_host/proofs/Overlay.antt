-- A write into a file: that it is one, and that what it overwrote restores the file.
use Rattle.std.proofs.Common.{◌≡◌, inl, inr, ℕ, ◌+◌, ◌-◌, ◌<◌, ◌≤◌, max, List, [], ◌++◌, length, take, drop, replicate, refl, sym, ◌∙◌, ap, arith, length-append, length-drop}
use Rattle.std.proofs.lemmas.Bool.{cases_lt}
use Rattle.std.proofs.lemmas.List.{length-take-le, length-replicate, take_at, drop_at, take_all, drop_all, take-take, take-append-le, take-append-drop, drop-drop, append_assoc, append-nil}
use Rattle.dm_host.specs.Disk.{Written}
use Rattle.dm_host.specs.Past.{lengthened, overlaid, restored}

module _ (place : ℕ) (bytes old : List ℕ) where
  abbrev n : ℕ
  n = length bytes

  abbrev long : List ℕ
  long = lengthened (place + n) old

  abbrev new : List ℕ
  new = overlaid place bytes long

  length-long : length long ≡ max (length old) (place + n)
  length-long = length-append old (replicate (place + n - length old) 0) ∙ omega (arith, length-replicate {A = ℕ} (place + n - length old) 0)

  length-front : length (take place long) ≡ place
  length-front = length-take-le place long (omega (arith, length-long))

  split : new ≡ take place long ++ (bytes ++ drop (place + n) long)
  split = append_assoc (take place long) bytes (drop (place + n) long)

  length-new : length new ≡ max (length old) (place + n)
  length-new =
      ap length split ∙ length-append (take place long) (bytes ++ drop (place + n) long)
      ∙ omega (arith, length-front, length-append bytes (drop (place + n) long), length-drop (place + n) long, length-long)

  front : take place new ≡ take place long
  front = ap (λ (l : List ℕ). take place l) split ∙ take_at (take place long) (bytes ++ drop (place + n) long) place length-front

  behind : drop (place + n) new ≡ drop (place + n) long
  behind = drop_at (take place long ++ bytes) (drop (place + n) long) (place + n) (length-append (take place long) bytes ∙ omega (arith, length-front))

  -- what is behind the range stands there already
  rest : drop (place + n) long ≡ drop (place + n) old
  rest = elim (cases_lt (length old) (place + n)) [
    | inl past ↦ drop_all (place + n) long (omega (arith, length-long)) ∙ sym (drop_all (place + n) old (omega arith))
    | inr inside ↦
        let none : place + n - length old ≡ 0 = omega arith in
        ap (λ (k : ℕ). drop (place + n) (old ++ replicate k 0)) none ∙ ap (λ (l : List ℕ). drop (place + n) l) (append-nil old)
  ]

  before : place ≤ length old → take place new ≡ take place old
  before inside = front ∙ take-append-le place old (replicate (place + n - length old) 0) inside

  past_end : length old ≤ place → take (length old) new ≡ old
  past_end past =
      sym (take-take (length old) place new past) ∙ ap (λ (l : List ℕ). take (length old) l) front ∙ take-take (length old) place long past
      ∙ take_at old (replicate (place + n - length old) 0) (length old) refl

  there : take n (drop place new) ≡ bytes
  there =
      ap (λ (l : List ℕ). take n (drop place l)) split
      ∙ ap (λ (l : List ℕ). take n l) (drop_at (take place long) (bytes ++ drop (place + n) long) place length-front)
      ∙ take_at bytes (drop (place + n) long) n refl

  pub written : Written place bytes old (overlaid place bytes (lengthened (place + length bytes) old))
  written = record {
    within = omega (arith, length-new);
    there = there;
    torn = record {
      before = before;
      past_end = past_end;
      after = behind ∙ rest;
      no_shorter = omega (arith, length-new);
      no_longer = omega (arith, length-new);
    };
  }

  pub back : restored place (length old) (take (length bytes) (drop place old)) (overlaid place bytes (lengthened (place + length bytes) old)) ≡ old
  back = elim (cases_lt (length old) place) [
    | inl past ↦
        let none : take n (drop place old) ≡ [] = ap (λ (l : List ℕ). take n l) (drop_all place old (omega arith)) ∙ take_all n [] (omega arith) in
        ap (λ (b : List ℕ). restored place (length old) b new) none
        ∙ append_in past
    | inr inside ↦ elim (cases_lt (length old) (place + n)) [
      | inl cut ↦
          let all : take n (drop place old) ≡ drop place old = take_all n (drop place old) (omega (arith, length-drop place old)) in
          ap (λ (b : List ℕ). restored place (length old) b new) all
          ∙ ap (λ (l : List ℕ). take (length old) (l ++ drop place old ++ drop (place + length (drop place old)) new)) (before inside)
          ∙ ap (λ (l : List ℕ). take (length old) (l ++ drop (place + length (drop place old)) new)) (take-append-drop place old)
          ∙ take_at old (drop (place + length (drop place old)) new) (length old) refl
      | inr whole ↦
          let size : length (take n (drop place old)) ≡ n = length-take-le n (drop place old) (omega (arith, length-drop place old)) in
          ap (λ (k : ℕ). take (length old) (take place new ++ take n (drop place old) ++ drop (place + k) new)) size
          ∙ ap (λ (l : List ℕ). take (length old) (take place new ++ take n (drop place old) ++ l)) (behind ∙ rest)
          ∙ ap (λ (l : List ℕ). take (length old) (l ++ take n (drop place old) ++ drop (place + n) old)) (before inside)
          ∙ ap (λ (l : List ℕ). take (length old) l) (append_assoc (take place old) (take n (drop place old)) (drop (place + n) old))
          ∙ ap (λ (l : List ℕ). take (length old) (take place old ++ (take n (drop place old) ++ l))) (sym (drop-drop n place old))
          ∙ ap (λ (l : List ℕ). take (length old) (take place old ++ l)) (take-append-drop n (drop place old))
          ∙ ap (λ (l : List ℕ). take (length old) l) (take-append-drop place old)
          ∙ take_all (length old) old (omega arith)
    ]
  ]
    where
      append_in : length old < place → take (length old) (take place new ++ [] ++ drop (place + 0) new) ≡ old
      append_in past =
          ap (λ (l : List ℕ). take (length old) (l ++ drop (place + 0) new)) (append-nil (take place new))
          ∙ ap (λ (k : ℕ). take (length old) (take place new ++ drop k new)) (omega arith)
          ∙ ap (λ (l : List ℕ). take (length old) l) (take-append-drop place new)
          ∙ past_end (omega arith)
