-- What a write leaves outside its range, and what a read gives of it.
use Rattle.std.proofs.Common.{◌≡◌, inl, inr, ℕ, ◌+◌, ◌-◌, ◌<◌, ◌≤◌, List, ◌++◌, length, take, drop, get_or, replicate, refl, sym, ◌∙◌, ap, subst, arith, length-drop}
use Rattle.std.proofs.lemmas.Bool.{cases_lt}
use Rattle.std.proofs.lemmas.List.{take-append-le, drop-take, take-take, get_or-take, get_or-drop, get_or_append_left, get_or-append_right, get_or_past, get_or-replicate}
use Rattle.dm_host.specs.Disk.{Torn, Written, part}

module _ (place n : ℕ) (old new : List ℕ) (t : Torn place n old new) where
  -- the bytes before the range and the old end stay, as a whole
  pub torn_front : (m : ℕ) → m ≤ place → m ≤ length old → take m new ≡ take m old
  torn_front m le within = elim (cases_lt (length old) place) [
    | inl past ↦
        sym (take-take m (length old) new within) ∙ ap (λ (l : List ℕ). take m l) (t.past_end (omega arith))
    | inr inside ↦
        sym (take-take m place new le) ∙ ap (λ (l : List ℕ). take m l) (t.before inside) ∙ take-take m place old le
  ]

  pub torn_below : (i : ℕ) → i < place → i < length old → get_or new i 0 ≡ get_or old i 0
  torn_below i below within =
      sym (get_or-take (i + 1) new i 0 (omega arith)) ∙ ap (λ (l : List ℕ). get_or l i 0) (torn_front (i + 1) (omega arith) (omega arith))
      ∙ get_or-take (i + 1) old i 0 (omega arith)

  pub torn_above : (i : ℕ) → place + n ≤ i → get_or new i 0 ≡ get_or old i 0
  torn_above i above =
      let at : place + n + (i - (place + n)) ≡ i = omega arith in
      let e : get_or new (place + n + (i - (place + n))) 0 ≡ get_or old (place + n + (i - (place + n))) 0 =
      sym (get_or-drop (place + n) new (i - (place + n)) 0) ∙ ap (λ (l : List ℕ). get_or l (i - (place + n)) 0) t.after ∙ get_or-drop (place + n) old (i - (place + n)) 0 in
      subst (λ (k : ℕ). get_or new k 0 ≡ get_or old k 0) at e

-- a read that ends within the file
pub part-within : (file : List ℕ) (q m : ℕ) → q + m ≤ length file → part file q m ≡ take m (drop q file)
part-within file q m within = take-append-le m (drop q file) (replicate m 0) (omega (arith, length-drop q file))

-- a read before the range gives what it gave
pub part-torn_before : (p n : ℕ) (old new : List ℕ) (q m : ℕ) → Torn p n old new → q + m ≤ p → q + m ≤ length old → part new q m ≡ part old q m
part-torn_before p n old new q m t before within =
    part-within new q m (omega (arith, t.no_shorter)) ∙ sym (drop-take q m new)
    ∙ ap (λ (l : List ℕ). drop q l) (torn_front p n old new t (q + m) before within)
    ∙ drop-take q m old ∙ sym (part-within old q m within)

-- a read of the range gives what was written
pub part-written : (p : ℕ) (bytes old new : List ℕ) → Written p bytes old new → part new p (length bytes) ≡ bytes
part-written p bytes old new w = part-within new p (length bytes) w.within ∙ w.there

-- one byte of a read
pub part-at : (file : List ℕ) (place n i : ℕ) → i < n → get_or (part file place n) i 0 ≡ get_or file (place + i) 0
part-at file place n i below = get_or-take n (drop place file ++ replicate n 0) i 0 below ∙ elim (cases_lt i (length (drop place file))) [
  | inl within ↦ get_or_append_left (drop place file) (replicate n 0) 0 i within ∙ get_or-drop place file i 0
  | inr past ↦
      get_or-append_right (drop place file) (replicate n 0) (length (drop place file)) i 0 refl past
      ∙ get_or-replicate n (i - length (drop place file)) 0 0 (omega arith)
      ∙ sym (get_or_past file (place + i) 0 (omega (arith, length-drop place file)))
]

pub part-first : (file : List ℕ) (place : ℕ) → get_or (part file place 1) 0 0 ≡ get_or file place 0
part-first file place =
    let at : place + 0 ≡ place = omega arith in
    part-at file place 1 0 (omega arith) ∙ ap (λ (k : ℕ). get_or file k 0) at
