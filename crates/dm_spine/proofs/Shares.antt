-- The beginning, a split, a join and a look keep the rule.
use Rattle.std.proofs.Common.{◌≡◌, ◌≢◌, ℕ, zero, suc, ◌⊎◌, Option, Some, None, IsSomeAnd, List, [], ◌∷◌, ◌++◌, length, set, slice_index, slice_set, refl, sym, ap, ◌∙◌, subst, inl, inr, ⊎_elim, arith}
use mathlib.Core.Option.{some, some-injective, some-ne-none}
use lib.ListN.{get_elem?}
use Rattle.atomic_table.specs.Table.{Act, Valid, Allows, Splits, Joins, opening, homes_after, carried_after}
use Rattle.atomic_table.specs.Table.Act.{keeps}
use Rattle.atomic_table.proofs.Lists.{at_set, set_else, set_again}
use Rattle.dm_spine.specs.Past.{Meaning, Lawful, In, union, Made, Legal}
use Rattle.dm_spine.specs.Rule.{view, sight, joined, without, IsView, IsLog, IsSound, CountsLog, CountsHistory, Together}
use Rattle.dm_spine.specs.Steps.{Seen, cut_left, cut_right, settles_as, looks_as}
use Rattle.dm_spine.specs.declared.rule.View.{View}
use Rattle.dm_spine.proofs.Lists.{in_append, union_left, union_right}
use Rattle.dm_spine.proofs.Portions.{parts_one, union_part, part_within, same_chain}
use Rattle.dm_spine.proofs.Legality.{parts_meet, union_meets}
use Rattle.dm_spine.proofs.Seats.{in_one, not_two, at_end, single_view, sound_view, in_without, view_fewer}

module _ {S N E : Type 0} (m : Meaning S N E) (ok : Lawful m) (p : S) where
  none_known : (i : ℕ) (a b : List (View E N)) → get_elem? (a ∷ []) i ≡ some b → (i ≡ 0) × (a ≡ b)
  none_known zero a b e = (refl, some-injective a b e)
  none_known (suc i) a b e = absurd (some-ne-none b (sym e))

  -- the table as it is begun
  pub kept_first : CountsHistory m p (opening {S = Unit {0}} {V = List (View E N)} (0 ∷ []) [] (view [] (m.fixed p) ∷ []))
  kept_first = (
    [],
    record {
      word = refl;
      history = record {
        rises = tt;
        low = λ a t. absurd t;
        housed = λ a t. absurd t;
        few = λ h. omega arith;
        grown = λ a x t about. absurd t;
      };
      known = λ i vs v t o.
          let P : List (View E N) → Type 0 = λ ws. In v ws in
          let Q : View E N → Type 0 = λ u. IsView m p [] u in
          let e = in_one v (view [] (m.fixed p)) (subst P (sym (none_known i (view [] (m.fixed p) ∷ []) vs t).1) o) in
          subst Q (sym e) first_view;
      one = λ i j vs ws v w x ti tj oi oj qi qj. (none_known i (view [] (m.fixed p) ∷ []) vs ti).0 ∙ sym (none_known j (view [] (m.fixed p) ∷ []) ws tj).0;
      pair = λ i u w x t oi oj. not_two (view [] (m.fixed p)) u w (none_known i (view [] (m.fixed p) ∷ []) (u ∷ (w ∷ [])) t).1;
    },
  ) where
    first_view : IsView m p [] (view [] (m.fixed p))
    first_view = record {
      part = record { rises = tt; ordered = tt; within = λ a t. t; chained = λ x a b t k l u w. t };
      legal = λ n e t. absurd t;
      whole = λ x k b t about. t;
      lives = λ x k b t ends. t;
      rooted = λ x k. inl k;
    }

  -- a seat's views change, and no view keeps more than some view of that seat did
  kept_set : (log : List (ℕ × E)) (words : List ℕ) (seats : List (List (View E N))) (id : ℕ) (old new : List (View E N)) → length new ≡ 1 → CountsLog m p log words seats → get_elem? seats id ≡ some old
      → ((u : View E N) → In u new → IsView m p log u) → ((u : View E N) (x : N) → In u new → In x u.keeps → (o : View E N) × In o old × In x o.keeps) → CountsLog m p log words (set seats id new)
  kept_set log words seats id old new single k at fine from =
      let inside : (vs : List (View E N)) (u : View E N) → new ≡ vs → In u vs → In u new = λ vs u q t. let P : List (View E N) → Type 0 = λ ws. In u ws in subst P (sym q) t in
      record {
        word = k.word;
        history = k.history;
        known = λ i vs u t o. ⊎_elim (λ w. fine u (inside vs u w.1 o)) (λ w. k.known i vs u w.1 o) (at_set seats id i new vs t);
        one = λ i j vs ws u w x ti tj oi oj qi qj. ⊎_elim
            (λ a. ⊎_elim
            (λ b. a.0 ∙ sym b.0)
            (λ b. let f = from u x (inside vs u a.1 oi) qi in a.0 ∙ k.one id j old ws f.0 w x at b.1 f.1 oj f.2 qj)
            (at_set seats id j new ws tj))
            (λ a. ⊎_elim
            (λ b. let f = from w x (inside ws w b.1 oj) qj in k.one i id vs old u f.0 x a.1 at oi f.1 qi f.2 ∙ sym b.0)
            (λ b. k.one i j vs ws u w x a.1 b.1 oi oj qi qj)
            (at_set seats id j new ws tj))
            (at_set seats id i new vs ti);
        pair = λ i u w x t oi oj. ⊎_elim
            (λ a. let l : length (u ∷ (w ∷ [])) ≡ 1 = ap length (sym a.1) ∙ single in absurd (omega arith))
            (λ a. k.pair i u w x a.1 oi oj)
            (at_set seats id i new (u ∷ (w ∷ [])) t);
      }

  -- names go over to a new seat
  kept_cut : (log : List (ℕ × E)) (words : List ℕ) (seats : List (List (View E N))) (id : ℕ) (v : View E N) (names : List N) → CountsLog m p log words seats → get_elem? seats id ≡ some (v ∷ [])
      → ((x : N) → In x names → In x v.keeps) → CountsLog m p log words (set seats id (view v.seen (without m names v.keeps) ∷ []) ++ (view v.seen names ∷ []) ∷ [])
  kept_cut log words seats id v names k at own =
      let h = k.known id (v ∷ []) v at (inl refl) in
      let left = view v.seen (without m names v.keeps) in
      let right = view v.seen names in
      let fewer : (x : N) → In x left.keeps → In x v.keeps × (In x names → ⊥) = λ x t. in_without ok x names v.keeps t in
      let seats' = set seats id (left ∷ []) in
      let k' : CountsLog m p log words seats' = kept_set log words seats id (v ∷ []) (left ∷ []) refl k at
      (λ u t. let Q : View E N → Type 0 = λ y. IsView m p log y in subst Q (sym (in_one u left t)) (view_fewer ok p log v left.keeps (λ x o. (fewer x o).0) h))
      (λ u x t o. let P : View E N → Type 0 = λ y. In x y.keeps in (v, inl refl, (fewer x (subst P (in_one u left t) o)).0)) in
      let is_right : (vs : List (View E N)) (u : View E N) → right ∷ [] ≡ vs → In u vs → u ≡ right = λ vs u q t. let P : List (View E N) → Type 0 = λ ws. In u ws in in_one u right (subst P (sym q) t) in
      let is_left : (vs : List (View E N)) (u : View E N) → left ∷ [] ≡ vs → In u vs → u ≡ left = λ vs u q t. let P : List (View E N) → Type 0 = λ ws. In u ws in in_one u left (subst P (sym q) t) in
      -- a name of the new seat is kept by no other
      let alone : (j : ℕ) (ws : List (View E N)) (w u : View E N) (x : N) → get_elem? seats' j ≡ some ws → In w ws → In x w.keeps → u ≡ right → In x u.keeps → ⊥
      = λ j ws w u x t o q e r.
      let P : View E N → Type 0 = λ y. In x y.keeps in
      let named : In x names = subst P e r in
      ⊎_elim
      (λ a. (fewer x (subst P (is_left ws w a.1 o) q)).1 named)
      (λ a. a.0 (k.one j id ws (v ∷ []) w v x a.1 at o (inl refl) q (own x named)))
      (at_set seats id j (left ∷ []) ws t) in
      record {
        word = k.word;
        history = k.history;
        known = λ i vs u t o. ⊎_elim
            (λ w. k'.known i vs u w o)
            (λ w. let Q : View E N → Type 0 = λ y. IsView m p log y in subst Q (sym (is_right vs u w.1 o)) (view_fewer ok p log v names own h))
            (at_end seats' (right ∷ []) vs i t);
        one = λ i j vs ws u w x ti tj oi oj qi qj. ⊎_elim
            (λ a. ⊎_elim
            (λ b. k'.one i j vs ws u w x a b oi oj qi qj)
            (λ b. absurd (alone i vs u w x a oi qi (is_right ws w b.1 oj) qj))
            (at_end seats' (right ∷ []) ws j tj))
            (λ a. ⊎_elim
            (λ b. absurd (alone j ws w u x b oj qj (is_right vs u a.1 oi) qi))
            (λ b. a.0 ∙ sym b.0)
            (at_end seats' (right ∷ []) ws j tj))
            (at_end seats' (right ∷ []) vs i ti);
        pair = λ i u w x t oi oj. ⊎_elim (λ a. k'.pair i u w x a oi oj) (λ a. not_two right u w a.1) (at_end seats' (right ∷ []) (u ∷ (w ∷ [])) i t);
      }

  cut_some : (names : List N) (id : ℕ) (v : View E N) → ((x : N) → In x names → In x v.keeps) → Splits (CountsHistory m p) id (v ∷ []) (cut_left m (Some names) (v ∷ [])) (cut_right (Some names) (v ∷ []))
  cut_some names id v own s kept at = (kept.0, kept_cut kept.0 s.words s.views id v names kept.1 at own)

  pub cut_said : (said : Option (List N)) (id : ℕ) (vs : List (View E N)) → length vs ≡ 1 → IsSomeAnd said (λ names. (x : N) → In x names → In x (sight vs).keeps) → Splits (CountsHistory m p) id vs (cut_left m said vs) (cut_right said vs)
  cut_said None id vs one own = absurd own
  cut_said (Some names) id vs one own =
      let P : List (View E N) → Type 0 = λ ws. Splits (CountsHistory m p) id ws (cut_left m (Some names) ws) (cut_right (Some names) ws) in
      subst P (sym (single_view vs one)) (cut_some names id (sight vs) own)

  -- where a view of the seats after a join was before it
  pub record Was (seats : List (List (View E N))) (id other i : ℕ) (u : View E N) : Type 0 where
    pub seat : ℕ
    pub views : List (View E N)
    pub at : get_elem? seats seat ≡ some views
    pub there : In u views
    pub place : (seat ≡ i) ⊎ ((seat ≡ other) × (i ≡ id))
    pub spent : i ≢ other

  before_join : (seats : List (List (View E N))) (id other : ℕ) (v w : List (View E N)) → get_elem? seats id ≡ some v → (other ≡ id → ⊥) → get_elem? (set seats id (v ++ w)) other ≡ some w
      → (i : ℕ) (vs : List (View E N)) (u : View E N) → get_elem? (set (set seats id (v ++ w)) other []) i ≡ some vs → In u vs → Was seats id other i u
  before_join seats id other v w at ne at' i vs u t o = ⊎_elim
      (λ a. let P : List (View E N) → Type 0 = λ ws. In u ws in absurd (subst P (sym a.1) o))
      (λ a. ⊎_elim
      (λ b. let P : List (View E N) → Type 0 = λ ws. In u ws in ⊎_elim
      (λ f. record { seat = id; views = v; at = at; there = f; place = inl (sym b.0); spent = a.0 })
      (λ f. record { seat = other; views = w; at = sym (set_else seats id other (v ++ w) ne) ∙ at'; there = f; place = inr (refl, b.0); spent = a.0 })
      (in_append u v w (subst P (sym b.1) o)))
      (λ b. record { seat = i; views = vs; at = b.1; there = o; place = inl refl; spent = a.0 })
      (at_set seats id i (v ++ w) vs a.1))
      (at_set (set seats id (v ++ w)) other i [] vs t)

  meet : (id other i j k l : ℕ) → k ≡ l → i ≢ other → j ≢ other → (k ≡ i) ⊎ ((k ≡ other) × (i ≡ id)) → (l ≡ j) ⊎ ((l ≡ other) × (j ≡ id)) → i ≡ j
  meet id other i j k l e f g (inl a) (inl b) = sym a ∙ (e ∙ b)
  meet id other i j k l e f g (inl a) (inr b) = absurd (f (sym a ∙ (e ∙ b.0)))
  meet id other i j k l e f g (inr a) (inl b) = absurd (g (sym b ∙ (sym e ∙ a.0)))
  meet id other i j k l e f g (inr a) (inr b) = a.1 ∙ sym b.1

  abbrev second : List (View E N) → View E N
  second [] = view [] []
  second (x ∷ []) = view [] []
  second (x ∷ (y ∷ ys)) = y

  joins_two : (id other : ℕ) (v' w' : View E N) → Joins (CountsHistory m p) id (v' ∷ []) other (w' ∷ []) (v' ∷ (w' ∷ [])) []
  joins_two id other v' w' s kept at ne at' =
      let v : List (View E N) = v' ∷ [] in
      let w : List (View E N) = w' ∷ [] in
      let k = kept.1 in
      let was : (i : ℕ) (vs : List (View E N)) (u : View E N) → get_elem? (set (set s.views id (v ++ w)) other []) i ≡ some vs → In u vs → Was s.views id other i u
      = λ i vs u t o. before_join s.views id other v w at ne at' i vs u t o in (
        kept.0,
        record {
          word = k.word;
          history = k.history;
          known = λ i vs u t o. let a = was i vs u t o in k.known a.seat a.views u a.at a.there;
          one = λ i j vs ws u w x ti tj oi oj qi qj.
              let a = was i vs u ti oi in
              let b = was j ws w tj oj in
              meet id other i j a.seat b.seat (k.one a.seat b.seat a.views b.views u w x a.at b.at a.there b.there qi qj) a.spent b.spent a.place b.place;
          pair = λ i u y x t oi oj. ⊎_elim
              (λ a. let l : length (u ∷ (y ∷ [])) ≡ 0 = ap length (sym a.1) in absurd (omega arith))
              (λ a. ⊎_elim
              (λ b.
              let P : View E N → Type 0 = λ z. In x z.keeps in
              let first : v' ≡ u = ap (λ (z : List (View E N)). sight z) b.1 in
              let next : w' ≡ y = ap (λ (z : List (View E N)). second z) b.1 in
              let there : get_elem? s.views other ≡ some w = sym (set_else s.views id other (v ++ w) ne) ∙ at' in
              ne (k.one other id w v w' v' x there at (inl refl) (inl refl) (subst P (sym next) oj) (subst P (sym first) oi)))
              (λ b. k.pair i u y x b.1 oi oj)
              (at_set s.views id i (v ++ w) (u ∷ (y ∷ [])) a.1))
              (at_set (set s.views id (v ++ w)) other i [] (u ∷ (y ∷ [])) t);
        },
      )

  -- a seat takes in the view of another
  pub joins_said : (id other : ℕ) (v w : List (View E N)) → length v ≡ 1 → length w ≡ 1 → Joins (CountsHistory m p) id v other w (v ++ w) []
  joins_said id other v w one single =
      let P : List (View E N) → Type 0 = λ t. Joins (CountsHistory m p) id t other w (t ++ w) [] in
      let Q : List (View E N) → Type 0 = λ t. Joins (CountsHistory m p) id (sight v ∷ []) other t ((sight v ∷ []) ++ t) [] in
      subst P (sym (single_view v one)) (subst Q (sym (single_view w single)) (joins_two id other (sight v) (sight w)))

  root_more : (x : N) (xs ys : List (ℕ × E)) → ((a : ℕ × E) → In a xs → In a ys) → In x (m.fixed p) ⊎ Made m x xs → In x (m.fixed p) ⊎ Made m x ys
  root_more x xs ys f h = ⊎_elim (λ t. inl t) (λ t. inr (t.0, f t.0 t.1, t.2)) h

  view_joined : (log : List (ℕ × E)) (v w : View E N) → IsLog m p log → IsView m p log v → IsView m p log w → IsView m p log (joined v w)
  view_joined log v w g h k =
      let one = parts_one m log v.seen w.seen h.part k.part in
      record {
        part = union_part m log v.seen w.seen h.part k.part;
        legal = union_meets m ok p v.seen w.seen h.part.rises k.part.rises (parts_meet m log v.seen w.seen h.part k.part) h.legal k.legal;
        whole = λ x t b o about. ⊎_elim
            (λ u. union_left 0 b v.seen w.seen h.part.rises one (h.whole x u b o about))
            (λ u. union_right b v.seen w.seen (k.whole x u b o about))
            (in_append x v.keeps w.keeps t);
        lives = λ x t b o ends. ⊎_elim (λ u. h.lives x u b o ends) (λ u. k.lives x u b o ends) (in_append x v.keeps w.keeps t);
        rooted = λ x t. ⊎_elim
            (λ u. root_more x v.seen (union v.seen w.seen) (λ a o. union_left 0 a v.seen w.seen h.part.rises one o) (h.rooted x u))
            (λ u. root_more x w.seen (union v.seen w.seen) (λ a o. union_right a v.seen w.seen o) (k.rooted x u))
            (in_append x v.keeps w.keeps t);
      }

  together : (log : List (ℕ × E)) (v w : View E N) → IsLog m p log → IsView m p log v → IsView m p log w → ((x : N) → In x v.keeps → In x w.keeps → ⊥) → Together m p v w
  together log v w g h k apart =
      let one = parts_one m log v.seen w.seen h.part k.part in
      let all = view_joined log v w g h k in
      let left : (a : ℕ × E) → In a v.seen → In a (union v.seen w.seen) = λ a t. union_left 0 a v.seen w.seen h.part.rises one t in
      let right : (a : ℕ × E) → In a w.seen → In a (union v.seen w.seen) = λ a t. union_right a v.seen w.seen t in
      record {
        left = left;
        right = right;
        left_part = part_within m log v.seen (union v.seen w.seen) h.part all.part left;
        right_part = part_within m log w.seen (union v.seen w.seen) k.part all.part right;
        mine = λ x t. same_chain m x v.seen (union v.seen w.seen) h.part.rises all.part.rises left (λ b o about. h.whole x t b (all.part.within b o) about);
        theirs = λ x t. same_chain m x w.seen (union v.seen w.seen) k.part.rises all.part.rises right (λ b o about. k.whole x t b (all.part.within b o) about);
        apart = apart;
        legal = all.legal;
        sound = sound_view m p log (joined v w) all;
      }

  settle_some : (slots id : ℕ) (me : Seen N E) (v w : View E N) → me.0 ≡ v ∷ (w ∷ []) → me.1 ≡ [] → Allows (CountsHistory m p) slots id me 0 (λ n. n) (λ _. settles_as m (Some p) me)
  settle_some slots id me v w two bare s kept homes at low =
      let log = kept.0 in
      let k = kept.1 in
      let at' : get_elem? s.views id ≡ some (v ∷ (w ∷ [])) = at ∙ ap (λ (t : List (View E N)). some t) two in
      let h = k.known id (v ∷ (w ∷ [])) v at' (inl refl) in
      let h' = k.known id (v ∷ (w ∷ [])) w at' (inr (inl refl)) in
      let K : List ℕ → Type 0 = λ ws. CountsLog m p log ws s.views in
      let k' : CountsLog m p log (length log ∷ []) s.views = subst K k.word k in
      let After : List ℕ → Type 0 = λ ws. (z : List (View E N)) × (a : Act (Unit {0})) × Valid s.homes me.1 a × CountsHistory m p record { words = slice_set ws 0 (slice_index ws 0); homes = homes_after s.homes me.1 a; views = slice_set s.views id z } × settles_as m (Some p) me (z, carried_after me.1 a) in
      let j = joined v w in
      let set_kept : CountsLog m p log (length log ∷ []) (set s.views id (j ∷ [])) = kept_set log (length log ∷ []) s.views id (v ∷ (w ∷ [])) (j ∷ []) refl k' at'
      (λ u t. let Q : View E N → Type 0 = λ y. IsView m p log y in subst Q (sym (in_one u j t)) (view_joined log v w k.history h h'))
      (λ u x t o. let P : View E N → Type 0 = λ y. In x y.keeps in ⊎_elim (λ f. (v, inl refl, f)) (λ f. (w, inr (inl refl), f)) (in_append x v.keeps w.keeps (subst P (in_one u j t) o))) in
      let tells : (v' u : View E N) → me.0 ≡ v' ∷ (u ∷ []) → (j ∷ [] ≡ joined v' u ∷ []) × (me.1 ≡ []) × Together m p v' u
      = λ v' u e.
      let pair : v ∷ (w ∷ []) ≡ v' ∷ (u ∷ []) = sym two ∙ e in
      let a : v ≡ v' = ap (λ (t : List (View E N)). sight t) pair in
      let b : w ≡ u = ap (λ (t : List (View E N)). second t) pair in
      let P : View E N → Type 0 = λ y. (j ∷ [] ≡ joined y u ∷ []) × (me.1 ≡ []) × Together m p y u in
      let Q : View E N → Type 0 = λ y. (j ∷ [] ≡ joined v y ∷ []) × (me.1 ≡ []) × Together m p v y in
      subst P a (subst Q b (refl, bare, together log v w k.history h h' (λ x t u. k.pair id v w x at' t u))) in
      subst After (sym k.word) (j ∷ [], keeps, tt, (log, set_kept), tells)

  -- the two views of a seat that has just taken in another
  both_views : (me : Seen N E) (v w : List (View E N)) (slots : List (ℕ × Unit {0})) → me ≡ (v ++ w, slots) → length v ≡ 1 → length w ≡ 1 → me.0 ≡ sight v ∷ (sight w ∷ [])
  both_views me v w slots both one other =
      let P : List (View E N) → Type 0 = λ t. me.0 ≡ t ++ w in
      let R : List (View E N) → Type 0 = λ t. me.0 ≡ (sight v ∷ []) ++ t in
      subst R (single_view w other) (subst P (single_view v one) (ap (λ (t : Seen N E). t.0) both))

  pub settle_said : (said : Option S) (slots id : ℕ) (me : Seen N E) (v w : List (View E N)) (old : List (ℕ × Unit {0})) → me ≡ (v ++ w, old) → length v ≡ 1 → length w ≡ 1 → old ≡ [] → IsSomeAnd said (λ q. q ≡ p) → Allows (CountsHistory m p) slots id me 0 (λ n. n) (λ _. settles_as m said me)
  settle_said None slots id me v w old both one other bare is = absurd is
  settle_said (Some q) slots id me v w old both one other bare is =
      let Q : S → Type 0 = λ r. Allows (CountsHistory m p) slots id me 0 (λ n. n) (λ _. settles_as m (Some r) me) in
      subst Q (sym is) (settle_some slots id me (sight v) (sight w) (both_views me v w old both one other) (ap (λ (t : Seen N E). t.1) both ∙ bare))

  -- after a join the seat has one view again
  pub settled : (said : Option S) (me new : Seen N E) (v w : List (View E N)) (old : List (ℕ × Unit {0})) → me ≡ (v ++ w, old) → length v ≡ 1 → length w ≡ 1 → IsSomeAnd said (λ q. q ≡ p) → settles_as m said me new → (new.1 ≡ []) × (length new.0 ≡ 1)
  settled None me new v w old both one other is told = absurd is
  settled (Some q) me new v w old both one other is told =
      let t = told (sight v) (sight w) (both_views me v w old both one other) in
      (t.1, ap length t.0)

  look_some : (slots id : ℕ) (me : Seen N E) (v : View E N) → me.0 ≡ v ∷ [] → Allows (CountsHistory m p) slots id me 0 (λ n. n) (λ _. looks_as m (Some p) me)
  look_some slots id me v one s kept homes at low =
      let log = kept.0 in
      let k = kept.1 in
      let at' : get_elem? s.views id ≡ some (v ∷ []) = at ∙ ap (λ (t : List (View E N)). some t) one in
      let h = k.known id (v ∷ []) v at' (inl refl) in
      let K : List ℕ → Type 0 = λ ws. CountsLog m p log ws s.views in
      let k' : CountsLog m p log (length log ∷ []) s.views = subst K k.word k in
      let After : List ℕ → Type 0 = λ ws. (z : List (View E N)) × (a : Act (Unit {0})) × Valid s.homes me.1 a × CountsHistory m p record { words = slice_set ws 0 (slice_index ws 0); homes = homes_after s.homes me.1 a; views = slice_set s.views id z } × looks_as m (Some p) me (z, carried_after me.1 a) in
      let C : List (List (View E N)) → Type 0 = λ vs. CountsLog m p log (length log ∷ []) vs in
      let L : List (View E N) → Type 0 = λ vs. Legal m p (sight vs).seen in
      let G : List (View E N) → Type 0 = λ vs. IsSound m p (sight vs) in
      subst After (sym k.word) (me.0, keeps, tt, (log, subst C (sym (set_again s.views id me.0 at)) k'), (refl, subst L (sym one) h.legal, subst G (sym one) (sound_view m p log v h)))

  pub look_said : (said : Option S) (slots id : ℕ) (me : Seen N E) → length me.0 ≡ 1 → IsSomeAnd said (λ q. q ≡ p) → Allows (CountsHistory m p) slots id me 0 (λ n. n) (λ _. looks_as m said me)
  look_said None slots id me one is = absurd is
  look_said (Some q) slots id me one is =
      let Q : S → Type 0 = λ r. Allows (CountsHistory m p) slots id me 0 (λ n. n) (λ _. looks_as m (Some r) me) in
      subst Q (sym is) (look_some slots id me (sight me.0) (single_view me.0 one))
