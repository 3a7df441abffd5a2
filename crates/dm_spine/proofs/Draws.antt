-- A draw keeps the rule.
use Rattle.std.proofs.Common.{◌≡◌, ◌≢◌, ℕ, ◌+◌, ◌%◌, ◌^◌, ◌<◌, ◌≤◌, ◌⊎◌, true, false, not, Option, Some, None, IsSomeAnd, List, [], ◌∷◌, ◌++◌, length, filter, set, slice_index, slice_set, refl, sym, ap, ◌∙◌, subst, inl, inr, ⊎_elim, mod-eq_of_lt, length-append, arith}
use Rattle.std.proofs.lemmas.Bool.{true≢false, not-true, cases_Bool}
use mathlib.Core.Option.{some}
use lib.ListN.{get_elem?}
use Rattle.atomic_table.specs.Table.{Act, Valid, Allows, homes_after, carried_after}
use Rattle.atomic_table.specs.Table.Act.{keeps}
use Rattle.atomic_table.proofs.Lists.{at_set}
use Rattle.dm_spine.specs.Past.{Meaning, Lawful, In, below, IsAbove, at_home, Made, MayFollow, Legal}
use Rattle.dm_spine.specs.Rule.{sight, drawn, IsView, IsLog, CountsLog, CountsHistory, MayDraw, Draws}
use Rattle.dm_spine.specs.Steps.{Seen, draws_as}
use Rattle.dm_spine.specs.declared.rule.View.{View}
use Rattle.dm_spine.proofs.Lists.{in_left, in_right, in_append, in_filter, rises_last, same_members, below_all, below-last}
use Rattle.dm_spine.proofs.Portions.{same_count}
use Rattle.dm_spine.proofs.Counts.{short, at_home-last, at_home-other}
use Rattle.dm_spine.proofs.Seats.{in_one, not_two, single_view, sound_view}

module _ {S N E : Type 0} (m : Meaning S N E) (ok : Lawful m) (p : S) where
  pub made_more : (x : N) (xs ys : List (ℕ × E)) → ((a : ℕ × E) → In a xs → In a ys) → Made m x xs → Made m x ys
  made_more x xs ys f h = (h.0, f h.0 h.1, h.2)

  longer : (log : List (ℕ × E)) (z a : ℕ × E) → In a log → In a (log ++ z ∷ [])
  longer log z a h = in_left a log (z ∷ []) h

  latest : (log : List (ℕ × E)) (z : ℕ × E) → In z (log ++ z ∷ [])
  latest log z = in_right z log (z ∷ []) (inl refl)

  rooted_more : (log : List (ℕ × E)) (z : ℕ × E) (x : N) → In x (m.fixed p) ⊎ Made m x log → In x (m.fixed p) ⊎ Made m x (log ++ z ∷ [])
  rooted_more log z x h = ⊎_elim (λ t. inl t) (λ t. inr (made_more x log (log ++ z ∷ []) (longer log z) t)) h

  rooted_log : (log : List (ℕ × E)) (v : View E N) (x : N) → IsView m p log v → In x v.keeps → In x (m.fixed p) ⊎ Made m x log
  rooted_log log v x h k = ⊎_elim (λ f. inl f) (λ d. inr (made_more x v.seen log h.part.within d)) (h.rooted x k)

  -- what the entry makes was made by none before it
  not_made : (log : List (ℕ × E)) (v : View E N) (n : ℕ) (e : E) → IsAbove n log → IsView m p log v → MayDraw m p e v → (x : N) → In x (m.makes n e) → Made m x log → ⊥
  not_made log v n e above h may x k made =
      let maker = m.maker x in
      let known = h.whole maker (may.keeps maker (ok.makes_about n e x k)) made.0 made.1 (ok.makes_about made.0.0 made.0.1 x made.2) in
      may.fresh n x (λ a t. above a (h.part.within a t)) k (made.0, known, made.2)

  -- and no entry is about it yet
  quiet : (log : List (ℕ × E)) (v : View E N) (n : ℕ) (e : E) → IsLog m p log → IsAbove n log → IsView m p log v → MayDraw m p e v → (x : N) → In x (m.makes n e) → (b : ℕ × E) → In b (log ++ (n, e) ∷ []) → m.about b.1 x ≡ true → ⊥
  quiet log v n e g above h may x k b t about =
      let root : In x (m.fixed p) ⊎ Made m x log → ⊥ = λ r. ⊎_elim (λ f. ok.makes_loose p n e x k f) (λ d. not_made log v n e above h may x k d) r in
      ⊎_elim
      (λ u. root (g.grown b x u about))
      (λ u. let P : ℕ × E → Type 0 = λ c. m.about c.1 x ≡ true in
      root (rooted_log log v x h (may.keeps x (subst P (in_one b (n, e) u) about))))
      (in_append b log ((n, e) ∷ []) t)

  -- the history with one entry more
  log_more : (log : List (ℕ × E)) (v : View E N) (e : E) → IsLog m p log → IsView m p log v → MayDraw m p e v → IsLog m p (log ++ (length log, e) ∷ [])
  log_more log v e g h may =
      let n = length log in
      let z : ℕ × E = (n, e) in
      let more : length (log ++ z ∷ []) ≡ n + 1 = length-append log (z ∷ []) in
      let home : In (m.home e) (m.fixed p) = ⊎_elim (λ f. f) (λ d. absurd (ok.homes_stay d.0.0 d.0.1 e d.2)) (h.rooted (m.home e) (may.keeps (m.home e) (ok.home_about e))) in
      let room : at_home m (m.home e) log < 281474976710656 =
      let same = same_count m ok (m.home e) v.seen log h.part.rises g.rises h.part.within (h.whole (m.home e) (may.keeps (m.home e) (ok.home_about e))) in
      let r = may.room in omega arith in
      record {
        rises = rises_last 0 log z (omega arith) g.low g.rises;
        low = λ a t. ⊎_elim (λ u. let l : a.0 < n = g.low a u in omega arith) (λ u. let l : a.0 ≡ n = ap (λ (c : ℕ × E). c.0) (in_one a z u) in omega arith) (in_append a log (z ∷ []) t);
        housed = λ a t. ⊎_elim (λ u. g.housed a u) (λ u. let P : ℕ × E → Type 0 = λ c. In (m.home c.1) (m.fixed p) in subst P (sym (in_one a z u)) home) (in_append a log (z ∷ []) t);
        few = λ h'. crowd log z h' room (g.few h') (cases_Bool (m.same (m.home e) h'));
        grown = λ a x t about. ⊎_elim (λ u. rooted_more log z x (g.grown a x u about)) (λ u. let P : ℕ × E → Type 0 = λ c. m.about c.1 x ≡ true in rooted_more log z x (rooted_log log v x h (may.keeps x (subst P (in_one a z u) about)))) (in_append a log (z ∷ []) t);
      } where
        crowd : (log : List (ℕ × E)) (z : ℕ × E) (h : N) → at_home m (m.home z.1) log < 281474976710656 → at_home m h log ≤ 281474976710656 → (m.same (m.home z.1) h ≡ true) ⊎ (m.same (m.home z.1) h ≡ false) → at_home m h (log ++ z ∷ []) ≤ 281474976710656
        crowd log z h room few (inl e) =
            let P : N → Type 0 = λ x. at_home m x log < 281474976710656 in
            let r : at_home m h log < 281474976710656 = subst P (ok.same_is (m.home z.1) h e) room in
            let l = at_home-last m ok h log z in omega arith
        crowd log z h room few (inr f) = let l = at_home-other m ok h log z f in omega arith

  -- another pass, which keeps none of the names that the entry is about
  view_other : (log : List (ℕ × E)) (z : ℕ × E) (u : View E N) → IsAbove z.0 log → ((x : N) → In x u.keeps → m.about z.1 x ≡ true → ⊥) → IsView m p log u → IsView m p (log ++ z ∷ []) u
  view_other log z u above apart h = record {
    part = record {
      rises = h.part.rises;
      ordered = rises_last 0 log z (omega arith) above h.part.ordered;
      within = λ a t. longer log z a (h.part.within a t);
      chained = λ x a b t k l about about'. ⊎_elim
          (λ w. h.part.chained x a b t w l about about')
          (λ w. let d : b.0 ≡ z.0 = ap (λ (c : ℕ × E). c.0) (in_one b z w) in let lt : a.0 < z.0 = above a (h.part.within a t) in absurd (omega arith))
          (in_append b log (z ∷ []) k);
    };
    legal = h.legal;
    whole = λ x k b t about. ⊎_elim
        (λ w. h.whole x k b w about)
        (λ w. let P : ℕ × E → Type 0 = λ c. m.about c.1 x ≡ true in absurd (apart x k (subst P (in_one b z w) about)))
        (in_append b log (z ∷ []) t);
    lives = λ x k b t ends. ⊎_elim
        (λ w. h.lives x k b w ends)
        (λ w. let P : ℕ × E → Type 0 = λ c. m.ends c.1 x ≡ true in apart x k (ok.ends_about z.1 x (subst P (in_one b z w) ends)))
        (in_append b log (z ∷ []) t);
    rooted = h.rooted;
  }

  legal_last : (xs : List (ℕ × E)) (n : ℕ) (e : E) → IsAbove n xs → Legal m p xs → MayFollow m p xs e → Legal m p (xs ++ (n, e) ∷ [])
  legal_last xs n e above legal fits k f t = ⊎_elim
      (λ u. let P : List (ℕ × E) → Type 0 = λ ys. MayFollow m p ys f in
      let l : k < n = above (k, f) u in let le : k ≤ n = omega arith in
      subst P (sym (below-last k xs (n, e) le)) (legal k f u))
      (λ u. let q : (k, f) ≡ (n, e) = in_one (k, f) (n, e) u in
      let Q : ℕ × E → Type 0 = λ c. MayFollow m p (below c.0 (xs ++ (n, e) ∷ [])) c.1 in
      let P : List (ℕ × E) → Type 0 = λ ys. MayFollow m p ys e in
      let z : ℕ × E = (n, e) in
      let le : n ≤ z.0 = omega arith in
      subst Q (sym q) (subst P (sym (below-last n xs (n, e) le ∙ below_all n xs above)) fits))
      (in_append (k, f) xs ((n, e) ∷ []) t)

  -- the pass that drew
  view_drawn : (log : List (ℕ × E)) (v : View E N) (n : ℕ) (e : E) → IsLog m p log → IsAbove n log → IsView m p log v → MayDraw m p e v → IsView m p (log ++ (n, e) ∷ []) (drawn m n e v)
  view_drawn log v n e g above h may =
      let z : ℕ × E = (n, e) in
      let seen_above : IsAbove n v.seen = λ a t. above a (h.part.within a t) in
      let silent = quiet log v n e g above h may in
      let old : (x : N) → In x (filter (λ y. not (m.ends e y)) v.keeps) → In x v.keeps × (not (m.ends e x) ≡ true) = λ x k. in_filter (λ y. not (m.ends e y)) x v.keeps k in
      record {
        part = record {
          rises = rises_last 0 v.seen z (omega arith) seen_above h.part.rises;
          ordered = rises_last 0 log z (omega arith) above g.rises;
          within = λ a t. ⊎_elim (λ u. longer log z a (h.part.within a u)) (λ u. in_right a log (z ∷ []) u) (in_append a v.seen (z ∷ []) t);
          chained = λ x a b t k l about about'. longer v.seen z b (before x a b l about about' (in_append a v.seen (z ∷ []) t) (in_append b log (z ∷ []) k));
        };
        legal = legal_last v.seen n e seen_above h.legal may.fits;
        whole = λ x k b t about. ⊎_elim
            (λ u. ⊎_elim (λ w. longer v.seen z b (h.whole x (old x u).0 b w about)) (λ w. in_right b v.seen (z ∷ []) w) (in_append b log (z ∷ []) t))
            (λ u. absurd (silent x u b t about))
            (in_append x (filter (λ y. not (m.ends e y)) v.keeps) (m.makes n e) k);
        lives = λ x k b t ends. ⊎_elim
            (λ u. ⊎_elim
            (λ w. h.lives x (old x u).0 b w ends)
            (λ w. let P : ℕ × E → Type 0 = λ c. m.ends c.1 x ≡ true in true≢false (sym (subst P (in_one b z w) ends) ∙ not-true (m.ends e x) (old x u).1))
            (in_append b log (z ∷ []) t))
            (λ u. silent x u b t (ok.ends_about b.1 x ends))
            (in_append x (filter (λ y. not (m.ends e y)) v.keeps) (m.makes n e) k);
        rooted = λ x k. ⊎_elim
            (λ u. rooted_more v.seen z x (h.rooted x (old x u).0))
            (λ u. inr (z, latest v.seen z, u))
            (in_append x (filter (λ y. not (m.ends e y)) v.keeps) (m.makes n e) k);
      } where
        before : (x : N) (a b : ℕ × E) → b.0 < a.0 → m.about a.1 x ≡ true → m.about b.1 x ≡ true → In a v.seen ⊎ In a ((n, e) ∷ []) → In b log ⊎ In b ((n, e) ∷ []) → In b v.seen
        before x a b l about about' (inl t) (inl w) = h.part.chained x a b t w l about about'
        before x a b l about about' (inl t) (inr w) = let d : b.0 ≡ n = ap (λ (c : ℕ × E). c.0) (in_one b (n, e) w) in let lt : a.0 < n = above a (h.part.within a t) in absurd (omega arith)
        before x a b l about about' (inr t) (inl w) = let P : ℕ × E → Type 0 = λ c. m.about c.1 x ≡ true in h.whole x (may.keeps x (subst P (in_one a (n, e) t) about)) b w about'
        before x a b l about about' (inr t) (inr w) = let d : b.0 ≡ n = ap (λ (c : ℕ × E). c.0) (in_one b (n, e) w) in let k : a.0 ≡ n = ap (λ (c : ℕ × E). c.0) (in_one a (n, e) t) in absurd (omega arith)

  kept_drawn : (log : List (ℕ × E)) (seats : List (List (View E N))) (id : ℕ) (v : View E N) (e : E) → CountsLog m p log (length log ∷ []) seats → get_elem? seats id ≡ some (v ∷ []) → MayDraw m p e v
      → CountsLog m p (log ++ (length log, e) ∷ []) (length (log ++ (length log, e) ∷ []) ∷ []) (set seats id (drawn m (length log) e v ∷ []))
  kept_drawn log seats id v e k at may =
      let n = length log in
      let z : ℕ × E = (n, e) in
      let d = drawn m n e v in
      let g = k.history in
      let h : IsView m p log v = k.known id (v ∷ []) v at (inl refl) in
      let here : (vs : List (View E N)) (u : View E N) → d ∷ [] ≡ vs → In u vs → u ≡ d = λ vs u q t. let P : List (View E N) → Type 0 = λ ws. In u ws in in_one u d (subst P (sym q) t) in
      let apart : (i : ℕ) (vs : List (View E N)) (u : View E N) (x : N) → i ≢ id → get_elem? seats i ≡ some vs → In u vs → In x u.keeps → In x v.keeps → ⊥
      = λ i vs u x ne t w q r. ne (k.one i id vs (v ∷ []) u v x t at w (inl refl) q r) in
      -- a name of the pass that drew is kept by no other seat
      let alone : (j : ℕ) (ws : List (View E N)) (w : View E N) (x : N) → In x d.keeps → j ≢ id → get_elem? seats j ≡ some ws → In w ws → In x w.keeps → ⊥
      = λ j ws w x t ne at' o q. ⊎_elim
      (λ u. apart j ws w x ne at' o q (in_filter (λ y. not (m.ends e y)) x v.keeps u).0)
      (λ u. ⊎_elim (λ f. ok.makes_loose p n e x u f) (λ r. not_made log v n e g.low h may x u r) (rooted_log log w x (k.known j ws w at' o) q))
      (in_append x (filter (λ y. not (m.ends e y)) v.keeps) (m.makes n e) t) in
      record {
        word = refl;
        history = log_more log v e g h may;
        known = λ i vs u t o. ⊎_elim
            (λ w. let P : View E N → Type 0 = λ y. IsView m p (log ++ z ∷ []) y in subst P (sym (here vs u w.1 o)) (view_drawn log v n e g g.low h may))
            (λ w. view_other log z u g.low (λ x q r. apart i vs u x w.0 w.1 o q (may.keeps x r)) (k.known i vs u w.1 o))
            (at_set seats id i (d ∷ []) vs t);
        one = λ i j vs ws u w x ti tj oi oj qi qj. ⊎_elim
            (λ a. ⊎_elim
            (λ b. a.0 ∙ sym b.0)
            (λ b. let P : View E N → Type 0 = λ y. In x y.keeps in absurd (alone j ws w x (subst P (here vs u a.1 oi) qi) b.0 b.1 oj qj))
            (at_set seats id j (d ∷ []) ws tj))
            (λ a. ⊎_elim
            (λ b. let P : View E N → Type 0 = λ y. In x y.keeps in absurd (alone i vs u x (subst P (here ws w b.1 oj) qj) a.0 a.1 oi qi))
            (λ b. k.one i j vs ws u w x a.1 b.1 oi oj qi qj)
            (at_set seats id j (d ∷ []) ws tj))
            (at_set seats id i (d ∷ []) vs ti);
        pair = λ i u w x t oi oj. ⊎_elim (λ a. absurd (not_two d u w a.1)) (λ a. k.pair i u w x a.1 oi oj) (at_set seats id i (d ∷ []) (u ∷ (w ∷ [])) t);
      }

  -- who keeps every fixed name has seen the whole history
  whole_log : (log : List (ℕ × E)) (v : View E N) → IsLog m p log → IsView m p log v → ((x : N) → In x (m.fixed p) → In x v.keeps) → log ≡ v.seen
  whole_log log v g h all = same_members 0 0 log v.seen g.rises h.part.rises (λ a t. h.whole (m.home a.1) (all (m.home a.1) (g.housed a t)) a t (ok.home_about a.1)) h.part.within

  draws : (log : List (ℕ × E)) (v : View E N) (e : E) → IsLog m p log → IsView m p log v → MayDraw m p e v → Draws m p e v (length log) (drawn m (length log) e v)
  draws log v e g h may =
      let z : ℕ × E = (length log, e) in
      let more : length (log ++ z ∷ []) ≡ length log + 1 = length-append log (z ∷ []) in
      let l = short m ok p (log ++ z ∷ []) (log_more log v e g h may) in
      let after = view_drawn log v (length log) e g g.low h may in
      record {
        after = refl;
        above = λ a t. g.low a (h.part.within a t);
        few = omega arith;
        next = λ all. ap length (whole_log log v g h all);
        legal = after.legal;
        sound = sound_view m p (log ++ z ∷ []) (drawn m (length log) e v) after;
      }

  -- whatever the table is when the word is counted up, the seat can go on
  pub draw_allows : (e : E) (slots id : ℕ) (me : Seen N E) (v : View E N) → me.0 ≡ v ∷ [] → me.1 ≡ [] → MayDraw m p e v
      → Allows (CountsHistory m p) slots id me 0 (λ n. (n + 1) % 2 ^ 64) (draws_as m (Some (p, e)) me)
  draw_allows e slots id me v one bare may s kept homes at low =
      let log = kept.0 in
      let k = kept.1 in
      let n = length log in
      let z : ℕ × E = (n, e) in
      let d = drawn m n e v in
      let at' : get_elem? s.views id ≡ some (v ∷ []) = at ∙ ap (λ (t : List (View E N)). some t) one in
      let After : List ℕ → Type 0 = λ ws. (w : List (View E N)) × (a : Act (Unit {0})) × Valid s.homes me.1 a × CountsHistory m p record { words = slice_set ws 0 ((slice_index ws 0 + 1) % 2 ^ 64); homes = homes_after s.homes me.1 a; views = slice_set s.views id w } × draws_as m (Some (p, e)) me (slice_index ws 0) (w, carried_after me.1 a) in
      let K : List ℕ → Type 0 = λ ws. CountsLog m p log ws s.views in
      let k' : CountsLog m p log (n ∷ []) s.views = subst K k.word k in
      let h : IsView m p log v = k.known id (v ∷ []) v at' (inl refl) in
      let more : length (log ++ z ∷ []) ≡ n + 1 = length-append log (z ∷ []) in
      let l = short m ok p (log ++ z ∷ []) (log_more log v e k.history h may) in
      let lt : n + 1 < 2 ^ 64 = omega arith in
      let word : length (log ++ z ∷ []) ≡ (n + 1) % 2 ^ 64 = more ∙ sym (mod-eq_of_lt lt) in
      let W : ℕ → Type 0 = λ c. CountsLog m p (log ++ z ∷ []) (c ∷ []) (set s.views id (d ∷ [])) in
      let D : List (View E N) → Type 0 = λ vs. Draws m p e (sight vs) n d in
      subst After (sym k.word) (d ∷ [], keeps, tt, (log ++ z ∷ [], subst W word (kept_drawn log s.views id v e k' at' may)), (refl, bare, subst D (sym one) (draws log v e k.history h may)))

  -- the same, where what is said is the entry and what the spine was begun with
  pub draw_said : (said : Option (S × E)) (slots id : ℕ) (me : Seen N E) → length me.0 ≡ 1 → me.1 ≡ [] → IsSomeAnd said (λ a. (a.0 ≡ p) × MayDraw m a.0 a.1 (sight me.0))
      → Allows (CountsHistory m p) slots id me 0 (λ n. (n + 1) % 2 ^ 64) (draws_as m said me)
  draw_said None slots id me one bare may = absurd may
  draw_said (Some a) slots id me one bare may =
      let P : S → Type 0 = λ q. MayDraw m q a.1 (sight me.0) in
      let Q : S → Type 0 = λ q. Allows (CountsHistory m p) slots id me 0 (λ n. (n + 1) % 2 ^ 64) (draws_as m (Some (q, a.1)) me) in
      subst Q (sym may.0) (draw_allows a.1 slots id me (sight me.0) (single_view me.0 one) bare (subst P may.0 may.1))
