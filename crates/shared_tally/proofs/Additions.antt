-- One addition to a counter.
use Rattle.std.proofs.Common.{◌≡◌, ℕ, ◌+◌, ◌<◌, ◌≤◌, true, List, [], ◌∷◌, ◌++◌, length, Result, Ok, Err, IfOk, OnErr, MatchResult, refl, sym, ap, ◌∙◌, subst, length-append, arith}
use Rattle.std.proofs.lemmas.Bool.{eqb-true, eq-eqb}
use Rattle.dm_spine.specs.Past.{In, chain, at_home}
use Rattle.dm_spine.specs.Rule.{MayDraw, Gives}
use Rattle.dm_spine.specs.Passes.{seen_by, kept_by}
use Rattle.dm_spine.specs.declared.pass.Pass.{Pass}
use Rattle.dm_spine.specs.declared.rule.View.{View}
use Rattle.dm_spine.proofs.Uses.{chain-last, drawn_chain, still_kept, given_left_seen, other_kept, given_kept, given_chain, given_other}
use Rattle.shared_tally.specs.Counting.{counting, lawful_counting, is_about, added, replay, CanFollow}
use Rattle.shared_tally.specs.Tallies.{Totals, Stands, Enters, Adds, IsFull}
use Rattle.shared_tally.specs.declared.counting.Added.{Added}
use Rattle.shared_tally.specs.declared.counting.Counting.{Counting}
use Rattle.shared_tally.specs.declared.counting.Name.{Name}
use Rattle.shared_tally.specs.declared.counting.Name.TheVariants.{Counter, Worker}
use Rattle.shared_tally.specs.declared.tally.Full.{Full}

pub replay-append : (xs ys : List (ℕ × Added)) → replay (xs ++ ys) ≡ replay xs + replay ys
replay-append [] ys = omega arith
replay-append (x ∷ xs) ys = let e = replay-append xs ys in omega arith

apart : {x y : ℕ} → Worker x ≡ Counter y → ⊥
apart e = cc

keeps_named : (worker number amount : ℕ) (names : List Name) (x : Name) → In (Counter number) names → In (Worker worker) names → is_about (added worker number amount) x ≡ true → In x names
keeps_named worker number amount names (Counter y) c w e = subst (λ z. In (Counter z) names) (eqb-true number y e) c
keeps_named worker number amount names (Worker y) c w e = subst (λ z. In (Worker z) names) (eqb-true worker y e) w

can_follow : (worker number amount : ℕ) (xs : List (ℕ × Added)) (x : Name) → replay (chain counting (Counter number) xs) + amount < 18446744073709551616 → is_about (added worker number amount) x ≡ true → CanFollow x (chain counting x xs) (added worker number amount)
can_follow worker number amount xs (Counter y) h e = subst (λ z. replay (chain counting (Counter z) xs) + amount < 18446744073709551616) (eqb-true number y e) h
can_follow worker number amount xs (Worker y) h e = tt

-- a pass that keeps both names may draw the entry, where the counter has room
pub may_add : (p : Counting) (v : View Added Name) (worker number total count amount : ℕ) → Totals number total count v.seen → In (Counter number) v.keeps × In (Worker worker) v.keeps
    → number < 2 → 1 ≤ worker → worker ≤ 2 → amount < 65536 → count < 281474976710656 → MayDraw counting p (added worker number amount) v
may_add p v worker number total count amount sums names known low high small room =
    let t = sums.replayed in
    let k = sums.counted in
    let s = sums.small in
    record {
      keeps = λ x about. keeps_named worker number amount v.keeps x names.0 names.1 about;
      fresh = λ n x above made old. made;
      fits = record {
        needed = (known, low, high);
        followed = λ x about. can_follow worker number amount v.seen x (omega arith) about;
      };
      room = omega arith;
    }

-- the totals with one entry more
pub totals_more : (worker number total count amount n : ℕ) (xs : List (ℕ × Added)) → amount < 65536 → Totals number total count xs → Totals number (total + amount) (count + 1) (xs ++ (n, added worker number amount) ∷ [])
totals_more worker number total count amount n xs little sums =
    let t = sums.replayed in
    let k = sums.counted in
    let s = sums.small in
    let e = added worker number amount in
    let grown = chain-last counting (Counter number) xs n e (eq-eqb number number refl) in
    record {
      replayed = let r : replay (chain counting (Counter number) (xs ++ (n, e) ∷ [])) ≡ replay (chain counting (Counter number) xs) + replay ((n, e) ∷ []) = ap replay grown ∙ replay-append (chain counting (Counter number) xs) ((n, e) ∷ []) in omega arith;
      counted = let r : at_home counting (Counter number) (xs ++ (n, e) ∷ []) ≡ at_home counting (Counter number) xs + 1 = ap length grown ∙ length-append (chain counting (Counter number) xs) ((n, e) ∷ []) in omega arith;
      small = omega arith;
    }

-- totals speak of the counter's chain alone
pub totals_same : (number total count : ℕ) (xs ys : List (ℕ × Added)) → chain counting (Counter number) ys ≡ chain counting (Counter number) xs → Totals number total count xs → Totals number total count ys
totals_same number total count xs ys e sums = record {
  replayed = sums.replayed ∙ ap replay (sym e);
  counted = sums.counted ∙ ap length (sym e);
  small = sums.small;
}

-- What `enter` did, or left
module _ {q : Counting} (number worker amount total : ℕ) (v w : View Added Name) where
  abbrev pub Entered : Result ℕ Full → Type 0
  Entered s = IfOk s (λ t. Enters q v (added worker number amount) w × (t ≡ total))

  abbrev pub Left : Result ℕ Full → Type 0
  Left s = OnErr s ((w ≡ v) × IsFull number v.seen)

  pub entered_keeps : (s : Result ℕ Full) (y : Name) → Entered s → Left s → In y v.keeps → In y w.keeps
  entered_keeps (Ok t) y e f h = still_kept e.0.1 y h refl
  entered_keeps (Err x) y e f h = let P : View Added Name → Type 0 = λ u. In y u.keeps in subst P (sym f.0) h

-- and between the two hands that the counter's name passed through
module _ {p q r : Counting} (number worker amount total : ℕ) {k w k1 w1 w2 k2 w3 k3 : View Added Name}
    (there : Gives counting p (Counter number) k w k1 w1) (back : Gives counting r (Counter number) w2 k2 w3 k3) where
  pub worker_kept : (s : Result ℕ Full) → Entered {q = q} number worker amount total w1 w2 s → Left {q = q} number worker amount total w1 w2 s → In (Worker worker) w.keeps → In (Worker worker) w3.keeps
  worker_kept s e f h = other_kept lawful_counting back (Worker worker) (entered_keeps {q = q} number worker amount total w1 w2 s (Worker worker) e f (given_kept lawful_counting there (Worker worker) h)) (λ d. apart d)

  pub adds_said : (s : Result ℕ Full) → Entered {q = q} number worker amount total w1 w2 s → Left {q = q} number worker amount total w1 w2 s → In (Worker worker) w.keeps → total ≡ replay (chain counting (Counter number) w2.seen)
      → MatchResult s
      (λ t. Adds number k.seen w.seen (added worker number amount) t w3.seen)
      (λ _. IsFull number w3.seen × (chain counting (Worker worker) w3.seen ≡ chain counting (Worker worker) w.seen))
  adds_said (Ok t) e f h same =
      let a = added worker number amount in
      let n = e.0.0 in
      let drew = e.0.1 in
      let last = given_left_seen lawful_counting back in
      record {
        at = n;
        counter = ap (λ xs. chain counting (Counter number) xs) last ∙ (drawn_chain drew (Counter number) (eq-eqb number number refl) ∙ ap (λ xs. xs ++ (n, a) ∷ []) (given_chain lawful_counting there));
        worker = ap (λ xs. chain counting (Worker worker) xs) last ∙ (drawn_chain drew (Worker worker) (eq-eqb worker worker refl) ∙ ap (λ xs. xs ++ (n, a) ∷ []) (given_other lawful_counting there (Worker worker) h));
        total = e.1 ∙ (same ∙ ap (λ xs. replay (chain counting (Counter number) xs)) (sym last));
      }
  adds_said (Err x) e f h same =
      let seen : w3.seen ≡ w1.seen = given_left_seen lawful_counting back ∙ ap (λ u. u.seen) f.0 in
      let P : List (ℕ × Added) → Type 0 = λ xs. IsFull number xs in
      (subst P (sym seen) f.1, ap (λ xs. chain counting (Worker worker) xs) seen ∙ given_other lawful_counting there (Worker worker) h)

pub stands_said : (new number total count : ℕ) (pass : Pass Counting Name Added) (xs : List (ℕ × Added)) → new ≡ number → number < 2 → In (Counter number) (kept_by pass)
    → chain counting (Counter number) (seen_by pass) ≡ chain counting (Counter number) xs → Totals new total count xs → Stands record { number = new; total = total; count = count; pass = pass }
stands_said new number total count pass xs e known keeps same sums =
    let K : ℕ → Type 0 = λ n. In (Counter n) (kept_by pass) in
    let C : ℕ → Type 0 = λ n. chain counting (Counter n) (seen_by pass) ≡ chain counting (Counter n) xs in
    record {
      known = omega arith;
      keeps = subst K (sym e) keeps;
      sums = totals_same new total count xs (seen_by pass) (subst C (sym e) same) sums;
    }
