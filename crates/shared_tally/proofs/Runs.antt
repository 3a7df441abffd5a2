-- A run of two workers: its beginning and its end.
use Rattle.std.proofs.Common.{◌≡◌, ℕ, ◌+◌, ◌<◌, ◌≤◌, ◌⊎◌, ◌==◌, Bool, true, false, cond, List, [], ◌∷◌, ◌++◌, length, map, sum, Result, Ok, Err, OnOk, OnErr, length-append, refl, sym, ap, ◌∙◌, subst, inl, inr, ⊎_elim, arith}
use Rattle.std.proofs.lemmas.Bool.{true≢false, eqb-true, eq-eqb}
use Rattle.std.proofs.lemmas.List.Sums.{sum_by-cons}
use Rattle.std.proofs.lemmas.List.{length-map}
use Rattle.std.specs.Result.{is_err}
use mathlib.Core.Logic.{dite}
use native.Mathlib.Decide.{ℕ_discrete}
use Rattle.dm_spine.specs.Past.{In, chain, union}
use Rattle.dm_spine.specs.Rule.{joined, Together}
use Rattle.dm_spine.specs.declared.rule.View.{View}
use Rattle.dm_spine.proofs.Lists.{in_left, in_right, in_filter, filter_in}
use Rattle.dm_spine.proofs.Uses.{chain_begins}
use Rattle.shared_tally.specs.Tallies.{IsFull}
use Rattle.shared_tally.specs.Counting.{counting, replay}
use Rattle.shared_tally.specs.Runs.{IsLegal, Works, entries_by, entries_of}
use Rattle.dm_spine.specs.Passes.{seen_by}
use Rattle.dm_spine.specs.declared.pass.Pass.{Pass}
use Rattle.shared_tally.specs.declared.tally.Full.{Full}
use Rattle.shared_tally.specs.declared.tally.Place.{Place}
use Rattle.shared_tally.specs.declared.counting.Added.{Added}
use Rattle.shared_tally.specs.declared.counting.Counting.{Counting}
use Rattle.shared_tally.specs.declared.counting.Name.{Name}
use Rattle.shared_tally.specs.declared.counting.Name.TheVariants.{Counter, Worker}

full_more : (number : ℕ) (xs ys zs rest : List (ℕ × Added)) → zs ≡ ys → chain counting (Counter number) ys ≡ chain counting (Counter number) xs ++ rest → IsFull number xs → IsFull number zs
full_more number xs ys zs rest e f h =
    let n : length (chain counting (Counter number) zs) ≡ length (chain counting (Counter number) xs) + length rest = ap (λ us. length (chain counting (Counter number) us)) e ∙ (ap length f ∙ length-append (chain counting (Counter number) xs) rest) in
    let l : 281474976710656 ≤ length (chain counting (Counter number) xs) = h in
    omega arith

-- What a pass knows once it took in another
module _ {p : Counting} {v w z : View Added Name} (e : z ≡ joined v w) (t : Together counting p v w) where
  pub mine_stays : (x : Name) → In x v.keeps → chain counting x z.seen ≡ chain counting x v.seen
  mine_stays x k = ap (λ (u : View Added Name). chain counting x u.seen) e ∙ t.mine x k

  pub theirs_comes : (x : Name) → In x w.keeps → chain counting x z.seen ≡ chain counting x w.seen
  theirs_comes x k = ap (λ (u : View Added Name). chain counting x u.seen) e ∙ t.theirs x k

  -- a counter that was full in either past is full in both together
  pub mine_full : (number : ℕ) → IsFull number v.seen → IsFull number z.seen
  mine_full number h =
      let rest = chain_begins counting (Counter number) v.seen (union v.seen w.seen) t.left_part in
      full_more number v.seen (union v.seen w.seen) z.seen rest.0 (ap (λ (u : View Added Name). u.seen) e) rest.1 h

  pub theirs_full : (number : ℕ) → IsFull number w.seen → IsFull number z.seen
  theirs_full number h =
      let rest = chain_begins counting (Counter number) w.seen (union v.seen w.seen) t.right_part in
      full_more number w.seen (union v.seen w.seen) z.seen rest.0 (ap (λ (u : View Added Name). u.seen) e) rest.1 h

  pub mine_kept : (x : Name) → In x v.keeps → In x z.keeps
  mine_kept x k = let P : View Added Name → Type 0 = λ u. In x u.keeps in subst P (sym e) (in_left x v.keeps w.keeps k)

  pub theirs_kept : (x : Name) → In x w.keeps → In x z.keeps
  theirs_kept x k = let P : View Added Name → Type 0 = λ u. In x u.keeps in subst P (sym e) (in_right x v.keeps w.keeps k)

by_one : (n : ℕ) → 1 ≤ n → n ≤ 2 → (n ≡ 1) ⊎ (n ≡ 2)
by_one n l m = dite (ℕ_discrete n 1) (λ e. inl e) (λ ne. inr (omega arith))

-- in a legal past each entry is one of the two workers'
pub only_these : (xs : List (ℕ × Added)) → IsLegal xs → (a : ℕ × Added) → In a xs → In a (chain counting (Worker 1) xs) ⊎ In a (chain counting (Worker 2) xs)
only_these xs legal a t =
    let known = (legal record {} a.0 a.1 t).needed in
    ⊎_elim
    (λ e. inl (filter_in (λ b. counting.about b.1 (Worker 1)) a xs t (eq-eqb a.1.worker 1 e)))
    (λ e. inr (filter_in (λ b. counting.about b.1 (Worker 2)) a xs t (eq-eqb a.1.worker 2 e)))
    (by_one a.1.worker known.1 known.2)

in_map : (a : ℕ × Added) (xs : List (ℕ × Added)) → In a xs → In a.1 (map (λ (b : ℕ × Added). b.1) xs)
in_map a [] t = t
in_map a (x ∷ xs) (inl e) = inl (ap (λ (b : ℕ × Added). b.1) e)
in_map a (x ∷ xs) (inr t) = inr (in_map a xs t)

in_entries : (worker number : ℕ) (e : Added) (amounts : List ℕ) → In e (entries_of worker number amounts) → e.counter ≡ number
in_entries worker number e [] t = absurd t
in_entries worker number e (n ∷ ns) (inl q) = ap (λ (a : Added). a.counter) q
in_entries worker number e (n ∷ ns) (inr t) = in_entries worker number e ns t

-- an entry of a worker whose entries are all of the counter 0
at_zero : (worker : ℕ) (amounts : List ℕ) (xs : List (ℕ × Added)) → entries_by worker xs ≡ entries_of worker 0 amounts → (a : ℕ × Added) → In a (chain counting (Worker worker) xs) → (a.1.counter ≡ 0) × (a.1.worker ≡ worker)
at_zero worker amounts xs e a t =
    let P : List Added → Type 0 = λ es. In a.1 es in (
      in_entries worker 0 a.1 amounts (subst P e (in_map a (chain counting (Worker worker) xs) t)),
      eqb-true a.1.worker worker (in_filter (λ b. counting.about b.1 (Worker worker)) a xs t).1,
    )

amounts_of : (worker number : ℕ) (amounts : List ℕ) → map (λ (e : Added). e.amount) (entries_of worker number amounts) ≡ amounts
amounts_of worker number [] = refl
amounts_of worker number (n ∷ ns) = ap (λ xs. n ∷ xs) (amounts_of worker number ns)

replay_sum : (xs : List (ℕ × Added)) → replay xs ≡ sum (map (λ (e : Added). e.amount) (map (λ (a : ℕ × Added). a.1) xs))
replay_sum [] = refl
replay_sum (x ∷ xs) = ap (λ n. x.1.amount + n) (replay_sum xs) ∙ sym (sum_by-cons (λ n. n) x.1.amount (map (λ (e : Added). e.amount) (map (λ (a : ℕ × Added). a.1) xs)))

-- a worker's entries add up to its amounts
replay_by : (worker : ℕ) (amounts : List ℕ) (xs : List (ℕ × Added)) → entries_by worker xs ≡ entries_of worker 0 amounts → replay (chain counting (Worker worker) xs) ≡ sum amounts
replay_by worker amounts xs e =
    replay_sum (chain counting (Worker worker) xs) ∙ (ap (λ es. sum (map (λ (e : Added). e.amount) es)) e ∙ ap (λ ns. sum ns) (amounts_of worker 0 amounts))

split_one : (a : ℕ × Added) (cs ws vs : List (ℕ × Added)) (x y z : Bool) → x ≡ true → ((y ≡ true) × (z ≡ false)) ⊎ ((y ≡ false) × (z ≡ true)) → replay cs ≡ replay ws + replay vs
    → replay (cond x (a ∷ cs) cs) ≡ replay (cond y (a ∷ ws) ws) + replay (cond z (a ∷ vs) vs)
split_one a cs ws vs false y z e f h = absurd (true≢false (sym e))
split_one a cs ws vs true true false e f h = omega arith
split_one a cs ws vs true false true e f h = omega arith
split_one a cs ws vs true true true e f h = absurd (⊎_elim (λ t. true≢false t.1) (λ t. true≢false t.0) f)
split_one a cs ws vs true false false e f h = absurd (⊎_elim (λ t. true≢false (sym t.0)) (λ t. true≢false (sym t.1)) f)

-- the counter's entries are the one worker's and the other's
split_all : (xs : List (ℕ × Added)) → ((a : ℕ × Added) → In a xs → (a.1.counter ≡ 0) × ((a.1.worker ≡ 1) ⊎ (a.1.worker ≡ 2)))
    → replay (chain counting (Counter 0) xs) ≡ replay (chain counting (Worker 1) xs) + replay (chain counting (Worker 2) xs)
split_all [] f = refl
split_all (a ∷ xs) f =
    let h = f a (inl refl) in
    let B : ℕ → Type 0 = λ n. (((n == 1) ≡ true) × ((n == 2) ≡ false)) ⊎ (((n == 1) ≡ false) × ((n == 2) ≡ true)) in
    split_one a (chain counting (Counter 0) xs) (chain counting (Worker 1) xs) (chain counting (Worker 2) xs) (a.1.counter == 0) (a.1.worker == 1) (a.1.worker == 2)
    (eq-eqb a.1.counter 0 h.0)
    (⊎_elim (λ e. subst B (sym e) (inl (refl, refl))) (λ e. subst B (sym e) (inr (refl, refl))) h.1)
    (split_all xs (λ b t. f b (inr t)))

pub total_is_sum : (xs : List (ℕ × Added)) (first second : List ℕ) → IsLegal xs → entries_by 1 xs ≡ entries_of 1 0 first → entries_by 2 xs ≡ entries_of 2 0 second
    → replay (chain counting (Counter 0) xs) ≡ sum first + sum second
total_is_sum xs first second legal one two =
    let each : (a : ℕ × Added) → In a xs → (a.1.counter ≡ 0) × ((a.1.worker ≡ 1) ⊎ (a.1.worker ≡ 2)) = λ a t. ⊎_elim
    (λ u. let k = at_zero 1 first xs one a u in (k.0, inl k.1))
    (λ u. let k = at_zero 2 second xs two a u in (k.0, inr k.1))
    (only_these xs legal a t) in
    let s = split_all xs each in
    let f = replay_by 1 first xs one in
    let g = replay_by 2 second xs two in
    omega arith

count_one : (a : ℕ × Added) (cs ws vs : List (ℕ × Added)) (x y z : Bool) → (y ≡ true) ⊎ (z ≡ true) → length cs ≤ length ws + length vs
    → length (cond x (a ∷ cs) cs) ≤ length (cond y (a ∷ ws) ws) + length (cond z (a ∷ vs) vs)
count_one a cs ws vs false false false f h = omega arith
count_one a cs ws vs false false true f h = omega arith
count_one a cs ws vs false true false f h = omega arith
count_one a cs ws vs false true true f h = omega arith
count_one a cs ws vs true false false f h = absurd (⊎_elim (λ t. true≢false (sym t)) (λ t. true≢false (sym t)) f)
count_one a cs ws vs true false true f h = omega arith
count_one a cs ws vs true true false f h = omega arith
count_one a cs ws vs true true true f h = omega arith

count_all : (xs : List (ℕ × Added)) → ((a : ℕ × Added) → In a xs → (a.1.worker ≡ 1) ⊎ (a.1.worker ≡ 2))
    → length (chain counting (Counter 0) xs) ≤ length (chain counting (Worker 1) xs) + length (chain counting (Worker 2) xs)
count_all [] f = omega arith
count_all (a ∷ xs) f =
    count_one a (chain counting (Counter 0) xs) (chain counting (Worker 1) xs) (chain counting (Worker 2) xs) (a.1.counter == 0) (a.1.worker == 1) (a.1.worker == 2)
    (⊎_elim (λ e. inl (eq-eqb a.1.worker 1 e)) (λ e. inr (eq-eqb a.1.worker 2 e)) (f a (inl refl)))
    (count_all xs (λ b t. f b (inr t)))

-- where the workers have few entries, the counter is not full
pub never_full : (xs one two : List (ℕ × Added)) (n m : ℕ) → IsLegal xs → chain counting (Worker 1) xs ≡ chain counting (Worker 1) one → chain counting (Worker 2) xs ≡ chain counting (Worker 2) two
    → length (entries_by 1 one) ≤ n → length (entries_by 2 two) ≤ m → n + m < 281474976710656 → IsFull 0 xs → ⊥
never_full xs one two n m legal e f k l small full =
    let each : (a : ℕ × Added) → In a xs → (a.1.worker ≡ 1) ⊎ (a.1.worker ≡ 2) = λ a t. let known = (legal record {} a.0 a.1 t).needed in by_one a.1.worker known.1 known.2 in
    let c = count_all xs each in
    let u : length (chain counting (Worker 1) xs) ≡ length (entries_by 1 one) = ap length e ∙ sym (length-map (chain counting (Worker 1) one) (λ (a : ℕ × Added). a.1)) in
    let v : length (chain counting (Worker 2) xs) ≡ length (entries_by 2 two) = ap length f ∙ sym (length-map (chain counting (Worker 2) two) (λ (a : ℕ × Added). a.1)) in
    let w : 281474976710656 ≤ length (chain counting (Counter 0) xs) = full in
    omega arith

pub err_says : {A E : Type 0} {P : Type 0} (r : Result A E) → is_err r ≡ true → OnErr r P → P
err_says (Ok x) e h = absurd (true≢false (sym e))
err_says (Err x) e h = h

pub ok_says : {A E : Type 0} {P : Type 0} (r : Result A E) → is_err r ≡ false → OnOk r P → P
ok_says (Ok x) e h = h
ok_says (Err x) e h = absurd (true≢false e)

-- a pass that had seen nothing has the entries of its worker's amounts, and no more
pub works_few : (place : Place) (worker : ℕ) (amounts : List ℕ) (before after : Pass Counting Name Added) (done : Result (Unit {0}) Full) → seen_by before ≡ [] → Works place worker amounts before after done
    → length (entries_by worker (seen_by after)) ≤ length amounts
works_few place worker amounts before after done e h =
    let n : length (entries_by worker (seen_by before)) ≡ 0 = ap (λ xs. length (entries_by worker xs)) e in
    let l = h.few in
    omega arith

pub works_full : (place : Place) (worker : ℕ) (amounts : List ℕ) (before after : Pass Counting Name Added) (done : Result (Unit {0}) Full) → place.number ≡ 0 → is_err done ≡ true → Works place worker amounts before after done
    → IsFull 0 (seen_by after)
works_full place worker amounts before after done e err h = let F : ℕ → Type 0 = λ n. IsFull n (seen_by after) in subst F e (err_says done err h.full)

pub works_all : (place : Place) (worker : ℕ) (amounts : List ℕ) (before after : Pass Counting Name Added) (done : Result (Unit {0}) Full) (xs : List (ℕ × Added)) → place.number ≡ 0 → seen_by before ≡ [] → is_err done ≡ false
    → Works place worker amounts before after done → chain counting (Worker worker) xs ≡ chain counting (Worker worker) (seen_by after) → entries_by worker xs ≡ entries_of worker 0 amounts
works_all place worker amounts before after done xs e nothing fine h same =
    let all : entries_by worker (seen_by after) ≡ entries_by worker (seen_by before) ++ entries_of worker place.number amounts = ok_says done fine h.entries in
    ap (λ us. map (λ (a : ℕ × Added). a.1) us) same ∙ (all ∙ (ap (λ us. entries_by worker us ++ entries_of worker place.number amounts) nothing ∙ ap (λ n. entries_of worker n amounts) e))
