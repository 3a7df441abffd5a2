-- What the names and entries of a counter and its workers mean.
use Rattle.std.specs.Prelude.{◌≡◌, ℕ, ◌+◌, ◌<◌, ◌≤◌, Bool, true, false, ◌==◌, List, [], ◌∷◌}
use Rattle.std.proofs.Common.{ap, refl, sym, lit≤}
use Rattle.std.proofs.lemmas.Bool.{eqb-true, eq-eqb, true≢false}
use Rattle.dm_spine.specs.Past.{Meaning, Lawful}
use Rattle.shared_tally.specs.declared.counting.Added.{Added}
use Rattle.shared_tally.specs.declared.counting.Counting.{Counting}
use Rattle.shared_tally.specs.declared.counting.Name.{Name}
use Rattle.shared_tally.specs.declared.counting.Name.TheVariants.{Counter, Worker}

abbrev pub same_name : Name → Name → Bool
same_name (Counter x) (Counter y) = x == y
same_name (Counter x) (Worker y) = false
same_name (Worker x) (Counter y) = false
same_name (Worker x) (Worker y) = x == y

-- an entry is about the counter and the worker
abbrev pub is_about : Added → Name → Bool
is_about e (Counter x) = e.counter == x
is_about e (Worker x) = e.worker == x

abbrev pub added : ℕ → ℕ → ℕ → Added
added worker counter amount = record { worker = worker; counter = counter; amount = amount }

-- the amounts, added up
abbrev pub replay : List (ℕ × Added) → ℕ
replay [] = 0
replay (a ∷ xs) = a.1.amount + replay xs

-- the counter's total stays in a word
abbrev pub CanFollow : Name → List (ℕ × Added) → Added → Type 0
CanFollow (Counter x) xs e = replay xs + e.amount < 18446744073709551616
CanFollow (Worker x) xs e = Unit {0}

abbrev pub counting : Meaning Counting Name Added
counting = record {
  same = same_name;
  fixed = λ p. Counter 0 ∷ Counter 1 ∷ Worker 1 ∷ Worker 2 ∷ [];
  about = is_about;
  home = λ e. Counter e.counter;
  makes = λ n e. [];
  ends = λ e x. false;
  maker = λ x. x;
  needs = λ p xs e. (e.counter < 2) × (1 ≤ e.worker) × (e.worker ≤ 2);
  follows = λ p x xs e. CanFollow x xs e;
}

same_name_is : (x y : Name) → same_name x y ≡ true → x ≡ y
same_name_is (Counter x) (Counter y) e = ap (λ n. Counter n) (eqb-true x y e)
same_name_is (Counter x) (Worker y) e = absurd (true≢false (sym e))
same_name_is (Worker x) (Counter y) e = absurd (true≢false (sym e))
same_name_is (Worker x) (Worker y) e = ap (λ n. Worker n) (eqb-true x y e)

same_name_self : (x : Name) → same_name x x ≡ true
same_name_self (Counter x) = eq-eqb x x refl
same_name_self (Worker x) = eq-eqb x x refl

pub lawful_counting : Lawful counting
lawful_counting = record {
  same_is = same_name_is;
  same_self = same_name_self;
  home_about = λ e. eq-eqb e.counter e.counter refl;
  ends_about = λ e x h. absurd (true≢false (sym h));
  makes_about = λ n e x h. absurd h;
  makes_loose = λ p n e x h k. h;
  homes_stay = λ n e f h. h;
  fixed_few = λ p. lit≤ tt;
  needs_grow = λ p xs ys e part legal more same h. h;
}
