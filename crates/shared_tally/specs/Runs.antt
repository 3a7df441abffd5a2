-- What a run of two workers leaves.
use Rattle.std.specs.Prelude.{◌≡◌, ℕ, ◌+◌, ◌≤◌, List, [], ◌∷◌, ◌++◌, length, map, Result, OnOk, OnErr}
use Rattle.dm_spine.specs.Past.{In, Legal, chain}
use Rattle.dm_spine.specs.Passes.{IsOn, seen_by, kept_by}
use Rattle.dm_spine.specs.declared.pass.Pass.{Pass}
use Rattle.shared_tally.specs.Tallies.{IsFull}
use Rattle.shared_tally.specs.Counting.{counting, added, replay}
use Rattle.shared_tally.specs.declared.counting.Added.{Added}
use Rattle.shared_tally.specs.declared.counting.Counting.{Counting}
use Rattle.shared_tally.specs.declared.counting.Name.{Name}
use Rattle.shared_tally.specs.declared.tally.Full.{Full}
use Rattle.shared_tally.specs.declared.tally.Place.{Place}
use Rattle.shared_tally.specs.declared.counting.Name.TheVariants.{Counter, Worker}

-- each entry may come after those before it
abbrev pub IsLegal : List (ℕ × Added) → Type 0
IsLegal xs = (p : Counting) → Legal counting p xs

-- the entries of the worker, in order
abbrev pub entries_by : ℕ → List (ℕ × Added) → List Added
entries_by worker xs = map (λ a. a.1) (chain counting (Worker worker) xs)

-- the entries that the worker makes of the amounts
abbrev pub entries_of : ℕ → ℕ → List ℕ → List Added
entries_of worker counter amounts = map (λ n. added worker counter n) amounts

-- The worker's entries have the entry at their end. The worker has seen the counter's entries up to it, and the total is
-- their replay
pub record AddsOne (counter : ℕ) (own : List (ℕ × Added)) (e : Added) (answer : ℕ) (seen : List (ℕ × Added)) : Type 0 where
  pub at : ℕ
  pub before : List (ℕ × Added)
  pub counters : chain counting (Counter counter) seen ≡ before ++ (at, e) ∷ []
  pub workers : chain counting (Worker e.worker) seen ≡ chain counting (Worker e.worker) own ++ (at, e) ∷ []
  pub total : answer ≡ replay (chain counting (Counter counter) seen)

-- What a worker's whole work leaves: all its amounts were added, or the counter is full
pub record Works (place : Place) (worker : ℕ) (amounts : List ℕ) (before after : Pass Counting Name Added) (done : Result (Unit {0}) Full) : Type 0 where
  pub beside : IsOn place.spine after
  pub keeps : In (Worker worker) (kept_by after)
  pub entries : OnOk done (entries_by worker (seen_by after) ≡ entries_by worker (seen_by before) ++ entries_of worker place.number amounts)
  pub full : OnErr done (IsFull place.number (seen_by after))
  pub few : length (entries_by worker (seen_by after)) ≤ length (entries_by worker (seen_by before)) + length amounts
