-- A counter under a lock, and what an addition does.
use Rattle.std.specs.Prelude.{◌≡◌, ℕ, ◌*◌, ◌<◌, ◌≤◌, List, [], ◌∷◌, ◌++◌}
use Rattle.dm_spine.specs.Past.{In, chain, at_home}
use Rattle.dm_spine.specs.Rule.{Draws}
use Rattle.dm_spine.specs.Passes.{IsOn, seen_by, kept_by}
use Rattle.dm_spine.specs.declared.rule.View.{View}
use Rattle.shared_tally.specs.Counting.{counting, replay}
use Rattle.shared_tally.specs.declared.counting.Added.{Added}
use Rattle.shared_tally.specs.declared.counting.Counting.{Counting}
use Rattle.shared_tally.specs.declared.counting.Name.{Name}
use Rattle.shared_tally.specs.declared.counting.Name.TheVariants.{Counter, Worker}
use Rattle.shared_tally.specs.declared.tally.Place.{Place}
use Rattle.shared_tally.specs.declared.tally.Tally.{Tally}

-- the total is the replay of the counter's chain, and the count the number of the entries that are at home there
pub record Totals (number total count : ℕ) (xs : List (ℕ × Added)) : Type 0 where
  pub replayed : total ≡ replay (chain counting (Counter number) xs)
  pub counted : count ≡ at_home counting (Counter number) xs
  pub small : total ≤ 65535 * count

abbrev pub Sums : Tally → List (ℕ × Added) → Type 0
Sums t xs = Totals t.number t.total t.count xs

-- the counter is what its own pass has seen of it, and the pass keeps its name
pub record Stands (t : Tally) : Type 0 where
  pub known : t.number < 2
  pub keeps : In (Counter t.number) (kept_by t.pass)
  pub sums : Sums t (seen_by t.pass)

pub record FitsPlace (place : Place) (t : Tally) : Type 0 where
  pub spine : IsOn place.spine t.pass
  pub number : t.number ≡ place.number
  pub stands : Stands t

-- the entry was drawn
abbrev pub Enters : Counting → View Added Name → Added → View Added Name → Type 0
Enters p v e w = (n : ℕ) × Draws counting p e v n w

-- there are as many entries of the counter as there may be
abbrev pub IsFull : ℕ → List (ℕ × Added) → Type 0
IsFull number xs = 281474976710656 ≤ at_home counting (Counter number) xs

-- The counter's entries and the worker's have the entry at their ends, and nothing else is new among them. The total is
-- the replay of the counter's
pub record Adds (number : ℕ) (counters own : List (ℕ × Added)) (e : Added) (answer : ℕ) (seen : List (ℕ × Added)) : Type 0 where
  pub at : ℕ
  pub counter : chain counting (Counter number) seen ≡ chain counting (Counter number) counters ++ (at, e) ∷ []
  pub worker : chain counting (Worker e.worker) seen ≡ chain counting (Worker e.worker) own ++ (at, e) ∷ []
  pub total : answer ≡ replay (chain counting (Counter number) seen)
