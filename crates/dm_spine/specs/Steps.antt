-- What each kind of step does to the views of a seat. What is said is picked by the call, for the proof alone.
use Rattle.std.specs.Prelude.{◌≡◌, ℕ, Option, IfSome, List, [], ◌∷◌, unwrap_or}
use Rattle.atomic_table.specs.Table.{Me}
use Rattle.dm_spine.specs.Past.{Meaning, Legal}
use Rattle.dm_spine.specs.Rule.{view, sight, joined, without, Draws, Together, IsSound}
use Rattle.dm_spine.specs.declared.rule.View.{View}

-- a seat that has views, and no slot
abbrev pub Seen : Type 0 → Type 0 → Type 0
Seen N E = Me (Unit {0}) (List (View E N))

module _ {S N E : Type 0} (m : Meaning S N E) where
  -- the seat's one view gains the entry
  abbrev pub draws_as : Option (S × E) → Seen N E → ℕ → Seen N E → Type 0
  draws_as said v n w = IfSome said (λ a. (w.0 ≡ sight w.0 ∷ []) × (w.1 ≡ []) × Draws m a.0 a.1 (sight v.0) n (sight w.0))

  -- the names said go from one view to another with the same past
  abbrev pub cut_left : Option (List N) → List (View E N) → List (View E N)
  cut_left said vs = view (sight vs).seen (without m (unwrap_or said []) (sight vs).keeps) ∷ []

  -- two views become one
  abbrev pub settles_as : Option S → Seen N E → Seen N E → Type 0
  settles_as said v w = IfSome said (λ p. (v' u : View E N) → v.0 ≡ v' ∷ (u ∷ [])
      → (w.0 ≡ joined v' u ∷ []) × (w.1 ≡ []) × Together m p v' u)

  -- nothing changes
  abbrev pub looks_as : Option S → Seen N E → Seen N E → Type 0
  looks_as said v w = IfSome said (λ p. (w ≡ v) × Legal m p (sight w.0).seen × IsSound m p (sight w.0))

module _ {N E : Type 0} where
  abbrev pub cut_right : Option (List N) → List (View E N) → List (View E N)
  cut_right said vs = view (sight vs).seen (unwrap_or said []) ∷ []
