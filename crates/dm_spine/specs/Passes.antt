-- What the public clauses say of a spine, its passes and their pasts.
use Rattle.std.specs.Prelude.{◌≡◌, ℕ, List}
use Rattle.std.specs.Arc.{arc_value}
use Rattle.dm_spine.specs.Rule.{sight}
use Rattle.dm_spine.specs.declared.rule.View.{View}
use Rattle.dm_spine.specs.declared.pass.Pass.{Pass}
use Rattle.dm_spine.specs.declared.pass.Spine.{Spine}
use Rattle.dm_spine.specs.declared.pass.Past.{Past}

module _ {S N E : Type 0} where
  -- the value that the spine was begun with
  abbrev pub parts_of : Pass S N E → S
  parts_of pass = (arc_value pass.table).shared.key

  abbrev pub spine_parts : Spine S N E → S
  spine_parts spine = (arc_value spine.table).shared.key

  -- what the pass knows
  abbrev pub view_of : Pass S N E → View E N
  view_of pass = sight pass.seat.me.0

  -- the pass's past: the entries that it has seen, by their numbers
  abbrev pub seen_by : Pass S N E → List (ℕ × E)
  seen_by pass = (view_of pass).seen

  -- the names that the pass keeps
  abbrev pub kept_by : Pass S N E → List N
  kept_by pass = (view_of pass).keeps

  -- both passes are of one spine
  abbrev pub IsBeside : Pass S N E → Pass S N E → Type 0
  IsBeside one other = arc_value one.table ≡ arc_value other.table

  -- the pass is of the spine
  abbrev pub IsOn : Spine S N E → Pass S N E → Type 0
  IsOn spine pass = arc_value spine.table ≡ arc_value pass.table

  -- the entries that were seen
  abbrev pub past_of : Past S N E → List (ℕ × E)
  past_of past = (sight past.seat.me.0).seen
