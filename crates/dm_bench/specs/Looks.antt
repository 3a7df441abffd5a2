-- Looks at components: what they need, and that they were drawn.
use Rattle.std.specs.Prelude.{◌≡◌, ℕ, true, is_some, List}
use Rattle.std.specs.FinMap as map
use Rattle.dm_model.specs.declared.call.Component.{Component}
use Rattle.dm_model.specs.declared.call.Component.TheVariants as component
use Rattle.dm_model.specs.declared.entry.HistoryEntry.{HistoryEntry}
use Rattle.dm_model.specs.declared.state.Joint.{Joint}
use Rattle.dm_spine.specs.Past.{In}
use Rattle.dm_bench.specs.Drawing.{look_entry}

-- the component is configured
abbrev pub IsConfigured : Joint → Component → Type 0
IsConfigured j component.Daemon = Unit {0}
IsConfigured j (component.Group g) = is_some (map.get j.sides g.0) ≡ true

-- the worker looked at the component
abbrev pub HasLooked : ℕ → Component → List (ℕ × HistoryEntry) → Type 0
HasLooked w c xs = (n : ℕ) × In (n, look_entry w c) xs
