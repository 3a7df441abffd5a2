-- When the entries of a call may be drawn, and what is so once they are.
use Rattle.std.specs.Prelude.{◌≡◌, ℕ, true, false, Option, None, Some, List, [], ◌∷◌, ◌++◌, map}
use Rattle.dm_model.specs.declared.answer.Answer.TheVariants as answer
use Rattle.dm_model.specs.declared.call.Component.{Component}
use Rattle.dm_model.specs.declared.call.Event.TheVariants as event
use Rattle.dm_model.specs.declared.entry.HistoryEntry.{HistoryEntry}
use Rattle.dm_model.specs.declared.entry.Name.{Name}
use Rattle.dm_model.specs.declared.entry.Name.TheVariants.{Worker}
use Rattle.dm_model.specs.declared.state.Joint.{Joint}
use Rattle.dm_model.specs.Names.{component_name, home_of, is_about, made_by}
use Rattle.dm_history.specs.History.{MadeIn, Taken, does_end, joint_after, state_seen}
use Rattle.dm_openings.specs.Openings.{IsOpening}
use Rattle.dm_spine.specs.Past.{In, Legal, at_home}
use Rattle.dm_spine.specs.Rule.{Draws, IsSound}
use Rattle.dm_spine.specs.declared.rule.View.{View}
use Rattle.dm_bench.specs.Systems.{loaded_by, machine}
use Rattle.dm_bench.specs.declared.component_notes.LandedNote.{LandedNote}
use Rattle.dm_bench.specs.declared.system.System.{System}

-- the step in doubt of the component had landed
abbrev pub landed_entry : ℕ → Component → HistoryEntry
landed_entry w c = record { worker = w; event = event.Landed c; answer = answer.Landed; names = [] }

-- the worker looked at the component
abbrev pub look_entry : ℕ → Component → HistoryEntry
look_entry w c = record { worker = w; event = event.Look c; answer = answer.Looked; names = Worker w ∷ [] }

-- what comes before a call's own entry: that a step in doubt had landed, if the call found so
abbrev pub landed_first : Option LandedNote → List HistoryEntry
landed_first None = []
landed_first (Some l) = landed_entry l.worker l.component ∷ []

-- it is the step of the component that the entry is of
abbrev pub LandedAtHome : Option LandedNote → HistoryEntry → Type 0
LandedAtHome None e = Unit {0}
LandedAtHome (Some l) e = component_name l.component ≡ home_of e.event

-- how many entries of the past have the home of this one
abbrev pub entries_at : HistoryEntry → List (ℕ × HistoryEntry) → ℕ
entries_at e xs = at_home machine (home_of e.event) xs

-- the entries are taken, one after the other
abbrev pub TakenAll : Joint → List HistoryEntry → Type 0
TakenAll j [] = Unit {0}
TakenAll j (e ∷ es) = Taken j e × TakenAll (joint_after j e) es

-- After `first` the entry may be drawn: the pass keeps every name that it is about; in each opening of what was loaded all of them are
-- taken after what the pass has seen; and what the entry makes is new
pub record MayEnter (s : System) (first : List HistoryEntry) (e : HistoryEntry) (v : View HistoryEntry Name) : Type 0 where
  pub sound : IsSound machine s v
  pub keeps : (x : Name) → is_about e x ≡ true → In x v.keeps
  pub taken : (j : Joint) → IsOpening (loaded_by s).state j → TakenAll (state_seen j v.seen) (first ++ e ∷ [])
  pub fresh : (x : Name) → In x (made_by e.event e.answer) → MadeIn x v.seen → ⊥

-- one entry was drawn
abbrev pub Enters : System → HistoryEntry → View HistoryEntry Name → View HistoryEntry Name → Type 0
Enters s e v w = (n : ℕ) × Draws machine s e v n w

-- The past has these entries at its end. The pass keeps what it kept, but for what the last of them ends, and what it makes
pub record EntersAll (s : System) (first : List HistoryEntry) (e : HistoryEntry) (v w : View HistoryEntry Name) : Type 0 where
  pub entries : List (ℕ × HistoryEntry)
  pub are : map (λ a. a.1) entries ≡ first ++ e ∷ []
  pub seen : w.seen ≡ v.seen ++ entries
  pub keeps : (x : Name) → In x v.keeps → does_end e x ≡ false → In x w.keeps
  pub makes : (x : Name) → In x (made_by e.event e.answer) → In x w.keeps
  pub legal : Legal machine s w.seen
  pub sound : IsSound machine s w
