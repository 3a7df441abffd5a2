-- The events of the joint machine as the entries of a shared history.
--
-- What an event is about, makes and ends is told by the words of the machine (`dm_model`, Names). The state of a name isn't a
-- fold of its own entries, since who makes a token isn't about it: so the machine's whole step stands in what an entry needs
-- of the past, and one name's entries may follow each other in any way.
use Rattle.std.specs.Prelude.{◌≡◌, ℕ, ◌≤◌, ◌⊎◌, Bool, true, List, [], ◌∷◌, length}
use Rattle.std.specs.List.{list_any}
use Rattle.dm_model.specs.declared.entry.HistoryEntry.{HistoryEntry}
use Rattle.dm_model.specs.declared.entry.Name.{Name}
use Rattle.dm_model.specs.declared.state.Joint.{Joint}
use Rattle.dm_model.specs.Names.{ended_by, run_entry_of, fixed_names, home_of, is_about, made_by, maker_of, names_of, same_name}
use Rattle.dm_model.specs.Step.{RunEntry, Stepped, state_after, step}
use Rattle.dm_invariant.specs.Opened.{Opened}
use Rattle.dm_shown.specs.Along.{GoesOn}
use Rattle.dm_spine.specs.Past.{In, IsPart, Legal, Meaning, chain}

-- what a history begins with: a state, and how many workers there are. The homes are few, and fixed
pub record Begun : Type 0 where
  pub opened : Joint
  pub workers : ℕ
  pub few : length (fixed_names opened workers) ≤ 32768

-- the state after an entry, and after the entries of a past, in their order
abbrev pub joint_after : Joint → HistoryEntry → Joint
joint_after j e = state_after j (step j e.worker e.event)

abbrev pub state_seen : Joint → List (ℕ × HistoryEntry) → Joint
state_seen j [] = j
state_seen j (a ∷ xs) = state_seen (joint_after j a.1) xs

-- the entries of a past as those of a run
abbrev pub run_of : List (ℕ × HistoryEntry) → List RunEntry
run_of [] = []
run_of (a ∷ xs) = run_entry_of a.1 ∷ run_of xs

-- the event is legal in the state, the answer is the machine's, and the entry names all that the event is about there
pub record Taken (j : Joint) (e : HistoryEntry) : Type 0 where
  pub taken : step j e.worker e.event ≡ Stepped (joint_after j e) e.answer
  pub named : (x : Name) → In x (names_of j e.worker e.event) → is_about e x ≡ true
  -- with a stop a history is over, and the next start begins another
  pub goes : GoesOn e.event

-- some entry made the name
abbrev pub MadeIn : Name → List (ℕ × HistoryEntry) → Type 0
MadeIn x xs = (a : ℕ × HistoryEntry) × In a xs × In x (made_by a.1.event a.1.answer)

-- the name is fixed, or an entry of the past made it
abbrev pub Rooted : Begun → Name → List (ℕ × HistoryEntry) → Type 0
Rooted begun x xs = In x (fixed_names begun.opened begun.workers) ⊎ MadeIn x xs

-- the entry may come after the past xs
pub record Needed (begun : Begun) (xs : List (ℕ × HistoryEntry)) (e : HistoryEntry) : Type 0 where
  pub taken : Taken (state_seen begun.opened xs) e
  -- each name that it is about is fixed, or was made
  pub rooted : (x : Name) → is_about e x ≡ true → Rooted begun x xs
  -- what it makes is new
  pub fresh : (x : Name) → In x (made_by e.event e.answer) → MadeIn x xs → ⊥

-- whether it is the name's last entry
abbrev pub does_end : HistoryEntry → Name → Bool
does_end e x = list_any (same_name x) (ended_by e.event e.names)

abbrev pub history : Meaning Begun Name HistoryEntry
history = record {
  same = same_name;
  fixed = λ begun. fixed_names begun.opened begun.workers;
  about = is_about;
  home = λ e. home_of e.event;
  makes = λ n e. made_by e.event e.answer;
  ends = does_end;
  maker = maker_of;
  needs = λ begun xs e. Opened begun.opened → Needed begun xs e;
  follows = λ begun x xs e. Unit {0};
}

-- between two legal pasts, what an entry needs stays true in the larger, where the chains of its own names are the same
abbrev pub NeedsGrow : Type 0
NeedsGrow =
    (begun : Begun) (xs ys : List (ℕ × HistoryEntry)) (e : HistoryEntry) → IsPart history xs ys → Legal history begun xs → Legal history begun ys
    → ((x : Name) → is_about e x ≡ true → chain history x xs ≡ chain history x ys)
    → (Opened begun.opened → Needed begun xs e) → Opened begun.opened → Needed begun ys e
