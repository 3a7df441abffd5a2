-- The entry of a call.
use Rattle.std.specs.Prelude.{ℕ, List}
use Rattle.dm_daemon_acts.specs.Acts.{Report, IsAnswer, IsFault, IsNoMemory}
use Rattle.dm_model.specs.declared.answer.Answer.TheVariants as answer
use Rattle.dm_model.specs.declared.call.Call.{Call}
use Rattle.dm_model.specs.declared.call.Event.TheVariants as event
use Rattle.dm_model.specs.declared.entry.HistoryEntry.{HistoryEntry}
use Rattle.dm_model.specs.declared.entry.Name.{Name}
use Rattle.dm_bench.specs.Named.{names_in}
use Rattle.dm_bench.specs.declared.note.CallNote.{CallNote}
use Rattle.dm_bench.specs.declared.note.Progress.{Progress}

-- Of a call that was answered, or that failed. Want of memory is no event: such a call has a stop for its entry, which no history
-- takes, and so can't be drawn
abbrev pub entry_of : ℕ → List Name → Call → Report → Progress → HistoryEntry
entry_of w names c (IsAnswer a) p = record { worker = w; event = event.Call c; answer = a; names = names }
entry_of w names c IsFault p =
    record { worker = w; event = event.Fault c p.healed p.checkpointed; answer = answer.Failed; names = names }
entry_of w names c IsNoMemory p = record { worker = w; event = event.Stop; answer = answer.Stopped; names = names }

-- of the note of a call, by what its arguments with its result say
abbrev pub entry_noted : {C R : Type 0} → (C → R → Call) → (C → R → Report) → CallNote C R → HistoryEntry
entry_noted call report n =
    entry_of n.worker (names_in n.names) (call n.arguments.now n.returned.now) (report n.arguments.now n.returned.now) n.progress
