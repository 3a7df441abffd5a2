-- What names and entries mean for the product's parts.
use Rattle.dm_model.specs.declared.entry.HistoryEntry.{HistoryEntry}
use Rattle.dm_model.specs.declared.entry.Name.{Name}
use Rattle.dm_openings.specs.Openings.{Loaded, openings}
use Rattle.dm_openings.proofs.OpeningsBegin.{lawful_openings}
use Rattle.dm_pasts.specs.Pulled.{pulled}
use Rattle.dm_pasts.proofs.PulledLawful.{lawful_pulled}
use Rattle.dm_spine.specs.Past.{Lawful, Meaning}
use Rattle.dm_witness.specs.Chosen.{value_of}
use Rattle.dm_bench.specs.declared.system.System.{System}

-- what was loaded, by its witness
abbrev pub loaded_by : System → Loaded
loaded_by s = record { state = value_of s.loaded; workers = s.workers; few = s.few }

-- an entry may come where it may in the history of each opening of what was loaded
abbrev pub machine : Meaning System Name HistoryEntry
machine = pulled loaded_by openings

pub machine_lawful : Lawful machine
machine_lawful = lawful_pulled loaded_by openings lawful_openings
