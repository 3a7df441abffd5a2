-- What the payloads of a log come to, each as the bytes that spell it.
use Rattle.std.specs.Prelude.{◌≡◌, ℕ, List, [], ◌∷◌}
use Rattle.dm_daemon_replay.specs.declared.replayed.Replayed.{Replayed}
use Rattle.dm_daemon_tables.specs.Tables.{state_of}
use Rattle.dm_durable.specs.DaemonJournal.{DaemonState, MayBeHead, MayCome, after_payload, state_of_head}
use Rattle.dm_durable.specs.Fields.{FitsPayload}
use Rattle.dm_durable.specs.declared.daemon_journal.DaemonHead.{DaemonHead}
use Rattle.dm_durable.specs.declared.daemon_journal.DaemonPayload.{DaemonPayload}
use Rattle.dm_durable.specs.declared.daemon_journal.DaemonPayload.TheVariants.{Head}
use Rattle.dm_records.specs.Payloads.{spelling}

-- the state that the program has replayed
abbrev pub replayed_of : Replayed → DaemonState
replayed_of r = record { version = r.version; tables = state_of r.tables }

-- the bytes are a head, which begins a journal with the state
pub record IsBeginning (bytes : List ℕ) (s : DaemonState) : Type 0 where
  pub head : DaemonHead
  pub spelled : bytes ≡ spelling (Head head)
  pub fits : FitsPayload (Head head)
  pub may : MayBeHead head
  pub state : s ≡ state_of_head head

-- the bytes are a payload that may come in the state s, and leaves the state u
pub record IsNext (s : DaemonState) (bytes : List ℕ) (u : DaemonState) : Type 0 where
  pub payload : DaemonPayload
  pub spelled : bytes ≡ spelling payload
  pub fits : FitsPayload payload
  pub may : MayCome s payload
  pub after : u ≡ after_payload s payload

-- each of the bytes may come in turn, from the state s on, and the last one leaves the state u
abbrev pub Replays : DaemonState → List (List ℕ) → DaemonState → Type 0
Replays s [] u = s ≡ u
Replays s (p ∷ ps) u = (v : DaemonState) × IsNext s p v × Replays v ps u

-- a log of these payloads comes to the state
abbrev pub LogTells : List (List ℕ) → DaemonState → Type 0
LogTells [] u = ⊥
LogTells (p ∷ ps) u = (s : DaemonState) × IsBeginning p s × Replays s ps u
