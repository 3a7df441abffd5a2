-- What each payload of the daemon's journal is spelled as.
use Rattle.std.specs.Prelude.{◌≡◌, ⊤, ℕ, List, ◌∷◌, ◌++◌}
use Rattle.dm_durable.specs.Fields.{FitsPayload}
use Rattle.dm_durable.specs.declared.daemon_journal.DaemonPayload.{DaemonPayload}
use Rattle.dm_durable.specs.declared.daemon_journal.DaemonPayload.TheVariants.{Head, Record, Upgrade, Row}
use Rattle.dm_fields.specs.Numbers.{be64}
use Rattle.dm_records.specs.Names.{head_name}
use Rattle.dm_records.specs.Rows.{row_byte, row_fields}
use Rattle.dm_records.specs.Steps.{kind_of, step_byte, step_fields}

-- its kind
abbrev pub payload_byte : DaemonPayload → ℕ
payload_byte (Head h) = 1
payload_byte (Record r) = step_byte (kind_of r.step)
payload_byte (Upgrade time) = 16
payload_byte (Row r) = row_byte r

-- and what stands behind it
abbrev pub payload_fields : DaemonPayload → List ℕ
payload_fields (Head h) = be64 h.time.0 ++ (head_name h.version ++ (be64 h.site ++ (be64 h.first ++ be64 h.age)))
payload_fields (Record r) = be64 r.time.0 ++ step_fields r.step
payload_fields (Upgrade time) = be64 time.0
payload_fields (Row r) = row_fields r

abbrev pub spelling : DaemonPayload → List ℕ
spelling p = payload_byte p ∷ payload_fields p

-- what may stand in a log: a row stands in a checkpoint alone
abbrev pub IsOfLog : DaemonPayload → Type 0
IsOfLog (Head h) = ⊤
IsOfLog (Record r) = ⊤
IsOfLog (Upgrade time) = ⊤
IsOfLog (Row r) = ⊥

abbrev pub FitsLog : DaemonPayload → Type 0
FitsLog p = IsOfLog p × FitsPayload p

-- a payload of this kind
abbrev pub IsOfByte : ℕ → DaemonPayload → Type 0
IsOfByte n p = (payload_byte p ≡ n) × FitsLog p
