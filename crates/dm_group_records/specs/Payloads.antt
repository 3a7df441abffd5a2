-- What each payload of a group's journal is spelled as.
use Rattle.std.specs.Prelude.{◌≡◌, ⊤, ℕ, Option, None, Some, List, [], ◌∷◌, ◌++◌}
use Rattle.dm_durable.specs.Fields.{FitsGroupPayload}
use Rattle.dm_durable.specs.declared.group_journal.GroupPayload.{GroupPayload}
use Rattle.dm_durable.specs.declared.group_journal.GroupPayload.TheVariants.{Head, Record, OldRecord, Row}
use Rattle.dm_fields.specs.Fields.{byte_field}
use Rattle.dm_fields.specs.Numbers.{be64}
use Rattle.dm_group_records.specs.OldSteps.{old_kind_of, old_byte, old_fields}
use Rattle.dm_group_records.specs.Rows.{row_byte, row_fields}
use Rattle.dm_group_records.specs.Steps.{kind_of, step_byte, step_fields}
use Rattle.dm_group_records.specs.declared.kinds.OldKind.{OldKind}

-- `DMGROUP1`
abbrev pub head_name : List ℕ
head_name = 68 ∷ 77 ∷ 71 ∷ 82 ∷ 79 ∷ 85 ∷ 80 ∷ (49 ∷ [])

-- the kind of an old record; 0 is no kind
abbrev pub old_byte_if : Option OldKind → ℕ
old_byte_if None = 0
old_byte_if (Some k) = old_byte k

-- its kind
abbrev pub payload_byte : GroupPayload → ℕ
payload_byte (Head time group) = 1
payload_byte (Record r) = step_byte (kind_of r.step)
payload_byte (OldRecord r) = old_byte_if (old_kind_of r.step)
payload_byte (Row r) = row_byte r

-- and what stands behind it
abbrev pub payload_fields : GroupPayload → List ℕ
payload_fields (Head time group) = be64 time.0 ++ (head_name ++ byte_field group.0)
payload_fields (Record r) = be64 r.time.0 ++ step_fields r.step
payload_fields (OldRecord r) = be64 r.time.0 ++ old_fields r.step
payload_fields (Row r) = row_fields r

abbrev pub spelling : GroupPayload → List ℕ
spelling p = payload_byte p ∷ payload_fields p

-- what may stand in a log: a row stands in a checkpoint alone
abbrev pub IsOfLog : GroupPayload → Type 0
IsOfLog (Head time group) = ⊤
IsOfLog (Record r) = ⊤
IsOfLog (OldRecord r) = ⊤
IsOfLog (Row r) = ⊥

abbrev pub FitsLog : GroupPayload → Type 0
FitsLog p = IsOfLog p × FitsGroupPayload p

-- a payload of this kind
abbrev pub IsOfByte : ℕ → GroupPayload → Type 0
IsOfByte n p = (payload_byte p ≡ n) × FitsLog p
