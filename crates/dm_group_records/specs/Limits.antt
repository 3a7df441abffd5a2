-- The payloads that a configuration allows, and how long a journal's payload may be.
use Rattle.std.specs.Prelude.{◌≡◌, ⊤, ℕ, ◌≤◌, List, length}
use Rattle.dm_base.specs.Limits.{file_limit, volumes_limit, chunk_least}
use Rattle.dm_base.specs.declared.volume.Chunk.{Chunk}
use Rattle.dm_durable.specs.declared.group.GroupStep.{GroupStep}
use Rattle.dm_durable.specs.declared.group.GroupStep.TheVariants.{Volume, Commit, Delete, Move, Free, Reuse}
use Rattle.dm_durable.specs.declared.group_journal.GroupPayload.{GroupPayload}
use Rattle.dm_durable.specs.declared.group_journal.GroupPayload.TheVariants.{Head, Record, OldRecord, Row}
use Rattle.dm_durable.specs.declared.group_journal.GroupRow.{GroupRow}
use Rattle.dm_durable.specs.declared.group_journal.GroupRow.TheVariants as row
use Rattle.dm_rules.specs.Plan.{pieces_of, all_chunks}
use Rattle.dm_rules.specs.declared.space.Space.{Space}

abbrev pub payload_limit : ℕ
payload_limit = 20971520

-- As many chunks as a bitfile is laid out in: it has at most the bytes of a file, a group has so many volumes, and is
-- configured with chunks of this length at least. A move leaves the number of a bitfile's chunks as it is.
pub record AreAsPlanned (chunks : List Chunk) : Type 0 where
  pub spaces : List Space
  pub chunk : ℕ
  pub len : ℕ
  pub volumes : length spaces ≤ volumes_limit
  pub least : chunk_least ≤ chunk
  pub most : len ≤ file_limit
  pub planned : length chunks ≡ length (all_chunks chunk (pieces_of spaces 0 len))

abbrev pub IsStepWithinLimits : GroupStep → Type 0
IsStepWithinLimits (Volume vsn slot version size) = ⊤
IsStepWithinLimits (Commit b len chunks) = AreAsPlanned chunks
IsStepWithinLimits (Delete b) = ⊤
IsStepWithinLimits (Move b from to) = ⊤
IsStepWithinLimits (Free vsn) = ⊤
IsStepWithinLimits (Reuse vsn epoch version) = ⊤

abbrev pub IsRowWithinLimits : GroupRow → Type 0
IsRowWithinLimits (row.State time group) = ⊤
IsRowWithinLimits (row.Volume vsn v) = ⊤
IsRowWithinLimits (row.Bitfile b r) = AreAsPlanned r.chunks
IsRowWithinLimits (row.OldVolume vsn v) = ⊤
IsRowWithinLimits (row.OldBitfile b r) = AreAsPlanned r.chunks

abbrev pub IsWithinLimits : GroupPayload → Type 0
IsWithinLimits (Head time group) = ⊤
IsWithinLimits (Record r) = IsStepWithinLimits r.step
IsWithinLimits (OldRecord r) = IsStepWithinLimits r.step
IsWithinLimits (Row r) = IsRowWithinLimits r
