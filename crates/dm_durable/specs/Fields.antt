-- What the fields of a payload can hold: each text is in its grammar, and each number has the width of its field. A payload
-- outside this has no spelling; the types in code keep it, but for the serial numbers.
use Rattle.std.specs.Prelude.{ℕ, ◌^◌, ◌<◌, Option, None, Some, List, length, ◌≡◌}
use Rattle.std.specs.List.{AllByRecursion}
use Rattle.dm_base.specs.declared.identifier.Secs.{Secs}
use Rattle.dm_base.specs.declared.volume.Chunk.{Chunk}
use Rattle.dm_base.specs.Naming.{IsPath, IsDumpName, IsSerial}
use Rattle.dm_rules.specs.Numbers.{count_limit}
use Rattle.dm_rules.specs.Version.{first_version}
use Rattle.dm_durable.specs.declared.daemon.AskedCopy.{AskedCopy}
use Rattle.dm_durable.specs.declared.daemon.Contents.{Contents}
use Rattle.dm_durable.specs.declared.daemon.Contents.TheVariants.{Regular, Making, Dual, Offline}
use Rattle.dm_durable.specs.declared.daemon.DaemonStep.{DaemonStep}
use Rattle.dm_durable.specs.declared.daemon.DaemonStep.TheVariants as step
use Rattle.dm_durable.specs.declared.daemon.DumpInode.{DumpInode}
use Rattle.dm_durable.specs.declared.daemon.DumpInode.TheVariants.{Kept, Named}
use Rattle.dm_durable.specs.declared.daemon.Entry.{Entry}
use Rattle.dm_durable.specs.declared.daemon_journal.DaemonPayload.{DaemonPayload}
use Rattle.dm_durable.specs.declared.daemon_journal.DaemonPayload.TheVariants as payload
use Rattle.dm_durable.specs.declared.daemon_journal.DaemonRow.{DaemonRow}
use Rattle.dm_durable.specs.declared.daemon_journal.DaemonRow.TheVariants as row
use Rattle.dm_durable.specs.declared.group.BitfileRow.{BitfileRow}
use Rattle.dm_durable.specs.declared.group.GroupStep.{GroupStep}
use Rattle.dm_durable.specs.declared.group.GroupStep.TheVariants as group_step
use Rattle.dm_durable.specs.declared.group.VolumeRow.{VolumeRow}
use Rattle.dm_durable.specs.declared.group_journal.GroupPayload.{GroupPayload}
use Rattle.dm_durable.specs.declared.group_journal.GroupPayload.TheVariants as group_payload
use Rattle.dm_durable.specs.declared.group_journal.GroupRow.{GroupRow}
use Rattle.dm_durable.specs.declared.group_journal.GroupRow.TheVariants as group_row

-- ---- numbers

abbrev pub IsByte : ℕ → Type 0
IsByte n = n < 2 ^ 8

abbrev pub IsWord : ℕ → Type 0
IsWord n = n < 2 ^ 64

abbrev pub IsIdentifier : ℕ → Type 0
IsIdentifier n = n < 2 ^ 128

-- a number of things, or of bytes, which is spelled in 32 bits
abbrev pub IsCount : ℕ → Type 0
IsCount n = n < count_limit

abbrev pub IsTimeOrNone : Option Secs → Type 0
IsTimeOrNone None = Unit {0}
IsTimeOrNone (Some time) = IsWord time.0

-- ---- the daemon's payloads

-- a file's length and bitfile, as a row has them
abbrev pub FitsContents : Contents → Type 0
FitsContents (Regular bytes) = IsWord (length bytes)
FitsContents (Making bytes b) = IsWord (length bytes) × IsIdentifier b.0
FitsContents (Dual bytes b) = IsWord (length bytes) × IsIdentifier b.0
FitsContents (Offline len b) = IsWord len × IsIdentifier b.0

abbrev pub FitsDumpInode : DumpInode → Type 0
FitsDumpInode (Kept bytes) = IsWord (length bytes)
FitsDumpInode (Named len b) = IsWord len × IsIdentifier b.0

abbrev pub FitsCopy : AskedCopy → Type 0
FitsCopy c = IsByte c.group.0

pub record FitsEntry (e : Entry) : Type 0 where
  pub len : IsWord e.len
  pub few : IsByte (length e.copies)
  pub copies : AllByRecursion FitsCopy e.copies
  pub gone : IsTimeOrNone e.gone

abbrev pub FitsStep : DaemonStep → Type 0
FitsStep (step.Write path change bytes) = IsPath path × IsWord change × IsCount (length bytes)
FitsStep (step.Remove path change) = IsPath path × IsWord change
FitsStep (step.BeginPut path b groups) = IsPath path × IsIdentifier b.0 × IsByte (length groups) × AllByRecursion (λ g. IsByte g.0) groups
FitsStep (step.Stored b group) = IsIdentifier b.0 × IsByte group.0
FitsStep (step.EndPut n b dual) = IsWord n.0 × IsIdentifier b.0
FitsStep (step.Release path) = IsPath path
FitsStep (step.Taken n bytes) = IsWord n.0 × IsCount (length bytes)
FitsStep (step.Dump name) = IsDumpName name
FitsStep (step.Undump name) = IsDumpName name
FitsStep (step.Restore name path target change) = IsDumpName name × IsPath path × IsPath target × IsWord change
FitsStep (step.HardDelete bfids) = IsCount (length bfids) × AllByRecursion (λ b. IsIdentifier b.0) bfids
FitsStep (step.Dropped b) = IsIdentifier b.0
FitsStep step.Restart = Unit {0}
FitsStep (step.Age age) = IsWord age

abbrev pub FitsRow : DaemonRow → Type 0
FitsRow (row.State time change counter site first begun_age age) =
    IsWord time.0 × IsWord change × IsWord counter × IsWord site × IsWord first × IsWord begun_age × IsWord age
FitsRow (row.OldState time change counter site first age) =
    IsWord time.0 × IsWord change × IsWord counter × IsWord site × IsWord first × IsWord age
FitsRow (row.File path n inode) = IsPath path × IsWord n.0 × IsWord inode.change × FitsContents inode.contents
FitsRow (row.Bitfile b entry) = IsIdentifier b.0 × FitsEntry entry
FitsRow (row.Dump name made least) = IsDumpName name × IsWord made.0 × IsWord least
FitsRow (row.OldDump name made) = IsDumpName name × IsWord made.0
FitsRow (row.DumpFile name path file) = IsDumpName name × IsPath path × FitsDumpInode file

abbrev pub FitsPayload : DaemonPayload → Type 0
FitsPayload (payload.Head h) = IsWord h.time.0 × IsWord h.site × IsWord h.first × IsWord h.age
FitsPayload (payload.Record r) = IsWord r.time.0 × FitsStep r.step
FitsPayload (payload.Upgrade time) = IsWord time.0
FitsPayload (payload.Row r) = FitsRow r

-- ---- a group's payloads

-- the SHA-256 of a chunk's bytes, where it has one
abbrev pub IsSumOrNone : Option (List ℕ) → Type 0
IsSumOrNone None = Unit {0}
IsSumOrNone (Some sum) = length sum ≡ 32

pub record FitsChunk (c : Chunk) : Type 0 where
  pub offset : IsWord c.offset
  pub len : IsWord c.len
  pub serial : IsSerial c.vsn.0
  pub zone : IsWord c.zone
  pub place : IsWord c.place
  pub sum : IsSumOrNone c.sum

pub record FitsBitfile (r : BitfileRow) : Type 0 where
  pub len : IsWord r.len
  pub few : IsCount (length r.chunks)
  pub chunks : AllByRecursion FitsChunk r.chunks

pub record FitsVolume (v : VolumeRow) : Type 0 where
  pub slot : IsByte v.slot
  pub version : IsByte v.version
  pub size : IsWord v.size
  pub epoch : IsWord v.epoch
  pub end : IsWord v.end
  pub held : IsTimeOrNone v.held

abbrev pub FitsGroupStep : GroupStep → Type 0
FitsGroupStep (group_step.Volume vsn slot version size) = IsSerial vsn.0 × IsByte slot × IsByte version × IsWord size
FitsGroupStep (group_step.Commit b len chunks) = IsIdentifier b.0 × IsWord len × IsCount (length chunks) × AllByRecursion FitsChunk chunks
FitsGroupStep (group_step.Delete b) = IsIdentifier b.0
FitsGroupStep (group_step.Move b from to) = IsIdentifier b.0 × FitsChunk from × FitsChunk to
FitsGroupStep (group_step.Free vsn) = IsSerial vsn.0
FitsGroupStep (group_step.Reuse vsn epoch version) = IsSerial vsn.0 × IsWord epoch × IsByte version

-- ---- what was spelled before there were versions and sums

abbrev pub HasNoSum : Chunk → Type 0
HasNoSum c = c.sum ≡ None

-- a step of which the old spelling leaves nothing out. A delete and a free were always spelled as they are
abbrev pub IsOldStep : GroupStep → Type 0
IsOldStep (group_step.Volume vsn slot version size) = version ≡ first_version
IsOldStep (group_step.Commit b len chunks) = AllByRecursion HasNoSum chunks
IsOldStep (group_step.Delete b) = ⊥
IsOldStep (group_step.Move b from to) = HasNoSum from × HasNoSum to
IsOldStep (group_step.Free vsn) = ⊥
IsOldStep (group_step.Reuse vsn epoch version) = version ≡ first_version

abbrev pub FitsGroupRow : GroupRow → Type 0
FitsGroupRow (group_row.State time group) = IsWord time.0 × IsByte group.0
FitsGroupRow (group_row.Volume vsn volume) = IsSerial vsn.0 × FitsVolume volume
FitsGroupRow (group_row.Bitfile b bitfile) = IsIdentifier b.0 × FitsBitfile bitfile
FitsGroupRow (group_row.OldVolume vsn volume) = IsSerial vsn.0 × FitsVolume volume × (volume.version ≡ first_version)
FitsGroupRow (group_row.OldBitfile b bitfile) = IsIdentifier b.0 × FitsBitfile bitfile × AllByRecursion HasNoSum bitfile.chunks

abbrev pub FitsGroupPayload : GroupPayload → Type 0
FitsGroupPayload (group_payload.Head time group) = IsWord time.0 × IsByte group.0
FitsGroupPayload (group_payload.Record r) = IsWord r.time.0 × FitsGroupStep r.step
FitsGroupPayload (group_payload.OldRecord r) = IsWord r.time.0 × FitsGroupStep r.step × IsOldStep r.step
FitsGroupPayload (group_payload.Row r) = FitsGroupRow r
