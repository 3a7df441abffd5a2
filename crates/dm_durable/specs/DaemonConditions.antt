-- When a record may follow in the daemon's tables. A journal in which a record's condition is false is damaged.
use Rattle.std.specs.Prelude.{◌≡◌, ℕ, ◌+◌, ◌<◌, ◌≤◌, Bool, true, false, None, Some, List, [], ◌∷◌, length, IsSome, nat_eq, ◌⊎◌}
use Rattle.std.specs.List.{AllByRecursion}
use Rattle.std.specs.FinMap as map
use Rattle.dm_base.specs.declared.identifier.Bfid.{Bfid}
use Rattle.dm_base.specs.declared.identifier.GroupId.{GroupId}
use Rattle.dm_base.specs.declared.identifier.Ino.{Ino}
use Rattle.dm_base.specs.Limits.{file_limit, files_limit, dumps_limit, entries_limit, number_limit, age_limit}
use Rattle.dm_durable.specs.declared.daemon.Contents.{Contents}
use Rattle.dm_durable.specs.declared.daemon.Contents.TheVariants.{Regular, Making, Dual, Offline}
use Rattle.dm_durable.specs.declared.daemon.Dump.{Dump as DumpRow}
use Rattle.dm_durable.specs.declared.daemon.DumpInode.{DumpInode}
use Rattle.dm_durable.specs.declared.daemon.DumpInode.TheVariants.{Kept, Named as NamedFile}
use Rattle.dm_durable.specs.declared.daemon.Entry.{Entry}
use Rattle.dm_durable.specs.declared.daemon.Inode.{Inode}
use Rattle.dm_durable.specs.declared.daemon.DaemonTables.{DaemonTables}
use Rattle.dm_durable.specs.declared.daemon.DaemonStep.{DaemonStep}
use Rattle.dm_durable.specs.declared.daemon.DaemonStep.TheVariants.{Write, Remove, BeginPut, Stored, EndPut, Release, Taken, Dump, Undump, Restore, HardDelete, Dropped, Restart, Age}
use Rattle.dm_durable.specs.declared.daemon.DaemonRecord.{DaemonRecord}
use Rattle.dm_durable.specs.Tables.{ByNumber}
use Rattle.dm_durable.specs.Limits.{AreGroups}
use Rattle.dm_durable.specs.Inodes.{has_making}
use Rattle.dm_durable.specs.Entries.{asks, has_stored, is_stored, is_complete, is_due}
use Rattle.dm_durable.specs.Dumps.{is_young}
use Rattle.dm_durable.specs.Daemon.{bfid_of}

-- the next change
pub record IsNextChange (t : DaemonTables) (change : ℕ) : Type 0 where
  pub next : change ≡ t.change + 1
  pub left : t.change < number_limit

-- ---- files

pub record MayWrite (t : DaemonTables) (path : List ℕ) (change : ℕ) (bytes : List ℕ) : Type 0 where
  pub next : IsNextChange t change
  pub short : length bytes ≤ file_limit
  pub room : IsSome (map.get t.names path) ⊎ (map.len t.names < files_limit)

pub record MayRemove (t : DaemonTables) (path : List ℕ) (change : ℕ) : Type 0 where
  pub next : IsNextChange t change
  pub there : IsSome (map.get t.names path)

-- ---- puts and recalls

-- the file is regular, or of a put that has not ended
abbrev pub MayBeMade : Contents → Type 0
MayBeMade (Regular bytes) = Unit {0}
MayBeMade (Making bytes b) = Unit {0}
MayBeMade (Dual bytes b) = ⊥
MayBeMade (Offline len b) = ⊥

-- one group, or two that differ
abbrev pub OneOrTwo : List GroupId → Type 0
OneOrTwo [] = ⊥
OneOrTwo (g ∷ []) = Unit {0}
OneOrTwo (g ∷ h ∷ []) = nat_eq g.0 h.0 ≡ false
OneOrTwo (g ∷ h ∷ i ∷ rest) = ⊥

pub record MayBeginPut (t : DaemonTables) (path : List ℕ) (b : Bfid) (groups : List GroupId) : Type 0 where
  pub n : Ino
  pub name : map.get t.names path ≡ Some n
  pub inode : Inode
  pub is : map.get t.inodes n.0 ≡ Some inode
  pub form : MayBeMade inode.contents
  pub next : b.0 ≡ bfid_of t.site t.counter
  pub left : t.counter ≤ number_limit
  pub asked : OneOrTwo groups
  pub numbers : AreGroups groups
  pub room : map.len t.entries < entries_limit

pub record MayStore (t : DaemonTables) (b g : ℕ) : Type 0 where
  pub entry : Entry
  pub is : map.get t.entries b ≡ Some entry
  pub lasting : entry.dropping ≡ false
  pub asked : asks entry g ≡ true
  pub open_yet : has_stored entry g ≡ false

pub record MayEndPut (t : DaemonTables) (n : ℕ) (b : Bfid) (dual : Bool) : Type 0 where
  pub inode : Inode
  pub is : map.get t.inodes n ≡ Some inode
  pub bytes : List ℕ
  pub form : inode.contents ≡ Making bytes b
  pub entry : Entry
  pub known : map.get t.entries b.0 ≡ Some entry
  pub whole : is_stored entry ≡ dual

pub record MayRelease (t : DaemonTables) (path : List ℕ) : Type 0 where
  pub n : Ino
  pub name : map.get t.names path ≡ Some n
  pub inode : Inode
  pub is : map.get t.inodes n.0 ≡ Some inode
  pub bytes : List ℕ
  pub b : Bfid
  pub form : inode.contents ≡ Dual bytes b

pub record MayTake (t : DaemonTables) (n : ℕ) (bytes : List ℕ) : Type 0 where
  pub inode : Inode
  pub is : map.get t.inodes n ≡ Some inode
  pub b : Bfid
  pub form : inode.contents ≡ Offline (length bytes) b

-- ---- dumps

pub record MayDump (t : DaemonTables) (name : List ℕ) : Type 0 where
  pub new : map.get t.dumps name ≡ None
  pub room : map.len t.dumps < dumps_limit

-- the bitfile's copies are all there
pub record HasComplete (entries : ByNumber Entry) (b : ℕ) : Type 0 where
  pub entry : Entry
  pub is : map.get entries b ≡ Some entry
  pub complete : is_complete entry ≡ true

-- the bytes of a file of a dump are there
abbrev pub IsThere : ByNumber Entry → DumpInode → Type 0
IsThere entries (Kept bytes) = Unit {0}
IsThere entries (NamedFile len b) = HasComplete entries b.0

-- at the time `now` of the record
pub record MayRestore (t : DaemonTables) (now : ℕ) (name path target : List ℕ) (change : ℕ) : Type 0 where
  pub dump : DumpRow
  pub known : map.get t.dumps name ≡ Some dump
  pub file : DumpInode
  pub has : map.get dump.files path ≡ Some file
  pub young : is_young now dump ≡ true
  pub there : IsThere t.entries file
  pub new : map.get t.names target ≡ None
  pub room : map.len t.names < files_limit
  pub next : IsNextChange t change

-- ---- deletes

-- the entry of a bitfile may be taken at the time `now`
pub record MayBeTaken (t : DaemonTables) (now b : ℕ) : Type 0 where
  pub entry : Entry
  pub is : map.get t.entries b ≡ Some entry
  pub due : is_due now t.age entry ≡ true

-- the identifiers ascend, the first from `least` on
abbrev pub AscendsFrom : ℕ → List Bfid → Type 0
AscendsFrom least [] = Unit {0}
AscendsFrom least (b ∷ bs) = (least ≤ b.0) × AscendsFrom (b.0 + 1) bs

pub record MayHardDelete (t : DaemonTables) (now : ℕ) (bfids : List Bfid) : Type 0 where
  pub some : 0 < length bfids
  pub ascend : AscendsFrom 0 bfids
  pub each : AllByRecursion (λ b. MayBeTaken t now b.0) bfids

pub record MayDrop (t : DaemonTables) (b : ℕ) : Type 0 where
  pub entry : Entry
  pub is : map.get t.entries b ≡ Some entry
  pub dropping : entry.dropping ≡ true

-- ---- all steps

-- a step may be done at the time `now`, which is that of its record
abbrev pub MayStep : DaemonTables → ℕ → DaemonStep → Type 0
MayStep t now (Write path change bytes) = MayWrite t path change bytes
MayStep t now (Remove path change) = MayRemove t path change
MayStep t now (BeginPut path b groups) = MayBeginPut t path b groups
MayStep t now (Stored b group) = MayStore t b.0 group.0
MayStep t now (EndPut n b dual) = MayEndPut t n.0 b dual
MayStep t now (Release path) = MayRelease t path
MayStep t now (Taken n bytes) = MayTake t n.0 bytes
MayStep t now (Dump name) = MayDump t name
MayStep t now (Undump name) = IsSome (map.get t.dumps name)
MayStep t now (Restore name path target change) = MayRestore t now name path target change
MayStep t now (HardDelete bfids) = MayHardDelete t now bfids
MayStep t now (Dropped b) = MayDrop t b.0
MayStep t now Restart = has_making t.inodes ≡ true
MayStep t now (Age age) = age ≤ age_limit

-- a record may be next: its time isn't less than that before, and its step may be done
pub record MayFollow (t : DaemonTables) (r : DaemonRecord) : Type 0 where
  pub time : t.time.0 ≤ r.time.0
  pub step : MayStep t r.time.0 r.step
