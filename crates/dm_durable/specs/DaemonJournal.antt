-- What the payloads of the daemon's journal tell: tables, and the journal's version.
--
-- A journal is the payloads of a log, or the rows of a state that a checkpoint wrote and then the payloads of a log. It is
-- damaged where it isn't a beginning and then payloads that may each follow.
use Rattle.std.specs.Prelude.{◌≡◌, ◌≢◌, ℕ, ◌+◌, ◌<◌, ◌≤◌, Option, None, Some, IsSome, List, [], ◌∷◌, ◌++◌, ◌⊎◌}
use Rattle.std.specs.Prelude as prelude
use Rattle.std.specs.List.{flat_map}
use Rattle.std.specs.FinMap as map
use Rattle.dm_base.specs.declared.identifier.Ino.{Ino}
use Rattle.dm_base.specs.Limits.{file_limit, files_limit, dumps_limit, entries_limit, number_limit, age_limit}
use Rattle.dm_durable.specs.declared.daemon.DaemonStep.{DaemonStep}
use Rattle.dm_durable.specs.declared.daemon.DaemonStep.TheVariants.{Age}
use Rattle.dm_durable.specs.declared.daemon.DaemonTables.{DaemonTables}
use Rattle.dm_durable.specs.declared.daemon.Dump.{Dump}
use Rattle.dm_durable.specs.declared.daemon.DumpInode.{DumpInode}
use Rattle.dm_durable.specs.declared.daemon.Entry.{Entry}
use Rattle.dm_durable.specs.declared.daemon.Inode.{Inode}
use Rattle.dm_durable.specs.declared.daemon_journal.DaemonHead.{DaemonHead}
use Rattle.dm_durable.specs.declared.daemon_journal.DaemonPayload.{DaemonPayload}
use Rattle.dm_durable.specs.declared.daemon_journal.DaemonPayload.TheVariants.{Head, Record, Upgrade, Row}
use Rattle.dm_durable.specs.declared.daemon_journal.DaemonRow.{DaemonRow}
use Rattle.dm_durable.specs.declared.daemon_journal.DaemonRow.TheVariants as row
use Rattle.dm_durable.specs.declared.daemon_journal.JournalVersion.{JournalVersion}
use Rattle.dm_durable.specs.declared.daemon_journal.JournalVersion.TheVariants.{First, Second}
use Rattle.dm_tables.specs.Rows.{EachRow}
use Rattle.dm_durable.specs.Tables.{ByNumber}
use Rattle.dm_durable.specs.Limits.{IsFirstNumber, AreGroups, IsPast}
use Rattle.dm_durable.specs.Inodes.{bitfile_of, length_of}
use Rattle.dm_durable.specs.Entries.{groups_asked}
use Rattle.dm_durable.specs.Dumps.{bitfile_dumped, length_dumped}
use Rattle.dm_durable.specs.Daemon.{after_record, bfid_of, empty_tables}
use Rattle.dm_durable.specs.DaemonConditions.{MayFollow, OneOrTwo}

-- what the payloads of a journal tell
pub record DaemonState : Type 0 where
  pub version : JournalVersion
  pub tables : DaemonTables

-- ---- a log

-- only a journal of version 2 changes the age in force
abbrev pub MayBeIn : JournalVersion → DaemonStep → Type 0
MayBeIn First (Age age) = ⊥
MayBeIn _ _ = Unit {0}

-- a payload may be next in a log
abbrev pub MayCome : DaemonState → DaemonPayload → Type 0
MayCome s (Head head) = ⊥
MayCome s (Record r) = MayFollow s.tables r × MayBeIn s.version r.step
MayCome s (Upgrade time) = (s.version ≡ First) × (s.tables.time.0 ≤ time.0)
MayCome s (Row r) = ⊥

abbrev pub after_payload : DaemonState → DaemonPayload → DaemonState
after_payload s (Head head) = s
after_payload s (Record r) = record s { tables = after_record s.tables r }
after_payload s (Upgrade time) = record { version = Second; tables = record s.tables { time = time } }
after_payload s (Row r) = s

-- each payload may be next, and the last one leaves the state u
abbrev pub Continues : DaemonState → List DaemonPayload → DaemonState → Type 0
Continues s [] u = s ≡ u
Continues s (p ∷ ps) u = MayCome s p × Continues (after_payload s p) ps u

-- ---- the head of a journal without a checkpoint

pub record MayBeHead (h : DaemonHead) : Type 0 where
  pub site : IsFirstNumber h.site
  pub first : IsFirstNumber h.first
  pub age : h.age ≤ age_limit

abbrev pub state_of_head : DaemonHead → DaemonState
state_of_head h = record { version = h.version; tables = record (empty_tables h.site h.first h.age) { time = h.time } }

-- ---- the rows of a state

abbrev pub file_rows : List ℕ → Ino → Option Inode → List DaemonRow
file_rows path n None = []
file_rows path n (Some i) = row.File path n i ∷ []

abbrev pub bitfile_row : ℕ × Entry → DaemonRow
bitfile_row e = row.Bitfile (record { 0 = e.0 }) e.1

abbrev pub dump_row : List ℕ × Dump → DaemonRow
dump_row e = row.Dump e.0 e.1.made e.1.least

abbrev pub old_dump_row : List ℕ × Dump → DaemonRow
old_dump_row e = row.OldDump e.0 e.1.made

abbrev pub dump_file_rows : List ℕ × Dump → List DaemonRow
dump_file_rows e = prelude.map (λ f. row.DumpFile e.0 f.0 f.1) (map.entries e.1.files)

abbrev pub rows_of_files : DaemonTables → List DaemonRow
rows_of_files t = flat_map (λ e. file_rows e.0 e.1 (map.get t.inodes e.1.0)) (map.entries t.names)

abbrev pub rows_of_bitfiles : DaemonTables → List DaemonRow
rows_of_bitfiles t = prelude.map bitfile_row (map.entries t.entries)

abbrev pub rows_of_dump_files : DaemonTables → List DaemonRow
rows_of_dump_files t = flat_map dump_file_rows (map.entries t.dumps)

-- the rows of a state, as a checkpoint writes them: files by path, bitfiles by identifier, dumps by name, and files of
-- dumps by name and path
abbrev pub rows_of : DaemonTables → List DaemonRow
rows_of t =
    row.State t.time t.change t.counter t.site t.first t.begun_age t.age
    ∷ rows_of_files t ++ rows_of_bitfiles t ++ prelude.map dump_row (map.entries t.dumps) ++ rows_of_dump_files t

-- the same of a journal of version 1, which had one age
abbrev pub old_rows_of : DaemonTables → List DaemonRow
old_rows_of t =
    row.OldState t.time t.change t.counter t.site t.first t.age
    ∷ rows_of_files t ++ rows_of_bitfiles t ++ prelude.map old_dump_row (map.entries t.dumps) ++ rows_of_dump_files t

-- a bitfile's identifier was given: it is the site with a counter below the next one
pub record IsGiven (site next b : ℕ) : Type 0 where
  pub counter : ℕ
  pub is : b ≡ bfid_of site counter
  pub used : counter < next

-- where the bitfile has an entry, that has the length
abbrev pub HasLength : ByNumber Entry → ℕ → ℕ → Type 0
HasLength entries len b = (e : Entry) → map.get entries b ≡ Some e → e.len ≡ len

-- a bitfile that a file of this length names, if it names one
abbrev pub MayBeNamed : ℕ → ℕ → ByNumber Entry → ℕ → Option ℕ → Type 0
MayBeNamed site next entries len None = Unit {0}
MayBeNamed site next entries len (Some b) = IsGiven site next b × HasLength entries len b

-- the number of a change that was made
pub record IsChange (last n : ℕ) : Type 0 where
  pub least : 1 ≤ n
  pub most : n ≤ last

pub record MayBeInode (site next last : ℕ) (entries : ByNumber Entry) (n : ℕ) (i : Inode) : Type 0 where
  pub number : IsChange last n
  pub change : IsChange last i.change
  pub short : length_of i.contents ≤ file_limit
  pub names : MayBeNamed site next entries (length_of i.contents) (bitfile_of i.contents)

pub record MayBeEntry (site next now b : ℕ) (e : Entry) : Type 0 where
  pub given : IsGiven site next b
  pub short : e.len ≤ file_limit
  pub asked : OneOrTwo (groups_asked e)
  pub numbers : AreGroups (groups_asked e)
  pub deleted : IsPast now e.gone

pub record MayBeDumpFile (site next : ℕ) (entries : ByNumber Entry) (f : DumpInode) : Type 0 where
  pub short : length_dumped f ≤ file_limit
  pub names : MayBeNamed site next entries (length_dumped f) (bitfile_dumped f)

pub record MayBeDump (site next now age : ℕ) (entries : ByNumber Entry) (d : Dump) : Type 0 where
  pub made : d.made.0 ≤ now
  pub least : d.least ≤ age
  pub files : EachRow d.files (λ path f. MayBeDumpFile site next entries f)

-- rows tell of a state: the numbers are within their limits, names and inodes are one for one, and the tables agree on the
-- lengths of bitfiles
pub record MayBeState (t : DaemonTables) : Type 0 where
  pub change : t.change ≤ number_limit
  pub counter_least : 1 ≤ t.counter
  pub counter_most : t.counter ≤ number_limit + 1
  pub site : IsFirstNumber t.site
  pub first : IsFirstNumber t.first
  pub begun_age : t.begun_age ≤ age_limit
  pub age : t.age ≤ age_limit
  pub files_most : map.len t.names ≤ files_limit
  pub entries_most : map.len t.entries ≤ entries_limit
  pub dumps_most : map.len t.dumps ≤ dumps_limit
  -- each name leads to an inode, no two names to one, and each inode has a name
  pub names : EachRow t.names (λ path n. IsSome (map.get t.inodes n.0))
  pub names_apart : (p q : List ℕ) (n m : Ino) → map.get t.names p ≡ Some n → map.get t.names q ≡ Some m → n.0 ≡ m.0 → p ≡ q
  pub named : EachRow t.inodes (λ n i. (path : List ℕ) × (ino : Ino) × (map.get t.names path ≡ Some ino) × (ino.0 ≡ n))
  pub inodes : EachRow t.inodes (MayBeInode t.site t.counter t.change t.entries)
  pub entries : EachRow t.entries (MayBeEntry t.site t.counter t.time.0)
  pub dumps : EachRow t.dumps (λ name d. MayBeDump t.site t.counter t.time.0 t.age t.entries d)

-- in a journal of version 1 each dump has the one age
pub record HasOneAge (t : DaemonTables) : Type 0 where
  pub begun : t.begun_age ≡ t.age
  pub dumps : EachRow t.dumps (λ name d. d.least ≡ t.age)

-- ---- whole journals

-- payloads begin a journal: a head, or the rows of a state
pub record BeginsByHead (ps : List DaemonPayload) (s : DaemonState) : Type 0 where
  pub head : DaemonHead
  pub is : ps ≡ Head head ∷ []
  pub may : MayBeHead head
  pub state : s ≡ state_of_head head

pub record BeginsByRows (ps : List DaemonPayload) (s : DaemonState) : Type 0 where
  pub version : s.version ≡ Second
  pub is : ps ≡ prelude.map Row (rows_of s.tables)
  pub may : MayBeState s.tables

pub record BeginsByOldRows (ps : List DaemonPayload) (s : DaemonState) : Type 0 where
  pub version : s.version ≡ First
  pub is : ps ≡ prelude.map Row (old_rows_of s.tables)
  pub may : MayBeState s.tables
  pub one_age : HasOneAge s.tables

abbrev pub Begins : List DaemonPayload → DaemonState → Type 0
Begins ps s = BeginsByHead ps s ⊎ (BeginsByRows ps s ⊎ BeginsByOldRows ps s)

-- the payloads tell of a state
pub record Tells (ps : List DaemonPayload) (s : DaemonState) : Type 0 where
  pub front : List DaemonPayload
  pub rest : List DaemonPayload
  pub is : ps ≡ front ++ rest
  pub begun : DaemonState
  pub begins : Begins front begun
  pub continues : Continues begun rest s
