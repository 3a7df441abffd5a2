-- The invariant, of files: names, inodes, entries, dumps and contents.
use Rattle.std.specs.Prelude.{◌≡◌, ◌≤◌, ℕ, true, false, Option, None, Some, IsSome, is_some, List, length}
use Rattle.std.specs.FinMap as map
use Rattle.dm_base.specs.declared.identifier.Secs.{Secs}
use Rattle.dm_tables.specs.Rows.{EachRow}
use Rattle.dm_durable.specs.declared.daemon.Contents.{Contents}
use Rattle.dm_durable.specs.declared.daemon.Contents.TheVariants.{Regular, Making, Dual, Offline}
use Rattle.dm_durable.specs.declared.daemon.DaemonTables.{DaemonTables}
use Rattle.dm_durable.specs.declared.daemon.Dump.{Dump}
use Rattle.dm_durable.specs.declared.daemon.DumpInode.{DumpInode}
use Rattle.dm_durable.specs.declared.daemon.DumpInode.TheVariants.{Kept, Named as NamedFile}
use Rattle.dm_durable.specs.declared.daemon.Entry.{Entry}
use Rattle.dm_durable.specs.Tables.{ByNumber, ByName}
use Rattle.dm_durable.specs.Inodes.{is_named}
use Rattle.dm_durable.specs.Entries.{is_stored, is_complete}
use Rattle.dm_durable.specs.Dumps.{is_young}
use Rattle.dm_durable.specs.Daemon.{size_of}
use Rattle.dm_durable.specs.DaemonJournal.{IsGiven, MayBeState}

-- ---- files and entries

-- a bitfile that an inode of so many bytes names has an entry of that length, which is neither deleted nor being dropped
pub record NamedEntry (entries : ByNumber Entry) (b len : ℕ) : Type 0 where
  pub entry : Entry
  pub is : map.get entries b ≡ Some entry
  pub sized : entry.len ≡ len
  pub there : entry.gone ≡ None
  pub lasting : entry.dropping ≡ false

-- and every copy that was asked for is stored
pub record NamedWhole (entries : ByNumber Entry) (b len : ℕ) : Type 0 where
  pub named : NamedEntry entries b len
  pub whole : is_stored named.entry ≡ true

-- what an inode holds agrees with the entry and the content of its bitfile
abbrev pub HeldRightly : ByNumber Entry → ByNumber (List ℕ) → Contents → Type 0
HeldRightly entries contents (Regular bytes) = Unit {0}
HeldRightly entries contents (Making bytes b) = NamedEntry entries b.0 (length bytes) × (map.get contents b.0 ≡ Some bytes)
HeldRightly entries contents (Dual bytes b) = NamedWhole entries b.0 (length bytes) × (map.get contents b.0 ≡ Some bytes)
HeldRightly entries contents (Offline len b) = NamedWhole entries b.0 len

-- what is kept of files
pub record FilesKept (t : DaemonTables) (contents : ByNumber (List ℕ)) (cap : ℕ) : Type 0 where
  -- the tables may be a state that a checkpoint writes: numbers are within their limits, names and inodes one for one, and
  -- lengths agree
  pub state : MayBeState t
  -- what an inode holds agrees with the entry and the content of its bitfile
  pub held : EachRow t.inodes (λ n i. HeldRightly t.entries contents i.contents)
  -- an entry that no inode names has a deletion time
  pub unnamed : EachRow t.entries (λ b e. is_named t.inodes b ≡ false → IsSome e.gone)
  -- contents are of bitfiles that were made
  pub contents_given : EachRow contents (λ b bytes. IsGiven t.site t.counter b)
  -- files and dumps fit under the cap
  pub size : size_of t ≤ cap

-- ---- dumps

-- a time that may be there isn't before another
abbrev pub NotBefore : ℕ → Option Secs → Type 0
NotBefore made None = Unit {0}
NotBefore made (Some gone) = made ≤ gone.0

-- a bitfile that a young dump names has a complete entry of its length, which wasn't deleted before the dump was made
pub record DumpedEntry (entries : ByNumber Entry) (made b len : ℕ) : Type 0 where
  pub entry : Entry
  pub is : map.get entries b ≡ Some entry
  pub complete : is_complete entry ≡ true
  pub sized : entry.len ≡ len
  pub later : NotBefore made entry.gone

abbrev pub DumpedRightly : ByNumber Entry → ℕ → DumpInode → Type 0
DumpedRightly entries made (Kept bytes) = Unit {0}
DumpedRightly entries made (NamedFile len b) = DumpedEntry entries made b.0 len

-- what is kept of dumps: the files of each young one are there
pub record DumpsKept (now : ℕ) (entries : ByNumber Entry) (dumps : ByName Dump) : Type 0 where
  pub young : EachRow dumps (λ name d. is_young now d ≡ true → EachRow d.files (λ path f. DumpedRightly entries d.made.0 f))

-- ---- hard deletes

-- what is kept of the bitfiles that hard deletes took: those are the ones whose entries are being dropped
pub record TakenKept (site next : ℕ) (entries : ByNumber Entry) (taken : ByNumber (Unit {0})) : Type 0 where
  pub dropping : EachRow entries (λ b e. e.dropping ≡ is_some (map.get taken b))
  pub given : EachRow taken (λ b u. IsGiven site next b)
