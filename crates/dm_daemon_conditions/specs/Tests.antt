-- The conditions of the daemon's records as tests, each over what was looked up. That a test is its condition is the
-- contract of `may_follow`.
use Rattle.std.specs.Prelude.{ℕ, ◌+◌, Bool, true, false, not, ◌&&◌, ◌||◌, Option, None, Some, is_some, is_none, List, [], ◌∷◌, length, nat_eq, nat_le, nat_lt}
use Rattle.std.specs.Bool.{beq}
use Rattle.std.specs.FinMap as map
use Rattle.dm_base.specs.declared.identifier.Bfid.{Bfid}
use Rattle.dm_base.specs.declared.identifier.GroupId.{GroupId}
use Rattle.dm_base.specs.declared.identifier.Ino.{Ino}
use Rattle.dm_base.specs.Limits.{file_limit, files_limit, dumps_limit, entries_limit, number_limit, age_limit, groups_limit}
use Rattle.dm_durable.specs.declared.daemon.Contents.{Contents}
use Rattle.dm_durable.specs.declared.daemon.Contents.TheVariants.{Regular, Making, Dual, Offline}
use Rattle.dm_durable.specs.declared.daemon.Dump.{Dump as DumpRow}
use Rattle.dm_durable.specs.declared.daemon.DumpInode.{DumpInode}
use Rattle.dm_durable.specs.declared.daemon.DumpInode.TheVariants.{Kept, Named as NamedFile}
use Rattle.dm_durable.specs.declared.daemon.Entry.{Entry}
use Rattle.dm_durable.specs.declared.daemon.Inode.{Inode}
use Rattle.dm_durable.specs.declared.daemon.DaemonTables.{DaemonTables}
use Rattle.dm_durable.specs.declared.daemon.DaemonStep.{DaemonStep}
use Rattle.dm_durable.specs.declared.daemon.DaemonStep.TheVariants.{Write, Remove, BeginPut, Stored, EndPut, Release, Taken, Dump, Undump, Restore, HardDelete, Dropped, Restart, Age}
use Rattle.dm_durable.specs.declared.daemon.DaemonRecord.{DaemonRecord}
use Rattle.dm_durable.specs.Tables.{ByNumber}
use Rattle.dm_durable.specs.Inodes.{has_making}
use Rattle.dm_durable.specs.Entries.{asks, has_stored, is_stored, is_complete, is_due}
use Rattle.dm_durable.specs.Dumps.{is_young}
use Rattle.dm_durable.specs.Daemon.{bfid_of}

-- whether the change comes next after the last one
abbrev pub is_next : ℕ → ℕ → Bool
is_next last change = nat_lt last number_limit && nat_eq change (last + 1)

-- ---- files

abbrev pub may_write : DaemonTables → List ℕ → ℕ → List ℕ → Bool
may_write t path change bytes =
    is_next t.change change && (nat_le (length bytes) file_limit && (is_some (map.get t.names path) || nat_lt (map.len t.names) files_limit))

abbrev pub may_remove : DaemonTables → List ℕ → ℕ → Bool
may_remove t path change = is_next t.change change && is_some (map.get t.names path)

-- ---- puts and recalls

abbrev pub may_be_made : Contents → Bool
may_be_made (Regular bytes) = true
may_be_made (Making bytes b) = true
may_be_made (Dual bytes b) = false
may_be_made (Offline len b) = false

abbrev pub are_one_or_two : List GroupId → Bool
are_one_or_two [] = false
are_one_or_two (g ∷ []) = true
are_one_or_two (g ∷ h ∷ []) = not (nat_eq g.0 h.0)
are_one_or_two (g ∷ h ∷ i ∷ rest) = false

abbrev pub is_group : GroupId → Bool
is_group g = nat_le 1 g.0 && nat_le g.0 groups_limit

abbrev pub are_groups : List GroupId → Bool
are_groups [] = true
are_groups (g ∷ groups) = is_group g && are_groups groups

-- the inode that a name leads to, if it leads to one
abbrev pub inode_named : ByNumber Inode → Option Ino → Option Inode
inode_named inodes None = None
inode_named inodes (Some n) = map.get inodes n.0

-- whether the contents of what was found are such that a put may begin
abbrev pub may_be_made_if : Option Inode → Bool
may_be_made_if None = false
may_be_made_if (Some i) = may_be_made i.contents

-- whether the bitfile is the site's next one
abbrev pub is_next_bitfile : DaemonTables → Bfid → Bool
is_next_bitfile t b = nat_le t.counter number_limit && nat_eq b.0 (bfid_of t.site t.counter)

abbrev pub may_be_asked : List GroupId → Bool
may_be_asked groups = are_one_or_two groups && are_groups groups

abbrev pub may_begin_put : DaemonTables → List ℕ → Bfid → List GroupId → Bool
may_begin_put t path b groups =
    may_be_made_if (inode_named t.inodes (map.get t.names path))
    && (is_next_bitfile t b && (may_be_asked groups && nat_lt (map.len t.entries) entries_limit))

abbrev pub may_store : ℕ → Option Entry → Bool
may_store g None = false
may_store g (Some e) = not e.dropping && (asks e g && not (has_stored e g))

abbrev pub is_making_of : Bfid → Contents → Bool
is_making_of b (Regular bytes) = false
is_making_of b (Making bytes c) = nat_eq c.0 b.0
is_making_of b (Dual bytes c) = false
is_making_of b (Offline len c) = false

abbrev pub is_making_if : Bfid → Option Inode → Bool
is_making_if b None = false
is_making_if b (Some i) = is_making_of b i.contents

abbrev pub is_stored_as : Bool → Option Entry → Bool
is_stored_as dual None = false
is_stored_as dual (Some e) = beq (is_stored e) dual

abbrev pub is_dual : Contents → Bool
is_dual (Regular bytes) = false
is_dual (Making bytes b) = false
is_dual (Dual bytes b) = true
is_dual (Offline len b) = false

abbrev pub is_dual_if : Option Inode → Bool
is_dual_if None = false
is_dual_if (Some i) = is_dual i.contents

abbrev pub is_offline_of : ℕ → Contents → Bool
is_offline_of n (Regular bytes) = false
is_offline_of n (Making bytes b) = false
is_offline_of n (Dual bytes b) = false
is_offline_of n (Offline len b) = nat_eq len n

abbrev pub is_offline_if : ℕ → Option Inode → Bool
is_offline_if n None = false
is_offline_if n (Some i) = is_offline_of n i.contents

-- ---- dumps

abbrev pub is_complete_if : Option Entry → Bool
is_complete_if None = false
is_complete_if (Some e) = is_complete e

abbrev pub is_there : ByNumber Entry → DumpInode → Bool
is_there entries (Kept bytes) = true
is_there entries (NamedFile len b) = is_complete_if (map.get entries b.0)

abbrev pub is_there_if : ByNumber Entry → Option DumpInode → Bool
is_there_if entries None = false
is_there_if entries (Some f) = is_there entries f

-- whether a file of the dump may be restored at the time `now`
abbrev pub has_young : ByNumber Entry → ℕ → List ℕ → Option DumpRow → Bool
has_young entries now path None = false
has_young entries now path (Some d) = is_young now d && is_there_if entries (map.get d.files path)

abbrev pub may_restore : DaemonTables → ℕ → List ℕ → List ℕ → List ℕ → ℕ → Bool
may_restore t now name path target change =
    has_young t.entries now path (map.get t.dumps name)
    && (is_none (map.get t.names target) && (nat_lt (map.len t.names) files_limit && is_next t.change change))

-- ---- deletes

abbrev pub is_due_if : ℕ → ℕ → Option Entry → Bool
is_due_if now age None = false
is_due_if now age (Some e) = is_due now age e

-- the least identifier that may come after another, or first of all
abbrev pub least_after : Option Bfid → ℕ
least_after None = 0
least_after (Some b) = b.0 + 1

-- whether the identifiers ascend, the first from `least` on, and each may be taken
abbrev pub may_take : DaemonTables → ℕ → ℕ → List Bfid → Bool
may_take t now least [] = true
may_take t now least (b ∷ bs) = nat_le least b.0 && (is_due_if now t.age (map.get t.entries b.0) && may_take t now (b.0 + 1) bs)

abbrev pub may_hard_delete : DaemonTables → ℕ → List Bfid → Bool
may_hard_delete t now bfids = nat_lt 0 (length bfids) && may_take t now 0 bfids

abbrev pub is_dropping_if : Option Entry → Bool
is_dropping_if None = false
is_dropping_if (Some e) = e.dropping

-- ---- all steps

abbrev pub may_step : DaemonTables → ℕ → DaemonStep → Bool
may_step t now (Write path change bytes) = may_write t path change bytes
may_step t now (Remove path change) = may_remove t path change
may_step t now (BeginPut path b groups) = may_begin_put t path b groups
may_step t now (Stored b group) = may_store group.0 (map.get t.entries b.0)
may_step t now (EndPut n b dual) = is_making_if b (map.get t.inodes n.0) && is_stored_as dual (map.get t.entries b.0)
may_step t now (Release path) = is_dual_if (inode_named t.inodes (map.get t.names path))
may_step t now (Taken n bytes) = is_offline_if (length bytes) (map.get t.inodes n.0)
may_step t now (Dump name) = is_none (map.get t.dumps name) && nat_lt (map.len t.dumps) dumps_limit
may_step t now (Undump name) = is_some (map.get t.dumps name)
may_step t now (Restore name path target change) = may_restore t now name path target change
may_step t now (HardDelete bfids) = may_hard_delete t now bfids
may_step t now (Dropped b) = is_dropping_if (map.get t.entries b.0)
may_step t now Restart = has_making t.inodes
may_step t now (Age age) = nat_le age age_limit

abbrev pub may_be_next : DaemonTables → DaemonRecord → Bool
may_be_next t r = nat_le t.time.0 r.time.0 && may_step t r.time.0 r.step
