-- Dumps: all files as they were at a time.
use Rattle.std.specs.Prelude.{ℕ, ◌-◌, Bool, Option, None, Some, List, [], length, nat_lt}
use Rattle.dm_base.specs.declared.identifier.Ino.{Ino}
use Rattle.dm_durable.specs.declared.daemon.Contents.{Contents}
use Rattle.dm_durable.specs.declared.daemon.Contents.TheVariants.{Regular, Making, Dual, Offline}
use Rattle.dm_durable.specs.declared.daemon.Dump.{Dump}
use Rattle.dm_durable.specs.declared.daemon.DumpInode.{DumpInode}
use Rattle.dm_durable.specs.declared.daemon.DumpInode.TheVariants.{Kept, Named as NamedFile}
use Rattle.dm_durable.specs.declared.daemon.Inode.{Inode}
use Rattle.std.specs.FinMap as map
use Rattle.dm_rules.specs.Numbers.{lesser}
use Rattle.dm_tables.specs.Rows.{map_values}
use Rattle.dm_tables.specs.Totals.{total}
use Rattle.dm_durable.specs.Tables.{ByNumber, ByName}

-- whether a dump is young: one that was made `age` seconds ago, or earlier, isn't
abbrev pub is_young_at : ℕ → ℕ → ℕ → Bool
is_young_at now made least = nat_lt (now - made) least

abbrev pub is_young : ℕ → Dump → Bool
is_young now d = is_young_at now d.made.0 d.least

-- ---- making one

-- a file as a dump has it: its bytes where they are on the disk alone, and else its bitfile
abbrev pub file_dumped : Contents → DumpInode
file_dumped (Regular bytes) = Kept bytes
file_dumped (Making bytes b) = Kept bytes
file_dumped (Dual bytes b) = NamedFile (length bytes) b
file_dumped (Offline len b) = NamedFile len b

-- the same of what a name leads to. No run comes to a name that leads to no inode
abbrev pub file_dumped_if : Option Inode → DumpInode
file_dumped_if None = Kept []
file_dumped_if (Some i) = file_dumped i.contents

-- all files
abbrev pub files_dumped : ByName Ino → ByNumber Inode → ByName DumpInode
files_dumped names inodes = map_values (λ path n. file_dumped_if (map.get inodes n.0)) names

abbrev pub new_dump : ℕ → ℕ → ByName Ino → ByNumber Inode → Dump
new_dump now age names inodes = record { made = record { 0 = now }; least = age; files = files_dumped names inodes }

-- the age in force is this from now on
abbrev pub with_least : ℕ → Dump → Dump
with_least age d = record d { least = lesser d.least age }

-- ---- what one has

-- the file of a path in a dump, where both are there
abbrev pub file_in : Option Dump → List ℕ → Option DumpInode
file_in None path = None
file_in (Some d) path = map.get d.files path

-- the bitfile that it names
abbrev pub bitfile_dumped : DumpInode → Option ℕ
bitfile_dumped (Kept bytes) = None
bitfile_dumped (NamedFile len b) = Some b.0

-- the length of the file
abbrev pub length_dumped : DumpInode → ℕ
length_dumped (Kept bytes) = length bytes
length_dumped (NamedFile len b) = len

-- the bytes that it keeps on the disk
abbrev pub bytes_kept : DumpInode → ℕ
bytes_kept (Kept bytes) = length bytes
bytes_kept (NamedFile len b) = 0

-- what it is as a file again
abbrev pub as_restored : DumpInode → Contents
as_restored (Kept bytes) = Regular bytes
as_restored (NamedFile len b) = Offline len b

abbrev pub dump_size : Dump → ℕ
dump_size d = total bytes_kept d.files

-- the bytes that a dump of all files would keep
abbrev pub size_of_new_dump : ByNumber Inode → ℕ
size_of_new_dump inodes = total (λ i. bytes_kept (file_dumped i.contents)) inodes
