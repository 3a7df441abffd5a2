-- The plain namespace that a joint state stands for.
use Rattle.std.specs.Prelude.{ℕ, Option, None, Some, List, [], ◌∷◌}
use Rattle.std.specs.FinMap as map
use Rattle.dm_base.specs.declared.identifier.GroupId.{GroupId}
use Rattle.dm_tables.specs.Rows.{map_values, passes}
use Rattle.dm_durable.specs.Tables.{ByNumber, ByName}
use Rattle.dm_durable.specs.declared.daemon.Contents.{Contents}
use Rattle.dm_durable.specs.declared.daemon.Contents.TheVariants.{Regular, Making, Dual, Offline}
use Rattle.dm_durable.specs.declared.daemon.Dump.{Dump}
use Rattle.dm_durable.specs.declared.daemon.DumpInode.{DumpInode}
use Rattle.dm_durable.specs.declared.daemon.DumpInode.TheVariants.{Kept, Named as NamedFile}
use Rattle.dm_durable.specs.declared.daemon.Inode.{Inode}
use Rattle.dm_durable.specs.Dumps.{is_young, is_young_at}
use Rattle.dm_model.specs.declared.state.Joint.{Joint}
use Rattle.dm_model.specs.declared.state.Side.{Side}
use Rattle.dm_model.specs.Files.{asked_by}
use Rattle.dm_plain.specs.Namespace.{Namespace, PlainDump}
use Rattle.dm_invariant.specs.Assemble.{assembled_bytes_in}

-- what a copy assembles to, or nothing
abbrev pub copy_or : Option (List ℕ) → List ℕ
copy_or None = []
copy_or (Some bytes) = bytes

-- what the first asked copy of a bitfile assembles to. In a sound state that fits the configuration the copy of an offline
-- file, and of what a young dump names, is always there
abbrev pub first_copy : ByNumber Side → ℕ → List GroupId → List ℕ
first_copy sides b [] = []
first_copy sides b (g ∷ gs) = copy_or (assembled_bytes_in (map.get sides g.0) b)

abbrev pub bitfile_bytes : Joint → ℕ → List ℕ
bitfile_bytes j b = first_copy j.sides b (asked_by (map.get j.daemon.tables.entries b))

-- the bytes of a file: its own, or what the first asked copy assembles to
abbrev pub file_bytes : Joint → Contents → List ℕ
file_bytes j (Regular bytes) = bytes
file_bytes j (Making bytes b) = bytes
file_bytes j (Dual bytes b) = bytes
file_bytes j (Offline len b) = bitfile_bytes j b.0

abbrev pub inode_bytes : Joint → Option Inode → List ℕ
inode_bytes j None = []
inode_bytes j (Some i) = file_bytes j i.contents

-- a file of a dump is read in the same way
abbrev pub dumped_bytes : Joint → DumpInode → List ℕ
dumped_bytes j (Kept bytes) = bytes
dumped_bytes j (NamedFile len b) = bitfile_bytes j b.0

abbrev pub dump_of : Joint → Dump → PlainDump
dump_of j d = record { made = d.made.0; least = d.least; files = map_values (λ path f. dumped_bytes j f) d.files }

-- the dumps that are young at a time
abbrev pub young_dumps : ℕ → ByName Dump → ByName Dump
young_dumps now dumps = map.retain_keys dumps (λ name. passes (λ k d. is_young now d) name (map.get dumps name))

-- the files of a joint state, its young dumps, its time and its age
abbrev pub plain_of : Joint → Namespace
plain_of j = record {
  files = map_values (λ path n. inode_bytes j (map.get j.daemon.tables.inodes n.0)) j.daemon.tables.names;
  dumps = map_values (λ name d. dump_of j d) (young_dumps j.daemon.tables.time.0 j.daemon.tables.dumps);
  now = j.daemon.tables.time.0;
  age = j.daemon.tables.age;
}

-- a namespace as users may see it: without the dumps that aren't young by their own `least` and its time
abbrev pub shown_namespace : Namespace → Namespace
shown_namespace ns = record ns {
  dumps = map.retain_keys ns.dumps (λ name. passes (λ k d. is_young_at ns.now d.made d.least) name (map.get ns.dumps name));
}
