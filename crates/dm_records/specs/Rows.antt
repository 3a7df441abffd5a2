-- What each row of a checkpoint of the daemon is spelled as: its kind in one byte, and these fields.
use Rattle.std.specs.Prelude.{◌≡◌, ℕ, List, ◌∷◌, ◌++◌}
use Rattle.dm_durable.specs.Fields.{FitsRow}
use Rattle.dm_durable.specs.declared.daemon_journal.DaemonRow.{DaemonRow}
use Rattle.dm_durable.specs.declared.daemon_journal.DaemonRow.TheVariants.{State, OldState, File, Bitfile, Dump, OldDump, DumpFile}
use Rattle.dm_durable.specs.declared.daemon_journal.JournalVersion.TheVariants.{First, Second}
use Rattle.dm_fields.specs.Fields.{path_field, name_field}
use Rattle.dm_fields.specs.Numbers.{be64, be128}
use Rattle.dm_fields.specs.Parts.{contents_field, entry_field, dump_inode_field}
use Rattle.dm_records.specs.Names.{head_name}
use Rattle.dm_records.specs.declared.kinds.RowKind.{RowKind}
use Rattle.dm_records.specs.declared.kinds.RowKind.TheVariants as kind

-- the kind of a row
abbrev pub row_kind : DaemonRow → RowKind
row_kind (State time change counter site first begun_age age) = kind.State
row_kind (OldState time change counter site first age) = kind.OldState
row_kind (File path n inode) = kind.File
row_kind (Bitfile b entry) = kind.Bitfile
row_kind (Dump name made least) = kind.Dump
row_kind (OldDump name made) = kind.OldDump
row_kind (DumpFile name path file) = kind.DumpFile

-- the byte of a kind
abbrev pub row_kind_byte : RowKind → ℕ
row_kind_byte kind.OldState = 32
row_kind_byte kind.File = 33
row_kind_byte kind.Bitfile = 34
row_kind_byte kind.OldDump = 35
row_kind_byte kind.DumpFile = 36
row_kind_byte kind.State = 37
row_kind_byte kind.Dump = 38

abbrev pub row_byte : DaemonRow → ℕ
row_byte r = row_kind_byte (row_kind r)

abbrev pub row_fields : DaemonRow → List ℕ
row_fields (State time change counter site first begun_age age) =
    be64 time.0 ++ (be64 change ++ (be64 counter ++ (head_name Second ++ (be64 site ++ (be64 first ++ (be64 begun_age ++ be64 age))))))
row_fields (OldState time change counter site first age) =
    be64 time.0 ++ (be64 change ++ (be64 counter ++ (head_name First ++ (be64 site ++ (be64 first ++ be64 age)))))
row_fields (File path n inode) = path_field path ++ (be64 n.0 ++ (be64 inode.change ++ contents_field inode.contents))
row_fields (Bitfile b entry) = be128 b.0 ++ entry_field entry
row_fields (Dump name made least) = name_field name ++ (be64 made.0 ++ be64 least)
row_fields (OldDump name made) = name_field name ++ be64 made.0
row_fields (DumpFile name path file) = name_field name ++ (path_field path ++ dump_inode_field file)

abbrev pub row_spelling : DaemonRow → List ℕ
row_spelling r = row_byte r ∷ row_fields r

-- a row of this kind, whose fields fit
abbrev pub IsOfRow : RowKind → DaemonRow → Type 0
IsOfRow k r = (row_kind r ≡ k) × FitsRow r

abbrev pub IsOfRowByte : ℕ → DaemonRow → Type 0
IsOfRowByte n r = (row_byte r ≡ n) × FitsRow r
