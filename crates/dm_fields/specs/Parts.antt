-- The parts of rows: what files, dumps and bitfiles are spelled as in a checkpoint.
use Rattle.std.specs.Prelude.{◌≡◌, ⊤, ℕ, Result, Ok, Err, List, ◌∷◌, ◌++◌, length}
use Rattle.std.specs.List.{AllByRecursion, flat_map}
use Rattle.dm_durable.specs.Fields.{IsByte, FitsContents, FitsDumpInode, FitsCopy}
use Rattle.dm_durable.specs.declared.daemon.AskedCopy.{AskedCopy}
use Rattle.dm_durable.specs.declared.daemon.Contents.{Contents}
use Rattle.dm_durable.specs.declared.daemon.Contents.TheVariants.{Regular, Making, Dual, Offline}
use Rattle.dm_durable.specs.declared.daemon.DumpInode.{DumpInode}
use Rattle.dm_durable.specs.declared.daemon.DumpInode.TheVariants.{Kept, Named}
use Rattle.dm_durable.specs.declared.daemon.Entry.{Entry}
use Rattle.dm_fields.specs.Fields.{byte_field, flag_field, moment_field}
use Rattle.dm_fields.specs.Numbers.{be64, be128}
use Rattle.dm_fields.specs.declared.input.ReadError.{ReadError}
use Rattle.dm_fields.specs.declared.input.ReadError.TheVariants.{Damaged, NoMemory}

-- bytes behind their number in eight bytes
abbrev pub long_content_field : List ℕ → List ℕ
long_content_field bytes = be64 (length bytes) ++ bytes

-- ---- what a file holds: its form, the bitfile or zeros, the length, and the bytes where they are on the disk

abbrev pub form_byte : Contents → ℕ
form_byte (Regular bytes) = 0
form_byte (Making bytes b) = 1
form_byte (Dual bytes b) = 2
form_byte (Offline len b) = 3

abbrev pub form_fields : Contents → List ℕ
form_fields (Regular bytes) = be128 0 ++ long_content_field bytes
form_fields (Making bytes b) = be128 b.0 ++ long_content_field bytes
form_fields (Dual bytes b) = be128 b.0 ++ long_content_field bytes
form_fields (Offline len b) = be128 b.0 ++ be64 len

abbrev pub contents_field : Contents → List ℕ
contents_field c = form_byte c ∷ form_fields c

abbrev pub IsOfForm : ℕ → Contents → Type 0
IsOfForm n c = (form_byte c ≡ n) × FitsContents c

-- ---- a file of a dump: the same of two forms

abbrev pub keeping_byte : DumpInode → ℕ
keeping_byte (Kept bytes) = 0
keeping_byte (Named len b) = 1

abbrev pub keeping_fields : DumpInode → List ℕ
keeping_fields (Kept bytes) = be128 0 ++ long_content_field bytes
keeping_fields (Named len b) = be128 b.0 ++ be64 len

abbrev pub dump_inode_field : DumpInode → List ℕ
dump_inode_field d = keeping_byte d ∷ keeping_fields d

abbrev pub IsOfKeeping : ℕ → DumpInode → Type 0
IsOfKeeping n d = (keeping_byte d ≡ n) × FitsDumpInode d

-- ---- what is known of a bitfile: its length, the groups that were asked, which of them have it, the deletion time, and
-- whether its copies are being deleted

abbrev pub copy_group : AskedCopy → List ℕ
copy_group c = byte_field c.group.0

abbrev pub copy_stored : AskedCopy → List ℕ
copy_stored c = flag_field c.stored

abbrev pub copies_field : List AskedCopy → List ℕ
copies_field cs = length cs ∷ (flat_map copy_group cs ++ flat_map copy_stored cs)

-- their number fits its byte, and so do their groups
abbrev pub FitCopies : List AskedCopy → Type 0
FitCopies cs = IsByte (length cs) × AllByRecursion FitsCopy cs

-- The copies that these bytes are the groups and flags of. Where they are damaged, some byte is no flag; want of memory
-- tells nothing.
abbrev pub AreCopies : List ℕ → List ℕ → Result (List AskedCopy) ReadError → Type 0
AreCopies groups flags (Ok cs) = (flat_map copy_group cs ≡ groups) × (flat_map copy_stored cs ≡ flags) × AllByRecursion FitsCopy cs
AreCopies groups flags (Err Damaged) = (cs : List AskedCopy) → flat_map copy_stored cs ≡ flags → ⊥
AreCopies groups flags (Err NoMemory) = ⊤

abbrev pub entry_field : Entry → List ℕ
entry_field e = be64 e.len ++ (copies_field e.copies ++ (moment_field e.gone ++ flag_field e.dropping))
