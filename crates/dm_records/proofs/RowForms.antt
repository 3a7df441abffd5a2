-- A row is its kind and its fields: what could not be read as the fields of a kind is no row of that kind.
use Rattle.std.proofs.Common.{◌≡◌, ◌≤◌, ◌<◌, ◌^◌, ℕ, Err, Option, None, Some, List, ◌++◌, refl, sym, ap, subst, ◌∙◌, arith, cond, nat_eq}
use Rattle.dm_base.specs.declared.identifier.Bfid.{Bfid}
use Rattle.dm_base.specs.declared.identifier.Ino.{Ino}
use Rattle.dm_base.specs.declared.identifier.Secs.{Secs}
use Rattle.dm_durable.specs.Fields.{FitsRow}
use Rattle.dm_durable.specs.declared.daemon.Contents.{Contents}
use Rattle.dm_durable.specs.declared.daemon.DumpInode.{DumpInode}
use Rattle.dm_durable.specs.declared.daemon.Entry.{Entry}
use Rattle.dm_durable.specs.declared.daemon_journal.DaemonRow.{DaemonRow}
use Rattle.dm_durable.specs.declared.daemon_journal.DaemonRow.TheVariants as row
use Rattle.dm_fields.specs.Reading.{IsRead}
use Rattle.dm_fields.specs.declared.input.ReadError.{ReadError}
use Rattle.dm_fields.specs.declared.input.ReadError.TheVariants.{Damaged, NoMemory}
use Rattle.dm_records.specs.Rows.{row_kind, row_kind_byte, row_byte, row_fields, IsOfRow, IsOfRowByte}
use Rattle.dm_records.specs.declared.kinds.RowKind.{RowKind}
use Rattle.dm_records.specs.declared.kinds.RowKind.TheVariants as kind
use Rattle.dm_records.specs.declared.names.FirstName.{FirstName}
use Rattle.dm_records.specs.declared.names.SecondName.{SecondName}

-- what the rows of a kind have
abbrev pub RowFields : RowKind → Type 0
RowFields kind.State = Secs × (ℕ × (ℕ × (SecondName × (ℕ × (ℕ × (ℕ × ℕ))))))
RowFields kind.OldState = Secs × (ℕ × (ℕ × (FirstName × (ℕ × (ℕ × ℕ)))))
RowFields kind.File = List ℕ × (Ino × (ℕ × Contents))
RowFields kind.Bitfile = Bfid × Entry
RowFields kind.Dump = List ℕ × (Secs × ℕ)
RowFields kind.OldDump = List ℕ × Secs
RowFields kind.DumpFile = List ℕ × (List ℕ × DumpInode)

abbrev pub row_with : (k : RowKind) → RowFields k → DaemonRow
row_with kind.State x = row.State x.0 (x.1.0) (x.1.1.0) (x.1.1.1.1.0) (x.1.1.1.1.1.0) (x.1.1.1.1.1.1.0) (x.1.1.1.1.1.1.1)
row_with kind.OldState x = row.OldState x.0 (x.1.0) (x.1.1.0) (x.1.1.1.1.0) (x.1.1.1.1.1.0) (x.1.1.1.1.1.1)
row_with kind.File x = row.File x.0 (x.1.0) (record { change = x.1.1.0; contents = x.1.1.1 })
row_with kind.Bitfile x = row.Bitfile x.0 x.1
row_with kind.Dump x = row.Dump x.0 (x.1.0) (x.1.1)
row_with kind.OldDump x = row.OldDump x.0 x.1
row_with kind.DumpFile x = row.DumpFile x.0 (x.1.0) (x.1.1)

-- every row is one of its kind
form_of : (r : DaemonRow) → (x : RowFields (row_kind r)) × (r ≡ row_with (row_kind r) x)
form_of (row.State time change counter site first begun_age age) = ((time, (change, (counter, (record {}, (site, (first, (begun_age, age))))))), refl)
form_of (row.OldState time change counter site first age) = ((time, (change, (counter, (record {}, (site, (first, age)))))), refl)
form_of (row.File path n inode) = ((path, (n, (inode.change, inode.contents))), refl)
form_of (row.Bitfile b entry) = ((b, entry), refl)
form_of (row.Dump name made least) = ((name, (made, least)), refl)
form_of (row.OldDump name made) = ((name, made), refl)
form_of (row.DumpFile name path file) = ((name, (path, file)), refl)

pub of_row_kind : (k : RowKind) (r : DaemonRow) → row_kind r ≡ k → (x : RowFields k) × (r ≡ row_with k x)
of_row_kind k r e = subst (λ q. (x : RowFields q) × (r ≡ row_with q x)) e (form_of r)

pub no_row : (k : RowKind) (f : RowFields k → List ℕ) (P : RowFields k → Type 0) → ((x : RowFields k) → row_fields (row_with k x) ≡ f x) → ((x : RowFields k) → FitsRow (row_with k x) → P x) → (old new next : List ℕ) (error : ReadError) → IsRead f P old new (Err error) → IsRead row_fields (IsOfRow k) old next (Err error)
no_row k f P same fits old new next NoMemory absent = tt
no_row k f P same fits old new next Damaged absent = λ r rest is e.
    let form = of_row_kind k r is.0 in
    absent form.0 rest (fits form.0 (subst FitsRow form.1 is.1)) (e ∙ ap (λ q. row_fields q ++ rest) form.1 ∙ ap (λ l. l ++ rest) (same form.0))

-- ---- the bytes of kinds

pub row_range : (k : RowKind) → (32 ≤ row_kind_byte k) × (row_kind_byte k ≤ 38)
row_range kind.OldState = (omega arith, omega arith)
row_range kind.File = (omega arith, omega arith)
row_range kind.Bitfile = (omega arith, omega arith)
row_range kind.OldDump = (omega arith, omega arith)
row_range kind.DumpFile = (omega arith, omega arith)
row_range kind.State = (omega arith, omega arith)
row_range kind.Dump = (omega arith, omega arith)

-- the kind of a byte
kind_at : ℕ → Option RowKind
kind_at n =
    cond (nat_eq n 32) (Some kind.OldState) (cond (nat_eq n 33) (Some kind.File) (cond (nat_eq n 34) (Some kind.Bitfile) (cond (nat_eq n 35) (Some kind.OldDump) (cond (nat_eq n 36) (Some kind.DumpFile) (cond (nat_eq n 37) (Some kind.State) (cond (nat_eq n 38) (Some kind.Dump) None))))))

kind_at-byte : (k : RowKind) → kind_at (row_kind_byte k) ≡ Some k
unfolding kind_at
kind_at-byte kind.OldState = refl
kind_at-byte kind.File = refl
kind_at-byte kind.Bitfile = refl
kind_at-byte kind.OldDump = refl
kind_at-byte kind.DumpFile = refl
kind_at-byte kind.State = refl
kind_at-byte kind.Dump = refl

pub one_row_kind : (k q : RowKind) → row_kind_byte k ≡ row_kind_byte q → k ≡ q
one_row_kind k q e = let same : Some k ≡ Some q = sym (kind_at-byte k) ∙ ap kind_at e ∙ kind_at-byte q in cc

-- what is read as a row of a kind is one of the kind's byte
pub row_of_byte : (k : RowKind) (n : ℕ) → row_kind_byte k ≡ n → (old new next : List ℕ) (error : ReadError) → IsRead row_fields (IsOfRow k) old new (Err error) → IsRead row_fields (IsOfRowByte n) old next (Err error)
row_of_byte k n is old new next NoMemory absent = tt
row_of_byte k n is old new next Damaged absent = λ r rest of e. absent r rest (one_row_kind (row_kind r) k (of.0 ∙ sym is), of.1) e

-- a byte that is no kind
pub no_row_kind : (n : ℕ) → ((k : RowKind) → row_kind_byte k ≡ n → ⊥) → (r : DaemonRow) → IsOfRowByte n r → ⊥
no_row_kind n none r of = none (row_kind r) of.0

pub row_small : (r : DaemonRow) → FitsRow r → row_byte r < 2 ^ 8
row_small r p = let range = row_range (row_kind r) in omega arith
