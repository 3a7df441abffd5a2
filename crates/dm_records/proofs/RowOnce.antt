-- A row's bytes tell the row, and no other payload has them.
use Rattle.std.proofs.Common.{◌≡◌, ℕ, List, ◌++◌, refl, sym, ap, subst, ◌∙◌, arith}
use Rattle.std.specs.Prelude.{⊤}
use Rattle.dm_base.specs.Naming.{IsPath, IsDumpName}
use Rattle.dm_base.specs.declared.identifier.Bfid.{Bfid}
use Rattle.dm_base.specs.declared.identifier.Ino.{Ino}
use Rattle.dm_base.specs.declared.identifier.Secs.{Secs}
use Rattle.dm_durable.specs.Fields.{IsWord, IsIdentifier, FitsContents, FitsDumpInode, FitsEntry, FitsRow, FitsPayload}
use Rattle.dm_durable.specs.declared.daemon_journal.DaemonPayload.TheVariants.{Head, Record, Upgrade, Row}
use Rattle.dm_durable.specs.declared.daemon_journal.DaemonRow.{DaemonRow}
use Rattle.dm_durable.specs.declared.daemon_journal.JournalVersion.TheVariants.{First, Second}
use Rattle.dm_fields.specs.Fields.{path_field, name_field}
use Rattle.dm_fields.specs.Numbers.{be64, be128}
use Rattle.dm_fields.specs.Once.{pair_once, path_once, name_once, number_once, bfid_once, ino_once, secs_once, byte_once}
use Rattle.dm_fields.specs.Parts.{contents_field, entry_field, dump_inode_field}
use Rattle.dm_fields.specs.PartsOnce.{contents_once, dump_inode_once, entry_once}
use Rattle.dm_fields.specs.Reading.{IsSpelledOnce}
use Rattle.dm_records.specs.Names.{head_name}
use Rattle.dm_records.specs.NamesOnce.{first_once, second_once}
use Rattle.dm_records.specs.Payloads.{spelling}
use Rattle.dm_records.specs.Rows.{row_kind, row_byte, row_fields, row_spelling}
use Rattle.dm_records.specs.Steps.{kind_of}
use Rattle.dm_records.specs.declared.kinds.RowKind.{RowKind}
use Rattle.dm_records.specs.declared.kinds.RowKind.TheVariants as kind
use Rattle.dm_records.specs.declared.names.FirstName.{FirstName}
use Rattle.dm_records.specs.declared.names.SecondName.{SecondName}
use Rattle.dm_records.proofs.LogForms.{log_once}
use Rattle.dm_records.proofs.RowForms.{RowFields, row_with, of_row_kind, one_row_kind, row_range}
use Rattle.dm_records.proofs.StepForms.{step_range}

word_once : IsSpelledOnce be64 IsWord
word_once = number_once 8

time_once : IsSpelledOnce {X = Secs} (λ t. be64 t.0) (λ t. IsWord t.0)
time_once = secs_once

fields_once : (k : RowKind) (x y : RowFields k) (r s : List ℕ) → FitsRow (row_with k x) → FitsRow (row_with k y) → row_fields (row_with k x) ++ r ≡ row_fields (row_with k y) ++ s → (x ≡ y) × (r ≡ s)
fields_once kind.State x y r s p q e =
    (pair_once (λ (t : Secs). be64 t.0) (λ t. IsWord t.0) _ _ time_once (pair_once be64 IsWord _ _ word_once
    (pair_once be64 IsWord (λ (z : SecondName × (ℕ × (ℕ × (ℕ × ℕ)))). head_name Second ++ (be64 z.1.0 ++ (be64 z.1.1.0 ++ (be64 z.1.1.1.0 ++ be64 z.1.1.1.1)))) _ word_once
    (pair_once (λ (n : SecondName). head_name Second) (λ _. ⊤) _ _ second_once (pair_once be64 IsWord _ _ word_once (pair_once be64 IsWord _ _ word_once (pair_once be64 IsWord be64 IsWord word_once word_once))))))) x y r s
    (p.0, (p.1, (p.2, (tt, (p.3, (p.4, (p.5, p.6))))))) (q.0, (q.1, (q.2, (tt, (q.3, (q.4, (q.5, q.6))))))) e
fields_once kind.OldState x y r s p q e =
    (pair_once (λ (t : Secs). be64 t.0) (λ t. IsWord t.0) _ _ time_once (pair_once be64 IsWord _ _ word_once
    (pair_once be64 IsWord (λ (z : FirstName × (ℕ × (ℕ × ℕ))). head_name First ++ (be64 z.1.0 ++ (be64 z.1.1.0 ++ be64 z.1.1.1))) _ word_once
    (pair_once (λ (n : FirstName). head_name First) (λ _. ⊤) _ _ first_once (pair_once be64 IsWord _ _ word_once (pair_once be64 IsWord be64 IsWord word_once word_once)))))) x y r s
    (p.0, (p.1, (p.2, (tt, (p.3, (p.4, p.5)))))) (q.0, (q.1, (q.2, (tt, (q.3, (q.4, q.5)))))) e
fields_once kind.File x y r s p q e =
    (pair_once path_field IsPath _ _ path_once (pair_once (λ (n : Ino). be64 n.0) (λ n. IsWord n.0) _ _ ino_once (pair_once be64 IsWord contents_field FitsContents word_once contents_once))) x y r s
    (p.0, (p.1, (p.2, p.3))) (q.0, (q.1, (q.2, q.3))) e
fields_once kind.Bitfile x y r s p q e = (pair_once (λ (b : Bfid). be128 b.0) (λ b. IsIdentifier b.0) entry_field FitsEntry bfid_once entry_once) x y r s p q e
fields_once kind.Dump x y r s p q e = (pair_once name_field IsDumpName _ _ name_once (pair_once (λ (t : Secs). be64 t.0) (λ t. IsWord t.0) be64 IsWord time_once word_once)) x y r s (p.0, (p.1, p.2)) (q.0, (q.1, q.2)) e
fields_once kind.OldDump x y r s p q e = (pair_once name_field IsDumpName (λ (t : Secs). be64 t.0) (λ t. IsWord t.0) name_once time_once) x y r s p q e
fields_once kind.DumpFile x y r s p q e = (pair_once name_field IsDumpName _ _ name_once (pair_once path_field IsPath dump_inode_field FitsDumpInode path_once dump_inode_once)) x y r s (p.0, (p.1, p.2)) (q.0, (q.1, q.2)) e

fields_tell : (a b : DaemonRow) (r s : List ℕ) → row_kind a ≡ row_kind b → FitsRow a → FitsRow b → row_fields a ++ r ≡ row_fields b ++ s → (a ≡ b) × (r ≡ s)
fields_tell a b r s same p q e =
    let x = of_row_kind (row_kind b) a same in
    let y = of_row_kind (row_kind b) b refl in
    let both = fields_once (row_kind b) x.0 y.0 r s (subst FitsRow x.1 p) (subst FitsRow y.1 q)
    (sym (ap (λ c. row_fields c ++ r) x.1) ∙ e ∙ ap (λ c. row_fields c ++ s) y.1) in
    (x.1 ∙ ap (row_with (row_kind b)) both.0 ∙ sym y.1, both.1)

pub row_once : IsSpelledOnce row_spelling FitsRow
row_once a b r s p q e =
    let bytes = byte_once (row_byte a) (row_byte b) (row_fields a ++ r) (row_fields b ++ s) e in
    fields_tell a b r s (one_row_kind (row_kind a) (row_kind b) bytes.0) p q bytes.1

-- the bytes of a row are no head's, record's or upgrade's
pub payload_once : IsSpelledOnce spelling FitsPayload
payload_once (Row a) (Row b) r s p q e = let both = row_once a b r s p q e in (ap (λ c. Row c) both.0, both.1)
payload_once (Row a) (Head h) r s p q e = absurd (let k = row_range (row_kind a) in let n = (byte_once _ _ _ _ e).0 in omega arith)
payload_once (Row a) (Record b) r s p q e = absurd (let k = row_range (row_kind a) in let l = step_range (kind_of b.step) in let n = (byte_once _ _ _ _ e).0 in omega arith)
payload_once (Row a) (Upgrade t) r s p q e = absurd (let k = row_range (row_kind a) in let n = (byte_once _ _ _ _ e).0 in omega arith)
payload_once (Head h) (Row b) r s p q e = absurd (let k = row_range (row_kind b) in let n = (byte_once _ _ _ _ e).0 in omega arith)
payload_once (Record a) (Row b) r s p q e = absurd (let k = row_range (row_kind b) in let l = step_range (kind_of a.step) in let n = (byte_once _ _ _ _ e).0 in omega arith)
payload_once (Upgrade t) (Row b) r s p q e = absurd (let k = row_range (row_kind b) in let n = (byte_once _ _ _ _ e).0 in omega arith)
payload_once (Head h) (Head g) r s p q e = log_once (Head h) (Head g) r s (tt, p) (tt, q) e
payload_once (Head h) (Record b) r s p q e = log_once (Head h) (Record b) r s (tt, p) (tt, q) e
payload_once (Head h) (Upgrade t) r s p q e = log_once (Head h) (Upgrade t) r s (tt, p) (tt, q) e
payload_once (Record a) (Head g) r s p q e = log_once (Record a) (Head g) r s (tt, p) (tt, q) e
payload_once (Record a) (Record b) r s p q e = log_once (Record a) (Record b) r s (tt, p) (tt, q) e
payload_once (Record a) (Upgrade t) r s p q e = log_once (Record a) (Upgrade t) r s (tt, p) (tt, q) e
payload_once (Upgrade t) (Head g) r s p q e = log_once (Upgrade t) (Head g) r s (tt, p) (tt, q) e
payload_once (Upgrade t) (Record b) r s p q e = log_once (Upgrade t) (Record b) r s (tt, p) (tt, q) e
payload_once (Upgrade t) (Upgrade u) r s p q e = log_once (Upgrade t) (Upgrade u) r s (tt, p) (tt, q) e
