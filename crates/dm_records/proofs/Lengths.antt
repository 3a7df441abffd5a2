-- How long payloads are.
use Rattle.std.proofs.Common.{◌≡◌, ◌≤◌, ◌+◌, ◌*◌, ℕ, Option, None, Some, List, [], ◌∷◌, ◌++◌, length, refl, ap, arith, length-append}
use Rattle.std.specs.List.{flat_map}
use Rattle.dm_base.specs.declared.identifier.Bfid.{Bfid}
use Rattle.dm_base.specs.declared.identifier.GroupId.{GroupId}
use Rattle.dm_base.specs.Limits.{file_limit}
use Rattle.dm_base.specs.declared.identifier.Secs.{Secs}
use Rattle.dm_durable.specs.Dumps.{length_dumped}
use Rattle.dm_durable.specs.Fields.{FitsStep, FitsEntry, FitsRow, FitsPayload}
use Rattle.dm_durable.specs.Inodes.{length_of}
use Rattle.dm_durable.specs.declared.daemon.Contents.{Contents}
use Rattle.dm_durable.specs.declared.daemon.Contents.TheVariants.{Regular, Making, Dual, Offline}
use Rattle.dm_durable.specs.declared.daemon.DaemonStep.{DaemonStep}
use Rattle.dm_durable.specs.declared.daemon.DaemonStep.TheVariants.{Write, Remove, BeginPut, Stored, EndPut, Release, Taken, Dump, Undump, Restore, HardDelete, Dropped, Restart, Age}
use Rattle.dm_durable.specs.declared.daemon.DumpInode.{DumpInode}
use Rattle.dm_durable.specs.declared.daemon.DumpInode.TheVariants.{Kept, Named}
use Rattle.dm_durable.specs.declared.daemon.Entry.{Entry}
use Rattle.dm_durable.specs.declared.daemon_journal.DaemonRow.{DaemonRow}
use Rattle.dm_durable.specs.declared.daemon_journal.DaemonRow.TheVariants as row
use Rattle.dm_durable.specs.declared.daemon_journal.JournalVersion.TheVariants.{First, Second}
use Rattle.dm_durable.specs.declared.daemon_journal.DaemonPayload.{DaemonPayload}
use Rattle.dm_durable.specs.declared.daemon_journal.DaemonPayload.TheVariants.{Head, Record, Upgrade, Row}
use Rattle.dm_fields.specs.Fields.{flag_field, moment_field, path_field, name_field, content_field}
use Rattle.dm_fields.specs.Numbers.{be64, be128}
use Rattle.dm_fields.specs.Once.{length-behind, length-big_endian}
use Rattle.dm_fields.specs.Parts.{long_content_field, contents_field, dump_inode_field, copies_field, entry_field}
use Rattle.dm_fields.proofs.CopyForms.{length-copies}
use Rattle.dm_records.specs.Limits.{IsStepWithinLimits, IsRowWithinLimits, IsWithinLimits, payload_limit}
use Rattle.dm_records.specs.Names.{head_name}
use Rattle.dm_records.specs.Payloads.{spelling}
use Rattle.dm_records.specs.Rows.{row_fields}
use Rattle.dm_records.specs.Steps.{step_fields, bfid_field, group_field}
use Rattle.dm_records.proofs.LogForms.{head-spelling, head_fields, head_length}

length-bfids : (bs : List Bfid) → length (flat_map bfid_field bs) ≡ 16 * length bs
length-bfids [] = refl
length-bfids (b ∷ bs) =
    let more = length-append (bfid_field b) (flat_map bfid_field bs) in
    let one = length-big_endian 16 b.0 in
    let rest = length-bfids bs in
    omega arith

length-groups : (gs : List GroupId) → length (flat_map group_field gs) ≡ length gs
length-groups [] = refl
length-groups (g ∷ gs) = let rest = length-groups gs in omega arith

steps_short : (s : DaemonStep) → FitsStep s → IsStepWithinLimits s → length (step_fields s) ≤ 20971511
steps_short (Write path change bytes) p q =
    let a = length-append (path_field path) (be64 change ++ content_field bytes) in
    let b = length-behind 2 (length path) path in
    let d = length-behind 8 change (content_field bytes) in
    let f = length-behind 4 (length bytes) bytes in
    let g = p.0.fits in
    omega arith
steps_short (Remove path change) p q =
    let a = length-append (path_field path) (be64 change) in
    let b = length-behind 2 (length path) path in
    let d = length-big_endian 8 change in
    let g = p.0.fits in
    omega arith
steps_short (BeginPut path b groups) p q =
    let a = length-append (path_field path) (bfid_field b ++ (length groups ∷ flat_map group_field groups)) in
    let d = length-behind 2 (length path) path in
    let f = length-behind 16 b.0 (length groups ∷ flat_map group_field groups) in
    let h = length-groups groups in
    let g = p.0.fits in
    let n = p.2 in
    omega arith
steps_short (Stored b group) p q = let a = length-behind 16 b.0 (group_field group) in omega arith
steps_short (EndPut n b dual) p q =
    let a = length-behind 8 n.0 (bfid_field b ++ flag_field dual) in
    let d = length-behind 16 b.0 (flag_field dual) in
    omega arith
steps_short (Release path) p q = let b = length-behind 2 (length path) path in let g = p.fits in omega arith
steps_short (Taken n bytes) p q =
    let a = length-behind 8 n.0 (content_field bytes) in
    let f = length-behind 4 (length bytes) bytes in
    omega arith
steps_short (Dump name) p q = let g = p.fits in omega arith
steps_short (Undump name) p q = let g = p.fits in omega arith
steps_short (Restore name path target change) p q =
    let a = length-append (name_field name) (path_field path ++ (path_field target ++ be64 change)) in
    let b = length-append (path_field path) (path_field target ++ be64 change) in
    let d = length-append (path_field target) (be64 change) in
    let f = length-behind 2 (length path) path in
    let g = length-behind 2 (length target) target in
    let h = length-big_endian 8 change in
    let i = p.0.fits in
    let j = p.1.fits in
    let k = p.2.fits in
    omega arith
steps_short (HardDelete bfids) p q =
    let a = length-behind 4 (length bfids) (flat_map bfid_field bfids) in
    let b = length-bfids bfids in
    omega arith
steps_short (Dropped b) p q = let a = length-big_endian 16 b.0 in omega arith
steps_short Restart p q = omega arith
steps_short (Age age) p q = let a = length-big_endian 8 age in omega arith

-- ---- rows

-- a state of seven numbers and a name
seven : (a b d e f g h : ℕ) (name : List ℕ) → length name ≡ 8 → length (be64 a ++ (be64 b ++ (be64 d ++ (name ++ (be64 e ++ (be64 f ++ (be64 g ++ be64 h))))))) ≡ 64
seven a b d e f g h name long =
    let i = length-behind 8 a (be64 b ++ (be64 d ++ (name ++ (be64 e ++ (be64 f ++ (be64 g ++ be64 h)))))) in
    let j = length-behind 8 b (be64 d ++ (name ++ (be64 e ++ (be64 f ++ (be64 g ++ be64 h))))) in
    let k = length-behind 8 d (name ++ (be64 e ++ (be64 f ++ (be64 g ++ be64 h)))) in
    let l = length-append name (be64 e ++ (be64 f ++ (be64 g ++ be64 h))) in
    let m = length-behind 8 e (be64 f ++ (be64 g ++ be64 h)) in
    let n = length-behind 8 f (be64 g ++ be64 h) in
    let o = length-behind 8 g (be64 h) in
    let p = length-big_endian 8 h in
    omega arith

six : (a b d e f g : ℕ) (name : List ℕ) → length name ≡ 8 → length (be64 a ++ (be64 b ++ (be64 d ++ (name ++ (be64 e ++ (be64 f ++ be64 g)))))) ≡ 56
six a b d e f g name long =
    let i = length-behind 8 a (be64 b ++ (be64 d ++ (name ++ (be64 e ++ (be64 f ++ be64 g))))) in
    let j = length-behind 8 b (be64 d ++ (name ++ (be64 e ++ (be64 f ++ be64 g)))) in
    let k = length-behind 8 d (name ++ (be64 e ++ (be64 f ++ be64 g))) in
    let l = length-append name (be64 e ++ (be64 f ++ be64 g)) in
    let m = length-behind 8 e (be64 f ++ be64 g) in
    let n = length-behind 8 f (be64 g) in
    let p = length-big_endian 8 g in
    omega arith

-- a bitfile and bytes, and a bitfile and a length
long_content : (b : ℕ) (bytes : List ℕ) → length (be128 b ++ long_content_field bytes) ≡ 24 + length bytes
long_content b bytes =
    let i = length-behind 16 b (long_content_field bytes) in
    let j = length-behind 8 (length bytes) bytes in
    omega arith

long_length : (b n : ℕ) → length (be128 b ++ be64 n) ≡ 24
long_length b n =
    let i = length-behind 16 b (be64 n) in
    let j = length-big_endian 8 n in
    omega arith

contents_short : (c : Contents) → length_of c ≤ file_limit → length (contents_field c) ≤ 16777241
contents_short (Regular bytes) q = let a = long_content 0 bytes in omega arith
contents_short (Making bytes b) q = let a = long_content b.0 bytes in omega arith
contents_short (Dual bytes b) q = let a = long_content b.0 bytes in omega arith
contents_short (Offline len b) q = let a = long_length b.0 len in omega arith

dumped_short : (d : DumpInode) → length_dumped d ≤ file_limit → length (dump_inode_field d) ≤ 16777241
dumped_short (Kept bytes) q = let a = long_content 0 bytes in omega arith
dumped_short (Named len b) q = let a = long_length b.0 len in omega arith

moment_length : (o : Option Secs) → length (moment_field o) ≡ 9
moment_length None = let a = length-big_endian 8 0 in omega arith
moment_length (Some time) = let a = length-big_endian 8 time.0 in omega arith

entry_short : (e : Entry) → FitsEntry e → length (entry_field e) ≤ 1024
entry_short e p =
    let a = length-behind 8 e.len (copies_field e.copies ++ (moment_field e.gone ++ flag_field e.dropping)) in
    let b = length-append (copies_field e.copies) (moment_field e.gone ++ flag_field e.dropping) in
    let d = length-append (moment_field e.gone) (flag_field e.dropping) in
    let f = length-copies e.copies in
    let g = moment_length e.gone in
    let few = p.few in
    omega arith

rows_short : (r : DaemonRow) → FitsRow r → IsRowWithinLimits r → length (row_fields r) ≤ 20971519
rows_short (row.State time change counter site first begun_age age) p q = let a = seven time.0 change counter site first begun_age age (head_name Second) refl in omega arith
rows_short (row.OldState time change counter site first age) p q = let a = six time.0 change counter site first age (head_name First) refl in omega arith
rows_short (row.File path n inode) p q =
    let a = length-append (path_field path) (be64 n.0 ++ (be64 inode.change ++ contents_field inode.contents)) in
    let b = length-behind 2 (length path) path in
    let d = length-behind 8 n.0 (be64 inode.change ++ contents_field inode.contents) in
    let f = length-behind 8 inode.change (contents_field inode.contents) in
    let h = contents_short inode.contents q in
    let g = p.0.fits in
    omega arith
rows_short (row.Bitfile b entry) p q =
    let a = length-behind 16 b.0 (entry_field entry) in
    let d = entry_short entry p.1 in
    omega arith
rows_short (row.Dump name made least) p q =
    let a = length-append (name_field name) (be64 made.0 ++ be64 least) in
    let b = length-behind 8 made.0 (be64 least) in
    let d = length-big_endian 8 least in
    let g = p.0.fits in
    omega arith
rows_short (row.OldDump name made) p q =
    let a = length-append (name_field name) (be64 made.0) in
    let d = length-big_endian 8 made.0 in
    let g = p.0.fits in
    omega arith
rows_short (row.DumpFile name path file) p q =
    let a = length-append (name_field name) (path_field path ++ dump_inode_field file) in
    let b = length-append (path_field path) (dump_inode_field file) in
    let d = length-behind 2 (length path) path in
    let f = dumped_short file q in
    let g = p.0.fits in
    let h = p.1.fits in
    omega arith

pub short : (p : DaemonPayload) → FitsPayload p → IsWithinLimits p → length (spelling p) ≤ payload_limit
short (Head h) p q = let a = ap length (head-spelling h) in let b = head_length (head_fields h) in omega arith
short (Record r) p q =
    let a = length-behind 8 r.time.0 (step_fields r.step) in
    let b = steps_short r.step p.1 q in
    omega arith
short (Upgrade t) p q = let a = length-big_endian 8 t.0 in omega arith
short (Row r) p q = let a = rows_short r p q in omega arith
