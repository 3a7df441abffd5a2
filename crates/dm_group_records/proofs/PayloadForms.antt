-- All payloads, of logs and of checkpoints: each tells what it is.
use Rattle.std.proofs.Common.{◌≡◌, ◌≤◌, [], ◌++◌, sym, ap, arith}
use Rattle.dm_durable.specs.Fields.{FitsGroupPayload}
use Rattle.dm_durable.specs.declared.group_journal.GroupPayload.{GroupPayload}
use Rattle.dm_durable.specs.declared.group_journal.GroupPayload.TheVariants.{Head, Record, OldRecord, Row}
use Rattle.dm_durable.specs.declared.group_journal.GroupRow.{GroupRow}
use Rattle.dm_durable.specs.declared.group_journal.GroupRow.TheVariants as row
use Rattle.dm_fields.specs.Once.{byte_once}
use Rattle.dm_group_records.specs.Payloads.{payload_byte, payload_fields, spelling, FitsLog}
use Rattle.dm_group_records.specs.Rows.{row_byte}
use Rattle.dm_group_records.specs.Steps.{kind_of}
use Rattle.dm_group_records.proofs.KindForms.{step_range, old_range}
use Rattle.dm_group_records.proofs.LogForms.{log_once, old_kind}
use Rattle.dm_group_records.proofs.RowForms.{row_once}

-- the kinds of logs are below those of rows
log_below : (p : GroupPayload) → FitsLog p → payload_byte p ≤ 11
log_below (Head t g) q = omega arith
log_below (Record r) q = let k = step_range (kind_of r.step) in omega arith
log_below (OldRecord r) q = let k = old_kind r q in let n = old_range k.0 in let e = k.2 in omega arith
log_below (Row r) q = absurd q.0

row_above : (r : GroupRow) → 40 ≤ row_byte r
row_above (row.State t g) = omega arith
row_above (row.Volume vsn v) = omega arith
row_above (row.Bitfile b r) = omega arith
row_above (row.OldVolume vsn v) = omega arith
row_above (row.OldBitfile b r) = omega arith

apart : {A : Type 0} (p : GroupPayload) (r : GroupRow) → FitsLog p → payload_byte p ≡ row_byte r → A
apart p r fits e = absurd (let a = log_below p fits in let b = row_above r in omega arith)

first : (p q : GroupPayload) → spelling p ≡ spelling q → payload_byte p ≡ payload_byte q
first p q e = (byte_once (payload_byte p) (payload_byte q) (payload_fields p) (payload_fields q) e).0

of_log : (p q : GroupPayload) → FitsLog p → FitsLog q → spelling p ≡ spelling q → p ≡ q
of_log p q fits_p fits_q e = (log_once p q [] [] fits_p fits_q (ap (λ l. l ++ []) e)).0

pub payload_once : (p q : GroupPayload) → FitsGroupPayload p → FitsGroupPayload q → spelling p ≡ spelling q → p ≡ q
payload_once (Row a) (Row b) p q e = ap (λ r. Row r) (row_once a b [] [] p q (ap (λ l. l ++ []) e)).0
payload_once (Head t g) (Row b) p q e = apart (Head t g) b (tt, p) (first (Head t g) (Row b) e)
payload_once (Record a) (Row b) p q e = apart (Record a) b (tt, p) (first (Record a) (Row b) e)
payload_once (OldRecord a) (Row b) p q e = apart (OldRecord a) b (tt, p) (first (OldRecord a) (Row b) e)
payload_once (Row a) (Head u h) p q e = apart (Head u h) a (tt, q) (sym (first (Row a) (Head u h) e))
payload_once (Row a) (Record b) p q e = apart (Record b) a (tt, q) (sym (first (Row a) (Record b) e))
payload_once (Row a) (OldRecord b) p q e = apart (OldRecord b) a (tt, q) (sym (first (Row a) (OldRecord b) e))
payload_once (Head t g) (Head u h) p q e = of_log (Head t g) (Head u h) (tt, p) (tt, q) e
payload_once (Head t g) (Record b) p q e = of_log (Head t g) (Record b) (tt, p) (tt, q) e
payload_once (Head t g) (OldRecord b) p q e = of_log (Head t g) (OldRecord b) (tt, p) (tt, q) e
payload_once (Record a) (Head u h) p q e = of_log (Record a) (Head u h) (tt, p) (tt, q) e
payload_once (Record a) (Record b) p q e = of_log (Record a) (Record b) (tt, p) (tt, q) e
payload_once (Record a) (OldRecord b) p q e = of_log (Record a) (OldRecord b) (tt, p) (tt, q) e
payload_once (OldRecord a) (Head u h) p q e = of_log (OldRecord a) (Head u h) (tt, p) (tt, q) e
payload_once (OldRecord a) (Record b) p q e = of_log (OldRecord a) (Record b) (tt, p) (tt, q) e
payload_once (OldRecord a) (OldRecord b) p q e = of_log (OldRecord a) (OldRecord b) (tt, p) (tt, q) e
