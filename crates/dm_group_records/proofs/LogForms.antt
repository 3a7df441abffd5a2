-- Payloads of a log: what could not be read is none, and each tells what it is.
use Rattle.std.proofs.Common.{◌≡◌, ◌<◌, ◌^◌, ℕ, Some, Err, List, ◌++◌, length, refl, sym, ap, subst, ◌∙◌, arith, append_assoc}
use Rattle.dm_base.specs.declared.identifier.GroupId.{GroupId}
use Rattle.dm_base.specs.declared.identifier.Secs.{Secs}
use Rattle.dm_durable.specs.Fields.{IsWord, IsByte, IsOldStep}
use Rattle.dm_durable.specs.declared.group.GroupRecord.{GroupRecord}
use Rattle.dm_durable.specs.declared.group.GroupStep.{GroupStep}
use Rattle.dm_durable.specs.declared.group.GroupStep.TheVariants.{Volume, Commit, Delete, Move, Free, Reuse}
use Rattle.dm_durable.specs.declared.group_journal.GroupPayload.{GroupPayload}
use Rattle.dm_durable.specs.declared.group_journal.GroupPayload.TheVariants.{Head, Record, OldRecord, Row}
use Rattle.dm_fields.specs.Fields.{byte_field}
use Rattle.dm_fields.specs.Numbers.{big_endian, be64}
use Rattle.dm_fields.specs.Once.{length-behind, pair_once, secs_once, group_once, byte_once}
use Rattle.dm_fields.specs.Reading.{IsRead, IsSpelledOnce}
use Rattle.dm_fields.specs.declared.input.ReadError.{ReadError}
use Rattle.dm_fields.specs.declared.input.ReadError.TheVariants.{Damaged, NoMemory}
use Rattle.dm_group_records.specs.OldSteps.{old_kind_of, old_byte, old_fields, IsOfOldKind}
use Rattle.dm_group_records.specs.Payloads.{head_name, old_byte_if, payload_byte, payload_fields, spelling, FitsLog, IsOfByte}
use Rattle.dm_group_records.specs.Steps.{kind_of, step_byte, step_fields, IsOfKind}
use Rattle.dm_group_records.specs.declared.kinds.StepKind.{StepKind}
use Rattle.dm_group_records.specs.declared.kinds.OldKind.{OldKind}
use Rattle.dm_group_records.specs.declared.kinds.OldKind.TheVariants as old
use Rattle.dm_group_records.proofs.KindForms.{one_kind, one_old_kind, kinds_apart, step_range, old_range}
use Rattle.dm_group_records.proofs.OldForms.{old_step_once}
use Rattle.dm_group_records.proofs.StepOnce.{word_once, step_once}

abbrev pub name : ℕ
name = 4921668386629701681

name-number : head_name ≡ be64 name
unfolding big_endian
name-number = refl

abbrev pub HeadFields : Type 0
HeadFields = Secs × (ℕ × GroupId)

abbrev pub head_spelling : HeadFields → List ℕ
head_spelling y = be64 y.0.0 ++ (be64 y.1.0 ++ byte_field y.1.1.0)

abbrev pub HeadFits : HeadFields → Type 0
HeadFits y = IsWord y.0.0 × (IsWord y.1.0 × IsByte y.1.1.0)

pub head-spelling : (t : Secs) (g : GroupId) → payload_fields (Head t g) ≡ head_spelling (t, (name, g))
head-spelling t g = ap (λ l. be64 t.0 ++ (l ++ byte_field g.0)) name-number

pub head_length : (y : HeadFields) → length (head_spelling y) ≡ 17
head_length y =
    let a = length-behind 8 y.0.0 (be64 y.1.0 ++ byte_field y.1.1.0) in
    let b = length-behind 8 y.1.0 (byte_field y.1.1.0) in
    omega arith

-- ---- old records

old_some : (s : GroupStep) → IsOldStep s → (k : OldKind) × (old_kind_of s ≡ Some k)
old_some (Volume vsn slot version size) q = (old.Volume, refl)
old_some (Commit b len chunks) q = (old.Commit, refl)
old_some (Delete b) q = absurd q
old_some (Move b from to) q = (old.Move, refl)
old_some (Free vsn) q = absurd q
old_some (Reuse vsn epoch version) q = (old.Reuse, refl)

-- the kind of an old record
pub old_kind : (r : GroupRecord) → FitsLog (OldRecord r) → (k : OldKind) × IsOfOldKind k r.step × (payload_byte (OldRecord r) ≡ old_byte k)
old_kind r q =
    let k = old_some r.step q.1.2 in
    (k.0, (k.1, q.1.1, q.1.2), ap old_byte_if k.1)

as_head : (p : GroupPayload) → IsOfByte 1 p → (y : HeadFields) × (payload_fields p ≡ head_spelling y) × HeadFits y × (y.1.0 ≡ name)
as_head (Head t g) q = ((t, (name, g)), head-spelling t g, (q.1.1.0, (omega arith, q.1.1.1)), refl)
as_head (Record r) q = absurd (let k = step_range (kind_of r.step) in let e = q.0 in omega arith)
as_head (OldRecord r) q = absurd (let k = old_kind r q.1 in let n = old_range k.0 in let e = q.0 in let f = k.2 in omega arith)
as_head (Row r) q = absurd q.1.0

pub read_as_head : (p : GroupPayload) → IsOfByte 1 p → (y : HeadFields) × (payload_fields p ≡ head_spelling y) × HeadFits y
read_as_head p q = let y = as_head p q in (y.0, y.1, y.2)

head_once : IsSpelledOnce head_spelling HeadFits
head_once = pair_once (λ (t : Secs). be64 t.0) (λ t. IsWord t.0) _ _ secs_once (pair_once be64 IsWord (λ (g : GroupId). byte_field g.0) (λ g. IsByte g.0) word_once group_once)

pub no_name : (y : HeadFields) (bytes new : List ℕ) → (y.1.0 ≡ name → ⊥) → bytes ≡ head_spelling y ++ new → HeadFits y → (p : GroupPayload) (rest : List ℕ) → IsOfByte 1 p → bytes ≡ payload_fields p ++ rest → ⊥
no_name y bytes new none read fits p rest q e =
    let x = as_head p q in
    let same = head_once y x.0 new rest fits x.2 (sym read ∙ e ∙ ap (λ l. l ++ rest) x.1) in
    none (ap (λ z. z.1.0) same.0 ∙ x.3)

pub head_read : (t : Secs) (n : ℕ) (g : GroupId) (bytes new : List ℕ) → n ≡ name → bytes ≡ head_spelling (t, (n, g)) ++ new → HeadFits (t, (n, g)) → (bytes ≡ payload_fields (Head t g) ++ new) × IsOfByte 1 (Head t g)
head_read t n g bytes new is read fits = (
  read ∙ ap (λ m. head_spelling (t, (m, g)) ++ new) is ∙ ap (λ l. l ++ new) (sym (head-spelling t g)),
  (refl, (tt, (fits.0, fits.1.1))),
)

-- ---- records

as_record : (k : StepKind) (p : GroupPayload) → IsOfByte (step_byte k) p → (r : GroupRecord) × (p ≡ Record r) × IsOfKind k r.step × IsWord r.time.0
as_record k (Head t g) q = absurd (let a = step_range k in let e = q.0 in omega arith)
as_record k (Record r) q = (r, refl, (one_kind (kind_of r.step) k q.0, q.1.1.1), q.1.1.0)
as_record k (OldRecord r) q = absurd (let o = old_kind r q.1 in kinds_apart k o.0 (sym q.0 ∙ o.2))
as_record k (Row r) q = absurd q.1.0

as_old : (k : OldKind) (p : GroupPayload) → IsOfByte (old_byte k) p → (r : GroupRecord) × (p ≡ OldRecord r) × IsOfOldKind k r.step × IsWord r.time.0
as_old k (Head t g) q = absurd (let a = old_range k in let e = q.0 in omega arith)
as_old k (Record r) q = absurd (kinds_apart (kind_of r.step) k q.0)
as_old k (OldRecord r) q =
    let o = old_kind r q.1 in
    let same = one_old_kind o.0 k (sym o.2 ∙ q.0) in
    (r, refl, subst (λ j. IsOfOldKind j r.step) same o.1, q.1.1.0)
as_old k (Row r) q = absurd q.1.0

-- what could not be read of a record, whose payloads p are known as these
module _ (tail : GroupStep → List ℕ) (Of : GroupStep → Type 0) (n : ℕ) (make : GroupRecord → GroupPayload) (same : (r : GroupRecord) → payload_fields (make r) ≡ be64 r.time.0 ++ tail r.step) (as_made : (p : GroupPayload) → IsOfByte n p → (r : GroupRecord) × (p ≡ make r) × Of r.step × IsWord r.time.0) where
  behind : (r : GroupRecord) (p : GroupPayload) (bytes rest : List ℕ) → p ≡ make r → bytes ≡ payload_fields p ++ rest → bytes ≡ be64 r.time.0 ++ (tail r.step ++ rest)
  behind r p bytes rest is e = e ∙ ap (λ a. payload_fields a ++ rest) is ∙ ap (λ l. l ++ rest) (same r) ∙ append_assoc (be64 r.time.0) (tail r.step) rest

  time_absent : (bytes new next : List ℕ) (error : ReadError) → IsRead {X = Secs} (λ t. be64 t.0) (λ t. IsWord t.0) bytes new (Err error) → IsRead payload_fields (IsOfByte n) bytes next (Err error)
  time_absent bytes new next NoMemory absent = tt
  time_absent bytes new next Damaged absent = λ p rest q e.
      let r = as_made p q in
      absent r.0.time (tail r.0.step ++ rest) r.3 (behind r.0 p bytes rest r.1 e)

  fields_absent : (time : Secs) (bytes mid new next : List ℕ) (error : ReadError) → IsWord time.0 → bytes ≡ be64 time.0 ++ mid → IsRead tail Of mid new (Err error) → IsRead payload_fields (IsOfByte n) bytes next (Err error)
  fields_absent time bytes mid new next NoMemory small read absent = tt
  fields_absent time bytes mid new next Damaged small read absent = λ p rest q e.
      let r = as_made p q in
      let both = secs_once time r.0.time mid (tail r.0.step ++ rest) small r.3 (sym read ∙ behind r.0 p bytes rest r.1 e) in
      absent r.0.step rest r.2 both.1

pub no_time : (k : StepKind) (bytes new next : List ℕ) (error : ReadError) → IsRead {X = Secs} (λ t. be64 t.0) (λ t. IsWord t.0) bytes new (Err error) → IsRead payload_fields (IsOfByte (step_byte k)) bytes next (Err error)
no_time k = time_absent step_fields (IsOfKind k) (step_byte k) (λ r. Record r) (λ r. refl) (as_record k)

pub no_fields : (k : StepKind) (time : Secs) (bytes mid new next : List ℕ) (error : ReadError) → IsWord time.0 → bytes ≡ be64 time.0 ++ mid → IsRead step_fields (IsOfKind k) mid new (Err error) → IsRead payload_fields (IsOfByte (step_byte k)) bytes next (Err error)
no_fields k = fields_absent step_fields (IsOfKind k) (step_byte k) (λ r. Record r) (λ r. refl) (as_record k)

pub no_old_time : (k : OldKind) (bytes new next : List ℕ) (error : ReadError) → IsRead {X = Secs} (λ t. be64 t.0) (λ t. IsWord t.0) bytes new (Err error) → IsRead payload_fields (IsOfByte (old_byte k)) bytes next (Err error)
no_old_time k = time_absent old_fields (IsOfOldKind k) (old_byte k) (λ r. OldRecord r) (λ r. refl) (as_old k)

pub no_old_fields : (k : OldKind) (time : Secs) (bytes mid new next : List ℕ) (error : ReadError) → IsWord time.0 → bytes ≡ be64 time.0 ++ mid → IsRead old_fields (IsOfOldKind k) mid new (Err error) → IsRead payload_fields (IsOfByte (old_byte k)) bytes next (Err error)
no_old_fields k = fields_absent old_fields (IsOfOldKind k) (old_byte k) (λ r. OldRecord r) (λ r. refl) (as_old k)

-- an old record that was read
pub old_read : (k : OldKind) (time : Secs) (s : GroupStep) (bytes mid new : List ℕ) → (bytes ≡ be64 time.0 ++ mid) × IsWord time.0 → (mid ≡ old_fields s ++ new) × IsOfOldKind k s → (bytes ≡ payload_fields (OldRecord (record { time = time; step = s })) ++ new) × IsOfByte (old_byte k) (OldRecord (record { time = time; step = s }))
old_read k time s bytes mid new t f = (
  t.0 ∙ ap (λ l. be64 time.0 ++ l) f.0 ∙ sym (append_assoc (be64 time.0) (old_fields s) new),
  (ap old_byte_if f.1.0, (tt, (t.1, f.1.1, f.1.2))),
)

-- ---- all of them

pub log_range : (p : GroupPayload) → FitsLog p → payload_byte p < 2 ^ 8
log_range (Head t g) q = omega arith
log_range (Record r) q = let k = step_range (kind_of r.step) in omega arith
log_range (OldRecord r) q = let k = old_kind r q in let n = old_range k.0 in let e = k.2 in omega arith
log_range (Row r) q = absurd q.0

pub no_kind : (n : ℕ) (bytes : List ℕ) → (n ≡ 1 → ⊥) → ((k : StepKind) → step_byte k ≡ n → ⊥) → ((k : OldKind) → old_byte k ≡ n → ⊥) → (p : GroupPayload) (rest : List ℕ) → IsOfByte n p → bytes ≡ payload_fields p ++ rest → ⊥
no_kind n bytes head step older (Head t g) rest q e = head (sym q.0)
no_kind n bytes head step older (Record r) rest q e = step (kind_of r.step) q.0
no_kind n bytes head step older (OldRecord r) rest q e = let k = old_kind r q.1 in older k.0 (sym k.2 ∙ q.0)
no_kind n bytes head step older (Row r) rest q e = q.1.0

bytes_of : (p q : GroupPayload) (r s : List ℕ) → spelling p ++ r ≡ spelling q ++ s → (payload_byte p ≡ payload_byte q) × (payload_fields p ++ r ≡ payload_fields q ++ s)
bytes_of p q r s e = byte_once (payload_byte p) (payload_byte q) (payload_fields p ++ r) (payload_fields q ++ s) e

pub log_once : IsSpelledOnce spelling FitsLog
log_once (Head t g) (Head u h) r s p q e =
    let both = head_once (t, (name, g)) (u, (name, h)) r s (p.1.0, (omega arith, p.1.1)) (q.1.0, (omega arith, q.1.1))
    (sym (ap (λ l. l ++ r) (head-spelling t g)) ∙ (bytes_of (Head t g) (Head u h) r s e).1 ∙ ap (λ l. l ++ s) (head-spelling u h)) in
    (λ i. Head ((both.0 i).0) ((both.0 i).1.1), both.1)
log_once (Record a) (Record b) r s p q e =
    let bytes = bytes_of (Record a) (Record b) r s e in
    let times = secs_once a.time b.time (step_fields a.step ++ r) (step_fields b.step ++ s) p.1.0 q.1.0
    (sym (append_assoc (be64 a.time.0) (step_fields a.step) r) ∙ bytes.1 ∙ append_assoc (be64 b.time.0) (step_fields b.step) s) in
    let steps = step_once a.step b.step r s (one_kind _ _ bytes.0) p.1.1 q.1.1 times.1 in
    (λ i. Record (record { time = times.0 i; step = steps.0 i }), steps.1)
log_once (OldRecord a) (OldRecord b) r s p q e =
    let bytes = bytes_of (OldRecord a) (OldRecord b) r s e in
    let times = secs_once a.time b.time (old_fields a.step ++ r) (old_fields b.step ++ s) p.1.0 q.1.0
    (sym (append_assoc (be64 a.time.0) (old_fields a.step) r) ∙ bytes.1 ∙ append_assoc (be64 b.time.0) (old_fields b.step) s) in
    let k = old_kind a p in
    let j = old_kind b q in
    let same = one_old_kind k.0 j.0 (sym k.2 ∙ bytes.0 ∙ j.2) in
    let steps = old_step_once j.0 a.step b.step r s (subst (λ m. IsOfOldKind m a.step) same k.1) j.1 times.1 in
    (λ i. OldRecord (record { time = times.0 i; step = steps.0 i }), steps.1)
log_once (Head t g) (Record b) r s p q e = absurd (let k = step_range (kind_of b.step) in let n = (bytes_of (Head t g) (Record b) r s e).0 in omega arith)
log_once (Head t g) (OldRecord b) r s p q e = absurd (let k = old_kind b q in let m = old_range k.0 in let n = (bytes_of (Head t g) (OldRecord b) r s e).0 ∙ k.2 in omega arith)
log_once (Record a) (Head u h) r s p q e = absurd (let k = step_range (kind_of a.step) in let n = (bytes_of (Record a) (Head u h) r s e).0 in omega arith)
log_once (Record a) (OldRecord b) r s p q e = absurd (let k = old_kind b q in kinds_apart (kind_of a.step) k.0 ((bytes_of (Record a) (OldRecord b) r s e).0 ∙ k.2))
log_once (OldRecord a) (Head u h) r s p q e = absurd (let k = old_kind a p in let m = old_range k.0 in let n = sym k.2 ∙ (bytes_of (OldRecord a) (Head u h) r s e).0 in omega arith)
log_once (OldRecord a) (Record b) r s p q e = absurd (let k = old_kind a p in kinds_apart (kind_of b.step) k.0 (sym (bytes_of (OldRecord a) (Record b) r s e).0 ∙ k.2))
log_once (Row a) y r s p q e = absurd p.0
log_once (Head t g) (Row b) r s p q e = absurd q.0
log_once (Record a) (Row b) r s p q e = absurd q.0
log_once (OldRecord a) (Row b) r s p q e = absurd q.0
