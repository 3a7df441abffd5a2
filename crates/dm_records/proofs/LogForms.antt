-- Payloads of a log: what could not be read is none, and each tells what it is.
use Rattle.std.proofs.Common.{◌≡◌, ◌<◌, ◌^◌, ℕ, Err, List, ◌∷◌, ◌++◌, length, refl, sym, ap, ◌∙◌, arith, append_assoc}
use Rattle.dm_base.specs.declared.identifier.Secs.{Secs}
use Rattle.dm_durable.specs.Fields.{IsWord, FitsPayload}
use Rattle.dm_durable.specs.declared.daemon.DaemonRecord.{DaemonRecord}
use Rattle.dm_durable.specs.declared.daemon_journal.DaemonHead.{DaemonHead}
use Rattle.dm_durable.specs.declared.daemon_journal.DaemonPayload.{DaemonPayload}
use Rattle.dm_durable.specs.declared.daemon_journal.DaemonPayload.TheVariants.{Head, Record, Upgrade, Row}
use Rattle.dm_durable.specs.declared.daemon_journal.JournalVersion.{JournalVersion}
use Rattle.dm_fields.specs.Numbers.{be64}
use Rattle.dm_fields.specs.Once.{length-behind, length-big_endian, pair_once, number_once, secs_once, byte_once}
use Rattle.dm_fields.specs.Reading.{IsRead, IsSpelledOnce}
use Rattle.dm_fields.specs.declared.input.ReadError.{ReadError}
use Rattle.dm_fields.specs.declared.input.ReadError.TheVariants.{Damaged, NoMemory}
use Rattle.dm_records.specs.Payloads.{payload_byte, payload_fields, spelling, FitsLog, IsOfByte}
use Rattle.dm_records.specs.Names.{name_number}
use Rattle.dm_records.specs.Steps.{kind_of, step_byte, step_fields, IsOfKind}
use Rattle.dm_records.specs.declared.kinds.StepKind.{StepKind}
use Rattle.dm_records.proofs.NameForms.{name-number, one_version, name_small}
use Rattle.dm_records.proofs.StepForms.{step_range, one_kind}
use Rattle.dm_records.proofs.StepOnce.{step_once}

-- ---- heads

abbrev pub HeadFields : Type 0
HeadFields = Secs × (ℕ × (ℕ × (ℕ × ℕ)))

abbrev pub head_spelling : HeadFields → List ℕ
head_spelling y = be64 y.0.0 ++ (be64 y.1.0 ++ (be64 y.1.1.0 ++ (be64 y.1.1.1.0 ++ be64 y.1.1.1.1)))

abbrev pub HeadFits : HeadFields → Type 0
HeadFits y = IsWord y.0.0 × (IsWord y.1.0 × (IsWord y.1.1.0 × (IsWord y.1.1.1.0 × IsWord y.1.1.1.1)))

abbrev pub head_fields : DaemonHead → HeadFields
head_fields h = (h.time, (name_number h.version, (h.site, (h.first, h.age))))

pub head-spelling : (h : DaemonHead) → payload_fields (Head h) ≡ head_spelling (head_fields h)
head-spelling h = ap (λ l. be64 h.time.0 ++ (l ++ (be64 h.site ++ (be64 h.first ++ be64 h.age)))) (name-number h.version)

head_fits : (h : DaemonHead) → FitsPayload (Head h) → HeadFits (head_fields h)
head_fits h p = (p.0, (name_small h.version, (p.1, (p.2, p.3))))

pub as_head : (p : DaemonPayload) → IsOfByte 1 p → (y : HeadFields) × (payload_fields p ≡ head_spelling y) × HeadFits y
as_head (Head h) q = (head_fields h, head-spelling h, head_fits h q.1.1)
as_head (Record r) q = absurd (let k = step_range (kind_of r.step) in let e = q.0 in omega arith)
as_head (Upgrade t) q = absurd (let e = q.0 in omega arith)
as_head (Row r) q = absurd q.1.0

word_once : IsSpelledOnce be64 IsWord
word_once = number_once 8

head_once : IsSpelledOnce head_spelling HeadFits
head_once =
    pair_once (λ (t : Secs). be64 t.0) (λ t. IsWord t.0) _ _ secs_once
    (pair_once be64 IsWord _ _ word_once (pair_once be64 IsWord _ _ word_once (pair_once be64 IsWord be64 IsWord word_once word_once)))

-- a name that is none
pub no_version : (y : HeadFields) (old new : List ℕ) → ((v : JournalVersion) → name_number v ≡ y.1.0 → ⊥) → old ≡ head_spelling y ++ new → HeadFits y → (p : DaemonPayload) (rest : List ℕ) → IsOfByte 1 p → old ≡ payload_fields p ++ rest → ⊥
no_version y old new none read fits (Head h) rest q e =
    let same = head_once y (head_fields h) new rest fits (head_fits h q.1.1) (sym read ∙ e ∙ ap (λ l. l ++ rest) (head-spelling h)) in
    none h.version (sym (ap (λ z. z.1.0) same.0))
no_version y old new none read fits (Record r) rest q e = let k = step_range (kind_of r.step) in let n = q.0 in omega arith
no_version y old new none read fits (Upgrade t) rest q e = let n = q.0 in omega arith
no_version y old new none read fits (Row r) rest q e = q.1.0

-- a head that was read
pub head_read : (time : Secs) (name site first age : ℕ) (v : JournalVersion) (old new : List ℕ) → name_number v ≡ name → old ≡ head_spelling (time, (name, (site, (first, age)))) ++ new → HeadFits (time, (name, (site, (first, age)))) → (old ≡ payload_fields (Head (record { time = time; version = v; site = site; first = first; age = age })) ++ new) × IsOfByte 1 (Head (record { time = time; version = v; site = site; first = first; age = age }))
head_read time name site first age v old new is read fits = (
  read ∙ ap (λ n. head_spelling (time, (n, (site, (first, age)))) ++ new) (sym is)
      ∙ ap (λ l. l ++ new) (sym (head-spelling (record { time = time; version = v; site = site; first = first; age = age }))),
  (refl, (tt, (fits.0, fits.1.1.0, fits.1.1.1.0, fits.1.1.1.1))),
)

-- a head has 41 bytes
pub head_length : (y : HeadFields) → length (head_spelling y) ≡ 40
head_length y =
    let a = length-behind 8 y.0.0 (be64 y.1.0 ++ (be64 y.1.1.0 ++ (be64 y.1.1.1.0 ++ be64 y.1.1.1.1))) in
    let b = length-behind 8 y.1.0 (be64 y.1.1.0 ++ (be64 y.1.1.1.0 ++ be64 y.1.1.1.1)) in
    let d = length-behind 8 y.1.1.0 (be64 y.1.1.1.0 ++ be64 y.1.1.1.1) in
    let f = length-behind 8 y.1.1.1.0 (be64 y.1.1.1.1) in
    let g = length-big_endian 8 y.1.1.1.1 in
    omega arith

pub head_put : (h : DaemonHead) (name : ℕ) → name ≡ name_number h.version → 1 ∷ head_spelling (h.time, (name, (h.site, (h.first, h.age)))) ≡ spelling (Head h)
head_put h name is = ap (1 ∷◌) (ap (λ n. head_spelling (h.time, (n, (h.site, (h.first, h.age))))) is ∙ sym (head-spelling h))

-- ---- upgrades

pub as_upgrade : (p : DaemonPayload) → IsOfByte 16 p → (t : Secs) × (payload_fields p ≡ be64 t.0) × IsWord t.0
as_upgrade (Head h) q = absurd (let e = q.0 in omega arith)
as_upgrade (Record r) q = absurd (let k = step_range (kind_of r.step) in let e = q.0 in omega arith)
as_upgrade (Upgrade t) q = (t, refl, q.1.1)
as_upgrade (Row r) q = absurd q.1.0

-- ---- records

as_record : (k : StepKind) (p : DaemonPayload) → IsOfByte (step_byte k) p → (r : DaemonRecord) × (p ≡ Record r) × IsOfKind k r.step × IsWord r.time.0
as_record k (Head h) q = absurd (let a = step_range k in let e = q.0 in omega arith)
as_record k (Record r) q = (r, refl, (one_kind (kind_of r.step) k q.0, q.1.1.1), q.1.1.0)
as_record k (Upgrade t) q = absurd (let a = step_range k in let e = q.0 in omega arith)
as_record k (Row r) q = absurd q.1.0

pub no_time : (k : StepKind) (old new next : List ℕ) (error : ReadError) → IsRead {X = Secs} (λ t. be64 t.0) (λ t. IsWord t.0) old new (Err error) → IsRead payload_fields (IsOfByte (step_byte k)) old next (Err error)
no_time k old new next NoMemory absent = tt
no_time k old new next Damaged absent = λ p rest q e.
    let r = as_record k p q in
    absent r.0.time (step_fields r.0.step ++ rest) r.3
    (e ∙ ap (λ a. payload_fields a ++ rest) r.1 ∙ append_assoc (be64 r.0.time.0) (step_fields r.0.step) rest)

pub no_fields : (k : StepKind) (time : Secs) (old mid new next : List ℕ) (error : ReadError) → IsWord time.0 → old ≡ be64 time.0 ++ mid → IsRead step_fields (IsOfKind k) mid new (Err error) → IsRead payload_fields (IsOfByte (step_byte k)) old next (Err error)
no_fields k time old mid new next NoMemory small read absent = tt
no_fields k time old mid new next Damaged small read absent = λ p rest q e.
    let r = as_record k p q in
    let both = secs_once time r.0.time mid (step_fields r.0.step ++ rest) small r.3
    (sym read ∙ e ∙ ap (λ a. payload_fields a ++ rest) r.1 ∙ append_assoc (be64 r.0.time.0) (step_fields r.0.step) rest) in
    absent r.0.step rest r.2 both.1

-- ---- all of them

pub log_range : (p : DaemonPayload) → FitsLog p → payload_byte p < 2 ^ 8
log_range (Head h) q = omega arith
log_range (Record r) q = let k = step_range (kind_of r.step) in omega arith
log_range (Upgrade t) q = omega arith
log_range (Row r) q = absurd q.0

-- a byte that is no kind
pub no_kind : (n : ℕ) (old : List ℕ) → (n ≡ 1 → ⊥) → (n ≡ 16 → ⊥) → ((k : StepKind) → step_byte k ≡ n → ⊥) → (p : DaemonPayload) (rest : List ℕ) → IsOfByte n p → old ≡ payload_fields p ++ rest → ⊥
no_kind n old head upgrade step (Head h) rest q e = head (sym q.0)
no_kind n old head upgrade step (Record r) rest q e = step (kind_of r.step) q.0
no_kind n old head upgrade step (Upgrade t) rest q e = upgrade (sym q.0)
no_kind n old head upgrade step (Row r) rest q e = q.1.0

heads_same : (h g : DaemonHead) → head_fields h ≡ head_fields g → h ≡ g
heads_same h g e = let v = one_version h.version g.version (ap (λ y. y.1.0) e) in λ i. record { time = (e i).0; version = v i; site = (e i).1.1.0; first = (e i).1.1.1.0; age = (e i).1.1.1.1 }

pub log_once : IsSpelledOnce spelling FitsLog
log_once (Head h) (Head g) r s p q e =
    let tails = (byte_once 1 1 (payload_fields (Head h) ++ r) (payload_fields (Head g) ++ s) e).1 in
    let both = head_once (head_fields h) (head_fields g) r s (head_fits h p.1) (head_fits g q.1)
    (sym (ap (λ l. l ++ r) (head-spelling h)) ∙ tails ∙ ap (λ l. l ++ s) (head-spelling g)) in
    (ap (λ a. Head a) (heads_same h g both.0), both.1)
log_once (Record a) (Record b) r s p q e =
    let bytes = byte_once (step_byte (kind_of a.step)) (step_byte (kind_of b.step)) (payload_fields (Record a) ++ r) (payload_fields (Record b) ++ s) e in
    let times = secs_once a.time b.time (step_fields a.step ++ r) (step_fields b.step ++ s) p.1.0 q.1.0
    (sym (append_assoc (be64 a.time.0) (step_fields a.step) r) ∙ bytes.1 ∙ append_assoc (be64 b.time.0) (step_fields b.step) s) in
    let steps = step_once a.step b.step r s (one_kind _ _ bytes.0) p.1.1 q.1.1 times.1 in
    (λ i. Record (record { time = times.0 i; step = steps.0 i }), steps.1)
log_once (Upgrade t) (Upgrade u) r s p q e =
    let both = secs_once t u r s p.1 q.1 (byte_once 16 16 (be64 t.0 ++ r) (be64 u.0 ++ s) e).1 in
    (λ i. Upgrade (both.0 i), both.1)
log_once (Head h) (Record b) r s p q e = absurd (let k = step_range (kind_of b.step) in let n = (byte_once _ _ _ _ e).0 in omega arith)
log_once (Head h) (Upgrade u) r s p q e = absurd (let n = (byte_once _ _ _ _ e).0 in omega arith)
log_once (Record a) (Head g) r s p q e = absurd (let k = step_range (kind_of a.step) in let n = (byte_once _ _ _ _ e).0 in omega arith)
log_once (Record a) (Upgrade u) r s p q e = absurd (let k = step_range (kind_of a.step) in let n = (byte_once _ _ _ _ e).0 in omega arith)
log_once (Upgrade t) (Head g) r s p q e = absurd (let n = (byte_once _ _ _ _ e).0 in omega arith)
log_once (Upgrade t) (Record b) r s p q e = absurd (let k = step_range (kind_of b.step) in let n = (byte_once _ _ _ _ e).0 in omega arith)
log_once (Row a) y r s p q e = absurd p.0
log_once (Head h) (Row b) r s p q e = absurd q.0
log_once (Record a) (Row b) r s p q e = absurd q.0
log_once (Upgrade t) (Row b) r s p q e = absurd q.0
