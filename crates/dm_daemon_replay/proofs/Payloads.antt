-- What was read of a payload's bytes, and whether it may come.
use Rattle.std.proofs.Common.{◌≡◌, ℕ, List, Result, Ok, Err, IsErrOf, OnOk, ap, ◌∙◌, subst}
use Rattle.dm_daemon_replay.specs.Replay.{IsBeginning, IsNext}
use Rattle.dm_daemon_replay.proofs.Logs.{one_payload}
use Rattle.dm_durable.specs.DaemonJournal.{DaemonState, MayBeHead, MayCome, after_payload, state_of_head}
use Rattle.dm_durable.specs.Fields.{FitsPayload}
use Rattle.dm_durable.specs.declared.daemon_journal.DaemonHead.{DaemonHead}
use Rattle.dm_durable.specs.declared.daemon_journal.DaemonPayload.{DaemonPayload}
use Rattle.dm_durable.specs.declared.daemon_journal.DaemonPayload.TheVariants.{Head, Record, Upgrade, Row}
use Rattle.dm_fields.specs.Whole.{IsWholeRead}
use Rattle.dm_fields.specs.declared.input.ReadError.{ReadError}
use Rattle.dm_fields.specs.declared.input.ReadError.TheVariants.{Damaged, NoMemory}
use Rattle.dm_records.specs.Payloads.{FitsLog, spelling}

-- an answer that is damage
pub told_damaged : {T : Type 0} (e : ReadError) → IsErrOf {T = T} (Err e) Damaged → e ≡ Damaged
told_damaged e is = cc (is)

-- what holds of an Ok and what follows from it
pub ok_then : {T E P Q : Type 0} (r : Result T E) → (P → Q) → OnOk r P → OnOk r Q
ok_then (Ok x) f p = f p
ok_then (Err e) f p = p

-- ---- the first payload

pub begins : (bytes : List ℕ) (p : DaemonPayload) (h : DaemonHead) (s : DaemonState) → (bytes ≡ spelling p) × FitsLog p → (p ≡ Head h) × MayBeHead h → s ≡ state_of_head h → IsBeginning bytes s
begins bytes p h s read is state = record {
  head = h;
  spelled = read.0 ∙ ap spelling is.0;
  fits = subst FitsPayload is.0 read.1.1;
  may = is.1;
  state = state;
}

pub begins_not : (bytes : List ℕ) (p : DaemonPayload) → (bytes ≡ spelling p) × FitsLog p → ((h : DaemonHead) → p ≡ Head h → MayBeHead h → ⊥) → (s : DaemonState) → IsBeginning bytes s → ⊥
begins_not bytes p read none s begins = none begins.head (one_payload p (Head begins.head) bytes read.1.1 begins.fits read.0 begins.spelled) begins.may

pub begins_unread : (bytes : List ℕ) (e : ReadError) → IsWholeRead spelling FitsLog bytes (Err e) → e ≡ Damaged → (s : DaemonState) → IsBeginning bytes s → ⊥
begins_unread bytes Damaged unread is s begins = unread (Head begins.head) (tt, begins.fits) begins.spelled
begins_unread bytes NoMemory unread is s begins = cc

-- ---- the next one

pub comes : (s u : DaemonState) (bytes : List ℕ) (p : DaemonPayload) → (bytes ≡ spelling p) × FitsLog p → MayCome s p × (u ≡ after_payload s p) → IsNext s bytes u
comes s u bytes p read may = record { payload = p; spelled = read.0; fits = read.1.1; may = may.0; after = may.1 }

pub comes_not : (s : DaemonState) (bytes : List ℕ) (p : DaemonPayload) → (bytes ≡ spelling p) × FitsLog p → (MayCome s p → ⊥) → (u : DaemonState) → IsNext s bytes u → ⊥
comes_not s bytes p read none u next = none (subst (λ (q : DaemonPayload). MayCome s q) (one_payload next.payload p bytes next.fits read.1.1 next.spelled read.0) next.may)

pub comes_unread : (s : DaemonState) (bytes : List ℕ) (e : ReadError) → IsWholeRead spelling FitsLog bytes (Err e) → e ≡ Damaged → (u : DaemonState) → IsNext s bytes u → ⊥
comes_unread s bytes Damaged unread is u next = of_log next.payload next.fits next.may next.spelled
  where
    of_log : (q : DaemonPayload) → FitsPayload q → MayCome s q → bytes ≡ spelling q → ⊥
    of_log (Head h) fits may spelled = may
    of_log (Record r) fits may spelled = unread (Record r) (tt, fits) spelled
    of_log (Upgrade t) fits may spelled = unread (Upgrade t) (tt, fits) spelled
    of_log (Row r) fits may spelled = may
comes_unread s bytes NoMemory unread is u next = cc
