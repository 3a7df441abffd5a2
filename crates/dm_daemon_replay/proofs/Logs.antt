-- A log and one payload more.
use Rattle.std.proofs.Common.{◌≡◌, ◌↔◌, ℕ, List, [], ◌∷◌, ◌++◌, refl, sym, ap, ◌∙◌, subst}
use Rattle.dm_durable.specs.DaemonJournal.{DaemonState, after_payload, state_of_head}
use Rattle.dm_durable.specs.Fields.{FitsPayload}
use Rattle.dm_durable.specs.declared.daemon_journal.DaemonHead.{DaemonHead}
use Rattle.dm_durable.specs.declared.daemon_journal.DaemonPayload.{DaemonPayload}
use Rattle.dm_durable.specs.declared.daemon_journal.DaemonPayload.TheVariants.{Head, Record, Upgrade, Row}
use Rattle.dm_records.specs.Payloads.{spelling}
use Rattle.dm_records.proofs.RowOnce.{payload_once}
use Rattle.dm_daemon_replay.specs.Replay.{IsBeginning, IsNext, LogTells, Replays}

-- two payloads with the same bytes are one
pub one_payload : (p q : DaemonPayload) (bytes : List ℕ) → FitsPayload p → FitsPayload q → bytes ≡ spelling p → bytes ≡ spelling q → p ≡ q
one_payload p q bytes fp fq is also = (payload_once p q [] [] fp fq (ap (λ l. l ++ []) (sym is ∙ also))).0

abbrev head_in : DaemonHead → DaemonPayload → DaemonHead
head_in h (Head g) = g
head_in h (Record r) = h
head_in h (Upgrade t) = h
head_in h (Row r) = h

pub one_head : (h g : DaemonHead) → Head h ≡ Head g → h ≡ g
one_head h g e = ap (head_in h) e

-- bytes begin a journal with one state
pub begun_once : (bytes : List ℕ) (s t : DaemonState) → IsBeginning bytes s → IsBeginning bytes t → s ≡ t
begun_once bytes s t a b =
    a.state ∙ ap state_of_head (one_head a.head b.head (one_payload (Head a.head) (Head b.head) bytes a.fits b.fits a.spelled b.spelled)) ∙ sym b.state

-- and leave one
pub next_once : (s : DaemonState) (bytes : List ℕ) (u v : DaemonState) → IsNext s bytes u → IsNext s bytes v → u ≡ v
next_once s bytes u v a b = a.after ∙ ap (after_payload s) (one_payload a.payload b.payload bytes a.fits b.fits a.spelled b.spelled) ∙ sym b.after

replayed_on : (s : DaemonState) (ps : List (List ℕ)) (u v : DaemonState) (p : List ℕ) → Replays s ps u → IsNext u p v → Replays s (ps ++ p ∷ []) v
replayed_on s [] u v p same next = (v, subst (λ (t : DaemonState). IsNext t p v) (sym same) next, refl)
replayed_on s (q ∷ ps) u v p r next = (r.0, r.1, replayed_on r.0 ps u v p r.2 next)

-- the last of more payloads follows the others
replayed_before : (s : DaemonState) (ps : List (List ℕ)) (v : DaemonState) (p : List ℕ) → Replays s (ps ++ p ∷ []) v → (u : DaemonState) × Replays s ps u × IsNext u p v
replayed_before s [] v p r = (s, refl, subst (λ (t : DaemonState). IsNext s p t) r.2 r.1)
replayed_before s (q ∷ ps) v p r = let before = replayed_before r.0 ps v p r.2 in (before.0, (r.0, r.1, before.1), before.2)

replayed_once : (s : DaemonState) (ps : List (List ℕ)) (u v : DaemonState) → Replays s ps u → Replays s ps v → u ≡ v
replayed_once s [] u v a b = sym a ∙ b
replayed_once s (p ∷ ps) u v a b =
    let same : b.0 ≡ a.0 = next_once s p b.0 a.0 b.1 a.1 in
    replayed_once a.0 ps u v a.2 (subst (λ (t : DaemonState). Replays t ps v) same b.2)

-- a log has one meaning
pub log_once : (ps : List (List ℕ)) (s t : DaemonState) → LogTells ps s → LogTells ps t → s ≡ t
log_once [] s t a b = absurd a
log_once (p ∷ ps) s t a b =
    let same : b.0 ≡ a.0 = begun_once p b.0 a.0 b.1 a.1 in
    replayed_once a.0 ps s t a.2 (subst (λ (u : DaemonState). Replays u ps t) same b.2)

-- a log with one payload more
log_on : (ps : List (List ℕ)) (s u : DaemonState) (p : List ℕ) → LogTells ps s → IsNext s p u → LogTells (ps ++ p ∷ []) u
log_on [] s u p tells next = absurd tells
log_on (q ∷ ps) s u p tells next = (tells.0, tells.1, replayed_on tells.0 ps s u p tells.2 next)

-- and the state that it tells of is one that the last payload leaves
log_last : (ps : List (List ℕ)) (s u : DaemonState) (p : List ℕ) → LogTells ps s → LogTells (ps ++ p ∷ []) u → IsNext s p u
log_last [] s u p tells longer = absurd tells
log_last (q ∷ ps) s u p tells longer =
    let before = replayed_before longer.0 ps u p longer.2 in
    let same : before.0 ≡ s = log_once (q ∷ ps) before.0 s (longer.0, longer.1, before.1) tells in
    subst (λ (t : DaemonState). IsNext t p u) same before.2

pub log_of_more : (ps : List (List ℕ)) (s : DaemonState) (p : List ℕ) → LogTells ps s → (u : DaemonState) → LogTells (ps ++ p ∷ []) u ↔ IsNext s p u
log_of_more ps s p tells u = (log_last ps s u p tells, log_on ps s u p tells)

-- one payload
pub log_of_one : (p : List ℕ) (s : DaemonState) → LogTells (p ∷ []) s ↔ IsBeginning p s
log_of_one p s = (λ tells. subst (λ (t : DaemonState). IsBeginning p t) tells.2 tells.1, λ begins. (s, begins, refl))
