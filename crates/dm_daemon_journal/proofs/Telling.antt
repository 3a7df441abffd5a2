-- A record more, and what a call on the store leaves.
use Rattle.std.proofs.Common.{◌≡◌, ◌⊎◌, ℕ, Bool, true, false, Option, None, Some, Result, Ok, Err, IfOk, OnErr, List, [], ◌∷◌, ◌++◌, sym, ap, subst, ◌∙◌, inl, inr, append_assoc}
use Rattle.std.proofs.lemmas.List.{map-append}
use Rattle.std.specs.List.{AllByRecursion}
use Rattle.dm_ckpt.specs.Files.{Mine}
use Rattle.dm_ckpt.specs.State.{At, Keeps, Doubts, Turns, StandsFor, Either}
use Rattle.dm_ckpt.specs.declared.doubt.Doubt.TheVariants.{Sure, Closing, Turning}
use Rattle.dm_host.specs.declared.Failed.{Failed}
use Rattle.dm_durable.specs.Daemon.{after_record}
use Rattle.dm_durable.specs.DaemonConditions.{MayFollow}
use Rattle.dm_durable.specs.DaemonJournal.{DaemonState, Continues, MayCome, MayBeIn, after_payload}
use Rattle.dm_durable.specs.Fields.{FitsPayload}
use Rattle.dm_durable.specs.declared.daemon.DaemonRecord.{DaemonRecord}
use Rattle.dm_durable.specs.declared.daemon.DaemonStep.{DaemonStep}
use Rattle.dm_durable.specs.declared.daemon.DaemonStep.TheVariants as step
use Rattle.dm_durable.specs.declared.daemon.DaemonTables.{DaemonTables}
use Rattle.dm_durable.specs.declared.daemon_journal.DaemonPayload.{DaemonPayload}
use Rattle.dm_durable.specs.declared.daemon_journal.DaemonPayload.TheVariants.{Record}
use Rattle.dm_durable.specs.declared.daemon_journal.JournalVersion.TheVariants.{Second}
use Rattle.dm_host.specs.Disk.{Disk, Image}
use Rattle.dm_host.specs.Works.{Works}
use Rattle.dm_host.proofs.Moments.{weaker}
use Rattle.dm_journal.specs.State.{with_landed}
use Rattle.dm_records.specs.Payloads.{spelling}
use Rattle.dm_daemon_journal.specs.Doubts.{after_settling}
use Rattle.dm_daemon_journal.specs.Stored.{TellsOf, HoldsWith, EitherTables}

any_step : (s : DaemonStep) → MayBeIn Second s
any_step (step.Write path change bytes) = tt
any_step (step.Remove path change) = tt
any_step (step.BeginPut path b groups) = tt
any_step (step.Stored b group) = tt
any_step (step.EndPut n b dual) = tt
any_step (step.Release path) = tt
any_step (step.Taken n bytes) = tt
any_step (step.Dump name) = tt
any_step (step.Undump name) = tt
any_step (step.Restore name path target change) = tt
any_step (step.HardDelete bfids) = tt
any_step (step.Dropped b) = tt
any_step step.Restart = tt
any_step (step.Age age) = tt

continues_on : (s : DaemonState) (ps : List DaemonPayload) (u : DaemonState) (p : DaemonPayload) → Continues s ps u → MayCome u p → Continues s (ps ++ p ∷ []) (after_payload u p)
continues_on s [] u p so_far may = (subst (λ t. MayCome t p) (sym so_far) may, ap (λ t. after_payload t p) so_far)
continues_on s (q ∷ ps) u p so_far may = (so_far.0, continues_on (after_payload s q) ps u p so_far.1 may)

all_on : (ps : List DaemonPayload) (p : DaemonPayload) → AllByRecursion FitsPayload ps → FitsPayload p → AllByRecursion FitsPayload (ps ++ p ∷ [])
all_on [] p all fits = (fits, tt)
all_on (q ∷ ps) p all fits = (all.0, all_on ps p all.1 fits)

-- payloads with a record that may follow
pub tells_on : (ps : List (List ℕ)) (t : DaemonTables) (r : DaemonRecord) → TellsOf ps t → FitsPayload (Record r) → MayFollow t r
    → TellsOf (ps ++ spelling (Record r) ∷ []) (after_record t r)
tells_on ps t r so_far fits may = record {
  payloads = so_far.payloads ++ Record r ∷ [];
  spelled = ap (λ l. l ++ spelling (Record r) ∷ []) so_far.spelled ∙ sym (map-append spelling so_far.payloads (Record r ∷ []));
  fit = all_on so_far.payloads (Record r) so_far.fit fits;
  tells = record {
    front = so_far.tells.front;
    rest = so_far.tells.rest ++ Record r ∷ [];
    is = ap (λ l. l ++ Record r ∷ []) so_far.tells.is ∙ append_assoc so_far.tells.front so_far.tells.rest (Record r ∷ []);
    begun = so_far.tells.begun;
    begins = so_far.tells.begins;
    continues = continues_on so_far.tells.begun so_far.tells.rest (record { version = Second; tables = t }) (Record r) so_far.tells.continues (may, any_step r.step);
  };
}

-- what a record in doubt comes to
pub tells_landed : (landed : Bool) (ps : List (List ℕ)) (t : DaemonTables) (r : DaemonRecord) → TellsOf ps t → FitsPayload (Record r) → MayFollow t r
    → TellsOf (with_landed landed ps (spelling (Record r))) (after_settling landed (Some r) t)
tells_landed true ps t r so_far fits may = tells_on ps t r so_far fits may
tells_landed false ps t r so_far fits may = so_far

-- what a heal owes
pub record Heals (d after : Disk) (s settled : At) (result : Result Bool Failed) : Type 1 where
  pub payload : (ps : List (List ℕ)) (p : List ℕ) → Doubts d s ps p → IfOk result (λ landed. Keeps after settled (with_landed landed ps p))
  pub turned : (ps qs : List (List ℕ)) → Turns d s ps qs → IfOk result (λ landed. (landed ≡ false) × (Keeps after settled ps ⊎ Keeps after settled qs))
  pub payload_err : (ps : List (List ℕ)) (p : List ℕ) → Doubts d s ps p → OnErr result (Doubts after settled ps p)
  pub turned_err : (ps qs : List (List ℕ)) → Turns d s ps qs → OnErr result (Turns after settled ps qs)
  pub idle : s.doubt ≡ Sure → (result ≡ Ok false) × (settled ≡ s) × (after ≡ d)

at_ok : {X Y : Type 0} {r : Result X Y} (P : X → Type 0) (x : X) → r ≡ Ok x → IfOk r P → P x
at_ok P x e h = subst (λ q. IfOk q P) e h

at_err : {X Y : Type 0} {r : Result X Y} (P : Type 0) (y : Y) → r ≡ Err y → OnErr r P → P
at_err P y e h = subst (λ q. OnErr q P) e h

one_of : (d : Disk) (s : At) (t : DaemonTables) (old new : List (List ℕ)) → Keeps d s old ⊎ Keeps d s new → TellsOf old t → TellsOf new t → HoldsWith d s t None
one_of d s t old new (inl keeps) old_tells new_tells = inl (record { payloads = old; keeps = keeps; tells = old_tells })
one_of d s t old new (inr keeps) old_tells new_tells = inl (record { payloads = new; keeps = keeps; tells = new_tells })

-- a heal that answers
pub healed : (d after : Disk) (s settled : At) (result : Result Bool Failed) (landed : Bool) (t : DaemonTables) (o : Option DaemonRecord)
    → Heals d after s settled result → result ≡ Ok landed → HoldsWith d s t o → HoldsWith after settled (after_settling landed o t) None
healed d after s settled result landed t None h is (inl holds) =
    let same = h.idle holds.keeps.sure in
    inl (record { payloads = holds.payloads; keeps = subst (λ e. Keeps e settled holds.payloads) (sym same.2) (subst (λ u. Keeps d u holds.payloads) (sym same.1) holds.keeps); tells = holds.tells })
healed d after s settled result landed t None h is (inr turning) =
    let it = at_ok (λ l. (l ≡ false) × (Keeps after settled turning.old ⊎ Keeps after settled turning.new)) landed is (h.turned turning.old turning.new turning.turns) in
    one_of after settled t turning.old turning.new it.1 turning.old_tells turning.new_tells
healed d after s settled result landed t (Some r) h is holds =
    let it = at_ok (λ l. Keeps after settled (with_landed l holds.payloads (spelling (Record r)))) landed is (h.payload holds.payloads (spelling (Record r)) holds.doubts) in
    inl (record { payloads = with_landed landed holds.payloads (spelling (Record r)); keeps = it; tells = tells_landed landed holds.payloads t r holds.tells holds.fits holds.may })

no_answer : (result : Result Bool Failed) (failed : Failed) → result ≡ Ok false → result ≡ Err failed → ⊥
no_answer result failed e f = cc

-- a heal that fails
pub unhealed : (d after : Disk) (s settled : At) (result : Result Bool Failed) (failed : Failed) (t : DaemonTables) (o : Option DaemonRecord)
    → Heals d after s settled result → result ≡ Err failed → HoldsWith d s t o → HoldsWith after settled t o
unhealed d after s settled result failed t None h is (inl holds) =
    let same = h.idle holds.keeps.sure in
    absurd (no_answer result failed same.0 is)
unhealed d after s settled result failed t None h is (inr turning) =
    inr (record { old = turning.old; new = turning.new; turns = at_err (Turns after settled turning.old turning.new) failed is (h.turned_err turning.old turning.new turning.turns); old_tells = turning.old_tells; new_tells = turning.new_tells })
unhealed d after s settled result failed t (Some r) h is holds =
    record { payloads = holds.payloads; doubts = at_err (Doubts after settled holds.payloads (spelling (Record r))) failed is (h.payload_err holds.payloads (spelling (Record r)) holds.doubts); tells = holds.tells; fits = holds.fits; may = holds.may }

-- ---- an append

no_turning : {P : Type 0} (d : Disk) (s : At) (old new : List (List ℕ)) → s.doubt ≡ Sure → Turns d s old new → P
no_turning d s old new sure (inl closes) = absurd (unlike (sym sure ∙ closes.doubt))
  where
    unlike : Sure ≡ Closing → ⊥
    unlike e = cc
no_turning d s old new sure (inr replaces) = absurd (unlike (sym sure ∙ replaces.doubt))
  where
    unlike : Sure ≡ Turning → ⊥
    unlike e = cc

-- one that stood
pub appended : (d after : Disk) (s behind : At) (t : DaemonTables) (r : DaemonRecord) (payload : List ℕ) → s.doubt ≡ Sure → payload ≡ spelling (Record r) → FitsPayload (Record r) → MayFollow t r
    → ((ps : List (List ℕ)) → Keeps d s ps → Keeps after behind (ps ++ payload ∷ [])) → HoldsWith d s t None → HoldsWith after behind (after_record t r) None
appended d after s behind t r payload sure is fits may keeps (inl holds) =
    inl (record {
      payloads = holds.payloads ++ spelling (Record r) ∷ [];
      keeps = subst (λ p. Keeps after behind (holds.payloads ++ p ∷ [])) is (keeps holds.payloads holds.keeps);
      tells = tells_on holds.payloads t r holds.tells fits may;
    })
appended d after s behind t r payload sure is fits may keeps (inr turning) = no_turning d s turning.old turning.new sure turning.turns

-- one that failed
pub unappended : (d after : Disk) (s behind : At) (t : DaemonTables) (r : DaemonRecord) (payload : List ℕ) → s.doubt ≡ Sure → payload ≡ spelling (Record r) → FitsPayload (Record r) → MayFollow t r
    → ((ps : List (List ℕ)) → Keeps d s ps → Doubts after behind ps payload) → HoldsWith d s t None → HoldsWith after behind t (Some r)
unappended d after s behind t r payload sure is fits may doubts (inl holds) =
    record { payloads = holds.payloads; doubts = subst (Doubts after behind holds.payloads) is (doubts holds.payloads holds.keeps); tells = holds.tells; fits = fits; may = may }
unappended d after s behind t r payload sure is fits may doubts (inr turning) = no_turning d s turning.old turning.new sure turning.turns

-- what a crash leaves at any moment of it
either_tables : (c : ℕ) (t : DaemonTables) (r : DaemonRecord) (ps : List (List ℕ)) (payload : List ℕ) → payload ≡ spelling (Record r) → FitsPayload (Record r) → MayFollow t r → TellsOf ps t
    → (x : Image) → Either c ps (ps ++ payload ∷ []) x → EitherTables c t (after_record t r) x
either_tables c t r ps payload is fits may tells x (inl before) = inl (record { payloads = ps; stands = before; tells = tells })
either_tables c t r ps payload is fits may tells x (inr after) =
    inr (record {
      payloads = ps ++ spelling (Record r) ∷ [];
      stands = subst (λ p. StandsFor c (ps ++ p ∷ []) x) is after;
      tells = tells_on ps t r tells fits may;
    })

pub at_any_moment : (d after : Disk) (s : At) (t : DaemonTables) (r : DaemonRecord) (payload : List ℕ) → s.doubt ≡ Sure → payload ≡ spelling (Record r) → FitsPayload (Record r) → MayFollow t r
    → ((ps : List (List ℕ)) → Keeps d s ps → Works (Mine s.component) d after (Either s.component ps (ps ++ payload ∷ [])))
    → HoldsWith d s t None → Works (Mine s.component) d after (EitherTables s.component t (after_record t r))
at_any_moment d after s t r payload sure is fits may works (inl holds) =
    weaker (Mine s.component) d after (Either s.component holds.payloads (holds.payloads ++ payload ∷ [])) (EitherTables s.component t (after_record t r))
    (works holds.payloads holds.keeps) (either_tables s.component t r holds.payloads payload is fits may holds.tells)
at_any_moment d after s t r payload sure is fits may works (inr turning) = no_turning d s turning.old turning.new sure turning.turns
