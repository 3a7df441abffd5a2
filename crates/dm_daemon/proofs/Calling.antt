-- What a call does, from what its parts do.
use Rattle.std.proofs.Common.{◌≡◌, inl, inr, ℕ, Bool, true, false, IsTrue, IsSome, Option, None, Some, Result, Ok, Err, refl, sym, ap, ◌∙◌, subst}
use Rattle.std.specs.Bool.{⊤}
use Rattle.std.specs.Option.{option_map}
use Rattle.dm_base.specs.declared.error.DaemonError.{DaemonError}
use Rattle.dm_base.specs.declared.error.DaemonError.TheVariants as error
use Rattle.dm_base.specs.declared.identifier.Ino.{Ino}
use Rattle.dm_daemon.proofs.Moments.{disk_still, disk_then}
use Rattle.dm_daemon.specs.declared.daemon.Daemon.{Daemon as TheDaemon}
use Rattle.dm_daemon.specs.Calls.{Acts, CountsReport, Journals, Serves, Settles}
use Rattle.dm_daemon.specs.Changed.{noted, requests_after, requests_after_doubt}
use Rattle.dm_daemon.specs.State.{IsSure, Stands, StandsForDaemon, StandsForEither, doubt_of, state_of}
use Rattle.dm_daemon_acts.proofs.Plans.{IsStepping, does_done, does_doubt, does_refused}
use Rattle.dm_daemon_acts.specs.Acts.{Does, DoesPlan, IsAnswer, IsFault, IsNoMemory, Report, report_of, report_of_error}
use Rattle.dm_daemon_journal.specs.Doubts.{after_settling}
use Rattle.dm_daemon_journal.specs.Stored.{StandsForTables}
use Rattle.dm_daemon_refusals.specs.Seen.{IsRefusal}
use Rattle.dm_daemon_tables.specs.declared.prepared.Prepared.{Prepared}
use Rattle.dm_daemon_tables.specs.Prepared.{record_of}
use Rattle.dm_daemon_tables.specs.Tables.{state_of as tables_of}
use Rattle.dm_durable.specs.Daemon.{after_record}
use Rattle.dm_durable.specs.Tables.{ByNumber}
use Rattle.dm_durable.specs.declared.daemon.DaemonRecord.{DaemonRecord}
use Rattle.dm_durable.specs.declared.daemon.DaemonStep.{DaemonStep}
use Rattle.dm_durable.specs.declared.daemon.DaemonStep.TheVariants as step
use Rattle.dm_durable.specs.declared.daemon.DaemonTables.{DaemonTables}
use Rattle.dm_host.specs.Disk.{Disk, Image}
use Rattle.dm_host.specs.declared.Failed.{Failed}
use Rattle.dm_model.specs.declared.answer.Answer.{Answer}
use Rattle.dm_model.specs.declared.answer.Answer.TheVariants as answer
use Rattle.dm_model.specs.declared.call.DaemonCall.{DaemonCall}
use Rattle.dm_model.specs.declared.plan.Ending.TheVariants as ending
use Rattle.dm_model.specs.declared.plan.Payload.TheVariants as payload
use Rattle.dm_model.specs.declared.state.Daemon.{Daemon}
use Rattle.dm_model.specs.declared.state.OpenRequest.{OpenRequest}
use Rattle.dm_model.specs.DaemonCalls.{daemon_plan, daemon_refusal, drop_recall}
use Rattle.dm_model.specs.Guards.{AllHold}
use Rattle.dm_model.specs.DaemonShare.{daemon_after_ending, daemon_after_heal, daemon_after_record, daemon_settled, daemon_with_doubt, requests_after_step, with_change_on, without_request}
use Rattle.dm_model.specs.Plan.{Plan, refusal_of}

-- ---- a call where no step is in doubt

no_doubt : (m : TheDaemon) → IsSure m → (state_of m).doubt ≡ None
no_doubt m sure = ap (λ o. option_map record_of o) sure.none

-- a plan of the daemon that makes and spends nothing
pub record IsPlain (p : Plan) : Type 0 where
  pub stepping : IsStepping p
  pub ends : p.ends ≡ ending.Nothing

-- it is refused
pub acts_refused : (a : Disk) (n : ℕ) (m : TheDaemon) (c : DaemonCall) (p : Plan) (e : DaemonError) → daemon_plan (state_of m) c ≡ p → IsPlain p
    → IsSure m → Stands a m → refusal_of p ≡ Some (daemon_refusal e) → IsRefusal e → Acts a a n n m m c (report_of_error e)
acts_refused a n m c p e is plain sure stands refused refusal = record {
  does =
      subst (Does (state_of m) (state_of m) c) (sym refusal)
      (subst (λ q. DoesPlan q (state_of m) (state_of m) (IsAnswer (daemon_refusal e))) (sym is)
      (subst (λ s. DoesPlan p (state_of m) s (IsAnswer (daemon_refusal e))) (ap (λ e. daemon_after_ending e (state_of m)) plain.ends)
      (does_refused p (state_of m) (daemon_refusal e) plain.stepping.component (no_doubt m sure) refused)));
  landed = refl;
  disk = disk_still a m stands;
  counts = subst (CountsReport n n) (sym refusal) refl;
}

-- its record was journalled
pub acts_done : (a b : Disk) (m n : ℕ) (old new : TheDaemon) (c : DaemonCall) (p : Plan) (r : DaemonRecord) (answer : Answer) → daemon_plan (state_of old) c ≡ p
    → IsPlain p → IsSure old → refusal_of p ≡ None → p.payload ≡ Some (payload.Daemon r) → answer ≡ p.answer → (x : ⊤) → Journals a b m n old new r (Ok x)
    → Acts a b m n old new c (IsAnswer answer)
acts_done a b m n old new c p r answer is plain sure accepted pays same x j = record {
  does =
      subst (λ x. Does (state_of old) (state_of new) c (IsAnswer x)) (sym same)
      (subst (λ q. DoesPlan q (state_of old) (state_of new) (IsAnswer p.answer)) (sym is)
      (does_done p (state_of old) (state_of new) r plain.stepping (no_doubt old sure) accepted pays
      (j.comes ∙ sym (ap (λ e. daemon_after_record r (daemon_after_ending e (state_of old))) plain.ends))));
  landed = j.landed;
  disk = j.disk;
  counts = j.counts;
}

-- it wasn't: a fault, or want of memory
undone : (a b : Disk) (m n : ℕ) (old new : TheDaemon) (c : DaemonCall) (p : Plan) (r : DaemonRecord) (e : DaemonError) → daemon_plan (state_of old) c ≡ p
    → IsPlain p → refusal_of p ≡ None → p.payload ≡ Some (payload.Daemon r) → Journals a b m n old new r (Err e)
    → Does (state_of old) (state_of new) c (report_of_error e) × CountsReport m n (report_of_error e)
undone a b m n old new c p r error.DaemonFault is plain accepted pays j = (
  subst (λ q. DoesPlan q (state_of old) (state_of new) IsFault) (sym is)
      (does_doubt p (state_of old) (state_of new) r accepted pays
      (j.comes ∙ sym (ap (λ e. daemon_with_doubt (Some r) (daemon_after_ending e (state_of old))) plain.ends))),
  j.counts,
)
undone a b m n old new c p r error.NoMemory is plain accepted pays j = (
  subst (λ q. DoesPlan q (state_of old) (state_of new) IsNoMemory) (sym is) (j.comes ∙ sym (ap (λ e. daemon_after_ending e (state_of old)) plain.ends)),
  j.counts,
)
undone a b m n old new c p r error.NoFile is plain accepted pays j = absurd j.comes
undone a b m n old new c p r (error.WrongState found) is plain accepted pays j = absurd j.comes
undone a b m n old new c p r (error.Changed was found) is plain accepted pays j = absurd j.comes
undone a b m n old new c p r (error.Full have need cap) is plain accepted pays j = absurd j.comes
undone a b m n old new c p r error.NoDump is plain accepted pays j = absurd j.comes
undone a b m n old new c p r (error.Expired now made age) is plain accepted pays j = absurd j.comes
undone a b m n old new c p r error.Exists is plain accepted pays j = absurd j.comes
undone a b m n old new c p r (error.TooMany limit) is plain accepted pays j = absurd j.comes

pub acts_undone : (a b : Disk) (m n : ℕ) (old new : TheDaemon) (c : DaemonCall) (p : Plan) (r : DaemonRecord) (e : DaemonError) → daemon_plan (state_of old) c ≡ p
    → IsPlain p → refusal_of p ≡ None → p.payload ≡ Some (payload.Daemon r) → Journals a b m n old new r (Err e)
    → Acts a b m n old new c (report_of_error e)
acts_undone a b m n old new c p r e is plain accepted pays j =
    let it = undone a b m n old new c p r e is plain accepted pays j in
    record { does = it.0; landed = j.landed; disk = j.disk; counts = it.1 }

-- the one or the other, of a call that answers nothing else
pub acts_stepped : (a b : Disk) (m n : ℕ) (old new : TheDaemon) (c : DaemonCall) (p : Plan) (r : DaemonRecord) (answer : Answer) (result : Result ⊤ DaemonError)
    → daemon_plan (state_of old) c ≡ p → IsPlain p → IsSure old → refusal_of p ≡ None → p.payload ≡ Some (payload.Daemon r) → answer ≡ p.answer
    → Journals a b m n old new r result → Acts a b m n old new c (report_of (λ _. answer) result)
acts_stepped a b m n old new c p r answer (Ok x) is plain sure accepted pays same j = acts_done a b m n old new c p r answer is plain sure accepted pays same x j
acts_stepped a b m n old new c p r answer (Err e) is plain sure accepted pays same j = acts_undone a b m n old new c p r e is plain accepted pays j

-- ---- the step in doubt

settled_by_cases : (landed : Bool) (o : Option DaemonRecord) (d : Daemon) → (daemon_settled landed o d).tables ≡ after_settling landed o d.tables
settled_by_cases landed None d = refl
settled_by_cases true (Some r) d = refl
settled_by_cases false (Some r) d = refl

-- what the disk stands for behind a heal it stood for before
settled_between : (old mid : TheDaemon) → (state_of mid).tables ≡ (daemon_after_heal mid.landed (state_of old)).tables → IsSure mid
    → mid.journalled.store.component ≡ old.journalled.store.component → (x : Image) → StandsForDaemon mid x → StandsForDaemon old x
settled_between old mid is sure same x stands =
    let c = old.journalled.store.component in
    let plain : StandsForEither c (tables_of mid.journalled.tables) None x =
    subst (λ o. StandsForEither c (tables_of mid.journalled.tables) (option_map record_of o) x) sure.none
    (subst (λ n. StandsForEither n (tables_of mid.journalled.tables) (doubt_of mid) x) same stands) in
    (mid.landed, subst (λ t. StandsForTables c t x) (is ∙ settled_by_cases mid.landed (doubt_of old) (state_of old)) plain.1)

-- ---- a whole call

counted : (l m n : ℕ) (r : Report) → m ≡ l → CountsReport m n r → CountsReport l n r
counted l m n r same counts = subst (λ k. CountsReport k n r) same counts

-- the step in doubt was settled, and the call was done
pub served : (a b e : Disk) (l m n : ℕ) (old mid new : TheDaemon) (c : DaemonCall) (r : Report) → Settles a b l m old mid (Ok tt) → Acts b e m n mid new c r
    → Serves a e l n old new c r
served a b e l m n old mid new c r s acts = record {
  did = inl (subst (λ d. Does d (state_of new) c r) (s.settled.0 ∙ ap (λ q. daemon_after_heal q (state_of old)) (sym acts.landed)) acts.does);
  landed = λ is. s.landed (subst IsTrue acts.landed is);
  disk = disk_then a b e old mid new (settled_between old mid (ap (λ d. d.tables) s.settled.0) s.settled.1 s.disk.component) s.disk acts.disk;
  counts = counted l m n r s.counts.none acts.counts;
}

-- the heal failed, and the call spends nothing
pub unserved : (a b : Disk) (l m : ℕ) (old new : TheDaemon) (c : DaemonCall) (failed : Failed) → Settles a b l m old new (Err failed)
    → (daemon_plan (state_of old) c).ends ≡ ending.Nothing → Serves a b l m old new c IsFault
unserved a b l m old new c failed s plain = record {
  did = inr (inl (s.settled.1, (refl, s.settled.0 ∙ sym (ap (λ e. daemon_after_ending e (state_of old)) plain))));
  landed = s.landed;
  disk = s.disk;
  counts = s.counts.rose;
}

-- ---- settling and journalling

-- what a step does to the requests is made of the tables and the requests alone
step_requests : (cap next : ℕ) (t : DaemonTables) (rs : ByNumber OpenRequest) (o : Option DaemonRecord) (s : DaemonStep)
    → requests_after t rs s ≡ requests_after_step (record { cap = cap; tables = t; requests = rs; next_request = next; doubt = o }) s
step_requests cap next t rs o (step.Write path change bytes) = refl
step_requests cap next t rs o (step.Remove path change) = refl
step_requests cap next t rs o (step.BeginPut path b groups) = refl
step_requests cap next t rs o (step.Stored b group) = refl
step_requests cap next t rs o (step.EndPut n b dual) = refl
step_requests cap next t rs o (step.Release path) = refl
step_requests cap next t rs o (step.Taken n bytes) = refl
step_requests cap next t rs o (step.Dump name) = refl
step_requests cap next t rs o (step.Undump name) = refl
step_requests cap next t rs o (step.Restore name path target change) = refl
step_requests cap next t rs o (step.HardDelete bfids) = refl
step_requests cap next t rs o (step.Dropped b) = refl
step_requests cap next t rs o step.Restart = refl
step_requests cap next t rs o (step.Age age) = refl

-- the requests after the step in doubt, if it landed
abbrev pub requests_settled : Bool → Option DaemonRecord → DaemonTables → ByNumber OpenRequest → ByNumber OpenRequest
requests_settled true o t rs = requests_after_doubt t rs o
requests_settled false o t rs = rs

pub noted_settled : (landed : Bool) (o : Option DaemonRecord) (t : DaemonTables) (rs : ByNumber OpenRequest) (change : ℕ) (ino : Option Ino)
    → with_change_on rs change ino ≡ requests_after_doubt t rs o → noted landed change ino rs ≡ requests_settled landed o t rs
noted_settled true o t rs change ino is = is
noted_settled false o t rs change ino is = refl

requests_none : (landed : Bool) (t : DaemonTables) (rs : ByNumber OpenRequest) → requests_settled landed None t rs ≡ rs
requests_none true t rs = refl
requests_none false t rs = refl

-- the daemon behind a step that was journalled
pub done_state : (cap next next' : ℕ) (t t' : DaemonTables) (rs rs' : ByNumber OpenRequest) (o o' : Option DaemonRecord) (r : DaemonRecord)
    → t' ≡ after_record t r → rs' ≡ requests_after t rs r.step → next' ≡ next → o ≡ None → o' ≡ None
    → (record { cap = cap; tables = t'; requests = rs'; next_request = next'; doubt = o' })
    ≡ daemon_after_record r (record { cap = cap; tables = t; requests = rs; next_request = next; doubt = o })
done_state cap next next' t t' rs rs' o o' r et er en eo eo' =
    (λ i. record { cap = cap; tables = et i; requests = er i; next_request = en i; doubt = eo' i })
    ∙ λ i. record { cap = cap; tables = after_record t r; requests = step_requests cap next t rs o r.step i; next_request = next; doubt = sym eo i }

-- the daemon behind a heal that answered
pub settled_state : (cap next next' : ℕ) (t t' : DaemonTables) (rs rs' : ByNumber OpenRequest) (o o' : Option DaemonRecord) (landed : Bool)
    → t' ≡ after_settling landed o t → rs' ≡ requests_settled landed o t rs → next' ≡ next → o' ≡ None
    → (record { cap = cap; tables = t'; requests = rs'; next_request = next'; doubt = o' })
    ≡ daemon_settled landed o (record { cap = cap; tables = t; requests = rs; next_request = next; doubt = o })
settled_state cap next next' t t' rs rs' None o' landed et er en eo = λ i. record { cap = cap; tables = et i; requests = (er ∙ requests_none landed t rs) i; next_request = en i; doubt = eo i }
settled_state cap next next' t t' rs rs' (Some r) o' false et er en eo = λ i. record { cap = cap; tables = et i; requests = er i; next_request = en i; doubt = eo i }
settled_state cap next next' t t' rs rs' (Some r) o' true et er en eo =
    (λ i. record { cap = cap; tables = et i; requests = er i; next_request = en i; doubt = eo i })
    ∙ λ i. record { cap = cap; tables = after_record t r; requests = step_requests cap next t rs None r.step i; next_request = next; doubt = None }

pub not_true : (b : Bool) → b ≡ false → IsTrue b → ⊥
not_true b e is = absurd (cc (e, is))

-- where a step landed, one was in doubt
pub one_landed : (o : Option Prepared) (landed : Bool) → (o ≡ None → landed ≡ false) → IsTrue landed → IsSome (option_map record_of o)
one_landed None landed idle is = absurd (not_true landed (idle refl) is)
one_landed (Some p) landed idle is = refl

-- ---- a recall that is dropped

pub recall_dropped : (d new : Daemon) (k : ℕ) (o : Option OpenRequest) → AllHold (drop_recall d k o).own → new ≡ without_request k d
    → DoesPlan (drop_recall d k o) d new (IsAnswer answer.RecallDropped)
recall_dropped d new k None own is = cc own.0
recall_dropped d new k (Some r) own is = (refl, is)
