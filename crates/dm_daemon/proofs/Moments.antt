-- What a crash leaves, and what a call on the journal keeps.
use Rattle.std.proofs.Common.{◌≡◌, ◌⊎◌, inl, inr, ℕ, true, false, Option, None, Some, List, [], ◌∷◌, ◌++◌, refl, sym, ap, ◌∙◌, subst, ⊎_elim}
use Rattle.std.proofs.lemmas.List.{append_assoc}
use Rattle.dm_ckpt.specs.Files.{Mine, area_file, log_file, opposite}
use Rattle.dm_ckpt.specs.State.{At, InUse, IsBehind, StandsFor, Either, Doubts, Turns}
use Rattle.dm_ckpt.proofs.Four.{area_mine, log_mine}
use Rattle.dm_ckpt.proofs.Settling.{keeps_stand, unchanged_none}
use Rattle.dm_ckpt.proofs.Standing.{old_stands, turn_stands}
use Rattle.dm_daemon.specs.declared.daemon.Daemon.{Daemon as TheDaemon}
use Rattle.dm_daemon.specs.State.{KeepsDisk, Stands, StandsForDaemon, StandsForEither, doubt_of}
use Rattle.dm_daemon_journal.proofs.Telling.{tells_on}
use Rattle.dm_daemon_journal.specs.Stored.{EitherTables, HoldsWith, HoldsPerhaps, HoldsTurning, OnDisk}
use Rattle.dm_daemon_tables.specs.Tables.{state_of as tables_of}
use Rattle.dm_durable.specs.Daemon.{after_record}
use Rattle.dm_durable.specs.declared.daemon.DaemonRecord.{DaemonRecord}
use Rattle.dm_durable.specs.declared.daemon.DaemonTables.{DaemonTables}
use Rattle.dm_durable.specs.declared.daemon_journal.DaemonPayload.TheVariants.{Record}
use Rattle.dm_host.specs.Disk.{Disk, Image}
use Rattle.dm_host.specs.Works.{Works, Here}
use Rattle.dm_host.proofs.Moments.{and_then, weaker}
use Rattle.dm_journal.specs.Grammar.{StandsFor as LogStandsFor}
use Rattle.dm_journal.proofs.Tearing.{pends_either}
use Rattle.dm_records.specs.Payloads.{spelling}

-- ---- what a crash leaves

-- the payloads of a store, and these behind the rows of its area
with_log : (d : Disk) (s : At) (ps : List (List ℕ)) (payload : List ℕ) (k : Doubts d s ps payload) (x : Image) → Here (Mine s.component) d x
    → (logged : List (List ℕ)) → LogStandsFor logged (x (log_file s.component s.index)) → StandsFor s.component (k.lists.rows ++ logged) x
with_log d s ps payload k x here logged log =
    let c = s.component in
    let i = s.index in
    let f = area_file c (opposite i) in
    let a = area_file c i in
    record {
      index = i;
      generation = s.generation;
      rows = k.lists.rows;
      logged = logged;
      is = refl;
      in_use = subst (λ (bytes : List ℕ). InUse i s.generation k.lists.rows bytes) (sym (k.left.area_left (x a) (here a (area_mine c i)))) k.lists.in_use;
      behind = subst (λ (l : List ℕ). IsBehind s.generation l) (sym (k.left.behind_left (x f) (here f (area_mine c (opposite i))))) k.behind;
      log = log;
    }

doubts_stand : (d : Disk) (s : At) (ps : List (List ℕ)) (payload : List ℕ) → Doubts d s ps payload → (x : Image) → Here (Mine s.component) d x
    → Either s.component ps (ps ++ payload ∷ []) x
doubts_stand d s ps payload k x here =
    let c = s.component in
    let log = log_file c s.index in
    ⊎_elim
    (λ before. inl (subst (λ (l : List (List ℕ)). StandsFor c l x) (sym k.lists.is) (with_log d s ps payload k x here k.lists.logged before)))
    (λ after.
    inr (subst (λ (l : List (List ℕ)). StandsFor c l x) (sym (ap (λ (qs : List (List ℕ)). qs ++ payload ∷ []) k.lists.is ∙ append_assoc k.lists.rows k.lists.logged (payload ∷ [])))
    (with_log d s ps payload k x here (k.lists.logged ++ payload ∷ []) after)))
    (pends_either k.lists.logged payload (x log) k.lists.fits k.payload_fits (k.left.log_left (x log) (here log (log_mine c s.index))))

turns_stand : (d : Disk) (s : At) (ps qs : List (List ℕ)) → Turns d s ps qs → (x : Image) → Here (Mine s.component) d x → Either s.component ps qs x
turns_stand d s ps qs (inl k) x here =
    let c = s.component in
    let i = s.index in
    inl (old_stands c i s.generation s.place ps k.lists x (k.left.area_left (x (area_file c i)) (here (area_file c i) (area_mine c i)))
    (k.left.behind_left (x (area_file c (opposite i))) (here (area_file c (opposite i)) (area_mine c (opposite i))))
    (k.left.log_left (x (log_file c i)) (here (log_file c i) (log_mine c i))))
turns_stand d s ps qs (inr k) x here =
    let c = s.component in
    let i = s.index in
    turn_stands c i s.generation s.place ps qs k.lists x (k.left.area_left (x (area_file c i)) (here (area_file c i) (area_mine c i)))
    (k.left.behind_left (x (area_file c (opposite i))) (here (area_file c (opposite i)) (area_mine c (opposite i))))
    (k.left.log_left (x (log_file c i)) (here (log_file c i) (log_mine c i)))
    (k.left.spare_left (x (log_file c (opposite i))) (here (log_file c (opposite i)) (log_mine c (opposite i))))

turning_stands : (d : Disk) (s : At) (t : DaemonTables) (k : HoldsTurning d s t) (x : Image) → Either s.component k.old k.new x → StandsForEither s.component t None x
turning_stands d s t k x (inl stands) = (false, record { payloads = k.old; stands = stands; tells = k.old_tells })
turning_stands d s t k x (inr stands) = (false, record { payloads = k.new; stands = stands; tells = k.new_tells })

perhaps_stands : (d : Disk) (s : At) (t : DaemonTables) (r : DaemonRecord) (k : HoldsPerhaps d s t r) (x : Image)
    → Either s.component k.payloads (k.payloads ++ spelling (Record r) ∷ []) x → StandsForEither s.component t (Some r) x
perhaps_stands d s t r k x (inl stands) = (false, record { payloads = k.payloads; stands = stands; tells = k.tells })
perhaps_stands d s t r k x (inr stands) =
    (true, record { payloads = k.payloads ++ spelling (Record r) ∷ []; stands = stands; tells = tells_on k.payloads t r k.tells k.fits k.may })

pub holds_stand : (d : Disk) (s : At) (t : DaemonTables) (o : Option DaemonRecord) → HoldsWith d s t o → (x : Image) → Here (Mine s.component) d x
    → StandsForEither s.component t o x
holds_stand d s t None (inl k) x here = (false, record { payloads = k.payloads; stands = keeps_stand d s k.payloads k.keeps x here; tells = k.tells })
holds_stand d s t None (inr k) x here = turning_stands d s t k x (turns_stand d s k.old k.new k.turns x here)
holds_stand d s t (Some r) k x here = perhaps_stands d s t r k x (doubts_stand d s k.payloads (spelling (Record r)) k.doubts x here)

-- what is held of a daemon is held of one that is alike
pub holds_alike : (d : Disk) (s s' : At) (t t' : DaemonTables) (o o' : Option DaemonRecord) → s' ≡ s → t' ≡ t → o' ≡ o → HoldsWith d s t o → HoldsWith d s' t' o'
holds_alike d s s' t t' o o' es et eo holds =
    subst (λ (u : At). HoldsWith d u t' o') (sym es) (subst (λ (u : DaemonTables). HoldsWith d s u o') (sym et) (subst (λ (u : Option DaemonRecord). HoldsWith d s t u) (sym eo) holds))

pub stands_alike : (c c' : ℕ) (t t' : DaemonTables) (o o' : Option DaemonRecord) (x : Image) → c' ≡ c → t' ≡ t → o' ≡ o
    → StandsForEither c t o x → StandsForEither c' t' o' x
stands_alike c c' t t' o o' x ec et eo stands =
    subst (λ (u : ℕ). StandsForEither u t' o' x) (sym ec) (subst (λ (u : DaemonTables). StandsForEither c u o' x) (sym et) (subst (λ (u : Option DaemonRecord). StandsForEither c t u x) (sym eo) stands))

-- ---- calls that keep the disk

-- nothing was done
pub disk_still : (d : Disk) (m : TheDaemon) → Stands d m → KeepsDisk d d m m
disk_still d m stands = record {
  stands = stands;
  kept = λ holds. holds;
  component = refl;
  any_moment = λ holds.
      weaker (Mine m.journalled.store.component) d d (Here (Mine m.journalled.store.component) d) (λ x. StandsForDaemon m x ⊎ StandsForDaemon m x) (unchanged_none m.journalled.store.component d).works
      (λ x here. inl (holds_stand d m.journalled.store (tables_of m.journalled.tables) (doubt_of m) holds x here));
}

-- a call that leaves nothing new
pub disk_settled : (a b : Disk) (old new : TheDaemon) → Stands b new → (OnDisk a old.journalled → OnDisk b new.journalled)
    → new.journalled.store.component ≡ old.journalled.store.component
    → Works (Mine old.journalled.store.component) a b (Here (Mine old.journalled.store.component) a) → KeepsDisk a b old new
disk_settled a b old new stands kept component works = record {
  stands = stands;
  kept = kept;
  component = component;
  any_moment = λ holds.
      weaker (Mine old.journalled.store.component) a b (Here (Mine old.journalled.store.component) a) (λ x. StandsForDaemon old x ⊎ StandsForDaemon new x) works
      (λ x here. inl (holds_stand a old.journalled.store (tables_of old.journalled.tables) (doubt_of old) holds x here));
}

-- one after another, where what the disk stands for between them was there before
pub disk_then : (a b e : Disk) (old mid new : TheDaemon) → ((x : Image) → StandsForDaemon mid x → StandsForDaemon old x)
    → KeepsDisk a b old mid → KeepsDisk b e mid new → KeepsDisk a e old new
disk_then a b e old mid new between first second = record {
  stands = second.stands;
  kept = λ holds. second.kept (first.kept holds);
  component = second.component ∙ first.component;
  any_moment = λ holds.
      let c = old.journalled.store.component in
      let later : Works (Mine c) b e (λ x. StandsForDaemon mid x ⊎ StandsForDaemon new x) =
      subst (λ (n : ℕ). Works (Mine n) b e (λ x. StandsForDaemon mid x ⊎ StandsForDaemon new x)) first.component (second.any_moment (first.kept holds)) in
      and_then (Mine c) a b e (λ x. StandsForDaemon old x ⊎ StandsForDaemon new x)
      (weaker (Mine c) a b (λ x. StandsForDaemon old x ⊎ StandsForDaemon mid x) (λ x. StandsForDaemon old x ⊎ StandsForDaemon new x) (first.any_moment holds)
      (λ x either. ⊎_elim (λ is. inl is) (λ is. inl (between x is)) either))
      (weaker (Mine c) b e (λ x. StandsForDaemon mid x ⊎ StandsForDaemon new x) (λ x. StandsForDaemon old x ⊎ StandsForDaemon new x) later
      (λ x either. ⊎_elim (λ is. inl (between x is)) (λ is. inr is) either));
}

-- what became of a step that was journalled: it is done, or in doubt
abbrev pub DoneOrDoubtful : TheDaemon → TheDaemon → DaemonRecord → Type 0
DoneOrDoubtful old new r =
    ((tables_of new.journalled.tables ≡ after_record (tables_of old.journalled.tables) r) × (doubt_of new ≡ None))
    ⊎ ((tables_of new.journalled.tables ≡ tables_of old.journalled.tables) × (doubt_of new ≡ Some r))

either_daemon : (old new : TheDaemon) (r : DaemonRecord) → doubt_of old ≡ None → new.journalled.store.component ≡ old.journalled.store.component
    → DoneOrDoubtful old new r → (x : Image)
    → EitherTables old.journalled.store.component (tables_of old.journalled.tables) (after_record (tables_of old.journalled.tables) r) x
    → StandsForDaemon old x ⊎ StandsForDaemon new x
either_daemon old new r none same became x (inl before) =
    let c = old.journalled.store.component in
    let t = tables_of old.journalled.tables in
    inl (stands_alike c c t t None (doubt_of old) x refl refl none (false, before))
either_daemon old new r none same (inl done) x (inr after) =
    let c = old.journalled.store.component in
    let t = after_record (tables_of old.journalled.tables) r in
    inr (stands_alike c new.journalled.store.component t (tables_of new.journalled.tables) None (doubt_of new) x same done.0 done.1 (false, after))
either_daemon old new r none same (inr doubtful) x (inr after) =
    let c = old.journalled.store.component in
    let t = tables_of old.journalled.tables in
    inr (stands_alike c new.journalled.store.component t (tables_of new.journalled.tables) (Some r) (doubt_of new) x same doubtful.0 doubtful.1 (true, after))

-- a step is journalled
pub disk_stepped : (a b : Disk) (old new : TheDaemon) (r : DaemonRecord) → doubt_of old ≡ None → Stands b new → (OnDisk a old.journalled → OnDisk b new.journalled)
    → new.journalled.store.component ≡ old.journalled.store.component
    → (OnDisk a old.journalled → Works (Mine old.journalled.store.component) a b
    (EitherTables old.journalled.store.component (tables_of old.journalled.tables) (after_record (tables_of old.journalled.tables) r)))
    → DoneOrDoubtful old new r → KeepsDisk a b old new
disk_stepped a b old new r none stands kept same works became = record {
  stands = stands;
  kept = kept;
  component = same;
  any_moment = λ holds.
      weaker (Mine old.journalled.store.component) a b
      (EitherTables old.journalled.store.component (tables_of old.journalled.tables) (after_record (tables_of old.journalled.tables) r))
      (λ x. StandsForDaemon old x ⊎ StandsForDaemon new x) (works holds) (either_daemon old new r none same became);
}
