-- Calls that change nothing, and what they find out after a checkpoint that failed.
use Rattle.std.proofs.Common.{◌≡◌, inl, inr, ⊎_elim, ℕ, ◌+◌, List, [], Bool, true, false, refl, sym, ◌∙◌, subst, arith}
use Rattle.std.proofs.lemmas.Bool.{cases_eq}
use Rattle.std.proofs.lemmas.List.{append-nil}
use Rattle.std.specs.Prelude.{⊤}
use Rattle.dm_host.specs.Disk.{Disk, Image, Only, Same}
use Rattle.dm_host.specs.Works.{Works, File, Here, Follows}
use Rattle.dm_host.proofs.Moments.{weaker, wider, and_then, fewer_after, still_told}
use Rattle.dm_journal.specs.Grammar.{AtRest, Pends}
use Rattle.dm_ckpt.specs.declared.files.Index.{Index}
use Rattle.dm_ckpt.specs.declared.doubt.Doubt.{Doubt}
use Rattle.dm_ckpt.specs.declared.doubt.Doubt.TheVariants.{Sure, Payload, Closing, Turning}
use Rattle.dm_ckpt.specs.Area.{IsShut, HoldsRows}
use Rattle.dm_ckpt.specs.Files.{opposite, area_file, log_file, Mine, Other, TellsMine, Unchanged}
use Rattle.dm_ckpt.specs.State.{At, at, IsBehind, Leaves, Lists, Keeps, Closes, Replaces, turned, list_turned, with_doubt, Stands, LogAt, LogDoubtful, LogsAt, StandsFor, Either, EmptyLog}
use Rattle.dm_ckpt.specs.Survey.{HoldsIf}
use Rattle.dm_ckpt.proofs.Four.{area_mine, log_mine, one_of, leaves_less, log_apart, logs_apart}
use Rattle.dm_ckpt.proofs.Told.{was_told}
use Rattle.dm_ckpt.proofs.Standing.{old_stands, overtaken, turned_round}

-- a call that changes nothing on one of the files
pub unchanged_one : (c f : ℕ) → Mine c f → (a b : Disk) → Works (File f) a b (Follows Same f a) → b.seen f ≡ a.seen f → Unchanged c a b
unchanged_one c f mine a b w same = record {
  works = wider (File f) (Mine c) a b (Follows Same f a) (Here (Mine c) a) w (one_of c f mine) (λ x follows elsewhere g is. each x follows elsewhere g is);
  seen = λ g is. elim (cases_eq g f) [
    | inl here ↦ subst (λ (h : ℕ). b.seen h ≡ a.seen h) (sym here) same
    | inr apart ↦ (w.others g apart).seen
  ];
  left = λ g l is left. elim (cases_eq g f) [
    | inl here ↦ subst (λ (h : ℕ). a.may_leave h l) (sym here) (fewer_after f a b w l (subst (λ (h : ℕ). b.may_leave h l) here left))
    | inr apart ↦ (w.others g apart).fewer l left
  ];
}
  where
    each : (x : Image) → Follows Same f a x → ((g : ℕ) → (File f g → ⊥) → Mine c g → a.may_leave g (x g)) → (g : ℕ) → Mine c g → a.may_leave g (x g)
    each x follows elsewhere g is = elim (cases_eq g f) [
      | inl here ↦ subst (λ (h : ℕ). a.may_leave h (x h)) (sym here) (subst (λ (l : List ℕ). a.may_leave f l) (sym follows.2) follows.1)
      | inr apart ↦ elsewhere g apart is
    ]

pub unchanged_none : (c : ℕ) (a : Disk) → Unchanged c a a
unchanged_none c a = record {
  works = record {
    told = refl;
    others = λ g not. record { seen = refl; fewer = λ l left. left; more = λ l left. left };
    now = λ x here. here;
    later = omega arith;
    moments = λ t x le left. inl left;
    keeps = λ t x le left. left;
  };
  seen = λ g is. refl;
  left = λ g l is left. left;
}

pub unchanged_then : (c : ℕ) (a b d : Disk) → Unchanged c a b → Unchanged c b d → Unchanged c a d
unchanged_then c a b d first second = record {
  works = and_then (Mine c) a b d (Here (Mine c) a) first.works
      (weaker (Mine c) b d (Here (Mine c) b) (Here (Mine c) a) second.works (λ x here g is. first.left g (x g) is (here g is)));
  seen = λ g is. second.seen g is ∙ first.seen g is;
  left = λ g l is left. first.left g l is (second.left g l is left);
}

pub unchanged_told : (c : ℕ) (a b : Disk) → Unchanged c a b → TellsMine a c → TellsMine b c
unchanged_told c a b u told g mine = still_told (Mine c) a b _ u.works g (told g mine)

-- what is known of the files stays known
pub unchanged_leaves : (c : ℕ) (i : Index) (a b : Disk) (P Q R S : List ℕ → Type 0) → Unchanged c a b → Leaves a c i P Q R S → Leaves b c i P Q R S
unchanged_leaves c i a b P Q R S u l = record {
  told = unchanged_told c a b u l.told;
  area = subst P (sym (u.seen (area_file c i) (area_mine c i))) l.area;
  area_left = λ x left. l.area_left x (u.left (area_file c i) x (area_mine c i) left);
  behind = subst Q (sym (u.seen (area_file c (opposite i)) (area_mine c (opposite i)))) l.behind;
  behind_left = λ x left. l.behind_left x (u.left (area_file c (opposite i)) x (area_mine c (opposite i)) left);
  log = subst R (sym (u.seen (log_file c i) (log_mine c i))) l.log;
  log_left = λ x left. l.log_left x (u.left (log_file c i) x (log_mine c i) left);
  spare = subst S (sym (u.seen (log_file c (opposite i)) (log_mine c (opposite i)))) l.spare;
  spare_left = λ x left. l.spare_left x (u.left (log_file c (opposite i)) x (log_mine c (opposite i)) left);
}

pub closes_still : (c : ℕ) (i : Index) (g p : ℕ) (ps : List (List ℕ)) (a b : Disk) → Unchanged c a b → Closes a (at c i g p Closing) ps → Closes b (at c i g p Closing) ps
closes_still c i g p ps a b u k = record { doubt = refl; lists = k.lists; left = unchanged_leaves c i a b _ _ _ _ u k.left }

pub replaces_still : (c : ℕ) (i : Index) (g p : ℕ) (ps qs : List (List ℕ)) (a b : Disk) → Unchanged c a b → Replaces a (at c i g p Turning) ps qs
    → Replaces b (at c i g p Turning) ps qs
replaces_still c i g p ps qs a b u k = record { doubt = refl; lists = k.lists; left = unchanged_leaves c i a b _ _ _ _ u k.left }

-- what is synced is exact
exact : (c : ℕ) (i : Index) (d : Disk) (P Q R S : List ℕ → Type 0) → Leaves d c i P Q R S → Only (d.seen (area_file c (opposite i))) (d.may_leave (area_file c (opposite i)))
    → Leaves d c i P (λ l. l ≡ d.seen (area_file c (opposite i))) R S
exact c i d P Q R S l only = record {
  told = l.told;
  area = l.area;
  area_left = l.area_left;
  behind = refl;
  behind_left = only;
  log = l.log;
  log_left = l.log_left;
  spare = l.spare;
  spare_left = l.spare_left;
}

-- the other area is behind: the list is the one before
kept_before : (c : ℕ) (i : Index) (g p : ℕ) (ps : List (List ℕ)) (d : Disk) (l : Lists i g p ps) (Q S : List ℕ → Type 0)
    → Leaves d c i (λ x. x ≡ l.bytes) Q (AtRest l.logged) S → IsBehind g (d.seen (area_file c (opposite i)))
    → Only (d.seen (area_file c (opposite i))) (d.may_leave (area_file c (opposite i))) → Keeps d (at c i g p Sure) ps
kept_before c i g p ps d l Q S leaves behind only = record {
  sure = refl;
  lists = l;
  other = d.seen (area_file c (opposite i));
  behind = behind;
  left = leaves_less c i d d _ _ _ _ (exact c i d _ _ _ _ leaves only) (λ x. x ≡ l.bytes) (λ x. x ≡ d.seen (area_file c (opposite i))) (AtRest l.logged) (λ x. ⊤)
      (λ x s. s) (λ x s. s) (λ x s. s) (λ x s. tt);
}

pub closing_settled : (c : ℕ) (i : Index) (g p : ℕ) (ps : List (List ℕ)) (a b : Disk) → Unchanged c a b → Only (b.seen (area_file c (opposite i))) (b.may_leave (area_file c (opposite i)))
    → Closes a (at c i g p Closing) ps → Keeps b (at c i g p Sure) ps
closing_settled c i g p ps a b u only k =
    let now = unchanged_leaves c i a b _ _ _ _ u k.left in
    kept_before c i g p ps b k.lists _ _ now now.behind only

-- the other area is open: the list is that of the checkpoint
kept_after : (c : ℕ) (i : Index) (g p : ℕ) (ps qs : List (List ℕ)) (d : Disk) (l : Lists i g p ps) (Q : List ℕ → Type 0)
    → Leaves d c i (λ x. x ≡ l.bytes) Q (AtRest l.logged) (AtRest []) → HoldsRows (g + 1) qs (d.seen (area_file c (opposite i)))
    → Only (d.seen (area_file c (opposite i))) (d.may_leave (area_file c (opposite i))) → Keeps d (at c (opposite i) (g + 1) 0 Sure) qs
kept_after c i g p ps qs d l Q leaves holds only = record {
  sure = refl;
  lists = record {
    rows = qs;
    logged = [];
    is = sym (append-nil qs);
    bytes = d.seen (area_file c (opposite i));
    in_use = inl holds;
    fits = tt;
    reached = refl;
  };
  other = l.bytes;
  behind = overtaken i g l.rows l.bytes l.in_use;
  left = leaves_less c (opposite i) d d _ _ _ _ (turned_round d c i _ _ _ _ (exact c i d _ _ _ _ leaves only))
      (λ x. x ≡ d.seen (area_file c (opposite i))) (λ x. x ≡ l.bytes) (AtRest []) (λ x. ⊤) (λ x s. s) (λ x s. s) (λ x s. s) (λ x s. tt);
}

pub turning_settled : (c : ℕ) (i : Index) (g p : ℕ) (ps qs : List (List ℕ)) (a b : Disk) → Unchanged c a b
    → Only (b.seen (area_file c (opposite i))) (b.may_leave (area_file c (opposite i))) → Replaces a (at c i g p Turning) ps qs → (is : Bool)
    → HoldsIf is (g + 1) qs (a.seen (area_file c (opposite i))) → Keeps b (turned is (at c i g p Turning)) (list_turned is ps qs)
turning_settled c i g p ps qs a b u only k true holds =
    let same = sym (u.seen (area_file c (opposite i)) (area_mine c (opposite i))) in
    kept_after c i g p ps qs b k.lists _ (unchanged_leaves c i a b _ _ _ _ u k.left) (subst (λ (l : List ℕ). HoldsRows (g + 1) qs l) same holds) only
turning_settled c i g p ps qs a b u only k false shut =
    let same = sym (u.seen (area_file c (opposite i)) (area_mine c (opposite i))) in
    kept_before c i g p ps b k.lists _ _ (unchanged_leaves c i a b _ _ _ _ u k.left) (inl (subst (λ (l : List ℕ). IsShut l) same shut)) only

-- a work on one of the files, as one on all of them
pub quiet_one : (c f : ℕ) → Mine c f → (a b : Disk) → Works (File f) a b (Follows Same f a) → Works (Mine c) a b (Here (Mine c) a)
quiet_one c f mine a b w = wider (File f) (Mine c) a b (Follows Same f a) (Here (Mine c) a) w (one_of c f mine) (λ x follows elsewhere g is. each x follows elsewhere g is)
  where
    each : (x : Image) → Follows Same f a x → ((g : ℕ) → (File f g → ⊥) → Mine c g → a.may_leave g (x g)) → (g : ℕ) → Mine c g → a.may_leave g (x g)
    each x follows elsewhere g is = elim (cases_eq g f) [
      | inl here ↦ subst (λ (h : ℕ). a.may_leave h (x h)) (sym here) (subst (λ (l : List ℕ). a.may_leave f l) (sym follows.2) follows.1)
      | inr apart ↦ elsewhere g apart is
    ]

pub mine_alone : (c f : ℕ) → Mine c f → (a b : Disk) (P : Image → Type 0) → Works (File f) a b P → Works (Mine c) a b (λ x. ⊤)
mine_alone c f mine a b P w = wider (File f) (Mine c) a b P (λ x. ⊤) w (one_of c f mine) (λ x p e. tt)

pub others_alone : (c : ℕ) (i : Index) (a b : Disk) → Works (Other c i) a b (λ x. ⊤) → Works (Mine c) a b (λ x. ⊤)
others_alone c i a b w = wider (Other c i) (Mine c) a b (λ x. ⊤) (λ x. ⊤) w
    (λ g is. ⊎_elim (λ area. one_of c (area_file c (opposite i)) (area_mine c (opposite i)) g area) (λ log. one_of c (log_file c (opposite i)) (log_mine c (opposite i)) g log) is)
    (λ x p e. tt)

-- a store that keeps a list isn't in doubt
pub resettled : (d : Disk) (s : At) (ps : List (List ℕ)) → Keeps d s ps → Keeps d (with_doubt s Sure) ps
resettled d s ps k = subst (λ (x : Doubt). Keeps d (with_doubt s x) ps) k.sure k

pub redoubted : (d : Disk) (s : At) (x : Doubt) → s.doubt ≡ x → Stands d s → Stands d (with_doubt s x)
redoubted d s x is stands = subst (λ (y : Doubt). Stands d (with_doubt s y)) is stands

log_at_still : (c : ℕ) (i : Index) (p : ℕ) (a b : Disk) → Unchanged c a b → LogAt a c i p → LogAt b c i p
log_at_still c i p a b u at told =
    let f = log_file c i in
    let before = at (was_told (Mine c) a b _ u.works f told) in
    let k = before.1 in (
      before.0,
      record {
        told = told;
        settled = k.settled;
        place = k.place;
        fits = k.fits;
        seen = subst (λ (l : List ℕ). AtRest before.0 l) (sym (u.seen f (log_mine c i))) k.seen;
        left = λ l left. k.left l (u.left f l (log_mine c i) left);
      },
    )

log_doubtful_still : (c : ℕ) (i : Index) (p n : ℕ) (a b : Disk) → Unchanged c a b → LogDoubtful a c i p n → LogDoubtful b c i p n
log_doubtful_still c i p n a b u at told =
    let f = log_file c i in
    let before = at (was_told (Mine c) a b _ u.works f told) in
    let k = before.1.1 in (
      before.0,
      (
        before.1.0,
        record {
          told = told;
          doubt = k.doubt;
          place = k.place;
          fits = k.fits;
          payload_fits = k.payload_fits;
          seen = subst (λ (l : List ℕ). Pends before.0 before.1.0 l) (sym (u.seen f (log_mine c i))) k.seen;
          left = λ l left. k.left l (u.left f l (log_mine c i) left);
        },
      ),
    )

logs_still : (c : ℕ) (i : Index) (p : ℕ) (x : Doubt) (a b : Disk) → Unchanged c a b → LogsAt a c i p x → LogsAt b c i p x
logs_still c i p Sure a b u at = log_at_still c i p a b u at
logs_still c i p (Payload n) a b u at = log_doubtful_still c i p n a b u at
logs_still c i p Closing a b u at = log_at_still c i p a b u at
logs_still c i p Turning a b u at = (log_at_still c i p a b u at.0, log_at_still c (opposite i) 0 a b u at.1)

pub stands_still : (s : At) (a b : Disk) → Unchanged s.component a b → Stands a s → Stands b s
stands_still s a b u stands = logs_still s.component s.index s.place s.doubt a b u stands

-- the logs behind the turn that a heal found, and behind one that is sure again
pub stands_turned : (s : At) (is : Bool) (a b : Disk) → Unchanged s.component a b → Stands a (with_doubt s Turning) → Stands b (turned is (with_doubt s Turning))
stands_turned s true a b u stands = log_at_still s.component (opposite s.index) 0 a b u stands.1
stands_turned s false a b u stands = log_at_still s.component s.index s.place a b u stands.0

pub stands_closed : (s : At) (a b : Disk) → Unchanged s.component a b → Stands a (with_doubt s Closing) → Stands b (with_doubt s Sure)
stands_closed s a b u stands = log_at_still s.component s.index s.place a b u stands

-- what each crash leaves of a store that keeps a list
pub keeps_stand : (d : Disk) (s : At) (ps : List (List ℕ)) → Keeps d s ps → (x : Image) → Here (Mine s.component) d x → StandsFor s.component ps x
keeps_stand d s ps k x here =
    let c = s.component in
    let i = s.index in
    let f = area_file c (opposite i) in
    old_stands c i s.generation s.place ps k.lists x (k.left.area_left (x (area_file c i)) (here (area_file c i) (area_mine c i)))
    (subst (λ (l : List ℕ). IsBehind s.generation l) (sym (k.left.behind_left (x f) (here f (area_mine c (opposite i))))) k.behind)
    (k.left.log_left (x (log_file c i)) (here (log_file c i) (log_mine c i)))

-- nothing was done
pub idle_moments : (d : Disk) (s : At) (ps qs : List (List ℕ)) → Keeps d s ps → Works (Mine s.component) d d (Either s.component ps qs)
idle_moments d s ps qs k = weaker (Mine s.component) d d _ (Either s.component ps qs) (unchanged_none s.component d).works (λ x here. inl (keeps_stand d s ps k x here))

pub first_of_either : (c : ℕ) (ps qs : List (List ℕ)) (a b : Disk) → Works (Mine c) a b (StandsFor c ps) → Works (Mine c) a b (Either c ps qs)
first_of_either c ps qs a b w = weaker (Mine c) a b (StandsFor c ps) (Either c ps qs) w (λ x stands. inl stands)

not_other : (c : ℕ) (i : Index) → Other c i (log_file c i) → ⊥
not_other c i (inl area) = log_apart c (opposite i) i (sym area)
not_other c i (inr log) = logs_apart c i log

log_beside : (c : ℕ) (i : Index) (p : ℕ) (mine : ℕ → Type 0) (a b : Disk) (Q : Image → Type 0) → (mine (log_file c i) → ⊥) → Works mine a b Q → LogAt a c i p → LogAt b c i p
log_beside c i p mine a b Q apart w at told =
    let f = log_file c i in
    let before = at (was_told mine a b Q w f told) in
    let k = before.1 in
    let stays = w.others f apart in (
      before.0,
      record {
        told = told;
        settled = k.settled;
        place = k.place;
        fits = k.fits;
        seen = subst (λ (l : List ℕ). AtRest before.0 l) (sym stays.seen) k.seen;
        left = λ l left. k.left l (stays.fewer l left);
      },
    )

-- the logs after the first two steps of a checkpoint
pub log_in_use_kept : (c : ℕ) (i : Index) (p : ℕ) (a b : Disk) → Works (Other c i) a b (λ x. ⊤) → LogAt a c i p → LogAt b c i p
log_in_use_kept c i p a b w at = log_beside c i p (Other c i) a b _ (not_other c i) w at

pub log_emptied : (c : ℕ) (i : Index) (d : Disk) → EmptyLog d (log_file c i) → LogAt d c i 0
log_emptied c i d e told = ([], record { told = told; settled = refl; place = refl; fits = tt; seen = e.seen told; left = e.left told })

-- and after the last two
pub log_kept_beside : (c : ℕ) (i j : Index) (p : ℕ) (a b : Disk) → Works (File (area_file c i)) a b (λ x. ⊤) → LogAt a c j p → LogAt b c j p
log_kept_beside c i j p a b w at = log_beside c j p (File (area_file c i)) a b _ (λ e. log_apart c i j (sym e)) w at

pub area_alone : (c : ℕ) (i : Index) (a b d : Disk) → Works (Other c i) a b (λ x. ⊤) → Works (File (area_file c (opposite i))) b d (λ x. ⊤) → Works (Mine c) a d (λ x. ⊤)
area_alone c i a b d first second = and_then (Mine c) a b d (λ x. ⊤) (others_alone c i a b first)
    (mine_alone c (area_file c (opposite i)) (area_mine c (opposite i)) b d (λ x. ⊤) second)
