-- Which area is in use, and where a load begins.
use Rattle.std.proofs.Common.{◌≡◌, ◌≢◌, ◌==◌, inl, inr, ⊎_elim, ℕ, ◌+◌, ◌<◌, List, [], length, Bool, true, false, refl, sym, ◌∙◌, ap, subst, arith}
use Rattle.std.specs.Prelude.{⊤, if◌then◌else◌}
use Rattle.std.proofs.lemmas.Bool.{cases_eq}
use Rattle.std.proofs.lemmas.Bool.Decides.{nat_tests}
use Rattle.dm_host.specs.Disk.{Disk, Image, Only}
use Rattle.dm_host.specs.Works.{Works, File, Here, Follows}
use Rattle.dm_host.proofs.Moments.{weaker, wider, and_then}
use Rattle.dm_journal.specs.Grammar.{StandsFor as LogStandsFor}
use Rattle.dm_journal.specs.Load.{Reading as LogReading, Reopens, opened, loading_at}
use Rattle.dm_journal.proofs.Unique.{opened_rests, reopened_stands}
use Rattle.dm_ckpt.specs.declared.files.Index.{Index}
use Rattle.dm_ckpt.specs.declared.files.Index.TheVariants.{First, Second}
use Rattle.dm_ckpt.specs.declared.opening.Origin.{Origin}
use Rattle.dm_ckpt.specs.declared.opening.Choice.{Choice}
use Rattle.dm_ckpt.specs.declared.opening.Choice.TheVariants.{Broken}
use Rattle.dm_ckpt.specs.declared.survey.Area.{Area}
use Rattle.dm_ckpt.specs.declared.survey.Found.{Found}
use Rattle.dm_ckpt.specs.declared.survey.Found.TheVariants.{Shut, Wrong, Open}
use Rattle.dm_ckpt.specs.Area.{body, IsShut, HoldsRows, Holds, IsDamaged, SameGeneration}
use Rattle.dm_ckpt.specs.Files.{area_file, log_file, opposite, Mine, TellsMine, Unchanged}
use Rattle.dm_ckpt.specs.State.{InUse, InUseIf, IsBehind}
use Rattle.dm_ckpt.specs.Load.{Reading, Retells, IsDamagedArea}
use Rattle.dm_ckpt.specs.Opening.{Reads, ReadsIn, Chooses, AreasSynced, load_at, Means}
use Rattle.dm_ckpt.specs.Survey.{Surveys}
use Rattle.dm_ckpt.proofs.Four.{area_mine, log_mine, one_of, log_apart, mine_told}
use Rattle.dm_ckpt.proofs.Gates.{shut_or_holds}
use Rattle.dm_ckpt.proofs.Headers.{says_once, says_holds}
use Rattle.dm_ckpt.proofs.Settling.{unchanged_told}

pub holds_found : (found : Found) (file : List ℕ) → Surveys found file → (found ≡ Wrong → ⊥) → Holds file
holds_found Shut file s not = inl s
holds_found Wrong file s not = absurd (not refl)
holds_found (Open area) file s not = inr (area.generation, (s.0, s.1.0))

-- two open areas
pub same_generation : (a b : Area) (x y : List ℕ) → a.generation ≡ b.generation → Surveys (Open a) x → Surveys (Open b) y → SameGeneration x y
same_generation a b x y same s t = record {
  generation = a.generation;
  rows = s.0;
  others = t.0;
  first_holds = s.1.0;
  second_holds = subst (λ (g : ℕ). HoldsRows g t.0 y) (sym same) t.1.0;
}

pub reads_greater : (o : Origin) (a b : Area) (x y : List ℕ) → o.has_area ≡ true → o.generation ≡ a.generation → o.size ≡ a.size → b.generation < a.generation
    → Surveys (Open a) x → Surveys (Open b) y → Reads o x y
reads_greater o a b x y area generation size less s t = record {
  rows = s.0;
  in_use = subst (λ (h : Bool). InUseIf h o.index o.generation s.0 x) (sym area) (subst (λ (g : ℕ). HoldsRows g s.0 x) (sym generation) s.1.0);
  size = size ∙ s.1.1;
  behind = inr (b.generation, (t.0, (t.1.0, omega (arith, generation, less))));
}

pub reads_one : (o : Origin) (a : Area) (x y : List ℕ) → o.has_area ≡ true → o.generation ≡ a.generation → o.size ≡ a.size
    → Surveys (Open a) x → IsShut y → Reads o x y
reads_one o a x y area generation size s shut = record {
  rows = s.0;
  in_use = subst (λ (h : Bool). InUseIf h o.index o.generation s.0 x) (sym area) (subst (λ (g : ℕ). HoldsRows g s.0 x) (sym generation) s.1.0);
  size = size ∙ s.1.1;
  behind = inl shut;
}

pub reads_none : (o : Origin) (x y : List ℕ) → o.index ≡ First → o.has_area ≡ false → o.generation ≡ 0 → o.size ≡ 0 → IsShut x → IsShut y → Reads o x y
reads_none o x y index area generation size shut other = record {
  rows = [];
  in_use = subst (λ (h : Bool). InUseIf h o.index o.generation [] x) (sym area) (shut, (index, (generation, refl)));
  size = size;
  behind = inl other;
}

pub reads_in_first : (o : Origin) (x y : List ℕ) → o.index ≡ First → Reads o x y → ReadsIn o.index o x y
reads_in_first o x y index r = subst (λ (i : Index). ReadsIn i o x y) (sym index) r

pub reads_in_second : (o : Origin) (x y : List ℕ) → o.index ≡ Second → Reads o y x → ReadsIn o.index o x y
reads_in_second o x y index r = subst (λ (i : Index). ReadsIn i o x y) (sym index) r

-- in terms of the files
pub reads_files : (c : ℕ) (i : Index) (o : Origin) (x : Image) → ReadsIn i o (x (area_file c First)) (x (area_file c Second)) → Reads o (x (area_file c i)) (x (area_file c (opposite i)))
reads_files c First o x r = r
reads_files c Second o x r = r

pub damaged_files : (c : ℕ) (i : Index) (x : Image) → Chooses (Broken i) (x (area_file c First)) (x (area_file c Second)) → IsDamagedArea c (area_file c i) x
damaged_files c First x d = inl (refl, d)
damaged_files c Second x d = inr (refl, d)

pub only_area : (c : ℕ) (i : Index) (d : Disk) → AreasSynced d c → Only (d.seen (area_file c i)) (d.may_leave (area_file c i))
only_area c First d s = s.first
only_area c Second d s = s.second

pub in_use_if : (b : Bool) (i : Index) (g : ℕ) (rows : List (List ℕ)) (area : List ℕ) → InUseIf b i g rows area → InUse i g rows area
in_use_if true i g rows area u = inl u
in_use_if false i g rows area u = inr u

-- a load at its beginning
pub begins_reading : (c : ℕ) (o : Origin) (end : ℕ) (a b : Disk) → TellsMine b c → Reads o (b.seen (area_file c o.index)) (b.seen (area_file c (opposite o.index))) → AreasSynced b c
    → LogReading b (loading_at (log_file c o.index) 0 0 end) [] → Reading b (load_at c o end) []
begins_reading c o end a b told r synced log = record {
  told = told;
  rows = [];
  rows_left = r.rows;
  logged = [];
  is = refl;
  turn = inr refl;
  in_use = r.in_use;
  synced = only_area c o.index b synced;
  at_row = refl;
  at_row_end = ap (λ (n : ℕ). 17 + n) r.size;
  behind = r.behind;
  behind_synced = only_area c (opposite o.index) b synced;
  log = log;
}

-- what a load reopens stands for the same
pub means_opened : (c : ℕ) (i : Index) (old new : Image) → ((g : ℕ) → (g ≡ log_file c i → ⊥) → Mine c g → new g ≡ old g) → new (log_file c i) ≡ opened (old (log_file c i)) → Means c old new
means_opened c i old new others log ps s = record {
  index = s.index;
  generation = s.generation;
  rows = s.rows;
  logged = s.logged;
  is = s.is;
  in_use = subst (λ (l : List ℕ). InUse s.index s.generation s.rows l) (sym (area s.index)) s.in_use;
  behind = subst (λ (l : List ℕ). IsBehind s.generation l) (sym (area (opposite s.index))) s.behind;
  log = elim (cases_eq (log_file c s.index) (log_file c i)) [
    | inl here ↦
        subst (λ (f : ℕ). LogStandsFor s.logged (new f)) (sym here)
        (subst (λ (l : List ℕ). LogStandsFor s.logged l) (sym log)
        (s.log.0, inr (opened_rests s.logged (old (log_file c i)) (subst (λ (f : ℕ). LogStandsFor s.logged (old f)) here s.log))))
    | inr apart ↦ subst (λ (l : List ℕ). LogStandsFor s.logged l) (sym (others (log_file c s.index) apart (log_mine c s.index))) s.log
  ];
}
  where
    area : (j : Index) → new (area_file c j) ≡ old (area_file c j)
    area j = others (area_file c j) (log_apart c j i) (area_mine c j)

pub means_same : (c : ℕ) (old new : Image) → ((g : ℕ) → Mine c g → new g ≡ old g) → Means c old new
means_same c old new same ps s = record {
  index = s.index;
  generation = s.generation;
  rows = s.rows;
  logged = s.logged;
  is = s.is;
  in_use = subst (λ (l : List ℕ). InUse s.index s.generation s.rows l) (sym (same (area_file c s.index) (area_mine c s.index))) s.in_use;
  behind = subst (λ (l : List ℕ). IsBehind s.generation l) (sym (same (area_file c (opposite s.index)) (area_mine c (opposite s.index)))) s.behind;
  log = subst (λ (l : List ℕ). LogStandsFor s.logged l) (sym (same (log_file c s.index) (log_mine c s.index))) s.log;
}

-- an image with another file
abbrev put : ℕ → List ℕ → Image → Image
put f l x g = if g == f then l else x g

put_here : (f : ℕ) (l : List ℕ) (x : Image) (g : ℕ) → g ≡ f → put f l x g ≡ l
put_here f l x g is = grind (arith, nat_tests)

put_beside : (f : ℕ) (l : List ℕ) (x : Image) (g : ℕ) → g ≢ f → put f l x g ≡ x g
put_beside f l x g apart = grind (arith, nat_tests)

-- at each moment while a log is opened
pub retells_opened : (c : ℕ) (i : Index) (a b : Disk) → Works (File (log_file c i)) a b (Follows Reopens (log_file c i) a) → Works (Mine c) a b (Retells c a)
retells_opened c i a b w = wider (File (log_file c i)) (Mine c) a b (Follows Reopens (log_file c i) a) (Retells c a) w (one_of c (log_file c i) (log_mine c i)) tells
  where
    before : (x : Image) (l : List ℕ) → a.may_leave (log_file c i) l → ((g : ℕ) → (File (log_file c i) g → ⊥) → Mine c g → a.may_leave g (x g)) → Here (Mine c) a (put (log_file c i) l x)
    before x l left elsewhere g mine = elim (cases_eq g (log_file c i)) [
      | inl here ↦ subst (λ (m : List ℕ). a.may_leave g m) (sym (put_here (log_file c i) l x g here)) (subst (λ (h : ℕ). a.may_leave h l) (sym here) left)
      | inr apart ↦ subst (λ (m : List ℕ). a.may_leave g m) (sym (put_beside (log_file c i) l x g apart)) (elsewhere g apart mine)
    ]

    tells : (x : Image) → Follows Reopens (log_file c i) a x → ((g : ℕ) → (File (log_file c i) g → ⊥) → Mine c g → a.may_leave g (x g)) → Retells c a x
    tells x follows elsewhere ps each =
        let y = put (log_file c i) follows.0 x in
        let s = each y (before x follows.0 follows.1 elsewhere) in
        let area : (j : Index) → x (area_file c j) ≡ y (area_file c j) = λ j. sym (put_beside (log_file c i) follows.0 x (area_file c j) (log_apart c j i)) in
        record {
          index = s.index;
          generation = s.generation;
          rows = s.rows;
          logged = s.logged;
          is = s.is;
          in_use = subst (λ (l : List ℕ). InUse s.index s.generation s.rows l) (sym (area s.index)) s.in_use;
          behind = subst (λ (l : List ℕ). IsBehind s.generation l) (sym (area (opposite s.index))) s.behind;
          log = elim (cases_eq (log_file c s.index) (log_file c i)) [
            | inl here ↦
                subst (λ (h : ℕ). LogStandsFor s.logged (x h)) (sym here)
                (reopened_stands s.logged follows.0 (x (log_file c i)) follows.2
                (subst (λ (l : List ℕ). LogStandsFor s.logged l) (put_here (log_file c i) follows.0 x (log_file c i) refl) (subst (λ (h : ℕ). LogStandsFor s.logged (y h)) here s.log)))
            | inr apart ↦ subst (λ (l : List ℕ). LogStandsFor s.logged l) (put_beside (log_file c i) follows.0 x (log_file c s.index) apart) s.log
          ];
        }

pub retells_still : (c : ℕ) (a b : Disk) → Unchanged c a b → Works (Mine c) a b (Retells c a)
retells_still c a b u = weaker (Mine c) a b (Here (Mine c) a) (Retells c a) u.works (λ x here ps each. each x here)

-- a run that changes nothing, and then such a moment
pub retells_after : (c : ℕ) (a b d : Disk) → Unchanged c a b → Works (Mine c) b d (Retells c b) → Works (Mine c) a d (Retells c a)
retells_after c a b d u w = and_then (Mine c) a b d (Retells c a) (retells_still c a b u)
    (weaker (Mine c) b d (Retells c b) (Retells c a) w (λ x tells ps each. tells ps (λ y here. each y (λ g mine. u.left g (y g) mine (here g mine)))))

pub synced_still : (c : ℕ) (a b : Disk) → Unchanged c a b → AreasSynced a c → AreasSynced b c
synced_still c a b u s = record { first = still First s.first; second = still Second s.second }
  where
    still : (i : Index) → Only (a.seen (area_file c i)) (a.may_leave (area_file c i)) → Only (b.seen (area_file c i)) (b.may_leave (area_file c i))
    still i only x left = only x (u.left (area_file c i) x (area_mine c i) left) ∙ sym (u.seen (area_file c i) (area_mine c i))

-- the areas as they were read
pub chosen_before : (c : ℕ) (a b : Disk) → Unchanged c a b → (choice : Choice) → Chooses choice (b.seen (area_file c First)) (b.seen (area_file c Second))
    → Chooses choice (a.seen (area_file c First)) (a.seen (area_file c Second))
chosen_before c a b u choice chosen =
    subst (λ (x : List ℕ). Chooses choice x (a.seen (area_file c Second))) (u.seen (area_file c First) (area_mine c First))
    (subst (λ (y : List ℕ). Chooses choice (b.seen (area_file c First)) y) (u.seen (area_file c Second) (area_mine c Second)) chosen)

pub means_then : (c : ℕ) (x y z : Image) → Means c x y → Means c y z → Means c x z
means_then c x y z first second ps s = second ps (first ps s)

-- the areas and their state, once a log was opened
pub begins_after : (c : ℕ) (o : Origin) (end : ℕ) (a b d : Disk) → TellsMine a c → Unchanged c a b → ReadsIn o.index o (a.seen (area_file c First)) (a.seen (area_file c Second))
    → AreasSynced b c → Works (File (log_file c o.index)) b d (λ x. ⊤) → LogReading d (loading_at (log_file c o.index) 0 0 end) [] → Reading d (load_at c o end) []
begins_after c o end a b d told u chosen synced w log =
    let told2 : TellsMine d c = mine_told c (log_file c o.index) b d _ w (unchanged_told c a b u told) in
    let same : (i : Index) → d.seen (area_file c i) ≡ a.seen (area_file c i) = λ i. (w.others (area_file c i) (log_apart c i o.index)).seen ∙ u.seen (area_file c i) (area_mine c i) in
    let r = reads_files c o.index o a.seen chosen in
    begins_reading c o end b d told2
    (subst (λ (x : List ℕ). Reads o x (d.seen (area_file c (opposite o.index)))) (sym (same o.index))
    (subst (λ (x : List ℕ). Reads o (a.seen (area_file c o.index)) x) (sym (same (opposite o.index))) r))
    (record { first = still First synced.first; second = still Second synced.second }) log
  where
    still : (i : Index) → Only (b.seen (area_file c i)) (b.may_leave (area_file c i)) → Only (d.seen (area_file c i)) (d.may_leave (area_file c i))
    still i only x left = only x ((w.others (area_file c i) (log_apart c i o.index)).fewer x left) ∙ sym (w.others (area_file c i) (log_apart c i o.index)).seen

undamaged : (file : List ℕ) → Holds file → IsDamaged file → ⊥
undamaged file (inl shut) damage = damage.is_open shut
undamaged file (inr rows) damage = damage.none rows.0 rows.1.0 rows.1.1

holds_own : (b : Bool) (i : Index) (g : ℕ) (rows : List (List ℕ)) (area : List ℕ) → InUseIf b i g rows area → Holds area
holds_own true i g rows area u = inr (g, (rows, u))
holds_own false i g rows area u = inl u.0

holds_behind : (g : ℕ) (area : List ℕ) → IsBehind g area → Holds area
holds_behind g area (inl shut) = inl shut
holds_behind g area (inr earlier) = inr (earlier.0, (earlier.1.0, earlier.1.1.0))

-- an area has one generation
pub one_generation : (g h : ℕ) (rows more : List (List ℕ)) (area : List ℕ) → HoldsRows g rows area → HoldsRows h more area → h ≡ g
one_generation g h rows more area a b = (says_once g rows area 1 h (length (body more)) a b.number b.size (says_holds h more area b)).1.0

apart : (o : Origin) (own other : List ℕ) → Reads o own other → (g : ℕ) (rows more : List (List ℕ)) → HoldsRows g rows own → HoldsRows g more other → ⊥
apart o own other r g rows more a b = of_area o.has_area r.in_use
  where
    behind : IsBehind o.generation other → g ≡ o.generation → ⊥
    behind (inl shut) is = shut_or_holds g more other shut b
    behind (inr earlier) is = absurd (omega (arith, is, earlier.1.1.1, one_generation earlier.0 g earlier.1.0 more other earlier.1.1.0 b))

    of_area : (h : Bool) → InUseIf h o.index o.generation r.rows own → ⊥
    of_area true holds = behind r.behind (one_generation o.generation g r.rows rows own holds a)
    of_area false none = shut_or_holds g rows own none.0 a

-- areas of which one was chosen aren't damaged
pub chosen_sound : (c : ℕ) (i : Index) (o : Origin) (x : Image) → ReadsIn i o (x (area_file c First)) (x (area_file c Second)) → (f : ℕ) → IsDamagedArea c f x → ⊥
chosen_sound c First o x r f (inl first) =
    ⊎_elim (λ damage. undamaged (x (area_file c First)) (holds_own o.has_area o.index o.generation r.rows (x (area_file c First)) r.in_use) damage)
    (λ same. apart o (x (area_file c First)) (x (area_file c Second)) r same.generation same.rows same.others same.first_holds same.second_holds) first.1
chosen_sound c First o x r f (inr second) = undamaged (x (area_file c Second)) (holds_behind o.generation (x (area_file c Second)) r.behind) second.1.1
chosen_sound c Second o x r f (inl first) =
    ⊎_elim (λ damage. undamaged (x (area_file c First)) (holds_behind o.generation (x (area_file c First)) r.behind) damage)
    (λ same. apart o (x (area_file c Second)) (x (area_file c First)) r same.generation same.others same.rows same.second_holds same.first_holds) first.1
chosen_sound c Second o x r f (inr second) = undamaged (x (area_file c Second)) (holds_own o.has_area o.index o.generation r.rows (x (area_file c Second)) r.in_use) second.1.1
