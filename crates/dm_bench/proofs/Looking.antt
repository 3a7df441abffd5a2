-- Looks at components that are configured.
use Rattle.std.proofs.Common.{◌≡◌, ◌≤◌, ◌⊎◌, ◌||◌, ℕ, true, false, cond, Option, None, Some, is_some, List, [], ◌∷◌, ◌++◌, length, nat_cmp, refl, sym, ap, subst, ◌∙◌, inl, inr, ⊎_elim, lit≤}
use Rattle.std.proofs.lemmas.Bool.{or_cases, or_left, or_right, true≢false}
use Rattle.std.specs.List.{AllByRecursion, flat_map}
use Rattle.std.specs.Prelude as prelude
use Rattle.std.specs.Cmp.{nat_cmp_total}
use Rattle.std.specs.Cmp.Lexicographic.{slice_cmp}
use Rattle.dm_durable.specs.Tables.{ByNumber}
use Rattle.dm_base.specs.declared.conf.DaemonConf.{DaemonConf}
use Rattle.dm_base.specs.declared.conf.GroupConf.{GroupConf}
use Rattle.dm_model.specs.declared.state.Image.{Image}
use Rattle.dm_model.specs.Begin.{blank_images, empty_joint, new_side, new_sides}
use Rattle.std.specs.FinMap as fin
use Rattle.dm_model.specs.declared.answer.Answer.TheVariants as answer
use Rattle.dm_base.specs.declared.identifier.GroupId.{GroupId}
use Rattle.dm_model.specs.declared.call.Component.{Component}
use Rattle.dm_model.specs.declared.call.Component.TheVariants as component
use Rattle.dm_model.specs.declared.entry.HistoryEntry.{HistoryEntry}
use Rattle.dm_model.specs.declared.entry.Name.{Name}
use Rattle.dm_model.specs.declared.entry.Name.TheVariants.{Daemon, Worker, Side as SideName}
use Rattle.dm_model.specs.declared.entry.Part.TheVariants as part
use Rattle.dm_model.specs.declared.state.Joint.{Joint}
use Rattle.dm_model.specs.declared.state.Side.{Side}
use Rattle.dm_model.specs.Names.{component_name, fixed_names, is_about, same_name, side_names, workers_below}
use Rattle.dm_model.specs.Step.{Stepped, look_outcome, look_outcome_in, state_after}
use Rattle.dm_history.specs.Alike.{library_of}
use Rattle.dm_history.specs.History.{Taken, state_seen}
use Rattle.dm_history.proofs.GroupsStay.{groups_seen}
use Rattle.dm_history.proofs.NamesTold.{same_name_is, same_name_self}
use Rattle.dm_openings.specs.Openings.{IsOpening}
use Rattle.dm_spine.specs.Past.{In, union}
use Rattle.dm_spine.specs.Rule.{IsSound, joined, view, without}
use Rattle.dm_spine.specs.declared.rule.View.{View}
use Rattle.dm_spine.proofs.Lists.{in_left, in_right}
use Rattle.dm_spine.proofs.Uses.{drawn_seen, in_without}
use Rattle.dm_tables.proofs.Entries.{each-entries, entries-empty, entries-from_entries}
use Rattle.dm_tables.proofs.Orders.{numbers, tied}
use Rattle.dm_bench.specs.Drawing.{Enters, MayEnter, look_entry}
use Rattle.dm_bench.specs.Looks.{IsConfigured}
use Rattle.dm_bench.specs.Systems.{loaded_by, machine, machine_lawful}
use Rattle.dm_bench.specs.declared.system.System.{System}
use Rattle.dm_bench.proofs.Entering.{sound_fewer}

-- ---- what is configured stays so

same_library : (a b : Option Side) → library_of a ≡ library_of b → is_some a ≡ is_some b
same_library None None is = refl
same_library None (Some t) is = cc
same_library (Some s) None is = cc
same_library (Some s) (Some t) is = refl

configured_seen : (loaded j : Joint) (c : Component) (xs : List (ℕ × HistoryEntry)) → IsOpening loaded j → IsConfigured loaded c
    → IsConfigured (state_seen j xs) c
configured_seen loaded j component.Daemon xs is configured = tt
configured_seen loaded j (component.Group g) xs is configured =
    sym (groups_seen j [] xs g.0) ∙ (sym (same_library (fin.get loaded.sides g.0) (fin.get j.sides g.0) (is.libraries g.0)) ∙ configured)

-- ---- a look is taken, and changes nothing

looked_in : (k : Joint) (o : Option Side) → is_some o ≡ true → look_outcome_in k o ≡ Stepped (state_after k (look_outcome_in k o)) answer.Looked
looked_in k None is = absurd (true≢false (sym is))
looked_in k (Some s) is = refl

looked : (k : Joint) (c : Component) → IsConfigured k c → look_outcome k c ≡ Stepped (state_after k (look_outcome k c)) answer.Looked
looked k component.Daemon is = refl
looked k (component.Group g) is = looked_in k (fin.get k.sides g.0) is

about_worker : (w : ℕ) (c : Component) → is_about (look_entry w c) (Worker w) ≡ true
about_worker w c = or_right (same_name (component_name c) (Worker w)) _ (or_left (same_name (Worker w) (Worker w)) false (same_name_self (Worker w)))

look_taken : (k : Joint) (w : ℕ) (c : Component) → IsConfigured k c → Taken k (look_entry w c)
look_taken k w c is = record {
  taken = looked k c is;
  named = λ x told. ⊎_elim (λ same. subst (λ y. is_about (look_entry w c) y ≡ true) (sym same) (about_worker w c)) (λ none. absurd none) told;
  goes = tt;
}

-- it is about the component and the worker
look_about : (w : ℕ) (c : Component) (names : List Name) → In (component_name c) names → In (Worker w) names → (x : Name)
    → is_about (look_entry w c) x ≡ true → In x names
look_about w c names home worker x is =
    ⊎_elim
    (λ h. subst (λ y. In y names) (same_name_is (component_name c) x h) home)
    (λ h. ⊎_elim (λ k. subst (λ y. In y names) (sym (same_name_is x (Worker w) k)) worker) (λ none. absurd (true≢false (sym none)))
    (or_cases (same_name x (Worker w)) false h))
    (or_cases (same_name (component_name c) x) (same_name x (Worker w) || false) is)

pub look_may : (s : System) (w : ℕ) (c : Component) (v : View HistoryEntry Name) → IsSound machine s v → In (component_name c) v.keeps
    → In (Worker w) v.keeps → IsConfigured (loaded_by s).state c → MayEnter s [] (look_entry w c) v
look_may s w c v sound home worker is = record {
  sound = sound;
  keeps = look_about w c v.keeps home worker;
  taken = λ j opening. (look_taken (state_seen j v.seen) w c (configured_seen (loaded_by s).state j c v.seen opening is), tt);
  fresh = λ x made was. made;
}

-- ---- which names there are from the beginning

daemon_fixed : (j : Joint) (n : ℕ) → In Daemon (fixed_names j n)
daemon_fixed j n = inl refl

pub first_fixed : (j : Joint) (n : ℕ) → n ≡ 2 → In (Worker 0) (fixed_names j n)
first_fixed j n two = subst (λ k. In (Worker 0) (fixed_names j k)) (sym two) (inr (inl refl))

pub second_fixed : (j : Joint) (n : ℕ) → n ≡ 2 → In (Worker 1) (fixed_names j n)
second_fixed j n two = subst (λ k. In (Worker 1) (fixed_names j k)) (sym two) (inr (inr (inl refl)))

groups_among : (whole : List Name) (es : List (ℕ × Side)) → ((x : Name) → In x (flat_map (λ e. side_names e.0 e.1) es) → In x whole)
    → AllByRecursion (λ e. In (SideName (record { 0 = e.0 }) part.Itself) whole) es
groups_among whole [] has = tt
groups_among whole (e ∷ es) has = (
  has (SideName (record { 0 = e.0 }) part.Itself)
      (in_left (SideName (record { 0 = e.0 }) part.Itself) (side_names e.0 e.1) (flat_map (λ a. side_names a.0 a.1) es) (inl refl)),
  groups_among whole es (λ x h. has x (in_right x (side_names e.0 e.1) (flat_map (λ a. side_names a.0 a.1) es) h)),
)

some_of : (o : Option Side) → is_some o ≡ true → (s : Side) × (o ≡ Some s)
some_of None is = absurd (true≢false (sym is))
some_of (Some s) is = (s, refl)

pub group_fixed : (j : Joint) (n : ℕ) (g : GroupId) → is_some (fin.get j.sides g.0) ≡ true → In (SideName g part.Itself) (fixed_names j n)
group_fixed j n g is =
    let there = some_of (fin.get j.sides g.0) is in
    let sides = flat_map (λ (e : ℕ × Side). side_names e.0 e.1) (fin.entries j.sides) in
    let all = each-entries numbers (λ k (s : Side). In (SideName (record { 0 = k }) part.Itself) sides) j.sides (groups_among sides (fin.entries j.sides) (λ x h. h)) in
    inr (in_right (SideName g part.Itself) (workers_below n) sides (all g.0 there.0 there.1))

-- ---- names that are split

pub left_sound : (s : System) (names : List Name) (v w : View HistoryEntry Name) → IsSound machine s v
    → w ≡ view v.seen (without machine names v.keeps) → IsSound machine s w
left_sound s names v w sound is =
    subst (λ (u : View HistoryEntry Name). IsSound machine s u) (sym is)
    (sound_fewer s v (without machine names v.keeps) sound (λ x h. (in_without machine_lawful x names v.keeps h).0))

pub right_sound : (s : System) (names : List Name) (v w : View HistoryEntry Name) → IsSound machine s v → ((x : Name) → In x names → In x v.keeps)
    → w ≡ view v.seen names → IsSound machine s w
right_sound s names v w sound fewer is = subst (λ (u : View HistoryEntry Name). IsSound machine s u) (sym is) (sound_fewer s v names sound fewer)

-- ---- what was seen stays seen

-- by a pass that was joined into another, which then drew and was finished
pub seen_last : (s : System) (e : HistoryEntry) (v w u t : View HistoryEntry Name) (past : List (ℕ × HistoryEntry)) → u ≡ joined v w → Enters s e u t → past ≡ t.seen
    → (a : ℕ × HistoryEntry) → In a (union v.seen w.seen) → In a past
seen_last s e v w u t past both d is a there =
    let before : In a u.seen = subst (λ (x : View HistoryEntry Name). In a x.seen) (sym both) there in
    let after : In a t.seen = subst (λ (xs : List (ℕ × HistoryEntry)). In a xs) (sym (drawn_seen d.1)) (in_left a u.seen ((d.0, e) ∷ []) before) in
    subst (λ (xs : List (ℕ × HistoryEntry)). In a xs) (sym is) after

-- ---- names that a pass gives to another

pub split_kept : (s : System) (g : GroupId) (names kept : List Name) → (loaded_by s).workers ≡ 2 → is_some (fin.get (loaded_by s).state.sides g.0) ≡ true
    → names ≡ SideName g part.Itself ∷ Worker 1 ∷ [] → kept ≡ machine.fixed s → (x : Name) → In x names → In x kept
split_kept s g names kept two there is fixed x h = subst (λ (xs : List Name). In x xs) (sym fixed) (one_of (subst (λ (xs : List Name). In x xs) is h)) where
  one_of : In x (SideName g part.Itself ∷ Worker 1 ∷ []) → In x (machine.fixed s)
  one_of (inl same) = subst (λ y. In y (machine.fixed s)) (sym same) (group_fixed (loaded_by s).state (loaded_by s).workers g there)
  one_of (inr (inl same)) = subst (λ y. In y (machine.fixed s)) (sym same) (second_fixed (loaded_by s).state (loaded_by s).workers two)
  one_of (inr (inr none)) = absurd none

-- ---- empty tables of one group

pub few_names : (d : DaemonConf) (g : GroupConf) → g.volumes ≡ [] → length (fixed_names (empty_joint d (g ∷ [])) 2) ≤ 32768
few_names d g none =
    let id : GroupId = record { 0 = g.group.0 } in
    let sides : fin.entries (new_sides (g ∷ [])) ≡ (g.group.0, new_side g) ∷ [] = entries-from_entries numbers ((g.group.0, new_side g) ∷ []) tt in
    let images : fin.entries (blank_images g.size g.volumes) ≡ [] = ap (λ vs. fin.entries (blank_images g.size vs)) none ∙ entries-empty (slice_cmp nat_cmp) in
    let P : List (ℕ × Side) → Type 0 = λ es. length (Daemon ∷ workers_below 2 ++ flat_map (λ e. side_names e.0 e.1) es) ≤ 32768 in
    let Q : List (List ℕ × Image) → Type 0 =
    λ is. length (Daemon ∷ workers_below 2 ++ ((SideName id part.Itself ∷ prelude.map (λ e. SideName id (part.Volume (record { 0 = e.0 }))) is) ++ [])) ≤ 32768 in
    let four : Q [] = lit≤ tt in
    subst P (sym sides) (subst Q (sym images) four)

pub group_there : (d : DaemonConf) (g : GroupConf) → is_some (fin.get (empty_joint d (g ∷ [])).sides g.group.0) ≡ true
group_there d g =
    let none : ByNumber Side = fin.empty in
    ap (λ (o : Option Side). is_some o)
    (fin.get-insert nat_cmp_total none g.group.0 (new_side g) g.group.0
    ∙ ap (λ b. cond b (Some (new_side g)) (fin.get none g.group.0)) (tied numbers g.group.0 g.group.0 refl))
