-- What a part of a plan makes of a name is decided by what was had of it, and of the names that the part speaks of: done in two states
-- that are alike there, it leaves them alike.
use Rattle.std.proofs.Common.{◌≡◌, ℕ, Bool, true, false, cond, Option, None, Some, is_some, List, [], ◌∷◌, refl, sym, ap, ◌∙◌, subst, inl, inr, length}
use Rattle.std.specs.Option.{option_map}
use Rattle.std.specs.declared.cmp.Ordering.{Ordering}
use Rattle.std.specs.FinMap as fin
use Rattle.dm_base.specs.declared.identifier.Bfid.{Bfid}
use Rattle.dm_base.specs.declared.identifier.GroupId.{GroupId}
use Rattle.dm_base.specs.declared.serial.Vsn.{Vsn}
use Rattle.dm_tables.specs.Rows.{adjust}
use Rattle.dm_tables.proofs.Adjusted.{adjusted-beside, adjusted-here}
use Rattle.dm_tables.proofs.Orders.{KeyOrder, numbers, paths, same_or}
use Rattle.dm_tables.proofs.Rows.{get-beside, get-here, removed-beside, removed-here}
use Rattle.dm_durable.specs.declared.group.GroupRecord.{GroupRecord}
use Rattle.dm_durable.specs.declared.group.GroupStep.{GroupStep}
use Rattle.dm_durable.specs.declared.group.GroupStep.TheVariants as step
use Rattle.dm_durable.specs.declared.group.VolumeRow.{VolumeRow}
use Rattle.dm_durable.specs.Tables.{ByName, ByNumber}
use Rattle.dm_model.specs.declared.call.Component.{Component}
use Rattle.dm_model.specs.declared.call.Component.TheVariants as component
use Rattle.dm_model.specs.declared.entry.Name.{Name}
use Rattle.dm_model.specs.declared.entry.Name.TheVariants.{Daemon, Worker, Side}
use Rattle.dm_model.specs.declared.entry.Part.{Part}
use Rattle.dm_model.specs.declared.entry.Part.TheVariants as part
use Rattle.dm_model.specs.declared.plan.Ending.{Ending}
use Rattle.dm_model.specs.declared.plan.Ending.TheVariants as ending
use Rattle.dm_model.specs.declared.plan.Mark.{Mark}
use Rattle.dm_model.specs.declared.plan.Mark.TheVariants as mark
use Rattle.dm_model.specs.declared.plan.Opening.{Opening}
use Rattle.dm_model.specs.declared.plan.Opening.TheVariants as opening
use Rattle.dm_model.specs.declared.plan.Payload.{Payload}
use Rattle.dm_model.specs.declared.plan.Payload.TheVariants as payload
use Rattle.dm_model.specs.declared.state.CopyState.{CopyState}
use Rattle.dm_model.specs.declared.state.Group.{Group}
use Rattle.dm_model.specs.declared.state.Image.{Image}
use Rattle.dm_model.specs.declared.state.Joint.{Joint}
use Rattle.dm_model.specs.declared.state.MountState.{MountState}
use Rattle.dm_model.specs.declared.state.Moving.{Moving}
use Rattle.dm_model.specs.declared.state.OpenRequest.{OpenRequest}
use Rattle.dm_model.specs.declared.state.Origin.{Origin}
use Rattle.dm_model.specs.declared.state.Origin.TheVariants as origin
use Rattle.dm_model.specs.declared.state.Recall.{Recall}
use Rattle.dm_model.specs.declared.state.Reserved.{Reserved}
use Rattle.dm_model.specs.declared.state.Reusing.{Reusing}
use Rattle.dm_model.specs.declared.state.Side.{Side as SideState}
use Rattle.dm_model.specs.declared.state.Worker.{Worker as WorkerState}
use Rattle.dm_model.specs.DaemonShare.{daemon_after_ending, daemon_after_opening, daemon_after_payload, daemon_doubting, daemon_without_doubt}
use Rattle.dm_model.specs.Effects.{after_ending, after_failed_mark, after_healing, after_mark, after_opening, after_payload, at_each, joint_with_doubt, groups_of_ending, groups_of_mark, with_recall, without_recall, worker_or, worker_with_read, workers_after_ending, workers_after_mark, workers_after_opening}
use Rattle.dm_model.specs.GroupShare.{group_after_ending, group_after_opening, group_after_payload, group_doubting, group_without_doubt}
use Rattle.dm_model.specs.Names.{mount_and_owner_in, mount_name}
use Rattle.dm_model.specs.SideShare.{copies_mounted, copies_unmounted, copies_unmounted_if, images_after_step, images_labelled, images_relabelled, is_bound, known_by, new_mount, reservation_by, side_after_ending, side_after_failed_mark, side_after_mark, side_after_opening, side_after_payload, side_doubting, side_without_doubt, source_of, target_of, with_piece_mount, without_known, without_piece_mount}
use Rattle.dm_rules.specs.Known.{Known, known_without_range, known_with_write}
use Rattle.dm_rules.proofs.Knowledge.{get-forgotten_in, get-forgotten_out, get-written_in, get-written_out, inside, known_after_write, lies, outside}
use Rattle.dm_spine.specs.Past.{In}
use Rattle.dm_history.specs.Alike.{Alike, ForgetsOnly, PartsAlike, SameGroups, library_of, mount_of}
use Rattle.dm_history.proofs.PartsStay.{ending_names, payload_names}

-- ---- tables with the same row

module _ {K X : Type 0} {R : K → K → Ordering} (o : KeyOrder R) where
  pub adjust_goes : (m n : fin.FinMap R X) (k q : K) (f : X → X) → fin.get m q ≡ fin.get n q → fin.get (adjust m k f) q ≡ fin.get (adjust n k f) q
  adjust_goes m n k q f h =
      elim (same_or o k q) [
        | inl here ↦ subst (λ i. fin.get (adjust m i f) q ≡ fin.get (adjust n i f) q) here
            (adjusted-here o m q f ∙ (ap (option_map f) h ∙ sym (adjusted-here o n q f)))
        | inr differ ↦ adjusted-beside o m k f q differ ∙ (h ∙ sym (adjusted-beside o n k f q differ))
      ]

  pub remove_goes : (m n : fin.FinMap R X) (k q : K) → fin.get m q ≡ fin.get n q → fin.get (fin.remove m k) q ≡ fin.get (fin.remove n k) q
  remove_goes m n k q h =
      elim (same_or o k q) [
        | inl here ↦ subst (λ i. fin.get (fin.remove m i) q ≡ fin.get (fin.remove n i) q) here (removed-here o m q ∙ sym (removed-here o n q))
        | inr differ ↦ removed-beside o m k q differ ∙ (h ∙ sym (removed-beside o n k q differ))
      ]

  pub insert_goes : (m n : fin.FinMap R X) (k q : K) (v w : X) → v ≡ w → fin.get m q ≡ fin.get n q → fin.get (fin.insert m k v) q ≡ fin.get (fin.insert n k w) q
  insert_goes m n k q v w same h =
      elim (same_or o k q) [
        | inl here ↦ subst (λ i. fin.get (fin.insert m i v) q ≡ fin.get (fin.insert n i w) q) here
            (get-here o m q v ∙ (ap (λ (x : X). Some x) same ∙ sym (get-here o n q w)))
        | inr differ ↦ get-beside o m k v q differ ∙ (h ∙ sym (get-beside o n k w q differ))
      ]

  pub keys_stay : (m : fin.FinMap R X) (k q : K) (f : X → X) → is_some (fin.get (adjust m k f) q) ≡ is_some (fin.get m q)
  keys_stay m k q f =
      elim (same_or o k q) [
        | inl here ↦ subst (λ i. is_some (fin.get (adjust m i f) q) ≡ is_some (fin.get m q)) here
            (ap (λ (x : Option X). is_some x) (adjusted-here o m q f) ∙ there_still (fin.get m q))
        | inr differ ↦ ap (λ (x : Option X). is_some x) (adjusted-beside o m k f q differ)
      ]
    where
      there_still : (x : Option X) → is_some (option_map f x) ≡ is_some x
      there_still None = refl
      there_still (Some x) = refl

-- ---- images of which less is known

less_as : (a b c d : Option Image) → a ≡ c → b ≡ d → ForgetsOnly c d → ForgetsOnly a b
less_as a b c d e f h = subst (λ x. ForgetsOnly x b) (sym e) (subst (λ y. ForgetsOnly c y) (sym f) h)

abbrev pub Shrinks : (Image → Image) → Type 0
Shrinks f = (i k : Image) → ForgetsOnly (Some i) (Some k) → ForgetsOnly (Some (f i)) (Some (f k))

found_shrinks : (f : Image → Image) → Shrinks f → (a b : Option Image) → ForgetsOnly a b → ForgetsOnly (option_map f a) (option_map f b)
found_shrinks f shrinks None None h = tt
found_shrinks f shrinks None (Some k) h = absurd h
found_shrinks f shrinks (Some i) None h = absurd h
found_shrinks f shrinks (Some i) (Some k) h = shrinks i k h

image_goes : (f : Image → Image) → Shrinks f → (m n : ByName Image) (w v : List ℕ) → ForgetsOnly (fin.get m v) (fin.get n v)
    → ForgetsOnly (fin.get (adjust m w f) v) (fin.get (adjust n w f) v)
image_goes f shrinks m n w v h =
    elim (same_or paths w v) [
      | inl here ↦ subst (λ i. ForgetsOnly (fin.get (adjust m i f) v) (fin.get (adjust n i f) v)) here
          (less_as _ _ (option_map f (fin.get m v)) (option_map f (fin.get n v)) (adjusted-here paths m v f) (adjusted-here paths n v f)
          (found_shrinks f shrinks (fin.get m v) (fin.get n v) h))
      | inr differ ↦ less_as _ _ (fin.get m v) (fin.get n v) (adjusted-beside paths m w f v differ) (adjusted-beside paths n w f v differ) h
    ]

abbrev Less : Known → Known → Type 0
Less i k = (place b : ℕ) → fin.get k place ≡ Some b → fin.get i place ≡ Some b

written_less : (place : ℕ) (zone : List ℕ) (i k : Known) → Less i k → Less (known_with_write place zone i) (known_with_write place zone k)
written_less place zone i k less p b h =
    elim (known_after_write place zone k p b h) [
      | inl here ↦ ap (fin.get (known_with_write place zone i)) here.2
          ∙ (get-written_in place zone i here.0 here.1 ∙ ap (λ (x : ℕ). Some x) (sym here.3))
      | inr away ↦ get-written_out place zone i p away.0 ∙ less p b away.1
    ]

none_some : {P : Type 0} (b : ℕ) → None ≡ Some b → P
none_some b h = cc

forgotten_less : (place n : ℕ) (i k : Known) → Less i k → Less (known_without_range place n i) (known_without_range place n k)
forgotten_less place n i k less p b h =
    elim (lies place n p) [
      | inside from below ↦ none_some b (sym (get-forgotten_in place n k p from below) ∙ h)
      | outside out ↦ get-forgotten_out place n i p out ∙ less p b (sym (get-forgotten_out place n k p out) ∙ h)
    ]

written_shrinks : (place : ℕ) (zone : List ℕ) → Shrinks (known_by (known_with_write place zone))
written_shrinks place zone i k h = (h.0, written_less place zone i.known k.known h.1)

forgotten_shrinks : (place n : ℕ) → Shrinks (known_by (known_without_range place n))
forgotten_shrinks place n i k h = (h.0, forgotten_less place n i.known k.known h.1)

without_shrinks : Shrinks without_known
without_shrinks i k h = (h.0, λ place b t. t)

-- ---- sides

-- both have the same groups
abbrev pub SameKeys : ByNumber SideState → ByNumber SideState → Type 0
SameKeys a b = (g : ℕ) → is_some (fin.get a g) ≡ is_some (fin.get b g)

pub keys_go : (f : SideState → SideState) (gs : List GroupId) (a b : ByNumber SideState) → SameKeys a b → SameKeys (at_each f gs a) (at_each f gs b)
keys_go f [] a b keys = keys
keys_go f (g ∷ gs) a b keys =
    keys_go f gs (adjust a g.0 f) (adjust b g.0 f) (λ q. keys_stay numbers a g.0 q f ∙ (keys q ∙ sym (keys_stay numbers b g.0 q f)))

true_false : {P : Type 0} → true ≡ false → P
true_false h = cc

found_goes : (p : Part) (f : SideState → SideState) (a b : Option SideState) → is_some a ≡ is_some b → PartsAlike p a b
    → ((s t : SideState) → a ≡ Some s → b ≡ Some t → PartsAlike p (Some s) (Some t) → PartsAlike p (Some (f s)) (Some (f t)))
    → PartsAlike p (option_map f a) (option_map f b)
found_goes p f None None keys h goes = h
found_goes p f None (Some t) keys h goes = true_false (sym keys)
found_goes p f (Some s) None keys h goes = true_false keys
found_goes p f (Some s) (Some t) keys h goes = goes s t refl refl h

pub parts_as : (p : Part) (a b c d : Option SideState) → a ≡ c → b ≡ d → PartsAlike p c d → PartsAlike p a b
parts_as p a b c d e f h = subst (λ x. PartsAlike p x b) (sym e) (subst (λ y. PartsAlike p c y) (sym f) h)

one_goes : (p : Part) (f : SideState → SideState) (h g : GroupId) (a b : ByNumber SideState) → SameKeys a b → PartsAlike p (fin.get a h.0) (fin.get b h.0)
    → (h.0 ≡ g.0 → (s t : SideState) → fin.get a h.0 ≡ Some s → fin.get b h.0 ≡ Some t → PartsAlike p (Some s) (Some t)
    → PartsAlike p (Some (f s)) (Some (f t)))
    → PartsAlike p (fin.get (adjust a g.0 f) h.0) (fin.get (adjust b g.0 f) h.0)
one_goes p f h g a b keys same goes =
    elim (same_or numbers g.0 h.0) [
      | inl here ↦ subst (λ i. PartsAlike p (fin.get (adjust a i f) h.0) (fin.get (adjust b i f) h.0)) here
          (parts_as p _ _ (option_map f (fin.get a h.0)) (option_map f (fin.get b h.0)) (adjusted-here numbers a h.0 f) (adjusted-here numbers b h.0 f)
          (found_goes p f (fin.get a h.0) (fin.get b h.0) (keys h.0) same (goes here)))
      | inr differ ↦ parts_as p _ _ (fin.get a h.0) (fin.get b h.0) (adjusted-beside numbers a g.0 f h.0 differ) (adjusted-beside numbers b g.0 f h.0 differ) same
    ]

pub each_goes : (p : Part) (f : SideState → SideState) (h : GroupId) (gs : List GroupId) (a b : ByNumber SideState) → SameKeys a b
    → PartsAlike p (fin.get a h.0) (fin.get b h.0)
    → ((s t : SideState) → PartsAlike p (Some s) (Some t) → PartsAlike p (Some (f s)) (Some (f t)))
    → PartsAlike p (fin.get (at_each f gs a) h.0) (fin.get (at_each f gs b) h.0)
each_goes p f h [] a b keys same goes = same
each_goes p f h (g ∷ gs) a b keys same goes =
    each_goes p f h gs (adjust a g.0 f) (adjust b g.0 f) (keys_go f (g ∷ []) a b keys)
    (one_goes p f h g a b keys same (λ here s t is_s is_t alike. goes s t alike)) goes

-- ---- library servers

abbrev pub Library : Type 0
Library = Option (Group × List ℕ)

abbrev pub SameLibrary : SideState → SideState → Type 0
SameLibrary s t = library_of (Some s) ≡ library_of (Some t)

abbrev changed_library : (Group → Group) → Library → Library
changed_library f None = None
changed_library f (Some l) = Some (f l.0, l.1)

library_goes : (f : Group → Group) (s t : SideState) → SameLibrary s t
    → changed_library f (library_of (Some s)) ≡ changed_library f (library_of (Some t))
library_goes f s t h = ap (changed_library f) h

abbrev group_in : Group → Library → Group
group_in x None = x
group_in x (Some l) = l.0

abbrev faithful_in : Library → List ℕ
faithful_in None = []
faithful_in (Some l) = l.1

group_same : (s t : SideState) → SameLibrary s t → s.group ≡ t.group
group_same s t h = ap (group_in s.group) h

faithful_same : (s t : SideState) → SameLibrary s t → s.faithful ≡ t.faithful
faithful_same s t h = ap faithful_in h

-- the library servers of a group, found in both states
pub libraries_at : (g h : GroupId) (a b : ByNumber SideState) (s t : SideState) → h.0 ≡ g.0 → fin.get a h.0 ≡ Some s → fin.get b h.0 ≡ Some t
    → library_of (fin.get a g.0) ≡ library_of (fin.get b g.0) → SameLibrary s t
libraries_at g h a b s t same is_s is_t alike =
    let at_s : fin.get a g.0 ≡ Some s = subst (λ n. fin.get a n ≡ Some s) same is_s in
    let at_t : fin.get b g.0 ≡ Some t = subst (λ n. fin.get b n ≡ Some t) same is_t in
    sym (ap library_of at_s) ∙ (alike ∙ ap library_of at_t)

mounts_at : (g h : GroupId) (m : ℕ) (a b : ByNumber SideState) (s t : SideState) → h.0 ≡ g.0 → fin.get a h.0 ≡ Some s → fin.get b h.0 ≡ Some t
    → mount_of m (fin.get a g.0) ≡ mount_of m (fin.get b g.0) → fin.get s.mounts m ≡ fin.get t.mounts m
mounts_at g h m a b s t same is_s is_t alike =
    let at_s : fin.get a g.0 ≡ Some s = subst (λ n. fin.get a n ≡ Some s) same is_s in
    let at_t : fin.get b g.0 ≡ Some t = subst (λ n. fin.get b n ≡ Some t) same is_t in
    sym (ap (mount_of m) at_s) ∙ (alike ∙ ap (mount_of m) at_t)

-- ---- endings

abbrev pub AllAlike : List Name → Joint → Joint → Type 0
AllAlike names j k = (y : Name) → In y names → Alike y j k

put_goes : (k : ℕ) (b : Bfid) (groups : List GroupId) (p : Part) (s t : SideState) → PartsAlike p (Some s) (Some t)
    → PartsAlike p (Some (side_after_ending (ending.Put k b groups) s)) (Some (side_after_ending (ending.Put k b groups) t))
put_goes k b groups part.Itself s t h = h
put_goes k b groups (part.Volume v) s t h = h
put_goes k b groups (part.Copy c) s t h = remove_goes numbers s.copies t.copies b.0 c.0 h
put_goes k b groups (part.Mount m) s t h = h

reservation_goes : (g : GroupId) (n : ℕ) (b : Bfid) (p : Part) (s t : SideState) → PartsAlike p (Some s) (Some t)
    → PartsAlike p (Some (side_after_ending (ending.Reservation g n b) s)) (Some (side_after_ending (ending.Reservation g n b) t))
reservation_goes g n b part.Itself s t h = library_goes (group_after_ending (ending.Reservation g n b)) s t h
reservation_goes g n b (part.Volume v) s t h = h
reservation_goes g n b (part.Copy c) s t h = adjust_goes numbers s.copies t.copies b.0 c.0 _ h
reservation_goes g n b (part.Mount m) s t h = h

unmounted_goes : (m : ℕ) (c : Bfid) (made : Origin) (a b : ByNumber CopyState) → fin.get a c.0 ≡ fin.get b c.0
    → fin.get (copies_unmounted m made a) c.0 ≡ fin.get (copies_unmounted m made b) c.0
unmounted_goes m c (origin.New listed format) x y h = h
unmounted_goes m c (origin.Piece b index piece chunk) x y h = adjust_goes numbers x y b.0 c.0 (reservation_by (without_piece_mount m)) h
unmounted_goes m c (origin.Chunk b chunk) x y h = h
unmounted_goes m c (origin.Source job b chunk) x y h = h
unmounted_goes m c (origin.Target job b total chunk version) x y h = h
unmounted_goes m c (origin.Reuse next_epoch version reading) x y h = h

unmounted_if_goes : (m : ℕ) (c : Bfid) (o : Option MountState) (a b : ByNumber CopyState) → fin.get a c.0 ≡ fin.get b c.0
    → fin.get (copies_unmounted_if m o a) c.0 ≡ fin.get (copies_unmounted_if m o b) c.0
unmounted_if_goes m c None a b h = h
unmounted_if_goes m c (Some x) a b h = unmounted_goes m c x.origin a b h

mount_goes : (g : GroupId) (m : ℕ) (p : Part) (s t : SideState) → fin.get s.mounts m ≡ fin.get t.mounts m → PartsAlike p (Some s) (Some t)
    → PartsAlike p (Some (side_after_ending (ending.Mount g m) s)) (Some (side_after_ending (ending.Mount g m) t))
mount_goes g m part.Itself s t same h = library_goes (group_after_ending (ending.Mount g m)) s t h
mount_goes g m (part.Volume v) s t same h = h
mount_goes g m (part.Copy c) s t same h =
    subst (λ o. fin.get (copies_unmounted_if m (fin.get s.mounts m) s.copies) c.0 ≡ fin.get (copies_unmounted_if m o t.copies) c.0) same
    (unmounted_if_goes m c (fin.get s.mounts m) s.copies t.copies h)
mount_goes g m (part.Mount n) s t same h = remove_goes numbers s.mounts t.mounts m n h

move_goes : (g : GroupId) (job source target : ℕ) (p : Part) (s t : SideState) → PartsAlike p (Some s) (Some t)
    → PartsAlike p (Some (side_after_ending (ending.Move g job source target) s)) (Some (side_after_ending (ending.Move g job source target) t))
move_goes g job source target part.Itself s t h = library_goes (group_after_ending (ending.Move g job source target)) s t h
move_goes g job source target (part.Volume v) s t h = h
move_goes g job source target (part.Copy c) s t h = h
move_goes g job source target (part.Mount n) s t h =
    remove_goes numbers (fin.remove s.mounts source) (fin.remove t.mounts source) target n (remove_goes numbers s.mounts t.mounts source n h)

side_ending_goes : (w : ℕ) (e : Ending) (j k : Joint) (h : GroupId) (p : Part) → SameGroups j k → AllAlike (ending_names w j e) j k
    → PartsAlike p (fin.get j.sides h.0) (fin.get k.sides h.0)
    → PartsAlike p (fin.get (at_each (side_after_ending e) (groups_of_ending e) j.sides) h.0)
    (fin.get (at_each (side_after_ending e) (groups_of_ending e) k.sides) h.0)
side_ending_goes w ending.Nothing j k h p keys reads same = same
side_ending_goes w (ending.Put i b groups) j k h p keys reads same =
    each_goes p (side_after_ending (ending.Put i b groups)) h groups j.sides k.sides keys same (put_goes i b groups p)
side_ending_goes w (ending.Recall i) j k h p keys reads same = same
side_ending_goes w (ending.Reservation g n b) j k h p keys reads same =
    one_goes p (side_after_ending (ending.Reservation g n b)) h g j.sides k.sides keys same (λ here s t is_s is_t alike. reservation_goes g n b p s t alike)
side_ending_goes w (ending.Mount g m) j k h p keys reads same =
    one_goes p (side_after_ending (ending.Mount g m)) h g j.sides k.sides keys same
    (λ here s t is_s is_t alike.
    let at_s : fin.get j.sides g.0 ≡ Some s = subst (λ n. fin.get j.sides n ≡ Some s) here is_s in
    let mine = reads (mount_name g m) (inr (subst (λ o. In (mount_name g m) (mount_and_owner_in w g m o)) (sym at_s) (inl refl))) in
    mount_goes g m p s t (mounts_at g h m j.sides k.sides s t here is_s is_t mine) alike)
side_ending_goes w (ending.Move g job source target) j k h p keys reads same =
    one_goes p (side_after_ending (ending.Move g job source target)) h g j.sides k.sides keys same
    (λ here s t is_s is_t alike. move_goes g job source target p s t alike)

worker_ending_goes : (w : ℕ) (e : Ending) (a b : ByNumber WorkerState) (v : ℕ) → fin.get a v ≡ fin.get b v
    → fin.get (workers_after_ending w e a) v ≡ fin.get (workers_after_ending w e b) v
worker_ending_goes w ending.Nothing a b v h = h
worker_ending_goes w (ending.Put k c groups) a b v h = h
worker_ending_goes w (ending.Recall k) a b v h = adjust_goes numbers a b w v (without_recall k) h
worker_ending_goes w (ending.Reservation g n c) a b v h = h
worker_ending_goes w (ending.Mount g m) a b v h = h
worker_ending_goes w (ending.Move g job source target) a b v h = h

pub ending_goes : (w : ℕ) (e : Ending) (j k : Joint) (x : Name) → SameGroups j k → AllAlike (ending_names w j e) j k → Alike x j k
    → Alike x (after_ending w e j) (after_ending w e k)
ending_goes w e j k Daemon keys reads h = ap (daemon_after_ending e) h
ending_goes w e j k (Worker v) keys reads h = worker_ending_goes w e j.workers k.workers v h
ending_goes w e j k (Side g p) keys reads h = side_ending_goes w e j k g p keys reads h

-- ---- steps in doubt

healed_goes : (heals : Bool) (p : Part) (s t : SideState) → PartsAlike p (Some s) (Some t)
    → PartsAlike p (Some (side_without_doubt heals s)) (Some (side_without_doubt heals t))
healed_goes heals part.Itself s t h = library_goes (group_without_doubt heals) s t h
healed_goes heals (part.Volume v) s t h = h
healed_goes heals (part.Copy c) s t h = h
healed_goes heals (part.Mount m) s t h = h

side_healing_goes : (heals : Bool) (c : Component) (j k : Joint) (h : GroupId) (p : Part) → SameGroups j k → Alike (Side h p) j k
    → Alike (Side h p) (after_healing heals c j) (after_healing heals c k)
side_healing_goes true component.Daemon j k h p keys same = same
side_healing_goes true (component.Group g) j k h p keys same =
    one_goes p (side_without_doubt true) h g j.sides k.sides keys same (λ here s t is_s is_t alike. healed_goes true p s t alike)
side_healing_goes false component.Daemon j k h p keys same = same
side_healing_goes false (component.Group g) j k h p keys same = same

pub healing_goes : (heals : Bool) (c : Component) (j k : Joint) (x : Name) → SameGroups j k → Alike x j k
    → Alike x (after_healing heals c j) (after_healing heals c k)
healing_goes heals c j k Daemon keys h = ap (daemon_without_doubt heals c) h
healing_goes heals c j k (Worker v) keys h = h
healing_goes heals c j k (Side g p) keys h = side_healing_goes heals c j k g p keys h

doubted_goes : (q : Option Payload) (p : Part) (s t : SideState) → PartsAlike p (Some s) (Some t)
    → PartsAlike p (Some (side_doubting q s)) (Some (side_doubting q t))
doubted_goes q part.Itself s t h = library_goes (group_doubting q) s t h
doubted_goes q (part.Volume v) s t h = h
doubted_goes q (part.Copy c) s t h = h
doubted_goes q (part.Mount m) s t h = h

side_doubting_goes : (q : Option Payload) (j k : Joint) (h : GroupId) (p : Part) → SameGroups j k → Alike (Side h p) j k
    → Alike (Side h p) (joint_with_doubt q j) (joint_with_doubt q k)
side_doubting_goes None j k h p keys same = same
side_doubting_goes (Some (payload.Daemon r)) j k h p keys same = same
side_doubting_goes (Some (payload.Group g r)) j k h p keys same =
    one_goes p (side_doubting (Some (payload.Group g r))) h g j.sides k.sides keys same
    (λ here s t is_s is_t alike. doubted_goes (Some (payload.Group g r)) p s t alike)

pub doubting_goes : (q : Option Payload) (j k : Joint) (x : Name) → SameGroups j k → Alike x j k → Alike x (joint_with_doubt q j) (joint_with_doubt q k)
doubting_goes q j k Daemon keys h = ap (daemon_doubting q) h
doubting_goes q j k (Worker v) keys h = h
doubting_goes q j k (Side g p) keys h = side_doubting_goes q j k g p keys h

-- ---- payloads

forgotten_if_goes : (b : Bool) (m n : ByName Image) (w v : List ℕ) → ForgetsOnly (fin.get m v) (fin.get n v)
    → ForgetsOnly (fin.get (cond b (adjust m w without_known) m) v) (fin.get (cond b (adjust n w without_known) n) v)
forgotten_if_goes true m n w v h = image_goes without_known without_shrinks m n w v h
forgotten_if_goes false m n w v h = h

relabelled_goes : (faithful : List ℕ) (version : ℕ) (w : List ℕ) (o : Option VolumeRow) (m n : ByName Image) (v : List ℕ)
    → ForgetsOnly (fin.get m v) (fin.get n v)
    → ForgetsOnly (fin.get (images_relabelled faithful version w o m) v) (fin.get (images_relabelled faithful version w o n) v)
relabelled_goes faithful version w None m n v h = h
relabelled_goes faithful version w (Some row) m n v h = forgotten_if_goes _ m n w v h

stepped_goes : (s t : SideState) (x : GroupStep) (v : List ℕ) → SameLibrary s t → ForgetsOnly (fin.get s.images v) (fin.get t.images v)
    → ForgetsOnly (fin.get (images_after_step s x) v) (fin.get (images_after_step t x) v)
stepped_goes s t (step.Volume vsn slot version size) v same h =
    subst (λ (l : List ℕ). ForgetsOnly (fin.get (images_labelled s.faithful version slot vsn.0 s.images) v) (fin.get (images_labelled l version slot vsn.0 t.images) v))
    (faithful_same s t same) (forgotten_if_goes _ s.images t.images vsn.0 v h)
stepped_goes s t (step.Commit b len chunks) v same h = h
stepped_goes s t (step.Delete b) v same h = h
stepped_goes s t (step.Move b from to) v same h = h
stepped_goes s t (step.Free vsn) v same h = h
stepped_goes s t (step.Reuse vsn epoch version) v same h =
    let row = fin.get s.group.tables.volumes vsn.0 in
    subst (λ (x : Group). ForgetsOnly (fin.get (images_relabelled s.faithful version vsn.0 row s.images) v)
    (fin.get (images_relabelled t.faithful version vsn.0 (fin.get x.tables.volumes vsn.0) t.images) v))
    (group_same s t same)
    (subst (λ (l : List ℕ). ForgetsOnly (fin.get (images_relabelled s.faithful version vsn.0 row s.images) v) (fin.get (images_relabelled l version vsn.0 row t.images) v))
    (faithful_same s t same) (relabelled_goes s.faithful version vsn.0 row s.images t.images v h))

paid_goes : (g : GroupId) (r : GroupRecord) (p : Part) (s t : SideState) → SameLibrary s t → PartsAlike p (Some s) (Some t)
    → PartsAlike p (Some (side_after_payload (Some (payload.Group g r)) s)) (Some (side_after_payload (Some (payload.Group g r)) t))
paid_goes g r part.Itself s t same h = library_goes (group_after_payload (Some (payload.Group g r))) s t h
paid_goes g r (part.Volume v) s t same h = stepped_goes s t r.step v.0 same h
paid_goes g r (part.Copy c) s t same h = h
paid_goes g r (part.Mount m) s t same h = h

side_payload_goes : (q : Option Payload) (j k : Joint) (h : GroupId) (p : Part) → SameGroups j k → AllAlike (payload_names q) j k → Alike (Side h p) j k
    → Alike (Side h p) (after_payload q j) (after_payload q k)
side_payload_goes None j k h p keys reads same = same
side_payload_goes (Some (payload.Daemon r)) j k h p keys reads same = same
side_payload_goes (Some (payload.Group g r)) j k h p keys reads same =
    one_goes p (side_after_payload (Some (payload.Group g r))) h g j.sides k.sides keys same
    (λ here s t is_s is_t alike.
    paid_goes g r p s t (libraries_at g h j.sides k.sides s t here is_s is_t (reads (Side g part.Itself) (inl refl))) alike)

pub payload_goes : (q : Option Payload) (j k : Joint) (x : Name) → SameGroups j k → AllAlike (payload_names q) j k → Alike x j k
    → Alike x (after_payload q j) (after_payload q k)
payload_goes q j k Daemon keys reads h = ap (daemon_after_payload q) h
payload_goes q j k (Worker v) keys reads h = h
payload_goes q j k (Side g p) keys reads h = side_payload_goes q j k g p keys reads h

-- ---- marks

copy_goes : (vsn : Vsn) (b : Bfid) (f : Image → Image) (u : CopyState → CopyState) → Shrinks f → (p : Part) (s t : SideState) → PartsAlike p (Some s) (Some t)
    → PartsAlike p (Some (record s { images = adjust s.images vsn.0 f; copies = adjust s.copies b.0 u }))
    (Some (record t { images = adjust t.images vsn.0 f; copies = adjust t.copies b.0 u }))
copy_goes vsn b f u shrinks part.Itself s t h = h
copy_goes vsn b f u shrinks (part.Volume v) s t h = image_goes f shrinks s.images t.images vsn.0 v.0 h
copy_goes vsn b f u shrinks (part.Copy c) s t h = adjust_goes numbers s.copies t.copies b.0 c.0 u h
copy_goes vsn b f u shrinks (part.Mount m) s t h = h

volume_goes : (vsn : Vsn) (m : ℕ) (f : Image → Image) (u : MountState → MountState) → Shrinks f → (p : Part) (s t : SideState) → PartsAlike p (Some s) (Some t)
    → PartsAlike p (Some (record s { images = adjust s.images vsn.0 f; mounts = adjust s.mounts m u }))
    (Some (record t { images = adjust t.images vsn.0 f; mounts = adjust t.mounts m u }))
volume_goes vsn m f u shrinks part.Itself s t h = h
volume_goes vsn m f u shrinks (part.Volume v) s t h = image_goes f shrinks s.images t.images vsn.0 v.0 h
volume_goes vsn m f u shrinks (part.Copy c) s t h = h
volume_goes vsn m f u shrinks (part.Mount n) s t h = adjust_goes numbers s.mounts t.mounts m n u h

source_goes : (m : ℕ) (u : MountState → MountState) (p : Part) (s t : SideState) → PartsAlike p (Some s) (Some t)
    → PartsAlike p (Some (record s { mounts = adjust s.mounts m u })) (Some (record t { mounts = adjust t.mounts m u }))
source_goes m u part.Itself s t h = h
source_goes m u (part.Volume v) s t h = h
source_goes m u (part.Copy c) s t h = h
source_goes m u (part.Mount n) s t h = adjust_goes numbers s.mounts t.mounts m n u h

side_mark_goes : (x : Mark) (a b : ByNumber SideState) (h : GroupId) (p : Part) → SameKeys a b → PartsAlike p (fin.get a h.0) (fin.get b h.0)
    → PartsAlike p (fin.get (at_each (side_after_mark x) (groups_of_mark x) a) h.0) (fin.get (at_each (side_after_mark x) (groups_of_mark x) b) h.0)
side_mark_goes mark.Nothing a b h p keys same = same
side_mark_goes (mark.Zone g vsn place zone c index epoch) a b h p keys same =
    one_goes p (side_after_mark (mark.Zone g vsn place zone c index epoch)) h g a b keys same
    (λ here s t is_s is_t alike. copy_goes vsn c _ _ (written_shrinks place zone) p s t alike)
side_mark_goes (mark.Target g vsn m place zone) a b h p keys same =
    one_goes p (side_after_mark (mark.Target g vsn m place zone)) h g a b keys same
    (λ here s t is_s is_t alike. volume_goes vsn m _ _ (written_shrinks place zone) p s t alike)
side_mark_goes (mark.Label g vsn m epoch version text) a b h p keys same =
    one_goes p (side_after_mark (mark.Label g vsn m epoch version text)) h g a b keys same
    (λ here s t is_s is_t alike. volume_goes vsn m _ _ (written_shrinks 0 text) p s t alike)
side_mark_goes (mark.Read g c offset bytes) a b h p keys same = same
side_mark_goes (mark.Source g m bytes) a b h p keys same =
    one_goes p (side_after_mark (mark.Source g m bytes)) h g a b keys same (λ here s t is_s is_t alike. source_goes m _ p s t alike)
side_mark_goes (mark.Deleted g c) a b h p keys same = same

worker_mark_goes : (w : ℕ) (x : Mark) (a b : ByNumber WorkerState) (v : ℕ) → fin.get a v ≡ fin.get b v
    → fin.get (workers_after_mark w x a) v ≡ fin.get (workers_after_mark w x b) v
worker_mark_goes w mark.Nothing a b v h = h
worker_mark_goes w (mark.Zone g vsn place zone c index epoch) a b v h = h
worker_mark_goes w (mark.Target g vsn m place zone) a b v h = h
worker_mark_goes w (mark.Label g vsn m epoch version text) a b v h = h
worker_mark_goes w (mark.Read g c offset bytes) a b v h = adjust_goes numbers a b w v (worker_with_read c.0 g.0 offset bytes) h
worker_mark_goes w (mark.Source g m bytes) a b v h = h
worker_mark_goes w (mark.Deleted g c) a b v h = h

pub mark_goes : (w : ℕ) (y : Mark) (j k : Joint) (x : Name) → SameGroups j k → Alike x j k → Alike x (after_mark w y j) (after_mark w y k)
mark_goes w y j k Daemon keys h = h
mark_goes w y j k (Worker v) keys h = worker_mark_goes w y j.workers k.workers v h
mark_goes w y j k (Side g p) keys h = side_mark_goes y j.sides k.sides g p keys h

side_failed_goes : (x : Mark) (a b : ByNumber SideState) (h : GroupId) (p : Part) → SameKeys a b → PartsAlike p (fin.get a h.0) (fin.get b h.0)
    → PartsAlike p (fin.get (at_each (side_after_failed_mark x) (groups_of_mark x) a) h.0) (fin.get (at_each (side_after_failed_mark x) (groups_of_mark x) b) h.0)
side_failed_goes mark.Nothing a b h p keys same = same
side_failed_goes (mark.Zone g vsn place zone c index epoch) a b h p keys same =
    one_goes p (side_after_failed_mark (mark.Zone g vsn place zone c index epoch)) h g a b keys same
    (λ here s t is_s is_t alike. copy_goes vsn c _ _ (forgotten_shrinks place (length zone)) p s t alike)
side_failed_goes (mark.Target g vsn m place zone) a b h p keys same =
    one_goes p (side_after_failed_mark (mark.Target g vsn m place zone)) h g a b keys same
    (λ here s t is_s is_t alike. volume_goes vsn m _ _ (forgotten_shrinks place (length zone)) p s t alike)
side_failed_goes (mark.Label g vsn m epoch version text) a b h p keys same =
    one_goes p (side_after_failed_mark (mark.Label g vsn m epoch version text)) h g a b keys same
    (λ here s t is_s is_t alike. volume_goes vsn m _ _ (forgotten_shrinks 0 (length text)) p s t alike)
side_failed_goes (mark.Read g c offset bytes) a b h p keys same = same
side_failed_goes (mark.Source g m bytes) a b h p keys same =
    one_goes p (side_after_failed_mark (mark.Source g m bytes)) h g a b keys same (λ here s t is_s is_t alike. alike)
side_failed_goes (mark.Deleted g c) a b h p keys same = same

pub failed_mark_goes : (y : Mark) (j k : Joint) (x : Name) → SameGroups j k → Alike x j k → Alike x (after_failed_mark y j) (after_failed_mark y k)
failed_mark_goes y j k Daemon keys h = h
failed_mark_goes y j k (Worker v) keys h = h
failed_mark_goes y j k (Side g p) keys h = side_failed_goes y j.sides k.sides g p keys h

-- ---- openings

-- a mount that is made, by what it looks at
abbrev mount_by : MountState → Vsn → ℕ → Origin → Library → MountState
mount_by d vsn epoch made None = d
mount_by d vsn epoch made (Some l) = record {
  vsn = vsn;
  epoch = epoch;
  origin = made;
  bound = is_bound l.1 (fin.get l.0.tables.volumes vsn.0);
  labelled = None;
  read = None;
  written = None;
}

pub new_mount_same : (s t : SideState) (vsn : Vsn) (epoch : ℕ) (made : Origin) → SameLibrary s t → new_mount s vsn epoch made ≡ new_mount t vsn epoch made
new_mount_same s t vsn epoch made same = ap (mount_by (new_mount s vsn epoch made) vsn epoch made) same

pub put_opened_goes : (k : ℕ) (r : OpenRequest) (len : ℕ) (groups : List GroupId) (p : Part) (s t : SideState) → PartsAlike p (Some s) (Some t)
    → PartsAlike p (Some (side_after_opening (opening.Put k r len groups) s)) (Some (side_after_opening (opening.Put k r len groups) t))
put_opened_goes k r len groups part.Itself s t h = h
put_opened_goes k r len groups (part.Volume v) s t h = h
put_opened_goes k r len groups (part.Copy c) s t h = insert_goes numbers s.copies t.copies r.bfid.0 c.0 _ _ refl h
put_opened_goes k r len groups (part.Mount m) s t h = h

reservation_opened_goes : (g : GroupId) (n : ℕ) (r : Reserved) (p : Part) (s t : SideState) → PartsAlike p (Some s) (Some t)
    → PartsAlike p (Some (side_after_opening (opening.Reservation g n r) s)) (Some (side_after_opening (opening.Reservation g n r) t))
reservation_opened_goes g n r part.Itself s t h = library_goes (group_after_opening (opening.Reservation g n r)) s t h
reservation_opened_goes g n r (part.Volume v) s t h = h
reservation_opened_goes g n r (part.Copy c) s t h = adjust_goes numbers s.copies t.copies r.bfid.0 c.0 _ h
reservation_opened_goes g n r (part.Mount m) s t h = h

mounted_goes : (m : ℕ) (c : Bfid) (made : Origin) (a b : ByNumber CopyState) → fin.get a c.0 ≡ fin.get b c.0
    → fin.get (copies_mounted m made a) c.0 ≡ fin.get (copies_mounted m made b) c.0
mounted_goes m c (origin.New listed format) x y h = h
mounted_goes m c (origin.Piece b index piece chunk) x y h = adjust_goes numbers x y b.0 c.0 (reservation_by (with_piece_mount m index)) h
mounted_goes m c (origin.Chunk b chunk) x y h = h
mounted_goes m c (origin.Source job b chunk) x y h = h
mounted_goes m c (origin.Target job b total chunk version) x y h = h
mounted_goes m c (origin.Reuse next_epoch version reading) x y h = h

mount_opened_goes : (g : GroupId) (m : ℕ) (vsn : Vsn) (epoch : ℕ) (made : Origin) (p : Part) (s t : SideState) → SameLibrary s t → PartsAlike p (Some s) (Some t)
    → PartsAlike p (Some (side_after_opening (opening.Mount g m vsn epoch made) s)) (Some (side_after_opening (opening.Mount g m vsn epoch made) t))
mount_opened_goes g m vsn epoch made part.Itself s t same h = library_goes (group_after_opening (opening.Mount g m vsn epoch made)) s t h
mount_opened_goes g m vsn epoch made (part.Volume v) s t same h = h
mount_opened_goes g m vsn epoch made (part.Copy c) s t same h = mounted_goes m c made s.copies t.copies h
mount_opened_goes g m vsn epoch made (part.Mount n) s t same h =
    insert_goes numbers s.mounts t.mounts m n _ _ (new_mount_same s t vsn epoch made same) h

move_opened_goes : (g : GroupId) (job : ℕ) (x : Moving) (source_epoch target_epoch : ℕ) (p : Part) (s t : SideState) → SameLibrary s t → PartsAlike p (Some s) (Some t)
    → PartsAlike p (Some (side_after_opening (opening.Move g job x source_epoch target_epoch) s))
    (Some (side_after_opening (opening.Move g job x source_epoch target_epoch) t))
move_opened_goes g job x source_epoch target_epoch part.Itself s t same h =
    library_goes (group_after_opening (opening.Move g job x source_epoch target_epoch)) s t h
move_opened_goes g job x source_epoch target_epoch (part.Volume v) s t same h = h
move_opened_goes g job x source_epoch target_epoch (part.Copy c) s t same h = h
move_opened_goes g job x source_epoch target_epoch (part.Mount n) s t same h =
    insert_goes numbers _ _ x.target n _ _ (new_mount_same s t x.to.vsn target_epoch (target_of job x) same)
    (insert_goes numbers s.mounts t.mounts x.source n _ _ (new_mount_same s t x.from.vsn source_epoch (source_of job x) same) h)

reuse_opened_goes : (g : GroupId) (m epoch : ℕ) (x : Reusing) (reading : ℕ) (p : Part) (s t : SideState) → SameLibrary s t → PartsAlike p (Some s) (Some t)
    → PartsAlike p (Some (side_after_opening (opening.Reuse g m epoch x reading) s)) (Some (side_after_opening (opening.Reuse g m epoch x reading) t))
reuse_opened_goes g m epoch x reading part.Itself s t same h = library_goes (group_after_opening (opening.Reuse g m epoch x reading)) s t h
reuse_opened_goes g m epoch x reading (part.Volume v) s t same h = h
reuse_opened_goes g m epoch x reading (part.Copy c) s t same h = h
reuse_opened_goes g m epoch x reading (part.Mount n) s t same h =
    insert_goes numbers s.mounts t.mounts m n _ _ (new_mount_same s t x.vsn epoch (origin.Reuse x.next_epoch x.version (record { 0 = reading })) same) h

-- the names that an opening looks at
abbrev pub opening_reads : Opening → List Name
opening_reads opening.Nothing = []
opening_reads (opening.Put k r len groups) = []
opening_reads (opening.Recall k r recall) = []
opening_reads (opening.Reservation g n r) = []
opening_reads (opening.Mount g m vsn epoch made) = Side g part.Itself ∷ []
opening_reads (opening.Move g job x source_epoch target_epoch) = Side g part.Itself ∷ []
opening_reads (opening.Reuse g m epoch x reading) = Side g part.Itself ∷ []

side_opening_goes : (w : ℕ) (o : Opening) (j k : Joint) (h : GroupId) (p : Part) → SameGroups j k → AllAlike (opening_reads o) j k → Alike (Side h p) j k
    → Alike (Side h p) (after_opening w o j) (after_opening w o k)
side_opening_goes w opening.Nothing j k h p keys reads same = same
side_opening_goes w (opening.Put i r len groups) j k h p keys reads same =
    each_goes p (side_after_opening (opening.Put i r len groups)) h groups j.sides k.sides keys same (put_opened_goes i r len groups p)
side_opening_goes w (opening.Recall i r recall) j k h p keys reads same = same
side_opening_goes w (opening.Reservation g n r) j k h p keys reads same =
    one_goes p (side_after_opening (opening.Reservation g n r)) h g j.sides k.sides keys same
    (λ here s t is_s is_t alike. reservation_opened_goes g n r p s t alike)
side_opening_goes w (opening.Mount g m vsn epoch made) j k h p keys reads same =
    one_goes p (side_after_opening (opening.Mount g m vsn epoch made)) h g j.sides k.sides keys same
    (λ here s t is_s is_t alike.
    mount_opened_goes g m vsn epoch made p s t (libraries_at g h j.sides k.sides s t here is_s is_t (reads (Side g part.Itself) (inl refl))) alike)
side_opening_goes w (opening.Move g job x source_epoch target_epoch) j k h p keys reads same =
    one_goes p (side_after_opening (opening.Move g job x source_epoch target_epoch)) h g j.sides k.sides keys same
    (λ here s t is_s is_t alike.
    move_opened_goes g job x source_epoch target_epoch p s t
    (libraries_at g h j.sides k.sides s t here is_s is_t (reads (Side g part.Itself) (inl refl))) alike)
side_opening_goes w (opening.Reuse g m epoch x reading) j k h p keys reads same =
    one_goes p (side_after_opening (opening.Reuse g m epoch x reading)) h g j.sides k.sides keys same
    (λ here s t is_s is_t alike.
    reuse_opened_goes g m epoch x reading p s t (libraries_at g h j.sides k.sides s t here is_s is_t (reads (Side g part.Itself) (inl refl))) alike)

recall_opened_goes : (w k : ℕ) (recall : Recall) (a b : ByNumber WorkerState) (v : ℕ) → fin.get a v ≡ fin.get b v
    → fin.get (fin.insert a w (with_recall k recall (worker_or (fin.get a w)))) v ≡ fin.get (fin.insert b w (with_recall k recall (worker_or (fin.get b w)))) v
recall_opened_goes w k recall a b v h =
    elim (same_or numbers w v) [
      | inl here ↦ insert_goes numbers a b w v _ _
          (subst (λ (i : ℕ). with_recall k recall (worker_or (fin.get a i)) ≡ with_recall k recall (worker_or (fin.get b i))) here
          (ap (λ (o : Option WorkerState). with_recall k recall (worker_or o)) h)) h
      | inr differ ↦ get-beside numbers a w _ v differ ∙ (h ∙ sym (get-beside numbers b w _ v differ))
    ]

worker_opening_goes : (w : ℕ) (o : Opening) (a b : ByNumber WorkerState) (v : ℕ) → fin.get a v ≡ fin.get b v
    → fin.get (workers_after_opening w o a) v ≡ fin.get (workers_after_opening w o b) v
worker_opening_goes w opening.Nothing a b v h = h
worker_opening_goes w (opening.Put k r len groups) a b v h = h
worker_opening_goes w (opening.Recall k r recall) a b v h = recall_opened_goes w k recall a b v h
worker_opening_goes w (opening.Reservation g n r) a b v h = h
worker_opening_goes w (opening.Mount g m vsn epoch made) a b v h = h
worker_opening_goes w (opening.Move g job x source_epoch target_epoch) a b v h = h
worker_opening_goes w (opening.Reuse g m epoch x reading) a b v h = h

pub opening_goes : (w : ℕ) (o : Opening) (j k : Joint) (x : Name) → SameGroups j k → AllAlike (opening_reads o) j k → Alike x j k
    → Alike x (after_opening w o j) (after_opening w o k)
opening_goes w o j k Daemon keys reads h = ap (daemon_after_opening o) h
opening_goes w o j k (Worker v) keys reads h = worker_opening_goes w o j.workers k.workers v h
opening_goes w o j k (Side g p) keys reads h = side_opening_goes w o j k g p keys reads h
