-- What a part of a plan doesn't speak of stays as it is.
use Rattle.std.proofs.Common.{◌≡◌, ◌≢◌, ℕ, Bool, true, false, cond, Option, None, Some, List, [], ◌∷◌, map, refl, sym, ap, ◌∙◌, subst, inl, inr}
use Rattle.std.specs.Option.{option_map}
use Rattle.std.specs.FinMap as fin
use Rattle.std.specs.Ordering.{nat_cmp}
use Rattle.dm_base.specs.declared.identifier.Bfid.{Bfid}
use Rattle.dm_base.specs.declared.identifier.GroupId.{GroupId}
use Rattle.dm_base.specs.declared.serial.Vsn.{Vsn}
use Rattle.dm_tables.specs.Rows.{adjust}
use Rattle.dm_tables.proofs.Adjusted.{adjusted-beside, adjusted-here}
use Rattle.dm_tables.proofs.Orders.{numbers, paths, same_or}
use Rattle.dm_tables.proofs.Rows.{each-empty, get-beside, removed-beside}
use Rattle.dm_durable.specs.declared.group.GroupRecord.{GroupRecord}
use Rattle.dm_durable.specs.declared.group.GroupStep.{GroupStep}
use Rattle.dm_durable.specs.declared.group.GroupStep.TheVariants as step
use Rattle.dm_durable.specs.declared.group.VolumeRow.{VolumeRow}
use Rattle.dm_durable.specs.Tables.{ByName, ByNumber}
use Rattle.dm_model.specs.declared.call.Component.{Component}
use Rattle.dm_model.specs.declared.call.Component.TheVariants as component
use Rattle.dm_model.specs.declared.entry.Name.{Name}
use Rattle.dm_model.specs.declared.entry.Name.TheVariants.{Daemon, Worker, Side}
use Rattle.dm_model.specs.declared.entry.Part.{Part}
use Rattle.dm_model.specs.declared.entry.Part.TheVariants as part
use Rattle.dm_model.specs.declared.plan.Ending.{Ending}
use Rattle.dm_model.specs.declared.plan.Ending.TheVariants as ending
use Rattle.dm_model.specs.declared.plan.Mark.{Mark}
use Rattle.dm_model.specs.declared.plan.Mark.TheVariants as mark
use Rattle.dm_model.specs.declared.plan.Opening.{Opening}
use Rattle.dm_model.specs.declared.plan.Opening.TheVariants as opening
use Rattle.dm_model.specs.declared.plan.Payload.{Payload}
use Rattle.dm_model.specs.declared.plan.Payload.TheVariants as payload
use Rattle.dm_model.specs.declared.state.CopyState.{CopyState}
use Rattle.dm_model.specs.declared.state.Image.{Image}
use Rattle.dm_model.specs.declared.state.Joint.{Joint}
use Rattle.dm_model.specs.declared.state.MountState.{MountState}
use Rattle.dm_model.specs.declared.state.Moving.{Moving}
use Rattle.dm_model.specs.declared.state.OpenRequest.{OpenRequest}
use Rattle.dm_model.specs.declared.state.Origin.{Origin}
use Rattle.dm_model.specs.declared.state.Origin.TheVariants as origin
use Rattle.dm_model.specs.declared.state.Reserved.{Reserved}
use Rattle.dm_model.specs.declared.state.Reusing.{Reusing}
use Rattle.dm_model.specs.declared.state.Side.{Side as SideState}
use Rattle.dm_model.specs.declared.state.Worker.{Worker as WorkerState}
use Rattle.dm_model.specs.DaemonShare.{daemon_after_ending, daemon_after_opening}
use Rattle.dm_model.specs.Effects.{after_ending, after_failed_mark, after_healing, after_mark, after_opening, after_payload, at_each, joint_with_doubt, groups_of_ending, groups_of_mark, groups_of_opening, with_recall, without_recall, worker_or, worker_with_read, workers_after_ending, workers_after_mark, workers_after_opening}
use Rattle.dm_model.specs.Names.{component_name, copy_name, mount_and_owner, mount_and_owner_in, mount_name, owner_of, owner_of_origin}
use Rattle.dm_model.specs.SideShare.{copies_mounted, copies_unmounted, copies_unmounted_if, images_after_step, images_relabelled, side_after_ending, side_after_failed_mark, side_after_mark, side_after_opening, side_after_payload, side_doubting, side_without_doubt, without_known}
use Rattle.dm_spine.specs.Past.{In}
use Rattle.dm_history.specs.Alike.{Alike, ForgetsOnly, PartsAlike}

-- ---- being alike

less_self : (o : Option Image) → ForgetsOnly o o
less_self None = tt
less_self (Some i) = (refl, λ place b h. h)

less_then : (a b c : Option Image) → ForgetsOnly a b → ForgetsOnly b c → ForgetsOnly a c
less_then None None c h k = k
less_then None (Some y) c h k = absurd h
less_then (Some x) None c h k = absurd h
less_then (Some x) (Some y) None h k = absurd k
less_then (Some x) (Some y) (Some z) h k = (h.0 ∙ k.0, λ place b t. h.1 place b (k.1 place b t))

pub part_self : (p : Part) (a : Option SideState) → PartsAlike p a a
part_self part.Itself a = refl
part_self (part.Volume v) None = tt
part_self (part.Volume v) (Some s) = less_self (fin.get s.images v.0)
part_self (part.Copy c) a = refl
part_self (part.Mount m) a = refl

part_then : (p : Part) (a b c : Option SideState) → PartsAlike p a b → PartsAlike p b c → PartsAlike p a c
part_then part.Itself a b c h k = h ∙ k
part_then (part.Volume v) a b c h k = less_then _ _ _ h k
part_then (part.Copy b') a b c h k = h ∙ k
part_then (part.Mount m) a b c h k = h ∙ k

pub alike_self : (x : Name) (j : Joint) → Alike x j j
alike_self Daemon j = refl
alike_self (Worker w) j = refl
alike_self (Side g p) j = part_self p (fin.get j.sides g.0)

pub alike_then : (x : Name) (i j k : Joint) → Alike x i j → Alike x j k → Alike x i k
alike_then Daemon i j k h l = h ∙ l
alike_then (Worker w) i j k h l = h ∙ l
alike_then (Side g p) i j k h l = part_then p (fin.get i.sides g.0) (fin.get j.sides g.0) (fin.get k.sides g.0) h l

-- ---- the sides of some groups are changed

found_stays : (p : Part) (f : SideState → SideState) (o : Option SideState) → ((s : SideState) → o ≡ Some s → PartsAlike p (Some s) (Some (f s)))
    → PartsAlike p o (option_map f o)
found_stays p f None keeps = part_self p None
found_stays p f (Some s) keeps = keeps s refl

one_stays : (p : Part) (f : SideState → SideState) (h g : GroupId) (sides : ByNumber SideState)
    → (h.0 ≡ g.0 → (s : SideState) → fin.get sides h.0 ≡ Some s → PartsAlike p (Some s) (Some (f s)))
    → PartsAlike p (fin.get sides h.0) (fin.get (adjust sides g.0 f) h.0)
one_stays p f h g sides keeps =
    elim (same_or numbers g.0 h.0) [
      | inl here ↦ subst (λ k. PartsAlike p (fin.get sides h.0) (fin.get (adjust sides k f) h.0)) here
          (subst (λ o. PartsAlike p (fin.get sides h.0) o) (sym (adjusted-here numbers sides h.0 f))
          (found_stays p f (fin.get sides h.0) (keeps here)))
      | inr differ ↦ subst (λ o. PartsAlike p (fin.get sides h.0) o) (sym (adjusted-beside numbers sides g.0 f h.0 differ))
          (part_self p (fin.get sides h.0))
    ]

each_stays : (p : Part) (f : SideState → SideState) (h : GroupId) (gs : List GroupId) (sides : ByNumber SideState)
    → ((g : GroupId) → In g gs → h.0 ≡ g.0 → (s : SideState) → PartsAlike p (Some s) (Some (f s)))
    → PartsAlike p (fin.get sides h.0) (fin.get (at_each f gs sides) h.0)
each_stays p f h [] sides keeps = part_self p (fin.get sides h.0)
each_stays p f h (g ∷ gs) sides keeps =
    part_then p (fin.get sides h.0) (fin.get (adjust sides g.0 f) h.0) (fin.get (at_each f gs (adjust sides g.0 f)) h.0)
    (one_stays p f h g sides (λ same s there. keeps g (inl refl) same s))
    (each_stays p f h gs (adjust sides g.0 f) (λ i among. keeps i (inr among)))

-- ---- parts that differ

side_same : (h g : GroupId) (p q : Part) → h.0 ≡ g.0 → p ≡ q → Side h p ≡ Side g q
side_same h g p q same is =
    let G : ℕ → GroupId = λ n. record { 0 = n } in ap (λ n. Side (G n) p) same ∙ ap (λ r. Side g r) is

apart_at : (h g : GroupId) (p q : Part) → h.0 ≡ g.0 → (Side h p ≡ Side g q → ⊥) → p ≡ q → ⊥
apart_at h g p q same differ is = differ (side_same h g p q same is)

copy_apart : (c b : Bfid) → (part.Copy c ≡ part.Copy b → ⊥) → c.0 ≢ b.0
copy_apart c b differ is = let B : ℕ → Bfid = λ n. record { 0 = n } in differ (ap (λ n. part.Copy (B n)) is)

mount_apart : (n m : ℕ) → (part.Mount n ≡ part.Mount m → ⊥) → n ≢ m
mount_apart n m differ is = differ (ap (λ k. part.Mount k) is)

volume_apart : (v w : Vsn) → (part.Volume v ≡ part.Volume w → ⊥) → v.0 ≢ w.0
volume_apart v w differ is = let V : List ℕ → Vsn = λ t. record { 0 = t } in differ (ap (λ t. part.Volume (V t)) is)

copy_adjusted : (copies : ByNumber CopyState) (c b : Bfid) (f : CopyState → CopyState) → (part.Copy c ≡ part.Copy b → ⊥)
    → fin.get copies c.0 ≡ fin.get (adjust copies b.0 f) c.0
copy_adjusted copies c b f differ = sym (adjusted-beside numbers copies b.0 f c.0 (copy_apart c b differ))

mount_adjusted : (mounts : ByNumber MountState) (n m : ℕ) (f : MountState → MountState) → (part.Mount n ≡ part.Mount m → ⊥)
    → fin.get mounts n ≡ fin.get (adjust mounts m f) n
mount_adjusted mounts n m f differ = sym (adjusted-beside numbers mounts m f n (mount_apart n m differ))

mount_removed : (mounts : ByNumber MountState) (n m : ℕ) → (part.Mount n ≡ part.Mount m → ⊥) → fin.get mounts n ≡ fin.get (fin.remove mounts m) n
mount_removed mounts n m differ = sym (removed-beside numbers mounts m n (mount_apart n m differ))

mount_inserted : (mounts : ByNumber MountState) (n m : ℕ) (x : MountState) → (part.Mount n ≡ part.Mount m → ⊥)
    → fin.get mounts n ≡ fin.get (fin.insert mounts m x) n
mount_inserted mounts n m x differ = sym (get-beside numbers mounts m x n (mount_apart n m differ))

image_adjusted : (images : ByName Image) (v w : Vsn) (f : Image → Image) → (part.Volume v ≡ part.Volume w → ⊥)
    → ForgetsOnly (fin.get images v.0) (fin.get (adjust images w.0 f) v.0)
image_adjusted images v w f differ =
    subst (λ o. ForgetsOnly (fin.get images v.0) o) (sym (adjusted-beside paths images w.0 f v.0 (volume_apart v w differ)))
    (less_self (fin.get images v.0))

-- ---- endings

in_mapped : (g : GroupId) (b : Bfid) (gs : List GroupId) → In g gs → In (copy_name g b) (map (λ h. copy_name h b) gs)
in_mapped g b [] among = absurd among
in_mapped g b (h ∷ gs) (inl same) = inl (ap (λ i. copy_name i b) same)
in_mapped g b (h ∷ gs) (inr after) = inr (in_mapped g b gs after)

-- the names that an ending speaks of
abbrev pub ending_names : ℕ → Joint → Ending → List Name
ending_names w j ending.Nothing = []
ending_names w j (ending.Put k b groups) = Daemon ∷ map (λ g. copy_name g b) groups
ending_names w j (ending.Recall k) = Daemon ∷ Worker w ∷ []
ending_names w j (ending.Reservation g n b) = Side g part.Itself ∷ copy_name g b ∷ []
ending_names w j (ending.Mount g m) = Side g part.Itself ∷ mount_and_owner_in w g m (fin.get j.sides g.0)
ending_names w j (ending.Move g job source target) = Side g part.Itself ∷ mount_name g source ∷ mount_name g target ∷ []

daemon_ended : (w : ℕ) (e : Ending) (j : Joint) → (In Daemon (ending_names w j e) → ⊥) → j.daemon ≡ daemon_after_ending e j.daemon
daemon_ended w ending.Nothing j away = refl
daemon_ended w (ending.Put k b groups) j away = absurd (away (inl refl))
daemon_ended w (ending.Recall k) j away = absurd (away (inl refl))
daemon_ended w (ending.Reservation g n b) j away = refl
daemon_ended w (ending.Mount g m) j away = refl
daemon_ended w (ending.Move g job source target) j away = refl

worker_ended : (w : ℕ) (e : Ending) (j : Joint) (v : ℕ) → (In (Worker v) (ending_names w j e) → ⊥)
    → fin.get j.workers v ≡ fin.get (workers_after_ending w e j.workers) v
worker_ended w ending.Nothing j v away = refl
worker_ended w (ending.Put k b groups) j v away = refl
worker_ended w (ending.Recall k) j v away =
    sym (adjusted-beside numbers j.workers w (without_recall k) v (λ same. away (inr (inl (ap (λ n. Worker n) same)))))
worker_ended w (ending.Reservation g n b) j v away = refl
worker_ended w (ending.Mount g m) j v away = refl
worker_ended w (ending.Move g job source target) j v away = refl

put_part : (k : ℕ) (b : Bfid) (groups : List GroupId) (p : Part) (s : SideState) → (p ≡ part.Copy b → ⊥)
    → PartsAlike p (Some s) (Some (side_after_ending (ending.Put k b groups) s))
put_part k b groups part.Itself s differ = refl
put_part k b groups (part.Volume v) s differ = less_self (fin.get s.images v.0)
put_part k b groups (part.Copy c) s differ = sym (removed-beside numbers s.copies b.0 c.0 (copy_apart c b differ))
put_part k b groups (part.Mount m) s differ = refl

reservation_part : (g : GroupId) (n : ℕ) (b : Bfid) (p : Part) (s : SideState) → (p ≡ part.Itself → ⊥) → (p ≡ part.Copy b → ⊥)
    → PartsAlike p (Some s) (Some (side_after_ending (ending.Reservation g n b) s))
reservation_part g n b part.Itself s itself differ = absurd (itself refl)
reservation_part g n b (part.Volume v) s itself differ = less_self (fin.get s.images v.0)
reservation_part g n b (part.Copy c) s itself differ = copy_adjusted s.copies c b _ differ
reservation_part g n b (part.Mount m) s itself differ = refl

unmounted_origin : (w : ℕ) (h g : GroupId) (m : ℕ) (c : Bfid) (made : Origin) (copies : ByNumber CopyState) → h.0 ≡ g.0
    → (Side h (part.Copy c) ≡ owner_of_origin w g made → ⊥) → fin.get copies c.0 ≡ fin.get (copies_unmounted m made copies) c.0
unmounted_origin w h g m c (origin.New listed format) copies same differ = refl
unmounted_origin w h g m c (origin.Piece b index piece chunk) copies same differ =
    copy_adjusted copies c b _ (apart_at h g (part.Copy c) (part.Copy b) same differ)
unmounted_origin w h g m c (origin.Chunk b chunk) copies same differ = refl
unmounted_origin w h g m c (origin.Source job b chunk) copies same differ = refl
unmounted_origin w h g m c (origin.Target job b total chunk version) copies same differ = refl
unmounted_origin w h g m c (origin.Reuse next_epoch version reading) copies same differ = refl

unmounted_copy : (w : ℕ) (h g : GroupId) (m : ℕ) (c : Bfid) (o : Option MountState) (copies : ByNumber CopyState) → h.0 ≡ g.0
    → (Side h (part.Copy c) ≡ owner_of w g o → ⊥) → fin.get copies c.0 ≡ fin.get (copies_unmounted_if m o copies) c.0
unmounted_copy w h g m c None copies same differ = refl
unmounted_copy w h g m c (Some x) copies same differ = unmounted_origin w h g m c x.origin copies same differ

mount_part : (w : ℕ) (h g : GroupId) (m : ℕ) (p : Part) (s : SideState) → h.0 ≡ g.0 → (p ≡ part.Itself → ⊥)
    → (In (Side h p) (mount_and_owner w g s.mounts m) → ⊥)
    → PartsAlike p (Some s) (Some (side_after_ending (ending.Mount g m) s))
mount_part w h g m part.Itself s same itself away = absurd (itself refl)
mount_part w h g m (part.Volume v) s same itself away = less_self (fin.get s.images v.0)
mount_part w h g m (part.Copy c) s same itself away =
    unmounted_copy w h g m c (fin.get s.mounts m) s.copies same (λ is. away (inr (inl is)))
mount_part w h g m (part.Mount n) s same itself away =
    mount_removed s.mounts n m (apart_at h g (part.Mount n) (part.Mount m) same (λ is. away (inl is)))

move_part : (g : GroupId) (job source target : ℕ) (p : Part) (s : SideState) → (p ≡ part.Itself → ⊥) → (p ≡ part.Mount source → ⊥)
    → (p ≡ part.Mount target → ⊥) → PartsAlike p (Some s) (Some (side_after_ending (ending.Move g job source target) s))
move_part g job source target part.Itself s itself from to = absurd (itself refl)
move_part g job source target (part.Volume v) s itself from to = less_self (fin.get s.images v.0)
move_part g job source target (part.Copy c) s itself from to = refl
move_part g job source target (part.Mount n) s itself from to =
    mount_removed s.mounts n source from ∙ mount_removed (fin.remove s.mounts source) n target to

side_ended : (w : ℕ) (e : Ending) (j : Joint) (h : GroupId) (p : Part) → (In (Side h p) (ending_names w j e) → ⊥)
    → PartsAlike p (fin.get j.sides h.0) (fin.get (at_each (side_after_ending e) (groups_of_ending e) j.sides) h.0)
side_ended w ending.Nothing j h p away = part_self p (fin.get j.sides h.0)
side_ended w (ending.Put k b groups) j h p away =
    each_stays p (side_after_ending (ending.Put k b groups)) h groups j.sides
    (λ g among same s. put_part k b groups p s
    (λ is. away (inr (subst (λ x. In x (map (λ i. copy_name i b) groups)) (sym (side_same h g p (part.Copy b) same is)) (in_mapped g b groups among)))))
side_ended w (ending.Recall k) j h p away = part_self p (fin.get j.sides h.0)
side_ended w (ending.Reservation g n b) j h p away =
    one_stays p (side_after_ending (ending.Reservation g n b)) h g j.sides
    (λ same s there. reservation_part g n b p s (apart_at h g p part.Itself same (λ is. away (inl is)))
    (apart_at h g p (part.Copy b) same (λ is. away (inr (inl is)))))
side_ended w (ending.Mount g m) j h p away =
    one_stays p (side_after_ending (ending.Mount g m)) h g j.sides
    (λ same s there. mount_part w h g m p s same (apart_at h g p part.Itself same (λ is. away (inl is)))
    (λ among. away (inr (subst (λ o. In (Side h p) (mount_and_owner_in w g m o)) (sym there ∙ ap (fin.get j.sides) same) among))))
side_ended w (ending.Move g job source target) j h p away =
    one_stays p (side_after_ending (ending.Move g job source target)) h g j.sides
    (λ same s there. move_part g job source target p s (apart_at h g p part.Itself same (λ is. away (inl is)))
    (apart_at h g p (part.Mount source) same (λ is. away (inr (inl is))))
    (apart_at h g p (part.Mount target) same (λ is. away (inr (inr (inl is))))))

pub ending_stays : (w : ℕ) (e : Ending) (j : Joint) (x : Name) → (In x (ending_names w j e) → ⊥) → Alike x j (after_ending w e j)
ending_stays w e j Daemon away = daemon_ended w e j away
ending_stays w e j (Worker v) away = worker_ended w e j v away
ending_stays w e j (Side h p) away = side_ended w e j h p away

-- ---- a change of library servers alone

healed_part : (heals : Bool) (p : Part) (s : SideState) → (p ≡ part.Itself → ⊥) → PartsAlike p (Some s) (Some (side_without_doubt heals s))
healed_part heals part.Itself s differ = absurd (differ refl)
healed_part heals (part.Volume v) s differ = less_self (fin.get s.images v.0)
healed_part heals (part.Copy c) s differ = refl
healed_part heals (part.Mount m) s differ = refl

abbrev pub healing_names : Bool → Component → List Name
healing_names heals c = cond heals (component_name c ∷ []) []

pub healing_stays : (heals : Bool) (c : Component) (j : Joint) (x : Name) → (In x (healing_names heals c) → ⊥) → Alike x j (after_healing heals c j)
healing_stays true component.Daemon j Daemon away = absurd (away (inl refl))
healing_stays true component.Daemon j (Worker v) away = refl
healing_stays true component.Daemon j (Side h p) away = part_self p (fin.get j.sides h.0)
healing_stays true (component.Group g) j Daemon away = refl
healing_stays true (component.Group g) j (Worker v) away = refl
healing_stays true (component.Group g) j (Side h p) away =
    one_stays p (side_without_doubt true) h g j.sides
    (λ same s there. healed_part true p s (apart_at h g p part.Itself same (λ is. away (inl is))))
healing_stays false component.Daemon j Daemon away = refl
healing_stays false component.Daemon j (Worker v) away = refl
healing_stays false component.Daemon j (Side h p) away = part_self p (fin.get j.sides h.0)
healing_stays false (component.Group g) j Daemon away = refl
healing_stays false (component.Group g) j (Worker v) away = refl
healing_stays false (component.Group g) j (Side h p) away = part_self p (fin.get j.sides h.0)

-- ---- payloads

abbrev pub payload_names : Option Payload → List Name
payload_names None = []
payload_names (Some (payload.Daemon r)) = Daemon ∷ []
payload_names (Some (payload.Group g r)) = Side g part.Itself ∷ []

doubted_part : (q : Option Payload) (p : Part) (s : SideState) → (p ≡ part.Itself → ⊥) → PartsAlike p (Some s) (Some (side_doubting q s))
doubted_part q part.Itself s differ = absurd (differ refl)
doubted_part q (part.Volume v) s differ = less_self (fin.get s.images v.0)
doubted_part q (part.Copy c) s differ = refl
doubted_part q (part.Mount m) s differ = refl

pub doubting_stays : (q : Option Payload) (j : Joint) (x : Name) → (In x (payload_names q) → ⊥) → Alike x j (joint_with_doubt q j)
doubting_stays None j x away = alike_self x j
doubting_stays (Some (payload.Daemon r)) j Daemon away = absurd (away (inl refl))
doubting_stays (Some (payload.Daemon r)) j (Worker v) away = refl
doubting_stays (Some (payload.Daemon r)) j (Side h p) away = part_self p (fin.get j.sides h.0)
doubting_stays (Some (payload.Group g r)) j Daemon away = refl
doubting_stays (Some (payload.Group g r)) j (Worker v) away = refl
doubting_stays (Some (payload.Group g r)) j (Side h p) away =
    one_stays p (side_doubting (Some (payload.Group g r))) h g j.sides
    (λ same s there. doubted_part (Some (payload.Group g r)) p s (apart_at h g p part.Itself same (λ is. away (inl is))))

-- an image of which nothing is known any more
forgotten_image : (o : Option Image) → ForgetsOnly o (option_map without_known o)
forgotten_image None = tt
forgotten_image (Some i) = (refl, λ place b h. each-empty nat_cmp (λ k x. fin.get i.known k ≡ Some x) place b h)

image_forgotten : (images : ByName Image) (vsn v : List ℕ) → ForgetsOnly (fin.get images v) (fin.get (adjust images vsn without_known) v)
image_forgotten images vsn v =
    elim (same_or paths vsn v) [
      | inl here ↦ subst (λ k. ForgetsOnly (fin.get images v) (fin.get (adjust images k without_known) v)) here
          (subst (λ o. ForgetsOnly (fin.get images v) o) (sym (adjusted-here paths images v without_known)) (forgotten_image (fin.get images v)))
      | inr differ ↦ subst (λ o. ForgetsOnly (fin.get images v) o) (sym (adjusted-beside paths images vsn without_known v differ))
          (less_self (fin.get images v))
    ]

image_forgotten_if : (b : Bool) (images : ByName Image) (vsn v : List ℕ) → ForgetsOnly (fin.get images v) (fin.get (cond b (adjust images vsn without_known) images) v)
image_forgotten_if true images vsn v = image_forgotten images vsn v
image_forgotten_if false images vsn v = less_self (fin.get images v)

image_relabelled : (faithful : List ℕ) (version : ℕ) (vsn : List ℕ) (o : Option VolumeRow) (images : ByName Image) (v : List ℕ)
    → ForgetsOnly (fin.get images v) (fin.get (images_relabelled faithful version vsn o images) v)
image_relabelled faithful version vsn None images v = less_self (fin.get images v)
image_relabelled faithful version vsn (Some row) images v = image_forgotten_if _ images vsn v

image_stepped : (s : SideState) (x : GroupStep) (v : List ℕ) → ForgetsOnly (fin.get s.images v) (fin.get (images_after_step s x) v)
image_stepped s (step.Volume vsn slot version size) v = image_forgotten_if _ s.images vsn.0 v
image_stepped s (step.Commit b len chunks) v = less_self (fin.get s.images v)
image_stepped s (step.Delete b) v = less_self (fin.get s.images v)
image_stepped s (step.Move b from to) v = less_self (fin.get s.images v)
image_stepped s (step.Free vsn) v = less_self (fin.get s.images v)
image_stepped s (step.Reuse vsn epoch version) v = image_relabelled s.faithful version vsn.0 _ s.images v

paid_part : (g : GroupId) (r : GroupRecord) (p : Part) (s : SideState) → (p ≡ part.Itself → ⊥)
    → PartsAlike p (Some s) (Some (side_after_payload (Some (payload.Group g r)) s))
paid_part g r part.Itself s differ = absurd (differ refl)
paid_part g r (part.Volume v) s differ = image_stepped s r.step v.0
paid_part g r (part.Copy c) s differ = refl
paid_part g r (part.Mount m) s differ = refl

pub payload_stays : (q : Option Payload) (j : Joint) (x : Name) → (In x (payload_names q) → ⊥) → Alike x j (after_payload q j)
payload_stays None j Daemon away = refl
payload_stays None j (Worker v) away = refl
payload_stays None j (Side h p) away = part_self p (fin.get j.sides h.0)
payload_stays (Some (payload.Daemon r)) j Daemon away = absurd (away (inl refl))
payload_stays (Some (payload.Daemon r)) j (Worker v) away = refl
payload_stays (Some (payload.Daemon r)) j (Side h p) away = part_self p (fin.get j.sides h.0)
payload_stays (Some (payload.Group g r)) j Daemon away = refl
payload_stays (Some (payload.Group g r)) j (Worker v) away = refl
payload_stays (Some (payload.Group g r)) j (Side h p) away =
    one_stays p (side_after_payload (Some (payload.Group g r))) h g j.sides
    (λ same s there. paid_part g r p s (apart_at h g p part.Itself same (λ is. away (inl is))))

-- ---- marks

abbrev pub mark_names : ℕ → Mark → List Name
mark_names w mark.Nothing = []
mark_names w (mark.Zone g vsn place zone b index epoch) = Side g (part.Volume vsn) ∷ copy_name g b ∷ []
mark_names w (mark.Target g vsn m place zone) = Side g (part.Volume vsn) ∷ mount_name g m ∷ []
mark_names w (mark.Label g vsn m epoch version text) = Side g (part.Volume vsn) ∷ mount_name g m ∷ []
mark_names w (mark.Read g b offset bytes) = Worker w ∷ []
mark_names w (mark.Source g m bytes) = mount_name g m ∷ []
mark_names w (mark.Deleted g b) = []

-- a volume and a copy, or a mount, are changed
copy_part : (vsn : Vsn) (b : Bfid) (f : Image → Image) (t : CopyState → CopyState) (p : Part) (s : SideState) → (p ≡ part.Volume vsn → ⊥)
    → (p ≡ part.Copy b → ⊥) → PartsAlike p (Some s) (Some (record s { images = adjust s.images vsn.0 f; copies = adjust s.copies b.0 t }))
copy_part vsn b f t part.Itself s volume differ = refl
copy_part vsn b f t (part.Volume v) s volume differ = image_adjusted s.images v vsn f volume
copy_part vsn b f t (part.Copy c) s volume differ = copy_adjusted s.copies c b t differ
copy_part vsn b f t (part.Mount m) s volume differ = refl

volume_part : (vsn : Vsn) (m : ℕ) (f : Image → Image) (t : MountState → MountState) (p : Part) (s : SideState) → (p ≡ part.Volume vsn → ⊥)
    → (p ≡ part.Mount m → ⊥) → PartsAlike p (Some s) (Some (record s { images = adjust s.images vsn.0 f; mounts = adjust s.mounts m t }))
volume_part vsn m f t part.Itself s volume differ = refl
volume_part vsn m f t (part.Volume v) s volume differ = image_adjusted s.images v vsn f volume
volume_part vsn m f t (part.Copy c) s volume differ = refl
volume_part vsn m f t (part.Mount n) s volume differ = mount_adjusted s.mounts n m t differ

source_part : (m : ℕ) (t : MountState → MountState) (p : Part) (s : SideState) → (p ≡ part.Mount m → ⊥)
    → PartsAlike p (Some s) (Some (record s { mounts = adjust s.mounts m t }))
source_part m t part.Itself s differ = refl
source_part m t (part.Volume v) s differ = less_self (fin.get s.images v.0)
source_part m t (part.Copy c) s differ = refl
source_part m t (part.Mount n) s differ = mount_adjusted s.mounts n m t differ

side_marked : (w : ℕ) (x : Mark) (sides : ByNumber SideState) (h : GroupId) (p : Part) → (In (Side h p) (mark_names w x) → ⊥)
    → PartsAlike p (fin.get sides h.0) (fin.get (at_each (side_after_mark x) (groups_of_mark x) sides) h.0)
side_marked w mark.Nothing sides h p away = part_self p (fin.get sides h.0)
side_marked w (mark.Zone g vsn place zone b index epoch) sides h p away =
    one_stays p (side_after_mark (mark.Zone g vsn place zone b index epoch)) h g sides
    (λ same s there. copy_part vsn b _ _ p s (apart_at h g p (part.Volume vsn) same (λ is. away (inl is)))
    (apart_at h g p (part.Copy b) same (λ is. away (inr (inl is)))))
side_marked w (mark.Target g vsn m place zone) sides h p away =
    one_stays p (side_after_mark (mark.Target g vsn m place zone)) h g sides
    (λ same s there. volume_part vsn m _ _ p s (apart_at h g p (part.Volume vsn) same (λ is. away (inl is)))
    (apart_at h g p (part.Mount m) same (λ is. away (inr (inl is)))))
side_marked w (mark.Label g vsn m epoch version text) sides h p away =
    one_stays p (side_after_mark (mark.Label g vsn m epoch version text)) h g sides
    (λ same s there. volume_part vsn m _ _ p s (apart_at h g p (part.Volume vsn) same (λ is. away (inl is)))
    (apart_at h g p (part.Mount m) same (λ is. away (inr (inl is)))))
side_marked w (mark.Read g b offset bytes) sides h p away = part_self p (fin.get sides h.0)
side_marked w (mark.Source g m bytes) sides h p away =
    one_stays p (side_after_mark (mark.Source g m bytes)) h g sides
    (λ same s there. source_part m _ p s (apart_at h g p (part.Mount m) same (λ is. away (inl is))))
side_marked w (mark.Deleted g b) sides h p away = part_self p (fin.get sides h.0)

worker_marked : (w : ℕ) (x : Mark) (workers : ByNumber WorkerState) (v : ℕ) → (In (Worker v) (mark_names w x) → ⊥)
    → fin.get workers v ≡ fin.get (workers_after_mark w x workers) v
worker_marked w mark.Nothing workers v away = refl
worker_marked w (mark.Zone g vsn place zone b index epoch) workers v away = refl
worker_marked w (mark.Target g vsn m place zone) workers v away = refl
worker_marked w (mark.Label g vsn m epoch version text) workers v away = refl
worker_marked w (mark.Read g b offset bytes) workers v away =
    sym (adjusted-beside numbers workers w (worker_with_read b.0 g.0 offset bytes) v (λ same. away (inl (ap (λ n. Worker n) same))))
worker_marked w (mark.Source g m bytes) workers v away = refl
worker_marked w (mark.Deleted g b) workers v away = refl

pub mark_stays : (w : ℕ) (y : Mark) (j : Joint) (x : Name) → (In x (mark_names w y) → ⊥) → Alike x j (after_mark w y j)
mark_stays w y j Daemon away = refl
mark_stays w y j (Worker v) away = worker_marked w y j.workers v away
mark_stays w y j (Side h p) away = side_marked w y j.sides h p away

side_failed : (w : ℕ) (x : Mark) (sides : ByNumber SideState) (h : GroupId) (p : Part) → (In (Side h p) (mark_names w x) → ⊥)
    → PartsAlike p (fin.get sides h.0) (fin.get (at_each (side_after_failed_mark x) (groups_of_mark x) sides) h.0)
side_failed w mark.Nothing sides h p away = part_self p (fin.get sides h.0)
side_failed w (mark.Zone g vsn place zone b index epoch) sides h p away =
    one_stays p (side_after_failed_mark (mark.Zone g vsn place zone b index epoch)) h g sides
    (λ same s there. copy_part vsn b _ _ p s (apart_at h g p (part.Volume vsn) same (λ is. away (inl is)))
    (apart_at h g p (part.Copy b) same (λ is. away (inr (inl is)))))
side_failed w (mark.Target g vsn m place zone) sides h p away =
    one_stays p (side_after_failed_mark (mark.Target g vsn m place zone)) h g sides
    (λ same s there. volume_part vsn m _ _ p s (apart_at h g p (part.Volume vsn) same (λ is. away (inl is)))
    (apart_at h g p (part.Mount m) same (λ is. away (inr (inl is)))))
side_failed w (mark.Label g vsn m epoch version text) sides h p away =
    one_stays p (side_after_failed_mark (mark.Label g vsn m epoch version text)) h g sides
    (λ same s there. volume_part vsn m _ _ p s (apart_at h g p (part.Volume vsn) same (λ is. away (inl is)))
    (apart_at h g p (part.Mount m) same (λ is. away (inr (inl is)))))
side_failed w (mark.Read g b offset bytes) sides h p away = part_self p (fin.get sides h.0)
side_failed w (mark.Source g m bytes) sides h p away =
    one_stays p (side_after_failed_mark (mark.Source g m bytes)) h g sides (λ same s there. part_self p (Some s))
side_failed w (mark.Deleted g b) sides h p away = part_self p (fin.get sides h.0)

pub failed_mark_stays : (w : ℕ) (y : Mark) (j : Joint) (x : Name) → (In x (mark_names w y) → ⊥) → Alike x j (after_failed_mark y j)
failed_mark_stays w y j Daemon away = refl
failed_mark_stays w y j (Worker v) away = refl
failed_mark_stays w y j (Side h p) away = side_failed w y j.sides h p away

-- ---- openings

abbrev pub opening_names : ℕ → Opening → List Name
opening_names w opening.Nothing = []
opening_names w (opening.Put k r len groups) = Daemon ∷ map (λ g. copy_name g r.bfid) groups
opening_names w (opening.Recall k r recall) = Daemon ∷ Worker w ∷ []
opening_names w (opening.Reservation g n r) = Side g part.Itself ∷ copy_name g r.bfid ∷ []
opening_names w (opening.Mount g m vsn epoch made) = Side g part.Itself ∷ mount_name g m ∷ owner_of_origin w g made ∷ []
opening_names w (opening.Move g job x source_epoch target_epoch) =
    Side g part.Itself ∷ mount_name g x.source ∷ mount_name g x.target ∷ []
opening_names w (opening.Reuse g m epoch x reading) = Side g part.Itself ∷ mount_name g m ∷ []

daemon_opened : (w : ℕ) (o : Opening) (j : Joint) → (In Daemon (opening_names w o) → ⊥) → j.daemon ≡ daemon_after_opening o j.daemon
daemon_opened w opening.Nothing j away = refl
daemon_opened w (opening.Put k r len groups) j away = absurd (away (inl refl))
daemon_opened w (opening.Recall k r recall) j away = absurd (away (inl refl))
daemon_opened w (opening.Reservation g n r) j away = refl
daemon_opened w (opening.Mount g m vsn epoch made) j away = refl
daemon_opened w (opening.Move g job x source_epoch target_epoch) j away = refl
daemon_opened w (opening.Reuse g m epoch x reading) j away = refl

worker_opened : (w : ℕ) (o : Opening) (workers : ByNumber WorkerState) (v : ℕ) → (In (Worker v) (opening_names w o) → ⊥)
    → fin.get workers v ≡ fin.get (workers_after_opening w o workers) v
worker_opened w opening.Nothing workers v away = refl
worker_opened w (opening.Put k r len groups) workers v away = refl
worker_opened w (opening.Recall k r recall) workers v away =
    sym (get-beside numbers workers w (with_recall k recall (worker_or (fin.get workers w))) v (λ same. away (inr (inl (ap (λ n. Worker n) same)))))
worker_opened w (opening.Reservation g n r) workers v away = refl
worker_opened w (opening.Mount g m vsn epoch made) workers v away = refl
worker_opened w (opening.Move g job x source_epoch target_epoch) workers v away = refl
worker_opened w (opening.Reuse g m epoch x reading) workers v away = refl

put_opened : (k : ℕ) (r : OpenRequest) (len : ℕ) (groups : List GroupId) (p : Part) (s : SideState) → (p ≡ part.Copy r.bfid → ⊥)
    → PartsAlike p (Some s) (Some (side_after_opening (opening.Put k r len groups) s))
put_opened k r len groups part.Itself s differ = refl
put_opened k r len groups (part.Volume v) s differ = less_self (fin.get s.images v.0)
put_opened k r len groups (part.Copy c) s differ = sym (get-beside numbers s.copies r.bfid.0 _ c.0 (copy_apart c r.bfid differ))
put_opened k r len groups (part.Mount m) s differ = refl

reservation_opened : (g : GroupId) (n : ℕ) (r : Reserved) (p : Part) (s : SideState) → (p ≡ part.Itself → ⊥) → (p ≡ part.Copy r.bfid → ⊥)
    → PartsAlike p (Some s) (Some (side_after_opening (opening.Reservation g n r) s))
reservation_opened g n r part.Itself s itself differ = absurd (itself refl)
reservation_opened g n r (part.Volume v) s itself differ = less_self (fin.get s.images v.0)
reservation_opened g n r (part.Copy c) s itself differ = copy_adjusted s.copies c r.bfid _ differ
reservation_opened g n r (part.Mount m) s itself differ = refl

mounted_origin : (w : ℕ) (h g : GroupId) (m : ℕ) (c : Bfid) (made : Origin) (copies : ByNumber CopyState) → h.0 ≡ g.0
    → (Side h (part.Copy c) ≡ owner_of_origin w g made → ⊥) → fin.get copies c.0 ≡ fin.get (copies_mounted m made copies) c.0
mounted_origin w h g m c (origin.New listed format) copies same differ = refl
mounted_origin w h g m c (origin.Piece b index piece chunk) copies same differ =
    copy_adjusted copies c b _ (apart_at h g (part.Copy c) (part.Copy b) same differ)
mounted_origin w h g m c (origin.Chunk b chunk) copies same differ = refl
mounted_origin w h g m c (origin.Source job b chunk) copies same differ = refl
mounted_origin w h g m c (origin.Target job b total chunk version) copies same differ = refl
mounted_origin w h g m c (origin.Reuse next_epoch version reading) copies same differ = refl

mount_opened : (w : ℕ) (h g : GroupId) (m : ℕ) (vsn : Vsn) (epoch : ℕ) (made : Origin) (p : Part) (s : SideState) → h.0 ≡ g.0
    → (p ≡ part.Itself → ⊥) → (p ≡ part.Mount m → ⊥) → (Side h p ≡ owner_of_origin w g made → ⊥)
    → PartsAlike p (Some s) (Some (side_after_opening (opening.Mount g m vsn epoch made) s))
mount_opened w h g m vsn epoch made part.Itself s same itself differ owner = absurd (itself refl)
mount_opened w h g m vsn epoch made (part.Volume v) s same itself differ owner = less_self (fin.get s.images v.0)
mount_opened w h g m vsn epoch made (part.Copy c) s same itself differ owner = mounted_origin w h g m c made s.copies same owner
mount_opened w h g m vsn epoch made (part.Mount n) s same itself differ owner = mount_inserted s.mounts n m _ differ

move_opened : (g : GroupId) (job : ℕ) (x : Moving) (source_epoch target_epoch : ℕ) (p : Part) (s : SideState) → (p ≡ part.Itself → ⊥)
    → (p ≡ part.Mount x.source → ⊥) → (p ≡ part.Mount x.target → ⊥)
    → PartsAlike p (Some s) (Some (side_after_opening (opening.Move g job x source_epoch target_epoch) s))
move_opened g job x source_epoch target_epoch part.Itself s itself from to = absurd (itself refl)
move_opened g job x source_epoch target_epoch (part.Volume v) s itself from to = less_self (fin.get s.images v.0)
move_opened g job x source_epoch target_epoch (part.Copy c) s itself from to = refl
move_opened g job x source_epoch target_epoch (part.Mount n) s itself from to =
    mount_inserted s.mounts n x.source _ from ∙ mount_inserted _ n x.target _ to

reuse_opened : (g : GroupId) (m epoch : ℕ) (x : Reusing) (reading : ℕ) (p : Part) (s : SideState) → (p ≡ part.Itself → ⊥) → (p ≡ part.Mount m → ⊥)
    → PartsAlike p (Some s) (Some (side_after_opening (opening.Reuse g m epoch x reading) s))
reuse_opened g m epoch x reading part.Itself s itself differ = absurd (itself refl)
reuse_opened g m epoch x reading (part.Volume v) s itself differ = less_self (fin.get s.images v.0)
reuse_opened g m epoch x reading (part.Copy c) s itself differ = refl
reuse_opened g m epoch x reading (part.Mount n) s itself differ = mount_inserted s.mounts n m _ differ

side_opened : (w : ℕ) (o : Opening) (sides : ByNumber SideState) (h : GroupId) (p : Part) → (In (Side h p) (opening_names w o) → ⊥)
    → PartsAlike p (fin.get sides h.0) (fin.get (at_each (side_after_opening o) (groups_of_opening o) sides) h.0)
side_opened w opening.Nothing sides h p away = part_self p (fin.get sides h.0)
side_opened w (opening.Put k r len groups) sides h p away =
    each_stays p (side_after_opening (opening.Put k r len groups)) h groups sides
    (λ g among same s. put_opened k r len groups p s
    (λ is. away (inr (subst (λ x. In x (map (λ i. copy_name i r.bfid) groups)) (sym (side_same h g p (part.Copy r.bfid) same is)) (in_mapped g r.bfid groups among)))))
side_opened w (opening.Recall k r recall) sides h p away = part_self p (fin.get sides h.0)
side_opened w (opening.Reservation g n r) sides h p away =
    one_stays p (side_after_opening (opening.Reservation g n r)) h g sides
    (λ same s there. reservation_opened g n r p s (apart_at h g p part.Itself same (λ is. away (inl is)))
    (apart_at h g p (part.Copy r.bfid) same (λ is. away (inr (inl is)))))
side_opened w (opening.Mount g m vsn epoch made) sides h p away =
    one_stays p (side_after_opening (opening.Mount g m vsn epoch made)) h g sides
    (λ same s there. mount_opened w h g m vsn epoch made p s same (apart_at h g p part.Itself same (λ is. away (inl is)))
    (apart_at h g p (part.Mount m) same (λ is. away (inr (inl is)))) (λ is. away (inr (inr (inl is)))))
side_opened w (opening.Move g job x source_epoch target_epoch) sides h p away =
    one_stays p (side_after_opening (opening.Move g job x source_epoch target_epoch)) h g sides
    (λ same s there. move_opened g job x source_epoch target_epoch p s (apart_at h g p part.Itself same (λ is. away (inl is)))
    (apart_at h g p (part.Mount x.source) same (λ is. away (inr (inl is))))
    (apart_at h g p (part.Mount x.target) same (λ is. away (inr (inr (inl is))))))
side_opened w (opening.Reuse g m epoch x reading) sides h p away =
    one_stays p (side_after_opening (opening.Reuse g m epoch x reading)) h g sides
    (λ same s there. reuse_opened g m epoch x reading p s (apart_at h g p part.Itself same (λ is. away (inl is)))
    (apart_at h g p (part.Mount m) same (λ is. away (inr (inl is)))))

pub opening_stays : (w : ℕ) (o : Opening) (j : Joint) (x : Name) → (In x (opening_names w o) → ⊥) → Alike x j (after_opening w o j)
opening_stays w o j Daemon away = daemon_opened w o j away
opening_stays w o j (Worker v) away = worker_opened w o j.workers v away
opening_stays w o j (Side h p) away = side_opened w o j.sides h p away
