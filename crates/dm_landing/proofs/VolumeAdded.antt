-- A new volume lands: the other volumes stay, and nothing is open on it.
use Rattle.std.proofs.Common.{◌≡◌, ◌≢◌, ℕ, ◌≤◌, true, false, cond, not, ◌&&◌, List, Some, None, nat_eq, refl, sym, ap, subst, ◌∙◌, inl, inr, arith}
use Rattle.std.specs.FinMap as map
use Rattle.dm_base.specs.declared.conf.GroupConf.{GroupConf}
use Rattle.dm_base.specs.declared.identifier.Secs.{Secs}
use Rattle.dm_base.specs.declared.serial.Vsn.{Vsn}
use Rattle.dm_rules.specs.Label.{first_zone}
use Rattle.dm_rules.specs.Version.{first_version}
use Rattle.dm_tables.specs.Rows.{EachRow, adjust}
use Rattle.dm_tables.proofs.Adjusted.{adjusted-beside}
use Rattle.dm_tables.proofs.Orders.{paths}
use Rattle.dm_tables.proofs.Rows.{get-here, get-beside, inserted, each-beside}
use Rattle.dm_durable.specs.declared.daemon.Entry.{Entry}
use Rattle.dm_durable.specs.declared.group.GroupStep.TheVariants.{Volume}
use Rattle.dm_durable.specs.declared.group.VolumeRow.{VolumeRow}
use Rattle.dm_durable.specs.Group.{new_volume, group_after_record}
use Rattle.dm_durable.specs.GroupConditions.{MayAdd}
use Rattle.dm_durable.specs.Tables.{ByNumber, ByName}
use Rattle.dm_durable.specs.Volumes.{epoch_or, tip_or}
use Rattle.dm_model.specs.declared.state.Image.{Image}
use Rattle.dm_model.specs.declared.state.OpenRequest.{OpenRequest}
use Rattle.dm_model.specs.declared.state.Origin.{Origin}
use Rattle.dm_model.specs.declared.state.Origin.TheVariants as origin
use Rattle.dm_model.specs.declared.state.Side.{Side}
use Rattle.dm_model.specs.GroupShare.{tips_after_step}
use Rattle.dm_model.specs.SideShare.{images_labelled, is_faithful, without_known}
use Rattle.dm_invariant.specs.Assemble.{known_of, known_on}
use Rattle.dm_invariant.specs.Doubts.{GroupMayLand, VolumeNeeds}
use Rattle.dm_invariant.specs.Kept.{SideKept}
use Rattle.dm_invariant.specs.Places.{PlacesKept}
use Rattle.dm_invariant.specs.Volumes.{VolumeKept, VolumesKept}
use Rattle.dm_invariant.proofs.LookUps.{key_differs}
use Rattle.dm_invariant.proofs.Times.{still_past}
use Rattle.dm_landing.proofs.GroupLanding.{landed_as, places_settled, side_as}
use Rattle.dm_landing.proofs.VolumesOnward.{OnwardAt, OriginOnward, bitfile_onward}

-- what is known of the other volumes stays as one is labelled
pub labelled_beside : (faithful : List ℕ) (version slot : ℕ) (vsn q : List ℕ) (images : ByName Image) → q ≢ vsn
    → known_on (images_labelled faithful version slot vsn images) q ≡ known_on images q
labelled_beside faithful version slot vsn q images differ =
    elim (nat_eq version first_version && not (is_faithful faithful slot)) as
    (λ b. known_on (cond b (adjust images vsn without_known) images) q ≡ known_on images q) [
      | true ↦ ap known_of (adjusted-beside paths images vsn without_known q differ)
      | false ↦ refl
    ]

-- each origin goes over where every volume that the tables have does
pub all_origins_onward : (volumes after : ByName VolumeRow) (tips tips_after : ByName ℕ) (images images_after : ByName Image)
    → ((q : List ℕ) → OnwardAt volumes after tips tips_after images images_after q) → (made : Origin)
    → OriginOnward volumes after tips tips_after images images_after made
all_origins_onward volumes after tips tips_after images images_after on (origin.New listed format) = tt
all_origins_onward volumes after tips tips_after images images_after on (origin.Piece b index p chunk) = tt
all_origins_onward volumes after tips tips_after images images_after on (origin.Chunk b c) = on c.vsn.0
all_origins_onward volumes after tips tips_after images images_after on (origin.Source job b c) = on c.vsn.0
all_origins_onward volumes after tips tips_after images images_after on (origin.Target job b total c version) = tt
all_origins_onward volumes after tips tips_after images images_after on (origin.Reuse next_epoch version reading) = tt

module _ (s : Side) (vsn : List ℕ) (slot version size time : ℕ) where
  abbrev wider : ByName VolumeRow
  wider = map.insert s.group.tables.volumes vsn (new_volume slot version size)

  abbrev further : ByName ℕ
  further = map.insert s.group.tips vsn first_zone

  abbrev relabelled : ByName Image
  relabelled = images_labelled s.faithful version slot vsn s.images

  -- a volume that was there is another one, and stays
  stays : map.get s.group.tables.volumes vsn ≡ None → (q : List ℕ)
      → OnwardAt s.group.tables.volumes wider s.group.tips further s.images relabelled q
  stays new q = λ v is.
      let differ = key_differs s.group.tables.volumes vsn q v new is in (
        v,
        get-beside paths s.group.tables.volumes vsn (new_volume slot version size) q differ ∙ is,
        record {
          held = refl;
          version = refl;
          epoch = refl;
          low = omega arith;
          tip = ap (λ o. tip_or o v) (get-beside paths s.group.tips vsn first_zone q differ);
          known = labelled_beside s.faithful version slot vsn q s.images differ;
        },
      )

  -- the new volume is empty, and has the size that it is to have
  volume_new : (conf : GroupConf) → first_zone ≤ conf.size → MayAdd s.group.tables vsn slot version size
      → VolumeNeeds conf s.mounts vsn size → VolumeKept conf further time vsn (new_volume slot version size)
  volume_new conf label may needs =
      let here : map.get further vsn ≡ Some first_zone = get-here paths s.group.tips vsn first_zone in
      let same = needs.sized in
      record {
        configured = needs.configured;
        size = needs.sized;
        slot = may.within;
        version = may.known;
        epoch = omega arith;
        last = omega arith;
        label = omega arith;
        end = subst (λ t. first_zone ≤ tip_or t (new_volume slot version size)) (sym here) (omega arith);
        tip = subst (λ t. tip_or t (new_volume slot version size) ≤ size) (sym here) (omega (arith, label, same));
        freed = tt;
      }

  volume_stays : (conf : GroupConf) (before : ℕ) (q : List ℕ) (v : VolumeRow) → before ≤ time
      → map.get further q ≡ map.get s.group.tips q → VolumeKept conf s.group.tips before q v → VolumeKept conf further time q v
  volume_stays conf before q v later same k = record {
    configured = k.configured;
    size = k.size;
    slot = k.slot;
    version = k.version;
    epoch = k.epoch;
    last = k.last;
    label = k.label;
    end = subst (λ t. v.end ≤ tip_or t v) (sym same) k.end;
    tip = subst (λ t. tip_or t v ≤ v.size) (sym same) k.tip;
    freed = still_past before time v.held later k.freed;
  }

  slots_apart : (v w : List ℕ) (x y : VolumeRow) → EachRow s.group.tables.volumes (λ k row. row.slot ≡ slot → ⊥)
      → ((k q : List ℕ) (a b : VolumeRow) → map.get s.group.tables.volumes k ≡ Some a → map.get s.group.tables.volumes q ≡ Some b
      → a.slot ≡ b.slot → k ≡ q)
      → map.get wider v ≡ Some x → map.get wider w ≡ Some y → x.slot ≡ y.slot → v ≡ w
  slots_apart v w x y free apart e f same =
      let volumes = s.group.tables.volumes in
      elim (inserted paths volumes vsn (new_volume slot version size) v x e) [
        | inl at ↦ elim (inserted paths volumes vsn (new_volume slot version size) w y f) [
          | inl here ↦ at.0 ∙ sym here.0
          | inr other ↦ absurd (free w y other.1 (sym same ∙ ap (λ r. r.slot) at.1))
        ]
        | inr other ↦ elim (inserted paths volumes vsn (new_volume slot version size) w y f) [
          | inl here ↦ absurd (free v x other.1 (same ∙ ap (λ r. r.slot) here.1))
          | inr beside ↦ apart v w x y other.1 beside.1 same
        ]
      ]

  volumes_wider : (conf : GroupConf) (before : ℕ) → before ≤ time → first_zone ≤ conf.size → MayAdd s.group.tables vsn slot version size
      → VolumeNeeds conf s.mounts vsn size
      → VolumesKept conf before s.group.tables.volumes s.group.tips → VolumesKept conf time wider further
  volumes_wider conf before later label may needs k = record {
    fits = k.fits;
    volume = each-beside paths (VolumeKept conf further time) s.group.tables.volumes vsn (new_volume slot version size)
        (volume_new conf label may needs)
        (λ q v differ e. volume_stays conf before q v later (get-beside paths s.group.tips vsn first_zone q differ) (k.volume q v e));
    slots = λ v w x y e f same. slots_apart v w x y may.free k.slots e f same;
  }

-- the side keeps the invariant as a new volume lands
pub volume_added : (entries : ByNumber Entry) (contents : ByNumber (List ℕ)) (taken : ByNumber (Unit {0})) (requests : ByNumber OpenRequest)
    (g : ℕ) (committed deleted : ByNumber (Unit {0})) (s : Side) (time : Secs) (vsn : Vsn) (slot version size : ℕ)
    → GroupMayLand g entries contents taken deleted s (record { time = time; step = Volume vsn slot version size })
    → PlacesKept s.group.tables.bitfiles s.group.reservations s.group.moves (Some (record { time = time; step = Volume vsn slot version size }))
    → SideKept entries contents taken requests g committed deleted s
    → SideKept entries contents taken requests g committed deleted
    (landed_as (group_after_record s.group.tables (record { time = time; step = Volume vsn slot version size }))
    (tips_after_step s.group.tips (Volume vsn slot version size)) (images_labelled s.faithful version slot vsn.0 s.images) s)
volume_added entries contents taken requests g committed deleted s time vsn slot version size may places k =
    let t = s.group.tables in
    let new = may.follow.step.new in
    let on = stays s vsn.0 slot version size time.0 new in
    let after = wider s vsn.0 slot version size time.0 in
    let tips = further s vsn.0 slot version size time.0 in
    let images = relabelled s vsn.0 slot version size time.0 in
    let sized = k.volumes.fits.sized.least in
    let label : first_zone ≤ s.group.conf.size = omega (arith, sized) in
    side_as entries contents taken requests g committed committed deleted s
    (group_after_record t (record { time = time; step = Volume vsn slot version size })) tips images
    (record {
      number = refl;
      later = may.follow.time;
      epochs = λ m x is. ap epoch_or (get-beside paths t.volumes vsn.0 (new_volume slot version size) x.vsn.0 (may.needs.unmounted m x is));
      chunks = λ m x is. all_origins_onward t.volumes after s.group.tips tips s.images images on x.origin;
      pieces = λ n r is p among. on p.vsn.0;
      new = λ n r is. (k.reservations.reservation n r is).new;
      targets = λ job x is. on x.to.vsn.0;
      reused = λ m x is. on x.vsn.0;
    })
    k
    (record {
      bitfile = λ b row is. bitfile_onward t.volumes after s.group.tips tips s.images images g entries contents b row (λ c among. on c.vsn.0)
          (k.catalogue.bitfile b row is);
      stored = k.catalogue.stored;
      commits = k.catalogue.commits;
      commits_made = k.catalogue.commits_made;
      deletes = k.catalogue.deletes;
      deletes_taken = k.catalogue.deletes_taken;
    })
    (volumes_wider s vsn.0 slot version size time.0 s.group.conf t.time.0 may.follow.time label may.follow.step may.needs k.volumes)
    (places_settled s (Some (record { time = time; step = Volume vsn slot version size })) places)
