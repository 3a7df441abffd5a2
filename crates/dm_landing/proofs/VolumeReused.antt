-- A volume is used again: nobody uses it, and it begins behind its label.
use Rattle.std.proofs.Common.{◌≡◌, ◌≢◌, ℕ, ◌+◌, ◌<◌, ◌≤◌, List, Option, Some, None, refl, sym, ap, subst, ◌∙◌, inl, inr, arith}
use Rattle.std.specs.FinMap as map
use Rattle.dm_base.specs.Limits.{epoch_limit}
use Rattle.dm_base.specs.declared.conf.GroupConf.{GroupConf}
use Rattle.dm_base.specs.declared.identifier.Secs.{Secs}
use Rattle.dm_base.specs.declared.serial.Vsn.{Vsn}
use Rattle.dm_rules.specs.Label.{first_zone}
use Rattle.dm_rules.specs.Version.{IsVersion}
use Rattle.dm_tables.specs.Rows.{adjust}
use Rattle.dm_tables.proofs.Adjusted.{adjusted, adjusted-beside}
use Rattle.dm_tables.proofs.Orders.{paths}
use Rattle.dm_tables.proofs.Rows.{get-here, get-beside, one_row}
use Rattle.dm_durable.specs.declared.daemon.Entry.{Entry}
use Rattle.dm_durable.specs.declared.group.GroupStep.TheVariants.{Reuse}
use Rattle.dm_durable.specs.declared.group.VolumeRow.{VolumeRow}
use Rattle.dm_durable.specs.Group.{as_reused, group_after_record}
use Rattle.dm_durable.specs.Tables.{ByNumber, ByName}
use Rattle.dm_durable.specs.Volumes.{epoch_or, tip_or}
use Rattle.dm_model.specs.declared.state.Image.{Image}
use Rattle.dm_model.specs.declared.state.OpenRequest.{OpenRequest}
use Rattle.dm_model.specs.declared.state.Side.{Side}
use Rattle.dm_model.specs.GroupShare.{tips_after_step}
use Rattle.dm_model.specs.SideShare.{images_relabelled}
use Rattle.dm_invariant.specs.Assemble.{known_on}
use Rattle.dm_invariant.specs.Doubts.{GroupMayLand}
use Rattle.dm_invariant.specs.Kept.{SideKept}
use Rattle.dm_invariant.specs.Places.{PlacesKept}
use Rattle.dm_invariant.specs.Volumes.{VolumeKept, VolumesKept}
use Rattle.dm_invariant.proofs.Times.{still_past}
use Rattle.dm_landing.proofs.GroupLanding.{landed_as, places_settled, side_as}
use Rattle.dm_landing.proofs.VolumeAdded.{labelled_beside}
use Rattle.dm_landing.proofs.VolumesOnward.{OnwardAt, bitfile_onward}
use Rattle.dm_landing.proofs.VolumeUnused.{chunks_elsewhere, slots_adjusted, unused_stays}

-- what is known of the other volumes stays as one is labelled anew
relabelled_beside : (faithful : List ℕ) (version : ℕ) (vsn q : List ℕ) (o : Option VolumeRow) (images : ByName Image) → q ≢ vsn
    → known_on (images_relabelled faithful version vsn o images) q ≡ known_on images q
relabelled_beside faithful version vsn q None images differ = refl
relabelled_beside faithful version vsn q (Some v) images differ = labelled_beside faithful version v.slot vsn q images differ

module _ (s : Side) (vsn : List ℕ) (epoch version now : ℕ) where
  abbrev after : ByName VolumeRow
  after = adjust s.group.tables.volumes vsn (as_reused epoch version)

  abbrev tips : ByName ℕ
  tips = map.insert s.group.tips vsn first_zone

  abbrev images : ByName Image
  images = images_relabelled s.faithful version vsn (map.get s.group.tables.volumes vsn) s.images

  -- another volume stays
  stays : (q : List ℕ) → q ≢ vsn → OnwardAt s.group.tables.volumes after s.group.tips tips s.images images q
  stays q differ = λ v is. (
    v,
    adjusted-beside paths s.group.tables.volumes vsn (as_reused epoch version) q differ ∙ is,
    record {
      held = refl;
      version = refl;
      epoch = refl;
      low = omega arith;
      tip = ap (λ o. tip_or o v) (get-beside paths s.group.tips vsn first_zone q differ);
      known = relabelled_beside s.faithful version vsn q (map.get s.group.tables.volumes vsn) s.images differ;
    },
  )

  -- another volume is kept as it was
  volume_beside : (conf : GroupConf) (before : ℕ) (q : List ℕ) (v : VolumeRow) → q ≢ vsn → before ≤ now
      → VolumeKept conf s.group.tips before q v → VolumeKept conf tips now q v
  volume_beside conf before q v differ later k =
      let same = ap (λ o. tip_or o v) (get-beside paths s.group.tips vsn first_zone q differ) in
      record {
        configured = k.configured;
        size = k.size;
        slot = k.slot;
        version = k.version;
        epoch = k.epoch;
        last = k.last;
        label = k.label;
        end = subst (λ t. v.end ≤ t) (sym same) k.end;
        tip = subst (λ t. t ≤ v.size) (sym same) k.tip;
        freed = still_past before now v.held later k.freed;
      }

  -- the volume is empty, under the next epoch
  volume_reused : (conf : GroupConf) (before : ℕ) (v : VolumeRow) → first_zone ≤ conf.size → epoch ≡ v.epoch + 1 → v.epoch < epoch_limit
      → IsVersion version → VolumeKept conf s.group.tips before vsn v → VolumeKept conf tips now vsn (as_reused epoch version v)
  volume_reused conf before v label next left known k =
      let here : map.get tips vsn ≡ Some first_zone = get-here paths s.group.tips vsn first_zone in
      let sized = k.size in
      record {
        configured = k.configured;
        size = k.size;
        slot = k.slot;
        version = known;
        epoch = omega (arith, next);
        last = omega (arith, next, left);
        label = omega arith;
        end = subst (λ t. first_zone ≤ tip_or t (as_reused epoch version v)) (sym here) (omega arith);
        tip = subst (λ t. tip_or t (as_reused epoch version v) ≤ v.size) (sym here) (omega (arith, label, sized));
        freed = tt;
      }

  volumes_after : (conf : GroupConf) (before : ℕ) (x : VolumeRow) → map.get s.group.tables.volumes vsn ≡ Some x → first_zone ≤ conf.size
      → epoch ≡ x.epoch + 1 → x.epoch < epoch_limit → IsVersion version → before ≤ now
      → VolumesKept conf before s.group.tables.volumes s.group.tips → VolumesKept conf now after tips
  volumes_after conf before x is label next left known later k = record {
    fits = k.fits;
    volume = λ q y e. elim (adjusted paths s.group.tables.volumes vsn (as_reused epoch version) q y e) [
      | inl at ↦
          let same : x ≡ at.1.0 = one_row s.group.tables.volumes vsn vsn x at.1.0 refl is at.1.1 in
          let made = volume_reused conf before x label next left known (k.volume vsn x is) in
          let row = subst (λ z. VolumeKept conf tips now vsn (as_reused epoch version z)) same made in
          subst (λ z. VolumeKept conf tips now z y) (sym at.0) (subst (λ z. VolumeKept conf tips now vsn z) (sym at.1.2) row)
      | inr beside ↦ volume_beside conf before q y beside.0 later (k.volume q y beside.1)
    ];
    slots = slots_adjusted s.group.tables.volumes vsn (as_reused epoch version) (λ v. refl) k.slots;
  }

-- the side keeps the invariant as a volume is used again
pub volume_reused_lands : (entries : ByNumber Entry) (contents : ByNumber (List ℕ)) (taken : ByNumber (Unit {0})) (requests : ByNumber OpenRequest)
    (g : ℕ) (committed deleted : ByNumber (Unit {0})) (s : Side) (time : Secs) (vsn : Vsn) (epoch version : ℕ)
    → GroupMayLand g entries contents taken deleted s (record { time = time; step = Reuse vsn epoch version })
    → PlacesKept s.group.tables.bitfiles s.group.reservations s.group.moves (Some (record { time = time; step = Reuse vsn epoch version }))
    → SideKept entries contents taken requests g committed deleted s
    → SideKept entries contents taken requests g committed deleted
    (landed_as (group_after_record s.group.tables (record { time = time; step = Reuse vsn epoch version }))
    (tips_after_step s.group.tips (Reuse vsn epoch version))
    (images_relabelled s.faithful version vsn.0 (map.get s.group.tables.volumes vsn.0) s.images) s)
volume_reused_lands entries contents taken requests g committed deleted s time vsn epoch version may places k =
    let t = s.group.tables in
    let volumes = after s vsn.0 epoch version time.0 in
    let tips_after = tips s vsn.0 epoch version time.0 in
    let images_after = images s vsn.0 epoch version time.0 in
    let on = stays s vsn.0 epoch version time.0 in
    let new = group_after_record t (record { time = time; step = Reuse vsn epoch version }) in
    let step = may.follow.step in
    let sized = k.volumes.fits.sized.least in
    side_as entries contents taken requests g committed committed deleted s new tips_after images_after
    (unused_stays s new tips_after images_after vsn.0 on entries contents taken requests g committed deleted may.needs.unused k refl
    may.follow.time refl (λ q differ. ap epoch_or (adjusted-beside paths t.volumes vsn.0 (as_reused epoch version) q differ)))
    k
    (record {
      bitfile = λ b row is.
          bitfile_onward t.volumes volumes s.group.tips tips_after s.images images_after g entries contents b row
          (λ c among. on c.vsn.0 (chunks_elsewhere t.bitfiles vsn.0 step.dead b row is c among))
          (k.catalogue.bitfile b row is);
      stored = k.catalogue.stored;
      commits = k.catalogue.commits;
      commits_made = k.catalogue.commits_made;
      deletes = k.catalogue.deletes;
      deletes_taken = k.catalogue.deletes_taken;
    })
    (volumes_after s vsn.0 epoch version time.0 s.group.conf t.time.0 step.volume step.is (omega (arith, sized)) step.next step.left step.known
    may.follow.time k.volumes)
    (places_settled s (Some (record { time = time; step = Reuse vsn epoch version })) places)
