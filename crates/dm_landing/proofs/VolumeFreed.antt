-- A volume is freed: nobody uses it.
use Rattle.std.proofs.Common.{◌≡◌, ◌≢◌, ℕ, ◌≤◌, List, Option, Some, None, refl, sym, ap, subst, ◌∙◌, arith}
use Rattle.std.specs.FinMap as map
use Rattle.dm_base.specs.declared.conf.GroupConf.{GroupConf}
use Rattle.dm_base.specs.declared.identifier.Secs.{Secs}
use Rattle.dm_base.specs.declared.serial.Vsn.{Vsn}
use Rattle.dm_tables.specs.Rows.{adjust}
use Rattle.dm_tables.proofs.Adjusted.{adjusted-beside, each-adjust}
use Rattle.dm_tables.proofs.Orders.{paths}
use Rattle.dm_durable.specs.declared.daemon.Entry.{Entry}
use Rattle.dm_durable.specs.declared.group.GroupStep.TheVariants.{Free}
use Rattle.dm_durable.specs.declared.group.VolumeRow.{VolumeRow}
use Rattle.dm_durable.specs.Group.{as_held, group_after_record}
use Rattle.dm_durable.specs.Tables.{ByNumber, ByName}
use Rattle.dm_durable.specs.Volumes.{epoch_or, tip_or}
use Rattle.dm_model.specs.declared.state.OpenRequest.{OpenRequest}
use Rattle.dm_model.specs.declared.state.Side.{Side}
use Rattle.dm_invariant.specs.Doubts.{GroupMayLand}
use Rattle.dm_invariant.specs.Kept.{SideKept}
use Rattle.dm_invariant.specs.Places.{PlacesKept}
use Rattle.dm_invariant.specs.Volumes.{VolumeKept}
use Rattle.dm_invariant.proofs.Times.{still_past}
use Rattle.dm_landing.proofs.GroupLanding.{landed_as, places_settled, side_as}
use Rattle.dm_landing.proofs.VolumesOnward.{OnwardAt, bitfile_onward}
use Rattle.dm_landing.proofs.VolumeUnused.{chunks_elsewhere, slots_adjusted, unused_stays}

pub volume_later : (conf : GroupConf) (tips : ByName ℕ) (before now : ℕ) (q : List ℕ) (v : VolumeRow) → before ≤ now
    → VolumeKept conf tips before q v → VolumeKept conf tips now q v
volume_later conf tips before now q v later k = record {
  configured = k.configured;
  size = k.size;
  slot = k.slot;
  version = k.version;
  epoch = k.epoch;
  last = k.last;
  label = k.label;
  end = k.end;
  tip = k.tip;
  freed = still_past before now v.held later k.freed;
}

-- a volume that is held from now on; its tip is where it was
held_tip : (now : ℕ) (tip : Option ℕ) (v : VolumeRow) → tip_or tip (as_held now v) ≡ tip_or tip v
held_tip now None v = refl
held_tip now (Some t) v = refl

volume_held : (conf : GroupConf) (tips : ByName ℕ) (now : ℕ) (q : List ℕ) (v : VolumeRow)
    → VolumeKept conf tips now q v → VolumeKept conf tips now q (as_held now v)
volume_held conf tips now q v k =
    let same = held_tip now (map.get tips q) v in
    record {
      configured = k.configured;
      size = k.size;
      slot = k.slot;
      version = k.version;
      epoch = k.epoch;
      last = k.last;
      label = k.label;
      end = subst (λ t. v.end ≤ t) (sym same) k.end;
      tip = subst (λ t. t ≤ v.size) (sym same) k.tip;
      freed = omega arith;
    }

module _ (s : Side) (vsn : List ℕ) (now : ℕ) where
  abbrev after : ByName VolumeRow
  after = adjust s.group.tables.volumes vsn (as_held now)

  -- another volume stays
  stays : (q : List ℕ) → q ≢ vsn → OnwardAt s.group.tables.volumes after s.group.tips s.group.tips s.images s.images q
  stays q differ = λ v is. (
    v,
    adjusted-beside paths s.group.tables.volumes vsn (as_held now) q differ ∙ is,
    record {
      held = refl;
      version = refl;
      epoch = refl;
      low = omega arith;
      tip = refl;
      known = refl;
    },
  )

-- the side keeps the invariant as a volume is freed
pub volume_freed : (entries : ByNumber Entry) (contents : ByNumber (List ℕ)) (taken : ByNumber (Unit {0})) (requests : ByNumber OpenRequest)
    (g : ℕ) (committed deleted : ByNumber (Unit {0})) (s : Side) (time : Secs) (vsn : Vsn)
    → GroupMayLand g entries contents taken deleted s (record { time = time; step = Free vsn })
    → PlacesKept s.group.tables.bitfiles s.group.reservations s.group.moves (Some (record { time = time; step = Free vsn }))
    → SideKept entries contents taken requests g committed deleted s
    → SideKept entries contents taken requests g committed deleted
    (landed_as (group_after_record s.group.tables (record { time = time; step = Free vsn })) s.group.tips s.images s)
volume_freed entries contents taken requests g committed deleted s time vsn may places k =
    let t = s.group.tables in
    let volumes = after s vsn.0 time.0 in
    let on = stays s vsn.0 time.0 in
    let new = group_after_record t (record { time = time; step = Free vsn }) in
    side_as entries contents taken requests g committed committed deleted s new s.group.tips s.images
    (unused_stays s new s.group.tips s.images vsn.0 on entries contents taken requests g committed deleted may.needs.unused k refl may.follow.time
    refl (λ q differ. ap epoch_or (adjusted-beside paths t.volumes vsn.0 (as_held time.0) q differ)))
    k
    (record {
      bitfile = λ b row is.
          bitfile_onward t.volumes volumes s.group.tips s.group.tips s.images s.images g entries contents b row
          (λ c among. on c.vsn.0 (chunks_elsewhere t.bitfiles vsn.0 may.follow.step.dead b row is c among))
          (k.catalogue.bitfile b row is);
      stored = k.catalogue.stored;
      commits = k.catalogue.commits;
      commits_made = k.catalogue.commits_made;
      deletes = k.catalogue.deletes;
      deletes_taken = k.catalogue.deletes_taken;
    })
    (record {
      fits = k.volumes.fits;
      volume = each-adjust paths (VolumeKept s.group.conf s.group.tips time.0) t.volumes vsn.0 (as_held time.0)
          (λ v is. volume_held s.group.conf s.group.tips time.0 vsn.0 v
          (volume_later s.group.conf s.group.tips t.time.0 time.0 vsn.0 v may.follow.time (k.volumes.volume vsn.0 v is)))
          (λ q v is. volume_later s.group.conf s.group.tips t.time.0 time.0 q v may.follow.time (k.volumes.volume q v is));
      slots = slots_adjusted t.volumes vsn.0 (as_held time.0) (λ v. refl) k.volumes.slots;
    })
    (places_settled s (Some (record { time = time; step = Free vsn })) places)
