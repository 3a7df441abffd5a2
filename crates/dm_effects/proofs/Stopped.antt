-- What the end of the program leaves keeps a side: nothing is open, tips are ends, and nothing is in doubt.
use Rattle.std.proofs.Common.{◌≡◌, ℕ, List, Option, None, option_map, refl, sym, ap, ◌∙◌, arith}
use Rattle.std.proofs.Common.{nat_cmp}
use Rattle.std.specs.Cmp.Lexicographic.{slice_cmp}
use Rattle.std.specs.FinMap as map
use Rattle.dm_base.specs.declared.conf.GroupConf.{GroupConf}
use Rattle.dm_tables.proofs.Rows.{each-empty}
use Rattle.dm_durable.specs.declared.daemon.Entry.{Entry}
use Rattle.dm_durable.specs.declared.group.BitfileRow.{BitfileRow}
use Rattle.dm_durable.specs.declared.group.GroupRecord.{GroupRecord}
use Rattle.dm_durable.specs.declared.group.VolumeRow.{VolumeRow}
use Rattle.dm_durable.specs.Tables.{ByNumber, ByName}
use Rattle.dm_durable.specs.Volumes.{tip_in, tip_or}
use Rattle.dm_model.specs.declared.state.Mounted.{Mounted}
use Rattle.dm_model.specs.declared.state.MountState.{MountState}
use Rattle.dm_model.specs.declared.state.Moving.{Moving}
use Rattle.dm_model.specs.declared.state.OpenRequest.{OpenRequest}
use Rattle.dm_model.specs.declared.state.Reserved.{Reserved}
use Rattle.dm_model.specs.declared.state.Side.{Side}
use Rattle.dm_model.specs.SideShare.{side_after_stop}
use Rattle.dm_invariant.specs.Kept.{SideKept}
use Rattle.dm_invariant.specs.Mounts.{MountsKept, mounted_of}
use Rattle.dm_invariant.specs.Places.{HasPlace, Live, Reserving, Target, Doubted, Owner, PlacesKept}
use Rattle.dm_invariant.specs.Volumes.{VolumeKept, VolumesKept}
use Rattle.dm_invariant.proofs.LookUps.{none_in_empty}

-- a volume at its end
at_end : (vsn : List ℕ) (v : VolumeRow) → tip_in map.empty vsn v ≡ v.end
at_end vsn v = ap (λ o. tip_or o v) (map.get-empty {X = ℕ} (slice_cmp nat_cmp) vsn)

volume_at_end : (conf : GroupConf) (tips : ByName ℕ) (now : ℕ) (vsn : List ℕ) (v : VolumeRow) → VolumeKept conf tips now vsn v
    → VolumeKept conf map.empty now vsn v
volume_at_end conf tips now vsn v k =
    let tip = at_end vsn v in
    let end = k.end in
    let within = k.tip in
    record {
      configured = k.configured;
      size = k.size;
      slot = k.slot;
      version = k.version;
      epoch = k.epoch;
      last = k.last;
      label = k.label;
      end = omega (arith, tip);
      tip = omega (arith, tip, end, within);
      freed = k.freed;
    }

pub volumes_at_end : (conf : GroupConf) (now : ℕ) (volumes : ByName VolumeRow) (tips : ByName ℕ) → VolumesKept conf now volumes tips
    → VolumesKept conf now volumes map.empty
volumes_at_end conf now volumes tips k = record {
  fits = k.fits;
  volume = λ vsn v is. volume_at_end conf tips now vsn v (k.volume vsn v is);
  slots = k.slots;
}

-- nothing is mounted
pub nothing_mounted : (conf : GroupConf) (volumes : ByName VolumeRow) → MountsKept conf volumes map.empty map.empty map.empty map.empty map.empty 0 map.empty
nothing_mounted conf volumes = record {
  numbers = each-empty nat_cmp _;
  same = λ m. map.get-empty {X = Mounted} nat_cmp m ∙ sym (ap (option_map mounted_of) (map.get-empty {X = MountState} nat_cmp m));
  epoch = each-empty nat_cmp _;
  apart = λ m n x y is at same. absurd (none_in_empty nat_cmp map.empty m x refl is);
  drives = let none = map.len-empty nat_cmp Mounted in omega (arith, none);
  origin = each-empty nat_cmp _;
  reads = each-empty nat_cmp _;
}

-- who has a place had it before
had_open : (bitfiles : ByNumber BitfileRow) (reservations : ByNumber Reserved) (moves : ByNumber Moving) (doubt : Option GroupRecord)
    (o : Owner) (vsn : List ℕ) (place : ℕ)
    → HasPlace bitfiles map.empty map.empty None o vsn place → HasPlace bitfiles reservations moves doubt o vsn place
had_open bitfiles reservations moves doubt (Live b offset) vsn place has = has
had_open bitfiles reservations moves doubt (Reserving n offset) vsn place has = absurd (none_in_empty nat_cmp map.empty n has.reserved refl has.is)
had_open bitfiles reservations moves doubt (Target job) vsn place has = absurd (none_in_empty nat_cmp map.empty job has.moving refl has.is)
had_open bitfiles reservations moves doubt (Doubted zone) vsn place has = absurd has.among

pub places_of_bitfiles : (bitfiles : ByNumber BitfileRow) (reservations : ByNumber Reserved) (moves : ByNumber Moving) (doubt : Option GroupRecord)
    → PlacesKept bitfiles reservations moves doubt → PlacesKept bitfiles map.empty map.empty None
places_of_bitfiles bitfiles reservations moves doubt k = λ o p vsn place one two.
    k o p vsn place (had_open bitfiles reservations moves doubt o vsn place one) (had_open bitfiles reservations moves doubt p vsn place two)

-- the end of the program keeps a side, whatever requests are open after it
pub side_stopped : (entries : ByNumber Entry) (contents : ByNumber (List ℕ)) (taken : ByNumber (Unit {0})) (requests later : ByNumber OpenRequest)
    (g : ℕ) (committed deleted : ByNumber (Unit {0})) (s : Side)
    → SideKept entries contents taken requests g committed deleted s
    → SideKept entries contents taken later g committed deleted (side_after_stop s)
side_stopped entries contents taken requests later g committed deleted s k = record {
  number = k.number;
  catalogue = k.catalogue;
  volumes = volumes_at_end s.group.conf s.group.tables.time.0 s.group.tables.volumes s.group.tips k.volumes;
  mounts = nothing_mounted s.group.conf s.group.tables.volumes;
  once = each-empty nat_cmp _;
  reservations = record { numbers = each-empty nat_cmp _; reservation = each-empty nat_cmp _; copy = each-empty nat_cmp _ };
  moves = record { numbers = each-empty nat_cmp _; moving = each-empty nat_cmp _ };
  reuses = each-empty nat_cmp _;
  places = places_of_bitfiles s.group.tables.bitfiles s.group.reservations s.group.moves s.group.doubt k.places;
  doubt = tt;
}
