-- A reuse begins, with its mount: a side is kept where nothing is in doubt and the volume is ready at the clock reading.
use Rattle.std.proofs.Common.{◌≡◌, ◌≢◌, arith, ℕ, suc, ◌+◌, ◌≤◌, ◌<◌, List, Some, None, Option, refl, sym, ap, ◌∙◌}
use Rattle.std.specs.FinMap as map
use Rattle.dm_base.specs.Limits.{epoch_limit}
use Rattle.dm_base.specs.declared.conf.GroupConf.{GroupConf}
use Rattle.dm_base.specs.declared.identifier.GroupId.{GroupId}
use Rattle.dm_base.specs.declared.serial.Vsn.{Vsn}
use Rattle.dm_rules.specs.Numbers.{greater}
use Rattle.dm_rules.specs.Version.{IsVersion}
use Rattle.dm_tables.specs.Rows.{EachRow}
use Rattle.dm_tables.proofs.Orders.{numbers}
use Rattle.dm_tables.proofs.Rows.{each-beside, get-beside, get-here}
use Rattle.dm_durable.specs.declared.daemon.Entry.{Entry}
use Rattle.dm_durable.specs.declared.group.GroupRecord.{GroupRecord}
use Rattle.dm_durable.specs.declared.group.VolumeRow.{VolumeRow}
use Rattle.dm_durable.specs.Tables.{ByNumber}
use Rattle.dm_durable.specs.Volumes.{epoch_or, tip_in}
use Rattle.dm_model.specs.declared.plan.Opening.TheVariants as opening
use Rattle.dm_model.specs.declared.state.CopyState.{CopyState}
use Rattle.dm_model.specs.declared.state.MountState.{MountState}
use Rattle.dm_model.specs.declared.state.Moving.{Moving}
use Rattle.dm_model.specs.declared.state.OpenRequest.{OpenRequest}
use Rattle.dm_model.specs.declared.state.Origin.{Origin}
use Rattle.dm_model.specs.declared.state.Origin.TheVariants as origin
use Rattle.dm_model.specs.declared.state.Reserved.{Reserved}
use Rattle.dm_model.specs.declared.state.Reusing.{Reusing}
use Rattle.dm_model.specs.declared.state.Side.{Side}
use Rattle.dm_model.specs.SideShare.{new_mount, side_after_opening}
use Rattle.dm_invariant.specs.Doubts.{GroupMayLandIf}
use Rattle.dm_invariant.specs.Kept.{SideKept}
use Rattle.dm_invariant.specs.Mounts.{MayRead, OriginKept, mounted_of}
use Rattle.dm_invariant.specs.Moves.{IsReadyAt, ReuseKept}
use Rattle.dm_invariant.specs.OnceLive.{MountOnce}
use Rattle.dm_effects.proofs.MountEnded.{move_left, reuse_left}
use Rattle.dm_effects.proofs.MountOpened.{apart_more, drive_taken, other_number, same_mounts_more}
use Rattle.dm_effects.proofs.Uses.{IsOpen, open_of, with_open}

-- a volume that isn't mounted, with a drive that is free, is ready at this reading of the clock for one epoch more
pub record ReuseOpens (s : Side) (m epoch reading : ℕ) (x : Reusing) : Type 0 where
  pub number : s.group.next_mount ≤ m
  pub epoch_is : epoch ≡ epoch_or (map.get s.group.tables.volumes x.vsn.0)
  pub unmounted : EachRow s.mounts (λ n y. y.vsn.0 ≡ x.vsn.0 → ⊥)
  pub drive : suc (map.len s.group.mounts) ≤ s.group.conf.drives
  pub volume : VolumeRow
  pub known : map.get s.group.tables.volumes x.vsn.0 ≡ Some volume
  pub next : x.next_epoch ≡ volume.epoch + 1
  pub left : volume.epoch < epoch_limit
  pub version : IsVersion x.version
  pub ready : IsReadyAt (greater reading s.group.tables.time.0) s.group.conf.hold (tip_in s.group.tips x.vsn.0 volume) volume.held
  pub settled : s.group.doubt ≡ None

-- nothing in doubt may land
pub nothing_in_doubt : (g : ℕ) (entries : ByNumber Entry) (contents : ByNumber (List ℕ)) (taken deleted : ByNumber (Unit {0})) (s : Side)
    (doubt : Option GroupRecord) → doubt ≡ None → GroupMayLandIf g entries contents taken deleted s doubt
nothing_in_doubt g entries contents taken deleted s None none = tt
nothing_in_doubt g entries contents taken deleted s (Some r) none = cc

-- a mount with another number
origin_more : (conf : GroupConf) (reservations : ByNumber Reserved) (copies : ByNumber CopyState) (moves : ByNumber Moving)
    (reuses : ByNumber Reusing) (m q : ℕ) (x : Reusing) (vsn : Vsn) (o : Origin) → q ≢ m
    → OriginKept conf reservations copies moves reuses q vsn o → OriginKept conf reservations copies moves (map.insert reuses m x) q vsn o
origin_more conf reservations copies moves reuses m q x vsn (origin.New listed format) apart k = k
origin_more conf reservations copies moves reuses m q x vsn (origin.Piece b index p chunk) apart k = k
origin_more conf reservations copies moves reuses m q x vsn (origin.Chunk b c) apart k = k
origin_more conf reservations copies moves reuses m q x vsn (origin.Source job b c) apart k = k
origin_more conf reservations copies moves reuses m q x vsn (origin.Target job b total c version) apart k = k
origin_more conf reservations copies moves reuses m q x vsn (origin.Reuse next_epoch version reading) apart k = record {
  reusing = k.reusing;
  is = get-beside numbers reuses m x q apart ∙ k.is;
  next = k.next;
  same = k.same;
  volume = k.volume;
}

-- a reuse that begins keeps the side
pub side_reuse_opened : (entries : ByNumber Entry) (contents : ByNumber (List ℕ)) (taken : ByNumber (Unit {0})) (requests : ByNumber OpenRequest)
    (g : ℕ) (committed deleted : ByNumber (Unit {0})) (s : Side) (h : GroupId) (m epoch : ℕ) (x : Reusing) (reading : ℕ)
    → ReuseOpens s m epoch reading x
    → SideKept entries contents taken requests g committed deleted s
    → SideKept entries contents taken requests g committed deleted (side_after_opening (opening.Reuse h m epoch x reading) s)
side_reuse_opened entries contents taken requests g committed deleted s h m epoch x reading opens k =
    let t = s.group.tables in
    let conf = s.group.conf in
    let made = origin.Reuse x.next_epoch x.version (record { 0 = reading }) in
    let y = new_mount s x.vsn epoch made in
    let more = map.insert s.mounts m y in
    let later = opens.number in
    let stays : (q : ℕ) (z : MountState) → map.get s.mounts q ≡ Some z → map.get (map.insert s.mounts m y) q ≡ Some z = λ q z is.
    get-beside numbers s.mounts m y q (other_number s.mounts m q s.group.next_mount z k.mounts.numbers later is) ∙ is in
    record {
      number = k.number;
      catalogue = k.catalogue;
      volumes = k.volumes;
      mounts = record {
        numbers = each-beside numbers (λ q z. q < m + 1) s.mounts m y (omega arith)
            (λ q z differ at. let f = k.mounts.numbers q z at in omega (arith, f, later));
        same = λ q. same_mounts_more s.group.mounts s.mounts m q y (k.mounts.same q);
        epoch = each-beside numbers (λ q z. z.epoch ≡ epoch_or (map.get t.volumes z.vsn.0)) s.mounts m y opens.epoch_is
            (λ q z differ at. k.mounts.epoch q z at);
        apart = apart_more s.mounts m y opens.unmounted k.mounts.apart;
        drives = drive_taken s.group.mounts m (mounted_of y) conf.drives opens.drive;
        reads = each-beside numbers (λ q z. MayRead z.origin z.bound) s.mounts m y tt (λ q z differ at. k.mounts.reads q z at);
        origin = each-beside numbers
            (λ q z. OriginKept conf s.group.reservations s.copies s.group.moves (map.insert s.group.reuses m x) q z.vsn z.origin) s.mounts m y
            (record { reusing = x; is = get-here numbers s.group.reuses m x; next = refl; same = refl; volume = refl })
            (λ q z differ at. origin_more conf s.group.reservations s.copies s.group.moves s.group.reuses m q x z.vsn z.origin differ
            (k.mounts.origin q z at));
      };
      once = each-beside numbers
          (λ q z. MountOnce contents t.volumes s.images s.group.reservations s.group.moves z.epoch z.origin) s.mounts m y tt
          (λ q z differ at. k.once q z at);
      reservations = k.reservations;
      moves = record {
        numbers = k.moves.numbers;
        moving = λ job z is.
            let was = k.moves.moving job z is in
            move_left contents t.volumes s.group.tips s.images s.mounts more job z was
            (stays z.source was.source was.source_is) (stays z.target was.target was.target_is);
      };
      reuses = each-beside numbers (ReuseKept conf.hold t.time.0 t.volumes s.group.tips more) s.group.reuses m x
          (record {
            mount = y;
            is = get-here numbers s.mounts m y;
            same = refl;
            reading = record { 0 = reading };
            made_for = refl;
            volume = opens.volume;
            known = opens.known;
            next = opens.next;
            left = opens.left;
            version = opens.version;
            ready = opens.ready;
          })
          (λ q z differ at.
          let kept = k.reuses q z at in
          reuse_left conf.hold t.time.0 t.volumes s.group.tips s.mounts more q z kept (stays q kept.mount kept.is));
      places = k.places;
      doubt = nothing_in_doubt g entries contents taken deleted
          (with_open (record (open_of s) {
            mounts = more;
            group_mounts = map.insert s.group.mounts m (mounted_of y);
            next_mount = m + 1;
            reuses = map.insert s.group.reuses m x;
          }) s)
          s.group.doubt opens.settled;
    }
