-- A move ends, and with it its two mounts: a side is kept.
use Rattle.std.proofs.Common.{◌≡◌, ◌≢◌, ℕ, true, false, Some, Option, List, refl, sym, ap, ◌∙◌}
use Rattle.std.specs.FinMap as map
use Rattle.dm_base.specs.declared.conf.GroupConf.{GroupConf}
use Rattle.dm_base.specs.declared.identifier.GroupId.{GroupId}
use Rattle.dm_base.specs.declared.serial.Vsn.{Vsn}
use Rattle.dm_base.specs.declared.volume.Chunk.{Chunk}
use Rattle.dm_tables.proofs.Orders.{numbers}
use Rattle.dm_tables.proofs.Rows.{removed, removed-beside}
use Rattle.dm_durable.specs.declared.daemon.Entry.{Entry}
use Rattle.dm_durable.specs.declared.group.BitfileRow.{BitfileRow}
use Rattle.dm_durable.specs.declared.group.GroupRecord.{GroupRecord}
use Rattle.dm_durable.specs.declared.group.VolumeRow.{VolumeRow}
use Rattle.dm_durable.specs.Tables.{ByNumber, ByName}
use Rattle.dm_model.specs.declared.plan.Ending.TheVariants as ending
use Rattle.dm_model.specs.declared.state.CopyState.{CopyState}
use Rattle.dm_model.specs.declared.state.Image.{Image}
use Rattle.dm_model.specs.declared.state.MountState.{MountState}
use Rattle.dm_model.specs.declared.state.Moving.{Moving}
use Rattle.dm_model.specs.declared.state.OpenRequest.{OpenRequest}
use Rattle.dm_model.specs.declared.state.Origin.{Origin}
use Rattle.dm_model.specs.declared.state.Origin.TheVariants as origin
use Rattle.dm_model.specs.declared.state.Reserved.{Reserved}
use Rattle.dm_model.specs.declared.state.Reusing.{Reusing}
use Rattle.dm_model.specs.declared.state.Side.{Side}
use Rattle.dm_model.specs.GroupCalls.{is_of_move}
use Rattle.dm_model.specs.SideShare.{side_after_ending}
use Rattle.dm_invariant.specs.Kept.{SideKept}
use Rattle.dm_invariant.specs.Mounts.{OriginKept}
use Rattle.dm_invariant.specs.OnceLive.{MountOnce, OnceLive}
use Rattle.dm_invariant.specs.Places.{HasPlace, HasTarget, Live, Reserving, Target, Doubted, Owner}
use Rattle.dm_invariant.proofs.Options.{same_row}
use Rattle.dm_effects.proofs.MountEnded.{drives_left, move_left, reuse_left, same_mounts_left}
use Rattle.dm_effects.proofs.Uses.{FewerUses, doubt_fewer, open_of}

-- the job of a mount's move
abbrev pub job_of : Origin → ℕ → ℕ
job_of (origin.New listed format) other = other
job_of (origin.Piece b index piece chunk) other = other
job_of (origin.Chunk b chunk) other = other
job_of (origin.Source job b chunk) other = job
job_of (origin.Target job b total chunk version) other = job
job_of (origin.Reuse next_epoch version reading) other = other

-- who has a place still had it before
target_left : (moves : ByNumber Moving) (gone job : ℕ) (vsn : List ℕ) (place : ℕ) → HasTarget (map.remove moves gone) job vsn place
    → HasTarget moves job vsn place
target_left moves gone job vsn place has =
    record { moving = has.moving; is = (removed numbers moves gone job has.moving has.is).1; covers = has.covers }

has_left : (bitfiles : ByNumber BitfileRow) (reservations : ByNumber Reserved) (moves : ByNumber Moving) (doubt : Option GroupRecord) (gone : ℕ)
    (o : Owner) (vsn : List ℕ) (place : ℕ)
    → HasPlace bitfiles reservations (map.remove moves gone) doubt o vsn place → HasPlace bitfiles reservations moves doubt o vsn place
has_left bitfiles reservations moves doubt gone (Live b offset) vsn place has = has
has_left bitfiles reservations moves doubt gone (Reserving n offset) vsn place has = has
has_left bitfiles reservations moves doubt gone (Target job) vsn place has = target_left moves gone job vsn place has
has_left bitfiles reservations moves doubt gone (Doubted zone) vsn place has = has

once_left : (contents : ByNumber (List ℕ)) (volumes : ByName VolumeRow) (images : ByName Image) (reservations : ByNumber Reserved)
    (moves : ByNumber Moving) (gone epoch b : ℕ) (c : Chunk)
    → OnceLive contents volumes images reservations moves epoch b c
    → OnceLive contents volumes images reservations (map.remove moves gone) epoch b c
once_left contents volumes images reservations moves gone epoch b c k = record {
  volume = k.volume;
  is = k.is;
  still = λ same. let s = k.still same in record {
    behind = s.behind;
    within = s.within;
    sum = s.sum;
    bytes = s.bytes;
    content = s.content;
    known = s.known;
    right = s.right;
    beside_kept = s.beside_kept;
    beside_targets = λ job place covers has. s.beside_targets job place covers (target_left moves gone job c.vsn.0 place has);
  };
}

mount_once_left : (contents : ByNumber (List ℕ)) (volumes : ByName VolumeRow) (images : ByName Image) (reservations : ByNumber Reserved)
    (moves : ByNumber Moving) (gone epoch : ℕ) (o : Origin)
    → MountOnce contents volumes images reservations moves epoch o
    → MountOnce contents volumes images reservations (map.remove moves gone) epoch o
mount_once_left contents volumes images reservations moves gone epoch (origin.New listed format) k = k
mount_once_left contents volumes images reservations moves gone epoch (origin.Piece b index p chunk) k = k
mount_once_left contents volumes images reservations moves gone epoch (origin.Chunk b c) k =
    once_left contents volumes images reservations moves gone epoch b.0 c k
mount_once_left contents volumes images reservations moves gone epoch (origin.Source job b c) k =
    once_left contents volumes images reservations moves gone epoch b.0 c k
mount_once_left contents volumes images reservations moves gone epoch (origin.Target job b total c version) k = k
mount_once_left contents volumes images reservations moves gone epoch (origin.Reuse next_epoch version reading) k = k

-- a mount that is neither of the move's
origin_left : (conf : GroupConf) (reservations : ByNumber Reserved) (copies : ByNumber CopyState) (moves : ByNumber Moving)
    (reuses : ByNumber Reusing) (job q : ℕ) (x : Moving) (vsn : Vsn) (o : Origin)
    → map.get moves job ≡ Some x → q ≢ x.source → q ≢ x.target
    → OriginKept conf reservations copies moves reuses q vsn o → OriginKept conf reservations copies (map.remove moves job) reuses q vsn o
origin_left conf reservations copies moves reuses job q x vsn (origin.New listed format) is source target k = k
origin_left conf reservations copies moves reuses job q x vsn (origin.Piece b index p chunk) is source target k = k
origin_left conf reservations copies moves reuses job q x vsn (origin.Chunk b c) is source target k = k
origin_left conf reservations copies moves reuses job q x vsn (origin.Source other b c) is source target k =
    let differ : other ≢ job = λ e.
    let row = same_row (map.get moves job) k.moving x (ap (map.get moves) (sym e) ∙ k.is) is in
    source (sym k.source ∙ ap (λ (y : Moving). y.source) row) in
    record {
      moving = k.moving;
      is = removed-beside numbers moves job other differ ∙ k.is;
      source = k.source;
      bfid = k.bfid;
      from = k.from;
      volume = k.volume;
    }
origin_left conf reservations copies moves reuses job q x vsn (origin.Target other b total c version) is source target k =
    let differ : other ≢ job = λ e.
    let row = same_row (map.get moves job) k.moving x (ap (map.get moves) (sym e) ∙ k.is) is in
    target (sym k.target ∙ ap (λ (y : Moving). y.target) row) in
    record {
      moving = k.moving;
      is = removed-beside numbers moves job other differ ∙ k.is;
      target = k.target;
      bfid = k.bfid;
      whole = k.whole;
      to = k.to;
      same = k.same;
      volume = k.volume;
    }
origin_left conf reservations copies moves reuses job q x vsn (origin.Reuse next_epoch version reading) is source target k = k

-- mounts for different jobs differ
apart_by_job : (mounts : ByNumber MountState) (p q j i : ℕ) (y z : MountState) → map.get mounts p ≡ Some y → map.get mounts q ≡ Some z
    → job_of y.origin i ≡ j → job_of z.origin i ≡ i → j ≢ i → p ≢ q
apart_by_job mounts p q j i y z is at one two differ = λ same.
    let row = same_row (map.get mounts q) y z (ap (map.get mounts) (sym same) ∙ is) at in
    differ (sym one ∙ ap (λ (x : MountState). job_of x.origin i) row ∙ two)

-- so are those of none
apart_by_kind : (mounts : ByNumber MountState) (p q : ℕ) (y z : MountState) → map.get mounts p ≡ Some y → map.get mounts q ≡ Some z
    → is_of_move y.origin ≡ false → is_of_move z.origin ≡ true → p ≢ q
apart_by_kind mounts p q y z is at none of = λ same.
    let row = same_row (map.get mounts q) y z (ap (map.get mounts) (sym same) ∙ is) at in
    let f = ap (λ (x : MountState). is_of_move x.origin) row in cc

-- a row that is at neither of two keys stays when they go
beside_two : (mounts : ByNumber MountState) (p q k : ℕ) (x : MountState) → k ≢ p → k ≢ q → map.get mounts k ≡ Some x
    → map.get (map.remove (map.remove mounts p) q) k ≡ Some x
beside_two mounts p q k x one two is =
    removed-beside numbers (map.remove mounts p) q k two ∙ removed-beside numbers mounts p k one ∙ is

-- and one that is left was there, at neither of them
left_of_two : (mounts : ByNumber MountState) (p q k : ℕ) (x : MountState) → map.get (map.remove (map.remove mounts p) q) k ≡ Some x
    → (k ≢ p) × (k ≢ q) × (map.get mounts k ≡ Some x)
left_of_two mounts p q k x is =
    let one = removed numbers (map.remove mounts p) q k x is in
    let two = removed numbers mounts p k x one.1 in
    (two.0, one.0, two.1)

-- a move that ends keeps the side
pub side_move_ended : (entries : ByNumber Entry) (contents : ByNumber (List ℕ)) (taken : ByNumber (Unit {0})) (requests : ByNumber OpenRequest)
    (g : ℕ) (committed deleted : ByNumber (Unit {0})) (s : Side) (h : GroupId) (job : ℕ) (x : Moving)
    → map.get s.group.moves job ≡ Some x
    → SideKept entries contents taken requests g committed deleted s
    → SideKept entries contents taken requests g committed deleted (side_after_ending (ending.Move h job x.source x.target) s)
side_move_ended entries contents taken requests g committed deleted s h job x is k =
    let t = s.group.tables in
    let conf = s.group.conf in
    let mine = k.moves.moving job x is in
    let left = map.remove (map.remove s.mounts x.source) x.target in
    let fewer : FewerUses s.mounts left s.group.reservations s.group.reservations = record {
      mounted = λ q y at. (q, y, (left_of_two s.mounts x.source x.target q y at).2, refl);
      reserved = λ q r at. at;
    } in
    record {
      number = k.number;
      catalogue = k.catalogue;
      volumes = k.volumes;
      mounts = record {
        numbers = λ q y at. k.mounts.numbers q y (left_of_two s.mounts x.source x.target q y at).2;
        same = λ q. same_mounts_left (map.remove s.group.mounts x.source) (map.remove s.mounts x.source) x.target q
            (same_mounts_left s.group.mounts s.mounts x.source q (k.mounts.same q));
        epoch = λ q y at. k.mounts.epoch q y (left_of_two s.mounts x.source x.target q y at).2;
        apart = λ p q y z at and. k.mounts.apart p q y z (left_of_two s.mounts x.source x.target p y at).2
            (left_of_two s.mounts x.source x.target q z and).2;
        drives = drives_left (map.remove s.group.mounts x.source) x.target conf.drives
            (drives_left s.group.mounts x.source conf.drives k.mounts.drives);
        reads = λ q y at. k.mounts.reads q y (left_of_two s.mounts x.source x.target q y at).2;
        origin = λ q y at.
            let was = left_of_two s.mounts x.source x.target q y at in
            origin_left conf s.group.reservations s.copies s.group.moves s.group.reuses job q x y.vsn y.origin is was.0 was.1
            (k.mounts.origin q y was.2);
      };
      once = λ q y at. mount_once_left contents t.volumes s.images s.group.reservations s.group.moves job y.epoch y.origin
          (k.once q y (left_of_two s.mounts x.source x.target q y at).2);
      reservations = k.reservations;
      moves = record {
        numbers = λ i y at. k.moves.numbers i y (removed numbers s.group.moves job i y at).1;
        moving = λ i y at.
            let was = removed numbers s.group.moves job i y at in
            let m = k.moves.moving i y was.1 in
            let source = ap (λ o. job_of o job) m.source_for in
            let target = ap (λ o. job_of o job) m.target_for in
            let my_source = ap (λ o. job_of o job) mine.source_for in
            let my_target = ap (λ o. job_of o job) mine.target_for in
            move_left contents t.volumes s.group.tips s.images s.mounts left i y m
            (beside_two s.mounts x.source x.target y.source m.source
            (apart_by_job s.mounts y.source x.source i job m.source mine.source m.source_is mine.source_is source my_source was.0)
            (apart_by_job s.mounts y.source x.target i job m.source mine.target m.source_is mine.target_is source my_target was.0) m.source_is)
            (beside_two s.mounts x.source x.target y.target m.target
            (apart_by_job s.mounts y.target x.source i job m.target mine.source m.target_is mine.source_is target my_source was.0)
            (apart_by_job s.mounts y.target x.target i job m.target mine.target m.target_is mine.target_is target my_target was.0) m.target_is);
      };
      reuses = λ q y at.
          let kept = k.reuses q y at in
          let none = ap is_of_move kept.made_for in
          reuse_left conf.hold t.time.0 t.volumes s.group.tips s.mounts left q y kept
          (beside_two s.mounts x.source x.target q kept.mount
          (apart_by_kind s.mounts q x.source kept.mount mine.source kept.is mine.source_is none (ap is_of_move mine.source_for))
          (apart_by_kind s.mounts q x.target kept.mount mine.target kept.is mine.target_is none (ap is_of_move mine.target_for)) kept.is);
      places = λ o p vsn place one two. k.places o p vsn place
          (has_left t.bitfiles s.group.reservations s.group.moves s.group.doubt job o vsn place one)
          (has_left t.bitfiles s.group.reservations s.group.moves s.group.doubt job p vsn place two);
      doubt = doubt_fewer g entries contents taken deleted s
          (record (open_of s) {
            mounts = left;
            group_mounts = map.remove (map.remove s.group.mounts x.source) x.target;
            moves = map.remove s.group.moves job;
          })
          fewer s.group.doubt k.doubt;
    }
