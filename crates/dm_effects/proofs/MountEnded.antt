-- A mount ends, and with it the reuse of its volume, if it is for one: a side is kept where it is none of a move.
use Rattle.std.proofs.Common.{◌≡◌, ◌≢◌, ℕ, ◌-◌, ◌≤◌, Bool, true, false, cond, Some, None, Option, option_map, List, arith, refl, sym, ap, ◌∙◌, inl, inr}
use Rattle.std.specs.Cmp.{nat_cmp_total}
use Rattle.std.specs.FinMap as map
use Rattle.dm_base.specs.declared.conf.GroupConf.{GroupConf}
use Rattle.dm_base.specs.declared.identifier.GroupId.{GroupId}
use Rattle.dm_base.specs.declared.serial.Vsn.{Vsn}
use Rattle.dm_tables.proofs.Orders.{numbers, same_or}
use Rattle.dm_tables.proofs.Rows.{removed, removed-here, removed-beside}
use Rattle.dm_durable.specs.declared.daemon.Entry.{Entry}
use Rattle.dm_durable.specs.declared.group.BitfileRow.{BitfileRow}
use Rattle.dm_durable.specs.declared.group.VolumeRow.{VolumeRow}
use Rattle.dm_durable.specs.Tables.{ByNumber, ByName}
use Rattle.dm_model.specs.declared.plan.Ending.TheVariants as ending
use Rattle.dm_model.specs.declared.state.CopyReservation.{CopyReservation}
use Rattle.dm_model.specs.declared.state.CopyState.{CopyState}
use Rattle.dm_model.specs.declared.state.Image.{Image}
use Rattle.dm_model.specs.declared.state.Mounted.{Mounted}
use Rattle.dm_model.specs.declared.state.MountState.{MountState}
use Rattle.dm_model.specs.declared.state.Moving.{Moving}
use Rattle.dm_model.specs.declared.state.OpenRequest.{OpenRequest}
use Rattle.dm_model.specs.declared.state.Origin.{Origin}
use Rattle.dm_model.specs.declared.state.Origin.TheVariants as origin
use Rattle.dm_model.specs.declared.state.Reserved.{Reserved}
use Rattle.dm_model.specs.declared.state.Reusing.{Reusing}
use Rattle.dm_model.specs.declared.state.Side.{Side}
use Rattle.dm_model.specs.GroupCalls.{is_of_move}
use Rattle.dm_model.specs.SideShare.{copies_unmounted, copies_unmounted_if, side_after_ending, without_piece_mount}
use Rattle.dm_invariant.specs.Kept.{SideKept}
use Rattle.dm_invariant.specs.Mounts.{OriginKept, mounted_of}
use Rattle.dm_invariant.specs.Moves.{MoveKept, ReuseKept}
use Rattle.dm_invariant.specs.Reservations.{ReservationsKept}
use Rattle.dm_effects.proofs.Copies.{CopiesBy, copies_same, copies_changed, origin_by, reserved_by, copies_by}
use Rattle.dm_effects.proofs.Uses.{FewerUses, doubt_fewer, open_of}

-- ---- copies whose mounts change

-- a reservation before and after the mount m of it was made or ended
pub record HeldBeside (m : ℕ) (h k : CopyReservation) : Type 0 where
  pub number : k.number ≡ h.number
  pub written : k.written ≡ h.written
  pub mounts : (q : ℕ) → q ≢ m → map.get k.mounts q ≡ map.get h.mounts q

held_itself : (m : ℕ) (h : CopyReservation) → HeldBeside m h h
held_itself m h = record { number = refl; written = refl; mounts = λ q apart. refl }

taken_out : (m : ℕ) (h : CopyReservation) → HeldBeside m h (without_piece_mount m h)
taken_out m h = record { number = refl; written = refl; mounts = λ q apart. removed-beside numbers h.mounts m q apart }

from_origin : (m : ℕ) (o : Origin) (copies : ByNumber CopyState) → CopiesBy (HeldBeside m) copies (copies_unmounted m o copies)
from_origin m (origin.New listed format) copies = copies_same (HeldBeside m) (held_itself m) copies
from_origin m (origin.Piece b index piece chunk) copies =
    copies_changed (HeldBeside m) (held_itself m) b.0 (without_piece_mount m) copies (taken_out m)
from_origin m (origin.Chunk b chunk) copies = copies_same (HeldBeside m) (held_itself m) copies
from_origin m (origin.Source job b chunk) copies = copies_same (HeldBeside m) (held_itself m) copies
from_origin m (origin.Target job b total chunk version) copies = copies_same (HeldBeside m) (held_itself m) copies
from_origin m (origin.Reuse next_epoch version reading) copies = copies_same (HeldBeside m) (held_itself m) copies

copies_without : (m : ℕ) (o : Option MountState) (copies : ByNumber CopyState) → CopiesBy (HeldBeside m) copies (copies_unmounted_if m o copies)
copies_without m None copies = copies_same (HeldBeside m) (held_itself m) copies
copies_without m (Some x) copies = from_origin m x.origin copies

-- what is kept of reservations and copies
pub reservations_beside : (g : ℕ) (entries : ByNumber Entry) (contents : ByNumber (List ℕ)) (requests : ByNumber OpenRequest)
    (bitfiles : ByNumber BitfileRow) (volumes : ByName VolumeRow) (tips : ByName ℕ) (images : ByName Image) (reservations : ByNumber Reserved)
    (next : ℕ) (copies new : ByNumber CopyState) (m : ℕ)
    → CopiesBy (HeldBeside m) copies new
    → ReservationsKept g entries contents requests bitfiles volumes tips images reservations next copies
    → ReservationsKept g entries contents requests bitfiles volumes tips images reservations next new
reservations_beside g entries contents requests bitfiles volumes tips images reservations next copies new m on k = record {
  numbers = k.numbers;
  reservation = λ n r is.
      let was = k.reservation n r is in
      reserved_by (HeldBeside m) (λ h k on. on.number) copies new on bitfiles volumes tips images images n r was
      (λ c held on there has. λ index w is p at. was.written index w (ap (λ t. map.get t index) (sym on.written) ∙ is) p at);
  copy = copies_by (HeldBeside m) (λ h k on. on.number) copies new on g entries contents requests reservations k.copy;
}

-- what another mount was made for
pub origin_beside : (conf : GroupConf) (reservations : ByNumber Reserved) (copies new : ByNumber CopyState) (moves : ByNumber Moving)
    (reuses : ByNumber Reusing) (m q : ℕ) (vsn : Vsn) (o : Origin) → q ≢ m → CopiesBy (HeldBeside m) copies new
    → OriginKept conf reservations copies moves reuses q vsn o → OriginKept conf reservations new moves reuses q vsn o
origin_beside conf reservations copies new moves reuses m q vsn o apart on k =
    origin_by (HeldBeside m) (λ h k on. on.number) copies new on conf reservations moves reuses q vsn o (λ h k on. on.mounts q apart) k

-- ---- drives

less_by_one : (b : Bool) (n : ℕ) → cond b (n - 1) n ≤ n
less_by_one true n = omega arith
less_by_one false n = omega arith

pub drives_left : (mounts : ByNumber Mounted) (m n : ℕ) → map.len mounts ≤ n → map.len (map.remove mounts m) ≤ n
drives_left mounts m n few =
    let is = map.len-remove nat_cmp_total mounts m in
    let less = less_by_one (map.contains_key mounts m) (map.len mounts) in
    omega (arith, is, less, few)

pub same_mounts_left : (group_mounts : ByNumber Mounted) (mounts : ByNumber MountState) (m q : ℕ)
    → map.get group_mounts q ≡ option_map mounted_of (map.get mounts q)
    → map.get (map.remove group_mounts m) q ≡ option_map mounted_of (map.get (map.remove mounts m) q)
same_mounts_left group_mounts mounts m q same =
    elim (same_or numbers m q) [
      | inl here ↦ ap (map.get (map.remove group_mounts m)) here ∙ removed-here numbers group_mounts m
          ∙ sym (ap (option_map mounted_of) (ap (map.get (map.remove mounts m)) here ∙ removed-here numbers mounts m))
      | inr beside ↦ removed-beside numbers group_mounts m q beside ∙ same
          ∙ sym (ap (option_map mounted_of) (removed-beside numbers mounts m q beside))
    ]

-- ---- a mount ends

-- a mount of a move is another
not_of_move : (mounts : ByNumber MountState) (m q : ℕ) (x : MountState)
    → ((y : MountState) → map.get mounts m ≡ Some y → is_of_move y.origin ≡ false)
    → map.get mounts q ≡ Some x → is_of_move x.origin ≡ true → q ≢ m
not_of_move mounts m q x none is of = λ same. let f = none x (ap (map.get mounts) (sym same) ∙ is) in cc

origin_left : (conf : GroupConf) (reservations : ByNumber Reserved) (copies : ByNumber CopyState) (moves : ByNumber Moving)
    (reuses : ByNumber Reusing) (m q : ℕ) (vsn : Vsn) (o : Origin) → q ≢ m
    → OriginKept conf reservations copies moves reuses q vsn o → OriginKept conf reservations copies moves (map.remove reuses m) q vsn o
origin_left conf reservations copies moves reuses m q vsn (origin.New listed format) apart k = k
origin_left conf reservations copies moves reuses m q vsn (origin.Piece b index p chunk) apart k = k
origin_left conf reservations copies moves reuses m q vsn (origin.Chunk b c) apart k = k
origin_left conf reservations copies moves reuses m q vsn (origin.Source job b c) apart k = k
origin_left conf reservations copies moves reuses m q vsn (origin.Target job b total c version) apart k = k
origin_left conf reservations copies moves reuses m q vsn (origin.Reuse next_epoch version reading) apart k = record {
  reusing = k.reusing;
  is = removed-beside numbers reuses m q apart ∙ k.is;
  next = k.next;
  same = k.same;
  volume = k.volume;
}

pub move_left : (contents : ByNumber (List ℕ)) (volumes : ByName VolumeRow) (tips : ByName ℕ) (images : ByName Image) (mounts after : ByNumber MountState)
    (job : ℕ) (x : Moving) → (k : MoveKept contents volumes tips images mounts job x)
    → map.get after x.source ≡ Some k.source → map.get after x.target ≡ Some k.target
    → MoveKept contents volumes tips images after job x
move_left contents volumes tips images mounts after job x k source target = record {
  source = k.source;
  source_is = source;
  source_for = k.source_for;
  target = k.target;
  target_is = target;
  target_for = k.target_for;
  some = k.some;
  moved = k.moved;
  zone = k.zone;
  read = k.read;
  written = k.written;
}

pub reuse_left : (hold now : ℕ) (volumes : ByName VolumeRow) (tips : ByName ℕ) (mounts after : ByNumber MountState) (q : ℕ) (x : Reusing)
    → (k : ReuseKept hold now volumes tips mounts q x) → map.get after q ≡ Some k.mount → ReuseKept hold now volumes tips after q x
reuse_left hold now volumes tips mounts after q x k is = record {
  mount = k.mount;
  is = is;
  same = k.same;
  reading = k.reading;
  made_for = k.made_for;
  volume = k.volume;
  known = k.known;
  next = k.next;
  left = k.left;
  version = k.version;
  ready = k.ready;
}

-- a mount that ends keeps the side
pub side_mount_ended : (entries : ByNumber Entry) (contents : ByNumber (List ℕ)) (taken : ByNumber (Unit {0})) (requests : ByNumber OpenRequest)
    (g : ℕ) (committed deleted : ByNumber (Unit {0})) (s : Side) (h : GroupId) (m : ℕ)
    → ((x : MountState) → map.get s.mounts m ≡ Some x → is_of_move x.origin ≡ false)
    → SideKept entries contents taken requests g committed deleted s
    → SideKept entries contents taken requests g committed deleted (side_after_ending (ending.Mount h m) s)
side_mount_ended entries contents taken requests g committed deleted s h m none k =
    let t = s.group.tables in
    let conf = s.group.conf in
    let new = copies_unmounted_if m (map.get s.mounts m) s.copies in
    let on = copies_without m (map.get s.mounts m) s.copies in
    let left = map.remove s.mounts m in
    let fewer : FewerUses s.mounts left s.group.reservations s.group.reservations = record {
      mounted = λ q x is. (q, x, (removed numbers s.mounts m q x is).1, refl);
      reserved = λ q r is. is;
    } in
    record {
      number = k.number;
      catalogue = k.catalogue;
      volumes = k.volumes;
      mounts = record {
        numbers = λ q x is. k.mounts.numbers q x (removed numbers s.mounts m q x is).1;
        same = λ q. same_mounts_left s.group.mounts s.mounts m q (k.mounts.same q);
        epoch = λ q x is. k.mounts.epoch q x (removed numbers s.mounts m q x is).1;
        apart = λ p q x y is at. k.mounts.apart p q x y (removed numbers s.mounts m p x is).1 (removed numbers s.mounts m q y at).1;
        drives = drives_left s.group.mounts m conf.drives k.mounts.drives;
        reads = λ q x is. k.mounts.reads q x (removed numbers s.mounts m q x is).1;
        origin = λ q x is.
            let was = removed numbers s.mounts m q x is in
            origin_left conf s.group.reservations new s.group.moves s.group.reuses m q x.vsn x.origin was.0
            (origin_beside conf s.group.reservations s.copies new s.group.moves s.group.reuses m q x.vsn x.origin was.0 on
            (k.mounts.origin q x was.1));
      };
      once = λ q x is. k.once q x (removed numbers s.mounts m q x is).1;
      reservations =
          reservations_beside g entries contents requests t.bitfiles t.volumes s.group.tips s.images s.group.reservations s.group.next_reservation
          s.copies new m on k.reservations;
      moves = record {
        numbers = k.moves.numbers;
        moving = λ job x is.
            let was = k.moves.moving job x is in
            let source = not_of_move s.mounts m x.source was.source none was.source_is (ap is_of_move was.source_for) in
            let target = not_of_move s.mounts m x.target was.target none was.target_is (ap is_of_move was.target_for) in
            move_left contents t.volumes s.group.tips s.images s.mounts left job x was
            (removed-beside numbers s.mounts m x.source source ∙ was.source_is)
            (removed-beside numbers s.mounts m x.target target ∙ was.target_is);
      };
      reuses = λ q x is.
          let was = removed numbers s.group.reuses m q x is in
          let kept = k.reuses q x was.1 in
          reuse_left conf.hold t.time.0 t.volumes s.group.tips s.mounts left q x kept (removed-beside numbers s.mounts m q was.0 ∙ kept.is);
      places = k.places;
      doubt = doubt_fewer g entries contents taken deleted s
          (record (open_of s) {
            copies = new;
            mounts = left;
            group_mounts = map.remove s.group.mounts m;
            reuses = map.remove s.group.reuses m;
          })
          fewer s.group.doubt k.doubt;
    }
