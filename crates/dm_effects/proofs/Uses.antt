-- What is open of a group changes: a step in doubt stays one that may land, where fewer volumes are used.
use Rattle.std.proofs.Common.{◌≡◌, ℕ, List, Option, None, Some, refl, ◌∙◌}
use Rattle.std.specs.FinMap as map
use Rattle.dm_durable.specs.declared.daemon.Entry.{Entry}
use Rattle.dm_durable.specs.declared.group.GroupRecord.{GroupRecord}
use Rattle.dm_durable.specs.declared.group.GroupStep.{GroupStep}
use Rattle.dm_durable.specs.declared.group.GroupStep.TheVariants.{Volume, Commit, Delete, Move, Free, Reuse}
use Rattle.dm_durable.specs.Tables.{ByNumber}
use Rattle.dm_model.specs.declared.state.CopyState.{CopyState}
use Rattle.dm_model.specs.declared.state.Mounted.{Mounted}
use Rattle.dm_model.specs.declared.state.MountState.{MountState}
use Rattle.dm_model.specs.declared.state.Moving.{Moving}
use Rattle.dm_model.specs.declared.state.Reserved.{Reserved}
use Rattle.dm_model.specs.declared.state.Reusing.{Reusing}
use Rattle.dm_model.specs.declared.state.Side.{Side}
use Rattle.dm_invariant.specs.Doubts.{GroupMayLand, GroupMayLandIf, GroupStepNeeds, IsUnused}

-- what is open of a group: its tables, tips and volumes stay, and so does a step in doubt
pub record IsOpen : Type 0 where
  pub reservations : ByNumber Reserved
  pub next_reservation : ℕ
  pub copies : ByNumber CopyState
  pub mounts : ByNumber MountState
  pub group_mounts : ByNumber Mounted
  pub next_mount : ℕ
  pub moves : ByNumber Moving
  pub next_move : ℕ
  pub reuses : ByNumber Reusing

abbrev pub open_of : Side → IsOpen
open_of s = record {
  reservations = s.group.reservations;
  next_reservation = s.group.next_reservation;
  copies = s.copies;
  mounts = s.mounts;
  group_mounts = s.group.mounts;
  next_mount = s.group.next_mount;
  moves = s.group.moves;
  next_move = s.group.next_move;
  reuses = s.group.reuses;
}

abbrev pub with_open : IsOpen → Side → Side
with_open o s = record s {
  group = record s.group {
    reservations = o.reservations;
    next_reservation = o.next_reservation;
    mounts = o.group_mounts;
    next_mount = o.next_mount;
    moves = o.moves;
    next_move = o.next_move;
    reuses = o.reuses;
  };
  copies = o.copies;
  mounts = o.mounts;
}

-- each mount is of a volume that was mounted, and each reservation was there
pub record FewerUses (mounts after : ByNumber MountState) (reservations left : ByNumber Reserved) : Type 0 where
  pub mounted : (m : ℕ) (x : MountState) → map.get after m ≡ Some x → (n : ℕ) × (y : MountState) × (map.get mounts n ≡ Some y) × (y.vsn.0 ≡ x.vsn.0)
  pub reserved : (n : ℕ) (r : Reserved) → map.get left n ≡ Some r → map.get reservations n ≡ Some r

-- the same mounts and reservations
pub same_uses : (mounts : ByNumber MountState) (reservations : ByNumber Reserved) → FewerUses mounts mounts reservations reservations
same_uses mounts reservations = record { mounted = λ m x is. (m, x, is, refl); reserved = λ n r is. is }

unmounted_fewer : (mounts after : ByNumber MountState) (reservations left : ByNumber Reserved) (vsn : List ℕ)
    → FewerUses mounts after reservations left
    → ((m : ℕ) (x : MountState) → map.get mounts m ≡ Some x → x.vsn.0 ≡ vsn → ⊥)
    → (m : ℕ) (x : MountState) → map.get after m ≡ Some x → x.vsn.0 ≡ vsn → ⊥
unmounted_fewer mounts after reservations left vsn f none m x is same =
    let was = f.mounted m x is in none was.0 was.1 was.2 (was.3 ∙ same)

pub unused_fewer : (mounts after : ByNumber MountState) (reservations left : ByNumber Reserved) (vsn : List ℕ)
    → FewerUses mounts after reservations left → IsUnused mounts reservations vsn → IsUnused after left vsn
unused_fewer mounts after reservations left vsn f u = record {
  unmounted = unmounted_fewer mounts after reservations left vsn f u.unmounted;
  unreserved = λ n r is p among same. u.unreserved n r (f.reserved n r is) p among same;
}

module _ (g : ℕ) (entries : ByNumber Entry) (contents : ByNumber (List ℕ)) (taken deleted : ByNumber (Unit {0})) (s : Side) (o : IsOpen)
    (f : FewerUses s.mounts o.mounts s.group.reservations o.reservations) where
  needs_fewer : (now : ℕ) (step : GroupStep) → GroupStepNeeds g entries contents taken deleted s now step
      → GroupStepNeeds g entries contents taken deleted (with_open o s) now step
  needs_fewer now (Volume vsn slot version size) n = record {
    configured = n.configured;
    sized = n.sized;
    unmounted = unmounted_fewer s.mounts o.mounts s.group.reservations o.reservations vsn.0 f n.unmounted;
  }
  needs_fewer now (Commit b len chunks) n = record {
    puts = n.puts;
    whole = n.whole;
    apart = n.apart;
    unreserved = λ i r is same. n.unreserved i r (f.reserved i r is) same;
  }
  needs_fewer now (Delete b) n = n
  needs_fewer now (Move b from to) n = n
  needs_fewer now (Free vsn) n = record {
    unused = unused_fewer s.mounts o.mounts s.group.reservations o.reservations vsn.0 f n.unused;
    filled = n.filled;
  }
  needs_fewer now (Reuse vsn epoch version) n = record {
    unused = unused_fewer s.mounts o.mounts s.group.reservations o.reservations vsn.0 f n.unused;
    ready = n.ready;
  }

  pub may_land_fewer : (r : GroupRecord) → GroupMayLand g entries contents taken deleted s r
      → GroupMayLand g entries contents taken deleted (with_open o s) r
  may_land_fewer r m = record { follow = m.follow; needs = needs_fewer r.time.0 r.step m.needs }

  pub doubt_fewer : (doubt : Option GroupRecord) → GroupMayLandIf g entries contents taken deleted s doubt
      → GroupMayLandIf g entries contents taken deleted (with_open o s) doubt
  doubt_fewer None m = tt
  doubt_fewer (Some r) m = may_land_fewer r m
