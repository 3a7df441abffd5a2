-- What is kept of requests, recalls, mounts, reservations, moves and reuses where none is open.
use Rattle.std.proofs.Common.{◌≡◌, ◌≤◌, ℕ, List, option_map, nat_cmp, refl, sym, ap, arith, ◌∙◌}
use Rattle.std.specs.FinMap as map
use Rattle.dm_base.specs.declared.conf.GroupConf.{GroupConf}
use Rattle.dm_tables.proofs.Rows.{each-empty}
use Rattle.dm_durable.specs.declared.daemon.Entry.{Entry}
use Rattle.dm_durable.specs.declared.daemon.Inode.{Inode}
use Rattle.dm_durable.specs.declared.group.BitfileRow.{BitfileRow}
use Rattle.dm_durable.specs.declared.group.VolumeRow.{VolumeRow}
use Rattle.dm_durable.specs.Tables.{ByName, ByNumber}
use Rattle.dm_model.specs.declared.state.Image.{Image}
use Rattle.dm_model.specs.declared.state.Mounted.{Mounted}
use Rattle.dm_model.specs.declared.state.MountState.{MountState}
use Rattle.dm_model.specs.declared.state.OpenRequest.{OpenRequest}
use Rattle.dm_invariant.specs.Mounts.{MountsKept, mounted_of}
use Rattle.dm_invariant.specs.Moves.{MovesKept}
use Rattle.dm_invariant.specs.Requests.{RecallsKept, RequestsKept}
use Rattle.dm_invariant.specs.Reservations.{ReservationsKept}
use Rattle.dm_invariant.proofs.LookUps.{none_in_empty}

pub requests_none : (next : ℕ) (inodes : ByNumber Inode) (entries : ByNumber Entry) (contents : ByNumber (List ℕ))
    → RequestsKept map.empty next inodes entries contents
requests_none next inodes entries contents = record {
  numbers = each-empty nat_cmp _;
  entry = each-empty nat_cmp _;
  content = each-empty nat_cmp _;
  puts = each-empty nat_cmp _;
  recalls = each-empty nat_cmp _;
  puts_apart = λ k l r s is other a b same. absurd (none_in_empty nat_cmp map.empty k r refl is);
}

pub recalls_none : (requests : ByNumber OpenRequest) (entries : ByNumber Entry) (contents : ByNumber (List ℕ)) → RecallsKept map.empty requests entries contents
recalls_none requests entries contents = record {
  kept = each-empty nat_cmp _;
  apart = λ v w k x y r s is other a b. absurd (none_in_empty nat_cmp map.empty v x refl is);
}

-- nothing is mounted
few : (drives : ℕ) → map.len (map.empty {X = Mounted} {R = nat_cmp}) ≤ drives
few drives = let none = map.len-empty nat_cmp Mounted in omega (arith, none)

nothing_mounted : (m : ℕ) → map.get (map.empty {X = Mounted} {R = nat_cmp}) m ≡ option_map mounted_of (map.get (map.empty {X = MountState} {R = nat_cmp}) m)
nothing_mounted m = map.get-empty {X = Mounted} nat_cmp m ∙ sym (ap (option_map mounted_of) (map.get-empty {X = MountState} nat_cmp m))

pub mounts_none : (conf : GroupConf) (volumes : ByName VolumeRow) (next : ℕ)
    → MountsKept conf volumes map.empty map.empty map.empty map.empty map.empty next map.empty
mounts_none conf volumes next = record {
  numbers = each-empty nat_cmp _;
  same = nothing_mounted;
  epoch = each-empty nat_cmp _;
  apart = λ m n x y is other same. absurd (none_in_empty nat_cmp map.empty m x refl is);
  drives = few conf.drives;
  origin = each-empty nat_cmp _;
  reads = each-empty nat_cmp _;
}

pub reservations_none : (g : ℕ) (entries : ByNumber Entry) (contents : ByNumber (List ℕ)) (requests : ByNumber OpenRequest)
    (bitfiles : ByNumber BitfileRow) (volumes : ByName VolumeRow) (tips : ByName ℕ) (images : ByName Image) (next : ℕ)
    → ReservationsKept g entries contents requests bitfiles volumes tips images map.empty next map.empty
reservations_none g entries contents requests bitfiles volumes tips images next =
    record { numbers = each-empty nat_cmp _; reservation = each-empty nat_cmp _; copy = each-empty nat_cmp _ }

pub moves_none : (contents : ByNumber (List ℕ)) (volumes : ByName VolumeRow) (tips : ByName ℕ) (images : ByName Image) (mounts : ByNumber MountState) (next : ℕ)
    → MovesKept contents volumes tips images mounts next map.empty
moves_none contents volumes tips images mounts next = record { numbers = each-empty nat_cmp _; moving = each-empty nat_cmp _ }
