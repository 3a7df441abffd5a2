-- What is kept of chunks, zones and mounts goes over to tables in which their volumes are as they were, or written further.
use Rattle.std.proofs.Common.{◌≡◌, ℕ, ◌+◌, ◌-◌, ◌<◌, ◌≤◌, true, false, cond, List, [], ◌∷◌, Option, Some, None, length, nat_eq, sym, ap, subst, ◌∙◌, inl, inr, arith}
use Rattle.std.specs.FinMap as map
use Rattle.dm_base.specs.Limits.{epoch_limit}
use Rattle.dm_base.specs.declared.identifier.Secs.{Secs}
use Rattle.dm_base.specs.declared.volume.Chunk.{Chunk}
use Rattle.dm_base.specs.declared.volume.Piece.{Piece}
use Rattle.dm_rules.specs.Known.{known_bytes}
use Rattle.dm_rules.specs.Numbers.{greater}
use Rattle.dm_rules.specs.Plan.{zone_end}
use Rattle.dm_rules.specs.Version.{has_sum}
use Rattle.dm_rules.specs.Zone.{weight}
use Rattle.dm_durable.specs.declared.daemon.Entry.{Entry}
use Rattle.dm_durable.specs.declared.group.BitfileRow.{BitfileRow}
use Rattle.dm_durable.specs.declared.group.VolumeRow.{VolumeRow}
use Rattle.dm_durable.specs.Tables.{ByNumber, ByName}
use Rattle.dm_durable.specs.Volumes.{tip_in}
use Rattle.dm_model.specs.declared.state.CopyState.{CopyState}
use Rattle.dm_model.specs.declared.state.Image.{Image}
use Rattle.dm_model.specs.declared.state.MountState.{MountState}
use Rattle.dm_model.specs.declared.state.Moving.{Moving}
use Rattle.dm_model.specs.declared.state.Origin.{Origin}
use Rattle.dm_model.specs.declared.state.Origin.TheVariants as origin
use Rattle.dm_model.specs.declared.state.Reserved.{Reserved}
use Rattle.dm_model.specs.declared.state.Reusing.{Reusing}
use Rattle.dm_model.specs.declared.state.WrittenZone.{WrittenZone}
use Rattle.dm_model.specs.GroupCalls.{piece_at}
use Rattle.dm_invariant.specs.Among.{IsAmong}
use Rattle.dm_invariant.specs.Assemble.{ChunkKnown, known_on}
use Rattle.dm_invariant.specs.Catalogue.{BitfileKept, LiesBefore}
use Rattle.dm_invariant.specs.Moves.{IsReadyAt, MoveKept, ReuseKept, TargetInHand, WrittenRight}
use Rattle.dm_invariant.specs.OnceLive.{MountOnce, OnceLive, StillThere}
use Rattle.dm_invariant.specs.Reservations.{ReservationKept, WrittenKept, ZoneInHand}

-- the piece at a place of a list is among the list
pub piece_among : (k : ℕ) (ps : List Piece) (p : Piece) → piece_at k ps ≡ Some p → IsAmong p ps
piece_among k [] p is = cc
piece_among k (q ∷ qs) p is =
    elim (nat_eq k 0) as (λ b. cond b (Some q) (piece_at (k - 1) qs) ≡ Some p → IsAmong p (q ∷ qs)) [
      | true ↦ λ e. let same : p ≡ q = cc in inl same
      | false ↦ λ e. inr (piece_among (k - 1) qs p e)
    ] is

-- a time by which a volume was ready is followed by ones by which it still is
pub ready_later : (now later hold tip : ℕ) (since : Option Secs) → now ≤ later → IsReadyAt now hold tip since → IsReadyAt later hold tip since
ready_later now later hold tip None after ready = ready
ready_later now later hold tip (Some t) after ready = omega (arith, after, ready)

pub greater_later : (reading now later : ℕ) → now ≤ later → greater reading now ≤ greater reading later
greater_later reading now later after = omega (arith, after)

module _ (volumes after : ByName VolumeRow) (tips tips_after : ByName ℕ) (images images_after : ByName Image) where
  -- a volume is as it was, but that it may be written further
  pub record SameOn (q : List ℕ) (v w : VolumeRow) : Type 0 where
    pub held : w.held ≡ v.held
    pub version : w.version ≡ v.version
    pub epoch : w.epoch ≡ v.epoch
    pub low : v.end ≤ w.end
    pub tip : tip_in tips_after q w ≡ tip_in tips q v
    pub known : known_on images_after q ≡ known_on images q

  -- the volume of this serial number is so, if the tables have it
  abbrev pub OnwardAt : List ℕ → Type 0
  OnwardAt q = (v : VolumeRow) → map.get volumes q ≡ Some v → (w : VolumeRow) × (map.get after q ≡ Some w) × SameOn q v w

  pub lies_onward : (c : Chunk) → OnwardAt c.vsn.0 → LiesBefore volumes c → LiesBefore after c
  lies_onward c on l =
      let o = on l.volume l.is in
      let low = o.2.low in
      let within = l.within in
      record {
        volume = o.0;
        is = o.1;
        usable = o.2.held ∙ l.usable;
        behind = l.behind;
        within = omega (arith, low, within);
        sum = l.sum ∙ sym (ap has_sum o.2.version);
      }

  pub known_onward : (bytes : List ℕ) (c : Chunk) (v : VolumeRow) → OnwardAt c.vsn.0 → map.get volumes c.vsn.0 ≡ Some v
      → ChunkKnown images bytes c → ChunkKnown images_after bytes c
  known_onward bytes c v on is known = ap (λ k. known_bytes k c.place c.len) (on v is).2.known ∙ known

  pub bitfile_onward : (g : ℕ) (entries : ByNumber Entry) (contents : ByNumber (List ℕ)) (b : ℕ) (row : BitfileRow)
      → ((c : Chunk) → IsAmong c row.chunks → OnwardAt c.vsn.0)
      → BitfileKept g entries contents volumes images b row → BitfileKept g entries contents after images_after b row
  bitfile_onward g entries contents b row on k = record {
    of = k.of;
    len = k.len;
    joins = k.joins;
    lies = λ c among. lies_onward c (on c among) (k.lies c among);
    known = λ c among. let l = k.lies c among in known_onward k.of.bytes c l.volume (on c among) l.is (k.known c among);
    sums = k.sums;
  }

  pub zone_onward : (chunk : ℕ) (p : Piece) → OnwardAt p.vsn.0 → ZoneInHand volumes tips chunk p → ZoneInHand after tips_after chunk p
  zone_onward chunk p on z =
      let o = on z.volume z.is in
      record {
        volume = o.0;
        is = o.1;
        usable = o.2.held ∙ z.usable;
        version = z.version ∙ sym o.2.version;
        behind = z.behind;
        within = subst (λ t. zone_end chunk p ≤ t) (sym o.2.tip) z.within;
      }

  pub written_onward : (chunk : ℕ) (p : Piece) (v : VolumeRow) (w : WrittenZone) → OnwardAt p.vsn.0 → map.get volumes p.vsn.0 ≡ Some v
      → WrittenKept images chunk p w → WrittenKept images_after chunk p w
  written_onward chunk p v w on is k = record {
    len = k.len;
    known = ap (λ k. known_bytes k p.zone (length w.zone)) (on v is).2.known ∙ k.known;
  }

  pub reservation_onward : (bitfiles new : ByNumber BitfileRow) (copies : ByNumber CopyState) (n : ℕ) (r : Reserved)
      → map.get new r.bfid.0 ≡ None → ((p : Piece) → IsAmong p r.pieces → OnwardAt p.vsn.0)
      → ReservationKept bitfiles volumes tips images copies n r → ReservationKept new after tips_after images_after copies n r
  reservation_onward bitfiles new copies n r none on k = record {
    copy = k.copy;
    is = k.is;
    held = k.held;
    has = k.has;
    number = k.number;
    len = k.len;
    new = none;
    some = k.some;
    joins = k.joins;
    zones = λ p among. zone_onward r.chunk p (on p among) (k.zones p among);
    written = λ index w is p at.
        let among = piece_among index r.pieces p at in
        let z = k.zones p among in
        written_onward r.chunk p z.volume w (on p among) z.is (k.written index w is p at);
  }

  pub target_onward : (version : ℕ) (c : Chunk) → OnwardAt c.vsn.0 → TargetInHand volumes tips version c
      → TargetInHand after tips_after version c
  target_onward version c on z =
      let o = on z.volume z.is in
      record {
        volume = o.0;
        is = o.1;
        usable = o.2.held ∙ z.usable;
        same = z.same ∙ sym o.2.version;
        behind = z.behind;
        within = subst (λ t. c.zone + weight version c.len ≤ t) (sym o.2.tip) z.within;
      }

  target_written_onward : (version : ℕ) (c : Chunk) (v : VolumeRow) (zone : Option (List ℕ)) → OnwardAt c.vsn.0
      → map.get volumes c.vsn.0 ≡ Some v
      → WrittenRight images version c zone → WrittenRight images_after version c zone
  target_written_onward version c v None on is k = tt
  target_written_onward version c v (Some zone) on is k = record {
    len = k.len;
    known = ap (λ k. known_bytes k c.zone (length zone)) (on v is).2.known ∙ k.known;
  }

  pub move_onward : (contents : ByNumber (List ℕ)) (mounts : ByNumber MountState) (job : ℕ) (x : Moving) → OnwardAt x.to.vsn.0
      → MoveKept contents volumes tips images mounts job x → MoveKept contents after tips_after images_after mounts job x
  move_onward contents mounts job x on k = record {
    source = k.source;
    source_is = k.source_is;
    source_for = k.source_for;
    target = k.target;
    target_is = k.target_is;
    target_for = k.target_for;
    some = k.some;
    moved = k.moved;
    zone = target_onward x.version x.to on k.zone;
    read = k.read;
    written = target_written_onward x.version x.to k.zone.volume k.target.written on k.zone.is k.written;
  }

  pub still_onward : (contents : ByNumber (List ℕ)) (reservations : ByNumber Reserved) (moves : ByNumber Moving) (v w : VolumeRow) (b : ℕ)
      (c : Chunk) → SameOn c.vsn.0 v w
      → StillThere contents images reservations moves v b c → StillThere contents images_after reservations moves w b c
  still_onward contents reservations moves v w b c same k =
      let low = same.low in
      let within = k.within in
      record {
        behind = k.behind;
        within = omega (arith, low, within);
        sum = k.sum ∙ sym (ap has_sum same.version);
        bytes = k.bytes;
        content = k.content;
        known = ap (λ k. known_bytes k c.place c.len) same.known ∙ k.known;
        right = k.right;
        beside_kept = k.beside_kept;
        beside_targets = k.beside_targets;
      }

  pub once_onward : (contents : ByNumber (List ℕ)) (reservations : ByNumber Reserved) (moves : ByNumber Moving) (epoch b : ℕ) (c : Chunk)
      → OnwardAt c.vsn.0
      → OnceLive contents volumes images reservations moves epoch b c → OnceLive contents after images_after reservations moves epoch b c
  once_onward contents reservations moves epoch b c on k =
      let o = on k.volume k.is in
      record {
        volume = o.0;
        is = o.1;
        still = λ e. still_onward contents reservations moves k.volume o.0 b c o.2 (k.still (sym o.2.epoch ∙ e));
      }

  -- the chunk of a mount, if it is for one
  abbrev pub OriginOnward : Origin → Type 0
  OriginOnward (origin.New listed format) = Unit {0}
  OriginOnward (origin.Piece b index p chunk) = Unit {0}
  OriginOnward (origin.Chunk b c) = OnwardAt c.vsn.0
  OriginOnward (origin.Source job b c) = OnwardAt c.vsn.0
  OriginOnward (origin.Target job b total c version) = Unit {0}
  OriginOnward (origin.Reuse next_epoch version reading) = Unit {0}

  pub mount_once_onward : (contents : ByNumber (List ℕ)) (reservations : ByNumber Reserved) (moves : ByNumber Moving) (epoch : ℕ)
      (made : Origin) → OriginOnward made
      → MountOnce contents volumes images reservations moves epoch made → MountOnce contents after images_after reservations moves epoch made
  mount_once_onward contents reservations moves epoch (origin.New listed format) on k = tt
  mount_once_onward contents reservations moves epoch (origin.Piece b index p chunk) on k = tt
  mount_once_onward contents reservations moves epoch (origin.Chunk b c) on k =
      once_onward contents reservations moves epoch b.0 c on k
  mount_once_onward contents reservations moves epoch (origin.Source job b c) on k =
      once_onward contents reservations moves epoch b.0 c on k
  mount_once_onward contents reservations moves epoch (origin.Target job b total c version) on k = tt
  mount_once_onward contents reservations moves epoch (origin.Reuse next_epoch version reading) on k = tt

  pub reuse_onward : (hold now later : ℕ) (mounts : ByNumber MountState) (m : ℕ) (x : Reusing) → now ≤ later → OnwardAt x.vsn.0
      → ReuseKept hold now volumes tips mounts m x → ReuseKept hold later after tips_after mounts m x
  reuse_onward hold now later mounts m x on_time on k =
      let o = on k.volume k.known in
      let ready = ready_later _ _ hold _ k.volume.held (greater_later k.reading.0 now later on_time) k.ready in
      let at_tip = subst (λ t. IsReadyAt (greater k.reading.0 later) hold t k.volume.held) (sym o.2.tip) ready in
      record {
        mount = k.mount;
        is = k.is;
        same = k.same;
        reading = k.reading;
        made_for = k.made_for;
        volume = o.0;
        known = o.1;
        next = k.next ∙ ap (λ e. e + 1) (sym o.2.epoch);
        left = subst (λ e. e < epoch_limit) (sym o.2.epoch) k.left;
        version = k.version;
        ready = subst (λ h. IsReadyAt (greater k.reading.0 later) hold (tip_in tips_after x.vsn.0 o.0) h) (sym o.2.held) at_tip;
      }
