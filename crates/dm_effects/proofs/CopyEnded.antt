-- A put ends, and with it a copy of it: a side is kept where the copy has no reservation.
use Rattle.std.proofs.Common.{◌≡◌, ◌≢◌, ℕ, Some, None, List, sym, ap, ◌∙◌}
use Rattle.std.specs.FinMap as map
use Rattle.dm_base.specs.declared.conf.GroupConf.{GroupConf}
use Rattle.dm_base.specs.declared.identifier.Bfid.{Bfid}
use Rattle.dm_base.specs.declared.identifier.GroupId.{GroupId}
use Rattle.dm_base.specs.declared.serial.Vsn.{Vsn}
use Rattle.dm_tables.proofs.Orders.{numbers}
use Rattle.dm_tables.proofs.Rows.{removed, removed-beside}
use Rattle.dm_durable.specs.declared.daemon.Entry.{Entry}
use Rattle.dm_durable.specs.Tables.{ByNumber}
use Rattle.dm_model.specs.declared.plan.Ending.TheVariants as ending
use Rattle.dm_model.specs.declared.state.CopyReservation.{CopyReservation}
use Rattle.dm_model.specs.declared.state.CopyState.{CopyState}
use Rattle.dm_model.specs.declared.state.Moving.{Moving}
use Rattle.dm_model.specs.declared.state.OpenRequest.{OpenRequest}
use Rattle.dm_model.specs.declared.state.Origin.{Origin}
use Rattle.dm_model.specs.declared.state.Origin.TheVariants as origin
use Rattle.dm_model.specs.declared.state.Reserved.{Reserved}
use Rattle.dm_model.specs.declared.state.Reusing.{Reusing}
use Rattle.dm_model.specs.declared.state.Side.{Side}
use Rattle.dm_model.specs.SideShare.{side_after_ending}
use Rattle.dm_invariant.specs.Kept.{SideKept}
use Rattle.dm_invariant.specs.Mounts.{OriginKept}
use Rattle.dm_invariant.proofs.Options.{none_some}
use Rattle.dm_effects.proofs.Uses.{doubt_fewer, open_of, same_uses}

-- the bitfile's copy, if there is one, has no reservation
abbrev pub IsUnreserved : ByNumber CopyState → ℕ → Type 0
IsUnreserved copies b = (c : CopyState) → map.get copies b ≡ Some c → c.reservation ≡ None

-- a copy that has one is of another bitfile
pub reserved_apart : (copies : ByNumber CopyState) (b q : ℕ) (c : CopyState) (held : CopyReservation) → IsUnreserved copies b
    → map.get copies q ≡ Some c → c.reservation ≡ Some held → q ≢ b
reserved_apart copies b q c held none is has = λ same. none_some c.reservation held (none c (ap (map.get copies) (sym same) ∙ is)) has

origin_left : (conf : GroupConf) (reservations : ByNumber Reserved) (copies : ByNumber CopyState) (moves : ByNumber Moving)
    (reuses : ByNumber Reusing) (b m : ℕ) (vsn : Vsn) (o : Origin) → IsUnreserved copies b
    → OriginKept conf reservations copies moves reuses m vsn o → OriginKept conf reservations (map.remove copies b) moves reuses m vsn o
origin_left conf reservations copies moves reuses b m vsn (origin.New listed format) none k = k
origin_left conf reservations copies moves reuses b m vsn (origin.Piece q index p chunk) none k = record {
  copy = k.copy;
  is = removed-beside numbers copies b q.0 (reserved_apart copies b q.0 k.copy k.held none k.is k.has) ∙ k.is;
  held = k.held;
  has = k.has;
  mount = k.mount;
  reserved = k.reserved;
  there = k.there;
  same = k.same;
  cut = k.cut;
  piece = k.piece;
  volume = k.volume;
}
origin_left conf reservations copies moves reuses b m vsn (origin.Chunk c d) none k = k
origin_left conf reservations copies moves reuses b m vsn (origin.Source job c d) none k = k
origin_left conf reservations copies moves reuses b m vsn (origin.Target job c total d version) none k = k
origin_left conf reservations copies moves reuses b m vsn (origin.Reuse next_epoch version reading) none k = k

-- a put that ends keeps the side, where each other copy's put stays open
pub side_put_ended : (entries : ByNumber Entry) (contents : ByNumber (List ℕ)) (taken : ByNumber (Unit {0})) (requests : ByNumber OpenRequest)
    (g : ℕ) (committed deleted : ByNumber (Unit {0})) (s : Side) (n : ℕ) (b : Bfid) (groups : List GroupId)
    → IsUnreserved s.copies b.0
    → ((r : OpenRequest) → map.get requests n ≡ Some r → r.bfid.0 ≡ b.0)
    → SideKept entries contents taken requests g committed deleted s
    → SideKept entries contents taken (map.remove requests n) g committed deleted (side_after_ending (ending.Put n b groups) s)
side_put_ended entries contents taken requests g committed deleted s n b groups none mine k =
    let left = map.remove s.copies b.0 in
    record {
      number = k.number;
      catalogue = k.catalogue;
      volumes = k.volumes;
      mounts = record {
        numbers = k.mounts.numbers;
        same = k.mounts.same;
        epoch = k.mounts.epoch;
        apart = k.mounts.apart;
        drives = k.mounts.drives;
        reads = k.mounts.reads;
        origin = λ m x is. origin_left s.group.conf s.group.reservations s.copies s.group.moves s.group.reuses b.0 m x.vsn x.origin none
            (k.mounts.origin m x is);
      };
      once = k.once;
      reservations = record {
        numbers = k.reservations.numbers;
        reservation = λ q r is.
            let was = k.reservations.reservation q r is in
            record {
              copy = was.copy;
              is = removed-beside numbers s.copies b.0 r.bfid.0 (reserved_apart s.copies b.0 r.bfid.0 was.copy was.held none was.is was.has) ∙ was.is;
              held = was.held;
              has = was.has;
              number = was.number;
              len = was.len;
              new = was.new;
              some = was.some;
              joins = was.joins;
              zones = was.zones;
              written = was.written;
            };
        copy = λ q c is.
            let at = removed numbers s.copies b.0 q c is in
            let was = k.reservations.copy q c at.1 in
            let other : c.request ≢ n = λ e. at.0 (sym was.put.same ∙ mine was.put.request (ap (map.get requests) (sym e) ∙ was.put.is)) in
            record {
              of = was.of;
              len = was.len;
              put = record {
                request = was.put.request;
                is = removed-beside numbers requests n c.request other ∙ was.put.is;
                put = was.put.put;
                same = was.put.same;
              };
              reservation = was.reservation;
            };
      };
      moves = k.moves;
      reuses = k.reuses;
      places = k.places;
      doubt = doubt_fewer g entries contents taken deleted s (record (open_of s) { copies = left }) (same_uses s.mounts s.group.reservations)
          s.group.doubt k.doubt;
    }
