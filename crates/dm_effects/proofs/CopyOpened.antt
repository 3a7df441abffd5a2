-- A put begins, and with it a copy of it: a side is kept where no copy of the bitfile has a reservation.
use Rattle.std.proofs.Common.{◌≡◌, ℕ, true, None, List, sym, ap, ◌∙◌, inl, inr}
use Rattle.std.specs.FinMap as map
use Rattle.dm_base.specs.declared.conf.GroupConf.{GroupConf}
use Rattle.dm_base.specs.declared.identifier.GroupId.{GroupId}
use Rattle.dm_base.specs.declared.serial.Vsn.{Vsn}
use Rattle.dm_tables.proofs.Orders.{numbers}
use Rattle.dm_tables.proofs.Rows.{get-beside, get-here, inserted}
use Rattle.dm_durable.specs.declared.daemon.Entry.{Entry}
use Rattle.dm_durable.specs.Tables.{ByNumber}
use Rattle.dm_model.specs.declared.plan.Opening.TheVariants as opening
use Rattle.dm_model.specs.declared.state.CopyState.{CopyState}
use Rattle.dm_model.specs.declared.state.Moving.{Moving}
use Rattle.dm_model.specs.declared.state.OpenRequest.{OpenRequest}
use Rattle.dm_model.specs.declared.state.Origin.{Origin}
use Rattle.dm_model.specs.declared.state.Origin.TheVariants as origin
use Rattle.dm_model.specs.declared.state.Reserved.{Reserved}
use Rattle.dm_model.specs.declared.state.Reusing.{Reusing}
use Rattle.dm_model.specs.declared.state.Side.{Side}
use Rattle.dm_model.specs.Files.{is_put}
use Rattle.dm_model.specs.SideShare.{side_after_opening}
use Rattle.dm_invariant.specs.Catalogue.{AskedBitfile}
use Rattle.dm_invariant.specs.Kept.{SideKept}
use Rattle.dm_invariant.specs.Mounts.{OriginKept}
use Rattle.dm_invariant.proofs.LookUps.{beside_free}
use Rattle.dm_invariant.proofs.Options.{none_some}
use Rattle.dm_effects.proofs.CopyEnded.{IsUnreserved, reserved_apart}
use Rattle.dm_effects.proofs.Uses.{doubt_fewer, open_of, same_uses}

-- the put is of a bitfile that was asked of the group; its number is free
pub record PutOpens (g : ℕ) (entries : ByNumber Entry) (contents : ByNumber (List ℕ)) (requests : ByNumber OpenRequest)
    (copies : ByNumber CopyState) (n : ℕ) (r : OpenRequest) (len : ℕ) : Type 0 where
  pub free : map.get requests n ≡ None
  pub put : is_put r.kind ≡ true
  pub of : AskedBitfile g entries contents r.bfid.0
  pub len_is : of.entry.len ≡ len
  pub unreserved : IsUnreserved copies r.bfid.0

origin_more : (conf : GroupConf) (reservations : ByNumber Reserved) (copies : ByNumber CopyState) (moves : ByNumber Moving)
    (reuses : ByNumber Reusing) (b m : ℕ) (c : CopyState) (vsn : Vsn) (o : Origin) → IsUnreserved copies b
    → OriginKept conf reservations copies moves reuses m vsn o → OriginKept conf reservations (map.insert copies b c) moves reuses m vsn o
origin_more conf reservations copies moves reuses b m c vsn (origin.New listed format) none k = k
origin_more conf reservations copies moves reuses b m c vsn (origin.Piece q index p chunk) none k = record {
  copy = k.copy;
  is = get-beside numbers copies b c q.0 (reserved_apart copies b q.0 k.copy k.held none k.is k.has) ∙ k.is;
  held = k.held;
  has = k.has;
  mount = k.mount;
  reserved = k.reserved;
  there = k.there;
  same = k.same;
  cut = k.cut;
  piece = k.piece;
  volume = k.volume;
}
origin_more conf reservations copies moves reuses b m c vsn (origin.Chunk d e) none k = k
origin_more conf reservations copies moves reuses b m c vsn (origin.Source job d e) none k = k
origin_more conf reservations copies moves reuses b m c vsn (origin.Target job d total e version) none k = k
origin_more conf reservations copies moves reuses b m c vsn (origin.Reuse next_epoch version reading) none k = k

-- a put that begins keeps the side
pub side_put_opened : (entries : ByNumber Entry) (contents : ByNumber (List ℕ)) (taken : ByNumber (Unit {0})) (requests : ByNumber OpenRequest)
    (g : ℕ) (committed deleted : ByNumber (Unit {0})) (s : Side) (n : ℕ) (r : OpenRequest) (len : ℕ) (groups : List GroupId)
    → PutOpens g entries contents requests s.copies n r len
    → SideKept entries contents taken requests g committed deleted s
    → SideKept entries contents taken (map.insert requests n r) g committed deleted (side_after_opening (opening.Put n r len groups) s)
side_put_opened entries contents taken requests g committed deleted s n r len groups opens k =
    let made : CopyState = record { request = n; len = len; reservation = None } in
    let after = map.insert s.copies r.bfid.0 made in
    record {
      number = k.number;
      catalogue = k.catalogue;
      volumes = k.volumes;
      mounts = record {
        numbers = k.mounts.numbers;
        same = k.mounts.same;
        epoch = k.mounts.epoch;
        apart = k.mounts.apart;
        drives = k.mounts.drives;
        reads = k.mounts.reads;
        origin = λ m x is. origin_more s.group.conf s.group.reservations s.copies s.group.moves s.group.reuses r.bfid.0 m made x.vsn x.origin
            opens.unreserved (k.mounts.origin m x is);
      };
      once = k.once;
      reservations = record {
        numbers = k.reservations.numbers;
        reservation = λ q y is.
            let was = k.reservations.reservation q y is in
            record {
              copy = was.copy;
              is = get-beside numbers s.copies r.bfid.0 made y.bfid.0
                  (reserved_apart s.copies r.bfid.0 y.bfid.0 was.copy was.held opens.unreserved was.is was.has) ∙ was.is;
              held = was.held;
              has = was.has;
              number = was.number;
              len = was.len;
              new = was.new;
              some = was.some;
              joins = was.joins;
              zones = was.zones;
              written = was.written;
            };
        copy = λ b c is. elim (inserted numbers s.copies r.bfid.0 made b c is) [
          | inl here ↦
              let same = ap (λ (d : CopyState). d.len) here.1 in
              let request = ap (λ (d : CopyState). d.request) here.1 in
              record {
                of = record {
                  entry = opens.of.entry;
                  is = ap (map.get entries) here.0 ∙ opens.of.is;
                  asked = opens.of.asked;
                  bytes = opens.of.bytes;
                  content = ap (map.get contents) here.0 ∙ opens.of.content;
                  sized = opens.of.sized;
                };
                len = opens.len_is ∙ sym same;
                put = record {
                  request = r;
                  is = ap (map.get (map.insert requests n r)) request ∙ get-here numbers requests n r;
                  put = opens.put;
                  same = sym here.0;
                };
                reservation = λ held has. absurd (none_some c.reservation held (ap (λ (d : CopyState). d.reservation) here.1) has);
              }
          | inr beside ↦
              let was = k.reservations.copy b c beside.1 in
              record {
                of = was.of;
                len = was.len;
                put = record {
                  request = was.put.request;
                  is = beside_free numbers requests n c.request r was.put.request opens.free was.put.is;
                  put = was.put.put;
                  same = was.put.same;
                };
                reservation = was.reservation;
              }
        ];
      };
      moves = k.moves;
      reuses = k.reuses;
      places = k.places;
      doubt = doubt_fewer g entries contents taken deleted s (record (open_of s) { copies = after }) (same_uses s.mounts s.group.reservations)
          s.group.doubt k.doubt;
    }
