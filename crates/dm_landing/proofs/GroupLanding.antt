-- A record of a group lands: what of the side's subjects goes over by itself, where the volumes that are used stay.
use Rattle.std.proofs.Common.{◌≡◌, ℕ, ◌≤◌, List, Option, None, sym, ap, ◌∙◌}
use Rattle.std.specs.FinMap as map
use Rattle.dm_base.specs.declared.volume.Piece.{Piece}
use Rattle.dm_tables.specs.Rows.{EachRow}
use Rattle.dm_durable.specs.declared.daemon.Entry.{Entry}
use Rattle.dm_durable.specs.declared.group.GroupRecord.{GroupRecord}
use Rattle.dm_durable.specs.declared.group.GroupTables.{GroupTables}
use Rattle.dm_durable.specs.Tables.{ByNumber, ByName}
use Rattle.dm_durable.specs.Volumes.{epoch_or}
use Rattle.dm_model.specs.declared.state.Image.{Image}
use Rattle.dm_model.specs.declared.state.OpenRequest.{OpenRequest}
use Rattle.dm_model.specs.declared.state.Side.{Side}
use Rattle.dm_invariant.specs.Among.{IsAmong}
use Rattle.dm_invariant.specs.Catalogue.{CatalogueKept}
use Rattle.dm_invariant.specs.Kept.{SideKept}
use Rattle.dm_invariant.specs.Places.{HasPlace, Live, Reserving, Target, Doubted, Owner, PlacesKept}
use Rattle.dm_invariant.specs.Volumes.{VolumesKept}
use Rattle.dm_landing.proofs.VolumesOnward.{OnwardAt, OriginOnward, mount_once_onward, move_onward, reservation_onward, reuse_onward}

-- the side with these tables, tips and images, and nothing in doubt
abbrev pub landed_as : GroupTables → ByName ℕ → ByName Image → Side → Side
landed_as t tips images s =
    record s { group = record s.group { tables = t; tips = tips; doubt = None }; images = images }

-- a volume of the side is as it was in these, but that it may be written further
abbrev pub StaysAt : Side → GroupTables → ByName ℕ → ByName Image → List ℕ → Type 0
StaysAt s t tips images vsn = OnwardAt s.group.tables.volumes t.volumes s.group.tips tips s.images images vsn

-- what is open has what it is about: each volume that is used stays, and no reservation is of a bitfile that is there
pub record OpenStays (s : Side) (t : GroupTables) (tips : ByName ℕ) (images : ByName Image) : Type 0 where
  pub number : t.group ≡ s.group.tables.group
  pub later : s.group.tables.time.0 ≤ t.time.0
  pub epochs : EachRow s.mounts (λ m x. epoch_or (map.get t.volumes x.vsn.0) ≡ epoch_or (map.get s.group.tables.volumes x.vsn.0))
  pub chunks : EachRow s.mounts (λ m x. OriginOnward s.group.tables.volumes t.volumes s.group.tips tips s.images images x.origin)
  pub pieces : EachRow s.group.reservations (λ n r. (p : Piece) → IsAmong p r.pieces → StaysAt s t tips images p.vsn.0)
  pub new : EachRow s.group.reservations (λ n r. map.get t.bitfiles r.bfid.0 ≡ None)
  pub targets : EachRow s.group.moves (λ job x. StaysAt s t tips images x.to.vsn.0)
  pub reused : EachRow s.group.reuses (λ m x. StaysAt s t tips images x.vsn.0)

-- so the side is kept, with its bitfiles, volumes and places
pub side_as : (entries : ByNumber Entry) (contents : ByNumber (List ℕ)) (taken : ByNumber (Unit {0})) (requests : ByNumber OpenRequest)
    (g : ℕ) (committed more deleted : ByNumber (Unit {0})) (s : Side) (t : GroupTables) (tips : ByName ℕ) (images : ByName Image)
    → OpenStays s t tips images
    → SideKept entries contents taken requests g committed deleted s
    → CatalogueKept g entries contents taken t.volumes images t.bitfiles more deleted
    → VolumesKept s.group.conf t.time.0 t.volumes tips
    → PlacesKept t.bitfiles s.group.reservations s.group.moves None
    → SideKept entries contents taken requests g more deleted (landed_as t tips images s)
side_as entries contents taken requests g committed more deleted s t tips images on k catalogue volumes places =
    let old = s.group.tables in
    record {
      number = record { same = ap (λ x. x.0) on.number ∙ k.number.same; fits = k.number.fits };
      catalogue = catalogue;
      volumes = volumes;
      mounts = record {
        numbers = k.mounts.numbers;
        same = k.mounts.same;
        epoch = λ m x is. k.mounts.epoch m x is ∙ sym (on.epochs m x is);
        apart = k.mounts.apart;
        drives = k.mounts.drives;
        reads = k.mounts.reads;
        origin = k.mounts.origin;
      };
      once = λ m x is. mount_once_onward old.volumes t.volumes s.group.tips tips s.images images contents s.group.reservations s.group.moves
          x.epoch x.origin (on.chunks m x is) (k.once m x is);
      reservations = record {
        numbers = k.reservations.numbers;
        reservation = λ n r is. reservation_onward old.volumes t.volumes s.group.tips tips s.images images old.bitfiles t.bitfiles s.copies n r
            (on.new n r is) (on.pieces n r is) (k.reservations.reservation n r is);
        copy = k.reservations.copy;
      };
      moves = record {
        numbers = k.moves.numbers;
        moving = λ job x is. move_onward old.volumes t.volumes s.group.tips tips s.images images contents s.mounts job x (on.targets job x is)
            (k.moves.moving job x is);
      };
      reuses = λ m x is. reuse_onward old.volumes t.volumes s.group.tips tips s.images images s.group.conf.hold old.time.0 t.time.0 s.mounts m x
          on.later (on.reused m x is) (k.reuses m x is);
      places = places;
      doubt = tt;
    }

-- who has a place with nothing in doubt has it with something in doubt
pub has_more : (s : Side) (doubt : Option GroupRecord) (o : Owner) (vsn : List ℕ) (place : ℕ)
    → HasPlace s.group.tables.bitfiles s.group.reservations s.group.moves None o vsn place
    → HasPlace s.group.tables.bitfiles s.group.reservations s.group.moves doubt o vsn place
has_more s doubt (Live b offset) vsn place has = has
has_more s doubt (Reserving n offset) vsn place has = has
has_more s doubt (Target job) vsn place has = has
has_more s doubt (Doubted zone) vsn place has = absurd has.among

-- so no place is of two where nothing is in doubt any more
pub places_settled : (s : Side) (doubt : Option GroupRecord) → PlacesKept s.group.tables.bitfiles s.group.reservations s.group.moves doubt
    → PlacesKept s.group.tables.bitfiles s.group.reservations s.group.moves None
places_settled s doubt k =
    λ o p vsn place one two. k o p vsn place (has_more s doubt o vsn place one) (has_more s doubt p vsn place two)
