-- A move begins, with its two mounts: the tip of the target rises, and the zone of the moved chunk has the places behind it. A
-- side is kept where both volumes aren't mounted, drives are free, and nothing is in doubt.
use Rattle.std.proofs.Common.{◌≡◌, ◌⊎◌, ℕ, suc, ◌+◌, ◌-◌, ◌<◌, ◌≤◌, true, false, nat_eq, is_some, eq-eqb, Some, None, Option, List, [], ◌∷◌, refl, sym, ap, subst, ◌∙◌, arith, inl, inr}
use Rattle.std.proofs.lemmas.Bool.{or_left}
use Rattle.std.specs.FinMap as map
use Rattle.dm_base.specs.declared.conf.GroupConf.{GroupConf}
use Rattle.dm_base.specs.declared.identifier.GroupId.{GroupId}
use Rattle.dm_base.specs.declared.serial.Vsn.{Vsn}
use Rattle.dm_base.specs.declared.volume.Chunk.{Chunk}
use Rattle.dm_rules.specs.Version.{IsVersion, first_version, has_sum, second_version}
use Rattle.dm_rules.specs.Zone.{weight}
use Rattle.dm_tables.specs.Rows.{EachRow}
use Rattle.dm_tables.proofs.Orders.{numbers}
use Rattle.dm_tables.proofs.Rows.{each-beside, each-insert, get-beside, get-here, inserted}
use Rattle.dm_durable.specs.declared.daemon.Entry.{Entry}
use Rattle.dm_durable.specs.declared.group.BitfileRow.{BitfileRow}
use Rattle.dm_durable.specs.declared.group.GroupRecord.{GroupRecord}
use Rattle.dm_durable.specs.declared.group.VolumeRow.{VolumeRow}
use Rattle.dm_durable.specs.GroupConditions.{Joins}
use Rattle.dm_durable.specs.Tables.{ByName, ByNumber}
use Rattle.dm_durable.specs.Volumes.{Usage, epoch_or}
use Rattle.dm_model.specs.declared.plan.Opening.TheVariants as opening
use Rattle.dm_model.specs.declared.state.CopyState.{CopyState}
use Rattle.dm_model.specs.declared.state.Image.{Image}
use Rattle.dm_model.specs.declared.state.MountState.{MountState}
use Rattle.dm_model.specs.declared.state.Moving.{Moving}
use Rattle.dm_model.specs.declared.state.OpenRequest.{OpenRequest}
use Rattle.dm_model.specs.declared.state.Origin.{Origin}
use Rattle.dm_model.specs.declared.state.Origin.TheVariants as origin
use Rattle.dm_model.specs.declared.state.Reserved.{Reserved}
use Rattle.dm_model.specs.declared.state.Reusing.{Reusing}
use Rattle.dm_model.specs.declared.state.Side.{Side}
use Rattle.dm_model.specs.GroupShare.{tip_behind_moved}
use Rattle.dm_model.specs.SideShare.{is_bound, new_mount, side_after_opening, source_of, target_of}
use Rattle.dm_model.specs.Volumes.{usage_of}
use Rattle.dm_invariant.specs.Among.{IsAmong}
use Rattle.dm_invariant.specs.Kept.{SideKept}
use Rattle.dm_invariant.specs.Mounts.{MayRead, OriginKept, ReadsChunk, mounted_of}
use Rattle.dm_invariant.specs.Moves.{IsMoved, MoveKept}
use Rattle.dm_invariant.specs.OnceLive.{MountOnce, OnceLive}
use Rattle.dm_invariant.specs.Places.{Doubted, HasPlace, HasTarget, Reserving, Live, Owner, Target, TargetCovers}
use Rattle.dm_invariant.proofs.LookUps.{beside_free}
use Rattle.dm_effects.proofs.MountEnded.{move_left, reuse_left}
use Rattle.dm_effects.proofs.MountOpened.{apart_more, drive_taken, other_number, same_mounts_more}
use Rattle.dm_effects.proofs.ReuseOpened.{nothing_in_doubt}
use Rattle.dm_group_effects.proofs.PlacesMore.{BeforeTip, beyond_tip, end_before, owner_before, places_more}
use Rattle.dm_group_effects.proofs.ReservationOpened.{free_number}
use Rattle.dm_group_effects.proofs.TipsMoved.{NewZone, one_reaches, one_risen}
use Rattle.dm_group_effects.proofs.TipsRisen.{TipsRise, side_tips_risen}

-- ---- a chunk that is live

-- each chunk of a list that joins has bytes
pub chunk_some : (from to : ℕ) (cs : List Chunk) (c : Chunk) → Joins from cs to → IsAmong c cs → 0 < c.len
chunk_some from to [] c joins among = absurd among
chunk_some from to (d ∷ ds) c joins (inl same) = subst (λ (x : Chunk). 0 < x.len) (sym same) joins.1
chunk_some from to (d ∷ ds) c joins (inr after) = chunk_some (from + d.len) to ds c joins.2 after

-- a live chunk is one that was once live, under the epoch of its volume
pub live_once : (entries : ByNumber Entry) (contents : ByNumber (List ℕ)) (taken : ByNumber (Unit {0})) (requests : ByNumber OpenRequest)
    (g : ℕ) (committed deleted : ByNumber (Unit {0})) (s : Side) (epoch b : ℕ) (row : BitfileRow) (c : Chunk)
    → map.get s.group.tables.bitfiles b ≡ Some row → IsAmong c row.chunks
    → SideKept entries contents taken requests g committed deleted s
    → OnceLive contents s.group.tables.volumes s.images s.group.reservations s.group.moves epoch b c
live_once entries contents taken requests g committed deleted s epoch b row c is among k =
    let file = k.catalogue.bitfile b row is in
    let lies = file.lies c among in
    record {
      volume = lies.volume;
      is = lies.is;
      still = λ same. record {
        behind = lies.behind;
        within = lies.within;
        sum = lies.sum;
        bytes = file.of.bytes;
        content = file.of.content;
        known = file.known c among;
        right = file.sums c among;
        beside_kept = λ n offset place covers has.
            let e = k.places (Live b c.offset) (Reserving n offset) c.vsn.0 place
            (record { row = row; is = is; chunk = c; among = among; at = refl; covers = covers }) has in cc;
        beside_targets = λ job place covers has.
            let e = k.places (Live b c.offset) (Target job) c.vsn.0 place
            (record { row = row; is = is; chunk = c; among = among; at = refl; covers = covers }) has in cc;
      };
    }

-- ---- reads that give what is known

version_first : (v : ℕ) → IsVersion v → has_sum v ≡ false → nat_eq v first_version ≡ true
version_first v is none =
    let low = is.low in
    let high = is.high in
    let differs : v ≡ second_version → ⊥ = λ same. let e = eq-eqb v second_version same in cc in
    eq-eqb v first_version (omega (arith, low, high, differs))

bound_at : (faithful : List ℕ) (o : Option VolumeRow) (v : VolumeRow) → o ≡ Some v → nat_eq v.version first_version ≡ true
    → is_bound faithful o ≡ true
bound_at faithful None v is first = cc
bound_at faithful (Some w) v is first =
    let same : w ≡ v = cc in
    or_left _ _ (ap (λ (x : VolumeRow). nat_eq x.version first_version) same ∙ first)

-- a live chunk has bytes; and where it has no sum, it stands on a volume whose reads give what is known
pub live_reads : (entries : ByNumber Entry) (contents : ByNumber (List ℕ)) (taken : ByNumber (Unit {0})) (requests : ByNumber OpenRequest)
    (g : ℕ) (committed deleted : ByNumber (Unit {0})) (s : Side) (b : ℕ) (row : BitfileRow) (c : Chunk)
    → map.get s.group.tables.bitfiles b ≡ Some row → IsAmong c row.chunks
    → SideKept entries contents taken requests g committed deleted s
    → ReadsChunk c (is_bound s.faithful (map.get s.group.tables.volumes c.vsn.0))
live_reads entries contents taken requests g committed deleted s b row c is among k =
    let file = k.catalogue.bitfile b row is in
    let lies = file.lies c among in
    let volume = k.volumes.volume c.vsn.0 lies.volume lies.is in
    record {
      some = chunk_some 0 row.len row.chunks c file.joins among;
      known = λ none.
          let unsummed : has_sum lies.volume.version ≡ false = sym lies.sum ∙ ap is_some none in
          bound_at s.faithful (map.get s.group.tables.volumes c.vsn.0) lies.volume lies.is
          (version_first lies.volume.version volume.version unsummed);
    }

-- ---- what a move needs

pub record MoveOpens (s : Side) (job source_epoch target_epoch : ℕ) (x : Moving) : Type 0 where
  pub number : s.group.next_move ≤ job
  pub first : s.group.next_mount ≤ x.source
  pub next : x.source + 1 ≤ x.target
  pub source_epoch_is : source_epoch ≡ epoch_or (map.get s.group.tables.volumes x.from.vsn.0)
  pub target_epoch_is : target_epoch ≡ epoch_or (map.get s.group.tables.volumes x.to.vsn.0)
  pub source_free : EachRow s.mounts (λ n y. y.vsn.0 ≡ x.from.vsn.0 → ⊥)
  pub target_free : EachRow s.mounts (λ n y. y.vsn.0 ≡ x.to.vsn.0 → ⊥)
  pub differ : x.from.vsn.0 ≡ x.to.vsn.0 → ⊥
  pub drives : suc (suc (map.len s.group.mounts)) ≤ s.group.conf.drives
  pub row : BitfileRow
  pub is : map.get s.group.tables.bitfiles x.bfid.0 ≡ Some row
  pub among : IsAmong x.from row.chunks
  pub zone : NewZone (usage_of s.group) s.group.tables.volumes x.to.vsn.0 x.version x.to.zone (x.to.zone + weight x.version x.to.len)
  pub moved : IsMoved x.version x.from x.to
  pub settled : s.group.doubt ≡ None

-- ---- places

record HasMoved (job : ℕ) (x : Moving) (o : Owner) (vsn : List ℕ) (place : ℕ) : Type 0 where
  owner : o ≡ Target job
  covers : TargetCovers x.version x.to vsn place

has_moved : (job q : ℕ) (x y : Moving) (vsn : List ℕ) (place : ℕ) → q ≡ job → y ≡ x → TargetCovers y.version y.to vsn place
    → HasMoved job x (Target q) vsn place
has_moved job q x y vsn place number same covers = record {
  owner = ap (λ i. Target i) number;
  covers = subst (λ (z : Moving). TargetCovers z.version z.to vsn place) same covers;
}

target_split : (moves : ByNumber Moving) (job : ℕ) (x : Moving) (q : ℕ) (vsn : List ℕ) (place : ℕ)
    → HasTarget (map.insert moves job x) q vsn place → HasMoved job x (Target q) vsn place ⊎ HasTarget moves q vsn place
target_split moves job x q vsn place h =
    elim (inserted numbers moves job x q h.moving h.is) [
      | inl at ↦ inl (has_moved job q x h.moving vsn place at.0 at.1 h.covers)
      | inr was ↦ inr (record { moving = h.moving; is = was.1; covers = h.covers })
    ]

split : (bitfiles : ByNumber BitfileRow) (reservations : ByNumber Reserved) (moves : ByNumber Moving) (doubt : Option GroupRecord) (job : ℕ)
    (x : Moving) (o : Owner) (vsn : List ℕ) (place : ℕ)
    → HasPlace bitfiles reservations (map.insert moves job x) doubt o vsn place
    → HasMoved job x o vsn place ⊎ HasPlace bitfiles reservations moves doubt o vsn place
split bitfiles reservations moves doubt job x (Live b offset) vsn place h = inr h
split bitfiles reservations moves doubt job x (Reserving n offset) vsn place h = inr h
split bitfiles reservations moves doubt job x (Target q) vsn place h = target_split moves job x q vsn place h
split bitfiles reservations moves doubt job x (Doubted zone) vsn place h = inr h

module _ (u : Usage) (volumes : ByName VolumeRow) (job : ℕ) (x : Moving)
    (zone : NewZone u volumes x.to.vsn.0 x.version x.to.zone (x.to.zone + weight x.version x.to.len)) where
  moved_beyond : (o : Owner) (vsn : List ℕ) (place : ℕ) → HasMoved job x o vsn place → BeforeTip volumes u.tips vsn place → ⊥
  moved_beyond o vsn place h before =
      beyond_tip u volumes x.to.vsn.0 x.version x.to.zone (x.to.zone + weight x.version x.to.len) place zone h.covers.low
      (subst (λ q. BeforeTip volumes u.tips q place) (sym h.covers.same) before)

  one_moved : (o p : Owner) (vsn : List ℕ) (place : ℕ) → HasMoved job x o vsn place → HasMoved job x p vsn place → o ≡ p
  one_moved o p vsn place h i = h.owner ∙ sym i.owner

  once_more : (contents : ByNumber (List ℕ)) (images : ByName Image) (reservations : ByNumber Reserved) (moves : ByNumber Moving) (epoch q : ℕ) (c : Chunk)
      → ((vsn : List ℕ) (v : VolumeRow) (place : ℕ) → map.get volumes vsn ≡ Some v → place < v.end → BeforeTip volumes u.tips vsn place)
      → OnceLive contents volumes images reservations moves epoch q c
      → OnceLive contents volumes images reservations (map.insert moves job x) epoch q c
  once_more contents images reservations moves epoch q c ends k = record {
    volume = k.volume;
    is = k.is;
    still = λ same. let s = k.still same in record {
      behind = s.behind;
      within = s.within;
      sum = s.sum;
      bytes = s.bytes;
      content = s.content;
      known = s.known;
      right = s.right;
      beside_kept = s.beside_kept;
      beside_targets = λ i place covers has. elim (target_split moves job x i c.vsn.0 place has) [
        | inl new ↦
            let within = s.within in
            let high = covers.high in
            moved_beyond (Target i) c.vsn.0 place new (ends c.vsn.0 k.volume place k.is (omega (arith, within, high)))
        | inr was ↦ s.beside_targets i place covers was
      ];
    };
  }

  mount_once_more : (contents : ByNumber (List ℕ)) (images : ByName Image) (reservations : ByNumber Reserved) (moves : ByNumber Moving) (epoch : ℕ)
      (o : Origin)
      → ((vsn : List ℕ) (v : VolumeRow) (place : ℕ) → map.get volumes vsn ≡ Some v → place < v.end → BeforeTip volumes u.tips vsn place)
      → MountOnce contents volumes images reservations moves epoch o
      → MountOnce contents volumes images reservations (map.insert moves job x) epoch o
  mount_once_more contents images reservations moves epoch (origin.New listed format) ends k = k
  mount_once_more contents images reservations moves epoch (origin.Piece q index p chunk) ends k = k
  mount_once_more contents images reservations moves epoch (origin.Chunk q c) ends k = once_more contents images reservations moves epoch q.0 c ends k
  mount_once_more contents images reservations moves epoch (origin.Source i q c) ends k =
      once_more contents images reservations moves epoch q.0 c ends k
  mount_once_more contents images reservations moves epoch (origin.Target i q total c version) ends k = k
  mount_once_more contents images reservations moves epoch (origin.Reuse next_epoch version reading) ends k = k

-- ---- mounts

origin_more : (conf : GroupConf) (reservations : ByNumber Reserved) (copies : ByNumber CopyState) (moves : ByNumber Moving)
    (reuses : ByNumber Reusing) (job : ℕ) (x : Moving) (m : ℕ) (vsn : Vsn) (o : Origin) → map.get moves job ≡ None
    → OriginKept conf reservations copies moves reuses m vsn o → OriginKept conf reservations copies (map.insert moves job x) reuses m vsn o
origin_more conf reservations copies moves reuses job x m vsn (origin.New listed format) free k = k
origin_more conf reservations copies moves reuses job x m vsn (origin.Piece b index p chunk) free k = k
origin_more conf reservations copies moves reuses job x m vsn (origin.Chunk b c) free k = k
origin_more conf reservations copies moves reuses job x m vsn (origin.Source i b c) free k = record {
  moving = k.moving;
  is = beside_free numbers moves job i x k.moving free k.is;
  source = k.source;
  bfid = k.bfid;
  from = k.from;
  volume = k.volume;
}
origin_more conf reservations copies moves reuses job x m vsn (origin.Target i b total c version) free k = record {
  moving = k.moving;
  is = beside_free numbers moves job i x k.moving free k.is;
  target = k.target;
  bfid = k.bfid;
  whole = k.whole;
  to = k.to;
  same = k.same;
  volume = k.volume;
}
origin_more conf reservations copies moves reuses job x m vsn (origin.Reuse next_epoch version reading) free k = k

-- what holds of each mount and of two more
two_more : (P : ℕ → MountState → Type 0) (mounts : ByNumber MountState) (m n : ℕ) (x y : MountState) → P m x → P n y → EachRow mounts P
    → EachRow (map.insert (map.insert mounts m x) n y) P
two_more P mounts m n x y one two each =
    each-insert numbers P (map.insert mounts m x) n y two (each-insert numbers P mounts m x one each)

-- ---- the side

-- a move that begins keeps the side
pub side_move_opened : (entries : ByNumber Entry) (contents : ByNumber (List ℕ)) (taken : ByNumber (Unit {0})) (requests : ByNumber OpenRequest)
    (g : ℕ) (committed deleted : ByNumber (Unit {0})) (s : Side) (h : GroupId) (job source_epoch target_epoch : ℕ) (x : Moving)
    → MoveOpens s job source_epoch target_epoch x
    → SideKept entries contents taken requests g committed deleted s
    → SideKept entries contents taken requests g committed deleted (side_after_opening (opening.Move h job x source_epoch target_epoch) s)
side_move_opened entries contents taken requests g committed deleted s h job source_epoch target_epoch x opens k =
    let t = s.group.tables in
    let conf = s.group.conf in
    let u = usage_of s.group in
    let end : ℕ = x.to.zone + weight x.version x.to.len in
    let new = tip_behind_moved x s.group.tips in
    let rise : TipsRise t.volumes s.group.reuses s.group.tips new =
    one_risen s.group t.time.0 x.to.vsn.0 x.version x.to.zone end k.volumes opens.zone in
    let risen = side_tips_risen entries contents taken requests g committed deleted s new rise opens.settled k in
    let later = opens.number in
    let first = opens.first in
    let next = opens.next in
    let free = free_number (map.get s.group.moves job) job s.group.next_move (λ y at. k.moves.numbers job y at) later in
    let more = map.insert s.group.moves job x in
    let a = new_mount s x.from.vsn source_epoch (source_of job x) in
    let b = new_mount s x.to.vsn target_epoch (target_of job x) in
    let one = map.insert s.mounts x.source a in
    let both = map.insert one x.target b in
    let ends : (vsn : List ℕ) (v : VolumeRow) (place : ℕ) → map.get t.volumes vsn ≡ Some v → place < v.end → BeforeTip t.volumes u.tips vsn place =
    λ vsn v place is low. end_before conf t.time.0 t.volumes u.tips vsn v place k.volumes.volume is low in
    let stays : (q : ℕ) (y : MountState) → map.get s.mounts q ≡ Some y → map.get both q ≡ Some y = λ q y is.
    get-beside numbers one x.target b q (other_number s.mounts x.target q s.group.next_mount y k.mounts.numbers (omega (arith, first, next)) is)
    ∙ get-beside numbers s.mounts x.source a q (other_number s.mounts x.source q s.group.next_mount y k.mounts.numbers first is) ∙ is in
    let once = once_more u t.volumes job x opens.zone contents s.images s.group.reservations s.group.moves source_epoch x.bfid.0 x.from ends
    (live_once entries contents taken requests g committed deleted s source_epoch x.bfid.0 opens.row x.from opens.is opens.among k) in
    let reads = live_reads entries contents taken requests g committed deleted s x.bfid.0 opens.row x.from opens.is opens.among k in
    let drives = opens.drives in
    let one_drive = drive_taken s.group.mounts x.source (mounted_of a) (conf.drives - 1) (omega (arith, drives)) in
    let z = opens.zone in
    let volume = k.volumes.volume x.to.vsn.0 z.volume z.is in
    let label = volume.label in
    let low = volume.end in
    let from = z.from in
    record {
      number = k.number;
      catalogue = k.catalogue;
      volumes = risen.volumes;
      mounts = record {
        numbers = two_more (λ q y. q < x.target + 1) s.mounts x.source x.target a b (omega (arith, next)) (omega arith)
            (λ q y at. let f = k.mounts.numbers q y at in omega (arith, f, first, next));
        same = λ q. same_mounts_more (map.insert s.group.mounts x.source (mounted_of a)) one x.target q b
            (same_mounts_more s.group.mounts s.mounts x.source q a (k.mounts.same q));
        epoch = two_more (λ q y. y.epoch ≡ epoch_or (map.get t.volumes y.vsn.0)) s.mounts x.source x.target a b opens.source_epoch_is
            opens.target_epoch_is k.mounts.epoch;
        apart = apart_more one x.target b
            (each-insert numbers (λ q (y : MountState). y.vsn.0 ≡ x.to.vsn.0 → ⊥) s.mounts x.source a opens.differ opens.target_free)
            (apart_more s.mounts x.source a opens.source_free k.mounts.apart);
        drives = drive_taken (map.insert s.group.mounts x.source (mounted_of a)) x.target (mounted_of b) conf.drives (omega (arith, one_drive, drives));
        reads = two_more (λ q y. MayRead y.origin y.bound) s.mounts x.source x.target a b reads tt k.mounts.reads;
        origin = two_more (λ q y. OriginKept conf s.group.reservations s.copies more s.group.reuses q y.vsn y.origin) s.mounts x.source x.target a b
            (record { moving = x; is = get-here numbers s.group.moves job x; source = refl; bfid = refl; from = refl; volume = refl })
            (record {
              moving = x;
              is = get-here numbers s.group.moves job x;
              target = refl;
              bfid = refl;
              whole = refl;
              to = refl;
              same = refl;
              volume = refl;
            })
            (λ q y at. origin_more conf s.group.reservations s.copies s.group.moves s.group.reuses job x q y.vsn y.origin free (k.mounts.origin q y at));
      };
      once = two_more (λ q y. MountOnce contents t.volumes s.images s.group.reservations more y.epoch y.origin) s.mounts x.source x.target a b once tt
          (λ q y at. mount_once_more u t.volumes job x opens.zone contents s.images s.group.reservations s.group.moves y.epoch y.origin ends
          (k.once q y at));
      reservations = risen.reservations;
      moves = record {
        numbers = each-beside numbers (λ q y. q < job + 1) s.group.moves job x (omega arith)
            (λ q y differ at. let f = k.moves.numbers q y at in omega (arith, f, later));
        moving = each-beside numbers (MoveKept contents t.volumes new s.images both) s.group.moves job x
            (record {
              source = a;
              source_is = get-beside numbers one x.target b x.source (λ same. omega (arith, next, same)) ∙ get-here numbers s.mounts x.source a;
              source_for = refl;
              target = b;
              target_is = get-here numbers one x.target b;
              target_for = refl;
              some = chunk_some 0 opens.row.len opens.row.chunks x.from (k.catalogue.bitfile x.bfid.0 opens.row opens.is).joins opens.among;
              moved = opens.moved;
              zone = record {
                volume = z.volume;
                is = z.is;
                usable = z.usable;
                same = z.same;
                behind = omega (arith, label, low, from);
                within = one_reaches s.group t.time.0 x.to.vsn.0 x.version x.to.zone end k.volumes z;
              };
              read = tt;
              written = tt;
            })
            (λ q y differ at.
            let was = risen.moves.moving q y at in
            move_left contents t.volumes new s.images s.mounts both q y was
            (stays y.source was.source was.source_is) (stays y.target was.target was.target_is));
      };
      reuses = λ q y at.
          let was = risen.reuses q y at in
          reuse_left conf.hold t.time.0 t.volumes new s.mounts both q y was (stays q was.mount was.is);
      places = places_more t.volumes u.tips (HasMoved job x)
          (HasPlace t.bitfiles s.group.reservations s.group.moves s.group.doubt)
          (HasPlace t.bitfiles s.group.reservations more s.group.doubt)
          (split t.bitfiles s.group.reservations s.group.moves s.group.doubt job x)
          (one_moved u t.volumes job x z)
          (moved_beyond u t.volumes job x z)
          (owner_before entries contents taken requests g committed deleted s opens.settled k)
          k.places;
      doubt = nothing_in_doubt g entries contents taken deleted
          (side_after_opening (opening.Move h job x source_epoch target_epoch) s) s.group.doubt opens.settled;
    }
