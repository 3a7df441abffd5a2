-- The groups of the example are sound and opened.
use Rattle.std.proofs.Common.{◌≡◌, ◌≤◌, ◌+◌, ℕ, true, false, None, Some, Option, IsSome, is_some, List, [], ◌∷◌, refl, sym, ap, subst, inl, inr, arith, add-zero, ◌∙◌}
use Rattle.std.proofs.Common.{nat_cmp, Ordering}
use Rattle.std.specs.Cmp.Lexicographic.{slice_cmp}
use Rattle.std.specs.FinMap as map
use Rattle.std.proofs.lemmas.Bool.{or_cases, or_left}
use Rattle.dm_base.specs.Naming.{IsSerial}
use Rattle.dm_base.specs.Limits.{epoch_limit}
use Rattle.dm_base.specs.declared.serial.Vsn.{Vsn}
use Rattle.dm_base.specs.declared.volume.Chunk.{Chunk}
use Rattle.dm_rules.specs.Known.{known_bytes, known_with_write}
use Rattle.dm_rules.specs.Label.{first_zone}
use Rattle.dm_rules.specs.Version.{IsVersion, has_sum}
use Rattle.dm_rules.proofs.Knowledge.{known_bytes-written}
use Rattle.dm_tables.proofs.Orders.{KeyOrder, numbers, paths}
use Rattle.dm_tables.proofs.Rows.{each-empty, each-insert, get-here, inserted}
use Rattle.dm_durable.specs.declared.group.BitfileRow.{BitfileRow}
use Rattle.dm_durable.specs.declared.group.VolumeRow.{VolumeRow}
use Rattle.dm_durable.specs.Entries.{asks}
use Rattle.dm_durable.specs.Limits.{IsGroupNumber, IsPast}
use Rattle.dm_durable.specs.Volumes.{is_listed, tip_in, tip_or}
use Rattle.dm_model.specs.declared.state.Side.{Side}
use Rattle.dm_invariant.specs.Among.{IsAmong}
use Rattle.dm_invariant.specs.Assemble.{ChunkKnown, IsSumOf, SumRight, known_of, known_on}
use Rattle.dm_invariant.specs.Catalogue.{BitfileKept, LiesBefore, StoredKept}
use Rattle.dm_invariant.specs.Opened.{SideOpened}
use Rattle.dm_invariant.specs.Places.{HasPlace, HasLive, Live, Reserving, Target, Doubted, Owner}
use Rattle.dm_invariant.specs.Sound.{GroupSound}
use Rattle.dm_invariant.specs.Volumes.{ConfFits, HasImage, IsNumberOf, VolumeKept}
use Rattle.dm_invariant.proofs.LookUps.{none_in_empty}
use Rattle.dm_invariant.proofs.Texts.{same_texts, texts_equal}
use Rattle.dm_stops.specs.Example.{bitfile, chunk_of, conf_of, entries, entry, example_daemon, example_history, has_bitfile, image_of, row_of, side_of, stored}
use Rattle.dm_stops.proofs.NothingOpen.{mounts_none, moves_none, reservations_none}

-- the one row of a table
pub only_row : {K X : Type 0} {R : K → K → Ordering} (o : KeyOrder R) (k q : K) (x y : X) → map.get (map.insert (map.empty {X = X} {R = R}) k x) q ≡ Some y
    → (q ≡ k) × (y ≡ x)
only_row o k q x y is =
    elim (inserted o map.empty k x q y is) [
      | inl here ↦ here
      | inr other ↦ absurd (none_in_empty _ map.empty q y refl other.1)
    ]

-- what is asked of a group of the example
pub record Right (g : ℕ) (vsn : Vsn) (v : VolumeRow) (place : ℕ) (sum : Option (List ℕ)) : Type 0 where
  pub number : IsGroupNumber g
  pub asked : asks entry g ≡ true
  pub serial : IsSerial vsn.0
  pub slot : v.slot ≡ 0
  pub version : IsVersion v.version
  pub epoch : 1 ≤ v.epoch
  pub last : v.epoch ≤ epoch_limit
  pub size : v.size ≡ 256
  pub held : v.held ≡ None
  pub behind : first_zone ≤ place
  pub within : place + 2 ≤ v.end
  pub end : v.end ≤ 256
  pub has : is_some sum ≡ has_sum v.version
  pub right : IsSumOf stored sum

module _ (g : ℕ) (vsn : Vsn) (v : VolumeRow) (place : ℕ) (sum : Option (List ℕ)) (r : Right g vsn v place sum) where
  abbrev s : Side
  s = side_of g vsn v place sum

  abbrev c : Chunk
  c = chunk_of vsn place sum

  at_end : tip_in map.empty vsn.0 v ≡ v.end
  at_end = ap (λ o. tip_or o v) (map.get-empty {X = ℕ} (slice_cmp nat_cmp) vsn.0)

  volume_is : map.get s.group.tables.volumes vsn.0 ≡ Some v
  volume_is = get-here paths map.empty vsn.0 v

  image_is : map.get s.images vsn.0 ≡ Some (image_of place)
  image_is = get-here paths map.empty vsn.0 (image_of place)

  row_is : map.get s.group.tables.bitfiles bitfile.0 ≡ Some (row_of vsn place sum)
  row_is = get-here numbers map.empty bitfile.0 (row_of vsn place sum)

  known_there : known_bytes (known_on s.images vsn.0) place 2 ≡ Some stored
  known_there =
      ap (λ o. known_bytes (known_of o) place 2) image_is
      ∙ ap (λ p. known_bytes (known_with_write place stored map.empty) p 2) (sym (add-zero place))
      ∙ known_bytes-written place stored map.empty 0 2 (omega arith)

  -- ---- the chunk

  lies : LiesBefore s.group.tables.volumes c
  lies = record { volume = v; is = volume_is; usable = r.held; behind = r.behind; within = r.within; sum = r.has }

  each_chunk : (P : Chunk → Type 0) → P c → (d : Chunk) → IsAmong d (c ∷ []) → P d
  each_chunk P here d (inl same) = subst P (sym same) here
  each_chunk P here d (inr none) = absurd none

  -- ---- the bitfile

  file : BitfileKept g entries example_history.contents s.group.tables.volumes s.images bitfile.0 (row_of vsn place sum)
  file = record {
    of = record {
      entry = entry;
      is = get-here numbers map.empty bitfile.0 entry;
      asked = r.asked;
      bytes = stored;
      content = get-here numbers map.empty bitfile.0 stored;
      sized = refl;
    };
    len = refl;
    joins = (refl, omega arith, refl);
    lies = each_chunk (LiesBefore s.group.tables.volumes) lies;
    known = each_chunk (ChunkKnown s.images stored) known_there;
    sums = each_chunk (SumRight stored) r.right;
  }

  stored_there : StoredKept g entries s.group.tables.bitfiles
  stored_there b e is lasting had =
      let here = (only_row numbers bitfile.0 b entry e is).0 in
      subst (λ (q : ℕ). IsSome (map.get s.group.tables.bitfiles q)) (sym here) (ap is_some row_is)

  -- its places are its own
  live_is : (b offset : ℕ) (at : List ℕ) (p : ℕ) → HasLive s.group.tables.bitfiles b offset at p → (b ≡ bitfile.0) × (offset ≡ 0)
  live_is b offset at p has =
      let one = only_row numbers bitfile.0 b (row_of vsn place sum) has.row has.is in
      (one.0, sym has.at ∙ chunk_at has.chunk (subst (λ (x : BitfileRow). IsAmong has.chunk x.chunks) one.1 has.among))
    where
      chunk_at : (d : Chunk) → IsAmong d (c ∷ []) → d.offset ≡ 0
      chunk_at d (inl same) = ap (λ (x : Chunk). x.offset) same
      chunk_at d (inr none) = absurd none

  owner_is : (o : Owner) (at : List ℕ) (p : ℕ) → HasPlace s.group.tables.bitfiles map.empty map.empty None o at p → o ≡ Live bitfile.0 0
  owner_is (Live b offset) at p has = let l = live_is b offset at p has in λ i. Live (l.0 i) (l.1 i)
  owner_is (Reserving n offset) at p has = absurd (none_in_empty nat_cmp map.empty n has.reserved refl has.is)
  owner_is (Target job) at p has = absurd (none_in_empty nat_cmp map.empty job has.moving refl has.is)
  owner_is (Doubted zone) at p has = absurd has.among

  -- ---- the volume

  conf_fits : ConfFits (conf_of g vsn v.version)
  conf_fits = record {
    group = r.number;
    chunk = omega arith;
    serials = serials;
    many = omega arith;
    sized = record { least = omega arith; most = omega arith };
    format = r.version;
  }
    where
      serials : (w : Vsn) → IsAmong w (vsn ∷ []) → IsSerial w.0
      serials w (inl same) = subst (λ (x : Vsn). IsSerial x.0) (sym same) r.serial
      serials w (inr none) = absurd none

  volume_kept : VolumeKept (conf_of g vsn v.version) map.empty 10 vsn.0 v
  volume_kept =
      let slot = r.slot in
      let tip = at_end in
      let behind = r.behind in
      let within = r.within in
      let end = r.end in
      let size = r.size in
      record {
        configured = or_left _ false (same_texts vsn.0 vsn.0 refl);
        size = r.size;
        slot = omega (arith, slot);
        version = r.version;
        epoch = r.epoch;
        last = r.last;
        label = omega (arith, behind, within);
        end = omega (arith, tip);
        tip = omega (arith, tip, end, size);
        freed = subst (IsPast 10) (sym r.held) tt;
      }

  -- ---- the group

  pub group_sound : GroupSound example_daemon example_history g s
  group_sound = record {
    bitfiles = each-insert numbers (BitfileKept g entries example_history.contents s.group.tables.volumes s.images) map.empty bitfile.0
        (row_of vsn place sum) file (each-empty nat_cmp _);
    stored = stored_there;
    volumes = record {
      fits = conf_fits;
      volume = each-insert paths (VolumeKept (conf_of g vsn v.version) map.empty 10) map.empty vsn.0 v volume_kept (each-empty (slice_cmp nat_cmp) _);
      slots = λ p q x y is other same.
          (only_row paths vsn.0 p v x is).0 ∙ sym (only_row paths vsn.0 q v y other).0;
    };
    mounts = mounts_none _ _ _;
    reservations = reservations_none _ _ _ _ _ _ _ _ _;
    moves = moves_none _ _ _ _ _ _;
    reuses = each-empty nat_cmp _;
    places = λ o p at q one two. owner_is o at q one ∙ sym (owner_is p at q two);
    doubt = tt;
  }

  pub number : IsNumberOf g s.group.tables.group.0
  number = record { same = refl; fits = r.number }

  -- ---- as the program starts

  listed_is : (q : List ℕ) → is_listed (vsn ∷ []) q ≡ true → HasImage s.images q 256
  listed_is q listed =
      elim (or_cases _ false listed) [
        | inl here ↦ subst (λ x. HasImage s.images x 256) (texts_equal vsn.0 q here) (record { image = image_of place; is = image_is; sized = refl })
        | inr never ↦ cc
      ]

  pub side_opened : SideOpened has_bitfile.committed has_bitfile.deleted s
  side_opened = record {
    reservations = refl;
    group_mounts = refl;
    moves = refl;
    reuses = refl;
    tips = refl;
    copies = refl;
    mounts = refl;
    doubt = refl;
    commits = each-insert numbers (λ b u. IsSome (map.get s.group.tables.bitfiles b)) map.empty bitfile.0 tt (ap is_some row_is) (each-empty nat_cmp _);
    has = each-insert numbers (λ b row. IsSome (map.get has_bitfile.committed b)) map.empty bitfile.0 (row_of vsn place sum)
        (ap is_some (get-here numbers map.empty bitfile.0 tt)) (each-empty nat_cmp _);
    deletes = refl;
    images = listed_is;
  }
