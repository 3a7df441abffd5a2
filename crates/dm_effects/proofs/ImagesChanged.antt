-- What a call leaves on a volume: a side is kept where only places of a range change that none of the chunks has, neither
-- stored, nor once live, nor in doubt, and where what was read and written is right.
use Rattle.std.proofs.Common.{◌≡◌, ◌⊎◌, ℕ, Bool, ◌+◌, ◌<◌, ◌≤◌, Some, None, Option, option_map, List, length, refl, sym, ap, ◌∙◌, inl, inr, subst}
use Rattle.std.specs.FinMap as map
use Rattle.dm_base.specs.declared.conf.GroupConf.{GroupConf}
use Rattle.dm_base.specs.declared.serial.Vsn.{Vsn}
use Rattle.dm_base.specs.declared.volume.Chunk.{Chunk}
use Rattle.dm_base.specs.declared.volume.Piece.{Piece}
use Rattle.dm_rules.specs.Known.{Known, known_with_write, known_without_range, known_bytes}
use Rattle.dm_rules.proofs.Knowledge.{inside, outside, lies, known_bytes-same, get-written_out, get-forgotten_out}
use Rattle.dm_tables.specs.Rows.{EachRow, adjust}
use Rattle.dm_tables.proofs.Orders.{numbers, paths, same_or}
use Rattle.dm_tables.proofs.Adjusted.{adjusted, adjusted_row, adjusted-here, adjusted-beside}
use Rattle.dm_durable.specs.declared.daemon.Entry.{Entry}
use Rattle.dm_durable.specs.declared.group.BitfileRow.{BitfileRow}
use Rattle.dm_durable.specs.declared.group.GroupRecord.{GroupRecord}
use Rattle.dm_durable.specs.declared.group.GroupStep.{GroupStep}
use Rattle.dm_durable.specs.declared.group.GroupStep.TheVariants.{Volume, Commit, Delete, Move, Free, Reuse}
use Rattle.dm_durable.specs.declared.group.VolumeRow.{VolumeRow}
use Rattle.dm_durable.specs.Tables.{ByNumber, ByName}
use Rattle.dm_durable.specs.Volumes.{epoch_or}
use Rattle.dm_model.specs.declared.state.CopyReservation.{CopyReservation}
use Rattle.dm_model.specs.declared.state.CopyState.{CopyState}
use Rattle.dm_model.specs.declared.state.Image.{Image}
use Rattle.dm_model.specs.declared.state.Mounted.{Mounted}
use Rattle.dm_model.specs.declared.state.MountState.{MountState}
use Rattle.dm_model.specs.declared.state.Moving.{Moving}
use Rattle.dm_model.specs.declared.state.OpenRequest.{OpenRequest}
use Rattle.dm_model.specs.declared.state.Origin.{Origin}
use Rattle.dm_model.specs.declared.state.Origin.TheVariants as origin
use Rattle.dm_model.specs.declared.state.Reserved.{Reserved}
use Rattle.dm_model.specs.declared.state.Reusing.{Reusing}
use Rattle.dm_model.specs.declared.state.Side.{Side}
use Rattle.dm_model.specs.GroupCalls.{piece_at}
use Rattle.dm_model.specs.SideShare.{known_by}
use Rattle.dm_invariant.specs.Among.{IsAmong}
use Rattle.dm_invariant.specs.Assemble.{ChunkKnown, known_of, known_on}
use Rattle.dm_invariant.specs.Catalogue.{BitfileKept}
use Rattle.dm_invariant.specs.Doubts.{GroupMayLandIf, GroupStepNeeds, IsUnused, PutNeeds}
use Rattle.dm_invariant.specs.Kept.{SideKept}
use Rattle.dm_invariant.specs.Mounts.{MayRead, MountsKept, OriginKept, mounted_of}
use Rattle.dm_invariant.specs.Moves.{ReadRight, WrittenRight}
use Rattle.dm_invariant.specs.OnceLive.{MountOnce, OnceLive, StillThere}
use Rattle.dm_invariant.specs.Places.{ChunkCovers, IsDoubted, IsPut}
use Rattle.dm_invariant.specs.Reservations.{WrittenKept}
use Rattle.dm_effects.proofs.Copies.{CopiesBy, origin_by, reserved_by, copies_by}

-- ---- what is known of the volumes

-- beside the n places from `place` on of the volume, the same is known of the volumes before and after
abbrev pub KnownBeside : List ℕ → ℕ → ℕ → ByName Image → ByName Image → Type 0
KnownBeside vsn place n old new =
    (v : List ℕ) (q : ℕ) → (v ≡ vsn → (q < place) ⊎ (place + n ≤ q)) → map.get (known_on new v) q ≡ map.get (known_on old v) q

known_changed : (f : Known → Known) (o : Option Image) (q : ℕ) → ((k : Known) → map.get (f k) q ≡ map.get k q)
    → map.get (known_of (option_map (known_by f) o)) q ≡ map.get (known_of o) q
known_changed f None q same = refl
known_changed f (Some i) q same = same i.known

image_changed : (f : Known → Known) (vsn : List ℕ) (place n : ℕ) (images : ByName Image)
    → ((k : Known) (q : ℕ) → (q < place) ⊎ (place + n ≤ q) → map.get (f k) q ≡ map.get k q)
    → KnownBeside vsn place n images (adjust images vsn (known_by f))
image_changed f vsn place n images same = λ v q out.
    elim (same_or paths vsn v) [
      | inl here ↦
          ap (λ x. map.get (known_on (adjust images vsn (known_by f)) x) q) here
          ∙ ap (λ o. map.get (known_of o) q) (adjusted-here paths images vsn (known_by f))
          ∙ known_changed f (map.get images vsn) q (λ k. same k q (out here))
          ∙ sym (ap (λ x. map.get (known_on images x) q) here)
      | inr beside ↦ ap (λ o. map.get (known_of o) q) (adjusted-beside paths images vsn (known_by f) v beside)
    ]

-- after a write
pub image_written : (vsn : List ℕ) (place : ℕ) (bytes : List ℕ) (images : ByName Image)
    → KnownBeside vsn place (length bytes) images (adjust images vsn (known_by (known_with_write place bytes)))
image_written vsn place bytes images =
    image_changed (known_with_write place bytes) vsn place (length bytes) images (λ k q out. get-written_out place bytes k q out)

-- and after one that failed
pub image_forgotten : (vsn : List ℕ) (place n : ℕ) (images : ByName Image)
    → KnownBeside vsn place n images (adjust images vsn (known_by (known_without_range place n)))
image_forgotten vsn place n images = image_changed (known_without_range place n) vsn place n images (λ k q out. get-forgotten_out place n k q out)

-- no place changed
pub images_same : (vsn : List ℕ) (place n : ℕ) (images : ByName Image) → KnownBeside vsn place n images images
images_same vsn place n images = λ v q out. refl

-- a range of a volume that has no place of the one that changed
pub range_beside : (vsn : List ℕ) (place n : ℕ) (old new : ByName Image) (v : List ℕ) (start m : ℕ) → KnownBeside vsn place n old new
    → ((q : ℕ) → v ≡ vsn → start ≤ q → q < start + m → place ≤ q → q < place + n → ⊥)
    → known_bytes (known_on new v) start m ≡ known_bytes (known_on old v) start m
range_beside vsn place n old new v start m beside apart =
    known_bytes-same (known_on new v) (known_on old v) start m (λ q from below. beside v q (λ same.
    elim (lies place n q) [
      | inside low high ↦ absurd (apart q same from below low high)
      | outside out ↦ out
    ]))

-- a chunk has no place of the range
abbrev pub Spares : List ℕ → ℕ → ℕ → Chunk → Type 0
Spares vsn place n c = (q : ℕ) → ChunkCovers c vsn q → place ≤ q → q < place + n → ⊥

chunk_beside : (vsn : List ℕ) (place n : ℕ) (old new : ByName Image) (bytes : List ℕ) (c : Chunk)
    → KnownBeside vsn place n old new → Spares vsn place n c
    → ChunkKnown old bytes c → ChunkKnown new bytes c
chunk_beside vsn place n old new bytes c beside spares known =
    range_beside vsn place n old new c.vsn.0 c.place c.len beside
    (λ q same from below low high. spares q (record { same = same; low = from; high = below }) low high)
    ∙ known

-- ---- copies of which only what was written changes

-- a reservation before and after
pub record HeldLike (h k : CopyReservation) : Type 0 where
  pub number : k.number ≡ h.number
  pub mounts : k.mounts ≡ h.mounts

pub like_itself : (h : CopyReservation) → HeldLike h h
like_itself h = record { number = refl; mounts = refl }

-- what was written of a reservation's pieces is known of the volumes
abbrev pub AllWritten : ByNumber Reserved → ByName Image → ByNumber CopyState → Type 0
AllWritten reservations images copies =
    (n : ℕ) (r : Reserved) (c : CopyState)
    (held : CopyReservation) → map.get reservations n ≡ Some r → map.get copies r.bfid.0 ≡ Some c → c.reservation ≡ Some held
    → EachRow held.written (λ index w. (p : Piece) → piece_at index r.pieces ≡ Some p → WrittenKept images r.chunk p w)

-- ---- mounts of which only what was done on them changes

-- a mount before and after
pub record MountLike (x y : MountState) : Type 0 where
  pub vsn : y.vsn ≡ x.vsn
  pub epoch : y.epoch ≡ x.epoch
  pub origin : y.origin ≡ x.origin
  pub bound : y.bound ≡ x.bound

-- a table of mounts before and after
pub record MountsLike (old new : ByNumber MountState) : Type 0 where
  pub same : (m : ℕ) → option_map mounted_of (map.get new m) ≡ option_map mounted_of (map.get old m)
  pub stays : EachRow old (λ m x. (y : MountState) × (map.get new m ≡ Some y) × MountLike x y)
  pub comes : EachRow new (λ m y. (x : MountState) × (map.get old m ≡ Some x) × MountLike x y)

-- mounts that stay as they are
pub mounts_same : (mounts : ByNumber MountState) → MountsLike mounts mounts
mounts_same mounts = record {
  same = λ m. refl;
  stays = λ m x is. (x, is, record { vsn = refl; epoch = refl; origin = refl; bound = refl });
  comes = λ m x is. (x, is, record { vsn = refl; epoch = refl; origin = refl; bound = refl });
}

mounted_as : (f : MountState → MountState) (o : Option MountState) → ((x : MountState) → MountLike x (f x))
    → option_map mounted_of (option_map f o) ≡ option_map mounted_of o
mounted_as f None like = refl
mounted_as f (Some x) like = let l = like x in let vsn = l.vsn in let epoch = l.epoch in cc

-- one of which what was done on it changes
pub mount_changed : (f : MountState → MountState) (mounts : ByNumber MountState) (m : ℕ) → ((x : MountState) → MountLike x (f x))
    → MountsLike mounts (adjust mounts m f)
mount_changed f mounts m like = record {
  same = λ q. elim (same_or numbers m q) [
    | inl here ↦ ap (λ k. option_map mounted_of (map.get (adjust mounts m f) k)) here
        ∙ ap (option_map mounted_of) (adjusted-here numbers mounts m f) ∙ mounted_as f (map.get mounts m) like
        ∙ sym (ap (λ k. option_map mounted_of (map.get mounts k)) here)
    | inr differ ↦ ap (option_map mounted_of) (adjusted-beside numbers mounts m f q differ)
  ];
  stays = λ q x is. elim (same_or numbers m q) [
    | inl here ↦ (f x, ap (map.get (adjust mounts m f)) here ∙ adjusted_row numbers mounts m f x (ap (map.get mounts) (sym here) ∙ is), like x)
    | inr differ ↦ (x, adjusted-beside numbers mounts m f q differ ∙ is, record { vsn = refl; epoch = refl; origin = refl; bound = refl })
  ];
  comes = λ q y is. elim (adjusted numbers mounts m f q y is) [
    | inl at ↦ (at.1.0, ap (map.get mounts) at.0 ∙ at.1.1, subst (MountLike at.1.0) (sym at.1.2) (like at.1.0))
    | inr beside ↦ (y, beside.1, record { vsn = refl; epoch = refl; origin = refl; bound = refl })
  ];
}

-- ---- the subjects

module _ (conf : GroupConf) (volumes : ByName VolumeRow) (reservations : ByNumber Reserved) (moves : ByNumber Moving) (reuses : ByNumber Reusing)
    (copies new : ByNumber CopyState) (on : CopiesBy HeldLike copies new) where
  mounts_like : (group_mounts : ByNumber Mounted) (next : ℕ) (mounts after : ByNumber MountState) → MountsLike mounts after
      → MountsKept conf volumes reservations copies moves reuses group_mounts next mounts
      → MountsKept conf volumes reservations new moves reuses group_mounts next after
  mounts_like group_mounts next mounts after like k = record {
    numbers = λ m y is. let x = like.comes m y is in k.numbers m x.0 x.1;
    same = λ m. k.same m ∙ sym (like.same m);
    epoch = λ m y is.
        let x = like.comes m y is in
        x.2.epoch ∙ k.epoch m x.0 x.1 ∙ ap (λ (v : Vsn). epoch_or (map.get volumes v.0)) (sym x.2.vsn);
    apart = λ m n y z is at same.
        let x = like.comes m y is in
        let w = like.comes n z at in
        k.apart m n x.0 w.0 x.1 w.1 (ap (λ (v : Vsn). v.0) (sym x.2.vsn) ∙ same ∙ ap (λ (v : Vsn). v.0) w.2.vsn);
    drives = k.drives;
    reads = λ m y is.
        let x = like.comes m y is in
        subst (λ (o : Origin). MayRead o y.bound) (sym x.2.origin)
        (subst (λ (b : Bool). MayRead x.0.origin b) (sym x.2.bound) (k.reads m x.0 x.1));
    origin = λ m y is.
        let x = like.comes m y is in
        let was = origin_by HeldLike (λ h k like. like.number) copies new on conf reservations moves reuses m x.0.vsn x.0.origin
        (λ h k like. ap (λ (t : ByNumber ℕ). map.get t m) like.mounts) (k.origin m x.0 x.1) in
        subst (λ (o : Origin). OriginKept conf reservations new moves reuses m y.vsn o) (sym x.2.origin)
        (subst (λ (v : Vsn). OriginKept conf reservations new moves reuses m v x.0.origin) (sym x.2.vsn) was);
  }

module _ (vsn : List ℕ) (place n : ℕ) (old new : ByName Image) (beside : KnownBeside vsn place n old new) where
  bitfile_beside : (g : ℕ) (entries : ByNumber Entry) (contents : ByNumber (List ℕ)) (volumes : ByName VolumeRow) (b : ℕ) (row : BitfileRow)
      → ((c : Chunk) → IsAmong c row.chunks → Spares vsn place n c)
      → BitfileKept g entries contents volumes old b row → BitfileKept g entries contents volumes new b row
  bitfile_beside g entries contents volumes b row spares k = record {
    of = k.of;
    len = k.len;
    joins = k.joins;
    lies = k.lies;
    known = λ c among. chunk_beside vsn place n old new k.of.bytes c beside (spares c among) (k.known c among);
    sums = k.sums;
  }

  module _ (contents : ByNumber (List ℕ)) (volumes : ByName VolumeRow) (reservations : ByNumber Reserved) (moves : ByNumber Moving)
      (spared : (v : VolumeRow) (b : ℕ) (c : Chunk) → StillThere contents old reservations moves v b c → Spares vsn place n c) where
    once_beside : (epoch b : ℕ) (c : Chunk)
        → OnceLive contents volumes old reservations moves epoch b c → OnceLive contents volumes new reservations moves epoch b c
    once_beside epoch b c k = record {
      volume = k.volume;
      is = k.is;
      still = λ same. let s = k.still same in record {
        behind = s.behind;
        within = s.within;
        sum = s.sum;
        bytes = s.bytes;
        content = s.content;
        known = chunk_beside vsn place n old new s.bytes c beside (spared k.volume b c s) s.known;
        right = s.right;
        beside_kept = s.beside_kept;
        beside_targets = s.beside_targets;
      };
    }

    mount_once_beside : (epoch : ℕ) (o : Origin)
        → MountOnce contents volumes old reservations moves epoch o → MountOnce contents volumes new reservations moves epoch o
    mount_once_beside epoch (origin.New listed format) k = k
    mount_once_beside epoch (origin.Piece b index p chunk) k = k
    mount_once_beside epoch (origin.Chunk b c) k = once_beside epoch b.0 c k
    mount_once_beside epoch (origin.Source job b c) k = once_beside epoch b.0 c k
    mount_once_beside epoch (origin.Target job b total c version) k = k
    mount_once_beside epoch (origin.Reuse next_epoch version reading) k = k

  puts_beside : (g : ℕ) (entries : ByNumber Entry) (contents : ByNumber (List ℕ)) (volumes : ByName VolumeRow) (tips : ByName ℕ)
      (deleted : ByNumber (Unit {0})) (b : ℕ) (IsNew : Chunk → Type 0) → ((c : Chunk) → IsNew c → Spares vsn place n c)
      → PutNeeds g entries contents old volumes tips deleted b IsNew → PutNeeds g entries contents new volumes tips deleted b IsNew
  puts_beside g entries contents volumes tips deleted b IsNew spares k = record {
    of = k.of;
    known = λ c among. chunk_beside vsn place n old new k.of.bytes c beside (spares c among) (k.known c among);
    sums = k.sums;
    hand = k.hand;
    undeleted = k.undeleted;
  }

unmounted_like : (mounts after : ByNumber MountState) (vsn : List ℕ) → MountsLike mounts after
    → EachRow mounts (λ m x. x.vsn.0 ≡ vsn → ⊥) → EachRow after (λ m x. x.vsn.0 ≡ vsn → ⊥)
unmounted_like mounts after vsn like none = λ m y is same.
    let x = like.comes m y is in none m x.0 x.1 (ap (λ (v : Vsn). v.0) (sym x.2.vsn) ∙ same)

unused_like : (mounts after : ByNumber MountState) (reservations : ByNumber Reserved) (vsn : List ℕ) → MountsLike mounts after
    → IsUnused mounts reservations vsn → IsUnused after reservations vsn
unused_like mounts after reservations vsn like u =
    record { unmounted = unmounted_like mounts after vsn like u.unmounted; unreserved = u.unreserved }

module _ (vsn : List ℕ) (place n : ℕ) (s : Side) (images : ByName Image) (copies : ByNumber CopyState) (mounts : ByNumber MountState)
    (beside : KnownBeside vsn place n s.images images) (like : MountsLike s.mounts mounts) where
  abbrev after : Side
  after = record s { images = images; copies = copies; mounts = mounts }

  needs_beside : (g : ℕ) (entries : ByNumber Entry) (contents : ByNumber (List ℕ)) (taken deleted : ByNumber (Unit {0})) (now : ℕ) (step : GroupStep)
      → ((c : Chunk) → IsPut c step → Spares vsn place n c)
      → GroupStepNeeds g entries contents taken deleted s now step → GroupStepNeeds g entries contents taken deleted after now step
  unfolding puts_beside
  needs_beside g entries contents taken deleted now (Volume v slot version size) spares k =
      record { configured = k.configured; sized = k.sized; unmounted = unmounted_like s.mounts mounts v.0 like k.unmounted }
  needs_beside g entries contents taken deleted now (Commit b len chunks) spares k = record {
    puts = puts_beside vsn place n s.images images beside g entries contents s.group.tables.volumes s.group.tips deleted b.0
        (λ c. IsAmong c chunks) spares k.puts;
    whole = k.whole;
    apart = k.apart;
    unreserved = k.unreserved;
  }
  needs_beside g entries contents taken deleted now (Delete b) spares k = k
  needs_beside g entries contents taken deleted now (Move b from to) spares k =
      puts_beside vsn place n s.images images beside g entries contents s.group.tables.volumes s.group.tips deleted b.0 (λ c. c ≡ to) spares k
  needs_beside g entries contents taken deleted now (Free v) spares k =
      record { unused = unused_like s.mounts mounts s.group.reservations v.0 like k.unused; filled = k.filled }
  needs_beside g entries contents taken deleted now (Reuse v epoch version) spares k =
      record { unused = unused_like s.mounts mounts s.group.reservations v.0 like k.unused; ready = k.ready }

  doubt_beside : (g : ℕ) (entries : ByNumber Entry) (contents : ByNumber (List ℕ)) (taken deleted : ByNumber (Unit {0})) (o : Option GroupRecord)
      → ((c : Chunk) → IsDoubted c o → Spares vsn place n c)
      → GroupMayLandIf g entries contents taken deleted s o → GroupMayLandIf g entries contents taken deleted after o
  doubt_beside g entries contents taken deleted None spares k = k
  doubt_beside g entries contents taken deleted (Some r) spares k =
      record { follow = k.follow; needs = needs_beside g entries contents taken deleted r.time.0 r.step spares k.needs }

-- ---- the whole side

-- no chunk has a place of the range
pub record SparesChunks (contents : ByNumber (List ℕ)) (s : Side) (vsn : List ℕ) (place n : ℕ) : Type 0 where
  pub live : EachRow s.group.tables.bitfiles (λ b row. (c : Chunk) → IsAmong c row.chunks → Spares vsn place n c)
  pub once : (v : VolumeRow) (b : ℕ) (c : Chunk) → StillThere contents s.images s.group.reservations s.group.moves v b c → Spares vsn place n c
  pub doubted : (c : Chunk) → IsDoubted c s.group.doubt → Spares vsn place n c

-- what was read of moved chunks is right, and what was written of them is known
pub record MovesRight (contents : ByNumber (List ℕ)) (moves : ByNumber Moving) (images : ByName Image) (mounts : ByNumber MountState) : Type 0 where
  pub read : (job : ℕ) (x : Moving) (y : MountState) → map.get moves job ≡ Some x → map.get mounts x.source ≡ Some y
      → ReadRight contents x.bfid.0 x.from y.read
  pub written : (job : ℕ) (x : Moving) (y : MountState) → map.get moves job ≡ Some x → map.get mounts x.target ≡ Some y
      → WrittenRight images x.version x.to y.written

pub side_beside : (entries : ByNumber Entry) (contents : ByNumber (List ℕ)) (taken : ByNumber (Unit {0})) (requests : ByNumber OpenRequest)
    (g : ℕ) (committed deleted : ByNumber (Unit {0})) (vsn : List ℕ) (place n : ℕ)
    (s : Side) (images : ByName Image) (copies : ByNumber CopyState) (mounts : ByNumber MountState)
    → KnownBeside vsn place n s.images images → CopiesBy HeldLike s.copies copies → MountsLike s.mounts mounts
    → SparesChunks contents s vsn place n → AllWritten s.group.reservations images copies → MovesRight contents s.group.moves images mounts
    → SideKept entries contents taken requests g committed deleted s
    → SideKept entries contents taken requests g committed deleted (record s { images = images; copies = copies; mounts = mounts })
side_beside entries contents taken requests g committed deleted vsn place n s images copies mounts beside on like spares all right kept =
    let t = s.group.tables in
    record {
      number = kept.number;
      catalogue = record {
        bitfile = λ b row is. bitfile_beside vsn place n s.images images beside g entries contents t.volumes b row (spares.live b row is)
            (kept.catalogue.bitfile b row is);
        stored = kept.catalogue.stored;
        commits = kept.catalogue.commits;
        commits_made = kept.catalogue.commits_made;
        deletes = kept.catalogue.deletes;
        deletes_taken = kept.catalogue.deletes_taken;
      };
      volumes = kept.volumes;
      mounts = mounts_like s.group.conf t.volumes s.group.reservations s.group.moves s.group.reuses s.copies copies on s.group.mounts
          s.group.next_mount s.mounts mounts like kept.mounts;
      once = λ m y is.
          let x = like.comes m y is in
          let was = mount_once_beside vsn place n s.images images beside contents t.volumes s.group.reservations s.group.moves spares.once
          x.0.epoch x.0.origin (kept.once m x.0 x.1) in
          subst (λ (o : Origin). MountOnce contents t.volumes images s.group.reservations s.group.moves y.epoch o) (sym x.2.origin)
          (subst (λ (e : ℕ). MountOnce contents t.volumes images s.group.reservations s.group.moves e x.0.origin) (sym x.2.epoch) was);
      reservations = record {
        numbers = kept.reservations.numbers;
        reservation = λ k r is. reserved_by HeldLike (λ h k like. like.number) s.copies copies on t.bitfiles t.volumes s.group.tips s.images images
            k r (kept.reservations.reservation k r is) (λ c held like there has. all k r c held is there has);
        copy = copies_by HeldLike (λ h k like. like.number) s.copies copies on g entries contents requests s.group.reservations
            kept.reservations.copy;
      };
      moves = record {
        numbers = kept.moves.numbers;
        moving = λ job x is.
            let k = kept.moves.moving job x is in
            let source = like.stays x.source k.source k.source_is in
            let target = like.stays x.target k.target k.target_is in
            record {
              source = source.0;
              source_is = source.1;
              source_for = source.2.origin ∙ k.source_for;
              target = target.0;
              target_is = target.1;
              target_for = target.2.origin ∙ k.target_for;
              some = k.some;
              moved = k.moved;
              zone = k.zone;
              read = right.read job x source.0 is source.1;
              written = right.written job x target.0 is target.1;
            };
      };
      reuses = λ m x is.
          let k = kept.reuses m x is in
          let mount = like.stays m k.mount k.is in
          record {
            mount = mount.0;
            is = mount.1;
            same = mount.2.vsn ∙ k.same;
            reading = k.reading;
            made_for = mount.2.origin ∙ k.made_for;
            volume = k.volume;
            known = k.known;
            next = k.next;
            left = k.left;
            version = k.version;
            ready = k.ready;
          };
      places = kept.places;
      doubt = doubt_beside vsn place n s images copies mounts beside like g entries contents taken deleted s.group.doubt spares.doubted kept.doubt;
    }
