-- What a read of a chunk gives is the chunk's part of the content.
use Rattle.std.proofs.Common.{◌≡◌, ℕ, zero, suc, ◌+◌, Bool, true, false, not, ◌||◌, Some, None, Option, List, [], ◌∷◌, length, refl, sym, ap, subst, ◌∙◌, arith, ◌<◌}
use Rattle.std.proofs.lemmas.Bool.{eqb-true}
use Rattle.std.proofs.lemmas.Option.{same_Some}
use Rattle.std.specs.FinMap as map
use Rattle.dm_base.specs.declared.identifier.Bfid.{Bfid}
use Rattle.dm_base.specs.declared.identifier.GroupId.{GroupId}
use Rattle.dm_base.specs.declared.serial.Vsn.{Vsn}
use Rattle.dm_base.specs.declared.volume.Chunk.{Chunk}
use Rattle.dm_rules.specs.Known.{Known, agrees_with_known, byte_and, known_bytes}
use Rattle.dm_rules.proofs.Knowledge.{agrees-known_bytes}
use Rattle.dm_durable.specs.Tables.{ByNumber}
use Rattle.dm_durable.specs.declared.group.VolumeRow.{VolumeRow}
use Rattle.dm_durable.specs.Volumes.{epoch_or}
use Rattle.dm_model.specs.declared.answer.Answer.{Answer}
use Rattle.dm_model.specs.declared.answer.Answer.TheVariants as answer
use Rattle.dm_model.specs.declared.call.Call.TheVariants as call
use Rattle.dm_model.specs.declared.call.Event.TheVariants as event
use Rattle.dm_model.specs.declared.call.VolumeCall.{VolumeCall}
use Rattle.dm_model.specs.declared.call.VolumeCall.TheVariants as volume_call
use Rattle.dm_model.specs.declared.state.Image.{Image}
use Rattle.dm_model.specs.declared.state.Joint.{Joint}
use Rattle.dm_model.specs.declared.state.MountState.{MountState}
use Rattle.dm_model.specs.declared.state.Origin.{Origin}
use Rattle.dm_model.specs.declared.state.Origin.TheVariants as origin
use Rattle.dm_model.specs.declared.state.Side.{Side}
use Rattle.dm_model.specs.GroupCalls.{part_of}
use Rattle.dm_model.specs.Plan.{guards_of, illegal_call, prepared_plan}
use Rattle.dm_model.specs.Step.{Stepped, after_call, step, volume_needs_in, volume_plan_in}
use Rattle.dm_model.specs.VolumeCalls.{volume_needs, volume_plan}
use Rattle.dm_invariant.specs.Assemble.{IsSumOf, known_of, known_on}
use Rattle.dm_invariant.specs.Kept.{InvariantHolds}
use Rattle.dm_invariant.specs.Mounts.{OriginKept}
use Rattle.dm_invariant.specs.OnceLive.{MountOnce, OnceLive, StillThere}
use Rattle.dm_invariant.proofs.Texts.{texts_equal}
use Rattle.dm_shown.specs.Reads.{ChunksRight, IsForChunk, ReadKnown}
use Rattle.dm_shown.proofs.EventsShown.{all_hold, outcome_is}
use Rattle.sha2.specs.Sha256.{sha256}

-- ---- what a read has read

byte_more : (o : Option ℕ) (os : Option (List ℕ)) (n : ℕ) (bs : List ℕ) → ((rest : List ℕ) → os ≡ Some rest → length rest ≡ n)
    → byte_and o os ≡ Some bs → length bs ≡ suc n
byte_more None os n bs rest is = cc
byte_more (Some b) None n bs rest is = cc
byte_more (Some b) (Some tail) n bs rest is = sym (ap length (same_Some (b ∷ tail) bs is)) ∙ ap suc (rest tail refl)

-- known bytes are as many as were asked for
pub known_length : (known : Known) (place n : ℕ) (bs : List ℕ) → known_bytes known place n ≡ Some bs → length bs ≡ n
unfolding known_bytes
known_length known place zero bs is = sym (ap length (same_Some [] bs is))
known_length known place (suc n) bs is =
    byte_more (map.get known place) (known_bytes known (place + 1) n) n bs (λ rest there. known_length known (place + 1) n rest there) is

-- bytes of an image of the mount's volume, which agree with what is known if the mount's reads do
pub record ReadOf (s : Side) (x : MountState) (vsn : Vsn) (place n : ℕ) (bytes : List ℕ) : Type 0 where
  pub image : Image
  pub is : map.get s.images vsn.0 ≡ Some image
  pub volume : x.vsn.0 ≡ vsn.0
  pub sized : length bytes ≡ n
  pub agreed : x.bound ≡ true → agrees_with_known image.known place bytes ≡ true

bound_agrees : (bound agreed : Bool) → (not bound || agreed) ≡ true → bound ≡ true → agreed ≡ true
bound_agrees true agreed passes is = passes
bound_agrees false agreed passes is = absurd (cc)

-- a read under this mount is legal, of this image
abbrev IsLegal : GroupId → Vsn → VolumeCall → Option Image → Option MountState → Type 0
IsLegal g vsn c image o = illegal_call (volume_plan g vsn image o c) (volume_needs vsn o c) ≡ None

image_read : (g : GroupId) (vsn : Vsn) (s : Side) (o : Option Image) (x : MountState) (m place n : ℕ) (bytes : List ℕ)
    → map.get s.images vsn.0 ≡ o → IsLegal g vsn (volume_call.ReadChunk m place n bytes) o (Some x) → ReadOf s x vsn place n bytes
image_read g vsn s None x m place n bytes is legal = absurd (cc)
image_read g vsn s (Some image) x m place n bytes is legal =
    let c = volume_call.ReadChunk m place n bytes in
    let hold = all_hold (guards_of None (volume_plan g vsn (Some image) (Some x) c) (volume_needs vsn (Some x) c)) legal in
    record {
      image = image;
      is = is;
      volume = texts_equal x.vsn.0 vsn.0 hold.1.0;
      sized = eqb-true (length bytes) n hold.1.1.1.0;
      agreed = bound_agrees x.bound (agrees_with_known image.known place bytes) hold.1.1.1.1.0;
    }

pub read_of : (j : Joint) (w : ℕ) (g : GroupId) (vsn : Vsn) (s : Side) (x : MountState) (m place n : ℕ) (bytes : List ℕ) (later : Joint) (a : Answer)
    → map.get j.sides g.0 ≡ Some s → map.get s.mounts m ≡ Some x
    → step j w (event.Call (call.Volume g vsn (volume_call.ReadChunk m place n bytes))) ≡ Stepped later a
    → ReadOf s x vsn place n bytes
read_of j w g vsn s x m place n bytes later a side mount is =
    let c = volume_call.ReadChunk m place n bytes in
    let p = volume_plan_in g vsn c (map.get j.sides g.0) in
    let needs = volume_needs_in vsn c (map.get j.sides g.0) in
    let legal = (outcome_is (illegal_call p needs) (after_call w (prepared_plan p) j) later (prepared_plan p).answer a is).0 in
    let here : IsLegal g vsn c (map.get s.images vsn.0) (map.get s.mounts m) =
    subst (λ o. illegal_call (volume_plan_in g vsn c o) (volume_needs_in vsn c o) ≡ None) side legal in
    image_read g vsn s (map.get s.images vsn.0) x m place n bytes refl (subst (λ o. IsLegal g vsn c (map.get s.images vsn.0) o) mount here)

-- ---- the chunk of a mount

first_of_two : 0 < 2
first_of_two = omega arith

second_of_two : 1 < 2
second_of_two = omega arith

-- what a mount of a chunk is of: the chunk is still there, on the mount's volume
pub record ChunkThere (contents : ByNumber (List ℕ)) (s : Side) (b : ℕ) (c : Chunk) (x : MountState) : Type 0 where
  pub volume : VolumeRow
  pub is : map.get s.group.tables.volumes c.vsn.0 ≡ Some volume
  pub still : StillThere contents s.images s.group.reservations s.group.moves volume b c
  pub on : c.vsn.0 ≡ x.vsn.0

still_there : (contents : ByNumber (List ℕ)) (s : Side) (b : ℕ) (c : Chunk) (x : MountState)
    → OnceLive contents s.group.tables.volumes s.images s.group.reservations s.group.moves x.epoch b c
    → x.epoch ≡ epoch_or (map.get s.group.tables.volumes x.vsn.0) → c.vsn ≡ x.vsn → ChunkThere contents s b c x
still_there contents s b c x once epoch same =
    let on : c.vsn.0 ≡ x.vsn.0 = ap (λ (v : Vsn). v.0) same in
    let now : once.volume.epoch ≡ x.epoch =
    sym (epoch ∙ ap (λ v. epoch_or (map.get s.group.tables.volumes v)) (sym on) ∙ ap epoch_or once.is) in
    record { volume = once.volume; is = once.is; still = once.still now; on = on }

chunk_there_of : (contents : ByNumber (List ℕ)) (s : Side) (b : Bfid) (c : Chunk) (m : ℕ) (x : MountState) (o : Origin) → x.origin ≡ o
    → IsForChunk b c o → map.get s.mounts m ≡ Some x
    → MountOnce contents s.group.tables.volumes s.images s.group.reservations s.group.moves x.epoch o
    → OriginKept s.group.conf s.group.reservations s.copies s.group.moves s.group.reuses m x.vsn o
    → x.epoch ≡ epoch_or (map.get s.group.tables.volumes x.vsn.0) → ChunkThere contents s b.0 c x
chunk_there_of contents s b c m x (origin.New listed format) made for is once origin_kept epoch = absurd for
chunk_there_of contents s b c m x (origin.Piece d index p chunk) made for is once origin_kept epoch = absurd for
chunk_there_of contents s b c m x (origin.Chunk d e) made for is once origin_kept epoch =
    subst (λ y. ChunkThere contents s b.0 y x) for.1
    (subst (λ (y : Bfid). ChunkThere contents s y.0 e x) for.0 (still_there contents s d.0 e x once epoch origin_kept))
chunk_there_of contents s b c m x (origin.Source job d e) made for is once origin_kept epoch =
    subst (λ y. ChunkThere contents s b.0 y x) for.1
    (subst (λ (y : Bfid). ChunkThere contents s y.0 e x) for.0 (still_there contents s d.0 e x once epoch origin_kept.volume))
chunk_there_of contents s b c m x (origin.Target job d total e version) made for is once origin_kept epoch = absurd for
chunk_there_of contents s b c m x (origin.Reuse next_epoch version reading) made for is once origin_kept epoch = absurd for

module _ (j : Joint) (kept : InvariantHolds j) (g : ℕ) (s : Side) (side : map.get j.sides g ≡ Some s) where
  pub chunk_there : (m : ℕ) (x : MountState) (b : Bfid) (c : Chunk) → map.get s.mounts m ≡ Some x → IsForChunk b c x.origin
      → ChunkThere j.history.contents s b.0 c x
  chunk_there m x b c is for =
      let k = kept.sides g s side in
      chunk_there_of j.history.contents s b c m x x.origin refl for is (k.once m x is) (k.mounts.origin m x is) (k.mounts.epoch m x is)

  -- a sum that is right is that of the part
  sum_of_part : (part : List ℕ) (o : Option (List ℕ)) (sum : List ℕ) → o ≡ Some sum → IsSumOf part o → sum ≡ sha256 part
  sum_of_part part None sum is right = absurd (cc)
  sum_of_part part (Some own) sum is right = sym (same_Some own sum is) ∙ right

  -- what is known of a read of the whole chunk
  pub known_of_read : (m : ℕ) (x : MountState) (vsn : Vsn) (b : Bfid) (c : Chunk) (bytes : List ℕ) → map.get s.mounts m ≡ Some x
      → IsForChunk b c x.origin → ReadOf s x vsn c.place c.len bytes → ReadKnown j.history.contents b.0 c x bytes
  known_of_read m x vsn b c bytes is for read =
      let there = chunk_there m x b c is for in
      let still = there.still in
      let part = part_of still.bytes c.offset c.len in
      let image : known_on s.images c.vsn.0 ≡ read.image.known = ap (known_on s.images) (there.on ∙ read.volume) ∙ ap known_of read.is in
      let here : known_bytes read.image.known c.place c.len ≡ Some part = sym (ap (λ k. known_bytes k c.place c.len) image) ∙ still.known in
      let known : known_bytes read.image.known c.place (length bytes) ≡ Some part = ap (known_bytes read.image.known c.place) read.sized ∙ here in
      record {
        whole = still.bytes;
        content = still.content;
        len = read.sized;
        bound = λ yes. sym (agrees-known_bytes read.image.known c.place bytes part (read.agreed yes) known);
        summed = λ sum has given apart.
            let long : length part ≡ c.len = known_length read.image.known c.place c.len part here in
            sym (apart bytes part (0, first_of_two, refl) (1, second_of_two, refl) (read.sized ∙ sym long) (given ∙ sum_of_part part c.sum sum has still.right));
      }

-- a read of the chunk of its mount gives the chunk's part of the content
pub chunks_right : (j : Joint) → InvariantHolds j → ChunksRight j
chunks_right j kept = λ w m g vsn b c bytes s x later side mount for is.
    known_of_read j kept g.0 s side m x vsn b c bytes mount for (read_of j w g vsn s x m c.place c.len bytes later (answer.ChunkRead bytes) side mount is)
