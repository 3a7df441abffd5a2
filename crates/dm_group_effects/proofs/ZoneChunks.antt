-- The chunks of a piece, where they stand, and how they follow one another.
use Rattle.std.proofs.Common.{◌≡◌, ℕ, zero, suc, ◌+◌, ◌-◌, ◌*◌, ◌<◌, ◌≤◌, None, List, refl, sym, ap, subst, ◌∙◌, inl, inr, arith}
use Rattle.std.proofs.lemmas.Grind.{div_ceil_times}
use Rattle.dm_base.specs.declared.volume.Chunk.{Chunk}
use Rattle.dm_base.specs.declared.volume.Piece.{Piece}
use Rattle.dm_rules.specs.Numbers.{lesser}
use Rattle.dm_rules.specs.Plan.{chunks_at, chunks_of, zone_end}
use Rattle.dm_rules.specs.Version.{chunk_header}
use Rattle.dm_rules.specs.Zone.{chunk_count, zone_header}
use Rattle.dm_durable.specs.GroupConditions.{Joins}
use Rattle.dm_invariant.specs.Among.{IsAmong}
use Rattle.dm_invariant.specs.Places.{ChunkCovers}

-- ---- the chunks from an offset and a place on

-- a chunk lies behind its header, before the end of what is left, and has some of the bytes that are left; it names the zone of
-- the piece, and has no sum yet
record Inside (version : ℕ) (p : Piece) (count offset left place : ℕ) (c : Chunk) : Type 0 where
  volume : c.vsn ≡ p.vsn
  zone : c.zone ≡ p.zone
  low : place + chunk_header version ≤ c.place
  high : c.place + c.len ≤ place + chunk_header version * count + left
  from : offset ≤ c.offset
  to : c.offset + c.len ≤ offset + left
  some : 0 < c.len
  unsummed : c.sum ≡ None

-- what is left for the chunks behind the first
left_over : (chunk count left : ℕ) → suc count * chunk < left + chunk → count * chunk < (left - lesser chunk left) + chunk
left_over chunk count left reach = omega (arith, reach)

high_first : (h count left place taken : ℕ) → taken ≤ left → place + h + taken ≤ place + h * suc count + left
high_first h count left place taken less = omega (arith, less)

high_later : (h count left place taken end : ℕ) → taken ≤ left → end ≤ place + h + taken + h * count + (left - taken)
    → end ≤ place + h * suc count + left
high_later h count left place taken end less high = omega (arith, less, high)

inside_at : (version chunk count : ℕ) (p : Piece) (offset left place : ℕ) (c : Chunk) → 0 < chunk → count * chunk < left + chunk
    → IsAmong c (chunks_at version chunk count p offset left place) → Inside version p count offset left place c
unfolding chunks_at
inside_at version chunk zero p offset left place c some reach among = absurd among
inside_at version chunk (suc count) p offset left place c some reach among =
    let taken = lesser chunk left in
    let less : taken ≤ left = omega arith in
    elim among [
      | inl same ↦ subst (λ x. Inside version p (suc count) offset left place x) (sym same) (record {
        volume = refl;
        zone = refl;
        low = omega arith;
        high = high_first (chunk_header version) count left place taken less;
        from = omega arith;
        to = omega arith;
        some = omega (arith, reach, some);
        unsummed = refl;
      })
      | inr after ↦
          let k = inside_at version chunk count p (offset + taken) (left - taken) (place + chunk_header version + taken) c some
          (left_over chunk count left reach) after in
          let low = k.low in
          let high = k.high in
          let from = k.from in
          let to = k.to in
          record {
            volume = k.volume;
            zone = k.zone;
            low = omega (arith, low);
            high = high_later (chunk_header version) count left place taken (c.place + c.len) less high;
            from = omega (arith, from);
            to = omega (arith, to);
            some = k.some;
            unsummed = k.unsummed;
          }
    ]

-- no chunk reaches into the one behind it
apart_at : (version chunk count : ℕ) (p : Piece) (offset left place : ℕ) (c d : Chunk) (vsn : List ℕ) (at : ℕ) → 0 < chunk
    → count * chunk < left + chunk
    → IsAmong c (chunks_at version chunk count p offset left place) → IsAmong d (chunks_at version chunk count p offset left place)
    → ChunkCovers c vsn at → ChunkCovers d vsn at → c.offset ≡ d.offset
unfolding chunks_at
apart_at version chunk zero p offset left place c d vsn at some reach one two cover covers = absurd one
apart_at version chunk (suc count) p offset left place c d vsn at some reach one two cover covers =
    let taken = lesser chunk left in
    let rest = left_over chunk count left reach in
    let next : ℕ = place + chunk_header version + taken in
    let low = cover.low in
    let high = cover.high in
    let lowly = covers.low in
    let highly = covers.high in
    elim one [
      | inl first ↦ elim two [
        | inl also ↦ ap (λ x. x.offset) first ∙ sym (ap (λ x. x.offset) also)
        | inr after ↦
            let k = (inside_at version chunk count p (offset + taken) (left - taken) next d some rest after).low in
            let ends : c.place + c.len ≡ next = ap (λ x. x.place + x.len) first in
            absurd (omega (arith, k, ends, high, lowly))
      ]
      | inr behind ↦ elim two [
        | inl first ↦
            let k = (inside_at version chunk count p (offset + taken) (left - taken) next c some rest behind).low in
            let ends : d.place + d.len ≡ next = ap (λ x. x.place + x.len) first in
            absurd (omega (arith, k, ends, highly, low))
        | inr after ↦ apart_at version chunk count p (offset + taken) (left - taken) next c d vsn at some rest behind after cover covers
      ]
    ]

-- each begins where the one before ends, from the offset on to the end of what is left
joins_at : (version chunk count : ℕ) (p : Piece) (offset left place : ℕ) → 0 < chunk → left ≤ count * chunk → count * chunk < left + chunk
    → Joins offset (chunks_at version chunk count p offset left place) (offset + left)
unfolding chunks_at
joins_at version chunk zero p offset left place some holds reach = omega (arith, holds)
joins_at version chunk (suc count) p offset left place some holds reach =
    let taken = lesser chunk left in
    let later = chunks_at version chunk count p (offset + taken) (left - taken) (place + chunk_header version + taken) in
    let end : offset + taken + (left - taken) ≡ offset + left = omega arith in
    let more : left - taken ≤ count * chunk = omega (arith, holds) in
    let first : 0 < taken = omega (arith, reach, some) in
    let rest = joins_at version chunk count p (offset + taken) (left - taken) (place + chunk_header version + taken) some more
    (left_over chunk count left reach) in
    (refl, first, subst (λ to. Joins (offset + taken) later to) end rest)

-- ---- the chunks of a piece

-- a chunk stands in the zone of its piece, behind both headers, and has some of the bytes of the piece
pub record ChunkInside (chunk : ℕ) (p : Piece) (c : Chunk) : Type 0 where
  pub volume : c.vsn ≡ p.vsn
  pub zone : c.zone ≡ p.zone
  pub low : p.zone + zone_header + chunk_header p.version ≤ c.place
  pub high : c.place + c.len ≤ zone_end chunk p
  pub from : p.offset ≤ c.offset
  pub to : c.offset + c.len ≤ p.offset + p.len
  pub some : 0 < c.len
  pub unsummed : c.sum ≡ None

-- every chunk of a piece stands so
pub chunk_inside : (chunk : ℕ) (p : Piece) (c : Chunk) → 0 < chunk → IsAmong c (chunks_of chunk p) → ChunkInside chunk p c
chunk_inside chunk p c some among =
    let bounds = div_ceil_times p.len chunk some in
    let k = inside_at p.version chunk (chunk_count chunk p.len) p p.offset p.len (p.zone + zone_header) c some bounds.1 among in
    let high = k.high in
    record {
      volume = k.volume;
      zone = k.zone;
      low = k.low;
      high = omega (arith, high);
      from = k.from;
      to = k.to;
      some = k.some;
      unsummed = k.unsummed;
    }

-- two chunks of a piece that share a place are one
pub chunks_apart : (chunk : ℕ) (p : Piece) (c d : Chunk) (vsn : List ℕ) (place : ℕ) → 0 < chunk → IsAmong c (chunks_of chunk p)
    → IsAmong d (chunks_of chunk p) → ChunkCovers c vsn place → ChunkCovers d vsn place → c.offset ≡ d.offset
chunks_apart chunk p c d vsn place some one two cover covers =
    let bounds = div_ceil_times p.len chunk some in
    apart_at p.version chunk (chunk_count chunk p.len) p p.offset p.len (p.zone + zone_header) c d vsn place some bounds.1 one two cover covers

-- the chunks of a piece are its bytes, from its offset on
pub chunks_join : (chunk : ℕ) (p : Piece) → 0 < chunk → Joins p.offset (chunks_of chunk p) (p.offset + p.len)
chunks_join chunk p some =
    let bounds = div_ceil_times p.len chunk some in
    joins_at p.version chunk (chunk_count chunk p.len) p p.offset p.len (p.zone + zone_header) some bounds.0 bounds.1

-- the only chunk of a piece of one chunk
pub only_chunk : (p : Piece) → chunk_count p.len p.len ≡ 1
    → IsAmong {X = Chunk} (record {
      offset = p.offset;
      len = p.len;
      vsn = p.vsn;
      zone = p.zone;
      place = p.zone + zone_header + chunk_header p.version;
      sum = None;
    }) (chunks_of p.len p)
unfolding chunks_at
only_chunk p one =
    let whole : lesser p.len p.len ≡ p.len = omega arith in
    let made : ℕ → Chunk = λ n. record {
      offset = p.offset;
      len = n;
      vsn = p.vsn;
      zone = p.zone;
      place = p.zone + zone_header + chunk_header p.version;
      sum = None;
    } in
    subst (λ k. IsAmong (made p.len) (chunks_at p.version p.len k p p.offset p.len (p.zone + zone_header))) (sym one)
    (inl (ap made (sym whole)))
