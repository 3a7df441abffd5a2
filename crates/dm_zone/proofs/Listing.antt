-- The chunks of a zone that is spelled, told one behind the other.
use Rattle.std.proofs.Common.{◌≡◌, ℕ, ◌+◌, ◌<◌, ◌≤◌, length-append, List, [], ◌∷◌, ◌++◌, length, drop, sym, ap, ◌∙◌, arith, append_assoc}
use Rattle.std.specs.Int.{w64}
use Rattle.std.specs.List.{flat_map, AllByRecursion}
use Rattle.std.proofs.lemmas.List.{append-nil, drop_at}
use Rattle.dm_rules.specs.Version.{chunk_header}
use Rattle.dm_rules.specs.Zone.{SpelledChunk, chunk_text, zone, zone_front}
use Rattle.dm_zone.specs.declared.contents.ZoneChunk.{ZoneChunk}
use Rattle.dm_zone.specs.Fields.{number_at, chunk_fields, AllRight}
use Rattle.dm_zone.specs.Grammar.{IsChunk, IsZone}
use Rattle.dm_zone.specs.Reading.{IsSpelled, entries, entry, entry_at}
use Rattle.dm_zone.proofs.Cuts.{length-zone_front}
use Rattle.dm_zone.proofs.Headers.{chunk_again, length-chunk_text, text_right}
use Rattle.dm_zone.proofs.OneWay.{one_zone}

-- n chunks of so many were told, and these are left, from `place` on
pub record Listing (version : ℕ) (bytes : List ℕ) (count n : ℕ) (told : List ZoneChunk) (place : ℕ) (rest : List ℕ) : Type 0 where
  pub epoch : ℕ
  pub all : List SpelledChunk
  pub left : List SpelledChunk
  pub is_zone : IsZone version epoch all
  pub spelled : bytes ≡ zone epoch all
  pub each : AllByRecursion (IsChunk version) left
  pub rest_is : rest ≡ flat_map chunk_text left
  pub told_is : told ++ entries version place left ≡ entries version 32 all
  pub count_is : n + length left ≡ count

pub listing_none : (version : ℕ) (bytes rest : List ℕ) (count : ℕ) (told : List ZoneChunk) → (epoch : ℕ) × IsSpelled version bytes epoch count → told ≡ [] → rest ≡ drop 32 bytes → Listing version bytes count 0 told 32 rest
listing_none version bytes rest count told s none all =
    let z = s.1 in
    let flat = flat_map chunk_text z.chunks in
    let front = zone_front s.0 (length z.chunks) (32 + length flat) in
    record {
      epoch = s.0;
      all = z.chunks;
      left = z.chunks;
      is_zone = z.is_zone;
      spelled = z.spelled;
      each = z.is_zone.each;
      rest_is = all ∙ ap (drop 32) z.spelled ∙ drop_at front flat 32 (length-zone_front s.0 (length z.chunks) (32 + length flat));
      told_is = ap (λ es. es ++ entries version 32 z.chunks) none;
      count_is = omega (arith, z.count_is);
    }

-- the next chunk, while there is one
pub record Next (version : ℕ) (c : SpelledChunk) (cs : List SpelledChunk) (rest : List ℕ) : Type 0 where
  pub right : AllRight (chunk_fields version) rest
  pub told_is : (place : ℕ) → entry_at version place rest ≡ entry version place c
  pub len_is : number_at w64 32 rest ≡ length c.bytes
  pub rest_is : drop (chunk_header version + number_at w64 32 rest) rest ≡ flat_map chunk_text cs

next_of : (version : ℕ) (c : SpelledChunk) (cs : List SpelledChunk) (rest : List ℕ) → IsChunk version c → rest ≡ flat_map chunk_text (c ∷ cs) → Next version c cs rest
next_of version c cs rest is rest_is =
    let a = chunk_again version c (flat_map chunk_text cs) rest is rest_is in
    record {
      right = a.right;
      told_is = λ place i. record {
        bfid = record { 0 = (a.chunk_is i).bfid };
        total = (a.chunk_is i).total;
        offset = (a.chunk_is i).offset;
        at = place + chunk_header version;
        len = a.count_is i;
        sum = (a.chunk_is i).sum;
      };
      len_is = a.count_is;
      rest_is = a.rest_is;
    }

pub next_right : (version : ℕ) (bytes rest : List ℕ) (count n place : ℕ) (told : List ZoneChunk) → n < count → Listing version bytes count n told place rest → AllRight (chunk_fields version) rest
next_right version bytes rest count n place told more l = by l.left l.each l.rest_is l.count_is
  where
    by : (left : List SpelledChunk) → AllByRecursion (IsChunk version) left → rest ≡ flat_map chunk_text left → n + length left ≡ count → AllRight (chunk_fields version) rest
    by [] each is counts = absurd (omega (arith, more, counts))
    by (c ∷ cs) each is counts = (next_of version c cs rest each.0 is).right

pub listing_next : (version header : ℕ) (bytes rest after : List ℕ) (count n place : ℕ) (told told' : List ZoneChunk) (chunk : ZoneChunk) → header ≡ chunk_header version → n < count → chunk ≡ entry_at version place rest → told' ≡ told ++ chunk ∷ []
    → after ≡ drop (header + chunk.len) rest → Listing version bytes count n told place rest → Listing version bytes count (n + 1) told' (place + (header + chunk.len)) after
listing_next version header bytes rest after count n place told told' chunk header_is more is told_is after_is l = by l.left l.each l.rest_is l.told_is l.count_is
  where
    by : (left : List SpelledChunk) → AllByRecursion (IsChunk version) left → rest ≡ flat_map chunk_text left → told ++ entries version place left ≡ entries version 32 l.all → n + length left ≡ count
        → Listing version bytes count (n + 1) told' (place + (header + chunk.len)) after
    by [] each rest_is tells counts = absurd (omega (arith, more, counts))
    by (c ∷ cs) each rest_is tells counts =
        let k = next_of version c cs rest each.0 rest_is in
        let one : chunk ≡ entry version place c = is ∙ k.told_is place in
        let len : chunk.len ≡ number_at w64 32 rest = ap (λ e. e.len) is in
        let there : place + (header + chunk.len) ≡ place + length (chunk_text c) = omega (arith, header_is, len, k.len_is, length-chunk_text version c each.0) in
        let behind : header + chunk.len ≡ chunk_header version + number_at w64 32 rest = omega (arith, header_is, len) in
        record {
          epoch = l.epoch;
          all = l.all;
          left = cs;
          is_zone = l.is_zone;
          spelled = l.spelled;
          each = each.1;
          rest_is = after_is ∙ ap (λ m. drop m rest) behind ∙ k.rest_is;
          told_is = ap (λ es. es ++ entries version (place + (header + chunk.len)) cs) told_is
              ∙ append_assoc told (chunk ∷ []) (entries version (place + (header + chunk.len)) cs)
              ∙ ap (λ e. told ++ e ∷ entries version (place + (header + chunk.len)) cs) one
              ∙ ap (λ p. told ++ entry version place c ∷ entries version p cs) there
              ∙ tells;
          count_is = omega (arith, counts);
        }

-- none is left
pub listing_all : (version : ℕ) (bytes rest : List ℕ) (count n place : ℕ) (told : List ZoneChunk) → n ≡ count → Listing version bytes count n told place rest
    → (epoch : ℕ) (chunks : List SpelledChunk) → IsZone version epoch chunks → bytes ≡ zone epoch chunks → told ≡ entries version 32 chunks
listing_all version bytes rest count n place told all l epoch chunks is spelled =
    let one = one_zone version bytes l.epoch epoch l.all chunks l.is_zone is l.spelled spelled in
    by l.left l.told_is l.count_is ∙ ap (entries version 32) one.1
  where
    by : (left : List SpelledChunk) → told ++ entries version place left ≡ entries version 32 l.all → n + length left ≡ count → told ≡ entries version 32 l.all
    by [] tells counts = sym (append-nil told) ∙ tells
    by (c ∷ cs) tells counts = absurd (omega (arith, all, counts))

-- the next chunk ends within what is left
pub listing_fits : (version header : ℕ) (bytes rest : List ℕ) (count n place : ℕ) (told : List ZoneChunk) (chunk : ZoneChunk) → header ≡ chunk_header version → n < count → chunk ≡ entry_at version place rest
    → Listing version bytes count n told place rest → header + chunk.len ≤ length rest
listing_fits version header bytes rest count n place told chunk header_is more is l =
    let there = (text_right version rest (next_right version bytes rest count n place told more l)).there in
    let len : chunk.len ≡ number_at w64 32 rest = ap (λ e. e.len) is in
    omega (arith, there, header_is, len)

-- a zone has its header
pub spelled_long : (version : ℕ) (bytes : List ℕ) (count : ℕ) → (epoch : ℕ) × IsSpelled version bytes epoch count → 32 ≤ length bytes
spelled_long version bytes count s =
    let z = s.1 in
    let flat = flat_map chunk_text z.chunks in
    let front = zone_front s.0 (length z.chunks) (32 + length flat) in
    omega (arith, ap length z.spelled, length-append front flat, length-zone_front s.0 (length z.chunks) (32 + length flat))
