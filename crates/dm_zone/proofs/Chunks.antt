-- Chunks read one behind the other.
use Rattle.std.proofs.Common.{◌≡◌, ◌≢◌, inl, inr, ℕ, ◌+◌, ◌<◌, ◌≤◌, List, [], ◌∷◌, ◌++◌, length, take, drop, refl, sym, ap, subst, ◌∙◌, arith, append_assoc, length-append}
use Rattle.std.specs.Int.{w32, w64}
use Rattle.std.specs.List.{flat_map, AllByRecursion}
use Rattle.std.proofs.lemmas.List.{append-nil, nil_from_length, take_at, drop_at}
use Rattle.std.proofs.lemmas.Grind.{flat_map-append}
use Rattle.dm_rules.specs.Version.{chunk_header}
use Rattle.dm_rules.specs.Zone.{SpelledChunk, chunk_front, chunk_text, sum_text, zone, zone_front}
use Rattle.dm_zone.specs.declared.contents.ZoneChunk.{ZoneChunk}
use Rattle.dm_zone.specs.Fields.{number_at, zone_fields, chunk_fields, AllRight}
use Rattle.dm_zone.specs.Grammar.{IsChunk, IsZone}
use Rattle.dm_zone.specs.Reading.{Begins, IsHeader, IsSpelled, Read, ReadTo, Spells, Stand, Stops, WrongAt, entries, entry, entry_at}
use Rattle.dm_zone.proofs.Wide.{IsBytes, IsBytes-drop}
use Rattle.dm_zone.proofs.Headers.{chunk_at, chunk_parts, length-chunk_text, zone_header_is, zone_numbers}
use Rattle.dm_zone.proofs.Cuts.{length-zone_front}

each_push : (version : ℕ) (cs : List SpelledChunk) (c : SpelledChunk) → AllByRecursion (IsChunk version) cs → IsChunk version c → AllByRecursion (IsChunk version) (cs ++ c ∷ [])
each_push version [] c each is = (is, tt)
each_push version (x ∷ cs) c each is = (each.0, each_push version cs c each.1 is)

entries_push : (version place : ℕ) (cs : List SpelledChunk) (c : SpelledChunk) → entries version place (cs ++ c ∷ []) ≡ entries version place cs ++ entry version (place + length (flat_map chunk_text cs)) c ∷ []
entries_push version place [] c = ap (λ p. entry version p c ∷ []) (sym (omega arith))
entries_push version place (x ∷ cs) c =
    let later : place + length (chunk_text x) + length (flat_map chunk_text cs) ≡ place + length (chunk_text x ++ flat_map chunk_text cs) = omega (arith, length-append (chunk_text x) (flat_map chunk_text cs)) in
    ap (λ es. entry version place x ∷ es) (entries_push version (place + length (chunk_text x)) cs c ∙ ap (λ p. entries version (place + length (chunk_text x)) cs ++ entry version p c ∷ []) later)

-- before the first chunk
pub read_none : (version : ℕ) (text rest : List ℕ) (told : List ZoneChunk) → told ≡ [] → rest ≡ text → Read version text 0 told 32 rest
read_none version text rest told none all = record { chunks = []; spelled = sym all; each = tt; count = refl; told_is = none; place_is = refl }

-- what is left of bytes is bytes
rest_fits : (text front rest : List ℕ) → IsBytes text → text ≡ front ++ rest → IsBytes rest
rest_fits text front rest fits parts = subst IsBytes (ap (drop (length front)) parts ∙ drop_at front rest (length front) refl) (IsBytes-drop (length front) text fits)

-- one chunk more is read
read_more : (version : ℕ) (text rest : List ℕ) (n place : ℕ) (told : List ZoneChunk) → IsBytes rest → AllRight (chunk_fields version) rest → Read version text n told place rest
    → Read version text (n + 1) (told ++ entry_at version place rest ∷ []) (place + (chunk_header version + number_at w64 32 rest)) (drop (chunk_header version + number_at w64 32 rest) rest)
read_more version text rest n place told fits right r =
    let p = chunk_parts version rest fits right in
    let c = chunk_at version rest in
    let after = drop (chunk_header version + number_at w64 32 rest) rest in
    let flat = flat_map chunk_text r.chunks in
    let one : flat_map chunk_text (r.chunks ++ c ∷ []) ≡ flat ++ chunk_text c = flat_map-append chunk_text r.chunks (c ∷ []) ∙ ap (λ t. flat ++ t) (append-nil (chunk_text c)) in
    let told_one : entry version place c ≡ entry_at version place rest = ap (λ k. record { bfid = record { 0 = c.bfid }; total = c.total; offset = c.offset; at = place + chunk_header version; len = k; sum = c.sum }) p.count in
    record {
      chunks = r.chunks ++ c ∷ [];
      spelled = r.spelled ∙ ap (λ t. flat ++ t) p.parts ∙ sym (append_assoc flat (chunk_text c) after) ∙ ap (λ t. t ++ after) (sym one);
      each = each_push version r.chunks c r.each p.is_chunk;
      count = length-append r.chunks (c ∷ []) ∙ ap (λ k. k + 1) r.count;
      told_is = ap (λ es. es ++ entry_at version place rest ∷ []) r.told_is
          ∙ ap (λ e. entries version 32 r.chunks ++ e ∷ []) (sym told_one)
          ∙ ap (λ k. entries version 32 r.chunks ++ entry version k c ∷ []) r.place_is
          ∙ sym (entries_push version 32 r.chunks c);
      place_is = omega (arith, r.place_is, ap length one, length-append flat (chunk_text c), length-chunk_text version c p.is_chunk, p.count);
    }

-- the same with names for what the code has
pub read_next : (version header len : ℕ) (bytes text rest after : List ℕ) (n place : ℕ) → header ≡ chunk_header version → text ≡ drop 32 bytes → IsBytes bytes
    → AllRight (chunk_fields version) rest → len ≡ number_at w64 32 rest → after ≡ drop (header + len) rest
    → (told : List ZoneChunk) × Read version text n told place rest → (told : List ZoneChunk) × Read version text (n + 1) told (place + (header + len)) after
read_next version header len bytes text rest after n place header_is text_is fits right len_is after_is so =
    let r = so.1 in
    let bytes_left = rest_fits text (flat_map chunk_text r.chunks) rest (subst IsBytes (sym text_is) (IsBytes-drop 32 bytes fits)) r.spelled in
    let more = read_more version text rest n place so.0 bytes_left right r in
    let step : header + len ≡ chunk_header version + number_at w64 32 rest = omega (arith, header_is, len_is) in
    let told = so.0 ++ entry_at version place rest ∷ [] in
    let a = subst (λ (k : ℕ). Read version text (n + 1) told (place + k) (drop k rest)) (sym step) more in
    (told, subst (λ (t : List ℕ). Read version text (n + 1) told (place + (header + len)) t) (sym after_is) a)

-- ---- the whole zone

-- what was read behind a right header
begins : (version : ℕ) (bytes rest : List ℕ) (count epoch whole : ℕ) (chunks : List SpelledChunk) → IsBytes bytes → AllRight zone_fields bytes → IsHeader count epoch whole bytes → AllByRecursion (IsChunk version) chunks
    → drop 32 bytes ≡ flat_map chunk_text chunks ++ rest → Begins version bytes epoch count whole chunks rest
begins version bytes rest count epoch whole chunks fits right h each behind =
    let n = zone_numbers bytes fits right in
    record {
      spelled = zone_header_is bytes fits right
          ∙ ap (λ k. zone_front k (number_at w32 4 bytes) (number_at w64 16 bytes) ++ drop 32 bytes) (sym h.epoch_is)
          ∙ ap (λ k. zone_front epoch k (number_at w64 16 bytes) ++ drop 32 bytes) (sym h.count_is)
          ∙ ap (λ k. zone_front epoch count k ++ drop 32 bytes) (sym h.whole_is)
          ∙ ap (λ t. zone_front epoch count whole ++ t) behind;
      epoch_fits = omega (arith, h.epoch_is, n.epoch_fits);
      some = omega (arith, h.count_is, n.count_some);
      count_fits = omega (arith, h.count_is, n.count_fits);
      whole_fits = omega (arith, h.whole_is, n.whole_fits);
      each = each;
    }

pub wrong_in_chunk : (version : ℕ) (bytes : List ℕ) (count epoch whole place : ℕ) → IsBytes bytes → AllRight zone_fields bytes → IsHeader count epoch whole bytes → Stops version (drop 32 bytes) count place → WrongAt version bytes place
wrong_in_chunk version bytes count epoch whole place fits right h s = inr (record {
  epoch = epoch;
  count = count;
  whole = whole;
  chunks = s.chunks;
  rest = s.rest;
  begins = begins version bytes s.rest count epoch whole s.chunks fits right h s.each s.spelled;
  wrong = inl s.wrong;
})

pub wrong_length : (version : ℕ) (bytes rest : List ℕ) (count epoch whole end : ℕ) (told : List ZoneChunk) → IsBytes bytes → AllRight zone_fields bytes → IsHeader count epoch whole bytes → Read version (drop 32 bytes) count told end rest → whole ≢ end → WrongAt version bytes 16
wrong_length version bytes rest count epoch whole end told fits right h r differs = inr (record {
  epoch = epoch;
  count = count;
  whole = whole;
  chunks = r.chunks;
  rest = rest;
  begins = begins version bytes rest count epoch whole r.chunks fits right h r.each r.spelled;
  wrong = inr (inl (record { all = r.count; differs = λ same. differs (same ∙ sym r.place_is); place_is = refl }));
})

pub left_over : (version : ℕ) (bytes rest : List ℕ) (count epoch whole end : ℕ) (told : List ZoneChunk) → IsBytes bytes → AllRight zone_fields bytes → IsHeader count epoch whole bytes → Read version (drop 32 bytes) count told end rest → whole ≡ end → 0 < length rest → WrongAt version bytes end
left_over version bytes rest count epoch whole end told fits right h r same left = inr (record {
  epoch = epoch;
  count = count;
  whole = whole;
  chunks = r.chunks;
  rest = rest;
  begins = begins version bytes rest count epoch whole r.chunks fits right h r.each r.spelled;
  wrong = inr (inr (record { all = r.count; whole_is = same ∙ r.place_is; left = left; place_is = sym same }));
})

-- each chunk's bytes stand where its entry says
stand_from : (version : ℕ) (bytes front rest : List ℕ) (place : ℕ) (cs : List SpelledChunk) → length front ≡ place → AllByRecursion (IsChunk version) cs
    → bytes ≡ front ++ (flat_map chunk_text cs ++ rest) → Stand bytes (entries version place cs) cs
stand_from version bytes front rest place [] at each spelled = tt
stand_from version bytes front rest place (c ∷ cs) at each spelled =
    let h = chunk_header version in
    let header = chunk_front c.bfid c.offset (length c.bytes) c.total ++ sum_text c.sum in
    let later = flat_map chunk_text cs ++ rest in
    let first : bytes ≡ front ++ (chunk_text c ++ later) = spelled ∙ ap (λ t. front ++ t) (append_assoc (chunk_text c) (flat_map chunk_text cs) rest) in
    let cut : bytes ≡ (front ++ header) ++ (c.bytes ++ later) = first ∙ ap (λ t. front ++ t) (append_assoc header c.bytes later) ∙ sym (append_assoc front header (c.bytes ++ later)) in
    let long : length (front ++ header) ≡ place + h = omega (arith, at, length-append front header, length-append header c.bytes, length-chunk_text version c each.0) in
    let there : drop (place + h) bytes ≡ c.bytes ++ later = ap (drop (place + h)) cut ∙ drop_at (front ++ header) (c.bytes ++ later) (place + h) long in (
      ap (take (length c.bytes)) there ∙ take_at c.bytes later (length c.bytes) refl,
      stand_from version bytes (front ++ chunk_text c) rest (place + length (chunk_text c)) cs (omega (arith, at, length-append front (chunk_text c))) each.1 (first ∙ sym (append_assoc front (chunk_text c) later)),
    )

pub stand : (version : ℕ) (bytes : List ℕ) (epoch : ℕ) (chunks : List SpelledChunk) → AllByRecursion (IsChunk version) chunks → bytes ≡ zone epoch chunks
    → Stand bytes (entries version 32 chunks) chunks
stand version bytes epoch chunks each spelled =
    let front = zone_front epoch (length chunks) (32 + length (flat_map chunk_text chunks)) in
    stand_from version bytes front [] 32 chunks (length-zone_front epoch (length chunks) (32 + length (flat_map chunk_text chunks))) each (spelled ∙ ap (λ t. front ++ t) (sym (append-nil (flat_map chunk_text chunks))))

-- nothing is left: the zone is read
pub spells : (version : ℕ) (bytes rest : List ℕ) (count epoch whole end : ℕ) (told : List ZoneChunk) → IsBytes bytes → AllRight zone_fields bytes → IsHeader count epoch whole bytes → Read version (drop 32 bytes) count told end rest → whole ≡ end → length rest ≡ 0
    → (chunks : List SpelledChunk) × Spells version bytes epoch told chunks
spells version bytes rest count epoch whole end told fits right h r same none =
    let b = begins version bytes rest count epoch whole r.chunks fits right h r.each r.spelled in
    let flat = flat_map chunk_text r.chunks in
    let all : flat ++ rest ≡ flat = ap (λ t. flat ++ t) (nil_from_length rest none) ∙ append-nil flat in
    let spelled : bytes ≡ zone epoch r.chunks = b.spelled ∙ ap (λ t. zone_front epoch count whole ++ t) all ∙ ap (λ k. zone_front epoch k whole ++ flat) (sym r.count) ∙ ap (λ k. zone_front epoch (length r.chunks) k ++ flat) (same ∙ r.place_is) in (
      r.chunks,
      record {
        spelled = spelled;
        is_zone = record {
          epoch_fits = b.epoch_fits;
          some = omega (arith, r.count, b.some);
          count_fits = omega (arith, r.count, b.count_fits);
          each = r.each;
          whole_fits = omega (arith, same, r.place_is, b.whole_fits);
        };
        told_is = r.told_is;
        stand = subst (λ (es : List ZoneChunk). Stand bytes es r.chunks) (sym r.told_is) (stand version bytes epoch r.chunks r.each spelled);
      },
    )

-- so the bytes are a zone of so many chunks
pub is_spelled : (version : ℕ) (bytes : List ℕ) (count epoch whole end : ℕ) → IsBytes bytes → AllRight zone_fields bytes → IsHeader count epoch whole bytes → (to : ReadTo version bytes count end) → whole ≡ end → length bytes ≤ end
    → IsSpelled version bytes epoch count
is_spelled version bytes count epoch whole end fits right h to same all =
    let r = to.read in
    let b = begins version bytes to.rest count epoch whole r.chunks fits right h r.each r.spelled in
    let flat = flat_map chunk_text r.chunks in
    let none : length to.rest ≡ 0 = omega (arith, to.left, all) in
    let joined : flat ++ to.rest ≡ flat = ap (λ t. flat ++ t) (nil_from_length to.rest none) ∙ append-nil flat in
    record {
      chunks = r.chunks;
      is_zone = record {
        epoch_fits = b.epoch_fits;
        some = omega (arith, r.count, b.some);
        count_fits = omega (arith, r.count, b.count_fits);
        each = r.each;
        whole_fits = omega (arith, same, r.place_is, b.whole_fits);
      };
      spelled = b.spelled ∙ ap (λ t. zone_front epoch count whole ++ t) joined ∙ ap (λ k. zone_front epoch k whole ++ flat) (sym r.count) ∙ ap (λ k. zone_front epoch (length r.chunks) k ++ flat) (same ∙ r.place_is);
      count_is = r.count;
    }

-- what is told of a zone that is spelled, with its chunks
pub spelled_told : (version : ℕ) (bytes : List ℕ) (epoch : ℕ) (told : List ZoneChunk) (chunks : List SpelledChunk) → IsZone version epoch chunks → bytes ≡ zone epoch chunks
    → told ≡ entries version 32 chunks → Spells version bytes epoch told chunks
spelled_told version bytes epoch told chunks is spelled told_is = record {
  spelled = spelled;
  is_zone = is;
  told_is = told_is;
  stand = subst (λ (es : List ZoneChunk). Stand bytes es chunks) (sym told_is) (stand version bytes epoch chunks is.each spelled);
}
