-- Bytes cut into chunks.
use Rattle.std.proofs.Common.{◌≡◌, ℕ, zero, suc, ◌+◌, ◌*◌, ◌^◌, ◌<◌, ◌≤◌, List, ◌++◌, length, take, drop, refl, ap, ◌∙◌, sym, arith, append_assoc, length-append, length-take, length-drop}
use Rattle.std.specs.List.{flat_map, AllByRecursion}
use Rattle.std.proofs.lemmas.List.{append-nil, take_all, drop_at}
use Rattle.std.proofs.lemmas.Grind.{div_ceil_times}
use Rattle.dm_rules.specs.Version.{chunk_header}
use Rattle.dm_rules.specs.Zone.{chunk_count, chunk_front, chunk_sum, chunk_text, chunk_split, chunk_split_into, sum_text, zone, zone_front, zone_length}
use Rattle.dm_rules.proofs.Sums.{length-sum_text}
use Rattle.dm_zone.specs.Grammar.{IsChunk, IsZone}

pub length-chunk_front : (bfid offset count total : ℕ) → length (chunk_front bfid offset count total) ≡ 48
unfolding chunk_front
length-chunk_front bfid offset count total = refl

pub length-zone_front : (epoch count whole : ℕ) → length (zone_front epoch count whole) ≡ 32
unfolding zone_front
length-zone_front epoch count whole = refl

-- the header of a chunk of these bytes
abbrev pub header_text : ℕ → ℕ → ℕ → ℕ → List ℕ → List ℕ
header_text version bfid total offset bytes = chunk_front bfid offset (length bytes) total ++ sum_text (chunk_sum version bytes)

pub length-header_text : (version bfid total offset : ℕ) (bytes : List ℕ) → length (header_text version bfid total offset bytes) ≡ chunk_header version
length-header_text version bfid total offset bytes = omega (
  arith,
  length-append (chunk_front bfid offset (length bytes) total) (sum_text (chunk_sum version bytes)),
  length-chunk_front bfid offset (length bytes) total,
  length-sum_text version bytes,
)

-- one chunk more is written
pub cut_more : (version : ℕ) (out rest all : List ℕ) (bfid total place chunk n : ℕ) → out ++ flat_map chunk_text (chunk_split_into version (suc n) bfid total place rest chunk) ≡ all → (out ++ chunk_text (record { bfid = bfid; total = total; offset = place; sum = chunk_sum version (take chunk rest); bytes = take chunk rest })) ++ flat_map chunk_text (chunk_split_into version n bfid total (place + length (take chunk rest)) (drop chunk rest) chunk) ≡ all
unfolding chunk_split_into
cut_more version out rest all bfid total place chunk n h =
    let front = take chunk rest in
    let first = chunk_text (record { bfid = bfid; total = total; offset = place; sum = chunk_sum version front; bytes = front }) in
    append_assoc out first (flat_map chunk_text (chunk_split_into version n bfid total (place + length front) (drop chunk rest) chunk)) ∙ h

-- the same with names for what the code has
pub cut_step : (version : ℕ) (out written front back rest all : List ℕ) (bfid total place chunk m n : ℕ) → m ≡ suc n → front ≡ take chunk rest → back ≡ drop chunk rest → written ≡ out ++ chunk_text (record { bfid = bfid; total = total; offset = place; sum = chunk_sum version front; bytes = front }) → out ++ flat_map chunk_text (chunk_split_into version m bfid total place rest chunk) ≡ all → written ++ flat_map chunk_text (chunk_split_into version n bfid total (place + length front) back chunk) ≡ all
cut_step version out written front back rest all bfid total place chunk m n more is_front is_back is_written h = rw (is_written, is_front, is_back) (cut_more version out rest all bfid total place chunk n (rw more at h))

-- no chunk is left
pub cut_none : (version : ℕ) (out rest all : List ℕ) (bfid total place chunk n : ℕ) → n ≡ 0 → out ++ flat_map chunk_text (chunk_split_into version n bfid total place rest chunk) ≡ all → out ≡ all
unfolding chunk_split_into
cut_none version out rest all bfid total place chunk zero z h = sym (append-nil out) ∙ h
cut_none version out rest all bfid total place chunk (suc n) z h = absurd (omega arith)

pub length-cut_into : (version count bfid total offset : ℕ) (bytes : List ℕ) (chunk : ℕ) → length (chunk_split_into version count bfid total offset bytes chunk) ≡ count
unfolding chunk_split_into
length-cut_into version zero bfid total offset bytes chunk = refl
length-cut_into version (suc count) bfid total offset bytes chunk = ap suc (length-cut_into version count bfid total _ _ chunk)

-- the chunks have their headers and all the bytes
pub length-chunks : (version count bfid total offset : ℕ) (bytes : List ℕ) (chunk : ℕ) → length bytes ≤ count * chunk → length (flat_map chunk_text (chunk_split_into version count bfid total offset bytes chunk)) ≡ chunk_header version * count + length bytes
unfolding chunk_split_into
length-chunks version zero bfid total offset bytes chunk h = omega arith
length-chunks version (suc count) bfid total offset bytes chunk h =
    let front = take chunk bytes in
    let rest = drop chunk bytes in
    let others = chunk_split_into version count bfid total (offset + length front) rest chunk in
    let split : length front + length rest ≡ length bytes = omega (arith, length-take chunk bytes, length-drop chunk bytes) in
    let fewer : length rest ≤ count * chunk = omega (arith, length-drop chunk bytes, h) in
    let later = length-chunks version count bfid total (offset + length front) rest chunk fewer in
    omega (
      arith,
      split,
      later,
      length-header_text version bfid total offset front,
      length-append (header_text version bfid total offset front) front,
      length-append (header_text version bfid total offset front ++ front) (flat_map chunk_text others),
    )

-- the bytes stand behind both headers
pub behind_headers : (version epoch count whole bfid total offset : ℕ) (bytes : List ℕ) (chunk n : ℕ) → n ≡ 1 → length bytes ≤ chunk
    → drop (32 + chunk_header version) (zone_front epoch count whole ++ flat_map chunk_text (chunk_split_into version n bfid total offset bytes chunk)) ≡ bytes
unfolding chunk_split_into
behind_headers version epoch count whole bfid total offset bytes chunk (suc zero) one fits =
    let front = take chunk bytes in
    let head = zone_front epoch count whole in
    let first = header_text version bfid total offset front in
    let whole_front : front ≡ bytes = take_all chunk bytes fits in
    let joined : head ++ flat_map chunk_text (chunk_split_into version 1 bfid total offset bytes chunk) ≡ (head ++ first) ++ front =
    ap (λ xs. head ++ xs) (append-nil (first ++ front)) ∙ sym (append_assoc head first front) in
    let long : length (head ++ first) ≡ 32 + chunk_header version =
    omega (arith, length-append head first, length-zone_front epoch count whole, length-header_text version bfid total offset front) in
    ap (drop (32 + chunk_header version)) joined ∙ drop_at (head ++ first) front (32 + chunk_header version) long ∙ whole_front
behind_headers version epoch count whole bfid total offset bytes chunk zero one fits = absurd (omega arith)
behind_headers version epoch count whole bfid total offset bytes chunk (suc (suc n)) one fits = absurd (omega arith)

-- the chunks hold all the bytes
pub cut_holds : (n chunk : ℕ) → 0 < chunk → n ≤ chunk_count chunk n * chunk
cut_holds n chunk some = (div_ceil_times n chunk some).0

-- a header with the numbers of the cut begins its zone
pub zone_is : (version epoch bfid total offset : ℕ) (bytes : List ℕ) (chunk : ℕ) → 0 < chunk → zone_front epoch (chunk_count chunk (length bytes)) (zone_length version chunk (length bytes)) ++ flat_map chunk_text (chunk_split version bfid total offset bytes chunk) ≡ zone epoch (chunk_split version bfid total offset bytes chunk)
zone_is version epoch bfid total offset bytes chunk some =
    let count = chunk_count chunk (length bytes) in
    let chunks = length-chunks version count bfid total offset bytes chunk (cut_holds (length bytes) chunk some) in
    let whole : 32 + length (flat_map chunk_text (chunk_split version bfid total offset bytes chunk)) ≡ zone_length version chunk (length bytes) = omega (arith, chunks) in
    rw (whole, length-cut_into version count bfid total offset bytes chunk)

pub length-zone : (version epoch bfid total offset : ℕ) (bytes : List ℕ) (chunk n whole : ℕ) → 0 < chunk → length (zone_front epoch n whole ++ flat_map chunk_text (chunk_split version bfid total offset bytes chunk)) ≡ zone_length version chunk (length bytes)
length-zone version epoch bfid total offset bytes chunk n whole some =
    let chunks = length-chunks version (chunk_count chunk (length bytes)) bfid total offset bytes chunk (cut_holds (length bytes) chunk some) in
    omega (arith, chunks, length-zone_front epoch n whole, length-append (zone_front epoch n whole) (flat_map chunk_text (chunk_split version bfid total offset bytes chunk)))

-- bytes within their bitfile are cut into chunks of the grammar
cut_into_chunks : (version count bfid total offset : ℕ) (bytes : List ℕ) (chunk : ℕ) → bfid < 2 ^ 128 → total < 2 ^ 64 → 0 < chunk → offset + length bytes ≤ total → count * chunk < length bytes + chunk → AllByRecursion (IsChunk version) (chunk_split_into version count bfid total offset bytes chunk)
unfolding chunk_split_into
cut_into_chunks version zero bfid total offset bytes chunk b t some within reach = tt
cut_into_chunks version (suc count) bfid total offset bytes chunk b t some within reach =
    let front = take chunk bytes in
    let rest = drop chunk bytes in
    let long = length-take chunk bytes in
    let left = length-drop chunk bytes in
    let left_reach : count * chunk < length bytes = omega (arith, reach) in (
      record { bfid = b; total = t; some = omega (arith, long, some, left_reach); within = omega (arith, long, within); sum_is = refl },
      cut_into_chunks version count bfid total (offset + length front) rest chunk b t some (omega (arith, long, left, within)) (omega (arith, left, left_reach, some)),
    )

pub cut_zone : (version epoch bfid total offset : ℕ) (bytes : List ℕ) (chunk : ℕ) → epoch < 2 ^ 64 → bfid < 2 ^ 128 → total < 2 ^ 64 → 0 < chunk → 0 < length bytes → offset + length bytes ≤ total → chunk_count chunk (length bytes) < 2 ^ 32 → zone_length version chunk (length bytes) < 2 ^ 64
    → IsZone version epoch (chunk_split version bfid total offset bytes chunk)
cut_zone version epoch bfid total offset bytes chunk e b t some_chunk some within few fits =
    let n : ℕ = chunk_count chunk (length bytes) in
    let count = length-cut_into version n bfid total offset bytes chunk in
    let bounds = div_ceil_times (length bytes) chunk some_chunk in
    let chunks = length-chunks version n bfid total offset bytes chunk bounds.0 in
    record {
      epoch_fits = e;
      some = omega (arith, count, some_count n (length bytes) chunk some bounds.0);
      count_fits = omega (arith, count, few);
      each = cut_into_chunks version n bfid total offset bytes chunk b t some_chunk within bounds.1;
      whole_fits = omega (arith, chunks, fits);
    }
  where
    some_count : (d n chunk : ℕ) → 0 < n → n ≤ d * chunk → 0 < d
    some_count zero n chunk some reach = absurd (omega arith)
    some_count (suc d) n chunk some reach = omega arith
