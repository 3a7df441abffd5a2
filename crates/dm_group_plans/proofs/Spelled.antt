-- The zone of any bytes as one chunk.
use Rattle.std.proofs.Common.{◌≡◌, ℕ, ◌+◌, ◌<◌, List, [], ◌∷◌, ◌++◌, length, take, sym, ap, ◌∙◌, append_assoc, arith}
use Rattle.std.specs.List.{flat_map}
use Rattle.std.proofs.lemmas.List.{append-nil, take_all}
use Rattle.dm_rules.proofs.Sizes.{one_chunk, zone_alone}
use Rattle.dm_rules.specs.Version.{chunk_header}
use Rattle.dm_rules.specs.Zone.{chunk_count, chunk_front, chunk_split_into, chunk_sum, chunk_text, sum_text, weight, zone_front, zone_length, zone_of}
use Rattle.dm_zone.proofs.Cuts.{zone_is}

pub no_bytes : (version epoch bfid total offset : ℕ) (bytes : List ℕ) → length bytes ≡ 0 → zone_front epoch 0 32 ≡ zone_of version epoch bfid total offset bytes (length bytes)
unfolding chunk_split_into
no_bytes version epoch bfid total offset [] none = sym (append-nil (zone_front epoch 0 32))
no_bytes version epoch bfid total offset (b ∷ bytes) none = absurd (omega arith)

pub one_zone : (version epoch bfid total offset : ℕ) (bytes : List ℕ) → 0 < length bytes
    → ((zone_front epoch 1 (weight version (length bytes)) ++ chunk_front bfid offset (length bytes) total) ++ sum_text (chunk_sum version bytes)) ++ bytes
    ≡ zone_of version epoch bfid total offset bytes (length bytes)
unfolding chunk_split_into chunk_front
one_zone version epoch bfid total offset bytes some =
    let n = length bytes in
    let count : chunk_count n n ≡ 1 = one_chunk n n some (omega arith) in
    let whole : zone_length version n n ≡ weight version n = zone_alone version n n some (omega arith) in
    let head = zone_front epoch 1 (weight version n) in
    let front = chunk_front bfid offset n total in
    let text : List ℕ → List ℕ = λ part. chunk_front bfid offset (length part) total ++ sum_text (chunk_sum version part) ++ part in
    let chunks : flat_map chunk_text (chunk_split_into version 1 bfid total offset bytes n) ≡ text bytes =
    append-nil (text (take n bytes)) ∙ ap text (take_all n bytes (omega arith)) in
    append_assoc (head ++ front) (sum_text (chunk_sum version bytes)) bytes
    ∙ append_assoc head front (sum_text (chunk_sum version bytes) ++ bytes)
    ∙ ap (λ t. head ++ t) (sym chunks)
    ∙ (λ i. zone_front epoch (sym count i) (sym whole i) ++ flat_map chunk_text (chunk_split_into version (sym count i) bfid total offset bytes n))
    ∙ zone_is version epoch bfid total offset bytes n some
