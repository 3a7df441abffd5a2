-- Sizes of zones.
use Rattle.std.proofs.Common.{◌≡◌, ℕ, zero, suc, ◌+◌, ◌*◌, ◌<◌, ◌≤◌, refl, arith}
use Rattle.std.specs.Int.{div_ceil}
use Rattle.std.proofs.lemmas.Grind.{div_ceil_times}
use Rattle.dm_rules.specs.Version.{chunk_header}
use Rattle.dm_rules.specs.Zone.{chunk_count, weight, zone_length}

-- bytes that fit one chunk are cut into one
pub one_chunk : (n chunk : ℕ) → 0 < n → n ≤ chunk → chunk_count chunk n ≡ 1
one_chunk n chunk some fits =
    let bounds = div_ceil_times n chunk (omega arith) in
    let d : ℕ = div_ceil n chunk in
    one_of d n chunk some fits bounds.0 bounds.1
  where
    one_of : (d n chunk : ℕ) → 0 < n → n ≤ chunk → n ≤ d * chunk → d * chunk < n + chunk → d ≡ 1
    one_of zero n chunk some fits low high = absurd (omega arith)
    one_of (suc zero) n chunk some fits low high = refl
    one_of (suc (suc d)) n chunk some fits low high = absurd (omega (arith, low, high))

length_of : (header count n : ℕ) → count ≡ 1 → 32 + header * count + n ≡ 32 + header + n
length_of header count n one = rw one (omega arith)

-- so a chunk weighs what a zone of it takes
pub zone_alone : (version chunk n : ℕ) → 0 < n → n ≤ chunk → zone_length version chunk n ≡ weight version n
zone_alone version chunk n some fits = length_of (chunk_header version) (chunk_count chunk n) n (one_chunk n chunk some fits)
