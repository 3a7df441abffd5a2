-- The sums of chunks have one length.
use Rattle.std.proofs.Common.{◌≡◌, ℕ, Bool, true, false, cond, Some, None, List, length, refl}
use Rattle.sha2.specs.Sha256.{sha256, digest_bytes, final_hash, initial_hash_256}
use Rattle.dm_rules.specs.Version.{has_sum, sum_length}
use Rattle.dm_rules.specs.Zone.{chunk_sum, sum_text}

length-digest_bytes : (hash : List ℕ) → length (digest_bytes hash 8) ≡ 32
unfolding digest_bytes
length-digest_bytes hash = refl

pub length-sha256 : (bytes : List ℕ) → length (sha256 bytes) ≡ 32
unfolding sha256
length-sha256 bytes = length-digest_bytes (final_hash initial_hash_256 bytes)

pub length-sum_text : (version : ℕ) (bytes : List ℕ) → length (sum_text (chunk_sum version bytes)) ≡ sum_length version
length-sum_text version bytes = by (has_sum version)
  where
    by : (b : Bool) → length (sum_text (cond b (Some (sha256 bytes)) None)) ≡ cond b 32 0
    by true = length-sha256 bytes
    by false = refl
