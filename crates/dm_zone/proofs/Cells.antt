-- The label's cells.
use Rattle.std.proofs.Common.{◌≡◌, ℕ, ◌+◌, List, [], ◌∷◌, ◌++◌, length, take, drop, replicate, arith, codes}
use Rattle.std.specs.Int.{w64, to_be_bytes}
use Rattle.dm_rules.specs.Label.{label}

-- what the five writes leave
pub laid : (vsn a b c d e : List ℕ) (group version epoch size : ℕ) → length vsn ≡ 6 → a ≡ codes "DMVOLIM1" ++ replicate 56 0 → b ≡ take 8 a ++ vsn ++ drop (8 + length vsn) a → c ≡ take 14 b ++ (group ∷ version ∷ []) ++ drop 16 b → d ≡ take 16 c ++ to_be_bytes w64 epoch ++ drop 24 c → e ≡ take 24 d ++ to_be_bytes w64 size ++ drop 32 d → e ≡ label vsn group version epoch size
unfolding label
laid (s ∷ t ∷ u ∷ v ∷ w ∷ x ∷ []) a b c d e group version epoch size h ha hb hc hd he = rw (he, hd, hc, hb, ha)
laid [] a b c d e group version epoch size h ha hb hc hd he = absurd (omega arith)
laid (s ∷ []) a b c d e group version epoch size h ha hb hc hd he = absurd (omega arith)
laid (s ∷ t ∷ []) a b c d e group version epoch size h ha hb hc hd he = absurd (omega arith)
laid (s ∷ t ∷ u ∷ []) a b c d e group version epoch size h ha hb hc hd he = absurd (omega arith)
laid (s ∷ t ∷ u ∷ v ∷ []) a b c d e group version epoch size h ha hb hc hd he = absurd (omega arith)
laid (s ∷ t ∷ u ∷ v ∷ w ∷ []) a b c d e group version epoch size h ha hb hc hd he = absurd (omega arith)
laid (s ∷ t ∷ u ∷ v ∷ w ∷ x ∷ y ∷ vsn) a b c d e group version epoch size h ha hb hc hd he = absurd (omega arith)
