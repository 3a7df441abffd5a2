-- The place behind a zone.
use Rattle.std.proofs.Common.{◌≡◌, ℕ, ◌+◌, ◌/◌, ◌%◌, min, sym, ap, ◌∙◌, subst, zero-add, arith}
use Rattle.std.proofs.Math.Nat.{div-zero, mod-zero}
use Rattle.dm_rules.specs.Zone.{chunk_count}

-- chunks of no bytes
pub count_of_none : (chunk n : ℕ) → chunk ≡ 0 → min n 1 ≡ chunk_count chunk n
count_of_none chunk n none =
    let at_zero : n / 0 + min 1 (n % 0) ≡ min 1 n =
    ap (λ (q : ℕ). q + min 1 (n % 0)) (div-zero n) ∙ ap (λ (r : ℕ). 0 + min 1 r) (mod-zero n) ∙ zero-add (min 1 n) in
    let turned : min n 1 ≡ min 1 n = omega arith in
    turned ∙ subst (λ (d : ℕ). min 1 n ≡ n / d + min 1 (n % d)) (sym none) (sym at_zero)
