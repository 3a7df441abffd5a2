-- The sum of the lengths, as 64 bits hold it.
use Rattle.std.proofs.Common.{◌≡◌, ℕ, ◌+◌, ◌-◌, ◌<◌, ◌^◌, ◌%◌, ap, ◌∙◌, arith}
use Rattle.std.proofs.Math.Nat.{mod-add-mod, add-mod_right}

-- a length more
pub size_more : (size add sum whole : ℕ) → size ≡ sum % 2 ^ 64 → whole ≡ add + sum → (size + add) % 2 ^ 64 ≡ whole % 2 ^ 64
size_more size add sum whole is more =
    ap (λ n. (n + add) % 2 ^ 64) is ∙ mod-add-mod sum (2 ^ 64) add ∙ ap (λ n. n % 2 ^ 64) (let e : sum + add ≡ whole = omega arith in e)

-- a length less
pub size_less : (size less sum whole : ℕ) → less < 2 ^ 64 → size ≡ whole % 2 ^ 64 → sum + less ≡ whole → (size + (2 ^ 64 - less)) % 2 ^ 64 ≡ sum % 2 ^ 64
size_less size less sum whole small is fewer =
    ap (λ n. (n + (2 ^ 64 - less)) % 2 ^ 64) is ∙ mod-add-mod whole (2 ^ 64) (2 ^ 64 - less)
    ∙ ap (λ n. n % 2 ^ 64) (let e : whole + (2 ^ 64 - less) ≡ sum + 2 ^ 64 = omega arith in e)
    ∙ add-mod_right sum (2 ^ 64)
