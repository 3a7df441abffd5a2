-- The sums of bytes, as 64 bits hold them.
use Rattle.std.proofs.Common.{◌≡◌, ℕ, List, ◌+◌, ◌-◌, ◌*◌, ◌/◌, ◌<◌, ◌^◌, ◌%◌, sym, ap, ◌∙◌, arith}
use Rattle.std.proofs.Math.Nat.{mod-add-mod, mod-add-div', add-mul-mod_self_right, mod-eq_of_lt}
use Rattle.std.specs.FinMap.{empty, get, insert, remove}
use Rattle.dm_durable.specs.Tables.{ByName}
use Rattle.dm_tables.specs.Totals.{total, weight_at}
use Rattle.dm_tables.proofs.Orders.{paths}
use Rattle.dm_tables.proofs.Sums.{total-empty, total-insert, total-remove}

-- a number as 64 bits hold it
parts : (low whole : ℕ) → low ≡ whole % 2 ^ 64 → low + whole / 2 ^ 64 * 2 ^ 64 ≡ whole
parts low whole is = ap (λ n. n + whole / 2 ^ 64 * 2 ^ 64) is ∙ mod-add-div' whole (2 ^ 64)

-- two numbers that are apart by such numbers
same_low : (m n p q : ℕ) → m + p * 2 ^ 64 ≡ n + q * 2 ^ 64 → m % 2 ^ 64 ≡ n % 2 ^ 64
same_low m n p q e =
    sym (add-mul-mod_self_right m p (2 ^ 64)) ∙ ap (λ k. k % 2 ^ 64) e ∙ add-mul-mod_self_right n q (2 ^ 64)

-- what is added in the place of what is taken off, where each is known as 64 bits hold it
pub changed_size : (size less add before after sum whole : ℕ) → less < 2 ^ 64 → size ≡ sum % 2 ^ 64 → less ≡ before % 2 ^ 64 → add ≡ after % 2 ^ 64
    → whole + before ≡ after + sum → ((size + (2 ^ 64 - less)) % 2 ^ 64 + add) % 2 ^ 64 ≡ whole % 2 ^ 64
changed_size size less add before after sum whole small is off on whole_is =
    let s = parts size sum is in
    let b = parts less before off in
    let a = parts add after on in
    mod-add-mod (size + (2 ^ 64 - less)) (2 ^ 64) add
    ∙ same_low (size + (2 ^ 64 - less) + add) whole (sum / 2 ^ 64 + after / 2 ^ 64) (before / 2 ^ 64 + 1) (omega arith)

-- what is taken off
pub lesser_size : (size less before sum whole : ℕ) → less < 2 ^ 64 → size ≡ sum % 2 ^ 64 → less ≡ before % 2 ^ 64
    → whole + before ≡ sum → (size + (2 ^ 64 - less)) % 2 ^ 64 ≡ whole % 2 ^ 64
lesser_size size less before sum whole small is off whole_is =
    let s = parts size sum is in
    let b = parts less before off in
    same_low (size + (2 ^ 64 - less)) whole (sum / 2 ^ 64) (before / 2 ^ 64 + 1) (omega arith)

pub itself : (n : ℕ) → n < 2 ^ 64 → n ≡ n % 2 ^ 64
itself n small = sym (mod-eq_of_lt small)

-- ---- tables
module _ {X : Type 0} (weight : X → ℕ) where
  -- a row is put in the place of the one that was
  pub size_put : (size less add : ℕ) (rows more : ByName X) (k key : List ℕ) (v : X) → less < 2 ^ 64 → size ≡ total weight rows % 2 ^ 64
      → less ≡ weight_at weight (get rows k) % 2 ^ 64 → add ≡ weight v % 2 ^ 64 → key ≡ k → more ≡ insert rows key v
      → ((size + (2 ^ 64 - less)) % 2 ^ 64 + add) % 2 ^ 64 ≡ total weight more % 2 ^ 64
  size_put size less add rows more k key v small is off on same put =
      let whole : more ≡ insert rows k v = put ∙ ap (λ q. insert rows q v) same in
      changed_size size less add (weight_at weight (get rows k)) (weight v) (total weight rows) (total weight more) small is off on
      (ap (λ m. total weight m + weight_at weight (get rows k)) whole ∙ total-insert paths weight rows k v)

  -- a row is taken out
  pub size_out : (size less : ℕ) (rows left : ByName X) (k : List ℕ) → less < 2 ^ 64 → size ≡ total weight rows % 2 ^ 64
      → less ≡ weight_at weight (get rows k) % 2 ^ 64 → left ≡ remove rows k
      → (size + (2 ^ 64 - less)) % 2 ^ 64 ≡ total weight left % 2 ^ 64
  size_out size less rows left k small is off out =
      lesser_size size less (weight_at weight (get rows k)) (total weight rows) (total weight left) small is off
      (ap (λ m. total weight m + weight_at weight (get rows k)) out ∙ total-remove paths weight rows k)

  pub size_none : (rows : ByName X) → rows ≡ empty → 0 ≡ total weight rows % 2 ^ 64
  size_none rows none = sym (ap (λ m. total weight m % 2 ^ 64) none ∙ ap (λ n. n % 2 ^ 64) (total-empty _ weight))
