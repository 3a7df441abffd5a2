-- A loop over bytes, each of which may stand where it is read.
use Rattle.std.proofs.Common.{◌≡◌, ℕ, suc, ◌+◌, ◌<◌, List, [], ◌∷◌, length, get_or, drop, sym, ap, ◌∙◌, arith, Bool, true, false, ◌&&◌}
use Rattle.std.specs.FinMap as map
use Rattle.std.proofs.Math.Seq.{drop-cons}
use Rattle.dm_rules.specs.Known.{Known, agrees_with_known, may_be}

-- the element at an index and those behind it
pub drop_next : {A : Type 0} (l : List A) (j : ℕ) (d : A) → j < length l → drop j l ≡ get_or l j d ∷ drop (j + 1) l
drop_next l j d h = drop-cons l j d h ∙ (let e : suc j ≡ j + 1 = omega arith in ap (λ n. get_or l j d ∷ drop n l) e)

-- ---- known bytes
pub on_known : (known : Known) (at next : ℕ) (bs rest : List ℕ) (b : ℕ) (whole : Bool) → bs ≡ b ∷ rest → next ≡ at + 1 → may_be (map.get known at) b ≡ true → agrees_with_known known at bs ≡ whole → agrees_with_known known next rest ≡ whole
unfolding agrees_with_known
on_known known at next bs rest b whole is one here so = ap (λ n. agrees_with_known known n rest) one ∙ sym (ap (agrees_with_known known at) is ∙ ap (λ t. t && agrees_with_known known (at + 1) rest) here) ∙ so

pub not_known : (known : Known) (at : ℕ) (bs rest : List ℕ) (b : ℕ) (whole : Bool) → bs ≡ b ∷ rest → may_be (map.get known at) b ≡ false → agrees_with_known known at bs ≡ whole → false ≡ whole
unfolding agrees_with_known
not_known known at bs rest b whole is here so = sym (ap (agrees_with_known known at) is ∙ ap (λ t. t && agrees_with_known known (at + 1) rest) here) ∙ so

pub end_known : (known : Known) (at : ℕ) (bs : List ℕ) (whole : Bool) → bs ≡ [] → agrees_with_known known at bs ≡ whole → true ≡ whole
unfolding agrees_with_known
end_known known at bs whole none so = sym (ap (agrees_with_known known at) none) ∙ so
