-- What was written, one spelling behind another.
use Rattle.std.proofs.Common.{ℕ, List, ◌++◌, take, ap, ◌∙◌, arith, append_assoc, length-append}
use Rattle.dm_fields.specs.Writing.{IsPut}

pub put_both : (a b : List ℕ) (at middle end : ℕ) (old between new : List ℕ) → IsPut a at old between middle → IsPut b middle between new end → IsPut (a ++ b) at old new end
put_both a b at middle end old between new first second = record {
  ends = let p = first.ends in let q = second.ends in omega (arith, length-append a b);
  stands = second.stands ∙ ap (λ l. l ++ b) first.stands ∙ append_assoc (take at old) a b;
}
