-- What holds of a call that says one thing of `Ok` and another of `Err`.
use Rattle.std.proofs.Common.{◌⊎◌, inl, inr, Result, Ok, Err, IsOk, IsErr, OnOk, OnErr, refl}

pub either : {T E P Q : Type 0} (r : Result T E) → OnOk r P → OnErr r Q → P ⊎ Q
either (Ok value) p q = inl p
either (Err error) p q = inr q

pub at_err : {T E Q : Type 0} (r : Result T E) → IsErr r → OnErr r Q → Q
at_err (Ok value) is q = absurd (cc (is))
at_err (Err error) is q = q

pub both_err : {T E : Type 0} (P Q : Type 0) (r : Result T E) → OnErr r P → OnErr r Q → OnErr r (P × Q)
both_err P Q (Ok value) p q = tt
both_err P Q (Err error) p q = (p, q)

pub from_err : {T E : Type 0} (Q : Type 0) (r : Result T E) → (IsErr r → Q) → OnErr r Q
from_err Q (Ok value) so = tt
from_err Q (Err error) so = so refl

pub at_ok : {T E Q : Type 0} (r : Result T E) → IsOk r → OnOk r Q → Q
at_ok (Ok value) is q = q
at_ok (Err error) is q = absurd (cc (is))

pub ok_both : {T E : Type 0} (P Q R : Type 0) (r : Result T E) → OnOk r P → OnOk r Q → (P → Q → R) → OnOk r R
ok_both P Q R (Ok value) p q so = so p q
ok_both P Q R (Err error) p q so = tt
