-- What holds at an `Ok` or an `Err`.
use Rattle.std.specs.Prelude.{◌≡◌, true, Result, Ok, Err, OnOk, OnErr, is_ok}

pub both_ok : {T E P Q R : Type 0} (r : Result T E) → OnOk r P → OnOk r Q → (P → Q → R) → OnOk r R
both_ok (Ok x) p q so = so p q
both_ok (Err e) p q so = tt

pub at_err : {T E P : Type 0} (r : Result T E) → P → OnErr r P
at_err (Ok x) p = tt
at_err (Err e) p = p

pub at_ok : {T E P : Type 0} (r : Result T E) → P → OnOk r P
at_ok (Ok x) p = p
at_ok (Err e) p = tt

pub of_ok : {T E P : Type 0} (r : Result T E) → true ≡ is_ok r → OnOk r P → P
of_ok (Ok x) is p = p
of_ok (Err e) is p = absurd (cc)
