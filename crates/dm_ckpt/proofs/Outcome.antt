-- What holds at an `Ok` or an `Err`.
use Rattle.std.specs.Prelude.{◌≡◌, ◌↔◌, Bool, true, false, IsTrue, Result, Ok, Err, OnOk, OnErr, IfOk, IsErr, IsErrOf, is_ok}
use Rattle.std.proofs.Common.{refl, ap}

pub both_ok : {T E P Q R : Type 0} (r : Result T E) → OnOk r P → OnOk r Q → (P → Q → R) → OnOk r R
both_ok (Ok x) p q so = so p q
both_ok (Err e) p q so = tt

pub at_err : {T E P : Type 0} (r : Result T E) → P → OnErr r P
at_err (Ok x) p = tt
at_err (Err e) p = p

pub at_ok : {T E P : Type 0} (r : Result T E) → P → OnOk r P
at_ok (Ok x) p = p
at_ok (Err e) p = tt

pub of_ok : {T E P : Type 0} (r : Result T E) → true ≡ is_ok r → OnOk r P → P
of_ok (Ok x) is p = p
of_ok (Err e) is p = absurd (cc)

pub not_true : (b : Bool) → b ≡ false → IsTrue b → ⊥
not_true b is t = absurd (cc (is, t))

pub so_ok : {T E P Q : Type 0} (r : Result T E) → OnOk r P → (P → Q) → OnOk r Q
so_ok (Ok x) p so = so p
so_ok (Err e) p so = tt

pub so_err : {T E P Q : Type 0} (r : Result T E) → OnErr r P → (P → Q) → OnErr r Q
so_err (Ok x) p so = tt
so_err (Err e) p so = so p

pub ok_under : {R E T : Type 0} (P : Type 0) (r : Result R E) → (T → OnOk r P) → OnOk r (T → P)
ok_under P (Ok x) so = so
ok_under P (Err e) so = tt

pub err_under : {R E T : Type 0} (P : Type 0) (r : Result R E) → (T → OnErr r P) → OnErr r (T → P)
err_under P (Ok x) so = tt
err_under P (Err e) so = so

pub if_ok : {T E : Type 0} {P Q : T → Type 0} (r : Result T E) → IfOk r P → ((x : T) → P x → Q x) → IfOk r Q
if_ok (Ok x) p so = so x p
if_ok (Err e) p so = tt

pub if_under : {R E T : Type 0} (P : R → Type 0) (r : Result R E) → (T → IfOk r P) → IfOk r (λ x. T → P x)
if_under P (Ok x) so = so
if_under P (Err e) so = tt

-- a test that answered false
pub refuted : {P : Type 0} (b : Bool) → b ≡ false → IsTrue b ↔ P → P → ⊥
refuted b is test p = not_true b is (test.1 p)

pub if_ok_both : {T E P : Type 0} {Q R : T → Type 0} (r : Result T E) → IfOk r Q → OnOk r P → ((x : T) → Q x → P → R x) → IfOk r R
if_ok_both (Ok x) q p so = so x q p
if_ok_both (Err e) q p so = tt

-- an answer that can't be Ok
pub not_ok : {T E : Type 0} {P : T → Type 0} (r : Result T E) → IfOk r P → ((x : T) → P x → ⊥) → IsErr r
not_ok (Ok x) p no' = absurd (no' x p)
not_ok (Err e) p no' = refl

-- an error is the same whatever the value would have been
pub other_err : {S T E : Type 0} (e x : E) → IsErrOf {T = S} (Err e) x → IsErrOf {T = T} (Err e) x
other_err e x is = let same : e ≡ x = cc (is) in ap (λ y. Err y) same
