-- Serial numbers in a list of values.
use Rattle.std.proofs.Common.{◌≡◌, ℕ, suc, ◌<◌, ◌≤◌, Bool, true, false, not, ◌&&◌, nat_eq, nat_le, cond, List, [], ◌∷◌, length, Option, Some, None, refl, ap, sym, arith}
use Rattle.std.proofs.lemmas.Bool.{and_parts, eqb-true, eq-eqb, false≢true, le-leb, lt-leb}
use Rattle.dm_base.specs.Naming.{IsSerial, is_all_serial}
use Rattle.dm_base.specs.declared.serial.Vsn.{Vsn}
use Rattle.dm_base.proofs.Names.{all_serial, all_serial_back}
use Rattle.toml.specs.declared.value.Value.{Value}
use Rattle.toml.specs.View.{items_view}
use Rattle.dm_config.specs.Value.{is_among, items_length, new_serial, serials_in, volumes_of}

pub items_count : (vs : List Value) → items_length (items_view vs) ≡ length vs
items_count [] = refl
items_count (v ∷ vs) = ap suc (items_count vs)

is_serial_test : (text : List ℕ) → IsSerial text → (nat_eq (length text) 6 && is_all_serial text) ≡ true
is_serial_test text s = rw (eq-eqb (length text) 6 s.six, all_serial_back text s.bytes) refl

serial_from_test : (text : List ℕ) → (nat_eq (length text) 6 && is_all_serial text) ≡ true → IsSerial text
serial_from_test text t =
    let p = and_parts (nat_eq (length text) 6) (is_all_serial text) t in
    record { six = eqb-true (length text) 6 p.0; bytes = all_serial text p.1 }

chosen_none : (t n : Bool) (v : Vsn) → (t ≡ true → ⊥) → None ≡ cond (t && n) (Some v) None
chosen_none true n v h = absurd (h refl)
chosen_none false n v h = refl

pub none_new : (taken : List Vsn) (text : List ℕ) → (IsSerial text → ⊥) → None ≡ new_serial taken text
none_new taken text h =
    chosen_none (nat_eq (length text) 6 && is_all_serial text) (not (is_among text taken)) (let w : Vsn = record { 0 = text } in w)
    (λ t. h (serial_from_test text t))

pub some_new : (taken : List Vsn) (text : List ℕ) (v : Vsn) → v.0 ≡ text → IsSerial text → is_among text taken ≡ false → Some v ≡ new_serial taken text
some_new taken text v e s free = rw (is_serial_test text s, free) (ap (λ t. let w : Vsn = record { 0 = t } in Some w) e)

cond_none : {A : Type 0} (a b : Bool) (x : Option A) → b ≡ false → None ≡ cond (a && b) x None
cond_none true false x e = refl
cond_none false false x e = refl
cond_none a true x e = absurd (false≢true (sym e))

cond_some : {A : Type 0} (a b : Bool) (x : Option A) → a ≡ true → b ≡ true → cond (a && b) x None ≡ x
cond_some true true x e f = refl
cond_some false b x e f = absurd (false≢true e)
cond_some true false x e f = absurd (false≢true f)

pub volumes_none : (taken : List Vsn) (vs : List Value) → length vs ≡ 0 → None ≡ volumes_of taken (items_view vs)
volumes_none taken [] e = refl
volumes_none taken (v ∷ vs) e = absurd (omega (arith, e))

pub volumes_many : (taken : List Vsn) (vs : List Value) → 16 < length vs → None ≡ volumes_of taken (items_view vs)
volumes_many taken vs h =
    let n = items_length (items_view vs) in
    cond_none (nat_le 1 n) (nat_le n 16) (serials_in taken (items_view vs)) (lt-leb n 16 (omega (arith, h, items_count vs)))

pub volumes_some : (taken : List Vsn) (vs : List Value) → (length vs ≡ 0 → ⊥) → length vs ≤ 16 → volumes_of taken (items_view vs) ≡ serials_in taken (items_view vs)
volumes_some taken vs h k =
    let n = items_length (items_view vs) in
    cond_some (nat_le 1 n) (nat_le n 16) (serials_in taken (items_view vs)) (le-leb 1 n (omega (arith, items_count vs, h))) (le-leb n 16 (omega (arith, k, items_count vs)))
