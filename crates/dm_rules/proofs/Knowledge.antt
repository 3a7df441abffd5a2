-- What is known of a volume after a write or a failed one, and what that says of a file's content and of a read.
use Rattle.std.proofs.Common.{◌≡◌, ◌⊎◌, inl, inr, ⊎_elim, ℕ, zero, suc, ◌+◌, ◌-◌, ◌<◌, ◌≤◌, Bool, true, false, cond, not, ◌&&◌, IsTrue, List, [], ◌∷◌, length, take, drop, get_or, slice_index, Option, None, Some, refl, sym, ◌∙◌, ap, subst, arith, length-drop}
use Rattle.std.proofs.lemmas.Bool.{cases_lt}
use Rattle.std.proofs.lemmas.Bool.Decides.{nat_tests}
use Rattle.std.proofs.lemmas.List.{length-take-le, get_or-take, get_or-drop}
use Rattle.std.specs.Cmp.{nat_cmp_total}
use Rattle.std.specs.Ordering.{nat_cmp}
use Rattle.std.specs.FinMap as map
use Rattle.dm_rules.specs.Known.{Known, within, known_with_write, known_without_range, may_be, agrees_with_known, byte_and, known_bytes, HasKnown}

-- one byte more is known
insert_here : (m : Known) (k v : ℕ) → map.get (map.insert m k v) k ≡ Some v
insert_here m k v = map.get-insert nat_cmp_total m k v k ∙ grind (arith, nat_tests)

insert_beside : (m : Known) (k v q : ℕ) → (q ≡ k → ⊥) → map.get (map.insert m k v) q ≡ map.get m q
insert_beside m k v q apart = map.get-insert nat_cmp_total m k v q ∙ grind (arith, nat_tests)

kept_where : (keep : ℕ → Bool) (m : Known) (p : ℕ) → map.get (map.retain_keys m keep) p ≡ cond (keep p) (map.get m p) None
kept_where keep m p = map.get-retain_keys m keep p (λ x tied. ap keep (sym (map.nat_cmp-IsAntisymmetric p x tied)))

same_some : {A : Type 0} {a b : A} → Some a ≡ Some b → a ≡ b
same_some e = cc

none_some : {A : Type 0} {a : A} → None ≡ Some a → ⊥
none_some e = cc

both_true : (p q : Bool) → IsTrue p → IsTrue q → IsTrue (p && q)
both_true true q first second = second
both_true false q first second = first

first_true : (p q : Bool) → IsTrue (p && q) → IsTrue p
first_true true q both = refl
first_true false q both = both

second_true : (p q : Bool) → IsTrue (p && q) → IsTrue q
second_true true q both = both
second_true false q both = cc

may_be_each : (o : Option ℕ) (b : ℕ) → ((a : ℕ) → o ≡ Some a → b ≡ a) → IsTrue (may_be o b)
may_be_each None b each = refl
may_be_each (Some known) b each = grind (arith, nat_tests, each known refl)

each_may_be : (o : Option ℕ) (b : ℕ) → IsTrue (may_be o b) → (a : ℕ) → o ≡ Some a → b ≡ a
each_may_be None b may a is = absurd (none_some is)
each_may_be (Some known) b may a is = grind (arith, nat_tests, same_some is)

same_bytes : (b : ℕ) (bs : List ℕ) (o : Option ℕ) (os : Option (List ℕ)) (was : List ℕ) → IsTrue (may_be o b) → ((rest : List ℕ) → os ≡ Some rest → bs ≡ rest)
    → byte_and o os ≡ Some was → b ∷ bs ≡ was
same_bytes b bs None os was may rest is = absurd (none_some is)
same_bytes b bs (Some a) None was may rest is = absurd (none_some is)
same_bytes b bs (Some a) (Some as_known) was may rest is =
    let head : b ≡ a = each_may_be (Some a) b may a refl in
    let tail : bs ≡ as_known = rest as_known refl in
    let whole : a ∷ as_known ≡ was = same_some is in
    subst (λ (l : List ℕ). b ∷ bs ≡ l) whole (λ i. head i ∷ tail i)

-- each byte that was written is known at its place
pub get-written_in : (place : ℕ) (bytes : List ℕ) (known : Known) (i : ℕ) → i < length bytes → map.get (known_with_write place bytes known) (place + i) ≡ Some (get_or bytes i 0)
unfolding known_with_write
get-written_in place [] known i below = absurd (omega (arith, below))
get-written_in place (b ∷ bs) known zero below =
    let at : place + 0 ≡ place = omega arith in
    subst (λ (p : ℕ). map.get (map.insert (known_with_write (place + 1) bs known) place b) p ≡ Some b) (sym at) (insert_here (known_with_write (place + 1) bs known) place b)
get-written_in place (b ∷ bs) known (suc i) below =
    let at : place + 1 + i ≡ place + suc i = omega arith in
    insert_beside (known_with_write (place + 1) bs known) place b (place + suc i) (λ e. omega (arith, e))
    ∙ subst (λ (p : ℕ). map.get (known_with_write (place + 1) bs known) p ≡ Some (get_or bs i 0)) at (get-written_in (place + 1) bs known i (omega (arith, below)))

-- what is known elsewhere stays known
pub get-written_out : (place : ℕ) (bytes : List ℕ) (known : Known) (p : ℕ) → (p < place) ⊎ (place + length bytes ≤ p) → map.get (known_with_write place bytes known) p ≡ map.get known p
unfolding known_with_write
get-written_out place [] known p out = refl
get-written_out place (b ∷ bs) known p out =
    insert_beside (known_with_write (place + 1) bs known) place b p (λ e. ⊎_elim (λ below. omega (arith, e, below)) (λ above. omega (arith, e, above)) out)
    ∙ get-written_out (place + 1) bs known p (⊎_elim (λ below. inl (omega (arith, below))) (λ above. inr (omega (arith, above))) out)

-- nothing is known in a range that was forgotten
pub get-forgotten_in : (place n : ℕ) (known : Known) (p : ℕ) → place ≤ p → p < place + n → map.get (known_without_range place n known) p ≡ None
unfolding known_without_range
get-forgotten_in place n known p from below = kept_where (λ q. not (within place n q)) known p ∙ grind (arith, nat_tests)

-- what is known elsewhere stays known
pub get-forgotten_out : (place n : ℕ) (known : Known) (p : ℕ) → (p < place) ⊎ (place + n ≤ p) → map.get (known_without_range place n known) p ≡ map.get known p
unfolding known_without_range
get-forgotten_out place n known p out = kept_where (λ q. not (within place n q)) known p ∙ grind (arith, nat_tests)

-- a place lies before a range, in it or behind it
pub data Lies (place n p : ℕ) : Type 0 where
  inside : place ≤ p → p < place + n → Lies place n p
  outside : (p < place) ⊎ (place + n ≤ p) → Lies place n p

pub lies : (place n p : ℕ) → Lies place n p
lies place n p = elim (cases_lt p place) [
  | inl before ↦ outside (inl before)
  | inr from ↦ elim (cases_lt p (place + n)) [ inl below ↦ inside from below | inr behind ↦ outside (inr behind) ]
]

-- what is known after a write was known before in other places
pub known_after_write : (place : ℕ) (bytes : List ℕ) (known : Known) (p b : ℕ) → map.get (known_with_write place bytes known) p ≡ Some b
    → ((i : ℕ) × (i < length bytes) × (p ≡ place + i) × (b ≡ get_or bytes i 0)) ⊎ (((p < place) ⊎ (place + length bytes ≤ p)) × (map.get known p ≡ Some b))
known_after_write place bytes known p b is = elim (lies place (length bytes) p) [
  | inside from below ↦
      let at : place + (p - place) ≡ p = omega arith in
      let here : Some b ≡ Some (get_or bytes (p - place) 0) =
      sym is ∙ ap (λ (q : ℕ). map.get (known_with_write place bytes known) q) (sym at) ∙ get-written_in place bytes known (p - place) (omega (arith, from, below)) in
      inl (p - place, omega (arith, from, below), sym at, same_some here)
  | outside out ↦ inr (out, sym (get-written_out place bytes known p out) ∙ is)
]

-- A content after a change in a range: each byte elsewhere stands where it stood.
pub record KeepsOutside (place n : ℕ) (old new : List ℕ) : Type 0 where
  pub inside : (p : ℕ) → p < length old → p < length new
  pub byte : (p : ℕ) → p < length old → (p < place) ⊎ (place + n ≤ p) → slice_index new p ≡ slice_index old p

-- a content whose range was changed in whatever way holds what was known elsewhere
pub holds-forgotten : (place n : ℕ) (known : Known) (old new : List ℕ) → KeepsOutside place n old new → HasKnown known old → HasKnown (known_without_range place n known) new
holds-forgotten place n known old new same holds p b is = elim (lies place n p) [
  | inside from below ↦ absurd (none_some (sym (get-forgotten_in place n known p from below) ∙ is))
  | outside out ↦
      let was = holds p b (sym (get-forgotten_out place n known p out) ∙ is) in
      (same.inside p was.0, same.byte p was.0 out ∙ was.1)
]

-- a content with these bytes in the range holds them too
pub holds-written : (place : ℕ) (bytes : List ℕ) (known : Known) (old new : List ℕ) → KeepsOutside place (length bytes) old new
    → ((i : ℕ) → i < length bytes → (place + i < length new) × (slice_index new (place + i) ≡ slice_index bytes i)) → HasKnown known old → HasKnown (known_with_write place bytes known) new
holds-written place bytes known old new same there holds p b is = elim (known_after_write place bytes known p b is) [
  | inl here ↦
      let i = here.0 in
      let stands = there i here.1 in
      subst (λ (q : ℕ). (q < length new) × (slice_index new q ≡ b)) (sym here.2) (stands.0, stands.1 ∙ sym here.3)
  | inr before ↦ let was = holds p b before.1 in (same.inside p was.0, same.byte p was.0 before.0 ∙ was.1)
]

-- to know less
pub holds-forgotten_same : (place n : ℕ) (known : Known) (content : List ℕ) → HasKnown known content → HasKnown (known_without_range place n known) content
holds-forgotten_same place n known content =
    holds-forgotten place n known content content (record { inside = λ p below. below; byte = λ p below out. refl })

-- the bytes agree where each is the known one
pub agrees-each : (known : Known) (place : ℕ) (bytes : List ℕ) → ((i b : ℕ) → i < length bytes → map.get known (place + i) ≡ Some b → slice_index bytes i ≡ b)
    → IsTrue (agrees_with_known known place bytes)
unfolding agrees_with_known
agrees-each known place [] each = refl
agrees-each known place (b ∷ bs) each =
    let at : place + 0 ≡ place = omega arith in
    both_true (may_be (map.get known place) b) (agrees_with_known known (place + 1) bs)
    (may_be_each (map.get known place) b (λ a is. each 0 a (omega arith) (ap (λ (p : ℕ). map.get known p) at ∙ is)))
    (agrees-each known (place + 1) bs (λ i a below is.
    let next : place + suc i ≡ place + 1 + i = omega arith in
    each (suc i) a (omega (arith, below)) (ap (λ (p : ℕ). map.get known p) next ∙ is)))

-- and only there
pub each-agrees : (known : Known) (place : ℕ) (bytes : List ℕ) → IsTrue (agrees_with_known known place bytes) → (i b : ℕ) → i < length bytes → map.get known (place + i) ≡ Some b
    → slice_index bytes i ≡ b
unfolding agrees_with_known
each-agrees known place [] agree i b below is = absurd (omega (arith, below))
each-agrees known place (a ∷ bs) agree zero b below is =
    let at : place ≡ place + 0 = omega arith in
    each_may_be (map.get known place) a (first_true _ _ agree) b (ap (λ (p : ℕ). map.get known p) at ∙ is)
each-agrees known place (a ∷ bs) agree (suc i) b below is =
    let next : place + 1 + i ≡ place + suc i = omega arith in
    each-agrees known (place + 1) bs (second_true _ _ agree) i b (omega (arith, below)) (ap (λ (p : ℕ). map.get known p) next ∙ is)

-- bytes that stand in a content which holds what is known agree with it
pub holds-agrees : (known : Known) (content : List ℕ) (place : ℕ) (bytes : List ℕ) → HasKnown known content
    → ((i : ℕ) → i < length bytes → slice_index bytes i ≡ slice_index content (place + i)) → IsTrue (agrees_with_known known place bytes)
holds-agrees known content place bytes holds read = agrees-each known place bytes (λ i b below is. read i below ∙ (holds (place + i) b is).1)

-- bytes that agree with a range of which each byte is known are those bytes
pub agrees-known_bytes : (known : Known) (place : ℕ) (bytes was : List ℕ) → IsTrue (agrees_with_known known place bytes) → known_bytes known place (length bytes) ≡ Some was → bytes ≡ was
unfolding agrees_with_known known_bytes
agrees-known_bytes known place [] was agree is = same_some is
agrees-known_bytes known place (b ∷ bs) was agree is =
    same_bytes b bs (map.get known place) (known_bytes known (place + 1) (length bs)) was (first_true _ _ agree)
    (λ rest there. agrees-known_bytes known (place + 1) bs rest (second_true _ _ agree) there) is

-- nothing known is held by every content
pub holds-empty : (content : List ℕ) → HasKnown map.empty content
holds-empty content p b is = absurd (none_some (sym (map.get-empty nat_cmp p) ∙ is))

-- the bytes of a range of which each is known
pub known_bytes-each : (known : Known) (place : ℕ) (bytes : List ℕ) → ((i : ℕ) → i < length bytes → map.get known (place + i) ≡ Some (slice_index bytes i))
    → known_bytes known place (length bytes) ≡ Some bytes
unfolding known_bytes
known_bytes-each known place [] each = refl
known_bytes-each known place (b ∷ bs) each =
    let at : place ≡ place + 0 = omega arith in
    let rest = known_bytes-each known (place + 1) bs (λ i below.
    let next : place + 1 + i ≡ place + suc i = omega arith in
    ap (λ (p : ℕ). map.get known p) next ∙ each (suc i) (omega (arith, below))) in
    ap (λ (o : Option ℕ). byte_and o (known_bytes known (place + 1) (length bs))) (ap (λ (p : ℕ). map.get known p) at ∙ each 0 (omega arith))
    ∙ ap (λ (o : Option (List ℕ)). byte_and (Some b) o) rest

-- two that know the same of a range
pub known_bytes-same : (one other : Known) (place n : ℕ) → ((p : ℕ) → place ≤ p → p < place + n → map.get one p ≡ map.get other p) → known_bytes one place n ≡ known_bytes other place n
unfolding known_bytes
known_bytes-same one other place zero same = refl
known_bytes-same one other place (suc n) same =
    ap (λ (o : Option ℕ). byte_and o (known_bytes one (place + 1) n)) (same place (omega arith) (omega arith))
    ∙ ap (λ (o : Option (List ℕ)). byte_and (map.get other place) o) (known_bytes-same one other (place + 1) n (λ p from below. same p (omega (arith, from)) (omega (arith, below))))

-- a part of what was written is known
pub known_bytes-written : (place : ℕ) (bytes : List ℕ) (known : Known) (start n : ℕ) → start + n ≤ length bytes
    → known_bytes (known_with_write place bytes known) (place + start) n ≡ Some (take n (drop start bytes))
known_bytes-written place bytes known start n within =
    let piece = take n (drop start bytes) in
    let long : length piece ≡ n = length-take-le n (drop start bytes) (omega (arith, within, length-drop start bytes)) in
    let each : (i : ℕ) → i < length piece → map.get (known_with_write place bytes known) (place + start + i) ≡ Some (slice_index piece i) = λ i below.
    let at : place + start + i ≡ place + (start + i) = omega arith in
    ap (λ (p : ℕ). map.get (known_with_write place bytes known) p) at ∙ get-written_in place bytes known (start + i) (omega (arith, below, long, within))
    ∙ ap (λ (b : ℕ). Some b) (sym (get_or-take n (drop start bytes) i 0 (omega (arith, below, long)) ∙ get_or-drop start bytes i 0)) in
    ap (λ (m : ℕ). known_bytes (known_with_write place bytes known) (place + start) m) (sym long) ∙ known_bytes-each (known_with_write place bytes known) (place + start) piece each

-- two ranges have no place in common
abbrev pub Apart : ℕ → ℕ → ℕ → ℕ → Type 0
Apart place n start m = (start + m ≤ place) ⊎ (place + n ≤ start)

-- a write leaves what is known of another range
pub known_bytes-written_apart : (place : ℕ) (bytes : List ℕ) (known : Known) (start m : ℕ) → Apart place (length bytes) start m
    → known_bytes (known_with_write place bytes known) start m ≡ known_bytes known start m
known_bytes-written_apart place bytes known start m apart = known_bytes-same (known_with_write place bytes known) known start m (λ p from below.
    get-written_out place bytes known p (⊎_elim (λ before. inl (omega (arith, before, below))) (λ behind. inr (omega (arith, behind, from))) apart))

-- and so does one that failed
pub known_bytes-forgotten_apart : (place n : ℕ) (known : Known) (start m : ℕ) → Apart place n start m → known_bytes (known_without_range place n known) start m ≡ known_bytes known start m
known_bytes-forgotten_apart place n known start m apart = known_bytes-same (known_without_range place n known) known start m (λ p from below.
    get-forgotten_out place n known p (⊎_elim (λ before. inl (omega (arith, before, below))) (λ behind. inr (omega (arith, behind, from))) apart))
