-- What a word says, and what is found of it.
use Rattle.std.proofs.Common.{◌≡◌, ◌≢◌, ℕ, ◌+◌, ◌-◌, ◌^◌, ◌<◌, ◌≤◌, inl, inr, Bool, true, false, ◌&&◌, cond, Option, Some, None, List, [], ◌∷◌, length, take, refl, sym, ◌∙◌, ap, subst, arith}
use Rattle.std.proofs.lemmas.Bool.{cases_Bool, and_parts, and_from, cond-true, cond-false, false≢true, lt-ltb, ltb-true, le-leb, leb-true, eq-eqb, eqb-true}
use Rattle.std.proofs.lemmas.List.{take_all}
use Rattle.std.proofs.lemmas.Slice.Eq.{bytes_eq-Decides}
use Rattle.std.specs.Prelude.{codes, IsTrue, nat_lt, nat_le, ◌==◌}
use Rattle.std.specs.Char.{IsAsciiDigit}
use Rattle.std.specs.List.{AllByRecursion}
use Rattle.std.specs.Option.{SomeIff}
use Rattle.std.specs.Str.{bytes_eq}
use Rattle.std.specs.Str.Parse.{digits_value}
use Rattle.dm_base.specs.Hexadecimal.{hexadecimal}
use Rattle.dm_base.specs.Naming.{IsPath, IsDumpName, is_path_text, is_dump_name_text}
use Rattle.dm_base.specs.declared.identifier.GroupId.{GroupId}
use Rattle.dm_base.specs.declared.identifier.Bfid.{Bfid}
use Rattle.dm_base.specs.declared.command.Prefix.{Prefix}
use Rattle.dm_base.specs.declared.command.Prefix.TheVariants.{Root, Under}
use Rattle.dm_base.proofs.Names.{path_spelled, path_passes, dump_name_spelled, dump_name_passes}
use Rattle.dm_base.proofs.Digits.{length-hexadecimal}
use Rattle.dm_proto.specs.Grammar.{IsNumber, SaysSlot, path, name, prefix, number, group, bfid}
use Rattle.dm_proto.specs.Found.{path_in, name_in, number_in, group_in, bfid_in, prefix_in, under, is_digit, are_digits, are_hexadecimal, row_in}
use Rattle.dm_proto.proofs.Digits.{are_hexadecimal-digits, value-hexadecimal, read_so_far}

-- a test that gives a value
pub some_if : {X : Type 0} (t : Bool) (x y : X) → cond t (Some x) None ≡ Some y → (t ≡ true) × (x ≡ y)
some_if true x y e = (refl, cc)
some_if false x y e = absurd (cc)

pub some_given : {X : Type 0} (t : Bool) (x y : X) → t ≡ true → x ≡ y → cond t (Some x) None ≡ Some y
some_given t x y e same = cond-true t _ _ e ∙ ap (λ z. Some z) same

pub bytes_same : (a b : List ℕ) → bytes_eq a b ≡ true → a ≡ b
bytes_same a b e = (bytes_eq-Decides a b).0 e

pub bytes_equal : (a b : List ℕ) → a ≡ b → bytes_eq a b ≡ true
bytes_equal a b e = (bytes_eq-Decides a b).1 e

-- paths and names
pub path_says : (word p : List ℕ) → SaysSlot (path p) word → path_in word ≡ Some p
path_says word p s = some_given (is_path_text word) word p (path_passes word (subst IsPath (sym s.0) s.1)) s.0

pub path_sound : (word p : List ℕ) → path_in word ≡ Some p → SaysSlot (path p) word
path_sound word p e = let h = some_if (is_path_text word) word p e in (h.1, subst IsPath h.1 (path_spelled word h.0))

pub name_says : (word n : List ℕ) → SaysSlot (name n) word → name_in word ≡ Some n
name_says word n s = some_given (is_dump_name_text word) word n (dump_name_passes word (subst IsDumpName (sym s.0) s.1)) s.0

pub name_sound : (word n : List ℕ) → name_in word ≡ Some n → SaysSlot (name n) word
name_sound word n e = let h = some_if (is_dump_name_text word) word n e in (h.1, subst IsDumpName h.1 (dump_name_spelled word h.0))

-- what is found of a text that is none
pub path_none : (word : List ℕ) → (IsPath word → ⊥) → None ≡ path_in word
path_none word none =
    elim (cases_Bool (is_path_text word)) [
      | inl t ↦ absurd (none (path_spelled word t))
      | inr f ↦ sym (cond-false (is_path_text word) _ _ f)
    ]

pub name_none : (word : List ℕ) → (IsDumpName word → ⊥) → None ≡ name_in word
name_none word none =
    elim (cases_Bool (is_dump_name_text word)) [
      | inl t ↦ absurd (none (dump_name_spelled word t))
      | inr f ↦ sym (cond-false (is_dump_name_text word) _ _ f)
    ]

-- prefixes
slash_is_no_path : IsPath (codes "/") → ⊥
slash_is_no_path p = false≢true (path_passes (codes "/") p)

pub prefix_says : (word : List ℕ) (p : Prefix) → SaysSlot (prefix p) word → prefix_in word ≡ Some p
prefix_says word Root s = cond-true (bytes_eq word (codes "/")) _ _ (bytes_equal word (codes "/") s.0)
prefix_says word (Under p) s =
    elim (cases_Bool (bytes_eq word (codes "/"))) [
      | inl e ↦ absurd (slash_is_no_path (subst IsPath (sym s.0 ∙ bytes_same word (codes "/") e) s.1))
      | inr e ↦ cond-false (bytes_eq word (codes "/")) _ _ e ∙ ap under (path_says word p s)
    ]

under_sound : (word : List ℕ) (o : Option (List ℕ)) (p : Prefix) → path_in word ≡ o → under o ≡ Some p → SaysSlot (prefix p) word
under_sound word None p is e = absurd (cc)
under_sound word (Some text) Root is e = absurd (cc)
under_sound word (Some text) (Under p) is e = let same : text ≡ p = cc in path_sound word p (is ∙ ap (λ x. Some x) same)

pub prefix_sound : (word : List ℕ) (p : Prefix) → prefix_in word ≡ Some p → SaysSlot (prefix p) word
prefix_sound word p e =
    elim (cases_Bool (bytes_eq word (codes "/"))) [
      | inl t ↦
          let root : Root ≡ p = (let both : Some Root ≡ Some p = sym (cond-true (bytes_eq word (codes "/")) _ _ t) ∙ e in cc) in
          subst (λ (q : Prefix). SaysSlot (prefix q) word) root (bytes_same word (codes "/") t, tt)
      | inr f ↦ under_sound word (path_in word) p refl (sym (cond-false (bytes_eq word (codes "/")) _ _ f) ∙ e)
    ]

-- numbers
digit_passes : (b : ℕ) → IsAsciiDigit b → IsTrue (is_digit b)
digit_passes b d = and_from (nat_le 48 b) (nat_le b 57) (le-leb 48 b d.0) (le-leb b 57 d.1)

digit_spelled : (b : ℕ) → IsTrue (is_digit b) → IsAsciiDigit b
digit_spelled b t = let parts = and_parts (nat_le 48 b) (nat_le b 57) t in (leb-true 48 b parts.0, leb-true b 57 parts.1)

digits_pass : (bs : List ℕ) → AllByRecursion IsAsciiDigit bs → IsTrue (are_digits bs)
digits_pass [] a = refl
digits_pass (b ∷ bs) a = and_from (is_digit b) (are_digits bs) (digit_passes b a.0) (digits_pass bs a.1)

digits_spelled : (bs : List ℕ) → IsTrue (are_digits bs) → AllByRecursion IsAsciiDigit bs
digits_spelled [] t = tt
digits_spelled (b ∷ bs) t = let parts = and_parts (is_digit b) (are_digits bs) t in (digit_spelled b parts.0, digits_spelled bs parts.1)

abbrev number_test : List ℕ → Bool
number_test word = nat_lt 0 (length word) && nat_le (length word) 19 && are_digits word

number_passes : (word : List ℕ) → IsNumber word → number_test word ≡ true
number_passes word n =
    and_from (nat_lt 0 (length word) && nat_le (length word) 19) (are_digits word)
    (and_from (nat_lt 0 (length word)) (nat_le (length word) 19) (lt-ltb 0 (length word) n.some) (le-leb (length word) 19 n.few)) (digits_pass word n.each)

number_spelled : (word : List ℕ) → number_test word ≡ true → IsNumber word
number_spelled word t =
    let outer = and_parts (nat_lt 0 (length word) && nat_le (length word) 19) (are_digits word) t in
    let inner = and_parts (nat_lt 0 (length word)) (nat_le (length word) 19) outer.0 in
    record { some = ltb-true 0 (length word) inner.0; few = leb-true (length word) 19 inner.1; each = digits_spelled word outer.1 }

pub number_says : (word : List ℕ) (v : ℕ) → SaysSlot (number v) word → number_in word ≡ Some v
number_says word v s = some_given (number_test word) (digits_value 10 word) v (number_passes word s.0) s.1

pub number_sound : (word : List ℕ) (v : ℕ) → number_in word ≡ Some v → SaysSlot (number v) word
number_sound word v e = let h = some_if (number_test word) (digits_value 10 word) v e in (number_spelled word h.0, h.1)

-- what the code finds of a number is what is there
pub number_found : (o : Option ℕ) (word : List ℕ) → SomeIff o (IsNumber word) (digits_value 10 word) → o ≡ number_in word
number_found None word h =
    elim (cases_Bool (number_test word)) [
      | inl t ↦ absurd (h (number_spelled word t))
      | inr f ↦ sym (cond-false (number_test word) _ _ f)
    ]
number_found (Some v) word h = sym (number_says word v (h.0, sym h.1))

-- groups
pub group_says : (word : List ℕ) (g : GroupId) → SaysSlot (group g.0) word → group_in word ≡ Some g
group_says word g s =
    ap group_in s.0
    ∙ some_given (nat_le 49 (48 + g.0) && nat_le (48 + g.0) 52) (record { 0 = (48 + g.0) - 48 }) g
    (and_from (nat_le 49 (48 + g.0)) (nat_le (48 + g.0) 52) (le-leb 49 (48 + g.0) (omega (arith, s.1))) (le-leb (48 + g.0) 52 (omega (arith, s.2))))
    (ap (λ (n : ℕ). let r : GroupId = record { 0 = n } in r) (omega arith))

pub group_sound : (word : List ℕ) (g : GroupId) → group_in word ≡ Some g → SaysSlot (group g.0) word
group_sound [] g e = absurd (cc)
group_sound (d ∷ []) g e =
    let h = some_if (nat_le 49 d && nat_le d 52) (record { 0 = d - 48 }) g e in
    let parts = and_parts (nat_le 49 d) (nat_le d 52) h.0 in
    let low : 49 ≤ d = leb-true 49 d parts.0 in
    let high : d ≤ 52 = leb-true d 52 parts.1 in
    let value : d - 48 ≡ g.0 = ap (λ (x : GroupId). x.0) h.1 in
    (ap (λ (b : ℕ). b ∷ []) (omega (arith, low, value)), omega (arith, low, value), omega (arith, high, value))
group_sound (d ∷ c ∷ bs) g e = absurd (cc)

-- identifiers
abbrev bfid_test : List ℕ → Bool
bfid_test word = length word == 32 && are_hexadecimal word

pub bfid_says : (word : List ℕ) (b : Bfid) → SaysSlot (bfid b.0) word → bfid_in word ≡ Some b
bfid_says word b s =
    let same : hexadecimal 32 b.0 ≡ word = sym s.0 in
    some_given (bfid_test word) (record { 0 = digits_value 16 word }) b
    (
    and_from (length word == 32) (are_hexadecimal word)
    (eq-eqb (length word) 32 (ap length s.0 ∙ length-hexadecimal 32 b.0))
    (subst (λ (t : List ℕ). IsTrue (are_hexadecimal t)) same (are_hexadecimal-digits 32 b.0))
    )
    (ap (λ (n : ℕ). let r : Bfid = record { 0 = n } in r) (ap (digits_value 16) s.0 ∙ value-hexadecimal 32 b.0 s.1))

bfid_read : (word : List ℕ) → bfid_test word ≡ true → SaysSlot (bfid (digits_value 16 word)) word
bfid_read word t =
    let parts = and_parts (length word == 32) (are_hexadecimal word) t in
    let long : length word ≡ 32 = eqb-true (length word) 32 parts.0 in
    let r = read_so_far word 32 parts.1 (omega (arith, long)) in
    let whole : take 32 word ≡ word = take_all 32 word (omega (arith, long)) in (
      sym (sym (ap (λ (x : List ℕ). hexadecimal 32 (digits_value 16 x)) whole) ∙ r.spelled ∙ whole),
      subst (λ (x : List ℕ). digits_value 16 x < 16 ^ 32) whole r.small,
    )

pub bfid_sound : (word : List ℕ) (b : Bfid) → bfid_in word ≡ Some b → SaysSlot (bfid b.0) word
bfid_sound word b e =
    let h = some_if (bfid_test word) (record { 0 = digits_value 16 word }) b e in
    subst (λ (x : Bfid). SaysSlot (bfid x.0) word) h.1 (bfid_read word h.0)

-- what the code finds of an identifier is what is there
pub bfid_some : (b : Bfid) (word : List ℕ) → hexadecimal 32 b.0 ≡ word → b.0 < 16 ^ 32 → Some b ≡ bfid_in word
bfid_some b word spelled small = sym (bfid_says word b (sym spelled, small))

pub bfid_none : (word : List ℕ) → ((n : ℕ) → hexadecimal 32 n ≢ word) → None ≡ bfid_in word
bfid_none word none =
    elim (cases_Bool (bfid_test word)) [
      | inl t ↦ absurd (none (digits_value 16 word) (sym (bfid_read word t).0))
      | inr f ↦ sym (cond-false (bfid_test word) _ _ f)
    ]

-- a row that was found has the word as its text
pub row_sound : {V : Type 0} (P : List ℕ → V → Type 0) (rows : List (List ℕ × V)) (word : List ℕ) (v : V) → AllByRecursion (λ row. P row.0 row.1) rows → row_in rows word ≡ Some v → P word v
row_sound P [] word v each e = absurd (cc)
row_sound P (row ∷ rows) word v each e =
    elim (cases_Bool (bytes_eq word row.0)) [
      | inl t ↦
          let both : Some row.1 ≡ Some v = sym (cond-true (bytes_eq word row.0) _ _ t) ∙ e in
          let same : row.1 ≡ v = cc in
          subst (P word) same (subst (λ (w : List ℕ). P w row.1) (sym (bytes_same word row.0 t)) each.0)
      | inr f ↦ row_sound P rows word v each.1 (sym (cond-false (bytes_eq word row.0) _ _ f) ∙ e)
    ]
