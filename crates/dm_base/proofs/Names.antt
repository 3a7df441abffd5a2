-- The tests of names against their grammar.
use Rattle.std.proofs.Common.{◌≡◌, ℕ, ◌<◌, ◌≤◌, Bool, true, false, cond, ◌&&◌, List, [], ◌∷◌, ◌++◌, length, refl, sym, ◌∙◌, ap, subst, arith}
use Rattle.std.proofs.lemmas.Bool.{and_parts, and_from, eqb-true, eq-eqb, false≢true, ne_eqb, le-leb, lt-leb, leb-true, lt-ltb, ltb-true}
use Rattle.std.specs.List.{AllByRecursion, flat_map}
use Rattle.std.specs.Prelude.{IsTrue, ◌==◌, nat_le, nat_lt}
use Rattle.dm_base.specs.Naming.{IsName, IsPath, IsDumpName, is_name_byte, is_spelled, is_path_text, is_dump_name_text, is_all_name, is_serial_byte, is_all_serial}

abbrev pub slashed : List (List ℕ) → List ℕ
slashed names = flat_map (λ (name : List ℕ). 47 ∷ name) names

abbrev pub AreNameBytes : List ℕ → Type 0
AreNameBytes bytes = AllByRecursion (λ b. IsTrue (is_name_byte b)) bytes

-- what the test accepts: the rest of a name, and further names
pub record Spells (named : Bool) (bytes : List ℕ) : Type 0 where
  pub name : List ℕ
  pub names : List (List ℕ)
  pub each_byte : AreNameBytes name
  pub some : named ≡ false → 0 < length name
  pub each : AllByRecursion IsName names
  pub is : bytes ≡ name ++ slashed names

-- at a slash: the name that has begun ends, and the next one begins
slash_spells : (bytes : List ℕ) → Spells false bytes → Spells true (47 ∷ bytes)
slash_spells bytes s = record {
  name = [];
  names = s.name ∷ s.names;
  each_byte = tt;
  some = λ e. absurd (false≢true (sym e));
  each = (record { some = s.some refl; bytes = s.each_byte }, s.each);
  is = ap (λ bs. 47 ∷ bs) s.is;
}

byte_spells : (named : Bool) (b : ℕ) (bytes : List ℕ) → IsTrue (is_name_byte b) → Spells true bytes → Spells named (b ∷ bytes)
byte_spells named b bytes h s = record {
  name = b ∷ s.name;
  names = s.names;
  each_byte = (h, s.each_byte);
  some = λ _. omega arith;
  each = s.each;
  is = ap (λ bs. b ∷ bs) s.is;
}

end_spells : (named : Bool) → named ≡ true → Spells named []
end_spells named e = record { name = []; names = []; each_byte = tt; some = λ f. absurd (false≢true (sym f ∙ e)); each = tt; is = refl }

-- one byte more, by the case of the test
cons_spells : (named : Bool) (b : ℕ) (bytes : List ℕ) (t : Bool) → t ≡ (b == 47) → ((n : Bool) → is_spelled n bytes ≡ true → Spells n bytes)
    → cond t (named && is_spelled false bytes) (is_name_byte b && is_spelled true bytes) ≡ true → Spells named (b ∷ bytes)
cons_spells named b bytes false is rest e = byte_spells named b bytes (and_parts _ _ e).0 (rest true (and_parts _ _ e).1)
cons_spells false b bytes true is rest e = absurd (false≢true e)
cons_spells true b bytes true is rest e =
    let slash : b ≡ 47 = eqb-true b 47 (sym is) in
    subst (λ (x : ℕ). Spells true (x ∷ bytes)) (sym slash) (slash_spells bytes (rest false e))

pub spells : (named : Bool) (bytes : List ℕ) → is_spelled named bytes ≡ true → Spells named bytes
spells named [] e = end_spells named e
spells named (b ∷ bytes) e = cons_spells named b bytes (b == 47) refl (λ n. spells n bytes) e

-- what passes the test behind a slash is a path
pub path_of : (rest : List ℕ) → is_spelled false rest ≡ true → length (47 ∷ rest) ≤ 255 → IsPath (47 ∷ rest)
path_of rest e fits =
    let s = spells false rest e in
    record {
      names = s.name ∷ s.names;
      some = omega arith;
      each = (record { some = s.some refl; bytes = s.each_byte }, s.each);
      spelled = ap (λ bs. 47 ∷ bs) s.is;
      fits = fits;
    }

-- a name's byte is no slash
name_byte_not_slash : (b : ℕ) → IsTrue (is_name_byte b) → (b == 47) ≡ false
name_byte_not_slash b h = ne_eqb b 47 (λ e. false≢true (subst (λ (x : ℕ). is_name_byte x ≡ true) e h))

-- the rest of a name and further names pass the test
pub names_pass : (named : Bool) (name : List ℕ) (names : List (List ℕ)) → AreNameBytes name → (named ≡ false → 0 < length name) → AllByRecursion IsName names
    → is_spelled named (name ++ slashed names) ≡ true
names_pass true [] [] bytes some each = refl
names_pass false [] names bytes some each = absurd (omega (arith, some refl))
names_pass true [] (next ∷ names) bytes some each = names_pass false next names each.0.bytes (λ _. each.0.some) each.1
names_pass named (b ∷ name) names bytes some each =
    subst (λ (t : Bool). cond t (named && is_spelled false (name ++ slashed names)) (is_name_byte b && is_spelled true (name ++ slashed names)) ≡ true)
    (sym (name_byte_not_slash b bytes.0))
    (and_from _ _ bytes.0 (names_pass true name names bytes.1 (λ e. absurd (false≢true (sym e))) each))

-- what a path begins with, and what the test says of the rest
pub record Passes (text : List ℕ) : Type 0 where
  pub rest : List ℕ
  pub is : text ≡ 47 ∷ rest
  pub passes : is_spelled false rest ≡ true
  pub fits : length text ≤ 255

passes_from : (text : List ℕ) (names : List (List ℕ)) → 0 < length names → AllByRecursion IsName names → text ≡ slashed names → length text ≤ 255 → Passes text
passes_from text [] some each is fits = absurd (omega (arith, some))
passes_from text (name ∷ names) some each is fits =
    record { rest = name ++ slashed names; is = is; passes = names_pass false name names each.0.bytes (λ _. each.0.some) each.1; fits = fits }

pub passes : (text : List ℕ) → IsPath text → Passes text
passes text p = passes_from text p.names p.some p.each p.spelled p.fits

-- the test of a whole text, where the code ends it
pub text_empty : (text : List ℕ) → length text ≡ 0 → false ≡ is_path_text text
text_empty [] e = refl
text_empty (b ∷ bs) e = absurd (omega (arith, e))

pub text_unslashed : (text : List ℕ) (first : ℕ) (rest : List ℕ) → text ≡ first ∷ rest → (first ≡ 47 → ⊥) → false ≡ is_path_text text
text_unslashed text first rest e other =
    sym (
    ap is_path_text e
    ∙ ap (λ (t : Bool). t && nat_le (length (first ∷ rest)) 255 && is_spelled false rest) (ne_eqb first 47 other)
    )

-- the two tests behind the first, by what they are
behind_slash : (first : ℕ) (rest : List ℕ) (fits named : Bool) → first ≡ 47 → nat_le (length (first ∷ rest)) 255 ≡ fits → is_spelled false rest ≡ named
    → is_path_text (first ∷ rest) ≡ (fits && named)
behind_slash first rest fits named slash e n =
    ap (λ (t : Bool). t && nat_le (length (first ∷ rest)) 255 && is_spelled false rest) (eq-eqb first 47 slash)
    ∙ ap (λ (t : Bool). true && t && is_spelled false rest) e
    ∙ ap (λ (t : Bool). true && fits && t) n

pub text_long : (text : List ℕ) (first : ℕ) (rest : List ℕ) → text ≡ first ∷ rest → first ≡ 47 → 255 < length text → false ≡ is_path_text text
text_long text first rest e slash long =
    sym (
    ap is_path_text e
    ∙ behind_slash first rest false (is_spelled false rest) slash (lt-leb _ 255 (subst (λ (t : List ℕ). 255 < length t) e long)) refl
    )

pub text_names : (text : List ℕ) (first : ℕ) (rest : List ℕ) (r : Bool) → text ≡ first ∷ rest → first ≡ 47 → length text ≤ 255 → r ≡ is_spelled false rest → r ≡ is_path_text text
text_names text first rest r e slash fits is =
    sym (
    ap is_path_text e
    ∙ behind_slash first rest true r slash (le-leb _ 255 (subst (λ (t : List ℕ). length t ≤ 255) e fits)) (sym is)
    )

-- the test decides the grammar
pub path_spelled : (text : List ℕ) → IsTrue (is_path_text text) → IsPath text
path_spelled [] h = absurd (false≢true h)
path_spelled (first ∷ rest) h =
    let outer = and_parts (first == 47 && nat_le (length (first ∷ rest)) 255) (is_spelled false rest) h in
    let inner = and_parts (first == 47) (nat_le (length (first ∷ rest)) 255) outer.0 in
    let slash : first ≡ 47 = eqb-true first 47 inner.0 in
    let fits : length (first ∷ rest) ≤ 255 = leb-true _ 255 inner.1 in
    let whole : first ∷ rest ≡ 47 ∷ rest = ap (λ (b : ℕ). b ∷ rest) slash in
    subst IsPath (sym whole) (path_of rest outer.1 (subst (λ (l : List ℕ). length l ≤ 255) whole fits))

pub path_passes : (text : List ℕ) → IsPath text → IsTrue (is_path_text text)
path_passes text p = let s = passes text p in
    ap is_path_text s.is
    ∙ behind_slash 47 s.rest true true refl (le-leb _ 255 (subst (λ (l : List ℕ). length l ≤ 255) s.is s.fits)) s.passes

-- an answer that is that of the test decides the grammar
pub path_decided : (text : List ℕ) (r : Bool) → r ≡ is_path_text text → (IsTrue r → IsPath text) × (IsPath text → IsTrue r)
path_decided text r is = (λ t. path_spelled text (sym is ∙ t), λ p. is ∙ path_passes text p)

-- a test of each byte, and the fact of each byte
pub all_name : (bytes : List ℕ) → IsTrue (is_all_name bytes) → AreNameBytes bytes
all_name [] h = tt
all_name (b ∷ bs) h = let parts = and_parts (is_name_byte b) (is_all_name bs) h in (parts.0, all_name bs parts.1)

pub all_name_back : (bytes : List ℕ) → AreNameBytes bytes → IsTrue (is_all_name bytes)
all_name_back [] h = refl
all_name_back (b ∷ bs) h = and_from (is_name_byte b) (is_all_name bs) h.0 (all_name_back bs h.1)

pub all_serial : (bytes : List ℕ) → IsTrue (is_all_serial bytes) → AllByRecursion (λ b. IsTrue (is_serial_byte b)) bytes
all_serial [] h = tt
all_serial (b ∷ bs) h = let parts = and_parts (is_serial_byte b) (is_all_serial bs) h in (parts.0, all_serial bs parts.1)

pub all_serial_back : (bytes : List ℕ) → AllByRecursion (λ b. IsTrue (is_serial_byte b)) bytes → IsTrue (is_all_serial bytes)
all_serial_back [] h = refl
all_serial_back (b ∷ bs) h = and_from (is_serial_byte b) (is_all_serial bs) h.0 (all_serial_back bs h.1)

-- the same for the name of a dump
pub dump_name_empty : (text : List ℕ) → IsTrue (length text == 0) → false ≡ is_dump_name_text text
dump_name_empty [] e = refl
dump_name_empty (b ∷ bs) e = absurd (omega (arith, eqb-true (length (b ∷ bs)) 0 e))

-- the tests behind the first, by what they are
dump_name_tests : (text : List ℕ) (some fits : Bool) → nat_lt 0 (length text) ≡ some → nat_le (length text) 32 ≡ fits → is_dump_name_text text ≡ (some && fits && is_all_name text)
dump_name_tests text some fits s f =
    ap (λ (t : Bool). t && nat_le (length text) 32 && is_all_name text) s ∙ ap (λ (t : Bool). some && t && is_all_name text) f

some_lt : (text : List ℕ) → (length text == 0) ≡ false → nat_lt 0 (length text) ≡ true
some_lt [] e = absurd (false≢true (sym e))
some_lt (b ∷ bs) e = lt-ltb 0 (length (b ∷ bs)) (omega arith)

pub dump_name_long : (text : List ℕ) → (length text == 0) ≡ false → 32 < length text → false ≡ is_dump_name_text text
dump_name_long text e long = sym (dump_name_tests text true false (some_lt text e) (lt-leb _ 32 long))

pub dump_name_bytes : (text : List ℕ) (r : Bool) → (length text == 0) ≡ false → length text ≤ 32 → r ≡ is_all_name text → r ≡ is_dump_name_text text
dump_name_bytes text r e fits is = is ∙ sym (dump_name_tests text true true (some_lt text e) (le-leb _ 32 fits))

pub dump_name_spelled : (text : List ℕ) → IsTrue (is_dump_name_text text) → IsDumpName text
dump_name_spelled text h =
    let outer = and_parts (nat_lt 0 (length text) && nat_le (length text) 32) (is_all_name text) h in
    let inner = and_parts (nat_lt 0 (length text)) (nat_le (length text) 32) outer.0 in
    record { some = ltb-true 0 (length text) inner.0; bytes = all_name text outer.1; fits = leb-true _ 32 inner.1 }

pub dump_name_passes : (text : List ℕ) → IsDumpName text → IsTrue (is_dump_name_text text)
dump_name_passes text d = dump_name_tests text true true (lt-ltb 0 (length text) d.some) (le-leb _ 32 d.fits) ∙ all_name_back text d.bytes

pub dump_name_decided : (text : List ℕ) (r : Bool) → r ≡ is_dump_name_text text → (IsTrue r → IsDumpName text) × (IsDumpName text → IsTrue r)
dump_name_decided text r is = (λ t. dump_name_spelled text (sym is ∙ t), λ d. is ∙ dump_name_passes text d)
