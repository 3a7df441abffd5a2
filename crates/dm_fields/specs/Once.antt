-- Spellings tell what they are of: numbers, texts behind their lengths, and one field behind another.
use Rattle.std.proofs.Common.{◌≡◌, None, Some, Bool, true, false, ℕ, ◌+◌, ◌<◌, ◌^◌, List, [], ◌∷◌, ◌++◌, length, refl, sym, ap, ◌∙◌, arith, append_assoc, length-append}
use Rattle.std.specs.List.{AllByRecursion, flat_map}
use Rattle.byteorder.specs.Numbers.{big_number-reads_back, length-bytes_high_first}
use Rattle.byteorder.specs.Endian.{big_from}
use Rattle.dm_base.specs.Naming.{IsPath, IsDumpName, IsSerial}
use Rattle.dm_base.specs.declared.identifier.Bfid.{Bfid}
use Rattle.dm_base.specs.declared.identifier.GroupId.{GroupId}
use Rattle.dm_base.specs.declared.identifier.Ino.{Ino}
use Rattle.dm_base.specs.declared.identifier.Secs.{Secs}
use Rattle.dm_base.specs.declared.serial.Vsn.{Vsn}
use Rattle.dm_fields.specs.Fields.{byte_field, flag_field, path_field, name_field, content_field, list_field, short_list_field, moment_field, sum_field, chunk_field, longer_chunk_field}
use Rattle.dm_durable.specs.Fields.{IsTimeOrNone, IsSumOrNone, FitsChunk, HasNoSum}
use Rattle.dm_fields.specs.declared.chunks.OldChunk.{OldChunk}
use Rattle.dm_fields.specs.declared.lists.ShortList.{ShortList}
use Rattle.dm_base.specs.declared.volume.Chunk.{Chunk}
use Rattle.dm_fields.specs.Numbers.{big_endian, be32, be64, be128}
use Rattle.dm_fields.specs.Reading.{IsSpelledOnce}

-- lists of one length at the front of equal lists are equal, and so is the rest
pub front_once : {A : Type 0} (a b r s : List A) → length a ≡ length b → a ++ r ≡ b ++ s → (a ≡ b) × (r ≡ s)
front_once [] [] r s same e = (refl, e)
front_once [] (y ∷ b) r s same e = absurd (omega arith)
front_once (x ∷ a) [] r s same e = absurd (omega arith)
front_once (x ∷ a) (y ∷ b) r s same e =
    let head : x ≡ y = cc in
    let tail : a ++ r ≡ b ++ s = cc in
    let rest = front_once a b r s (omega arith) tail in
    (λ i. head i ∷ rest.0 i, rest.1)

pub length-big_endian : (width n : ℕ) → length (big_endian width n) ≡ width
unfolding big_endian
length-big_endian width n = length-bytes_high_first width n

pub length-behind : (width n : ℕ) (body : List ℕ) → length (big_endian width n ++ body) ≡ width + length body
length-behind width n body = length-append (big_endian width n) body ∙ ap (λ m. m + length body) (length-big_endian width n)

-- the widths of numbers, for code
pub ruleset widths = (length-big_endian, length-behind)

pub number_once : (width x y : ℕ) (r s : List ℕ) → x < 256 ^ width → y < 256 ^ width → big_endian width x ++ r ≡ big_endian width y ++ s → (x ≡ y) × (r ≡ s)
unfolding big_endian
number_once width x y r s p q e = (
  sym (big_number-reads_back width x r p) ∙ ap (big_from 0 width) e ∙ big_number-reads_back width y s q,
  (front_once (big_endian width x) (big_endian width y) r s (length-big_endian width x ∙ sym (length-big_endian width y)) e).1,
)

-- bytes behind their length, which is spelled in so many bytes
pub text_once : (width : ℕ) (a b r s : List ℕ) → length a < 256 ^ width → length b < 256 ^ width → (big_endian width (length a) ++ a) ++ r ≡ (big_endian width (length b) ++ b) ++ s → (a ≡ b) × (r ≡ s)
text_once width a b r s p q e =
    let lengths = number_once width (length a) (length b) (a ++ r) (b ++ s) p q (sym append_assoc' ∙ e ∙ append_assoc'') in
    front_once a b r s lengths.0 lengths.1
  where
    append_assoc' : (big_endian width (length a) ++ a) ++ r ≡ big_endian width (length a) ++ (a ++ r)
    append_assoc' = append_assoc (big_endian width (length a)) a r

    append_assoc'' : (big_endian width (length b) ++ b) ++ s ≡ big_endian width (length b) ++ (b ++ s)
    append_assoc'' = append_assoc (big_endian width (length b)) b s

-- one field behind another
pub pair_once : {A B : Type 0} (f : A → List ℕ) (P : A → Type 0) (g : B → List ℕ) (Q : B → Type 0) → IsSpelledOnce f P → IsSpelledOnce g Q → IsSpelledOnce {X = A × B} (λ p. f p.0 ++ g p.1) (λ p. P p.0 × Q p.1)
pair_once f P g Q once_f once_g x y r s p q e =
    let first = once_f x.0 y.0 (g x.1 ++ r) (g y.1 ++ s) p.0 q.0 (sym (append_assoc (f x.0) (g x.1) r) ∙ e ∙ append_assoc (f y.0) (g y.1) s) in
    let second = once_g x.1 y.1 r s p.1 q.1 first.1 in
    (λ i. (first.0 i, second.0 i), second.1)

-- as many values of one kind, one after the other
pub items_once : {X : Type 0} (f : X → List ℕ) (P : X → Type 0) → IsSpelledOnce f P → (xs ys : List X) (r s : List ℕ) → length xs ≡ length ys → AllByRecursion P xs → AllByRecursion P ys → flat_map f xs ++ r ≡ flat_map f ys ++ s → (xs ≡ ys) × (r ≡ s)
items_once f P once [] [] r s same p q e = (refl, e)
items_once f P once [] (y ∷ ys) r s same p q e = absurd (omega arith)
items_once f P once (x ∷ xs) [] r s same p q e = absurd (omega arith)
items_once f P once (x ∷ xs) (y ∷ ys) r s same p q e =
    let first = once x y (flat_map f xs ++ r) (flat_map f ys ++ s) p.0 q.0 (sym (append_assoc (f x) (flat_map f xs) r) ∙ e ∙ append_assoc (f y) (flat_map f ys) s) in
    let rest = items_once f P once xs ys r s (omega arith) p.1 q.1 first.1 in
    (λ i. first.0 i ∷ rest.0 i, rest.1)

pub byte_once : (x y : ℕ) (r s : List ℕ) → (x ∷ []) ++ r ≡ (y ∷ []) ++ s → (x ≡ y) × (r ≡ s)
byte_once x y r s e = (cc, cc)

pub flag_once : (x y : Bool) (r s : List ℕ) → flag_field x ++ r ≡ flag_field y ++ s → (x ≡ y) × (r ≡ s)
flag_once false false r s e = (refl, cc)
flag_once false true r s e = cc
flag_once true false r s e = cc
flag_once true true r s e = (refl, cc)

pub bfid_once : IsSpelledOnce {X = Bfid} (λ b. be128 b.0) (λ b. b.0 < 2 ^ 128)
bfid_once x y r s p q e = let n = number_once 16 x.0 y.0 r s p q e in (λ i. record { 0 = n.0 i }, n.1)

pub group_once : IsSpelledOnce {X = GroupId} (λ g. byte_field g.0) (λ g. g.0 < 2 ^ 8)
group_once x y r s p q e = let n = byte_once x.0 y.0 r s e in (λ i. record { 0 = n.0 i }, n.1)

pub ino_once : IsSpelledOnce {X = Ino} (λ n. be64 n.0) (λ n. n.0 < 2 ^ 64)
ino_once x y r s p q e = let n = number_once 8 x.0 y.0 r s p q e in (λ i. record { 0 = n.0 i }, n.1)

pub secs_once : IsSpelledOnce {X = Secs} (λ t. be64 t.0) (λ t. t.0 < 2 ^ 64)
secs_once x y r s p q e = let n = number_once 8 x.0 y.0 r s p q e in (λ i. record { 0 = n.0 i }, n.1)

pub vsn_once : IsSpelledOnce {X = Vsn} (λ v. v.0) (λ v. IsSerial v.0)
vsn_once x y r s p q e = let n = front_once x.0 y.0 r s (p.six ∙ sym q.six) e in (λ i. record { 0 = n.0 i }, n.1)

-- ---- texts and bytes behind their lengths

pub path_once : IsSpelledOnce path_field IsPath
path_once x y r s p q e = text_once 2 x y r s (let f = p.fits in omega arith) (let f = q.fits in omega arith) e

pub content_once : IsSpelledOnce content_field (λ bytes. length bytes < 2 ^ 32)
content_once x y r s p q e = text_once 4 x y r s p q e

pub name_once : IsSpelledOnce name_field IsDumpName
name_once x y r s p q e =
    let lengths = byte_once (length x) (length y) (x ++ r) (y ++ s) e in
    front_once x y r s lengths.0 lengths.1

pub list_once : {X : Type 0} (f : X → List ℕ) (P : X → Type 0) → IsSpelledOnce f P → IsSpelledOnce {X = List X} (list_field f) (λ items. (length items < 2 ^ 32) × AllByRecursion P items)
list_once f P once x y r s p q e =
    let counts = number_once 4 (length x) (length y) (flat_map f x ++ r) (flat_map f y ++ s) p.0 q.0 (sym (append_assoc (be32 (length x)) (flat_map f x) r) ∙ e ∙ append_assoc (be32 (length y)) (flat_map f y) s) in
    items_once f P once x y r s counts.0 p.1 q.1 counts.1

pub short_list_once : {X : Type 0} (f : X → List ℕ) (P : X → Type 0) → IsSpelledOnce f P → IsSpelledOnce {X = List X} (short_list_field f) (λ items. (length items < 2 ^ 8) × AllByRecursion P items)
short_list_once f P once x y r s p q e =
    let counts = byte_once (length x) (length y) (flat_map f x ++ r) (flat_map f y ++ s) e in
    items_once f P once x y r s counts.0 p.1 q.1 counts.1

-- ---- a time or none, a sum or none, a chunk

pub moment_once : IsSpelledOnce moment_field IsTimeOrNone
moment_once None None r s p q e = (refl, (number_once 8 0 0 r s (omega arith) (omega arith) (byte_once 0 0 (be64 0 ++ r) (be64 0 ++ s) e).1).1)
moment_once None (Some t) r s p q e = absurd (let n = (byte_once 0 1 (be64 0 ++ r) (be64 t.0 ++ s) e).0 in omega arith)
moment_once (Some t) None r s p q e = absurd (let n = (byte_once 1 0 (be64 t.0 ++ r) (be64 0 ++ s) e).0 in omega arith)
moment_once (Some t) (Some u) r s p q e =
    let n = number_once 8 t.0 u.0 r s p q (byte_once 1 1 (be64 t.0 ++ r) (be64 u.0 ++ s) e).1 in
    (λ i. Some (record { 0 = n.0 i }), n.1)

pub sum_once : IsSpelledOnce sum_field IsSumOrNone
sum_once None None r s p q e = (refl, (byte_once 0 0 r s e).1)
sum_once None (Some b) r s p q e = absurd (let n = (byte_once 0 1 r (b ++ s) e).0 in omega arith)
sum_once (Some a) None r s p q e = absurd (let n = (byte_once 1 0 (a ++ r) s e).0 in omega arith)
sum_once (Some a) (Some b) r s p q e =
    let n = front_once a b r s (p ∙ sym q) (byte_once 1 1 (a ++ r) (b ++ s) e).1 in
    (λ i. Some (n.0 i), n.1)

-- the fields of a chunk without its sum
abbrev pub ChunkFields : Type 0
ChunkFields = ℕ × (ℕ × (Vsn × (ℕ × ℕ)))

abbrev pub chunk_fields : Chunk → ChunkFields
chunk_fields c = (c.offset, (c.len, (c.vsn, (c.zone, c.place))))

word_once : IsSpelledOnce be64 (λ n. n < 2 ^ 64)
word_once = number_once 8

abbrev pub fields_spelling : ChunkFields → List ℕ
fields_spelling f = be64 f.0 ++ (be64 f.1.0 ++ (f.1.1.0.0 ++ (be64 f.1.1.1.0 ++ be64 f.1.1.1.1)))

abbrev pub FieldsFit : ChunkFields → Type 0
FieldsFit f = (f.0 < 2 ^ 64) × ((f.1.0 < 2 ^ 64) × (IsSerial f.1.1.0.0 × ((f.1.1.1.0 < 2 ^ 64) × (f.1.1.1.1 < 2 ^ 64))))

pub fields_once : IsSpelledOnce fields_spelling FieldsFit
fields_once =
    pair_once be64 (λ n. n < 2 ^ 64) _ _ word_once
    (pair_once be64 (λ n. n < 2 ^ 64) _ _ word_once
    (pair_once (λ (v : Vsn). v.0) (λ v. IsSerial v.0) _ _ vsn_once
    (pair_once be64 (λ n. n < 2 ^ 64) be64 (λ n. n < 2 ^ 64) word_once word_once)))

pub FieldsFit-of : (c : Chunk) → FitsChunk c → FieldsFit (chunk_fields c)
FieldsFit-of c p = (p.offset, (p.len, (p.serial, (p.zone, p.place))))

pub chunk_once : IsSpelledOnce {X = Chunk} longer_chunk_field FitsChunk
chunk_once x y r s p q e =
    let both = pair_once fields_spelling FieldsFit sum_field IsSumOrNone fields_once sum_once (chunk_fields x, x.sum) (chunk_fields y, y.sum) r s (FieldsFit-of x p, p.sum) (FieldsFit-of y q, q.sum) e in
    let f = both.0 in
    (λ i. record { offset = (f i).0.0; len = (f i).0.1.0; vsn = (f i).0.1.1.0; zone = (f i).0.1.1.1.0; place = (f i).0.1.1.1.1; sum = (f i).1 }, both.1)

-- a chunk of the time before sums
pub old_chunk_once : IsSpelledOnce {X = OldChunk} (λ c. chunk_field c.chunk) (λ c. FitsChunk c.chunk × HasNoSum c.chunk)
old_chunk_once x y r s p q e =
    let both = fields_once (chunk_fields x.chunk) (chunk_fields y.chunk) r s (FieldsFit-of x.chunk p.0) (FieldsFit-of y.chunk q.0) e in
    let f = both.0 in
    let none : x.chunk.sum ≡ y.chunk.sum = p.1 ∙ sym q.1 in
    (λ i. record { chunk = record { offset = (f i).0; len = (f i).1.0; vsn = (f i).1.1.0; zone = (f i).1.1.1.0; place = (f i).1.1.1.1; sum = none i } }, both.1)

pub wrapped_short_list_once : {X : Type 0} (f : X → List ℕ) (P : X → Type 0) → IsSpelledOnce f P → IsSpelledOnce {X = ShortList X} (λ l. short_list_field f l.items) (λ l. (length l.items < 2 ^ 8) × AllByRecursion P l.items)
wrapped_short_list_once f P once x y r s p q e =
    let n = short_list_once f P once x.items y.items r s p q e in
    (λ i. record { items = n.0 i }, n.1)
