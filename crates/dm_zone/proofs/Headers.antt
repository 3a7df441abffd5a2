-- A header whose fields are right is spelled by its numbers, and a header that is spelled has right fields.
use Rattle.std.proofs.Common.{◌≡◌, ◌⊎◌, inl, inr, ℕ, ◌+◌, ◌^◌, ◌<◌, ◌≤◌, List, [], ◌∷◌, ◌++◌, length, take, drop, refl, sym, ap, subst, ◌∙◌, arith, append_assoc, length-append, length-take, length-drop, codes, replicate}
use Rattle.std.specs.Prelude.{not, Bool, true, false, cond, Some, None}
use Rattle.sha2.specs.Sha256.{sha256}
use Rattle.std.specs.Int.{Width, w32, w64, w128, byte_len, from_be_bytes, to_be_bytes}
use Rattle.std.proofs.lemmas.Bool.{eqb-true, eq-eqb, ltb-true, leb-true, lt-ltb, le-leb}
use Rattle.std.proofs.lemmas.List.{take-append-drop, drop-drop, take_at, drop_at}
use Rattle.std.proofs.lemmas.Bool.Decides.{Decides-eqb}
use Rattle.std.proofs.lemmas.Slice.Eq.{slice_eq-Decides}
use Rattle.std.specs.Prelude.{nat_eq}
use Rattle.std.specs.Bool.{Decides}
use lib.Pointwise.{pointwise}
use Rattle.dm_rules.specs.Version.{chunk_header, has_sum, sum_length}
use Rattle.dm_rules.specs.Zone.{SpelledChunk, chunk_front, chunk_sum, chunk_text, sum_text, zone_front}
use Rattle.dm_rules.proofs.Sums.{length-sum_text}
use Rattle.dm_zone.specs.Fields.{Field, number_at, letters, chunk_bytes, sum_there, zone_fields, text_field, chunk_fields, IsRight, IsCut, IsRefused, AllRight, FirstWrong}
use Rattle.dm_zone.specs.Grammar.{IsChunk}
use Rattle.dm_zone.specs.Reading.{IsHeader}
use Rattle.dm_zone.proofs.Wide.{IsBytes, IsBytes-drop, IsBytes-take, IsWide, wide_32, wide_64, wide_128}
use Rattle.dm_zone.proofs.Cuts.{length-chunk_front, length-zone_front}

-- ---- a field of a number

-- what stands at a place is the number that is read there, and the bytes after it
field_is : (w : Width) (limit : ℕ) (wide : IsWide w limit) (place next : ℕ) (bytes : List ℕ) → IsBytes bytes → next ≡ place + byte_len w → next ≤ length bytes → drop place bytes ≡ to_be_bytes w (number_at w place bytes) ++ drop next bytes
unfolding number_at
field_is w limit wide place next bytes fits next_is there =
    let n = byte_len w in
    let front = take n (drop place bytes) in
    let long : length front ≡ n = omega (arith, length-take n (drop place bytes), length-drop place bytes) in
    sym (take-append-drop n (drop place bytes))
    ∙ ap (λ f. f ++ drop n (drop place bytes)) (sym (wide.back front long (IsBytes-take n (drop place bytes) (IsBytes-drop place bytes fits))))
    ∙ ap (λ r. to_be_bytes w (from_be_bytes w front) ++ r) (drop-drop n place bytes ∙ ap (λ k. drop k bytes) (sym next_is))

number_below : (w : Width) (limit : ℕ) (wide : IsWide w limit) (place : ℕ) (bytes : List ℕ) → IsBytes bytes → place + byte_len w ≤ length bytes → number_at w place bytes < limit
unfolding number_at
number_below w limit wide place bytes fits there =
    let n = byte_len w in
    wide.below (take n (drop place bytes)) (omega (arith, length-take n (drop place bytes), length-drop place bytes)) (IsBytes-take n (drop place bytes) (IsBytes-drop place bytes fits))

-- ---- the header of a zone

pub zone_header_is : (bytes : List ℕ) → IsBytes bytes → AllRight zone_fields bytes → bytes ≡ zone_front (number_at w64 8 bytes) (number_at w32 4 bytes) (number_at w64 16 bytes) ++ drop 32 bytes
unfolding zone_front
zone_header_is bytes fits (mark, (count, (epoch, (whole, (zeros, end))))) =
    let e0 = field_is w32 (2 ^ 32) wide_32 0 4 bytes fits refl mark.there in
    let e1 = field_is w32 (2 ^ 32) wide_32 4 8 bytes fits refl count.there in
    let e2 = field_is w64 (2 ^ 64) wide_64 8 16 bytes fits refl epoch.there in
    let e3 = field_is w64 (2 ^ 64) wide_64 16 24 bytes fits refl whole.there in
    let e4 = field_is w64 (2 ^ 64) wide_64 24 32 bytes fits refl zeros.there in
    let m = eqb-true (number_at w32 0 bytes) (letters (codes "ZONE")) mark.allowed in
    let z = eqb-true (number_at w64 24 bytes) 0 zeros.allowed in
    e0 ∙ ap (λ k. to_be_bytes w32 k ++ drop 4 bytes) m
    ∙ ap (λ t. codes "ZONE" ++ t) (e1
    ∙ ap (λ t. to_be_bytes w32 (number_at w32 4 bytes) ++ t) (e2
    ∙ ap (λ t. to_be_bytes w64 (number_at w64 8 bytes) ++ t) (e3
    ∙ ap (λ t. to_be_bytes w64 (number_at w64 16 bytes) ++ t) (e4 ∙ ap (λ k. to_be_bytes w64 k ++ drop 32 bytes) z))))

pub record ZoneNumbers (bytes : List ℕ) : Type 0 where
  pub count_some : 0 < number_at w32 4 bytes
  pub count_fits : number_at w32 4 bytes < 2 ^ 32
  pub epoch_fits : number_at w64 8 bytes < 2 ^ 64
  pub whole_fits : number_at w64 16 bytes < 2 ^ 64
  pub long : 32 ≤ length bytes

pub zone_numbers : (bytes : List ℕ) → IsBytes bytes → AllRight zone_fields bytes → ZoneNumbers bytes
zone_numbers bytes fits (mark, (count, (epoch, (whole, (zeros, end))))) = record {
  count_some = ltb-true 0 (number_at w32 4 bytes) count.allowed;
  count_fits = number_below w32 (2 ^ 32) wide_32 4 bytes fits count.there;
  epoch_fits = number_below w64 (2 ^ 64) wide_64 8 bytes fits epoch.there;
  whole_fits = number_below w64 (2 ^ 64) wide_64 16 bytes fits whole.there;
  long = zeros.there;
}

-- the numbers of a header that is spelled
pub zone_spelled : (epoch count whole : ℕ) (rest : List ℕ) → epoch < 2 ^ 64 → count < 2 ^ 32 → whole < 2 ^ 64 → IsHeader count epoch whole (zone_front epoch count whole ++ rest)
unfolding zone_front number_at
zone_spelled epoch count whole rest e c w = record {
  count_is = sym (wide_32.again count c);
  epoch_is = sym (wide_64.again epoch e);
  whole_is = sym (wide_64.again whole w);
}

zone_marks : (epoch count whole : ℕ) (rest : List ℕ) → (number_at w32 0 (zone_front epoch count whole ++ rest) ≡ letters (codes "ZONE")) × (number_at w64 24 (zone_front epoch count whole ++ rest) ≡ 0)
unfolding zone_front number_at
zone_marks epoch count whole rest = (refl, refl)

pub zone_right : (epoch count whole : ℕ) (rest : List ℕ) → epoch < 2 ^ 64 → 0 < count → count < 2 ^ 32 → whole < 2 ^ 64 → AllRight zone_fields (zone_front epoch count whole ++ rest)
zone_right epoch count whole rest e some c w =
    let bytes = zone_front epoch count whole ++ rest in
    let long : 32 ≤ length bytes = omega (arith, length-append (zone_front epoch count whole) rest, length-zone_front epoch count whole) in
    let marks = zone_marks epoch count whole rest in
    let n = (zone_spelled epoch count whole rest e c w).count_is in (
      record { there = omega (arith, long); allowed = eq-eqb (number_at w32 0 bytes) (letters (codes "ZONE")) marks.0 },
      (
        record { there = omega (arith, long); allowed = lt-ltb 0 (number_at w32 4 bytes) (omega (arith, n, some)) },
        (
          record { there = omega (arith, long); allowed = refl },
          (
            record { there = omega (arith, long); allowed = refl },
            (record { there = omega (arith, long); allowed = eq-eqb (number_at w64 24 bytes) 0 marks.1 }, tt),
          ),
        ),
      ),
    )

-- ---- a chunk

-- what `==` says of two texts
texts : (xs ys : List ℕ) → Decides (pointwise nat_eq xs ys) (xs ≡ ys)
texts xs ys = slice_eq-Decides Decides-eqb xs ys (pointwise nat_eq xs ys) refl

-- the chunk that the bytes begin with
abbrev pub chunk_at : ℕ → List ℕ → SpelledChunk
chunk_at version bytes = record {
  bfid = number_at w128 8 bytes;
  total = number_at w64 40 bytes;
  offset = number_at w64 24 bytes;
  sum = chunk_sum version (chunk_bytes version bytes);
  bytes = chunk_bytes version bytes;
}

pub chunk_header_is : (version : ℕ) (bytes : List ℕ) → IsBytes bytes → AllRight (chunk_fields version) bytes → bytes ≡ chunk_front (number_at w128 8 bytes) (number_at w64 24 bytes) (number_at w64 32 bytes) (number_at w64 40 bytes) ++ drop 48 bytes
unfolding chunk_front
chunk_header_is version bytes fits (mark, (zeros, (bfid, (offset, (count, (total, (text, end))))))) =
    let e0 = field_is w32 (2 ^ 32) wide_32 0 4 bytes fits refl mark.there in
    let e1 = field_is w32 (2 ^ 32) wide_32 4 8 bytes fits refl zeros.there in
    let e2 = field_is w128 (2 ^ 128) wide_128 8 24 bytes fits refl bfid.there in
    let e3 = field_is w64 (2 ^ 64) wide_64 24 32 bytes fits refl offset.there in
    let e4 = field_is w64 (2 ^ 64) wide_64 32 40 bytes fits refl count.there in
    let e5 = field_is w64 (2 ^ 64) wide_64 40 48 bytes fits refl total.there in
    let m = eqb-true (number_at w32 0 bytes) (letters (codes "CHNK")) mark.allowed in
    let z = eqb-true (number_at w32 4 bytes) 0 zeros.allowed in
    e0 ∙ ap (λ k. to_be_bytes w32 k ++ drop 4 bytes) m
    ∙ ap (λ t. codes "CHNK" ++ t) (e1 ∙ ap (λ k. to_be_bytes w32 k ++ drop 8 bytes) z
    ∙ ap (λ t. replicate 4 0 ++ t) (e2
    ∙ ap (λ t. to_be_bytes w128 (number_at w128 8 bytes) ++ t) (e3
    ∙ ap (λ t. to_be_bytes w64 (number_at w64 24 bytes) ++ t) (e4
    ∙ ap (λ t. to_be_bytes w64 (number_at w64 32 bytes) ++ t) e5))))

-- bytes whose fields are right are a chunk of the grammar and the rest
pub record Parts (version : ℕ) (bytes : List ℕ) : Type 0 where
  pub parts : bytes ≡ chunk_text (chunk_at version bytes) ++ drop (chunk_header version + number_at w64 32 bytes) bytes
  pub is_chunk : IsChunk version (chunk_at version bytes)
  pub count : length (chunk_bytes version bytes) ≡ number_at w64 32 bytes
  pub there : chunk_header version + number_at w64 32 bytes ≤ length bytes

-- a text in three parts, of which the second and the third begin at these places
split : (head sum first bytes : List ℕ) (s n : ℕ) → bytes ≡ head ++ drop 48 bytes → take s (drop 48 bytes) ≡ sum → take n (drop (48 + s) bytes) ≡ first
    → bytes ≡ ((head ++ sum) ++ first) ++ drop (48 + s + n) bytes
split head sum first bytes s n begins stands text =
    let behind : drop 48 bytes ≡ sum ++ drop (48 + s) bytes =
    sym (take-append-drop s (drop 48 bytes)) ∙ ap (λ r. take s (drop 48 bytes) ++ r) (drop-drop s 48 bytes) ∙ ap (λ t. t ++ drop (48 + s) bytes) stands in
    let last : drop (48 + s) bytes ≡ first ++ drop (48 + s + n) bytes =
    sym (take-append-drop n (drop (48 + s) bytes)) ∙ ap (λ r. take n (drop (48 + s) bytes) ++ r) (drop-drop n (48 + s) bytes) ∙ ap (λ t. t ++ drop (48 + s + n) bytes) text in
    begins ∙ ap (λ t. head ++ t) (behind ∙ ap (λ t. sum ++ t) last)
    ∙ sym (append_assoc head sum (first ++ drop (48 + s + n) bytes))
    ∙ sym (append_assoc (head ++ sum) first (drop (48 + s + n) bytes))

pub chunk_parts : (version : ℕ) (bytes : List ℕ) → IsBytes bytes → AllRight (chunk_fields version) bytes → Parts version bytes
chunk_parts version bytes fits (mark, (zeros, (bfid, (offset, (count, (total, (text, end))))))) =
    let n = number_at w64 32 bytes in
    let s = sum_length version in
    let first = chunk_bytes version bytes in
    let sum = sum_text (chunk_sum version first) in
    let there : 48 + s + n ≤ length bytes = omega (arith, text.there) in
    let long : length first ≡ n = omega (arith, length-take n (drop (48 + s) bytes), length-drop (48 + s) bytes, there) in
    let head = chunk_header_is version bytes fits (mark, (zeros, (bfid, (offset, (count, (total, (text, end))))))) in
    let stands = (texts (take s (drop 48 bytes)) sum).0 text.allowed in
    let front = λ (k : ℕ). chunk_front (number_at w128 8 bytes) (number_at w64 24 bytes) k (number_at w64 40 bytes) in
    record {
      parts = split (front n) sum first bytes s n head stands refl ∙ ap (λ k. ((front k ++ sum) ++ first) ++ drop (48 + s + n) bytes) (sym long);
      is_chunk = record {
        bfid = number_below w128 (2 ^ 128) wide_128 8 bytes fits bfid.there;
        total = number_below w64 (2 ^ 64) wide_64 40 bytes fits total.there;
        some = omega (arith, long, ltb-true 0 n count.allowed);
        within = omega (arith, long, leb-true (number_at w64 24 bytes + n) (number_at w64 40 bytes) total.allowed);
        sum_is = refl;
      };
      count = long;
      there = there;
    }

-- the numbers of a chunk that is spelled
record ChunkNumbers (bfid offset count total : ℕ) (rest bytes : List ℕ) : Type 0 where
  mark : number_at w32 0 bytes ≡ letters (codes "CHNK")
  zeros : number_at w32 4 bytes ≡ 0
  bfid_is : number_at w128 8 bytes ≡ bfid
  offset_is : number_at w64 24 bytes ≡ offset
  count_is : number_at w64 32 bytes ≡ count
  total_is : number_at w64 40 bytes ≡ total
  rest_is : drop 48 bytes ≡ rest

chunk_numbers : (bfid offset count total : ℕ) (rest : List ℕ) → bfid < 2 ^ 128 → offset < 2 ^ 64 → count < 2 ^ 64 → total < 2 ^ 64 → ChunkNumbers bfid offset count total rest (chunk_front bfid offset count total ++ rest)
unfolding chunk_front number_at
chunk_numbers bfid offset count total rest b o c t = record {
  mark = refl;
  zeros = refl;
  bfid_is = wide_128.again bfid b;
  offset_is = wide_64.again offset o;
  count_is = wide_64.again count c;
  total_is = wide_64.again total t;
  rest_is = refl;
}

-- the bytes begin with this chunk, and nothing else is read of them
pub record Again (version : ℕ) (c : SpelledChunk) (rest bytes : List ℕ) : Type 0 where
  pub right : AllRight (chunk_fields version) bytes
  pub chunk_is : chunk_at version bytes ≡ c
  pub count_is : number_at w64 32 bytes ≡ length c.bytes
  pub rest_is : drop (chunk_header version + number_at w64 32 bytes) bytes ≡ rest

again_of : (version : ℕ) (c : SpelledChunk) (rest bytes : List ℕ) → IsChunk version c → chunk_header version + length c.bytes ≤ length bytes
    → ChunkNumbers c.bfid c.offset (length c.bytes) c.total (sum_text c.sum ++ (c.bytes ++ rest)) bytes → Again version c rest bytes
again_of version c rest bytes is long n =
    let count = number_at w64 32 bytes in
    let s = sum_length version in
    let there : 48 + s + count ≤ length bytes = omega (arith, long, n.count_is) in
    let within : number_at w64 24 bytes + count ≤ number_at w64 40 bytes = omega (arith, is.within, n.offset_is, n.count_is, n.total_is) in
    let sum_long : length (sum_text c.sum) ≡ s = ap (λ t. length (sum_text t)) is.sum_is ∙ length-sum_text version c.bytes in
    let behind : drop (48 + s) bytes ≡ c.bytes ++ rest = sym (drop-drop s 48 bytes) ∙ ap (drop s) n.rest_is ∙ drop_at (sum_text c.sum) (c.bytes ++ rest) s sum_long in
    let first : chunk_bytes version bytes ≡ c.bytes = ap (take count) behind ∙ take_at c.bytes rest count (sym n.count_is) in
    let others : drop (48 + s + count) bytes ≡ rest = sym (drop-drop count (48 + s) bytes) ∙ ap (drop count) behind ∙ drop_at c.bytes rest count (sym n.count_is) in
    let sum : chunk_sum version (chunk_bytes version bytes) ≡ c.sum = ap (chunk_sum version) first ∙ sym is.sum_is in
    let stands : take s (drop 48 bytes) ≡ sum_text (chunk_sum version (chunk_bytes version bytes)) =
    ap (take s) n.rest_is ∙ take_at (sum_text c.sum) (c.bytes ++ rest) s sum_long ∙ ap sum_text (sym sum) in
    record {
      right = (
        record { there = omega (arith, there); allowed = eq-eqb (number_at w32 0 bytes) (letters (codes "CHNK")) n.mark },
        (
          record { there = omega (arith, there); allowed = eq-eqb (number_at w32 4 bytes) 0 n.zeros },
          (
            record { there = omega (arith, there); allowed = refl },
            (
              record { there = omega (arith, there); allowed = refl },
              (
                record { there = omega (arith, there); allowed = lt-ltb 0 count (omega (arith, is.some, n.count_is)) },
                (
                  record { there = omega (arith, there); allowed = le-leb (number_at w64 24 bytes + count) (number_at w64 40 bytes) within },
                  (
                    record { there = omega (arith, there); allowed = (texts (take s (drop 48 bytes)) (sum_text (chunk_sum version (chunk_bytes version bytes)))).1 stands },
                    tt,
                  ),
                ),
              ),
            ),
          ),
        ),
      );
      chunk_is = λ i. record { bfid = n.bfid_is i; total = n.total_is i; offset = n.offset_is i; sum = sum i; bytes = first i };
      count_is = n.count_is;
      rest_is = others;
    }

pub length-chunk_text : (version : ℕ) (c : SpelledChunk) → IsChunk version c → length (chunk_text c) ≡ chunk_header version + length c.bytes
length-chunk_text version c is =
    let front = chunk_front c.bfid c.offset (length c.bytes) c.total in
    omega (
      arith,
      length-chunk_front c.bfid c.offset (length c.bytes) c.total,
      ap (λ t. length (sum_text t)) is.sum_is,
      length-sum_text version c.bytes,
      length-append front (sum_text c.sum),
      length-append (front ++ sum_text c.sum) c.bytes,
    )

pub chunk_again : (version : ℕ) (c : SpelledChunk) (rest bytes : List ℕ) → IsChunk version c → bytes ≡ chunk_text c ++ rest → Again version c rest bytes
chunk_again version c rest bytes is spelled =
    let front = chunk_front c.bfid c.offset (length c.bytes) c.total in
    let sum = sum_text c.sum in
    let whole : bytes ≡ front ++ (sum ++ (c.bytes ++ rest)) = spelled ∙ append_assoc (front ++ sum) c.bytes rest ∙ append_assoc front sum (c.bytes ++ rest) in
    let numbers =
    chunk_numbers c.bfid c.offset (length c.bytes) c.total (sum ++ (c.bytes ++ rest)) is.bfid (omega (arith, is.within, is.total)) (omega (arith, is.within, is.total)) is.total in
    let long : chunk_header version + length c.bytes ≤ length bytes =
    omega (arith, ap length spelled, length-append (chunk_text c) rest, length-chunk_text version c is) in
    again_of version c rest bytes is long (subst (λ (b : List ℕ). ChunkNumbers c.bfid c.offset (length c.bytes) c.total (sum ++ (c.bytes ++ rest)) b) (sym whole) numbers)

-- ---- the first wrong field

-- it stands within the bytes
pub wrong_within : (fs : List Field) (bytes : List ℕ) (place : ℕ) → FirstWrong fs bytes place → place ≤ length bytes
wrong_within [] bytes place w = absurd w
wrong_within (f ∷ fs) bytes place (inl cut) = omega (arith, cut.place_is)
wrong_within (f ∷ fs) bytes place (inr (inl refused)) = omega (arith, refused.place_is, refused.there)
wrong_within (f ∷ fs) bytes place (inr (inr later)) = wrong_within fs bytes place later.1

-- where all are right none is wrong
pub none_wrong : (fs : List Field) (bytes : List ℕ) (place : ℕ) → AllRight fs bytes → FirstWrong fs bytes place → ⊥
none_wrong [] bytes place r w = w
none_wrong (f ∷ fs) bytes place r (inl cut) = omega (arith, r.0.there, cut.ends)
none_wrong (f ∷ fs) bytes place r (inr (inl refused)) = let a = ap not r.0.allowed in let b = refused.refused in cc
none_wrong (f ∷ fs) bytes place r (inr (inr later)) = none_wrong fs bytes place r.1 later.1

cut_not_refused : (f : Field) (bytes : List ℕ) (p q : ℕ) → IsCut f bytes p → IsRefused f bytes q → ⊥
cut_not_refused f bytes p q cut refused = omega (arith, cut.ends, refused.there)

wrong_not_right : (f : Field) (bytes : List ℕ) (p : ℕ) → IsCut f bytes p ⊎ IsRefused f bytes p → IsRight f bytes → ⊥
wrong_not_right f bytes p (inl cut) r = omega (arith, cut.ends, r.there)
wrong_not_right f bytes p (inr refused) r = let a = ap not r.allowed in let b = refused.refused in cc

-- it is one
pub one_wrong : (fs : List Field) (bytes : List ℕ) (p q : ℕ) → FirstWrong fs bytes p → FirstWrong fs bytes q → p ≡ q
one_wrong [] bytes p q a b = absurd a
one_wrong (f ∷ fs) bytes p q (inl a) (inl b) = a.place_is ∙ sym b.place_is
one_wrong (f ∷ fs) bytes p q (inl a) (inr (inl b)) = absurd (cut_not_refused f bytes p q a b)
one_wrong (f ∷ fs) bytes p q (inl a) (inr (inr b)) = absurd (wrong_not_right f bytes p (inl a) b.0)
one_wrong (f ∷ fs) bytes p q (inr (inl a)) (inl b) = absurd (cut_not_refused f bytes q p b a)
one_wrong (f ∷ fs) bytes p q (inr (inl a)) (inr (inl b)) = a.place_is ∙ sym b.place_is
one_wrong (f ∷ fs) bytes p q (inr (inl a)) (inr (inr b)) = absurd (wrong_not_right f bytes p (inr a) b.0)
one_wrong (f ∷ fs) bytes p q (inr (inr a)) (inl b) = absurd (wrong_not_right f bytes q (inl b) a.0)
one_wrong (f ∷ fs) bytes p q (inr (inr a)) (inr (inl b)) = absurd (wrong_not_right f bytes q (inr b) a.0)
one_wrong (f ∷ fs) bytes p q (inr (inr a)) (inr (inr b)) = one_wrong fs bytes p q a.1 b.1

-- where one of the first fields of a table is wrong, it is so in the whole table
pub wrong_longer : (fs gs : List Field) (bytes : List ℕ) (place : ℕ) → FirstWrong fs bytes place → FirstWrong (fs ++ gs) bytes place
wrong_longer [] gs bytes place w = absurd w
wrong_longer (f ∷ fs) gs bytes place (inl cut) = inl cut
wrong_longer (f ∷ fs) gs bytes place (inr (inl refused)) = inr (inl refused)
wrong_longer (f ∷ fs) gs bytes place (inr (inr later)) = inr (inr (later.0, wrong_longer fs gs bytes place later.1))

-- where the first are right, one behind them is the first wrong one
pub wrong_behind : (fs gs : List Field) (bytes : List ℕ) (place : ℕ) → AllRight fs bytes → FirstWrong gs bytes place → FirstWrong (fs ++ gs) bytes place
wrong_behind [] gs bytes place right w = w
wrong_behind (f ∷ fs) gs bytes place right w = inr (inr (right.0, wrong_behind fs gs bytes place right.1 w))

pub right_both : (fs gs : List Field) (bytes : List ℕ) → AllRight fs bytes → AllRight gs bytes → AllRight (fs ++ gs) bytes
right_both [] gs bytes right later = later
right_both (f ∷ fs) gs bytes right later = (right.0, right_both fs gs bytes right.1 later)

pub right_first : (fs gs : List Field) (bytes : List ℕ) → AllRight (fs ++ gs) bytes → AllRight fs bytes
right_first [] gs bytes right = tt
right_first (f ∷ fs) gs bytes right = (right.0, right_first fs gs bytes right.1)

-- a sum that agrees is the one that stands there
pub sum_read : (version : ℕ) (bytes : List ℕ) → IsRight (text_field version) bytes → sum_there version bytes ≡ chunk_sum version (chunk_bytes version bytes)
sum_read version bytes right = by (has_sum version) (sha256 (chunk_bytes version bytes)) (drop 48 bytes) right.allowed
  where
    by : (b : Bool) (sum text : List ℕ) → pointwise nat_eq (take (cond b 32 0) text) (sum_text (cond b (Some sum) None)) ≡ true → cond b (Some (take 32 text)) None ≡ cond b (Some sum) None
    by true sum text agrees = ap Some ((texts (take 32 text) sum).0 agrees)
    by false sum text agrees = refl

pub text_right : (version : ℕ) (bytes : List ℕ) → AllRight (chunk_fields version) bytes → IsRight (text_field version) bytes
text_right version bytes (mark, (zeros, (bfid, (offset, (count, (total, (text, end))))))) = text
