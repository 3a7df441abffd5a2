-- The chunks of a reservation with their sums.
use Rattle.std.proofs.Common.{◌≡◌, ℕ, zero, suc, ◌+◌, ◌-◌, ◌<◌, Bool, true, false, cond, Some, None, is_some, List, [], ◌∷◌, ◌++◌, length, drop, refl, ap, subst, ◌∙◌, inl, inr}
use Rattle.std.specs.Prelude as prelude
use Rattle.std.specs.List.{flat_map}
use Rattle.std.proofs.lemmas.Bool.{and_parts}
use Rattle.dm_base.specs.declared.volume.Chunk.{Chunk}
use Rattle.dm_base.specs.declared.volume.Piece.{Piece}
use Rattle.dm_rules.specs.Plan.{chunks_at, chunks_of}
use Rattle.dm_rules.specs.Numbers.{lesser}
use Rattle.dm_rules.specs.Version.{chunk_header, has_sum}
use Rattle.dm_rules.specs.Zone.{chunk_count, chunk_sum, zone_header}
use Rattle.dm_durable.specs.GroupConditions.{Joins}
use Rattle.dm_model.specs.GroupCalls.{part_of, piece_sums, same_sums, summed_chunks, with_sums}
use Rattle.dm_invariant.specs.Among.{IsAmong}
use Rattle.dm_invariant.specs.Assemble.{IsSumOf}
use Rattle.dm_invariant.specs.Reservations.{PiecesJoin}
use Rattle.dm_invariant.proofs.Lists.{among_either, mapped_among}
use Rattle.dm_invariant.proofs.Texts.{texts_equal}
use Rattle.dm_landing.proofs.VolumeChunkLists.{joins_both}
use Rattle.dm_group_effects.proofs.ZoneChunks.{chunks_join}
use Rattle.sha2.specs.Sha256.{sha256}

-- ---- lists of sums

sums_equal : (xs ys : List (List ℕ)) → same_sums xs ys ≡ true → xs ≡ ys
sums_equal [] [] e = refl
sums_equal [] (y ∷ ys) e = cc
sums_equal (x ∷ xs) [] e = cc
sums_equal (x ∷ xs) (y ∷ ys) e =
    let parts = and_parts _ _ e in
    let first = texts_equal x y parts.0 in
    let rest = sums_equal xs ys parts.1 in
    ap (λ z. z ∷ xs) first ∙ ap (λ zs. y ∷ zs) rest

pub same_sums_are : (xs ys : List (List ℕ)) → same_sums xs ys ≡ true → xs ≡ ys
same_sums_are xs ys e = sums_equal xs ys e

-- ---- chunks with sums

-- the chunk with the sum that its volume's version asks of this part of the bitfile
abbrev pub with_sum : ℕ → List ℕ → Chunk → Chunk
with_sum version bytes c = record c { sum = chunk_sum version (part_of bytes c.offset c.len) }

abbrev pub sum_at : List ℕ → Chunk → List ℕ
sum_at bytes c = sha256 (part_of bytes c.offset c.len)

abbrev summed_if : Bool → List ℕ → Chunk → Chunk
summed_if b bytes c = record c { sum = cond b (Some (sum_at bytes c)) None }

abbrev summed_as : List ℕ → Chunk → Chunk
summed_as bytes c = record c { sum = Some (sum_at bytes c) }

abbrev without_sum : Chunk → Chunk
without_sum c = record c { sum = None }

all_summed : (bytes : List ℕ) (cs : List Chunk) (rest : List (List ℕ))
    → with_sums cs (prelude.map (sum_at bytes) cs ++ rest) ≡ prelude.map (summed_as bytes) cs
all_summed bytes [] rest = refl
all_summed bytes (c ∷ cs) rest = ap (λ xs. summed_as bytes c ∷ xs) (all_summed bytes cs rest)

sums_left : (bytes : List ℕ) (cs : List Chunk) (rest : List (List ℕ)) → drop (length cs) (prelude.map (sum_at bytes) cs ++ rest) ≡ rest
sums_left bytes [] rest = refl
sums_left bytes (c ∷ cs) rest = sums_left bytes cs rest

unsummed : (version chunk count : ℕ) (p : Piece) (offset left place : ℕ)
    → chunks_at version chunk count p offset left place
    ≡ prelude.map without_sum (chunks_at version chunk count p offset left place)
unfolding chunks_at
unsummed version chunk zero p offset left place = refl
unsummed version chunk (suc count) p offset left place =
    let taken : ℕ = lesser chunk left in
    let first : Chunk = record {
      offset = offset;
      len = taken;
      vsn = p.vsn;
      zone = p.zone;
      place = place + chunk_header version;
      sum = None;
    } in
    ap (λ xs. first ∷ xs) (unsummed version chunk count p (offset + taken) (left - taken) (place + chunk_header version + taken))

-- the chunks of one piece, and those of the others by the sums that are left
one_summed : (b : Bool) (bytes : List ℕ) (cs : List Chunk) (rest : List (List ℕ)) (more : List (List ℕ) → List Chunk)
    → cs ≡ prelude.map without_sum cs
    → cond b
    (with_sums cs (cond b (prelude.map (sum_at bytes) cs) [] ++ rest) ++ more (drop (length cs) (cond b (prelude.map (sum_at bytes) cs) [] ++ rest)))
    (cs ++ more (cond b (prelude.map (sum_at bytes) cs) [] ++ rest))
    ≡ prelude.map (summed_if b bytes) cs ++ more rest
one_summed true bytes cs rest more none =
    ap (λ xs. xs ++ more (drop (length cs) (prelude.map (sum_at bytes) cs ++ rest))) (all_summed bytes cs rest)
    ∙ ap (λ ys. prelude.map (summed_as bytes) cs ++ more ys) (sums_left bytes cs rest)
one_summed false bytes cs rest more none = ap (λ xs. xs ++ more rest) none

-- the chunks of the pieces with the sums of their parts
pub summed_are : (chunk : ℕ) (bytes : List ℕ) (ps : List Piece)
    → summed_chunks chunk ps (flat_map (piece_sums chunk bytes) ps)
    ≡ flat_map (λ p. prelude.map (with_sum p.version bytes) (chunks_of chunk p)) ps
summed_are chunk bytes [] = refl
summed_are chunk bytes (p ∷ ps) =
    let later = flat_map (piece_sums chunk bytes) ps in
    one_summed (has_sum p.version) bytes (chunks_of chunk p) later (summed_chunks chunk ps)
    (unsummed p.version chunk (chunk_count chunk p.len) p p.offset p.len (p.zone + zone_header))
    ∙ ap (λ xs. prelude.map (with_sum p.version bytes) (chunks_of chunk p) ++ xs) (summed_are chunk bytes ps)

-- ---- what they are

-- each is a chunk of a piece
pub record Summed (chunk : ℕ) (bytes : List ℕ) (ps : List Piece) (c : Chunk) : Type 0 where
  pub piece : Piece
  pub among : IsAmong piece ps
  pub base : Chunk
  pub part : IsAmong base (chunks_of chunk piece)
  pub same : with_sum piece.version bytes base ≡ c

pub summed_of : (chunk : ℕ) (bytes : List ℕ) (ps : List Piece) (c : Chunk)
    → IsAmong c (flat_map (λ p. prelude.map (with_sum p.version bytes) (chunks_of chunk p)) ps) → Summed chunk bytes ps c
summed_of chunk bytes [] c among = absurd among
summed_of chunk bytes (p ∷ ps) c among =
    elim (among_either c (prelude.map (with_sum p.version bytes) (chunks_of chunk p))
    (flat_map (λ p. prelude.map (with_sum p.version bytes) (chunks_of chunk p)) ps) among) [
      | inl here ↦
          let m = mapped_among (with_sum p.version bytes) c (chunks_of chunk p) here in
          record { piece = p; among = inl refl; base = m.0; part = m.1; same = m.2 }
      | inr after ↦
          let s = summed_of chunk bytes ps c after in
          record { piece = s.piece; among = inr s.among; base = s.base; part = s.part; same = s.same }
    ]

joins_mapped : (version : ℕ) (bytes : List ℕ) (from to : ℕ) (cs : List Chunk) → Joins from cs to
    → Joins from (prelude.map (with_sum version bytes) cs) to
joins_mapped version bytes from to [] joins = joins
joins_mapped version bytes from to (c ∷ cs) joins = (joins.0, joins.1, joins_mapped version bytes (from + c.len) to cs joins.2)

-- and they are all of the bytes of the pieces
pub summed_join : (chunk : ℕ) (bytes : List ℕ) (from : ℕ) (ps : List Piece) (to : ℕ) → 0 < chunk → PiecesJoin from ps to
    → Joins from (flat_map (λ p. prelude.map (with_sum p.version bytes) (chunks_of chunk p)) ps) to
summed_join chunk bytes from [] to some join = join
summed_join chunk bytes from (p ∷ ps) to some join =
    let first : Joins from (chunks_of chunk p) (from + p.len) =
    subst (λ n. Joins n (chunks_of chunk p) (n + p.len)) join.0 (chunks_join chunk p some) in
    joins_both from (from + p.len) to (prelude.map (with_sum p.version bytes) (chunks_of chunk p)) _
    (joins_mapped p.version bytes from (from + p.len) (chunks_of chunk p) first)
    (summed_join chunk bytes (from + p.len) ps to some join.2)

-- ---- sums

pub sum_right : (b : Bool) (part : List ℕ) → IsSumOf part (cond b (Some (sha256 part)) None)
sum_right true part = refl
sum_right false part = tt

pub sum_there : (b : Bool) (part : List ℕ) → is_some (cond b (Some (sha256 part)) None) ≡ b
sum_there true part = refl
sum_there false part = refl
