-- The chunks of a commit are parts that the commit hashes, where they have sums; and so is a chunk that is moved.
use Rattle.std.proofs.Common.{◌≡◌, ◌⊎◌, ℕ, zero, suc, ◌+◌, ◌-◌, Bool, true, false, cond, ◌++◌, if◌then◌else◌, Option, None, Some, IsSome, List, [], ◌∷◌, Contains, drop, length, refl, sym, ap, subst, ◌∙◌, inl, inr}
use Rattle.std.specs.Prelude as prelude
use Rattle.std.specs.List.{flat_map}
use Rattle.std.specs.FinMap as map
use Rattle.std.proofs.lemmas.Bool.{and_parts}
use Rattle.std.proofs.lemmas.List.Elements.{Contains-append_left, Contains-append_right}
use Rattle.dm_base.specs.declared.volume.Chunk.{Chunk}
use Rattle.dm_base.specs.declared.volume.Piece.{Piece}
use Rattle.dm_rules.specs.Numbers.{lesser}
use Rattle.dm_rules.specs.Plan.{chunks_at, chunks_of}
use Rattle.dm_rules.specs.Version.{chunk_header, has_sum}
use Rattle.dm_rules.specs.Zone.{chunk_sum}
use Rattle.dm_tables.proofs.Entries.{entries-found}
use Rattle.dm_tables.proofs.Orders.{numbers}
use Rattle.dm_durable.specs.declared.group.BitfileRow.{BitfileRow}
use Rattle.dm_durable.specs.Group.{is_on}
use Rattle.dm_durable.specs.Tables.{ByNumber}
use Rattle.dm_durable.specs.Volumes.{LiveChunk, chunks_on, first_on, further_in_front, least_placed, live_chunk}
use Rattle.dm_model.specs.declared.state.MountState.{MountState}
use Rattle.dm_model.specs.declared.state.Moving.{Moving}
use Rattle.dm_model.specs.GroupCalls.{is_moved, part_of, same_sum, summed_chunks, was_moved, with_sums}
use Rattle.dm_model.specs.Hashed.{parts_of_piece}
use Rattle.dm_invariant.specs.Among.{IsAmong}
use Rattle.dm_invariant.proofs.Lists.{among_either, mapped_among}
use Rattle.dm_runs.proofs.Contained.{contains_if, contains_mapped, each_among, filter_among, flat_among}
use Rattle.sha2.specs.Sha256.{sha256}

-- ---- commits

-- chunks are planned without sums
no_sum : (version chunk count : ℕ) (p : Piece) (offset left place : ℕ) (c : Chunk) → IsAmong c (chunks_at version chunk count p offset left place)
    → c.sum ≡ None
unfolding chunks_at
no_sum version chunk zero p offset left place c among = absurd among
no_sum version chunk (suc count) p offset left place c (inl same) = ap (λ (x : Chunk). x.sum) same
no_sum version chunk (suc count) p offset left place c (inr later) =
    no_sum version chunk count p (offset + lesser chunk left) (left - lesser chunk left) (place + chunk_header version + lesser chunk left) c later

-- a chunk with a sum is one without, at the same place of the bitfile
record Base (cs : List Chunk) (c : Chunk) : Type 0 where
  base : Chunk
  among : IsAmong base cs
  offset : base.offset ≡ c.offset
  len : base.len ≡ c.len

summed_base : (cs : List Chunk) (sums : List (List ℕ)) (c : Chunk) → IsAmong c (with_sums cs sums) → Base cs c
summed_base [] sums c among = absurd among
summed_base (d ∷ ds) [] c (inl same) =
    record { base = d; among = inl refl; offset = ap (λ (x : Chunk). x.offset) (sym same); len = ap (λ (x : Chunk). x.len) (sym same) }
summed_base (d ∷ ds) [] c (inr later) = let b = summed_base ds [] c later in record { base = b.base; among = inr b.among; offset = b.offset; len = b.len }
summed_base (d ∷ ds) (s ∷ ss) c (inl same) =
    record { base = d; among = inl refl; offset = ap (λ (x : Chunk). x.offset) (sym same); len = ap (λ (x : Chunk). x.len) (sym same) }
summed_base (d ∷ ds) (s ∷ ss) c (inr later) = let b = summed_base ds ss c later in record { base = b.base; among = inr b.among; offset = b.offset; len = b.len }

-- a part of a piece whose chunks have sums
based_part : (chunk : ℕ) (bytes : List ℕ) (p : Piece) (c : Chunk) → has_sum p.version ≡ true → Base (chunks_of chunk p) c
    → Contains (parts_of_piece chunk bytes p) (part_of bytes c.offset c.len)
based_part chunk bytes p c is b =
    subst (λ x. Contains (parts_of_piece chunk bytes p) x)
    (ap (λ o. part_of bytes o b.base.len) b.offset ∙ ap (λ l. part_of bytes c.offset l) b.len)
    (contains_if (has_sum p.version) (prelude.map (λ (d : Chunk). part_of bytes d.offset d.len) (chunks_of chunk p)) _ is
    (contains_mapped (λ (d : Chunk). part_of bytes d.offset d.len) b.base (chunks_of chunk p) b.among))

piece_part : (chunk : ℕ) (bytes : List ℕ) (p : Piece) (ps : List Piece) (sums : List (List ℕ)) (c : Chunk)
    → ((more : List (List ℕ)) → IsAmong c (summed_chunks chunk ps more) → Contains (flat_map (parts_of_piece chunk bytes) ps) (part_of bytes c.offset c.len))
    → IsSome c.sum → (v : Bool) → has_sum p.version ≡ v
    → IsAmong c (cond v (with_sums (chunks_of chunk p) sums ++ summed_chunks chunk ps (drop (length (chunks_of chunk p)) sums))
    (chunks_of chunk p ++ summed_chunks chunk ps sums))
    → Contains (parts_of_piece chunk bytes p ++ flat_map (parts_of_piece chunk bytes) ps) (part_of bytes c.offset c.len)
piece_part chunk bytes p ps sums c rest has true is among =
    elim (among_either c (with_sums (chunks_of chunk p) sums) _ among) [
      | inl here ↦
          Contains-append_left (parts_of_piece chunk bytes p) _ _ (based_part chunk bytes p c is (summed_base (chunks_of chunk p) sums c here))
      | inr later ↦ Contains-append_right (parts_of_piece chunk bytes p) _ _ (rest (drop (length (chunks_of chunk p)) sums) later)
    ]
piece_part chunk bytes p ps sums c rest has false is among =
    elim (among_either c (chunks_of chunk p) _ among) [
      | inl here ↦
          let none = no_sum p.version chunk _ p p.offset p.len _ c here in
          let never = subst (λ o. IsSome o) none has in
          absurd (cc)
      | inr later ↦ Contains-append_right (parts_of_piece chunk bytes p) _ _ (rest sums later)
    ]

-- each chunk of a commit that has a sum is a part that is hashed
pub summed_part : (chunk : ℕ) (bytes : List ℕ) (ps : List Piece) (sums : List (List ℕ)) (c : Chunk) → IsAmong c (summed_chunks chunk ps sums)
    → IsSome c.sum → Contains (flat_map (parts_of_piece chunk bytes) ps) (part_of bytes c.offset c.len)
summed_part chunk bytes [] sums c among has = absurd among
summed_part chunk bytes (p ∷ ps) sums c among has =
    piece_part chunk bytes p ps sums c (λ more later. summed_part chunk bytes ps more c later has) has (has_sum p.version) refl among

-- ---- moves

-- what was read of a moved chunk; chunks where it goes have sums, if it gets one
pub record WasRead (x : Moving) (sum read : Option (List ℕ)) : Type 0 where
  pub bytes : List ℕ
  pub is : read ≡ Some bytes
  pub has : IsSome sum → has_sum x.version ≡ true

sum_has : (v : Bool) (part : List ℕ) (sum : Option (List ℕ)) → same_sum sum (if v then Some (sha256 part) else None) ≡ true → IsSome sum → v ≡ true
sum_has true part sum same is = refl
sum_has false part None same is = cc
sum_has false part (Some s) same is = cc

moved_has : (epoch : ℕ) (x : Moving) (sum : Option (List ℕ)) (bytes : List ℕ) (written : Option (List ℕ)) → is_moved epoch x sum bytes written ≡ true
    → IsSome sum → has_sum x.version ≡ true
moved_has epoch x sum bytes None e is = cc
moved_has epoch x sum bytes (Some zone) e is = sum_has (has_sum x.version) bytes sum (and_parts _ (same_sum sum (chunk_sum x.version bytes)) e).1 is

read_is : (x : Moving) (sum : Option (List ℕ)) (s t : MountState) (read : Option (List ℕ))
    → was_moved x sum (Some (record s { read = read })) (Some t) ≡ true → WasRead x sum read
read_is x sum s t None e = cc
read_is x sum s t (Some bytes) e = record { bytes = bytes; is = refl; has = moved_has t.epoch x sum bytes t.written e }

pub was_read : (x : Moving) (sum : Option (List ℕ)) (o p : Option MountState) (s t : MountState) → o ≡ Some s → p ≡ Some t
    → was_moved x sum o p ≡ true → WasRead x sum s.read
was_read x sum o p s t source target e =
    let one = subst (λ a. was_moved x sum a p ≡ true) source e in
    read_is x sum s t s.read (subst (λ a. was_moved x sum (Some s) a ≡ true) target one)

-- ---- the chunk that a merge moves next

-- it is one of a bitfile
pub record LiveIn (bitfiles : ByNumber BitfileRow) (l : LiveChunk) : Type 0 where
  pub row : BitfileRow
  pub is : map.get bitfiles l.bfid.0 ≡ Some row
  pub among : IsAmong l.chunk row.chunks

front_one : (b : Bool) (x y : LiveChunk) → (cond b x y ≡ x) ⊎ (cond b x y ≡ y)
front_one true x y = inl refl
front_one false x y = inr refl

least_front : (x : LiveChunk) (xs : List LiveChunk) (l : LiveChunk) (o : Option LiveChunk)
    → ((y : LiveChunk) → o ≡ Some y → IsAmong y xs) → Some (further_in_front x o) ≡ Some l → (l ≡ x) ⊎ IsAmong l xs
least_front x xs l None rest e = let same : x ≡ l = cc in inl (sym same)
least_front x xs l (Some y) rest e =
    let same : further_in_front x (Some y) ≡ l = cc in
    elim (front_one _ x y) [
      | inl first ↦ inl (sym same ∙ first)
      | inr later ↦ inr (subst (λ z. IsAmong z xs) (sym later ∙ same) (rest y refl))
    ]

least_among : (xs : List LiveChunk) (l : LiveChunk) → least_placed xs ≡ Some l → IsAmong l xs
least_among [] l is = cc
least_among (x ∷ xs) l is = least_front x xs l (least_placed xs) (λ y at. least_among xs y at) is

pub live_in : (bitfiles : ByNumber BitfileRow) (vsn : List ℕ) (l : LiveChunk) → first_on bitfiles vsn ≡ Some l → LiveIn bitfiles l
live_in bitfiles vsn l is =
    let e = flat_among _ l (map.entries bitfiles) (least_among (chunks_on bitfiles vsn) l is) in
    let there = each_among (λ e. map.get bitfiles e.0 ≡ Some e.1) e.0 (map.entries bitfiles) (entries-found numbers bitfiles) e.1 in
    let c = mapped_among (live_chunk e.0.0 e.0.1) l _ e.2 in
    subst (λ x. LiveIn bitfiles x) c.2 (record { row = e.0.1; is = there; among = filter_among (is_on vsn) c.0 e.0.1.chunks c.1 })
