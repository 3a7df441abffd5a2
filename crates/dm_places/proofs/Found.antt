-- A bitfile's chunks in their order, and the one that begins at an offset.
use Rattle.std.proofs.Common.{◌≡◌, ◌⊎◌, inl, inr, ℕ, zero, suc, ◌+◌, ◌<◌, ◌≤◌, true, false, cond, nat_eq, Some, List, [], ◌∷◌, All, Contains, refl, sym, ap, subst, ◌∙◌, arith, eqb-true, eq-eqb}
use Rattle.std.proofs.lemmas.List.Elements.{All-nil, All-cons, All-contains, All-weaker}
use Rattle.dm_base.specs.declared.volume.Chunk.{Chunk}
use Rattle.dm_durable.specs.Group.{chunk_at}
use Rattle.dm_durable.specs.GroupConditions.{Joins}
use Rattle.dm_places.specs.Chunks.{Ascends}

-- ---- being one of a list

module _ {X : Type 0} where
  pub among_none : (x : X) → Contains [] x → ⊥
  among_none x among = let k = among.1 in omega arith

  pub among_cases : (x y : X) (ys : List X) → Contains (y ∷ ys) x → (y ≡ x) ⊎ Contains ys x
  among_cases x y ys (zero, within, at) = inl at
  among_cases x y ys (suc k, within, at) = inr (k, omega arith, at)

  pub among_first : (x : X) (xs : List X) → Contains (x ∷ xs) x
  among_first x xs = (0, omega arith, refl)

  pub among_later : (x y : X) (ys : List X) → Contains ys x → Contains (y ∷ ys) x
  among_later x y ys (k, within, at) = (suc k, omega arith, at)

-- ---- chunks

joins_from : (from : ℕ) (chunks : List Chunk) (to : ℕ) → Joins from chunks to → All (λ d. from ≤ d.offset) chunks
joins_from from [] to joins = All-nil (λ d. from ≤ d.offset)
joins_from from (c ∷ cs) to (at, long, rest) =
    All-cons (λ d. from ≤ d.offset) c cs (omega (arith, at))
    (All-weaker (λ d. from + c.len ≤ d.offset) (λ d. from ≤ d.offset) (λ d h. omega arith) cs (joins_from (from + c.len) cs to rest))

-- the chunks of a whole bitfile ascend
pub joins_ascend : (from : ℕ) (chunks : List Chunk) (to : ℕ) → Joins from chunks to → Ascends chunks
joins_ascend from [] to joins = tt
joins_ascend from (c ∷ cs) to (at, long, rest) = (
  All-weaker (λ d. from + c.len ≤ d.offset) (λ d. c.offset < d.offset) (λ d h. omega (arith, at, long)) cs (joins_from (from + c.len) cs to rest),
  joins_ascend (from + c.len) cs to rest,
)

-- each of the chunks is found by its offset
pub found_chunk : (chunks : List Chunk) (c : Chunk) → Ascends chunks → Contains chunks c → chunk_at c.offset chunks ≡ Some c
found_chunk [] c ascends among = absurd (among_none c among)
found_chunk (d ∷ ds) c (behind, ascends) among =
    elim (among_cases c d ds among) [
      | inl same ↦ ap (λ b. cond b (Some d) (chunk_at c.offset ds)) (eq-eqb d.offset c.offset (ap (λ x. x.offset) same)) ∙ ap (λ x. Some x) same
      | inr later ↦
          let below = All-contains (λ x. d.offset < x.offset) ds c behind later in
          elim (nat_eq d.offset c.offset) as (λ b. nat_eq d.offset c.offset ≡ b → cond b (Some d) (chunk_at c.offset ds) ≡ Some c) [
            | true ↦ λ e. absurd (let at = eqb-true d.offset c.offset e in omega arith)
            | false ↦ λ e. found_chunk ds c ascends later
          ] refl
    ]

-- and what is found is one of them, which begins there
pub chunk_found : (offset : ℕ) (chunks : List Chunk) (c : Chunk) → chunk_at offset chunks ≡ Some c → Contains chunks c × (c.offset ≡ offset)
chunk_found offset [] c found = absurd (cc)
chunk_found offset (d ∷ ds) c found =
    elim (nat_eq d.offset offset) as (λ b. nat_eq d.offset offset ≡ b → cond b (Some d) (chunk_at offset ds) ≡ Some c → Contains (d ∷ ds) c × (c.offset ≡ offset)) [
      | true ↦ λ e f.
          let same : d ≡ c = cc in
          (subst (λ x. Contains (d ∷ ds) x) same (among_first d ds), ap (λ x. x.offset) (sym same) ∙ eqb-true d.offset offset e)
      | false ↦ λ e f. let later = chunk_found offset ds c f in (among_later c d ds later.0, later.1)
    ] refl found
