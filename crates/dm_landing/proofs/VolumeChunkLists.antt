-- Lists of chunks: those that join, and those that lie on volumes.
use Rattle.std.proofs.Common.{◌≡◌, ◌⊎◌, ◌++◌, inl, inr, ℕ, ◌+◌, ◌≤◌, true, false, cond, nat_eq, Some, List, [], ◌∷◌, refl, sym, subst, arith}
use Rattle.dm_base.specs.declared.volume.Chunk.{Chunk}
use Rattle.dm_durable.specs.Tables.{ByName}
use Rattle.dm_durable.specs.declared.group.VolumeRow.{VolumeRow}
use Rattle.dm_durable.specs.GroupConditions.{LiesOn, EachLies, Joins}
use Rattle.dm_durable.specs.Group.{chunk_at}
use Rattle.dm_invariant.specs.Among.{IsAmong}
use Rattle.std.proofs.lemmas.Option.{same_Some}

-- chunks that join end behind where they begin
joins_onward : (from to : ℕ) (cs : List Chunk) → Joins from cs to → from ≤ to
joins_onward from to [] joins = omega (arith, joins)
joins_onward from to (c ∷ cs) joins = let on = joins_onward (from + c.len) to cs joins.2 in omega (arith, on)

-- and each before they end
pub joins_within : (from to : ℕ) (cs : List Chunk) (c : Chunk) → Joins from cs to → IsAmong c cs → c.offset + c.len ≤ to
joins_within from to [] c joins among = absurd among
joins_within from to (d ∷ cs) c joins (inl here) =
    let on : d.offset + d.len ≤ to = let rest = joins_onward (from + d.len) to cs joins.2 in let at = joins.0 in omega (arith, rest, at) in
    subst (λ (x : Chunk). x.offset + x.len ≤ to) (sym here) on
joins_within from to (d ∷ cs) c joins (inr there) = joins_within (from + d.len) to cs c joins.2 there

-- chunks up to an offset, and chunks from it on
pub joins_both : (from mid to : ℕ) (xs ys : List Chunk) → Joins from xs mid → Joins mid ys to → Joins from (xs ++ ys) to
joins_both from mid to [] ys one two = subst (λ n. Joins n ys to) (sym one) two
joins_both from mid to (c ∷ xs) ys one two = (one.0, one.1, joins_both (from + c.len) mid to xs ys one.2 two)

-- the chunk that begins at an offset is one of the list
pub chunk_among : (offset : ℕ) (cs : List Chunk) (c : Chunk) → chunk_at offset cs ≡ Some c → IsAmong c cs
chunk_among offset [] c e = cc
chunk_among offset (d ∷ ds) c e =
    elim (nat_eq d.offset offset) as (λ b. cond b (Some d) (chunk_at offset ds) ≡ Some c → (c ≡ d) ⊎ IsAmong c ds) [
      | true ↦ λ at. inl (sym (same_Some _ _ at))
      | false ↦ λ rest. inr (chunk_among offset ds c rest)
    ] e

-- where all lie on volumes, each does
pub one_lies : (volumes : ByName VolumeRow) (chunks : List Chunk) (c : Chunk) → EachLies volumes chunks → IsAmong c chunks → LiesOn volumes c
one_lies volumes [] c lie among = absurd among
one_lies volumes (d ∷ ds) c lie among =
    elim among [
      | inl same ↦ subst (λ x. LiesOn volumes x) (sym same) lie.0
      | inr after ↦ one_lies volumes ds c lie.1 after
    ]

-- and all do where each does
pub each_lies : (volumes : ByName VolumeRow) (chunks : List Chunk) → ((c : Chunk) → IsAmong c chunks → LiesOn volumes c) → EachLies volumes chunks
each_lies volumes [] each = tt
each_lies volumes (c ∷ cs) each = (each c (inl refl), each_lies volumes cs (λ d among. each d (inr among)))
