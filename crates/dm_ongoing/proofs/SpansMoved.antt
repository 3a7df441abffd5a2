-- A moved chunk has the span of the one that it is moved from.
use Rattle.std.proofs.Common.{◌≡◌, ℕ, ◌+◌, ◌≤◌, true, false, cond, nat_eq, List, [], ◌∷◌, Some, refl, sym, ap, ◌∙◌, inl, inr, arith}
use Rattle.std.specs.Prelude as prelude
use Rattle.std.proofs.lemmas.Bool.{eq-eqb, eqb-true}
use Rattle.dm_base.specs.declared.volume.Chunk.{Chunk}
use Rattle.dm_durable.specs.Group.{chunk_at, chunk_or_moved}
use Rattle.dm_durable.specs.GroupConditions.{Joins}
use Rattle.dm_invariant.specs.Among.{IsAmong}
use Rattle.dm_ongoing.specs.Spans.{span_of}

-- chunks that join from a place on begin there or behind it
begin_behind : (start end : ℕ) (cs : List Chunk) (c : Chunk) → Joins start cs end → IsAmong c cs → start ≤ c.offset
begin_behind start end [] c joins among = absurd among
begin_behind start end (d ∷ ds) c joins (inl same) =
    let at = joins.0 in
    let own : c.offset ≡ d.offset = ap (λ (x : Chunk). x.offset) same in
    omega (arith, at, own)
begin_behind start end (d ∷ ds) c joins (inr later) =
    let behind = begin_behind (start + d.len) end ds c joins.2 later in
    omega (arith, behind)

-- one of them is the one that is found where it begins
pub found_among : (start end : ℕ) (cs : List Chunk) (c x : Chunk) → Joins start cs end → IsAmong c cs → chunk_at c.offset cs ≡ Some x → c ≡ x
found_among start end [] c x joins among is = absurd among
found_among start end (d ∷ ds) c x joins among is =
    elim (nat_eq d.offset c.offset) as
    (λ v. nat_eq d.offset c.offset ≡ v → cond v (Some d) (chunk_at c.offset ds) ≡ Some x → c ≡ x) [
      | true ↦ λ e found. first among (eqb-true d.offset c.offset e) ∙ same_chunk found
      | false ↦ λ e found. later (λ behind. found_among (start + d.len) end ds c x joins.2 behind found) among e
    ] refl is
  where
    same_chunk : Some d ≡ Some x → d ≡ x
    same_chunk found = cc

    first : IsAmong c (d ∷ ds) → d.offset ≡ c.offset → c ≡ d
    first (inl same) equal = same
    first (inr behind) equal =
        let at = joins.0 in
        let some = joins.1 in
        let past = begin_behind (start + d.len) end ds c joins.2 behind in
        absurd (omega (arith, at, some, equal, past))

    later : (IsAmong c ds → c ≡ x) → IsAmong c (d ∷ ds) → nat_eq d.offset c.offset ≡ false → c ≡ x
    later rest (inl same) e = let f = eq-eqb d.offset c.offset (ap (λ (y : Chunk). y.offset) (sym same)) in absurd (cc)
    later rest (inr behind) e = rest behind

-- the span of a chunk, where it is moved or not
moved_span : (to c : Chunk) → (c.offset ≡ to.offset → c.len ≡ to.len) → span_of (chunk_or_moved to c) ≡ span_of c
moved_span to c alike =
    elim (nat_eq c.offset to.offset) as (λ v. nat_eq c.offset to.offset ≡ v → span_of (cond v to c) ≡ span_of c) [
      | true ↦ λ e.
          let same = eqb-true c.offset to.offset e in
          ap (λ (o : ℕ). (o, to.len)) (sym same) ∙ ap (λ (n : ℕ). (c.offset, n)) (sym (alike same))
      | false ↦ λ e. refl
    ] refl

each_span : (to : Chunk) (cs : List Chunk) → ((c : Chunk) → IsAmong c cs → c.offset ≡ to.offset → c.len ≡ to.len)
    → prelude.map span_of (prelude.map (chunk_or_moved to) cs) ≡ prelude.map span_of cs
each_span to [] alike = refl
each_span to (c ∷ cs) alike =
    ap (λ x. x ∷ prelude.map span_of (prelude.map (chunk_or_moved to) cs)) (moved_span to c (alike c (inl refl)))
    ∙ ap (λ xs. span_of c ∷ xs) (each_span to cs (λ d among. alike d (inr among)))

-- so the spans stay
pub spans_moved : (from to : Chunk) (end : ℕ) (cs : List Chunk) → Joins 0 cs end → chunk_at from.offset cs ≡ Some from → to.offset ≡ from.offset
    → to.len ≡ from.len → prelude.map span_of (prelude.map (chunk_or_moved to) cs) ≡ prelude.map span_of cs
spans_moved from to end cs joins is offset len =
    each_span to cs (λ c among same.
    let own : chunk_at c.offset cs ≡ Some from = ap (λ n. chunk_at n cs) (same ∙ offset) ∙ is in
    ap (λ (x : Chunk). x.len) (found_among 0 end cs c from joins among own) ∙ sym len)
