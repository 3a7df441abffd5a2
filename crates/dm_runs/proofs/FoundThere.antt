-- What the calls of groups find, where the invariant holds.
use Rattle.std.proofs.Common.{◌≡◌, ◌⊎◌, ◌<◌, ◌+◌, ℕ, true, false, cond, nat_eq, Option, None, Some, IsSome, List, [], ◌∷◌, refl, sym, ap, subst, ◌∙◌, inl, inr, arith}
use Rattle.std.specs.FinMap as map
use Rattle.std.proofs.lemmas.Bool.{and_parts, eqb-true, eq-eqb}
use Rattle.dm_base.specs.declared.identifier.Bfid.{Bfid}
use Rattle.dm_base.specs.declared.identifier.GroupId.{GroupId}
use Rattle.dm_base.specs.declared.volume.Chunk.{Chunk}
use Rattle.dm_tables.proofs.Any.{any-true}
use Rattle.dm_durable.specs.Group.{chunk_at}
use Rattle.dm_durable.specs.GroupConditions.{Joins}
use Rattle.dm_model.specs.declared.state.CopyState.{CopyState}
use Rattle.dm_model.specs.declared.state.Joint.{Joint}
use Rattle.dm_model.specs.declared.state.Recall.{Recall}
use Rattle.dm_model.specs.declared.state.Side.{Side}
use Rattle.dm_model.specs.declared.state.Worker.{Worker}
use Rattle.dm_model.specs.Files.{asked_by}
use Rattle.dm_model.specs.GroupCalls.{is_recall_from, may_reserve, recalls_from}
use Rattle.dm_invariant.specs.Among.{IsAmong}
use Rattle.dm_invariant.specs.Kept.{InvariantHolds}
use Rattle.dm_invariant.proofs.AskedGroups.{NumberAmong, asked_stored}
use Rattle.dm_invariant.proofs.Lists.{passing}
use Rattle.dm_invariant.proofs.Options.{has_value}
use Rattle.dm_runs.specs.There.{AskedEntry, ChunksFollow, CopiesOpen, MountedWhole, NumbersNew, ReservedAsked}

-- ---- room

copy_asked : (j : Joint) (g b len : ℕ) (s : Side) (o : Option CopyState) → InvariantHolds j → map.get j.sides g ≡ Some s → map.get s.copies b ≡ o
    → may_reserve o len ≡ true → AskedEntry j g b len
copy_asked j g b len s None k side is may = absurd (cc)
copy_asked j g b len s (Some c) k side is may =
    let copy = (k.sides g s side).reservations.copy b c is in
    record { entry = copy.of.entry; is = copy.of.is; asked = copy.of.asked; sized = copy.len ∙ eqb-true c.len len (and_parts (nat_eq c.len len) _ may).0 }

pub reserved_asked : (j : Joint) → InvariantHolds j → ReservedAsked j
reserved_asked j kept g b len s side may = copy_asked j g b len s (map.get s.copies b) kept side refl may

-- ---- chunks to mount

-- the recall of the bitfile that asks the group
record RecallFrom (b g : ℕ) (o : Option Worker) : Type 0 where
  worker : Worker
  is : o ≡ Some worker
  number : ℕ
  recall : Recall
  there : map.get worker.recalls number ≡ Some recall
  from : is_recall_from b g recall ≡ true

recall_from : (b g : ℕ) (o : Option Worker) → recalls_from b g o ≡ true → RecallFrom b g o
recall_from b g None recalls = absurd (cc)
recall_from b g (Some x) recalls =
    let r = any-true (λ k r. is_recall_from b g r) x.recalls recalls in
    record { worker = x; is = refl; number = r.0; recall = r.1; there = r.2; from = r.3 }

pub mounted_whole : (j : Joint) → InvariantHolds j → MountedWhole j
mounted_whole j kept w g b s side recalls =
    let r = recall_from b g (map.get j.workers w) recalls in
    let from = and_parts (nat_eq r.recall.bfid.0 b) _ r.from in
    let same : r.recall.bfid.0 ≡ b = eqb-true r.recall.bfid.0 b from.0 in
    let k = kept.recalls.kept w r.worker r.is r.number r.recall r.there in
    let e = kept.requests.entry r.number k.request k.is in
    let bfid : k.request.bfid.0 ≡ b = ap (λ (x : Bfid). x.0) k.same ∙ same in
    let is : map.get j.daemon.tables.entries b ≡ Some e.entry = ap (map.get j.daemon.tables.entries) (sym bfid) ∙ e.is in
    let h = passing (λ (h : GroupId). nat_eq h.0 g) r.recall.asked from.1 in
    let asked : r.recall.asked ≡ asked_by (Some e.entry) =
    k.asked ∙ ap (λ q. asked_by (map.get j.daemon.tables.entries q)) same ∙ ap asked_by is in
    let group : NumberAmong g (asked_by (Some e.entry)) =
    record { group = h.0; among = subst (λ gs. IsAmong h.0 gs) asked h.1; same = eqb-true h.0.0 g h.2 } in
    let whole = e.whole k.kind in
    record {
      entry = e.entry;
      is = is;
      lasting = e.lasting;
      whole = whole;
      there = (kept.sides g s side).catalogue.stored b e.entry is e.lasting (asked_stored e.entry g group whole);
    }

-- ---- chunks that follow one another

first_there : (from to : ℕ) (cs : List Chunk) → Joins from cs to → (from ≡ to) ⊎ IsSome (chunk_at from cs)
first_there from to [] joins = inl joins
first_there from to (c ∷ cs) joins =
    inr (has_value (chunk_at from (c ∷ cs)) c (ap (λ v. cond v (Some c) (chunk_at from cs)) (eq-eqb c.offset from joins.0)))

-- a chunk that begins further on is found behind the first one
later_there : (c : Chunk) (cs : List Chunk) (offset : ℕ) → (c.offset ≡ offset → ⊥) → IsSome (chunk_at offset cs) → IsSome (chunk_at offset (c ∷ cs))
later_there c cs offset differ there =
    elim (nat_eq c.offset offset) as (λ v. nat_eq c.offset offset ≡ v → IsSome (cond v (Some c) (chunk_at offset cs))) [
      | true ↦ λ e. absurd (differ (eqb-true c.offset offset e))
      | false ↦ λ e. there
    ] refl

chunk_follows : (from to : ℕ) (cs : List Chunk) (c : Chunk) → Joins from cs to → IsAmong c cs
    → (from < c.offset + c.len) × ((c.offset + c.len ≡ to) ⊎ IsSome (chunk_at (c.offset + c.len) cs))
chunk_follows from to [] c joins among = absurd among
chunk_follows from to (d ∷ ds) c joins (inl same) =
    let at = joins.0 in
    let some = joins.1 in
    let here : (from < d.offset + d.len) × ((d.offset + d.len ≡ to) ⊎ IsSome (chunk_at (d.offset + d.len) (d ∷ ds))) = (
      omega (arith, at, some),
      elim (first_there (from + d.len) to ds joins.2) [
        | inl end ↦ inl (ap (λ n. n + d.len) at ∙ end)
        | inr there ↦
            inr (later_there d ds (d.offset + d.len) (λ e. omega (arith, e, some))
            (subst (λ n. IsSome (chunk_at n ds)) (ap (λ n. n + d.len) (sym at)) there))
      ],
    ) in
    subst (λ (x : Chunk). (from < x.offset + x.len) × ((x.offset + x.len ≡ to) ⊎ IsSome (chunk_at (x.offset + x.len) (d ∷ ds)))) (sym same) here
chunk_follows from to (d ∷ ds) c joins (inr later) =
    let at = joins.0 in
    let rest = chunk_follows (from + d.len) to ds c joins.2 later in
    let on = rest.0 in (
      omega (arith, on),
      elim rest.1 [
        | inl end ↦ inl end
        | inr there ↦ inr (later_there d ds (c.offset + c.len) (λ e. omega (arith, e, at, on)) there)
      ],
    )

pub chunks_follow : (j : Joint) → InvariantHolds j → ChunksFollow j
chunks_follow j kept g b s row c side is among =
    (chunk_follows 0 row.len row.chunks c ((kept.sides g s side).catalogue.bitfile b row is).joins among).1

-- ---- copies and numbers

pub copies_open : (j : Joint) → InvariantHolds j → CopiesOpen j
copies_open j kept = λ g s side b c is.
    let k = (kept.sides g s side).reservations.copy b c is in
    record { put = k.put; reservation = k.reservation }

pub numbers_new : (j : Joint) → InvariantHolds j → NumbersNew j
numbers_new j kept = record {
  requests = kept.requests.numbers;
  reservations = λ g s side. (kept.sides g s side).reservations.numbers;
  mounts = λ g s side. (kept.sides g s side).mounts.numbers;
  moves = λ g s side. (kept.sides g s side).moves.numbers;
}
