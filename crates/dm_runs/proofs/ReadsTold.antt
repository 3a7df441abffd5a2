-- A read of a chunk, after a run whose sums tell byte lists apart, gives the chunk's part of the content or bytes without its sum.
use Rattle.std.proofs.Common.{◌≡◌, ◌⊎◌, ℕ, Bool, true, Option, None, Some, IsSome, is_some, List, [], ◌∷◌, ◌++◌, Contains, refl, sym, ap, subst, ◌∙◌, inl, inr}
use Rattle.std.specs.FinMap as map
use Rattle.std.proofs.lemmas.Bool.{and_from, eq-eqb}
use Rattle.std.proofs.lemmas.List.Elements.{Contains-append_cases, Contains-append_left, Contains-append_right}
use Rattle.dm_base.specs.declared.identifier.Bfid.{Bfid}
use Rattle.dm_base.specs.declared.volume.Chunk.{Chunk}
use Rattle.dm_durable.specs.Tables.{ByNumber}
use Rattle.dm_model.specs.declared.call.VolumeCall.TheVariants as volume_call
use Rattle.dm_model.specs.declared.state.Joint.{Joint}
use Rattle.dm_model.specs.declared.state.Origin.{Origin}
use Rattle.dm_model.specs.declared.state.Origin.TheVariants as origin
use Rattle.dm_model.specs.GroupCalls.{part_of}
use Rattle.dm_model.specs.Hashed.{SumsTellApart, hashed_in_run, hashed_by_event, hashed_by_volume, hashed_of_chunk, hashed_of_read, hashed_under, parts_stored}
use Rattle.dm_model.specs.Step.{RunEntry, Run, state_after, step}
use Rattle.dm_invariant.specs.Kept.{InvariantHolds}
use Rattle.dm_invariant.specs.Mounts.{MayRead}
use Rattle.dm_invariant.specs.Moves.{ReadPart}
use Rattle.dm_invariant.specs.Opened.{Opened}
use Rattle.dm_invariant.proofs.Options.{same_row}
use Rattle.dm_shown.specs.Reads.{IsForChunk, OtherSum}
use Rattle.dm_shown.proofs.ChunksRead.{chunks_right}
use Rattle.dm_shown.proofs.ChunksTold.{chunks_told}
use Rattle.dm_stops.proofs.OpenedKept.{opened_kept}
use Rattle.dm_runs.specs.Reads.{ChunksReadRight, read_entry}
use Rattle.dm_runs.proofs.Contained.{contains_first, contains_if}
use Rattle.dm_runs.proofs.EventsKept.{event_keeps}
use Rattle.dm_runs.proofs.Runs.{Along, EachKeeps, run_keeps}
use Rattle.dm_runs.proofs.SummedEvents.{HashesIn, Summed, event_in}
use Rattle.dm_runs.proofs.SummedSides.{OriginIn, PartIn}
use Rattle.dm_runs.proofs.SumsTell.{event_tells, more_lists, one_is, opened_in, tell_fewer}

-- ---- the invariant, and the parts, along a run

abbrev Both : List (List ℕ) → Joint → Type 0
Both lists j = InvariantHolds j × Summed lists j

both_keep : (lists : List (List ℕ)) → SumsTellApart lists → EachKeeps (HashesIn lists) (Both lists)
both_keep lists apart j k w e a hashes both is = (
  event_keeps j k w e a (event_tells lists apart j both.1 e hashes) both.0 is,
  event_in lists j both.0 both.1 w e k a hashes is,
)

-- what the entries of a run hash, with what comes after them
hashes_along : (lists : List (List ℕ)) (j : Joint) (entries more : List RunEntry)
    → ((x : List ℕ) → Contains (hashed_in_run j (entries ++ more)) x → Contains lists x) → Along (HashesIn lists) j entries
hashes_along lists j [] more hashes = tt
hashes_along lists j (e ∷ es) more hashes = (
  λ x has. hashes x (Contains-append_left (hashed_by_event j e.event) _ x has),
  hashes_along lists (state_after j (step j e.worker e.event)) es more (λ x has. hashes x (Contains-append_right (hashed_by_event j e.event) _ x has)),
)

-- what the entry behind them hashes
last_hashes : (j : Joint) (entries : List RunEntry) (k : Joint) (e : RunEntry) → Run j entries k → (x : List ℕ) → Contains (hashed_by_event k e.event) x
    → Contains (hashed_in_run j (entries ++ e ∷ [])) x
last_hashes j [] k e run x has =
    Contains-append_left (hashed_by_event j e.event) _ x (subst (λ i. Contains (hashed_by_event i e.event) x) (sym run) has)
last_hashes j (d ∷ ds) k e run x has =
    Contains-append_right (hashed_by_event j d.event) _ x
    (subst (λ o. Contains (hashed_in_run (state_after j o) (ds ++ e ∷ [])) x) (sym run.1) (last_hashes run.0 ds k e run.2 x has))

-- ---- one read

-- the part of the chunk that a mount is for
part_for : (lists : List (List ℕ)) (contents : ByNumber (List ℕ)) (b : Bfid) (c : Chunk) (o : Origin) → IsForChunk b c o → OriginIn lists contents o
    → PartIn lists contents b.0 c
part_for lists contents b c (origin.New listed format) is part = absurd is
part_for lists contents b c (origin.Piece d index p chunk) is part = absurd is
part_for lists contents b c (origin.Chunk d e) is part =
    subst (λ (y : Bfid). PartIn lists contents y.0 c) is.0 (subst (λ (y : Chunk). PartIn lists contents d.0 y) is.1 part)
part_for lists contents b c (origin.Source job d e) is part =
    subst (λ (y : Bfid). PartIn lists contents y.0 c) is.0 (subst (λ (y : Chunk). PartIn lists contents d.0 y) is.1 part)
part_for lists contents b c (origin.Target job d total e version) is part = absurd is
part_for lists contents b c (origin.Reuse next_epoch version reading) is part = absurd is

-- where it has no sum, reads of the mount give what is known
bound_for : (b : Bfid) (c : Chunk) (o : Origin) (bound : Bool) → IsForChunk b c o → MayRead o bound → c.sum ≡ None → bound ≡ true
bound_for b c (origin.New listed format) bound is may none = absurd is
bound_for b c (origin.Piece d index p chunk) bound is may none = absurd is
bound_for b c (origin.Chunk d e) bound is may none = may.known (ap (λ (y : Chunk). y.sum) is.1 ∙ none)
bound_for b c (origin.Source job d e) bound is may none = may.known (ap (λ (y : Chunk). y.sum) is.1 ∙ none)
bound_for b c (origin.Target job d total e version) bound is may none = absurd is
bound_for b c (origin.Reuse next_epoch version reading) bound is may none = absurd is

-- its bytes are hashed where it has one
chunk_hashed : (c : Chunk) (bytes : List ℕ) → IsSome c.sum → Contains (hashed_of_chunk c c.place c.len bytes) bytes
chunk_hashed c bytes has =
    contains_if _ (bytes ∷ []) bytes (and_from _ _ (and_from _ _ (eq-eqb c.place c.place refl) (eq-eqb c.len c.len refl)) has) (contains_first bytes [])

hashed_for : (b : Bfid) (c : Chunk) (bytes : List ℕ) (o : Origin) → IsForChunk b c o → IsSome c.sum → Contains (hashed_of_read o c.place c.len bytes) bytes
hashed_for b c bytes (origin.New listed format) is has = absurd is
hashed_for b c bytes (origin.Piece d index p chunk) is has = absurd is
hashed_for b c bytes (origin.Chunk d e) is has =
    subst (λ (y : Chunk). Contains (hashed_of_chunk y c.place c.len bytes) bytes) (sym is.1) (chunk_hashed c bytes has)
hashed_for b c bytes (origin.Source job d e) is has =
    subst (λ (y : Chunk). Contains (hashed_of_chunk y c.place c.len bytes) bytes) (sym is.1) (chunk_hashed c bytes has)
hashed_for b c bytes (origin.Target job d total e version) is has = absurd is
hashed_for b c bytes (origin.Reuse next_epoch version reading) is has = absurd is

-- the bytes and the part are told apart
two_apart : (lists : List (List ℕ)) (bytes part : List ℕ) → SumsTellApart lists → Contains lists bytes → Contains lists part
    → SumsTellApart (bytes ∷ part ∷ [])
two_apart lists bytes part apart one two =
    tell_fewer lists (bytes ∷ part ∷ []) (λ x among.
    elim (Contains-append_cases (bytes ∷ []) (part ∷ []) x among) [
      | inl here ↦ subst (λ y. Contains lists y) (one_is bytes x here) one
      | inr there ↦ subst (λ y. Contains lists y) (one_is part x there) two
    ]) apart

pub chunks_read_right : (j : Joint) (entries : List RunEntry) (k : Joint) → Opened j → Run j entries k → ChunksReadRight j entries k
chunks_read_right j entries k opened run w m g vsn b c bytes s x after side mount for is apart =
    let e = read_entry w g vsn m c bytes in
    let lists = parts_stored j ++ hashed_in_run j (entries ++ e ∷ []) in
    let along = hashes_along lists j entries (e ∷ []) (λ y has. Contains-append_right (parts_stored j) _ y has) in
    let first = more_lists (parts_stored j) lists (λ y has. Contains-append_left (parts_stored j) _ y has) j (opened_in j opened) in
    let both = run_keeps (HashesIn lists) (Both lists) (both_keep lists apart) j entries k along (opened_kept j opened, first) run in
    at lists apart both (λ y has. Contains-append_right (parts_stored j) _ y (last_hashes j entries k e run y has)) c.sum refl
  where
    at : (lists : List (List ℕ)) → SumsTellApart lists → Both lists k
        → ((y : List ℕ) → Contains (hashed_by_event k (read_entry w g vsn m c bytes).event) y → Contains lists y)
        → (sum : Option (List ℕ)) → c.sum ≡ sum → ReadPart k.history.contents b.0 c bytes ⊎ OtherSum c bytes
    at lists apart both hashes None none =
        let known = chunks_right k both.0 w m g vsn b c bytes s x after side mount for is in
        let bound = bound_for b c x.origin x.bound for ((both.0.sides g.0 s side).mounts.reads m x mount) none in
        inl (record { whole = known.whole; content = known.content; len = known.len; part = known.bound bound })
    at lists apart both hashes (Some sum) some =
        let has : IsSome c.sum = ap is_some some in
        let p = part_for lists k.history.contents b c x.origin for ((both.1 g.0 s side).mounts m x mount) has in
        let read : Contains lists bytes = hashes bytes
        (subst (λ o. Contains (hashed_by_volume (volume_call.ReadChunk m c.place c.len bytes) o) bytes) (sym side)
        (subst (λ o. Contains (hashed_under o c.place c.len bytes) bytes) (sym mount) (hashed_for b c bytes x.origin for has))) in
        chunks_told k both.0 w m g vsn b c bytes s x after side mount for is
        (λ whole content.
        let same : p.bytes ≡ whole = same_row (map.get k.history.contents b.0) p.bytes whole p.content content in
        two_apart lists bytes (part_of whole c.offset c.len) apart read (subst (λ y. Contains lists (part_of y c.offset c.len)) same p.among))
