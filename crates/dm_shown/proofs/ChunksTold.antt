-- A read of a chunk gives its part of the content, or bytes that haven't its sum.
use Rattle.std.proofs.Common.{◌≡◌, ◌⊎◌, ℕ, Bool, true, false, Option, None, Some, List, [], ◌∷◌, refl, subst, inl, inr}
use Rattle.std.specs.FinMap as map
use Rattle.dm_base.specs.declared.identifier.Bfid.{Bfid}
use Rattle.dm_base.specs.declared.serial.Vsn.{Vsn}
use Rattle.dm_base.specs.declared.volume.Chunk.{Chunk}
use Rattle.dm_tables.proofs.Orders.{paths, same_or}
use Rattle.dm_model.specs.declared.answer.Answer.TheVariants as answer
use Rattle.dm_model.specs.declared.state.Joint.{Joint}
use Rattle.dm_model.specs.declared.state.MountState.{MountState}
use Rattle.dm_model.specs.declared.state.Origin.{Origin}
use Rattle.dm_model.specs.declared.state.Origin.TheVariants as origin
use Rattle.dm_model.specs.declared.state.Side.{Side}
use Rattle.dm_model.specs.GroupCalls.{part_of}
use Rattle.dm_model.specs.Hashed.{SumsTellApart}
use Rattle.dm_invariant.specs.Kept.{InvariantHolds}
use Rattle.dm_invariant.specs.Mounts.{MayRead}
use Rattle.dm_invariant.specs.Moves.{ReadPart}
use Rattle.dm_shown.specs.Reads.{ChunksTold, IsForChunk, OtherSum, ReadKnown}
use Rattle.dm_shown.proofs.ChunksRead.{ReadOf, known_of_read, read_of}
use Rattle.sha2.specs.Sha256.{sha256}

-- ---- a chunk that is read under a mount whose reads aren't bound has a sum

sum_of : (o : Option (List ℕ)) (bound : Bool) → (o ≡ None → bound ≡ true) → bound ≡ false → (sum : List ℕ) × (o ≡ Some sum)
sum_of None bound known free = let yes = known refl in absurd (cc)
sum_of (Some sum) bound known free = (sum, refl)

summed_of : (b : Bfid) (c : Chunk) (bound : Bool) (o : Origin) → IsForChunk b c o → MayRead o bound → bound ≡ false → (sum : List ℕ) × (c.sum ≡ Some sum)
summed_of b c bound (origin.New listed format) for may free = absurd for
summed_of b c bound (origin.Piece d index p chunk) for may free = absurd for
summed_of b c bound (origin.Chunk d e) for may free =
    subst (λ (x : Chunk). (sum : List ℕ) × (x.sum ≡ Some sum)) for.1 (sum_of e.sum bound may.known free)
summed_of b c bound (origin.Source job d e) for may free =
    subst (λ (x : Chunk). (sum : List ℕ) × (x.sum ≡ Some sum)) for.1 (sum_of e.sum bound may.known free)
summed_of b c bound (origin.Target job d total e version) for may free = absurd for
summed_of b c bound (origin.Reuse next_epoch version reading) for may free = absurd for

module _ (j : Joint) (kept : InvariantHolds j) (g : ℕ) (s : Side) (side : map.get j.sides g ≡ Some s) where
  told_of : (b : ℕ) (c : Chunk) (x : MountState) (bytes : List ℕ) (k : ReadKnown j.history.contents b c x bytes)
      → (x.bound ≡ false → (sum : List ℕ) × (c.sum ≡ Some sum)) → SumsTellApart (bytes ∷ part_of k.whole c.offset c.len ∷ [])
      → (y : Bool) → x.bound ≡ y → ReadPart j.history.contents b c bytes ⊎ OtherSum c bytes
  told_of b c x bytes k has apart true is = inl (record { whole = k.whole; content = k.content; len = k.len; part = k.bound is })
  told_of b c x bytes k has apart false is =
      let sum = has is in
      elim (same_or paths sum.0 (sha256 bytes)) [
        | inl same ↦ inl (record { whole = k.whole; content = k.content; len = k.len; part = k.summed sum.0 sum.1 same apart })
        | inr differ ↦ inr (sum.0, sum.1, differ)
      ]

  pub read_told : (m : ℕ) (x : MountState) (vsn : Vsn) (b : Bfid) (c : Chunk) (bytes : List ℕ) → map.get s.mounts m ≡ Some x
      → IsForChunk b c x.origin → ReadOf s x vsn c.place c.len bytes
      → ((whole : List ℕ) → map.get j.history.contents b.0 ≡ Some whole → SumsTellApart (bytes ∷ part_of whole c.offset c.len ∷ []))
      → ReadPart j.history.contents b.0 c bytes ⊎ OtherSum c bytes
  read_told m x vsn b c bytes is for read apart =
      let k = known_of_read j kept g s side m x vsn b c bytes is for read in
      told_of b.0 c x bytes k (summed_of b c x.bound x.origin for ((kept.sides g s side).mounts.reads m x is)) (apart k.whole k.content) x.bound refl

pub chunks_told : (j : Joint) → InvariantHolds j → ChunksTold j
chunks_told j kept = λ w m g vsn b c bytes s x later side mount for is apart.
    read_told j kept g.0 s side m x vsn b c bytes mount for
    (read_of j w g vsn s x m c.place c.len bytes later (answer.ChunkRead bytes) side mount is) apart
