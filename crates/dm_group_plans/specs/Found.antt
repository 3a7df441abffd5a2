-- What code finds, as the definitions have it.
use Rattle.std.specs.Prelude.{ℕ, true, Option, None, Some, is_some, List, [], ◌∷◌}
use Rattle.dm_base.specs.declared.error.GroupError.TheVariants as error
use Rattle.dm_base.specs.declared.identifier.Bfid.{Bfid}
use Rattle.dm_base.specs.declared.identifier.GroupId.{GroupId}
use Rattle.dm_base.specs.declared.volume.Chunk.{Chunk}
use Rattle.dm_base.specs.declared.volume.Piece.{Piece}
use Rattle.dm_durable.specs.Volumes.{LiveChunk}
use Rattle.dm_model.specs.declared.answer.Answer.TheVariants as answer
use Rattle.dm_model.specs.declared.guard.Guard.TheVariants as guard
use Rattle.dm_model.specs.declared.plan.Opening.TheVariants as opening
use Rattle.dm_model.specs.declared.plan.Prepared.{Prepared}
use Rattle.dm_model.specs.declared.state.CopyState.{CopyState}
use Rattle.dm_model.specs.declared.state.Group.{Group}
use Rattle.dm_model.specs.declared.state.Reserved.{Reserved}
use Rattle.dm_model.specs.GroupCalls.{all_written, are_sums_of, group_healing_plan, group_refusal, is_unmounted, move_to, reservation_in}
use Rattle.dm_model.specs.Guards.{Guarded}
use Rattle.dm_model.specs.Plan.{Plan, prepared_plan}
use Rattle.dm_model.specs.Volumes.{mount_refusal}
use Rattle.dm_rules.specs.declared.space.Space.{Space}

-- the chunk with this sum, if there is one
abbrev pub with_sum : Chunk → Option (List ℕ) → Chunk
with_sum c None = c
with_sum c (Some s) = record c { sum = Some s }

-- the move of a chunk to this volume, if one has room, where the greatest room is this
abbrev pub merge_to_having : GroupId → Group → LiveChunk → ℕ → ℕ → ℕ → Option Space → ℕ → Plan
merge_to_having g group l job from to None have =
    record (group_healing_plan g answer.Failed) {
      refusals = mount_refusal 1 group l.chunk.vsn.0 ∷ (true, group_refusal (error.NoRoom have l.chunk.len)) ∷ [];
    }
merge_to_having g group l job from to (Some s) have =
    record (move_to g group l s job from to) { refusals = mount_refusal 1 group l.chunk.vsn.0 ∷ [] }

-- the reservation of these pieces that is made, and the answer that tells of it
abbrev pub reservation_of : GroupId → Group → Bfid → ℕ → ℕ → List Piece → Prepared
reservation_of g group b len n pieces =
    record (prepared_plan (group_healing_plan g (answer.Reserved n group.conf.chunk pieces))) {
      opens = opening.Reservation g n (record { bfid = b; len = len; chunk = group.conf.chunk; pieces = pieces });
    }

-- what a commit needs, given the bytes and the copy of its bitfile
abbrev pub commit_guards : ℕ → List (List ℕ) → Reserved → Option (List ℕ) → Option CopyState → List Guarded
commit_guards n sums r bytes copy =
    (is_some copy, guard.PiecesWritten)
    ∷ (is_unmounted n (reservation_in copy), guard.PiecesWritten)
    ∷ (all_written bytes r (reservation_in copy), guard.PiecesWritten)
    ∷ (are_sums_of bytes r sums, guard.PiecesWritten)
    ∷ []
