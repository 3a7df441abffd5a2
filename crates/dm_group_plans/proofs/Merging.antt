-- The move of a chunk, where the greatest room is known.
use Rattle.std.proofs.Common.{◌≡◌, ℕ, ◌<◌, ◌^◌, Option, None, Some, List, [], ◌∷◌, true, refl, ap, ◌∙◌, arith}
use Rattle.dm_base.specs.declared.error.GroupError.TheVariants as error
use Rattle.dm_base.specs.declared.identifier.GroupId.{GroupId}
use Rattle.dm_base.specs.declared.serial.Vsn.{Vsn}
use Rattle.dm_durable.specs.Volumes.{LiveChunk, greatest_room, target_spaces}
use Rattle.dm_group_plans.specs.Found.{merge_to_having}
use Rattle.dm_model.specs.declared.answer.Answer.TheVariants as answer
use Rattle.dm_model.specs.declared.state.Group.{Group}
use Rattle.dm_model.specs.GroupCalls.{group_healing_plan, group_refusal, merge_to}
use Rattle.dm_model.specs.Volumes.{mount_refusal, usage_of}
use Rattle.dm_rules.specs.declared.space.Space.{Space}
use Rattle.dm_rules.specs.Numbers.{as_word}

-- the room of a volume is a number of 64 bits
pub having_is : (g : GroupId) (group : Group) (merged : List Vsn) (l : LiveChunk) (job from to : ℕ) (space : Option Space) (have : ℕ) → have < 2 ^ 64 → have ≡ greatest_room (target_spaces (usage_of group) merged group.tables.volumes) → merge_to_having g group l job from to space have ≡ merge_to g group merged l job from to space
having_is g group merged l job from to None have small is =
    ap (λ n. record (group_healing_plan g answer.Failed) { refusals = mount_refusal 1 group l.chunk.vsn.0 ∷ (true, group_refusal (error.NoRoom n l.chunk.len)) ∷ [] })
    ((let e : have ≡ as_word have = omega (arith, small) in e) ∙ ap as_word is)
having_is g group merged l job from to (Some s) have small is = refl
