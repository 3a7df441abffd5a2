use Rattle.std.proofs.Common.{List, [], ◌∷◌, ◌++◌, ℕ, ap, ◌∙◌}
use Rattle.std.proofs.lemmas.List.{drop_all}
use Rattle.dm_base.specs.declared.volume.Chunk.{Chunk}
use Rattle.dm_model.specs.GroupCalls.{part_of}
use Rattle.sha2.specs.Sha256.{sha256}
use Rattle.dm_group_usage.proofs.Lists.{drop_next, no_chunk}
use Rattle.dm_group_plans.proofs.Written.{mapped_on, mapped_end}
use Rattle.dm_group_plans.proofs.commits.sums_of.Goals as goal

abbrev sum : List ℕ → Chunk → List ℕ
sum bytes c = sha256 (part_of bytes c.offset c.len)

pub loop-chunk-preserved : goal.loop-chunk-preserved
loop-chunk-preserved c = mapped_on (sum c.args.bytes.now) c.loop-chunk.sums.items c.push.new.self.items _ _ _ _ (drop_next c.args.chunks.now c.loop-chunk.chunk-index no_chunk c.loop-chunk-test.true) (c.in_ok-push.ensures.items ∙ ap (λ s. c.loop-chunk.sums.items ++ (s ∷ [])) c.sum_at.ensures) c.loop-chunk.invariant

pub returns : goal.returns
returns c = mapped_end (sum c.args.bytes.now) c.loop-chunk.sums.items _ _ (drop_all c.loop-chunk.chunk-index c.args.chunks.now c.loop-chunk-test.false) c.loop-chunk.invariant
