use Rattle.std.proofs.Common.{ℕ, List, ◌++◌, ap, ◌∙◌, cond, drop, get_or, length, sym}
use Rattle.std.proofs.lemmas.List.{drop_all}
use Rattle.dm_base.specs.declared.volume.Chunk.{Chunk}
use Rattle.dm_model.specs.GroupCalls.{with_sums}
use Rattle.dm_rules.specs.Version.{has_sum}
use Rattle.dm_group_usage.proofs.Lists.{drop_next, no_piece}
use Rattle.dm_group_plans.proofs.Written.{summed_on, summed_end}
use Rattle.dm_group_plans.proofs.commits.summed_chunks.Goals as goal

pub loop-piece-preserved : goal.loop-piece-preserved
loop-piece-preserved c =
    let i = c.loop-piece.piece-index in
    let p = get_or c.args.pieces.now i no_piece in
    let left = c.loop-piece.left.now in
    summed_on c.args.chunk c.loop-piece.chunks.items c.put_piece.new.out.items c.in_ok-own.own.items _ _ p left c.sums_left-left.result.now _ (drop_next c.args.pieces.now i no_piece c.loop-piece-test.true)
    c.in_ok-own.ensures
    (c.sums_left-left.ensures ∙ ap (λ (n : ℕ). cond (has_sum p.version) (drop n left) left) (c.len.ensures ∙ sym c.as_slice.ensures.len ∙ ap length c.as_slice.ensures.value))
    (c.in_ok-put_piece.ensures ∙ ap (λ (cs : List Chunk). c.loop-piece.chunks.items ++ cond (has_sum p.version) (with_sums cs left) cs) c.as_slice.ensures.value)
    c.loop-piece.invariant

pub returns : goal.returns
returns c = c.from_vec.ensures ∙ summed_end c.args.chunk c.loop-piece.chunks.items _ c.loop-piece.left.now _ (drop_all c.loop-piece.piece-index c.args.pieces.now c.loop-piece-test.false) c.loop-piece.invariant
