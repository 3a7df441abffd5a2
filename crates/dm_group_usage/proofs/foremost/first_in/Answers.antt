use Rattle.std.proofs.Common.{refl, ap, sym, ◌∙◌, drop}
use Rattle.std.proofs.lemmas.List.{drop_all}
use Rattle.dm_group_usage.proofs.Lists.{drop_next_of, no_chunk}
use Rattle.dm_group_usage.proofs.Nearest.{near_on, near_end}
use Rattle.dm_group_usage.proofs.foremost.first_in.Goals as goal

pub loop-chunk-init : goal.loop-chunk-init
loop-chunk-init c = refl

pub loop-chunk-preserved : goal.loop-chunk-preserved
loop-chunk-preserved c = near_on c.args.number c.args.row.now c.args.vsn.0 _ _ _ _ _ _ (drop_next_of c.as_slice-chunk-items.result.now c.args.row.now.chunks c.loop-chunk.chunk-index no_chunk c.as_slice-chunk-items.ensures c.loop-chunk-test.true) c.with_chunk-first.ensures c.loop-chunk.invariant

pub returns : goal.returns
returns c = near_end c.args.number c.args.row.now c.args.vsn.0 _ _ _ (ap (drop c.loop-chunk.chunk-index) (sym c.as_slice-chunk-items.ensures) ∙ drop_all c.loop-chunk.chunk-index c.as_slice-chunk-items.result.now c.loop-chunk-test.false) c.loop-chunk.invariant
