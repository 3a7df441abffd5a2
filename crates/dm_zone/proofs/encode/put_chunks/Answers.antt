use Rattle.std.proofs.Common.{◌+◌, ◌-◌, ◌∙◌, ap, take, drop, arith}
use Rattle.std.proofs.lemmas.List.{take_min, drop_min}
use Rattle.dm_zone.proofs.Cuts.{cut_step, cut_none}
use Rattle.dm_zone.proofs.encode.put_chunks.Goals as goal

pub loop-preserved : goal.loop-preserved
loop-preserved c =
    let rest = c.loop.rest.now in
    record {
      told = cut_step c.args.version c.loop.out.items c.put_chunk.new.out.items c.split_at.result.0.now c.split_at.result.1.now c.loop.rest.now _ c.args.bfid.0 c.args.total c.loop.place c.args.chunk (c.args.count - c.loop.counter) (c.args.count - (c.loop.counter + 1)) (omega arith) (c.split_at.ensures.front ∙ ap (λ n. take n rest) c.min.ensures ∙ take_min c.args.chunk rest) (c.split_at.ensures.back ∙ ap (λ n. drop n rest) c.min.ensures ∙ drop_min c.args.chunk rest) c.in_ok-put_chunk.ensures c.loop.invariant.told;
      within = omega arith;
    }

pub returns : goal.returns
returns c = cut_none c.args.version c.loop.out.items c.loop.rest.now _ c.args.bfid.0 c.args.total c.loop.place c.args.chunk (c.args.count - c.loop.counter) (omega arith) c.loop.invariant.told
