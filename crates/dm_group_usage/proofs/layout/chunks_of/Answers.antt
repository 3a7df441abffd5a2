use Rattle.std.proofs.Common.{arith, ap, refl, ◌-◌, ◌+◌, ◌∙◌}
use Rattle.dm_group_usage.proofs.Layouts.{cut_begin, cut_on, cut_end}
use Rattle.dm_group_usage.proofs.layout.chunks_of.Goals as goal

pub loop-init : goal.loop-init
loop-init c = cut_begin c.new-chunks.result.items c.args.chunk c.chunk_count-end.result c.args.piece (c.args.piece.zone + 32) c.new-chunks.ensures.items c.chunk_count-end.ensures refl c.requires

pub loop-preserved : goal.loop-preserved
loop-preserved c =
    let end = c.chunk_count-end.result in
    let header = c.chunk_header-header.result in
    let taken = c.min-taken.result in
    cut_on c.loop.chunks.items c.push.new.self.items c.args.chunk (end - c.loop.counter) (end - (c.loop.counter + 1)) c.args.piece c.loop.offset c.loop.left c.loop.place (c.loop.place + header) (c.loop.offset + taken) (c.loop.place + header + taken) taken
    (omega arith) c.min-taken.ensures (ap (λ h. c.loop.place + h) c.chunk_header-header.ensures) refl refl c.in_ok-push.ensures.items c.loop.invariant

pub returns : goal.returns
returns c = cut_end c.loop.chunks.items c.args.chunk (c.chunk_count-end.result - c.loop.counter) c.args.piece c.loop.offset c.loop.left c.loop.place (omega arith) c.loop.invariant
