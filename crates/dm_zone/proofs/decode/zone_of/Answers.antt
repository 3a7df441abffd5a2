use Rattle.std.proofs.Common.{arith}
use Rattle.dm_zone.proofs.Chunks.{wrong_in_chunk, wrong_length, left_over, is_spelled}
use Rattle.dm_zone.proofs.decode.zone_of.Goals as goal

pub returns-in-Err : goal.returns-in-Err
returns-in-Err c =
    wrong_in_chunk c.args.version c.args.bytes.now _ _ _ c.in-Err.place (λ i. omega (arith, c.type_inv.bytes i)) c.in_ok-header.ensures.0 c.in_ok-header.ensures.1 c.in-Err.ensures

pub returns-then-header-end : goal.returns-then-header-end
returns-then-header-end c =
    let to = c.in-Ok.ensures in
    wrong_length c.args.version c.args.bytes.now to.rest _ _ _ _ _ (λ i. omega (arith, c.type_inv.bytes i)) c.in_ok-header.ensures.0 c.in_ok-header.ensures.1 to.read c.if-header-end.true

pub returns-then-end-bytes : goal.returns-then-end-bytes
returns-then-end-bytes c =
    let to = c.in-Ok.ensures in
    left_over c.args.version c.args.bytes.now to.rest _ _ _ _ _ (λ i. omega (arith, c.type_inv.bytes i)) c.in_ok-header.ensures.0 c.in_ok-header.ensures.1 to.read c.if-header-end.false (omega (arith, to.left))

pub returns : goal.returns
returns c =
    is_spelled c.args.version c.args.bytes.now _ _ _ _ (λ i. omega (arith, c.type_inv.bytes i)) c.in_ok-header.ensures.0 c.in_ok-header.ensures.1 c.in-Ok.ensures c.if-header-end.false (omega arith)
