use Rattle.std.proofs.Common.{ℕ, ◌+◌, List, ◌++◌, length, ap, ◌∙◌, arith}
use Rattle.dm_rules.specs.Zone.{chunk_front, chunk_sum, sum_text, zone_front}
use Rattle.dm_group_plans.proofs.Spelled.{no_bytes, one_zone}
use Rattle.dm_group_plans.proofs.zones.moved_zone.Goals as goal

pub returns-then-len-eq0 : goal.returns-then-len-eq0
returns-then-len-eq0 c =
    let m = c.args.moving.now in
    c.in_ok-put_front.ensures ∙ ap (λ xs. xs ++ zone_front c.args.epoch 0 32) c.new-zone.ensures.items
    ∙ no_bytes m.version c.args.epoch m.bfid.0 m.total m.from.offset c.args.bytes.now (omega arith)

pub returns : goal.returns
returns c =
    let m = c.args.moving.now in
    let bytes = c.args.bytes.now in
    let front = chunk_front m.bfid.0 m.from.offset (length bytes) m.total in
    let sum = sum_text (chunk_sum m.version bytes) in
    let head : ℕ → List ℕ = λ h. zone_front c.args.epoch 1 (32 + h + length bytes) in
    c.in_ok-extend_from_slice.ensures.items
    ∙ ap (λ xs. xs ++ bytes) (
    c.in_ok-put_sum.ensures
    ∙ ap (λ xs. xs ++ sum) (
    c.in_ok-put_chunk_front.ensures
    ∙ ap (λ xs. xs ++ front) (c.in_ok-put_front-2.ensures ∙ ap (λ xs. xs ++ head c.chunk_header.result) c.new-zone.ensures.items ∙ ap head c.chunk_header.ensures)
    )
    )
    ∙ one_zone m.version c.args.epoch m.bfid.0 m.total m.from.offset bytes (omega arith)
