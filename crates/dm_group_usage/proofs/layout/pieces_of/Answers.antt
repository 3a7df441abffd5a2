use Rattle.std.proofs.Common.{drop, arith, get_or, ◌+◌, ◌∙◌, []}
use Rattle.std.proofs.lemmas.List.{drop_all}
use Rattle.dm_rules.specs.declared.space.Space.{Space}
use Rattle.dm_group_usage.proofs.Lists.{drop_next}
use Rattle.dm_group_usage.proofs.Layouts.{placed_begin, placed_none, placed_some, placed_end}
use Rattle.dm_group_usage.proofs.layout.pieces_of.Goals as goal
use Rattle.dm_group_usage.proofs.layout.pieces_of.Goals.{then-taken-gt0+in_ok-push, else-taken-gt0}

pub loop-space-init : goal.loop-space-init
loop-space-init c = placed_begin c.new-pieces.result.items c.args.spaces.now c.args.len c.new-pieces.ensures.items

pub loop-space-preserved : goal.loop-space-preserved
loop-space-preserved c =
    let spaces = c.args.spaces.now in
    let i = c.loop-space.space-index in
    let d : Space = record { vsn = record { 0 = [] }; version = 0; tip = 0; room = 0 } in
    let next = drop_next spaces i d c.loop-space-test.true in
    elim c.if-taken-gt0.branch [
      | then-taken-gt0+in_ok-push w ↦ rw (w.pieces-is, w.offset-is, w.left-is) (placed_some c.loop-space.pieces.items w.push.new.self.items (drop i spaces) (drop (i + 1) spaces) spaces (get_or spaces i d) c.loop-space.offset c.loop-space.left c.args.len c.min-taken.result next c.min-taken.ensures (omega arith) w.in_ok-push.ensures.items c.loop-space.invariant)
      | else-taken-gt0 w ↦ rw (w.pieces-is, w.offset-is, w.left-is) (placed_none c.loop-space.pieces.items (drop i spaces) (drop (i + 1) spaces) spaces (get_or spaces i d) c.loop-space.offset c.loop-space.left c.args.len c.min-taken.result next c.min-taken.ensures (omega arith) c.loop-space.invariant)
    ]

pub returns : goal.returns
returns c = c.from_vec.ensures ∙ placed_end c.loop-space.pieces.items (drop c.loop-space.space-index c.args.spaces.now) c.args.spaces.now c.loop-space.offset c.loop-space.left c.args.len (drop_all c.loop-space.space-index c.args.spaces.now c.loop-space-test.false) c.loop-space.invariant
