use Rattle.std.proofs.Common.{ℕ, ◌+◌, ◌-◌, get_or, refl, ap, ◌∙◌, arith}
use Rattle.std.specs.FinMap as map
use Rattle.dm_joint_effects.proofs.Places.{written_begin, written_on, written_end}
use Rattle.dm_joint_effects.proofs.images.know.Goals as goal

pub loop-left-init : goal.loop-left-init
loop-left-init c = (omega arith, written_begin c.args.place c.args.bytes.now _)

pub loop-left-preserved : goal.loop-left-preserved
loop-left-preserved c =
    let so_far = c.loop-left.invariant in
    let i : ℕ = c.loop-left.left - 1 in
    let b : ℕ = get_or c.args.bytes.now (c.loop-left.left - 1) 0 in
    let within = so_far.0 in (
      omega arith,
      written_on c.args.place (c.loop-left.left - 1) c.loop-left.left b c.args.bytes.now _ c.loop-left.known c.insert.new.self (omega arith) (omega arith) refl so_far.1
          (c.in_ok-insert.ensures.ok ∙ ap (λ (p : ℕ). map.insert c.loop-left.known (p + (c.loop-left.left - 1)) b) c.from.ensures),
    )

pub returns : goal.returns
returns c = written_end c.args.place c.loop-left.left c.args.bytes.now _ c.loop-left.known (omega arith) c.loop-left.invariant.1
