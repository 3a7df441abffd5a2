use Rattle.std.proofs.Common.{◌≡◌, ℕ, ◌+◌, ap, ◌∙◌, arith}
use Rattle.std.specs.FinMap as map
use Rattle.dm_rules.specs.Known.{known_without_range}
use Rattle.dm_joint_effects.proofs.Places.{forgotten_begin, forgotten_on}
use Rattle.dm_joint_effects.proofs.images.forget.Goals as goal

pub loop-offset-init : goal.loop-offset-init
loop-offset-init c = forgotten_begin c.args.place _

pub loop-offset-preserved : goal.loop-offset-preserved
loop-offset-preserved c =
    forgotten_on c.args.place c.loop-offset.offset _ c.loop-offset.known c.remove.new.self c.loop-offset.invariant
    (c.remove.ensures.removed ∙ ap (λ (p : ℕ). map.remove c.loop-offset.known (p + c.loop-offset.offset)) c.from.ensures)

pub returns : goal.returns
returns c =
    let whole : c.loop-offset.offset ≡ c.args.count = omega arith in
    c.loop-offset.invariant ∙ ap (λ (n : ℕ). known_without_range c.args.place n c.args.known.now) whole
