use Rattle.std.proofs.Common.{◌≡◌, ◌+◌, ◌-◌, ◌<◌, ◌≤◌, ℕ, ◌++◌, ◌∷◌, length, replicate, None, Some, sym, subst, arith}
use Rattle.dm_base.specs.declared.command.Command.{Command}
use Rattle.dm_proto.specs.Holding.{IsStep}
use Rattle.dm_proto.specs.declared.heard.Heard.TheVariants as heard
use Rattle.dm_proto.proofs.Steps.{skipped_part, skipped_whole}
use Rattle.dm_proto.proofs.step.hear_skipped.Goals as goal

pub returns-then-taken-left-clause-heard : goal.returns-then-taken-left-clause-heard
returns-then-taken-left-clause-heard c =
    let bytes = c.args.bytes.now in
    let after : ℕ = c.args.left - length bytes in
    let rest : after + length bytes ≡ c.args.left = omega (arith, c.if-taken-left.true) in
    let some : 0 < after = omega (arith, c.if-taken-left.true) in
    skipped_part c.args.line.now.items bytes c.args.opening c.args.left after c.requires rest some

pub returns-clause-heard : goal.returns-clause-heard
returns-clause-heard c =
    let text = c.args.line.now.items in
    let o = c.args.opening in
    let bytes = c.args.bytes.now in
    let new = c.clear.new.self.items in
    let fits : c.args.left ≤ length bytes = omega (arith, c.if-taken-left.false) in
    subst (λ (x : Command). IsStep (text ++ 10 ∷ replicate (o.size - c.args.left) 0) bytes new (record { taken = c.args.left; payload = None; ready = Some (heard.Command x) })) (sym c.long.ensures)
    (skipped_whole text bytes new o c.args.left c.requires fits c.clear.ensures.items)
