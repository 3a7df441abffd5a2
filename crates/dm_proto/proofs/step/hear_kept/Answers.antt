use Rattle.std.proofs.Common.{◌≡◌, ◌+◌, ◌-◌, ◌≤◌, ◌∙◌, ℕ, List, ◌++◌, ◌∷◌, length, take, None, Some, sym, ap, subst, arith}
use Rattle.dm_base.specs.declared.command.Command.{Command}
use Rattle.dm_proto.specs.Holding.{IsStep}
use Rattle.dm_proto.specs.declared.heard.Heard.TheVariants as heard
use Rattle.dm_proto.proofs.Steps.{kept_whole}
use Rattle.dm_proto.proofs.step.hear_kept.Goals as goal

pub returns-clause-heard : goal.returns-clause-heard
returns-clause-heard c =
    let text = c.args.line.now.items in
    let held = c.args.held in
    let o = c.args.opening in
    let bytes = c.args.bytes.now in
    let new = c.clear.new.self.items in
    let missing : ℕ = o.size - c.len.result in
    let is : c.from_vec.result ≡ held.items ++ take missing bytes =
    c.from_vec.ensures ∙ c.in_ok-extend_from_slice-2.ensures.items ∙ ap (λ (x : List ℕ). held.items ++ x) c.split_at.ensures.front
    in
    let whole : length held.items + missing ≡ o.size = omega (arith, c.len.ensures, c.requires.missing.1) in
    let fits : missing ≤ length bytes = omega (arith, c.if-bytes-missing.false) in
    subst (λ (x : Command). IsStep (text ++ 10 ∷ held.items) bytes new (record { taken = missing; payload = None; ready = Some (heard.Command x) })) (sym c.kept.ensures)
    (kept_whole text bytes new c.from_vec.result o held missing c.requires whole fits c.clear.ensures.items is)
