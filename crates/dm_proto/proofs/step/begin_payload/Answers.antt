use Rattle.std.proofs.Common.{refl, sym, ◌∙◌, Some, None, subst}
use Rattle.dm_base.specs.declared.command.Command.{Command}
use Rattle.dm_proto.specs.Holding.{IsEnded}
use Rattle.dm_proto.specs.declared.heard.Heard.TheVariants as heard
use Rattle.dm_proto.proofs.Steps.{ended_none, ended_skipped}
use Rattle.dm_proto.proofs.step.begin_payload.Goals as goal

pub returns-then-size-gt-FILE_LIMIT : goal.returns-then-size-gt-FILE_LIMIT
returns-then-size-gt-FILE_LIMIT c = ended_skipped c.args.line.now.items c.args.line.now.items c.args.opening refl c.requires.line c.requires.found c.if-size-gt-FILE_LIMIT.true

pub returns-then-size-eq0 : goal.returns-then-size-eq0
returns-then-size-eq0 c =
    let text = c.args.line.now.items in
    let new = c.clear.new.self.items in
    subst (λ (x : Command). IsEnded text new None (Some (heard.Command x))) (sym c.kept-command.ensures)
    (ended_none text new c.args.opening c.clear.ensures.items c.requires.line c.requires.found c.if-size-eq0.true c.from_vec.result (c.from_vec.ensures ∙ c.new-bytes.ensures.items))
