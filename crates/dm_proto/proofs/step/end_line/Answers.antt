use Rattle.std.proofs.Common.{sym, ◌∙◌}
use Rattle.dm_proto.proofs.Steps.{ended_blank, ended_syntax, ended_command}
use Rattle.dm_proto.proofs.step.end_line.Goals as goal

pub begin_payload-requires-clause-found : goal.begin_payload-requires-clause-found
begin_payload-requires-clause-found c = sym c.requires.found ∙ c.in-Payload.is

pub returns-in-Blank : goal.returns-in-Blank
returns-in-Blank c = ended_blank c.args.line.now.items c.clear.new.self.items c.clear.ensures.items c.requires.line (sym c.requires.found ∙ c.in-Blank.is)

pub returns-in-Syntax : goal.returns-in-Syntax
returns-in-Syntax c = ended_syntax c.args.line.now.items c.clear-in-Syntax.new.self.items c.clear-in-Syntax.ensures.items c.requires.line (sym c.requires.found ∙ c.in-Syntax.is)

pub returns-in-Command : goal.returns-in-Command
returns-in-Command c =
    ended_command c.args.line.now.items c.clear-in-Command.new.self.items c.in-Command.command c.clear-in-Command.ensures.items c.requires.line (sym c.requires.found ∙ c.in-Command.is)
