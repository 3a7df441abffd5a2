use Rattle.std.proofs.Common.{Err, ap}
use Rattle.dm_daemon_plans.proofs.files.path_of.Goals as goal

pub returns-in-Err-Grammar-clause-range : goal.returns-in-Err-Grammar-clause-range
returns-in-Err-Grammar-clause-range c = λ error. c.in-Err-Grammar.ensures.grammar.0 (ap (λ e. Err e) c.in-Err-Grammar.field-0-is)
