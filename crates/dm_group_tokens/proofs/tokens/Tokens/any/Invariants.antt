use Rattle.dm_tables.proofs.Orders.{numbers}
use Rattle.dm_requests.proofs.Asking.{Asking}
use Rattle.dm_group_tokens.proofs.tokens.Tokens.any.Given as goal

-- what is left decides
abbrev pub invariant-loop-at : goal.invariant-loop-at
invariant-loop-at g l = Asking numbers (g.T.Test.passes l.test) l.at l.self.rows.rows
