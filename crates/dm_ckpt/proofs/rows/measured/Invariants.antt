use Rattle.std.proofs.Common.{◌<◌}
use Rattle.dm_ckpt.specs.Area.{body_limit}
use Rattle.dm_ckpt.proofs.Measured.{Sums}
use Rattle.dm_ckpt.proofs.rows.measured.Given as goal

abbrev pub invariant-loop-k : goal.invariant-loop-k
invariant-loop-k g l = record { sums : Sums (g.T.Rows.rows l.state) l.k l.sum; small : l.sum < body_limit }
