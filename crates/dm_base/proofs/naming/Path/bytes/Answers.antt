use Rattle.dm_base.proofs.Names.{path_spelled}
use Rattle.dm_base.proofs.naming.Path.bytes.Goals as goal

pub returns-clause-grammar : goal.returns-clause-grammar
returns-clause-grammar c = path_spelled _ (rw c.as_slice.ensures c.self.invariant)
