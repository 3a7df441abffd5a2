use Rattle.dm_base.proofs.Names.{dump_name_spelled}
use Rattle.dm_base.proofs.naming.DumpName.bytes.Goals as goal

pub returns-clause-grammar : goal.returns-clause-grammar
returns-clause-grammar c = dump_name_spelled _ (rw c.as_slice.ensures c.self.invariant)
