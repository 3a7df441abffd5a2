use Rattle.std.proofs.Common.{Result, Ok, Err, ap}
use Rattle.dm_base.specs.Naming.{IsPath}
use Rattle.dm_tables.proofs.Entries.{entries-each}
use Rattle.dm_tables.proofs.Orders.{paths}
use Rattle.dm_daemon_plans.proofs.calls.list.Goals as goal

-- the error of a result
abbrev error_or : {T E : Type 0} → E → Result T E → E
error_or other (Ok value) = other
error_or other (Err error) = error

pub returns-in-Err-clause-range : goal.returns-in-Err-clause-range
returns-in-Err-clause-range c = λ out within.
    c.in-Err.ensures.range (ap (λ error. Err error) (ap (error_or c.in-Err.error) out)) (entries-each paths (λ text n. IsPath text) c.args.daemon.now.tables.names within.names)
