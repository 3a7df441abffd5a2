use Rattle.std.proofs.Common.{◌≡◌, None}
use Rattle.std.specs.FinMap.{get}
use Rattle.dm_tables.proofs.Entries.{entries-empty}
use Rattle.dm_daemon_plans.proofs.recalls.is_copy.Goals as goal

pub returns-in-None : goal.returns-in-None
returns-in-None c =
    let none : get c.args.reads.now c.args.group.0 ≡ None = cc (c.in-None.ensures, c.from.ensures) in
    rw (none, entries-empty) c.is_empty.ensures
