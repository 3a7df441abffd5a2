use Rattle.dm_config.proofs.Views.{some_filled}
use Rattle.dm_config.proofs.known.has_some.Goals as goal

pub returns : goal.returns
returns c = some_filled c.is_empty.result c.args.table.now.entries c.is_empty.ensures.0 c.is_empty.ensures.1
