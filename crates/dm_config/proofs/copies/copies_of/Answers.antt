use Rattle.toml.specs.View.{table_view}
use Rattle.dm_config.proofs.Views.{many_copies}
use Rattle.dm_config.proofs.copies.copies_of.Goals as goal

pub returns-in-len3-up : goal.returns-in-len3-up
returns-in-len3-up c = many_copies (table_view c.args.groups.now) c.args.items.now c.in-len3-up.len_at_least
