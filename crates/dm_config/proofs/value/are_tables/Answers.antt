use Rattle.std.proofs.Common.{◌∙◌}
use Rattle.dm_config.proofs.Views.{all_tables}
use Rattle.dm_config.proofs.value.are_tables.Goals as goal

pub returns : goal.returns
returns c = c.are_all_tables.ensures ∙ all_tables c.args.table.now.entries
