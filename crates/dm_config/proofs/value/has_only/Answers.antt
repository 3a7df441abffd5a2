use Rattle.std.proofs.Common.{◌∙◌}
use Rattle.dm_config.proofs.Views.{only_keys}
use Rattle.dm_config.proofs.value.has_only.Goals as goal

pub returns : goal.returns
returns c = c.has_only_keys.ensures ∙ only_keys c.args.names.now c.args.table.now.entries
