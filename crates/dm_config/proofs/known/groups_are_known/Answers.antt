use Rattle.std.proofs.Common.{◌∙◌}
use Rattle.dm_config.proofs.Views.{all_known}
use Rattle.dm_config.proofs.known.groups_are_known.Goals as goal

pub returns : goal.returns
returns c = c.all_groups_known.ensures ∙ all_known c.args.groups.now.entries
