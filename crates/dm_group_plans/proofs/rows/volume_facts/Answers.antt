use Rattle.std.proofs.Common.{◌∙◌}
use Rattle.std.specs.FinMap.{entries}
use Rattle.dm_group_usage.proofs.Ranges.{all_told}
use Rattle.dm_model.specs.GroupCalls.{volume_fact}
use Rattle.dm_group_plans.proofs.rows.volume_facts.Goals as goal

pub returns : goal.returns
returns c = c.in_ok-facts.ensures ∙ all_told volume_fact (entries c.args.volumes.now) c.requires
