use Rattle.std.proofs.Common.{◌∙◌}
use Rattle.dm_group_usage.proofs.Summing.{live_is}
use Rattle.dm_group_usage.proofs.weights.live_on.Goals as goal

pub returns : goal.returns
returns c = c.as_word.ensures ∙ live_is c.args.bitfiles.now c.args.vsn.0 _ c.sum_on.ensures
