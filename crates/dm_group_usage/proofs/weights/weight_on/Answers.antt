use Rattle.std.proofs.Common.{◌∙◌, ap, arith}
use Rattle.dm_group_usage.specs.Measures.{summed}
use Rattle.dm_group_usage.proofs.Summing.{weight_is}
use Rattle.dm_group_usage.proofs.weights.weight_on.Goals as goal

pub returns : goal.returns
returns c = c.sum_on.ensures ∙ ap summed (weight_is c.args.bitfiles.now c.args.version _ c.args.vsn.0 (omega (arith, c.chunk_header.ensures)))
