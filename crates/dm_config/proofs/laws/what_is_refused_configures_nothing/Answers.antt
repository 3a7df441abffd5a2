use Rattle.dm_config.proofs.OneAnswer.{none_configured}
use Rattle.dm_config.proofs.laws.what_is_refused_configures_nothing.Goals as goal

pub returns : goal.returns
returns c = none_configured
