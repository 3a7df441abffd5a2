use Rattle.dm_config.proofs.OneAnswer.{one_key}
use Rattle.dm_config.proofs.laws.a_text_is_refused_for_one_key.Goals as goal

pub returns : goal.returns
returns c = one_key
