use Rattle.dm_ongoing.proofs.TokensAlong.{tokens_rise}
use Rattle.dm_ongoing.proofs.laws.tokens_rise.Goals as goal

pub returns : goal.returns
returns c j k w e a g s t on is at after = tokens_rise j w e k a on is g t after s at
