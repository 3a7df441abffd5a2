use Rattle.dm_rules.proofs.Sizes.{zone_alone}
use Rattle.dm_rules.proofs.laws.weights_are_zones.Goals as goal

pub returns-clause-alone : goal.returns-clause-alone
returns-clause-alone c = zone_alone
