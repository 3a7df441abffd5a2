use Rattle.dm_group_records.proofs.Lengths.{short}
use Rattle.dm_group_records.proofs.laws.payloads_are_short.Goals as goal

pub returns : goal.returns
returns c = short
