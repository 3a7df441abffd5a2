use Rattle.dm_group_records.proofs.PayloadForms.{payload_once}
use Rattle.dm_group_records.proofs.laws.spelled_once.Goals as goal

pub returns : goal.returns
returns c = payload_once
