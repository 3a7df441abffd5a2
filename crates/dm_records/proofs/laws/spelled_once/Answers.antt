use Rattle.std.proofs.Common.{[], ◌++◌, ap}
use Rattle.dm_records.proofs.RowOnce.{payload_once}
use Rattle.dm_records.proofs.laws.spelled_once.Goals as goal

pub returns : goal.returns
returns c = λ p q fits_p fits_q e. (payload_once p q [] [] fits_p fits_q (ap (λ l. l ++ []) e)).0
