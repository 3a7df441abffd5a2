use Rattle.std.proofs.Common.{arith}
use Rattle.dm_fields.specs.Once.{length-big_endian}
use Rattle.dm_records.proofs.logs.put_upgrade.Goals as goal

pub put-requires-clause-room : goal.put-requires-clause-room
put-requires-clause-room c = let long = length-big_endian 8 c.args.time.0 in omega arith
