use Rattle.std.proofs.Common.{arith, rules}
use Rattle.dm_host.proofs.Told.{adds}
use Rattle.dm_host.proofs.memory_clock.MemClockClock.now.Goals as goal

pub returns-clause-adds : goal.returns-clause-adds
returns-clause-adds c = let e = adds c.args.self.now.readings.items c.args.self.now.at (omega arith) in search rules
