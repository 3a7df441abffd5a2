use Rattle.std.proofs.Common.{length}
use Rattle.dm_host.specs.Disk.{Torn, untold}
use Rattle.dm_host.proofs.Moments.{idle, torn_still}
use Rattle.dm_host.proofs.tests.SilentBay.write.Goals as goal

pub returns-then-place-clause-works : goal.returns-then-place-clause-works
returns-then-place-clause-works c = idle (Torn c.args.place (length c.args.bytes.now)) (torn_still c.args.place (length c.args.bytes.now)) c.args._file untold

pub returns-clause-works : goal.returns-clause-works
returns-clause-works c = idle (Torn c.args.place (length c.args.bytes.now)) (torn_still c.args.place (length c.args.bytes.now)) c.args._file untold
