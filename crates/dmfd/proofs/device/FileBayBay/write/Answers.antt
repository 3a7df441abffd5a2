use Rattle.std.proofs.Common.{length}
use Rattle.dm_host.specs.Disk.{Torn, untold}
use Rattle.dm_host.proofs.Moments.{idle, torn_still}
use Rattle.dmfd.proofs.device.FileBayBay.write.Goals as goal

pub returns-in-Ok-clause-works : goal.returns-in-Ok-clause-works
returns-in-Ok-clause-works g c =
    idle (Torn c.args.place (length c.args.bytes.now)) (torn_still c.args.place (length c.args.bytes.now)) c.args.file untold

pub returns-in-Err-clause-works : goal.returns-in-Err-clause-works
returns-in-Err-clause-works g c =
    idle (Torn c.args.place (length c.args.bytes.now)) (torn_still c.args.place (length c.args.bytes.now)) c.args.file untold
