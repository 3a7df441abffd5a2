use Rattle.std.proofs.Common.{length}
use Rattle.dm_host.specs.Disk.{Torn}
use Rattle.dm_host.proofs.Moments.{same_after}
use Rattle.dm_host.proofs.bay.write_synced.Goals as goal

pub returns-clause-works : goal.returns-clause-works
returns-clause-works g c =
    same_after (Torn c.args.place (length c.args.bytes.now)) c.args.file _ _ _ c.write.ensures.works c.sync.ensures.works
