use Rattle.dm_volume.proofs.Replacing.{replaces}
use Rattle.dm_volume.proofs.image.replace.Goals as goal

pub returns-clause-replaces : goal.returns-clause-replaces
returns-clause-replaces g c =
    replaces c.args.file c.args.place c.args.bytes.now _ _ c.write_synced.result
    c.write_synced.ensures.written c.write_synced.ensures.torn c.write_synced.ensures.durable c.write_synced.ensures.works
