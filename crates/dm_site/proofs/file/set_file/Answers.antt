use Rattle.dm_site.proofs.Tables.{sets_from_updates}
use Rattle.dm_site.proofs.file.set_file.Goals as goal

pub returns-clause-ok : goal.returns-clause-ok
returns-clause-ok c = sets_from_updates c.args.files.now c.insert.new.self _ _ c.in_ok-insert.ensures.updates
