use Rattle.std.proofs.Common.{subst}
use Rattle.dm_host.specs.Disk.{Same}
use Rattle.dm_host.specs.Works.{Works, File, Follows}
use Rattle.dm_journal.specs.State.{At}
use Rattle.dm_journal.proofs.Healing.{doubts_either}
use Rattle.dm_journal.proofs.journal.Journal.heal.Goals as goal

pub returns-in_err-landed-clause-any_moment : goal.returns-in_err-landed-clause-any_moment
returns-in_err-landed-clause-any_moment g c = λ ps payload k.
    doubts_either c.args.self.now ps payload _ _ k
    (subst (λ (a : At). Works (File a.file) (g.B.Bay.disk c.args.bay.now) (g.B.Bay.disk c.look.new.bay) (Follows Same a.file (g.B.Bay.disk c.args.bay.now))) c.self.view_is c.look.ensures.works)

pub returns-clause-any_moment : goal.returns-clause-any_moment
returns-clause-any_moment g c = λ ps payload k.
    doubts_either c.args.self.now ps payload _ _ k
    (subst (λ (a : At). Works (File a.file) (g.B.Bay.disk c.args.bay.now) (g.B.Bay.disk c.look.new.bay) (Follows Same a.file (g.B.Bay.disk c.args.bay.now))) c.self.view_is c.look.ensures.works)
