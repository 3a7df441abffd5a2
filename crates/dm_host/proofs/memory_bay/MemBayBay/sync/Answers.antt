use Rattle.std.proofs.Common.{◌∷◌, List, reverse, sym, ap, subst, ◌∙◌}
use Rattle.dm_host.specs.declared.change.Change.{Change}
use Rattle.dm_host.specs.declared.change.Change.TheVariants.{Synced}
use Rattle.dm_host.specs.Disk.{Same}
use Rattle.dm_host.specs.MemoryBay.{disk_of}
use Rattle.dm_host.specs.Past.{contents, disk_from}
use Rattle.dm_host.specs.Rot.{is_unnamed}
use Rattle.dm_host.specs.Works.{Works, File, Follows}
use Rattle.dm_host.proofs.Kept.{synced}
use Rattle.dm_host.proofs.Moments.{same_after}
use Rattle.dm_host.proofs.memory_bay.MemBayBay.sync.Goals as goal

pub returns-in_err-begin-clause-works : goal.returns-in_err-begin-clause-works
returns-in_err-begin-clause-works c = c.begin_call.ensures.works c.args.file

pub returns-then-is_err-clause-works : goal.returns-then-is_err-clause-works
returns-then-is_err-clause-works c =
    let bay = c.begin_call.new.self in
    subst (λ (log : List Change). Works (File c.args.file) (disk_of c.args.self.now) (disk_from (is_unnamed bay.rot.items) (reverse log) (contents bay.files.items)) (Follows Same c.args.file (disk_of c.args.self.now)))
    (sym c.reserve.ensures.items) (c.begin_call.ensures.works c.args.file)

pub returns-clause-works : goal.returns-clause-works
returns-clause-works c =
    let bay = c.begin_call.new.self in
    let noted = c.note.ensures ∙ ap (λ (log : List Change). Synced c.args.file ∷ reverse log) c.reserve.ensures.items in
    same_after Same c.args.file _ _ _ (c.begin_call.ensures.works c.args.file)
    (subst (λ (log : List Change). Works (File c.args.file) (disk_of bay) (disk_from (is_unnamed bay.rot.items) log (contents bay.files.items)) (Follows Same c.args.file (disk_of bay)))
    (sym noted) (synced (reverse bay.log.items) (contents bay.files.items) c.args.file (is_unnamed bay.rot.items)))
