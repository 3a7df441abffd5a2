use Rattle.std.proofs.Common.{ℕ, List, slice_index, sym, ◌∙◌, ap}
use Rattle.dm_host.specs.Disk.{Same}
use Rattle.dm_host.specs.Works.{File}
use Rattle.dm_host.proofs.Moments.{same_after, fewer_after, still_told}
use Rattle.dm_host.proofs.Outside.{part-first}
use Rattle.dm_host.proofs.bay.read_synced.Goals as goal

pub returns-in_err-read-clause-works : goal.returns-in_err-read-clause-works
returns-in_err-read-clause-works g c = same_after Same c.args.file _ _ _ c.sync.ensures.works c.read.ensures.works

pub returns-clause-works : goal.returns-clause-works
returns-clause-works g c = same_after Same c.args.file _ _ _ c.sync.ensures.works c.read.ensures.works

pub returns-clause-byte : goal.returns-clause-byte
returns-clause-byte g c = λ told.
    ap (λ (l : List ℕ). slice_index l 0) (c.in_ok-read.ensures.bytes (still_told (File c.args.file) _ _ _ c.sync.ensures.works c.args.file told))
    ∙ part-first ((g.B.Bay.disk c.sync.new.self).seen c.args.file) c.args.place
    ∙ ap (λ (l : List ℕ). slice_index l c.args.place) c.sync.ensures.same

pub returns-clause-durable : goal.returns-clause-durable
returns-clause-durable g c = λ told x left.
    c.in_ok-sync.ensures.durable told x (fewer_after c.args.file _ _ c.read.ensures.works x left) ∙ sym c.sync.ensures.same ∙ sym c.read.ensures.same
