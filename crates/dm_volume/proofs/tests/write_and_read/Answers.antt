use Rattle.std.proofs.Common.{length, sym, subst}
use Rattle.dm_host.specs.Disk.{Tells}
use Rattle.dm_host.specs.Works.{File}
use Rattle.dm_host.proofs.Moments.{still_told}
use Rattle.dm_rules.specs.Known.{known_without_range, HasKnown}
use Rattle.dm_volume.specs.Volume.{Descriptor}
use Rattle.dm_volume.proofs.Replacing.{torn-holds}
use Rattle.dm_volume.proofs.tests.write_and_read.Goals as goal

pub returns : goal.returns
returns g c = λ told known holds.
    let replaces = c.write_zone.ensures.replaces in
    let less = known_without_range c.args.place (length c.args.zone.now) known in
    let still = still_told (File c.args.volume.now.file) _ _ _ replaces.works c.args.volume.now.file told in
    let left = torn-holds c.args.place (length c.args.zone.now) known _ _ (replaces.torn told) holds in
    let kept : Descriptor → Type 0 = λ v. Tells (g.B.Bay.disk c.write_zone.new.bay) v.file in
    c.read_chunk.ensures.reads.agrees (subst kept (sym c.write_zone.ensures.volume) still) less
    (subst (λ (v : Descriptor). HasKnown less ((g.B.Bay.disk c.write_zone.new.bay).seen v.file)) (sym c.write_zone.ensures.volume) left)
