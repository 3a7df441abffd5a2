use Rattle.std.proofs.Common.{length}
use Rattle.dm_volume.proofs.Replacing.{so_ok, part-agrees}
use Rattle.dm_volume.proofs.image.fetch.Goals as goal

pub returns-clause-reads : goal.returns-clause-reads
returns-clause-reads g c = record {
  bytes = c.read.ensures.bytes;
  agrees = λ told known holds.
      so_ok c.read.result (c.read.ensures.bytes told) (λ is.
      part-agrees known ((g.B.Bay.disk c.args.bay.now).seen c.args.file) c.args.place (length c.args.into.now) c.read.new.into c.read.auto.into holds is);
  same = c.read.ensures.same;
  works = c.read.ensures.works;
}
