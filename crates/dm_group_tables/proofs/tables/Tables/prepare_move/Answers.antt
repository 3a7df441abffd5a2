use Rattle.std.proofs.Common.{◌≡◌, ◌+◌, ◌∙◌, ap, sym, subst, refl, arith}
use Rattle.std.specs.FinMap as map
use Rattle.dm_catalogue.specs.Sums.{FitsInPlace, chunk_in}
use Rattle.dm_group_tables.proofs.Rooms.{at_err, has_places, none_more}
use Rattle.dm_group_tables.proofs.tables.Tables.prepare_move.Goals as goal

pub returns-in_err-_known-clause-as_before : goal.returns-in_err-_known-clause-as_before
returns-in_err-_known-clause-as_before c =
    at_err c.from_residual.result (record {
      volumes = omega arith;
      bitfiles = c.know.ensures.promised;
      chunks = c.in_err-_known.ensures.err;
      homes = c.know.ensures.kept;
    })

pub returns-clause-ready : goal.returns-clause-ready
returns-clause-ready c = (
  subst (λ r. FitsInPlace (chunk_in c.args.to.offset (map.get r.rows c.args.bfid.0)) c.args.to) (sym c.know.ensures.rows) c.requires,
  c.in_ok-_known.ensures.known,
  has_places c.args.self.now.catalogue.queues.rows.rows c.know.new.self.queues.rows.rows _ c.in_ok-_known.ensures.ok,
)

pub returns-clause-room : goal.returns-clause-room
returns-clause-room c = record {
  volumes = omega arith;
  bitfiles = none_more c.args.self.now.catalogue.promised c.know.new.self.promised c.know.ensures.promised;
  chunks = c.in_ok-_known.ensures.ok;
  homes = c.know.ensures.kept;
}
