use Rattle.std.proofs.Common.{sym, ap}
use Rattle.dm_catalogue.specs.Sums.{chunk_in}
use Rattle.dm_catalogue.proofs.Queueing.{gone_moved, gone_none, there_of}
use Rattle.dm_catalogue.proofs.catalogue.Catalogue.there.Goals as goal

pub returns-in_default-clause-gone : goal.returns-in_default-clause-gone
returns-in_default-clause-gone c = gone_none c.args.self.now.rows.rows c.args.self.now.whole c.args.vsn.0 c.args.spot c.in_default.ensures.none

pub returns-in_default-get-clause-gone : goal.returns-in_default-get-clause-gone
returns-in_default-get-clause-gone c =
    gone_none c.args.self.now.rows.rows c.args.self.now.whole c.args.vsn.0 c.args.spot (ap (chunk_in c.args.spot.offset) (sym c.in_default-get.ensures))

pub returns-then-lies_at-clause-there : goal.returns-then-lies_at-clause-there
returns-then-lies_at-clause-there c =
    there_of c.args.self.now.rows.rows c.args.self.now.whole c.args.vsn.0 c.args.spot c.in-Some.field-0-0 c.in-Some.chunk c.in-Some-get.row.now c.in-Some.ensures.found
    (sym c.if-lies_at.ensures) (sym c.in-Some-get.ensures)

pub returns-clause-gone : goal.returns-clause-gone
returns-clause-gone c =
    gone_moved c.args.self.now.rows.rows c.args.self.now.whole c.args.vsn.0 c.args.spot c.in-Some.field-0-0 c.in-Some.chunk c.in-Some.ensures.found (sym c.if-lies_at.ensures)
