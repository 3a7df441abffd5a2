use Rattle.std.proofs.Common.{refl, arith}
use Rattle.dm_places.proofs.OfVolumes.{keeps_nothing}
use Rattle.dm_group_tables.proofs.Rooms.{none_more, same_homes}
use Rattle.dm_group_tables.proofs.tables.Tables.prepare_step.Goals as goal

pub returns-in-Delete-clause-room : goal.returns-in-Delete-clause-room
returns-in-Delete-clause-room c = record {
  volumes = omega arith;
  bitfiles = none_more c.args.self.now.catalogue.promised c.args.self.now.catalogue.promised refl;
  chunks = keeps_nothing c.args.self.now.catalogue.queues.rows.rows;
  homes = same_homes c.args.self.now.catalogue.homes.rows;
}

pub returns-in-Free-clause-room : goal.returns-in-Free-clause-room
returns-in-Free-clause-room c = record {
  volumes = omega arith;
  bitfiles = none_more c.args.self.now.catalogue.promised c.args.self.now.catalogue.promised refl;
  chunks = keeps_nothing c.args.self.now.catalogue.queues.rows.rows;
  homes = same_homes c.args.self.now.catalogue.homes.rows;
}

pub returns-in-Reuse-clause-room : goal.returns-in-Reuse-clause-room
returns-in-Reuse-clause-room c = record {
  volumes = omega arith;
  bitfiles = none_more c.args.self.now.catalogue.promised c.args.self.now.catalogue.promised refl;
  chunks = keeps_nothing c.args.self.now.catalogue.queues.rows.rows;
  homes = same_homes c.args.self.now.catalogue.homes.rows;
}
