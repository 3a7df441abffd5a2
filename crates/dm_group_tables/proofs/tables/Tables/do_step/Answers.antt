use Rattle.std.proofs.Common.{◌≡◌, [], ◌∷◌, refl, subst, sym, ap}
use Rattle.dm_catalogue.specs.Sums.{KeepsHomes}
use Rattle.dm_catalogue.proofs.Queueing.{places_same}
use Rattle.dm_group_tables.proofs.Rooms.{as_many, one_fewer, same_homes, used_as, used_one}
use Rattle.dm_group_tables.proofs.tables.Tables.do_step.Goals as goal

pub returns-in-Volume-clause-room : goal.returns-in-Volume-clause-room
returns-in-Volume-clause-room c = used_as c.in-Volume.is (record {
  volumes = used_one c.args.self.now.volumes.rows.spare c.add.new.self.rows.spare _ c.add.ensures.spare;
  bitfiles = as_many c.args.self.now.catalogue.promised c.args.self.now.catalogue.promised 0 refl;
  chunks = places_same c.args.self.now.catalogue.queues.rows.rows c.args.self.now.catalogue.queues.rows.rows [] refl;
  homes = same_homes c.args.self.now.catalogue.homes.rows;
})

pub returns-in-Commit-clause-room : goal.returns-in-Commit-clause-room
returns-in-Commit-clause-room c = used_as c.in-Commit.is (record {
  volumes = as_many c.args.self.now.volumes.rows.spare c.raise_ends.new.self.rows.spare 0 c.raise_ends.ensures.spare;
  bitfiles = one_fewer c.args.self.now.catalogue.promised c.insert.new.self.promised c.insert.ensures.promised;
  chunks = c.insert.ensures.places;
  homes = c.insert.ensures.kept;
})

pub returns-in-Delete-clause-room : goal.returns-in-Delete-clause-room
returns-in-Delete-clause-room c = used_as c.in-Delete.is (record {
  volumes = as_many c.args.self.now.volumes.rows.spare c.args.self.now.volumes.rows.spare 0 refl;
  bitfiles = as_many c.args.self.now.catalogue.promised c.remove.new.self.promised 0 c.remove.ensures.promised;
  chunks = places_same c.args.self.now.catalogue.queues.rows.rows c.remove.new.self.queues.rows.rows [] (ap (λ q. q.rows.rows) c.remove.ensures.queues);
  homes = c.remove.ensures.kept;
})

pub returns-in-Move-clause-room : goal.returns-in-Move-clause-room
returns-in-Move-clause-room c = used_as c.in-Move.is (record {
  volumes = as_many c.args.self.now.volumes.rows.spare c.raise_end.new.self.rows.spare 0 c.raise_end.ensures.spare;
  bitfiles = as_many c.args.self.now.catalogue.promised c.move_chunk.new.self.promised 0 c.move_chunk.ensures.promised;
  chunks = c.move_chunk.ensures.places;
  homes = c.move_chunk.ensures.kept;
})

pub returns-in-Free-clause-room : goal.returns-in-Free-clause-room
returns-in-Free-clause-room c = used_as c.in-Free.is (record {
  volumes = as_many c.args.self.now.volumes.rows.spare c.hold.new.self.rows.spare 0 c.hold.ensures.spare;
  bitfiles = as_many c.args.self.now.catalogue.promised c.args.self.now.catalogue.promised 0 refl;
  chunks = places_same c.args.self.now.catalogue.queues.rows.rows c.args.self.now.catalogue.queues.rows.rows [] refl;
  homes = same_homes c.args.self.now.catalogue.homes.rows;
})

pub returns-in-Reuse-clause-room : goal.returns-in-Reuse-clause-room
returns-in-Reuse-clause-room c = used_as c.in-Reuse.is (record {
  volumes = as_many c.args.self.now.volumes.rows.spare c.reuse.new.self.rows.spare 0 c.reuse.ensures.spare;
  bitfiles = as_many c.args.self.now.catalogue.promised c.clear.new.self.promised 0 c.clear.ensures.promised;
  chunks = c.clear.ensures.places;
  homes = subst (λ h. KeepsHomes c.args.self.now.catalogue.homes.rows h.rows) (sym c.clear.ensures.homes) (same_homes c.args.self.now.catalogue.homes.rows);
})
