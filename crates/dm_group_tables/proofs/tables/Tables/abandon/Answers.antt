use Rattle.std.proofs.Common.{◌≡◌, ◌-◌, ◌∙◌, ap, sym, subst, refl, arith}
use Rattle.dm_catalogue.specs.Sums.{KeepsHomes}
use Rattle.dm_places.specs.Queues.{KeepsFewer}
use Rattle.dm_places.proofs.OfVolumes.{fewer_nothing}
use Rattle.dm_group_tables.proofs.Rooms.{given_as, none_fewer, same_homes}
use Rattle.dm_group_tables.proofs.tables.Tables.abandon.Goals as goal

pub returns-in-Volume-clause-room : goal.returns-in-Volume-clause-room
returns-in-Volume-clause-room c = given_as c.in-Volume.is (record {
  volumes = refl;
  bitfiles = none_fewer c.args.self.now.catalogue.promised c.args.self.now.catalogue.promised refl;
  chunks = fewer_nothing c.args.self.now.catalogue.queues.rows.rows;
  homes = same_homes c.args.self.now.catalogue.homes.rows;
})

pub returns-in-Commit-clause-room : goal.returns-in-Commit-clause-room
returns-in-Commit-clause-room c = given_as c.in-Commit.is (record {
  volumes = refl;
  bitfiles = c.give_back.ensures.promised ∙ ap (λ n. n - 1) c.forget.ensures.promised;
  chunks =
      subst (λ cs. KeepsFewer c.args.self.now.catalogue.queues.rows.rows cs c.give_back.new.self.queues.rows.rows) (rw c.in-Commit.is at (c.as_slice.ensures ∙ ap (λ z. z.1.chunks) c.deref.ensures))
      (subst (λ q. KeepsFewer c.args.self.now.catalogue.queues.rows.rows c.as_slice.result.now q.rows.rows) (sym c.give_back.ensures.queues) c.forget.ensures.places);
  homes = subst (λ h. KeepsHomes c.args.self.now.catalogue.homes.rows h.rows) (sym (c.give_back.ensures.homes ∙ c.forget.ensures.homes)) (same_homes c.args.self.now.catalogue.homes.rows);
})

pub returns-in-Delete-clause-room : goal.returns-in-Delete-clause-room
returns-in-Delete-clause-room c = given_as c.in-Delete.is (record {
  volumes = refl;
  bitfiles = none_fewer c.args.self.now.catalogue.promised c.args.self.now.catalogue.promised refl;
  chunks = fewer_nothing c.args.self.now.catalogue.queues.rows.rows;
  homes = same_homes c.args.self.now.catalogue.homes.rows;
})

pub returns-in-Move-clause-room : goal.returns-in-Move-clause-room
returns-in-Move-clause-room c = given_as c.in-Move.is (record {
  volumes = refl;
  bitfiles = none_fewer c.args.self.now.catalogue.promised c.forget-in-Move.new.self.promised c.forget-in-Move.ensures.promised;
  chunks = c.forget-in-Move.ensures.places;
  homes = subst (λ h. KeepsHomes c.args.self.now.catalogue.homes.rows h.rows) (sym c.forget-in-Move.ensures.homes) (same_homes c.args.self.now.catalogue.homes.rows);
})

pub returns-in-Free-clause-room : goal.returns-in-Free-clause-room
returns-in-Free-clause-room c = given_as c.in-Free.is (record {
  volumes = refl;
  bitfiles = none_fewer c.args.self.now.catalogue.promised c.args.self.now.catalogue.promised refl;
  chunks = fewer_nothing c.args.self.now.catalogue.queues.rows.rows;
  homes = same_homes c.args.self.now.catalogue.homes.rows;
})

pub returns-clause-room : goal.returns-clause-room
returns-clause-room c = given_as c.in-Reuse.is (record {
  volumes = refl;
  bitfiles = none_fewer c.args.self.now.catalogue.promised c.args.self.now.catalogue.promised refl;
  chunks = fewer_nothing c.args.self.now.catalogue.queues.rows.rows;
  homes = same_homes c.args.self.now.catalogue.homes.rows;
})
