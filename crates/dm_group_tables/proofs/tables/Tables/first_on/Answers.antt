use Rattle.std.proofs.Common.{◌≡◌, sym, subst, arith}
use Rattle.dm_catalogue.specs.Sums.{KeepsHomes}
use Rattle.dm_group_tables.proofs.Rooms.{not_fewer, same_homes}
use Rattle.dm_group_tables.proofs.tables.Tables.first_on.Goals as goal

pub returns-clause-room : goal.returns-clause-room
returns-clause-room c = record {
  volumes = omega arith;
  bitfiles = not_fewer c.args.self.now.catalogue.promised c.first_on.new.self.promised c.first_on.ensures.promised;
  chunks = c.first_on.ensures.places;
  homes = subst (λ h. KeepsHomes c.args.self.now.catalogue.homes.rows h.rows) (sym c.first_on.ensures.homes) (same_homes c.args.self.now.catalogue.homes.rows);
}
