use Rattle.std.proofs.Common.{refl}
use Rattle.dm_places.proofs.OfVolumes.{keeps_nothing}
use Rattle.dm_group_tables.proofs.Rooms.{at_err, none_more, room_kept, same_homes}
use Rattle.dm_group_tables.proofs.tables.Tables.prepare_volume.Goals as goal

pub returns-in_err-row-clause-as_before : goal.returns-in_err-row-clause-as_before
returns-in_err-row-clause-as_before c = at_err c.from_residual.result (room_kept c.args.self.now)

pub returns-in_err-_kept-clause-as_before : goal.returns-in_err-_kept-clause-as_before
returns-in_err-_kept-clause-as_before c =
    at_err c.from_residual-in_err-_kept.result (record {
      volumes = c.reserve.ensures.kept;
      bitfiles = refl;
      chunks = keeps_nothing c.args.self.now.catalogue.queues.rows.rows;
      homes = same_homes c.args.self.now.catalogue.homes.rows;
    })

pub returns-clause-room : goal.returns-clause-room
returns-clause-room c = record {
  volumes = c.reserve.ensures.kept;
  bitfiles = none_more c.args.self.now.catalogue.promised c.args.self.now.catalogue.promised refl;
  chunks = keeps_nothing c.args.self.now.catalogue.queues.rows.rows;
  homes = same_homes c.args.self.now.catalogue.homes.rows;
}
