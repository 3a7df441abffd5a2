-- What the program keeps, seen as a group's durable tables.
use Rattle.std.specs.Prelude.{◌≤◌, []}
use Rattle.dm_catalogue.specs.Sums.{KeepsHomes}
use Rattle.dm_places.specs.Queues.{UsesPlaces}
use Rattle.dm_durable.specs.declared.group.GroupTables.{GroupTables}
use Rattle.dm_group_tables.specs.declared.tables.Tables.{Tables}

abbrev pub state_of : Tables → GroupTables
state_of m = record {
  group = m.group;
  time = m.time;
  volumes = m.volumes.rows.rows;
  bitfiles = m.catalogue.rows.rows;
}

-- none of the room that is kept for steps is taken
pub record UsesNoRoom (old new : Tables) : Type 0 where
  pub volumes : old.volumes.rows.spare ≤ new.volumes.rows.spare
  pub bitfiles : old.catalogue.promised ≤ new.catalogue.promised
  pub chunks : UsesPlaces old.catalogue.queues.rows.rows [] new.catalogue.queues.rows.rows
  pub homes : KeepsHomes old.catalogue.homes.rows new.catalogue.homes.rows
