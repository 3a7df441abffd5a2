use Rattle.dm_zone.proofs.Either.{either}
use Rattle.dm_zone.proofs.OneWay.{one_zone, zone_not_wrong, one_place}
use Rattle.dm_zone.proofs.decode.zones_are_read_one_way.Goals as goal

pub returns : goal.returns
returns c = record { either = either; one_zone = one_zone; zone_or_wrong = zone_not_wrong; one_place = one_place }
