use Rattle.std.proofs.Common.{refl}
use Rattle.dm_rules.specs.Room.{room}
use Rattle.dm_rules.proofs.laws.rooms_are_as_worked.Goals as goal

pub returns : goal.returns
unfolding room
returns c = record { first = refl; second = refl; first_small = refl; second_small = refl; second_behind = refl; second_full = refl }
