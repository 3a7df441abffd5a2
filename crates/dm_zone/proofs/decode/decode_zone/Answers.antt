use Rattle.dm_zone.proofs.OneWay.{all_read, place_told}
use Rattle.dm_zone.proofs.decode.decode_zone.Goals as goal

pub returns-clause-all : goal.returns-clause-all
returns-clause-all c = all_read c.args.version _ _ c.read_zone.ensures.read c.read_zone.ensures.wrong

pub returns-clause-told : goal.returns-clause-told
returns-clause-told c = place_told c.args.version _ _ c.read_zone.ensures.read c.read_zone.ensures.wrong c.read_zone.ensures.memory
