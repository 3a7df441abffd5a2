use Rattle.std.proofs.Common.{rules}
use Rattle.dm_zone.proofs.Cells.{laid}
use Rattle.dm_zone.proofs.labels.label.Goals as goal

pub returns : goal.returns
returns c = laid c.args.vsn.now c.put.new.label c.put-2.new.label c.put-3.new.label c.put-4.new.label c.put-5.new.label c.args.group.0 c.args.version c.args.epoch c.args.size (search rules) c.put.ensures c.put-2.ensures c.put-3.ensures (rw c.eight_bytes.ensures at c.put-4.ensures) (rw c.eight_bytes-2.ensures at c.put-5.ensures)
