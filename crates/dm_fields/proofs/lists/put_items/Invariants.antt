use Rattle.dm_fields.proofs.Items.{Writes}
use Rattle.dm_fields.proofs.lists.put_items.Given as goal

abbrev pub invariant-loop-item : goal.invariant-loop-item
invariant-loop-item g l = Writes g.T.Spelled.spelling g.T.Spelled.fits l.fn.items l.item-index l.fn.at l.end l.fn.out l.out
