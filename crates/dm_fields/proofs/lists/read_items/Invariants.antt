use Rattle.dm_fields.proofs.Items.{HaveRead}
use Rattle.dm_fields.proofs.lists.read_items.Given as goal

abbrev pub invariant-loop : goal.invariant-loop
invariant-loop g l = HaveRead g.T.Spelled.spelling g.T.Spelled.fits l.fn.input l.items.items l.input l.counter
