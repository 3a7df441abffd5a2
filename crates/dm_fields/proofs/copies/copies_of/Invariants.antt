use Rattle.dm_fields.proofs.CopyForms.{HaveCopies}
use Rattle.dm_fields.proofs.copies.copies_of.Given as goal

abbrev pub invariant-loop-at : goal.invariant-loop-at
invariant-loop-at l = HaveCopies l.fn.groups l.fn.flags l.copies.items l.at
