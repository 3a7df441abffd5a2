use Rattle.std.proofs.Common.{arith}
use Rattle.dm_fields.proofs.CopyForms.{length-copies}
use Rattle.dm_fields.proofs.copies.CopiesOfSpelled.spelled_len.Goals as goal

pub overflow_mul-result : goal.overflow_mul-result
overflow_mul-result c = let long = length-copies c.args.self.now.items.now in omega (arith, c.len.ensures, c.requires)

pub overflow_add-result : goal.overflow_add-result
overflow_add-result c = let long = length-copies c.args.self.now.items.now in omega (arith, c.len.ensures, c.requires)

pub returns : goal.returns
returns c = let long = length-copies c.args.self.now.items.now in omega (arith, c.len.ensures)
