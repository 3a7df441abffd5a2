use Rattle.std.proofs.Common.{refl}
use Rattle.dm_stops.proofs.ExampleOpened.{dump_is, example_opened, example_sparse, inode_1, inode_2, inode_3, side_1, side_2}
use Rattle.dm_stops.proofs.laws.example_opened.Goals as goal

pub returns-clause-opened : goal.returns-clause-opened
returns-clause-opened c = example_opened

pub returns-clause-groups : goal.returns-clause-groups
returns-clause-groups c = (side_1, side_2)

pub returns-clause-files : goal.returns-clause-files
returns-clause-files c = (inode_1, inode_2, inode_3)

pub returns-clause-dumped : goal.returns-clause-dumped
returns-clause-dumped c = (dump_is, refl)

pub returns-clause-sparse : goal.returns-clause-sparse
returns-clause-sparse c = example_sparse
