use Rattle.std.proofs.Common.{◌∷◌, length, is_some}
use Rattle.dm_base.specs.declared.conf.ConfKey.TheVariants.{GroupVolumes}
use Rattle.toml.specs.View.{table_view}
use Rattle.dm_config.specs.Rows.{listed, listed_in, number_rows, size_rows}
use Rattle.dm_config.proofs.Rows.{violated_here}
use Rattle.dm_config.proofs.group.read_group.Goals as goal

pub returns-in-Err-clause-err : goal.returns-in-Err-clause-err
returns-in-Err-clause-err c =
    let group = c.args.group in
    let taken = c.args.taken.now.items in
    let table = table_view c.args.table.now in
    violated_here (number_rows group table) ((GroupVolumes group, is_some (listed_in taken table)) ∷ size_rows group (length (listed taken table)) table)
    c.in-Err.key c.in-Err.ensures.err
