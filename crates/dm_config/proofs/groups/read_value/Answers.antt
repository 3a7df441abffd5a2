use Rattle.std.proofs.Common.{subst}
use Rattle.toml.specs.Data.{Members}
use Rattle.dm_config.specs.Misses.{Misses}
use Rattle.dm_config.specs.Rows.{group_rows}
use Rattle.dm_config.proofs.groups.read_value.Goals as goal

pub returns-in-Err-clause-err : goal.returns-in-Err-clause-err
returns-in-Err-clause-err c =
    let P : Members → Type 0 = λ g. Misses (group_rows c.args.group c.args.taken.now.items g) c.in-Err.error in
    subst P c.table_of.ensures c.in-Err.ensures.err
