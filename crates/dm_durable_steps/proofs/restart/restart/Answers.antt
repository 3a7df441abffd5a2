use Rattle.std.proofs.Common.{◌≡◌, false, ap, ◌∙◌}
use Rattle.dm_durable.specs.declared.daemon.Inode.{Inode}
use Rattle.dm_durable.specs.Daemon.{after_ending_puts}
use Rattle.dm_durable.specs.Inodes.{as_ended, with_contents}
use Rattle.dm_durable.specs.Tables.{ByNumber}
use Rattle.dm_tables.specs.Rows.{map_values}
use Rattle.dm_durable_steps.proofs.Sets.{ended_by}
use Rattle.dm_durable_steps.proofs.restart.restart.Goals as goal

pub returns : goal.returns
returns c =
    let before : ByNumber Inode = c.args.tables.inodes in
    let after : ByNumber Inode = map_values (λ n i. with_contents (as_ended false) i) before in
    let ended : c.in_ok-tables.field-0 ≡ after = c.in_ok-tables.ensures in
    let rows : c.in_ok-tables-2.field-0 ≡ after_ending_puts c.args.tables.entries before after c.args.tables.time.0 =
    c.in_ok-tables-2.ensures
    ∙ ended_by before c.in_ok-tables.field-0 c.in_ok-made.made c.in_ok-named.named c.args.tables.time.0 c.args.tables.entries c.in_ok-made.ensures c.in_ok-named.ensures
    ∙ ap (λ m. after_ending_puts c.args.tables.entries before m c.args.tables.time.0) ended in
    λ j. record c.args.tables { inodes = ended j; entries = rows j }
