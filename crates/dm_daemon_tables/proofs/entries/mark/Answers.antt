use Rattle.std.proofs.Common.{ap, ◌∙◌, slice_set, arith}
use Rattle.std.proofs.lemmas.List.Edits.{map_over_more}
use Rattle.dm_durable.specs.Entries.{copy_stored_by}
use Rattle.dm_daemon_tables.proofs.Reading.{read_again}
use Rattle.dm_daemon_tables.proofs.entries.mark.Goals as goal

pub loop-copy-preserved : goal.loop-copy-preserved
loop-copy-preserved c =
    ap (slice_set c.loop-copy.copies c.loop-copy.copy-index) c.mark_one.ensures
    ∙ map_over_more (copy_stored_by c.args.group.0) c.args.copies.now c.loop-copy.copies c.loop-copy.copy-index _ c.loop-copy-test.true c.loop-copy.invariant
    (read_again c.loop-copy.copies c.loop-copy.copy-index _ (let l = c.loop-copy.auto.copies in let t = c.loop-copy-test.true in omega arith))
