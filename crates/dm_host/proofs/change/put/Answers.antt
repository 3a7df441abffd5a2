use Rattle.std.proofs.Common.{◌∷◌, List, reverse, length, ap, ◌∙◌}
use Rattle.dm_host.specs.declared.change.Change.{Change}
use Rattle.dm_host.specs.declared.change.Change.TheVariants.{Wrote}
use Rattle.dm_host.specs.Past.{contents}
use Rattle.dm_host.proofs.Kept.{puts_from}
use Rattle.dm_host.proofs.change.put.Goals as goal

pub returns-clause-ok : goal.returns-clause-ok
returns-clause-ok c =
    puts_from c.args.file c.args.place c.args.bytes.now c.bytes_of-old.result.now c.in_ok-before.before
    (reverse c.args.log.now.items) (reverse c.note.new.log.items)
    (contents c.args.files.now.items) (contents c.grow_to.new.files.items) (contents c.write_into.new.files.items)
    (c.bytes_of-old.ensures ∙ ap (λ fs. contents fs c.args.file) c.deref.ensures.value) c.in_ok-before.ensures c.grow_to.ensures.same
    c.in_ok-write_into.ensures.ok c.write_into.ensures.others
    (c.note.ensures ∙ ap (λ (l : List Change). Wrote c.args.file c.args.place (length c.args.bytes.now) (length c.bytes_of-old.result.now) c.in_ok-before.before ∷ reverse l) c.reserve.ensures.items)
