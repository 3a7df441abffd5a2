use Rattle.std.proofs.Common.{ap, ◌∙◌}
use Rattle.std.specs.FinMap.{remove}
use Rattle.dm_plain.specs.Steps.{without_dump}
use Rattle.dm_plain.proofs.NamespaceEntries.{namespace, one_dump_less}
use Rattle.dm_plain.proofs.namespace.Plain.undump.Goals as goal

pub returns : goal.returns
returns c =
    one_dump_less (namespace c.self.inside.files.entries c.self.inside.dumps.rows c.self.inside.now.0 c.self.inside.age) c.remove.new.self.rows c.args.name.now
    (c.remove.ensures.rows ∙ ap (remove c.self.inside.dumps.rows) c.bytes.ensures.text)
    ∙ ap (without_dump c.args.name.now) c.self.view_is
