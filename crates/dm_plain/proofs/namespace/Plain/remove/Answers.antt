use Rattle.std.proofs.Common.{ap, ◌∙◌}
use Rattle.dm_plain.specs.Steps.{without_file}
use Rattle.dm_plain.proofs.NamespaceEntries.{one_file_less}
use Rattle.dm_plain.proofs.namespace.Plain.remove.Goals as goal

pub returns : goal.returns
returns c =
    one_file_less c.self.inside.files.entries c.remove.new.self.entries c.self.inside.dumps.rows c.self.inside.now.0 c.self.inside.age c.args.path.now
    c.remove.ensures.updates.0
    ∙ ap (without_file c.args.path.now) c.self.view_is
