use Rattle.std.proofs.Common.{ap, ◌∙◌}
use Rattle.dm_plain.specs.Steps.{with_age}
use Rattle.dm_plain.proofs.NamespaceEntries.{namespace, one_aged}
use Rattle.dm_plain.proofs.namespace.Plain.set_age.Goals as goal

pub returns : goal.returns
returns c =
    one_aged (namespace c.self.inside.files.entries c.self.inside.dumps.rows c.self.inside.now.0 c.self.inside.age) c.change_all.new.self.rows c.args.age c.change_all.ensures.rows ∙ ap (with_age c.args.age) c.self.view_is
