use Rattle.std.proofs.Common.{ap, ◌∙◌}
use Rattle.dm_plain.specs.Namespace.{with_file}
use Rattle.dm_plain.proofs.NamespaceEntries.{one_written}
use Rattle.dm_plain.proofs.namespace.Plain.write.Goals as goal

pub returns-clause-ok : goal.returns-clause-ok
returns-clause-ok c =
    one_written c.self.inside.files.entries c.insert.new.self.entries c.self.inside.dumps.rows c.self.inside.now.0 c.self.inside.age c.args.path c.args.bytes
    c.in_ok-insert.ensures.updates.0
    ∙ ap (with_file c.args.path c.args.bytes) c.self.view_is
