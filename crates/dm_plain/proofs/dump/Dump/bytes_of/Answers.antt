use Rattle.std.proofs.Common.{ap, sym, ◌∙◌}
use Rattle.dm_plain.specs.Namespace.{bytes_in}
use Rattle.dm_plain.proofs.NamespaceEntries.{bytes_in_entries}
use Rattle.dm_plain.proofs.dump.Dump.bytes_of.Goals as goal

pub returns : goal.returns
returns c =
    c.get.ensures.value ∙ sym (bytes_in_entries c.self.inside.files.entries c.self.inside.made.0 c.self.inside.least c.args.path.now)
    ∙ ap (bytes_in c.args.path.now) c.self.view_is
