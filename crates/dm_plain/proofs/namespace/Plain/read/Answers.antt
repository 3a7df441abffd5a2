use Rattle.std.proofs.Common.{Some, ap, sym, ◌∙◌}
use Rattle.dm_plain.specs.Namespace.{bytes_of}
use Rattle.dm_plain.proofs.NamespaceEntries.{bytes_of_entries}
use Rattle.dm_plain.proofs.namespace.Plain.read.Goals as goal

pub returns-in-Some : goal.returns-in-Some
returns-in-Some c =
    ap Some c.as_slice.ensures
    ∙ c.in-Some.ensures.value
    ∙ sym (bytes_of_entries c.self.inside.files.entries c.self.inside.dumps.rows c.self.inside.now.0 c.self.inside.age c.args.path.now)
    ∙ ap (bytes_of c.args.path.now) c.self.view_is

pub returns-in-None : goal.returns-in-None
returns-in-None c =
    c.in-None.ensures.value
    ∙ sym (bytes_of_entries c.self.inside.files.entries c.self.inside.dumps.rows c.self.inside.now.0 c.self.inside.age c.args.path.now)
    ∙ ap (bytes_of c.args.path.now) c.self.view_is
