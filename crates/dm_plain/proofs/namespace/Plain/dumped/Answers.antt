use Rattle.std.proofs.Common.{Some, None, ap, ◌∙◌}
use Rattle.std.specs.FinMap.{get}
use Rattle.dm_plain.specs.Steps.{bytes_dumped}
use Rattle.dm_plain.proofs.NamespaceEntries.{dumped_found, namespace}
use Rattle.dm_plain.proofs.namespace.Plain.dumped.Goals as goal

pub returns-in-Some : goal.returns-in-Some
returns-in-Some c =
    c.bytes_of.ensures
    ∙ dumped_found c.args.name.now c.args.path.now (Some c.in-Some.dump.now) (namespace c.self.inside.files.entries c.self.inside.dumps.rows c.self.inside.now.0 c.self.inside.age) (c.in-Some.ensures ∙ ap (get c.self.inside.dumps.rows) c.bytes.ensures.text)
    ∙ ap (bytes_dumped c.args.name.now c.args.path.now) c.self.view_is

pub returns-in-None : goal.returns-in-None
returns-in-None c =
    dumped_found c.args.name.now c.args.path.now None (namespace c.self.inside.files.entries c.self.inside.dumps.rows c.self.inside.now.0 c.self.inside.age) (c.in-None.ensures ∙ ap (get c.self.inside.dumps.rows) c.bytes.ensures.text)
    ∙ ap (bytes_dumped c.args.name.now c.args.path.now) c.self.view_is
