use Rattle.std.proofs.Common.{ℕ, List, ap, ◌∙◌}
use Rattle.std.specs.FinMap.{insert}
use Rattle.dm_plain.specs.Namespace.{PlainDump, Dumps}
use Rattle.dm_plain.specs.Steps.{with_dump}
use Rattle.dm_plain.proofs.NamespaceEntries.{one_dumped, namespace}
use Rattle.dm_plain.proofs.namespace.Plain.dump.Goals as goal

pub returns-clause-ok : goal.returns-clause-ok
returns-clause-ok c =
    one_dumped (namespace c.self.inside.files.entries c.self.inside.dumps.rows c.self.inside.now.0 c.self.inside.age) c.insert_reserved.new.self.rows c.args.name c.in_ok-dump.dump c.in_ok-dump.ensures
    (c.insert_reserved.ensures.rows
    ∙ ap (λ (rows : Dumps). insert rows c.in_ok-row.row.value.0 c.in_ok-row.row.value.1) c.in_ok-reserve.ensures.rows
    ∙ ap (λ (row : List ℕ × PlainDump). insert c.self.inside.dumps.rows row.0 row.1) c.in_ok-row.ensures.ok)
    ∙ ap (with_dump c.args.name) c.self.view_is
