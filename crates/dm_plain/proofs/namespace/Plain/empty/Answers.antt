use Rattle.dm_plain.proofs.NamespaceEntries.{no_entries}
use Rattle.dm_plain.proofs.namespace.Plain.empty.Goals as goal

pub returns : goal.returns
returns c = no_entries c.new.result.entries c.empty.result.rows c.args.age c.new.ensures.empty c.empty.ensures
