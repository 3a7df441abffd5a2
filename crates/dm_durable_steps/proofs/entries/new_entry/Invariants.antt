use Rattle.std.proofs.Common.{◌≡◌, ◌++◌, map, false, drop}
use Rattle.dm_durable.specs.declared.daemon.AskedCopy.{AskedCopy}
use Rattle.dm_base.specs.declared.identifier.GroupId.{GroupId}
use Rattle.dm_durable_steps.proofs.entries.new_entry.Given as goal

abbrev pub invariant-loop-group : goal.invariant-loop-group
invariant-loop-group l =
    let asking : GroupId → AskedCopy = λ g. record { group = g; stored = false } in
    map asking l.groups ≡ l.copies.items ++ map asking (drop l.group-index l.groups)
