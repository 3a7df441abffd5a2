use Rattle.std.proofs.Common.{◌≡◌, ℕ, ap, ◌∙◌, arith}
use Rattle.std.specs.FinMap.{from_entries}
use Rattle.dm_rules.specs.Numbers.{lesser}
use Rattle.dm_plain.specs.Namespace.{PlainDump}
use Rattle.dm_plain.specs.Steps.{with_lower_least}
use Rattle.dm_plain.proofs.dump.Dump.lower.Goals as goal

pub returns : goal.returns
unfolding with_lower_least
returns c =
    let least : c.min-self-inside.result ≡ lesser c.self.inside.least c.args.age = omega (arith, c.min-self-inside.ensures) in
    ap (λ (n : ℕ). let to : PlainDump = record { made = c.self.inside.made.0; least = n; files = from_entries c.self.inside.files.entries } in to) least
    ∙ ap (with_lower_least c.args.age) c.self.view_is
