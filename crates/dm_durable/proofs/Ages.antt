-- Ages of dumps.
use Rattle.std.proofs.Common.{◌≡◌, ℕ, ◌≤◌, arith}
use Rattle.dm_rules.specs.Numbers.{lesser}
use Rattle.dm_durable.specs.declared.daemon.Dump.{Dump}
use Rattle.dm_durable.specs.Dumps.{with_least}

-- two ages in turn lower `least` to the lesser of them
pub least_of_both : (a b : ℕ) (d : Dump) → with_least b (with_least a d) ≡ with_least (lesser a b) d
least_of_both a b d =
    let e : lesser (lesser d.least a) b ≡ lesser d.least (lesser a b) = omega arith in
    λ i. record d { least = e i }

-- no age makes a dump younger
pub least_no_greater : (a : ℕ) (d : Dump) → (with_least a d).least ≤ d.least
least_no_greater a d = omega arith

-- after an age no dump has a greater one
pub least_within : (a : ℕ) (d : Dump) → (with_least a d).least ≤ a
least_within a d = omega arith
