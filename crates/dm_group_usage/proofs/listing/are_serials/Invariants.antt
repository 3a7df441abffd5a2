use Rattle.std.proofs.Common.{◌≡◌, nat_eq, length}
use Rattle.std.specs.List.{list_all}
use Rattle.dm_group_usage.specs.Range.{are_serials_in}
use Rattle.dm_group_usage.proofs.listing.are_serials.Given as goal

-- what is left is to be tested
abbrev pub invariant-loop-text : goal.invariant-loop-text
invariant-loop-text l = list_all (λ e. nat_eq (length e.0) 6) l.text-iterator ≡ are_serials_in l.volumes
