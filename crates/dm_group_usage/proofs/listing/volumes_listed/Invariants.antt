use Rattle.std.proofs.Common.{◌≡◌, ◌++◌}
use Rattle.std.specs.FinMap.{entries}
use Rattle.dm_group_usage.proofs.Listed.{listed}
use Rattle.dm_group_usage.proofs.listing.volumes_listed.Given as goal

-- the list, with what is listed of the volumes that are left, is whole
abbrev pub invariant-loop-text : goal.invariant-loop-text
invariant-loop-text g l = l.rows.items ++ listed (g.L.Listing.listed l.listing) l.text-iterator ≡ listed (g.L.Listing.listed l.listing) (entries l.volumes)
