use Rattle.std.proofs.Common.{◌≡◌, ◌+◌, length, drop}
use Rattle.std.specs.List.{flat_map}
use Rattle.dm_fields.proofs.lists.items_len.Given as goal

abbrev pub invariant-loop-item : goal.invariant-loop-item
invariant-loop-item g l = l.sum + length (flat_map g.T.Spelled.spelling (drop l.item-index l.fn.items)) ≡ length (flat_map g.T.Spelled.spelling l.fn.items)
