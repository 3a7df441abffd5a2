use Rattle.std.proofs.Common.{◌≡◌, ◌++◌, drop, option_map, vec_len}
use Rattle.toml.specs.View.{items_view}
use Rattle.dm_config.specs.Value.{serials_in}
use Rattle.dm_config.proofs.volumes.serials_of.Given as goal

abbrev pub invariant-loop-item : goal.invariant-loop-item
invariant-loop-item l = record {
  many : vec_len l.volumes ≡ l.item-index;
  taken : l.taken.items ≡ l.fn.taken.items ++ l.volumes.items;
  rest : serials_in l.fn.taken.items (items_view l.items) ≡ option_map (λ vs. l.volumes.items ++ vs) (serials_in l.taken.items (items_view (drop l.item-index l.items)));
}
