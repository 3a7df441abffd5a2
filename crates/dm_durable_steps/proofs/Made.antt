-- A loop that makes a row of each row of another table.
use Rattle.std.proofs.Common.{◌≡◌, List, ◌∷◌, ap, sym, ◌∙◌, Ordering}
use Rattle.std.specs.FinMap.{FinMap, empty, insert, entries}
use Rattle.dm_tables.specs.Rows.{changed, map_values}
use Rattle.dm_tables.proofs.Orders.{KeyOrder}
use Rattle.dm_tables.proofs.Entries.{entries-mapped}
use Rattle.dm_tables.proofs.Copies.{poured, poured_whole, poured_on}

module _ {K X Y : Type 0} {R : K → K → Ordering} (o : KeyOrder R) where
  pub made_whole : (f : K → X → Y) (left : List (K × X)) (none : FinMap R Y) (m : FinMap R X) → none ≡ empty → left ≡ entries m → poured (changed f left) none ≡ map_values f m
  made_whole f left none m no_rows is =
      poured_whole o (changed f left) none (map_values f m) no_rows (ap (changed f) is ∙ sym (entries-mapped o f m))

module _ {K X Y : Type 0} {R : K → K → Ordering} where
  pub made_on : (f : K → X → Y) (left rest : List (K × X)) (m n : FinMap R Y) (k key : K) (v : X) (x : Y) (whole : FinMap R Y) → left ≡ (k, v) ∷ rest → n ≡ insert m key x → key ≡ k → x ≡ f k v → poured (changed f left) m ≡ whole → poured (changed f rest) n ≡ whole
  made_on f left rest m n k key v x whole is put at same so_far =
      poured_on (changed f left) (changed f rest) m n k key (f k v) x whole (ap (changed f) is) put at same so_far
