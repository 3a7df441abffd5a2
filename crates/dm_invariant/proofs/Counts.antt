-- How many rows a table has, after a change.
use Rattle.std.proofs.Common.{◌≡◌, ℕ, suc, ◌+◌, ◌-◌, ◌≤◌, Bool, true, false, cond, Option, Some, None, IsSome, is_some, List, [], ◌∷◌, length, Ordering, refl, sym, ap, ◌∙◌, arith}
use Rattle.std.specs.FinMap as map
use Rattle.dm_tables.specs.Rows.{adjust, changed, map_values}
use Rattle.dm_tables.proofs.Adjusted.{adjust-there, adjust-none}
use Rattle.dm_tables.proofs.Entries.{entries-mapped}
use Rattle.dm_tables.proofs.Orders.{KeyOrder}

at_most_more : (there : Bool) (n m : ℕ) → m ≡ cond there n (n + 1) → m ≤ n + 1
at_most_more true n m e = omega (arith, e)
at_most_more false n m e = omega (arith, e)

as_many : (there : Bool) (n m : ℕ) → there ≡ true → m ≡ cond there n (n + 1) → m ≡ n
as_many true n m is e = e
as_many false n m is e = cc

at_most_less : (there : Bool) (n m : ℕ) → m ≡ cond there (n - 1) n → m ≤ n
at_most_less true n m e = omega (arith, e)
at_most_less false n m e = omega (arith, e)

length_changed : {K X Y : Type 0} (f : K → X → Y) (es : List (K × X)) → length (changed f es) ≡ length es
length_changed f [] = refl
length_changed f (e ∷ es) = ap suc (length_changed f es)

module _ {K X : Type 0} {R : K → K → Ordering} (o : KeyOrder R) where
  -- one more at most
  pub counted_insert : (m : map.FinMap R X) (k : K) (v : X) → map.len (map.insert m k v) ≤ map.len m + 1
  counted_insert m k v = at_most_more (map.contains_key m k) (map.len m) _ (map.len-insert o.total m k v)

  -- none more where the key was there
  pub counted_put : (m : map.FinMap R X) (k : K) (v : X) → IsSome (map.get m k) → map.len (map.insert m k v) ≡ map.len m
  counted_put m k v there = as_many (map.contains_key m k) (map.len m) _ there (map.len-insert o.total m k v)

  pub counted_remove : (m : map.FinMap R X) (k : K) → map.len (map.remove m k) ≤ map.len m
  counted_remove m k = at_most_less (map.contains_key m k) (map.len m) _ (map.len-remove o.total m k)

  counted_adjust_at : (m : map.FinMap R X) (k : K) (f : X → X) (r : Option X) → map.get m k ≡ r → map.len (adjust m k f) ≡ map.len m
  counted_adjust_at m k f None e = ap map.len (adjust-none m k f e)
  counted_adjust_at m k f (Some x) e = ap map.len (adjust-there m k f x e) ∙ counted_put m k (f x) (ap is_some e)

  -- as many where a row is changed
  pub counted_adjust : (m : map.FinMap R X) (k : K) (f : X → X) → map.len (adjust m k f) ≡ map.len m
  counted_adjust m k f = counted_adjust_at m k f (map.get m k) refl

  -- or each
  pub counted_mapped : {Y : Type 0} (f : K → X → Y) (m : map.FinMap R X) → map.len (map_values f m) ≡ map.len m
  counted_mapped f m =
      map.len-entries (map_values f m) ∙ ap length (entries-mapped o f m) ∙ length_changed f (map.entries m) ∙ sym (map.len-entries m)
