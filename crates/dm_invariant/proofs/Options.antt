-- Values that are there or not: what was looked up in a table.
use Rattle.std.proofs.Common.{◌≡◌, true, false, Option, Some, None, is_some, is_none, IsSome, option_map, refl, sym, subst}

-- one look-up finds one row
pub same_row : {X : Type 0} (o : Option X) (x y : X) → o ≡ Some x → o ≡ Some y → x ≡ y
same_row o x y e f = cc

-- it doesn't find both a row and none
pub none_some : {X : Type 0} (o : Option X) (x : X) → o ≡ None → o ≡ Some x → ⊥
none_some o x e f = cc

-- the value that is there
pub value_of : {X : Type 0} (o : Option X) → IsSome o → (x : X) × (o ≡ Some x)
value_of None is = cc
value_of (Some x) is = (x, refl)

-- what is the same as something that is there is there
pub there_as : {X : Type 0} (o p : Option X) → o ≡ p → IsSome o → IsSome p
there_as o p e is = subst (λ q. IsSome q) e is

-- a value is there
pub has_value : {X : Type 0} (o : Option X) (x : X) → o ≡ Some x → IsSome o
has_value o x e = there_as (Some x) o (sym e) refl

-- none is there
pub none_there : {X : Type 0} (o : Option X) → o ≡ None → IsSome o → ⊥
none_there o e is = let f = there_as o None e is in cc

-- where the test finds no value, there is none
pub no_value : {X : Type 0} (o : Option X) → is_some o ≡ false → o ≡ None
no_value None e = refl
no_value (Some x) e = cc

-- also by the other test
pub none_of : {X : Type 0} (o : Option X) → is_none o ≡ true → o ≡ None
none_of None e = refl
none_of (Some x) e = cc

-- where a function of it gives none, there is none
pub none_mapped : {X Y : Type 0} (f : X → Y) (o : Option X) → option_map f o ≡ None → o ≡ None
none_mapped f None e = refl
none_mapped f (Some x) e = cc

-- and where there is a value, so is that of the function
pub mapped_value : {X Y : Type 0} (f : X → Y) (o : Option X) → IsSome o → IsSome (option_map f o)
mapped_value f None is = cc
mapped_value f (Some x) is = refl
