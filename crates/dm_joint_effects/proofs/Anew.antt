-- A row that is taken out, changed and put back, or put in anew where there was none.
use Rattle.std.proofs.Common.{◌≡◌, Option, None, Some, sym, ap, ◌∙◌, Ordering}
use Rattle.std.specs.FinMap.{FinMap, get, insert, remove}
use Rattle.dm_tables.proofs.Orders.{KeyOrder}
use Rattle.dm_tables.specs.Rows.{adjust}
use Rattle.dm_tables.proofs.Adjusted.{adjust-there, adjust-none}
use Rattle.dm_tables.proofs.Rows.{insert-remove, remove-none}

module _ {K X : Type 0} {R : K → K → Ordering} (o : KeyOrder R) where
  put_anew : (m out back : FinMap R X) (k : K) (y : X) → out ≡ remove m k → back ≡ insert out k y → back ≡ insert m k y
  put_anew m out back k y taken put = put ∙ ap (λ n. insert n k y) taken ∙ insert-remove o m k y

  -- what was found, or stands for it where there is none, is changed
  pub changed_anew : (m out back : FinMap R X) (key k : K) (or_new : Option X → X) (f : X → X) (found : Option X) (was now : X)
      → key ≡ k → found ≡ get m key → out ≡ remove m key → was ≡ or_new found → now ≡ f was → back ≡ insert out key now → back ≡ insert m k (f (or_new (get m k)))
  changed_anew m out back key k or_new f found was now key_is found_is taken was_is now_is put =
      let value : now ≡ f (or_new (get m k)) = now_is ∙ ap f (was_is ∙ ap or_new (found_is ∙ ap (λ (q : K). get m q) key_is)) in
      put_anew m out back key now taken put ∙ ap (λ (q : K). insert m q now) key_is ∙ ap (insert m k) value

  -- a row that is changed by value is adjusted
  pub put_back : (m out back : FinMap R X) (k : K) (f : X → X) (x y : X) → Some x ≡ get m k → out ≡ remove m k → y ≡ f x → back ≡ insert out k y → back ≡ adjust m k f
  put_back m out back k f x y there taken changed put =
      put_anew m out back k y taken put ∙ ap (insert m k) changed ∙ sym (adjust-there m k f x (sym there))

  -- where there is none, nothing changes
  pub none_there : (m out : FinMap R X) (k : K) (f : X → X) → None ≡ get m k → out ≡ remove m k → out ≡ adjust m k f
  none_there m out k f none taken = taken ∙ remove-none o m k (sym none) ∙ sym (adjust-none m k f (sym none))
