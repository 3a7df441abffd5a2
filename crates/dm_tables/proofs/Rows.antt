-- The rows of a table after a change, and what holds of each of them.
use Rattle.std.proofs.Common.{◌≡◌, ◌≢◌, ◌⊎◌, cond, None, Some, refl, sym, ap, subst, ◌∙◌, inl, inr, Ordering}
use Rattle.std.specs.FinMap.{FinMap, empty, get, insert, remove, get-empty, get-insert, get-remove, same_map}
use Rattle.dm_tables.specs.Rows.{EachRow}
use Rattle.dm_tables.proofs.Orders.{KeyOrder, same_or, tied, apart}

-- anything holds of each of no rows
pub each-empty : {K X : Type 0} (R : K → K → Ordering) (P : K → X → Type 0) → EachRow (empty {X = X} {R = R}) P
each-empty {X = X} R P = λ k x e. let f = get-empty {X = X} R k in cc

module _ {K X : Type 0} {R : K → K → Ordering} where
  -- one row stands at one key
  pub one_row : (m : FinMap R X) (k q : K) (x y : X) → k ≡ q → get m k ≡ Some x → get m q ≡ Some y → x ≡ y
  one_row m k q x y same e f = let g = ap (get m) same in cc

  -- what follows from what holds of each row
  pub each-weaker : (P Q : K → X → Type 0) (m : FinMap R X) → ((k : K) (x : X) → P k x → Q k x) → EachRow m P → EachRow m Q
  each-weaker P Q m weaker each = λ k x e. weaker k x (each k x e)

module _ {K X : Type 0} {R : K → K → Ordering} (o : KeyOrder R) where
  -- tables with equal look-ups are equal
  pub same_rows : (m n : FinMap R X) → ((q : K) → get m q ≡ get n q) → m ≡ n
  same_rows m n is = same_map o.total o.same m n is

  -- look-ups after a row was put there
  pub get-here : (m : FinMap R X) (k : K) (v : X) → get (insert m k v) k ≡ Some v
  get-here m k v = get-insert o.total m k v k ∙ ap (λ b. cond b (Some v) (get m k)) (tied o k k refl)

  pub get-beside : (m : FinMap R X) (k : K) (v : X) (q : K) → q ≢ k → get (insert m k v) q ≡ get m q
  get-beside m k v q differ = get-insert o.total m k v q ∙ ap (λ b. cond b (Some v) (get m q)) (apart o k q differ)

  -- and after one was taken out
  pub removed-here : (m : FinMap R X) (k : K) → get (remove m k) k ≡ None
  removed-here m k = get-remove o.total m k k ∙ ap (λ b. cond b None (get m k)) (tied o k k refl)

  pub removed-beside : (m : FinMap R X) (k q : K) → q ≢ k → get (remove m k) q ≡ get m q
  removed-beside m k q differ = get-remove o.total m k q ∙ ap (λ b. cond b None (get m q)) (apart o k q differ)

  -- the row that was put there, or one that was
  pub inserted : (m : FinMap R X) (k : K) (v : X) (q : K) (x : X) → get (insert m k v) q ≡ Some x → ((q ≡ k) × (x ≡ v)) ⊎ ((q ≢ k) × (get m q ≡ Some x))
  inserted m k v q x e =
      elim (same_or o k q) [
        | inl same ↦ inl (same, let f = get-here m k v in let g = ap (get (insert m k v)) same in cc)
        | inr differ ↦ inr (differ, sym (get-beside m k v q differ) ∙ e)
      ]

  -- a row that is left was there
  pub removed : (m : FinMap R X) (k q : K) (x : X) → get (remove m k) q ≡ Some x → (q ≢ k) × (get m q ≡ Some x)
  removed m k q x e =
      elim (same_or o k q) [
        | inl same ↦ let f = removed-here m k in let g = ap (get (remove m k)) same in cc
        | inr differ ↦ (differ, sym (removed-beside m k q differ) ∙ e)
      ]

  -- P holds of the new row, and of those beside it
  pub each-beside : (P : K → X → Type 0) (m : FinMap R X) (k : K) (v : X) → P k v → ((q : K) (x : X) → q ≢ k → get m q ≡ Some x → P q x) → EachRow (insert m k v) P
  each-beside P m k v here beside = λ q x e.
      elim (inserted m k v q x e) [
        | inl at ↦ subst (λ y. P q y) (sym at.1) (subst (λ y. P y v) (sym at.0) here)
        | inr other ↦ beside q x other.0 other.1
      ]

  pub each-insert : (P : K → X → Type 0) (m : FinMap R X) (k : K) (v : X) → P k v → EachRow m P → EachRow (insert m k v) P
  each-insert P m k v here each = each-beside P m k v here (λ q x differ e. each q x e)

  -- P holds of the rows beside the one that is taken out
  pub each-left : (P : K → X → Type 0) (m : FinMap R X) (k : K) → ((q : K) (x : X) → q ≢ k → get m q ≡ Some x → P q x) → EachRow (remove m k) P
  each-left P m k beside = λ q x e. let was = removed m k q x e in beside q x was.0 was.1

  pub each-remove : (P : K → X → Type 0) (m : FinMap R X) (k : K) → EachRow m P → EachRow (remove m k) P
  each-remove P m k each = λ q x e. each q x (removed m k q x e).1

  -- ---- two changes
  pub insert-insert : (m : FinMap R X) (k : K) (v w : X) → insert (insert m k v) k w ≡ insert m k w
  insert-insert m k v w =
      same_rows _ _ (λ q. elim (same_or o k q) [
        | inl same ↦ ap (get (insert (insert m k v) k w)) same ∙ get-here (insert m k v) k w ∙ sym (ap (get (insert m k w)) same ∙ get-here m k w)
        | inr differ ↦ get-beside (insert m k v) k w q differ ∙ get-beside m k v q differ ∙ sym (get-beside m k w q differ)
      ])

  -- what is there, put there
  pub insert-same : (m : FinMap R X) (k : K) (v : X) → get m k ≡ Some v → insert m k v ≡ m
  insert-same m k v e =
      same_rows _ _ (λ q. elim (same_or o k q) [
        | inl same ↦ ap (get (insert m k v)) same ∙ get-here m k v ∙ sym e ∙ ap (get m) (sym same)
        | inr differ ↦ get-beside m k v q differ
      ])

  pub insert-swap : (m : FinMap R X) (k : K) (v : X) (q : K) (w : X) → k ≢ q → insert (insert m k v) q w ≡ insert (insert m q w) k v
  insert-swap m k v q w apart =
      same_rows _ _ (λ x. elim (same_or o k x) [
        | inl same ↦
            let e : x ≢ q = λ f. apart (sym same ∙ f) in
            get-beside (insert m k v) q w x e ∙ ap (get (insert m k v)) same ∙ get-here m k v ∙ sym (ap (get (insert (insert m q w) k v)) same ∙ get-here (insert m q w) k v)
        | inr differ ↦ elim (same_or o q x) [
          | inl same ↦ ap (get (insert (insert m k v) q w)) same ∙ get-here (insert m k v) q w ∙ sym (get-beside (insert m q w) k v x differ ∙ ap (get (insert m q w)) same ∙ get-here m q w)
          | inr other ↦ get-beside (insert m k v) q w x other ∙ get-beside m k v x differ ∙ sym (get-beside (insert m q w) k v x differ ∙ get-beside m q w x other)
        ]
      ])

  -- what is put there and taken out, and taken out and put there
  pub remove-insert : (m : FinMap R X) (k : K) (v : X) → remove (insert m k v) k ≡ remove m k
  remove-insert m k v =
      same_rows _ _ (λ q. elim (same_or o k q) [
        | inl same ↦ ap (get (remove (insert m k v) k)) same ∙ removed-here (insert m k v) k ∙ sym (ap (get (remove m k)) same ∙ removed-here m k)
        | inr differ ↦ removed-beside (insert m k v) k q differ ∙ get-beside m k v q differ ∙ sym (removed-beside m k q differ)
      ])

  pub insert-remove : (m : FinMap R X) (k : K) (v : X) → insert (remove m k) k v ≡ insert m k v
  insert-remove m k v =
      same_rows _ _ (λ q. elim (same_or o k q) [
        | inl same ↦ ap (get (insert (remove m k) k v)) same ∙ get-here (remove m k) k v ∙ sym (ap (get (insert m k v)) same ∙ get-here m k v)
        | inr differ ↦ get-beside (remove m k) k v q differ ∙ removed-beside m k q differ ∙ sym (get-beside m k v q differ)
      ])

  -- where there is none, none is taken out
  pub remove-none : (m : FinMap R X) (k : K) → get m k ≡ None → remove m k ≡ m
  remove-none m k e =
      same_rows _ _ (λ q. elim (same_or o k q) [
        | inl same ↦ ap (get (remove m k)) same ∙ removed-here m k ∙ sym e ∙ ap (get m) (sym same)
        | inr differ ↦ removed-beside m k q differ
      ])
