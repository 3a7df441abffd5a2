-- The entries that files and dumps are kept in, as finite maps.
use Rattle.std.proofs.Common.{◌≡◌, ◌≢◌, ℕ, List, [], ◌∷◌, false, Option, Some, None, cond, refl, ap, sym, ◌∙◌}
use Rattle.std.specs.declared.cmp.Ordering.TheVariants.{Less, Equal, Greater}
use Rattle.std.specs.Ordering.{nat_cmp, is_eq, eq_by_cmp}
use Rattle.std.specs.Cmp.{eq_by_cmp_equiv, tied_itself}
use Rattle.std.specs.Cmp.Lexicographic.{slice_cmp, nat_list_cmp_total}
use Rattle.std.specs.List.{IsDistinct}
use Rattle.std.specs.Map.{lookup, keys_of, update_all}
use Rattle.std.specs.BTreeMap.{is_at}
use Rattle.std.specs.FinMap.{FinMap, empty, get, insert, remove, find, from_entries, get-empty, get-from_entries, get-insert, get-remove, same_map}
use Rattle.std.proofs.lemmas.Map.Lookups.{exact_bytes}
use Rattle.std.proofs.lemmas.Map.Made.{update_all_none}

abbrev pub Table : Type 0 → Type 0
Table X = FinMap (slice_cmp nat_cmp) X

turned : (key q : List ℕ) → is_at (slice_cmp nat_cmp key) q ≡ eq_by_cmp (slice_cmp nat_cmp) q key
turned key q = (eq_by_cmp_equiv nat_list_cmp_total).symm key q

-- keys that differ don't tie
apart : (x y : List ℕ) → x ≢ y → eq_by_cmp (slice_cmp nat_cmp) x y ≡ false
apart x y differ =
    elim (slice_cmp nat_cmp x y) as (λ o. slice_cmp nat_cmp x y ≡ o → is_eq o ≡ false) [
      | Less ↦ λ e. refl
      | Equal ↦ λ e. absurd (differ (exact_bytes x y e))
      | Greater ↦ λ e. refl
    ] refl

module _ {X : Type 0} where
  -- what the entries have at a key
  abbrev pub entry_at : List (List ℕ × X) → List ℕ → Option X
  entry_at es key = lookup (is_at (slice_cmp nat_cmp key)) es

  find_entry : (es : List (List ℕ × X)) (q : List ℕ) → find (slice_cmp nat_cmp) q es ≡ entry_at es q
  find_entry [] q = refl
  find_entry (e ∷ es) q = ap (cond (is_at (slice_cmp nat_cmp q) e.0) (Some e.1)) (find_entry es q)

  pub get-entries_at : (es : List (List ℕ × X)) (q : List ℕ) → get (from_entries {R = slice_cmp nat_cmp} es) q ≡ entry_at es q
  get-entries_at es q = get-from_entries nat_list_cmp_total es q ∙ find_entry es q

  -- entries that differ at one key, which have a value there
  pub one_inserted : (es fs : List (List ℕ × X)) (key : List ℕ) (x : X) → ((q : List ℕ) → entry_at fs q ≡ cond (is_at (slice_cmp nat_cmp key) q) (Some x) (entry_at es q)) → from_entries {R = slice_cmp nat_cmp} fs ≡ insert (from_entries es) key x
  one_inserted es fs key x h = same_map nat_list_cmp_total exact_bytes (from_entries fs) (insert (from_entries es) key x) (λ q.
      get-entries_at fs q ∙ h q ∙ ap (λ b. cond b (Some x) (entry_at es q)) (turned key q)
      ∙ sym (get-insert nat_list_cmp_total (from_entries es) key x q ∙ ap (cond (eq_by_cmp (slice_cmp nat_cmp) q key) (Some x)) (get-entries_at es q)))

  -- and which have none
  pub one_removed : (es fs : List (List ℕ × X)) (key : List ℕ) → ((q : List ℕ) → entry_at fs q ≡ cond (is_at (slice_cmp nat_cmp key) q) None (entry_at es q)) → from_entries {R = slice_cmp nat_cmp} fs ≡ remove (from_entries es) key
  one_removed es fs key h = same_map nat_list_cmp_total exact_bytes (from_entries fs) (remove (from_entries es) key) (λ q.
      get-entries_at fs q ∙ h q ∙ ap (λ b. cond b None (entry_at es q)) (turned key q)
      ∙ sym (get-remove nat_list_cmp_total (from_entries es) key q ∙ ap (cond (eq_by_cmp (slice_cmp nat_cmp) q key) None) (get-entries_at es q)))

  -- a map with these entries put in one after another
  abbrev pub poured : List (List ℕ × X) → Table X → Table X
  poured [] m = m
  poured (e ∷ es) m = poured es (insert m e.0 e.1)

  get-poured : (es : List (List ℕ × X)) (m : Table X) (f : List ℕ → Option X) → ((q : List ℕ) → get m q ≡ f q) → (q : List ℕ) → get (poured es m) q ≡ update_all (eq_by_cmp (slice_cmp nat_cmp)) f es q
  get-poured [] m f h q = h q
  get-poured (e ∷ es) m f h q = get-poured es (insert m e.0 e.1) (λ k. cond (eq_by_cmp (slice_cmp nat_cmp) e.0 k) (Some e.1) (f k)) (λ k.
      get-insert nat_list_cmp_total m e.0 e.1 k ∙ ap (λ b. cond b (Some e.1) (get m k)) (sym (turned e.0 k)) ∙ ap (cond (eq_by_cmp (slice_cmp nat_cmp) e.0 k) (Some e.1)) (h k)) q

  -- entries of which no two have one key, put into an empty map
  pub poured-empty : (es : List (List ℕ × X)) → IsDistinct (eq_by_cmp (slice_cmp nat_cmp)) (keys_of es) → poured es empty ≡ from_entries es
  poured-empty es distinct = same_map nat_list_cmp_total exact_bytes (poured es empty) (from_entries es) (λ q.
      get-poured es empty (λ _. None) (get-empty (slice_cmp nat_cmp)) q
      ∙ update_all_none (eq_by_cmp_equiv nat_list_cmp_total) (eq_by_cmp (slice_cmp nat_cmp)) (λ x y. refl) es q distinct
      ∙ sym (get-entries_at es q))

  -- the step of a loop that puts in what is left, one entry after another
  pub poured_on : (es fs left rest : List (List ℕ × X)) (k key : List ℕ) (v x : X) (whole : Table X) → left ≡ (k, v) ∷ rest → key ≡ k → x ≡ v → ((q : List ℕ) → entry_at fs q ≡ cond (is_at (slice_cmp nat_cmp key) q) (Some x) (entry_at es q)) → poured left (from_entries es) ≡ whole → poured rest (from_entries fs) ≡ whole
  poured_on es fs left rest k key v x whole is at same h so_far =
      ap (poured rest) (one_inserted es fs key x h ∙ ap (λ (j : List ℕ). insert (from_entries es) j x) at ∙ ap (λ (w : X). insert (from_entries es) k w) same)
      ∙ sym (ap (λ (l : List (List ℕ × X)). poured l (from_entries es)) is) ∙ so_far

  pub poured_whole : (none left all : List (List ℕ × X)) → none ≡ [] → left ≡ all → IsDistinct (eq_by_cmp (slice_cmp nat_cmp)) (keys_of all) → poured left (from_entries none) ≡ from_entries all
  poured_whole none left all empty is distinct =
      ap (λ (l : List (List ℕ × X)). poured left (from_entries l)) empty ∙ ap (λ (l : List (List ℕ × X)). poured l (from_entries [])) is ∙ poured-empty all distinct

  -- what a key has, put in again
  pub insert_same : (m : Table X) (key : List ℕ) (x : X) → get m key ≡ Some x → insert m key x ≡ m
  insert_same m key x there = same_map nat_list_cmp_total exact_bytes (insert m key x) m (λ q.
      get-insert nat_list_cmp_total m key x q
      ∙ elim (slice_cmp nat_cmp q key) as (λ o. slice_cmp nat_cmp q key ≡ o → cond (is_eq o) (Some x) (get m q) ≡ get m q) [
        | Less ↦ λ e. refl
        | Equal ↦ λ e. sym (ap (get m) (exact_bytes q key e) ∙ there)
        | Greater ↦ λ e. refl
      ] refl)

  -- a key that isn't there, taken out
  pub remove_absent : (m : Table X) (key : List ℕ) → get m key ≡ None → remove m key ≡ m
  remove_absent m key absent = same_map nat_list_cmp_total exact_bytes (remove m key) m (λ q.
      get-remove nat_list_cmp_total m key q
      ∙ elim (slice_cmp nat_cmp q key) as (λ o. slice_cmp nat_cmp q key ≡ o → cond (is_eq o) None (get m q) ≡ get m q) [
        | Less ↦ λ e. refl
        | Equal ↦ λ e. sym (ap (get m) (exact_bytes q key e) ∙ absent)
        | Greater ↦ λ e. refl
      ] refl)

  pub get-insert_same : (m : Table X) (key : List ℕ) (x : X) → get (insert m key x) key ≡ Some x
  get-insert_same m key x = get-insert nat_list_cmp_total m key x key ∙ ap (λ o. cond (is_eq o) (Some x) (get m key)) (tied_itself nat_list_cmp_total key)

  pub get-insert_other : (m : Table X) (key other : List ℕ) (x : X) → other ≢ key → get (insert m key x) other ≡ get m other
  get-insert_other m key other x differ = get-insert nat_list_cmp_total m key x other ∙ ap (λ b. cond b (Some x) (get m other)) (apart other key differ)

  pub get-remove_same : (m : Table X) (key : List ℕ) → get (remove m key) key ≡ None
  get-remove_same m key = get-remove nat_list_cmp_total m key key ∙ ap (λ o. cond (is_eq o) None (get m key)) (tied_itself nat_list_cmp_total key)

  pub get-remove_other : (m : Table X) (key other : List ℕ) → other ≢ key → get (remove m key) other ≡ get m other
  get-remove_other m key other differ = get-remove nat_list_cmp_total m key other ∙ ap (λ b. cond b None (get m other)) (apart other key differ)
