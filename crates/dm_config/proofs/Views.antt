-- What the map of a table says of its members.
use Rattle.std.proofs.Common.{◌≡◌, Bool, List, [], ◌∷◌, map, refl, ap, ◌∙◌, ◌&&◌, ◌||◌, nat_eq, string_bytes, is_some, IsTrue, true, false, ℕ, Bor, not, length, None, rules, arith, ◌≤◌}
use Rattle.std.specs.List.{list_all, list_any}
use Rattle.std.specs.Map.{keys_of, values_of}
use lib.Pointwise.{pointwise}
use Rattle.toml.specs.Data.{Members, as_table}
use Rattle.toml.specs.View.{view, items_view, members_view}
use Rattle.toml.proofs.Views.{Entry}
use Rattle.dm_config.specs.Value.{has_only, is_one_of, are_tables, copies_of}
use Rattle.dm_config.specs.Rows.{is_filled, group_is_known, groups_are_known}
use Rattle.toml.specs.declared.value.Value.{Value}

pub one_of_borrowed : (key : List ℕ) (names : List (Bor (List ℕ))) → list_any (λ (s : Bor (List ℕ)). pointwise nat_eq key s.now) names ≡ is_one_of (map (λ (s : Bor (List ℕ)). s.now) names) key
one_of_borrowed key [] = refl
one_of_borrowed key (n ∷ ns) = ap (λ b. pointwise nat_eq key n.now || b) (one_of_borrowed key ns)

pub only_keys : (names : List (Bor (List ℕ))) (es : List Entry)
    → list_all (λ k. list_any (λ (s : Bor (List ℕ)). pointwise nat_eq (string_bytes k) s.now) names) (keys_of es) ≡ has_only (map (λ (s : Bor (List ℕ)). s.now) names) (members_view es)
only_keys names [] = refl
only_keys names (e ∷ es) =
    ap (λ b. b && list_all (λ k. list_any (λ (s : Bor (List ℕ)). pointwise nat_eq (string_bytes k) s.now) names) (keys_of es)) (one_of_borrowed (string_bytes e.0) names)
    ∙ ap (λ b. is_one_of (map (λ (s : Bor (List ℕ)). s.now) names) (string_bytes e.0) && b) (only_keys names es)

pub all_tables : (es : List Entry) → list_all (λ v. is_some (as_table (view v))) (values_of es) ≡ are_tables (members_view es)
all_tables [] = refl
all_tables (e ∷ es) = ap (λ b. is_some (as_table (view e.1)) && b) (all_tables es)

true_is : IsTrue true
true_is = search rules

false_is : IsTrue false → ⊥
false_is h = search rules

pub some_filled : (b : Bool) (es : List Entry) → (IsTrue b → length es ≡ 0) → (length es ≡ 0 → IsTrue b) → not b ≡ is_filled (members_view es)
some_filled true [] h k = refl
some_filled true (e ∷ es) h k = absurd (omega (arith, h true_is))
some_filled false [] h k = absurd (false_is (k refl))
some_filled false (e ∷ es) h k = refl

-- three items or more name no copies
pub many_copies : (groups : Members) (vs : List Value) → 3 ≤ length vs → None ≡ copies_of groups (items_view vs)
many_copies groups [] h = absurd (omega arith)
many_copies groups (a ∷ []) h = absurd (omega arith)
many_copies groups (a ∷ (b ∷ [])) h = absurd (omega arith)
many_copies groups (a ∷ (b ∷ (c ∷ vs))) h = refl

pub all_known : (es : List Entry) → list_all (λ v. group_is_known (view v)) (values_of es) ≡ groups_are_known (members_view es)
all_known [] = refl
all_known (e ∷ es) = ap (λ b. group_is_known (view e.1) && b) (all_known es)
