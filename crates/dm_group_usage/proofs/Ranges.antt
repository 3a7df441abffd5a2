-- Tests whether all is in range, and what it tells of a group that one fails.
use Rattle.std.proofs.Common.{◌≡◌, ℕ, zero, suc, ◌+◌, ◌-◌, ◌<◌, ◌≤◌, Bool, true, false, cond, ◌&&◌, ◌||◌, List, [], ◌∷◌, ◌++◌, length, get_or, arith, nat_eq, nat_le, refl, sym, ap, ◌∙◌, Option, None, Some}
use Rattle.std.specs.Prelude as prelude
use Rattle.std.specs.Prelude.{find}
use Rattle.std.specs.List.{AllByRecursion, flat_map, list_all}
use Rattle.std.specs.FinMap.{entries, get}
use Rattle.std.proofs.lemmas.Bool.{and_parts, eq-eqb, le-leb}
use Rattle.dm_base.specs.declared.identifier.Secs.{Secs}
use Rattle.dm_base.specs.declared.serial.Vsn.{Vsn}
use Rattle.dm_durable.specs.declared.group.VolumeRow.{VolumeRow}
use Rattle.dm_durable.specs.Tables.{ByName, ByNumber}
use Rattle.dm_durable.specs.Volumes.{Usage, is_listed, of_serial, space_if, target_spaces, tip_in}
use Rattle.dm_group_usage.specs.Range.{IsGroupInRange, are_pieces_in_range, are_serials_in, is_reserved_in_range, is_space_in_range, is_target_in_range}
use Rattle.dm_model.specs.declared.state.Group.{Group}
use Rattle.dm_model.specs.declared.state.Reserved.{Reserved}
use Rattle.dm_model.specs.Volumes.{usage_of}
use Rattle.dm_rules.specs.declared.space.Space.{Space}
use Rattle.dm_rules.specs.Merge.{destination, first_with_room, or_else}
use Rattle.dm_rules.specs.Numbers.{last_u64}
use Rattle.dm_rules.specs.Version.{chunk_header, first_version, second_version}
use Rattle.dm_rules.specs.Zone.{zone_header}
use Rattle.dm_tables.proofs.Entries.{entries-each}
use Rattle.dm_tables.proofs.Orders.{paths}

-- ---- a test of each element of a list
module _ {A : Type 0} (p : A → Bool) where
  -- a loop over them
  pub all_on : (left rest : List A) (x : A) (whole : Bool) → left ≡ x ∷ rest → p x ≡ true → list_all p left ≡ whole → list_all p rest ≡ whole
  all_on left rest x whole is here so = sym (ap (list_all p) is ∙ ap (λ b. b && list_all p rest) here) ∙ so

  pub all_not : (left rest : List A) (x : A) (whole : Bool) → left ≡ x ∷ rest → p x ≡ false → list_all p left ≡ whole → false ≡ whole
  all_not left rest x whole is here so = sym (ap (list_all p) is ∙ ap (λ b. b && list_all p rest) here) ∙ so

  pub all_end : (left : List A) (whole : Bool) → left ≡ [] → list_all p left ≡ whole → true ≡ whole
  all_end left whole none so = sym (ap (list_all p) none) ∙ so

  -- where all pass, so does the one at an index
  pub all_at : (xs : List A) (i : ℕ) (d : A) → list_all p xs ≡ true → i < length xs → p (get_or xs i d) ≡ true
  all_at [] i d all within = absurd (omega arith)
  all_at (x ∷ xs) zero d all within = (and_parts _ _ all).0
  all_at (x ∷ xs) (suc i) d all within = all_at xs i d (and_parts _ _ all).1 (omega arith)

  all_apart : (xs ys : List A) → list_all p xs ≡ true → list_all p ys ≡ true → list_all p (xs ++ ys) ≡ true
  all_apart [] ys left right = right
  all_apart (x ∷ xs) ys left right =
      let parts = and_parts _ _ left in
      ap (λ b. b && list_all p (xs ++ ys)) parts.0 ∙ all_apart xs ys parts.1 right

  -- what holds of each is tested
  all_pass : (P : A → Type 0) → ((x : A) → P x → p x ≡ true) → (xs : List A) → AllByRecursion P xs → list_all p xs ≡ true
  all_pass P test [] each = refl
  all_pass P test (x ∷ xs) each = ap (λ b. b && list_all p xs) (test x each.0) ∙ all_pass P test xs each.1

-- ---- serial numbers

-- where each volume stands under one, all are told
pub all_told : {X : Type 0} (f : List ℕ → VolumeRow → X) (es : List (List ℕ × VolumeRow)) → list_all (λ e. nat_eq (length e.0) 6) es ≡ true → flat_map (λ e. of_serial e.0 (f e.0 e.1 ∷ [])) es ≡ prelude.map (λ e. f e.0 e.1) es
all_told f [] all = refl
all_told f (e ∷ es) all =
    let parts = and_parts _ _ all in
    ap (λ b. cond b (f e.0 e.1 ∷ []) [] ++ flat_map (λ e. of_serial e.0 (f e.0 e.1 ∷ [])) es) parts.0
    ∙ ap (λ l. f e.0 e.1 ∷ l) (all_told f es parts.1)

pub serials_out : (group : Group) → are_serials_in group.tables.volumes ≡ false → IsGroupInRange group → ⊥
serials_out group out within =
    let volumes = group.tables.volumes in
    let each = entries-each paths (λ vsn (v : VolumeRow). length vsn ≡ 6) volumes within.serials in
    let all : are_serials_in volumes ≡ true =
    all_pass (λ (e : List ℕ × VolumeRow). nat_eq (length e.0) 6) (λ e. length e.0 ≡ 6) (λ e h. eq-eqb (length e.0) 6 h) (entries volumes) each in
    cc (out, all)

-- ---- pieces of reservations
pub reserved_out : (group : Group) (n : ℕ) (r : Option Reserved) → r ≡ get group.reservations n → is_reserved_in_range r ≡ false → IsGroupInRange group → ⊥
reserved_out group n None is out within = cc
reserved_out group n (Some r) is out within = let all = within.pieces n r (sym is) in cc (out, all)

-- ---- volumes that may take a chunk
abbrev tip_fits : Usage → List ℕ × VolumeRow → Type 0
tip_fits u e = tip_in u.tips e.0 e.1 + zone_header + chunk_header e.1.version ≤ last_u64

space_fits : (u : Usage) (e : List ℕ × VolumeRow) (held : Option Secs) → tip_fits u e → list_all is_space_in_range (space_if u e.0 e.1 held) ≡ true
space_fits u e None fits = ap (λ b. b && true) (le-leb (tip_in u.tips e.0 e.1 + zone_header + chunk_header e.1.version) last_u64 fits)
space_fits u e (Some since) fits = refl

either : (b : Bool) (xs ys : List Space) → list_all is_space_in_range xs ≡ true → list_all is_space_in_range ys ≡ true → list_all is_space_in_range (cond b xs ys) ≡ true
either true xs ys left right = left
either false xs ys left right = right

abbrev may_take : Usage → List Vsn → List ℕ × VolumeRow → List Space
may_take u merged e = cond (u.mounted e.0 || is_listed merged e.0) [] (space_if u e.0 e.1 e.1.held)

spaces_fit : (u : Usage) (merged : List Vsn) (es : List (List ℕ × VolumeRow)) → AllByRecursion (tip_fits u) es → list_all is_space_in_range (flat_map (λ e. of_serial e.0 (may_take u merged e)) es) ≡ true
spaces_fit u merged [] each = refl
spaces_fit u merged (e ∷ es) each =
    all_apart is_space_in_range (of_serial e.0 (may_take u merged e)) (flat_map (λ e. of_serial e.0 (may_take u merged e)) es)
    (either (nat_eq (length e.0) 6) (may_take u merged e) [] (either (u.mounted e.0 || is_listed merged e.0) [] (space_if u e.0 e.1 e.1.held) refl (space_fits u e e.1.held each.0)) refl)
    (spaces_fit u merged es each.1)

-- the one that is found is one of them
found_fits : (q : Space → Bool) (xs : List Space) → list_all is_space_in_range xs ≡ true → is_target_in_range (find q xs) ≡ true
found_fits q [] all = refl
found_fits q (x ∷ xs) all =
    let parts = and_parts (is_space_in_range x) (list_all is_space_in_range xs) all in
    here (q x) parts.0 (found_fits q xs parts.1)
  where
    here : (b : Bool) → is_space_in_range x ≡ true → is_target_in_range (find q xs) ≡ true → is_target_in_range (cond b (Some x) (find q xs)) ≡ true
    here true first later = first
    here false first later = later

other_fits : (first second : Option Space) → is_target_in_range first ≡ true → is_target_in_range second ≡ true → is_target_in_range (or_else first second) ≡ true
other_fits None second a b = b
other_fits (Some s) second a b = a

pub target_out : (group : Group) (merged : List Vsn) (len : ℕ) (target : Option Space) → target ≡ destination len (target_spaces (usage_of group) merged group.tables.volumes) → is_target_in_range target ≡ false → IsGroupInRange group → ⊥
target_out group merged len target is out within =
    let u = usage_of group in
    let volumes = group.tables.volumes in
    let spaces = target_spaces u merged volumes in
    let all = spaces_fit u merged (entries volumes) (entries-each paths (λ vsn v. tip_fits u (vsn, v)) volumes within.tips) in
    let fits : is_target_in_range (destination len spaces) ≡ true =
    other_fits (first_with_room second_version len spaces) (first_with_room first_version len spaces) (found_fits _ spaces all) (found_fits _ spaces all) in
    let same = ap is_target_in_range is in
    cc (out, fits, same)
