-- Lists that are made of a group's volumes.
use Rattle.std.proofs.Common.{◌≡◌, ℕ, ◌<◌, Bool, true, false, cond, List, [], ◌∷◌, ◌++◌, refl, sym, ap, subst, ◌∙◌, append_assoc, arith, nat_eq, length, get_or, Option, Some}
use Rattle.std.specs.List.{flat_map, AllByRecursion}
use Rattle.std.specs.FinMap.{entries, get}
use Rattle.std.proofs.lemmas.List.{append-nil}
use Rattle.std.proofs.lemmas.Bool.{and_parts, ltb-true}
use Rattle.dm_base.specs.declared.serial.Vsn.{Vsn}
use Rattle.dm_durable.specs.declared.group.VolumeRow.{VolumeRow}
use Rattle.dm_durable.specs.Tables.{ByName}
use Rattle.dm_durable.specs.Volumes.{Usage, epoch_or, is_reusable_in, of_serial, reusable_in}
use Rattle.dm_rules.specs.Numbers.{last_u64}
use Rattle.dm_tables.proofs.Entries.{entries-found}
use Rattle.dm_tables.proofs.Orders.{paths}

module _ {X : Type 0} (f : List ℕ → VolumeRow → List X) where
  abbrev pub listed : List (List ℕ × VolumeRow) → List X
  listed es = flat_map (λ e. of_serial e.0 (f e.0 e.1)) es

  pub listed_begin : (out : List X) (left : List (List ℕ × VolumeRow)) (volumes : ByName VolumeRow) → out ≡ [] → left ≡ entries volumes → out ++ listed left ≡ listed (entries volumes)
  listed_begin out left volumes none is = ap (λ xs. xs ++ listed left) none ∙ ap listed is

  pub listed_more : (out more : List X) (left rest : List (List ℕ × VolumeRow)) (text : List ℕ) (row : VolumeRow) (x : X) (whole : List X) → left ≡ (text, row) ∷ rest → (x ∷ []) ≡ of_serial text (f text row) → more ≡ out ++ (x ∷ []) → out ++ listed left ≡ whole → more ++ listed rest ≡ whole
  listed_more out more left rest text row x whole is one grown so =
      ap (λ xs. xs ++ listed rest) grown ∙ append_assoc out (x ∷ []) (listed rest) ∙ ap (λ xs. out ++ (xs ++ listed rest)) one
      ∙ sym (ap (λ es. out ++ listed es) is) ∙ so

  pub listed_none : (out : List X) (left rest : List (List ℕ × VolumeRow)) (text : List ℕ) (row : VolumeRow) (whole : List X) → left ≡ (text, row) ∷ rest → [] ≡ of_serial text (f text row) → out ++ listed left ≡ whole → out ++ listed rest ≡ whole
  listed_none out left rest text row whole is none so =
      ap (λ xs. out ++ (xs ++ listed rest)) none ∙ sym (ap (λ es. out ++ listed es) is) ∙ so

  pub listed_end : (out : List X) (left : List (List ℕ × VolumeRow)) (whole : List X) → left ≡ [] → out ++ listed left ≡ whole → out ≡ whole
  listed_end out left whole none so = sym (append-nil out) ∙ sym (ap (λ es. out ++ listed es) none) ∙ so

-- ---- the first that may be used again has an epoch after its own
abbrev serial : List ℕ → Vsn
serial text = record { 0 = text }

first_in : (u : Usage) (now hold format : ℕ) (m : ByName VolumeRow) (es : List (List ℕ × VolumeRow)) (vsn : Vsn) (rest : List Vsn) → AllByRecursion (λ e. get m e.0 ≡ Some e.1) es
    → flat_map (λ e. of_serial e.0 (cond (is_reusable_in u now hold format e.0 e.1) (serial e.0 ∷ []) [])) es ≡ vsn ∷ rest → epoch_or (get m vsn.0) < last_u64
first_in u now hold format m [] vsn rest found is = cc
first_in u now hold format m (e ∷ es) vsn rest found is =
    by_cases (nat_eq (length e.0) 6) (is_reusable_in u now hold format e.0 e.1) refl is (first_in u now hold format m es vsn rest found.1)
  where
    others : List Vsn
    others = flat_map (λ e. of_serial e.0 (cond (is_reusable_in u now hold format e.0 e.1) (serial e.0 ∷ []) [])) es

    by_cases : (a b : Bool) → is_reusable_in u now hold format e.0 e.1 ≡ b → cond a (cond b (serial e.0 ∷ []) []) [] ++ others ≡ vsn ∷ rest → (others ≡ vsn ∷ rest → epoch_or (get m vsn.0) < last_u64) → epoch_or (get m vsn.0) < last_u64
    by_cases true true here same later =
        let v : serial e.0 ≡ vsn = ap (λ (l : List Vsn). get_or l 0 vsn) same in
        let small : e.1.epoch < last_u64 = ltb-true e.1.epoch last_u64 (and_parts _ _ (and_parts _ _ here).0).1 in
        subst (λ (w : Vsn). epoch_or (get m w.0) < last_u64) v (subst (λ (o : Option VolumeRow). epoch_or o < last_u64) (sym found.0) small)
    by_cases true false here same later = later same
    by_cases false b here same later = later same

pub first_reusable : (u : Usage) (now hold format : ℕ) (m : ByName VolumeRow) (vsn : Vsn) (rest : List Vsn) → reusable_in u now hold format m ≡ vsn ∷ rest → epoch_or (get m vsn.0) < last_u64
first_reusable u now hold format m vsn rest is = first_in u now hold format m (entries m) vsn rest (entries-found paths m) is

pub reusable_at : (u : Usage) (now hold format : ℕ) (m : ByName VolumeRow) (vsns : List Vsn) (d : Vsn) → vsns ≡ reusable_in u now hold format m → 0 < length vsns → epoch_or (get m (get_or vsns 0 d).0) < last_u64
reusable_at u now hold format m [] d is some = absurd (omega arith)
reusable_at u now hold format m (vsn ∷ rest) d is some = first_reusable u now hold format m vsn rest (sym is)
