-- A slot is free for a volume of the configuration that the tables don't have yet.
use Rattle.std.proofs.Common.{◌≡◌, ◌≢◌, ◌⊎◌, inl, inr, ℕ, zero, suc, ◌+◌, ◌<◌, ◌≤◌, true, false, cond, ◌||◌, Option, None, Some, List, [], ◌∷◌}
use Rattle.std.proofs.Common.{length, refl, sym, ap, ◌∙◌, subst, arith, eqb-true, eq-eqb}
use Rattle.std.specs.Prelude.{nat_eq}
use Rattle.std.proofs.lemmas.Bool.{eqb-false}
use Rattle.std.specs.List.{list_any}
use Rattle.std.specs.FinMap as map
use Rattle.dm_base.specs.declared.serial.Vsn.{Vsn}
use Rattle.dm_tables.specs.Rows.{EachRow, any}
use Rattle.dm_tables.proofs.Orders.{numbers, paths, same_or}
use Rattle.dm_tables.proofs.Any.{any-true, any-false}
use Rattle.dm_durable.specs.Tables.{ByName, same_text}
use Rattle.dm_durable.specs.declared.group.VolumeRow.{VolumeRow}
use Rattle.dm_durable.specs.Volumes.{free_slot}
use Rattle.dm_invariant.specs.Among.{IsAmong}
use Rattle.dm_invariant.proofs.Texts.{texts_equal}

-- ---- numbers of a list

-- the numbers but one
abbrev without : ℕ → List ℕ → List ℕ
without n [] = []
without n (k ∷ ks) = cond (nat_eq k n) (without n ks) (k ∷ without n ks)

without_fewer : (n : ℕ) (ks : List ℕ) → length (without n ks) ≤ length ks
without_fewer n [] = omega arith
without_fewer n (k ∷ ks) =
    let rest = without_fewer n ks in
    elim (nat_eq k n) as (λ t. length (cond t (without n ks) (k ∷ without n ks)) ≤ suc (length ks)) [
      | true ↦ omega (arith, rest)
      | false ↦ omega (arith, rest)
    ]

-- one that is there is taken out
without_one : (n : ℕ) (ks : List ℕ) → IsAmong n ks → length (without n ks) < length ks
without_one n [] among = absurd among
without_one n (k ∷ ks) (inl same) =
    let rest = without_fewer n ks in
    let here : nat_eq k n ≡ true = eq-eqb k n (sym same) in
    let left : length (cond true (without n ks) (k ∷ without n ks)) < suc (length ks) = omega (arith, rest) in
    subst (λ t. length (cond t (without n ks) (k ∷ without n ks)) < suc (length ks)) (sym here) left
without_one n (k ∷ ks) (inr among) =
    let rest = without_one n ks among in
    elim (nat_eq k n) as (λ t. length (cond t (without n ks) (k ∷ without n ks)) < suc (length ks)) [
      | true ↦ omega (arith, rest)
      | false ↦ omega (arith, rest)
    ]

-- the others are left
without_others : (n k : ℕ) (ks : List ℕ) → k ≢ n → IsAmong k ks → IsAmong k (without n ks)
without_others n k [] differ among = among
without_others n k (q ∷ ks) differ (inl same) =
    elim (nat_eq q n) as (λ t. nat_eq q n ≡ t → IsAmong k (cond t (without n ks) (q ∷ without n ks))) [
      | true ↦ λ here. absurd (differ (same ∙ eqb-true q n here))
      | false ↦ λ _. inl same
    ] refl
without_others n k (q ∷ ks) differ (inr among) =
    let rest = without_others n k ks differ among in
    elim (nat_eq q n) as (λ t. IsAmong k (cond t (without n ks) (q ∷ without n ks))) [ true ↦ rest | false ↦ inr rest ]

-- a list with each number below n has n numbers at least
all_below : (n : ℕ) (ks : List ℕ) → ((k : ℕ) → k < n → IsAmong k ks) → n ≤ length ks
all_below zero ks all = omega arith
all_below (suc n) ks all =
    let others : (k : ℕ) → k < n → IsAmong k (without n ks) =
    λ k below. without_others n k ks (λ same. omega (arith, below, same)) (all k (omega (arith, below))) in
    let rest : n ≤ length (without n ks) = all_below n (without n ks) others in
    let one = without_one n ks (all n (omega arith)) in
    omega (arith, rest, one)

-- ---- slots of volumes

abbrev slot_and : Option VolumeRow → List ℕ → List ℕ
slot_and None ks = ks
slot_and (Some r) ks = r.slot ∷ ks

-- the slots of those of these volumes that the tables have
abbrev slots_of : ByName VolumeRow → List Vsn → List ℕ
slots_of volumes [] = []
slots_of volumes (v ∷ vs) = slot_and (map.get volumes v.0) (slots_of volumes vs)

slot_fewer : (o : Option VolumeRow) (ks : List ℕ) (n : ℕ) → length ks ≤ n → length (slot_and o ks) ≤ suc n
slot_fewer None ks n fewer = omega (arith, fewer)
slot_fewer (Some r) ks n fewer = omega (arith, fewer)

slots_fewer : (volumes : ByName VolumeRow) (vs : List Vsn) → length (slots_of volumes vs) ≤ length vs
slots_fewer volumes [] = omega arith
slots_fewer volumes (v ∷ vs) = slot_fewer (map.get volumes v.0) (slots_of volumes vs) (length vs) (slots_fewer volumes vs)

-- they are fewer than the volumes, where the tables lack one of those
slots_less : (volumes : ByName VolumeRow) (vs : List Vsn) (x : List ℕ) → map.get volumes x ≡ None → list_any (λ v. same_text v.0 x) vs ≡ true
    → length (slots_of volumes vs) < length vs
slots_less volumes [] x none is = cc
slots_less volumes (v ∷ vs) x none is =
    elim (same_text v.0 x) as (λ t. same_text v.0 x ≡ t → (t || list_any (λ v. same_text v.0 x) vs) ≡ true
    → length (slot_and (map.get volumes v.0) (slots_of volumes vs)) < suc (length vs)) [
      | true ↦ λ here _.
          let gone : map.get volumes v.0 ≡ None = ap (λ (t : List ℕ). map.get volumes t) (texts_equal v.0 x here) ∙ none in
          let rest = slots_fewer volumes vs in
          let less : length (slots_of volumes vs) < suc (length vs) = omega (arith, rest) in
          subst (λ o. length (slot_and o (slots_of volumes vs)) < suc (length vs)) (sym gone) less
      | false ↦ λ _ there.
          let rest = slots_less volumes vs x none there in
          let more = slot_fewer (map.get volumes v.0) (slots_of volumes vs) (length (slots_of volumes vs)) (omega arith) in
          omega (arith, more, rest)
    ] refl is

among_slot : (o : Option VolumeRow) (k : ℕ) (ks : List ℕ) → IsAmong k ks → IsAmong k (slot_and o ks)
among_slot None k ks among = among
among_slot (Some r) k ks among = inr among

-- the slot of each of the volumes is there
slot_there : (volumes : ByName VolumeRow) (vs : List Vsn) (x : List ℕ) (r : VolumeRow) → map.get volumes x ≡ Some r
    → list_any (λ v. same_text v.0 x) vs ≡ true → IsAmong r.slot (slots_of volumes vs)
slot_there volumes [] x r there is = cc
slot_there volumes (v ∷ vs) x r there is =
    elim (same_text v.0 x) as (λ t. same_text v.0 x ≡ t → (t || list_any (λ v. same_text v.0 x) vs) ≡ true
    → IsAmong r.slot (slot_and (map.get volumes v.0) (slots_of volumes vs))) [
      | true ↦ λ here _.
          let at : map.get volumes v.0 ≡ Some r = ap (λ (t : List ℕ). map.get volumes t) (texts_equal v.0 x here) ∙ there in
          subst (λ o. IsAmong r.slot (slot_and o (slots_of volumes vs))) (sym at) (inl refl)
      | false ↦ λ _ rest. among_slot (map.get volumes v.0) r.slot (slots_of volumes vs) (slot_there volumes vs x r there rest)
    ] refl is

-- ---- the slot that is found

-- a volume has the slot
record HasSlot (volumes : ByName VolumeRow) (k : ℕ) : Type 0 where
  vsn : List ℕ
  row : VolumeRow
  is : map.get volumes vsn ≡ Some row
  same : row.slot ≡ k

-- no volume has it, and it is before the end
pub record IsFree (volumes : ByName VolumeRow) (limit k : ℕ) : Type 0 where
  pub within : k < limit
  pub free : EachRow volumes (λ v row. row.slot ≡ k → ⊥)

-- the slots behind a slot that is taken
more_taken : (volumes : ByName VolumeRow) (left slot found : ℕ) → HasSlot volumes slot
    → IsFree volumes (slot + 1 + left) found ⊎ ((k : ℕ) → slot + 1 ≤ k → k < slot + 1 + left → HasSlot volumes k)
    → IsFree volumes (slot + suc left) found ⊎ ((k : ℕ) → slot ≤ k → k < slot + suc left → HasSlot volumes k)
more_taken volumes left slot found here (inl free) = inl (record { within = let w = free.within in omega (arith, w); free = free.free })
more_taken volumes left slot found here (inr taken) = inr (λ k low high. elim (same_or numbers slot k) [
  | inl same ↦ subst (HasSlot volumes) (sym same) here
  | inr differ ↦ taken k (omega (arith, low, differ)) (omega (arith, high))
])

-- the slot that is found is free, or all are taken
free_or_taken : (volumes : ByName VolumeRow) (left slot : ℕ)
    → IsFree volumes (slot + left) (free_slot volumes left slot) ⊎ ((k : ℕ) → slot ≤ k → k < slot + left → HasSlot volumes k)
unfolding free_slot
free_or_taken volumes zero slot = inr (λ k low high. absurd (omega (arith, low, high)))
free_or_taken volumes (suc left) slot =
    let rest = free_or_taken volumes left (slot + 1) in
    elim (any (λ vsn v. nat_eq v.slot slot) volumes) as (λ t. any (λ vsn v. nat_eq v.slot slot) volumes ≡ t
    → IsFree volumes (slot + suc left) (cond t (free_slot volumes left (slot + 1)) slot)
    ⊎ ((k : ℕ) → slot ≤ k → k < slot + suc left → HasSlot volumes k)) [
      | true ↦ λ taken.
          let row = any-true (λ vsn v. nat_eq v.slot slot) volumes taken in
          let here : HasSlot volumes slot = record { vsn = row.0; row = row.1; is = row.2; same = eqb-true row.1.slot slot row.3 } in
          more_taken volumes left slot (free_slot volumes left (slot + 1)) here rest
      | false ↦ λ none. inl (record {
        within = omega arith;
        free = λ v row is same. let fails = any-false paths (λ vsn v. nat_eq v.slot slot) volumes none v row is in eqb-false row.slot slot fails same;
      })
    ] refl

-- where volumes of the tables are among these, of which there are no more than slots, and one isn't in the tables, a slot is
-- free for it
pub slot_free : (volumes : ByName VolumeRow) (vs : List Vsn) (limit : ℕ) (x : List ℕ)
    → EachRow volumes (λ vsn r. list_any (λ v. same_text v.0 vsn) vs ≡ true)
    → length vs ≤ limit
    → list_any (λ v. same_text v.0 x) vs ≡ true → map.get volumes x ≡ None → IsFree volumes limit (free_slot volumes limit 0)
slot_free volumes vs limit x each many is none =
    elim (free_or_taken volumes limit 0) [
      | inl free ↦ record { within = let w = free.within in omega (arith, w); free = free.free }
      | inr taken ↦
          let all : limit ≤ length (slots_of volumes vs) = all_below limit (slots_of volumes vs) (λ k below.
          let has = taken k (omega arith) (omega (arith, below)) in
          subst (λ q. IsAmong q (slots_of volumes vs)) has.same (slot_there volumes vs has.vsn has.row has.is (each has.vsn has.row has.is))) in
          let less = slots_less volumes vs x none is in
          absurd (omega (arith, all, less, many))
    ]
