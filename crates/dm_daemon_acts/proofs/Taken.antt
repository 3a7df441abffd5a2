-- What a hard delete takes: entries that are due, by identifier.
use Rattle.std.proofs.Common.{◌≡◌, ℕ, ◌+◌, ◌<◌, ◌≤◌, Bool, true, false, T, cond, List, [], ◌∷◌, filter, refl, sym, arith, nat_cmp, Less}
use Rattle.std.specs.FinMap as map
use Rattle.std.specs.FinMap.{is_sorted, entries_sorted}
use Rattle.std.specs.FinMap.Entries.{below_all}
use Rattle.std.specs.List.{AllByRecursion}
use Rattle.std.specs.Prelude as prelude
use Rattle.std.proofs.lemmas.Bool.{and_parts}
use Rattle.std.proofs.lemmas.Cmp.{ranked}
use Rattle.dm_base.specs.declared.identifier.Bfid.{Bfid}
use Rattle.dm_durable.specs.declared.daemon.Entry.{Entry}
use Rattle.dm_durable.specs.DaemonConditions.{AscendsFrom, MayBeTaken}
use Rattle.dm_model.specs.declared.state.Daemon.{Daemon}
use Rattle.dm_model.specs.DaemonCalls.{is_taken_at, taken_at}
use Rattle.dm_tables.proofs.Entries.{entries-each, first, less, second}
use Rattle.dm_tables.proofs.Orders.{numbers}
use Rattle.dm_tables.specs.Rows.{EachRow}

-- ---- what a hard delete takes

abbrev key : ℕ × Entry → Bfid
key e = record { 0 = e.0 }

above_one : (n m : ℕ) → n < m → n + 1 ≤ m
above_one n m less = omega (arith, less)

-- those of the rows that pass a test
module _ (t : ℕ × Entry → Bool) where
  abbrev Passing : List (ℕ × Entry) → List Bfid
  Passing es = prelude.map key (filter t es)

  -- those behind a row have greater numbers
  above : (n : ℕ) (es : List (ℕ × Entry)) → T (below_all nat_cmp n es) → AllByRecursion (λ x. n + 1 ≤ x.0) es
  above n [] h = tt
  above n (e ∷ es) h =
      (above_one n e.0 (ranked n e.0 Less (sym (less _ (first _ _ h)))), above n es (second _ _ h))

  -- so they ascend where the rows do
  ascending : (least : ℕ) (es : List (ℕ × Entry)) → AllByRecursion (λ e. least ≤ e.0) es → T (is_sorted nat_cmp es) → AscendsFrom least (Passing es)
  ascending least [] all h = tt
  ascending least (e ∷ es) all h =
      elim (t e) as (λ b. AscendsFrom least (prelude.map key (cond b (e ∷ filter t es) (filter t es)))) [
        | true ↦ (all.0, ascending (e.0 + 1) es (above e.0 es (first _ _ h)) (second _ _ h))
        | false ↦ ascending least es all.1 (second _ _ h)
      ]

  -- and each is a row that passes
  taken_each : (P : ℕ → Type 0) (es : List (ℕ × Entry)) → AllByRecursion (λ e. t e ≡ true → P e.0) es → AllByRecursion (λ (b : Bfid). P b.0) (Passing es)
  taken_each P [] each = tt
  taken_each P (e ∷ es) each =
      elim (t e) as (λ b. t e ≡ b → AllByRecursion (λ (b : Bfid). P b.0) (prelude.map key (cond b (e ∷ filter t es) (filter t es)))) [
        | true ↦ λ is. (each.0 is, taken_each P es each.1)
        | false ↦ λ is. taken_each P es each.1
      ] refl

-- from no number on
from_zero : (es : List (ℕ × Entry)) → AllByRecursion (λ e. 0 ≤ e.0) es
from_zero [] = tt
from_zero (e ∷ es) = (omega arith, from_zero es)

module _ (d : Daemon) (now : ℕ) where
  rows_taken : (P : ℕ → Type 0) → EachRow d.tables.entries (λ b e. is_taken_at d now b e ≡ true → P b)
      → AllByRecursion (λ (b : Bfid). P b.0) (taken_at d now)
  rows_taken P each =
      let m = d.tables.entries in
      taken_each (λ e. is_taken_at d now e.0 e.1) P (map.entries m) (entries-each numbers (λ b e. is_taken_at d now b e ≡ true → P b) m each)

  pub taken_ascend : AscendsFrom 0 (taken_at d now)
  taken_ascend =
      let es = map.entries d.tables.entries in
      ascending (λ e. is_taken_at d now e.0 e.1) 0 es (from_zero es) (entries_sorted d.tables.entries)

  pub taken_due : AllByRecursion (λ (b : Bfid). MayBeTaken d.tables now b.0) (taken_at d now)
  taken_due = rows_taken (MayBeTaken d.tables now) (λ b e is test. record { entry = e; is = is; due = (and_parts _ _ test).0 })
