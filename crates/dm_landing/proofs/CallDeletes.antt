-- What a hard delete and the dropping of an entry journal, where they are legal, may land.
use Rattle.std.proofs.Common.{◌≡◌, inl, inr, ℕ, ◌+◌, ◌<◌, ◌≤◌, Bool, true, false, T, cond, Option, None, Some, IsSome, List, [], ◌∷◌, length, filter, refl, sym, ap, subst, ◌∙◌, arith, nat_cmp, Less}
use Rattle.std.specs.Prelude.{nat_eq}
use Rattle.std.specs.Prelude as prelude
use Rattle.std.specs.List.{AllByRecursion, list_all}
use Rattle.std.specs.FinMap as map
use Rattle.std.specs.FinMap.{is_sorted, entries_sorted}
use Rattle.std.specs.FinMap.Entries.{below_all}
use Rattle.std.proofs.lemmas.Bool.{and_parts, not-true, eq-eqb}
use Rattle.std.proofs.lemmas.Cmp.{ranked}
use Rattle.dm_base.specs.declared.identifier.Bfid.{Bfid}
use Rattle.dm_base.specs.declared.identifier.GroupId.{GroupId}
use Rattle.dm_tables.specs.Rows.{EachRow}
use Rattle.dm_tables.proofs.Any.{any-false}
use Rattle.dm_tables.proofs.Entries.{first, second, less, entries-each}
use Rattle.dm_tables.proofs.Orders.{numbers}
use Rattle.dm_tables.proofs.Rows.{one_row}
use Rattle.dm_durable.specs.Tables.{ByNumber}
use Rattle.dm_durable.specs.DaemonConditions.{MayBeTaken, AscendsFrom}
use Rattle.dm_durable.specs.Entries.{asks, groups_asked, is_due}
use Rattle.dm_durable.specs.declared.daemon.DaemonStep.TheVariants.{HardDelete, Dropped}
use Rattle.dm_durable.specs.declared.daemon.Entry.{Entry}
use Rattle.dm_durable.specs.declared.group.BitfileRow.{BitfileRow}
use Rattle.dm_durable.specs.declared.group.GroupRecord.{GroupRecord}
use Rattle.dm_durable.specs.declared.group.GroupStep.{GroupStep}
use Rattle.dm_durable.specs.declared.group.GroupStep.TheVariants.{Volume, Commit, Delete, Move, Free, Reuse}
use Rattle.dm_model.specs.declared.state.Daemon.{Daemon}
use Rattle.dm_model.specs.declared.state.GroupHistory.{GroupHistory}
use Rattle.dm_model.specs.declared.state.Joint.{Joint}
use Rattle.dm_model.specs.declared.state.OpenRequest.{OpenRequest}
use Rattle.dm_model.specs.declared.state.Side.{Side}
use Rattle.dm_model.specs.DaemonCalls.{time_at, is_taken_at, taken_at, deleted_in as is_deleted_in, dropped, dropped_needs}
use Rattle.dm_model.specs.Files.{has_open_request}
use Rattle.dm_model.specs.Guards.{AllHold}
use Rattle.dm_model.specs.Plan.{guards_always}
use Rattle.dm_invariant.specs.Among.{IsAmong}
use Rattle.dm_invariant.specs.Doubts.{NoRequestOf, NotInGroup, PutsBitfile, DoubtPuts, GroupStepNeeds, GroupMayLandIf}
use Rattle.dm_invariant.specs.Kept.{deleted_in, InvariantHolds}
use Rattle.dm_invariant.proofs.AskedGroups.{asked_among}
use Rattle.dm_invariant.proofs.Lists.{each_passes}
use Rattle.dm_invariant.proofs.Options.{value_of, none_there}
use Rattle.dm_invariant.proofs.Times.{time_kept}
use Rattle.dm_landing.proofs.CallFiles.{Lands}

-- ---- what a hard delete takes

abbrev key : ℕ × Entry → Bfid
key e = record { 0 = e.0 }

above_one : (n m : ℕ) → n < m → n + 1 ≤ m
above_one n m less = omega (arith, less)

-- those of the rows that pass a test
module _ (t : ℕ × Entry → Bool) where
  abbrev Passing : List (ℕ × Entry) → List Bfid
  Passing es = prelude.map key (filter t es)

  -- those behind a row have greater numbers
  above : (n : ℕ) (es : List (ℕ × Entry)) → T (below_all nat_cmp n es) → AllByRecursion (λ x. n + 1 ≤ x.0) es
  above n [] h = tt
  above n (e ∷ es) h =
      (above_one n e.0 (ranked n e.0 Less (sym (less _ (first _ _ h)))), above n es (second _ _ h))

  -- so they ascend where the rows do
  ascending : (least : ℕ) (es : List (ℕ × Entry)) → AllByRecursion (λ e. least ≤ e.0) es → T (is_sorted nat_cmp es) → AscendsFrom least (Passing es)
  ascending least [] all h = tt
  ascending least (e ∷ es) all h =
      elim (t e) as (λ b. AscendsFrom least (prelude.map key (cond b (e ∷ filter t es) (filter t es)))) [
        | true ↦ (all.0, ascending (e.0 + 1) es (above e.0 es (first _ _ h)) (second _ _ h))
        | false ↦ ascending least es all.1 (second _ _ h)
      ]

  -- and each is a row that passes
  taken_each : (P : ℕ → Type 0) (es : List (ℕ × Entry)) → AllByRecursion (λ e. t e ≡ true → P e.0) es → AllByRecursion (λ (b : Bfid). P b.0) (Passing es)
  taken_each P [] each = tt
  taken_each P (e ∷ es) each =
      elim (t e) as (λ b. t e ≡ b → AllByRecursion (λ (b : Bfid). P b.0) (prelude.map key (cond b (e ∷ filter t es) (filter t es)))) [
        | true ↦ λ is. (each.0 is, taken_each P es each.1)
        | false ↦ λ is. taken_each P es each.1
      ] refl

-- from no number on
from_zero : (es : List (ℕ × Entry)) → AllByRecursion (λ e. 0 ≤ e.0) es
from_zero [] = tt
from_zero (e ∷ es) = (omega arith, from_zero es)

-- what holds of each holds of one among them
of_among : (P : Bfid → Type 0) (bs : List Bfid) → AllByRecursion P bs → (b : Bfid) → IsAmong b bs → P b
of_among P [] each b among = absurd among
of_among P (c ∷ cs) each b among = elim among [ inl same ↦ subst P (sym same) each.0 | inr after ↦ of_among P cs each.1 b after ]

no_request : (requests : ByNumber OpenRequest) (b : ℕ) → has_open_request requests b ≡ false → NoRequestOf requests b
no_request requests b none = λ k r is same.
    let fails = any-false numbers (λ k r. nat_eq r.bfid.0 b) requests none k r is in
    let holds = eq-eqb _ _ same in
    cc

module _ (d : Daemon) (now : ℕ) where
  rows_taken : (P : ℕ → Type 0) → EachRow d.tables.entries (λ b e. is_taken_at d now b e ≡ true → P b)
      → AllByRecursion (λ (b : Bfid). P b.0) (taken_at d now)
  rows_taken P each =
      let m = d.tables.entries in
      taken_each (λ e. is_taken_at d now e.0 e.1) P (map.entries m) (entries-each numbers (λ b e. is_taken_at d now b e ≡ true → P b) m each)

  taken_ascend : AscendsFrom 0 (taken_at d now)
  taken_ascend =
      let es = map.entries d.tables.entries in
      ascending (λ e. is_taken_at d now e.0 e.1) 0 es (from_zero es) (entries_sorted d.tables.entries)

  taken_due : AllByRecursion (λ (b : Bfid). MayBeTaken d.tables now b.0) (taken_at d now)
  taken_due = rows_taken (MayBeTaken d.tables now) (λ b e is test. record { entry = e; is = is; due = (and_parts _ _ test).0 })

  taken_free : (b : Bfid) → IsAmong b (taken_at d now) → NoRequestOf d.requests b.0
  taken_free = of_among (λ b. NoRequestOf d.requests b.0) (taken_at d now)
      (rows_taken (NoRequestOf d.requests) (λ b e is test. no_request d.requests b (not-true _ (and_parts (is_due now d.tables.age e) _ test).1)))

-- what it takes is due, and no request is open on it
pub hard_delete_lands : (j : Joint) (now : ℕ) → 0 < length (taken_at j.daemon (time_at j.daemon now))
    → Lands j now (HardDelete (taken_at j.daemon (time_at j.daemon now)))
hard_delete_lands j now some =
    let time = time_at j.daemon now in
    record {
      follow = record {
        time = time_kept now j.daemon.tables.time.0;
        step = record { some = some; ascend = taken_ascend j.daemon time; each = taken_due j.daemon time };
      };
      needs = taken_free j.daemon time;
    }

-- ---- an entry is dropped

deleted_there : (o : Option GroupHistory) (b : ℕ) → is_deleted_in o b ≡ true → IsSome (map.get (deleted_in o) b)
deleted_there None b e = cc
deleted_there (Some h) b e = e

-- each group that the entry asks was told to delete the bitfile
was_told : (j : Joint) (b : ℕ) (e : Entry) → list_all (λ (g : GroupId). is_deleted_in (map.get j.history.groups g.0) b) (groups_asked e) ≡ true
    → (g : ℕ) → asks e g ≡ true → IsSome (map.get (deleted_in (map.get j.history.groups g)) b)
was_told j b e all g asked =
    let group = asked_among e g asked in
    let test = each_passes (λ (g : GroupId). is_deleted_in (map.get j.history.groups g.0) b) group.group (groups_asked e) group.among all in
    subst (λ n. IsSome (map.get (deleted_in (map.get j.history.groups n)) b)) group.same
    (deleted_there (map.get j.history.groups group.group.0) b test)

module _ (j : Joint) (kept : InvariantHolds j) (b : ℕ) (e : Entry) (is : map.get j.daemon.tables.entries b ≡ Some e)
    (told : (g : ℕ) → asks e g ≡ true → IsSome (map.get (deleted_in (map.get j.history.groups g)) b))
    (g : ℕ) (s : Side) (at : map.get j.sides g ≡ Some s) where
  abbrev deleted : ByNumber (Unit {0})
  deleted = deleted_in (map.get j.history.groups g)

  -- an entry of the bitfile that asks the group was told
  told_of : (f : Entry) → map.get j.daemon.tables.entries b ≡ Some f → asks f g ≡ true → IsSome (map.get deleted b)
  told_of f there asked =
      told g (subst (λ x. asks x g ≡ true) (one_row j.daemon.tables.entries b b f e refl there is) asked)

  away_if : (o : Option BitfileRow) → map.get s.group.tables.bitfiles b ≡ o → o ≡ None
  away_if None found = refl
  away_if (Some row) found =
      let f = (kept.sides g s at).catalogue.bitfile b row found in
      let u = value_of (map.get deleted b) (told_of f.of.entry f.of.is f.of.asked) in
      let gone = (kept.sides g s at).catalogue.deletes b u.0 u.1 in
      cc

  -- a chunk of it would be put by a step that may not be in doubt
  not_put : (c : ℕ) (f : Entry) → c ≡ b → map.get j.daemon.tables.entries c ≡ Some f → asks f g ≡ true → map.get deleted c ≡ None → ⊥
  not_put c f same there asked undeleted =
      none_there (map.get deleted b) (ap (map.get deleted) (sym same) ∙ undeleted)
      (told_of f (ap (map.get j.daemon.tables.entries) (sym same) ∙ there) asked)

  step_puts_not : (now : ℕ) (x : GroupStep)
      → GroupStepNeeds g j.daemon.tables.entries j.history.contents j.history.taken deleted s now x → PutsBitfile b x → ⊥
  step_puts_not now (Volume vsn slot version size) needs puts = absurd puts
  step_puts_not now (Commit c len chunks) needs puts =
      not_put c.0 needs.puts.of.entry puts needs.puts.of.is needs.puts.of.asked needs.puts.undeleted
  step_puts_not now (Delete c) needs puts = absurd puts
  step_puts_not now (Move c from to) needs puts = not_put c.0 needs.of.entry puts needs.of.is needs.of.asked needs.undeleted
  step_puts_not now (Free vsn) needs puts = absurd puts
  step_puts_not now (Reuse vsn epoch version) needs puts = absurd puts

  doubt_puts_not : (o : Option GroupRecord)
      → GroupMayLandIf g j.daemon.tables.entries j.history.contents j.history.taken deleted s o → DoubtPuts b o → ⊥
  doubt_puts_not None lands puts = absurd puts
  doubt_puts_not (Some r) lands puts = step_puts_not r.time.0 r.step lands.needs puts

  in_no_group : NotInGroup b s
  in_no_group = record {
    away = away_if (map.get s.group.tables.bitfiles b) refl;
    lasting = doubt_puts_not s.group.doubt (kept.sides g s at).doubt;
  }

pub dropped_lands : (j : Joint) → InvariantHolds j → (b : Bfid) (now : ℕ) (e : Entry) → map.get j.daemon.tables.entries b.0 ≡ Some e
    → AllHold (guards_always (dropped j.daemon b now (Some e)) (dropped_needs j.history b (Some e))) → Lands j now (Dropped b)
dropped_lands j kept b now e is legal = record {
  follow = record {
    time = time_kept now j.daemon.tables.time.0;
    step = record { entry = e; is = is; dropping = legal.0 };
  };
  needs = λ g s at. in_no_group j kept b.0 e is (was_told j b.0 e legal.1.0) g s at;
}
