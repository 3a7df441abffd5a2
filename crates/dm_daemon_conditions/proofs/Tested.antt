-- Each test is its condition.
use Rattle.std.proofs.Common.{◌≡◌, ◌⊎◌, ℕ, ◌+◌, ◌<◌, ◌≤◌, Bool, true, false, not, ◌&&◌, ◌||◌, Option, None, Some, is_some, is_none, IsSome, List, [], ◌∷◌, length, refl, sym, ap, subst, ◌∙◌, inl, inr, nat_eq, nat_le, nat_lt, arith, IsTrue}
use Rattle.std.specs.Prelude.{◌↔◌}
use Rattle.std.specs.Bool.{beq}
use Rattle.std.specs.List.{AllByRecursion}
use Rattle.std.specs.FinMap as map
use Rattle.std.proofs.lemmas.Bool.{eqb-true, eq-eqb, leb-true, le-leb}
use Rattle.dm_base.specs.declared.identifier.Bfid.{Bfid}
use Rattle.dm_base.specs.declared.identifier.GroupId.{GroupId}
use Rattle.dm_base.specs.declared.identifier.Ino.{Ino}
use Rattle.dm_base.specs.Limits.{file_limit, files_limit, dumps_limit, entries_limit, number_limit, age_limit, groups_limit}
use Rattle.dm_durable.specs.declared.daemon.Contents.{Contents}
use Rattle.dm_durable.specs.declared.daemon.Contents.TheVariants.{Regular, Making, Dual, Offline}
use Rattle.dm_durable.specs.declared.daemon.Dump.{Dump as DumpRow}
use Rattle.dm_durable.specs.declared.daemon.DumpInode.{DumpInode}
use Rattle.dm_durable.specs.declared.daemon.DumpInode.TheVariants.{Kept, Named as NamedFile}
use Rattle.dm_durable.specs.declared.daemon.Entry.{Entry}
use Rattle.dm_durable.specs.declared.daemon.Inode.{Inode}
use Rattle.dm_durable.specs.declared.daemon.DaemonTables.{DaemonTables}
use Rattle.dm_durable.specs.declared.daemon.DaemonStep.{DaemonStep}
use Rattle.dm_durable.specs.declared.daemon.DaemonStep.TheVariants.{Write, Remove, BeginPut, Stored, EndPut, Release, Taken, Dump, Undump, Restore, HardDelete, Dropped, Restart, Age}
use Rattle.dm_durable.specs.declared.daemon.DaemonRecord.{DaemonRecord}
use Rattle.dm_durable.specs.Tables.{ByNumber}
use Rattle.dm_durable.specs.Limits.{IsGroupNumber, AreGroups}
use Rattle.dm_durable.specs.Entries.{asks, has_stored, is_stored, is_complete, is_due}
use Rattle.dm_durable.specs.Dumps.{is_young}
use Rattle.dm_durable.specs.Daemon.{bfid_of}
use Rattle.dm_durable.specs.DaemonConditions.{IsNextChange, MayWrite, MayRemove, MayBeMade, OneOrTwo, MayBeginPut, MayStore, MayEndPut, MayRelease, MayTake, MayDump, HasComplete, IsThere, MayRestore, MayBeTaken, AscendsFrom, MayHardDelete, MayDrop, MayStep, MayFollow}
use Rattle.dm_daemon_conditions.specs.Tests as test
use Rattle.dm_daemon_conditions.proofs.Deciding.{both_tests, either_test, less_test, most_test, equal_test, not_test, same_test, some_test, none_test, other_fact}

next_change : (t : DaemonTables) (change : ℕ) → IsTrue (test.is_next t.change change) ↔ IsNextChange t change
next_change t change =
    other_fact (both_tests _ _ (less_test t.change number_limit) (equal_test change (t.change + 1)))
    (λ h. record { next = h.1; left = h.0 }, λ m. (m.left, m.next))

-- ---- files

write : (t : DaemonTables) (path : List ℕ) (change : ℕ) (bytes : List ℕ) → IsTrue (test.may_write t path change bytes) ↔ MayWrite t path change bytes
write t path change bytes =
    other_fact (both_tests _ _ (next_change t change) (both_tests _ _ (most_test (length bytes) file_limit) (either_test _ _ (some_test (map.get t.names path)) (less_test (map.len t.names) files_limit))))
    (λ h. record { next = h.0; short = h.1.0; room = h.1.1 }, λ m. (m.next, (m.short, m.room)))

remove : (t : DaemonTables) (path : List ℕ) (change : ℕ) → IsTrue (test.may_remove t path change) ↔ MayRemove t path change
remove t path change =
    other_fact (both_tests _ _ (next_change t change) (some_test (map.get t.names path)))
    (λ h. record { next = h.0; there = h.1 }, λ m. (m.next, m.there))

-- ---- puts and recalls

-- a name leads to an inode of which P holds
record Leads (P : Inode → Type 0) (inodes : ByNumber Inode) (o : Option Ino) : Type 0 where
  n : Ino
  name : o ≡ Some n
  inode : Inode
  is : map.get inodes n.0 ≡ Some inode
  holds : P inode

-- what was found is a row of which P holds
record Finds {X : Type 0} (P : X → Type 0) (o : Option X) : Type 0 where
  row : X
  is : o ≡ Some row
  holds : P row

found : {X : Type 0} (P : X → Type 0) (b : X → Bool) (test : Option X → Bool) → test None ≡ false → ((x : X) → test (Some x) ≡ b x) → ((x : X) → IsTrue (b x) ↔ P x)
    → (o : Option X) → IsTrue (test o) ↔ Finds P o
found P b test none some each None = (λ h. let e = none in cc, λ f. let e = f.is in cc)
found {X} P b test none some each (Some x) = (
  λ h. record { row = x; is = refl; holds = (each x).0 (sym (some x) ∙ h) },
  λ f. let same : x ≡ f.row = of_some x f.row f.is in some x ∙ (each x).1 (subst P (sym same) f.holds),
)
  where
    of_some : (x y : X) → Some x ≡ Some y → x ≡ y
    of_some x y e = cc

leads : (P : Inode → Type 0) (inodes : ByNumber Inode) (o : Option Ino) → Finds P (test.inode_named inodes o) ↔ Leads P inodes o
leads P inodes None = (λ f. let e = f.is in cc, λ l. let e = l.name in cc)
leads P inodes (Some n) = (
  λ f. record { n = n; name = refl; inode = f.row; is = f.is; holds = f.holds },
  λ l. let same : n ≡ l.n = of_some n l.n l.name in record { row = l.inode; is = ap (λ (k : Ino). map.get inodes k.0) same ∙ l.is; holds = l.holds },
)
  where
    of_some : (x y : Ino) → Some x ≡ Some y → x ≡ y
    of_some x y e = cc

may_be_made : (c : Contents) → IsTrue (test.may_be_made c) ↔ MayBeMade c
may_be_made (Regular bytes) = (λ h. tt, λ h. refl)
may_be_made (Making bytes b) = (λ h. tt, λ h. refl)
may_be_made (Dual bytes b) = (λ h. cc, λ h. absurd h)
may_be_made (Offline len b) = (λ h. cc, λ h. absurd h)

one_or_two : (groups : List GroupId) → IsTrue (test.are_one_or_two groups) ↔ OneOrTwo groups
one_or_two [] = (λ h. cc, λ h. absurd h)
one_or_two (g ∷ []) = (λ h. tt, λ h. refl)
one_or_two (g ∷ h ∷ []) = not_test (nat_eq g.0 h.0)
one_or_two (g ∷ h ∷ i ∷ rest) = (λ h. cc, λ h. absurd h)

group : (g : GroupId) → IsTrue (test.is_group g) ↔ IsGroupNumber g.0
group g =
    other_fact (both_tests _ _ (most_test 1 g.0) (most_test g.0 groups_limit))
    (λ h. record { least = h.0; most = h.1 }, λ m. (m.least, m.most))

groups_numbered : (groups : List GroupId) → IsTrue (test.are_groups groups) ↔ AreGroups groups
groups_numbered [] = (λ h. tt, λ h. refl)
groups_numbered (g ∷ groups) = both_tests _ _ (group g) (groups_numbered groups)

begin_put : (t : DaemonTables) (path : List ℕ) (b : Bfid) (groups : List GroupId) → IsTrue (test.may_begin_put t path b groups) ↔ MayBeginPut t path b groups
begin_put t path b groups =
    let inode = other_fact (found (λ i. MayBeMade i.contents) (λ i. test.may_be_made i.contents) test.may_be_made_if refl (λ i. refl) (λ i. may_be_made i.contents) (test.inode_named t.inodes (map.get t.names path)))
    (leads (λ i. MayBeMade i.contents) t.inodes (map.get t.names path)) in
    other_fact
    (both_tests _ _ inode
    (both_tests _ _ (both_tests _ _ (most_test t.counter number_limit) (equal_test b.0 (bfid_of t.site t.counter)))
    (both_tests _ _ (both_tests _ _ (one_or_two groups) (groups_numbered groups)) (less_test (map.len t.entries) entries_limit)))) (
      λ h. record { n = h.0.n; name = h.0.name; inode = h.0.inode; is = h.0.is; form = h.0.holds; next = h.1.0.1; left = h.1.0.0; asked = h.1.1.0.0; numbers = h.1.1.0.1; room = h.1.1.1 },
      λ m. (record { n = m.n; name = m.name; inode = m.inode; is = m.is; holds = m.form }, ((m.left, m.next), ((m.asked, m.numbers), m.room))),
    )

store : (t : DaemonTables) (b g : ℕ) → IsTrue (test.may_store g (map.get t.entries b)) ↔ MayStore t b g
store t b g =
    other_fact
    (found (λ e. (e.dropping ≡ false) × ((asks e g ≡ true) × (has_stored e g ≡ false))) (λ e. not e.dropping && (asks e g && not (has_stored e g))) (test.may_store g) refl (λ e. refl)
    (λ e. both_tests _ _ (not_test e.dropping) (both_tests (asks e g) _ (λ h. h, λ h. h) (not_test (has_stored e g)))) (map.get t.entries b)) (
      λ f. record { entry = f.row; is = f.is; lasting = f.holds.0; asked = f.holds.1.0; open_yet = f.holds.1.1 },
      λ m. record { row = m.entry; is = m.is; holds = (m.lasting, (m.asked, m.open_yet)) },
    )

record IsMakingOf (b : Bfid) (c : Contents) : Type 0 where
  bytes : List ℕ
  form : c ≡ Making bytes b

making_of : (b : Bfid) (c : Contents) → IsTrue (test.is_making_of b c) ↔ IsMakingOf b c
making_of b (Regular bytes) = (λ h. cc, λ m. let e = m.form in cc)
making_of b (Making bytes d) = (
  λ h. record { bytes = bytes; form = ap (Making bytes) (same d b (eqb-true d.0 b.0 h)) },
  λ m. eq-eqb d.0 b.0 (let e = m.form in cc),
)
  where
    same : (d b : Bfid) → d.0 ≡ b.0 → d ≡ b
    same d b e = ap (λ (n : ℕ). record { 0 = n }) e
making_of b (Dual bytes d) = (λ h. cc, λ m. let e = m.form in cc)
making_of b (Offline len d) = (λ h. cc, λ m. let e = m.form in cc)

end_put : (t : DaemonTables) (n : ℕ) (b : Bfid) (dual : Bool)
    → IsTrue (test.is_making_if b (map.get t.inodes n) && test.is_stored_as dual (map.get t.entries b.0)) ↔ MayEndPut t n b dual
end_put t n b dual =
    other_fact
    (both_tests _ _ (found (λ i. IsMakingOf b i.contents) (λ i. test.is_making_of b i.contents) (test.is_making_if b) refl (λ i. refl) (λ i. making_of b i.contents) (map.get t.inodes n))
    (found (λ e. is_stored e ≡ dual) (λ e. beq (is_stored e) dual) (test.is_stored_as dual) refl (λ e. refl) (λ e. same_test (is_stored e) dual) (map.get t.entries b.0))) (
      λ h. record { inode = h.0.row; is = h.0.is; bytes = h.0.holds.bytes; form = h.0.holds.form; entry = h.1.row; known = h.1.is; whole = h.1.holds },
      λ m. (record { row = m.inode; is = m.is; holds = record { bytes = m.bytes; form = m.form } }, record { row = m.entry; is = m.known; holds = m.whole }),
    )

record IsDual (c : Contents) : Type 0 where
  bytes : List ℕ
  b : Bfid
  form : c ≡ Dual bytes b

dual_file : (c : Contents) → IsTrue (test.is_dual c) ↔ IsDual c
dual_file (Regular bytes) = (λ h. cc, λ m. let e = m.form in cc)
dual_file (Making bytes b) = (λ h. cc, λ m. let e = m.form in cc)
dual_file (Dual bytes b) = (λ h. record { bytes = bytes; b = b; form = refl }, λ m. refl)
dual_file (Offline len b) = (λ h. cc, λ m. let e = m.form in cc)

release : (t : DaemonTables) (path : List ℕ) → IsTrue (test.is_dual_if (test.inode_named t.inodes (map.get t.names path))) ↔ MayRelease t path
release t path =
    other_fact
    (other_fact (found (λ i. IsDual i.contents) (λ i. test.is_dual i.contents) test.is_dual_if refl (λ i. refl) (λ i. dual_file i.contents) (test.inode_named t.inodes (map.get t.names path)))
    (leads (λ i. IsDual i.contents) t.inodes (map.get t.names path))) (
      λ l. record { n = l.n; name = l.name; inode = l.inode; is = l.is; bytes = l.holds.bytes; b = l.holds.b; form = l.holds.form },
      λ m. record { n = m.n; name = m.name; inode = m.inode; is = m.is; holds = record { bytes = m.bytes; b = m.b; form = m.form } },
    )

record IsOffline (n : ℕ) (c : Contents) : Type 0 where
  b : Bfid
  form : c ≡ Offline n b

offline_file : (n : ℕ) (c : Contents) → IsTrue (test.is_offline_of n c) ↔ IsOffline n c
offline_file n (Regular bytes) = (λ h. cc, λ m. let e = m.form in cc)
offline_file n (Making bytes b) = (λ h. cc, λ m. let e = m.form in cc)
offline_file n (Dual bytes b) = (λ h. cc, λ m. let e = m.form in cc)
offline_file n (Offline len b) = (
  λ h. record { b = b; form = ap (λ m. Offline m b) (eqb-true len n h) },
  λ m. eq-eqb len n (let e = m.form in cc),
)

taken : (t : DaemonTables) (n : ℕ) (bytes : List ℕ) → IsTrue (test.is_offline_if (length bytes) (map.get t.inodes n)) ↔ MayTake t n bytes
taken t n bytes =
    other_fact (found (λ i. IsOffline (length bytes) i.contents) (λ i. test.is_offline_of (length bytes) i.contents) (test.is_offline_if (length bytes)) refl (λ i. refl) (λ i. offline_file (length bytes) i.contents) (map.get t.inodes n)) (
      λ f. record { inode = f.row; is = f.is; b = f.holds.b; form = f.holds.form },
      λ m. record { row = m.inode; is = m.is; holds = record { b = m.b; form = m.form } },
    )

-- ---- dumps

dump : (t : DaemonTables) (name : List ℕ) → IsTrue (is_none (map.get t.dumps name) && nat_lt (map.len t.dumps) dumps_limit) ↔ MayDump t name
dump t name =
    other_fact (both_tests _ _ (none_test (map.get t.dumps name)) (less_test (map.len t.dumps) dumps_limit))
    (λ h. record { new = h.0; room = h.1 }, λ m. (m.new, m.room))

complete : (entries : ByNumber Entry) (b : ℕ) → IsTrue (test.is_complete_if (map.get entries b)) ↔ HasComplete entries b
complete entries b =
    other_fact (found (λ e. is_complete e ≡ true) is_complete test.is_complete_if refl (λ e. refl) (λ e. (λ h. h, λ h. h)) (map.get entries b))
    (λ f. record { entry = f.row; is = f.is; complete = f.holds }, λ m. record { row = m.entry; is = m.is; holds = m.complete })

there : (entries : ByNumber Entry) (f : DumpInode) → IsTrue (test.is_there entries f) ↔ IsThere entries f
there entries (Kept bytes) = (λ h. tt, λ h. refl)
there entries (NamedFile len b) = complete entries b.0

-- a young dump that has the file
young_file : (entries : ByNumber Entry) (now : ℕ) (path : List ℕ) (d : DumpRow)
    → IsTrue (is_young now d && test.is_there_if entries (map.get d.files path)) ↔ ((is_young now d ≡ true) × Finds (IsThere entries) (map.get d.files path))
young_file entries now path d =
    both_tests (is_young now d) _ (λ h. h, λ h. h)
    (found (IsThere entries) (test.is_there entries) (test.is_there_if entries) refl (λ f. refl) (there entries) (map.get d.files path))

restore : (t : DaemonTables) (now : ℕ) (name path target : List ℕ) (change : ℕ) → IsTrue (test.may_restore t now name path target change) ↔ MayRestore t now name path target change
restore t now name path target change =
    other_fact
    (both_tests _ _
    (found (λ d. (is_young now d ≡ true) × Finds (IsThere t.entries) (map.get d.files path)) (λ d. is_young now d && test.is_there_if t.entries (map.get d.files path)) (test.has_young t.entries now path) refl (λ d. refl) (young_file t.entries now path) (map.get t.dumps name))
    (both_tests _ _ (none_test (map.get t.names target)) (both_tests _ _ (less_test (map.len t.names) files_limit) (next_change t change)))) (
      λ h. record { dump = h.0.row; known = h.0.is; file = h.0.holds.1.row; has = h.0.holds.1.is; young = h.0.holds.0; there = h.0.holds.1.holds; new = h.1.0; room = h.1.1.0; next = h.1.1.1 },
      λ m. (record { row = m.dump; is = m.known; holds = (m.young, record { row = m.file; is = m.has; holds = m.there }) }, (m.new, (m.room, m.next))),
    )

-- ---- deletes

due : (t : DaemonTables) (now b : ℕ) → IsTrue (test.is_due_if now t.age (map.get t.entries b)) ↔ MayBeTaken t now b
due t now b =
    other_fact (found (λ e. is_due now t.age e ≡ true) (is_due now t.age) (test.is_due_if now t.age) refl (λ e. refl) (λ e. (λ h. h, λ h. h)) (map.get t.entries b))
    (λ f. record { entry = f.row; is = f.is; due = f.holds }, λ m. record { row = m.entry; is = m.is; holds = m.due })

take_each : (t : DaemonTables) (now least : ℕ) (bfids : List Bfid)
    → IsTrue (test.may_take t now least bfids) ↔ (AscendsFrom least bfids × AllByRecursion (λ b. MayBeTaken t now b.0) bfids)
take_each t now least [] = (λ h. (tt, tt), λ h. refl)
take_each t now least (b ∷ bs) =
    other_fact (both_tests _ _ (most_test least b.0) (both_tests _ _ (due t now b.0) (take_each t now (b.0 + 1) bs)))
    (λ h. ((h.0, h.1.1.0), (h.1.0, h.1.1.1)), λ m. (m.0.0, (m.1.0, (m.0.1, m.1.1))))

hard_delete : (t : DaemonTables) (now : ℕ) (bfids : List Bfid) → IsTrue (test.may_hard_delete t now bfids) ↔ MayHardDelete t now bfids
hard_delete t now bfids =
    other_fact (both_tests _ _ (less_test 0 (length bfids)) (take_each t now 0 bfids))
    (λ h. record { some = h.0; ascend = h.1.0; each = h.1.1 }, λ m. (m.some, (m.ascend, m.each)))

drop_entry : (t : DaemonTables) (b : ℕ) → IsTrue (test.is_dropping_if (map.get t.entries b)) ↔ MayDrop t b
drop_entry t b =
    other_fact (found (λ e. e.dropping ≡ true) (λ e. e.dropping) test.is_dropping_if refl (λ e. refl) (λ e. (λ h. h, λ h. h)) (map.get t.entries b))
    (λ f. record { entry = f.row; is = f.is; dropping = f.holds }, λ m. record { row = m.entry; is = m.is; holds = m.dropping })

-- ---- all steps

step : (t : DaemonTables) (now : ℕ) (s : DaemonStep) → IsTrue (test.may_step t now s) ↔ MayStep t now s
step t now (Write path change bytes) = write t path change bytes
step t now (Remove path change) = remove t path change
step t now (BeginPut path b groups) = begin_put t path b groups
step t now (Stored b g) = store t b.0 g.0
step t now (EndPut n b dual) = end_put t n.0 b dual
step t now (Release path) = release t path
step t now (Taken n bytes) = taken t n.0 bytes
step t now (Dump name) = dump t name
step t now (Undump name) = some_test (map.get t.dumps name)
step t now (Restore name path target change) = restore t now name path target change
step t now (HardDelete bfids) = hard_delete t now bfids
step t now (Dropped b) = drop_entry t b.0
step t now Restart = (λ h. h, λ h. h)
step t now (Age age) = most_test age age_limit

pub follows : (t : DaemonTables) (r : DaemonRecord) → IsTrue (test.may_be_next t r) ↔ MayFollow t r
follows t r =
    other_fact (both_tests _ _ (most_test t.time.0 r.time.0) (step t r.time.0 r.step))
    (λ h. record { time = h.0; step = h.1 }, λ m. (m.time, m.step))
