-- What a step leaves of an entry that it neither drops nor takes.
use Rattle.std.proofs.Common.{◌≡◌, ℕ, ◌≢◌, Bool, true, false, cond, nat_eq, Option, None, Some, option_map, List, refl, sym, ap, ◌∙◌, inl, inr}
use Rattle.std.specs.List.{list_any}
use Rattle.std.specs.FinMap as map
use Rattle.std.proofs.lemmas.Bool.{eqb-true}
use Rattle.dm_base.specs.declared.identifier.Bfid.{Bfid}
use Rattle.dm_base.specs.declared.identifier.GroupId.{GroupId}
use Rattle.dm_base.specs.declared.identifier.Ino.{Ino}
use Rattle.dm_tables.specs.Rows.{adjust}
use Rattle.dm_tables.proofs.Orders.{numbers, same_or}
use Rattle.dm_tables.proofs.Rows.{get-beside, removed-beside}
use Rattle.dm_tables.proofs.Adjusted.{adjusted_row, adjusted-beside, get-mapped}
use Rattle.dm_durable.specs.declared.daemon.DaemonStep.{DaemonStep}
use Rattle.dm_durable.specs.declared.daemon.DaemonStep.TheVariants.{Write, Remove, BeginPut, Stored, EndPut, Release, Taken, Dump, Undump, Restore, HardDelete, Dropped, Restart, Age}
use Rattle.dm_durable.specs.declared.daemon.DaemonTables.{DaemonTables}
use Rattle.dm_durable.specs.declared.daemon.DumpInode.{DumpInode}
use Rattle.dm_durable.specs.declared.daemon.Entry.{Entry}
use Rattle.dm_durable.specs.declared.daemon.Inode.{Inode}
use Rattle.dm_durable.specs.Daemon.{after_begin_put, after_begin_put_at, after_end_put, after_release, after_remove, after_restore, after_step, with_dropping, with_named}
use Rattle.dm_durable.specs.Dumps.{file_in}
use Rattle.dm_durable.specs.Entries.{after_letting_go_if, as_dropping, asks, with_copy_of, without_deletion_time}
use Rattle.dm_durable.specs.Tables.{ByNumber}
use Rattle.dm_invariant.specs.Among.{IsAmong}
use Rattle.dm_invariant.proofs.LettingGo.{StaysOrGoes, let_go-there}
use Rattle.dm_invariant.proofs.Lists.{passing}
use Rattle.dm_landing.proofs.CopiesStored.{same_asks}

-- an entry is there, asks the same groups, and is being dropped where it was
pub record Still (e : Entry) (o : Option Entry) : Type 0 where
  pub later : Entry
  pub is : o ≡ Some later
  pub asked : (g : ℕ) → asks later g ≡ asks e g
  pub lasting : later.dropping ≡ e.dropping

still_itself : (e : Entry) (o : Option Entry) → o ≡ Some e → Still e o
still_itself e o is = record { later = e; is = is; asked = λ g. refl; lasting = refl }

still_adjusted : (entries : ByNumber Entry) (b : ℕ) (f : Entry → Entry) → ((e : Entry) (g : ℕ) → asks (f e) g ≡ asks e g)
    → ((e : Entry) → (f e).dropping ≡ e.dropping) → (q : ℕ) (e : Entry) → map.get entries q ≡ Some e → Still e (map.get (adjust entries b f) q)
still_adjusted entries b f asked lasting q e is =
    elim (same_or numbers b q) [
      | inl same ↦ record {
        later = f e;
        is = ap (map.get (adjust entries b f)) same ∙ adjusted_row numbers entries b f e (ap (map.get entries) (sym same) ∙ is);
        asked = asked e;
        lasting = lasting e;
      }
      | inr differ ↦ still_itself e _ (adjusted-beside numbers entries b f q differ ∙ is)
    ]

still_left : (inodes : ByNumber Inode) (time : ℕ) (o : Option ℕ) (q : ℕ) (e f : Entry) (at : Option Entry) → at ≡ Some f
    → StaysOrGoes inodes time o q e f → Still e at
still_left inodes time o q e f at is (inl same) =
    record { later = f; is = is; asked = λ g. ap (λ (x : Entry). asks x g) same; lasting = ap (λ (x : Entry). x.dropping) same }
still_left inodes time o q e f at is (inr gone) =
    record { later = f; is = is; asked = λ g. ap (λ (x : Entry). asks x g) gone.2; lasting = ap (λ (x : Entry). x.dropping) gone.2 }

still_let_go : (entries : ByNumber Entry) (inodes : ByNumber Inode) (time : ℕ) (o : Option ℕ) (q : ℕ) (e : Entry) → map.get entries q ≡ Some e
    → Still e (map.get (after_letting_go_if entries inodes time o) q)
still_let_go entries inodes time o q e is =
    let f = let_go-there entries inodes time o q e is in
    still_left inodes time o q e f.0 _ f.1 f.2

still_beside : (entries : ByNumber Entry) (b q : ℕ) (e v : Entry) → q ≢ b → Still e (map.get entries q) → Still e (map.get (map.insert entries b v) q)
still_beside entries b q e v differ still =
    record { later = still.later; is = get-beside numbers entries b v q differ ∙ still.is; asked = still.asked; lasting = still.lasting }

still_spared : (bfids : List Bfid) (entries : ByNumber Entry) (q : ℕ) (e : Entry) → ((c : Bfid) → IsAmong c bfids → c.0 ≡ q → ⊥)
    → map.get entries q ≡ Some e → Still e (map.get (with_dropping bfids entries) q)
still_spared bfids entries q e spared is =
    let test = list_any (λ (c : Bfid). nat_eq c.0 q) bfids in
    let none : test ≡ false = elim test as (λ t. test ≡ t → t ≡ false) [
      | true ↦ λ some. let c = passing (λ (c : Bfid). nat_eq c.0 q) bfids some in absurd (spared c.0 c.1 (eqb-true c.0.0 q c.2))
      | false ↦ λ none. refl
    ] refl in
    still_itself e _
    (get-mapped numbers (λ b x. cond (list_any (λ (c : Bfid). nat_eq c.0 b) bfids) (as_dropping x) x) entries q
    ∙ ap (option_map (λ x. cond test (as_dropping x) x)) is ∙ ap (λ t. Some (cond t (as_dropping e) e)) none)

-- the step neither begins the put of the bitfile, nor takes or drops it
abbrev pub Spared : ℕ → DaemonStep → Type 0
Spared q (Write path change bytes) = Unit {0}
Spared q (Remove path change) = Unit {0}
Spared q (BeginPut path b groups) = q ≢ b.0
Spared q (Stored b group) = Unit {0}
Spared q (EndPut n b dual) = Unit {0}
Spared q (Release path) = Unit {0}
Spared q (Taken n bytes) = Unit {0}
Spared q (Dump name) = Unit {0}
Spared q (Undump name) = Unit {0}
Spared q (Restore name path target change) = Unit {0}
Spared q (HardDelete bfids) = (c : Bfid) → IsAmong c bfids → c.0 ≡ q → ⊥
Spared q (Dropped b) = q ≢ b.0
Spared q Restart = ⊥
Spared q (Age age) = Unit {0}

module _ (t : DaemonTables) (q : ℕ) (e : Entry) (is : map.get t.entries q ≡ Some e) where
  begun : (b : Bfid) (groups : List GroupId) (n : ℕ) (o : Option Inode) → q ≢ b.0 → Still e (map.get (after_begin_put t b groups n o).entries q)
  begun b groups n None differ = still_itself e _ is
  begun b groups n (Some i) differ = still_beside _ b.0 q e _ differ (still_let_go t.entries _ t.time.0 _ q e is)

  begun_at : (b : Bfid) (groups : List GroupId) (o : Option Ino) → q ≢ b.0 → Still e (map.get (after_begin_put_at t b groups o).entries q)
  begun_at b groups None differ = still_itself e _ is
  begun_at b groups (Some n) differ = begun b groups n.0 (map.get t.inodes n.0) differ

  removed : (path : List ℕ) (change : ℕ) (o : Option Ino) → Still e (map.get (after_remove t path change o).entries q)
  removed path change None = still_itself e _ is
  removed path change (Some n) = still_let_go t.entries _ t.time.0 _ q e is

  ended : (n b : ℕ) (dual : Bool) → Still e (map.get (after_end_put t n b dual).entries q)
  ended n b true = still_itself e _ is
  ended n b false = still_let_go t.entries _ t.time.0 (Some b) q e is

  released : (o : Option Ino) → Still e (map.get (after_release t o).entries q)
  released None = still_itself e _ is
  released (Some n) = still_itself e _ is

  named_again : (o : Option ℕ) → Still e (map.get (with_named t.entries o) q)
  named_again None = still_itself e _ is
  named_again (Some b) = still_adjusted t.entries b without_deletion_time (λ x g. refl) (λ x. refl) q e is

  restored : (target : List ℕ) (change : ℕ) (o : Option DumpInode) → Still e (map.get (after_restore t target change o).entries q)
  restored target change None = still_itself e _ is
  restored target change (Some file) = named_again _

  pub entry_still : (s : DaemonStep) → Spared q s → Still e (map.get (after_step t s).entries q)
  entry_still (Write path change bytes) spared = still_let_go t.entries _ t.time.0 _ q e is
  entry_still (Remove path change) spared = removed path change (map.get t.names path)
  entry_still (BeginPut path b groups) spared = begun_at b groups (map.get t.names path) spared
  entry_still (Stored b group) spared = still_adjusted t.entries b.0 (with_copy_of group.0) (λ x g. same_asks group.0 g x) (λ x. refl) q e is
  entry_still (EndPut n b dual) spared = ended n.0 b.0 dual
  entry_still (Release path) spared = released (map.get t.names path)
  entry_still (Taken n bytes) spared = still_itself e _ is
  entry_still (Dump name) spared = still_itself e _ is
  entry_still (Undump name) spared = still_itself e _ is
  entry_still (Restore name path target change) spared = restored target change (file_in (map.get t.dumps name) path)
  entry_still (HardDelete bfids) spared = still_spared bfids t.entries q e spared is
  entry_still (Dropped b) spared = still_itself e _ (removed-beside numbers t.entries b.0 q spared ∙ is)
  entry_still Restart spared = absurd spared
  entry_still (Age age) spared = still_itself e _ is
