-- A record of the daemon that lands keeps dumps, and what hard deletes took.
use Rattle.std.proofs.Common.{◌≡◌, ℕ, ◌-◌, ◌≤◌, true, not, nat_lt, Option, Some, None, List, length, refl, sym, ap, subst, arith}
use Rattle.std.specs.FinMap as map
use Rattle.std.proofs.lemmas.Bool.{and_from, ltb-true, lt-ltb}
use Rattle.dm_base.specs.declared.identifier.Bfid.{Bfid}
use Rattle.dm_base.specs.declared.identifier.GroupId.{GroupId}
use Rattle.dm_base.specs.declared.identifier.Ino.{Ino}
use Rattle.dm_tables.specs.Rows.{EachRow, map_values}
use Rattle.dm_tables.proofs.Orders.{paths}
use Rattle.dm_tables.proofs.Rows.{each-insert, each-remove}
use Rattle.dm_tables.proofs.Adjusted.{each-map}
use Rattle.dm_durable.specs.declared.daemon.Contents.{Contents}
use Rattle.dm_durable.specs.declared.daemon.Contents.TheVariants.{Regular, Making, Dual, Offline}
use Rattle.dm_durable.specs.declared.daemon.DaemonRecord.{DaemonRecord}
use Rattle.dm_durable.specs.declared.daemon.DaemonStep.{DaemonStep}
use Rattle.dm_durable.specs.declared.daemon.DaemonStep.TheVariants.{Write, Remove, BeginPut, Stored, EndPut, Release, Taken, Dump, Undump, Restore, HardDelete, Dropped, Restart, Age}
use Rattle.dm_durable.specs.declared.daemon.DaemonTables.{DaemonTables}
use Rattle.dm_durable.specs.declared.daemon.DumpInode.{DumpInode}
use Rattle.dm_durable.specs.declared.daemon.Inode.{Inode}
use Rattle.dm_durable.specs.Tables.{ByNumber}
use Rattle.dm_durable.specs.Dumps.{file_dumped, file_dumped_if, is_young, new_dump, with_least}
use Rattle.dm_durable.specs.Daemon.{after_begin_put, after_begin_put_at, after_record, after_release, after_remove, after_restore, after_step}
use Rattle.dm_durable.specs.DaemonConditions.{MayStep}
use Rattle.dm_model.specs.declared.state.Daemon.{Daemon}
use Rattle.dm_model.specs.declared.state.History.{History}
use Rattle.dm_model.specs.declared.state.Side.{Side}
use Rattle.dm_invariant.specs.Doubts.{MayLand, StepNeeds}
use Rattle.dm_invariant.specs.Files.{NamedWhole, HeldRightly, FilesKept, NotBefore, DumpedEntry, DumpedRightly, DumpsKept}
use Rattle.dm_landing.proofs.EntriesGone.{FreshEntry}
use Rattle.dm_landing.proofs.EntriesLanded.{step_goes}
use Rattle.dm_landing.proofs.FatesFiles.{dumps_go}
use Rattle.dm_landing.proofs.FilesWith.{NamedIn}

module _ (d : Daemon) (h : History) (sides : ByNumber Side) (time : ℕ) (k : FilesKept d.tables h.contents d.cap)
    (on : d.tables.time.0 ≤ time) (dumps : DumpsKept d.tables.time.0 d.tables.entries d.tables.dumps) where
  abbrev t : DaemonTables
  t = d.tables

  abbrev Later : DaemonTables
  Later = record d.tables { time = record { 0 = time } }

  -- the dumps that were there
  same_dumps : (s : DaemonStep) → MayStep d.tables time s → StepNeeds d.tables d.requests h.contents d.cap sides s
      → DumpsKept time (after_step Later s).entries d.tables.dumps
  same_dumps s may needs =
      dumps_go (NamedIn (after_step Later s).inodes) sides d.requests time d.tables.age (FreshEntry d.tables.site d.tables.counter time h.contents sides)
      d.tables.entries (after_step Later s).entries d.tables.time.0 d.tables.dumps on
      (step_goes d.tables h.contents d.cap sides d.requests time k on s may needs)
      (λ name x is. (k.state.dumps name x is).made) (λ name x is. (k.state.dumps name x is).least) dumps

  -- ---- a dump is made

  dumped_whole : (b len : ℕ) → NamedWhole d.tables.entries b len → DumpedEntry d.tables.entries time b len
  dumped_whole b len w = record {
    entry = w.named.entry;
    is = w.named.is;
    complete = and_from _ _ w.whole (ap not w.named.lasting);
    sized = w.named.sized;
    later = subst (λ o. NotBefore time o) (sym w.named.there) tt;
  }

  dumped_file : (c : Contents) → HeldRightly d.tables.entries h.contents c → DumpedRightly d.tables.entries time (file_dumped c)
  dumped_file (Regular bytes) held = tt
  dumped_file (Making bytes b) held = tt
  dumped_file (Dual bytes b) held = dumped_whole b.0 (length bytes) held.0
  dumped_file (Offline len b) held = dumped_whole b.0 len held

  dumped_at : (n : Ino) (o : Option Inode) → map.get d.tables.inodes n.0 ≡ o → DumpedRightly d.tables.entries time (file_dumped_if o)
  dumped_at n None at = tt
  dumped_at n (Some i) at = dumped_file i.contents (k.held n.0 i at)

  with_new_dump : (name : List ℕ) → DumpsKept time d.tables.entries d.tables.dumps
      → DumpsKept time d.tables.entries (map.insert d.tables.dumps name (new_dump time d.tables.age d.tables.names d.tables.inodes))
  with_new_dump name kept = record {
    young =
        each-insert paths (λ x y. is_young time y ≡ true → EachRow y.files (λ path f. DumpedRightly d.tables.entries y.made.0 f)) d.tables.dumps name
        (new_dump time d.tables.age d.tables.names d.tables.inodes)
        (λ young. each-map paths (λ path f. DumpedRightly d.tables.entries time f) (λ path n. file_dumped_if (map.get d.tables.inodes n.0)) d.tables.names
        (λ path n is. dumped_at n (map.get d.tables.inodes n.0) refl))
        kept.young;
  }

  -- ---- the age changes

  young_at : (made least age : ℕ) → nat_lt (time - made) (least - (least - age)) ≡ true → nat_lt (time - made) least ≡ true
  young_at made least age young = let y = ltb-true _ _ young in lt-ltb _ _ (omega (arith, y))

  with_age : (age : ℕ) → DumpsKept time d.tables.entries d.tables.dumps
      → DumpsKept time d.tables.entries (map_values (λ name x. with_least age x) d.tables.dumps)
  with_age age kept = record {
    young =
        each-map paths (λ x y. is_young time y ≡ true → EachRow y.files (λ path f. DumpedRightly d.tables.entries y.made.0 f))
        (λ name x. with_least age x) d.tables.dumps
        (λ name x is young. kept.young name x is (young_at x.made.0 x.least age young));
  }

  without_dump : (name : List ℕ) → DumpsKept time d.tables.entries d.tables.dumps → DumpsKept time d.tables.entries (map.remove d.tables.dumps name)
  without_dump name kept = record {
    young = each-remove paths (λ x y. is_young time y ≡ true → EachRow y.files (λ path f. DumpedRightly d.tables.entries y.made.0 f)) d.tables.dumps name kept.young;
  }

  -- ---- dumps of tables whose dumps are the same

  kept_as : (s : DaemonStep) → (after_step Later s).dumps ≡ d.tables.dumps → MayStep d.tables time s
      → StepNeeds d.tables d.requests h.contents d.cap sides s → DumpsKept time (after_step Later s).entries (after_step Later s).dumps
  kept_as s are may needs = subst (λ m. DumpsKept time (after_step Later s).entries m) (sym are) (same_dumps s may needs)

  removed_dumps : (path : List ℕ) (change : ℕ) (o : Option Ino) → (after_remove Later path change o).dumps ≡ d.tables.dumps
  removed_dumps path change None = refl
  removed_dumps path change (Some n) = refl

  begun_dumps : (b : Bfid) (groups : List GroupId) (n : ℕ) (o : Option Inode) → (after_begin_put Later b groups n o).dumps ≡ d.tables.dumps
  begun_dumps b groups n None = refl
  begun_dumps b groups n (Some i) = refl

  begun_dumps_at : (b : Bfid) (groups : List GroupId) (o : Option Ino) → (after_begin_put_at Later b groups o).dumps ≡ d.tables.dumps
  begun_dumps_at b groups None = refl
  begun_dumps_at b groups (Some n) = begun_dumps b groups n.0 (map.get d.tables.inodes n.0)

  released_dumps : (o : Option Ino) → (after_release Later o).dumps ≡ d.tables.dumps
  released_dumps None = refl
  released_dumps (Some n) = refl

  restored_dumps : (target : List ℕ) (change : ℕ) (o : Option DumpInode) → (after_restore Later target change o).dumps ≡ d.tables.dumps
  restored_dumps target change None = refl
  restored_dumps target change (Some f) = refl

  pub dumps_step : (s : DaemonStep) → MayStep d.tables time s → StepNeeds d.tables d.requests h.contents d.cap sides s
      → DumpsKept time (after_step Later s).entries (after_step Later s).dumps
  dumps_step (Write path change bytes) may needs = same_dumps (Write path change bytes) may needs
  dumps_step (Remove path change) may needs = kept_as (Remove path change) (removed_dumps path change (map.get d.tables.names path)) may needs
  dumps_step (BeginPut path b groups) may needs = kept_as (BeginPut path b groups) (begun_dumps_at b groups (map.get d.tables.names path)) may needs
  dumps_step (Stored b g) may needs = same_dumps (Stored b g) may needs
  dumps_step (EndPut n b dual) may needs = same_dumps (EndPut n b dual) may needs
  dumps_step (Release path) may needs = kept_as (Release path) (released_dumps (map.get d.tables.names path)) may needs
  dumps_step (Taken n bytes) may needs = same_dumps (Taken n bytes) may needs
  dumps_step (Dump name) may needs = with_new_dump name (same_dumps (Dump name) may needs)
  dumps_step (Undump name) may needs = without_dump name (same_dumps (Undump name) may needs)
  dumps_step (Restore name path target change) may needs =
      kept_as (Restore name path target change) (restored_dumps target change _) may needs
  dumps_step (HardDelete bfids) may needs = same_dumps (HardDelete bfids) may needs
  dumps_step (Dropped b) may needs = same_dumps (Dropped b) may needs
  dumps_step Restart may needs = absurd needs
  dumps_step (Age age) may needs = with_age age (same_dumps (Age age) may needs)

-- dumps are kept by a record that may land
pub dumps_landed : (d : Daemon) (h : History) (sides : ByNumber Side) (r : DaemonRecord) → FilesKept d.tables h.contents d.cap
    → MayLand d.tables d.requests h.contents d.cap sides r → DumpsKept d.tables.time.0 d.tables.entries d.tables.dumps
    → DumpsKept r.time.0 (after_record d.tables r).entries (after_record d.tables r).dumps
dumps_landed d h sides r k may dumps = dumps_step d h sides r.time.0 k may.follow.time dumps r.step may.follow.step may.needs
