-- What the calls on dumps and the age journal, where they aren't refused, may land.
use Rattle.std.proofs.Common.{◌≡◌, ℕ, ◌+◌, ◌≤◌, true, Some, List, refl, sym, ap, subst, ◌∙◌, arith}
use Rattle.std.specs.FinMap as map
use Rattle.std.proofs.lemmas.Bool.{not-false, leb-false, ltb-false, ltb-true, lt-ltb}
use Rattle.dm_tables.proofs.Orders.{numbers, paths}
use Rattle.dm_tables.proofs.Sums.{total-insert}
use Rattle.dm_durable.specs.Tables.{ByNumber}
use Rattle.dm_durable.specs.Daemon.{size_of, after_restore}
use Rattle.dm_durable.specs.DaemonConditions.{IsThere}
use Rattle.dm_durable.specs.Dumps.{as_restored, dump_size, file_in, is_young, length_dumped, new_dump}
use Rattle.dm_durable.specs.Inodes.{length_of}
use Rattle.dm_durable.specs.declared.daemon.DaemonStep.TheVariants.{Dump, Undump, Restore, Age}
use Rattle.dm_durable.specs.declared.daemon.DaemonTables.{DaemonTables}
use Rattle.dm_durable.specs.declared.daemon.Dump.{Dump as DumpRow}
use Rattle.dm_durable.specs.declared.daemon.DumpInode.{DumpInode}
use Rattle.dm_durable.specs.declared.daemon.DumpInode.TheVariants.{Kept as KeptFile, Named as NamedFile}
use Rattle.dm_durable.specs.declared.daemon.Entry.{Entry}
use Rattle.dm_durable.specs.declared.daemon.Inode.{Inode}
use Rattle.dm_model.specs.declared.state.Joint.{Joint}
use Rattle.dm_model.specs.DaemonCalls.{make_dump, undump, restore_file, set_age, time_at}
use Rattle.dm_model.specs.Guards.{NoneHold}
use Rattle.dm_invariant.specs.Files.{DumpedRightly}
use Rattle.dm_invariant.specs.Kept.{InvariantHolds}
use Rattle.dm_invariant.proofs.Options.{no_value}
use Rattle.dm_invariant.proofs.Times.{time_kept}
use Rattle.dm_landing.proofs.CallFiles.{Lands}

-- ---- a dump is made

-- where there was room for what it keeps, files and dumps fit after it
dump_fits_cap : (t : DaemonTables) (name : List ℕ) (dump : DumpRow) (cap : ℕ) → size_of t + dump_size dump ≤ cap
    → size_of (record t { dumps = map.insert t.dumps name dump }) ≤ cap
dump_fits_cap t name dump cap fits = let put = total-insert paths dump_size t.dumps name dump in omega arith

pub dump_lands : (j : Joint) (name : List ℕ) (now : ℕ) → NoneHold (make_dump j.daemon name now).refusals → Lands j now (Dump name)
dump_lands j name now none =
    let t = j.daemon.tables in
    record {
      follow = record { time = time_kept now t.time.0; step = record { new = no_value _ none.0; room = leb-false _ _ none.1.0 } };
      needs = dump_fits_cap t name (new_dump t.time.0 t.age t.names t.inodes) j.daemon.cap (ltb-false _ _ none.1.1.0);
    }

-- ---- a dump is removed

pub undump_lands : (j : Joint) (name : List ℕ) (now : ℕ) → NoneHold (undump j.daemon name now).refusals → Lands j now (Undump name)
undump_lands j name now none = record {
  follow = record { time = time_kept now j.daemon.tables.time.0; step = not-false _ none.0 };
  needs = tt;
}

-- ---- a file is restored

length_restored : (file : DumpInode) → length_of (as_restored file) ≡ length_dumped file
length_restored (KeptFile bytes) = refl
length_restored (NamedFile len b) = refl

restore_fits_cap : (t : DaemonTables) (target : List ℕ) (change : ℕ) (file : DumpInode) (cap : ℕ) → size_of t + length_dumped file ≤ cap
    → size_of (after_restore t target change (Some file)) ≤ cap
restore_fits_cap t target change file cap fits =
    let i : Inode = record { change = change; contents = as_restored file } in
    let put = total-insert numbers (λ (x : Inode). length_of x.contents) t.inodes change i in
    let len = length_restored file in
    omega arith

-- a dump that is young was young before
young_before : (now later : ℕ) (d : DumpRow) → now ≤ later → is_young later d ≡ true → is_young now d ≡ true
young_before now later d on young = let y = ltb-true _ _ young in lt-ltb _ _ (omega (arith, y, on))

-- the bytes of a file of a young dump are there
file_there : (entries : ByNumber Entry) (made : ℕ) (file : DumpInode) → DumpedRightly entries made file → IsThere entries file
file_there entries made (KeptFile bytes) k = tt
file_there entries made (NamedFile len b) k = record { entry = k.entry; is = k.is; complete = k.complete }

pub restore_lands : (j : Joint) → InvariantHolds j → (name path target : List ℕ) (now : ℕ) (dump : DumpRow) (file : DumpInode)
    → map.get j.daemon.tables.dumps name ≡ Some dump → map.get dump.files path ≡ Some file
    → NoneHold (restore_file j.daemon name path target now dump (Some file)).refusals
    → Lands j now (Restore name path target (j.daemon.tables.change + 1))
restore_lands j kept name path target now dump file known has none =
    let t = j.daemon.tables in
    let young = not-false _ none.0 in
    let on = time_kept now t.time.0 in
    let rightly = kept.dumps.young name dump known (young_before t.time.0 (time_at j.daemon now) dump on young) path file has in
    let found : file_in (map.get t.dumps name) path ≡ Some file = ap (λ o. file_in o path) known ∙ has in
    record {
      follow = record {
        time = on;
        step = record {
          dump = dump;
          known = known;
          file = file;
          has = has;
          young = young;
          there = file_there t.entries dump.made.0 file rightly;
          new = no_value _ none.1.0;
          room = leb-false _ _ none.1.1.0;
          next = record { next = refl; left = leb-false _ _ none.1.1.1.0 };
        };
      };
      needs = subst (λ o. size_of (after_restore t target (t.change + 1) o) ≤ j.daemon.cap) (sym found)
          (restore_fits_cap t target (t.change + 1) file j.daemon.cap (ltb-false _ _ none.1.1.1.1.0));
    }

-- ---- an age is set

pub age_lands : (j : Joint) (age now : ℕ) → NoneHold (set_age j.daemon age now).refusals → Lands j now (Age age)
age_lands j age now none = record {
  follow = record { time = time_kept now j.daemon.tables.time.0; step = ltb-false _ _ none.0 };
  needs = tt;
}
