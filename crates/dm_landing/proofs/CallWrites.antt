-- What a write, a patch or a removal that isn't refused journals may land.
use Rattle.std.proofs.Common.{◌≡◌, ◌⊎◌, inl, inr, ℕ, ◌+◌, ◌-◌, ◌<◌, ◌≤◌, false, Option, None, Some, is_some, IsSome, List, length}
use Rattle.std.proofs.Common.{refl, ap, ◌∙◌, arith}
use Rattle.std.specs.FinMap as map
use Rattle.std.proofs.lemmas.Bool.{leb-false, ltb-false}
use Rattle.dm_base.specs.Limits.{file_limit, files_limit}
use Rattle.dm_tables.specs.Totals.{weight_at}
use Rattle.dm_tables.proofs.Orders.{numbers}
use Rattle.dm_tables.proofs.Sums.{total-insert}
use Rattle.dm_durable.specs.Daemon.{number_or, size_of, after_write}
use Rattle.dm_durable.specs.Inodes.{length_of}
use Rattle.dm_durable.specs.declared.daemon.Contents.TheVariants.{Regular}
use Rattle.dm_durable.specs.declared.daemon.DaemonStep.TheVariants.{Write, Remove}
use Rattle.dm_durable.specs.declared.daemon.DaemonTables.{DaemonTables}
use Rattle.dm_durable.specs.declared.daemon.Inode.{Inode}
use Rattle.dm_model.specs.declared.state.Joint.{Joint}
use Rattle.dm_model.specs.Files.{File, file_named, file_at, length_at}
use Rattle.dm_model.specs.Guards.{NoneHold}
use Rattle.dm_model.specs.DaemonCalls.{names_used_if, changes_used, too_full, size_without, write, remove}
use Rattle.dm_invariant.proofs.Times.{time_kept}
use Rattle.dm_landing.proofs.CallFiles.{file_there, Found, found, Lands}

-- ---- sizes

abbrev weight : Inode → ℕ
weight i = length_of i.contents

-- where there was room for these bytes in place of the present ones, files and dumps fit after the write
write_fits_cap : (t : DaemonTables) (path : List ℕ) (change : ℕ) (bytes : List ℕ) (cap : ℕ) (o : Option File)
    → file_named t.inodes (map.get t.names path) ≡ o
    → size_of t - length_at o + length bytes ≤ cap → size_of (after_write t path change bytes) ≤ cap
write_fits_cap t path change bytes cap None at fits =
    let n = number_or (map.get t.names path) change in
    let put = total-insert numbers weight t.inodes n (record { change = change; contents = Regular bytes }) in
    omega arith
write_fits_cap t path change bytes cap (Some f) at fits =
    let there = file_there t.names t.inodes path f at in
    let n = number_or (map.get t.names path) change in
    let put = total-insert numbers weight t.inodes n (record { change = change; contents = Regular bytes }) in
    let was = ap (λ m. weight_at weight (map.get t.inodes m)) (ap (λ x. number_or x change) there.name) ∙ ap (weight_at weight) there.is in
    omega arith

-- the name is there, or there is room for one more
name_fits : (j : Joint) (path : List ℕ) (o : Option File) → file_at j.daemon path ≡ o → (names_used_if j.daemon o).0 ≡ false
    → IsSome (map.get j.daemon.tables.names path) ⊎ (map.len j.daemon.tables.names < files_limit)
name_fits j path None at room = inr (leb-false _ _ room)
name_fits j path (Some f) at room = inl (ap is_some (found j path f at).name)

pub write_may : (j : Joint) (path bytes : List ℕ) (now : ℕ) (o : Option File) → file_at j.daemon path ≡ o → length bytes ≤ file_limit
    → IsSome (map.get j.daemon.tables.names path) ⊎ (map.len j.daemon.tables.names < files_limit) → (changes_used j.daemon).0 ≡ false
    → (too_full j.daemon (size_without j.daemon o) (length bytes)).0 ≡ false → Lands j now (Write path (j.daemon.tables.change + 1) bytes)
write_may j path bytes now o at short room left full =
    let t = j.daemon.tables in
    record {
      follow = record {
        time = time_kept now t.time.0;
        step = record { next = record { next = refl; left = leb-false _ _ left }; short = short; room = room };
      };
      needs = write_fits_cap t path (t.change + 1) bytes j.daemon.cap o at (ltb-false _ _ full);
    }

-- ---- a write

pub write_lands : (j : Joint) (path bytes : List ℕ) (now : ℕ) (o : Option File) → file_at j.daemon path ≡ o
    → NoneHold (write j.daemon path bytes now o).refusals → Lands j now (Write path (j.daemon.tables.change + 1) bytes)
write_lands j path bytes now o at none =
    write_may j path bytes now o at (ltb-false _ _ none.0) (name_fits j path o at none.1.0) none.1.1.0 none.1.1.1.0

-- ---- a removal

pub remove_lands : (j : Joint) (path : List ℕ) (now : ℕ) (f : File) → Found j path f → NoneHold (remove j.daemon path now (Some f)).refusals
    → Lands j now (Remove path (j.daemon.tables.change + 1))
remove_lands j path now f at none = record {
  follow = record {
    time = time_kept now j.daemon.tables.time.0;
    step = record { next = record { next = refl; left = leb-false _ _ none.0 }; there = ap is_some at.name };
  };
  needs = tt;
}
