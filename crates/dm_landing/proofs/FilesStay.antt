-- Records that change no file: a copy is stored, a hard delete takes entries, an entry goes, dumps come and go, and the age
-- changes. Files are kept.
use Rattle.std.proofs.Common.{◌≡◌, ℕ, ◌+◌, ◌≤◌, Bool, true, false, cond, nat_eq, Option, Some, None, IsSome, List, refl, arith}
use Rattle.std.specs.List.{list_any}
use Rattle.std.specs.FinMap as map
use Rattle.dm_base.specs.declared.identifier.Bfid.{Bfid}
use Rattle.dm_base.specs.declared.identifier.Ino.{Ino}
use Rattle.dm_base.specs.Limits.{age_limit, dumps_limit, file_limit}
use Rattle.dm_tables.specs.Rows.{EachRow, adjust, map_values}
use Rattle.dm_tables.proofs.Orders.{numbers, paths}
use Rattle.dm_tables.proofs.Rows.{each-insert, each-remove}
use Rattle.dm_tables.proofs.Adjusted.{each-adjust, each-map}
use Rattle.dm_tables.proofs.Sums.{total-insert, total-remove}
use Rattle.dm_durable.specs.declared.daemon.Contents.{Contents}
use Rattle.dm_durable.specs.declared.daemon.Contents.TheVariants.{Regular, Making, Dual, Offline}
use Rattle.dm_durable.specs.declared.daemon.DaemonTables.{DaemonTables}
use Rattle.dm_durable.specs.declared.daemon.DaemonStep.TheVariants as step
use Rattle.dm_durable.specs.declared.daemon.Dump.{Dump}
use Rattle.dm_durable.specs.declared.daemon.Entry.{Entry}
use Rattle.dm_durable.specs.declared.daemon.Inode.{Inode}
use Rattle.dm_durable.specs.Tables.{ByNumber, ByName}
use Rattle.dm_durable.specs.Inodes.{bitfile_of, length_of, is_named}
use Rattle.dm_durable.specs.Entries.{with_copy_of, as_dropping}
use Rattle.dm_durable.specs.Dumps.{dump_size, file_dumped, file_dumped_if, new_dump, with_least}
use Rattle.dm_durable.specs.Daemon.{after_step, size_of, size_of_files, size_of_dumps, with_dropping}
use Rattle.dm_durable.specs.DaemonConditions.{MayDump, MayHardDelete, MayDrop}
use Rattle.dm_durable.specs.DaemonJournal.{MayBeDump, MayBeDumpFile, MayBeNamed}
use Rattle.dm_durable.proofs.Ages.{least_within}
use Rattle.dm_durable.proofs.Sizes.{size_aged}
use Rattle.dm_model.specs.declared.state.OpenRequest.{OpenRequest}
use Rattle.dm_model.specs.declared.state.Side.{Side}
use Rattle.dm_invariant.specs.Among.{IsAmong}
use Rattle.dm_invariant.specs.Doubts.{InGroup, NoRequestOf, NotInGroup}
use Rattle.dm_invariant.specs.Files.{FilesKept}
use Rattle.dm_invariant.proofs.Counts.{counted_insert, counted_remove, counted_adjust, counted_mapped}
use Rattle.dm_landing.proofs.EntriesGone.{go_itself, go_stored, go_taken, go_dropped}
use Rattle.dm_landing.proofs.Fates.{EntriesGo}
use Rattle.dm_landing.proofs.FatesFiles.{lengths_go}
use Rattle.dm_landing.proofs.FilesWith.{NamedIn, NoneComes, SameFiles}
use Rattle.dm_landing.proofs.NamedRows.{dumps_onward}

module _ (t : DaemonTables) (contents : ByNumber (List ℕ)) (cap : ℕ) (sides : ByNumber Side) (requests : ByNumber OpenRequest) (time : ℕ)
    (k : FilesKept t contents cap) (on : t.time.0 ≤ time) where
  abbrev Goes : ByNumber Entry → Type 0
  Goes entries = EntriesGo (NamedIn t.inodes) sides requests time t.age NoneComes t.entries entries

  abbrev pub Same : ℕ → ByNumber Entry → ByName Dump → Type 0
  Same age entries dumps = SameFiles t contents cap sides requests time age entries dumps

  dumps_stay : (entries : ByNumber Entry) → Goes entries → EachRow t.dumps (λ name d. MayBeDump t.site t.counter time t.age entries d)
  dumps_stay entries go =
      dumps_onward t.site t.counter t.counter t.time.0 time t.age t.entries entries t.dumps (omega arith) on
      (lengths_go (NamedIn t.inodes) sides requests time t.age NoneComes t.entries entries t.site t.counter go (λ b e none given. none)) k.state.dumps

  -- entries alone change
  entries_alone : (entries : ByNumber Entry) → Goes entries → EachRow entries (λ b e. is_named t.inodes b ≡ false → IsSome e.gone)
      → map.len entries ≤ map.len t.entries → Same t.age entries t.dumps
  entries_alone entries go unnamed fewer = record {
    on = on;
    old = k.state.age;
    go = go;
    unnamed = unnamed;
    many = let most = k.state.entries_most in omega (arith, fewer, most);
    few = k.state.dumps_most;
    rows = dumps_stay entries go;
    size = k.size;
  }

  -- time alone passes
  pub same_timed : Same t.age t.entries t.dumps
  same_timed = entries_alone t.entries (go_itself (NamedIn t.inodes) sides requests time t.age NoneComes t.entries) k.unnamed (omega arith)

  -- a group stores its copy
  pub same_stored : (b g : ℕ) → InGroup sides g b → Same t.age (adjust t.entries b (with_copy_of g)) t.dumps
  same_stored b g there =
      let fewer = counted_adjust numbers t.entries b (with_copy_of g) in
      entries_alone (adjust t.entries b (with_copy_of g)) (go_stored (NamedIn t.inodes) sides requests time t.age NoneComes t.entries b g there)
      (each-adjust numbers (λ b e. is_named t.inodes b ≡ false → IsSome e.gone) t.entries b (with_copy_of g) (λ e at. k.unnamed b e at) k.unnamed)
      (omega (arith, fewer))

  gone_still : (taken : Bool) (e : Entry) → IsSome e.gone → IsSome (cond taken (as_dropping e) e).gone
  gone_still true e is = is
  gone_still false e is = is

  -- a hard delete takes entries
  pub same_taken : (bfids : List Bfid) → MayHardDelete t time bfids → ((c : Bfid) → IsAmong c bfids → NoRequestOf requests c.0)
      → Same t.age (with_dropping bfids t.entries) t.dumps
  same_taken bfids may free =
      let f : ℕ → Entry → Entry = λ b e. cond (list_any (λ c. nat_eq c.0 b) bfids) (as_dropping e) e in
      let fewer = counted_mapped numbers f t.entries in
      entries_alone (with_dropping bfids t.entries)
      (go_taken (NamedIn t.inodes) sides requests time t.age NoneComes t bfids refl may.each free)
      (each-map numbers (λ b e. is_named t.inodes b ≡ false → IsSome e.gone) f t.entries
      (λ b e is none. gone_still (list_any (λ c. nat_eq c.0 b) bfids) e (k.unnamed b e is none)))
      (omega (arith, fewer))

  -- an entry goes
  pub same_dropped : (b : ℕ) → MayDrop t b → EachRow sides (λ g s. NotInGroup b s) → Same t.age (map.remove t.entries b) t.dumps
  same_dropped b may away =
      entries_alone (map.remove t.entries b)
      (go_dropped (NamedIn t.inodes) sides requests time t.age NoneComes t.entries b may.entry may.is may.dropping away)
      (each-remove numbers (λ b e. is_named t.inodes b ≡ false → IsSome e.gone) t.entries b k.unnamed)
      (counted_remove numbers t.entries b)

  -- ---- dumps

  -- dumps or the age change alone
  dumps_alone : (age : ℕ) (dumps : ByName Dump) → age ≤ age_limit → map.len dumps ≤ dumps_limit
      → EachRow dumps (λ name d. MayBeDump t.site t.counter time age t.entries d)
      → size_of_files t.inodes + size_of_dumps dumps ≤ cap → Same age t.entries dumps
  dumps_alone age dumps old few rows size = record {
    on = on;
    old = old;
    go = go_itself (NamedIn t.inodes) sides requests time t.age NoneComes t.entries;
    unnamed = k.unnamed;
    many = k.state.entries_most;
    few = few;
    rows = rows;
    size = size;
  }

  dumped_file : (c : Contents) → length_of c ≤ file_limit → MayBeNamed t.site t.counter t.entries (length_of c) (bitfile_of c)
      → MayBeDumpFile t.site t.counter t.entries (file_dumped c)
  dumped_file (Regular bytes) short names = record { short = short; names = tt }
  dumped_file (Making bytes b) short names = record { short = short; names = tt }
  dumped_file (Dual bytes b) short names = record { short = short; names = names }
  dumped_file (Offline len b) short names = record { short = short; names = names }

  dumped_at : (n : Ino) (o : Option Inode) → map.get t.inodes n.0 ≡ o → IsSome o → MayBeDumpFile t.site t.counter t.entries (file_dumped_if o)
  dumped_at n None at is = cc
  dumped_at n (Some i) at is = let may = k.state.inodes n.0 i at in dumped_file i.contents may.short may.names

  new_dump_may : MayBeDump t.site t.counter time t.age t.entries (new_dump time t.age t.names t.inodes)
  new_dump_may = record {
    made = omega arith;
    least = omega arith;
    files = each-map paths (λ path f. MayBeDumpFile t.site t.counter t.entries f) (λ path n. file_dumped_if (map.get t.inodes n.0)) t.names
        (λ path n is. dumped_at n (map.get t.inodes n.0) refl (k.state.names path n is));
  }

  size_dumped : (name : List ℕ) → size_of (after_step t (step.Dump name)) ≤ cap
      → size_of_files t.inodes + size_of_dumps (map.insert t.dumps name (new_dump time t.age t.names t.inodes)) ≤ cap
  size_dumped name fits =
      let a = total-insert paths dump_size t.dumps name (new_dump time t.age t.names t.inodes) in
      let b = total-insert paths dump_size t.dumps name (new_dump t.time.0 t.age t.names t.inodes) in
      omega (arith, a, b, fits)

  -- a dump is made
  pub same_dumped : (name : List ℕ) → MayDump t name → size_of (after_step t (step.Dump name)) ≤ cap
      → Same t.age t.entries (map.insert t.dumps name (new_dump time t.age t.names t.inodes))
  same_dumped name may fits =
      let more = counted_insert paths t.dumps name (new_dump time t.age t.names t.inodes) in
      let room = may.room in
      dumps_alone t.age (map.insert t.dumps name (new_dump time t.age t.names t.inodes)) k.state.age (omega (arith, more, room))
      (each-insert paths (λ name d. MayBeDump t.site t.counter time t.age t.entries d) t.dumps name (new_dump time t.age t.names t.inodes) new_dump_may
      (dumps_stay t.entries (go_itself (NamedIn t.inodes) sides requests time t.age NoneComes t.entries)))
      (size_dumped name fits)

  -- or goes
  pub same_undumped : (name : List ℕ) → Same t.age t.entries (map.remove t.dumps name)
  same_undumped name =
      let fewer = counted_remove paths t.dumps name in
      let most = k.state.dumps_most in
      let less = total-remove paths dump_size t.dumps name in
      let size = k.size in
      dumps_alone t.age (map.remove t.dumps name) k.state.age (omega (arith, fewer, most))
      (each-remove paths (λ name d. MayBeDump t.site t.counter time t.age t.entries d) t.dumps name
      (dumps_stay t.entries (go_itself (NamedIn t.inodes) sides requests time t.age NoneComes t.entries)))
      (omega (arith, less, size))

  aged : (age : ℕ) (d : Dump) → MayBeDump t.site t.counter time t.age t.entries d → MayBeDump t.site t.counter time age t.entries (with_least age d)
  aged age d may = record { made = may.made; least = least_within age d; files = may.files }

  -- the age changes
  pub same_aged : (age : ℕ) → age ≤ age_limit → Same age t.entries (map_values (λ name d. with_least age d) t.dumps)
  same_aged age most =
      let fewer = counted_mapped paths (λ name d. with_least age d) t.dumps in
      let few = k.state.dumps_most in
      let same = size_aged age t.dumps in
      let size = k.size in
      let rows = dumps_stay t.entries (go_itself (NamedIn t.inodes) sides requests time t.age NoneComes t.entries) in
      dumps_alone age (map_values (λ name d. with_least age d) t.dumps) most (omega (arith, fewer, few))
      (each-map paths (λ name d. MayBeDump t.site t.counter time age t.entries d) (λ name d. with_least age d) t.dumps
      (λ name d is. aged age d (rows name d is)))
      (omega (arith, same, size))
