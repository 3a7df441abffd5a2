-- The example is opened, and one of its volumes is sparse.
use Rattle.std.proofs.Common.{◌≡◌, ◌≢◌, ◌≤◌, ◌+◌, ℕ, Bool, true, false, cond, None, Some, IsSome, is_some, List, [], ◌∷◌, refl, sym, ap, subst, inl, inr, arith, ◌∙◌}
use Rattle.std.proofs.Common.{nat_cmp}
use Rattle.std.specs.Cmp.Lexicographic.{slice_cmp}
use Rattle.std.specs.FinMap as map
use Rattle.dm_base.specs.declared.identifier.GroupId.{GroupId}
use Rattle.dm_base.specs.declared.identifier.Ino.{Ino}
use Rattle.dm_rules.specs.Merge.{is_sparse, weights}
use Rattle.dm_rules.specs.Room.{room}
use Rattle.dm_rules.specs.State.{state_of}
use Rattle.dm_tables.specs.Rows.{EachRow}
use Rattle.dm_tables.specs.Totals.{weight_at}
use Rattle.dm_tables.proofs.Any.{any-none}
use Rattle.dm_tables.proofs.Orders.{numbers, paths}
use Rattle.dm_tables.proofs.Rows.{each-empty, each-insert, get-beside, get-here}
use Rattle.dm_tables.proofs.Sums.{total-empty, total-insert}
use Rattle.dm_durable.specs.declared.daemon.Dump.{Dump}
use Rattle.dm_durable.specs.declared.daemon.DumpInode.{DumpInode}
use Rattle.dm_durable.specs.declared.daemon.DumpInode.TheVariants.{Kept as KeptFile, Named as NamedFile}
use Rattle.dm_durable.specs.declared.daemon.Entry.{Entry}
use Rattle.dm_durable.specs.declared.daemon.Inode.{Inode}
use Rattle.dm_durable.specs.declared.group.BitfileRow.{BitfileRow}
use Rattle.dm_durable.specs.Daemon.{size_of}
use Rattle.dm_durable.specs.DaemonJournal.{HasLength, IsGiven, MayBeDump, MayBeDumpFile, MayBeEntry, MayBeInode, MayBeState}
use Rattle.dm_durable.specs.Dumps.{bytes_kept, dump_size, is_young}
use Rattle.dm_durable.specs.Entries.{groups_asked}
use Rattle.dm_durable.specs.Inodes.{is_making, is_named, length_of}
use Rattle.dm_durable.specs.Group.{is_on}
use Rattle.dm_durable.specs.Tables.{ByName, same_text}
use Rattle.dm_durable.specs.Volumes.{is_sparse_in, tip_or, weight_on}
use Rattle.std.specs.List.{filter}
use Rattle.dm_model.specs.declared.state.Mounted.{Mounted}
use Rattle.dm_model.specs.declared.state.Reusing.{Reusing}
use Rattle.dm_model.specs.declared.state.Reserved.{Reserved}
use Rattle.dm_model.specs.Volumes.{has_piece_on, usage_of}
use Rattle.dm_model.specs.declared.state.Side.{Side}
use Rattle.dm_invariant.specs.Doubts.{AllConfigured}
use Rattle.dm_invariant.specs.Files.{DumpedRightly, DumpsKept, HeldRightly, NamedWhole}
use Rattle.dm_invariant.specs.Kept.{committed_in, deleted_in}
use Rattle.dm_invariant.specs.Opened.{IsAsConfigured, Opened, SideOpened}
use Rattle.dm_invariant.specs.Sound.{GroupSound, Sound}
use Rattle.dm_invariant.specs.Volumes.{IsNumberOf}
use Rattle.dm_invariant.proofs.Counts.{counted_insert}
use Rattle.dm_invariant.proofs.LettingGo.{named_by}
use Rattle.dm_invariant.proofs.Options.{same_row}
use Rattle.dm_stops.specs.Example.{bitfile, daemon_tables, dual, dump, dump_name, dumped, entries, entry, example, example_daemon, example_history, first_side, first_volume, first_vsn, has_bitfile, inodes, names, offline, path_of, regular, row_of, second_side, second_volume, second_vsn, stored}
use Rattle.dm_stops.proofs.ExampleSides.{Right, group_sound, number, side_opened}
use Rattle.dm_stops.proofs.NothingOpen.{requests_none}
use Rattle.sha2.specs.Sha256.{sha256}

-- ---- keys that differ

one_two : ◌≢◌ {A = ℕ} 1 2
one_two e = omega (arith, e)

three_one : ◌≢◌ {A = ℕ} 3 1
three_one e = omega (arith, e)

three_two : ◌≢◌ {A = ℕ} 3 2
three_two e = omega (arith, e)

-- ---- rows

pub dump_is : map.get daemon_tables.dumps dump_name ≡ Some dump
dump_is = get-here paths map.empty dump_name dump

entry_is : map.get entries bitfile.0 ≡ Some entry
entry_is = get-here numbers map.empty bitfile.0 entry

content_is : map.get example_history.contents bitfile.0 ≡ Some stored
content_is = get-here numbers map.empty bitfile.0 stored

pub inode_3 : map.get inodes 3 ≡ Some offline
inode_3 = get-here numbers _ 3 offline

pub inode_2 : map.get inodes 2 ≡ Some dual
inode_2 = get-beside numbers _ 3 offline 2 (λ e. three_two (sym e)) ∙ get-here numbers _ 2 dual

pub inode_1 : map.get inodes 1 ≡ Some regular
inode_1 =
    get-beside numbers _ 3 offline 1 (λ e. three_one (sym e)) ∙ get-beside numbers _ 2 dual 1 one_two ∙ get-here numbers map.empty 1 regular

-- what holds of each of the three files holds of all
each_inode : (P : ℕ → Inode → Type 0) → P 1 regular → P 2 dual → P 3 offline → EachRow inodes P
each_inode P one two three =
    each-insert numbers P _ 3 offline three (each-insert numbers P _ 2 dual two (each-insert numbers P map.empty 1 regular one (each-empty nat_cmp _)))

each_name : (P : List ℕ → Ino → Type 0) → P (path_of 1) (record { 0 = 1 }) → P (path_of 2) (record { 0 = 2 }) → P (path_of 3) (record { 0 = 3 })
    → EachRow names P
each_name P one two three =
    each-insert paths P _ (path_of 3) (record { 0 = 3 }) three
    (each-insert paths P _ (path_of 2) (record { 0 = 2 }) two (each-insert paths P map.empty (path_of 1) (record { 0 = 1 }) one (each-empty (slice_cmp nat_cmp) _)))

each_entry : (P : ℕ → Entry → Type 0) → P bitfile.0 entry → EachRow entries P
each_entry P one = each-insert numbers P map.empty bitfile.0 entry one (each-empty nat_cmp _)

each_dump : (P : List ℕ → Dump → Type 0) → P dump_name dump → EachRow daemon_tables.dumps P
each_dump P one = each-insert paths P map.empty dump_name dump one (each-empty (slice_cmp nat_cmp) _)

each_dumped : (P : List ℕ → DumpInode → Type 0) → P (path_of 1) (KeptFile (7 ∷ [])) → P (path_of 2) (NamedFile 2 bitfile) → EachRow dumped P
each_dumped P one two =
    each-insert paths P _ (path_of 2) (NamedFile 2 bitfile) two (each-insert paths P map.empty (path_of 1) (KeptFile (7 ∷ [])) one (each-empty (slice_cmp nat_cmp) _))

each_side : (P : ℕ → Side → Type 0) → P 1 first_side → P 2 second_side → EachRow example.sides P
each_side P one two =
    each-insert numbers P _ 2 second_side two (each-insert numbers P map.empty 1 first_side one (each-empty nat_cmp _))

path_is : EachRow names (λ path n. path ≡ path_of n.0)
path_is = each_name (λ path n. path ≡ path_of n.0) refl refl refl

paths_differ : (n m : ℕ) → (n ≡ m → ⊥) → path_of n ≢ path_of m
paths_differ n m differ e =
    let l : 96 + n ≡ 96 + m = ap second e in
    differ (omega (arith, l))
  where
    second : List ℕ → ℕ
    second [] = 0
    second (x ∷ []) = 0
    second (x ∷ y ∷ rest) = y

name_3 : map.get names (path_of 3) ≡ Some (record { 0 = 3 })
name_3 = get-here paths _ (path_of 3) (record { 0 = 3 })

name_2 : map.get names (path_of 2) ≡ Some (record { 0 = 2 })
name_2 =
    get-beside paths _ (path_of 3) (record { 0 = 3 }) (path_of 2) (paths_differ 2 3 (λ e. three_two (sym e))) ∙ get-here paths _ (path_of 2) (record { 0 = 2 })

name_1 : map.get names (path_of 1) ≡ Some (record { 0 = 1 })
name_1 =
    get-beside paths _ (path_of 3) (record { 0 = 3 }) (path_of 1) (paths_differ 1 3 (λ e. three_one (sym e)))
    ∙ get-beside paths _ (path_of 2) (record { 0 = 2 }) (path_of 1) (paths_differ 1 2 one_two) ∙ get-here paths map.empty (path_of 1) (record { 0 = 1 })

-- ---- the daemon's tables

given : IsGiven 1 2 bitfile.0
given = record { counter = 1; is = refl; used = omega arith }

long : HasLength entries 2 bitfile.0
long e is = ap (λ (x : Entry). x.len) (sym (same_row (map.get entries bitfile.0) entry e entry_is is))

few_names : map.len names ≤ 3
few_names =
    let one : ByName Ino = map.insert map.empty (path_of 1) (record { 0 = 1 }) in
    let two : ByName Ino = map.insert one (path_of 2) (record { 0 = 2 }) in
    let none = map.len-empty (slice_cmp nat_cmp) Ino in
    let first = counted_insert {X = Ino} paths map.empty (path_of 1) (record { 0 = 1 }) in
    let second = counted_insert {X = Ino} paths one (path_of 2) (record { 0 = 2 }) in
    let third = counted_insert {X = Ino} paths two (path_of 3) (record { 0 = 3 }) in
    omega (arith, none, first, second, third)

few_entries : map.len entries ≤ 1
few_entries =
    let none = map.len-empty nat_cmp Entry in
    let first = counted_insert {X = Entry} numbers map.empty bitfile.0 entry in
    omega (arith, none, first)

few_dumps : map.len daemon_tables.dumps ≤ 1
few_dumps =
    let none = map.len-empty (slice_cmp nat_cmp) Dump in
    let first = counted_insert {X = Dump} paths map.empty dump_name dump in
    omega (arith, none, first)

tables_may : MayBeState daemon_tables
tables_may =
    let names_few = few_names in
    let entries_few = few_entries in
    let dumps_few = few_dumps in
    record {
      change = omega arith;
      counter_least = omega arith;
      counter_most = omega arith;
      site = record { least = omega arith; most = omega arith };
      first = record { least = omega arith; most = omega arith };
      begun_age = omega arith;
      age = omega arith;
      files_most = omega (arith, names_few);
      entries_most = omega (arith, entries_few);
      dumps_most = omega (arith, dumps_few);
      names = each_name (λ path n. IsSome (map.get inodes n.0)) (ap is_some inode_1) (ap is_some inode_2) (ap is_some inode_3);
      names_apart = λ p q n m at other same. path_is p n at ∙ ap path_of same ∙ sym (path_is q m other);
      named = each_inode (λ n i. (path : List ℕ) × (ino : Ino) × (map.get names path ≡ Some ino) × (ino.0 ≡ n))
          (path_of 1, record { 0 = 1 }, name_1, refl) (path_of 2, record { 0 = 2 }, name_2, refl) (path_of 3, record { 0 = 3 }, name_3, refl);
      inodes = each_inode (MayBeInode 1 2 3 entries) (record {
        number = record { least = omega arith; most = omega arith };
        change = record { least = omega arith; most = omega arith };
        short = omega arith;
        names = tt;
      }) (record {
        number = record { least = omega arith; most = omega arith };
        change = record { least = omega arith; most = omega arith };
        short = omega arith;
        names = (given, long);
      }) (record {
        number = record { least = omega arith; most = omega arith };
        change = record { least = omega arith; most = omega arith };
        short = omega arith;
        names = (given, long);
      });
      entries = each_entry (MayBeEntry 1 2 10) (record {
        given = given;
        short = omega arith;
        asked = refl;
        numbers = (record { least = omega arith; most = omega arith }, (record { least = omega arith; most = omega arith }, tt));
        deleted = tt;
      });
      dumps = each_dump (λ name d. MayBeDump 1 2 10 100 entries d) (record {
        made = omega arith;
        least = omega arith;
        files = each_dumped (λ path f. MayBeDumpFile 1 2 entries f) (record { short = omega arith; names = tt })
            (record { short = omega arith; names = (given, long) });
      });
    }

named : NamedWhole entries bitfile.0 2
named = record { named = record { entry = entry; is = entry_is; sized = refl; there = refl; lasting = refl }; whole = refl }

held : EachRow inodes (λ n i. HeldRightly entries example_history.contents i.contents)
held = each_inode (λ n i. HeldRightly entries example_history.contents i.contents) tt (named, content_is) named

still_named : is_named inodes bitfile.0 ≡ true
still_named = named_by inodes 2 dual bitfile.0 inode_2 refl

dumps_kept : DumpsKept 10 entries daemon_tables.dumps
dumps_kept = record {
  young = each_dump (λ name d. is_young 10 d ≡ true → EachRow d.files (λ path f. DumpedRightly entries d.made.0 f)) (λ young. each_dumped (λ path f. DumpedRightly entries 8 f) tt
      (record { entry = entry; is = entry_is; complete = refl; sized = refl; later = tt }));
}

-- ---- the groups

right_first : Right 1 first_vsn first_volume 144 None
right_first = record {
  number = record { least = omega arith; most = omega arith };
  asked = refl;
  serial = record { six = refl; bytes = (refl, (refl, (refl, (refl, (refl, (refl, tt)))))) };
  slot = refl;
  version = record { low = omega arith; high = omega arith };
  epoch = omega arith;
  last = omega arith;
  size = refl;
  held = refl;
  behind = omega arith;
  within = omega arith;
  end = omega arith;
  has = refl;
  right = tt;
}

right_second : Right 2 second_vsn second_volume 176 (Some (sha256 stored))
right_second = record {
  number = record { least = omega arith; most = omega arith };
  asked = refl;
  serial = record { six = refl; bytes = (refl, (refl, (refl, (refl, (refl, (refl, tt)))))) };
  slot = refl;
  version = record { low = omega arith; high = omega arith };
  epoch = omega arith;
  last = omega arith;
  size = refl;
  held = refl;
  behind = omega arith;
  within = omega arith;
  end = omega arith;
  has = refl;
  right = refl;
}

pub side_1 : map.get example.sides 1 ≡ Some first_side
side_1 = get-beside numbers _ 2 second_side 1 one_two ∙ get-here numbers map.empty 1 first_side

pub side_2 : map.get example.sides 2 ≡ Some second_side
side_2 = get-here numbers _ 2 second_side

few_bytes : size_of daemon_tables ≤ 1000
few_bytes =
    let size : Inode → ℕ = λ i. length_of i.contents in
    let none = total-empty nat_cmp size in
    let one = total-insert numbers size map.empty 1 regular in
    let two = total-insert numbers size (map.insert map.empty 1 regular) 2 dual in
    let three = total-insert numbers size (map.insert (map.insert map.empty 1 regular) 2 dual) 3 offline in
    let no_dumps = total-empty (slice_cmp nat_cmp) dump_size in
    let dumps = total-insert paths dump_size map.empty dump_name dump in
    let no_files = total-empty (slice_cmp nat_cmp) bytes_kept in
    let kept = total-insert paths bytes_kept map.empty (path_of 1) (KeptFile (7 ∷ [])) in
    let more = total-insert paths bytes_kept (map.insert map.empty (path_of 1) (KeptFile (7 ∷ []))) (path_of 2) (NamedFile 2 bitfile) in
    omega (arith, none, one, two, three, no_dumps, dumps, no_files, kept, more)

example_sound : Sound example
example_sound = record {
  files = record {
    state = tables_may;
    held = held;
    unnamed = each_entry (λ b e. is_named inodes b ≡ false → IsSome e.gone) (λ none. let named = still_named in cc);
    contents_given = each-insert numbers (λ b bytes. IsGiven 1 2 b) map.empty bitfile.0 stored given (each-empty nat_cmp _);
    size = few_bytes;
  };
  dumps = dumps_kept;
  requests = requests_none _ _ _ _;
  groups = each_side (GroupSound example_daemon example_history) (group_sound 1 first_vsn first_volume 144 None right_first)
      (group_sound 2 second_vsn second_volume 176 (Some (sha256 stored)) right_second);
  doubt = tt;
}

-- ---- the configuration

configured : AllConfigured example.sides (record { 0 = 1 } ∷ record { 0 = 2 } ∷ [])
configured g (inl same) = subst (λ (x : GroupId). IsSome (map.get example.sides x.0)) (sym same) (ap is_some side_1)
configured g (inr (inl same)) = subst (λ (x : GroupId). IsSome (map.get example.sides x.0)) (sym same) (ap is_some side_2)
configured g (inr (inr none)) = absurd none

example_fits : IsAsConfigured example
example_fits = record {
  entries = each_entry (λ b e. AllConfigured example.sides (groups_asked e)) configured;
  sides = each_side (λ g s. IsNumberOf g s.group.tables.group.0) (number 1 first_vsn first_volume 144 None right_first)
      (number 2 second_vsn second_volume 176 (Some (sha256 stored)) right_second);
}

-- ---- as the program starts

history_1 : map.get example_history.groups 1 ≡ Some has_bitfile
history_1 = get-beside numbers _ 2 has_bitfile 1 one_two ∙ get-here numbers map.empty 1 has_bitfile

history_2 : map.get example_history.groups 2 ≡ Some has_bitfile
history_2 = get-here numbers _ 2 has_bitfile

opened_as : (g : ℕ) (s : Side) → map.get example_history.groups g ≡ Some has_bitfile → SideOpened has_bitfile.committed has_bitfile.deleted s
    → SideOpened (committed_in (map.get example_history.groups g)) (deleted_in (map.get example_history.groups g)) s
opened_as g s is opened = subst (λ o. SideOpened (committed_in o) (deleted_in o) s) (sym is) opened

pub example_opened : Opened example
example_opened = record {
  sound = example_sound;
  fits = example_fits;
  requests = refl;
  doubt = refl;
  workers = refl;
  ended = any-none (λ n i. is_making i.contents) inodes (each_inode (λ n i. is_making i.contents ≡ false) refl refl refl);
  sides = each_side (λ g s. SideOpened (committed_in (map.get example_history.groups g)) (deleted_in (map.get example_history.groups g)) s)
      (opened_as 1 first_side history_1 (side_opened 1 first_vsn first_volume 144 None right_first))
      (opened_as 2 second_side history_2 (side_opened 2 second_vsn second_volume 176 (Some (sha256 stored)) right_second));
  taken = record {
    dropping = each_entry (λ b e. e.dropping ≡ is_some (map.get (map.empty {X = Unit {0}} {R = nat_cmp}) b)) (sym (ap is_some (map.get-empty nat_cmp bitfile.0)));
    given = each-empty nat_cmp _;
  };
}

-- ---- a sparse volume

-- whether a volume of version 1 is sparse, by what was looked up
abbrev sparse_by : ℕ → ℕ → Bool → Bool → Bool → Bool
sparse_by tip weighs reserved mounted reused =
    is_sparse 50 (state_of tip (cond reused 0 (room 1 256 tip 64)) None) weighs tip reserved mounted

sparse_at : sparse_by 256 82 false false false ≡ true
unfolding room
sparse_at = refl

weighs : weight_on first_side.group.tables.bitfiles 1 first_vsn.0 ≡ 82
weighs =
    let w : BitfileRow → ℕ = λ row. weights 1 (filter (is_on first_vsn.0) row.chunks) in
    let none = total-empty nat_cmp w in
    let one = total-insert numbers w map.empty bitfile.0 (row_of first_vsn 144 None) in
    let was : weight_at w (map.get map.empty bitfile.0) ≡ 0 = ap (weight_at w) (map.get-empty nat_cmp bitfile.0) in
    omega (arith, none, one, was)

pub example_sparse : is_sparse_in (usage_of first_side.group) 50 first_side.group.tables first_vsn.0 first_volume ≡ true
example_sparse =
    let tip = ap (λ o. tip_or o first_volume) (map.get-empty {X = ℕ} (slice_cmp nat_cmp) first_vsn.0) in
    let reserved = any-none (λ n (r : Reserved). has_piece_on first_vsn.0 r) map.empty (each-empty nat_cmp _) in
    let mounted = any-none (λ m (x : Mounted). same_text x.vsn.0 first_vsn.0) map.empty (each-empty nat_cmp _) in
    let reused = any-none (λ m (x : Reusing). same_text x.vsn.0 first_vsn.0) map.empty (each-empty nat_cmp _) in
    (λ i. sparse_by (tip i) (weighs i) (reserved i) (mounted i) (reused i)) ∙ sparse_at
