-- Files are kept as a put begins, and as a file is restored.
use Rattle.std.proofs.Common.{◌≡◌, ◌⊎◌, ℕ, ◌+◌, ◌<◌, ◌≤◌, Bool, true, false, not, Option, Some, None, IsSome, is_some, List, length, refl, sym, ap, ◌∙◌, subst, arith, inl, inr}
use Rattle.std.specs.FinMap as map
use Rattle.std.proofs.lemmas.Bool.{and_parts}
use Rattle.dm_base.specs.declared.identifier.Bfid.{Bfid}
use Rattle.dm_base.specs.declared.identifier.GroupId.{GroupId}
use Rattle.dm_base.specs.declared.identifier.Ino.{Ino}
use Rattle.dm_base.specs.Limits.{file_limit, files_limit, entries_limit, number_limit}
use Rattle.dm_tables.specs.Rows.{EachRow}
use Rattle.dm_tables.proofs.Orders.{numbers, paths}
use Rattle.dm_tables.proofs.Rows.{get-here, get-beside, inserted, each-insert}
use Rattle.dm_tables.proofs.Adjusted.{adjusted_row, each-adjust}
use Rattle.dm_rules.specs.Numbers.{as_word}
use Rattle.dm_durable.specs.declared.daemon.Contents.{Contents}
use Rattle.dm_durable.specs.declared.daemon.Contents.TheVariants.{Regular, Making, Dual, Offline}
use Rattle.dm_durable.specs.declared.daemon.DaemonTables.{DaemonTables}
use Rattle.dm_durable.specs.declared.daemon.DumpInode.{DumpInode}
use Rattle.dm_durable.specs.declared.daemon.DumpInode.TheVariants.{Kept, Named as NamedFile}
use Rattle.dm_durable.specs.declared.daemon.Entry.{Entry}
use Rattle.dm_durable.specs.declared.daemon.Inode.{Inode}
use Rattle.dm_durable.specs.Tables.{ByNumber}
use Rattle.dm_durable.specs.Inodes.{bitfile_in, bitfile_of, bytes_online, is_named, length_of, as_making, with_contents}
use Rattle.dm_durable.specs.Entries.{after_letting_go_if, is_stored, new_entry, without_deletion_time}
use Rattle.dm_durable.specs.Dumps.{as_restored, bitfile_dumped}
use Rattle.dm_durable.specs.Daemon.{bfid_of, size_of_files, size_of_dumps, with_named}
use Rattle.dm_durable.specs.DaemonConditions.{IsNextChange, IsThere, MayBeMade, OneOrTwo}
use Rattle.dm_durable.specs.DaemonJournal.{IsGiven, MayBeDumpFile, MayBeEntry, MayBeNamed}
use Rattle.dm_durable.specs.Limits.{AreGroups}
use Rattle.dm_durable.proofs.Sizes.{length_making}
use Rattle.dm_model.specs.declared.state.OpenRequest.{OpenRequest}
use Rattle.dm_model.specs.declared.state.Side.{Side}
use Rattle.dm_invariant.specs.Doubts.{AllConfigured}
use Rattle.dm_invariant.specs.Files.{HeldRightly, FilesKept}
use Rattle.dm_invariant.proofs.Counts.{counted_insert, counted_adjust}
use Rattle.dm_invariant.proofs.LettingGo.{let_go-none, let_go-unnamed, named_by}
use Rattle.dm_invariant.proofs.LookUps.{beside_free}
use Rattle.dm_invariant.proofs.Options.{none_some, same_row}
use Rattle.dm_landing.proofs.CopiesStored.{new_asked, new_unstored}
use Rattle.dm_landing.proofs.EntriesGone.{FreshEntry, go_let_go, go_named, go_new}
use Rattle.dm_landing.proofs.FatesFiles.{lengths_go}
use Rattle.dm_landing.proofs.FilesChange.{counted_let_go}
use Rattle.dm_landing.proofs.FilesFormed.{size_changed, still_unnamed_new, changed_from, not_both}
use Rattle.dm_landing.proofs.FilesWith.{NamedIn, NoneComes, names_kept, NewInode, OtherFiles}
use Rattle.dm_landing.proofs.NamedRows.{LengthsFrom, given_longer, length_onward, next_given, next_not_given}
use Rattle.dm_landing.proofs.NamesPut.{names_changed, names_put}

-- the next identifier is of no row of a table of given ones
pub next_free : {X : Type 0} (site next b : ℕ) (m : ByNumber X) → b ≡ bfid_of site next → EachRow m (λ q x. IsGiven site next q) → (o : Option X)
    → map.get m b ≡ o → map.get m b ≡ None
next_free site next b m is each None at = at
next_free site next b m is each (Some x) at = absurd (next_not_given site next b is (each b x at))

online_length : (c : Contents) → MayBeMade c → length (bytes_online c) ≡ length_of c
online_length (Regular bytes) may = refl
online_length (Making bytes b) may = refl
online_length (Dual bytes b) may = absurd may
online_length (Offline len b) may = absurd may

one_more : (n : ℕ) → n ≤ number_limit → as_word (n + 1) ≡ n + 1
one_more n le = omega (arith, le)

module _ (t : DaemonTables) (contents : ByNumber (List ℕ)) (cap : ℕ) (sides : ByNumber Side) (requests : ByNumber OpenRequest) (time : ℕ)
    (k : FilesKept t contents cap) (on : t.time.0 ≤ time) where
  -- ---- a put begins

  -- the bitfile has no entry and no content yet
  pub entry_free : (b : ℕ) → b ≡ bfid_of t.site t.counter → map.get t.entries b ≡ None
  entry_free b is = next_free t.site t.counter b t.entries is (λ q e at. (k.state.entries q e at).given) _ refl

  pub content_free : (b : ℕ) → b ≡ bfid_of t.site t.counter → map.get contents b ≡ None
  content_free b is = next_free t.site t.counter b contents is k.contents_given _ refl

  fresh_entry : (b : ℕ) (len : ℕ) (groups : List GroupId) → b ≡ bfid_of t.site t.counter → len ≤ file_limit → OneOrTwo groups → AreGroups groups
      → AllConfigured sides groups → FreshEntry t.site t.counter time contents sides b (new_entry len groups)
  fresh_entry b len groups is short asked are all = record {
    is_next = is;
    may = record {
      given = next_given t.site t.counter b is;
      short = short;
      asked = subst OneOrTwo (sym (new_asked len groups)) asked;
      numbers = subst AreGroups (sym (new_asked len groups)) are;
      deleted = tt;
    };
    none = content_free b is;
    unstored = λ g. new_unstored len groups g;
    configured = subst (λ gs. AllConfigured sides gs) (sym (new_asked len groups)) all;
    lasting = refl;
    undeleted = refl;
  }

  begun_inode : (n : ℕ) (b : Bfid) (i : Inode) (entries : ByNumber Entry) (groups : List GroupId) → map.get t.inodes n ≡ Some i → MayBeMade i.contents
      → b.0 ≡ bfid_of t.site t.counter → map.get entries b.0 ≡ Some (new_entry (length (bytes_online i.contents)) groups)
      → NewInode t.site (t.counter + 1) t.change entries (map.insert contents b.0 (bytes_online i.contents)) n (with_contents (as_making b) i)
  begun_inode n b i entries groups is may_be next at =
      let may = k.state.inodes n i is in
      let short = may.short in
      let len = length_making b i.contents may_be in
      record {
        may = record {
          number = may.number;
          change = may.change;
          short = omega (arith, short, len);
          names = (
            next_given t.site t.counter b.0 next,
            λ e found. ap (λ x. x.len) (same_row (map.get entries b.0) e (new_entry (length (bytes_online i.contents)) groups) found at),
          );
        };
        held = (
          record { entry = new_entry (length (bytes_online i.contents)) groups; is = at; sized = refl; there = refl; lasting = refl },
          get-here numbers contents b.0 (bytes_online i.contents),
        );
      }

  begun_unnamed : (n : ℕ) (b : Bfid) (i : Inode) (v : Entry) → map.get t.inodes n ≡ Some i
      → EachRow (map.insert (after_letting_go_if t.entries (map.insert t.inodes n (with_contents (as_making b) i)) time (bitfile_of i.contents)) b.0 v)
      (λ q e. is_named (map.insert t.inodes n (with_contents (as_making b) i)) q ≡ false → IsSome e.gone)
  begun_unnamed n b i v is =
      let j = with_contents (as_making b) i in
      let new = map.insert t.inodes n j in
      let named : bitfile_in (map.get t.inodes n) ≡ bitfile_of i.contents = ap bitfile_in is in
      each-insert numbers (λ q e. is_named new q ≡ false → IsSome e.gone) _ b.0 v
      (λ none. absurd (not_both b.0 new none (named_by new n j b.0 (get-here numbers t.inodes n j) refl)))
      (subst (λ o. EachRow (after_letting_go_if t.entries new time o) (λ q e. is_named new q ≡ false → IsSome e.gone)) named
      (let_go-unnamed t.entries t.inodes new n time (λ q differ. get-beside numbers t.inodes n j q differ) k.unnamed))

  pub other_begun : (n : ℕ) (b : Bfid) (groups : List GroupId) (i : Inode) → map.get t.inodes n ≡ Some i → MayBeMade i.contents
      → b.0 ≡ bfid_of t.site t.counter → t.counter ≤ number_limit → OneOrTwo groups → AreGroups groups → map.len t.entries < entries_limit
      → AllConfigured sides groups
      → OtherFiles (FreshEntry t.site t.counter time contents sides) t contents (map.insert contents b.0 (bytes_online i.contents)) cap sides requests time
      t.change (as_word (t.counter + 1)) t.names (map.insert t.inodes n (with_contents (as_making b) i))
      (map.insert (after_letting_go_if t.entries (map.insert t.inodes n (with_contents (as_making b) i)) time (bitfile_of i.contents)) b.0
      (new_entry (length (bytes_online i.contents)) groups))
  other_begun n b groups i is may_be next left asked are room all =
      let j = with_contents (as_making b) i in
      let new = map.insert t.inodes n j in
      let bytes = bytes_online i.contents in
      let v = new_entry (length bytes) groups in
      let mid = after_letting_go_if t.entries new time (bitfile_of i.contents) in
      let free = entry_free b.0 next in
      let may = k.state.inodes n i is in
      let short = may.short in
      let online = online_length i.contents may_be in
      let size = k.size in
      let same = size_changed t.inodes n i j is (length_making b i.contents may_be) in
      let count = counted_let_go t.entries new time (bitfile_of i.contents) in
      let more = counted_insert numbers mid b.0 v in
      let up : as_word (t.counter + 1) ≡ t.counter + 1 = one_more t.counter left in
      record {
        on = on;
        last = omega arith;
        last_most = k.state.change;
        next = omega (arith, up);
        next_most = omega (arith, up, left);
        go = go_new (NamedIn new) sides requests time t.age (FreshEntry t.site t.counter time contents sides) t.entries mid b.0 v free
            (let_go-none t.entries new time (bitfile_of i.contents) b.0 free)
            (fresh_entry b.0 (length bytes) groups next (omega (arith, short, online)) asked are all)
            (go_let_go (NamedIn new) sides requests time t.age (FreshEntry t.site t.counter time contents sides) t.entries new (bitfile_of i.contents)
            (λ q none at. not_both q new none at));
        fresh = λ q f fresh. subst (λ c. MayBeEntry t.site c time q f) (sym up) fresh.may;
        fresh_apart = λ q f fresh given. next_not_given t.site t.counter q fresh.is_next given;
        names_kept = names_changed t.names t.inodes n i j is (names_kept t contents cap k);
        from = subst (λ c. EachRow new (λ q x. (map.get t.inodes q ≡ Some x) ⊎ NewInode t.site c t.change (map.insert mid b.0 v) (map.insert contents b.0 bytes) q x)) (sym up)
            (changed_from t contents cap sides requests time k on (t.counter + 1) (map.insert mid b.0 v) (map.insert contents b.0 bytes) n j
            (begun_inode n b i (map.insert mid b.0 v) groups is may_be next (get-here numbers mid b.0 v)));
        unnamed = begun_unnamed n b i v is;
        most = k.state.files_most;
        many = omega (arith, count, more, room);
        more = λ q x at. beside_free numbers contents b.0 q bytes x (content_free b.0 next) at;
        given = subst (λ c. EachRow (map.insert contents b.0 bytes) (λ q x. IsGiven t.site c q)) (sym up)
            (each-insert numbers (λ q x. IsGiven t.site (t.counter + 1) q) contents b.0 bytes (next_given t.site t.counter b.0 next)
            (λ q x at. given_longer t.site t.counter (t.counter + 1) q (omega arith) (k.contents_given q x at)));
        size = omega (arith, size, same);
      }

  -- ---- a file is restored

  restored_held : (f : DumpInode) (entries : ByNumber Entry) → entries ≡ with_named t.entries (bitfile_dumped f) → IsThere t.entries f
      → MayBeDumpFile t.site t.counter t.entries f → HeldRightly entries contents (as_restored f)
  restored_held (Kept bytes) entries are there may = tt
  restored_held (NamedFile len b) entries are there may =
      let e = there.entry in
      let parts = and_parts (is_stored e) (not e.dropping) there.complete in
      record {
        named = record {
          entry = without_deletion_time e;
          is = ap (λ m. map.get m b.0) are ∙ adjusted_row numbers t.entries b.0 without_deletion_time e there.is;
          sized = may.names.1 e there.is;
          there = refl;
          lasting = not_true e.dropping parts.1;
        };
        whole = parts.0;
      }
    where
      not_true : (b : Bool) → not b ≡ true → b ≡ false
      not_true true h = cc
      not_true false h = refl

  restored_names : (f : DumpInode) (entries : ByNumber Entry) → LengthsFrom t.site t.counter t.entries entries
      → MayBeDumpFile t.site t.counter t.entries f → MayBeNamed t.site t.counter entries (length_of (as_restored f)) (bitfile_of (as_restored f))
  restored_names (Kept bytes) entries from may = tt
  restored_names (NamedFile len b) entries from may =
      (may.names.0, length_onward t.site t.counter b.0 len t.entries entries from may.names.0 may.names.1)

  restored_short : (f : DumpInode) → MayBeDumpFile t.site t.counter t.entries f → length_of (as_restored f) ≤ file_limit
  restored_short (Kept bytes) may = may.short
  restored_short (NamedFile len b) may = may.short

  restored_unnamed : (change : ℕ) (f : DumpInode) → map.get t.inodes change ≡ None
      → EachRow (with_named t.entries (bitfile_dumped f))
      (λ q e. is_named (map.insert t.inodes change (record { change = change; contents = as_restored f })) q ≡ false → IsSome e.gone)
  restored_unnamed change (Kept bytes) free = λ q e at none.
      k.unnamed q e at (still_unnamed_new t.inodes change (record { change = change; contents = Regular bytes }) free q none)
  restored_unnamed change (NamedFile len b) free =
      let j : Inode = record { change = change; contents = Offline len b } in
      let new = map.insert t.inodes change j in
      each-adjust numbers (λ q e. is_named new q ≡ false → IsSome e.gone) t.entries b.0 without_deletion_time
      (λ e at none. absurd (not_both b.0 new none (named_by new change j b.0 (get-here numbers t.inodes change j) refl)))
      (λ q e at none. k.unnamed q e at (still_unnamed_new t.inodes change j free q none))

  counted_named : (o : Option ℕ) → map.len (with_named t.entries o) ≡ map.len t.entries
  counted_named None = refl
  counted_named (Some b) = counted_adjust numbers t.entries b without_deletion_time

  inode_free : (change : ℕ) → change ≡ t.change + 1 → (o : Option Inode) → map.get t.inodes change ≡ o → map.get t.inodes change ≡ None
  inode_free change next None at = at
  inode_free change next (Some i) at = let most = (k.state.inodes change i at).number.most in absurd (omega (arith, most, next))

  no_name_of : (change : ℕ) → change ≡ t.change + 1 → (q : List ℕ) (m : Ino) → map.get t.names q ≡ Some m → m.0 ≡ change → ⊥
  no_name_of change next q m is same =
      let there = k.state.names q m is in
      let none = ap (map.get t.inodes) same ∙ inode_free change next _ refl in
      let never = ap is_some none in
      cc

  pub other_restored : (target : List ℕ) (change : ℕ) (f : DumpInode) → IsNextChange t change → map.get t.names target ≡ None
      → map.len t.names < files_limit → IsThere t.entries f → MayBeDumpFile t.site t.counter t.entries f
      → size_of_files (map.insert t.inodes change (record { change = change; contents = as_restored f })) + size_of_dumps t.dumps ≤ cap
      → OtherFiles NoneComes t contents contents cap sides requests time change t.counter (map.insert t.names target (record { 0 = change }))
      (map.insert t.inodes change (record { change = change; contents = as_restored f })) (with_named t.entries (bitfile_dumped f))
  other_restored target change f is_next new_name room there may fits =
      let next : change ≡ t.change + 1 = is_next.next in
      let left = is_next.left in
      let n : Ino = record { 0 = change } in
      let j : Inode = record { change = change; contents = as_restored f } in
      let new = map.insert t.inodes change j in
      let entries = with_named t.entries (bitfile_dumped f) in
      let go = go_named (NamedIn new) sides requests time t.age NoneComes t.entries (bitfile_dumped f) in
      let from = lengths_go (NamedIn new) sides requests time t.age NoneComes t.entries entries t.site t.counter go (λ b e none given. none) in
      let count = counted_named (bitfile_dumped f) in
      let limit = k.state.entries_most in
      let more = counted_insert paths t.names target n in
      let made : NewInode t.site t.counter change entries contents change j = record {
        may = record {
          number = record { least = omega (arith, next); most = omega arith };
          change = record { least = omega (arith, next); most = omega arith };
          short = restored_short f may;
          names = restored_names f entries from may;
        };
        held = restored_held f entries refl there may;
      } in
      record {
        on = on;
        last = omega (arith, next);
        last_most = omega (arith, next, left);
        next = omega arith;
        next_most = k.state.counter_most;
        go = go;
        fresh = λ b e none. absurd none;
        fresh_apart = λ b e none given. none;
        names_kept =
            names_put t.names t.inodes target n j (names_kept t contents cap k) (λ q m is same. absurd (no_name_of change next q m is same))
            (λ m is. absurd (none_some (map.get t.names target) m new_name is));
        from = λ q x is.
            elim (inserted numbers t.inodes change j q x is) [
              | inl here ↦ inr (subst (λ y. NewInode t.site t.counter change entries contents q y) (sym here.1)
                  (subst (λ z. NewInode t.site t.counter change entries contents z j) (sym here.0) made))
              | inr other ↦ inl other.1
            ];
        unnamed = restored_unnamed change f (inode_free change next _ refl);
        most = omega (arith, more, room);
        many = omega (arith, count, limit);
        more = λ b bytes at. at;
        given = k.contents_given;
        size = fits;
      }
