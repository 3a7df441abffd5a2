-- Records that change a file: it is written, removed or restored; a put begins or ends; and its bytes leave the disk or come
-- back. Files are kept.
use Rattle.std.proofs.Common.{◌≡◌, ◌⊎◌, ℕ, ◌+◌, ◌<◌, ◌≤◌, Bool, true, false, cond, Option, Some, None, IsSome, List, refl, sym, ap, ◌∙◌, subst, arith, inl, inr}
use Rattle.std.specs.FinMap as map
use Rattle.dm_base.specs.declared.identifier.Ino.{Ino}
use Rattle.dm_base.specs.Limits.{file_limit, files_limit, number_limit}
use Rattle.dm_tables.specs.Rows.{adjust}
use Rattle.dm_tables.proofs.Orders.{numbers, paths}
use Rattle.dm_tables.proofs.Rows.{get-beside, inserted, removed, removed-beside}
use Rattle.dm_tables.proofs.Sums.{total-remove}
use Rattle.dm_durable.specs.declared.daemon.Contents.{Contents}
use Rattle.dm_durable.specs.declared.daemon.Contents.TheVariants.{Regular, Making, Dual, Offline}
use Rattle.dm_durable.specs.declared.daemon.DaemonTables.{DaemonTables}
use Rattle.dm_durable.specs.declared.daemon.Entry.{Entry}
use Rattle.dm_durable.specs.declared.daemon.Inode.{Inode}
use Rattle.dm_durable.specs.Tables.{ByNumber, ByName}
use Rattle.dm_durable.specs.Inodes.{bitfile_in, bitfile_of, length_of, is_named}
use Rattle.dm_durable.specs.Entries.{after_letting_go_if}
use Rattle.dm_durable.specs.Daemon.{number_or, size_of_files, size_of_dumps}
use Rattle.dm_durable.specs.DaemonConditions.{IsNextChange, MayWrite}
use Rattle.dm_durable.specs.DaemonJournal.{IsChange, MayBeNamed}
use Rattle.dm_model.specs.declared.state.OpenRequest.{OpenRequest}
use Rattle.dm_model.specs.declared.state.Side.{Side}
use Rattle.dm_invariant.specs.Files.{HeldRightly, FilesKept}
use Rattle.dm_invariant.proofs.Counts.{counted_insert, counted_put, counted_remove, counted_adjust}
use Rattle.dm_invariant.proofs.LettingGo.{let_go-unnamed}
use Rattle.dm_invariant.proofs.Options.{value_of}
use Rattle.dm_landing.proofs.EntriesGone.{go_let_go}
use Rattle.dm_landing.proofs.FilesWith.{NamedIn, NoneComes, NamesKept, names_kept, NewInode, OtherFiles}
use Rattle.dm_landing.proofs.NamesPut.{names_put, names_left}

-- entries of which one bitfile was let go are as many
pub counted_let_go : (entries : ByNumber Entry) (inodes : ByNumber Inode) (time : ℕ) (o : Option ℕ)
    → map.len (after_letting_go_if entries inodes time o) ≡ map.len entries
counted_let_go entries inodes time None = refl
counted_let_go entries inodes time (Some b) = counted (is_named inodes b)
  where
    counted : (named : Bool) → map.len (cond named entries (adjust entries b (λ e. record e { gone = Some (record { 0 = time }) }))) ≡ map.len entries
    counted true = refl
    counted false = counted_adjust numbers entries b _

not_both : (b : ℕ) (inodes : ByNumber Inode) → is_named inodes b ≡ false → is_named inodes b ≡ true → ⊥
not_both b inodes none is = cc

module _ (t : DaemonTables) (contents : ByNumber (List ℕ)) (cap : ℕ) (sides : ByNumber Side) (requests : ByNumber OpenRequest) (time : ℕ)
    (k : FilesKept t contents cap) (on : t.time.0 ≤ time) where
  -- ---- numbers of inodes

  named_change : (q : List ℕ) (m : Ino) → map.get t.names q ≡ Some m → IsChange t.change m.0
  named_change q m is =
      let inode = value_of (map.get t.inodes m.0) (k.state.names q m is) in
      (k.state.inodes m.0 inode.0 inode.1).number

  number_made : (path : List ℕ) (change : ℕ) → change ≡ t.change + 1 → (r : Option Ino) → map.get t.names path ≡ r → IsChange change (number_or r change)
  number_made path change next None is = record { least = omega (arith, next); most = omega arith }
  number_made path change next (Some n) is =
      let c = named_change path n is in
      let least = c.least in
      let most = c.most in
      record { least = least; most = omega (arith, most, next) }

  -- the number of the file that is written is of no other path
  number_apart : (path : List ℕ) (change : ℕ) → change ≡ t.change + 1 → (r : Option Ino) → map.get t.names path ≡ r → (q : List ℕ) (m : Ino)
      → map.get t.names q ≡ Some m → m.0 ≡ number_or r change → q ≡ path
  number_apart path change next None none q m is same =
      let low = (named_change q m is).most in
      absurd (omega (arith, low, next, same))
  number_apart path change next (Some n) there q m is same = k.state.names_apart q path m n is there same

  was_number : (r : Option Ino) (change : ℕ) (m : Ino) → r ≡ Some m → m.0 ≡ number_or r change
  was_number None change m e = cc
  was_number (Some n) change m e = ap (λ o. number_or o change) (sym e)

  -- ---- one file is put

  abbrev pub Other : ℕ → ℕ → ByName Ino → ByNumber Inode → ByNumber Entry → ByNumber (List ℕ) → Type 0
  Other change counter names inodes entries after = OtherFiles NoneComes t contents after cap sides requests time change counter names inodes entries

  -- the contents name no bitfile
  abbrev IsPlain : Contents → Type 0
  IsPlain (Regular bytes) = Unit {0}
  IsPlain (Making bytes b) = ⊥
  IsPlain (Dual bytes b) = ⊥
  IsPlain (Offline len b) = ⊥

  plain_named : (c : Contents) (entries : ByNumber Entry) (len : ℕ) → IsPlain c → MayBeNamed t.site t.counter entries len (bitfile_of c)
  plain_named (Regular bytes) entries len plain = tt
  plain_named (Making bytes b) entries len plain = absurd plain
  plain_named (Dual bytes b) entries len plain = absurd plain
  plain_named (Offline n b) entries len plain = absurd plain

  plain_held : (c : Contents) (entries : ByNumber Entry) → IsPlain c → HeldRightly entries contents c
  plain_held (Regular bytes) entries plain = tt
  plain_held (Making bytes b) entries plain = absurd plain
  plain_held (Dual bytes b) entries plain = absurd plain
  plain_held (Offline n b) entries plain = absurd plain

  new_inode : (change n : ℕ) (i : Inode) (entries : ByNumber Entry) → IsChange change n → IsChange change i.change → length_of i.contents ≤ file_limit
      → IsPlain i.contents → NewInode t.site t.counter change entries contents n i
  new_inode change n i entries number changed short plain = record {
    may = record { number = number; change = changed; short = short; names = plain_named i.contents entries _ plain };
    held = plain_held i.contents entries plain;
  }

  -- an inode is put, which lets go what was there; names and numbers go on
  put_inode : (change n : ℕ) (names : ByName Ino) (i : Inode) → t.change ≤ change → change ≤ number_limit → map.len names ≤ files_limit
      → NamesKept names (map.insert t.inodes n i) → IsChange change n → IsChange change i.change → length_of i.contents ≤ file_limit
      → IsPlain i.contents
      → size_of_files (map.insert t.inodes n i) + size_of_dumps t.dumps ≤ cap
      → Other change t.counter names (map.insert t.inodes n i)
      (after_letting_go_if t.entries (map.insert t.inodes n i) time (bitfile_in (map.get t.inodes n))) contents
  put_inode change n names i last most many names_are number changed short plain size =
      let new = map.insert t.inodes n i in
      let o = bitfile_in (map.get t.inodes n) in
      let entries = after_letting_go_if t.entries new time o in
      let count = counted_let_go t.entries new time o in
      let limit = k.state.entries_most in
      record {
        on = on;
        last = last;
        last_most = most;
        next = omega arith;
        next_most = k.state.counter_most;
        go = go_let_go (NamedIn new) sides requests time t.age NoneComes t.entries new o (λ b none is. not_both b new none is);
        fresh = λ b f none. absurd none;
        fresh_apart = λ b f none given. none;
        names_kept = names_are;
        from = λ q x is.
            elim (inserted numbers t.inodes n i q x is) [
              | inl here ↦ inr (subst (λ y. NewInode t.site t.counter change entries contents q y) (sym here.1)
                  (subst (λ z. NewInode t.site t.counter change entries contents z i) (sym here.0) (new_inode change n i entries number changed short plain)))
              | inr other ↦ inl other.1
            ];
        unnamed = let_go-unnamed t.entries t.inodes new n time (λ q differ. get-beside numbers t.inodes n i q differ) k.unnamed;
        most = many;
        many = omega (arith, count, limit);
        more = λ b bytes at. at;
        given = k.contents_given;
        size = size;
      }

  -- ---- a file is written

  names_most : (path : List ℕ) (n : Ino) → (IsSome (map.get t.names path)) ⊎ (map.len t.names < files_limit) → map.len (map.insert t.names path n) ≤ files_limit
  names_most path n (inl there) = let same = counted_put paths t.names path n there in let most = k.state.files_most in omega (arith, same, most)
  names_most path n (inr room) = let more = counted_insert paths t.names path n in omega (arith, more, room)

  pub other_written : (path : List ℕ) (change : ℕ) (bytes : List ℕ) → MayWrite t path change bytes
      → size_of_files (map.insert t.inodes (number_or (map.get t.names path) change) (record { change = change; contents = Regular bytes }))
      + size_of_dumps t.dumps ≤ cap
      → Other change t.counter (map.insert t.names path (record { 0 = number_or (map.get t.names path) change }))
      (map.insert t.inodes (number_or (map.get t.names path) change) (record { change = change; contents = Regular bytes }))
      (after_letting_go_if t.entries
      (map.insert t.inodes (number_or (map.get t.names path) change) (record { change = change; contents = Regular bytes })) time
      (bitfile_in (map.get t.inodes (number_or (map.get t.names path) change)))) contents
  other_written path change bytes may fits =
      let next : change ≡ t.change + 1 = may.next.next in
      let left = may.next.left in
      let n : Ino = record { 0 = number_or (map.get t.names path) change } in
      put_inode change n.0 (map.insert t.names path n) (record { change = change; contents = Regular bytes }) (omega (arith, next)) (omega (arith, next, left))
      (names_most path n may.room)
      (names_put t.names t.inodes path n (record { change = change; contents = Regular bytes }) (names_kept t contents cap k)
      (number_apart path change next (map.get t.names path) refl) (λ m is. was_number (map.get t.names path) change m is))
      (number_made path change next (map.get t.names path) refl) (record { least = omega (arith, next); most = omega arith }) may.short tt fits

  -- ---- a file is removed

  same_ino : (n m : Ino) → Some n ≡ Some m → m.0 ≡ n.0
  same_ino n m e = let f : n ≡ m = cc in ap (λ x. x.0) (sym f)

  pub other_removed : (path : List ℕ) (change : ℕ) (n : Ino) → IsNextChange t change → map.get t.names path ≡ Some n
      → Other change t.counter (map.remove t.names path) (map.remove t.inodes n.0)
      (after_letting_go_if t.entries (map.remove t.inodes n.0) time (bitfile_in (map.get t.inodes n.0))) contents
  other_removed path change n next there =
      let new = map.remove t.inodes n.0 in
      let o = bitfile_in (map.get t.inodes n.0) in
      let is_next = next.next in
      let left = next.left in
      let fewer = counted_remove paths t.names path in
      let most = k.state.files_most in
      let count = counted_let_go t.entries new time o in
      let limit = k.state.entries_most in
      let less = total-remove numbers (λ (i : Inode). length_of i.contents) t.inodes n.0 in
      let size = k.size in
      record {
        on = on;
        last = omega (arith, is_next);
        last_most = omega (arith, is_next, left);
        next = omega arith;
        next_most = k.state.counter_most;
        go = go_let_go (NamedIn new) sides requests time t.age NoneComes t.entries new o (λ b none is. not_both b new none is);
        fresh = λ b f none. absurd none;
        fresh_apart = λ b f none given. none;
        names_kept =
            names_left t.names t.inodes path n.0 (names_kept t contents cap k) (λ q m is same. k.state.names_apart q path m n is there same)
            (λ m is. same_ino n m (sym there ∙ is));
        from = λ q x is. inl (removed numbers t.inodes n.0 q x is).1;
        unnamed = let_go-unnamed t.entries t.inodes new n.0 time (λ q differ. removed-beside numbers t.inodes n.0 q differ) k.unnamed;
        most = omega (arith, fewer, most);
        many = omega (arith, count, limit);
        more = λ b bytes at. at;
        given = k.contents_given;
        size = omega (arith, less, size);
      }
