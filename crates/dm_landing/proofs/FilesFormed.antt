-- Records that change the form of a file, and restores: a put begins or ends, its bytes leave the disk or come back.
use Rattle.std.proofs.Common.{◌≡◌, ◌⊎◌, ℕ, ◌≤◌, true, false, Some, None, IsSome, List, sym, ap, ◌∙◌, subst, arith, inl, inr}
use Rattle.std.specs.FinMap as map
use Rattle.dm_base.specs.declared.identifier.Bfid.{Bfid}
use Rattle.dm_tables.specs.Rows.{EachRow}
use Rattle.dm_tables.specs.Totals.{weight_at}
use Rattle.dm_tables.proofs.Orders.{numbers, same_or}
use Rattle.dm_tables.proofs.Rows.{get-here, get-beside, inserted}
use Rattle.dm_tables.proofs.Any.{any-none, any-false}
use Rattle.dm_tables.proofs.Sums.{total-insert}
use Rattle.dm_durable.specs.declared.daemon.Contents.TheVariants.{Regular, Making}
use Rattle.dm_durable.specs.declared.daemon.DaemonTables.{DaemonTables}
use Rattle.dm_durable.specs.declared.daemon.Entry.{Entry}
use Rattle.dm_durable.specs.declared.daemon.Inode.{Inode}
use Rattle.dm_durable.specs.Tables.{ByNumber}
use Rattle.dm_durable.specs.Inodes.{bitfile_in, bitfile_of, is_bitfile, is_named, length_of}
use Rattle.dm_durable.specs.Entries.{after_letting_go, after_letting_go_if}
use Rattle.dm_durable.specs.Daemon.{size_of_files}
use Rattle.dm_durable.specs.DaemonJournal.{IsChange, MayBeNamed}
use Rattle.dm_model.specs.declared.state.OpenRequest.{OpenRequest}
use Rattle.dm_model.specs.declared.state.Side.{Side}
use Rattle.dm_invariant.specs.Files.{HeldRightly, FilesKept}
use Rattle.dm_invariant.proofs.LettingGo.{let_go-unnamed}
use Rattle.dm_invariant.proofs.LookUps.{beside_free}
use Rattle.dm_invariant.proofs.Options.{same_row}
use Rattle.dm_landing.proofs.EntriesGone.{go_itself, go_let_go}
use Rattle.dm_landing.proofs.FilesChange.{counted_let_go}
use Rattle.dm_landing.proofs.FilesWith.{NamedIn, NoneComes, names_kept, NewInode, OtherFiles}
use Rattle.dm_landing.proofs.NamesPut.{names_changed}

pub not_both : (b : ℕ) (inodes : ByNumber Inode) → is_named inodes b ≡ false → is_named inodes b ≡ true → ⊥
not_both b inodes none is = cc

-- a file that changes and keeps its length keeps the size
pub size_changed : (inodes : ByNumber Inode) (n : ℕ) (i j : Inode) → map.get inodes n ≡ Some i → length_of j.contents ≡ length_of i.contents
    → size_of_files (map.insert inodes n j) ≡ size_of_files inodes
size_changed inodes n i j is same =
    let sum = total-insert numbers (λ x. length_of x.contents) inodes n j in
    let was = ap (weight_at (λ x. length_of x.contents)) is in
    omega arith

-- an inode that names the same bitfile leaves no other unnamed
still_unnamed : (inodes : ByNumber Inode) (n : ℕ) (i j : Inode) → map.get inodes n ≡ Some i → bitfile_of j.contents ≡ bitfile_of i.contents → (b : ℕ)
    → is_named (map.insert inodes n j) b ≡ false → is_named inodes b ≡ false
still_unnamed inodes n i j is same b none =
    let each = any-false numbers (λ m x. is_bitfile b (bitfile_of x.contents)) (map.insert inodes n j) none in
    any-none (λ m x. is_bitfile b (bitfile_of x.contents)) inodes (λ m x at. elim (same_or numbers n m) [
      | inl here ↦
          let one : i ≡ x = same_row (map.get inodes n) i x is (ap (map.get inodes) (sym here) ∙ at) in
          ap (λ y. is_bitfile b (bitfile_of y.contents)) (sym one) ∙ ap (is_bitfile b) (sym same) ∙ each n j (get-here numbers inodes n j)
      | inr differ ↦ each m x (get-beside numbers inodes n j m differ ∙ at)
    ])

-- nor does one that is new
pub still_unnamed_new : (inodes : ByNumber Inode) (n : ℕ) (j : Inode) → map.get inodes n ≡ None → (b : ℕ)
    → is_named (map.insert inodes n j) b ≡ false → is_named inodes b ≡ false
still_unnamed_new inodes n j free b none =
    let each = any-false numbers (λ m x. is_bitfile b (bitfile_of x.contents)) (map.insert inodes n j) none in
    any-none (λ m x. is_bitfile b (bitfile_of x.contents)) inodes (λ m x at. each m x (beside_free numbers inodes n m j x free at))

module _ (t : DaemonTables) (contents : ByNumber (List ℕ)) (cap : ℕ) (sides : ByNumber Side) (requests : ByNumber OpenRequest) (time : ℕ)
    (k : FilesKept t contents cap) (on : t.time.0 ≤ time) where
  pub changed_from : (counter : ℕ) (entries : ByNumber Entry) (after : ByNumber (List ℕ)) (n : ℕ) (j : Inode)
      → NewInode t.site counter t.change entries after n j
      → EachRow (map.insert t.inodes n j) (λ q x. (map.get t.inodes q ≡ Some x) ⊎ NewInode t.site counter t.change entries after q x)
  changed_from counter entries after n j new = λ q x is.
      elim (inserted numbers t.inodes n j q x is) [
        | inl here ↦ inr (subst (λ y. NewInode t.site counter t.change entries after q y) (sym here.1)
            (subst (λ z. NewInode t.site counter t.change entries after z j) (sym here.0) new))
        | inr other ↦ inl other.1
      ]

  -- ---- the form changes, and the bitfile and the length stay

  formed_inode : (n : ℕ) (i j : Inode) → map.get t.inodes n ≡ Some i → j.change ≡ i.change → length_of j.contents ≡ length_of i.contents
      → bitfile_of j.contents ≡ bitfile_of i.contents → HeldRightly t.entries contents j.contents
      → NewInode t.site t.counter t.change t.entries contents n j
  formed_inode n i j is change len names held =
      let may = k.state.inodes n i is in
      record {
        may = record {
          number = may.number;
          change = subst (λ c. IsChange t.change c) (sym change) may.change;
          short = let short = may.short in omega (arith, len, short);
          names = subst (λ l. MayBeNamed t.site t.counter t.entries l (bitfile_of j.contents)) (sym len)
              (subst (λ o. MayBeNamed t.site t.counter t.entries (length_of i.contents) o) (sym names) may.names);
        };
        held = held;
      }

  pub other_formed : (n : ℕ) (i j : Inode) → map.get t.inodes n ≡ Some i → j.change ≡ i.change → length_of j.contents ≡ length_of i.contents
      → bitfile_of j.contents ≡ bitfile_of i.contents → HeldRightly t.entries contents j.contents
      → OtherFiles NoneComes t contents contents cap sides requests time t.change t.counter t.names (map.insert t.inodes n j) t.entries
  other_formed n i j is change len names held =
      let size = k.size in
      let same = size_changed t.inodes n i j is len in
      record {
        on = on;
        last = omega arith;
        last_most = k.state.change;
        next = omega arith;
        next_most = k.state.counter_most;
        go = go_itself (NamedIn (map.insert t.inodes n j)) sides requests time t.age NoneComes t.entries;
        fresh = λ b f none. absurd none;
        fresh_apart = λ b f none given. none;
        names_kept = names_changed t.names t.inodes n i j is (names_kept t contents cap k);
        from = changed_from t.counter t.entries contents n j (formed_inode n i j is change len names held);
        unnamed = λ b e at none. k.unnamed b e at (still_unnamed t.inodes n i j is names b none);
        most = k.state.files_most;
        many = k.state.entries_most;
        more = λ b bytes at. at;
        given = k.contents_given;
        size = omega (arith, size, same);
      }

  -- ---- a put ends without every copy

  pub other_regular : (n : ℕ) (b : Bfid) (bytes : List ℕ) (i j : Inode) → map.get t.inodes n ≡ Some i → i.contents ≡ Making bytes b
      → j ≡ record { change = i.change; contents = Regular bytes }
      → OtherFiles NoneComes t contents contents cap sides requests time t.change t.counter t.names (map.insert t.inodes n j)
      (after_letting_go t.entries (map.insert t.inodes n j) time b.0)
  other_regular n b bytes i j is form made =
      let new = map.insert t.inodes n j in
      let may = k.state.inodes n i is in
      let len : length_of j.contents ≡ length_of i.contents = ap (λ x. length_of x.contents) made ∙ sym (ap length_of form) in
      let size = k.size in
      let same = size_changed t.inodes n i j is len in
      let count = counted_let_go t.entries new time (Some b.0) in
      let limit = k.state.entries_most in
      let named : bitfile_in (map.get t.inodes n) ≡ Some b.0 = ap bitfile_in is ∙ ap bitfile_of form in
      let regular : NewInode t.site t.counter t.change (after_letting_go t.entries new time b.0) contents n (record { change = i.change; contents = Regular bytes }) = record {
        may = record { number = may.number; change = may.change; short = let short = may.short in let l = ap length_of form in omega (arith, short, l); names = tt };
        held = tt;
      } in
      record {
        on = on;
        last = omega arith;
        last_most = k.state.change;
        next = omega arith;
        next_most = k.state.counter_most;
        go = go_let_go (NamedIn new) sides requests time t.age NoneComes t.entries new (Some b.0) (λ q none at. not_both q new none at);
        fresh = λ q f none. absurd none;
        fresh_apart = λ q f none given. none;
        names_kept = names_changed t.names t.inodes n i j is (names_kept t contents cap k);
        from = changed_from t.counter (after_letting_go t.entries new time b.0) contents n j
            (subst (λ x. NewInode t.site t.counter t.change (after_letting_go t.entries new time b.0) contents n x) (sym made) regular);
        unnamed = subst (λ o. EachRow (after_letting_go_if t.entries new time o) (λ q e. is_named new q ≡ false → IsSome e.gone)) named
            (let_go-unnamed t.entries t.inodes new n time (λ q differ. get-beside numbers t.inodes n j q differ) k.unnamed);
        most = k.state.files_most;
        many = omega (arith, count, limit);
        more = λ q x at. at;
        given = k.contents_given;
        size = omega (arith, size, same);
      }
