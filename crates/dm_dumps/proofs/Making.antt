-- The loop that makes a dump goes over the names, one after another.
use Rattle.std.proofs.Common.{◌≡◌, ℕ, ◌+◌, ◌<◌, ◌≤◌, List, [], ◌∷◌, length, drop, None, Some, refl, sym, ap, ◌∙◌, arith, slice_get}
use Rattle.std.proofs.lemmas.Option.{slice_get_within, get_or_from_slice_get, slice_get-get_or}
use Rattle.std.proofs.lemmas.List.{drop_more, drop_all}
use Rattle.std.specs.FinMap.{empty, get, insert, entries, len, len-entries}
use Rattle.dm_base.specs.declared.identifier.Ino.{Ino}
use Rattle.dm_durable.specs.declared.daemon.DumpInode.{DumpInode}
use Rattle.dm_durable.specs.declared.daemon.Inode.{Inode}
use Rattle.dm_durable.specs.Dumps.{file_dumped_if, files_dumped}
use Rattle.dm_durable.specs.Tables.{ByName, ByNumber}
use Rattle.dm_tables.specs.Rows.{changed, map_values}
use Rattle.dm_tables.proofs.Orders.{paths}
use Rattle.dm_tables.proofs.Entries.{entries-mapped}
use Rattle.dm_tables.proofs.Copies.{poured, poured_on, poured-empty}

drop_there : {X : Type 0} (l : List X) (i : ℕ) (x : X) → slice_get l i ≡ Some x → drop i l ≡ x ∷ drop (i + 1) l
drop_there l i x e =
    drop_more l i x (slice_get_within l i x e) ∙ ap (λ y. y ∷ drop (i + 1) l) (get_or_from_slice_get l i x x e)

drop_none : {X : Type 0} (l : List X) (i : ℕ) → slice_get l i ≡ None → drop i l ≡ []
drop_none [] i e = drop_all i [] (omega arith)
drop_none (x ∷ l) i e = drop_all i (x ∷ l) (past (x ∷ l) x i e)
  where
    past : {X : Type 0} (l : List X) (d : X) (i : ℕ) → slice_get l i ≡ None → length l ≤ i
    past l d i e = not_less (λ small. let f = slice_get-get_or l i d small in cc)
      where
        not_less : (i < length l → ⊥) → length l ≤ i
        not_less h = omega (arith, h)

-- the file that a name stands for
abbrev pub dumped_at : ByNumber Inode → List ℕ → Ino → DumpInode
dumped_at inodes path n = file_dumped_if (get inodes n.0)

-- the files so far, with those that are left put in, are all
abbrev pub Dumping : ℕ → ByName DumpInode → ByName Ino → ByNumber Inode → Type 0
Dumping at files names inodes = poured (changed (dumped_at inodes) (drop at (entries names))) files ≡ files_dumped names inodes

pub dumping_begun : (files : ByName DumpInode) (names : ByName Ino) (inodes : ByNumber Inode) → files ≡ empty → Dumping 0 files names inodes
dumping_begun files names inodes none =
    ap (poured (changed (dumped_at inodes) (entries names))) none
    ∙ ap (λ (l : List (List ℕ × DumpInode)). poured l empty) (sym (entries-mapped paths (dumped_at inodes) names))
    ∙ poured-empty paths (map_values (dumped_at inodes) names)

pub dumping_on : (at : ℕ) (files more : ByName DumpInode) (names : ByName Ino) (inodes : ByNumber Inode) (path : List ℕ) (n : Ino) (file : DumpInode)
    → slice_get (entries names) at ≡ Some (path, n) → file ≡ dumped_at inodes path n → more ≡ insert files path file
    → Dumping at files names inodes → Dumping (at + 1) more names inodes
dumping_on at files more names inodes path n file there is put so_far =
    poured_on (changed (dumped_at inodes) (drop at (entries names))) (changed (dumped_at inodes) (drop (at + 1) (entries names))) files more path path (dumped_at inodes path n) file
    (files_dumped names inodes) (ap (changed (dumped_at inodes)) (drop_there (entries names) at (path, n) there)) put refl is so_far

pub dumping_end : (at : ℕ) (files : ByName DumpInode) (names : ByName Ino) (inodes : ByNumber Inode) → drop at (entries names) ≡ [] → Dumping at files names inodes → files ≡ files_dumped names inodes
dumping_end at files names inodes none so_far =
    sym (ap (λ (l : List (List ℕ × Ino)). poured (changed (dumped_at inodes) l) files) none) ∙ so_far

pub all_dumped : (at : ℕ) (files : ByName DumpInode) (names : ByName Ino) (inodes : ByNumber Inode) → len names ≤ at → Dumping at files names inodes → files ≡ files_dumped names inodes
all_dumped at files names inodes past so_far =
    dumping_end at files names inodes (drop_all at (entries names) (let e = len-entries names in omega arith)) so_far

pub none_left : (at : ℕ) (files : ByName DumpInode) (names : ByName Ino) (inodes : ByNumber Inode) → None ≡ slice_get (entries names) at → Dumping at files names inodes → files ≡ files_dumped names inodes
none_left at files names inodes none so_far = dumping_end at files names inodes (drop_none (entries names) at (sym none)) so_far
