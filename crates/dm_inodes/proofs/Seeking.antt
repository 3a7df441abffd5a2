-- The loop that looks for a put that has not ended.
use Rattle.std.proofs.Common.{◌≡◌, ℕ, ◌+◌, ◌<◌, ◌≤◌, Bool, true, false, is_some, ◌||◌, List, [], ◌∷◌, length, drop, Option, None, Some, refl, ap, ◌∙◌, arith, slice_get}
use Rattle.std.proofs.lemmas.Option.{slice_get_within, get_or_from_slice_get, slice_get-get_or}
use Rattle.std.proofs.lemmas.List.{drop_more, drop_all}
use Rattle.std.specs.List.{list_any}
use Rattle.std.specs.FinMap.{entries, len, len-entries}
use Rattle.dm_durable.specs.declared.daemon.Contents.{Contents}
use Rattle.dm_durable.specs.declared.daemon.Contents.TheVariants.{Regular, Making, Dual, Offline}
use Rattle.dm_durable.specs.declared.daemon.Inode.{Inode}
use Rattle.dm_durable.specs.Inodes.{bitfile_made, has_making, is_making}
use Rattle.dm_durable.specs.Tables.{ByNumber}
use Rattle.dm_inodes.specs.Counts.{is_making_row}
use Rattle.dm_tables.proofs.Orders.{numbers}
use Rattle.dm_tables.proofs.Any.{any-entries}

-- a put has a bitfile
pub is_made : (c : Contents) → is_some (bitfile_made c) ≡ is_making c
is_made (Regular bytes) = refl
is_made (Making bytes b) = refl
is_made (Dual bytes b) = refl
is_made (Offline len b) = refl

abbrev pub making_entry : ℕ × Inode → Bool
making_entry e = is_making e.1.contents

drop_there : {X : Type 0} (l : List X) (i : ℕ) (x : X) → slice_get l i ≡ Some x → drop i l ≡ x ∷ drop (i + 1) l
drop_there l i x e =
    drop_more l i x (slice_get_within l i x e) ∙ ap (λ y. y ∷ drop (i + 1) l) (get_or_from_slice_get l i x x e)

-- what is left tells whether there is one
abbrev pub Seeking : ℕ → ByNumber Inode → Type 0
Seeking at inodes = has_making inodes ≡ list_any making_entry (drop at (entries inodes))

pub seeking_begun : (inodes : ByNumber Inode) → Seeking 0 inodes
seeking_begun inodes = any-entries numbers (λ n i. is_making i.contents) inodes

row_at : (at : ℕ) (l : List (ℕ × Inode)) (o : Option (ℕ × Inode)) → at < length l → slice_get l at ≡ o
    → list_any making_entry (drop at l) ≡ (is_making_row o || list_any making_entry (drop (at + 1) l))
row_at at [] o small e = absurd (omega arith)
row_at at (x ∷ l) None small e = let f = slice_get-get_or (x ∷ l) at x small in cc
row_at at (x ∷ l) (Some y) small e = ap (list_any making_entry) (drop_there (x ∷ l) at y e)

module _ (at : ℕ) (inodes : ByNumber Inode) where
  turn : at < len inodes → Seeking at inodes
      → has_making inodes ≡ (is_making_row (slice_get (entries inodes) at) || list_any making_entry (drop (at + 1) (entries inodes)))
  turn small so_far = so_far ∙ row_at at (entries inodes) (slice_get (entries inodes) at) (let e = len-entries inodes in omega arith) refl

  pub seeking_on : at < len inodes → is_making_row (slice_get (entries inodes) at) ≡ false → Seeking at inodes → Seeking (at + 1) inodes
  seeking_on small fails so_far = turn small so_far ∙ ap (λ b. b || list_any making_entry (drop (at + 1) (entries inodes))) fails

  pub seeking_found : at < len inodes → is_making_row (slice_get (entries inodes) at) ≡ true → Seeking at inodes → has_making inodes ≡ true
  seeking_found small there so_far = turn small so_far ∙ ap (λ b. b || list_any making_entry (drop (at + 1) (entries inodes))) there

pub seeking_end : (at : ℕ) (inodes : ByNumber Inode) → len inodes ≤ at → Seeking at inodes → has_making inodes ≡ false
seeking_end at inodes past so_far = so_far ∙ ap (list_any making_entry) (drop_all at (entries inodes) (let e = len-entries inodes in omega arith))
