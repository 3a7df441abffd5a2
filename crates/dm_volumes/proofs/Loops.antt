-- Loops over volumes, over slots and over chunks.
use Rattle.std.proofs.Common.{◌≡◌, ℕ, zero, suc, ◌+◌, ◌<◌, ◌≤◌, Bool, true, false, cond, List, [], ◌∷◌, length, drop, get_or, None, Some, nat_eq, refl, sym, ap, ◌∙◌, arith, slice_get}
use Rattle.std.proofs.lemmas.Option.{slice_get_within, get_or_from_slice_get, slice_get-get_or}
use Rattle.std.proofs.lemmas.List.{drop_more, drop_all}
use Rattle.std.specs.FinMap.{entries, len, len-entries}
use Rattle.dm_base.specs.declared.volume.Chunk.{Chunk}
use Rattle.dm_durable.specs.declared.group.VolumeRow.{VolumeRow}
use Rattle.dm_durable.specs.Group.{with_end_behind, with_ends_behind}
use Rattle.dm_durable.specs.Tables.{ByName}
use Rattle.dm_durable.specs.Volumes.{free_slot}
use Rattle.dm_tables.specs.Rows.{adjust, any}
use Rattle.dm_tables.proofs.Loops.{asked, asked_on, asked_here, asked_end, asked_whole}
use Rattle.dm_tables.proofs.Orders.{paths}

-- ---- a list from a place on
there : {X : Type 0} (l : List X) (i : ℕ) (x : X) → slice_get l i ≡ Some x → drop i l ≡ x ∷ drop (i + 1) l
there l i x e = drop_more l i x (slice_get_within l i x e) ∙ ap (λ y. y ∷ drop (i + 1) l) (get_or_from_slice_get l i x x e)

none_there : {X : Type 0} (l : List X) (i : ℕ) → slice_get l i ≡ None → drop i l ≡ []
none_there [] i e = drop_all i [] (omega arith)
none_there (x ∷ l) i e = drop_all i (x ∷ l) (past (x ∷ l) x i e)
  where
    past : {X : Type 0} (l : List X) (d : X) (i : ℕ) → slice_get l i ≡ None → length l ≤ i
    past l d i e = not_less (λ small. let f = slice_get-get_or l i d small in cc)
      where
        not_less : (i < length l → ⊥) → length l ≤ i
        not_less h = omega (arith, h)

-- ---- whether a volume is on a device
abbrev pub is_at : ℕ → VolumeRow → Bool
is_at slot v = nat_eq v.slot slot

-- the volumes from a place on are those that were not asked yet
abbrev pub Asking : ℕ → ℕ → ByName VolumeRow → Type 0
Asking slot at volumes = asked {K = List ℕ} (is_at slot) (drop at (entries volumes)) ≡ any (λ vsn v. nat_eq v.slot slot) volumes

pub asking_begun : (slot : ℕ) (volumes : ByName VolumeRow) → Asking slot 0 volumes
asking_begun slot volumes = asked_whole paths (is_at slot) (entries volumes) volumes refl

pub asking_on : (slot at : ℕ) (volumes : ByName VolumeRow) (vsn : List ℕ) (v : VolumeRow) → slice_get (entries volumes) at ≡ Some (vsn, v) → is_at slot v ≡ false
    → Asking slot at volumes → Asking slot (at + 1) volumes
asking_on slot at volumes vsn v e fails so_far =
    asked_on (is_at slot) (drop at (entries volumes)) (drop (at + 1) (entries volumes)) vsn v _ (there (entries volumes) at (vsn, v) e) fails so_far

pub asking_here : (slot at : ℕ) (volumes : ByName VolumeRow) (vsn : List ℕ) (v : VolumeRow) → slice_get (entries volumes) at ≡ Some (vsn, v) → is_at slot v ≡ true
    → Asking slot at volumes → true ≡ any (λ vsn v. nat_eq v.slot slot) volumes
asking_here slot at volumes vsn v e here so_far =
    asked_here (is_at slot) (drop at (entries volumes)) (drop (at + 1) (entries volumes)) vsn v _ (there (entries volumes) at (vsn, v) e) here so_far

pub asking_none : (slot at : ℕ) (volumes : ByName VolumeRow) → slice_get (entries volumes) at ≡ None → Asking slot at volumes → false ≡ any (λ vsn v. nat_eq v.slot slot) volumes
asking_none slot at volumes e so_far = asked_end (is_at slot) (drop at (entries volumes)) _ (none_there (entries volumes) at e) so_far

pub asking_end : (slot at : ℕ) (volumes : ByName VolumeRow) → len volumes ≤ at → Asking slot at volumes → false ≡ any (λ vsn v. nat_eq v.slot slot) volumes
asking_end slot at volumes past so_far =
    asked_end (is_at slot) (drop at (entries volumes)) _ (drop_all at (entries volumes) (let e = len-entries volumes in omega arith)) so_far

-- ---- the least device that is free
pub taken_slot : (volumes : ByName VolumeRow) (left next slot : ℕ) → any (λ vsn v. nat_eq v.slot slot) volumes ≡ true → left ≡ suc next
    → free_slot volumes left slot ≡ free_slot volumes next (slot + 1)
unfolding free_slot
taken_slot volumes left next slot taken more =
    ap (λ n. free_slot volumes n slot) more ∙ ap (λ b. cond b (free_slot volumes next (slot + 1)) slot) taken

pub here_slot : (volumes : ByName VolumeRow) (left next slot : ℕ) → any (λ vsn v. nat_eq v.slot slot) volumes ≡ false → left ≡ suc next
    → free_slot volumes left slot ≡ slot
unfolding free_slot
here_slot volumes left next slot free more =
    ap (λ n. free_slot volumes n slot) more ∙ ap (λ b. cond b (free_slot volumes next (slot + 1)) slot) free

pub no_slot : (volumes : ByName VolumeRow) (left slot : ℕ) → left ≡ 0 → free_slot volumes left slot ≡ slot
unfolding free_slot
no_slot volumes left slot none = ap (λ n. free_slot volumes n slot) none

-- ---- ends
pub raised_begun : (chunks : List Chunk) (volumes : ByName VolumeRow) → with_ends_behind (drop 0 chunks) volumes ≡ with_ends_behind chunks volumes
raised_begun chunks volumes = refl

pub raised_on : (chunks : List Chunk) (i : ℕ) (c : Chunk) (volumes after whole : ByName VolumeRow) → i < length chunks → c ≡ get_or chunks i c
    → after ≡ adjust volumes c.vsn.0 (with_end_behind c) → with_ends_behind (drop i chunks) volumes ≡ whole → with_ends_behind (drop (i + 1) chunks) after ≡ whole
unfolding with_ends_behind
raised_on chunks i c volumes after whole small is raised so_far =
    ap (with_ends_behind (drop (i + 1) chunks)) raised
    ∙ sym (ap (λ l. with_ends_behind l volumes) (drop_more chunks i c small ∙ ap (λ d. d ∷ drop (i + 1) chunks) (sym is)))
    ∙ so_far

pub raised_end : (chunks : List Chunk) (i : ℕ) (volumes whole : ByName VolumeRow) → length chunks ≤ i → with_ends_behind (drop i chunks) volumes ≡ whole → volumes ≡ whole
unfolding with_ends_behind
raised_end chunks i volumes whole past so_far = sym (ap (λ l. with_ends_behind l volumes) (drop_all i chunks past)) ∙ so_far

-- an item that was read
pub read_again : {A : Type 0} (l : List A) (i : ℕ) (y : A) → i < length l → get_or l i y ≡ get_or l i (get_or l i y)
read_again [] i y small = absurd (omega arith)
read_again (x ∷ l) zero y small = refl
read_again (x ∷ l) (suc i) y small = read_again l i y (omega arith)
