-- What happens to a disk while some of its files are worked on, a crash at each moment included.
use Rattle.std.specs.Prelude.{◌≡◌, ◌⊎◌, ℕ, ◌≤◌, List}
use Rattle.dm_host.specs.Disk.{Disk, Image}

-- nothing happened to this file, as far as it is told
pub record Stays (g : ℕ) (old new : Disk) : Type 0 where
  pub seen : new.seen g ≡ old.seen g
  pub fewer : (c : List ℕ) → new.may_leave g c → old.may_leave g c
  pub more : (c : List ℕ) → old.may_leave g c → new.may_leave g c

-- an image that, in the files that aren't mine, a crash now may leave
abbrev pub Elsewhere : (ℕ → Type 0) → Disk → Image → Type 0
Elsewhere mine d x = (g : ℕ) → (mine g → ⊥) → d.may_leave g (x g)

-- and one that it may leave in mine
abbrev pub Here : (ℕ → Type 0) → Disk → Image → Type 0
Here mine d x = (g : ℕ) → mine g → d.may_leave g (x g)

-- From old to new only my files were worked on. A crash at each moment between leaves an image that has P, and in
-- the other files what a crash at old may leave. What might have been left before is not forgotten.
pub record Works (mine : ℕ → Type 0) (old new : Disk) (P : Image → Type 0) : Type 0 where
  pub told : new.told ≡ old.told
  pub others : (g : ℕ) → (mine g → ⊥) → Stays g old new
  pub now : (x : Image) → Here mine new x → P x
  pub later : old.moment ≤ new.moment
  pub moments : (t : ℕ) (x : Image) → t ≤ old.moment → new.left_since t x → old.left_since t x ⊎ (P x × Elsewhere mine old x)
  pub keeps : (t : ℕ) (x : Image) → t ≤ old.moment → old.left_since t x → new.left_since t x

-- mine is one file
abbrev pub File : ℕ → ℕ → Type 0
File f g = g ≡ f

-- all files are mine
abbrev pub Every : ℕ → Type 0
Every g = Unit {0}

-- in this file, a step on from what a crash at d may leave
abbrev pub Follows : (List ℕ → List ℕ → Type 0) → ℕ → Disk → Image → Type 0
Follows step f d x = (c : List ℕ) × d.may_leave f c × step c (x f)
