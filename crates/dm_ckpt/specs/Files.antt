-- The four files of a component: two areas and two logs, by index. One index is in use.
use Rattle.std.specs.Prelude.{◌≡◌, ◌⊎◌, ℕ, ◌+◌, ◌*◌, List}
use Rattle.dm_host.specs.Disk.{Disk}
use Rattle.dm_host.specs.Works.{Works, Here}
use Rattle.dm_host.specs.Disk.{Tells}
use Rattle.dm_ckpt.specs.declared.files.Index.{Index}
use Rattle.dm_ckpt.specs.declared.files.Index.TheVariants.{First, Second}

-- the index that isn't this one
abbrev pub opposite : Index → Index
opposite First = Second
opposite Second = First

abbrev pub area_file : ℕ → Index → ℕ
area_file component First = 128 + 4 * component
area_file component Second = 129 + 4 * component

abbrev pub log_file : ℕ → Index → ℕ
log_file component First = component
log_file component Second = 130 + 4 * component

-- a file of the component
abbrev pub Mine : ℕ → ℕ → Type 0
Mine component g =
    ((g ≡ area_file component First) ⊎ (g ≡ area_file component Second)) ⊎ ((g ≡ log_file component First) ⊎ (g ≡ log_file component Second))

-- a file of the index that isn't this one
abbrev pub Other : ℕ → Index → ℕ → Type 0
Other component index g = (g ≡ area_file component (opposite index)) ⊎ (g ≡ log_file component (opposite index))

-- the disk tells of each of them
abbrev pub TellsMine : Disk → ℕ → Type 0
TellsMine d component = (g : ℕ) → Mine component g → Tells d g

-- Calls that change nothing on a component's files: each reads as before, and a crash leaves nothing new.
pub record Unchanged (component : ℕ) (old new : Disk) : Type 0 where
  pub works : Works (Mine component) old new (Here (Mine component) old)
  pub seen : (g : ℕ) → Mine component g → new.seen g ≡ old.seen g
  pub left : (g : ℕ) (l : List ℕ) → Mine component g → new.may_leave g l → old.may_leave g l
