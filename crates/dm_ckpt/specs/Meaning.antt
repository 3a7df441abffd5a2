-- What a store means to its caller: the state that its list stands for. The caller says by a relation of its own, means,
-- which lists those are ("the fold of these payloads is this state"); here is no case for areas and generations.
use Rattle.std.specs.Prelude.{◌≡◌, ℕ, List, Option, Some, None}
use Rattle.std.specs.Borrow.{Bor}
use Rattle.dm_host.specs.Disk.{Disk, Image}
use Rattle.dm_ckpt.specs.State.{At, StandsFor, Keeps, Turns}

-- An image stands for the state.
pub record StandsForState (component : ℕ) (means : List (List ℕ) → Type 0) (x : Image) : Type 0 where
  pub payloads : List (List ℕ)
  pub stands : StandsFor component payloads x
  pub is : means payloads

-- A store keeps a list that stands for the state.
pub record KeepsState (d : Disk) (s : At) (means : List (List ℕ) → Type 0) : Type 0 where
  pub payloads : List (List ℕ)
  pub keeps : Keeps d s payloads
  pub is : means payloads

-- It keeps one of two lists, which both stand for the state: a checkpoint failed.
pub record TurnsState (d : Disk) (s : At) (means : List (List ℕ) → Type 0) : Type 0 where
  pub old : List (List ℕ)
  pub new : List (List ℕ)
  pub turns : Turns d s old new
  pub old_is : means old
  pub new_is : means new

-- At the end of a load these payloads, which were handed out, are those.
abbrev pub AreAll : List (List ℕ) → List (List ℕ) → Option (Bor (List ℕ)) → Type 0
AreAll handed payloads None = handed ≡ payloads
AreAll handed payloads (Some payload) = Unit {0}
