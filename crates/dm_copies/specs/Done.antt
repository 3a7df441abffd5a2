-- What was done stays done.
use Rattle.std.specs.Prelude.{◌≡◌, ℕ, true, Some, IsSome, List}
use Rattle.std.specs.FinMap as map
use Rattle.dm_model.specs.declared.state.History.{History}
use Rattle.dm_model.specs.DaemonCalls.{committed_in, deleted_in}

-- what the first history has the second has: the content of a bitfile, what hard deletes took, and what a group committed
-- and was told to delete
pub record StaysDone (h i : History) : Type 0 where
  pub contents : (b : ℕ) (bytes : List ℕ) → map.get h.contents b ≡ Some bytes → map.get i.contents b ≡ Some bytes
  pub taken : (b : ℕ) → IsSome (map.get h.taken b) → IsSome (map.get i.taken b)
  pub committed : (g b : ℕ) → committed_in (map.get h.groups g) b ≡ true → committed_in (map.get i.groups g) b ≡ true
  pub deleted : (g b : ℕ) → deleted_in (map.get h.groups g) b ≡ true → deleted_in (map.get i.groups g) b ≡ true
