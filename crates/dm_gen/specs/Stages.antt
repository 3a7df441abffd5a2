-- What is left of a session at each of its stages.
use Rattle.std.specs.Prelude.{◌≡◌, ℕ, ◌+◌, ◌-◌, ◌≤◌, nat_le, nat_lt, Bool, true, false, not, ◌&&◌, List, [], ◌∷◌, ◌++◌, drop}
use Rattle.std.specs.List.{flat_map}
use Rattle.dm_base.specs.declared.command.Command.{Command}
use Rattle.dm_base.specs.declared.command.Command.TheVariants.{PutRelease}
use Rattle.dm_gen.specs.declared.stage.Stage.{Stage}
use Rattle.dm_gen.specs.declared.stage.Stage.TheVariants as stage
use Rattle.dm_gen.specs.Session.{counted, numbers, path_of, stores, upkeep, removed, read, is_third}

-- the numbers from this one to the last
abbrev pub from : ℕ → ℕ → List ℕ
from n i = counted (n + 1 - i) i

abbrev pub behind_stores : ℕ → List Command
behind_stores n = removed (numbers n) ++ (upkeep ++ read (numbers n))

abbrev pub left_of : ℕ → Stage → List Command
left_of n (stage.Write i) = flat_map stores (from n i) ++ behind_stores n
left_of n (stage.Put i) = PutRelease (path_of i) ∷ (flat_map stores (from n (i + 1)) ++ behind_stores n)
left_of n (stage.Remove i) = removed (from n i) ++ (upkeep ++ read (numbers n))
left_of n (stage.Upkeep k) = drop k upkeep ++ read (numbers n)
left_of n (stage.Read i) = read (from n i)

-- a number of a file, or the one behind the last; a place of the upkeep, or the one behind it
abbrev pub is_within : ℕ → Stage → Bool
is_within n (stage.Write i) = nat_le i (n + 1)
is_within n (stage.Put i) = nat_le i n
is_within n (stage.Remove i) = nat_le i (n + 1)
is_within n (stage.Upkeep k) = nat_le k 6
is_within n (stage.Read i) = nat_le i (n + 1)

-- what a plan holds: a number of files that a session may have, and a stage of it
pub record IsWithin (n : ℕ) (s : Stage) : Type 0 where
  pub few : n ≤ 4000
  pub within : is_within n s ≡ true

-- a stage at which a command is made: something is left, and of the numbers it is one that three divides, or doesn't
abbrev pub is_ready : ℕ → Stage → Bool
is_ready n (stage.Write i) = nat_le i n
is_ready n (stage.Put i) = nat_le i n
is_ready n (stage.Remove i) = nat_le i n && is_third i
is_ready n (stage.Upkeep k) = nat_lt k 6
is_ready n (stage.Read i) = nat_le i n && not (is_third i)

-- the stage behind the command of a stage
abbrev pub stage_after : Stage → Stage
stage_after (stage.Write i) = stage.Put i
stage_after (stage.Put i) = stage.Write (i + 1)
stage_after (stage.Remove i) = stage.Remove (i + 1)
stage_after (stage.Upkeep k) = stage.Upkeep (k + 1)
stage_after (stage.Read i) = stage.Read (i + 1)

-- a stage that leaves the same, at which a command is made, or nothing is left
pub record IsSettled (n : ℕ) (s t : Stage) : Type 0 where
  pub same : left_of n t ≡ left_of n s
  pub within : is_within n t ≡ true
  pub over : is_ready n t ≡ false → left_of n t ≡ []
