-- Why a volume isn't mounted, by the drives and mounts alone.
use Rattle.std.specs.Prelude.{ℕ, ◌+◌, ◌-◌, Bool, ◌||◌, List, nat_lt}
use Rattle.std.specs.FinMap as map
use Rattle.dm_base.specs.declared.error.GroupError.TheVariants.{NotYet}
use Rattle.dm_durable.specs.Tables.{ByNumber}
use Rattle.dm_model.specs.declared.answer.Answer.{Answer}
use Rattle.dm_model.specs.declared.answer.Answer.TheVariants.{GroupRefused}
use Rattle.dm_model.specs.declared.state.Mounted.{Mounted}
use Rattle.dm_model.specs.Volumes.{is_mounted}

abbrev pub drives_left : ℕ → ByNumber Mounted → ℕ
drives_left drives mounts = drives - map.len mounts

-- the refusal of the plan of a call (dm_model, mount_refusal), of what of the group it looks at
abbrev pub refusal_of_mount : ℕ → ℕ → ByNumber Mounted → List ℕ → Bool × Answer
refusal_of_mount others drives mounts vsn =
    (is_mounted mounts vsn || nat_lt (drives_left drives mounts) (others + 1), GroupRefused (NotYet (is_mounted mounts vsn) (drives_left drives mounts)))
