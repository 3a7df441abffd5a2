-- Which steps a function copies.
use Rattle.std.specs.Prelude.{⊤}
use Rattle.dm_durable.specs.declared.daemon.DaemonStep.{DaemonStep}
use Rattle.dm_durable.specs.declared.daemon.DaemonStep.TheVariants as step

-- the steps on dumps, of a hard delete, of a start and of an age
abbrev pub IsLater : DaemonStep → Type 0
IsLater (step.Write path change bytes) = ⊥
IsLater (step.Remove path change) = ⊥
IsLater (step.BeginPut path b groups) = ⊥
IsLater (step.Stored b group) = ⊥
IsLater (step.EndPut n b dual) = ⊥
IsLater (step.Release path) = ⊥
IsLater (step.Taken n bytes) = ⊥
IsLater (step.Dump name) = ⊤
IsLater (step.Undump name) = ⊤
IsLater (step.Restore name path target change) = ⊤
IsLater (step.HardDelete bfids) = ⊤
IsLater (step.Dropped b) = ⊤
IsLater step.Restart = ⊤
IsLater (step.Age age) = ⊤
