-- What the program finds that comes of an event, in the definition's words.
use Rattle.std.specs.Prelude.{ℕ, Option, None, Some}
use Rattle.dm_joint.specs.declared.outcome.Outcome.{Outcome as Found}
use Rattle.dm_joint.specs.declared.outcome.Outcome.TheVariants as found
use Rattle.dm_model.specs.Guards.{number_of}
use Rattle.dm_model.specs.declared.state.Joint.{Joint}
use Rattle.dm_model.specs.Step.{Outcome}
use Rattle.dm_model.specs.Step.Outcome.{Illegal, Stepped}

-- the state after the event is the one that was found
abbrev pub outcome_found : Joint → Found → Outcome
outcome_found after (found.Stepped answer) = Stepped after answer
outcome_found after (found.Illegal guard) = Illegal guard

-- the number of the lowest guard that is false, where one is
abbrev pub guard_named : Outcome → Option ℕ
guard_named (Stepped after answer) = None
guard_named (Illegal guard) = Some (number_of guard)
