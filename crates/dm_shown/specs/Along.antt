-- Runs along which the invariant holds, and runs without a stop.
use Rattle.std.specs.Prelude.{List, [], ◌∷◌}
use Rattle.dm_model.specs.declared.call.Event.{Event}
use Rattle.dm_model.specs.declared.call.Event.TheVariants as event
use Rattle.dm_model.specs.declared.state.Joint.{Joint}
use Rattle.dm_model.specs.Step.{RunEntry, state_after, step}
use Rattle.dm_invariant.specs.Kept.{InvariantHolds}

-- each state of the run keeps the invariant: that before the first entry, those between, and the last
abbrev pub KeptAlong : Joint → List RunEntry → Type 0
KeptAlong j [] = InvariantHolds j
KeptAlong j (e ∷ es) = InvariantHolds j × KeptAlong (state_after j (step j e.worker e.event)) es

-- the program goes on
abbrev pub GoesOn : Event → Type 0
GoesOn (event.Call c) = Unit {0}
GoesOn (event.Fault c healed checkpointed) = Unit {0}
GoesOn (event.Landed c) = Unit {0}
GoesOn (event.Look c) = Unit {0}
GoesOn event.Stop = ⊥
