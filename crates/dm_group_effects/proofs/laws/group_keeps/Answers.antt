use Rattle.dm_invariant.proofs.KeptSound.{kept_sound, kept_fits}
use Rattle.dm_group_effects.proofs.GroupEvents.{event_keeps, run_keeps}
use Rattle.dm_group_effects.proofs.laws.group_keeps.Goals as goal

pub returns-clause-events : goal.returns-clause-events
returns-clause-events c j k w e a kept of is = event_keeps j kept w k a e of is

pub returns-clause-runs : goal.returns-clause-runs
returns-clause-runs c j entries k kept of run = run_keeps j entries k kept of run

pub returns-clause-sound : goal.returns-clause-sound
returns-clause-sound c j entries k kept of run = kept_sound k (run_keeps j entries k kept of run)

pub returns-clause-fits : goal.returns-clause-fits
returns-clause-fits c j entries k kept of run = kept_fits k (run_keeps j entries k kept of run)
