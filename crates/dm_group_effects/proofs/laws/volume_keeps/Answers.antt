use Rattle.dm_invariant.proofs.KeptSound.{kept_sound, kept_fits}
use Rattle.dm_group_effects.proofs.VolumeEvents.{volume_event_keeps, volume_run_keeps}
use Rattle.dm_group_effects.proofs.laws.volume_keeps.Goals as goal

pub returns-clause-events : goal.returns-clause-events
returns-clause-events c j k w e a kept of apart is = volume_event_keeps j kept w k a e of apart is

pub returns-clause-runs : goal.returns-clause-runs
returns-clause-runs c j entries k kept of apart run = volume_run_keeps j entries k kept of apart run

pub returns-clause-sound : goal.returns-clause-sound
returns-clause-sound c j entries k kept of apart run = kept_sound k (volume_run_keeps j entries k kept of apart run)

pub returns-clause-fits : goal.returns-clause-fits
returns-clause-fits c j entries k kept of apart run = kept_fits k (volume_run_keeps j entries k kept of apart run)
