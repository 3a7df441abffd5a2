use Rattle.dm_joint.proofs.Ranges.{side_in_range}
use Rattle.dm_joint.proofs.outcome.verdict.Goals as goal

pub returns-in-Daemon-clause-range : goal.returns-in-Daemon-clause-range
returns-in-Daemon-clause-range c = λ error within. c.daemon_verdict.ensures.range error within.daemon

pub returns-in-Group-clause-range : goal.returns-in-Group-clause-range
returns-in-Group-clause-range c = λ error within. c.group_verdict.ensures.range error (side_in_range c.args.joint.now _ _ c.get-side.ensures within)
