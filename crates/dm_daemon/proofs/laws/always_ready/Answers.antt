use Rattle.dm_daemon.proofs.Always as lemma
use Rattle.dm_daemon.proofs.laws.always_ready.Goals as goal

pub returns : goal.returns
returns c d call needs = lemma.always_ready d call needs
