use Rattle.dm_stops.proofs.EmptyOpened.{empty_opened}
use Rattle.dm_stops.proofs.OpenedKept.{opened_kept}
use Rattle.dm_stops.proofs.laws.opened_kept.Goals as goal

pub returns-clause-kept : goal.returns-clause-kept
returns-clause-kept c j opened = opened_kept j opened

pub returns-clause-first : goal.returns-clause-first
returns-clause-first c conf groups fits = empty_opened conf groups fits
