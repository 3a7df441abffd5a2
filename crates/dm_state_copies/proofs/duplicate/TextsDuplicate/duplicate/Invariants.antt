use Rattle.std.proofs.Common.{◌≡◌}
use Rattle.dm_tables.proofs.Copies.{poured}
use Rattle.dm_state_copies.proofs.duplicate.TextsDuplicate.duplicate.Given as goal

-- the copy, with what is left put in, is the whole
abbrev pub invariant-loop-key : goal.invariant-loop-key
invariant-loop-key g l = poured l.key-iterator l.copy ≡ l.self
