use Rattle.std.proofs.Common.{◌-◌}
use Rattle.dm_group_usage.proofs.Layouts.{Cut}
use Rattle.dm_group_usage.proofs.layout.chunks_of.Given as goal

abbrev pub invariant-loop : goal.invariant-loop
invariant-loop l = Cut l.chunks.items l.chunk (l.end - l.counter) l.piece l.offset l.left l.place
