use Rattle.std.proofs.Common.{ℕ, List}
use Rattle.dm_host.specs.Disk.{Tells}
use Rattle.dm_journal.specs.Grammar.{AtRest, StandsFor}
use Rattle.dm_journal.specs.Load.{Reading}
use Rattle.dm_journal.proofs.tests.load.Given as goal

abbrev pub invariant-loop : goal.invariant-loop
invariant-loop g l = record {
  reading : Tells (g.B.Bay.disk l.fn.bay) l.fn.file → (qs : List (List ℕ)) × Reading (g.B.Bay.disk l.bay) l.loading qs;
  stands : Tells (g.B.Bay.disk l.fn.bay) l.fn.file → (ps : List (List ℕ)) → StandsFor ps ((g.B.Bay.disk l.fn.bay).seen l.fn.file) → AtRest ps ((g.B.Bay.disk l.bay).seen l.loading.file);
}
