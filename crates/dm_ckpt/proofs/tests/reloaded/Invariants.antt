use Rattle.std.proofs.Common.{◌≡◌, ℕ, List}
use Rattle.dm_ckpt.specs.Files.{TellsMine}
use Rattle.dm_ckpt.specs.State.{StandsFor}
use Rattle.dm_ckpt.specs.Load.{Reading, LoadStands}
use Rattle.dm_ckpt.proofs.tests.reloaded.Given as goal

abbrev pub invariant-loop : goal.invariant-loop
invariant-loop g l = record {
  reading : TellsMine (g.B.Bay.disk l.fn.bay) l.fn.component → (qs : List (List ℕ)) × Reading (g.B.Bay.disk l.bay) l.loading qs;
  means : TellsMine (g.B.Bay.disk l.fn.bay) l.fn.component → (ps : List (List ℕ)) → StandsFor l.fn.component ps (g.B.Bay.disk l.fn.bay).seen
      → StandsFor l.fn.component ps (g.B.Bay.disk l.bay).seen;
  component : l.loading.component ≡ l.fn.component;
  stands : LoadStands (g.B.Bay.disk l.bay) l.loading;
}
