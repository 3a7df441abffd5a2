use Rattle.std.proofs.Common.{◌≡◌}
use Rattle.dm_ckpt.specs.declared.doubt.Doubt.TheVariants.{Sure}
use Rattle.dm_ckpt.specs.State.{Stands}
use Rattle.dm_host.specs.MemoryBay.{disk_of}
use Rattle.dm_ckpt.proofs.tests.grown.Given as goal

abbrev pub invariant-loop : goal.invariant-loop
invariant-loop l = record {
  settled : l.store.doubt ≡ Sure;
  stands : Stands (disk_of l.bay) l.store;
}
