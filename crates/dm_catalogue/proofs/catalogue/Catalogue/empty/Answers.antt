use Rattle.std.proofs.Common.{◌≡◌, sym, subst, arith}
use Rattle.dm_catalogue.specs.Sums.{IsWhole}
use Rattle.dm_tables.specs.Rows.{EachRow}
use Rattle.dm_tables.proofs.Rows.{each-empty}
use Rattle.dm_catalogue.proofs.Summing.{summed_empty}
use Rattle.dm_catalogue.proofs.Queueing.{queued_empty}
use Rattle.dm_catalogue.proofs.catalogue.Catalogue.empty.Goals as goal

pub invariant_of-result : goal.invariant_of-result
invariant_of-result c = record {
  whole = subst (λ m. EachRow m (λ b r. IsWhole r)) (sym c.empty.ensures) (each-empty _ (λ b r. IsWhole r));
  summed = summed_empty c.empty-2.result.rows c.empty.result.rows c.empty-2.ensures c.empty.ensures;
  queued = queued_empty c.empty-3.result.rows.rows c.empty.result.rows c.empty.ensures;
  room = omega arith;
}
