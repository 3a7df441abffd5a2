use Rattle.std.proofs.Common.{◌≡◌, Option, Some, refl, subst}
use Rattle.dm_base.specs.declared.volume.Chunk.{Chunk}
use Rattle.dm_catalogue.specs.Sums.{FitsInPlace}
use Rattle.dm_group_tables.proofs.tests.move_chunk.Goals as goal

fits : (o : Option Chunk) (from to : Chunk) → Some from ≡ o → to.len ≡ from.len → FitsInPlace o to
fits o from to e same = subst (λ p. FitsInPlace p to) e same

pub prepare-requires : goal.prepare-requires
prepare-requires c = fits _ c.in-Some.from _ c.in-Some.ensures refl
