use Rattle.std.proofs.Common.{◌≡◌, Option, Some, ap, sym, refl, subst, ◌∙◌}
use Rattle.std.specs.FinMap as map
use Rattle.dm_base.specs.declared.volume.Chunk.{Chunk}
use Rattle.dm_catalogue.specs.Sums.{FitsInPlace, chunk_in}
use Rattle.dm_catalogue.proofs.tests.move_first.Goals as goal

fits : (o : Option Chunk) (from to : Chunk) → Some from ≡ o → to.len ≡ from.len → FitsInPlace o to
fits o from to e same = subst (λ p. FitsInPlace p to) e same

pub move_chunk-requires-clause-len : goal.move_chunk-requires-clause-len
move_chunk-requires-clause-len c =
    fits _ c.in-Some.from _ (c.in-Some.ensures ∙ ap (λ k. chunk_in 0 (map.get k.rows c.args.bfid.0)) (sym c.know.ensures.rows)) refl
