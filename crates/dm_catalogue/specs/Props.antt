-- That chunks join is a fact: there is one proof of it at most.
use Rattle.std.specs.Prelude.{◌≡◌, ℕ, ◌+◌, ◌<◌, List, [], ◌∷◌}
use Rattle.std.proofs.Props.{props}
use Rattle.dm_base.specs.declared.volume.Chunk.{Chunk}
use Rattle.dm_durable.specs.GroupConditions.{Joins}

pub joins-prop : (from : ℕ) (cs : List Chunk) (to : ℕ) → IsProp (Joins from cs to)
joins-prop from [] to x y = let ends : IsProp (from ≡ to) = hlevel props in ends x y
joins-prop from (c ∷ cs) to x y =
    let begins : IsProp (c.offset ≡ from) = hlevel props in
    let long : IsProp (0 < c.len) = hlevel props in
    λ i. (begins x.0 y.0 i, long x.1 y.1 i, joins-prop (from + c.len) cs to x.2 y.2 i)
