use Rattle.std.proofs.Common.{◌≡◌, ◌∙◌, ℕ, subst}
use Rattle.dm_zone.specs.Reading.{WrongAt}
use Rattle.dm_zone.proofs.Chunks.{spelled_told}
use Rattle.dm_zone.proofs.decode.read_zone.Goals as goal

pub returns-in-Err-clause-wrong : goal.returns-in-Err-clause-wrong
returns-in-Err-clause-wrong c = λ place e.
    let same : c.in-Err.place ≡ place = cc in
    subst (λ (p : ℕ). WrongAt c.args.version c.args.bytes.now p) same c.in-Err.ensures

pub returns-clause-read : goal.returns-clause-read
returns-clause-read c =
    let z = c.in-Ok.ensures in (
      z.chunks,
      spelled_told c.args.version c.args.bytes.now _ _ z.chunks z.is_zone z.spelled (c.from_vec.ensures ∙ c.in-Ok-chunks_of.ensures _ z.chunks z.is_zone z.spelled),
    )
