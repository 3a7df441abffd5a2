use Rattle.std.proofs.Common.{◌≡◌, ◌∙◌, ℕ, List, [], not, length, ap, eqb, subst, arith}
use Rattle.std.specs.Bool.{MatchBool}
use Rattle.dm_proto.specs.Stream.{Ends, Inside}
use Rattle.dm_proto.specs.Reading.{Reading}
use Rattle.dm_proto.proofs.Steps.{inside_is}
use Rattle.dm_proto.proofs.reader.Reader.inside.Goals as goal

pub returns-clause-ends : goal.returns-clause-ends
returns-clause-ends c =
    let line = c.self.inside.line in
    let empty : c.is_empty.result ≡ eqb (length line.items) 0 = c.is_empty.ensures ∙ ap (λ (n : ℕ). eqb n 0) (omega (arith, line.ok.0)) in
    subst (λ (b : List ℕ). MatchBool (not c.is_empty.result) (Ends b Inside) (b ≡ [])) (ap (λ (r : Reading). r.begun) c.self.view_is)
    (inside_is line.items c.self.inside.payload c.is_empty.result c.self.invariant.held empty)
