use Rattle.std.proofs.Common.{[], ◌∷◌, ◌/◌, ◌%◌, ◌≤◌, refl, arith}
use Rattle.dm_base.specs.Naming.{IsPath}
use Rattle.dm_gen.proofs.Sessions.{is_path}
use Rattle.dm_gen.proofs.file.path_of.Goals as goal

pub unreachable-requires : goal.unreachable-requires
unreachable-requires c =
    let n = c.args.number in
    let first : n / 1000 ≤ 9 = omega (arith, c.requires) in
    let second : n / 100 % 10 ≤ 9 = omega arith in
    let third : n / 10 % 10 ≤ 9 = omega arith in
    let fourth : n % 10 ≤ 9 = omega arith in
    let path : IsPath (47 ∷ 103 ∷ 47 ∷ c.digit.result ∷ c.digit-2.result ∷ c.digit-3.result ∷ c.digit-4.result ∷ []) =
    rw (c.digit.ensures, c.digit-2.ensures, c.digit-3.ensures, c.digit-4.ensures) (is_path (n / 1000) (n / 100 % 10) (n / 10 % 10) (n % 10) first second third fourth) in
    (rw c.in-Err-Grammar.field-0-is at c.in-Err-Grammar.ensures.grammar).0 refl path
