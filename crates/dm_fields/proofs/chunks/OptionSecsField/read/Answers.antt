use Rattle.std.specs.Prelude.{⊤}
use Rattle.std.proofs.Common.{rules, false, ◌≡◌, ◌++◌, ◌<◌, ◌^◌, subst}
use Rattle.dm_durable.specs.Fields.{IsTimeOrNone}
use Rattle.dm_fields.specs.Fields.{flag_field, moment_field}
use Rattle.dm_fields.specs.Numbers.{be64}
use Rattle.dm_fields.proofs.Absent.{absent_as, flagged, flagged-fits, flagged-is, no_moment}
use Rattle.dm_fields.proofs.chunks.OptionSecsField.read.Goals as goal

pub returns-in-Err : goal.returns-in-Err
returns-in-Err c =
    absent_as (λ p. flag_field p.0 ++ be64 p.1) (λ p. ⊤ × p.1 < 2 ^ 64) moment_field IsTimeOrNone flagged flagged-fits flagged-is c.args.input.now c.read.new.input c.read.new.input c.in-Err.error c.in-Err.ensures

pub returns-then-time-ne0 : goal.returns-then-time-ne0
returns-then-time-ne0 c =
    let none : c.args.input.now ≡ flag_field false ++ (be64 c.in-Ok.time ++ c.read.new.input) =
    subst (λ b. c.args.input.now ≡ flag_field b ++ (be64 c.in-Ok.time ++ c.read.new.input)) c.if-there.false c.in-Ok.ensures.0 in
    no_moment c.in-Ok.time c.args.input.now c.read.new.input c.in-Ok.ensures.1.1 (search rules) none
