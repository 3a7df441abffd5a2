use Rattle.std.proofs.Common.{◌≡◌, ◌∙◌, sym, ap, subst, ℕ, List, ◌++◌, take}
use Rattle.std.proofs.lemmas.Result.{err_from_is_err_and}
use Rattle.dm_proto.specs.Words.{HasNoEnd}
use Rattle.dm_proto.specs.Holding.{IsEnded}
use Rattle.dm_proto.specs.declared.heard.InputError.TheVariants.{LongLine}
use Rattle.dm_proto.proofs.Steps.{end_nowhere, end_some, long_all, long_part, step_line, err_same}
use Rattle.dm_proto.proofs.step.hear_line.Goals as goal

pub extend_line-requires-clause-no_end : goal.extend_line-requires-clause-no_end
extend_line-requires-clause-no_end c = end_nowhere c.args.bytes.now (sym c.line_end.ensures ∙ c.in_default.is)

pub returns-in_err-extend_line-clause-long : goal.returns-in_err-extend_line-clause-long
returns-in_err-extend_line-clause-long c e rest =
    let p = err_from_is_err_and c.from_residual.result c.from_residual.ensures.1 in
    let none = end_nowhere c.args.bytes.now (sym c.line_end.ensures ∙ c.in_default.is) in
    let same = err_same (Unit {0}) c.from_residual.result p.0 c.in_err-extend_line.field-0.0 LongLine p.1 p.2 e in
    long_all c.args.line.now.items c.args.bytes.now rest c.requires.no_end none (c.in_err-extend_line.ensures.long same)

pub extend_line-requires-2-clause-no_end : goal.extend_line-requires-2-clause-no_end
extend_line-requires-2-clause-no_end c =
    let at = end_some c.args.bytes.now c.in-Some.end (sym c.in-Some.ensures) in
    subst HasNoEnd (sym c.split_at.ensures.front) at.no_end

pub returns-in_err-extend_line-2-clause-long : goal.returns-in_err-extend_line-2-clause-long
returns-in_err-extend_line-2-clause-long c e rest =
    let p = err_from_is_err_and c.from_residual-in_err-extend_line-2.result c.from_residual-in_err-extend_line-2.ensures.1 in
    let at = end_some c.args.bytes.now c.in-Some.end (sym c.in-Some.ensures) in
    let same = err_same (Unit {0}) c.from_residual-in_err-extend_line-2.result p.0 c.in_err-extend_line-2.field-0.0 LongLine p.1 p.2 e in
    let long = c.in_err-extend_line-2.ensures.long same in
    long_part c.args.line.now.items c.args.bytes.now rest c.in-Some.end c.requires.no_end at.no_end (rw c.split_at.ensures.front at long)

pub returns-clause-heard : goal.returns-clause-heard
returns-clause-heard c =
    let line = c.args.line.now.items in
    let new = c.end_line-payload.new.line.items in
    let payload = c.end_line-payload.result.0 in
    let ready = c.end_line-payload.result.1 in
    let at = end_some c.args.bytes.now c.in-Some.end (sym c.in-Some.ensures) in
    let is : c.extend_line-2.new.line.items ≡ line ++ take c.in-Some.end c.args.bytes.now =
    c.in_ok-extend_line-2.ensures.ok ∙ ap (λ (x : List ℕ). line ++ x) c.split_at.ensures.front
    in
    step_line line c.args.bytes.now new c.in-Some.end payload ready at
    (subst (λ (x : List ℕ). IsEnded x new payload ready) is c.end_line-payload.ensures)
