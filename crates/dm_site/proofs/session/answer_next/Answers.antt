use Rattle.std.proofs.Common.{Err, ap, sym}
use Rattle.std.proofs.lemmas.List.{append-nil}
use Rattle.dm_reply.specs.Text.{text_of}
use Rattle.dm_site.proofs.Talking.{talk_none, talk_idle, talk_one, heard_at, stopped_cut}
use Rattle.dm_site.proofs.session.answer_next.Goals as goal

pub returns-in-Err-LongLine-clause-stopped : goal.returns-in-Err-LongLine-clause-stopped
returns-in-Err-LongLine-clause-stopped g c = (_, talk_none _ _ _, c.in-Err-LongLine.ensures.long (ap (λ e. Err e) c.in-Err-LongLine.field-0-is))

pub returns-in-Err-NoMemory-clause-stopped : goal.returns-in-Err-NoMemory-clause-stopped
returns-in-Err-NoMemory-clause-stopped g c = (_, talk_none _ _ _)

pub returns-in_default-clause-talked : goal.returns-in_default-clause-talked
returns-in_default-clause-talked g c = talk_idle _ _ _ _ _ _ _ c.in-Ok.ensures.heard c.take.ensures.taken c.in_default.is c.take.ensures.begun

pub returns-in-Ok-say-clause-talked : goal.returns-in-Ok-say-clause-talked
returns-in-Ok-say-clause-talked g c =
    talk_one _ _ _ _ _ (text_of c.answer-reply.result) _ c.in-Some.heard c.answer-reply.ensures.step.0 c.answer-reply.result
    (heard_at _ _ _ _ _ _ c.in-Ok.ensures.heard c.take.ensures.taken c.in-Some.is c.take.ensures.begun)
    c.answer-reply.ensures.step.1 c.answer-reply.ensures.step.2 (append-nil _) c.in-Ok-say.ensures.said c.answer-reply.ensures.agrees

pub returns-clause-stopped : goal.returns-clause-stopped
returns-clause-stopped g c =
    let p = c.in-Err.ensures.part in
    stopped_cut _ _ _ _ _ _ _ _ p.some
    (talk_one _ _ _ _ _ p.part p.more c.in-Some.heard c.answer-reply.ensures.step.0 c.answer-reply.result
    (heard_at _ _ _ _ _ _ c.in-Ok.ensures.heard c.take.ensures.taken c.in-Some.is c.take.ensures.begun)
    c.answer-reply.ensures.step.1 c.answer-reply.ensures.step.2 (sym p.split) p.took c.answer-reply.ensures.agrees)
