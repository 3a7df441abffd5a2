use Rattle.std.proofs.Common.{◌∙◌, arith, length-drop}
use Rattle.std.proofs.lemmas.List.{take_rest}
use Rattle.dm_reply.proofs.Taking.{sent_more}
use Rattle.dm_reply.proofs.send.send.Goals as goal

pub loop-sent-preserved : goal.loop-sent-preserved
loop-sent-preserved g c =
    let whole = take_rest c.args.bytes.now c.loop-sent.sent in
    let within = rw whole at c.in-Ok.ensures.within in
    let takes = rw whole at c.in-Ok.ensures.takes in
    record {
      within = omega (arith, within, length-drop c.loop-sent.sent c.args.bytes.now);
      took = sent_more _ (g.K.Sink.taken c.loop-sent.sink) _ c.args.bytes.now c.loop-sent.sent c.in-Ok.taken c.loop-sent.invariant.took takes;
      kept = c.in-Ok.ensures.cause.none ∙ c.loop-sent.invariant.kept;
      ended = λ h. c.loop-sent.invariant.ended (c.in-Ok.ensures.still h);
    }
