use Rattle.std.proofs.Common.{ℕ, ◌∙◌, arith, rules, refl, ap, take, Bool}
use Rattle.dm_site.proofs.Scripts.{listened_as, listened_new, listened_front, may_begin_none, script_source_failed, script_at_end, script_stopped_as, script_used_up}
use Rattle.dm_site.proofs.session.converse.Goals as goal

pub loop-more-init : goal.loop-more-init
loop-more-init g c = record {
  listened = listened_new _ _ _ _ c.new-reader.ensures.begun;
  begun = may_begin_none _ c.new-reader.ensures.begun;
  idle = c.new-reader.ensures.ready;
  room = refl;
  told = refl;
  source_count = refl;
  sink_count = refl;
  ends = λ e. e;
}

pub loop-more-preserved : goal.loop-more-preserved
loop-more-preserved g c =
    let inv = c.loop-more.invariant in
    let read = c.in-Ok.ensures in
    let answered = c.in-Ok-answer_piece.ensures in
    record {
      listened = listened_front _ _ _ _ _ _ _ _ c.loop-more.more c.in-Ok.n _ c.read_piece.new.buffer _ (ap (λ (t : ℕ → Bool). t 16) inv.told) inv.listened read.taken read.fits read.few answered.talked;
      begun = answered.begun;
      idle = answered.idle;
      room = search rules;
      told = answered.told ∙ inv.told;
      source_count = read.cause.none ∙ inv.source_count;
      sink_count = answered.count ∙ inv.sink_count;
      ends = λ e. inv.ends (answered.ends e);
    }

pub returns-in-Err-clause-script : goal.returns-in-Err-clause-script
returns-in-Err-clause-script g c =
    let inv = c.loop-more.invariant in
    script_source_failed _ _ _ _ _ _ _ c.requires (listened_as _ _ _ _ _ _ _ _ c.in-Err.ensures.err inv.listened) inv.begun

pub returns-then-n-eq0-clause-script : goal.returns-then-n-eq0-clause-script
returns-then-n-eq0-clause-script g c =
    let inv = c.loop-more.invariant in
    script_at_end _ _ _ _ _ _ _ _ _ _ c.requires inv.listened c.in-Ok.ensures.taken (ap (λ (n : ℕ). take n c.read_piece.new.buffer) c.if-n-eq0.true) c.at_end.ensures (c.in-Ok.ensures.end c.if-n-eq0.true)

pub returns-in-Err-answer_piece-clause-script : goal.returns-in-Err-answer_piece-clause-script
returns-in-Err-answer_piece-clause-script g c =
    let inv = c.loop-more.invariant in
    script_stopped_as _ _ _ _ _ _ _ _ _ _ _ _ _ c.stopped.ensures (ap (λ (t : ℕ → Bool). t 16) inv.told) c.requires inv.listened c.in-Ok.ensures.taken c.in-Err-answer_piece.ensures.stopped

pub returns-clause-script : goal.returns-clause-script
returns-clause-script g c =
    let inv = c.loop-more.invariant in
    script_used_up _ _ _ _ _ _ _ c.requires inv.listened inv.begun c.loop-more-test.false
