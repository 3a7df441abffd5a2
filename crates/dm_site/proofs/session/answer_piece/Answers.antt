use Rattle.std.proofs.Common.{◌∙◌, arith, refl, rules, ap, ℕ, Bool}
use Rattle.std.proofs.lemmas.Result.{err_from_is_err_and}
use Rattle.dm_site.proofs.Talking.{talk_begin, talk_piece, stopped_piece}
use Rattle.dm_site.proofs.session.answer_piece.Goals as goal

pub loop-taken-init : goal.loop-taken-init
loop-taken-init g c = record { within = omega arith; talk = talk_begin _ _ _; begun = c.requires.begun; idle = c.requires.ready; told = refl; count = refl; ends = λ e. e }

pub loop-taken-preserved : goal.loop-taken-preserved
loop-taken-preserved g c =
    let inv = c.loop-taken.invariant in
    let next = c.in_ok-taken.ensures in
    record {
      within = omega (arith, next.fits, c.split_at.ensures.back_len);
      talk = talk_piece _ _ _ _ _ _ c.args.piece.now _ _ _ c.loop-taken.taken c.in_ok-taken.field-0 (ap (λ (t : ℕ → Bool). t 16) inv.told) c.split_at.ensures.back inv.talk next.talked;
      begun = next.begun;
      idle = next.idle;
      told = next.told ∙ inv.told;
      count = next.count ∙ inv.count;
      ends = λ e. inv.ends (next.ends e);
    }

pub returns-in_err-taken-clause-stopped : goal.returns-in_err-taken-clause-stopped
returns-in_err-taken-clause-stopped g c =
    let inv = c.loop-taken.invariant in
    let p = err_from_is_err_and c.from_residual.result c.from_residual.ensures.1 in
    rw (p.1, p.2) (stopped_piece _ _ _ _ _ _ c.args.piece.now _ _ c.loop-taken.taken _ (ap (λ (t : ℕ → Bool). t 16) inv.told) c.split_at.ensures.back inv.talk c.in_err-taken.ensures.stopped)
