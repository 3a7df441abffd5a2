use Rattle.std.proofs.Common.{◌≤◌, ℕ, not, length, sym, ◌∙◌, ap, subst}
use Rattle.std.specs.Prelude.{Option, unwrap_or}
use Rattle.dm_proto.proofs.Parts.{is_space, place_is, place_fits}
use Rattle.dm_proto.proofs.words.spaces_len.Goals as goal

pub returns-clause-place : goal.returns-clause-place
returns-clause-place c =
    c.unwrap_or.ensures ∙ ap (λ (o : Option ℕ). unwrap_or o (length c.args.text.now)) c.word_start.ensures ∙ place_is (λ b. not (is_space b)) c.args.text.now

pub returns-clause-fits : goal.returns-clause-fits
returns-clause-fits c = subst (λ (k : ℕ). k ≤ length c.args.text.now) (sym (returns-clause-place c)) (place_fits (λ b. not (is_space b)) c.args.text.now)
