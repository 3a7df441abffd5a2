use Rattle.std.proofs.Common.{◌≡◌, ◌<◌, ℕ, List, not, length, get_or, drop, sym, ◌∙◌, ap, arith}
use Rattle.std.proofs.lemmas.List.{length-drop}
use Rattle.std.specs.List.{position_or_len}
use Rattle.dm_proto.specs.Words.{parts}
use Rattle.dm_proto.proofs.Parts.{is_space, parts-skip, begins-skip}
use Rattle.dm_proto.proofs.words.without_spaces.Goals as goal

pub returns-clause-same : goal.returns-clause-same
returns-clause-same c =
    ap parts c.split_at.ensures.back ∙ ap (λ (k : ℕ). parts (drop k c.args.text.now)) c.spaces_len.ensures.place ∙ parts-skip c.args.text.now

pub returns-clause-front : goal.returns-clause-front
returns-clause-front c some e =
    let text = c.args.text.now in
    let n = position_or_len (λ (b : ℕ). not (is_space b)) text in
    let is : c.split_at.result.1.now ≡ drop n text = c.split_at.ensures.back ∙ ap (λ (k : ℕ). drop k text) c.spaces_len.ensures.place in
    let l : n < length text = omega (arith, ap length is, length-drop n text, some) in
    begins-skip text l (sym (ap (λ (x : List ℕ). get_or x 0 0) is) ∙ e)
