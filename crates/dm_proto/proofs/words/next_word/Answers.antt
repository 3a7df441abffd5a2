use Rattle.std.proofs.Common.{◌≡◌, ◌<◌, ℕ, List, ◌∷◌, length, take, drop, sym, ◌∙◌, ap, arith}
use Rattle.std.proofs.lemmas.Bool.{eqb-false}
use Rattle.std.specs.List.{position_or_len}
use Rattle.dm_proto.specs.Words.{parts}
use Rattle.dm_proto.proofs.Parts.{is_space, first_part}
use Rattle.dm_proto.proofs.words.next_word.Goals as goal

pub returns : goal.returns
returns c =
    let text = c.without_spaces-text.result.now in
    let n = position_or_len is_space text in
    let empty : length text ≡ 0 → ⊥ = eqb-false (length text) 0 (sym c.is_empty.ensures ∙ c.if-is_empty.false) in
    let some : 0 < length text = omega (arith, empty) in
    let front : c.split_at.result.0.now ≡ take n text = c.split_at.ensures.front ∙ ap (λ (k : ℕ). take k text) c.word_len.ensures.place in
    let back : c.split_at.result.1.now ≡ drop n text = c.split_at.ensures.back ∙ ap (λ (k : ℕ). drop k text) c.word_len.ensures.place in
    sym c.without_spaces-text.ensures.same ∙ first_part text some (c.without_spaces-text.ensures.front some)
    ∙ ap (λ (w : List ℕ). w ∷ parts (drop n text)) (sym front) ∙ ap (λ (r : List ℕ). c.split_at.result.0.now ∷ parts r) (sym back)
