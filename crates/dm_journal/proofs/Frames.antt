-- Lists of frames, and the bytes round a gate.
use Rattle.std.proofs.Common.{◌≡◌, ℕ, ◌+◌, ◌<◌, List, [], ◌∷◌, ◌++◌, length, take, drop, get_or, sym, ◌∙◌, ap, arith, length-append, take-append-drop}
use Rattle.std.proofs.lemmas.Grind.{flat_map-append}
use Rattle.std.proofs.lemmas.List.{append-nil, append_assoc, take_at, drop_at, drop_more}
use Rattle.std.specs.List.{AllByRecursion}
use Rattle.dm_journal.specs.Grammar.{Fits, inner, frame, frames}

pub all_push : (ps : List (List ℕ)) (payload : List ℕ) → AllByRecursion Fits ps → Fits payload → AllByRecursion Fits (ps ++ payload ∷ [])
all_push [] payload all fits = (fits, tt)
all_push (p ∷ ps) payload all fits = (all.0, all_push ps payload all.1 fits)

frames_one : (ps : List (List ℕ)) (payload : List ℕ) → frames (ps ++ payload ∷ []) ≡ frames ps ++ frame payload
frames_one ps payload = flat_map-append frame ps (payload ∷ []) ∙ ap (λ (l : List ℕ). frames ps ++ l) (append-nil (frame payload))

-- one frame more
pub frames_push : (ps : List (List ℕ)) (payload rest : List ℕ) → frames ps ++ 1 ∷ (inner payload ++ rest) ≡ frames (ps ++ payload ∷ []) ++ rest
frames_push ps payload rest = sym (append_assoc (frames ps) (frame payload) rest) ∙ ap (λ (l : List ℕ). l ++ rest) (sym (frames_one ps payload))

pub length-frames_push : (ps : List (List ℕ)) (payload : List ℕ) → length (frames (ps ++ payload ∷ [])) ≡ length (frames ps) + (5 + length payload)
length-frames_push ps payload = omega (arith, ap (λ (l : List ℕ). length l) (frames_one ps payload), length-append (frames ps) (frame payload))

-- a file that is the same up to the gate, that included
pub behind_gate : (front : List ℕ) (gate : ℕ) (junk new : List ℕ) (p : ℕ) → length front ≡ p → take (p + 1) new ≡ take (p + 1) (front ++ gate ∷ junk)
    → new ≡ front ++ gate ∷ drop (p + 1) new
behind_gate front gate junk new p is same =
    let whole : take (p + 1) (front ++ gate ∷ junk) ≡ front ++ gate ∷ [] =
    ap (λ (l : List ℕ). take (p + 1) l) (sym (append_assoc front (gate ∷ []) junk))
    ∙ take_at (front ++ gate ∷ []) junk (p + 1) (omega (arith, is, length-append front (gate ∷ []))) in
    sym (take-append-drop (p + 1) new) ∙ ap (λ (l : List ℕ). l ++ drop (p + 1) new) (same ∙ whole) ∙ append_assoc front (gate ∷ []) (drop (p + 1) new)

pub drop-gate : (front : List ℕ) (gate : ℕ) (rest : List ℕ) (p : ℕ) → length front ≡ p → drop (p + 1) (front ++ gate ∷ rest) ≡ rest
drop-gate front gate rest p is =
    ap (λ (l : List ℕ). drop (p + 1) l) (sym (append_assoc front (gate ∷ []) rest))
    ∙ drop_at (front ++ gate ∷ []) rest (p + 1) (omega (arith, is, length-append front (gate ∷ [])))

-- a file that is the same but for the gate
pub at_gate : (front : List ℕ) (gate : ℕ) (rest new : List ℕ) (p : ℕ) → length front ≡ p → p < length new → take p new ≡ take p (front ++ gate ∷ rest)
    → drop (p + 1) new ≡ drop (p + 1) (front ++ gate ∷ rest) → new ≡ front ++ get_or new p 0 ∷ rest
at_gate front gate rest new p is within before after =
    sym (take-append-drop p new)
    ∙ ap (λ (l : List ℕ). l ++ drop p new) (before ∙ take_at front (gate ∷ rest) p is)
    ∙ ap (λ (l : List ℕ). front ++ l) (drop_more new p 0 within ∙ ap (λ (l : List ℕ). get_or new p 0 ∷ l) (after ∙ drop-gate front gate rest p is))
