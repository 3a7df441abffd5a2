-- What calls that send a text promise together, one after another.
use Rattle.std.proofs.Common.{◌≡◌, ℕ, ◌+◌, List, [], ◌∷◌, ◌++◌, Option, Result, Ok, Err, ap, sym, subst, ◌∙◌, arith, append_assoc, length, take, drop, get_or, ◌<◌}
use Rattle.std.proofs.lemmas.List.{take_more, take-append-drop, append-nil}
use Rattle.std.proofs.lemmas.Grind.{flat_map-append}
use Rattle.dm_reply.specs.Text.{rows_text}
use Rattle.dm_reply.specs.declared.send.SayError.{SayError}
use Rattle.dm_reply.specs.declared.send.SayError.TheVariants.{Failed, NothingTaken}
use Rattle.dm_reply.specs.Took.{TookPart}
use Rattle.dm_reply.specs.Sends.{Sends, Holds, GoesOut}
use Rattle.dm_reply.proofs.Taking.{took_more, part_of_front, part_of_rest, rose_later, out_then, out_part, out_all}

abbrev failing : (T : Type 0) → SayError → Result T SayError
failing T e = Err e

abbrev failing_ok : {T : Type 0} → T → Result T SayError
failing_ok x = Ok x

same_error : {S T : Type 0} (e d : SayError) → failing S e ≡ failing S d → failing T e ≡ failing T d
same_error e d h = let i : e ≡ d = cc in ap (λ x. Err x) i

-- a text that went out in part is a part of a longer one
pub sends_err : {S T : Type 0} {old new : Option (List ℕ)} {low high : ℕ} {may may' : Type 0} (e : SayError) (text more : List ℕ)
    → Sends {T = S} text old new low high may may' (Err e) → Sends {T = T} (text ++ more) old new low high may may' (Err e)
sends_err {S} {T} {old} {new} e text more s = record {
  said = tt;
  part = part_of_front old new text more s.part;
  failed = λ h. s.failed (same_error {S = T} {T = S} e Failed h);
  nothing = λ h. s.nothing (same_error {S = T} {T = S} e NothingTaken h);
  none = λ h. s.none (λ k. h (same_error {S = S} {T = T} e Failed k));
  count = s.count;
  ends = s.ends;
}

-- a call that was Ok left the count as it was
quiet_ok : {T P : Type 0} (x : T) → ((failing_ok x ≡ failing T Failed → ⊥) → P) → P
quiet_ok x f = f (λ h. cc)

-- one text went out whole, and then another is sent
pub sends_then : {S T : Type 0} {old mid new : Option (List ℕ)} {low lowest high : ℕ} {may maybe may' : Type 0} {x : S} (r : Result T SayError) (text more : List ℕ)
    → Sends {T = S} text old mid low lowest may maybe (Ok x) → Sends {T = T} more mid new lowest high maybe may' r → Sends {T = T} (text ++ more) old new low high may may' r
sends_then {old = old} {mid = mid} {new = new} {x = x} (Ok y) text more s t = let quiet = quiet_ok x s.none in record {
  said = took_more old mid new text more s.said t.said;
  part = tt;
  failed = λ h. rose_later _ _ _ quiet (t.failed h);
  none = λ h. t.none h ∙ quiet;
  nothing = λ h. s.ends (t.nothing h);
  count = omega (arith, quiet, t.count);
  ends = λ h. s.ends (t.ends h);
}
sends_then {old = old} {mid = mid} {new = new} {x = x} (Err e) text more s t = let quiet = quiet_ok x s.none in record {
  said = tt;
  part = part_of_rest old mid new text more s.said t.part;
  failed = λ h. rose_later _ _ _ quiet (t.failed h);
  none = λ h. t.none h ∙ quiet;
  nothing = λ h. s.ends (t.nothing h);
  count = omega (arith, quiet, t.count);
  ends = λ h. s.ends (t.ends h);
}

-- a text that went out in part, with more to follow that was not begun
pub holds_err : {S T : Type 0} {old new : Option (List ℕ)} {low high : ℕ} {may may' : Type 0} {held last : List ℕ} (e : SayError) (text more : List ℕ)
    → Holds {T = S} text held old new low high may may' (Err e) → Holds {T = T} (text ++ more) last old new low high may may' (Err e)
holds_err {S} {T} {old} {new} e text more s = record {
  said = tt;
  part = part_of_front old new text more s.part;
  failed = λ h. s.failed (same_error {S = T} {T = S} e Failed h);
  nothing = λ h. s.nothing (same_error {S = T} {T = S} e NothingTaken h);
  none = λ h. s.none (λ k. h (same_error {S = S} {T = T} e Failed k));
  count = s.count;
  ends = s.ends;
}

-- what stands between two rows: of the text so far a front went out, the sink's count is the same, and it ends no sooner
pub record Stands (text held : List ℕ) (old new : Option (List ℕ)) (low high : ℕ) (may may' : Type 0) : Type 0 where
  pub out : GoesOut old new text held
  pub kept : high ≡ low
  pub still : may' → may

pub stands_then : {T : Type 0} {old mid new : Option (List ℕ)} {low lowest high : ℕ} {may maybe may' : Type 0} {x : T} {text held last : List ℕ} (more : List ℕ)
    → Stands text held old mid low lowest may maybe → Holds {T = T} (held ++ more) last mid new lowest high maybe may' (Ok x) → Stands (text ++ more) last old new low high may may'
stands_then {old = old} {mid = mid} {new = new} {x = x} {text = text} {held = held} {last = last} more s t = record {
  out = out_then old mid new text held more last s.out t.said;
  kept = (quiet_ok x t.none) ∙ s.kept;
  still = λ h. s.still (t.ends h);
}

-- a row that did not go out ends the whole
pub stands_err : {S T : Type 0} {old mid new : Option (List ℕ)} {low lowest high : ℕ} {may maybe may' : Type 0} {text held last : List ℕ} (e : SayError) (more rest : List ℕ)
    → Stands text held old mid low lowest may maybe → Holds {T = S} (held ++ more) last mid new lowest high maybe may' (Err e)
    → Sends {T = T} (text ++ more ++ rest) old new low high may may' (Err e)
stands_err {S} {T} {old} {mid} {new} {text = text} {held = held} e more rest s t = record {
  said = tt;
  part = out_part old mid new text held more rest s.out t.part;
  none = λ h. t.none (λ k. h (same_error {S = S} {T = T} e Failed k)) ∙ s.kept;
  failed = λ h. rose_later _ _ _ s.kept (t.failed (same_error {S = T} {T = S} e Failed h));
  nothing = λ h. s.still (t.nothing (same_error {S = T} {T = S} e NothingTaken h));
  count = omega (arith, s.kept, t.count);
  ends = λ h. s.still (t.ends h);
}

-- what was held back is sent at the end
pub stands_end : {T : Type 0} {old mid new : Option (List ℕ)} {low lowest high : ℕ} {may maybe may' : Type 0} (text held : List ℕ) (r : Result T SayError)
    → Stands text held old mid low lowest may maybe → Sends {T = T} held mid new lowest high maybe may' r → Sends {T = T} text old new low high may may' r
stands_end {old = old} {mid = mid} {new = new} text held (Ok y) s t = record {
  said = out_all old mid new text held s.out t.said;
  part = tt;
  failed = λ h. rose_later _ _ _ s.kept (t.failed h);
  none = λ h. t.none h ∙ s.kept;
  nothing = λ h. s.still (t.nothing h);
  count = omega (arith, s.kept, t.count);
  ends = λ h. s.still (t.ends h);
}
stands_end {old = old} {mid = mid} {new = new} text held (Err e) s t = record {
  said = tt;
  part = (let P : List ℕ → Type 0 = λ xs. TookPart old new xs in subst P (sym s.out.split) (part_of_rest old mid new s.out.front held s.out.took t.part));
  failed = λ h. rose_later _ _ _ s.kept (t.failed h);
  none = λ h. t.none h ∙ s.kept;
  nothing = λ h. s.still (t.nothing h);
  count = omega (arith, s.kept, t.count);
  ends = λ h. s.still (t.ends h);
}

-- the rows so far and one more
pub rows_more : {T : Type 0} (text : T → List ℕ) (rows : List T) (i : ℕ) (row : T) → i < length rows → row ≡ get_or rows i row
    → rows_text text (take (i + 1) rows) ≡ rows_text text (take i rows) ++ (text row ++ 10 ∷ [])
rows_more text rows i row less is =
    ap (rows_text text) (take_more rows i row less) ∙ flat_map-append (λ r. text r ++ 10 ∷ []) (take i rows) (get_or rows i row ∷ [])
    ∙ ap (λ xs. rows_text text (take i rows) ++ xs) (append-nil (text (get_or rows i row) ++ 10 ∷ []))
    ∙ ap (λ r. rows_text text (take i rows) ++ (text r ++ 10 ∷ [])) (sym is)

pub rows_split : {T : Type 0} (text : T → List ℕ) (rows : List T) (i : ℕ) (row : T) → i < length rows → row ≡ get_or rows i row
    → rows_text text rows ≡ rows_text text (take i rows) ++ (text row ++ 10 ∷ []) ++ rows_text text (drop (i + 1) rows)
rows_split text rows i row less is =
    ap (rows_text text) (sym (take-append-drop (i + 1) rows)) ∙ flat_map-append (λ r. text r ++ 10 ∷ []) (take (i + 1) rows) (drop (i + 1) rows)
    ∙ ap (λ xs. xs ++ rows_text text (drop (i + 1) rows)) (rows_more text rows i row less is)

-- rows behind a line, some of them, one and the rest
pub line_then : (line a b c : List ℕ) → line ++ 10 ∷ (a ++ b ++ c) ≡ (line ++ 10 ∷ a) ++ b ++ c
line_then line a b c = simp append_assoc

pub line_and : (line a b : List ℕ) → line ++ 10 ∷ (a ++ b) ≡ (line ++ 10 ∷ a) ++ b
line_and line a b = simp append_assoc
