-- What the two writes of an append leave of a file, also where they are cut short.
use Rattle.std.proofs.Common.{◌≡◌, inl, inr, ℕ, ◌+◌, ◌≤◌, List, [], ◌∷◌, ◌++◌, length, take, drop, get_or, refl, sym, ◌∙◌, ap, arith, length-append, take-append-drop}
use Rattle.std.proofs.lemmas.Bool.{cases_eq}
use Rattle.std.proofs.lemmas.List.{append_assoc, drop_more}
use Rattle.std.specs.List.{AllByRecursion}
use Rattle.dm_host.specs.Disk.{Torn, Written}
use Rattle.dm_journal.specs.Grammar.{Fits, inner, frames, AtRest, Pends, BeforeOrAfter}
use Rattle.dm_journal.proofs.Frames.{all_push, frames_push, behind_gate, at_gate}

-- the frame stands behind the gate, which may be any byte
pub record Staged (payloads : List (List ℕ)) (payload file : List ℕ) : Type 0 where
  pub gate : ℕ
  pub junk : List ℕ
  pub is : file ≡ frames payloads ++ gate ∷ (inner payload ++ 0 ∷ junk)

pub pends_either : (ps : List (List ℕ)) (payload file : List ℕ) → AllByRecursion Fits ps → Fits payload → Pends ps payload file → BeforeOrAfter ps payload file
pends_either ps payload file all fits pends = elim (cases_eq pends.gate 1) [
  | inl is_open ↦
      let whole : (junk : List ℕ) × (pends.rest ≡ inner payload ++ 0 ∷ junk) = pends.whole is_open in
      inr (
        all_push ps payload all fits,
        inr (record {
          gate = 0;
          junk = whole.0;
          closed = λ e. absurd (omega (arith, e));
          is = pends.is ∙ (λ i. frames ps ++ is_open i ∷ whole.1 i) ∙ frames_push ps payload (0 ∷ whole.0);
        }),
      )
  | inr shut ↦ inl (all, inr (record { gate = pends.gate; junk = pends.rest; closed = shut; is = pends.is }))
]

module _ (ps : List (List ℕ)) (payload : List ℕ) (p : ℕ) (at : p ≡ length (frames ps)) where
  pub rest_reaches : (file : List ℕ) → AtRest ps file → p + 1 ≤ length file
  rest_reaches file rest = omega (arith, at, ap (λ (l : List ℕ). length l) rest.is, length-append (frames ps) (rest.gate ∷ rest.junk))

  pub staged_reaches : (file : List ℕ) → Staged ps payload file → p + 1 ≤ length file
  staged_reaches file staged = omega (arith, at, ap (λ (l : List ℕ). length l) staged.is, length-append (frames ps) (staged.gate ∷ (inner payload ++ 0 ∷ staged.junk)))

  behind : (n : ℕ) (old new : List ℕ) (rest : AtRest ps old) → Torn (p + 1) n old new → new ≡ frames ps ++ rest.gate ∷ drop (p + 1) new
  behind n old new rest torn =
      behind_gate (frames ps) rest.gate rest.junk new p (sym at) (torn.before (rest_reaches old rest) ∙ ap (λ (l : List ℕ). take (p + 1) l) rest.is)

  -- the first write, cut short: the gate is closed still
  pub behind_torn : (n : ℕ) (old new : List ℕ) → AtRest ps old → Torn (p + 1) n old new → Pends ps payload new
  behind_torn n old new rest torn =
      record { gate = rest.gate; rest = drop (p + 1) new; is = behind n old new rest torn; whole = λ e. absurd (rest.closed e) }

  -- and done
  pub behind_written : (bytes old new : List ℕ) → bytes ≡ inner payload ++ 0 ∷ [] → AtRest ps old → Written (p + 1) bytes old new → Staged ps payload new
  behind_written bytes old new is rest written =
      let tail = drop (p + 1) new in
      let after = drop (length bytes) tail in
      record {
        gate = rest.gate;
        junk = after;
        is = behind (length bytes) old new rest written.torn
            ∙ ap (λ (l : List ℕ). frames ps ++ rest.gate ∷ l) (sym (take-append-drop (length bytes) tail) ∙ ap (λ (l : List ℕ). l ++ after) (written.there ∙ is) ∙ append_assoc (inner payload) (0 ∷ []) after);
      }

  gate_any : (old new : List ℕ) (staged : Staged ps payload old) → Torn p 1 old new → new ≡ frames ps ++ get_or new p 0 ∷ (inner payload ++ 0 ∷ staged.junk)
  gate_any old new staged torn =
      let reaches = staged_reaches old staged in
      at_gate (frames ps) staged.gate (inner payload ++ 0 ∷ staged.junk) new p (sym at) (omega (arith, reaches, torn.no_shorter))
      (torn.before (omega (arith, reaches)) ∙ ap (λ (l : List ℕ). take p l) staged.is) (torn.after ∙ ap (λ (l : List ℕ). drop (p + 1) l) staged.is)

  -- the second write, cut short: the gate is any byte, and the frame is whole
  pub gate_torn : (old new : List ℕ) → Staged ps payload old → Torn p 1 old new → Pends ps payload new
  gate_torn old new staged torn =
      record { gate = get_or new p 0; rest = inner payload ++ 0 ∷ staged.junk; is = gate_any old new staged torn; whole = λ e. (staged.junk, refl) }

  -- and done
  pub gate_written : (old new : List ℕ) → Staged ps payload old → Written p (1 ∷ []) old new → AtRest (ps ++ payload ∷ []) new
  gate_written old new staged written =
      let within : p + 1 ≤ length new = written.within in
      let split : drop p new ≡ get_or new p 0 ∷ drop (p + 1) new = drop_more new p 0 (omega (arith, within)) in
      let first : get_or new p 0 ∷ [] ≡ 1 ∷ [] = sym (ap (λ (l : List ℕ). take 1 l) split) ∙ written.there in
      let opened : get_or new p 0 ≡ 1 = cc in
      record {
        gate = 0;
        junk = staged.junk;
        closed = λ e. absurd (omega (arith, e));
        is = gate_any old new staged written.torn ∙ ap (λ (g : ℕ). frames ps ++ g ∷ (inner payload ++ 0 ∷ staged.junk)) opened ∙ frames_push ps payload (0 ∷ staged.junk);
      }
