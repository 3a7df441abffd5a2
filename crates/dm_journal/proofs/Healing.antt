-- Finding out what became of an append, in the disks before the sync and the read of the gate, and after.
use Rattle.std.proofs.Common.{◌≡◌, ℕ, ◌+◌, ◌≤◌, ◌^◌, List, [], ◌∷◌, ◌++◌, length, get_or, Bool, true, rules, refl, sym, ◌∙◌, ap, subst, arith, length-append}
use Rattle.std.proofs.lemmas.List.{get_or_at}
use Rattle.dm_host.specs.Disk.{Disk, Only, Same}
use Rattle.dm_host.specs.Works.{Works, File, Follows}
use Rattle.dm_host.proofs.Moments.{weaker, fewer_after, still_told}
use Rattle.dm_journal.specs.Grammar.{inner, frames, AtRest, Pends, BeforeOrAfter}
use Rattle.dm_journal.specs.State.{At, place_behind, with_landed, Keeps, Doubts, settled_at, doubtful_at}
use Rattle.dm_journal.proofs.Frames.{all_push, frames_push, length-frames_push}
use Rattle.dm_journal.proofs.Tearing.{pends_either}

-- each crash leaves the payloads before or with the one in doubt
pub doubts_either : (j : At) (ps : List (List ℕ)) (payload : List ℕ) (d0 d1 : Disk) → Doubts d0 j ps payload → Works (File j.file) d0 d1 (Follows Same j.file d0)
    → Works (File j.file) d0 d1 (λ x. BeforeOrAfter ps payload (x j.file))
doubts_either j ps payload d0 d1 k w =
    weaker (File j.file) d0 d1 (Follows Same j.file d0) (λ x. BeforeOrAfter ps payload (x j.file)) w
    (λ x follows. pends_either ps payload (x j.file) k.fits k.payload_fits (subst (λ (l : List ℕ). Pends ps payload l) (sym follows.2) (k.left follows.0 follows.1)))

module _ (f p n : ℕ) (ps : List (List ℕ)) (payload : List ℕ) (d0 d1 : Disk) (k : Doubts d0 (doubtful_at f p n) ps payload)
    (w : Works (File f) d0 d1 (Follows Same f d0)) (same : d1.seen f ≡ d0.seen f) where
  -- nothing was found out
  pub doubts_still : Doubts d1 (doubtful_at f p n) ps payload
  doubts_still = record {
    told = still_told (File f) d0 d1 _ w f k.told;
    doubt = k.doubt;
    place = k.place;
    fits = k.fits;
    payload_fits = k.payload_fits;
    seen = subst (λ (l : List ℕ). Pends ps payload l) (sym same) k.seen;
    left = λ c left. k.left c (fewer_after f d0 d1 w c left);
  }

  gate_read : get_or (d0.seen f) p 0 ≡ k.seen.gate
  gate_read = ap (λ (l : List ℕ). get_or l p 0) k.seen.is ∙ get_or_at (frames ps) k.seen.gate k.seen.rest 0 p (sym k.place)

  -- the gate is open: the frame behind it is whole
  landed_rest : get_or (d0.seen f) p 0 ≡ 1 → AtRest (ps ++ payload ∷ []) (d0.seen f)
  landed_rest is_open =
      let opened : k.seen.gate ≡ 1 = sym gate_read ∙ is_open in
      let whole : (junk : List ℕ) × (k.seen.rest ≡ inner payload ++ 0 ∷ junk) = k.seen.whole opened in
      record {
        gate = 0;
        junk = whole.0;
        closed = λ e. absurd (omega (arith, e));
        is = k.seen.is ∙ (λ i. frames ps ++ opened i ∷ whole.1 i) ∙ frames_push ps payload (0 ∷ whole.0);
      }

  -- and its end lies within the greatest length of a file
  pub landed_within : get_or (d0.seen f) p 0 ≡ 1 → length (d0.seen f) ≤ 2 ^ 62 → p + (n + 6) ≤ 2 ^ 62
  landed_within is_open bounded =
      let rest = landed_rest is_open in
      let size : n ≡ length payload = Prim.search rules in
      omega (arith, k.place, size, length-frames_push ps payload, ap (λ (l : List ℕ). length l) rest.is, length-append (frames (ps ++ payload ∷ [])) (rest.gate ∷ rest.junk), bounded)

  module _ (only : Only (d1.seen f) (d1.may_leave f)) where
    pub landed_keeps : get_or (d0.seen f) p 0 ≡ 1 → Keeps d1 (settled_at f (p + (5 + n))) (ps ++ payload ∷ [])
    landed_keeps is_open =
        let rest : AtRest (ps ++ payload ∷ []) (d1.seen f) = subst (λ (l : List ℕ). AtRest (ps ++ payload ∷ []) l) (sym same) (landed_rest is_open) in
        let size : n ≡ length payload = Prim.search rules in
        record {
          told = still_told (File f) d0 d1 _ w f k.told;
          settled = refl;
          place = omega (arith, k.place, size, length-frames_push ps payload);
          fits = all_push ps payload k.fits k.payload_fits;
          seen = rest;
          left = λ c left. subst (λ (l : List ℕ). AtRest (ps ++ payload ∷ []) l) (sym (only c left)) rest;
        }

    pub landed_at : (landed : Bool) → landed ≡ true → get_or (d0.seen f) p 0 ≡ 1 → Keeps d1 (settled_at f (place_behind landed p n)) (with_landed landed ps payload)
    landed_at landed is is_open =
        subst (λ (b : Bool). Keeps d1 (settled_at f (place_behind b p n)) (with_landed b ps payload)) (sym is) (landed_keeps is_open)
