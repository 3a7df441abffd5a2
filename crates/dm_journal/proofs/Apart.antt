-- Journals on several files of one disk.
use Rattle.std.proofs.Common.{◌≡◌, inl, inr, ⊎_elim, ℕ, List, [], ◌∷◌, ◌++◌, sym, ◌∙◌, subst}
use Rattle.dm_host.specs.Disk.{Disk, Image}
use Rattle.dm_host.specs.Works.{Works, File, Every}
use Rattle.dm_host.proofs.Moments.{and_then, at_site, settled_still, still_told}
use Rattle.dm_journal.specs.Grammar.{StandsFor, AtRest, Pends, BeforeOrAfter}
use Rattle.dm_journal.specs.State.{At, Keeps, Doubts}
use Rattle.dm_journal.specs.Pair.{IsPrefix}

module _ (f : ℕ) (a b : Disk) (Q : Image → Type 0) (w : Works (File f) a b Q) (j : At) (apart : j.file ≡ f → ⊥) where
  -- a journal on another file keeps its payloads
  pub keeps_apart : (ps : List (List ℕ)) → Keeps a j ps → Keeps b j ps
  keeps_apart ps k = record {
    told = still_told (File f) a b Q w j.file k.told;
    settled = k.settled;
    place = k.place;
    fits = k.fits;
    seen = subst (λ (l : List ℕ). AtRest ps l) (sym (w.others j.file apart).seen) k.seen;
    left = settled_still f j.file apart a b Q (AtRest ps) w k.left;
  }

  -- and stays in doubt
  pub doubts_apart : (ps : List (List ℕ)) (payload : List ℕ) → Doubts a j ps payload → Doubts b j ps payload
  doubts_apart ps payload k = record {
    told = still_told (File f) a b Q w j.file k.told;
    doubt = k.doubt;
    place = k.place;
    fits = k.fits;
    payload_fits = k.payload_fits;
    seen = subst (λ (l : List ℕ). Pends ps payload l) (sym (w.others j.file apart).seen) k.seen;
    left = settled_still f j.file apart a b Q (Pends ps payload) w k.left;
  }

-- each crash leaves a file that stands for the payloads that are kept
pub kept_stands : (d : Disk) (j : At) (ps : List (List ℕ)) → Keeps d j ps → (c : List ℕ) → d.may_leave j.file c → StandsFor ps c
kept_stands d j ps k c left = (k.fits, inr (k.left c left))

module _ (d0 d1 d2 : Disk) (j k : At) (apart : k.file ≡ j.file → ⊥) (ps qs : List (List ℕ)) (p q : List ℕ) where
  abbrev Prefix : Image → Type 0
  Prefix x = IsPrefix ps p (x j.file) qs q (x k.file)

  pub first_of_two : Keeps d0 k qs → Works (File j.file) d0 d1 (λ x. BeforeOrAfter ps p (x j.file)) → Works Every d0 d1 (λ x. IsPrefix ps p (x j.file) qs q (x k.file))
  first_of_two keeps w = at_site (File j.file) d0 d1 (λ x. BeforeOrAfter ps p (x j.file)) Prefix w (λ x either elsewhere.
      let other : StandsFor qs (x k.file) = kept_stands d0 k qs keeps (x k.file) (elsewhere k.file apart) in
      ⊎_elim (λ before. inl (before, other)) (λ after. inr (inl (after, other))) either)

  pub two_in_turn : Keeps d0 k qs → Works (File j.file) d0 d1 (λ x. BeforeOrAfter ps p (x j.file)) → (j1 : At) → j1.file ≡ j.file → Keeps d1 j1 (ps ++ p ∷ [])
      → Works (File k.file) d1 d2 (λ x. BeforeOrAfter qs q (x k.file)) → Works Every d0 d2 (λ x. IsPrefix ps p (x j.file) qs q (x k.file))
  two_in_turn keeps w1 j1 same kept w2 = and_then Every d0 d1 d2 Prefix (first_of_two keeps w1)
      (at_site (File k.file) d1 d2 (λ x. BeforeOrAfter qs q (x k.file)) Prefix w2 (λ x either elsewhere.
      let there : d1.may_leave j1.file (x j1.file) = elsewhere j1.file (λ is. apart (sym (sym same ∙ is))) in
      let other : StandsFor (ps ++ p ∷ []) (x j.file) = subst (λ (f : ℕ). StandsFor (ps ++ p ∷ []) (x f)) same (kept_stands d1 j1 (ps ++ p ∷ []) kept (x j1.file) there) in
      ⊎_elim (λ before. inr (inl (other, before))) (λ after. inr (inr (other, after))) either))
