-- An append on the disk, in the disks before it, after the first write and sync, and after the second.
use Rattle.std.proofs.Common.{◌≡◌, inl, ℕ, ◌+◌, List, [], ◌∷◌, ◌++◌, length, refl, sym, ◌∙◌, ap, subst, arith}
use Rattle.std.specs.Prelude.{⊤}
use Rattle.dm_host.specs.Disk.{Disk, Image, Only, Same, Tells, Torn, Written}
use Rattle.dm_host.specs.Works.{Works, File, Follows}
use Rattle.dm_host.proofs.Moments.{weaker, and_then, still_told}
use Rattle.dm_journal.specs.Grammar.{Fits, inner, AtRest, Pends, BeforeOrAfter}
use Rattle.dm_journal.specs.State.{At, Keeps, Doubts, settled_at, doubtful_at}
use Rattle.dm_journal.proofs.Frames.{all_push, length-frames_push}
use Rattle.dm_journal.proofs.Tearing.{Staged, pends_either, behind_torn, behind_written, gate_torn, gate_written}

-- what a crash leaves of the file after a step on it
pub left_after : (step : List ℕ → List ℕ → Type 0) (f : ℕ) (a b : Disk) → Works (File f) a b (Follows step f a) → (c : List ℕ) → b.may_leave f c
    → (x : List ℕ) × a.may_leave f x × step x c
left_after step f a b w c left = w.now (λ g. c) (λ g is. subst (λ (h : ℕ). b.may_leave h c) (sym is) left)

-- a journal that keeps payloads isn't in doubt
pub resettled : (d : Disk) (j : At) (ps : List (List ℕ)) → Keeps d j ps → Keeps d (settled_at j.file j.place) ps
resettled d j ps k = record { told = k.told; settled = refl; place = k.place; fits = k.fits; seen = k.seen; left = k.left }

-- a disk on which nothing was done
pub nothing : (f : ℕ) (d : Disk) → Works (File f) d d (Follows Same f d)
nothing f d = record {
  told = refl;
  others = λ g not. record { seen = refl; fewer = λ c left. left; more = λ c left. left };
  now = λ x here. (x f, here f refl, refl);
  later = omega arith;
  moments = λ t x le left. inl left;
  keeps = λ t x le left. left;
}

-- only this file was worked on
pub alone : (f : ℕ) (a b : Disk) (P : Image → Type 0) → Works (File f) a b P → Works (File f) a b (λ x. ⊤)
alone f a b P w = weaker (File f) a b P (λ x. ⊤) w (λ x p. tt)

pub alone_both : (f : ℕ) (a b c : Disk) (P Q : Image → Type 0) → Works (File f) a b P → Works (File f) b c Q → Works (File f) a c (λ x. ⊤)
alone_both f a b c P Q first second = and_then (File f) a b c (λ x. ⊤) (alone f a b P first) (alone f b c Q second)

module _ (f p : ℕ) (bytes : List ℕ) (ps : List (List ℕ)) (payload : List ℕ) (fits : Fits payload) (d0 d1 : Disk) (k : Keeps d0 (settled_at f p) ps)
    (w1 : Works (File f) d0 d1 (Follows (Torn (p + 1) (length bytes)) f d0)) where
  first_moment : (x : List ℕ) (c : List ℕ) → d0.may_leave f c → Torn (p + 1) (length bytes) c x → Pends ps payload x
  first_moment x c left torn = behind_torn ps payload p k.place (length bytes) c x (k.left c left) torn

  pub first_works : Works (File f) d0 d1 (λ x. BeforeOrAfter ps payload (x f))
  first_works =
      weaker (File f) d0 d1 (Follows (Torn (p + 1) (length bytes)) f d0) (λ x. BeforeOrAfter ps payload (x f)) w1
      (λ x follows. pends_either ps payload (x f) k.fits fits (first_moment (x f) follows.0 follows.1 follows.2))

  pub first_doubts : (Tells d0 f → Torn (p + 1) (length bytes) (d0.seen f) (d1.seen f)) → Doubts d1 (doubtful_at f p (length payload)) ps payload
  first_doubts torn = record {
    told = still_told (File f) d0 d1 _ w1 f k.told;
    doubt = refl;
    place = k.place;
    fits = k.fits;
    payload_fits = fits;
    seen = behind_torn ps payload p k.place (length bytes) (d0.seen f) (d1.seen f) k.seen (torn k.told);
    left = λ c left. let from = left_after (Torn (p + 1) (length bytes)) f d0 d1 w1 c left in first_moment c from.0 from.1 from.2;
  }

  module _ (d2 : Disk) (is : bytes ≡ inner payload ++ 0 ∷ []) (written : Written (p + 1) bytes (d0.seen f) (d1.seen f)) (only : Only (d1.seen f) (d1.may_leave f))
      (w2 : Works (File f) d1 d2 (Follows (Torn p 1) f d1)) where
    staged : Staged ps payload (d1.seen f)
    staged = behind_written ps payload p k.place bytes (d0.seen f) (d1.seen f) is k.seen written

    second_moment : (x : List ℕ) (c : List ℕ) → d1.may_leave f c → Torn p 1 c x → Pends ps payload x
    second_moment x c left torn = gate_torn ps payload p k.place (d1.seen f) x staged (subst (λ (l : List ℕ). Torn p 1 l x) (only c left) torn)

    pub both_work : Works (File f) d0 d2 (λ x. BeforeOrAfter ps payload (x f))
    both_work =
        and_then (File f) d0 d1 d2 (λ x. BeforeOrAfter ps payload (x f)) first_works
        (weaker (File f) d1 d2 (Follows (Torn p 1) f d1) (λ x. BeforeOrAfter ps payload (x f)) w2
        (λ x follows. pends_either ps payload (x f) k.fits fits (second_moment (x f) follows.0 follows.1 follows.2)))

    told1 : Tells d1 f
    told1 = still_told (File f) d0 d1 _ w1 f k.told

    pub second_doubts : (Tells d1 f → Torn p 1 (d1.seen f) (d2.seen f)) → Doubts d2 (doubtful_at f p (length payload)) ps payload
    second_doubts torn = record {
      told = still_told (File f) d1 d2 _ w2 f told1;
      doubt = refl;
      place = k.place;
      fits = k.fits;
      payload_fits = fits;
      seen = gate_torn ps payload p k.place (d1.seen f) (d2.seen f) staged (torn told1);
      left = λ c left. let from = left_after (Torn p 1) f d1 d2 w2 c left in second_moment c from.0 from.1 from.2;
    }

    pub both_keep : (Tells d1 f → Written p (1 ∷ []) (d1.seen f) (d2.seen f)) → Only (d2.seen f) (d2.may_leave f)
        → Keeps d2 (settled_at f (p + (5 + length payload))) (ps ++ payload ∷ [])
    both_keep opened only2 =
        let rest : AtRest (ps ++ payload ∷ []) (d2.seen f) = gate_written ps payload p k.place (d1.seen f) (d2.seen f) staged (opened told1) in
        record {
          told = still_told (File f) d1 d2 _ w2 f told1;
          settled = refl;
          place = ap (λ (n : ℕ). n + (5 + length payload)) k.place ∙ sym (length-frames_push ps payload);
          fits = all_push ps payload k.fits fits;
          seen = rest;
          left = λ c left. subst (λ (l : List ℕ). AtRest (ps ++ payload ∷ []) l) (sym (only2 c left)) rest;
        }
