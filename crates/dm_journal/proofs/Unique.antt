-- A file stands for one list of payloads, or is damaged.
use Rattle.std.proofs.Common.{◌≡◌, inl, inr, ℕ, ◌≤◌, List, Option, Some, None, [], ◌∷◌, ◌++◌, length, take, drop, refl, sym, ◌∙◌, ap, subst, arith, length-append}
use Rattle.std.proofs.lemmas.List.{append_assoc, append_cancel_left, take_at, drop_at}
use Rattle.std.specs.Borrow.{Bor}
use Rattle.std.specs.List.{AllByRecursion}
use Rattle.dm_host.specs.Disk.{Disk}
use Rattle.dm_journal.specs.Grammar.{Fits, inner, frame, frames, AtRest, StandsFor}
use Rattle.dm_journal.specs.Load.{LoadAt, IsDamage, Finds, Reopens, opened}
use Rattle.dm_journal.proofs.Frames.{frames_push}
use Rattle.dm_journal.proofs.Opening.{front_of}
use Rattle.dm_journal.proofs.Measuring.{same_number}

-- equal files begin with equal payloads, if both begin with a frame
same_first : (p q x y : List ℕ) → Fits p → Fits q → 1 ∷ (inner p ++ x) ≡ 1 ∷ (inner q ++ y) → (p ≡ q) × (x ≡ y)
same_first p q x y fp fq e =
    let size : length p ≡ length q = same_number (length p) (length q) (omega (arith, fp)) (omega (arith, fq)) (ap (λ (l : List ℕ). take 4 (drop 1 l)) e) in
    let rest : p ++ x ≡ q ++ y = ap (λ (l : List ℕ). drop 5 l) e in (
      sym (take_at p x (length p) refl) ∙ ap (λ (l : List ℕ). take (length p) l) rest ∙ take_at q y (length p) (sym size),
      sym (drop_at p x (length p) refl) ∙ ap (λ (l : List ℕ). drop (length p) l) rest ∙ drop_at q y (length p) (sym size),
    )

same_frames : (ps qs : List (List ℕ)) (g h : ℕ) (x y : List ℕ) → (g ≡ 1 → ⊥) → (h ≡ 1 → ⊥) → AllByRecursion Fits ps → AllByRecursion Fits qs
    → frames ps ++ g ∷ x ≡ frames qs ++ h ∷ y → ps ≡ qs
same_frames [] [] g h x y shut shut' fp fq e = refl
same_frames [] (q ∷ qs) g h x y shut shut' fp fq e = absurd (shut (cc (e)))
same_frames (p ∷ ps) [] g h x y shut shut' fp fq e = absurd (shut' (cc (e)))
same_frames (p ∷ ps) (q ∷ qs) g h x y shut shut' fp fq e =
    let parts : (p ≡ q) × (frames ps ++ g ∷ x ≡ frames qs ++ h ∷ y) =
    same_first p q (frames ps ++ g ∷ x) (frames qs ++ h ∷ y) fp.0 fq.0 (sym (append_assoc (frame p) (frames ps) (g ∷ x)) ∙ e ∙ append_assoc (frame q) (frames qs) (h ∷ y)) in
    let rest : ps ≡ qs = same_frames ps qs g h x y shut shut' fp.1 fq.1 parts.1 in
    λ i. parts.0 i ∷ rest i

pub rests_once : (ps qs : List (List ℕ)) (file : List ℕ) → AllByRecursion Fits ps → AllByRecursion Fits qs → AtRest ps file → AtRest qs file → ps ≡ qs
rests_once ps qs file fp fq r s = same_frames ps qs r.gate s.gate r.junk s.junk r.closed s.closed fp fq (sym r.is ∙ s.is)

short_rest : (ps : List (List ℕ)) (file : List ℕ) → AtRest ps file → length file ≤ 1 → ps ≡ []
short_rest [] file r short = refl
short_rest (p ∷ ps) file r short =
    absurd (omega (arith, short, ap (λ (l : List ℕ). length l) r.is, length-append (frames (p ∷ ps)) (r.gate ∷ r.junk), length-append (frame p) (frames ps)))

pub one_meaning : (ps qs : List (List ℕ)) (file : List ℕ) → StandsFor ps file → StandsFor qs file → ps ≡ qs
one_meaning ps qs file (fp, inl short) (fq, inl short') = short.1 ∙ sym short'.1
one_meaning ps qs file (fp, inl short) (fq, inr s) = short.1 ∙ sym (short_rest qs file s short.0)
one_meaning ps qs file (fp, inr r) (fq, inl short) = short_rest ps file r short.0 ∙ sym short.1
one_meaning ps qs file (fp, inr r) (fq, inr s) = rests_once ps qs file fp fq r s

-- what is at rest isn't damaged
rest_whole : (ps : List (List ℕ)) (file : List ℕ) → AtRest ps file → IsDamage ps file → ⊥
rest_whole ps file r damage =
    let heads : r.gate ∷ r.junk ≡ 1 ∷ damage.rest = append_cancel_left (frames ps) (r.gate ∷ r.junk) (1 ∷ damage.rest) (sym r.is ∙ damage.is) in
    r.closed (cc (heads))

-- nor is what has one frame more
frame_whole : (ps : List (List ℕ)) (payload : List ℕ) (gate : ℕ) (rest file : List ℕ) → Fits payload → file ≡ frames (ps ++ payload ∷ []) ++ gate ∷ rest → IsDamage ps file → ⊥
frame_whole ps payload gate rest file fits is damage =
    let tails : 1 ∷ damage.rest ≡ 1 ∷ (inner payload ++ gate ∷ rest) =
    append_cancel_left (frames ps) (1 ∷ damage.rest) (1 ∷ (inner payload ++ gate ∷ rest)) (sym damage.is ∙ is ∙ sym (frames_push ps payload (gate ∷ rest))) in
    damage.none payload gate rest fits (ap (λ (l : List ℕ). drop 1 l) tails)

-- where a load goes on or ends there is no damage
pub found_whole : (d : Disk) (j : LoadAt) (ps : List (List ℕ)) (found : Option (Bor (List ℕ))) → Finds d j ps found → IsDamage ps (d.seen j.file) → ⊥
found_whole d j ps None k damage = rest_whole ps (d.seen j.file) k.seen damage
found_whole d j ps (Some payload) k damage = frame_whole ps payload.now k.1.gate k.1.rest (d.seen j.file) k.0 k.1.is damage

no_damage : (ps qs : List (List ℕ)) (g : ℕ) (x rest : List ℕ) → (g ≡ 1 → ⊥) → AllByRecursion Fits ps → AllByRecursion Fits qs → frames ps ++ g ∷ x ≡ frames qs ++ 1 ∷ rest
    → ((payload : List ℕ) (gate : ℕ) (junk : List ℕ) → Fits payload → rest ≡ inner payload ++ gate ∷ junk → ⊥) → ⊥
no_damage [] [] g x rest shut fp fq e none = shut (cc (e))
no_damage [] (q ∷ qs) g x rest shut fp fq e none = shut (cc (e))
no_damage (p ∷ ps) [] g x rest shut fp fq e none =
    let behind = front_of (frames ps ++ g ∷ x) (omega (arith, length-append (frames ps) (g ∷ x))) in
    let tails : inner p ++ (frames ps ++ g ∷ x) ≡ rest = ap (λ (l : List ℕ). drop 1 l) (sym (append_assoc (frame p) (frames ps) (g ∷ x)) ∙ e) in
    none p behind.gate behind.rest fp.0 (sym tails ∙ ap (λ (l : List ℕ). inner p ++ l) behind.is)
no_damage (p ∷ ps) (q ∷ qs) g x rest shut fp fq e none =
    let parts : (p ≡ q) × (frames ps ++ g ∷ x ≡ frames qs ++ 1 ∷ rest) =
    same_first p q (frames ps ++ g ∷ x) (frames qs ++ 1 ∷ rest) fp.0 fq.0 (sym (append_assoc (frame p) (frames ps) (g ∷ x)) ∙ e ∙ append_assoc (frame q) (frames qs) (1 ∷ rest)) in
    no_damage ps qs g x rest shut fp.1 fq.1 parts.1 none

-- a file at rest is damaged behind none of its payloads
pub rests_undamaged : (ps qs : List (List ℕ)) (file : List ℕ) → AllByRecursion Fits ps → AllByRecursion Fits qs → AtRest ps file → IsDamage qs file → ⊥
rests_undamaged ps qs file fp fq r damage = no_damage ps qs r.gate r.junk damage.rest r.closed fp fq (sym r.is ∙ damage.is) damage.none

closed_gate : AtRest [] (0 ∷ [])
closed_gate = record { gate = 0; junk = []; closed = λ e. absurd (omega (arith, e)); is = refl }

-- a file that stands for payloads is at rest once it is opened
pub opened_rests : (ps : List (List ℕ)) (file : List ℕ) → StandsFor ps file → AtRest ps (opened file)
opened_rests ps [] (fits, inl short) = subst (λ (l : List (List ℕ)). AtRest l (0 ∷ [])) (sym short.1) closed_gate
opened_rests ps [] (fits, inr r) = subst (λ (l : List (List ℕ)). AtRest l (0 ∷ [])) (sym (short_rest ps [] r (omega arith))) closed_gate
opened_rests ps (a ∷ []) (fits, inl short) = subst (λ (l : List (List ℕ)). AtRest l (0 ∷ [])) (sym short.1) closed_gate
opened_rests ps (a ∷ []) (fits, inr r) = subst (λ (l : List (List ℕ)). AtRest l (0 ∷ [])) (sym (short_rest ps (a ∷ []) r (omega arith))) closed_gate
opened_rests ps (a ∷ b ∷ rest) (fits, inl short) = absurd (omega (arith, short.0))
opened_rests ps (a ∷ b ∷ rest) (fits, inr r) = r

-- each crash while a file is opened leaves one that stands for the same
pub reopened_stands : (ps : List (List ℕ)) (old new : List ℕ) → Reopens old new → StandsFor ps old → StandsFor ps new
reopened_stands ps old new (inl same) stands = subst (λ (l : List ℕ). StandsFor ps l) (sym same) stands
reopened_stands ps old new (inr short) (fits, inl none) = (fits, inl (short.1, none.1))
reopened_stands ps old new (inr short) (fits, inr r) = (fits, inl (short.1, short_rest ps old r short.0))
