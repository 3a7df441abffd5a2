-- Two legal pasts of which one is a part of the other are alike at each name whose entries they both have.
use Rattle.std.proofs.Common.{◌≡◌, ℕ, ◌+◌, ◌<◌, ◌≤◌, ◌⊎◌, Bool, true, List, [], ◌∷◌, ◌++◌, refl, sym, ap, subst, inl, inr, ⊎_elim, append-nil, arith}
use Rattle.dm_model.specs.declared.entry.HistoryEntry.{HistoryEntry}
use Rattle.dm_model.specs.declared.entry.Name.{Name}
use Rattle.dm_model.specs.Names.{home_of, is_about, made_by, names_of}
use Rattle.dm_invariant.specs.Opened.{Opened}
use Rattle.dm_spine.specs.Past.{In, IsPart, Legal, Rises, chain}
use Rattle.dm_spine.proofs.Lists.{filter_in, in_append, in_filter, in_left, in_right, rises_after, rises_low}
use Rattle.dm_spine.proofs.Uses.{fits_run}
use Rattle.dm_history.specs.Alike.{Alike}
use Rattle.dm_history.specs.History.{Begun, Needed, Rooted, history, joint_after, state_seen}
use Rattle.dm_history.proofs.EventsDecided.{event_decided, event_made}
use Rattle.dm_history.proofs.EventsTold.{event_stays}
use Rattle.dm_history.proofs.GroupsStay.{groups_seen}
use Rattle.dm_history.proofs.NamesTold.{fixed_lasts, home_told, made_elsewhere}
use Rattle.dm_history.proofs.PartsStay.{alike_self, alike_then}
use Rattle.dm_history.proofs.PastsRun.{joined_on, state-last}

-- xs has each entry of ys about the name
abbrev pub HasAll : Name → List (ℕ × HistoryEntry) → List (ℕ × HistoryEntry) → Type 0
HasAll z xs ys = (b : ℕ × HistoryEntry) → In b ys → is_about b.1 z ≡ true → In b xs

-- the states seen are alike at each such name
abbrev pub Agrees : Begun → List (ℕ × HistoryEntry) → List (ℕ × HistoryEntry) → Type 0
Agrees begun xs ys = (z : Name) → Rooted begun z xs → HasAll z xs ys → Alike z (state_seen begun.opened xs) (state_seen begun.opened ys)

-- behind an entry of a rising list all numbers are greater
rises_behind : (low : ℕ) (xs ys : List (ℕ × HistoryEntry)) (z a : ℕ × HistoryEntry) → Rises low (xs ++ z ∷ ys) → In a ys → z.0 < a.0
rises_behind low [] ys z a r h = let k : z.0 + 1 ≤ a.0 = rises_low (z.0 + 1) ys r.1 a h in omega arith
rises_behind low (x ∷ xs) ys z a r h = rises_behind (x.0 + 1) xs ys z a r.1 h

differ : {P : Type 0} (a b : ℕ × HistoryEntry) → a ≡ b → a.0 < b.0 → P
differ a b is less = let n : a.0 ≡ b.0 = ap (λ (t : ℕ × HistoryEntry). t.0) is in absurd (omega arith)

-- how far two pasts were gone through
pub record Walk (begun : Begun) (low : ℕ) (dx rx dy ry : List (ℕ × HistoryEntry)) : Type 0 where
  pub part : IsPart history (dx ++ rx) (dy ++ ry)
  pub legal : Legal history begun (dx ++ rx)
  pub more : Legal history begun (dy ++ ry)
  pub under : (b : ℕ × HistoryEntry) → In b dy → b.0 < low
  pub rise : Rises low ry
  pub seen : (b : ℕ × HistoryEntry) → In b dx → In b dy
  pub left : (b : ℕ × HistoryEntry) → In b rx → In b ry

module _ (begun : Begun) (opened : Opened begun.opened) where
  -- what the entry needed of what was seen before it
  pub needed : (done rest : List (ℕ × HistoryEntry)) (a : ℕ × HistoryEntry) → Rises 0 (done ++ a ∷ rest) → Legal history begun (done ++ a ∷ rest) → Needed begun done a.1
  needed done rest a rises legal = (fits_run history begun a.0 done rest a.1 rises legal).needed opened

  -- an entry that only the larger past has
  pub apart : (low : ℕ) (dx rx dy ry : List (ℕ × HistoryEntry)) (a : ℕ × HistoryEntry) → Walk begun low dx rx dy (a ∷ ry) → Agrees begun dx dy → Agrees begun dx (dy ++ a ∷ [])
  apart low dx rx dy ry a walk agrees z rooted all =
      let j = state_seen begun.opened dy in
      let need = needed dy ry a walk.part.ordered walk.more in
      let before : HasAll z dx dy = λ b h about. all b (in_left b dy (a ∷ []) h) about in
      let mine : is_about a.1 z ≡ true → ⊥ = λ about.
      let old : a.0 < low = walk.under a (walk.seen a (all a (in_right a dy (a ∷ []) (inl refl)) about)) in
      let new : low ≤ a.0 = walk.rise.0 in omega arith in
      let made : In z (made_by a.1.event a.1.answer) → ⊥ = λ h.
      ⊎_elim (λ fixed. made_elsewhere a.1.event a.1.answer z h (fixed_lasts begun.opened begun.workers z fixed))
      (λ by. need.fresh z h (by.0, walk.seen by.0 by.1, by.2)) rooted in
      let away : In z (home_of a.1.event ∷ names_of j a.1.worker a.1.event ++ made_by a.1.event a.1.answer) → ⊥ = λ h.
      ⊎_elim (λ home. mine (subst (λ y. is_about a.1 y ≡ true) (sym home) (home_told a.1)))
      (λ t. ⊎_elim (λ named. mine (need.taken.named z named)) made (in_append z (names_of j a.1.worker a.1.event) (made_by a.1.event a.1.answer) t)) h in
      let stays = event_stays j (joint_after j a.1) a.1.worker a.1.event a.1.answer z need.taken.goes need.taken.taken away in
      subst (λ k. Alike z (state_seen begun.opened dx) k) (sym (state-last begun.opened dy a))
      (alike_then z (state_seen begun.opened dx) j (joint_after j a.1) (agrees z rooted before) stays)

  -- what is seen before an entry in the larger past, and is in the smaller, is before it there
  seen_before : (low : ℕ) (dx rx dy ry : List (ℕ × HistoryEntry)) (a b : ℕ × HistoryEntry) → Walk begun low dx (a ∷ rx) dy (a ∷ ry) → In b dy → In b (dx ++ a ∷ rx) → In b dx
  seen_before low dx rx dy ry a b walk h t =
      ⊎_elim (λ k. k)
      (λ k.
      let old : b.0 < low = walk.under b h in
      let new : low ≤ a.0 = walk.rise.0 in
      let late : a.0 ≤ b.0 = rises_after 0 dx rx a walk.part.rises b k in absurd (omega arith))
      (in_append b dx (a ∷ rx) t)

  -- the names of an entry that both have are alike before it
  own_alike : (low : ℕ) (dx rx dy ry : List (ℕ × HistoryEntry)) (a : ℕ × HistoryEntry) → Walk begun low dx (a ∷ rx) dy (a ∷ ry) → Agrees begun dx dy
      → (y : Name) → is_about a.1 y ≡ true → Alike y (state_seen begun.opened dx) (state_seen begun.opened dy)
  own_alike low dx rx dy ry a walk agrees y about =
      let need = needed dx rx a walk.part.rises walk.legal in
      agrees y (need.rooted y about)
      (λ b h k.
      let old : b.0 < low = walk.under b h in
      let new : low ≤ a.0 = walk.rise.0 in
      let less : b.0 < a.0 = omega arith in
      seen_before low dx rx dy ry a b walk h (walk.part.chained y a b (in_right a dx (a ∷ rx) (inl refl)) (in_left b dy (a ∷ ry) h) less about k))

  pub told_alike : (low : ℕ) (dx rx dy ry : List (ℕ × HistoryEntry)) (a : ℕ × HistoryEntry) → Walk begun low dx (a ∷ rx) dy (a ∷ ry) → Agrees begun dx dy
      → (y : Name) → In y (home_of a.1.event ∷ names_of (state_seen begun.opened dx) a.1.worker a.1.event)
      → Alike y (state_seen begun.opened dx) (state_seen begun.opened dy)
  told_alike low dx rx dy ry a walk agrees y (inl home) =
      own_alike low dx rx dy ry a walk agrees y (subst (λ x. is_about a.1 x ≡ true) (sym home) (home_told a.1))
  told_alike low dx rx dy ry a walk agrees y (inr named) =
      own_alike low dx rx dy ry a walk agrees y ((needed dx rx a walk.part.rises walk.legal).taken.named y named)

  had_all : (low : ℕ) (dx rx dy ry : List (ℕ × HistoryEntry)) (a : ℕ × HistoryEntry) (z : Name) → Walk begun low dx (a ∷ rx) dy (a ∷ ry)
      → HasAll z (dx ++ a ∷ []) (dy ++ a ∷ []) → HasAll z dx dy
  had_all low dx rx dy ry a z walk all b h about =
      let old : b.0 < low = walk.under b h in
      let new : low ≤ a.0 = walk.rise.0 in
      let less : b.0 < a.0 = omega arith in
      ⊎_elim (λ k. k) (λ k. ⊎_elim (λ same. differ b a same less) (λ r. absurd r) k) (in_append b dx (a ∷ []) (all b (in_left b dy (a ∷ []) h) about))

  made_more : (dx : List (ℕ × HistoryEntry)) (a b : ℕ × HistoryEntry) (z : Name) → In b (dx ++ a ∷ []) → In z (made_by b.1.event b.1.answer)
      → Rooted begun z dx ⊎ In z (made_by a.1.event a.1.answer)
  made_more dx a b z h made =
      let P : ℕ × HistoryEntry → Type 0 = λ t. In z (made_by t.1.event t.1.answer) in
      let split : In b dx ⊎ In b (a ∷ []) = in_append b dx (a ∷ []) h in
      let last : In b (a ∷ []) → In z (made_by a.1.event a.1.answer) = λ k. ⊎_elim (λ same. subst P same made) (λ r. absurd r) k in
      let root : In b dx → Rooted begun z dx = λ old. inr (b, old, made) in
      ⊎_elim (λ old. inl (root old)) (λ new. inr (last new)) split

  rooted_more : (dx : List (ℕ × HistoryEntry)) (a : ℕ × HistoryEntry) (z : Name) → Rooted begun z (dx ++ a ∷ []) → Rooted begun z dx ⊎ In z (made_by a.1.event a.1.answer)
  rooted_more dx a z (inl fixed) = inl (inl fixed)
  rooted_more dx a z (inr by) = made_more dx a by.0 z by.1 by.2

  -- what the entry leaves of a name that was there, and what it makes
  both_after : (low : ℕ) (dx rx dy ry : List (ℕ × HistoryEntry)) (a : ℕ × HistoryEntry) (z : Name) → Walk begun low dx (a ∷ rx) dy (a ∷ ry) → Agrees begun dx dy
      → HasAll z dx dy → Rooted begun z dx ⊎ In z (made_by a.1.event a.1.answer)
      → Alike z (joint_after (state_seen begun.opened dx) a.1) (joint_after (state_seen begun.opened dy) a.1)
  both_after low dx rx dy ry a z walk agrees before (inl root) =
      let i = state_seen begun.opened dx in
      let j = state_seen begun.opened dy in
      let need = needed dx rx a walk.part.rises walk.legal in
      let more = needed dy ry a walk.part.ordered walk.more in
      (event_decided i j (joint_after i a.1) (joint_after j a.1) a.1.worker a.1.event a.1.answer a.1.answer z (groups_seen begun.opened dx dy)
      need.taken.goes need.taken.taken more.taken.taken (told_alike low dx rx dy ry a walk agrees) (agrees z root before)).1
  both_after low dx rx dy ry a z walk agrees before (inr made) =
      let i = state_seen begun.opened dx in
      let j = state_seen begun.opened dy in
      let need = needed dx rx a walk.part.rises walk.legal in
      let more = needed dy ry a walk.part.ordered walk.more in
      event_made i j (joint_after i a.1) (joint_after j a.1) a.1.worker a.1.event a.1.answer a.1.answer z (groups_seen begun.opened dx dy)
      need.taken.taken more.taken.taken (told_alike low dx rx dy ry a walk agrees) made

  -- an entry that both have
  pub both : (low : ℕ) (dx rx dy ry : List (ℕ × HistoryEntry)) (a : ℕ × HistoryEntry) → Walk begun low dx (a ∷ rx) dy (a ∷ ry) → Agrees begun dx dy
      → Agrees begun (dx ++ a ∷ []) (dy ++ a ∷ [])
  both low dx rx dy ry a walk agrees z rooted all =
      let after = both_after low dx rx dy ry a z walk agrees (had_all low dx rx dy ry a z walk all) (rooted_more dx a z rooted) in
      subst (λ k. Alike z k (state_seen begun.opened (dy ++ a ∷ []))) (sym (state-last begun.opened dx a))
      (subst (λ k. Alike z (joint_after (state_seen begun.opened dx) a.1) k) (sym (state-last begun.opened dy a)) after)

  -- after one entry more
  under_more : (low : ℕ) (dy : List (ℕ × HistoryEntry)) (a : ℕ × HistoryEntry) → low ≤ a.0 → ((b : ℕ × HistoryEntry) → In b dy → b.0 < low)
      → (b : ℕ × HistoryEntry) → In b (dy ++ a ∷ []) → b.0 < a.0 + 1
  under_more low dy a least under b h =
      ⊎_elim (λ old. let less : b.0 < low = under b old in omega arith)
      (λ new. ⊎_elim (λ same. let n : b.0 ≡ a.0 = ap (λ (t : ℕ × HistoryEntry). t.0) same in omega arith) (λ r. absurd r) new)
      (in_append b dy (a ∷ []) h)

  walk_apart : (low : ℕ) (dx rx dy ry : List (ℕ × HistoryEntry)) (a : ℕ × HistoryEntry) → Walk begun low dx rx dy (a ∷ ry) → ((b : ℕ × HistoryEntry) → In b rx → In b ry)
      → Walk begun (a.0 + 1) dx rx (dy ++ a ∷ []) ry
  walk_apart low dx rx dy ry a walk left =
      let same = sym (joined_on dy ry a) in
      let P : List (ℕ × HistoryEntry) → Type 0 = λ l. IsPart history (dx ++ rx) l in
      let Q : List (ℕ × HistoryEntry) → Type 0 = λ l. Legal history begun l in
      record {
        part = subst P same walk.part;
        legal = walk.legal;
        more = subst Q same walk.more;
        under = under_more low dy a walk.rise.0 walk.under;
        rise = walk.rise.1;
        seen = λ b h. in_left b dy (a ∷ []) (walk.seen b h);
        left = left;
      }

  walk_both : (low : ℕ) (dx rx dy ry : List (ℕ × HistoryEntry)) (a : ℕ × HistoryEntry) → Walk begun low dx (a ∷ rx) dy (a ∷ ry)
      → Walk begun (a.0 + 1) (dx ++ a ∷ []) rx (dy ++ a ∷ []) ry
  walk_both low dx rx dy ry a walk =
      let same = sym (joined_on dy ry a) in
      let mine = sym (joined_on dx rx a) in
      let P : List (ℕ × HistoryEntry) → Type 0 = λ l. IsPart history (dx ++ a ∷ rx) l in
      let R : List (ℕ × HistoryEntry) → Type 0 = λ l. IsPart history l ((dy ++ a ∷ []) ++ ry) in
      let Q : List (ℕ × HistoryEntry) → Type 0 = λ l. Legal history begun l in
      record {
        part = subst R mine (subst P same walk.part);
        legal = subst Q mine walk.legal;
        more = subst Q same walk.more;
        under = under_more low dy a walk.rise.0 walk.under;
        rise = walk.rise.1;
        seen = λ b h. ⊎_elim (λ old. in_left b dy (a ∷ []) (walk.seen b old)) (λ new. in_right b dy (a ∷ []) new) (in_append b dx (a ∷ []) h);
        left = λ b h. ⊎_elim (λ is. differ a b (sym is) (rises_behind 0 dx rx a b walk.part.rises h)) (λ k. k) (walk.left b (inr h));
      }

  -- what an entry that only the larger past has keeps, and what one that both have keeps, holds of both pasts whole
  pub go_on : (P : List (ℕ × HistoryEntry) → List (ℕ × HistoryEntry) → Type 0)
      → ((low : ℕ) (dx rx dy ry : List (ℕ × HistoryEntry)) (a : ℕ × HistoryEntry) → Walk begun low dx rx dy (a ∷ ry) → P dx dy → P dx (dy ++ a ∷ []))
      → ((low : ℕ) (dx rx dy ry : List (ℕ × HistoryEntry)) (a : ℕ × HistoryEntry) → Walk begun low dx (a ∷ rx) dy (a ∷ ry) → P dx dy → P (dx ++ a ∷ []) (dy ++ a ∷ []))
      → (low : ℕ) (dx rx dy ry : List (ℕ × HistoryEntry)) → Walk begun low dx rx dy ry → P dx dy → P (dx ++ rx) (dy ++ ry)
  go_on P lone pair low dx [] dy [] walk holds = subst (λ l. P l (dy ++ [])) (sym (append-nil dx)) (subst (λ l. P dx l) (sym (append-nil dy)) holds)
  go_on P lone pair low dx (c ∷ rx) dy [] walk holds = absurd (walk.left c (inl refl))
  go_on P lone pair low dx [] dy (a ∷ ry) walk holds =
      subst (λ l. P (dx ++ []) l) (joined_on dy ry a)
      (go_on P lone pair (a.0 + 1) dx [] (dy ++ a ∷ []) ry (walk_apart low dx [] dy ry a walk (λ b h. absurd h)) (lone low dx [] dy ry a walk holds))
  go_on P lone pair low dx (c ∷ rx) dy (a ∷ ry) walk holds =
      ⊎_elim
      (λ same.
      let W : ℕ × HistoryEntry → Type 0 = λ t. Walk begun low dx (t ∷ rx) dy (a ∷ ry) in
      let walk' = subst W same walk in
      let end = go_on P lone pair (a.0 + 1) (dx ++ a ∷ []) rx (dy ++ a ∷ []) ry (walk_both low dx rx dy ry a walk') (pair low dx rx dy ry a walk' holds) in
      let here = subst (λ l. P l (dy ++ a ∷ ry)) (joined_on dx rx a)
      (subst (λ l. P ((dx ++ a ∷ []) ++ rx) l) (joined_on dy ry a) end) in
      subst (λ t. P (dx ++ t ∷ rx) (dy ++ a ∷ ry)) (sym same) here)
      (λ later.
      let less : a.0 + 1 ≤ c.0 = rises_low (a.0 + 1) ry walk.rise.1 c later in
      let left : (b : ℕ × HistoryEntry) → In b (c ∷ rx) → In b ry = λ b h.
      ⊎_elim
      (λ is. let late : c.0 ≤ b.0 = rises_after 0 dx rx c walk.part.rises b h in let more : a.0 < b.0 = omega arith in differ a b (sym is) more)
      (λ k. k) (walk.left b h) in
      subst (λ l. P (dx ++ c ∷ rx) l) (joined_on dy ry a)
      (go_on P lone pair (a.0 + 1) dx (c ∷ rx) (dy ++ a ∷ []) ry (walk_apart low dx (c ∷ rx) dy ry a walk left)
      (lone low dx (c ∷ rx) dy ry a walk holds)))
      (walk.left c (inl refl))

  -- where two pasts begin
  pub walk_first : (xs ys : List (ℕ × HistoryEntry)) → IsPart history xs ys → Legal history begun xs → Legal history begun ys → Walk begun 0 [] xs [] ys
  walk_first xs ys part legal more = record {
    part = part;
    legal = legal;
    more = more;
    under = λ b h. absurd h;
    rise = part.ordered;
    seen = λ b h. absurd h;
    left = part.within;
  }

  pub pasts_alike : (xs ys : List (ℕ × HistoryEntry)) → IsPart history xs ys → Legal history begun xs → Legal history begun ys → Agrees begun xs ys
  pasts_alike xs ys part legal more =
      go_on (Agrees begun) apart both 0 [] xs [] ys (walk_first xs ys part legal more) (λ z rooted all. alike_self z begun.opened)

  -- where the chain of a name is the same, each past has all entries about it
  pub chains_alike : (xs ys : List (ℕ × HistoryEntry)) (x : Name) → IsPart history xs ys → Legal history begun xs → Legal history begun ys
      → Rooted begun x xs → chain history x xs ≡ chain history x ys → Alike x (state_seen begun.opened xs) (state_seen begun.opened ys)
  chains_alike xs ys x part legal more rooted same =
      let t : ℕ × HistoryEntry → Bool = λ a. is_about a.1 x in
      pasts_alike xs ys part legal more x rooted
      (λ b h about. (in_filter t b xs (subst (λ l. In b l) (sym same) (filter_in t b ys h about))).0)
