-- The gate of an area, and what is written to it.
use Rattle.std.proofs.Common.{◌≡◌, ◌≢◌, ◌==◌, not, IsTrue, inl, inr, ℕ, ◌+◌, ◌<◌, ◌≤◌, ◌^◌, List, [], ◌∷◌, length, take, drop, get_or, refl, sym, ◌∙◌, ap, subst, arith, length-append}
use Rattle.std.proofs.lemmas.Bool.{cases_eq, cases_lt}
use Rattle.std.proofs.lemmas.Bool.Decides.{nat_tests}
use Rattle.std.specs.List.{AllByRecursion}
use Rattle.dm_host.specs.Disk.{Disk, Only, Settled, Same, Torn, Written, part}
use Rattle.dm_host.specs.Works.{Works, File, Follows}
use Rattle.dm_host.proofs.Moments.{weaker, and_then, fewer_after}
use Rattle.dm_host.proofs.Outside.{part-first}
use Rattle.dm_journal.specs.Grammar.{Fits, AtRest}
use Rattle.dm_ckpt.specs.Area.{body, header, content, IsShut, IsClosed, HoldsRows, Begins}
use Rattle.dm_ckpt.specs.State.{IsBehind, MayHold}
use Rattle.dm_ckpt.specs.Writing.{KeepsGate, WritesBehind}

pub first_of : (file : List ℕ) → 0 < length file → file ≡ get_or file 0 0 ∷ drop 1 file
first_of [] long = absurd (omega arith)
first_of (a ∷ rest) long = refl

-- the gate and the header have 17 bytes
pub length-header : (g n : ℕ) → length (header g n) ≡ 16
unfolding header
length-header g n = refl

pub length-holds : (g : ℕ) (rows : List (List ℕ)) (file : List ℕ) (h : HoldsRows g rows file) → length file ≡ 17 + (length (body rows) + length h.junk)
length-holds g rows file h =
    ap (λ (l : List ℕ). length l) h.is
    ∙ omega (arith, length-append (content g rows) h.junk, length-append (header g (length (body rows))) (body rows), length-header g (length (body rows)))

-- a shut area isn't one that holds rows
pub shut_or_holds : (g : ℕ) (rows : List (List ℕ)) (file : List ℕ) → IsShut file → HoldsRows g rows file → ⊥
shut_or_holds g rows file (inl short) holds = absurd (omega (arith, short, length-holds g rows file holds))
shut_or_holds g rows file (inr shut) holds = shut (ap (λ (l : List ℕ). get_or l 0 0) holds.is)

pub gate_read : (file into : List ℕ) → into ≡ part file 0 1 → get_or into 0 0 ≡ get_or file 0 0
gate_read file into is = ap (λ (l : List ℕ). get_or l 0 0) is ∙ part-first file 0

-- the gate is written over, where the area is open or its file empty
pub behind_torn : (g : ℕ) (old new : List ℕ) → IsBehind g old → (IsClosed old → ⊥) → Torn 0 1 old new → IsBehind g new
behind_torn g old new behind not_closed torn = elim (cases_lt 1 (length old)) [
  | inr short ↦ inl (inl (omega (arith, short, torn.no_longer)))
  | inl long ↦ elim (cases_eq (get_or old 0 0) 1) [
    | inr shut ↦ absurd (not_closed (omega (arith, long), shut))
    | inl is_open ↦ over_open g old new behind long is_open torn
  ]
]
  where
    over_open : (g : ℕ) (old new : List ℕ) → IsBehind g old → 1 < length old → get_or old 0 0 ≡ 1 → Torn 0 1 old new → IsBehind g new
    over_open g old new (inl (inl short)) long is_open torn = absurd (omega arith)
    over_open g old new (inl (inr shut)) long is_open torn = absurd (shut is_open)
    over_open g old new (inr earlier) long is_open torn = elim (cases_eq (get_or new 0 0) 1) [
      | inr shut ↦ inl (inr shut)
      | inl still ↦
          let same : new ≡ old =
          first_of new (omega (arith, long, torn.no_shorter)) ∙ (λ i. (still ∙ sym is_open) i ∷ torn.after i) ∙ sym (first_of old (omega (arith, long))) in
          subst (λ (l : List ℕ). IsBehind g l) (sym same) (inr earlier)
    ]

pub gate_written : (gate : ℕ) (old new : List ℕ) → Written 0 (gate ∷ []) old new → new ≡ gate ∷ drop 1 new
gate_written gate old new w =
    let within : 1 ≤ length new = w.within in
    let split : new ≡ get_or new 0 0 ∷ drop 1 new = first_of new (omega (arith, within)) in
    let first : get_or new 0 0 ∷ [] ≡ gate ∷ [] = sym (ap (λ (l : List ℕ). take 1 l) split) ∙ w.there in
    let is : get_or new 0 0 ≡ gate = cc in
    split ∙ ap (λ (n : ℕ). n ∷ drop 1 new) is

pub closed_written : (old new : List ℕ) → Written 0 (0 ∷ []) old new → IsClosed new
closed_written old new w =
    let is = gate_written 0 old new w in
    (omega (arith, ap (λ (l : List ℕ). length l) is), λ e. absurd (omega (arith, e, ap (λ (l : List ℕ). get_or l 0 0) is)))

-- an emptied log
pub rests_written : (old new : List ℕ) → Written 0 (0 ∷ []) old new → AtRest [] new
rests_written old new w = record { gate = 0; junk = drop 1 new; closed = λ e. absurd (omega (arith, e)); is = gate_written 0 old new w }

pub closed_kept : (old new : List ℕ) → KeepsGate old new → IsClosed old → IsClosed new
closed_kept old new keeps closed = let k = keeps closed.0 in (k.0, λ e. closed.1 (sym k.1 ∙ e))

-- an area that is shut stays so while bytes behind its gate are written
pub closed_works : (f : ℕ) (a b : Disk) → WritesBehind f a b → Settled a f IsClosed → Works (File f) a b (λ x. IsClosed (x f))
closed_works f a b w settled =
    weaker (File f) a b (Follows KeepsGate f a) (λ x. IsClosed (x f)) w.works (λ x follows. closed_kept follows.0 (x f) follows.2 (settled follows.0 follows.1))

module _ (g : ℕ) (rows : List (List ℕ)) (number : g < 2 ^ 64) (size : length (body rows) < 2 ^ 64) (fits : AllByRecursion Fits rows) (gate : ℕ) (old new : List ℕ)
    (staged : Begins gate (content g rows) old) where
  holds_behind : get_or new 0 0 ≡ 1 → 0 < length new → drop 1 new ≡ drop 1 old → HoldsRows g rows new
  holds_behind is_open long same = record {
    number = number;
    size = size;
    fits = fits;
    junk = staged.junk;
    is = first_of new long ∙ (λ i. is_open i ∷ (same ∙ ap (λ (l : List ℕ). drop 1 l) staged.is) i);
  }

  -- the gate is opened, and that is cut short
  pub staged_torn : Torn 0 1 old new → MayHold g rows new
  staged_torn torn = elim (cases_eq (get_or new 0 0) 1) [
    | inr shut ↦ inl (inr shut)
    | inl is_open ↦ inr (holds_behind is_open (omega (arith, torn.no_shorter, ap (λ (l : List ℕ). length l) staged.is)) torn.after)
  ]

  -- and is done
  pub staged_written : Written 0 (1 ∷ []) old new → HoldsRows g rows new
  staged_written w =
      let is = gate_written 1 old new w in
      holds_behind (ap (λ (l : List ℕ). get_or l 0 0) is) (omega (arith, w.within)) w.torn.after

-- a read
pub behind_still : (f g : ℕ) (a b : Disk) → Works (File f) a b (Follows Same f a) → IsBehind g (a.seen f) → Only (a.seen f) (a.may_leave f)
    → Works (File f) a b (λ x. IsBehind g (x f))
behind_still f g a b w behind only = weaker (File f) a b (Follows Same f a) (λ x. IsBehind g (x f)) w (λ x follows.
    subst (λ (l : List ℕ). IsBehind g l) (sym (follows.2 ∙ only follows.0 follows.1)) behind)

-- a read, and then a write of the gate
pub behind_works : (f g : ℕ) (a b c : Disk) → Works (File f) a b (Follows Same f a) → b.seen f ≡ a.seen f → IsBehind g (a.seen f) → Only (a.seen f) (a.may_leave f)
    → (IsClosed (a.seen f) → ⊥) → Works (File f) b c (Follows (Torn 0 1) f b) → Works (File f) a c (λ x. IsBehind g (x f))
behind_works f g a b c first same behind only not_closed second =
    and_then (File f) a b c (λ x. IsBehind g (x f)) (behind_still f g a b first behind only)
    (weaker (File f) b c (Follows (Torn 0 1) f b) (λ x. IsBehind g (x f)) second (λ x follows.
    let was : follows.0 ≡ a.seen f = only follows.0 (fewer_after f a b first follows.0 follows.1) in
    behind_torn g (a.seen f) (x f) behind not_closed (subst (λ (l : List ℕ). Torn 0 1 l (x f)) was follows.2)))

pub only_still : (f : ℕ) (a b : Disk) → Works (File f) a b (Follows Same f a) → b.seen f ≡ a.seen f → Only (a.seen f) (a.may_leave f) → Only (b.seen f) (b.may_leave f)
only_still f a b w same only c left = only c (fewer_after f a b w c left) ∙ sym same

-- the test of a gate that is not 1
pub shut_test : (gate : ℕ) → (IsTrue (not (gate == 1)) → gate ≢ 1) × (gate ≢ 1 → IsTrue (not (gate == 1)))
shut_test gate = (λ is e. absurd (grind (arith, nat_tests)), λ shut. grind (arith, nat_tests))
