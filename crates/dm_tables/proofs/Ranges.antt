-- Ranges that stay apart when some are divided, given back or added.
use Rattle.std.proofs.Common.{◌≡◌, ◌≢◌, ◌⊎◌, ◌≤◌, Option, Some, sym, ap, ◌∙◌, inl, inr, arith}
use Rattle.dm_tables.specs.Ranges.{Range, Within, Apart, Disjoint}

pub within-refl : (r : Range) → Within r r
within-refl r = λ place c. c

pub within-trans : (r s t : Range) → Within r s → Within s t → Within r t
within-trans r s t f g = λ place c. g place (f place c)

pub apart-sym : (r s : Range) → Apart r s → Apart s r
apart-sym r s apart = λ place c d. apart place d c

-- what lies within ranges that are apart is apart
pub apart-within : (r s u v : Range) → Within r u → Within s v → Apart u v → Apart r s
apart-within r s u v f g apart = λ place c d. apart place (f place c) (g place d)

-- one ends where the other starts, or before
pub apart-by_order : (r s : Range) → r.end ≤ s.start → Apart r s
apart-by_order r s before = λ place c d. omega arith

-- by their bounds
pub within-by_bounds : (r s : Range) → s.start ≤ r.start → r.end ≤ s.end → Within r s
within-by_bounds r s low high = λ place c. (omega arith, omega arith)

-- Each new range lies within an old one, and those within one old one are apart: then the new ones are as the old ones were.
pub disjoint-refine : {T U : Type 0} (old : T → Option Range) (new : U → Option Range) (from : U → T)
    → ((t u : T) → (t ≡ u) ⊎ (t ≢ u))
    → ((u : U) (r : Range) → new u ≡ Some r → (s : Range) × (old (from u) ≡ Some s) × Within r s)
    → ((u v : U) (r s : Range) → u ≢ v → from u ≡ from v → new u ≡ Some r → new v ≡ Some s → Apart r s)
    → Disjoint old → Disjoint new
disjoint-refine old new from same_or lies divided disjoint = λ u v r s differ e f.
    elim (same_or (from u) (from v)) [
      | inl same ↦ divided u v r s differ same e f
      | inr apart ↦
          let one = lies u r e in
          let other = lies v s f in
          apart-within r s one.0 other.0 one.2 other.2 (disjoint (from u) (from v) one.0 other.0 apart one.1 other.1)
    ]

-- Each new range is an old one of the same tag: some may be gone.
pub disjoint-fewer : {T : Type 0} (old new : T → Option Range) → ((t : T) (r : Range) → new t ≡ Some r → old t ≡ Some r) → Disjoint old → Disjoint new
disjoint-fewer old new was disjoint = λ t u r s differ e f. disjoint t u r s differ (was t r e) (was u s f)

-- One range comes in addition, apart from each that was.
pub disjoint-add : {T : Type 0} (old new : T → Option Range) (t : T)
    → ((u : T) → (u ≡ t) ⊎ (u ≢ t))
    → ((u : T) (r : Range) → u ≢ t → new u ≡ Some r → old u ≡ Some r)
    → ((u : T) (r s : Range) → u ≢ t → new t ≡ Some r → old u ≡ Some s → Apart r s)
    → Disjoint old → Disjoint new
disjoint-add old new t same_or was apart disjoint = λ u v r s differ e f.
    elim (same_or u) [
      | inl here ↦ elim (same_or v) [
        | inl there ↦ absurd (differ (here ∙ sym there))
        | inr other ↦ apart v r s other (ap new (sym here) ∙ e) (was v s other f)
      ]
      | inr beside ↦ elim (same_or v) [
        | inl there ↦ apart-sym s r (apart u s r beside (ap new (sym there) ∙ f) (was u r beside e))
        | inr other ↦ disjoint u v r s differ (was u r beside e) (was v s other f)
      ]
    ]
