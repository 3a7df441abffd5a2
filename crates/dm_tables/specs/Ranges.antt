-- Ranges of places, and a family of them of which no two meet.
use Rattle.std.specs.Prelude.{◌≡◌, ◌≢◌, ℕ, ◌<◌, ◌≤◌, Option, Some}

-- the places from `start` on, up to `end`, which is not one of them
pub record Range : Type 0 where
  pub start : ℕ
  pub end : ℕ

abbrev pub Covers : Range → ℕ → Type 0
Covers r place = (r.start ≤ place) × (place < r.end)

-- each place of r is one of s
abbrev pub Within : Range → Range → Type 0
Within r s = (place : ℕ) → Covers r place → Covers s place

-- no place is one of both
abbrev pub Apart : Range → Range → Type 0
Apart r s = (place : ℕ) → Covers r place → Covers s place → ⊥

-- those who use ranges, each by its tag: no two use one place
abbrev pub Disjoint : {Tag : Type 0} → (Tag → Option Range) → Type 0
Disjoint {Tag} uses = (t u : Tag) (r s : Range) → t ≢ u → uses t ≡ Some r → uses u ≡ Some s → Apart r s
