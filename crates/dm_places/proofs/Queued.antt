-- A queue that has the spot of each chunk on a volume.
use Rattle.std.proofs.Common.{◌≡◌, inl, inr, ℕ, List, [], ◌∷◌, Contains, subst, sym}
use Rattle.std.specs.List.Sorted.{IsPermutation}
use Rattle.std.proofs.lemmas.List.Elements.{All-contains}
use Rattle.std.proofs.lemmas.List.Sorted.{Contains-permutation}
use Rattle.dm_durable.specs.Tables.{ByNumber}
use Rattle.dm_durable.specs.declared.group.BitfileRow.{BitfileRow}
use Rattle.dm_places.specs.Chunks.{EachSpotOn, spot_of}
use Rattle.dm_places.specs.Order.{IsFirst, IsNotPast}
use Rattle.dm_places.specs.declared.spot.Spot.{Spot}
use Rattle.dm_places.proofs.Found.{among_cases, among_none}

module _ (bitfiles : ByNumber BitfileRow) (vsn : List ℕ) (spots : List Spot) (queued : EachSpotOn bitfiles vsn (Contains spots)) where
  -- its first spot lies past none of these
  pub first_not_past : (x : Spot) → IsFirst spots x → EachSpotOn bitfiles vsn (IsNotPast x)
  first_not_past x first = λ b row is c among on. All-contains (IsNotPast x) spots (spot_of b c) first.least (queued b row is c among on)

  -- where it is empty, no chunk is on the volume
  pub none_queued : spots ≡ [] → EachSpotOn bitfiles vsn (λ s. ⊥)
  none_queued none = λ b row is c among on. among_none (spot_of b c) (subst (λ l. Contains l (spot_of b c)) none (queued b row is c among on))

  -- a spot that is that of no chunk on the volume may go
  pub queued_without : (x : Spot) (rest : List Spot) → IsPermutation spots (x ∷ rest) → EachSpotOn bitfiles vsn (λ s. s ≡ x → ⊥) → EachSpotOn bitfiles vsn (Contains rest)
  queued_without x rest moved gone = λ b row is c among on.
      elim (among_cases (spot_of b c) x rest (Contains-permutation spots (x ∷ rest) (spot_of b c) moved (queued b row is c among on))) [
        | inl same ↦ absurd (gone b row is c among on (sym same))
        | inr left ↦ left
      ]
