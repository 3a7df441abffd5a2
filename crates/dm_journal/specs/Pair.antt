-- Two journals on two files that are appended to in turn.
use Rattle.std.specs.Prelude.{◌⊎◌, List, ℕ, [], ◌∷◌, ◌++◌}
use Rattle.dm_journal.specs.Grammar.{StandsFor}

-- a prefix of the two appends is there
abbrev pub IsPrefix : List (List ℕ) → List ℕ → List ℕ → List (List ℕ) → List ℕ → List ℕ → Type 0
IsPrefix ps p a qs q b =
    (StandsFor ps a × StandsFor qs b) ⊎ ((StandsFor (ps ++ p ∷ []) a × StandsFor qs b) ⊎ (StandsFor (ps ++ p ∷ []) a × StandsFor (qs ++ q ∷ []) b))
