-- A value at the front of bytes, and what is left of them.
use Rattle.std.proofs.Common.{◌≡◌, ℕ, Err, List, [], ◌++◌, sym, ◌∙◌}
use Rattle.std.proofs.lemmas.List.{append-nil}
use Rattle.dm_fields.specs.Reading.{IsRead, IsSpelledOnce}
use Rattle.dm_fields.specs.Whole.{IsWholeRead}
use Rattle.dm_fields.specs.declared.input.ReadError.{ReadError}
use Rattle.dm_fields.specs.declared.input.ReadError.TheVariants.{Damaged, NoMemory}

module _ {X : Type 0} (f : X → List ℕ) (P : X → Type 0) where
  pub left_over : IsSpelledOnce f P → (x : X) (bytes new : List ℕ) → (bytes ≡ f x ++ new) × P x → (new ≡ [] → ⊥) → IsWholeRead f P bytes (Err Damaged)
  left_over once x bytes new is some = λ y q e.
      some (once x y new [] is.1 q (sym is.0 ∙ e ∙ sym (append-nil (f y)))).1

  pub whole_absent : (bytes new : List ℕ) (error : ReadError) → IsRead f P bytes new (Err error) → IsWholeRead f P bytes (Err error)
  whole_absent bytes new NoMemory absent = tt
  whole_absent bytes new Damaged absent = λ x q e. absent x [] q (e ∙ sym (append-nil (f x)))
