-- Values behind a byte that says which kind they are of.
use Rattle.std.proofs.Common.{◌≡◌, ◌<◌, ◌^◌, ℕ, Result, Ok, Err, List, [], ◌∷◌, ◌++◌, sym, ◌∙◌}
use Rattle.dm_fields.specs.Once.{byte_once}
use Rattle.dm_fields.specs.Reading.{IsRead}
use Rattle.dm_fields.specs.declared.input.ReadError.{ReadError}
use Rattle.dm_fields.specs.declared.input.ReadError.TheVariants.{Damaged, NoMemory}

module _ {X : Type 0} (tag : X → ℕ) (tail : X → List ℕ) (P : X → Type 0) where
  pub tagged_read : (n : ℕ) (old mid new : List ℕ) (r : Result X ReadError) → old ≡ n ∷ mid → IsRead tail (λ x. (tag x ≡ n) × P x) mid new r → IsRead (λ x. tag x ∷ tail x) P old new r
  tagged_read n old mid new (Ok x) read is = (read ∙ (λ i. sym is.1.0 i ∷ is.0 i), is.1.1)
  tagged_read n old mid new (Err NoMemory) read is = tt
  tagged_read n old mid new (Err Damaged) read is = λ x rest p e.
      let both = byte_once n (tag x) mid (tail x ++ rest) (sym read ∙ e) in
      is x rest (sym both.0, p) both.1

  pub tag_absent : (old new next : List ℕ) (error : ReadError) → IsRead (λ n. n ∷ []) (λ n. n < 2 ^ 8) old new (Err error) → ((x : X) → P x → tag x < 2 ^ 8) → IsRead (λ x. tag x ∷ tail x) P old next (Err error)
  tag_absent old new next NoMemory absent small = tt
  tag_absent old new next Damaged absent small = λ x rest p e. absent (tag x) (tail x ++ rest) (small x p) e
