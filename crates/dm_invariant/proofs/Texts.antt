-- The test for texts that are the same.
use Rattle.std.proofs.Common.{◌≡◌, ℕ, true, List}
use lib.Pointwise.{bytes_decides}
use Rattle.dm_durable.specs.Tables.{same_text}

-- texts that pass the test are equal
pub texts_equal : (xs ys : List ℕ) → same_text xs ys ≡ true → xs ≡ ys
texts_equal xs ys e = (bytes_decides xs ys).0 e

-- equal texts pass it
pub same_texts : (xs ys : List ℕ) → xs ≡ ys → same_text xs ys ≡ true
same_texts xs ys e = (bytes_decides xs ys).1 e
