-- What a sink took of a text.
use Rattle.std.specs.Prelude.{◌≡◌, ℕ, ◌<◌, List, ◌++◌, length, Option, Some, None}

-- it has taken these bytes more, where it tells what it takes
abbrev pub Took : Option (List ℕ) → Option (List ℕ) → List ℕ → Type 0
Took None after bytes = after ≡ None
Took (Some taken) after bytes = after ≡ Some (taken ++ bytes)

-- it has taken a front of the text, and not all of it
pub record TookPart (before after : Option (List ℕ)) (text : List ℕ) : Type 0 where
  pub part : List ℕ
  pub more : List ℕ
  pub split : text ≡ part ++ more
  pub some : 0 < length more
  pub took : Took before after part
