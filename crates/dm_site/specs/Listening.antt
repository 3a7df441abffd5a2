-- A session in the midst of its input.
use Rattle.std.specs.Prelude.{◌≡◌, ℕ, ◌+◌, List, [], length, Option, Bool}
use Rattle.dm_site.specs.Script.{TakenFrom}
use Rattle.dm_site.specs.Talk.{Standing, Talk}

-- The bytes that were taken from the source were heard, done and answered, but for those that are begun. So many
-- more are counted.
pub record Listened (told : Bool) (before after : Option (List ℕ)) (old new : Standing) (more : ℕ) (begun : List ℕ) : Type 0 where
  pub input : List ℕ
  pub took : TakenFrom before after input
  pub counted : length input + more ≡ 18446744073709551615
  pub talk : Talk told old new input begun []
