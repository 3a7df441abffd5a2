-- The text of a prefix.
use Rattle.std.specs.Prelude.{ℕ, List, [], ◌∷◌}
use Rattle.dm_base.specs.declared.command.Prefix.{Prefix}
use Rattle.dm_base.specs.declared.command.Prefix.TheVariants.{Root, Under}

-- `/` (47), or the path
abbrev pub prefix_text : Prefix → List ℕ
prefix_text Root = 47 ∷ []
prefix_text (Under path) = path
