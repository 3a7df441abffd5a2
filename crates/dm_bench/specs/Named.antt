-- The names that an entry carries.
use Rattle.std.specs.Prelude.{Option, None, Some, List, [], ◌∷◌, ◌++◌}
use Rattle.dm_base.specs.declared.identifier.GroupId.{GroupId}
use Rattle.dm_model.specs.declared.entry.Name.{Name}
use Rattle.dm_model.specs.declared.entry.Name.TheVariants.{Worker}
use Rattle.dm_model.specs.Names.{copy_name}
use Rattle.dm_bench.specs.declared.names.Names.{Names}
use Rattle.dm_bench.specs.declared.names.Owner.{Owner}
use Rattle.dm_bench.specs.declared.names.Owner.TheVariants as owner

abbrev pub name_if : Option Name → List Name
name_if None = []
name_if (Some x) = x ∷ []

abbrev pub names_in : Names → List Name
names_in n = n.first ∷ name_if n.second ++ name_if n.third

abbrev pub owner_name : GroupId → Owner → Name
owner_name g (owner.Worker w) = Worker w
owner_name g (owner.Copy b) = copy_name g b
