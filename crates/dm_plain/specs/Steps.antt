-- What a step does to a namespace.
use Rattle.std.specs.Prelude.{ℕ, ◌+◌, ◌≤◌, List, Option, length}
use Rattle.std.specs.Option.{option_and_then, option_map_or}
use Rattle.std.specs.FinMap as map
use Rattle.dm_base.specs.Limits.{file_limit}
use Rattle.dm_tables.specs.Rows.{map_values}
use Rattle.dm_rules.specs.Numbers.{lesser}
use Rattle.dm_plain.specs.Namespace.{Namespace, PlainDump, bytes_of, bytes_in, dump_of, with_file}
use Rattle.dm_plain.specs.Patching.{with_patch}
use Rattle.dm_plain.specs.declared.step.PlainStep.{PlainStep}
use Rattle.dm_plain.specs.declared.step.PlainStep.TheVariants.{Write, Patch, Remove, Dump, Undump, Restore, Age, Time}

-- a range of a file is replaced, if the file is there
unfoldable pub range_replaced : List ℕ → ℕ → List ℕ → Namespace → Namespace
range_replaced path offset bytes ns = option_map_or (λ old. with_file path (with_patch offset bytes old) ns) (bytes_of path ns) ns

-- there is no file of this path
unfoldable pub without_file : List ℕ → Namespace → Namespace
without_file path ns = record ns { files = map.remove ns.files path }

-- all files, as they are now
unfoldable pub copy_of : Namespace → PlainDump
copy_of ns = record { made = ns.now; least = ns.age; files = ns.files }

-- the dump of this name is a copy of all files
unfoldable pub with_dump : List ℕ → Namespace → Namespace
with_dump name ns = record ns { dumps = map.insert ns.dumps name (copy_of ns) }

-- there is no dump of this name
unfoldable pub without_dump : List ℕ → Namespace → Namespace
without_dump name ns = record ns { dumps = map.remove ns.dumps name }

-- what a file of the dump of a name holds, if both are there
unfoldable pub bytes_dumped : List ℕ → List ℕ → Namespace → Option (List ℕ)
bytes_dumped name path ns = option_and_then (bytes_in path) (dump_of name ns)

-- a file of a dump is copied to a path, if both are there
unfoldable pub with_restored_file : List ℕ → List ℕ → List ℕ → Namespace → Namespace
with_restored_file name path target ns = option_map_or (λ bytes. with_file target bytes ns) (bytes_dumped name path ns) ns

-- the least age of a dump, lowered to this one where it is greater
unfoldable pub with_lower_least : ℕ → PlainDump → PlainDump
with_lower_least age dump = record dump { least = lesser dump.least age }

-- this is the age in force
unfoldable pub with_age : ℕ → Namespace → Namespace
with_age age ns = record ns { age = age; dumps = map_values (λ name. with_lower_least age) ns.dumps }

abbrev pub namespace_after : PlainStep → Namespace → Namespace
namespace_after (Write path bytes) ns = with_file path bytes ns
namespace_after (Patch path offset bytes) ns = range_replaced path offset bytes ns
namespace_after (Remove path) ns = without_file path ns
namespace_after (Dump name) ns = with_dump name ns
namespace_after (Undump name) ns = without_dump name ns
namespace_after (Restore name path target) ns = with_restored_file name path target ns
namespace_after (Age age) ns = with_age age ns
namespace_after (Time now) ns = record ns { now = now.0 }

-- the range of a patch ends where a file may end
abbrev pub EndsInLimit : PlainStep → Type 0
EndsInLimit (Patch path offset bytes) = offset + length bytes ≤ file_limit
EndsInLimit _ = Unit {0}

-- the step makes or copies something, for which memory may be refused
abbrev pub TakesMemory : PlainStep → Type 0
TakesMemory (Remove path) = ⊥
TakesMemory (Undump name) = ⊥
TakesMemory (Age age) = ⊥
TakesMemory (Time now) = ⊥
TakesMemory _ = Unit {0}
