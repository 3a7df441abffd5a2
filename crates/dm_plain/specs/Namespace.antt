-- The plain namespace: files by their paths and dumps by their names, of which nothing ever moves.
use Rattle.std.specs.Prelude.{ℕ, List, Option, refl}
use Rattle.std.specs.Coded.{Coded, code_by, coded×, coded_ℕ, coded_list}
use Rattle.std.specs.Cmp.Lexicographic.{slice_cmp}
use Rattle.std.specs.Ordering.{nat_cmp}
use Rattle.std.specs.BTreeMap.{BTreeMap}
use Rattle.std.specs.FinMap as map

-- the files: what the bytes of a path lead to
abbrev pub Files : Type 0
Files = map.FinMap (slice_cmp nat_cmp) (List ℕ)

abbrev pub files_code : Coded Files
files_code = map.code (coded_list coded_ℕ) (coded_list coded_ℕ)

-- the files that a table has
abbrev pub files_in : BTreeMap (List ℕ) (List ℕ) → Files
files_in table = map.from_entries table.entries

-- a dump: when it was made, the least age in force since then, and the files as they were then
pub record PlainDump : Type 0 where
  pub made : ℕ
  pub least : ℕ
  pub files : Files

abbrev pub dumped_code : Coded PlainDump
dumped_code =
    code_by (ℕ × (ℕ × Files)) (coded× coded_ℕ (coded× coded_ℕ files_code)) (λ d. (d.made, (d.least, d.files)))
    (λ p. record { made = p.0; least = p.1.0; files = p.1.1 }) (λ _. refl)

-- the dumps: what the bytes of a name lead to
abbrev pub Dumps : Type 0
Dumps = map.FinMap (slice_cmp nat_cmp) PlainDump

abbrev pub dumps_code : Coded Dumps
dumps_code = map.code (coded_list coded_ℕ) dumped_code

pub record Namespace : Type 0 where
  pub files : Files
  pub dumps : Dumps
  pub now : ℕ  -- the time
  pub age : ℕ  -- the age in force, after which a deleted file may be let go for good

-- a namespace is stored as its files, its dumps, its time and its age
abbrev pub namespace_code : Coded Namespace
namespace_code =
    code_by (Files × (Dumps × (ℕ × ℕ))) (coded× files_code (coded× dumps_code (coded× coded_ℕ coded_ℕ))) (λ ns. (ns.files, (ns.dumps, (ns.now, ns.age))))
    (λ p. record { files = p.0; dumps = p.1.0; now = p.1.1.0; age = p.1.1.1 }) (λ _. refl)

-- no file, no dump, the time 0, and this age
unfoldable pub no_files : ℕ → Namespace
no_files age = record { files = map.empty; dumps = map.empty; now = 0; age = age }

-- what a file holds, if it is there
unfoldable pub bytes_of : List ℕ → Namespace → Option (List ℕ)
bytes_of path ns = map.get ns.files path

-- the dump of a name, if it is there
unfoldable pub dump_of : List ℕ → Namespace → Option PlainDump
dump_of name ns = map.get ns.dumps name

-- what a file of a dump holds, if the dump has it
unfoldable pub bytes_in : List ℕ → PlainDump → Option (List ℕ)
bytes_in path dump = map.get dump.files path

-- the file holds these bytes, whether it was there or not; each other one stays
unfoldable pub with_file : List ℕ → List ℕ → Namespace → Namespace
with_file path bytes ns = record ns { files = map.insert ns.files path bytes }
