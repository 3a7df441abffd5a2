-- Namespaces and dumps whose files are kept in entries.
use Rattle.std.proofs.Common.{◌≡◌, ℕ, List, [], Option, Some, None, cond, ap, sym, ◌∙◌}
use Rattle.std.specs.Ordering.{nat_cmp}
use Rattle.std.specs.Cmp.Lexicographic.{slice_cmp}
use Rattle.std.specs.Option.{option_and_then, option_map_or}
use Rattle.std.specs.BTreeMap.{is_at}
use Rattle.std.specs.FinMap.{empty, from_entries, get, insert, remove}
use Rattle.dm_tables.specs.Rows.{map_values}
use Rattle.dm_plain.specs.Namespace.{Namespace, PlainDump, Files, Dumps, no_files, with_file, bytes_of, bytes_in, dump_of}
use Rattle.dm_plain.specs.Patching.{with_patch}
use Rattle.dm_plain.specs.Steps.{bytes_dumped, copy_of, with_lower_least, range_replaced, with_restored_file, with_age, with_dump, without_dump, without_file}
use Rattle.dm_plain.proofs.Entries.{entry_at, get-entries_at, one_inserted, one_removed, insert_same}

abbrev pub Held : Type 0
Held = List (List ℕ × List ℕ)

-- files that are kept in entries, with dumps, a time and an age
abbrev pub namespace : Held → Dumps → ℕ → ℕ → Namespace
namespace es dumps t age = record { files = from_entries es; dumps = dumps; now = t; age = age }

-- a file holds what the entries have at its path
pub bytes_of_entries : (es : Held) (dumps : Dumps) (t age : ℕ) (path : List ℕ) → bytes_of path (namespace es dumps t age) ≡ entry_at es path
unfolding bytes_of
bytes_of_entries es dumps t age path = get-entries_at es path

pub bytes_in_entries : (es : Held) (t least : ℕ) (path : List ℕ) → bytes_in path (record { made = t; least = least; files = from_entries es }) ≡ entry_at es path
unfolding bytes_in
bytes_in_entries es t least path = get-entries_at es path

module _ (es fs : Held) (dumps : Dumps) (t age : ℕ) (path : List ℕ) where
  abbrev ns : Namespace
  ns = namespace es dumps t age

  with_files : Files → Namespace
  with_files files = record { files = files; dumps = dumps; now = t; age = age }

  -- entries that differ at one path are a write there
  pub one_written : (bytes : List ℕ) → ((q : List ℕ) → entry_at fs q ≡ cond (is_at (slice_cmp nat_cmp path) q) (Some bytes) (entry_at es q)) → namespace fs dumps t age ≡ with_file path bytes (namespace es dumps t age)
  unfolding with_file with_files
  one_written bytes h = ap with_files (one_inserted es fs path bytes h)

  -- or a file less
  pub one_file_less : ((q : List ℕ) → entry_at fs q ≡ cond (is_at (slice_cmp nat_cmp path) q) None (entry_at es q)) → namespace fs dumps t age ≡ without_file path (namespace es dumps t age)
  unfolding without_file with_files
  one_file_less h = ap with_files (one_removed es fs path h)

  -- a file that has other bytes, which are its old ones with a range replaced
  pub one_replaced : (offset : ℕ) (bytes old new : List ℕ) → Some old ≡ entry_at es path → new ≡ with_patch offset bytes old → ((q : List ℕ) → entry_at fs q ≡ cond (is_at (slice_cmp nat_cmp path) q) (Some new) (entry_at es q)) → namespace fs dumps t age ≡ range_replaced path offset bytes (namespace es dumps t age)
  unfolding range_replaced
  one_replaced offset bytes old new there is h =
      one_written new h ∙ ap (λ (b : List ℕ). with_file path b ns) is
      ∙ ap (λ (o : Option (List ℕ)). option_map_or (λ old. with_file path (with_patch offset bytes old) ns) o ns) (there ∙ sym (bytes_of_entries es dumps t age path))

  -- a file that has its old bytes
  pub one_kept : (old new : List ℕ) → Some old ≡ entry_at es path → new ≡ old → ((q : List ℕ) → entry_at fs q ≡ cond (is_at (slice_cmp nat_cmp path) q) (Some new) (entry_at es q)) → namespace fs dumps t age ≡ namespace es dumps t age
  unfolding with_files
  one_kept old new there is h =
      ap with_files (one_inserted es fs path new h ∙ insert_same (from_entries es) path new (get-entries_at es path ∙ sym there ∙ ap Some (sym is)))

-- one dump more, which has a copy of the files
pub one_dumped : (ns : Namespace) (dumps : Dumps) (name : List ℕ) (dump : PlainDump) → dump ≡ record { made = ns.now; least = ns.age; files = ns.files } → dumps ≡ insert ns.dumps name dump
    → (let to : Namespace = record ns { dumps = dumps } in to) ≡ with_dump name ns
unfolding with_dump copy_of
one_dumped ns dumps name dump is put =
    ap (λ (all : Dumps). let to : Namespace = record ns { dumps = all } in to) (put ∙ ap (λ (d : PlainDump). insert ns.dumps name d) is)

-- or one less
pub one_dump_less : (ns : Namespace) (dumps : Dumps) (name : List ℕ) → dumps ≡ remove ns.dumps name → (let to : Namespace = record ns { dumps = dumps } in to) ≡ without_dump name ns
unfolding without_dump
one_dump_less ns dumps name is = ap (λ (all : Dumps). let to : Namespace = record ns { dumps = all } in to) is

-- each of them under another age
pub one_aged : (ns : Namespace) (dumps : Dumps) (age : ℕ) → dumps ≡ map_values (λ name. with_lower_least age) ns.dumps → (let to : Namespace = record ns { dumps = dumps; age = age } in to) ≡ with_age age ns
unfolding with_age
one_aged ns dumps age is = ap (λ (all : Dumps). let to : Namespace = record ns { dumps = all; age = age } in to) is

-- no entries are no files
pub no_entries : (es : Held) (dumps : Dumps) (age : ℕ) → es ≡ [] → dumps ≡ empty → namespace es dumps 0 age ≡ no_files age
unfolding no_files
no_entries es dumps age none bare = ap (λ (xs : Held). namespace xs dumps 0 age) none ∙ ap (λ (all : Dumps). namespace [] all 0 age) bare

-- no file, and none that has a range replaced
pub none_replaced : (path : List ℕ) (offset : ℕ) (bytes : List ℕ) (ns : Namespace) → bytes_of path ns ≡ None → ns ≡ range_replaced path offset bytes ns
unfolding range_replaced
none_replaced path offset bytes ns absent = ap (λ (o : Option (List ℕ)). option_map_or (λ old. with_file path (with_patch offset bytes old) ns) o ns) (sym absent)

-- a file of a dump, looked up in the dumps
pub dumped_found : (name path : List ℕ) (found : Option PlainDump) (all : Namespace) → found ≡ get all.dumps name → option_and_then (bytes_in path) found ≡ bytes_dumped name path all
unfolding bytes_dumped dump_of
dumped_found name path found all is = ap (option_and_then (bytes_in path)) is

pub restored_bytes : (name path target bytes : List ℕ) (ns : Namespace) → Some bytes ≡ bytes_dumped name path ns → with_file target bytes ns ≡ with_restored_file name path target ns
unfolding with_restored_file
restored_bytes name path target bytes ns there = ap (λ (o : Option (List ℕ)). option_map_or (λ bytes. with_file target bytes ns) o ns) there

pub restored_none : (name path target : List ℕ) (ns : Namespace) → None ≡ bytes_dumped name path ns → ns ≡ with_restored_file name path target ns
unfolding with_restored_file
restored_none name path target ns absent = ap (λ (o : Option (List ℕ)). option_map_or (λ bytes. with_file target bytes ns) o ns) absent
