-- What stands in a namespace after a step.
use Rattle.std.proofs.Common.{◌≡◌, ◌≢◌, ◌⊎◌, inl, inr, ℕ, ◌≤◌, arith, List, Option, Some, None, refl, ap, ◌∙◌}
use Rattle.std.specs.Cmp.Lexicographic.{slice_cmp}
use Rattle.std.specs.Ordering.{nat_cmp}
use Rattle.std.specs.Option.{option_and_then, option_map, option_map_or}
use Rattle.std.specs.FinMap.{get, get-empty}
use Rattle.std.proofs.lemmas.Bool.{cases_lt}
use Rattle.dm_tables.proofs.Orders.{paths}
use Rattle.dm_tables.proofs.Adjusted.{get-mapped}
use Rattle.dm_plain.specs.declared.step.PlainStep.{PlainStep}
use Rattle.dm_plain.specs.declared.step.PlainStep.TheVariants.{Write, Patch, Remove, Dump, Undump, Restore, Age, Time}
use Rattle.dm_plain.specs.Namespace.{Namespace, Files, PlainDump, Dumps, no_files, with_file, bytes_of, bytes_in, dump_of}
use Rattle.dm_plain.specs.Patching.{with_patch}
use Rattle.dm_plain.specs.Steps.{namespace_after, bytes_dumped, copy_of, range_replaced, with_lower_least, with_restored_file, with_age, with_dump, without_dump, without_file}
use Rattle.dm_plain.proofs.Entries.{get-insert_same, get-insert_other, get-remove_same, get-remove_other, remove_absent}

-- ---- the beginning

pub bytes_of-no_files : (age : ℕ) (path : List ℕ) → bytes_of path (no_files age) ≡ None
unfolding bytes_of no_files
bytes_of-no_files age path = get-empty (slice_cmp nat_cmp) path

pub dump_of-no_files : (age : ℕ) (name : List ℕ) → dump_of name (no_files age) ≡ None
unfolding dump_of no_files
dump_of-no_files age name = get-empty (slice_cmp nat_cmp) name

-- ---- what a file holds

pub bytes_of-written-same : (path bytes : List ℕ) (ns : Namespace) → bytes_of path (with_file path bytes ns) ≡ Some bytes
unfolding bytes_of with_file
bytes_of-written-same path bytes ns = get-insert_same ns.files path bytes

pub bytes_of-written-other : (path other bytes : List ℕ) (ns : Namespace) → other ≢ path → bytes_of other (with_file path bytes ns) ≡ bytes_of other ns
unfolding bytes_of with_file
bytes_of-written-other path other bytes ns differ = get-insert_other ns.files path other bytes differ

pub bytes_of-range_replaced-same : (path : List ℕ) (offset : ℕ) (bytes : List ℕ) (ns : Namespace) → bytes_of path (range_replaced path offset bytes ns) ≡ option_map (with_patch offset bytes) (bytes_of path ns)
unfolding range_replaced
bytes_of-range_replaced-same path offset bytes ns =
    elim (bytes_of path ns) as (λ o. bytes_of path ns ≡ o → bytes_of path (option_map_or (λ old. with_file path (with_patch offset bytes old) ns) o ns) ≡ option_map (with_patch offset bytes) o) [
      | None ↦ λ e. e
      | Some old ↦ λ e. bytes_of-written-same path (with_patch offset bytes old) ns
    ] refl

pub bytes_of-range_replaced-other : (path other : List ℕ) (offset : ℕ) (bytes : List ℕ) (ns : Namespace) → other ≢ path → bytes_of other (range_replaced path offset bytes ns) ≡ bytes_of other ns
unfolding range_replaced
bytes_of-range_replaced-other path other offset bytes ns differ =
    elim (bytes_of path ns) as (λ o. bytes_of other (option_map_or (λ old. with_file path (with_patch offset bytes old) ns) o ns) ≡ bytes_of other ns) [
      | None ↦ refl
      | Some old ↦ bytes_of-written-other path other (with_patch offset bytes old) ns differ
    ]

pub bytes_of-without_file-same : (path : List ℕ) (ns : Namespace) → bytes_of path (without_file path ns) ≡ None
unfolding bytes_of without_file
bytes_of-without_file-same path ns = get-remove_same ns.files path

pub bytes_of-without_file-other : (path other : List ℕ) (ns : Namespace) → other ≢ path → bytes_of other (without_file path ns) ≡ bytes_of other ns
unfolding bytes_of without_file
bytes_of-without_file-other path other ns differ = get-remove_other ns.files path other differ

-- a restore gives the bytes that the dump has
pub bytes_of-restored-same : (name path target bytes : List ℕ) (ns : Namespace) → bytes_dumped name path ns ≡ Some bytes → bytes_of target (with_restored_file name path target ns) ≡ Some bytes
unfolding with_restored_file
bytes_of-restored-same name path target bytes ns there =
    ap (λ (o : Option (List ℕ)). bytes_of target (option_map_or (λ b. with_file target b ns) o ns)) there ∙ bytes_of-written-same target bytes ns

pub bytes_of-restored-other : (name path target other : List ℕ) (ns : Namespace) → other ≢ target → bytes_of other (with_restored_file name path target ns) ≡ bytes_of other ns
unfolding with_restored_file
bytes_of-restored-other name path target other ns differ =
    elim (bytes_dumped name path ns) as (λ o. bytes_of other (option_map_or (λ b. with_file target b ns) o ns) ≡ bytes_of other ns) [
      | None ↦ refl
      | Some bytes ↦ bytes_of-written-other target other bytes ns differ
    ]

-- ---- what a dump has

pub dump_of-with_dump-same : (name : List ℕ) (ns : Namespace) → dump_of name (with_dump name ns) ≡ Some (copy_of ns)
unfolding dump_of with_dump
dump_of-with_dump-same name ns = get-insert_same ns.dumps name (copy_of ns)

pub dump_of-with_dump-other : (name other : List ℕ) (ns : Namespace) → other ≢ name → dump_of other (with_dump name ns) ≡ dump_of other ns
unfolding dump_of with_dump
dump_of-with_dump-other name other ns differ = get-insert_other ns.dumps name other (copy_of ns) differ

pub dump_of-without_dump-same : (name : List ℕ) (ns : Namespace) → dump_of name (without_dump name ns) ≡ None
unfolding dump_of without_dump
dump_of-without_dump-same name ns = get-remove_same ns.dumps name

pub dump_of-without_dump-other : (name other : List ℕ) (ns : Namespace) → other ≢ name → dump_of other (without_dump name ns) ≡ dump_of other ns
unfolding dump_of without_dump
dump_of-without_dump-other name other ns differ = get-remove_other ns.dumps name other differ

-- a dump was made at the time that it was, and has the files that there were
pub made-copy_of : (ns : Namespace) → (copy_of ns).made ≡ ns.now
unfolding copy_of
made-copy_of ns = refl

pub bytes_in-copy_of : (path : List ℕ) (ns : Namespace) → bytes_in path (copy_of ns) ≡ bytes_of path ns
unfolding bytes_in copy_of bytes_of
bytes_in-copy_of path ns = refl

pub bytes_dumped-with_dump : (name path : List ℕ) (ns : Namespace) → bytes_dumped name path (with_dump name ns) ≡ bytes_of path ns
unfolding bytes_dumped
bytes_dumped-with_dump name path ns = ap (option_and_then (bytes_in path)) (dump_of-with_dump-same name ns) ∙ bytes_in-copy_of path ns

-- and the least age in force since then is that of its making
pub least-copy_of : (ns : Namespace) → (copy_of ns).least ≡ ns.age
unfolding copy_of
least-copy_of ns = refl

-- ---- the age in force

pub age-with_age : (age : ℕ) (ns : Namespace) → (with_age age ns).age ≡ age
unfolding with_age
age-with_age age ns = refl

-- each dump is the one that it was, with its least age lowered
pub dump_of-with_age : (age : ℕ) (name : List ℕ) (ns : Namespace) → dump_of name (with_age age ns) ≡ option_map (with_lower_least age) (dump_of name ns)
unfolding dump_of with_age
dump_of-with_age age name ns = get-mapped paths (λ name. with_lower_least age) ns.dumps name

pub least-lowered : (age : ℕ) (dump : PlainDump) → ((with_lower_least age dump).least ≤ age) × ((with_lower_least age dump).least ≤ dump.least) × (((with_lower_least age dump).least ≡ age) ⊎ ((with_lower_least age dump).least ≡ dump.least))
unfolding with_lower_least
least-lowered age dump = (omega arith, omega arith, elim (cases_lt dump.least age) [ inl below ↦ inr (omega arith) | inr above ↦ inl (omega arith) ])

pub made-lowered : (age : ℕ) (dump : PlainDump) → (with_lower_least age dump).made ≡ dump.made
unfolding with_lower_least
made-lowered age dump = refl

pub bytes_in-lowered : (age : ℕ) (path : List ℕ) (dump : PlainDump) → bytes_in path (with_lower_least age dump) ≡ bytes_in path dump
unfolding bytes_in with_lower_least
bytes_in-lowered age path dump = refl

-- so no file of a dump is another
pub bytes_dumped-with_age : (age : ℕ) (name path : List ℕ) (ns : Namespace) → bytes_dumped name path (with_age age ns) ≡ bytes_dumped name path ns
unfolding bytes_dumped
bytes_dumped-with_age age name path ns =
    ap (option_and_then (bytes_in path)) (dump_of-with_age age name ns) ∙ elim (dump_of name ns) as (λ o. option_and_then (bytes_in path) (option_map (with_lower_least age) o) ≡ option_and_then (bytes_in path) o) [
      | None ↦ refl
      | Some dump ↦ bytes_in-lowered age path dump
    ]

-- ---- what isn't there is not changed

pub range_replaced-absent : (path : List ℕ) (offset : ℕ) (bytes : List ℕ) (ns : Namespace) → bytes_of path ns ≡ None → range_replaced path offset bytes ns ≡ ns
unfolding range_replaced
range_replaced-absent path offset bytes ns absent = ap (λ (o : Option (List ℕ)). option_map_or (λ old. with_file path (with_patch offset bytes old) ns) o ns) absent

pub without_file-absent : (path : List ℕ) (ns : Namespace) → bytes_of path ns ≡ None → without_file path ns ≡ ns
unfolding bytes_of without_file
without_file-absent path ns absent = ap (λ (files : Files). let to : Namespace = record ns { files = files } in to) (remove_absent ns.files path absent)

pub without_dump-absent : (name : List ℕ) (ns : Namespace) → dump_of name ns ≡ None → without_dump name ns ≡ ns
unfolding dump_of without_dump
without_dump-absent name ns absent = ap (λ (dumps : Dumps). let to : Namespace = record ns { dumps = dumps } in to) (remove_absent ns.dumps name absent)

pub restored-absent : (name path target : List ℕ) (ns : Namespace) → bytes_dumped name path ns ≡ None → with_restored_file name path target ns ≡ ns
unfolding with_restored_file
restored-absent name path target ns absent = ap (λ (o : Option (List ℕ)). option_map_or (λ bytes. with_file target bytes ns) o ns) absent

-- ---- what a step leaves alone

-- the step is one of those that change files
abbrev pub ChangesFiles : PlainStep → Type 0
ChangesFiles (Write path bytes) = Unit {0}
ChangesFiles (Patch path offset bytes) = Unit {0}
ChangesFiles (Remove path) = Unit {0}
ChangesFiles (Restore name path target) = Unit {0}
ChangesFiles _ = ⊥

-- the step is one of those that change dumps
abbrev pub ChangesDumps : PlainStep → Type 0
ChangesDumps (Dump name) = Unit {0}
ChangesDumps (Undump name) = Unit {0}
ChangesDumps (Age age) = Unit {0}
ChangesDumps _ = ⊥

abbrev pub ChangesTime : PlainStep → Type 0
ChangesTime (Time now) = Unit {0}
ChangesTime _ = ⊥

abbrev pub ChangesAge : PlainStep → Type 0
ChangesAge (Age age) = Unit {0}
ChangesAge _ = ⊥

written-age : (path bytes : List ℕ) (ns : Namespace) → (with_file path bytes ns).age ≡ ns.age
unfolding with_file
written-age path bytes ns = refl

age_chosen : (f : List ℕ → Namespace) (o : Option (List ℕ)) (ns : Namespace) → ((b : List ℕ) → (f b).age ≡ ns.age) → (option_map_or f o ns).age ≡ ns.age
age_chosen f None ns same = refl
age_chosen f (Some b) ns same = same b

-- a write leaves the dumps and the time
written-keeps : (path bytes : List ℕ) (ns : Namespace) → ((with_file path bytes ns).dumps ≡ ns.dumps) × ((with_file path bytes ns).now ≡ ns.now)
unfolding with_file
written-keeps path bytes ns = (refl, refl)

-- a choice of two namespaces with the same dumps and the same time
same_chosen : (f : List ℕ → Namespace) (o : Option (List ℕ)) (ns : Namespace) → ((b : List ℕ) → ((f b).dumps ≡ ns.dumps) × ((f b).now ≡ ns.now)) → ((option_map_or f o ns).dumps ≡ ns.dumps) × ((option_map_or f o ns).now ≡ ns.now)
same_chosen f None ns same = (refl, refl)
same_chosen f (Some b) ns same = same b

range_replaced-keeps : (path : List ℕ) (offset : ℕ) (bytes : List ℕ) (ns : Namespace) → ((range_replaced path offset bytes ns).dumps ≡ ns.dumps) × ((range_replaced path offset bytes ns).now ≡ ns.now)
unfolding range_replaced
range_replaced-keeps path offset bytes ns = same_chosen (λ old. with_file path (with_patch offset bytes old) ns) (bytes_of path ns) ns (λ old. written-keeps path (with_patch offset bytes old) ns)

restored-keeps : (name path target : List ℕ) (ns : Namespace) → ((with_restored_file name path target ns).dumps ≡ ns.dumps) × ((with_restored_file name path target ns).now ≡ ns.now)
unfolding with_restored_file
restored-keeps name path target ns = same_chosen (λ bytes. with_file target bytes ns) (bytes_dumped name path ns) ns (λ bytes. written-keeps target bytes ns)

-- nothing but `Write`, `Patch`, `Remove` and `Restore` changes files
pub files-after : (step : PlainStep) (ns : Namespace) → (ChangesFiles step → ⊥) → (namespace_after step ns).files ≡ ns.files
unfolding with_dump without_dump with_age
files-after (Write path bytes) ns still = absurd (still tt)
files-after (Patch path offset bytes) ns still = absurd (still tt)
files-after (Remove path) ns still = absurd (still tt)
files-after (Dump name) ns still = refl
files-after (Undump name) ns still = refl
files-after (Restore name path target) ns still = absurd (still tt)
files-after (Age age) ns still = refl
files-after (Time now) ns still = refl

-- a dump is changed by no other step: not by what is done to the files later
pub dumps-after : (step : PlainStep) (ns : Namespace) → (ChangesDumps step → ⊥) → (namespace_after step ns).dumps ≡ ns.dumps
unfolding without_file
dumps-after (Write path bytes) ns still = (written-keeps path bytes ns).0
dumps-after (Patch path offset bytes) ns still = (range_replaced-keeps path offset bytes ns).0
dumps-after (Remove path) ns still = refl
dumps-after (Dump name) ns still = absurd (still tt)
dumps-after (Undump name) ns still = absurd (still tt)
dumps-after (Restore name path target) ns still = (restored-keeps name path target ns).0
dumps-after (Age age) ns still = absurd (still tt)
dumps-after (Time now) ns still = refl

-- nor is the time, but by `Time`
pub now-after : (step : PlainStep) (ns : Namespace) → (ChangesTime step → ⊥) → (namespace_after step ns).now ≡ ns.now
unfolding without_file with_dump without_dump with_age
now-after (Write path bytes) ns still = (written-keeps path bytes ns).1
now-after (Patch path offset bytes) ns still = (range_replaced-keeps path offset bytes ns).1
now-after (Remove path) ns still = refl
now-after (Dump name) ns still = refl
now-after (Undump name) ns still = refl
now-after (Restore name path target) ns still = (restored-keeps name path target ns).1
now-after (Age age) ns still = refl
now-after (Time now) ns still = absurd (still tt)

-- nor is the age, but by `Age`
pub age-after : (step : PlainStep) (ns : Namespace) → (ChangesAge step → ⊥) → (namespace_after step ns).age ≡ ns.age
unfolding without_file with_dump without_dump range_replaced with_restored_file
age-after (Write path bytes) ns still = written-age path bytes ns
age-after (Patch path offset bytes) ns still = age_chosen (λ old. with_file path (with_patch offset bytes old) ns) (bytes_of path ns) ns (λ old. written-age path (with_patch offset bytes old) ns)
age-after (Remove path) ns still = refl
age-after (Dump name) ns still = refl
age-after (Undump name) ns still = refl
age-after (Restore name path target) ns still = age_chosen (λ bytes. with_file target bytes ns) (bytes_dumped name path ns) ns (λ bytes. written-age target bytes ns)
age-after (Age age) ns still = absurd (still tt)
age-after (Time now) ns still = refl

pub bytes_of-after : (step : PlainStep) (path : List ℕ) (ns : Namespace) → (ChangesFiles step → ⊥) → bytes_of path (namespace_after step ns) ≡ bytes_of path ns
unfolding bytes_of
bytes_of-after step path ns still = ap (λ (files : Files). get files path) (files-after step ns still)

pub dump_of-after : (step : PlainStep) (name : List ℕ) (ns : Namespace) → (ChangesDumps step → ⊥) → dump_of name (namespace_after step ns) ≡ dump_of name ns
unfolding dump_of
dump_of-after step name ns still = ap (λ (dumps : Dumps). get dumps name) (dumps-after step ns still)
