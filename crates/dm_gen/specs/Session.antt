-- The session that is generated for a number of files, as one list of commands.
use Rattle.std.specs.Prelude.{ℕ, zero, suc, ◌+◌, ◌/◌, ◌%◌, ◌==◌, Bool, not, List, [], ◌∷◌, ◌++◌, codes, filter, map, replicate}
use Rattle.std.specs.List.{flat_map}
use Rattle.dm_base.specs.declared.command.Command.{Command}
use Rattle.dm_base.specs.declared.command.Command.TheVariants.{Write, PutRelease, Remove, HardDelete, Merge, Reuse, AuditDeep, Read}
use Rattle.dm_base.specs.declared.identifier.GroupId.{GroupId}

-- so many numbers, from this one on
abbrev pub counted : ℕ → ℕ → List ℕ
counted zero i = []
counted (suc k) i = i ∷ counted k (i + 1)

-- the numbers of the files
abbrev pub numbers : ℕ → List ℕ
numbers n = counted n 1

-- a number in four digits (48 is `0`)
abbrev pub four_digits : ℕ → List ℕ
four_digits i = (48 + i / 1000) ∷ (48 + i / 100 % 10) ∷ (48 + i / 10 % 10) ∷ (48 + i % 10) ∷ []

-- `/g/` and the number
abbrev pub path_of : ℕ → List ℕ
path_of i = codes "/g/" ++ four_digits i

-- 1,000 bytes, each the number modulo 256
abbrev pub bytes_of : ℕ → List ℕ
bytes_of i = replicate 1000 (i % 256)

abbrev pub is_third : ℕ → Bool
is_third i = i % 3 == 0

abbrev pub group : ℕ → GroupId
group g = record { 0 = g }

-- each file is written and stored; each third is removed; what was removed is deleted and merged away; all others are read
abbrev pub stores : ℕ → List Command
stores i = Write (path_of i) (bytes_of i) ∷ PutRelease (path_of i) ∷ []

abbrev pub upkeep : List Command
upkeep = HardDelete ∷ Merge (group 1) ∷ Merge (group 2) ∷ Reuse (group 1) ∷ Reuse (group 2) ∷ AuditDeep ∷ []

abbrev pub removed : List ℕ → List Command
removed is = map (λ i. Remove (path_of i)) (filter is_third is)

abbrev pub read : List ℕ → List Command
read is = map (λ i. Read (path_of i)) (filter (λ i. not (is_third i)) is)

abbrev pub session : ℕ → List Command
session n = flat_map stores (numbers n) ++ (removed (numbers n) ++ (upkeep ++ read (numbers n)))
