-- Sets of bitfiles, kept as tables.
use Rattle.std.specs.Prelude.{◌≡◌, ℕ, Bool, cond, not, ◌&&◌, ◌||◌, Option, is_some}
use Rattle.std.specs.FinMap as map
use Rattle.dm_durable.specs.declared.daemon.Contents.{Contents}
use Rattle.dm_durable.specs.declared.daemon.Entry.{Entry}
use Rattle.dm_durable.specs.declared.daemon.Inode.{Inode}
use Rattle.dm_durable.specs.Entries.{with_deletion_time}
use Rattle.dm_durable.specs.Inodes.{bitfile_made, bitfile_of, is_bitfile}
use Rattle.dm_durable.specs.Tables.{ByNumber}
use Rattle.dm_tables.specs.Rows.{any}

-- whether the bitfile is in the set
abbrev pub has : ByNumber (Unit {0}) → ℕ → Bool
has set b = is_some (map.get set b)

-- the set, and one bitfile more, if there is one
abbrev pub HasMore : ByNumber (Unit {0}) → Option ℕ → ByNumber (Unit {0}) → Type 0
HasMore old named new = (b : ℕ) → has new b ≡ (has old b || is_bitfile b named)

-- the bitfile that they name: by a put that has not ended alone, or in any way
abbrev pub named_by : Bool → Contents → Option ℕ
named_by making c = cond making (bitfile_made c) (bitfile_of c)

-- the set has the bitfiles that these inodes name
abbrev pub HasNamed : Bool → ByNumber Inode → ByNumber (Unit {0}) → Type 0
HasNamed making inodes set = (b : ℕ) → has set b ≡ any (λ n i. is_bitfile b (named_by making i.contents)) inodes

-- the entry of a bitfile after its put is over: it is deleted where the bitfile was made and isn't named
abbrev pub entry_after_put : ByNumber (Unit {0}) → ByNumber (Unit {0}) → ℕ → ℕ → Entry → Entry
entry_after_put made named time b e = cond (has made b && not (has named b)) (with_deletion_time time e) e
