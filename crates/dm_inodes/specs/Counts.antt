-- What is kept beside the inodes: how many of them name each bitfile, and the sum of their lengths.
use Rattle.std.specs.Prelude.{◌≡◌, ℕ, ◌+◌, ◌-◌, Bool, true, false, cond, Option, None, Some, IsSome}
use Rattle.std.specs.FinMap as map
use Rattle.dm_durable.specs.declared.daemon.Inode.{Inode}
use Rattle.dm_durable.specs.Tables.{ByNumber}
use Rattle.dm_durable.specs.Inodes.{bitfile_of, bitfile_made, is_bitfile, is_making, with_contents, as_ended}
use Rattle.dm_rules.specs.Numbers.{as_word}
use Rattle.dm_tables.specs.Rows.{adjust}
use Rattle.dm_tables.specs.Totals.{total}

-- what an inode adds to the number of those that name the bitfile
abbrev pub naming_of : ℕ → Inode → ℕ
naming_of b i = cond (is_bitfile b (bitfile_of i.contents)) 1 0

-- how many inodes name the bitfile
abbrev pub naming : ByNumber Inode → ℕ → ℕ
naming inodes b = total (naming_of b) inodes

-- the number that is kept of a bitfile, where one is
abbrev pub count_at : Option ℕ → ℕ
count_at None = 0
count_at (Some n) = n

-- what is kept is how many inodes name each bitfile
abbrev pub Counted : ByNumber ℕ → ByNumber Inode → Type 0
Counted counts inodes = (b : ℕ) → count_at (map.get counts b) ≡ naming inodes b

-- a number is kept of the bitfile, if there is a bitfile
abbrev pub HasCount : ByNumber ℕ → Option ℕ → Type 0
HasCount counts None = Unit {0}
HasCount counts (Some b) = IsSome (map.get counts b)

-- each bitfile of which a number is kept in the first has one in the second
abbrev pub KeepsCounts : ByNumber ℕ → ByNumber ℕ → Type 0
KeepsCounts old new = (b : ℕ) → IsSome (map.get old b) → IsSome (map.get new b)

abbrev pub raised : ℕ → ℕ
raised n = as_word (n + 1)

abbrev pub lowered : ℕ → ℕ
lowered n = n - 1

-- one inode more names the bitfile, if there is one
abbrev pub with_one_more : ByNumber ℕ → Option ℕ → ByNumber ℕ
with_one_more counts None = counts
with_one_more counts (Some b) = adjust counts b raised

-- one fewer does
abbrev pub with_one_fewer : ByNumber ℕ → Option ℕ → ByNumber ℕ
with_one_fewer counts None = counts
with_one_fewer counts (Some b) = adjust counts b lowered

-- the bitfile that the end of a put lets go: that of the put, where not every copy is stored
abbrev pub let_go_by : Bool → Option Inode → Option ℕ
let_go_by true o = None
let_go_by false None = None
let_go_by false (Some i) = bitfile_made i.contents

-- the bitfile of a put that has not ended, of an entry of the table
abbrev pub made_at : Option (ℕ × Inode) → Option ℕ
made_at None = None
made_at (Some e) = bitfile_made e.1.contents

-- the inodes with the put of that entry's inode ended, and not every copy stored
abbrev pub ended_at : ByNumber Inode → Option (ℕ × Inode) → ByNumber Inode
ended_at inodes None = inodes
ended_at inodes (Some e) = adjust inodes e.0 (with_contents (as_ended false))

-- whether a put of an entry's inode has not ended, of an entry of the table
abbrev pub is_making_row : Option (ℕ × Inode) → Bool
is_making_row None = false
is_making_row (Some e) = is_making e.1.contents
