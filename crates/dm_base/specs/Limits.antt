-- The limits of a site, as definitions and clauses cite them. Code has the same numbers as constants, so
-- that a number changed at one of the two is refused.
use Rattle.std.specs.Prelude.{ℕ}

-- the most bytes of a path
abbrev pub path_limit : ℕ
path_limit = 255

-- the most bytes of the name of a dump
abbrev pub dump_name_limit : ℕ
dump_name_limit = 32

-- the most bytes of a file
abbrev pub file_limit : ℕ
file_limit = 16777216

-- the most files of a namespace
abbrev pub files_limit : ℕ
files_limit = 65536

-- the most dumps
abbrev pub dumps_limit : ℕ
dumps_limit = 64

-- the most entries of bitfiles
abbrev pub entries_limit : ℕ
entries_limit = 262144

-- the last number of a change, the last counter of a bitfile identifier, and the greatest number of a site. What counts to it still fits 64 bits, and its next number too
abbrev pub number_limit : ℕ
number_limit = 9223372036854775807

-- the greatest age and the longest hold, in seconds: some 136 years
abbrev pub age_limit : ℕ
age_limit = 4294967295

-- the most bytes that a site may be configured to keep in files and dumps together
abbrev pub cap_limit : ℕ
cap_limit = 268435456

-- the most groups, which are numbered from 1
abbrev pub groups_limit : ℕ
groups_limit = 4

-- the fewest drives of a group: a move mounts two volumes
abbrev pub drives_least : ℕ
drives_least = 2

-- the most drives of a group
abbrev pub drives_limit : ℕ
drives_limit = 16

-- the most volumes of a group
abbrev pub volumes_limit : ℕ
volumes_limit = 16

-- the smallest volume, in bytes
abbrev pub volume_least : ℕ
volume_least = 256

-- the largest volume, in bytes
abbrev pub volume_limit : ℕ
volume_limit = 67108864

-- the most bytes of a group's volumes together
abbrev pub group_size_limit : ℕ
group_size_limit = 268435456

-- the shortest length of chunk that a group may be configured with
abbrev pub chunk_least : ℕ
chunk_least = 64

-- the longest length of chunk that a group may be configured with
abbrev pub chunk_limit : ℕ
chunk_limit = 4194304

-- the greatest percentage of live bytes below which a volume is sparse
abbrev pub sparse_limit : ℕ
sparse_limit = 100

-- the newest format of volumes; the oldest is 1
abbrev pub format_limit : ℕ
format_limit = 2

-- the last epoch of a volume, which is not used again after it
abbrev pub epoch_limit : ℕ
epoch_limit = 18446744073709551615

-- the most workers for sessions
abbrev pub sessions_limit : ℕ
sessions_limit = 64

-- the greatest weight of a file's age, and of its size, for space management
abbrev pub weight_limit : ℕ
weight_limit = 1000000

-- the most jobs that wait in the queue of merges
abbrev pub jobs_limit : ℕ
jobs_limit = 16

-- the most saved tables of a group
abbrev pub saves_limit : ℕ
saves_limit = 4

-- the most bytes of a command's line before its LF, a carriage return counted
abbrev pub line_limit : ℕ
line_limit = 1024

-- the most bytes of a configuration's text
abbrev pub conf_text_limit : ℕ
conf_text_limit = 65536

-- the most digits of a number in a command. So each fits 64 bits
abbrev pub digits_limit : ℕ
digits_limit = 19
