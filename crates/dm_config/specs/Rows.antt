-- The rows of the configuration in their order, each with its key and whether it is met (docs/FORMATS.md, "Configuration").
use Rattle.std.specs.Prelude.{ℕ, zero, suc, ◌+◌, ◌*◌, nat_le, Bool, true, false, ◌&&◌, if◌then◌else◌, List, [], ◌∷◌, ◌++◌, length, codes, Option, Some, None, is_some, unwrap_or, option_and_then}
use Rattle.dm_base.specs.Limits.{number_limit, age_limit, cap_limit, sessions_limit, drives_least, drives_limit, chunk_least, chunk_limit, sparse_limit, format_limit, volume_least, volume_limit, group_size_limit, weight_limit}
use Rattle.dm_base.specs.declared.conf.ConfKey.{ConfKey}
use Rattle.dm_base.specs.declared.conf.ConfKey.TheVariants as key
use Rattle.dm_base.specs.declared.identifier.GroupId.{GroupId}
use Rattle.dm_base.specs.declared.serial.Vsn.{Vsn}
use Rattle.toml.specs.Data.{Data, Members, no_members, member, get_member, as_table}
use Rattle.dm_config.specs.Value.{number_in, members_in, copies_in, volumes_in, group_name, has_only, are_tables}

-- a row: its key, and whether it is met
abbrev pub Row : Type 0
Row = ConfKey × Bool

-- the first row that is violated
abbrev pub first_violated : List Row → Option ConfKey
first_violated [] = None
first_violated (r ∷ rs) = if r.1 then first_violated rs else Some r.0

-- the numbers at the top
abbrev pub site_in : Members → Option ℕ
site_in t = number_in 1 number_limit None (get_member (codes "site") t)

abbrev pub first_in : Members → Option ℕ
first_in t = number_in 1 number_limit (Some 1) (get_member (codes "first") t)

abbrev pub age_in : Members → Option ℕ
age_in t = number_in 0 age_limit (Some 2592000) (get_member (codes "age") t)

abbrev pub cap_in : Members → Option ℕ
cap_in t = number_in 1 cap_limit (Some 67108864) (get_member (codes "cap") t)

abbrev pub sessions_in : Members → Option ℕ
sessions_in t = number_in 1 sessions_limit (Some 4) (get_member (codes "sessions") t)

-- the table of groups
abbrev pub groups_in : Members → Members
groups_in t = members_in (get_member (codes "group") t)

abbrev pub group_names : List (List ℕ)
group_names = codes "1" ∷ codes "2" ∷ codes "3" ∷ codes "4" ∷ []

abbrev pub is_filled : Members → Bool
is_filled no_members = false
is_filled (member k d ms) = true

-- one group or more, by their numbers, each of them a table
abbrev pub are_groups : Members → Bool
are_groups ms = is_filled ms && has_only group_names ms && are_tables ms

abbrev pub top_rows : Members → List Row
top_rows t =
    (key.Site, is_some (site_in t)) ∷ (key.First, is_some (first_in t)) ∷ (key.Age, is_some (age_in t)) ∷ (key.Cap, is_some (cap_in t)) ∷ (key.Sessions, is_some (sessions_in t))
    ∷ (key.Copies, is_some (copies_in (groups_in t) (get_member (codes "copies") t))) ∷ (key.Group, are_groups (groups_in t)) ∷ []

-- the numbers of a group
abbrev pub drives_in : Members → Option ℕ
drives_in g = number_in drives_least drives_limit (Some 2) (get_member (codes "drives") g)

abbrev pub chunk_in : Members → Option ℕ
chunk_in g = number_in chunk_least chunk_limit (Some 1048576) (get_member (codes "chunk") g)

abbrev pub sparse_in : Members → Option ℕ
sparse_in g = number_in 1 sparse_limit (Some 50) (get_member (codes "sparse") g)

abbrev pub hold_in : Members → Option ℕ
hold_in g = number_in 0 age_limit (Some 172800) (get_member (codes "hold") g)

-- the group's volumes, none of which a group before it has
abbrev pub listed_in : List Vsn → Members → Option (List Vsn)
listed_in taken g = volumes_in taken (get_member (codes "volumes") g)

abbrev pub listed : List Vsn → Members → List Vsn
listed taken g = unwrap_or (listed_in taken g) []

-- a size that so many volumes may have together
abbrev pub size_fits : ℕ → ℕ → Option ℕ
size_fits volumes size = if nat_le (size * volumes) group_size_limit then Some size else None

abbrev pub size_in : ℕ → Members → Option ℕ
size_in volumes g = option_and_then (size_fits volumes) (number_in volume_least volume_limit None (get_member (codes "size") g))

abbrev pub format_in : Members → Option ℕ
format_in g = number_in 1 format_limit (Some 1) (get_member (codes "format") g)

abbrev pub number_rows : GroupId → Members → List Row
number_rows group g =
    (key.GroupDrives group, is_some (drives_in g)) ∷ (key.GroupChunk group, is_some (chunk_in g)) ∷ (key.GroupSparse group, is_some (sparse_in g)) ∷ (key.GroupHold group, is_some (hold_in g)) ∷ []

abbrev pub size_rows : GroupId → ℕ → Members → List Row
size_rows group volumes g = (key.GroupSize group, is_some (size_in volumes g)) ∷ (key.GroupFormat group, is_some (format_in g)) ∷ []

abbrev pub group_rows : GroupId → List Vsn → Members → List Row
group_rows group taken g =
    number_rows group g ++ (key.GroupVolumes group, is_some (listed_in taken g)) ∷ size_rows group (length (listed taken g)) g

-- the table of a group, where it is configured
abbrev pub group_in : Members → ℕ → Option Data
group_in groups n = get_member (group_name n) groups

-- the rows of a number: those of its group, none where it isn't configured
abbrev pub rows_of_number : Option Data → GroupId → List Vsn → List Row
rows_of_number None group taken = []
rows_of_number (Some d) group taken = group_rows group taken (members_in (Some d))

-- its volumes
abbrev pub volumes_of_number : Option Data → List Vsn → List Vsn
volumes_of_number None taken = []
volumes_of_number (Some d) taken = listed taken (members_in (Some d))

-- the rows of groups, one group after another; what one has listed is taken for those after it
abbrev pub rows_of_groups : Members → List Vsn → List ℕ → List Row
rows_of_groups groups taken [] = []
rows_of_groups groups taken (n ∷ ns) =
    rows_of_number (group_in groups n) (record { 0 = n }) taken
    ++ rows_of_groups groups (taken ++ volumes_of_number (group_in groups n) taken) ns

-- so many numbers, from this one on
abbrev pub counted : ℕ → ℕ → List ℕ
counted zero n = []
counted (suc k) n = n ∷ counted k (n + 1)

-- the bounds and weights of space, in the table of that name, up to the cap
abbrev pub space_in : Members → Members
space_in t = members_in (get_member (codes "space") t)

abbrev pub high_in : ℕ → Members → Option ℕ
high_in cap s = number_in 0 cap (Some cap) (get_member (codes "high") s)

abbrev pub low_in : ℕ → Members → Option ℕ
low_in high s = number_in 0 high (Some high) (get_member (codes "low") s)

abbrev pub ahead_in : ℕ → Members → Option ℕ
ahead_in cap s = number_in 0 cap (Some cap) (get_member (codes "ahead") s)

abbrev pub age_weight_in : Members → Option ℕ
age_weight_in s = number_in 0 weight_limit (Some 1) (get_member (codes "age_weight") s)

abbrev pub size_weight_in : Members → Option ℕ
size_weight_in s = number_in 0 weight_limit (Some 0) (get_member (codes "size_weight") s)

abbrev pub space_rows : ℕ → Members → List Row
space_rows cap s =
    (key.SpaceHigh, is_some (high_in cap s)) ∷ (key.SpaceLow, is_some (low_in (unwrap_or (high_in cap s) 0) s)) ∷ (key.SpaceAhead, is_some (ahead_in cap s))
    ∷ (key.SpaceAgeWeight, is_some (age_weight_in s)) ∷ (key.SpaceSizeWeight, is_some (size_weight_in s)) ∷ []

-- the keys that are known: at the top, in a group, and in the table of space
abbrev pub top_names : List (List ℕ)
top_names = codes "site" ∷ codes "first" ∷ codes "age" ∷ codes "cap" ∷ codes "sessions" ∷ codes "copies" ∷ codes "group" ∷ codes "space" ∷ []

abbrev pub names_in_group : List (List ℕ)
names_in_group = codes "drives" ∷ codes "chunk" ∷ codes "sparse" ∷ codes "hold" ∷ codes "volumes" ∷ codes "size" ∷ codes "format" ∷ []

abbrev pub names_in_space : List (List ℕ)
names_in_space = codes "high" ∷ codes "low" ∷ codes "ahead" ∷ codes "age_weight" ∷ codes "size_weight" ∷ []

-- each group has known keys alone
abbrev pub group_is_known : Data → Bool
group_is_known d = has_only names_in_group (members_in (Some d))

abbrev pub groups_are_known : Members → Bool
groups_are_known no_members = true
groups_are_known (member k d ms) = group_is_known d && groups_are_known ms

-- `space` is absent, or a table with known keys alone
abbrev pub space_is_known : Option Data → Bool
space_is_known None = true
space_is_known (Some d) = is_some (as_table d) && has_only names_in_space (members_in (Some d))

abbrev pub is_known : Members → Bool
is_known t = has_only top_names t && groups_are_known (groups_in t) && space_is_known (get_member (codes "space") t)

-- all rows of a table, in their order
abbrev pub rows_of : Members → List Row
rows_of t =
    top_rows t ++ (rows_of_groups (groups_in t) [] (1 ∷ 2 ∷ 3 ∷ 4 ∷ [])
    ++ (space_rows (unwrap_or (cap_in t) 0) (space_in t) ++ (key.Unknown, is_known t) ∷ []))
