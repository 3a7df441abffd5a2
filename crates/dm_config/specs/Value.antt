-- What a value of TOML says, where a row of the configuration asks for a number, for copies or for serial numbers.
use Rattle.std.specs.Prelude.{ℕ, suc, ◌+◌, nat_eq, nat_le, Bool, true, not, ◌&&◌, ◌==◌, if◌then◌else◌, ℤ, pos, negsuc, List, [], ◌∷◌, ◌++◌, length, Option, Some, None, is_some, option_map, option_and_then}
use Rattle.std.specs.List.{list_any}
use lib.Pointwise.{pointwise}
use Rattle.dm_base.specs.Naming.{is_all_serial}
use Rattle.dm_base.specs.declared.identifier.GroupId.{GroupId}
use Rattle.dm_base.specs.declared.serial.Vsn.{Vsn}
use Rattle.toml.specs.Data.{Data, table, Items, no_items, item, Members, no_members, member, get_member, as_str, as_integer, as_array, as_table}

-- a number from `low` to `high`
abbrev pub whole_within : ℕ → ℕ → ℤ → Option ℕ
whole_within low high (pos n) = if nat_le low n && nat_le n high then Some n else None
whole_within low high (negsuc n) = None

abbrev pub number_within : ℕ → ℕ → Data → Option ℕ
number_within low high d = option_and_then (whole_within low high) (as_integer d)

-- what a row says: the number that is there, or the default where the key is absent; nothing where that is outside the row
abbrev pub number_in : ℕ → ℕ → Option ℕ → Option Data → Option ℕ
number_in low high default None = default
number_in low high default (Some d) = number_within low high d

-- the members of a table, none where there is no table
abbrev pub members_in : Option Data → Members
members_in None = no_members
members_in (Some (table ms)) = ms
members_in (Some _) = no_members

-- the key of a group in the table of groups: its number, in one digit (48 is `0`)
abbrev pub group_name : ℕ → List ℕ
group_name n = (48 + n) ∷ []

-- a group is configured: its number is 1 to 4, and the table of groups has its key, whatever stands there
abbrev pub is_configured : Members → ℕ → Bool
is_configured groups n = (nat_le 1 n && nat_le n 4) && is_some (get_member (group_name n) groups)

abbrev pub configured_number : Members → ℤ → Option GroupId
configured_number groups (pos n) = if is_configured groups n then Some (record { 0 = n }) else None
configured_number groups (negsuc n) = None

-- the group that a number names
abbrev pub copy_in : Members → Data → Option GroupId
copy_in groups d = option_and_then (configured_number groups) (as_integer d)

abbrev pub two_copies : Option GroupId → Option GroupId → Option (List (Option GroupId))
two_copies (Some a) (Some b) = if a.0 == b.0 then None else Some (Some a ∷ Some b ∷ [])
two_copies _ _ = None

-- one or two different groups that are configured, in the order of the list
abbrev pub copies_of : Members → Items → Option (List (Option GroupId))
copies_of groups (item a no_items) = option_map (λ g. Some g ∷ None ∷ []) (copy_in groups a)
copies_of groups (item a (item b no_items)) = two_copies (copy_in groups a) (copy_in groups b)
copies_of groups _ = None

abbrev pub copies_in : Members → Option Data → Option (List (Option GroupId))
copies_in groups None = None
copies_in groups (Some d) = option_and_then (copies_of groups) (as_array d)

-- how many items a list has
abbrev pub items_length : Items → ℕ
items_length no_items = 0
items_length (item d ds) = suc (items_length ds)

-- the volume is among these
abbrev pub is_among : List ℕ → List Vsn → Bool
is_among text volumes = list_any (λ (v : Vsn). pointwise nat_eq v.0 text) volumes

-- a text that is a serial number, and none of those that are taken
abbrev pub new_serial : List Vsn → List ℕ → Option Vsn
new_serial taken text =
    if (nat_eq (length text) 6 && is_all_serial text) && not (is_among text taken) then Some (record { 0 = text }) else None

-- the serial numbers of a list, each of which is none of those before it and none of those that are taken
abbrev pub serials_in : List Vsn → Items → Option (List Vsn)
serials_in taken no_items = Some []
serials_in taken (item d ds) =
    option_and_then (λ (v : Vsn). option_map (λ vs. v ∷ vs) (serials_in (taken ++ v ∷ []) ds)) (option_and_then (new_serial taken) (as_str d))

-- 1 to 16 volumes
abbrev pub volumes_of : List Vsn → Items → Option (List Vsn)
volumes_of taken ds = if nat_le 1 (items_length ds) && nat_le (items_length ds) 16 then serials_in taken ds else None

abbrev pub volumes_in : List Vsn → Option Data → Option (List Vsn)
volumes_in taken None = None
volumes_in taken (Some d) = option_and_then (volumes_of taken) (as_array d)

-- each key of a table is one of these
abbrev pub is_one_of : List (List ℕ) → List ℕ → Bool
is_one_of names key = list_any (λ name. pointwise nat_eq key name) names

abbrev pub has_only : List (List ℕ) → Members → Bool
has_only names no_members = true
has_only names (member key d ms) = is_one_of names key && has_only names ms

-- each value of a table is a table
abbrev pub are_tables : Members → Bool
are_tables no_members = true
are_tables (member key d ms) = is_some (as_table d) && are_tables ms
