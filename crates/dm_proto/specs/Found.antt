-- What is found of the words of a line, as the private code finds it: which command, and where one of its
-- words says nothing, that there is none. Grammar says what is meant; that the two agree is proved.
use Rattle.std.specs.Prelude.{◌==◌, ℕ, ◌-◌, nat_le, nat_lt, Bool, true, ◌&&◌, if◌then◌else◌, Option, Some, None, List, [], ◌∷◌, length, codes}
use Rattle.std.specs.Str.{bytes_eq}
use Rattle.std.specs.Str.Parse.{digits_value}
use Rattle.dm_base.specs.Limits.{file_limit, digits_limit}
use Rattle.dm_base.specs.Naming.{is_path_text, is_dump_name_text}
use Rattle.dm_base.specs.declared.identifier.GroupId.{GroupId}
use Rattle.dm_base.specs.declared.identifier.Bfid.{Bfid}
use Rattle.dm_base.specs.declared.command.Command.{Command}
use Rattle.dm_base.specs.declared.command.Command.TheVariants as command
use Rattle.dm_base.specs.declared.command.Prefix.{Prefix}
use Rattle.dm_base.specs.declared.command.Prefix.TheVariants.{Root, Under}
use Rattle.dm_proto.specs.declared.line.Line.{Line}
use Rattle.dm_proto.specs.declared.line.Line.TheVariants as line
use Rattle.dm_proto.specs.declared.line.Opening.{Opening}
use Rattle.dm_proto.specs.declared.verb.OnPath.{OnPath}
use Rattle.dm_proto.specs.declared.verb.OnPath.TheVariants as on_path
use Rattle.dm_proto.specs.declared.verb.OnName.{OnName}
use Rattle.dm_proto.specs.declared.verb.OnName.TheVariants as on_name
use Rattle.dm_proto.specs.declared.verb.OnGroup.{OnGroup}
use Rattle.dm_proto.specs.declared.verb.OnGroup.TheVariants as on_group
use Rattle.dm_proto.specs.declared.verb.OnSave.{OnSave}
use Rattle.dm_proto.specs.declared.verb.OnSave.TheVariants as on_save

-- what a word says, where it does: a path, a name, a number, a group, an identifier, a prefix
abbrev pub path_in : List ℕ → Option (List ℕ)
path_in word = if is_path_text word then Some word else None

abbrev pub name_in : List ℕ → Option (List ℕ)
name_in word = if is_dump_name_text word then Some word else None

abbrev pub is_digit : ℕ → Bool
is_digit b = nat_le 48 b && nat_le b 57

abbrev pub are_digits : List ℕ → Bool
are_digits [] = true
are_digits (b ∷ bs) = is_digit b && are_digits bs

abbrev pub number_in : List ℕ → Option ℕ
number_in word = if nat_lt 0 (length word) && nat_le (length word) digits_limit && are_digits word then Some (digits_value 10 word) else None

abbrev pub group_in : List ℕ → Option GroupId
group_in (digit ∷ []) = if nat_le 49 digit && nat_le digit 52 then Some (record { 0 = digit - 48 }) else None
group_in _ = None

abbrev pub is_hexadecimal : ℕ → Bool
is_hexadecimal b = if nat_le b 57 then nat_le 48 b else nat_le 97 b && nat_le b 102

abbrev pub are_hexadecimal : List ℕ → Bool
are_hexadecimal [] = true
are_hexadecimal (b ∷ bs) = is_hexadecimal b && are_hexadecimal bs

abbrev pub bfid_in : List ℕ → Option Bfid
bfid_in word = if length word == 32 && are_hexadecimal word then Some (record { 0 = digits_value 16 word }) else None

abbrev pub under : Option (List ℕ) → Option Prefix
under None = None
under (Some path) = Some (Under path)

abbrev pub prefix_in : List ℕ → Option Prefix
prefix_in word = if bytes_eq word (codes "/") then Some Root else under (path_in word)

-- the row of a table whose text is the word
abbrev pub row_in : {V : Type 0} → List (List ℕ × V) → List ℕ → Option V
row_in [] word = None
row_in (row ∷ rows) word = if bytes_eq word row.0 then Some row.1 else row_in rows word

abbrev pub bare_commands : List (List ℕ × Command)
bare_commands =
    (codes "ls", command.List) ∷ (codes "hdelete", command.HardDelete) ∷ (codes "space", command.Space) ∷ (codes "audit", command.Audit)
    ∷ (codes "quit", command.Quit) ∷ (codes "shutdown", command.Shutdown) ∷ []

abbrev pub verbs_on_path : List (List ℕ × OnPath)
verbs_on_path =
    (codes "read", on_path.Read) ∷ (codes "put", on_path.Put) ∷ (codes "get", on_path.Get) ∷ (codes "release", on_path.Release)
    ∷ (codes "rm", on_path.Remove) ∷ (codes "attr", on_path.Attr) ∷ []

abbrev pub verbs_on_name : List (List ℕ × OnName)
verbs_on_name = (codes "dump", on_name.Dump) ∷ (codes "undump", on_name.Undump) ∷ []

abbrev pub verbs_on_group : List (List ℕ × OnGroup)
verbs_on_group = (codes "merge", on_group.Merge) ∷ (codes "reuse", on_group.Reuse) ∷ (codes "vols", on_group.Volumes) ∷ []

abbrev pub verbs_on_save : List (List ℕ × OnSave)
verbs_on_save = (codes "snap", on_save.Snap) ∷ (codes "unsnap", on_save.Unsnap) ∷ []

-- a line of these, if they are there
abbrev pub given : {X : Type 0} → Option X → (X → Line) → Line
given None found = line.Syntax
given (Some x) found = found x

-- the same, and otherwise what else there may be
abbrev pub given_or : {X : Type 0} → Option X → (X → Line) → Line → Line
given_or None found other = other
given_or (Some x) found other = found x

abbrev pub command_on_path : OnPath → List ℕ → Command
command_on_path on_path.Read path = command.Read path
command_on_path on_path.Put path = command.Put path
command_on_path on_path.Get path = command.Get path
command_on_path on_path.Release path = command.Release path
command_on_path on_path.Remove path = command.Remove path
command_on_path on_path.Attr path = command.Attr path

abbrev pub command_on_name : OnName → List ℕ → Command
command_on_name on_name.Dump name = command.Dump name
command_on_name on_name.Undump name = command.Undump name

abbrev pub command_on_group : OnGroup → GroupId → Command
command_on_group on_group.Merge group = command.Merge group
command_on_group on_group.Reuse group = command.Reuse group
command_on_group on_group.Volumes group = command.Volumes group

abbrev pub command_on_save : OnSave → GroupId → List ℕ → Command
command_on_save on_save.Snap group name = command.Snap group name
command_on_save on_save.Unsnap group name = command.Unsnap group name

abbrev pub one_word : List ℕ → Line
one_word word = given (row_in bare_commands word) (λ c. line.Command c)

abbrev pub path_line : OnPath → List ℕ → Line
path_line verb word = given (path_in word) (λ path. line.Command (command_on_path verb path))

abbrev pub name_line : OnName → List ℕ → Line
name_line verb word = given (name_in word) (λ name. line.Command (command_on_name verb name))

abbrev pub group_line : OnGroup → List ℕ → Line
group_line verb word = given (group_in word) (λ group. line.Command (command_on_group verb group))

abbrev pub age_line : List ℕ → Line
age_line word = given (number_in word) (λ age. line.Command (command.Age age))

abbrev pub two_words : List ℕ → List ℕ → Line
two_words first second =
    given_or (row_in verbs_on_path first) (λ verb. path_line verb second)
    (
    given_or (row_in verbs_on_name first) (λ verb. name_line verb second)
    (
    given_or (row_in verbs_on_group first) (λ verb. group_line verb second)
    (
    if bytes_eq first (codes "age") then age_line second
    else if bytes_eq first (codes "audit") && bytes_eq second (codes "deep") then line.Command command.AuditDeep
    else line.Syntax
    )
    )
    )

abbrev pub write_line : List ℕ → List ℕ → Line
write_line path size =
    given (number_in size) (λ size. given (path_in path) (λ path. line.Payload (record { path = path; offset = None; size = size })))

abbrev pub move_line : List ℕ → List ℕ → Line
move_line prefix group =
    given (group_in group) (λ group. given (prefix_in prefix) (λ prefix. line.Command (command.Move prefix group None)))

abbrev pub save_line : OnSave → List ℕ → List ℕ → Line
save_line verb group name =
    given (group_in group) (λ group. given (name_in name) (λ name. line.Command (command_on_save verb group name)))

abbrev pub three_words : List ℕ → List ℕ → List ℕ → Line
three_words first second third =
    if bytes_eq first (codes "write") then write_line second third
    else if bytes_eq first (codes "put") && bytes_eq second (codes "-r") then given (path_in third) (λ path. line.Command (command.PutRelease path))
    else if bytes_eq first (codes "move") then move_line second third
    else given (row_in verbs_on_save first) (λ verb. save_line verb second third)

abbrev pub patch_line : List ℕ → List ℕ → List ℕ → Line
patch_line path offset size =
    given (number_in offset) (λ offset. given (number_in size) (λ size. given (path_in path) (λ path. line.Payload (record { path = path; offset = Some offset; size = size }))))

abbrev pub restore_line : List ℕ → List ℕ → List ℕ → Line
restore_line name path target =
    given (name_in name) (λ name. given (path_in path) (λ path. given (path_in target) (λ target. line.Command (command.Restore name path target))))

abbrev pub move_two_line : List ℕ → List ℕ → List ℕ → Line
move_two_line prefix group second =
    given (group_in group) (λ group. given (group_in second) (λ second.
    if group.0 == second.0 then line.Syntax else given (prefix_in prefix) (λ prefix. line.Command (command.Move prefix group (Some second)))))

abbrev pub salvage_line : List ℕ → List ℕ → List ℕ → Line
salvage_line group name bfid =
    given (group_in group) (λ group. given (bfid_in bfid) (λ bfid. given (name_in name) (λ name. line.Command (command.Salvage group name bfid))))

abbrev pub four_words : List ℕ → List ℕ → List ℕ → List ℕ → Line
four_words first second third fourth =
    if bytes_eq first (codes "patch") then patch_line second third fourth
    else if bytes_eq first (codes "restore") then restore_line second third fourth
    else if bytes_eq first (codes "move") then move_two_line second third fourth
    else if bytes_eq first (codes "salvage") then salvage_line second third fourth
    else line.Syntax

-- what is found of the words of a line
abbrev pub found_in : List (List ℕ) → Line
found_in [] = line.Blank
found_in (a ∷ []) = one_word a
found_in (a ∷ b ∷ []) = two_words a b
found_in (a ∷ b ∷ c ∷ []) = three_words a b c
found_in (a ∷ b ∷ c ∷ d ∷ []) = four_words a b c d
found_in (a ∷ b ∷ c ∷ d ∷ e ∷ ws) = line.Syntax

-- the command of a line with a payload, once the payload is whole
abbrev pub kept_command : List ℕ → Option ℕ → List ℕ → Command
kept_command path None payload = command.Write path payload
kept_command path (Some offset) payload = command.Patch path offset payload

abbrev pub long_command : List ℕ → Option ℕ → ℕ → Command
long_command path None size = command.LongWrite path size
long_command path (Some offset) size = command.LongPatch path offset size

abbrev pub opened_command : Opening → List ℕ → Command
opened_command o payload = if nat_le o.size file_limit then kept_command o.path o.offset payload else long_command o.path o.offset o.size
