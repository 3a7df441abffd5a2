-- What is printed where a site is not opened: a line that begins with `fatal`.
use Rattle.std.specs.Prelude.{ℕ, List, [], ◌∷◌, ◌++◌, codes, decimal}
use Rattle.dm_base.specs.declared.conf.ConfKey.{ConfKey}
use Rattle.dm_base.specs.declared.conf.ConfKey.TheVariants as key
use Rattle.dm_reply.specs.declared.fatal.Fatal.{Fatal}
use Rattle.dm_reply.specs.declared.fatal.Fatal.TheVariants.{Config, Damaged, Tables}
use Rattle.dm_reply.specs.Text.{finding_text}

-- the key of a group's row, with the group's number in it
abbrev pub group_key_text : ℕ → List ℕ → List ℕ
group_key_text group name = codes "group." ++ decimal group ++ codes "." ++ name

-- a key of the configuration, as the user writes it
abbrev pub key_text : ConfKey → List ℕ
key_text key.Length = codes "length"
key_text key.Toml = codes "toml"
key_text key.Site = codes "site"
key_text key.First = codes "first"
key_text key.Age = codes "age"
key_text key.Cap = codes "cap"
key_text key.Sessions = codes "sessions"
key_text key.Copies = codes "copies"
key_text key.Group = codes "group"
key_text (key.GroupDrives group) = group_key_text group.0 (codes "drives")
key_text (key.GroupChunk group) = group_key_text group.0 (codes "chunk")
key_text (key.GroupSparse group) = group_key_text group.0 (codes "sparse")
key_text (key.GroupHold group) = group_key_text group.0 (codes "hold")
key_text (key.GroupVolumes group) = group_key_text group.0 (codes "volumes")
key_text (key.GroupSize group) = group_key_text group.0 (codes "size")
key_text (key.GroupFormat group) = group_key_text group.0 (codes "format")
key_text key.SpaceHigh = codes "space.high"
key_text key.SpaceLow = codes "space.low"
key_text key.SpaceAhead = codes "space.ahead"
key_text key.SpaceAgeWeight = codes "space.age_weight"
key_text key.SpaceSizeWeight = codes "space.size_weight"
key_text key.Unknown = codes "unknown"

abbrev pub fatal_line : Fatal → List ℕ
fatal_line (Config key) = codes "fatal config " ++ key_text key
fatal_line (Damaged file place) = codes "fatal damaged " ++ decimal file ++ codes " " ++ decimal place
fatal_line (Tables finding) = codes "fatal tables " ++ finding_text finding

abbrev pub fatal_text : Fatal → List ℕ
fatal_text fatal = fatal_line fatal ++ 10 ∷ []
