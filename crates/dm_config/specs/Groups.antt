-- What a group of the configuration is, where its rows are met.
use Rattle.std.specs.Prelude.{◌≡◌, ℕ, List, [], ◌∷◌, ◌++◌, length, Option, Some, None}
use Rattle.dm_base.specs.declared.serial.Vsn.{Vsn}
use Rattle.dm_base.specs.declared.conf.GroupConf.{GroupConf}
use Rattle.toml.specs.Data.{Data, Members}
use Rattle.dm_config.specs.Value.{members_in}
use Rattle.dm_config.specs.Rows.{drives_in, chunk_in, sparse_in, hold_in, listed_in, size_in, format_in, group_in}

-- a group with the numbers and volumes that its table says
pub record IsGroup (n : ℕ) (taken : List Vsn) (g : Members) (conf : GroupConf) : Type 0 where
  pub number : conf.group.0 ≡ n
  pub drives : drives_in g ≡ Some conf.drives
  pub chunk : chunk_in g ≡ Some conf.chunk
  pub sparse : sparse_in g ≡ Some conf.sparse
  pub hold : hold_in g ≡ Some conf.hold
  pub volumes : listed_in taken g ≡ Some conf.volumes
  pub size : size_in (length conf.volumes) g ≡ Some conf.size
  pub format : format_in g ≡ Some conf.format

-- a number's own group first, where it is configured, and then the rest
abbrev pub AreGroupsOf : Option Data → ℕ → List Vsn → (List Vsn → List GroupConf → Type 0) → List GroupConf → Type 0
AreGroupsOf None n taken Rest cs = Rest taken cs
AreGroupsOf (Some d) n taken Rest [] = ⊥
AreGroupsOf (Some d) n taken Rest (c ∷ cs) = IsGroup n taken (members_in (Some d)) c × Rest (taken ++ c.volumes) cs

-- the groups of these numbers, without those that aren't configured
abbrev pub AreGroups : Members → List ℕ → List Vsn → List GroupConf → Type 0
AreGroups groups [] taken cs = cs ≡ []
AreGroups groups (n ∷ ns) taken cs = AreGroupsOf (group_in groups n) n taken (AreGroups groups ns) cs

-- what reading one number adds: its group where it is configured, whose volumes are taken from then on
pub record NumberRead (d : Option Data) (n : ℕ) (taken after : List Vsn) (old new : List GroupConf) : Type 0 where
  pub added : List GroupConf
  pub grown : new ≡ old ++ added
  pub group : AreGroupsOf d n taken (λ t cs. (t ≡ after) × (cs ≡ [])) added

-- what reading some numbers adds
pub record Grows (groups : Members) (ns : List ℕ) (taken : List Vsn) (old new : List GroupConf) : Type 0 where
  pub added : List GroupConf
  pub grown : new ≡ old ++ added
  pub are : AreGroups groups ns taken added
