-- When two joint states have the same of a name.
use Rattle.std.specs.Prelude.{◌≡◌, ℕ, Option, None, Some, is_some, List}
use Rattle.std.specs.FinMap as map
use Rattle.dm_model.specs.declared.entry.Name.{Name}
use Rattle.dm_model.specs.declared.entry.Name.TheVariants.{Daemon, Worker, Side}
use Rattle.dm_model.specs.declared.entry.Part.{Part}
use Rattle.dm_model.specs.declared.entry.Part.TheVariants as part
use Rattle.dm_model.specs.declared.state.CopyState.{CopyState}
use Rattle.dm_model.specs.declared.state.Group.{Group}
use Rattle.dm_model.specs.declared.state.Image.{Image}
use Rattle.dm_model.specs.declared.state.Joint.{Joint}
use Rattle.dm_model.specs.declared.state.MountState.{MountState}
use Rattle.dm_model.specs.declared.state.Side.{Side as SideState}

-- ---- the state of a part of a group

-- the library server, and which files are faithful
abbrev pub library_of : Option SideState → Option (Group × List ℕ)
library_of None = None
library_of (Some s) = Some (s.group, s.faithful)

abbrev pub image_of : List ℕ → Option SideState → Option Image
image_of vsn None = None
image_of vsn (Some s) = map.get s.images vsn

abbrev pub copy_of : ℕ → Option SideState → Option CopyState
copy_of b None = None
copy_of b (Some s) = map.get s.copies b

abbrev pub mount_of : ℕ → Option SideState → Option MountState
mount_of m None = None
mount_of m (Some s) = map.get s.mounts m

-- ---- alike

-- the second image is as large as the first, and what is known of it is known of the first too
abbrev pub ForgetsOnly : Option Image → Option Image → Type 0
ForgetsOnly None None = Unit {0}
ForgetsOnly None (Some k) = ⊥
ForgetsOnly (Some i) None = ⊥
ForgetsOnly (Some i) (Some k) =
    (i.size ≡ k.size) × ((place b : ℕ) → map.get k.known place ≡ Some b → map.get i.known place ≡ Some b)

abbrev pub PartsAlike : Part → Option SideState → Option SideState → Type 0
PartsAlike part.Itself a b = library_of a ≡ library_of b
PartsAlike (part.Volume v) a b = ForgetsOnly (image_of v.0 a) (image_of v.0 b)
PartsAlike (part.Copy c) a b = copy_of c.0 a ≡ copy_of c.0 b
PartsAlike (part.Mount m) a b = mount_of m a ≡ mount_of m b

-- The second state has the same of the name as the first. Of a volume it may know less: one that gets version 1 on a file that isn't
-- faithful is forgotten by an event of its group, which isn't about the volume
abbrev pub Alike : Name → Joint → Joint → Type 0
Alike Daemon j k = j.daemon ≡ k.daemon
Alike (Worker w) j k = map.get j.workers w ≡ map.get k.workers w
Alike (Side g p) j k = PartsAlike p (map.get j.sides g.0) (map.get k.sides g.0)

-- the same groups are configured in both
abbrev pub SameGroups : Joint → Joint → Type 0
SameGroups j k = (g : ℕ) → is_some (map.get j.sides g) ≡ is_some (map.get k.sides g)
