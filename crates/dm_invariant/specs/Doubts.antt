-- The invariant, of steps in doubt: what a step needs so that it may land now or later, beside its conditions.
use Rattle.std.specs.Prelude.{◌≡◌, ◌+◌, ◌≤◌, ◌<◌, ℕ, Option, None, Some, IsSome, List, length}
use Rattle.std.specs.FinMap as map
use Rattle.dm_base.specs.declared.conf.GroupConf.{GroupConf}
use Rattle.dm_base.specs.declared.identifier.Bfid.{Bfid}
use Rattle.dm_base.specs.declared.identifier.GroupId.{GroupId}
use Rattle.dm_base.specs.declared.identifier.Ino.{Ino}
use Rattle.dm_base.specs.declared.volume.Chunk.{Chunk}
use Rattle.dm_base.specs.declared.volume.Piece.{Piece}
use Rattle.dm_rules.specs.Label.{first_zone}
use Rattle.dm_rules.specs.Version.{chunk_header}
use Rattle.dm_rules.specs.Zone.{zone_header}
use Rattle.dm_tables.specs.Rows.{EachRow}
use Rattle.dm_durable.specs.declared.daemon.Contents.TheVariants.{Making, Offline}
use Rattle.dm_durable.specs.declared.daemon.DaemonRecord.{DaemonRecord}
use Rattle.dm_durable.specs.declared.daemon.DaemonStep.{DaemonStep}
use Rattle.dm_durable.specs.declared.daemon.DaemonStep.TheVariants.{Write, Remove, BeginPut, Stored, EndPut, Release, Taken, Dump, Undump, Restore, HardDelete, Dropped, Restart, Age}
use Rattle.dm_durable.specs.declared.daemon.DaemonTables.{DaemonTables}
use Rattle.dm_durable.specs.declared.daemon.Entry.{Entry}
use Rattle.dm_durable.specs.declared.daemon.Inode.{Inode}
use Rattle.dm_durable.specs.declared.group.GroupRecord.{GroupRecord}
use Rattle.dm_durable.specs.declared.group.GroupStep.{GroupStep}
use Rattle.dm_durable.specs.declared.group.GroupStep.TheVariants.{Volume, Commit, Delete, Move, Free, Reuse}
use Rattle.dm_durable.specs.declared.group.VolumeRow.{VolumeRow}
use Rattle.dm_durable.specs.Tables.{ByNumber, ByName}
use Rattle.dm_durable.specs.Daemon.{after_step, size_of}
use Rattle.dm_durable.specs.DaemonConditions.{MayFollow}
use Rattle.dm_durable.specs.GroupConditions.{MayGroupFollow}
use Rattle.dm_durable.specs.Volumes.{tip_in}
use Rattle.dm_model.specs.declared.state.Image.{Image}
use Rattle.dm_model.specs.declared.state.MountState.{MountState}
use Rattle.dm_model.specs.declared.state.OpenRequest.{OpenRequest}
use Rattle.dm_model.specs.declared.state.Reserved.{Reserved}
use Rattle.dm_model.specs.declared.state.Side.{Side}
use Rattle.dm_invariant.specs.Among.{IsAmong}
use Rattle.dm_invariant.specs.Assemble.{ChunkKnown, SumRight}
use Rattle.dm_invariant.specs.Catalogue.{AskedBitfile}
use Rattle.dm_invariant.specs.Moves.{IsReadyAt}
use Rattle.dm_invariant.specs.Places.{ChunksApart}
use Rattle.dm_invariant.specs.Requests.{PutOpen}
use Rattle.dm_invariant.specs.Volumes.{IsOfConf}

-- ---- the daemon

-- no put of the bitfile is open
abbrev pub NoPutOf : ByNumber OpenRequest → ℕ → Type 0
NoPutOf requests b = PutOpen requests b → ⊥

-- no request of the bitfile is open
abbrev pub NoRequestOf : ByNumber OpenRequest → ℕ → Type 0
NoRequestOf requests b = EachRow requests (λ k r. r.bfid.0 ≡ b → ⊥)

-- where the file of a path is being made into a bitfile, no put of that bitfile is open
abbrev pub NotBeingMade : DaemonTables → ByNumber OpenRequest → List ℕ → Type 0
NotBeingMade t requests path = (n : Ino) (i : Inode) (bytes : List ℕ) (b : Bfid) → map.get t.names path ≡ Some n → map.get t.inodes n.0 ≡ Some i
    → i.contents ≡ Making bytes b → NoPutOf requests b.0

-- each of these groups is configured
abbrev pub AllConfigured : ByNumber Side → List GroupId → Type 0
AllConfigured sides groups = (g : GroupId) → IsAmong g groups → IsSome (map.get sides g.0)

-- a group has the bitfile
pub record InGroup (sides : ByNumber Side) (g b : ℕ) : Type 0 where
  pub side : Side
  pub is : map.get sides g ≡ Some side
  pub there : IsSome (map.get side.group.tables.bitfiles b)

-- what is taken is the content
abbrev pub TakenRight : ByNumber Inode → ByNumber (List ℕ) → ℕ → List ℕ → Type 0
TakenRight inodes contents n bytes =
    (i : Inode) (b : Bfid) (len : ℕ) → map.get inodes n ≡ Some i → i.contents ≡ Offline len b → map.get contents b.0 ≡ Some bytes

-- the bitfile that a step puts on volumes, if it puts one there
abbrev pub PutsBitfile : ℕ → GroupStep → Type 0
PutsBitfile b (Volume vsn slot version size) = ⊥
PutsBitfile b (Commit c len chunks) = c.0 ≡ b
PutsBitfile b (Delete c) = ⊥
PutsBitfile b (Move c from to) = c.0 ≡ b
PutsBitfile b (Free vsn) = ⊥
PutsBitfile b (Reuse vsn epoch version) = ⊥

abbrev pub DoubtPuts : ℕ → Option GroupRecord → Type 0
DoubtPuts b None = ⊥
DoubtPuts b (Some r) = PutsBitfile b r.step

-- a group hasn't the bitfile, and gets it by no step in doubt
pub record NotInGroup (b : ℕ) (s : Side) : Type 0 where
  pub away : map.get s.group.tables.bitfiles b ≡ None
  pub lasting : DoubtPuts b s.group.doubt → ⊥

-- what a step of the daemon needs besides its conditions: files and dumps still fit after a write, a dump or a restore; a
-- put begins where none of the file is open, and ends where none of the bitfile is; a stored copy is in its group; what is
-- taken is the content; no request is open on what a hard delete takes; and what is dropped is in no group. A restart is
-- never in doubt: a load journals it
abbrev pub StepNeeds : DaemonTables → ByNumber OpenRequest → ByNumber (List ℕ) → ℕ → ByNumber Side → DaemonStep → Type 0
StepNeeds t requests contents cap sides (Write path change bytes) = size_of (after_step t (Write path change bytes)) ≤ cap
StepNeeds t requests contents cap sides (Remove path change) = Unit {0}
StepNeeds t requests contents cap sides (BeginPut path b groups) = NotBeingMade t requests path × AllConfigured sides groups
StepNeeds t requests contents cap sides (Stored b g) = InGroup sides g.0 b.0
StepNeeds t requests contents cap sides (EndPut n b dual) = NoPutOf requests b.0
StepNeeds t requests contents cap sides (Release path) = Unit {0}
StepNeeds t requests contents cap sides (Taken n bytes) = TakenRight t.inodes contents n.0 bytes
StepNeeds t requests contents cap sides (Dump name) = size_of (after_step t (Dump name)) ≤ cap
StepNeeds t requests contents cap sides (Undump name) = Unit {0}
StepNeeds t requests contents cap sides (Restore name path target change) = size_of (after_step t (Restore name path target change)) ≤ cap
StepNeeds t requests contents cap sides (HardDelete bfids) = (b : Bfid) → IsAmong b bfids → NoRequestOf requests b.0
StepNeeds t requests contents cap sides (Dropped b) = EachRow sides (λ g s. NotInGroup b.0 s)
StepNeeds t requests contents cap sides Restart = ⊥
StepNeeds t requests contents cap sides (Age age) = Unit {0}

-- a record of the daemon may land
pub record MayLand (t : DaemonTables) (requests : ByNumber OpenRequest) (contents : ByNumber (List ℕ)) (cap : ℕ) (sides : ByNumber Side)
    (r : DaemonRecord) : Type 0 where
  pub follow : MayFollow t r
  pub needs : StepNeeds t requests contents cap sides r.step

-- so may the one in doubt, if there is one
abbrev pub MayLandIf : DaemonTables → ByNumber OpenRequest → ByNumber (List ℕ) → ℕ → ByNumber Side → Option DaemonRecord → Type 0
MayLandIf t requests contents cap sides None = Unit {0}
MayLandIf t requests contents cap sides (Some r) = MayLand t requests contents cap sides r

-- ---- a group

-- the zone of a chunk that a step in doubt puts on a volume lies behind the label of a volume that isn't held, with the headers
-- of the zone and of the chunk before the chunk's bytes, which end before the tip
pub record ChunkInHand (volumes : ByName VolumeRow) (tips : ByName ℕ) (c : Chunk) : Type 0 where
  pub volume : VolumeRow
  pub is : map.get volumes c.vsn.0 ≡ Some volume
  pub usable : volume.held ≡ None
  pub behind : first_zone ≤ c.zone
  pub headed : c.zone + zone_header + chunk_header volume.version ≤ c.place
  pub within : c.place + c.len ≤ tip_in tips c.vsn.0 volume

-- what a step that puts chunks of a bitfile on volumes needs: the bitfile was asked of the group, the chunks are known to be
-- parts of the content with right sums, and their zones are in hand; and the group wasn't told to delete the bitfile
pub record PutNeeds (g : ℕ) (entries : ByNumber Entry) (contents : ByNumber (List ℕ)) (images : ByName Image) (volumes : ByName VolumeRow)
    (tips : ByName ℕ) (deleted : ByNumber (Unit {0})) (b : ℕ) (IsNew : Chunk → Type 0) : Type 0 where
  pub of : AskedBitfile g entries contents b
  pub known : (c : Chunk) → IsNew c → ChunkKnown images of.bytes c
  pub sums : (c : Chunk) → IsNew c → SumRight of.bytes c
  pub hand : (c : Chunk) → IsNew c → ChunkInHand volumes tips c
  pub undeleted : map.get deleted b ≡ None

-- what a commit needs besides: its length is the content's, no place is of two of its chunks, and no reservation is of the
-- bitfile
pub record CommitNeeds (g : ℕ) (entries : ByNumber Entry) (contents : ByNumber (List ℕ)) (images : ByName Image) (volumes : ByName VolumeRow)
    (tips : ByName ℕ) (deleted : ByNumber (Unit {0})) (reservations : ByNumber Reserved) (b len : ℕ) (chunks : List Chunk) : Type 0 where
  pub puts : PutNeeds g entries contents images volumes tips deleted b (λ c. IsAmong c chunks)
  pub whole : length puts.of.bytes ≡ len
  pub apart : ChunksApart chunks
  pub unreserved : EachRow reservations (λ n r. r.bfid.0 ≡ b → ⊥)

-- nobody uses the volume: no mount of it is open, and no reservation has a piece there
pub record IsUnused (mounts : ByNumber MountState) (reservations : ByNumber Reserved) (vsn : List ℕ) : Type 0 where
  pub unmounted : EachRow mounts (λ m x. x.vsn.0 ≡ vsn → ⊥)
  pub unreserved : EachRow reservations (λ n r. (p : Piece) → IsAmong p r.pieces → p.vsn.0 ≡ vsn → ⊥)

-- a new volume is one of the configuration's, with its size, and no mount of it is open
pub record VolumeNeeds (conf : GroupConf) (mounts : ByNumber MountState) (vsn : List ℕ) (size : ℕ) : Type 0 where
  pub configured : IsOfConf conf vsn
  pub sized : size ≡ conf.size
  pub unmounted : EachRow mounts (λ m x. x.vsn.0 ≡ vsn → ⊥)

-- a volume that is freed isn't empty, and nobody uses it
pub record FreeNeeds (volumes : ByName VolumeRow) (tips : ByName ℕ) (mounts : ByNumber MountState) (reservations : ByNumber Reserved)
    (vsn : List ℕ) : Type 0 where
  pub unused : IsUnused mounts reservations vsn
  pub filled : (v : VolumeRow) → map.get volumes vsn ≡ Some v → first_zone < tip_in tips vsn v

-- a volume that is used again is ready at the record's time, and nobody uses it
pub record ReuseNeeds (hold now : ℕ) (volumes : ByName VolumeRow) (tips : ByName ℕ) (mounts : ByNumber MountState) (reservations : ByNumber Reserved)
    (vsn : List ℕ) : Type 0 where
  pub unused : IsUnused mounts reservations vsn
  pub ready : (v : VolumeRow) → map.get volumes vsn ≡ Some v → IsReadyAt now hold (tip_in tips vsn v) v.held

-- what a step of a group needs besides its conditions, at the time of its record
abbrev pub GroupStepNeeds : ℕ → ByNumber Entry → ByNumber (List ℕ) → ByNumber (Unit {0}) → ByNumber (Unit {0}) → Side → ℕ → GroupStep → Type 0
GroupStepNeeds g entries contents taken deleted s now (Volume vsn slot version size) = VolumeNeeds s.group.conf s.mounts vsn.0 size
GroupStepNeeds g entries contents taken deleted s now (Commit b len chunks) =
    CommitNeeds g entries contents s.images s.group.tables.volumes s.group.tips deleted s.group.reservations b.0 len chunks
GroupStepNeeds g entries contents taken deleted s now (Delete b) = IsSome (map.get taken b.0)
GroupStepNeeds g entries contents taken deleted s now (Move b from to) =
    PutNeeds g entries contents s.images s.group.tables.volumes s.group.tips deleted b.0 (λ c. c ≡ to)
GroupStepNeeds g entries contents taken deleted s now (Free vsn) =
    FreeNeeds s.group.tables.volumes s.group.tips s.mounts s.group.reservations vsn.0
GroupStepNeeds g entries contents taken deleted s now (Reuse vsn epoch version) =
    ReuseNeeds s.group.conf.hold now s.group.tables.volumes s.group.tips s.mounts s.group.reservations vsn.0

-- a record of a group may land
pub record GroupMayLand (g : ℕ) (entries : ByNumber Entry) (contents : ByNumber (List ℕ)) (taken deleted : ByNumber (Unit {0})) (s : Side)
    (r : GroupRecord) : Type 0 where
  pub follow : MayGroupFollow s.group.tables r
  pub needs : GroupStepNeeds g entries contents taken deleted s r.time.0 r.step

-- so may the one in doubt, if there is one
abbrev pub GroupMayLandIf : ℕ → ByNumber Entry → ByNumber (List ℕ) → ByNumber (Unit {0}) → ByNumber (Unit {0}) → Side → Option GroupRecord → Type 0
GroupMayLandIf g entries contents taken deleted s None = Unit {0}
GroupMayLandIf g entries contents taken deleted s (Some r) = GroupMayLand g entries contents taken deleted s r
