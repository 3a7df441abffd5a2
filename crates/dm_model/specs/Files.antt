-- What the daemon tells of its files.
--
-- A file is known by its path, and its inode by its number: requests know the number alone, so what is said of a file
-- takes both. The state of a file is read off what it holds and off the open requests.
use Rattle.std.specs.Prelude.{ℕ, Bool, true, false, cond, ◌&&◌, Option, None, Some, List, [], ◌∷◌, nat_eq}
use Rattle.std.specs.List.{flat_map}
use Rattle.std.specs.FinMap as map
use Rattle.dm_base.specs.declared.identifier.Bfid.{Bfid}
use Rattle.dm_base.specs.declared.identifier.GroupId.{GroupId}
use Rattle.dm_base.specs.declared.identifier.Ino.{Ino}
use Rattle.dm_base.specs.declared.reply.FileState.{FileState}
use Rattle.dm_base.specs.declared.reply.FileState.TheVariants.{Regular, Migrating, Dual, Offline, Unmigrating}
use Rattle.dm_base.specs.declared.request.FileRow.{FileRow}
use Rattle.dm_durable.specs.declared.daemon.Contents.{Contents}
use Rattle.dm_durable.specs.declared.daemon.Contents.TheVariants as contents
use Rattle.dm_durable.specs.declared.daemon.Entry.{Entry}
use Rattle.dm_durable.specs.declared.daemon.Inode.{Inode}
use Rattle.dm_durable.specs.Entries.{groups_asked}
use Rattle.dm_durable.specs.Inodes.{length_of}
use Rattle.dm_durable.specs.Tables.{ByNumber}
use Rattle.dm_model.specs.declared.state.Daemon.{Daemon}
use Rattle.dm_model.specs.declared.state.OpenRequest.{OpenRequest}
use Rattle.dm_model.specs.declared.state.RequestKind.{RequestKind}
use Rattle.dm_model.specs.declared.state.RequestKind.TheVariants.{Put, Recall}
use Rattle.dm_tables.specs.Rows.{any}

-- ---- files

-- a file: the number of its inode, and the inode
pub record File : Type 0 where
  pub number : ℕ
  pub inode : Inode

abbrev pub file_of : ℕ → Option Inode → Option File
file_of n None = None
file_of n (Some i) = Some (record { number = n; inode = i })

abbrev pub file_named : ByNumber Inode → Option Ino → Option File
file_named inodes None = None
file_named inodes (Some n) = file_of n.0 (map.get inodes n.0)

-- the file of a path
abbrev pub file_at : Daemon → List ℕ → Option File
file_at d path = file_named d.tables.inodes (map.get d.tables.names path)

-- the length of a file, if it is there
abbrev pub length_at : Option File → ℕ
length_at None = 0
length_at (Some f) = length_of f.inode.contents

-- ---- open requests

abbrev pub is_put : RequestKind → Bool
is_put Put = true
is_put Recall = false

abbrev pub is_recall : RequestKind → Bool
is_recall Put = false
is_recall Recall = true

-- whether it is a put of the bitfile
abbrev pub is_put_of : ℕ → OpenRequest → Bool
is_put_of b r = is_put r.kind && nat_eq r.bfid.0 b

abbrev pub has_open_put : ByNumber OpenRequest → ℕ → Bool
has_open_put requests b = any (λ k r. is_put_of b r) requests

-- whether it is a recall of the inode
abbrev pub is_recall_on : ℕ → OpenRequest → Bool
is_recall_on n r = is_recall r.kind && nat_eq r.ino.0 n

abbrev pub has_open_recall : ByNumber OpenRequest → ℕ → Bool
has_open_recall requests n = any (λ k r. is_recall_on n r) requests

-- whether a request of either kind is open on the bitfile
abbrev pub has_open_request : ByNumber OpenRequest → ℕ → Bool
has_open_request requests b = any (λ k r. nat_eq r.bfid.0 b) requests

-- ---- states

-- the state of a file whose inode has this number and holds this
abbrev pub state_of : ByNumber OpenRequest → ℕ → Contents → FileState
state_of requests n (contents.Regular bytes) = Regular
state_of requests n (contents.Making bytes b) = cond (has_open_put requests b.0) Migrating Regular
state_of requests n (contents.Dual bytes b) = Dual
state_of requests n (contents.Offline len b) = cond (has_open_recall requests n) Unmigrating Offline

abbrev pub is_regular : FileState → Bool
is_regular Regular = true
is_regular Migrating = false
is_regular Dual = false
is_regular Offline = false
is_regular Unmigrating = false

abbrev pub is_dual : FileState → Bool
is_dual Regular = false
is_dual Migrating = false
is_dual Dual = true
is_dual Offline = false
is_dual Unmigrating = false

-- whether the bytes are on volumes alone
abbrev pub is_away : FileState → Bool
is_away Regular = false
is_away Migrating = false
is_away Dual = false
is_away Offline = true
is_away Unmigrating = true

-- ---- rows

-- the bitfile that a user is told of: that of a regular file is none
abbrev pub bfid_shown : FileState → Contents → Option Bfid
bfid_shown state (contents.Regular bytes) = None
bfid_shown state (contents.Making bytes b) = cond (is_regular state) None (Some b)
bfid_shown state (contents.Dual bytes b) = Some b
bfid_shown state (contents.Offline len b) = Some b

-- what a user is told of a file
abbrev pub row_of : ByNumber OpenRequest → List ℕ → File → FileRow
row_of requests path f =
    let state = state_of requests f.number f.inode.contents in
    record {
      path = path;
      state = state;
      len = length_of f.inode.contents;
      change = f.inode.change;
      bfid = bfid_shown state f.inode.contents;
    }

abbrev pub row_if : ByNumber OpenRequest → List ℕ → Option File → List FileRow
row_if requests path None = []
row_if requests path (Some f) = row_of requests path f ∷ []

-- the rows of all files, by path
abbrev pub all_rows : Daemon → List FileRow
all_rows d = flat_map (λ e. row_if d.requests e.0 (file_named d.tables.inodes (Some e.1))) (map.entries d.tables.names)

-- ---- groups that are asked for copies

-- those of the two places that are filled
abbrev pub group_if : Option GroupId → List GroupId
group_if None = []
group_if (Some g) = g ∷ []

abbrev pub groups_of : List (Option GroupId) → List GroupId
groups_of asked = flat_map group_if asked

-- the two places that these groups fill, from the first on
abbrev pub places_of : List GroupId → List (Option GroupId)
places_of [] = None ∷ None ∷ []
places_of (g ∷ []) = Some g ∷ None ∷ []
places_of (g ∷ h ∷ rest) = Some g ∷ Some h ∷ []

-- those that an entry asked, in order; none where there is no entry
abbrev pub asked_by : Option Entry → List GroupId
asked_by None = []
asked_by (Some e) = groups_asked e
