-- One state in which a run may begin, so that the laws are seen to speak of something: a file that is on the disk alone, and
-- two of one bitfile, of which one is on the disk too; a young dump; two groups with a copy of the bitfile each, on a volume
-- of version 1 that is sparse, and on one of version 2.
use Rattle.std.specs.Prelude.{ℕ, ◌+◌, true, false, Option, None, Some, List, [], ◌∷◌}
use Rattle.std.specs.FinMap as map
use Rattle.dm_base.specs.declared.conf.GroupConf.{GroupConf}
use Rattle.dm_base.specs.declared.identifier.Bfid.{Bfid}
use Rattle.dm_base.specs.declared.identifier.Ino.{Ino}
use Rattle.dm_base.specs.declared.serial.Vsn.{Vsn}
use Rattle.dm_base.specs.declared.volume.Chunk.{Chunk}
use Rattle.dm_rules.specs.Known.{known_with_write}
use Rattle.dm_rules.specs.Label.{first_zone}
use Rattle.dm_durable.specs.declared.daemon.Contents.TheVariants.{Regular, Dual, Offline}
use Rattle.dm_durable.specs.declared.daemon.DaemonTables.{DaemonTables}
use Rattle.dm_durable.specs.declared.daemon.Dump.{Dump}
use Rattle.dm_durable.specs.declared.daemon.DumpInode.{DumpInode}
use Rattle.dm_durable.specs.declared.daemon.DumpInode.TheVariants.{Kept, Named as NamedFile}
use Rattle.dm_durable.specs.declared.daemon.Entry.{Entry}
use Rattle.dm_durable.specs.declared.daemon.Inode.{Inode}
use Rattle.dm_durable.specs.declared.group.BitfileRow.{BitfileRow}
use Rattle.dm_durable.specs.declared.group.GroupTables.{GroupTables}
use Rattle.dm_durable.specs.declared.group.VolumeRow.{VolumeRow}
use Rattle.dm_durable.specs.Daemon.{bfid_of}
use Rattle.dm_durable.specs.Tables.{ByName, ByNumber}
use Rattle.dm_model.specs.declared.state.Daemon.{Daemon}
use Rattle.dm_model.specs.declared.state.Group.{Group}
use Rattle.dm_model.specs.declared.state.GroupHistory.{GroupHistory}
use Rattle.dm_model.specs.declared.state.History.{History}
use Rattle.dm_model.specs.declared.state.Image.{Image}
use Rattle.dm_model.specs.declared.state.Joint.{Joint}
use Rattle.dm_model.specs.declared.state.Side.{Side}
use Rattle.sha2.specs.Sha256.{sha256}

-- ---- the daemon

-- the bitfile, and its bytes
abbrev pub bitfile : Bfid
bitfile = record { 0 = bfid_of 1 1 }

abbrev pub stored : List ℕ
stored = 1 ∷ 2 ∷ []

-- the paths /a, /b and /c, by the numbers of their inodes
abbrev pub path_of : ℕ → List ℕ
path_of n = 47 ∷ (96 + n) ∷ []

abbrev pub names : ByName Ino
names = map.insert (map.insert (map.insert map.empty (path_of 1) (record { 0 = 1 })) (path_of 2) (record { 0 = 2 })) (path_of 3) (record { 0 = 3 })

abbrev pub regular : Inode
regular = record { change = 1; contents = Regular (7 ∷ []) }

abbrev pub dual : Inode
dual = record { change = 2; contents = Dual stored bitfile }

-- this one was restored from the dump
abbrev pub offline : Inode
offline = record { change = 3; contents = Offline 2 bitfile }

abbrev pub inodes : ByNumber Inode
inodes = map.insert (map.insert (map.insert map.empty 1 regular) 2 dual) 3 offline

abbrev pub entry : Entry
entry = record {
  len = 2;
  copies = record { group = record { 0 = 1 }; stored = true } ∷ record { group = record { 0 = 2 }; stored = true } ∷ [];
  gone = None;
  dropping = false;
}

abbrev pub entries : ByNumber Entry
entries = map.insert map.empty bitfile.0 entry

abbrev pub dumped : ByName DumpInode
dumped = map.insert (map.insert map.empty (path_of 1) (Kept (7 ∷ []))) (path_of 2) (NamedFile 2 bitfile)

abbrev pub dump : Dump
dump = record { made = record { 0 = 8 }; least = 100; files = dumped }

abbrev pub dump_name : List ℕ
dump_name = 100 ∷ []

abbrev pub daemon_tables : DaemonTables
daemon_tables = record {
  site = 1;
  first = 1;
  begun_age = 100;
  time = record { 0 = 10 };
  change = 3;
  counter = 2;
  age = 100;
  names = names;
  inodes = inodes;
  entries = entries;
  dumps = map.insert map.empty dump_name dump;
}

-- ---- the groups

abbrev pub first_vsn : Vsn
first_vsn = record { 0 = 65 ∷ 65 ∷ 48 ∷ 48 ∷ 48 ∷ 49 ∷ [] }

abbrev pub second_vsn : Vsn
second_vsn = record { 0 = 66 ∷ 66 ∷ 48 ∷ 48 ∷ 48 ∷ 49 ∷ [] }

-- much more was written on it than the one chunk that is left
abbrev pub first_volume : VolumeRow
first_volume = record { slot = 0; version = 1; size = 256; epoch = 1; end = 256; held = None }

abbrev pub second_volume : VolumeRow
second_volume = record { slot = 0; version = 2; size = 256; epoch = 3; end = 178; held = None }

-- a group has one volume, of its format
abbrev pub conf_of : ℕ → Vsn → ℕ → GroupConf
conf_of g vsn format = record {
  group = record { 0 = g };
  drives = 2;
  chunk = 64;
  sparse = 50;
  hold = 10;
  volumes = vsn ∷ [];
  size = 256;
  format = format;
}

-- the bitfile is one chunk, in the first zone of the volume
abbrev pub chunk_of : Vsn → ℕ → Option (List ℕ) → Chunk
chunk_of vsn place sum = record { offset = 0; len = 2; vsn = vsn; zone = first_zone; place = place; sum = sum }

abbrev pub row_of : Vsn → ℕ → Option (List ℕ) → BitfileRow
row_of vsn place sum = record { len = 2; chunks = chunk_of vsn place sum ∷ [] }

abbrev pub group_tables : ℕ → Vsn → VolumeRow → ℕ → Option (List ℕ) → GroupTables
group_tables g vsn v place sum = record {
  group = record { 0 = g };
  time = record { 0 = 10 };
  volumes = map.insert map.empty vsn.0 v;
  bitfiles = map.insert map.empty bitfile.0 (row_of vsn place sum);
}

abbrev pub group_of : ℕ → Vsn → VolumeRow → ℕ → Option (List ℕ) → Group
group_of g vsn v place sum = record {
  conf = conf_of g vsn v.version;
  tables = group_tables g vsn v place sum;
  tips = map.empty;
  reservations = map.empty;
  next_reservation = 0;
  mounts = map.empty;
  next_mount = 0;
  moves = map.empty;
  next_move = 0;
  reuses = map.empty;
  doubt = None;
}

-- of the volume no more is known than the bytes of the chunk
abbrev pub image_of : ℕ → Image
image_of place = record { size = 256; known = known_with_write place stored map.empty }

abbrev pub side_of : ℕ → Vsn → VolumeRow → ℕ → Option (List ℕ) → Side
side_of g vsn v place sum = record {
  group = group_of g vsn v place sum;
  images = map.insert map.empty vsn.0 (image_of place);
  faithful = [];
  copies = map.empty;
  mounts = map.empty;
}

-- behind the header of the zone and that of the chunk
abbrev pub first_side : Side
first_side = side_of 1 first_vsn first_volume 144 None

abbrev pub second_side : Side
second_side = side_of 2 second_vsn second_volume 176 (Some (sha256 stored))

-- ---- the whole

abbrev pub has_bitfile : GroupHistory
has_bitfile = record { committed = map.insert map.empty bitfile.0 tt; deleted = map.empty }

abbrev pub example_history : History
example_history = record {
  contents = map.insert map.empty bitfile.0 stored;
  taken = map.empty;
  groups = map.insert (map.insert map.empty 1 has_bitfile) 2 has_bitfile;
}

abbrev pub example_daemon : Daemon
example_daemon = record { cap = 1000; tables = daemon_tables; requests = map.empty; next_request = 0; doubt = None }

abbrev pub example : Joint
example = record {
  daemon = example_daemon;
  sides = map.insert (map.insert map.empty 1 first_side) 2 second_side;
  workers = map.empty;
  history = example_history;
}
