-- The joint state before the first event.
use Rattle.std.specs.Prelude.{ℕ, zero, suc, None, List, [], ◌∷◌, ◌++◌}
use Rattle.std.specs.FinMap as map
use Rattle.dm_base.specs.declared.conf.DaemonConf.{DaemonConf}
use Rattle.dm_base.specs.declared.conf.GroupConf.{GroupConf}
use Rattle.dm_base.specs.declared.serial.Vsn.{Vsn}
use Rattle.dm_base.specs.Limits.{volumes_limit}
use Rattle.dm_durable.specs.Daemon.{empty_tables}
use Rattle.dm_durable.specs.Group.{empty_group}
use Rattle.dm_durable.specs.Tables.{ByNumber, ByName}
use Rattle.dm_model.specs.declared.state.Daemon.{Daemon}
use Rattle.dm_model.specs.declared.state.Group.{Group}
use Rattle.dm_model.specs.declared.state.History.{History}
use Rattle.dm_model.specs.declared.state.Image.{Image}
use Rattle.dm_model.specs.declared.state.Joint.{Joint}
use Rattle.dm_model.specs.declared.state.Side.{Side}

-- a daemon with no file and no request
abbrev pub new_daemon : DaemonConf → Daemon
new_daemon conf = record {
  cap = conf.cap;
  tables = empty_tables conf.site conf.first conf.age;
  requests = map.empty;
  next_request = 0;
  doubt = None;
}

-- a group that has no volume yet
abbrev pub new_group : GroupConf → Group
new_group conf = record {
  conf = conf;
  tables = empty_group conf.group;
  tips = map.empty;
  reservations = map.empty;
  next_reservation = 0;
  mounts = map.empty;
  next_mount = 0;
  moves = map.empty;
  next_move = 0;
  reuses = map.empty;
  doubt = None;
}

-- an image for each of the volumes; none of its bytes is known
abbrev pub blank_images : ℕ → List Vsn → ByName Image
blank_images size [] = map.empty
blank_images size (v ∷ vs) = map.insert (blank_images size vs) v.0 (record { size = size; known = map.empty })

abbrev pub slots_below : ℕ → List ℕ
slots_below zero = []
slots_below (suc n) = slots_below n ++ n ∷ []

-- nothing is open, and each file is faithful
abbrev pub new_side : GroupConf → Side
new_side conf = record {
  group = new_group conf;
  images = blank_images conf.size conf.volumes;
  faithful = slots_below volumes_limit;
  copies = map.empty;
  mounts = map.empty;
}

abbrev pub new_sides : List GroupConf → ByNumber Side
new_sides [] = map.empty
new_sides (conf ∷ confs) = map.insert (new_sides confs) conf.group.0 (new_side conf)

-- nothing was ever done
abbrev pub no_history : History
no_history = record { contents = map.empty; taken = map.empty; groups = map.empty }

-- no file, no bitfile and no request; every group is empty, and any byte may stand anywhere on its volumes
abbrev pub empty_joint : DaemonConf → List GroupConf → Joint
empty_joint conf groups =
    record { daemon = new_daemon conf; sides = new_sides groups; workers = map.empty; history = no_history }
