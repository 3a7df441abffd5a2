-- A state that keeps the invariant is sound and fits its configuration; and the copies of a sound state are the contents.
use Rattle.std.proofs.Common.{ℕ}
use Rattle.std.specs.FinMap.{get}
use Rattle.dm_model.specs.declared.state.Daemon.{Daemon}
use Rattle.dm_model.specs.declared.state.History.{History}
use Rattle.dm_model.specs.declared.state.Joint.{Joint}
use Rattle.dm_model.specs.declared.state.Side.{Side}
use Rattle.dm_invariant.specs.Kept.{committed_in, deleted_in, SideKept, InvariantHolds}
use Rattle.dm_invariant.specs.Opened.{IsAsConfigured}
use Rattle.dm_invariant.specs.Sound.{CopiesSound, GroupSound, Sound}
use Rattle.dm_invariant.proofs.Assembled.{copy_of_entry}

group_sound : (d : Daemon) (h : History) (g : ℕ) (s : Side)
    → SideKept d.tables.entries h.contents h.taken d.requests g (committed_in (get h.groups g)) (deleted_in (get h.groups g)) s
    → GroupSound d h g s
group_sound d h g s k = record {
  bitfiles = k.catalogue.bitfile;
  stored = k.catalogue.stored;
  volumes = k.volumes;
  mounts = k.mounts;
  reservations = k.reservations;
  moves = k.moves;
  reuses = k.reuses;
  places = k.places;
  doubt = k.doubt;
}

-- a state that keeps the invariant is sound
pub kept_sound : (j : Joint) → InvariantHolds j → Sound j
kept_sound j k = record {
  files = k.files;
  dumps = k.dumps;
  requests = k.requests;
  groups = λ g s is. group_sound j.daemon j.history g s (k.sides g s is);
  doubt = k.doubt;
}

-- and fits the configuration
pub kept_fits : (j : Joint) → InvariantHolds j → IsAsConfigured j
kept_fits j k = record { entries = k.configured; sides = λ g s is. (k.sides g s is).number }

-- each copy of a sound state is the content of its bitfile
pub copies_sound : (j : Joint) → Sound j → CopiesSound j
copies_sound j sound = λ b e is g s there asked has.
    let k = sound.groups g s there in
    let c = copy_of_entry g j.daemon.tables.entries j.history.contents s.group.tables.volumes s b e k.bitfiles is has in
    record { bytes = c.0; copy = c.1; content = c.2; len = c.3 }
