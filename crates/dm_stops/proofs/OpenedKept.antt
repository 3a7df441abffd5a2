-- An opened state keeps the invariant.
use Rattle.std.proofs.Common.{ℕ, is_some, ap, subst, sym, nat_cmp}
use Rattle.std.specs.FinMap as map
use Rattle.dm_model.specs.declared.state.Daemon.{Daemon}
use Rattle.dm_model.specs.declared.state.History.{History}
use Rattle.dm_model.specs.declared.state.Joint.{Joint}
use Rattle.dm_model.specs.declared.state.Side.{Side}
use Rattle.dm_invariant.specs.Catalogue.{CatalogueKept}
use Rattle.dm_invariant.specs.Kept.{InvariantHolds, SideOf, committed_in, deleted_in}
use Rattle.dm_invariant.specs.Opened.{Opened, SideOpened}
use Rattle.dm_invariant.specs.Requests.{RecallsKept}
use Rattle.dm_invariant.specs.Sound.{GroupSound}
use Rattle.dm_invariant.specs.Volumes.{IsNumberOf}
use Rattle.dm_invariant.proofs.LookUps.{each_of_empty}
use Rattle.dm_invariant.proofs.Options.{value_of}
use Rattle.dm_stops.proofs.NothingOpen.{recalls_none}

-- ---- a group

-- what a group ever committed is what it has, and it was told to delete nothing
catalogue_kept : (d : Daemon) (h : History) (g : ℕ) (s : Side) → GroupSound d h g s
    → SideOpened (committed_in (map.get h.groups g)) (deleted_in (map.get h.groups g)) s
    → CatalogueKept g d.tables.entries h.contents h.taken s.group.tables.volumes s.images s.group.tables.bitfiles
    (committed_in (map.get h.groups g)) (deleted_in (map.get h.groups g))
catalogue_kept d h g s k o = record {
  bitfile = k.bitfiles;
  stored = k.stored;
  commits = λ b u is e entry lasting. o.commits b u is;
  commits_made = λ b u is.
      let row = value_of (map.get s.group.tables.bitfiles b) (o.commits b u is) in
      ap is_some (k.bitfiles b row.0 row.1).of.content;
  deletes = each_of_empty nat_cmp _ (deleted_in (map.get h.groups g)) o.deletes;
  deletes_taken = each_of_empty nat_cmp _ (deleted_in (map.get h.groups g)) o.deletes;
}

side_kept : (j : Joint) (g : ℕ) (s : Side) → IsNumberOf g s.group.tables.group.0 → GroupSound j.daemon j.history g s
    → SideOpened (committed_in (map.get j.history.groups g)) (deleted_in (map.get j.history.groups g)) s → SideOf j g s
side_kept j g s number k o = record {
  number = number;
  catalogue = catalogue_kept j.daemon j.history g s k o;
  volumes = k.volumes;
  mounts = k.mounts;
  once = each_of_empty nat_cmp _ s.mounts o.mounts;
  reservations = k.reservations;
  moves = k.moves;
  reuses = k.reuses;
  places = k.places;
  doubt = k.doubt;
}

-- ---- the state

-- an opened state keeps the invariant
pub opened_kept : (j : Joint) → Opened j → InvariantHolds j
opened_kept j o =
    let t = j.daemon.tables in
    record {
      files = o.sound.files;
      dumps = o.sound.dumps;
      taken = o.taken;
      requests = o.sound.requests;
      recalls = subst (λ w. RecallsKept w j.daemon.requests t.entries j.history.contents) (sym o.workers)
          (recalls_none j.daemon.requests t.entries j.history.contents);
      configured = o.fits.entries;
      sides = λ g s is. side_kept j g s (o.fits.sides g s is) (o.sound.groups g s is) (o.sides g s is);
      doubt = o.sound.doubt;
    }
