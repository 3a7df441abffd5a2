-- The room that is kept for steps.
use Rattle.std.proofs.Common.{◌≡◌, ℕ, ◌+◌, ◌-◌, ◌<◌, ◌≤◌, Bool, true, false, cond, List, Result, Ok, Err, OnErr, refl, sym, subst, arith}
use Rattle.dm_base.specs.declared.volume.Chunk.{Chunk}
use Rattle.dm_catalogue.specs.declared.homes.Live.{Live}
use Rattle.dm_catalogue.specs.Sums.{KeepsHomes}
use Rattle.dm_durable.specs.Tables.{ByName}
use Rattle.dm_places.specs.Queue.{Queue}
use Rattle.dm_places.specs.Queues.{HasPlaces, KeepsMore}
use Rattle.dm_places.proofs.OfVolumes.{keeps_nothing}
use Rattle.dm_group_tables.specs.Prepared.{GivesBack, KeepsRoom, UsesRoom}
use Rattle.dm_group_tables.specs.declared.prepared.Step.{Step}
use Rattle.dm_group_tables.specs.declared.tables.Tables.{Tables}

-- a place is used, or a row comes in the place of one that was there
pub used_one : (old new : ℕ) (there : Bool) → new + 1 ≡ cond there (old + 1) old → old ≤ new + 1
used_one old new true is = omega arith
used_one old new false is = omega arith

pub as_many : (old new more : ℕ) → new ≡ old → old ≤ new + more
as_many old new more is = omega arith

pub not_fewer : (old new : ℕ) → new ≡ old → old ≤ new
not_fewer old new is = omega arith

pub one_fewer : (old new : ℕ) → new + 1 ≡ old → old ≤ new + 1
one_fewer old new is = omega arith

pub same_homes : (homes : ByName Live) → KeepsHomes homes homes
same_homes homes = λ v there. there

pub one_more : (old new : ℕ) → new ≡ old + 1 → 0 < new
one_more old new is = omega arith

pub none_more : (old new : ℕ) → new ≡ old → new ≡ old + 0
none_more old new is = omega arith

pub none_fewer : (old new : ℕ) → new ≡ old → new ≡ old - 0
none_fewer old new is = omega arith

pub has_places : (old new : ByName Queue) (cs : List Chunk) → KeepsMore old cs new → HasPlaces new cs
has_places old new cs more = λ v. let p = more.places v in omega arith

-- nothing was taken
pub room_kept : (m : Tables) → KeepsRoom m m
room_kept m = record {
  volumes = omega arith;
  bitfiles = refl;
  chunks = keeps_nothing m.catalogue.queues.rows.rows;
  homes = same_homes m.catalogue.homes.rows;
}

pub at_err : {X Y A : Type 0} (r : Result X Y) → A → OnErr r A
at_err (Ok x) a = tt
at_err (Err e) a = a

-- what a step of this form has, the step has
pub used_as : {old new : Tables} {s t : Step} → s ≡ t → UsesRoom old t new → UsesRoom old s new
used_as {old} {new} is room = subst (λ (z : Step). UsesRoom old z new) (sym is) room

pub given_as : {old new : Tables} {s t : Step} → s ≡ t → GivesBack old t new → GivesBack old s new
given_as {old} {new} is room = subst (λ (z : Step). GivesBack old z new) (sym is) room
