-- What a heal and a failed payload leave in doubt keeps a side.
use Rattle.std.proofs.Common.{ℕ, List, Bool, true, false, Option, None, Some}
use Rattle.dm_durable.specs.declared.daemon.Entry.{Entry}
use Rattle.dm_durable.specs.declared.group.GroupRecord.{GroupRecord}
use Rattle.dm_durable.specs.declared.group.GroupStep.{GroupStep}
use Rattle.dm_durable.specs.declared.group.GroupStep.TheVariants.{Volume, Commit, Delete, Move, Free, Reuse}
use Rattle.dm_durable.specs.Tables.{ByNumber}
use Rattle.dm_model.specs.declared.plan.Payload.{Payload}
use Rattle.dm_model.specs.declared.plan.Payload.TheVariants as payload
use Rattle.dm_model.specs.declared.state.OpenRequest.{OpenRequest}
use Rattle.dm_model.specs.declared.state.Side.{Side}
use Rattle.dm_model.specs.GroupShare.{group_with_doubt}
use Rattle.dm_model.specs.SideShare.{side_doubting, side_without_doubt}
use Rattle.dm_invariant.specs.Doubts.{GroupStepNeeds}
use Rattle.dm_invariant.specs.Kept.{SideKept}
use Rattle.dm_landing.proofs.GroupLanded.{MayLandNow}
use Rattle.dm_landing.proofs.GroupLanding.{places_settled}

-- a heal leaves nothing in doubt
pub side_healed : (entries : ByNumber Entry) (contents : ByNumber (List ℕ)) (taken : ByNumber (Unit {0})) (requests : ByNumber OpenRequest)
    (g : ℕ) (committed deleted : ByNumber (Unit {0})) (heals : Bool) (s : Side)
    → SideKept entries contents taken requests g committed deleted s
    → SideKept entries contents taken requests g committed deleted (side_without_doubt heals s)
side_healed entries contents taken requests g committed deleted false s k = k
side_healed entries contents taken requests g committed deleted true s k = record {
  number = k.number;
  catalogue = k.catalogue;
  volumes = k.volumes;
  mounts = k.mounts;
  once = k.once;
  reservations = k.reservations;
  moves = k.moves;
  reuses = k.reuses;
  places = places_settled s s.group.doubt k.places;
  doubt = tt;
}

-- what a step needs doesn't look at what is in doubt
abbrev in_doubt : Option GroupRecord → Side → Side
in_doubt doubt s = record s { group = group_with_doubt doubt s.group }

pub needs_in_doubt : (g : ℕ) (entries : ByNumber Entry) (contents : ByNumber (List ℕ)) (taken deleted : ByNumber (Unit {0})) (s : Side)
    (doubt : Option GroupRecord) (now : ℕ) (step : GroupStep)
    → GroupStepNeeds g entries contents taken deleted s now step → GroupStepNeeds g entries contents taken deleted (in_doubt doubt s) now step
needs_in_doubt g entries contents taken deleted s doubt now (Volume vsn slot version size) n = n
needs_in_doubt g entries contents taken deleted s doubt now (Commit b len chunks) n = n
needs_in_doubt g entries contents taken deleted s doubt now (Delete b) n = n
needs_in_doubt g entries contents taken deleted s doubt now (Move b from to) n = n
needs_in_doubt g entries contents taken deleted s doubt now (Free vsn) n = n
needs_in_doubt g entries contents taken deleted s doubt now (Reuse vsn epoch version) n = n

-- what a payload leaves in doubt, where it failed
abbrev pub MayDoubt : ℕ → ByNumber Entry → ByNumber (List ℕ) → ByNumber (Unit {0}) → ByNumber (Unit {0}) → Side → Option Payload → Type 0
MayDoubt g entries contents taken deleted s None = Unit {0}
MayDoubt g entries contents taken deleted s (Some (payload.Daemon r)) = Unit {0}
MayDoubt g entries contents taken deleted s (Some (payload.Group h r)) = MayLandNow g entries contents taken deleted s r

pub side_in_doubt : (entries : ByNumber Entry) (contents : ByNumber (List ℕ)) (taken : ByNumber (Unit {0})) (requests : ByNumber OpenRequest)
    (g : ℕ) (committed deleted : ByNumber (Unit {0})) (s : Side) (p : Option Payload)
    → MayDoubt g entries contents taken deleted s p
    → SideKept entries contents taken requests g committed deleted s
    → SideKept entries contents taken requests g committed deleted (side_doubting p s)
side_in_doubt entries contents taken requests g committed deleted s None m k = k
side_in_doubt entries contents taken requests g committed deleted s (Some (payload.Daemon r)) m k = k
side_in_doubt entries contents taken requests g committed deleted s (Some (payload.Group h r)) m k = record {
  number = k.number;
  catalogue = k.catalogue;
  volumes = k.volumes;
  mounts = k.mounts;
  once = k.once;
  reservations = k.reservations;
  moves = k.moves;
  reuses = k.reuses;
  places = m.places;
  doubt = record { follow = m.may.follow; needs = needs_in_doubt g entries contents taken deleted s (Some r) r.time.0 r.step m.may.needs };
}
