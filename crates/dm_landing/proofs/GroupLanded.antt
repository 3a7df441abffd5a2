-- The invariant of a side is kept as a record of its group lands, whatever the record is.
use Rattle.std.proofs.Common.{◌≡◌, ℕ, true, List, Some, is_some}
use Rattle.std.specs.FinMap as map
use Rattle.dm_base.specs.declared.identifier.GroupId.{GroupId}
use Rattle.dm_base.specs.declared.identifier.Secs.{Secs}
use Rattle.dm_tables.specs.Rows.{EachRow}
use Rattle.dm_durable.specs.declared.daemon.Entry.{Entry}
use Rattle.dm_durable.specs.declared.group.GroupRecord.{GroupRecord}
use Rattle.dm_durable.specs.declared.group.GroupStep.{GroupStep}
use Rattle.dm_durable.specs.declared.group.GroupStep.TheVariants.{Volume, Commit, Delete, Move, Free, Reuse}
use Rattle.dm_durable.specs.Tables.{ByNumber}
use Rattle.dm_model.specs.declared.plan.Payload.TheVariants as payload
use Rattle.dm_model.specs.declared.state.OpenRequest.{OpenRequest}
use Rattle.dm_model.specs.declared.state.Side.{Side}
use Rattle.dm_model.specs.SideShare.{side_after_payload, side_without_doubt}
use Rattle.dm_invariant.specs.Doubts.{GroupMayLand}
use Rattle.dm_invariant.specs.Kept.{SideKept}
use Rattle.dm_invariant.specs.Places.{PlacesKept}
use Rattle.dm_landing.proofs.VolumeAdded.{volume_added}
use Rattle.dm_landing.proofs.VolumeBitfiles.{bitfile_deleted}
use Rattle.dm_landing.proofs.VolumeCommitted.{bitfile_committed}
use Rattle.dm_landing.proofs.VolumeFreed.{volume_freed}
use Rattle.dm_landing.proofs.VolumeMoved.{chunk_moved}
use Rattle.dm_landing.proofs.VolumeReused.{volume_reused_lands}

-- what a group ever committed, after a step
abbrev pub committed_after : GroupStep → ByNumber (Unit {0}) → ByNumber (Unit {0})
committed_after (Volume vsn slot version size) committed = committed
committed_after (Commit b len chunks) committed = map.insert committed b.0 tt
committed_after (Delete b) committed = committed
committed_after (Move b from to) committed = committed
committed_after (Free vsn) committed = committed
committed_after (Reuse vsn epoch version) committed = committed

-- what a side needs for a record to land now: it may land, and no place of a chunk that it puts on volumes is another's
pub record MayLandNow (g : ℕ) (entries : ByNumber Entry) (contents : ByNumber (List ℕ)) (taken deleted : ByNumber (Unit {0})) (s : Side)
    (r : GroupRecord) : Type 0 where
  pub may : GroupMayLand g entries contents taken deleted s r
  pub places : PlacesKept s.group.tables.bitfiles s.group.reservations s.group.moves (Some r)

module _ (entries : ByNumber Entry) (contents : ByNumber (List ℕ)) (taken : ByNumber (Unit {0})) (requests : ByNumber OpenRequest) (g : ℕ)
    (committed deleted : ByNumber (Unit {0})) (s : Side) (h : GroupId) (dropping : EachRow entries (λ b e. e.dropping ≡ is_some (map.get taken b)))
    (k : SideKept entries contents taken requests g committed deleted s) where
  abbrev landed : GroupRecord → Side
  landed r = side_after_payload (Some (payload.Group h r)) (side_without_doubt true s)

  step_lands : (time : Secs) (step : GroupStep) → MayLandNow g entries contents taken deleted s (record { time = time; step = step })
      → SideKept entries contents taken requests g (committed_after step committed) deleted (landed (record { time = time; step = step }))
  step_lands time (Volume vsn slot version size) m =
      volume_added entries contents taken requests g committed deleted s time vsn slot version size m.may m.places k
  step_lands time (Commit b len chunks) m =
      bitfile_committed entries contents taken requests g committed deleted s time b len chunks m.may m.places k
  step_lands time (Delete b) m =
      bitfile_deleted entries contents taken requests g committed deleted s time b dropping m.may m.places k
  step_lands time (Move b from to) m =
      chunk_moved entries contents taken requests g committed deleted s time b from to m.may m.places k
  step_lands time (Free vsn) m = volume_freed entries contents taken requests g committed deleted s time vsn m.may m.places k
  step_lands time (Reuse vsn epoch version) m =
      volume_reused_lands entries contents taken requests g committed deleted s time vsn epoch version m.may m.places k

  -- whether it was in doubt or is journalled now
  pub group_lands : (r : GroupRecord) → MayLandNow g entries contents taken deleted s r
      → SideKept entries contents taken requests g (committed_after r.step committed) deleted (landed r)
  group_lands r m = step_lands r.time r.step m
