-- The zones that a step in doubt fills are in hand.
use Rattle.std.proofs.Common.{◌≡◌, ◌+◌, ◌≤◌, ℕ, Option, Some, None, List, sym, subst, arith}
use Rattle.std.specs.FinMap as map
use Rattle.dm_base.specs.declared.volume.Chunk.{Chunk}
use Rattle.dm_durable.specs.declared.daemon.Entry.{Entry}
use Rattle.dm_durable.specs.declared.group.GroupRecord.{GroupRecord}
use Rattle.dm_durable.specs.declared.group.GroupStep.{GroupStep}
use Rattle.dm_durable.specs.declared.group.GroupStep.TheVariants.{Volume, Commit, Delete, Move, Free, Reuse}
use Rattle.dm_durable.specs.declared.group.VolumeRow.{VolumeRow}
use Rattle.dm_durable.specs.Tables.{ByNumber, ByName}
use Rattle.dm_durable.specs.Volumes.{tip_in}
use Rattle.dm_model.specs.declared.state.Side.{Side}
use Rattle.dm_invariant.specs.Doubts.{ChunkInHand, GroupMayLandIf, GroupStepNeeds}
use Rattle.dm_invariant.specs.Places.{ChunkCovers, IsDoubted, IsPut, ZoneCovers}
use Rattle.dm_invariant.proofs.Options.{same_row}

-- the bytes of a chunk lie in the zone that it names
pub zone_covers : (volumes : ByName VolumeRow) (tips : ByName ℕ) (c : Chunk) (vsn : List ℕ) (place : ℕ) → ChunkInHand volumes tips c
    → ChunkCovers c vsn place → ZoneCovers c vsn place
zone_covers volumes tips c vsn place h covers =
    let headed = h.headed in
    let low = covers.low in
    record { same = covers.same; low = omega (arith, headed, low); high = covers.high }

-- and end before the tip
pub ends_below : (volumes : ByName VolumeRow) (tips : ByName ℕ) (c : Chunk) (v : VolumeRow) → ChunkInHand volumes tips c
    → map.get volumes c.vsn.0 ≡ Some v → c.place + c.len ≤ tip_in tips c.vsn.0 v
ends_below volumes tips c v h is =
    subst (λ (x : VolumeRow). c.place + c.len ≤ tip_in tips c.vsn.0 x) (same_row (map.get volumes c.vsn.0) h.volume v h.is is) h.within

module _ (g : ℕ) (entries : ByNumber Entry) (contents : ByNumber (List ℕ)) (taken deleted : ByNumber (Unit {0})) (s : Side) where
  step_in_hand : (now : ℕ) (step : GroupStep) → GroupStepNeeds g entries contents taken deleted s now step → (c : Chunk) → IsPut c step
      → ChunkInHand s.group.tables.volumes s.group.tips c
  step_in_hand now (Volume vsn slot version size) needs c put = absurd put
  step_in_hand now (Commit b len chunks) needs c put = needs.puts.hand c put
  step_in_hand now (Delete b) needs c put = absurd put
  step_in_hand now (Move b from to) needs c put = needs.hand c put
  step_in_hand now (Free vsn) needs c put = absurd put
  step_in_hand now (Reuse vsn epoch version) needs c put = absurd put

  pub doubt_in_hand : (doubt : Option GroupRecord) → GroupMayLandIf g entries contents taken deleted s doubt → (c : Chunk) → IsDoubted c doubt
      → ChunkInHand s.group.tables.volumes s.group.tips c
  doubt_in_hand None may c put = absurd put
  doubt_in_hand (Some r) may c put = step_in_hand r.time.0 r.step may.needs c put
