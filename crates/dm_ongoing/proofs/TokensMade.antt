-- What a call of a group makes has new numbers.
use Rattle.std.proofs.Common.{◌+◌, ℕ, Bool, true, false, cond, nat_eq, Option, None, Some, List, [], ◌∷◌, ◌++◌}
use Rattle.std.specs.FinMap as map
use Rattle.std.proofs.lemmas.Bool.{leb-true}
use Rattle.dm_base.specs.declared.identifier.Bfid.{Bfid}
use Rattle.dm_base.specs.declared.identifier.GroupId.{GroupId}
use Rattle.dm_base.specs.declared.serial.Vsn.{Vsn}
use Rattle.dm_base.specs.declared.volume.Chunk.{Chunk}
use Rattle.dm_base.specs.declared.volume.Piece.{Piece}
use Rattle.dm_durable.specs.declared.group.BitfileRow.{BitfileRow}
use Rattle.dm_durable.specs.declared.group.VolumeRow.{VolumeRow}
use Rattle.dm_durable.specs.Group.{chunk_at}
use Rattle.dm_durable.specs.Volumes.{LiveChunk, destination_in, first_on, reusable_in}
use Rattle.dm_rules.specs.declared.space.Space.{Space}
use Rattle.dm_model.specs.declared.answer.Answer.{Answer}
use Rattle.dm_model.specs.declared.call.GroupCall.{GroupCall}
use Rattle.dm_model.specs.declared.call.GroupCall.TheVariants as group_call
use Rattle.dm_model.specs.declared.plan.Opening.TheVariants as opening
use Rattle.dm_model.specs.declared.state.Group.{Group}
use Rattle.dm_model.specs.declared.state.Mounted.{Mounted}
use Rattle.dm_model.specs.declared.state.Moving.{Moving}
use Rattle.dm_model.specs.declared.state.Reserved.{Reserved}
use Rattle.dm_model.specs.declared.state.Reusing.{Reusing}
use Rattle.dm_model.specs.GroupCalls.{abort, add_volume, commit, drop_move, free, group_plan, group_time, merge_first, merge_to, mount_chunk}
use Rattle.dm_model.specs.GroupCalls.{mount_chunk_of, mount_piece, mount_piece_of, move_done, piece_at, reuse, reuse_first, unmount}
use Rattle.dm_model.specs.Guards.{AllHold, Guarded}
use Rattle.dm_model.specs.Plan.{Plan, Needs, guards_always, guards_of, if_accepted}
use Rattle.dm_model.specs.Volumes.{usage_of}
use Rattle.dm_ongoing.proofs.TokensLeft.{AreNew}

abbrev MakesNew : Group → Plan → Type 0
MakesNew group p = AllHold p.making → AreNew group p.opens

-- the guards behind others
behind_hold : (ts us : List Guarded) → AllHold (ts ++ us) → AllHold us
behind_hold [] us hold = hold
behind_hold (t ∷ ts) us hold = behind_hold ts us hold.1

-- a call that is refused makes nothing
pub new_if : (group : Group) (p : Plan) (n : Needs) (o : Option Answer) → MakesNew group p → AllHold (guards_of o p n)
    → AreNew group (if_accepted o opening.Nothing p.opens)
new_if group p n None new hold = new (behind_hold (guards_always p n) p.making hold)
new_if group p n (Some a) new hold = tt

module _ (g : GroupId) (x : Group) where
  volume_added : (m now : ℕ) (o : Option Mounted) → MakesNew x (add_volume g x m now o)
  volume_added m now None hold = tt
  volume_added m now (Some y) hold = tt

  volume_reused : (m now : ℕ) (o : Option Reusing) → MakesNew x (reuse g x m now o)
  volume_reused m now None hold = tt
  volume_reused m now (Some y) hold = tt

  piece_mounted_of : (r : Reserved) (k m : ℕ) (o : Option Piece) → MakesNew x (mount_piece_of g x r k m o)
  piece_mounted_of r k m None hold = tt
  piece_mounted_of r k m (Some p) hold = leb-true x.next_mount m hold.0

  piece_mounted : (k m : ℕ) (o : Option Reserved) → MakesNew x (mount_piece g x k m o)
  piece_mounted k m None hold = tt
  piece_mounted k m (Some r) hold = piece_mounted_of r k m (piece_at k r.pieces) hold

  chunk_mounted_of : (b : Bfid) (m : ℕ) (o : Option Chunk) → MakesNew x (mount_chunk_of g x b m o)
  chunk_mounted_of b m None hold = tt
  chunk_mounted_of b m (Some c) hold = leb-true x.next_mount m hold.0

  at_end : (q p : Plan) (end : Bool) → MakesNew x q → MakesNew x p → MakesNew x (cond end q p)
  at_end q p true is_q is_p = is_q
  at_end q p false is_q is_p = is_p

  chunk_mounted : (b : Bfid) (offset m : ℕ) (o : Option BitfileRow) → MakesNew x (mount_chunk g x b offset m o)
  chunk_mounted b offset m None hold = chunk_mounted_of b m None hold
  chunk_mounted b offset m (Some row) hold =
      at_end _ _ (nat_eq offset row.len) (λ h. tt) (chunk_mounted_of b m (chunk_at offset row.chunks)) hold

  unmounted : (m : ℕ) (o : Option Mounted) → MakesNew x (unmount g m o)
  unmounted m None hold = tt
  unmounted m (Some y) hold = tt

  committed : (n : ℕ) (sums : List (List ℕ)) (now : ℕ) (o : Option Reserved) → MakesNew x (commit g x n sums now o)
  committed n sums now None hold = tt
  committed n sums now (Some r) hold = tt

  aborted : (n : ℕ) (o : Option Reserved) → MakesNew x (abort g n o)
  aborted n None hold = tt
  aborted n (Some r) hold = tt

  merged_to : (merged : List Vsn) (l : LiveChunk) (job from to : ℕ) (o : Option Space) → MakesNew x (merge_to g x merged l job from to o)
  merged_to merged l job from to None hold = tt
  merged_to merged l job from to (Some p) hold =
      (leb-true x.next_move job hold.0, leb-true x.next_mount from hold.1.0, leb-true (from + 1) to hold.1.1.0)

  merged_first : (merged : List Vsn) (job from to : ℕ) (o : Option LiveChunk) → MakesNew x (merge_first g x merged job from to o)
  merged_first merged job from to None hold = tt
  merged_first merged job from to (Some l) hold =
      merged_to merged l job from to (destination_in (usage_of x) merged x.tables.volumes l.chunk.len) hold

  moved : (job : ℕ) (sum : Option (List ℕ)) (now : ℕ) (o : Option Moving) → MakesNew x (move_done g x job sum now o)
  moved job sum now None hold = tt
  moved job sum now (Some y) hold = tt

  move_dropped : (job : ℕ) (o : Option Moving) → MakesNew x (drop_move g job o)
  move_dropped job None hold = tt
  move_dropped job (Some y) hold = tt

  freed : (vsn : Vsn) (now : ℕ) (o : Option VolumeRow) → MakesNew x (free g x vsn now o)
  freed vsn now None hold = tt
  freed vsn now (Some v) hold = tt

  reuse_begun : (m now : ℕ) (vsns : List Vsn) → MakesNew x (reuse_first g x m now vsns)
  reuse_begun m now [] hold = tt
  reuse_begun m now (v ∷ vs) hold = leb-true x.next_mount m hold.0

  pub plan_new : (c : GroupCall) → MakesNew x (group_plan g x c)
  plan_new group_call.Missing hold = tt
  plan_new (group_call.MountNew vsn m) hold = leb-true x.next_mount m hold.0
  plan_new (group_call.AddVolume m now) hold = volume_added m now.0 (map.get x.mounts m) hold
  plan_new (group_call.Reserve b len n) hold = leb-true x.next_reservation n hold.0
  plan_new (group_call.MountPiece n k m) hold = piece_mounted k m (map.get x.reservations n) hold
  plan_new (group_call.MountChunk b offset m) hold = chunk_mounted b offset m (map.get x.tables.bitfiles b.0) hold
  plan_new (group_call.Unmount m) hold = unmounted m (map.get x.mounts m) hold
  plan_new (group_call.Commit n sums now) hold = committed n sums now.0 (map.get x.reservations n) hold
  plan_new (group_call.Abort n) hold = aborted n (map.get x.reservations n) hold
  plan_new (group_call.Delete b now) hold = tt
  plan_new group_call.MergeList hold = tt
  plan_new (group_call.MergeNext merged source job from to) hold = merged_first merged job from to (first_on x.tables.bitfiles source.0) hold
  plan_new (group_call.MoveDone job sum now) hold = moved job sum now.0 (map.get x.moves job) hold
  plan_new (group_call.DropMove job) hold = move_dropped job (map.get x.moves job) hold
  plan_new (group_call.Free vsn now) hold = freed vsn now.0 (map.get x.tables.volumes vsn.0) hold
  plan_new (group_call.ReuseNext m now) hold =
      reuse_begun m now.0 (reusable_in (usage_of x) (group_time x now.0) x.conf.hold x.conf.format x.tables.volumes) hold
  plan_new (group_call.Reuse m now) hold = volume_reused m now.0 (map.get x.reuses m) hold
  plan_new group_call.Rows hold = tt
  plan_new group_call.Volumes hold = tt
