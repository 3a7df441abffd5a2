-- A mount of any volume is told whether the tables have the volume.
use Rattle.std.proofs.Common.{◌≡◌, ℕ, Bool, true, false, cond, nat_eq, Option, None, Some, List, [], ◌∷◌, is_some, sym, ap, ◌∙◌}
use Rattle.std.specs.FinMap as map
use Rattle.dm_base.specs.declared.identifier.Bfid.{Bfid}
use Rattle.dm_base.specs.declared.identifier.GroupId.{GroupId}
use Rattle.dm_base.specs.declared.serial.Vsn.{Vsn}
use Rattle.dm_base.specs.declared.volume.Chunk.{Chunk}
use Rattle.dm_base.specs.declared.volume.Piece.{Piece}
use Rattle.dm_durable.specs.declared.group.BitfileRow.{BitfileRow}
use Rattle.dm_durable.specs.declared.group.VolumeRow.{VolumeRow}
use Rattle.dm_durable.specs.Group.{chunk_at}
use Rattle.dm_durable.specs.Volumes.{LiveChunk, destination_in, first_on, is_freeable_in, reusable_in}
use Rattle.dm_rules.specs.declared.space.Space.{Space}
use Rattle.std.proofs.lemmas.Option.{same_Some}
use Rattle.dm_model.specs.declared.call.GroupCall.{GroupCall}
use Rattle.dm_model.specs.declared.call.GroupCall.TheVariants as group_call
use Rattle.dm_model.specs.declared.plan.Opening.{Opening}
use Rattle.dm_model.specs.declared.state.Joint.{Joint}
use Rattle.dm_model.specs.declared.state.Mounted.{Mounted}
use Rattle.dm_model.specs.declared.state.Moving.{Moving}
use Rattle.dm_model.specs.declared.state.Reserved.{Reserved}
use Rattle.dm_model.specs.declared.state.Reusing.{Reusing}
use Rattle.dm_model.specs.declared.state.Side.{Side}
use Rattle.dm_model.specs.Effects.{after_ending, after_healing, after_mark, after_payload}
use Rattle.dm_model.specs.GroupCalls.{abort, add_volume, commit, delete_of, drop_move, free, free_of, group_plan, merge_first, merge_to, mount_chunk}
use Rattle.dm_model.specs.GroupCalls.{mount_chunk_of, mount_new, mount_piece, mount_piece_of, move_done, piece_at, reuse, reuse_first, unmount, group_time}
use Rattle.dm_model.specs.Volumes.{usage_of}
use Rattle.dm_model.specs.Plan.{Plan}
use Rattle.dm_model.specs.SideShare.{side_without_doubt}
use Rattle.dm_model.proofs.Shares.{healing-at}
use Rattle.dm_once.proofs.MissingParts.{AnyMark, OpensListed, SideListed, SparesMounts, listed_doubted, listed_ended, listed_failed, listed_marked}
use Rattle.dm_once.proofs.MissingParts.{listed_opened, listed_paid, listed_settled}
use Rattle.dm_once.proofs.SidesAlong.{OpensIf}

abbrev pub MadeListed : Joint → Opening → Type 0
MadeListed j o =
    OpensIf SideListed SparesMounts AnyMark OpensListed listed_ended listed_settled listed_paid listed_doubted listed_marked listed_failed listed_opened j o

module _ (j : Joint) (w : ℕ) (g : GroupId) (s : Side) (side : map.get j.sides g.0 ≡ Some s) where
  abbrev pub Makes : Plan → Type 0
  Makes p = MadeListed (after_mark w p.mark (after_payload p.payload (after_healing p.heals p.component (after_ending w p.ends j)))) p.opens

  any_mounted : (vsn : Vsn) (m : ℕ) → Makes (mount_new g s.group vsn m)
  any_mounted vsn m = λ x at p.
      let same : side_without_doubt true s ≡ x = same_Some _ x (sym (healing-at g true j.sides s side) ∙ at) in
      ap (λ (y : Side). is_some (map.get y.group.tables.volumes vsn.0)) same

  volume_added : (m now : ℕ) (o : Option Mounted) → Makes (add_volume g s.group m now o)
  volume_added m now None = tt
  volume_added m now (Some x) = tt

  volume_reused : (m now : ℕ) (o : Option Reusing) → Makes (reuse g s.group m now o)
  volume_reused m now None = tt
  volume_reused m now (Some x) = tt

  piece_mounted_of : (r : Reserved) (k m : ℕ) (o : Option Piece) → Makes (mount_piece_of g s.group r k m o)
  piece_mounted_of r k m None = tt
  piece_mounted_of r k m (Some p) = λ x at q. tt

  piece_mounted : (k m : ℕ) (o : Option Reserved) → Makes (mount_piece g s.group k m o)
  piece_mounted k m None = tt
  piece_mounted k m (Some r) = piece_mounted_of r k m (piece_at k r.pieces)

  chunk_mounted_of : (b : Bfid) (m : ℕ) (o : Option Chunk) → Makes (mount_chunk_of g s.group b m o)
  chunk_mounted_of b m None = tt
  chunk_mounted_of b m (Some c) = λ x at q. tt

  at_end : (q p : Plan) (end : Bool) → Makes q → Makes p → Makes (cond end q p)
  at_end q p true is_q is_p = is_q
  at_end q p false is_q is_p = is_p

  chunk_mounted : (b : Bfid) (offset m : ℕ) (o : Option BitfileRow) → Makes (mount_chunk g s.group b offset m o)
  chunk_mounted b offset m None = chunk_mounted_of b m None
  chunk_mounted b offset m (Some row) = at_end _ _ (nat_eq offset row.len) tt (chunk_mounted_of b m (chunk_at offset row.chunks))

  unmounted : (m : ℕ) (o : Option Mounted) → Makes (unmount g m o)
  unmounted m None = tt
  unmounted m (Some x) = tt

  committed : (n : ℕ) (sums : List (List ℕ)) (now : ℕ) (o : Option Reserved) → Makes (commit g s.group n sums now o)
  committed n sums now None = tt
  committed n sums now (Some r) = tt

  aborted : (n : ℕ) (o : Option Reserved) → Makes (abort g n o)
  aborted n None = tt
  aborted n (Some r) = tt

  deleted : (b : Bfid) (now : ℕ) (there : Bool) → Makes (delete_of g s.group b now there)
  deleted b now true = tt
  deleted b now false = tt

  merged_to : (merged : List Vsn) (l : LiveChunk) (job from to : ℕ) (o : Option Space) → Makes (merge_to g s.group merged l job from to o)
  merged_to merged l job from to None = tt
  merged_to merged l job from to (Some p) = λ x at q. tt

  merged_first : (merged : List Vsn) (job from to : ℕ) (o : Option LiveChunk) → Makes (merge_first g s.group merged job from to o)
  merged_first merged job from to None = tt
  merged_first merged job from to (Some l) =
      merged_to merged l job from to (destination_in (usage_of s.group) merged s.group.tables.volumes l.chunk.len)

  moved : (job : ℕ) (sum : Option (List ℕ)) (now : ℕ) (o : Option Moving) → Makes (move_done g s.group job sum now o)
  moved job sum now None = tt
  moved job sum now (Some x) = tt

  move_dropped : (job : ℕ) (o : Option Moving) → Makes (drop_move g job o)
  move_dropped job None = tt
  move_dropped job (Some x) = tt

  freed_of : (vsn : Vsn) (now : ℕ) (freed : Bool) → Makes (free_of g s.group vsn now freed)
  freed_of vsn now true = tt
  freed_of vsn now false = tt

  freed : (vsn : Vsn) (now : ℕ) (o : Option VolumeRow) → Makes (free g s.group vsn now o)
  freed vsn now None = tt
  freed vsn now (Some v) = freed_of vsn now (is_freeable_in (usage_of s.group) s.group.tables vsn.0 v)

  reuse_begun : (m now : ℕ) (vsns : List Vsn) → Makes (reuse_first g s.group m now vsns)
  reuse_begun m now [] = tt
  reuse_begun m now (v ∷ vs) = λ x at q. tt

  -- what a call of the group makes says what is so
  pub plan_makes : (c : GroupCall) → Makes (group_plan g s.group c)
  plan_makes group_call.Missing = tt
  plan_makes (group_call.MountNew vsn m) = any_mounted vsn m
  plan_makes (group_call.AddVolume m now) = volume_added m now.0 (map.get s.group.mounts m)
  plan_makes (group_call.Reserve b len n) = λ x at q. tt
  plan_makes (group_call.MountPiece n k m) = piece_mounted k m (map.get s.group.reservations n)
  plan_makes (group_call.MountChunk b offset m) = chunk_mounted b offset m (map.get s.group.tables.bitfiles b.0)
  plan_makes (group_call.Unmount m) = unmounted m (map.get s.group.mounts m)
  plan_makes (group_call.Commit n sums now) = committed n sums now.0 (map.get s.group.reservations n)
  plan_makes (group_call.Abort n) = aborted n (map.get s.group.reservations n)
  plan_makes (group_call.Delete b now) = deleted b now.0 (is_some (map.get s.group.tables.bitfiles b.0))
  plan_makes group_call.MergeList = tt
  plan_makes (group_call.MergeNext merged source job from to) = merged_first merged job from to (first_on s.group.tables.bitfiles source.0)
  plan_makes (group_call.MoveDone job sum now) = moved job sum now.0 (map.get s.group.moves job)
  plan_makes (group_call.DropMove job) = move_dropped job (map.get s.group.moves job)
  plan_makes (group_call.Free vsn now) = freed vsn now.0 (map.get s.group.tables.volumes vsn.0)
  plan_makes (group_call.ReuseNext m now) =
      reuse_begun m now.0 (reusable_in (usage_of s.group) (group_time s.group now.0) s.group.conf.hold s.group.conf.format s.group.tables.volumes)
  plan_makes (group_call.Reuse m now) = volume_reused m now.0 (map.get s.group.reuses m)
  plan_makes group_call.Rows = tt
  plan_makes group_call.Volumes = tt
