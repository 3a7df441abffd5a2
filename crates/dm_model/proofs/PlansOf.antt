-- The calls of a group and on its volumes are about no other group: so their effects on its side are its share.
use Rattle.std.proofs.Common.{◌≡◌, refl, ℕ, Bool, true, false, cond, Option, None, Some, List, [], ◌∷◌, nat_eq}
use Rattle.std.specs.FinMap as map
use Rattle.dm_base.specs.declared.identifier.Bfid.{Bfid}
use Rattle.dm_base.specs.declared.identifier.GroupId.{GroupId}
use Rattle.dm_base.specs.declared.serial.Vsn.{Vsn}
use Rattle.dm_base.specs.declared.volume.Chunk.{Chunk}
use Rattle.dm_base.specs.declared.volume.Piece.{Piece}
use Rattle.dm_durable.specs.declared.group.BitfileRow.{BitfileRow}
use Rattle.dm_durable.specs.declared.group.VolumeRow.{VolumeRow}
use Rattle.dm_durable.specs.Group.{chunk_at}
use Rattle.dm_durable.specs.Volumes.{LiveChunk, destination_in, first_on, is_freeable_in, reusable_in}
use Rattle.dm_model.specs.declared.answer.Answer.{Answer}
use Rattle.dm_model.specs.declared.call.Component.TheVariants as component
use Rattle.dm_model.specs.declared.call.GroupCall.{GroupCall}
use Rattle.dm_model.specs.declared.call.GroupCall.TheVariants as call
use Rattle.dm_model.specs.declared.call.VolumeCall.{VolumeCall}
use Rattle.dm_model.specs.declared.call.VolumeCall.TheVariants as volume_call
use Rattle.dm_model.specs.declared.plan.Mark.{Mark}
use Rattle.dm_model.specs.declared.plan.Mark.TheVariants as mark
use Rattle.dm_model.specs.declared.plan.Opening.{Opening}
use Rattle.dm_model.specs.declared.plan.Opening.TheVariants as opening
use Rattle.dm_model.specs.declared.plan.Payload.{Payload}
use Rattle.dm_model.specs.declared.state.Group.{Group}
use Rattle.dm_model.specs.declared.state.Image.{Image}
use Rattle.dm_model.specs.declared.state.Joint.{Joint}
use Rattle.dm_model.specs.declared.state.Mounted.{Mounted}
use Rattle.dm_model.specs.declared.state.MountState.{MountState}
use Rattle.dm_model.specs.declared.state.Moving.{Moving}
use Rattle.dm_model.specs.declared.state.Origin.{Origin}
use Rattle.dm_model.specs.declared.state.Origin.TheVariants as origin
use Rattle.dm_model.specs.declared.state.Reserved.{Reserved}
use Rattle.dm_model.specs.declared.state.Reusing.{Reusing}
use Rattle.dm_model.specs.declared.state.Side.{Side}
use Rattle.dm_model.specs.GroupCalls.{abort, add_volume, commit, delete_of, drop_move, free, free_of, group_plan, group_time, merge_first, merge_next, merge_to, mount_chunk, mount_chunk_of, mount_piece, mount_piece_of, move_done, piece_at, reuse, reuse_first, unmount}
use Rattle.dm_model.specs.Plan.{Plan, if_accepted, prepared_plan, refusal_of}
use Rattle.dm_model.specs.SideShare.{side_after_call}
use Rattle.dm_model.specs.Step.{after_call}
use Rattle.dm_model.specs.VolumeCalls.{is_read_of, mounted_plan, read_mark, volume_plan, zone_mark}
use Rattle.dm_model.specs.Volumes.{usage_of}
use Rattle.dm_model.proofs.Shares.{EndsOf, PaysOf, MarksOf, OpensOf, IsOfGroup, side-after_call}
use Rattle.dm_rules.specs.declared.space.Space.{Space}

-- a plan each part of which is about no group or about this one
pub record PlanOf (g : GroupId) (p : Plan) : Type 0 where
  pub component : p.component ≡ component.Group g
  pub ends : EndsOf g p.ends
  pub pays : PaysOf g p.payload
  pub marks : MarksOf g p.mark
  pub opens : OpensOf g p.opens

pays-if : (g : GroupId) (o : Option Answer) (q : Option Payload) → PaysOf g q → PaysOf g (if_accepted o None q)
pays-if g None q of = of
pays-if g (Some refusal) q of = tt

marks-if : (g : GroupId) (o : Option Answer) (x : Mark) → MarksOf g x → MarksOf g (if_accepted o mark.Nothing x)
marks-if g None x of = of
marks-if g (Some refusal) x of = tt

opens-if : (g : GroupId) (o : Option Answer) (x : Opening) → OpensOf g x → OpensOf g (if_accepted o opening.Nothing x)
opens-if g None x of = of
opens-if g (Some refusal) x of = tt

pub prepared-of : (g : GroupId) (p : Plan) → PlanOf g p → IsOfGroup g (prepared_plan p)
prepared-of g p of = record {
  component = of.component;
  ends = of.ends;
  pays = pays-if g (refusal_of p) p.payload of.pays;
  marks = marks-if g (refusal_of p) p.mark of.marks;
  opens = opens-if g (refusal_of p) p.opens of.opens;
}

-- ---- the calls of a group

mount_piece_of-of : (g : GroupId) (x : Group) (r : Reserved) (k m : ℕ) (o : Option Piece) → PlanOf g (mount_piece_of g x r k m o)
mount_piece_of-of g x r k m None = record { component = refl; ends = tt; pays = tt; marks = tt; opens = tt }
mount_piece_of-of g x r k m (Some p) = record { component = refl; ends = tt; pays = tt; marks = tt; opens = refl }

mount_piece-of : (g : GroupId) (x : Group) (k m : ℕ) (o : Option Reserved) → PlanOf g (mount_piece g x k m o)
mount_piece-of g x k m None = record { component = refl; ends = tt; pays = tt; marks = tt; opens = tt }
mount_piece-of g x k m (Some r) = mount_piece_of-of g x r k m (piece_at k r.pieces)

mount_chunk_of-of : (g : GroupId) (x : Group) (b : Bfid) (m : ℕ) (o : Option Chunk) → PlanOf g (mount_chunk_of g x b m o)
mount_chunk_of-of g x b m None = record { component = refl; ends = tt; pays = tt; marks = tt; opens = tt }
mount_chunk_of-of g x b m (Some c) = record { component = refl; ends = tt; pays = tt; marks = tt; opens = refl }

at_end-of : (g : GroupId) (q : Plan) (p : Plan) (end : Bool) → PlanOf g q → PlanOf g p → PlanOf g (cond end q p)
at_end-of g q p true is_q is_p = is_q
at_end-of g q p false is_q is_p = is_p

mount_chunk-of : (g : GroupId) (x : Group) (b : Bfid) (offset m : ℕ) (o : Option BitfileRow) → PlanOf g (mount_chunk g x b offset m o)
mount_chunk-of g x b offset m None = mount_chunk_of-of g x b m None
mount_chunk-of g x b offset m (Some row) =
    at_end-of g _ _ (nat_eq offset row.len)
    (record { component = refl; ends = tt; pays = tt; marks = tt; opens = tt })
    (mount_chunk_of-of g x b m (chunk_at offset row.chunks))

unmount-of : (g : GroupId) (m : ℕ) (o : Option Mounted) → PlanOf g (unmount g m o)
unmount-of g m None = record { component = refl; ends = tt; pays = tt; marks = tt; opens = tt }
unmount-of g m (Some x) = record { component = refl; ends = refl; pays = tt; marks = tt; opens = tt }

add_volume-of : (g : GroupId) (x : Group) (m now : ℕ) (o : Option Mounted) → PlanOf g (add_volume g x m now o)
add_volume-of g x m now None = record { component = refl; ends = tt; pays = tt; marks = tt; opens = tt }
add_volume-of g x m now (Some y) = record { component = refl; ends = refl; pays = refl; marks = tt; opens = tt }

commit-of : (g : GroupId) (x : Group) (n : ℕ) (sums : List (List ℕ)) (now : ℕ) (o : Option Reserved) → PlanOf g (commit g x n sums now o)
commit-of g x n sums now None = record { component = refl; ends = tt; pays = tt; marks = tt; opens = tt }
commit-of g x n sums now (Some r) = record { component = refl; ends = refl; pays = refl; marks = tt; opens = tt }

abort-of : (g : GroupId) (n : ℕ) (o : Option Reserved) → PlanOf g (abort g n o)
abort-of g n None = record { component = refl; ends = tt; pays = tt; marks = tt; opens = tt }
abort-of g n (Some r) = record { component = refl; ends = refl; pays = tt; marks = tt; opens = tt }

delete-of : (g : GroupId) (x : Group) (b : Bfid) (now : ℕ) (there : Bool) → PlanOf g (delete_of g x b now there)
delete-of g x b now true = record { component = refl; ends = tt; pays = refl; marks = refl; opens = tt }
delete-of g x b now false = record { component = refl; ends = tt; pays = tt; marks = refl; opens = tt }

merge_to-of : (g : GroupId) (x : Group) (merged : List Vsn) (l : LiveChunk) (job from to : ℕ) (o : Option Space)
    → PlanOf g (merge_to g x merged l job from to o)
merge_to-of g x merged l job from to None = record { component = refl; ends = tt; pays = tt; marks = tt; opens = tt }
merge_to-of g x merged l job from to (Some s) = record { component = refl; ends = tt; pays = tt; marks = tt; opens = refl }

merge_first-of : (g : GroupId) (x : Group) (merged : List Vsn) (job from to : ℕ) (o : Option LiveChunk)
    → PlanOf g (merge_first g x merged job from to o)
merge_first-of g x merged job from to None = record { component = refl; ends = tt; pays = tt; marks = tt; opens = tt }
merge_first-of g x merged job from to (Some l) =
    merge_to-of g x merged l job from to (destination_in (usage_of x) merged x.tables.volumes l.chunk.len)

merge_next-of : (g : GroupId) (x : Group) (merged : List Vsn) (source : Vsn) (job from to : ℕ)
    → PlanOf g (merge_next g x merged source job from to)
merge_next-of g x merged source job from to =
    let first = merge_first-of g x merged job from to (first_on x.tables.bitfiles source.0) in
    record { component = first.component; ends = first.ends; pays = first.pays; marks = first.marks; opens = first.opens }

move_done-of : (g : GroupId) (x : Group) (job : ℕ) (sum : Option (List ℕ)) (now : ℕ) (o : Option Moving) → PlanOf g (move_done g x job sum now o)
move_done-of g x job sum now None = record { component = refl; ends = tt; pays = tt; marks = tt; opens = tt }
move_done-of g x job sum now (Some y) = record { component = refl; ends = refl; pays = refl; marks = tt; opens = tt }

drop_move-of : (g : GroupId) (job : ℕ) (o : Option Moving) → PlanOf g (drop_move g job o)
drop_move-of g job None = record { component = refl; ends = tt; pays = tt; marks = tt; opens = tt }
drop_move-of g job (Some y) = record { component = refl; ends = refl; pays = tt; marks = tt; opens = tt }

free_of-of : (g : GroupId) (x : Group) (vsn : Vsn) (now : ℕ) (freed : Bool) → PlanOf g (free_of g x vsn now freed)
free_of-of g x vsn now true = record { component = refl; ends = tt; pays = refl; marks = tt; opens = tt }
free_of-of g x vsn now false = record { component = refl; ends = tt; pays = tt; marks = tt; opens = tt }

free-of : (g : GroupId) (x : Group) (vsn : Vsn) (now : ℕ) (o : Option VolumeRow) → PlanOf g (free g x vsn now o)
free-of g x vsn now None = record { component = refl; ends = tt; pays = tt; marks = tt; opens = tt }
free-of g x vsn now (Some v) = free_of-of g x vsn now (is_freeable_in (usage_of x) x.tables vsn.0 v)

reuse_first-of : (g : GroupId) (x : Group) (m now : ℕ) (vsns : List Vsn) → PlanOf g (reuse_first g x m now vsns)
reuse_first-of g x m now [] = record { component = refl; ends = tt; pays = tt; marks = tt; opens = tt }
reuse_first-of g x m now (v ∷ vs) = record { component = refl; ends = tt; pays = tt; marks = tt; opens = refl }

reuse-of : (g : GroupId) (x : Group) (m now : ℕ) (o : Option Reusing) → PlanOf g (reuse g x m now o)
reuse-of g x m now None = record { component = refl; ends = tt; pays = tt; marks = tt; opens = tt }
reuse-of g x m now (Some y) = record { component = refl; ends = refl; pays = refl; marks = tt; opens = tt }

pub group_plan-of : (g : GroupId) (x : Group) (c : GroupCall) → PlanOf g (group_plan g x c)
group_plan-of g x call.Missing = record { component = refl; ends = tt; pays = tt; marks = tt; opens = tt }
group_plan-of g x (call.MountNew vsn m) = record { component = refl; ends = tt; pays = tt; marks = tt; opens = refl }
group_plan-of g x (call.AddVolume m now) = add_volume-of g x m now.0 (map.get x.mounts m)
group_plan-of g x (call.Reserve b len n) = record { component = refl; ends = tt; pays = tt; marks = tt; opens = refl }
group_plan-of g x (call.MountPiece n k m) = mount_piece-of g x k m (map.get x.reservations n)
group_plan-of g x (call.MountChunk b offset m) = mount_chunk-of g x b offset m (map.get x.tables.bitfiles b.0)
group_plan-of g x (call.Unmount m) = unmount-of g m (map.get x.mounts m)
group_plan-of g x (call.Commit n sums now) = commit-of g x n sums now.0 (map.get x.reservations n)
group_plan-of g x (call.Abort n) = abort-of g n (map.get x.reservations n)
group_plan-of g x (call.Delete b now) = delete-of g x b now.0 _
group_plan-of g x call.MergeList = record { component = refl; ends = tt; pays = tt; marks = tt; opens = tt }
group_plan-of g x (call.MergeNext merged source job from to) = merge_next-of g x merged source job from to
group_plan-of g x (call.MoveDone job sum now) = move_done-of g x job sum now.0 (map.get x.moves job)
group_plan-of g x (call.DropMove job) = drop_move-of g job (map.get x.moves job)
group_plan-of g x (call.Free vsn now) = free-of g x vsn now.0 (map.get x.tables.volumes vsn.0)
group_plan-of g x (call.ReuseNext m now) =
    reuse_first-of g x m now.0 (reusable_in (usage_of x) (group_time x now.0) x.conf.hold x.conf.format x.tables.volumes)
group_plan-of g x (call.Reuse m now) = reuse-of g x m now.0 (map.get x.reuses m)
group_plan-of g x call.Rows = record { component = refl; ends = tt; pays = tt; marks = tt; opens = tt }
group_plan-of g x call.Volumes = record { component = refl; ends = tt; pays = tt; marks = tt; opens = tt }

-- ---- the calls on a volume

zone_mark-of : (g : GroupId) (vsn : Vsn) (m place : ℕ) (zone : List ℕ) (epoch : ℕ) (made : Origin)
    → MarksOf g (zone_mark g vsn m place zone epoch made)
zone_mark-of g vsn m place zone epoch (origin.New listed format) = tt
zone_mark-of g vsn m place zone epoch (origin.Piece b index p chunk) = refl
zone_mark-of g vsn m place zone epoch (origin.Chunk b c) = tt
zone_mark-of g vsn m place zone epoch (origin.Source job b c) = tt
zone_mark-of g vsn m place zone epoch (origin.Target job b total c version) = refl
zone_mark-of g vsn m place zone epoch (origin.Reuse next_epoch version reading) = tt

mark_if-of : (g : GroupId) (x : Mark) (counts : Bool) → MarksOf g x → MarksOf g (cond counts x mark.Nothing)
mark_if-of g x true of = of
mark_if-of g x false of = tt

read_mark-of : (g : GroupId) (m place n : ℕ) (bytes : List ℕ) (made : Origin) → MarksOf g (read_mark g m place n bytes made)
read_mark-of g m place n bytes (origin.New listed format) = tt
read_mark-of g m place n bytes (origin.Piece b index p chunk) = tt
read_mark-of g m place n bytes (origin.Chunk b c) =
    mark_if-of g (mark.Read g b c.offset bytes) (is_read_of c place n bytes) refl
read_mark-of g m place n bytes (origin.Source job b c) =
    mark_if-of g (mark.Source g m bytes) (is_read_of c place n bytes) refl
read_mark-of g m place n bytes (origin.Target job b total c version) = tt
read_mark-of g m place n bytes (origin.Reuse next_epoch version reading) = tt

mounted_plan-of : (g : GroupId) (vsn : Vsn) (image : Image) (x : MountState) (c : VolumeCall) → PlanOf g (mounted_plan g vsn image x c)
mounted_plan-of g vsn image x (volume_call.WriteZone m place zone) =
    record { component = refl; ends = tt; pays = tt; marks = zone_mark-of g vsn m place zone x.epoch x.origin; opens = tt }
mounted_plan-of g vsn image x (volume_call.ReadChunk m place n bytes) =
    record { component = refl; ends = tt; pays = tt; marks = read_mark-of g m place n bytes x.origin; opens = tt }
mounted_plan-of g vsn image x (volume_call.Relabel m epoch version) =
    record { component = refl; ends = tt; pays = tt; marks = refl; opens = tt }

pub volume_plan-of : (g : GroupId) (vsn : Vsn) (image : Option Image) (x : Option MountState) (c : VolumeCall)
    → PlanOf g (volume_plan g vsn image x c)
volume_plan-of g vsn None x c = record { component = refl; ends = tt; pays = tt; marks = tt; opens = tt }
volume_plan-of g vsn (Some image) None c = record { component = refl; ends = tt; pays = tt; marks = tt; opens = tt }
volume_plan-of g vsn (Some image) (Some x) c = mounted_plan-of g vsn image x c

-- ---- what a group's call does to its side

-- its share, whatever else there is
pub side-after_group_call : (g : GroupId) (w : ℕ) (c : GroupCall) (j : Joint) (s : Side) → map.get j.sides g.0 ≡ Some s
    → map.get (after_call w (prepared_plan (group_plan g s.group c)) j).sides g.0
    ≡ Some (side_after_call (prepared_plan (group_plan g s.group c)) s)
side-after_group_call g w c j s there =
    side-after_call g w (prepared_plan (group_plan g s.group c)) j s
    (prepared-of g (group_plan g s.group c) (group_plan-of g s.group c)) there
