-- What a call of a group journals and makes: the parts of contents that its chunks with sums are, are hashed by the call, or
-- were among the byte lists before.
use Rattle.std.proofs.Common.{◌≡◌, ℕ, Bool, true, false, cond, nat_eq, Option, None, Some, is_some, List, [], ◌∷◌, Contains, option_to_list, refl, sym, ap, subst, ◌∙◌}
use Rattle.std.specs.FinMap as map
use Rattle.dm_base.specs.declared.identifier.Bfid.{Bfid}
use Rattle.dm_base.specs.declared.identifier.GroupId.{GroupId}
use Rattle.dm_base.specs.declared.serial.Vsn.{Vsn}
use Rattle.dm_base.specs.declared.volume.Chunk.{Chunk}
use Rattle.dm_base.specs.declared.volume.Piece.{Piece}
use Rattle.dm_rules.specs.declared.space.Space.{Space}
use Rattle.dm_rules.specs.Version.{has_sum}
use Rattle.dm_durable.specs.declared.group.BitfileRow.{BitfileRow}
use Rattle.dm_durable.specs.declared.group.VolumeRow.{VolumeRow}
use Rattle.dm_durable.specs.Group.{chunk_at}
use Rattle.dm_durable.specs.Tables.{ByNumber}
use Rattle.dm_durable.specs.Volumes.{LiveChunk, destination_in, first_on, is_freeable_in, reusable_in}
use Rattle.dm_model.specs.declared.answer.Answer.{Answer}
use Rattle.dm_model.specs.declared.call.GroupCall.{GroupCall}
use Rattle.dm_model.specs.declared.call.GroupCall.TheVariants as call
use Rattle.dm_model.specs.declared.plan.Opening.{Opening}
use Rattle.dm_model.specs.declared.plan.Opening.TheVariants as opening
use Rattle.dm_model.specs.declared.plan.Payload.{Payload}
use Rattle.dm_model.specs.declared.state.Joint.{Joint}
use Rattle.dm_model.specs.declared.state.Mounted.{Mounted}
use Rattle.dm_model.specs.declared.state.MountState.{MountState}
use Rattle.dm_model.specs.declared.state.Moving.{Moving}
use Rattle.dm_model.specs.declared.state.Reserved.{Reserved}
use Rattle.dm_model.specs.declared.state.Reusing.{Reusing}
use Rattle.dm_model.specs.declared.state.Side.{Side}
use Rattle.dm_model.specs.declared.state.Worker.{Worker}
use Rattle.dm_model.specs.GroupCalls.{abort, add_volume, commit, delete_of, drop_move, free, free_of, group_needs, group_plan, group_time, merge_first, merge_to, mount_chunk, mount_chunk_of, mount_piece, mount_piece_of, move_done, move_done_needs, part_of, piece_at, reuse, reuse_first, unmount}
use Rattle.dm_model.specs.Guards.{AllHold}
use Rattle.dm_model.specs.Hashed.{bytes_read, hashed_by_commit, hashed_by_move, hashed_in_group, hashed_of_content}
use Rattle.dm_model.specs.Plan.{Plan, guards_always, if_accepted, prepared_plan, refusal_of}
use Rattle.dm_model.specs.Volumes.{usage_of}
use Rattle.dm_invariant.specs.Kept.{SideOf}
use Rattle.dm_invariant.specs.Moves.{ReadPart, ReadRight}
use Rattle.dm_landing.proofs.VolumeChunkLists.{chunk_among}
use Rattle.dm_runs.proofs.Contained.{contains_first, contains_if}
use Rattle.dm_runs.proofs.SummedParts.{live_in, summed_part, was_read}
use Rattle.dm_runs.proofs.SummedSides.{OpeningIn, PartIn, PayloadIn, SideSummed}

-- what a plan journals and makes
pub record PlanIn (lists : List (List ℕ)) (contents : ByNumber (List ℕ)) (p : Plan) : Type 0 where
  pub payload : PayloadIn lists contents p.payload
  pub opens : OpeningIn lists contents p.opens

payload_if : (lists : List (List ℕ)) (contents : ByNumber (List ℕ)) (o : Option Answer) (p : Option Payload) → PayloadIn lists contents p
    → PayloadIn lists contents (if_accepted o None p)
payload_if lists contents None p part = part
payload_if lists contents (Some refusal) p part = tt

pub opens_if : (lists : List (List ℕ)) (contents : ByNumber (List ℕ)) (o : Option Answer) (x : Opening) → OpeningIn lists contents x
    → OpeningIn lists contents (if_accepted o opening.Nothing x)
opens_if lists contents None x part = part
opens_if lists contents (Some refusal) x part = tt

-- with the tests of its refusals made
pub payload_prepared : (lists : List (List ℕ)) (contents : ByNumber (List ℕ)) (p : Plan) → PlanIn lists contents p
    → PayloadIn lists contents (prepared_plan p).payload
payload_prepared lists contents p i = payload_if lists contents (refusal_of p) p.payload i.payload

pub opens_prepared : (lists : List (List ℕ)) (contents : ByNumber (List ℕ)) (p : Plan) → PlanIn lists contents p
    → OpeningIn lists contents (prepared_plan p).opens
opens_prepared lists contents p i = opens_if lists contents (refusal_of p) p.opens i.opens

-- bytes that were read are among what a move hashes
read_hashed : (x : Moving) (mounts : ByNumber MountState) (source : MountState) (bytes : List ℕ) → map.get mounts x.source ≡ Some source
    → source.read ≡ Some bytes → has_sum x.version ≡ true → Contains (hashed_by_move mounts (Some x)) bytes
read_hashed x mounts source bytes at is has =
    contains_if (has_sum x.version) (bytes_read (map.get mounts x.source)) bytes has
    (subst (λ o. Contains (bytes_read o) bytes) (sym at)
    (subst (λ o. Contains (option_to_list o) bytes) (sym is) (contains_first bytes [])))

read_of : (contents : ByNumber (List ℕ)) (b : ℕ) (c : Chunk) (o : Option (List ℕ)) (bytes : List ℕ) → o ≡ Some bytes → ReadRight contents b c o
    → ReadPart contents b c bytes
read_of contents b c o bytes is right = subst (ReadRight contents b c) is right

module _ (lists : List (List ℕ)) (j : Joint) (g : GroupId) (s : Side) (own : SideOf j g.0 s) (summed : SideSummed lists j.history.contents s) where
  abbrev contents : ByNumber (List ℕ)
  contents = j.history.contents

  abbrev In : Plan → Type 0
  In p = PlanIn lists contents p

  mount_piece_of_in : (r : Reserved) (k m : ℕ) (o : Option Piece) → In (mount_piece_of g s.group r k m o)
  mount_piece_of_in r k m None = record { payload = tt; opens = tt }
  mount_piece_of_in r k m (Some p) = record { payload = tt; opens = tt }

  mount_piece_in : (k m : ℕ) (o : Option Reserved) → In (mount_piece g s.group k m o)
  mount_piece_in k m None = record { payload = tt; opens = tt }
  mount_piece_in k m (Some r) = mount_piece_of_in r k m (piece_at k r.pieces)

  mount_chunk_of_in : (b : Bfid) (offset m : ℕ) (row : BitfileRow) (o : Option Chunk) → map.get s.group.tables.bitfiles b.0 ≡ Some row
      → chunk_at offset row.chunks ≡ o → In (mount_chunk_of g s.group b m o)
  mount_chunk_of_in b offset m row None is at = record { payload = tt; opens = tt }
  mount_chunk_of_in b offset m row (Some c) is at =
      record { payload = tt; opens = summed.rows b.0 row is c (chunk_among offset row.chunks c at) }

  either_in : (v : Bool) (p q : Plan) → In p → In q → In (cond v p q)
  either_in true p q one two = one
  either_in false p q one two = two

  mount_chunk_in : (b : Bfid) (offset m : ℕ) (o : Option BitfileRow) → map.get s.group.tables.bitfiles b.0 ≡ o → In (mount_chunk g s.group b offset m o)
  mount_chunk_in b offset m None is = record { payload = tt; opens = tt }
  mount_chunk_in b offset m (Some row) is =
      either_in (nat_eq offset row.len) _ _ (record { payload = tt; opens = tt })
      (mount_chunk_of_in b offset m row (chunk_at offset row.chunks) is refl)

  unmount_in : (m : ℕ) (o : Option Mounted) → In (unmount g m o)
  unmount_in m None = record { payload = tt; opens = tt }
  unmount_in m (Some x) = record { payload = tt; opens = tt }

  add_volume_in : (m now : ℕ) (o : Option Mounted) → In (add_volume g s.group m now o)
  add_volume_in m now None = record { payload = tt; opens = tt }
  add_volume_in m now (Some x) = record { payload = tt; opens = tt }

  abort_in : (n : ℕ) (o : Option Reserved) → In (abort g n o)
  abort_in n None = record { payload = tt; opens = tt }
  abort_in n (Some r) = record { payload = tt; opens = tt }

  drop_move_in : (job : ℕ) (o : Option Moving) → In (drop_move g job o)
  drop_move_in job None = record { payload = tt; opens = tt }
  drop_move_in job (Some x) = record { payload = tt; opens = tt }

  delete_in : (b : Bfid) (now : ℕ) (there : Bool) → In (delete_of g s.group b now there)
  delete_in b now true = record { payload = tt; opens = tt }
  delete_in b now false = record { payload = tt; opens = tt }

  free_of_in : (vsn : Vsn) (now : ℕ) (freed : Bool) → In (free_of g s.group vsn now freed)
  free_of_in vsn now true = record { payload = tt; opens = tt }
  free_of_in vsn now false = record { payload = tt; opens = tt }

  free_in : (vsn : Vsn) (now : ℕ) (o : Option VolumeRow) → In (free g s.group vsn now o)
  free_in vsn now None = record { payload = tt; opens = tt }
  free_in vsn now (Some v) = free_of_in vsn now (is_freeable_in (usage_of s.group) s.group.tables vsn.0 v)

  reuse_first_in : (m now : ℕ) (vsns : List Vsn) → In (reuse_first g s.group m now vsns)
  reuse_first_in m now [] = record { payload = tt; opens = tt }
  reuse_first_in m now (vsn ∷ vsns) = record { payload = tt; opens = tt }

  reuse_in : (m now : ℕ) (o : Option Reusing) → In (reuse g s.group m now o)
  reuse_in m now None = record { payload = tt; opens = tt }
  reuse_in m now (Some x) = record { payload = tt; opens = tt }

  merge_to_in : (merged : List Vsn) (l : LiveChunk) (job from to : ℕ) (o : Option Space) → PartIn lists contents l.bfid.0 l.chunk
      → In (merge_to g s.group merged l job from to o)
  merge_to_in merged l job from to None part = record { payload = tt; opens = tt }
  merge_to_in merged l job from to (Some x) part = record { payload = tt; opens = part }

  merge_first_in : (merged : List Vsn) (source : Vsn) (job from to : ℕ) (o : Option LiveChunk) → first_on s.group.tables.bitfiles source.0 ≡ o
      → In (merge_first g s.group merged job from to o)
  merge_first_in merged source job from to None is = record { payload = tt; opens = tt }
  merge_first_in merged source job from to (Some l) is =
      let live = live_in s.group.tables.bitfiles source.0 l is in
      merge_to_in merged l job from to (destination_in (usage_of s.group) merged s.group.tables.volumes l.chunk.len)
      (summed.rows l.bfid.0 live.row live.is l.chunk live.among)

  -- the chunks of a commit
  commit_in : (n : ℕ) (sums : List (List ℕ)) (now : ℕ) (o : Option Reserved) → map.get s.group.reservations n ≡ o
      → ((x : List ℕ) → Contains (hashed_by_commit contents o) x → Contains lists x) → In (commit g s.group n sums now o)
  commit_in n sums now None is hashed = record { payload = tt; opens = tt }
  commit_in n sums now (Some r) is hashed =
      let reserved = own.reservations.reservation n r is in
      let copy = own.reservations.copy r.bfid.0 reserved.copy reserved.is in
      record {
        payload = λ c among has. record {
          bytes = copy.of.bytes;
          content = copy.of.content;
          among = hashed (part_of copy.of.bytes c.offset c.len)
              (subst (λ o. Contains (hashed_of_content r o) (part_of copy.of.bytes c.offset c.len)) (sym copy.of.content)
              (summed_part r.chunk copy.of.bytes r.pieces sums c among has));
        };
        opens = tt;
      }

  -- the chunk of a move
  move_done_in : (job : ℕ) (sum : Option (List ℕ)) (now : ℕ) (o : Option Moving) → map.get s.group.moves job ≡ o
      → ((x : List ℕ) → Contains (hashed_by_move s.mounts o) x → Contains lists x)
      → AllHold (guards_always (move_done g s.group job sum now o) (move_done_needs s.mounts sum o)) → In (move_done g s.group job sum now o)
  move_done_in job sum now None is hashed all = record { payload = tt; opens = tt }
  move_done_in job sum now (Some x) is hashed all =
      let k = own.moves.moving job x is in
      let read = was_read x sum (map.get s.mounts x.source) (map.get s.mounts x.target) k.source k.target k.source_is k.target_is all.0 in
      let right = read_of contents x.bfid.0 x.from k.source.read read.bytes read.is k.read in
      record {
        payload = λ has. record {
          bytes = right.whole;
          content = right.content;
          among = subst (λ p. Contains lists p)
              (sym right.part ∙ sym (ap (λ n. part_of right.whole n x.from.len) k.moved.offset)
              ∙ sym (ap (λ n. part_of right.whole x.to.offset n) k.moved.len))
              (hashed read.bytes (read_hashed x s.mounts k.source read.bytes k.source_is read.is (read.has has)));
        };
        opens = tt;
      }

  -- all calls
  pub group_plan_in : (x : Option Worker) (c : GroupCall) → ((y : List ℕ) → Contains (hashed_in_group contents s c) y → Contains lists y)
      → AllHold (guards_always (group_plan g s.group c) (group_needs x j.history g s c))
      → In (group_plan g s.group c)
  group_plan_in x call.Missing hashed all = record { payload = tt; opens = tt }
  group_plan_in x (call.MountNew vsn m) hashed all = record { payload = tt; opens = tt }
  group_plan_in x (call.AddVolume m now) hashed all = add_volume_in m now.0 (map.get s.group.mounts m)
  group_plan_in x (call.Reserve b len n) hashed all = record { payload = tt; opens = tt }
  group_plan_in x (call.MountPiece n k m) hashed all = mount_piece_in k m (map.get s.group.reservations n)
  group_plan_in x (call.MountChunk b offset m) hashed all = mount_chunk_in b offset m (map.get s.group.tables.bitfiles b.0) refl
  group_plan_in x (call.Unmount m) hashed all = unmount_in m (map.get s.group.mounts m)
  group_plan_in x (call.Commit n sums now) hashed all = commit_in n sums now.0 (map.get s.group.reservations n) refl hashed
  group_plan_in x (call.Abort n) hashed all = abort_in n (map.get s.group.reservations n)
  group_plan_in x (call.Delete b now) hashed all = delete_in b now.0 (is_some (map.get s.group.tables.bitfiles b.0))
  group_plan_in x call.MergeList hashed all = record { payload = tt; opens = tt }
  group_plan_in x (call.MergeNext merged source job from to) hashed all =
      let first = merge_first_in merged source job from to (first_on s.group.tables.bitfiles source.0) refl in
      record { payload = first.payload; opens = first.opens }
  group_plan_in x (call.MoveDone job sum now) hashed all =
      move_done_in job sum now.0 (map.get s.group.moves job) refl hashed all
  group_plan_in x (call.DropMove job) hashed all = drop_move_in job (map.get s.group.moves job)
  group_plan_in x (call.Free vsn now) hashed all = free_in vsn now.0 (map.get s.group.tables.volumes vsn.0)
  group_plan_in x (call.ReuseNext m now) hashed all =
      reuse_first_in m now.0
      (reusable_in (usage_of s.group) (group_time s.group now.0) s.group.conf.hold s.group.conf.format s.group.tables.volumes)
  group_plan_in x (call.Reuse m now) hashed all = reuse_in m now.0 (map.get s.group.reuses m)
  group_plan_in x call.Rows hashed all = record { payload = tt; opens = tt }
  group_plan_in x call.Volumes hashed all = record { payload = tt; opens = tt }
