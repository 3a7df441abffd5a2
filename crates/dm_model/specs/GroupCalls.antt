-- What each call of a group comes to, and what it needs of others.
--
-- For each call there is its plan, made of the group alone, and below it what it needs of the worker, of mounts and
-- copies, and of what is true for good. A definition takes what was looked up, and not the table: so it goes by cases.
use Rattle.std.specs.Prelude.{ℕ, ◌+◌, ◌-◌, Bool, true, false, cond, not, ◌&&◌, Option, None, Some, is_some, is_none, List, [], ◌∷◌, ◌++◌, take, drop, nat_eq, nat_lt, nat_le, length}
use Rattle.std.specs.Prelude as prelude
use Rattle.std.specs.List.{flat_map, list_all, list_any}
use Rattle.std.specs.FinMap as map
use Rattle.dm_base.specs.declared.error.GroupError.{GroupError}
use Rattle.dm_base.specs.declared.error.GroupError.TheVariants as error
use Rattle.dm_base.specs.declared.identifier.Bfid.{Bfid}
use Rattle.dm_base.specs.declared.identifier.GroupId.{GroupId}
use Rattle.dm_base.specs.Limits.{volumes_limit}
use Rattle.dm_base.specs.declared.serial.Vsn.{Vsn}
use Rattle.dm_base.specs.declared.volume.BitRow.{BitRow}
use Rattle.dm_base.specs.declared.volume.Chunk.{Chunk}
use Rattle.dm_base.specs.declared.volume.GroupRows.{GroupRows}
use Rattle.dm_base.specs.declared.volume.Piece.{Piece}
use Rattle.dm_base.specs.declared.volume.VolFact.{VolFact}
use Rattle.dm_durable.specs.declared.group.BitfileRow.{BitfileRow}
use Rattle.dm_durable.specs.declared.group.GroupStep.{GroupStep}
use Rattle.dm_durable.specs.declared.group.GroupStep.TheVariants as step
use Rattle.dm_durable.specs.declared.group.VolumeRow.{VolumeRow}
use Rattle.dm_durable.specs.Group.{chunk_at}
use Rattle.dm_durable.specs.Tables.{ByNumber, same_text}
use Rattle.dm_durable.specs.Volumes.{LiveChunk, chunk_moved_to, destination_in, first_on, free_slot, greatest_room, is_freeable_in, is_listed, least_missing, planned_pieces, reusable_in, spaces, target_spaces}
use Rattle.dm_durable.specs.Volumes as tables
use Rattle.dm_model.specs.declared.answer.Answer.{Answer}
use Rattle.dm_model.specs.declared.answer.Answer.TheVariants as answer
use Rattle.dm_model.specs.declared.call.Component.TheVariants as component
use Rattle.dm_model.specs.declared.call.GroupCall.{GroupCall}
use Rattle.dm_model.specs.declared.call.GroupCall.TheVariants as call
use Rattle.dm_model.specs.declared.guard.Guard.TheVariants as guard
use Rattle.dm_model.specs.declared.plan.Ending.TheVariants as ending
use Rattle.dm_model.specs.declared.plan.Mark.TheVariants as mark
use Rattle.dm_model.specs.declared.plan.Opening.TheVariants as opening
use Rattle.dm_model.specs.declared.plan.Payload.{Payload}
use Rattle.dm_model.specs.declared.plan.Payload.TheVariants as payload
use Rattle.dm_model.specs.declared.state.CopyReservation.{CopyReservation}
use Rattle.dm_model.specs.declared.state.CopyState.{CopyState}
use Rattle.dm_model.specs.declared.state.Group.{Group}
use Rattle.dm_model.specs.declared.state.History.{History}
use Rattle.dm_model.specs.declared.state.Label.{Label}
use Rattle.dm_model.specs.declared.state.Mounted.{Mounted}
use Rattle.dm_model.specs.declared.state.MountState.{MountState}
use Rattle.dm_model.specs.declared.state.Moving.{Moving}
use Rattle.dm_model.specs.declared.state.Origin.{Origin}
use Rattle.dm_model.specs.declared.state.Origin.TheVariants as origin
use Rattle.dm_model.specs.declared.state.Recall.{Recall}
use Rattle.dm_model.specs.declared.state.Reserved.{Reserved}
use Rattle.dm_model.specs.declared.state.Reusing.{Reusing}
use Rattle.dm_model.specs.declared.state.Side.{Side}
use Rattle.dm_model.specs.declared.state.Worker.{Worker}
use Rattle.dm_model.specs.declared.state.WrittenZone.{WrittenZone}
use Rattle.dm_model.specs.Guards.{Guarded}
use Rattle.dm_model.specs.Plan.{Plan, Needs, quiet_plan, healing_plan, no_needs}
use Rattle.dm_model.specs.Volumes.{all_volumes, epoch_of, is_configured, mount_refusal, usage_of}
use Rattle.dm_rules.specs.declared.space.Space.{Space}
use Rattle.dm_rules.specs.Numbers.{greater, as_word, count_limit}
use Rattle.dm_rules.specs.Plan.{rooms, chunks_of}
use Rattle.dm_rules.specs.Version.{has_sum}
use Rattle.dm_rules.specs.Zone.{chunk_count, chunk_sum, zone_of}
use Rattle.dm_tables.specs.Rows.{any}
use Rattle.sha2.specs.Sha256.{sha256}

-- ---- the forms that plans have

-- a call that uses no device, and one that heals
abbrev pub group_quiet_plan : GroupId → Answer → Plan
group_quiet_plan g a = quiet_plan (component.Group g) a

abbrev pub group_healing_plan : GroupId → Answer → Plan
group_healing_plan g a = healing_plan (component.Group g) a

abbrev pub group_refusal : GroupError → Answer
group_refusal e = answer.GroupRefused e

-- the group isn't configured
abbrev pub no_group : GroupId → Plan
no_group g = record (group_quiet_plan g answer.Failed) { own = (false, guard.Configured) ∷ [] }

-- a token that the call takes isn't open
abbrev pub no_token : GroupId → Plan
no_token g = record (group_quiet_plan g answer.Failed) { own = (false, guard.Tokens) ∷ [] }

-- the number of a token that is made was never used: it is the next, or a greater one
abbrev pub is_new : ℕ → ℕ → Guarded
is_new next n = (nat_le next n, guard.Tokens)

abbrev pub group_time : Group → ℕ → ℕ
group_time group now = greater now group.tables.time.0

-- a step journalled at that time
abbrev pub group_journal_payload : GroupId → Group → ℕ → GroupStep → Option Payload
group_journal_payload g group now s = Some (payload.Group g (record { time = record { 0 = group_time group now }; step = s }))

-- what a call needs of its worker and its tokens alone
abbrev pub of_tokens : List Guarded → Needs
of_tokens guards = record { token = guards; lasting = [] }

-- ---- mounts

-- the plan, of a call that mounts a volume where that isn't mounted yet and a drive is free
abbrev pub mount_plan : Plan → GroupId → Group → ℕ → Vsn → Origin → Plan
mount_plan p g group m vsn made = record p {
  making = is_new group.next_mount m ∷ [];
  refusals = mount_refusal 0 group vsn.0 ∷ [];
  opens = opening.Mount g m vsn (epoch_of group vsn.0) made;
  answer = answer.Mounted m vsn (epoch_of group vsn.0);
}

-- the plan, of a call that would mount something that isn't there
abbrev pub no_mount_plan : Plan → Group → ℕ → Guarded → Plan
no_mount_plan p group m missing = record p { own = missing ∷ []; making = is_new group.next_mount m ∷ [] }

abbrev pub mount_new : GroupId → Group → Vsn → ℕ → Plan
mount_new g group vsn m =
    let listed = is_some (map.get group.tables.volumes vsn.0) in
    record (mount_plan (group_healing_plan g answer.Failed) g group m vsn (origin.New listed group.conf.format)) {
      own = (is_configured group vsn.0, guard.VolumeConfigured) ∷ [];
    }

-- the piece at a place of a list
abbrev pub piece_at : ℕ → List Piece → Option Piece
piece_at k [] = None
piece_at k (p ∷ ps) = cond (nat_eq k 0) (Some p) (piece_at (k - 1) ps)

abbrev pub mount_piece_of : GroupId → Group → Reserved → ℕ → ℕ → Option Piece → Plan
mount_piece_of g group r k m None =
    no_mount_plan (group_quiet_plan g answer.Failed) group m (false, guard.PieceReserved)
mount_piece_of g group r k m (Some p) =
    mount_plan (group_quiet_plan g answer.Failed) g group m p.vsn (origin.Piece r.bfid k p r.chunk)

abbrev pub mount_piece : GroupId → Group → ℕ → ℕ → Option Reserved → Plan
mount_piece g group k m None = no_token g
mount_piece g group k m (Some r) = mount_piece_of g group r k m (piece_at k r.pieces)

abbrev pub mount_chunk_of : GroupId → Group → Bfid → ℕ → Option Chunk → Plan
mount_chunk_of g group b m None =
    no_mount_plan (group_healing_plan g answer.Failed) group m (false, guard.ChunkWanted)
mount_chunk_of g group b m (Some c) =
    record (mount_plan (group_healing_plan g answer.Failed) g group m c.vsn (origin.Chunk b c)) {
      answer = answer.AtChunk m (epoch_of group c.vsn.0) c;
    }

-- the chunk that begins at the offset, or the end of the bitfile
abbrev pub mount_chunk : GroupId → Group → Bfid → ℕ → ℕ → Option BitfileRow → Plan
mount_chunk g group b offset m None = mount_chunk_of g group b m None
mount_chunk g group b offset m (Some row) =
    cond (nat_eq offset row.len) (group_healing_plan g answer.AtEnd) (mount_chunk_of g group b m (chunk_at offset row.chunks))

-- the worker has an open recall of the bitfile that asks the group
abbrev pub is_recall_from : ℕ → ℕ → Recall → Bool
is_recall_from b g r = nat_eq r.bfid.0 b && list_any (λ h. nat_eq h.0 g) r.asked

abbrev pub recalls_from : ℕ → ℕ → Option Worker → Bool
recalls_from b g None = false
recalls_from b g (Some w) = any (λ k r. is_recall_from b g r) w.recalls

abbrev pub mount_chunk_needs : Option Worker → GroupId → Bfid → Needs
mount_chunk_needs w g b = of_tokens ((recalls_from b.0 g.0 w, guard.ChunkWanted) ∷ [])

abbrev pub unmount : GroupId → ℕ → Option Mounted → Plan
unmount g m None = no_token g
unmount g m (Some x) = record (group_quiet_plan g answer.Unmounted) { ends = ending.Mount g m }

abbrev pub is_of_move : Origin → Bool
is_of_move (origin.New listed format) = false
is_of_move (origin.Piece b index piece chunk) = false
is_of_move (origin.Chunk b chunk) = false
is_of_move (origin.Source job b chunk) = true
is_of_move (origin.Target job b total chunk version) = true
is_of_move (origin.Reuse next_epoch version reading) = false

abbrev pub may_unmount : Option MountState → Bool
may_unmount None = true
may_unmount (Some x) = not (is_of_move x.origin)

abbrev pub unmount_needs : Option MountState → Needs
unmount_needs x = of_tokens ((may_unmount x, guard.NoMove) ∷ [])

-- ---- new volumes

abbrev pub missing : GroupId → Group → Plan
missing g group = group_quiet_plan g (answer.Missing (least_missing group.tables.volumes group.conf.volumes))

-- the volume gets the least slot that is free, and the group's format
abbrev pub add_volume : GroupId → Group → ℕ → ℕ → Option Mounted → Plan
add_volume g group m now None = no_token g
add_volume g group m now (Some x) =
    let slot = free_slot group.tables.volumes volumes_limit 0 in
    record (group_healing_plan g answer.VolumeAdded) {
      own =
          (is_none (map.get group.tables.volumes x.vsn.0), guard.NewVolumeLabelled)
          ∷ (is_none group.doubt, guard.NewVolumeLabelled)
          ∷ [];
      ends = ending.Mount g m;
      payload = group_journal_payload g group now (step.Volume x.vsn slot group.conf.format group.conf.size);
    }

-- the last relabel wrote this label
abbrev pub is_label : ℕ → ℕ → Option Label → Bool
is_label epoch version None = false
is_label epoch version (Some l) = nat_eq l.epoch epoch && nat_eq l.version version

-- the mount is of any volume, and its label was written last with epoch 1 and the group's format
abbrev pub is_new_label : Origin → Option Label → Bool
is_new_label (origin.New listed format) label = is_label 1 format label
is_new_label (origin.Piece b index piece chunk) label = false
is_new_label (origin.Chunk b chunk) label = false
is_new_label (origin.Source job b chunk) label = false
is_new_label (origin.Target job b total chunk version) label = false
is_new_label (origin.Reuse next_epoch version reading) label = false

abbrev pub is_labelled_new : Option MountState → Bool
is_labelled_new None = false
is_labelled_new (Some x) = is_new_label x.origin x.labelled

abbrev pub add_volume_needs : Option MountState → Needs
add_volume_needs x = of_tokens ((is_labelled_new x, guard.NewVolumeLabelled) ∷ [])

-- ---- storing a copy

abbrev pub reserve : GroupId → Group → Bfid → ℕ → ℕ → Plan
reserve g group b len n =
    let chunk = group.conf.chunk in
    let have = rooms (spaces (usage_of group) group.tables.volumes) in
    let pieces = planned_pieces (usage_of group) group.tables.volumes len in
    record (group_healing_plan g (answer.Reserved n chunk pieces)) {
      own = (is_none (map.get group.tables.bitfiles b.0), guard.CopyWanted) ∷ [];
      making = is_new group.next_reservation n ∷ [];
      refusals = (nat_lt have len, group_refusal (error.NoRoom (as_word have) len)) ∷ [];
      opens = opening.Reservation g n (record { bfid = b; len = len; chunk = chunk; pieces = pieces });
    }

-- the copy is being stored with this length, and has no reservation
abbrev pub may_reserve : Option CopyState → ℕ → Bool
may_reserve None len = false
may_reserve (Some c) len = nat_eq c.len len && is_none c.reservation

abbrev pub reserve_needs : Option CopyState → ℕ → Needs
reserve_needs copy len = of_tokens ((may_reserve copy len, guard.CopyWanted) ∷ [])

-- the chunks with these sums, as far as there are any
abbrev pub with_sums : List Chunk → List (List ℕ) → List Chunk
with_sums [] sums = []
with_sums (c ∷ cs) [] = c ∷ with_sums cs []
with_sums (c ∷ cs) (s ∷ ss) = record c { sum = Some s } ∷ with_sums cs ss

-- the chunks of the pieces, those on volumes whose chunks have sums with the sums, in order
abbrev pub summed_chunks : ℕ → List Piece → List (List ℕ) → List Chunk
summed_chunks chunk [] sums = []
summed_chunks chunk (p ∷ ps) sums =
    let cs = chunks_of chunk p in
    cond (has_sum p.version)
    (with_sums cs sums ++ summed_chunks chunk ps (drop (length cs) sums))
    (cs ++ summed_chunks chunk ps sums)

abbrev pub commit : GroupId → Group → ℕ → List (List ℕ) → ℕ → Option Reserved → Plan
commit g group n sums now None = no_token g
commit g group n sums now (Some r) =
    record (group_healing_plan g answer.Committed) {
      ends = ending.Reservation g n r.bfid;
      payload = group_journal_payload g group now (step.Commit r.bfid r.len (summed_chunks r.chunk r.pieces sums));
    }

-- the piece is a part of these bytes, and can be one zone, whose header has 32 bits for how many chunks it has
abbrev pub is_part : List ℕ → Reserved → Piece → Bool
is_part bytes r p =
    nat_eq (length bytes) r.len && nat_lt 0 p.len && nat_le (p.offset + p.len) (length bytes)
    && nat_lt 0 r.chunk && nat_lt (chunk_count r.chunk p.len) count_limit

-- these bytes of a bitfile
abbrev pub part_of : List ℕ → ℕ → ℕ → List ℕ
part_of bytes offset len = take len (drop offset bytes)

-- the zone that the piece of these bytes is to become, under an epoch
abbrev pub piece_zone : ℕ → List ℕ → Reserved → Piece → List ℕ
piece_zone epoch bytes r p =
    zone_of p.version epoch r.bfid.0 r.len p.offset (part_of bytes p.offset p.len) r.chunk

abbrev pub is_zone_of : List ℕ → Reserved → Piece → Option WrittenZone → Bool
is_zone_of bytes r p None = false
is_zone_of bytes r p (Some w) = is_part bytes r p && same_text w.zone (piece_zone w.epoch bytes r p)

-- each piece, from the k-th on, was written last with its zone
abbrev pub are_written : List ℕ → Reserved → ByNumber WrittenZone → ℕ → List Piece → Bool
are_written bytes r written k [] = true
are_written bytes r written k (p ∷ ps) = is_zone_of bytes r p (map.get written k) && are_written bytes r written (k + 1) ps

abbrev pub all_written : Option (List ℕ) → Reserved → Option CopyReservation → Bool
all_written None r copy = false
all_written (Some bytes) r None = false
all_written (Some bytes) r (Some copy) = are_written bytes r copy.written 0 r.pieces

-- the sums of the chunks of a piece, if chunks there have sums
abbrev pub piece_sums : ℕ → List ℕ → Piece → List (List ℕ)
piece_sums chunk bytes p =
    cond (has_sum p.version) (prelude.map (λ c. sha256 (part_of bytes c.offset c.len)) (chunks_of chunk p)) []

abbrev pub same_sums : List (List ℕ) → List (List ℕ) → Bool
same_sums [] [] = true
same_sums [] (y ∷ ys) = false
same_sums (x ∷ xs) [] = false
same_sums (x ∷ xs) (y ∷ ys) = same_text x y && same_sums xs ys

abbrev pub are_sums_of : Option (List ℕ) → Reserved → List (List ℕ) → Bool
are_sums_of None r sums = false
are_sums_of (Some bytes) r sums = same_sums sums (flat_map (piece_sums r.chunk bytes) r.pieces)

abbrev pub reservation_in : Option CopyState → Option CopyReservation
reservation_in None = None
reservation_in (Some c) = c.reservation

-- the copy has the reservation of this number, and no mount of it is open
abbrev pub is_unmounted : ℕ → Option CopyReservation → Bool
is_unmounted n None = false
is_unmounted n (Some r) = nat_eq r.number n && nat_eq (map.len r.mounts) 0

abbrev pub commit_of : ByNumber (List ℕ) → ℕ → List (List ℕ) → Reserved → Option CopyState → Needs
commit_of contents n sums r copy =
    let bytes = map.get contents r.bfid.0 in
    record {
      token = (is_some copy, guard.PiecesWritten) ∷ (is_unmounted n (reservation_in copy), guard.PiecesWritten) ∷ [];
      lasting =
          (all_written bytes r (reservation_in copy), guard.PiecesWritten)
          ∷ (are_sums_of bytes r sums, guard.PiecesWritten)
          ∷ [];
    }

abbrev pub commit_needs : ByNumber (List ℕ) → ByNumber CopyState → ℕ → List (List ℕ) → Option Reserved → Needs
commit_needs contents copies n sums None = no_needs
commit_needs contents copies n sums (Some r) = commit_of contents n sums r (map.get copies r.bfid.0)

abbrev pub abort : GroupId → ℕ → Option Reserved → Plan
abort g n None = no_token g
abort g n (Some r) = record (group_quiet_plan g answer.Aborted) { ends = ending.Reservation g n r.bfid }

abbrev pub abort_needs : ByNumber CopyState → ℕ → Option Reserved → Needs
abort_needs copies n None = no_needs
abort_needs copies n (Some r) =
    of_tokens ((is_unmounted n (reservation_in (map.get copies r.bfid.0)), guard.PiecesUnmounted) ∷ [])

-- ---- deleting a copy

abbrev pub delete_of : GroupId → Group → Bfid → ℕ → Bool → Plan
delete_of g group b now there = record (group_healing_plan g (answer.Deleted there)) {
  payload = cond there (group_journal_payload g group now (step.Delete b)) None;
  mark = mark.Deleted g b;
}

abbrev pub delete : GroupId → Group → Bfid → ℕ → Plan
delete g group b now = delete_of g group b now (is_some (map.get group.tables.bitfiles b.0))

abbrev pub delete_needs : History → Bfid → Needs
delete_needs h b = record { token = []; lasting = (is_some (map.get h.taken b.0), guard.HardDeleted) ∷ [] }

-- ---- merging

abbrev pub merge_list : GroupId → Group → Plan
merge_list g group = group_healing_plan g (answer.SparseVolumes (tables.merge_list (usage_of group) group.conf.sparse group.tables))

-- a chunk goes to this volume, into a zone of its own at the tip
abbrev pub move_to : GroupId → Group → LiveChunk → Space → ℕ → ℕ → ℕ → Plan
move_to g group l s job from to =
    let moved = chunk_moved_to s l.chunk in
    let source_epoch = epoch_of group l.chunk.vsn.0 in
    let target_epoch = epoch_of group s.vsn.0 in
    let moving : Moving = record {
      bfid = l.bfid;
      total = l.total;
      from = l.chunk;
      to = moved;
      version = s.version;
      source = from;
      target = to;
    } in
    record (group_healing_plan g (answer.MoveBegun job l.bfid l.total l.chunk moved from source_epoch to target_epoch s.version)) {
      making = is_new group.next_move job ∷ is_new group.next_mount from ∷ is_new (from + 1) to ∷ [];
      opens = opening.Move g job moving source_epoch target_epoch;
    }

-- no volume that isn't merged has room for the chunk
abbrev pub no_destination : Group → List Vsn → LiveChunk → Bool × Answer
no_destination group merged l =
    let have = greatest_room (target_spaces (usage_of group) merged group.tables.volumes) in
    (true, group_refusal (error.NoRoom (as_word have) l.chunk.len))

abbrev pub merge_to : GroupId → Group → List Vsn → LiveChunk → ℕ → ℕ → ℕ → Option Space → Plan
merge_to g group merged l job from to None =
    record (group_healing_plan g answer.Failed) {
      refusals = mount_refusal 1 group l.chunk.vsn.0 ∷ no_destination group merged l ∷ [];
    }
merge_to g group merged l job from to (Some s) =
    record (move_to g group l s job from to) { refusals = mount_refusal 1 group l.chunk.vsn.0 ∷ [] }

abbrev pub merge_first : GroupId → Group → List Vsn → ℕ → ℕ → ℕ → Option LiveChunk → Plan
merge_first g group merged job from to None = group_healing_plan g answer.SourceEmpty
merge_first g group merged job from to (Some l) =
    merge_to g group merged l job from to (destination_in (usage_of group) merged group.tables.volumes l.chunk.len)

-- the source's first chunk is to go to a volume that isn't merged
abbrev pub merge_next : GroupId → Group → List Vsn → Vsn → ℕ → ℕ → ℕ → Plan
merge_next g group merged source job from to =
    record (merge_first g group merged job from to (first_on group.tables.bitfiles source.0)) {
      own =
          (is_listed merged source.0, guard.SourceListed)
          ∷ (list_all (λ v. is_some (map.get group.tables.volumes v.0)) merged, guard.SourceListed)
          ∷ [];
    }

abbrev pub same_sum : Option (List ℕ) → Option (List ℕ) → Bool
same_sum None None = true
same_sum None (Some s) = false
same_sum (Some r) None = false
same_sum (Some r) (Some s) = same_text r s

-- whether two chunks are the same in all fields
abbrev pub same_chunk : Chunk → Chunk → Bool
same_chunk c d =
    nat_eq c.offset d.offset && nat_eq c.len d.len && same_text c.vsn.0 d.vsn.0 && nat_eq c.zone d.zone
    && nat_eq c.place d.place && same_sum c.sum d.sum

abbrev pub is_chunk : Chunk → Option Chunk → Bool
is_chunk c None = false
is_chunk c (Some d) = same_chunk c d

-- the chunk that a bitfile has at the offset
abbrev pub chunk_in : ℕ → Option BitfileRow → Option Chunk
chunk_in offset None = None
chunk_in offset (Some row) = chunk_at offset row.chunks

abbrev pub move_done : GroupId → Group → ℕ → Option (List ℕ) → ℕ → Option Moving → Plan
move_done g group job sum now None = no_token g
move_done g group job sum now (Some x) =
    let found = chunk_in x.from.offset (map.get group.tables.bitfiles x.bfid.0) in
    record (group_healing_plan g answer.Moved) {
      refusals = (not (is_chunk x.from found), group_refusal (error.Moved found)) ∷ [];
      ends = ending.Move g job x.source x.target;
      payload = group_journal_payload g group now (step.Move x.bfid x.from (record x.to { sum = sum }));
    }

-- the zone that these bytes of the move are to become under an epoch, and the sum that its chunk then has
abbrev pub is_moved : ℕ → Moving → Option (List ℕ) → List ℕ → Option (List ℕ) → Bool
is_moved epoch x sum bytes None = false
is_moved epoch x sum bytes (Some zone) =
    same_text zone (zone_of x.version epoch x.bfid.0 x.total x.from.offset bytes (length bytes))
    && same_sum sum (chunk_sum x.version bytes)

-- bytes were read, and the zone of them was written last
abbrev pub was_moved : Moving → Option (List ℕ) → Option MountState → Option MountState → Bool
was_moved x sum None target = false
was_moved x sum (Some s) None = false
was_moved x sum (Some s) (Some t) = moved_by s.read
  where
    moved_by : Option (List ℕ) → Bool
    moved_by None = false
    moved_by (Some bytes) = is_moved t.epoch x sum bytes t.written

abbrev pub move_done_needs : ByNumber MountState → Option (List ℕ) → Option Moving → Needs
move_done_needs mounts sum None = no_needs
move_done_needs mounts sum (Some x) =
    of_tokens ((was_moved x sum (map.get mounts x.source) (map.get mounts x.target), guard.ChunkMoved) ∷ [])

abbrev pub drop_move : GroupId → ℕ → Option Moving → Plan
drop_move g job None = no_token g
drop_move g job (Some x) = record (group_quiet_plan g answer.MoveDropped) { ends = ending.Move g job x.source x.target }

-- ---- freeing and using again

abbrev pub free_of : GroupId → Group → Vsn → ℕ → Bool → Plan
free_of g group vsn now freed =
    record (group_healing_plan g (answer.Freed freed)) { payload = cond freed (group_journal_payload g group now (step.Free vsn)) None }

abbrev pub free : GroupId → Group → Vsn → ℕ → Option VolumeRow → Plan
free g group vsn now None = record (group_healing_plan g answer.Failed) { own = (false, guard.VolumeKnown) ∷ [] }
free g group vsn now (Some v) = free_of g group vsn now (is_freeable_in (usage_of group) group.tables vsn.0 v)

-- the volume gets the next epoch, and the group's format
abbrev pub reuse_of : GroupId → Group → ℕ → ℕ → Vsn → Plan
reuse_of g group m now vsn =
    let epoch = epoch_of group vsn.0 in
    let format = group.conf.format in
    record (group_healing_plan g (answer.ReuseBegun m vsn epoch (epoch + 1) format)) {
      making = is_new group.next_mount m ∷ [];
      refusals = mount_refusal 0 group vsn.0 ∷ [];
      opens = opening.Reuse g m epoch (record { vsn = vsn; next_epoch = epoch + 1; version = format }) now;
    }

abbrev pub reuse_first : GroupId → Group → ℕ → ℕ → List Vsn → Plan
reuse_first g group m now [] = group_healing_plan g answer.NoneReusable
reuse_first g group m now (vsn ∷ vsns) = reuse_of g group m now vsn

abbrev pub reuse_next : GroupId → Group → ℕ → ℕ → Plan
reuse_next g group m now =
    let time = group_time group now in
    reuse_first g group m now (reusable_in (usage_of group) time group.conf.hold group.conf.format group.tables.volumes)

abbrev pub reuse : GroupId → Group → ℕ → ℕ → Option Reusing → Plan
reuse g group m now None = no_token g
reuse g group m now (Some x) =
    record (group_healing_plan g answer.Reused) {
      ends = ending.Mount g m;
      payload = group_journal_payload g group now (step.Reuse x.vsn x.next_epoch x.version);
    }

-- the label that the mount is for was written last, and the clock reads no less than as the reuse began
abbrev pub is_reuse_label : ℕ → Origin → Option Label → Bool
is_reuse_label now (origin.Reuse next_epoch version reading) label =
    is_label next_epoch version label && nat_le reading.0 now
is_reuse_label now (origin.New listed format) label = false
is_reuse_label now (origin.Piece b index piece chunk) label = false
is_reuse_label now (origin.Chunk b chunk) label = false
is_reuse_label now (origin.Source job b chunk) label = false
is_reuse_label now (origin.Target job b total chunk version) label = false

abbrev pub was_relabelled : ℕ → Option MountState → Bool
was_relabelled now None = false
was_relabelled now (Some x) = is_reuse_label now x.origin x.labelled

abbrev pub reuse_needs : ℕ → Option MountState → Needs
reuse_needs now x = of_tokens ((was_relabelled now x, guard.VolumeRelabelled) ∷ [])

-- ---- what a group tells

abbrev pub volume_fact : List ℕ → VolumeRow → VolFact
volume_fact vsn v = record { vsn = record { 0 = vsn }; epoch = v.epoch; end = v.end; version = v.version }

abbrev pub bitfile_row : ℕ → BitfileRow → BitRow
bitfile_row b row = record { bfid = record { 0 = b }; total = row.len; chunks = row.chunks }

-- volumes by serial number, bitfiles by identifier
abbrev pub rows_of : Group → GroupRows
rows_of group = record {
  time = group.tables.time;
  size = group.conf.size;
  volumes = prelude.map (λ e. volume_fact e.0 e.1) (map.entries group.tables.volumes);
  files = prelude.map (λ e. bitfile_row e.0 e.1) (map.entries group.tables.bitfiles);
}

abbrev pub all_rows : GroupId → Group → Plan
all_rows g group = group_healing_plan g (answer.Rows (rows_of group))

abbrev pub volumes : GroupId → Group → Plan
volumes g group = group_healing_plan g (answer.Volumes (all_volumes group))

-- ---- all calls

abbrev pub group_plan : GroupId → Group → GroupCall → Plan
group_plan g group call.Missing = missing g group
group_plan g group (call.MountNew vsn m) = mount_new g group vsn m
group_plan g group (call.AddVolume m now) = add_volume g group m now.0 (map.get group.mounts m)
group_plan g group (call.Reserve b len n) = reserve g group b len n
group_plan g group (call.MountPiece n k m) = mount_piece g group k m (map.get group.reservations n)
group_plan g group (call.MountChunk b offset m) = mount_chunk g group b offset m (map.get group.tables.bitfiles b.0)
group_plan g group (call.Unmount m) = unmount g m (map.get group.mounts m)
group_plan g group (call.Commit n sums now) = commit g group n sums now.0 (map.get group.reservations n)
group_plan g group (call.Abort n) = abort g n (map.get group.reservations n)
group_plan g group (call.Delete b now) = delete g group b now.0
group_plan g group call.MergeList = merge_list g group
group_plan g group (call.MergeNext merged source job from to) = merge_next g group merged source job from to
group_plan g group (call.MoveDone job sum now) = move_done g group job sum now.0 (map.get group.moves job)
group_plan g group (call.DropMove job) = drop_move g job (map.get group.moves job)
group_plan g group (call.Free vsn now) = free g group vsn now.0 (map.get group.tables.volumes vsn.0)
group_plan g group (call.ReuseNext m now) = reuse_next g group m now.0
group_plan g group (call.Reuse m now) = reuse g group m now.0 (map.get group.reuses m)
group_plan g group call.Rows = all_rows g group
group_plan g group call.Volumes = volumes g group

-- the worker is the one that calls, if anything is known of it
abbrev pub group_needs : Option Worker → History → GroupId → Side → GroupCall → Needs
group_needs w h g s call.Missing = no_needs
group_needs w h g s (call.MountNew vsn m) = no_needs
group_needs w h g s (call.AddVolume m now) = add_volume_needs (map.get s.mounts m)
group_needs w h g s (call.Reserve b len n) = reserve_needs (map.get s.copies b.0) len
group_needs w h g s (call.MountPiece n k m) = no_needs
group_needs w h g s (call.MountChunk b offset m) = mount_chunk_needs w g b
group_needs w h g s (call.Unmount m) = unmount_needs (map.get s.mounts m)
group_needs w h g s (call.Commit n sums now) = commit_needs h.contents s.copies n sums (map.get s.group.reservations n)
group_needs w h g s (call.Abort n) = abort_needs s.copies n (map.get s.group.reservations n)
group_needs w h g s (call.Delete b now) = delete_needs h b
group_needs w h g s call.MergeList = no_needs
group_needs w h g s (call.MergeNext merged source job from to) = no_needs
group_needs w h g s (call.MoveDone job sum now) = move_done_needs s.mounts sum (map.get s.group.moves job)
group_needs w h g s (call.DropMove job) = no_needs
group_needs w h g s (call.Free vsn now) = no_needs
group_needs w h g s (call.ReuseNext m now) = no_needs
group_needs w h g s (call.Reuse m now) = reuse_needs now.0 (map.get s.mounts m)
group_needs w h g s call.Rows = no_needs
group_needs w h g s call.Volumes = no_needs
