-- What the calls of a group journal, leave and make lets a chunk that was once live be.
use Rattle.std.proofs.Common.{◌≡◌, ℕ, ◌+◌, ◌≤◌, Bool, true, false, cond, nat_eq, Option, None, Some, is_none, List, [], ◌∷◌, refl, sym, ap, subst, ◌∙◌, arith}
use Rattle.std.proofs.lemmas.Option.{same_Some}
use Rattle.std.specs.FinMap as map
use Rattle.dm_base.specs.declared.identifier.Bfid.{Bfid}
use Rattle.dm_base.specs.declared.identifier.GroupId.{GroupId}
use Rattle.dm_base.specs.declared.serial.Vsn.{Vsn}
use Rattle.dm_base.specs.declared.volume.Chunk.{Chunk}
use Rattle.dm_base.specs.declared.volume.Piece.{Piece}
use Rattle.dm_rules.specs.declared.space.Space.{Space}
use Rattle.dm_tables.proofs.Rows.{one_row}
use Rattle.dm_durable.specs.declared.group.BitfileRow.{BitfileRow}
use Rattle.dm_durable.specs.declared.group.VolumeRow.{VolumeRow}
use Rattle.dm_durable.specs.Group.{chunk_at}
use Rattle.dm_durable.specs.Tables.{ByNumber}
use Rattle.dm_durable.specs.Volumes.{LiveChunk, destination_in, first_on, is_freeable_in, planned_pieces, reusable_in, tip_in}
use Rattle.dm_model.specs.declared.answer.Answer.{Answer}
use Rattle.dm_model.specs.declared.call.Component.TheVariants as component
use Rattle.dm_model.specs.declared.call.GroupCall.{GroupCall}
use Rattle.dm_model.specs.declared.call.GroupCall.TheVariants as group_call
use Rattle.dm_model.specs.declared.plan.Mark.{Mark}
use Rattle.dm_model.specs.declared.plan.Mark.TheVariants as mark
use Rattle.dm_model.specs.declared.plan.Opening.{Opening}
use Rattle.dm_model.specs.declared.plan.Opening.TheVariants as opening
use Rattle.dm_model.specs.declared.plan.Payload.{Payload}
use Rattle.dm_model.specs.declared.plan.Payload.TheVariants as payload
use Rattle.dm_model.specs.declared.state.Joint.{Joint}
use Rattle.dm_model.specs.declared.state.Mounted.{Mounted}
use Rattle.dm_model.specs.declared.state.Moving.{Moving}
use Rattle.dm_model.specs.declared.state.Reserved.{Reserved}
use Rattle.dm_model.specs.declared.state.Reusing.{Reusing}
use Rattle.dm_model.specs.declared.state.Side.{Side}
use Rattle.dm_model.specs.Effects.{after_ending, after_healing, after_mark, after_payload}
use Rattle.dm_model.specs.GroupCalls.{abort, add_volume, commit, delete_of, drop_move, free, free_of, group_plan, group_time, merge_first, merge_next, merge_to}
use Rattle.dm_model.specs.GroupCalls.{mount_chunk, mount_chunk_of, mount_piece, mount_piece_of, move_done, piece_at, reserve, reuse, reuse_first, unmount}
use Rattle.dm_model.specs.Guards.{AllHold}
use Rattle.dm_model.specs.Plan.{Plan, if_accepted}
use Rattle.dm_model.specs.SideShare.{side_without_doubt}
use Rattle.dm_model.specs.Volumes.{usage_of}
use Rattle.dm_model.proofs.Shares.{healing-at}
use Rattle.dm_invariant.specs.Kept.{InvariantHolds, SideKept, committed_in, deleted_in}
use Rattle.dm_invariant.specs.Places.{ChunkCovers}
use Rattle.dm_group_effects.proofs.PlacesMore.{BeforeTip, beyond_tip, end_before}
use Rattle.dm_group_effects.proofs.Spaces.{SpaceOf, destination_is}
use Rattle.dm_group_effects.proofs.TipsMoved.{laid_out}
use Rattle.dm_once.proofs.OnceParts.{MarksRight, OpensRight, PaysRight, SideWas, was_doubted, was_ended, was_failed, was_marked, was_opened, was_paid, was_settled}
use Rattle.dm_once.proofs.SidesAlong.{MarksIf, OpensIf, PaysIf}

none_of : {X : Type 0} (o : Option X) → is_none o ≡ true → o ≡ None
none_of None is = refl
none_of (Some x) is = absurd (cc)

module _ (contents : ByNumber (List ℕ)) (g0 epoch b : ℕ) (c : Chunk) where
  abbrev pub PaysWas : Joint → Option Payload → Type 0
  PaysWas j o =
      PaysIf (SideWas contents g0 epoch b c) (PaysRight contents g0 epoch b c) (MarksRight contents g0 epoch b c) (OpensRight contents g0 epoch b c)
      (was_ended contents g0 epoch b c) (was_settled contents g0 epoch b c) (was_paid contents g0 epoch b c) (was_doubted contents g0 epoch b c)
      (was_marked contents g0 epoch b c) (was_failed contents g0 epoch b c) (was_opened contents g0 epoch b c) j o

  abbrev pub MarksWas : Joint → Mark → Type 0
  MarksWas j x =
      MarksIf (SideWas contents g0 epoch b c) (PaysRight contents g0 epoch b c) (MarksRight contents g0 epoch b c) (OpensRight contents g0 epoch b c)
      (was_ended contents g0 epoch b c) (was_settled contents g0 epoch b c) (was_paid contents g0 epoch b c) (was_doubted contents g0 epoch b c)
      (was_marked contents g0 epoch b c) (was_failed contents g0 epoch b c) (was_opened contents g0 epoch b c) j x

  abbrev pub OpensWas : Joint → Opening → Type 0
  OpensWas j o =
      OpensIf (SideWas contents g0 epoch b c) (PaysRight contents g0 epoch b c) (MarksRight contents g0 epoch b c) (OpensRight contents g0 epoch b c)
      (was_ended contents g0 epoch b c) (was_settled contents g0 epoch b c) (was_paid contents g0 epoch b c) (was_doubted contents g0 epoch b c)
      (was_marked contents g0 epoch b c) (was_failed contents g0 epoch b c) (was_opened contents g0 epoch b c) j o

  -- a group's call leaves no mark on a volume
  abbrev Unmarked : Mark → Type 0
  Unmarked mark.Nothing = Unit {0}
  Unmarked (mark.Zone g vsn place zone d index e) = ⊥
  Unmarked (mark.Target g vsn m place zone) = ⊥
  Unmarked (mark.Label g vsn m e version text) = ⊥
  Unmarked (mark.Read g d offset bytes) = Unit {0}
  Unmarked (mark.Source g m bytes) = ⊥
  Unmarked (mark.Deleted g d) = Unit {0}

  unmarked_right : (j : Joint) (x : Mark) → Unmarked x → MarksWas j x
  unmarked_right j mark.Nothing none = tt
  unmarked_right j (mark.Zone g vsn place zone d index e) none = absurd none
  unmarked_right j (mark.Target g vsn m place zone) none = absurd none
  unmarked_right j (mark.Label g vsn m e version text) none = absurd none
  unmarked_right j (mark.Read g d offset bytes) none = tt
  unmarked_right j (mark.Source g m bytes) none = absurd none
  unmarked_right j (mark.Deleted g d) none = tt

  pub unmarked_if : (j : Joint) (o : Option Answer) (x : Mark) → Unmarked x → MarksWas j (if_accepted o mark.Nothing x)
  unmarked_if j None x none = unmarked_right j x none
  unmarked_if j (Some a) x none = tt

  -- what it journals, by the tables before
  abbrev pub PaysOf : Side → Option Payload → Type 0
  PaysOf s None = Unit {0}
  PaysOf s (Some (payload.Daemon r)) = Unit {0}
  PaysOf s (Some (payload.Group g r)) = PaysRight contents g0 epoch b c g.0 s r

  pub pays_if : (s : Side) (o : Option Answer) (q : Option Payload) → PaysOf s q → PaysOf s (if_accepted o None q)
  pays_if s None q pays = pays
  pays_if s (Some a) q pays = tt

  module _ (j : Joint) (w : ℕ) (kept : InvariantHolds j) (g : GroupId) (s : Side) (side : map.get j.sides g.0 ≡ Some s) where
    abbrev K : SideKept j.daemon.tables.entries j.history.contents j.history.taken j.daemon.requests g.0 (committed_in (map.get j.history.groups g.0))
        (deleted_in (map.get j.history.groups g.0)) s
    K = kept.sides g.0 s side

    -- the state in which a plan makes something
    abbrev Made : Plan → Joint
    Made p = after_mark w p.mark (after_payload p.payload (after_healing p.heals p.component (after_ending w p.ends j)))

    -- what a plan does lets the chunk be
    pub record Lets (p : Plan) : Type 0 where
      pub marks : Unmarked p.mark
      pub pays : AllHold p.own → PaysOf s p.payload
      pub opens : OpensWas (Made p) p.opens

    healed_is : (x : Side) → map.get (after_healing true (component.Group g) j).sides g.0 ≡ Some x → side_without_doubt true s ≡ x
    healed_is x is = same_Some _ x (sym (healing-at g true j.sides s side) ∙ is)

    -- a place before the end of a volume is none of a zone from its tip
    before : (v : VolumeRow) (q : ℕ) → map.get s.group.tables.volumes c.vsn.0 ≡ Some v → c.place + c.len ≤ v.end → ChunkCovers c c.vsn.0 q
        → BeforeTip s.group.tables.volumes s.group.tips c.vsn.0 q
    before v q is within covers =
        let high = covers.high in
        end_before s.group.conf s.group.tables.time.0 s.group.tables.volumes s.group.tips c.vsn.0 v q K.volumes.volume is (omega (arith, high, within))

    -- ---- a reservation

    reserved_right : (n : ℕ) (d : Bfid) (len : ℕ)
        → OpensRight contents g0 epoch b c g.0 s (opening.Reservation g n
        (record { bfid = d; len = len; chunk = s.group.conf.chunk; pieces = planned_pieces (usage_of s.group) s.group.tables.volumes len }))
    reserved_right n d len = λ v is within p among q covers own.
        let laid = laid_out s.group s.group.tables.time.0 len K.volumes in
        beyond_tip (usage_of s.group) s.group.tables.volumes p.vsn.0 p.version p.zone _ q (laid.zones p among) covers.low
        (subst (λ x. BeforeTip s.group.tables.volumes s.group.tips x q) (sym covers.same) (before v q is within own))

    file_reserved : (d : Bfid) (len n : ℕ) → Lets (reserve g s.group d len n)
    file_reserved d len n = record {
      marks = tt;
      pays = λ own. tt;
      opens = λ x at p. subst (λ (y : Side). OpensRight contents g0 epoch b c g.0 y (opening.Reservation g n
          (record { bfid = d; len = len; chunk = s.group.conf.chunk; pieces = planned_pieces (usage_of s.group) s.group.tables.volumes len })))
          (healed_is x at) (reserved_right n d len);
    }

    -- ---- a move

    moved_right : (sp : Space) (zone : ℕ) (vsn : List ℕ) → SpaceOf (usage_of s.group) s.group.tables.volumes sp → zone ≡ sp.tip → sp.vsn.0 ≡ vsn
        → (v : VolumeRow) → map.get s.group.tables.volumes c.vsn.0 ≡ Some v → c.place + c.len ≤ v.end → (q : ℕ) → vsn ≡ c.vsn.0 → zone ≤ q
        → ChunkCovers c c.vsn.0 q → ⊥
    moved_right sp zone vsn of at on v row within q same low own =
        let bt = before v q row within own in
        let here : sp.vsn.0 ≡ c.vsn.0 = on ∙ same in
        let one : of.volume ≡ bt.volume = one_row s.group.tables.volumes sp.vsn.0 c.vsn.0 of.volume bt.volume here of.is bt.is in
        let tip : sp.tip ≡ tip_in s.group.tips c.vsn.0 bt.volume =
        of.tip ∙ ap (λ x. tip_in s.group.tips x of.volume) here ∙ ap (tip_in s.group.tips c.vsn.0) one in
        let high = bt.before in
        omega (arith, tip, at, low, high)

    same_volumes : (x : Side) → map.get (after_healing true (component.Group g) j).sides g.0 ≡ Some x
        → x.group.tables.volumes ≡ s.group.tables.volumes
    same_volumes x is = sym (ap (λ (y : Side). y.group.tables.volumes) (healed_is x is))

    merged_to : (merged : List Vsn) (l : LiveChunk) (job from to : ℕ) (o : Option Space)
        → destination_in (usage_of s.group) merged s.group.tables.volumes l.chunk.len ≡ o → Lets (merge_to g s.group merged l job from to o)
    merged_to merged l job from to None is = record { marks = tt; pays = λ own. tt; opens = tt }
    merged_to merged l job from to (Some sp) is =
        let d = destination_is (usage_of s.group) merged s.group.tables.volumes l.chunk.len sp is in
        record {
          marks = tt;
          pays = λ own. tt;
          opens = λ x at p v row within q covers own.
              moved_right sp sp.tip sp.vsn.0 d.of refl refl v (ap (λ m. map.get m c.vsn.0) (sym (same_volumes x at)) ∙ row) within q covers.same covers.low own;
        }

    merged_first : (merged : List Vsn) (job from to : ℕ) (o : Option LiveChunk) → Lets (merge_first g s.group merged job from to o)
    merged_first merged job from to None = record { marks = tt; pays = λ own. tt; opens = tt }
    merged_first merged job from to (Some l) =
        merged_to merged l job from to (destination_in (usage_of s.group) merged s.group.tables.volumes l.chunk.len) refl

    -- a move that begins journals nothing
    merge_to_pays : (merged : List Vsn) (l : LiveChunk) (job from to : ℕ) (o : Option Space) → PaysOf s (merge_to g s.group merged l job from to o).payload
    merge_to_pays merged l job from to None = tt
    merge_to_pays merged l job from to (Some sp) = tt

    merge_pays : (merged : List Vsn) (job from to : ℕ) (o : Option LiveChunk) → PaysOf s (merge_first g s.group merged job from to o).payload
    merge_pays merged job from to None = tt
    merge_pays merged job from to (Some l) =
        merge_to_pays merged l job from to (destination_in (usage_of s.group) merged s.group.tables.volumes l.chunk.len)

    merged_next : (merged : List Vsn) (source : Vsn) (job from to : ℕ) → Lets (merge_next g s.group merged source job from to)
    merged_next merged source job from to =
        let first = merged_first merged job from to (first_on s.group.tables.bitfiles source.0) in
        record {
          marks = first.marks;
          pays = λ own. merge_pays merged job from to (first_on s.group.tables.bitfiles source.0);
          opens = first.opens;
        }

    -- ---- the others

    volume_added : (m now : ℕ) (o : Option Mounted) → Lets (add_volume g s.group m now o)
    volume_added m now None = record { marks = tt; pays = λ own. tt; opens = tt }
    volume_added m now (Some x) =
        record { marks = tt; pays = λ own. none_of (map.get s.group.tables.volumes x.vsn.0) own.0; opens = tt }

    piece_mounted_of : (r : Reserved) (k m : ℕ) (o : Option Piece) → Lets (mount_piece_of g s.group r k m o)
    piece_mounted_of r k m None = record { marks = tt; pays = λ own. tt; opens = tt }
    piece_mounted_of r k m (Some p) = record { marks = tt; pays = λ own. tt; opens = λ x at p. tt }

    piece_mounted : (k m : ℕ) (o : Option Reserved) → Lets (mount_piece g s.group k m o)
    piece_mounted k m None = record { marks = tt; pays = λ own. tt; opens = tt }
    piece_mounted k m (Some r) = piece_mounted_of r k m (piece_at k r.pieces)

    chunk_mounted_of : (d : Bfid) (m : ℕ) (o : Option Chunk) → Lets (mount_chunk_of g s.group d m o)
    chunk_mounted_of d m None = record { marks = tt; pays = λ own. tt; opens = tt }
    chunk_mounted_of d m (Some e) = record { marks = tt; pays = λ own. tt; opens = λ x at p. tt }

    at_end : (q p : Plan) (end : Bool) → Lets q → Lets p → Lets (cond end q p)
    at_end q p true is_q is_p = is_q
    at_end q p false is_q is_p = is_p

    chunk_mounted : (d : Bfid) (offset m : ℕ) (o : Option BitfileRow) → Lets (mount_chunk g s.group d offset m o)
    chunk_mounted d offset m None = chunk_mounted_of d m None
    chunk_mounted d offset m (Some row) =
        at_end _ _ (nat_eq offset row.len) (record { marks = tt; pays = λ own. tt; opens = tt }) (chunk_mounted_of d m (chunk_at offset row.chunks))

    unmounted : (m : ℕ) (o : Option Mounted) → Lets (unmount g m o)
    unmounted m None = record { marks = tt; pays = λ own. tt; opens = tt }
    unmounted m (Some x) = record { marks = tt; pays = λ own. tt; opens = tt }

    committed : (n : ℕ) (sums : List (List ℕ)) (now : ℕ) (o : Option Reserved) → Lets (commit g s.group n sums now o)
    committed n sums now None = record { marks = tt; pays = λ own. tt; opens = tt }
    committed n sums now (Some r) = record { marks = tt; pays = λ own. tt; opens = tt }

    aborted : (n : ℕ) (o : Option Reserved) → Lets (abort g n o)
    aborted n None = record { marks = tt; pays = λ own. tt; opens = tt }
    aborted n (Some r) = record { marks = tt; pays = λ own. tt; opens = tt }

    deleted : (d : Bfid) (now : ℕ) (there : Bool) → Lets (delete_of g s.group d now there)
    deleted d now true = record { marks = tt; pays = λ own. tt; opens = tt }
    deleted d now false = record { marks = tt; pays = λ own. tt; opens = tt }

    moved : (job : ℕ) (sum : Option (List ℕ)) (now : ℕ) (o : Option Moving) → Lets (move_done g s.group job sum now o)
    moved job sum now None = record { marks = tt; pays = λ own. tt; opens = tt }
    moved job sum now (Some x) = record { marks = tt; pays = λ own. tt; opens = tt }

    move_dropped : (job : ℕ) (o : Option Moving) → Lets (drop_move g job o)
    move_dropped job None = record { marks = tt; pays = λ own. tt; opens = tt }
    move_dropped job (Some x) = record { marks = tt; pays = λ own. tt; opens = tt }

    freed_of : (vsn : Vsn) (now : ℕ) (freed : Bool) → Lets (free_of g s.group vsn now freed)
    freed_of vsn now true = record { marks = tt; pays = λ own. tt; opens = tt }
    freed_of vsn now false = record { marks = tt; pays = λ own. tt; opens = tt }

    freed : (vsn : Vsn) (now : ℕ) (o : Option VolumeRow) → Lets (free g s.group vsn now o)
    freed vsn now None = record { marks = tt; pays = λ own. tt; opens = tt }
    freed vsn now (Some v) = freed_of vsn now (is_freeable_in (usage_of s.group) s.group.tables vsn.0 v)

    reuse_begun : (m now : ℕ) (vsns : List Vsn) → Lets (reuse_first g s.group m now vsns)
    reuse_begun m now [] = record { marks = tt; pays = λ own. tt; opens = tt }
    reuse_begun m now (v ∷ vs) = record { marks = tt; pays = λ own. tt; opens = λ x at p. tt }

    reused : (m now : ℕ) (o : Option Reusing) → map.get s.group.reuses m ≡ o → Lets (reuse g s.group m now o)
    reused m now None is = record { marks = tt; pays = λ own. tt; opens = tt }
    reused m now (Some x) is =
        let job = K.reuses m x is in
        record {
          marks = tt;
          pays = λ own v at. job.next ∙ ap (λ (y : VolumeRow). y.epoch + 1) (one_row s.group.tables.volumes x.vsn.0 x.vsn.0 job.volume v refl job.known at);
          opens = tt;
        }

    -- every call of the group lets the chunk be
    pub plan_lets : (e : GroupCall) → Lets (group_plan g s.group e)
    plan_lets group_call.Missing = record { marks = tt; pays = λ own. tt; opens = tt }
    plan_lets (group_call.MountNew vsn m) = record { marks = tt; pays = λ own. tt; opens = λ x at p. tt }
    plan_lets (group_call.AddVolume m now) = volume_added m now.0 (map.get s.group.mounts m)
    plan_lets (group_call.Reserve d len n) = file_reserved d len n
    plan_lets (group_call.MountPiece n k m) = piece_mounted k m (map.get s.group.reservations n)
    plan_lets (group_call.MountChunk d offset m) = chunk_mounted d offset m (map.get s.group.tables.bitfiles d.0)
    plan_lets (group_call.Unmount m) = unmounted m (map.get s.group.mounts m)
    plan_lets (group_call.Commit n sums now) = committed n sums now.0 (map.get s.group.reservations n)
    plan_lets (group_call.Abort n) = aborted n (map.get s.group.reservations n)
    plan_lets (group_call.Delete d now) = deleted d now.0 _
    plan_lets group_call.MergeList = record { marks = tt; pays = λ own. tt; opens = tt }
    plan_lets (group_call.MergeNext merged source job from to) = merged_next merged source job from to
    plan_lets (group_call.MoveDone job sum now) = moved job sum now.0 (map.get s.group.moves job)
    plan_lets (group_call.DropMove job) = move_dropped job (map.get s.group.moves job)
    plan_lets (group_call.Free vsn now) = freed vsn now.0 (map.get s.group.tables.volumes vsn.0)
    plan_lets (group_call.ReuseNext m now) =
        reuse_begun m now.0 (reusable_in (usage_of s.group) (group_time s.group now.0) s.group.conf.hold s.group.conf.format s.group.tables.volumes)
    plan_lets (group_call.Reuse m now) = reused m now.0 (map.get s.group.reuses m) refl
    plan_lets group_call.Rows = record { marks = tt; pays = λ own. tt; opens = tt }
    plan_lets group_call.Volumes = record { marks = tt; pays = λ own. tt; opens = tt }
