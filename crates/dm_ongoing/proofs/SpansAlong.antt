-- Each event leaves a bitfile that no hard delete took in its group, in chunks of the same spans.
use Rattle.std.proofs.Common.{◌≡◌, ℕ, Bool, true, false, cond, ◌&&◌, nat_eq, Option, None, Some, List, [], ◌∷◌, option_map, IsSome, is_some, refl, sym, ap, subst, ◌∙◌}
use Rattle.std.specs.FinMap as map
use Rattle.dm_base.specs.declared.identifier.Bfid.{Bfid}
use Rattle.dm_base.specs.declared.identifier.GroupId.{GroupId}
use Rattle.dm_base.specs.declared.serial.Vsn.{Vsn}
use Rattle.dm_base.specs.declared.volume.Chunk.{Chunk}
use Rattle.dm_base.specs.declared.volume.Piece.{Piece}
use Rattle.dm_tables.specs.Rows.{adjust}
use Rattle.dm_tables.proofs.Adjusted.{adjusted-here}
use Rattle.dm_tables.proofs.Orders.{numbers}
use Rattle.dm_tables.proofs.Rows.{one_row}
use Rattle.dm_durable.specs.declared.daemon.DaemonRecord.{DaemonRecord}
use Rattle.dm_durable.specs.declared.group.BitfileRow.{BitfileRow}
use Rattle.dm_durable.specs.declared.group.GroupRecord.{GroupRecord}
use Rattle.dm_durable.specs.declared.group.GroupStep.{GroupStep}
use Rattle.dm_durable.specs.declared.group.GroupStep.TheVariants as group_step
use Rattle.dm_durable.specs.declared.group.VolumeRow.{VolumeRow}
use Rattle.dm_durable.specs.Group.{chunk_at}
use Rattle.dm_durable.specs.GroupConditions.{MayGroupStep, MayMove}
use Rattle.dm_durable.specs.Tables.{ByNumber}
use Rattle.dm_durable.specs.Volumes.{LiveChunk, destination_in, first_on, is_freeable_in, reusable_in}
use Rattle.dm_rules.specs.declared.space.Space.{Space}
use Rattle.dm_model.specs.declared.answer.Answer.{Answer}
use Rattle.dm_model.specs.declared.call.Call.{Call}
use Rattle.dm_model.specs.declared.call.Call.TheVariants as call
use Rattle.dm_model.specs.declared.call.Component.{Component}
use Rattle.dm_model.specs.declared.call.Component.TheVariants as component
use Rattle.dm_model.specs.declared.call.DaemonCall.{DaemonCall}
use Rattle.dm_model.specs.declared.call.Event.{Event}
use Rattle.dm_model.specs.declared.call.Event.TheVariants as event
use Rattle.dm_model.specs.declared.call.GroupCall.{GroupCall}
use Rattle.dm_model.specs.declared.call.GroupCall.TheVariants as group_call
use Rattle.dm_model.specs.declared.call.VolumeCall.{VolumeCall}
use Rattle.dm_model.specs.declared.call.VolumeCall.TheVariants as volume_call
use Rattle.dm_model.specs.declared.plan.Ending.{Ending}
use Rattle.dm_model.specs.declared.plan.Ending.TheVariants as ending
use Rattle.dm_model.specs.declared.plan.Mark.{Mark}
use Rattle.dm_model.specs.declared.plan.Mark.TheVariants as mark
use Rattle.dm_model.specs.declared.plan.Opening.{Opening}
use Rattle.dm_model.specs.declared.plan.Opening.TheVariants as opening
use Rattle.dm_model.specs.declared.plan.Payload.{Payload}
use Rattle.dm_model.specs.declared.plan.Payload.TheVariants as payload
use Rattle.dm_model.specs.declared.plan.Prepared.{Prepared}
use Rattle.dm_model.specs.declared.state.Image.{Image}
use Rattle.dm_model.specs.declared.state.Joint.{Joint}
use Rattle.dm_model.specs.declared.state.Mounted.{Mounted}
use Rattle.dm_model.specs.declared.state.MountState.{MountState}
use Rattle.dm_model.specs.declared.state.Moving.{Moving}
use Rattle.dm_model.specs.declared.state.Reserved.{Reserved}
use Rattle.dm_model.specs.declared.state.Reusing.{Reusing}
use Rattle.dm_model.specs.declared.state.Side.{Side}
use Rattle.dm_model.specs.DaemonCalls.{daemon_needs, daemon_plan}
use Rattle.dm_model.specs.Effects.{after_ending, after_failed_mark, after_healing, after_mark, after_payload, joint_with_doubt}
use Rattle.dm_model.specs.GroupCalls.{abort, add_volume, commit, delete_of, drop_move, free, free_of, group_needs, group_plan, merge_first, merge_to, mount_chunk}
use Rattle.dm_model.specs.GroupCalls.{mount_chunk_of, mount_piece, mount_piece_of, move_done, move_done_needs, piece_at, reuse, reuse_first, unmount, group_time}
use Rattle.dm_model.specs.Guards.{AllHold}
use Rattle.dm_model.specs.SideShare.{side_after_ending, side_without_doubt}
use Rattle.dm_model.specs.Volumes.{usage_of}
use Rattle.dm_model.specs.Plan.{Plan, Needs, guards_always, guards_of, if_accepted, illegal_call, illegal_fault, prepared_plan, refusal_of}
use Rattle.dm_model.specs.VolumeCalls.{mount_in, volume_plan}
use Rattle.dm_model.specs.Step.{Stepped, after_call, after_fault, after_landing, after_stop, doubt_outcome, landing_outcome_in, needs_of, outcome_of, plan_of, side_needs, side_plan, step, volume_plan_in}
use Rattle.dm_model.proofs.PlansOf.{group_plan-of, prepared-of}
use Rattle.dm_model.proofs.Shares.{IsOfGroup, PaysOf, ending-at, healing-at}
use Rattle.dm_invariant.specs.Doubts.{GroupMayLandIf, GroupStepNeeds}
use Rattle.dm_invariant.specs.Kept.{InvariantHolds, SideKept, committed_in, deleted_in}
use Rattle.dm_landing.proofs.CallsLanded.{PayloadLands, daemon_call_lands}
use Rattle.dm_effects.proofs.BeginningCalls.{always_hold}
use Rattle.dm_group_effects.proofs.MoveCall.{move_done_kept}
use Rattle.dm_shown.proofs.EventsShown.{all_hold, landed_is, look_is, outcome_is, payload_is}
use Rattle.dm_once.proofs.SidesAlong.{MarksIf, OpensIf, PaysIf, all_called, all_faulted, all_landed, all_stopped}
use Rattle.dm_ongoing.specs.Spans.{GroupHasSpans, IsUntaken, RowHasSpans}
use Rattle.dm_ongoing.proofs.SpansMoved.{spans_moved}
use Rattle.dm_ongoing.proofs.SpansParts.{AnyMark, AnyOpening, KeepsRow, PaysKeeping, SideHas, has_doubted, has_ended, has_failed, has_marked, has_opened, has_paid}
use Rattle.dm_ongoing.proofs.SpansParts.{has_settled, has_stopped}

-- a side has its bitfiles whatever is spent, and whether it heals
tables_ended : (e : Ending) (s : Side) → (side_after_ending e s).group.tables.bitfiles ≡ s.group.tables.bitfiles
tables_ended ending.Nothing s = refl
tables_ended (ending.Put k b groups) s = refl
tables_ended (ending.Recall k) s = refl
tables_ended (ending.Reservation g n b) s = refl
tables_ended (ending.Mount g m) s = refl
tables_ended (ending.Move g job source target) s = refl

tables_healed : (heals : Bool) (s : Side) → (side_without_doubt heals s).group.tables.bitfiles ≡ s.group.tables.bitfiles
tables_healed true s = refl
tables_healed false s = refl

same_value : {X : Type 0} (x y : X) → Some x ≡ Some y → x ≡ y
same_value x y is = cc

untaken_not : (o : Option (Unit {0})) → o ≡ None → is_some o ≡ true → ⊥
untaken_not None none some = cc
untaken_not (Some u) none some = cc

untaken_some : (o : Option (Unit {0})) → o ≡ None → IsSome o → ⊥
untaken_some None none some = cc
untaken_some (Some u) none some = cc

module _ (g0 b : ℕ) (spans : List (ℕ × ℕ)) where
  abbrev PaysHas : Joint → Option Payload → Type 0
  PaysHas j o =
      PaysIf (SideHas g0 b spans) (PaysKeeping g0 b spans) (AnyMark g0 b spans) (AnyOpening g0 b spans) (has_ended g0 b spans) (has_settled g0 b spans) (has_paid g0 b spans)
      (has_doubted g0 b spans) (has_marked g0 b spans) (has_failed g0 b spans) (has_opened g0 b spans) j o

  abbrev MarksHas : Joint → Mark → Type 0
  MarksHas j x =
      MarksIf (SideHas g0 b spans) (PaysKeeping g0 b spans) (AnyMark g0 b spans) (AnyOpening g0 b spans) (has_ended g0 b spans) (has_settled g0 b spans) (has_paid g0 b spans)
      (has_doubted g0 b spans) (has_marked g0 b spans) (has_failed g0 b spans) (has_opened g0 b spans) j x

  abbrev OpensHas : Joint → Opening → Type 0
  OpensHas j o =
      OpensIf (SideHas g0 b spans) (PaysKeeping g0 b spans) (AnyMark g0 b spans) (AnyOpening g0 b spans) (has_ended g0 b spans) (has_settled g0 b spans) (has_paid g0 b spans)
      (has_doubted g0 b spans) (has_marked g0 b spans) (has_failed g0 b spans) (has_opened g0 b spans) j o

  any_mark : (j : Joint) (x : Mark) → MarksHas j x
  any_mark j mark.Nothing = tt
  any_mark j (mark.Zone g vsn place zone d index e) = λ s is. tt
  any_mark j (mark.Target g vsn m place zone) = λ s is. tt
  any_mark j (mark.Label g vsn m e version text) = λ s is. tt
  any_mark j (mark.Read g d offset bytes) = tt
  any_mark j (mark.Source g m bytes) = λ s is. tt
  any_mark j (mark.Deleted g d) = tt

  any_opening : (j : Joint) (o : Opening) → OpensHas j o
  any_opening j opening.Nothing = tt
  any_opening j (opening.Put k r len groups) = λ g s. tt
  any_opening j (opening.Recall k r recall) = tt
  any_opening j (opening.Reservation g n r) = λ s is p. tt
  any_opening j (opening.Mount g m vsn e made) = λ s is p. tt
  any_opening j (opening.Move g job x source_epoch target_epoch) = λ s is p. tt
  any_opening j (opening.Reuse g m e x reading) = λ s is p. tt

  called_has : (w : ℕ) (p : Prepared) (j : Joint) → PaysHas (after_healing p.heals p.component (after_ending w p.ends j)) p.payload → GroupHasSpans j g0 b spans
      → GroupHasSpans (after_call w p j) g0 b spans
  called_has w p j pays has =
      let healed = after_healing p.heals p.component (after_ending w p.ends j) in
      all_called (SideHas g0 b spans) (PaysKeeping g0 b spans) (AnyMark g0 b spans) (AnyOpening g0 b spans) (has_ended g0 b spans) (has_settled g0 b spans) (has_paid g0 b spans)
      (has_doubted g0 b spans) (has_marked g0 b spans) (has_failed g0 b spans) (has_opened g0 b spans) w p j pays
      (any_mark (after_payload p.payload healed) p.mark) (any_opening (after_mark w p.mark (after_payload p.payload healed)) p.opens) has

  faulted_has : (w : ℕ) (p : Prepared) (far : Bool) (j : Joint) → GroupHasSpans j g0 b spans → GroupHasSpans (after_fault w p far j) g0 b spans
  faulted_has w p far j has =
      all_faulted (SideHas g0 b spans) (PaysKeeping g0 b spans) (AnyMark g0 b spans) (AnyOpening g0 b spans) (has_ended g0 b spans) (has_settled g0 b spans) (has_paid g0 b spans)
      (has_doubted g0 b spans) (has_marked g0 b spans) (has_failed g0 b spans) (has_opened g0 b spans) w p far j
      (any_mark (after_ending w p.ends j) p.mark) has

  landed_has : (c : Component) (p : Payload) (j : Joint) → PaysHas (after_healing true c j) (Some p) → GroupHasSpans j g0 b spans
      → GroupHasSpans (after_landing c p j) g0 b spans
  landed_has c p j pays has =
      all_landed (SideHas g0 b spans) (PaysKeeping g0 b spans) (AnyMark g0 b spans) (AnyOpening g0 b spans) (has_ended g0 b spans) (has_settled g0 b spans) (has_paid g0 b spans)
      (has_doubted g0 b spans) (has_marked g0 b spans) (has_failed g0 b spans) (has_opened g0 b spans) c p j pays has

  stopped_has : (j : Joint) → GroupHasSpans j g0 b spans → GroupHasSpans (after_stop j) g0 b spans
  stopped_has j has =
      all_stopped (SideHas g0 b spans) (PaysKeeping g0 b spans) (AnyMark g0 b spans) (AnyOpening g0 b spans) (has_ended g0 b spans) (has_settled g0 b spans) (has_paid g0 b spans)
      (has_doubted g0 b spans) (has_marked g0 b spans) (has_failed g0 b spans) (has_opened g0 b spans) j
      (has_stopped g0 b spans) has

  -- what a plan of the group journals
  abbrev PlanKeeps : ℕ → Side → Option Payload → Type 0
  PlanKeeps g s None = Unit {0}
  PlanKeeps g s (Some (payload.Daemon r)) = Unit {0}
  PlanKeeps g s (Some (payload.Group h r)) = g ≡ g0 → KeepsRow s.group.tables.bitfiles b r.step

  keeps_if : (g : ℕ) (s : Side) (o : Option Answer) (q : Option Payload) → (o ≡ None → PlanKeeps g s q) → PlanKeeps g s (if_accepted o None q)
  keeps_if g s None q keeps = keeps refl
  keeps_if g s (Some a) q keeps = tt

  -- ---- a group's side, in a state that is kept

  module _ (j : Joint) (kept : InvariantHolds j) (untaken : IsUntaken j b) (w : ℕ) (g : GroupId) (s : Side) (side : map.get j.sides g.0 ≡ Some s)
      (has : g.0 ≡ g0 → RowHasSpans s.group.tables.bitfiles b spans) where
    abbrev K : SideKept j.daemon.tables.entries j.history.contents j.history.taken j.daemon.requests g.0 (committed_in (map.get j.history.groups g.0))
        (deleted_in (map.get j.history.groups g.0)) s
    K = kept.sides g.0 s side

    -- a bitfile that isn't there is another
    absent_other : (d : ℕ) → map.get s.group.tables.bitfiles d ≡ None → g.0 ≡ g0 → d ≡ b → ⊥
    absent_other d none same equal =
        let there = (has same).is in
        let here : map.get s.group.tables.bitfiles b ≡ None = ap (map.get s.group.tables.bitfiles) (sym equal) ∙ none in
        cc

    -- one that a hard delete took is another
    taken_other : (d : ℕ) → IsSome (map.get j.history.taken d) → d ≡ b → ⊥
    taken_other d taken equal = untaken_some (map.get j.history.taken b) untaken (subst (λ q. IsSome (map.get j.history.taken q)) equal taken)

    -- a chunk that may be moved keeps its span
    move_keeps : (d : Bfid) (from to : Chunk) → MayMove s.group.tables d.0 from to → KeepsRow s.group.tables.bitfiles b (group_step.Move d from to)
    move_keeps d from to may = λ equal row is.
        let same : may.row ≡ row = one_row s.group.tables.bitfiles d.0 b may.row row equal may.is is in
        spans_moved from to row.len row.chunks (K.catalogue.bitfile b row is).joins
        (subst (λ (r : BitfileRow). chunk_at from.offset r.chunks ≡ Some from) same may.has) may.offset may.len

    -- so does each step that may land
    step_keeps : (now : ℕ) (st : GroupStep) → MayGroupStep s.group.tables st
        → GroupStepNeeds g.0 j.daemon.tables.entries j.history.contents j.history.taken (deleted_in (map.get j.history.groups g.0)) s now st
        → g.0 ≡ g0 → KeepsRow s.group.tables.bitfiles b st
    step_keeps now (group_step.Volume vsn slot version size) may needs same = tt
    step_keeps now (group_step.Commit d len chunks) may needs same = λ equal. absent_other d.0 may.new same equal
    step_keeps now (group_step.Delete d) may needs same = λ equal. taken_other d.0 needs equal
    step_keeps now (group_step.Move d from to) may needs same = move_keeps d from to may
    step_keeps now (group_step.Free vsn) may needs same = tt
    step_keeps now (group_step.Reuse vsn epoch version) may needs same = tt

    -- ---- what a call journals

    volume_added : (m now : ℕ) (o : Option Mounted) → PlanKeeps g.0 s (add_volume g s.group m now o).payload
    volume_added m now None = tt
    volume_added m now (Some x) = λ same. tt

    volume_reused : (m now : ℕ) (o : Option Reusing) → PlanKeeps g.0 s (reuse g s.group m now o).payload
    volume_reused m now None = tt
    volume_reused m now (Some x) = λ same. tt

    piece_mounted_of : (r : Reserved) (k m : ℕ) (o : Option Piece) → PlanKeeps g.0 s (mount_piece_of g s.group r k m o).payload
    piece_mounted_of r k m None = tt
    piece_mounted_of r k m (Some p) = tt

    piece_mounted : (k m : ℕ) (o : Option Reserved) → PlanKeeps g.0 s (mount_piece g s.group k m o).payload
    piece_mounted k m None = tt
    piece_mounted k m (Some r) = piece_mounted_of r k m (piece_at k r.pieces)

    chunk_mounted_of : (d : Bfid) (m : ℕ) (o : Option Chunk) → PlanKeeps g.0 s (mount_chunk_of g s.group d m o).payload
    chunk_mounted_of d m None = tt
    chunk_mounted_of d m (Some c) = tt

    at_end : (q p : Plan) (end : Bool) → PlanKeeps g.0 s q.payload → PlanKeeps g.0 s p.payload → PlanKeeps g.0 s (cond end q p).payload
    at_end q p true is_q is_p = is_q
    at_end q p false is_q is_p = is_p

    chunk_mounted : (d : Bfid) (offset m : ℕ) (o : Option BitfileRow) → PlanKeeps g.0 s (mount_chunk g s.group d offset m o).payload
    chunk_mounted d offset m None = chunk_mounted_of d m None
    chunk_mounted d offset m (Some row) = at_end _ _ (nat_eq offset row.len) tt (chunk_mounted_of d m (chunk_at offset row.chunks))

    unmounted : (m : ℕ) (o : Option Mounted) → PlanKeeps g.0 s (unmount g m o).payload
    unmounted m None = tt
    unmounted m (Some x) = tt

    committed : (n : ℕ) (sums : List (List ℕ)) (now : ℕ) (o : Option Reserved) → map.get s.group.reservations n ≡ o
        → PlanKeeps g.0 s (commit g s.group n sums now o).payload
    committed n sums now None is = tt
    committed n sums now (Some r) is = λ same equal. absent_other r.bfid.0 (K.reservations.reservation n r is).new same equal

    aborted : (n : ℕ) (o : Option Reserved) → PlanKeeps g.0 s (abort g n o).payload
    aborted n None = tt
    aborted n (Some r) = tt

    deleted : (d : Bfid) (now : ℕ) (there : Bool) → is_some (map.get j.history.taken d.0) ≡ true → PlanKeeps g.0 s (delete_of g s.group d now there).payload
    deleted d now true taken = λ same equal.
        untaken_not (map.get j.history.taken b) untaken (subst (λ q. is_some (map.get j.history.taken q) ≡ true) equal taken)
    deleted d now false taken = tt

    merged_to : (merged : List Vsn) (l : LiveChunk) (job from to : ℕ) (o : Option Space) → PlanKeeps g.0 s (merge_to g s.group merged l job from to o).payload
    merged_to merged l job from to None = tt
    merged_to merged l job from to (Some p) = tt

    merged_first : (merged : List Vsn) (job from to : ℕ) (o : Option LiveChunk) → PlanKeeps g.0 s (merge_first g s.group merged job from to o).payload
    merged_first merged job from to None = tt
    merged_first merged job from to (Some l) =
        merged_to merged l job from to (destination_in (usage_of s.group) merged s.group.tables.volumes l.chunk.len)

    -- what a move journals could be in doubt: so it may land
    move_may : (job : ℕ) (sum : Option (List ℕ)) (now : ℕ) (x : Moving) → map.get s.group.moves job ≡ Some x
        → AllHold (guards_always (move_done g s.group job sum now (Some x)) (move_done_needs s.mounts sum (Some x)))
        → refusal_of (move_done g s.group job sum now (Some x)) ≡ None → MayMove s.group.tables x.bfid.0 x.from (record x.to { sum = sum })
    move_may job sum now x is legal accepted =
        let p = move_done g s.group job sum now (Some x) in
        let failed = (move_done_kept j kept w g s side job sum now (Some x) is).failed legal true in
        let doubted =
        subst
        (λ (o : Option Answer). InvariantHolds
        (joint_with_doubt (cond true (if_accepted o None p.payload) None) (after_failed_mark (if_accepted o mark.Nothing p.mark) (after_ending w p.ends j))))
        accepted failed in
        let f = side_after_ending p.ends in
        let at = adjusted-here numbers j.sides g.0 f ∙ ap (option_map f) side in
        let there = adjusted-here numbers (adjust j.sides g.0 f) g.0 _ ∙ ap (option_map _) at in
        (doubted.sides g.0 _ there).doubt.follow.step

    moved : (job : ℕ) (sum : Option (List ℕ)) (now : ℕ) (o : Option Moving) → map.get s.group.moves job ≡ o
        → AllHold (guards_always (move_done g s.group job sum now o) (move_done_needs s.mounts sum o)) → refusal_of (move_done g s.group job sum now o) ≡ None
        → PlanKeeps g.0 s (move_done g s.group job sum now o).payload
    moved job sum now None is legal accepted = tt
    moved job sum now (Some x) is legal accepted =
        λ same. move_keeps x.bfid x.from (record x.to { sum = sum }) (move_may job sum now x is legal accepted)

    move_dropped : (job : ℕ) (o : Option Moving) → PlanKeeps g.0 s (drop_move g job o).payload
    move_dropped job None = tt
    move_dropped job (Some x) = tt

    freed_of : (vsn : Vsn) (now : ℕ) (freed : Bool) → PlanKeeps g.0 s (free_of g s.group vsn now freed).payload
    freed_of vsn now true = λ same. tt
    freed_of vsn now false = tt

    freed : (vsn : Vsn) (now : ℕ) (o : Option VolumeRow) → PlanKeeps g.0 s (free g s.group vsn now o).payload
    freed vsn now None = tt
    freed vsn now (Some v) = freed_of vsn now (is_freeable_in (usage_of s.group) s.group.tables vsn.0 v)

    reuse_begun : (m now : ℕ) (vsns : List Vsn) → PlanKeeps g.0 s (reuse_first g s.group m now vsns).payload
    reuse_begun m now [] = tt
    reuse_begun m now (v ∷ vs) = tt

    plan_keeps : (c : GroupCall) → AllHold (guards_always (group_plan g s.group c) (group_needs (map.get j.workers w) j.history g s c))
        → refusal_of (group_plan g s.group c) ≡ None → PlanKeeps g.0 s (group_plan g s.group c).payload
    plan_keeps group_call.Missing legal accepted = tt
    plan_keeps (group_call.MountNew vsn m) legal accepted = tt
    plan_keeps (group_call.AddVolume m now) legal accepted = volume_added m now.0 (map.get s.group.mounts m)
    plan_keeps (group_call.Reserve d len n) legal accepted = tt
    plan_keeps (group_call.MountPiece n k m) legal accepted = piece_mounted k m (map.get s.group.reservations n)
    plan_keeps (group_call.MountChunk d offset m) legal accepted = chunk_mounted d offset m (map.get s.group.tables.bitfiles d.0)
    plan_keeps (group_call.Unmount m) legal accepted = unmounted m (map.get s.group.mounts m)
    plan_keeps (group_call.Commit n sums now) legal accepted = committed n sums now.0 (map.get s.group.reservations n) refl
    plan_keeps (group_call.Abort n) legal accepted = aborted n (map.get s.group.reservations n)
    plan_keeps (group_call.Delete d now) legal accepted = deleted d now.0 (is_some (map.get s.group.tables.bitfiles d.0)) legal.0
    plan_keeps group_call.MergeList legal accepted = tt
    plan_keeps (group_call.MergeNext merged source job from to) legal accepted =
        merged_first merged job from to (first_on s.group.tables.bitfiles source.0)
    plan_keeps (group_call.MoveDone job sum now) legal accepted = moved job sum now.0 (map.get s.group.moves job) refl legal accepted
    plan_keeps (group_call.DropMove job) legal accepted = move_dropped job (map.get s.group.moves job)
    plan_keeps (group_call.Free vsn now) legal accepted = freed vsn now.0 (map.get s.group.tables.volumes vsn.0)
    plan_keeps (group_call.ReuseNext m now) legal accepted =
        reuse_begun m now.0 (reusable_in (usage_of s.group) (group_time s.group now.0) s.group.conf.hold s.group.conf.format s.group.tables.volumes)
    plan_keeps (group_call.Reuse m now) legal accepted = volume_reused m now.0 (map.get s.group.reuses m)
    plan_keeps group_call.Rows legal accepted = tt
    plan_keeps group_call.Volumes legal accepted = tt

    -- ---- the side as it journals

    healed_side : (p : Prepared) → IsOfGroup g p
        → map.get (after_healing p.heals p.component (after_ending w p.ends j)).sides g.0 ≡ Some (side_without_doubt p.heals (side_after_ending p.ends s))
    healed_side p of =
        let spent = ending-at g p.ends j.sides s of.ends side in
        subst (λ c. map.get (after_healing p.heals c (after_ending w p.ends j)).sides g.0 ≡ Some (side_without_doubt p.heals (side_after_ending p.ends s)))
        (sym of.component) (healing-at g p.heals (after_ending w p.ends j).sides (side_after_ending p.ends s) spent)

    pays_keeping : (p : Prepared) (o : Option Payload) → IsOfGroup g p → PaysOf g o → PlanKeeps g.0 s o
        → PaysHas (after_healing p.heals p.component (after_ending w p.ends j)) o
    pays_keeping p None of pays keeps = tt
    pays_keeping p (Some (payload.Daemon r)) of pays keeps = tt
    pays_keeping p (Some (payload.Group h r)) of pays keeps = λ x is same.
        let number : g.0 ≡ h.0 = ap (λ (i : GroupId). i.0) (sym pays) in
        let here = subst (λ n. map.get (after_healing p.heals p.component (after_ending w p.ends j)).sides n ≡ Some x) (sym number) is in
        let one : side_without_doubt p.heals (side_after_ending p.ends s) ≡ x = same_value _ x (sym (healed_side p of) ∙ here) in
        let rows : s.group.tables.bitfiles ≡ x.group.tables.bitfiles =
        sym (tables_healed p.heals (side_after_ending p.ends s) ∙ tables_ended p.ends s) ∙ ap (λ (y : Side). y.group.tables.bitfiles) one in
        subst (λ (m : ByNumber BitfileRow). KeepsRow m b r.step) rows (keeps (number ∙ same))

    -- a step in doubt
    landed_keeping : (o : Option GroupRecord)
        → GroupMayLandIf g.0 j.daemon.tables.entries j.history.contents j.history.taken (deleted_in (map.get j.history.groups g.0)) s o
        → (r : GroupRecord) → o ≡ Some r → PaysHas (after_healing true (component.Group g) j) (Some (payload.Group g r))
    landed_keeping None may r is = absurd (cc)
    landed_keeping (Some q) may r is = λ x at same.
        let one : side_without_doubt true s ≡ x = same_value _ x (sym (healing-at g true j.sides s side) ∙ at) in
        let record_same : q ≡ r = same_value q r is in
        let rows : s.group.tables.bitfiles ≡ x.group.tables.bitfiles = ap (λ (y : Side). y.group.tables.bitfiles) one in
        subst (λ (m : ByNumber BitfileRow). KeepsRow m b r.step) rows
        (subst (λ (y : GroupRecord). KeepsRow s.group.tables.bitfiles b y.step) record_same (step_keeps q.time.0 q.step may.follow.step may.needs same))

  -- ---- an event

  module _ (j : Joint) (w : ℕ) (kept : InvariantHolds j) (untaken : IsUntaken j b) (has : GroupHasSpans j g0 b spans) where
    of_daemon : (i l : Joint) (o : Option Payload) → PayloadLands i o → PaysHas l o
    of_daemon i l None lands = tt
    of_daemon i l (Some (payload.Daemon r)) lands = tt
    of_daemon i l (Some (payload.Group g r)) lands = absurd lands

    daemon_called : (c : DaemonCall) (k : Joint) (x : Answer) → step j w (event.Call (call.Daemon c)) ≡ Stepped k x → GroupHasSpans k g0 b spans
    daemon_called c k x is =
        let p = daemon_plan j.daemon c in
        let n = daemon_needs j.sides (map.get j.workers w) j.history j.daemon c in
        let o = outcome_is (illegal_call p n) (after_call w (prepared_plan p) j) k (prepared_plan p).answer x is in
        let legal = always_hold p n (refusal_of p) (all_hold (guards_of (refusal_of p) p n) o.0) in
        let lands = daemon_call_lands j kept w c legal in
        subst (λ i. GroupHasSpans i g0 b spans) o.1
        (called_has w (prepared_plan p) j
        (of_daemon (after_ending w p.ends j) (after_healing p.heals p.component (after_ending w p.ends j)) (prepared_plan p).payload lands) has)

    side_called : (g : GroupId) (c : GroupCall) (o : Option Side) → map.get j.sides g.0 ≡ o
        → AllHold (guards_always (side_plan g c o) (side_needs (map.get j.workers w) j.history g c o))
        → GroupHasSpans (after_call w (prepared_plan (side_plan g c o)) j) g0 b spans
    side_called g c None at legal = called_has w (prepared_plan (side_plan g c None)) j tt has
    side_called g c (Some s) at legal =
        let p = group_plan g s.group c in
        let of = prepared-of g p (group_plan-of g s.group c) in
        called_has w (prepared_plan p) j
        (pays_keeping j kept untaken w g s at (has g.0 s at) (prepared_plan p) (prepared_plan p).payload of of.pays
        (keeps_if g.0 s (refusal_of p) p.payload (plan_keeps j kept untaken w g s at (has g.0 s at) c legal))) has

    image_keeps : (g : GroupId) (vsn : Vsn) (image : Option Image) (x : Option MountState) (c : VolumeCall) (l : Joint)
        → PaysHas l (prepared_plan (volume_plan g vsn image x c)).payload
    image_keeps g vsn None x c l = tt
    image_keeps g vsn (Some i) None c l = tt
    image_keeps g vsn (Some i) (Some y) (volume_call.WriteZone m place zone) l = tt
    image_keeps g vsn (Some i) (Some y) (volume_call.ReadChunk m place n bytes) l = tt
    image_keeps g vsn (Some i) (Some y) (volume_call.Relabel m epoch version) l = tt

    volume_keeps : (g : GroupId) (vsn : Vsn) (c : VolumeCall) (o : Option Side) (l : Joint) → PaysHas l (prepared_plan (volume_plan_in g vsn c o)).payload
    volume_keeps g vsn c None l = tt
    volume_keeps g vsn c (Some s) l = image_keeps g vsn (map.get s.images vsn.0) (map.get s.mounts (mount_in c)) c l

    came : (p : Plan) (n : Needs) (k : Joint) (x : Answer) → outcome_of (illegal_call p n) (after_call w (prepared_plan p) j) (prepared_plan p).answer ≡ Stepped k x
        → (AllHold (guards_always p n) → GroupHasSpans (after_call w (prepared_plan p) j) g0 b spans) → GroupHasSpans k g0 b spans
    came p n k x is after =
        let o = outcome_is (illegal_call p n) (after_call w (prepared_plan p) j) k (prepared_plan p).answer x is in
        subst (λ i. GroupHasSpans i g0 b spans) o.1 (after (always_hold p n (refusal_of p) (all_hold (guards_of (refusal_of p) p n) o.0)))

    faulted : (c : Call) (healed checkpointed : Bool) (k : Joint) (x : Answer) → step j w (event.Fault c healed checkpointed) ≡ Stepped k x
        → GroupHasSpans k g0 b spans
    faulted c healed checkpointed k x is =
        let p = plan_of j c in
        let n = needs_of j w c in
        let far = healed && checkpointed in
        let o = outcome_is (illegal_fault p n) (after_fault w (prepared_plan p) far j) k _ x is in
        subst (λ i. GroupHasSpans i g0 b spans) o.1 (faulted_has w (prepared_plan p) far j has)

    daemon_landed : (k : Joint) (x : Answer) (o : Option DaemonRecord)
        → doubt_outcome j component.Daemon (option_map (λ r. payload.Daemon r) o) ≡ Stepped k x → GroupHasSpans k g0 b spans
    daemon_landed k x None is = absurd (cc)
    daemon_landed k x (Some r) is =
        let l = landed_is j k component.Daemon (Some (payload.Daemon r)) x is in
        let same : after_landing component.Daemon (payload.Daemon r) j ≡ k =
        ap (λ p. after_landing component.Daemon p j) (payload_is (payload.Daemon r) l.0 l.1) ∙ l.2 in
        subst (λ i. GroupHasSpans i g0 b spans) same (landed_has component.Daemon (payload.Daemon r) j tt has)

    group_landed : (g : GroupId) (s : Side) → map.get j.sides g.0 ≡ Some s → (o : Option GroupRecord) → s.group.doubt ≡ o → (k : Joint) (x : Answer)
        → doubt_outcome j (component.Group g) (option_map (λ r. payload.Group g r) o) ≡ Stepped k x → GroupHasSpans k g0 b spans
    group_landed g s at None doubt k x is = absurd (cc)
    group_landed g s at (Some r) doubt k x is =
        let l = landed_is j k (component.Group g) (Some (payload.Group g r)) x is in
        let same : after_landing (component.Group g) (payload.Group g r) j ≡ k =
        ap (λ p. after_landing (component.Group g) p j) (payload_is (payload.Group g r) l.0 l.1) ∙ l.2 in
        subst (λ i. GroupHasSpans i g0 b spans) same
        (landed_has (component.Group g) (payload.Group g r) j
        (landed_keeping j kept untaken w g s at (has g.0 s at) s.group.doubt (kept.sides g.0 s at).doubt r doubt) has)

    side_landed : (g : GroupId) (o : Option Side) → map.get j.sides g.0 ≡ o → (k : Joint) (x : Answer) → landing_outcome_in j g o ≡ Stepped k x
        → GroupHasSpans k g0 b spans
    side_landed g None at k x is = absurd (cc)
    side_landed g (Some s) at k x is = group_landed g s at s.group.doubt refl k x is

    -- an event leaves the bitfile there, with its spans
    pub event_has : (e : Event) (k : Joint) (x : Answer) → step j w e ≡ Stepped k x → GroupHasSpans k g0 b spans
    event_has (event.Call (call.Daemon c)) k x is = daemon_called c k x is
    event_has (event.Call (call.Group g c)) k x is =
        came (plan_of j (call.Group g c)) (needs_of j w (call.Group g c)) k x is (side_called g c (map.get j.sides g.0) refl)
    event_has (event.Call (call.Volume g vsn c)) k x is =
        let p = plan_of j (call.Volume g vsn c) in
        came p (needs_of j w (call.Volume g vsn c)) k x is
        (λ legal. called_has w (prepared_plan p) j
        (volume_keeps g vsn c (map.get j.sides g.0) (after_healing p.heals p.component (after_ending w p.ends j))) has)
    event_has (event.Fault c healed checkpointed) k x is = faulted c healed checkpointed k x is
    event_has (event.Landed component.Daemon) k x is = daemon_landed k x j.daemon.doubt is
    event_has (event.Landed (component.Group g)) k x is = side_landed g (map.get j.sides g.0) refl k x is
    event_has (event.Look c) k x is = subst (λ i. GroupHasSpans i g0 b spans) (look_is j k c x is) has
    event_has event.Stop k x is =
        let same : after_stop j ≡ k = cc in
        subst (λ i. GroupHasSpans i g0 b spans) same (stopped_has j has)
