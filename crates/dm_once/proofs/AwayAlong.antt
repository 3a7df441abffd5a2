-- Only a commit of its own reservation, or one in doubt that landed, gives a bitfile to a group.
use Rattle.std.proofs.Common.{◌≡◌, ℕ, Bool, true, false, cond, ◌&&◌, nat_eq, Option, None, Some, List, [], ◌∷◌, option_map, is_some, refl, sym, ap, subst, ◌∙◌}
use Rattle.std.specs.FinMap as map
use Rattle.dm_base.specs.declared.identifier.Bfid.{Bfid}
use Rattle.dm_base.specs.declared.identifier.GroupId.{GroupId}
use Rattle.dm_base.specs.declared.serial.Vsn.{Vsn}
use Rattle.dm_base.specs.declared.volume.Chunk.{Chunk}
use Rattle.dm_base.specs.declared.volume.Piece.{Piece}
use Rattle.dm_durable.specs.declared.daemon.DaemonRecord.{DaemonRecord}
use Rattle.dm_durable.specs.declared.group.BitfileRow.{BitfileRow}
use Rattle.dm_durable.specs.declared.group.GroupRecord.{GroupRecord}
use Rattle.dm_durable.specs.declared.group.VolumeRow.{VolumeRow}
use Rattle.dm_durable.specs.Group.{chunk_at}
use Rattle.dm_durable.specs.Volumes.{LiveChunk, destination_in, first_on, is_freeable_in, reusable_in}
use Rattle.dm_rules.specs.declared.space.Space.{Space}
use Rattle.dm_model.specs.declared.answer.Answer.{Answer}
use Rattle.dm_model.specs.declared.call.Call.{Call}
use Rattle.dm_model.specs.declared.call.Call.TheVariants as call
use Rattle.dm_model.specs.declared.call.Component.{Component}
use Rattle.dm_model.specs.declared.call.Component.TheVariants as component
use Rattle.dm_model.specs.declared.call.DaemonCall.{DaemonCall}
use Rattle.dm_model.specs.declared.call.Event.{Event}
use Rattle.dm_model.specs.declared.call.Event.TheVariants as event
use Rattle.dm_model.specs.declared.call.GroupCall.{GroupCall}
use Rattle.dm_model.specs.declared.call.GroupCall.TheVariants as group_call
use Rattle.dm_model.specs.declared.call.VolumeCall.{VolumeCall}
use Rattle.dm_model.specs.declared.call.VolumeCall.TheVariants as volume_call
use Rattle.dm_model.specs.declared.plan.Mark.{Mark}
use Rattle.dm_model.specs.declared.plan.Mark.TheVariants as mark
use Rattle.dm_model.specs.declared.plan.Opening.{Opening}
use Rattle.dm_model.specs.declared.plan.Opening.TheVariants as opening
use Rattle.dm_model.specs.declared.plan.Payload.{Payload}
use Rattle.dm_model.specs.declared.plan.Payload.TheVariants as payload
use Rattle.dm_model.specs.declared.plan.Prepared.{Prepared}
use Rattle.dm_model.specs.declared.state.Image.{Image}
use Rattle.dm_model.specs.declared.state.Joint.{Joint}
use Rattle.dm_model.specs.declared.state.Mounted.{Mounted}
use Rattle.dm_model.specs.declared.state.MountState.{MountState}
use Rattle.dm_model.specs.declared.state.Moving.{Moving}
use Rattle.dm_model.specs.declared.state.Reserved.{Reserved}
use Rattle.dm_model.specs.declared.state.Reusing.{Reusing}
use Rattle.dm_model.specs.declared.state.Side.{Side}
use Rattle.dm_model.specs.DaemonCalls.{daemon_needs, daemon_plan}
use Rattle.dm_model.specs.Effects.{after_ending, after_healing, after_mark, after_payload}
use Rattle.dm_model.specs.GroupCalls.{abort, add_volume, commit, delete_of, drop_move, free, free_of, group_plan, merge_first, merge_to, mount_chunk}
use Rattle.dm_model.specs.GroupCalls.{mount_chunk_of, mount_piece, mount_piece_of, move_done, piece_at, reuse, reuse_first, unmount, group_time}
use Rattle.dm_model.specs.Volumes.{usage_of}
use Rattle.dm_model.specs.Plan.{Plan, Needs, guards_of, if_accepted, illegal_call, illegal_fault, prepared_plan, refusal_of}
use Rattle.dm_model.specs.VolumeCalls.{mount_in, volume_plan}
use Rattle.dm_model.specs.Step.{Stepped, after_call, after_fault, after_landing, after_stop, doubt_outcome, landing_outcome_in, needs_of, outcome_of, plan_of, side_plan, step, volume_plan_in}
use Rattle.dm_model.proofs.PlansOf.{group_plan-of, prepared-of}
use Rattle.dm_model.proofs.Shares.{PaysOf}
use Rattle.dm_invariant.specs.Kept.{InvariantHolds}
use Rattle.dm_landing.proofs.CallsLanded.{PayloadLands, daemon_call_lands}
use Rattle.dm_effects.proofs.BeginningCalls.{always_hold}
use Rattle.dm_shown.proofs.EventsShown.{all_hold, landed_is, look_is, outcome_is, payload_is}
use Rattle.dm_once.specs.Away.{BringsOther, CommitsOther, IsAwayIn, ReservesOther}
use Rattle.dm_once.proofs.AwayParts.{AnyMark, AnyOpening, PaysOther, SideAway, away_doubted, away_ended, away_failed, away_marked, away_opened, away_paid}
use Rattle.dm_once.proofs.AwayParts.{away_settled, away_stopped}
use Rattle.dm_once.proofs.SidesAlong.{MarksIf, OpensIf, PaysIf, all_called, all_faulted, all_landed, all_stopped}

module _ (g0 b : ℕ) where
  abbrev PaysAway : Joint → Option Payload → Type 0
  PaysAway j o =
      PaysIf (SideAway g0 b) (PaysOther g0 b) (AnyMark g0 b) (AnyOpening g0 b) (away_ended g0 b) (away_settled g0 b) (away_paid g0 b)
      (away_doubted g0 b) (away_marked g0 b) (away_failed g0 b) (away_opened g0 b) j o

  abbrev MarksAway : Joint → Mark → Type 0
  MarksAway j x =
      MarksIf (SideAway g0 b) (PaysOther g0 b) (AnyMark g0 b) (AnyOpening g0 b) (away_ended g0 b) (away_settled g0 b) (away_paid g0 b)
      (away_doubted g0 b) (away_marked g0 b) (away_failed g0 b) (away_opened g0 b) j x

  abbrev OpensAway : Joint → Opening → Type 0
  OpensAway j o =
      OpensIf (SideAway g0 b) (PaysOther g0 b) (AnyMark g0 b) (AnyOpening g0 b) (away_ended g0 b) (away_settled g0 b) (away_paid g0 b)
      (away_doubted g0 b) (away_marked g0 b) (away_failed g0 b) (away_opened g0 b) j o

  any_mark : (j : Joint) (x : Mark) → MarksAway j x
  any_mark j mark.Nothing = tt
  any_mark j (mark.Zone g vsn place zone d index e) = λ s is. tt
  any_mark j (mark.Target g vsn m place zone) = λ s is. tt
  any_mark j (mark.Label g vsn m e version text) = λ s is. tt
  any_mark j (mark.Read g d offset bytes) = tt
  any_mark j (mark.Source g m bytes) = λ s is. tt
  any_mark j (mark.Deleted g d) = tt

  any_opening : (j : Joint) (o : Opening) → OpensAway j o
  any_opening j opening.Nothing = tt
  any_opening j (opening.Put k r len groups) = λ g s. tt
  any_opening j (opening.Recall k r recall) = tt
  any_opening j (opening.Reservation g n r) = λ s is p. tt
  any_opening j (opening.Mount g m vsn e made) = λ s is p. tt
  any_opening j (opening.Move g job x source_epoch target_epoch) = λ s is p. tt
  any_opening j (opening.Reuse g m e x reading) = λ s is p. tt

  called_away : (w : ℕ) (p : Prepared) (j : Joint) → PaysAway (after_healing p.heals p.component (after_ending w p.ends j)) p.payload → IsAwayIn j g0 b
      → IsAwayIn (after_call w p j) g0 b
  called_away w p j pays away =
      let healed = after_healing p.heals p.component (after_ending w p.ends j) in
      all_called (SideAway g0 b) (PaysOther g0 b) (AnyMark g0 b) (AnyOpening g0 b) (away_ended g0 b) (away_settled g0 b) (away_paid g0 b)
      (away_doubted g0 b) (away_marked g0 b) (away_failed g0 b) (away_opened g0 b) w p j pays
      (any_mark (after_payload p.payload healed) p.mark) (any_opening (after_mark w p.mark (after_payload p.payload healed)) p.opens) away

  faulted_away : (w : ℕ) (p : Prepared) (far : Bool) (j : Joint) → IsAwayIn j g0 b → IsAwayIn (after_fault w p far j) g0 b
  faulted_away w p far j away =
      all_faulted (SideAway g0 b) (PaysOther g0 b) (AnyMark g0 b) (AnyOpening g0 b) (away_ended g0 b) (away_settled g0 b) (away_paid g0 b)
      (away_doubted g0 b) (away_marked g0 b) (away_failed g0 b) (away_opened g0 b) w p far j
      (any_mark (after_ending w p.ends j) p.mark) away

  landed_away : (c : Component) (p : Payload) (j : Joint) → PaysAway (after_healing true c j) (Some p) → IsAwayIn j g0 b
      → IsAwayIn (after_landing c p j) g0 b
  landed_away c p j pays away =
      all_landed (SideAway g0 b) (PaysOther g0 b) (AnyMark g0 b) (AnyOpening g0 b) (away_ended g0 b) (away_settled g0 b) (away_paid g0 b)
      (away_doubted g0 b) (away_marked g0 b) (away_failed g0 b) (away_opened g0 b) c p j pays away

  stopped_away : (j : Joint) → IsAwayIn j g0 b → IsAwayIn (after_stop j) g0 b
  stopped_away j away =
      all_stopped (SideAway g0 b) (PaysOther g0 b) (AnyMark g0 b) (AnyOpening g0 b) (away_ended g0 b) (away_settled g0 b) (away_paid g0 b)
      (away_doubted g0 b) (away_marked g0 b) (away_failed g0 b) (away_opened g0 b) j
      (away_stopped g0 b) away

  -- what a plan of the group journals
  abbrev PlanOther : ℕ → Option Payload → Type 0
  PlanOther g None = Unit {0}
  PlanOther g (Some (payload.Daemon r)) = Unit {0}
  PlanOther g (Some (payload.Group h r)) = g ≡ g0 → CommitsOther b r.step

  other_if : (g : ℕ) (o : Option Answer) (q : Option Payload) → PlanOther g q → PlanOther g (if_accepted o None q)
  other_if g None q other = other
  other_if g (Some a) q other = tt

  other_pays : (g : GroupId) (l : Joint) (o : Option Payload) → PaysOf g o → PlanOther g.0 o → PaysAway l o
  other_pays g l None of other = tt
  other_pays g l (Some (payload.Daemon r)) of other = tt
  other_pays g l (Some (payload.Group h r)) of other = λ x is same. other (ap (λ (i : GroupId). i.0) (sym of) ∙ same)

  module _ (g : GroupId) (s : Side) where
    abbrev Other : Plan → Type 0
    Other p = PlanOther g.0 p.payload

    volume_added : (m now : ℕ) (o : Option Mounted) → Other (add_volume g s.group m now o)
    volume_added m now None = tt
    volume_added m now (Some x) = λ same. tt

    volume_reused : (m now : ℕ) (o : Option Reusing) → Other (reuse g s.group m now o)
    volume_reused m now None = tt
    volume_reused m now (Some x) = λ same. tt

    piece_mounted_of : (r : Reserved) (k m : ℕ) (o : Option Piece) → Other (mount_piece_of g s.group r k m o)
    piece_mounted_of r k m None = tt
    piece_mounted_of r k m (Some p) = tt

    piece_mounted : (k m : ℕ) (o : Option Reserved) → Other (mount_piece g s.group k m o)
    piece_mounted k m None = tt
    piece_mounted k m (Some r) = piece_mounted_of r k m (piece_at k r.pieces)

    chunk_mounted_of : (d : Bfid) (m : ℕ) (o : Option Chunk) → Other (mount_chunk_of g s.group d m o)
    chunk_mounted_of d m None = tt
    chunk_mounted_of d m (Some c) = tt

    at_end : (q p : Plan) (end : Bool) → Other q → Other p → Other (cond end q p)
    at_end q p true is_q is_p = is_q
    at_end q p false is_q is_p = is_p

    chunk_mounted : (d : Bfid) (offset m : ℕ) (o : Option BitfileRow) → Other (mount_chunk g s.group d offset m o)
    chunk_mounted d offset m None = chunk_mounted_of d m None
    chunk_mounted d offset m (Some row) = at_end _ _ (nat_eq offset row.len) tt (chunk_mounted_of d m (chunk_at offset row.chunks))

    unmounted : (m : ℕ) (o : Option Mounted) → Other (unmount g m o)
    unmounted m None = tt
    unmounted m (Some x) = tt

    committed : (n : ℕ) (sums : List (List ℕ)) (now : ℕ) (o : Option Reserved) → map.get s.group.reservations n ≡ o
        → (g.0 ≡ g0 → (r : Reserved) → map.get s.group.reservations n ≡ Some r → r.bfid.0 ≡ b → ⊥) → Other (commit g s.group n sums now o)
    committed n sums now None is other = tt
    committed n sums now (Some r) is other = λ same. other same r is

    aborted : (n : ℕ) (o : Option Reserved) → Other (abort g n o)
    aborted n None = tt
    aborted n (Some r) = tt

    deleted : (d : Bfid) (now : ℕ) (there : Bool) → Other (delete_of g s.group d now there)
    deleted d now true = λ same. tt
    deleted d now false = tt

    merged_to : (merged : List Vsn) (l : LiveChunk) (job from to : ℕ) (o : Option Space) → Other (merge_to g s.group merged l job from to o)
    merged_to merged l job from to None = tt
    merged_to merged l job from to (Some p) = tt

    merged_first : (merged : List Vsn) (job from to : ℕ) (o : Option LiveChunk) → Other (merge_first g s.group merged job from to o)
    merged_first merged job from to None = tt
    merged_first merged job from to (Some l) =
        merged_to merged l job from to (destination_in (usage_of s.group) merged s.group.tables.volumes l.chunk.len)

    moved : (job : ℕ) (sum : Option (List ℕ)) (now : ℕ) (o : Option Moving) → Other (move_done g s.group job sum now o)
    moved job sum now None = tt
    moved job sum now (Some x) = λ same. tt

    move_dropped : (job : ℕ) (o : Option Moving) → Other (drop_move g job o)
    move_dropped job None = tt
    move_dropped job (Some x) = tt

    freed_of : (vsn : Vsn) (now : ℕ) (freed : Bool) → Other (free_of g s.group vsn now freed)
    freed_of vsn now true = λ same. tt
    freed_of vsn now false = tt

    freed : (vsn : Vsn) (now : ℕ) (o : Option VolumeRow) → Other (free g s.group vsn now o)
    freed vsn now None = tt
    freed vsn now (Some v) = freed_of vsn now (is_freeable_in (usage_of s.group) s.group.tables vsn.0 v)

    reuse_begun : (m now : ℕ) (vsns : List Vsn) → Other (reuse_first g s.group m now vsns)
    reuse_begun m now [] = tt
    reuse_begun m now (v ∷ vs) = tt

    plan_other : (c : GroupCall) → (g.0 ≡ g0 → ReservesOther b s c) → Other (group_plan g s.group c)
    plan_other group_call.Missing other = tt
    plan_other (group_call.MountNew vsn m) other = tt
    plan_other (group_call.AddVolume m now) other = volume_added m now.0 (map.get s.group.mounts m)
    plan_other (group_call.Reserve d len n) other = tt
    plan_other (group_call.MountPiece n k m) other = piece_mounted k m (map.get s.group.reservations n)
    plan_other (group_call.MountChunk d offset m) other = chunk_mounted d offset m (map.get s.group.tables.bitfiles d.0)
    plan_other (group_call.Unmount m) other = unmounted m (map.get s.group.mounts m)
    plan_other (group_call.Commit n sums now) other = committed n sums now.0 (map.get s.group.reservations n) refl other
    plan_other (group_call.Abort n) other = aborted n (map.get s.group.reservations n)
    plan_other (group_call.Delete d now) other = deleted d now.0 (is_some (map.get s.group.tables.bitfiles d.0))
    plan_other group_call.MergeList other = tt
    plan_other (group_call.MergeNext merged source job from to) other = merged_first merged job from to (first_on s.group.tables.bitfiles source.0)
    plan_other (group_call.MoveDone job sum now) other = moved job sum now.0 (map.get s.group.moves job)
    plan_other (group_call.DropMove job) other = move_dropped job (map.get s.group.moves job)
    plan_other (group_call.Free vsn now) other = freed vsn now.0 (map.get s.group.tables.volumes vsn.0)
    plan_other (group_call.ReuseNext m now) other =
        reuse_begun m now.0 (reusable_in (usage_of s.group) (group_time s.group now.0) s.group.conf.hold s.group.conf.format s.group.tables.volumes)
    plan_other (group_call.Reuse m now) other = volume_reused m now.0 (map.get s.group.reuses m)
    plan_other group_call.Rows other = tt
    plan_other group_call.Volumes other = tt

  -- ---- an event

  module _ (j : Joint) (w : ℕ) (kept : InvariantHolds j) (away : IsAwayIn j g0 b) where
    of_daemon : (i l : Joint) (o : Option Payload) → PayloadLands i o → PaysAway l o
    of_daemon i l None lands = tt
    of_daemon i l (Some (payload.Daemon r)) lands = tt
    of_daemon i l (Some (payload.Group g r)) lands = absurd lands

    daemon_called : (c : DaemonCall) (k : Joint) (x : Answer) → step j w (event.Call (call.Daemon c)) ≡ Stepped k x → IsAwayIn k g0 b
    daemon_called c k x is =
        let p = daemon_plan j.daemon c in
        let n = daemon_needs j.sides (map.get j.workers w) j.history j.daemon c in
        let o = outcome_is (illegal_call p n) (after_call w (prepared_plan p) j) k (prepared_plan p).answer x is in
        let legal = always_hold p n (refusal_of p) (all_hold (guards_of (refusal_of p) p n) o.0) in
        let lands = daemon_call_lands j kept w c legal in
        subst (λ i. IsAwayIn i g0 b) o.1
        (called_away w (prepared_plan p) j
        (of_daemon (after_ending w p.ends j) (after_healing p.heals p.component (after_ending w p.ends j)) (prepared_plan p).payload lands) away)

    side_called : (g : GroupId) (c : GroupCall) (o : Option Side) → (g.0 ≡ g0 → (s : Side) → o ≡ Some s → ReservesOther b s c)
        → IsAwayIn (after_call w (prepared_plan (side_plan g c o)) j) g0 b
    side_called g c None other = called_away w (prepared_plan (side_plan g c None)) j tt away
    side_called g c (Some s) other =
        let p = group_plan g s.group c in
        called_away w (prepared_plan p) j
        (other_pays g (after_healing p.heals p.component (after_ending w p.ends j)) (prepared_plan p).payload
        (prepared-of g p (group_plan-of g s.group c)).pays
        (other_if g.0 (refusal_of p) p.payload (plan_other g s c (λ same. other same s refl)))) away

    image_other : (g : GroupId) (vsn : Vsn) (image : Option Image) (x : Option MountState) (c : VolumeCall) (l : Joint)
        → PaysAway l (prepared_plan (volume_plan g vsn image x c)).payload
    image_other g vsn None x c l = tt
    image_other g vsn (Some i) None c l = tt
    image_other g vsn (Some i) (Some y) (volume_call.WriteZone m place zone) l = tt
    image_other g vsn (Some i) (Some y) (volume_call.ReadChunk m place n bytes) l = tt
    image_other g vsn (Some i) (Some y) (volume_call.Relabel m epoch version) l = tt

    volume_other : (g : GroupId) (vsn : Vsn) (c : VolumeCall) (o : Option Side) (l : Joint) → PaysAway l (prepared_plan (volume_plan_in g vsn c o)).payload
    volume_other g vsn c None l = tt
    volume_other g vsn c (Some s) l = image_other g vsn (map.get s.images vsn.0) (map.get s.mounts (mount_in c)) c l

    came : (p : Plan) (n : Needs) (k : Joint) (x : Answer) → outcome_of (illegal_call p n) (after_call w (prepared_plan p) j) (prepared_plan p).answer ≡ Stepped k x
        → IsAwayIn (after_call w (prepared_plan p) j) g0 b → IsAwayIn k g0 b
    came p n k x is after = subst (λ i. IsAwayIn i g0 b) (outcome_is (illegal_call p n) (after_call w (prepared_plan p) j) k (prepared_plan p).answer x is).1 after

    faulted : (c : Call) (healed checkpointed : Bool) (k : Joint) (x : Answer) → step j w (event.Fault c healed checkpointed) ≡ Stepped k x
        → IsAwayIn k g0 b
    faulted c healed checkpointed k x is =
        let p = plan_of j c in
        let n = needs_of j w c in
        let far = healed && checkpointed in
        let o = outcome_is (illegal_fault p n) (after_fault w (prepared_plan p) far j) k _ x is in
        subst (λ i. IsAwayIn i g0 b) o.1 (faulted_away w (prepared_plan p) far j away)

    daemon_landed : (k : Joint) (x : Answer) (o : Option DaemonRecord)
        → doubt_outcome j component.Daemon (option_map (λ r. payload.Daemon r) o) ≡ Stepped k x → IsAwayIn k g0 b
    daemon_landed k x None is = absurd (cc)
    daemon_landed k x (Some r) is =
        let l = landed_is j k component.Daemon (Some (payload.Daemon r)) x is in
        let same : after_landing component.Daemon (payload.Daemon r) j ≡ k =
        ap (λ p. after_landing component.Daemon p j) (payload_is (payload.Daemon r) l.0 l.1) ∙ l.2 in
        subst (λ i. IsAwayIn i g0 b) same (landed_away component.Daemon (payload.Daemon r) j tt away)

    group_landed : (g : GroupId) (s : Side) (o : Option GroupRecord) → s.group.doubt ≡ o
        → (g.0 ≡ g0 → (r : GroupRecord) → s.group.doubt ≡ Some r → CommitsOther b r.step) → (k : Joint) (x : Answer)
        → doubt_outcome j (component.Group g) (option_map (λ r. payload.Group g r) o) ≡ Stepped k x → IsAwayIn k g0 b
    group_landed g s None doubt other k x is = absurd (cc)
    group_landed g s (Some r) doubt other k x is =
        let l = landed_is j k (component.Group g) (Some (payload.Group g r)) x is in
        let same : after_landing (component.Group g) (payload.Group g r) j ≡ k =
        ap (λ p. after_landing (component.Group g) p j) (payload_is (payload.Group g r) l.0 l.1) ∙ l.2 in
        subst (λ i. IsAwayIn i g0 b) same
        (landed_away (component.Group g) (payload.Group g r) j (λ y at same. other same r doubt) away)

    side_landed : (g : GroupId) (o : Option Side)
        → (g.0 ≡ g0 → (s : Side) (r : GroupRecord) → o ≡ Some s → s.group.doubt ≡ Some r → CommitsOther b r.step)
        → (k : Joint) (x : Answer) → landing_outcome_in j g o ≡ Stepped k x → IsAwayIn k g0 b
    side_landed g None other k x is = absurd (cc)
    side_landed g (Some s) other k x is = group_landed g s s.group.doubt refl (λ same r doubt. other same s r refl doubt) k x is

    -- an event that brings the bitfile by no commit leaves it away
    pub event_away : (e : Event) (k : Joint) (x : Answer) → BringsOther j g0 b e → step j w e ≡ Stepped k x → IsAwayIn k g0 b
    event_away (event.Call (call.Daemon c)) k x other is = daemon_called c k x is
    event_away (event.Call (call.Group g c)) k x other is =
        came (plan_of j (call.Group g c)) (needs_of j w (call.Group g c)) k x is (side_called g c (map.get j.sides g.0) other)
    event_away (event.Call (call.Volume g vsn c)) k x other is =
        let p = plan_of j (call.Volume g vsn c) in
        came p (needs_of j w (call.Volume g vsn c)) k x is
        (called_away w (prepared_plan p) j
        (volume_other g vsn c (map.get j.sides g.0) (after_healing p.heals p.component (after_ending w p.ends j))) away)
    event_away (event.Fault c healed checkpointed) k x other is = faulted c healed checkpointed k x is
    event_away (event.Landed component.Daemon) k x other is = daemon_landed k x j.daemon.doubt is
    event_away (event.Landed (component.Group g)) k x other is = side_landed g (map.get j.sides g.0) other k x is
    event_away (event.Look c) k x other is = subst (λ i. IsAwayIn i g0 b) (look_is j k c x is) away
    event_away event.Stop k x other is =
        let same : after_stop j ≡ k = cc in
        subst (λ i. IsAwayIn i g0 b) same (stopped_away j away)
