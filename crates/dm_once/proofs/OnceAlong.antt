-- A chunk that was once live is still there after each event, and after each run, as long as its volume has the epoch.
use Rattle.std.proofs.Common.{◌≡◌, ℕ, ◌+◌, ◌≤◌, Bool, true, false, ◌&&◌, Option, None, Some, List, [], ◌∷◌, ◌++◌, option_map, refl, sym, ap, subst, ◌∙◌, arith}
use Rattle.std.proofs.lemmas.Option.{same_Some}
use Rattle.std.specs.FinMap as map
use Rattle.dm_base.specs.declared.identifier.GroupId.{GroupId}
use Rattle.dm_base.specs.declared.serial.Vsn.{Vsn}
use Rattle.dm_base.specs.declared.volume.Chunk.{Chunk}
use Rattle.dm_tables.specs.Rows.{EachRow}
use Rattle.dm_tables.proofs.Rows.{one_row}
use Rattle.dm_durable.specs.declared.daemon.DaemonRecord.{DaemonRecord}
use Rattle.dm_durable.specs.declared.group.BitfileRow.{BitfileRow}
use Rattle.dm_durable.specs.declared.group.GroupRecord.{GroupRecord}
use Rattle.dm_durable.specs.declared.group.GroupStep.{GroupStep}
use Rattle.dm_durable.specs.declared.group.GroupStep.TheVariants as group_step
use Rattle.dm_durable.specs.declared.group.VolumeRow.{VolumeRow}
use Rattle.dm_rules.specs.Version.{has_sum}
use Rattle.dm_durable.specs.GroupConditions.{MayGroupStep}
use Rattle.dm_durable.specs.Tables.{ByNumber}
use Rattle.dm_model.specs.declared.answer.Answer.{Answer}
use Rattle.dm_model.specs.declared.call.Call.{Call}
use Rattle.dm_model.specs.declared.call.Call.TheVariants as call
use Rattle.dm_model.specs.declared.call.Component.{Component}
use Rattle.dm_model.specs.declared.call.Component.TheVariants as component
use Rattle.dm_model.specs.declared.call.DaemonCall.{DaemonCall}
use Rattle.dm_model.specs.declared.call.Event.{Event}
use Rattle.dm_model.specs.declared.call.Event.TheVariants as event
use Rattle.dm_model.specs.declared.call.GroupCall.{GroupCall}
use Rattle.dm_model.specs.declared.call.VolumeCall.{VolumeCall}
use Rattle.dm_model.specs.declared.call.VolumeCall.TheVariants as volume_call
use Rattle.dm_model.specs.declared.plan.Ending.{Ending}
use Rattle.dm_model.specs.declared.plan.Ending.TheVariants as ending
use Rattle.dm_model.specs.declared.plan.Mark.{Mark}
use Rattle.dm_model.specs.declared.plan.Mark.TheVariants as mark
use Rattle.dm_model.specs.declared.plan.Opening.{Opening}
use Rattle.dm_model.specs.declared.plan.Opening.TheVariants as opening
use Rattle.dm_model.specs.declared.plan.Payload.{Payload}
use Rattle.dm_model.specs.declared.plan.Payload.TheVariants as payload
use Rattle.dm_model.specs.declared.plan.Prepared.{Prepared}
use Rattle.dm_model.specs.declared.state.Image.{Image}
use Rattle.dm_model.specs.declared.state.Joint.{Joint}
use Rattle.dm_model.specs.declared.state.MountState.{MountState}
use Rattle.dm_model.specs.declared.state.Side.{Side}
use Rattle.dm_model.specs.DaemonCalls.{daemon_needs, daemon_plan}
use Rattle.dm_model.specs.Effects.{after_ending, after_healing, after_mark, after_payload}
use Rattle.dm_model.specs.GroupCalls.{group_needs, group_plan}
use Rattle.dm_model.specs.Guards.{AllHold}
use Rattle.dm_model.specs.Plan.{Plan, Needs, guards_always, guards_of, guards_of_fault, if_accepted, illegal_call, illegal_fault, prepared_plan, refusal_of}
use Rattle.dm_model.specs.SideShare.{side_after_ending, side_without_doubt}
use Rattle.dm_model.specs.Step.{RunEntry, Run, Stepped, after_call, after_fault, after_landing, after_stop, doubt_outcome, landing_outcome_in, needs_of, outcome_of, plan_of}
use Rattle.dm_model.specs.Step.{side_needs, side_plan, step, volume_needs_in, volume_plan_in}
use Rattle.dm_model.specs.VolumeCalls.{mount_in, volume_needs, volume_plan}
use Rattle.dm_model.proofs.PlansOf.{group_plan-of, prepared-of, volume_plan-of}
use Rattle.dm_model.proofs.Shares.{IsOfGroup, MarksOf, PaysOf as IsPaidBy, ending-at, healing-at}
use Rattle.dm_invariant.specs.Among.{IsAmong}
use Rattle.dm_invariant.specs.Doubts.{GroupMayLandIf}
use Rattle.dm_invariant.specs.Kept.{InvariantHolds, deleted_in}
use Rattle.dm_invariant.specs.Places.{Live, Target, Reserving as InHand}
use Rattle.dm_invariant.proofs.Texts.{texts_equal}
use Rattle.dm_landing.proofs.CallsLanded.{PayloadLands, daemon_call_lands}
use Rattle.dm_effects.proofs.BeginningCalls.{always_hold, front_holds}
use Rattle.dm_shown.specs.Along.{KeptAlong}
use Rattle.dm_shown.proofs.EventsShown.{all_hold, landed_is, look_is, outcome_is, payload_is}
use Rattle.dm_shown.proofs.RunsShown.{along_rest}
use Rattle.dm_once.specs.WasLive.{WasLive, WasLiveIn}
use Rattle.dm_once.proofs.ContentsStay.{content_stays}
use Rattle.dm_once.proofs.DaemonRequests.{NoMark, OnlyRequest, daemon_requests}
use Rattle.dm_once.proofs.OnceParts.{MarksRight, OpensRight, PaysRight, SideWas, StepMay, was_doubted, was_ended, was_failed, was_marked, was_opened, was_paid, was_settled, was_stopped}
use Rattle.dm_once.proofs.OncePlans.{Lets, MarksWas, OpensWas, PaysOf, PaysWas, pays_if, plan_lets, unmarked_if}
use Rattle.dm_once.proofs.OnceVolumes.{label_right, read_right, zone_right}
use Rattle.dm_once.proofs.SidesAlong.{all_called, all_faulted, all_landed, all_stopped}

-- ---- contents that stay

with_contents : (contents after : ByNumber (List ℕ)) (epoch b : ℕ) (c : Chunk) (s : Side)
    → ((bytes : List ℕ) → map.get contents b ≡ Some bytes → map.get after b ≡ Some bytes)
    → WasLive contents s.group.tables.volumes s.images s.group.reservations s.group.moves epoch b c
    → WasLive after s.group.tables.volumes s.images s.group.reservations s.group.moves epoch b c
with_contents contents after epoch b c s stays k = record {
  volume = k.volume;
  is = k.is;
  reached = k.reached;
  still = λ at. let i = k.still at in record {
    behind = i.behind;
    within = i.within;
    sum = i.sum;
    bytes = i.bytes;
    content = stays i.bytes i.content;
    known = i.known;
    right = i.right;
    beside_kept = i.beside_kept;
    beside_targets = i.beside_targets;
  };
}

-- ---- the tables as a record is journalled

ended_tables : (s : Side) (e : Ending) → (side_after_ending e s).group.tables ≡ s.group.tables
ended_tables s ending.Nothing = refl
ended_tables s (ending.Put l d groups) = refl
ended_tables s (ending.Recall l) = refl
ended_tables s (ending.Reservation g n d) = refl
ended_tables s (ending.Mount g m) = refl
ended_tables s (ending.Move g job source target) = refl

healed_tables : (s : Side) (heals : Bool) → (side_without_doubt heals s).group.tables ≡ s.group.tables
healed_tables s true = refl
healed_tables s false = refl

module _ (j : Joint) (w : ℕ) (kept : InvariantHolds j) (g0 epoch b : ℕ) (c : Chunk) where
  abbrev contents : ByNumber (List ℕ)
  contents = j.history.contents

  abbrev All : Joint → Type 0
  All k = EachRow k.sides (SideWas contents g0 epoch b c)

  -- the states through which a call comes
  abbrev Healed : Prepared → Joint
  Healed p = after_healing p.heals p.component (after_ending w p.ends j)

  abbrev Paid : Prepared → Joint
  Paid p = after_payload p.payload (Healed p)

  abbrev Marked : Prepared → Joint
  Marked p = after_mark w p.mark (Paid p)

  called_was : (p : Prepared) → PaysWas contents g0 epoch b c (after_healing p.heals p.component (after_ending w p.ends j)) p.payload
      → MarksWas contents g0 epoch b c (after_payload p.payload (after_healing p.heals p.component (after_ending w p.ends j))) p.mark
      → OpensWas contents g0 epoch b c (after_mark w p.mark (after_payload p.payload (after_healing p.heals p.component (after_ending w p.ends j)))) p.opens
      → All j → All (after_call w p j)
  called_was p pays marks opens all =
      all_called (SideWas contents g0 epoch b c) (PaysRight contents g0 epoch b c) (MarksRight contents g0 epoch b c) (OpensRight contents g0 epoch b c)
      (was_ended contents g0 epoch b c) (was_settled contents g0 epoch b c) (was_paid contents g0 epoch b c) (was_doubted contents g0 epoch b c)
      (was_marked contents g0 epoch b c) (was_failed contents g0 epoch b c) (was_opened contents g0 epoch b c) w p j pays marks opens all

  faulted_was : (p : Prepared) (far : Bool) → MarksWas contents g0 epoch b c (after_ending w p.ends j) p.mark → All j → All (after_fault w p far j)
  faulted_was p far marks all =
      all_faulted (SideWas contents g0 epoch b c) (PaysRight contents g0 epoch b c) (MarksRight contents g0 epoch b c) (OpensRight contents g0 epoch b c)
      (was_ended contents g0 epoch b c) (was_settled contents g0 epoch b c) (was_paid contents g0 epoch b c) (was_doubted contents g0 epoch b c)
      (was_marked contents g0 epoch b c) (was_failed contents g0 epoch b c) (was_opened contents g0 epoch b c) w p far j marks all

  landed_was : (e : Component) (p : Payload) → PaysWas contents g0 epoch b c (after_healing true e j) (Some p) → All j → All (after_landing e p j)
  landed_was e p pays all =
      all_landed (SideWas contents g0 epoch b c) (PaysRight contents g0 epoch b c) (MarksRight contents g0 epoch b c) (OpensRight contents g0 epoch b c)
      (was_ended contents g0 epoch b c) (was_settled contents g0 epoch b c) (was_paid contents g0 epoch b c) (was_doubted contents g0 epoch b c)
      (was_marked contents g0 epoch b c) (was_failed contents g0 epoch b c) (was_opened contents g0 epoch b c) e p j pays all

  stopped_was : All j → All (after_stop j)
  stopped_was all =
      all_stopped (SideWas contents g0 epoch b c) (PaysRight contents g0 epoch b c) (MarksRight contents g0 epoch b c) (OpensRight contents g0 epoch b c)
      (was_ended contents g0 epoch b c) (was_settled contents g0 epoch b c) (was_paid contents g0 epoch b c) (was_doubted contents g0 epoch b c)
      (was_marked contents g0 epoch b c) (was_failed contents g0 epoch b c) (was_opened contents g0 epoch b c) j (was_stopped contents g0 epoch b c) all

  -- ---- the daemon

  request_right : (i : Joint) (o : Option Answer) (x : Opening) → OnlyRequest x → OpensWas contents g0 epoch b c i (if_accepted o opening.Nothing x)
  request_right i (Some a) x only = tt
  request_right i None opening.Nothing only = tt
  request_right i None (opening.Put k r len groups) only = λ g s. tt
  request_right i None (opening.Recall k r recall) only = tt
  request_right i None (opening.Reservation g n r) only = absurd only
  request_right i None (opening.Mount g m vsn e made) only = absurd only
  request_right i None (opening.Move g job x source_epoch target_epoch) only = absurd only
  request_right i None (opening.Reuse g m e x reading) only = absurd only

  no_mark_right : (i : Joint) (o : Option Answer) (x : Mark) → NoMark x → MarksWas contents g0 epoch b c i (if_accepted o mark.Nothing x)
  no_mark_right i (Some a) x none = tt
  no_mark_right i None mark.Nothing none = tt
  no_mark_right i None (mark.Zone g vsn place zone d index e) none = absurd none
  no_mark_right i None (mark.Target g vsn m place zone) none = absurd none
  no_mark_right i None (mark.Label g vsn m e version text) none = absurd none
  no_mark_right i None (mark.Read g d offset bytes) none = absurd none
  no_mark_right i None (mark.Source g m bytes) none = absurd none
  no_mark_right i None (mark.Deleted g d) none = absurd none

  daemon_pays : (i l : Joint) (o : Option Payload) → PayloadLands i o → PaysWas contents g0 epoch b c l o
  daemon_pays i l None lands = tt
  daemon_pays i l (Some (payload.Daemon r)) lands = tt
  daemon_pays i l (Some (payload.Group g r)) lands = absurd lands

  daemon_called : (e : DaemonCall) (k : Joint) (x : Answer) → step j w (event.Call (call.Daemon e)) ≡ Stepped k x → All j → All k
  daemon_called e k x is all =
      let p = daemon_plan j.daemon e in
      let n = daemon_needs j.sides (map.get j.workers w) j.history j.daemon e in
      let o = outcome_is (illegal_call p n) (after_call w (prepared_plan p) j) k (prepared_plan p).answer x is in
      let legal = always_hold p n (refusal_of p) (all_hold (guards_of (refusal_of p) p n) o.0) in
      let lands = daemon_call_lands j kept w e legal in
      let only = daemon_requests j.daemon e in
      subst All o.1
      (called_was (prepared_plan p) (daemon_pays (after_ending w p.ends j) (Healed (prepared_plan p)) (prepared_plan p).payload lands)
      (no_mark_right (Paid (prepared_plan p)) (refusal_of p) p.mark only.marks) (request_right (Marked (prepared_plan p)) (refusal_of p) p.opens only.opens) all)

  -- ---- a group

  module _ (g : GroupId) (s : Side) (side : map.get j.sides g.0 ≡ Some s) where
    healed_side : (p : Prepared) → IsOfGroup g p
        → map.get (after_healing p.heals p.component (after_ending w p.ends j)).sides g.0 ≡ Some (side_without_doubt p.heals (side_after_ending p.ends s))
    healed_side p of =
        let spent = ending-at g p.ends j.sides s of.ends side in
        subst (λ e. map.get (after_healing p.heals e (after_ending w p.ends j)).sides g.0 ≡ Some (side_without_doubt p.heals (side_after_ending p.ends s)))
        (sym of.component) (healing-at g p.heals (after_ending w p.ends j).sides (side_after_ending p.ends s) spent)

    pays_right : (p : Prepared) (o : Option Payload) → IsOfGroup g p → IsPaidBy g o → PaysOf contents g0 epoch b c s o
        → PaysWas contents g0 epoch b c (after_healing p.heals p.component (after_ending w p.ends j)) o
    pays_right p None of paid pays = tt
    pays_right p (Some (payload.Daemon r)) of paid pays = tt
    pays_right p (Some (payload.Group h r)) of paid pays = λ x is.
        let here = subst (λ (i : GroupId). map.get (after_healing p.heals p.component (after_ending w p.ends j)).sides i.0 ≡ Some x) paid is in
        let same : side_without_doubt p.heals (side_after_ending p.ends s) ≡ x = same_Some _ x (sym (healed_side p of) ∙ here) in
        let tables = healed_tables (side_after_ending p.ends s) p.heals ∙ ended_tables s p.ends in
        subst (λ (y : Side). StepMay contents g0 epoch b c y.group.tables r.step) same
        (subst (λ t. StepMay contents g0 epoch b c t r.step) (sym tables) pays)

    opens_right : (p : Plan) (o : Option Answer) → Lets contents g0 epoch b c j w kept g s side p
        → OpensWas contents g0 epoch b c
        (after_mark w (if_accepted o mark.Nothing p.mark) (after_payload (if_accepted o None p.payload) (after_healing p.heals p.component (after_ending w p.ends j))))
        (if_accepted o opening.Nothing p.opens)
    opens_right p None lets = lets.opens
    opens_right p (Some a) lets = tt

    plan_called : (p : Plan) → IsOfGroup g (prepared_plan p) → Lets contents g0 epoch b c j w kept g s side p → AllHold p.own → All j
        → All (after_call w (prepared_plan p) j)
    plan_called p of lets own all =
        called_was (prepared_plan p) (pays_right (prepared_plan p) (prepared_plan p).payload of of.pays (pays_if contents g0 epoch b c s (refusal_of p) p.payload (lets.pays own)))
        (unmarked_if contents g0 epoch b c (Paid (prepared_plan p)) (refusal_of p) p.mark lets.marks) (opens_right p (refusal_of p) lets) all

  side_called : (g : GroupId) (e : GroupCall) (o : Option Side) → map.get j.sides g.0 ≡ o
      → AllHold (guards_always (side_plan g e o) (side_needs (map.get j.workers w) j.history g e o)) → All j
      → All (after_call w (prepared_plan (side_plan g e o)) j)
  side_called g e None at legal all = called_was (prepared_plan (side_plan g e None)) tt tt tt all
  side_called g e (Some s) at legal all =
      let p = group_plan g s.group e in
      let n = group_needs (map.get j.workers w) j.history g s e in
      plan_called g s at p (prepared-of g p (group_plan-of g s.group e)) (plan_lets contents g0 epoch b c j w kept g s at e)
      (front_holds p.own n.token (front_holds (p.own ++ n.token) n.lasting legal)) all

  side_faulted : (g : GroupId) (e : GroupCall) (far : Bool) (o : Option Side) → map.get j.sides g.0 ≡ o → All j
      → All (after_fault w (prepared_plan (side_plan g e o)) far j)
  side_faulted g e far None at all = faulted_was (prepared_plan (side_plan g e None)) far tt all
  side_faulted g e far (Some s) at all =
      let p = group_plan g s.group e in
      faulted_was (prepared_plan p) far (unmarked_if contents g0 epoch b c (after_ending w p.ends j) (refusal_of p) p.mark (plan_lets contents g0 epoch b c j w kept g s at e).marks) all

  -- ---- a volume

  mark_right : (g : GroupId) (s : Side) → map.get j.sides g.0 ≡ Some s → (i : Joint) → i.sides ≡ j.sides → (x : Mark) → MarksOf g x
      → MarksRight contents g0 epoch b c g.0 s x → MarksWas contents g0 epoch b c i x
  mark_right g s side i same mark.Nothing of right = tt
  mark_right g s side i same (mark.Zone h vsn place zone d index e) of right = λ y is.
      let here = same_Some s y (sym side ∙ ap (λ (k : GroupId). map.get j.sides k.0) (sym of) ∙ ap (λ m. map.get m h.0) (sym same) ∙ is) in
      subst (λ (z : Side). MarksRight contents g0 epoch b c h.0 z (mark.Zone h vsn place zone d index e)) here right
  mark_right g s side i same (mark.Target h vsn m place zone) of right = λ y is.
      let here = same_Some s y (sym side ∙ ap (λ (k : GroupId). map.get j.sides k.0) (sym of) ∙ ap (λ m. map.get m h.0) (sym same) ∙ is) in
      subst (λ (z : Side). MarksRight contents g0 epoch b c h.0 z (mark.Target h vsn m place zone)) here right
  mark_right g s side i same (mark.Label h vsn m e version text) of right = λ y is.
      let here = same_Some s y (sym side ∙ ap (λ (k : GroupId). map.get j.sides k.0) (sym of) ∙ ap (λ m. map.get m h.0) (sym same) ∙ is) in
      subst (λ (z : Side). MarksRight contents g0 epoch b c h.0 z (mark.Label h vsn m e version text)) here right
  mark_right g s side i same (mark.Read h d offset bytes) of right = tt
  mark_right g s side i same (mark.Source h m bytes) of right = λ y is. tt
  mark_right g s side i same (mark.Deleted h d) of right = tt

  module _ (g : GroupId) (vsn : Vsn) (s : Side) (side : map.get j.sides g.0 ≡ Some s) where
    -- the mark of a call whose guards hold
    volume_right : (image : Image) (x : MountState) (e : VolumeCall) → map.get s.mounts (mount_in e) ≡ Some x
        → AllHold (guards_always (volume_plan g vsn (Some image) (Some x) e) (volume_needs vsn (Some x) e))
        → MarksRight contents g0 epoch b c g.0 s (volume_plan g vsn (Some image) (Some x) e).mark
    volume_right image x (volume_call.WriteZone m place zone) mount legal =
        zone_right contents g0 epoch b c j kept g s side vsn x m mount (texts_equal x.vsn.0 vsn.0 legal.0) place zone x.epoch x.origin
        ((kept.sides g.0 s side).mounts.origin m x mount) legal.1.0
    volume_right image x (volume_call.ReadChunk m place n bytes) mount legal =
        read_right contents g0 epoch b c j kept g s side vsn x m mount (texts_equal x.vsn.0 vsn.0 legal.1.0) place n bytes x.origin
    volume_right image x (volume_call.Relabel m e version) mount legal =
        label_right contents g0 epoch b c j kept g s side vsn x m mount (texts_equal x.vsn.0 vsn.0 legal.0) e version image.size legal.1.0

    volume_called : (image : Option Image) (x : Option MountState) (e : VolumeCall) → map.get s.mounts (mount_in e) ≡ x
        → AllHold (guards_always (volume_plan g vsn image x e) (volume_needs vsn x e)) → All j
        → All (after_call w (prepared_plan (volume_plan g vsn image x e)) j)
    volume_called None x e mount legal all = called_was (prepared_plan (volume_plan g vsn None x e)) tt tt tt all
    volume_called (Some image) None e mount legal all = called_was (prepared_plan (volume_plan g vsn (Some image) None e)) tt tt tt all
    volume_called (Some image) (Some x) (volume_call.WriteZone m place zone) mount legal all =
        let p = volume_plan g vsn (Some image) (Some x) (volume_call.WriteZone m place zone) in
        called_was (prepared_plan p) tt
        (mark_right g s side (after_payload None (after_healing false (component.Group g) (after_ending w ending.Nothing j))) refl p.mark
        (volume_plan-of g vsn (Some image) (Some x) (volume_call.WriteZone m place zone)).marks
        (volume_right image x (volume_call.WriteZone m place zone) mount legal)) tt all
    volume_called (Some image) (Some x) (volume_call.ReadChunk m place n bytes) mount legal all =
        let p = volume_plan g vsn (Some image) (Some x) (volume_call.ReadChunk m place n bytes) in
        called_was (prepared_plan p) tt
        (mark_right g s side (after_payload None (after_healing false (component.Group g) (after_ending w ending.Nothing j))) refl p.mark
        (volume_plan-of g vsn (Some image) (Some x) (volume_call.ReadChunk m place n bytes)).marks
        (volume_right image x (volume_call.ReadChunk m place n bytes) mount legal)) tt all
    volume_called (Some image) (Some x) (volume_call.Relabel m e version) mount legal all =
        let p = volume_plan g vsn (Some image) (Some x) (volume_call.Relabel m e version) in
        called_was (prepared_plan p) tt
        (mark_right g s side (after_payload None (after_healing false (component.Group g) (after_ending w ending.Nothing j))) refl p.mark
        (volume_plan-of g vsn (Some image) (Some x) (volume_call.Relabel m e version)).marks
        (volume_right image x (volume_call.Relabel m e version) mount legal)) tt all

    volume_faulted : (image : Option Image) (x : Option MountState) (e : VolumeCall) (far : Bool) → map.get s.mounts (mount_in e) ≡ x
        → AllHold (guards_always (volume_plan g vsn image x e) (volume_needs vsn x e)) → All j
        → All (after_fault w (prepared_plan (volume_plan g vsn image x e)) far j)
    volume_faulted None x e far mount legal all = faulted_was (prepared_plan (volume_plan g vsn None x e)) far tt all
    volume_faulted (Some image) None e far mount legal all = faulted_was (prepared_plan (volume_plan g vsn (Some image) None e)) far tt all
    volume_faulted (Some image) (Some x) (volume_call.WriteZone m place zone) far mount legal all =
        let p = volume_plan g vsn (Some image) (Some x) (volume_call.WriteZone m place zone) in
        faulted_was (prepared_plan p) far
        (mark_right g s side (after_ending w ending.Nothing j) refl p.mark
        (volume_plan-of g vsn (Some image) (Some x) (volume_call.WriteZone m place zone)).marks
        (volume_right image x (volume_call.WriteZone m place zone) mount legal)) all
    volume_faulted (Some image) (Some x) (volume_call.ReadChunk m place n bytes) far mount legal all =
        let p = volume_plan g vsn (Some image) (Some x) (volume_call.ReadChunk m place n bytes) in
        faulted_was (prepared_plan p) far
        (mark_right g s side (after_ending w ending.Nothing j) refl p.mark
        (volume_plan-of g vsn (Some image) (Some x) (volume_call.ReadChunk m place n bytes)).marks
        (volume_right image x (volume_call.ReadChunk m place n bytes) mount legal)) all
    volume_faulted (Some image) (Some x) (volume_call.Relabel m e version) far mount legal all =
        let p = volume_plan g vsn (Some image) (Some x) (volume_call.Relabel m e version) in
        faulted_was (prepared_plan p) far
        (mark_right g s side (after_ending w ending.Nothing j) refl p.mark
        (volume_plan-of g vsn (Some image) (Some x) (volume_call.Relabel m e version)).marks
        (volume_right image x (volume_call.Relabel m e version) mount legal)) all

  in_volume_called : (g : GroupId) (vsn : Vsn) (e : VolumeCall) (o : Option Side) → map.get j.sides g.0 ≡ o
      → AllHold (guards_always (volume_plan_in g vsn e o) (volume_needs_in vsn e o)) → All j
      → All (after_call w (prepared_plan (volume_plan_in g vsn e o)) j)
  in_volume_called g vsn e None at legal all = called_was (prepared_plan (volume_plan_in g vsn e None)) tt tt tt all
  in_volume_called g vsn e (Some s) at legal all =
      volume_called g vsn s at (map.get s.images vsn.0) (map.get s.mounts (mount_in e)) e refl legal all

  in_volume_faulted : (g : GroupId) (vsn : Vsn) (e : VolumeCall) (far : Bool) (o : Option Side) → map.get j.sides g.0 ≡ o
      → AllHold (guards_always (volume_plan_in g vsn e o) (volume_needs_in vsn e o)) → All j
      → All (after_fault w (prepared_plan (volume_plan_in g vsn e o)) far j)
  in_volume_faulted g vsn e far None at legal all = faulted_was (prepared_plan (volume_plan_in g vsn e None)) far tt all
  in_volume_faulted g vsn e far (Some s) at legal all =
      volume_faulted g vsn s at (map.get s.images vsn.0) (map.get s.mounts (mount_in e)) e far refl legal all

  -- ---- calls that fail

  daemon_faulted : (e : DaemonCall) (far : Bool) → All j → All (after_fault w (prepared_plan (daemon_plan j.daemon e)) far j)
  daemon_faulted e far all =
      let p = daemon_plan j.daemon e in
      faulted_was (prepared_plan p) far (no_mark_right (after_ending w p.ends j) (refusal_of p) p.mark (daemon_requests j.daemon e).marks) all

  fault_front : (p : Plan) (n : Needs) → AllHold (guards_of_fault p n) → AllHold (guards_always p n)
  fault_front p n hold = front_holds (guards_always p n) _ hold

  faulted_of : (e : Call) (far : Bool) → AllHold (guards_always (plan_of j e) (needs_of j w e)) → All j → All (after_fault w (prepared_plan (plan_of j e)) far j)
  faulted_of (call.Daemon e) far legal all = daemon_faulted e far all
  faulted_of (call.Group g e) far legal all = side_faulted g e far (map.get j.sides g.0) refl all
  faulted_of (call.Volume g vsn e) far legal all = in_volume_faulted g vsn e far (map.get j.sides g.0) refl legal all

  faulted : (e : Call) (healed checkpointed : Bool) (k : Joint) (x : Answer) → step j w (event.Fault e healed checkpointed) ≡ Stepped k x → All j → All k
  faulted e healed checkpointed k x is all =
      let p = plan_of j e in
      let n = needs_of j w e in
      let far = healed && checkpointed in
      let o = outcome_is (illegal_fault p n) (after_fault w (prepared_plan p) far j) k _ x is in
      subst All o.1 (faulted_of e far (fault_front p n (all_hold (guards_of_fault p n) o.0)) all)

  -- ---- steps in doubt that land

  may_of : (s : Side) (st : GroupStep) → MayGroupStep s.group.tables st → StepMay contents g0 epoch b c s.group.tables st
  may_of s (group_step.Volume vsn slot version size) may = may.new
  may_of s (group_step.Commit d len chunks) may = tt
  may_of s (group_step.Delete d) may = tt
  may_of s (group_step.Move d from to) may = tt
  may_of s (group_step.Free vsn) may = tt
  may_of s (group_step.Reuse vsn later version) may = λ v at.
      may.next ∙ ap (λ (y : VolumeRow). y.epoch + 1) (one_row s.group.tables.volumes vsn.0 vsn.0 may.volume v refl may.is at)

  group_pays : (g : GroupId) (s : Side) → map.get j.sides g.0 ≡ Some s → (o : Option GroupRecord)
      → GroupMayLandIf g.0 j.daemon.tables.entries j.history.contents j.history.taken (deleted_in (map.get j.history.groups g.0)) s o
      → (r : GroupRecord) → o ≡ Some r → PaysWas contents g0 epoch b c (after_healing true (component.Group g) j) (Some (payload.Group g r))
  group_pays g s side None may r is = absurd (cc)
  group_pays g s side (Some q) may r is = λ y at.
      let here : side_without_doubt true s ≡ y = same_Some _ y (sym (healing-at g true j.sides s side) ∙ at) in
      let same : q ≡ r = same_Some q r is in
      subst (λ (z : Side). StepMay contents g0 epoch b c z.group.tables r.step) here
      (subst (λ (z : GroupRecord). StepMay contents g0 epoch b c s.group.tables z.step) same (may_of s q.step may.follow.step))

  daemon_landed : (k : Joint) (x : Answer) (o : Option DaemonRecord)
      → doubt_outcome j component.Daemon (option_map (λ r. payload.Daemon r) o) ≡ Stepped k x → All j → All k
  daemon_landed k x None is all = absurd (cc)
  daemon_landed k x (Some r) is all =
      let l = landed_is j k component.Daemon (Some (payload.Daemon r)) x is in
      let same : after_landing component.Daemon (payload.Daemon r) j ≡ k =
      ap (λ p. after_landing component.Daemon p j) (payload_is (payload.Daemon r) l.0 l.1) ∙ l.2 in
      subst All same (landed_was component.Daemon (payload.Daemon r) tt all)

  group_landed : (g : GroupId) (s : Side) → map.get j.sides g.0 ≡ Some s → (o : Option GroupRecord) → s.group.doubt ≡ o → (k : Joint) (x : Answer)
      → doubt_outcome j (component.Group g) (option_map (λ r. payload.Group g r) o) ≡ Stepped k x → All j → All k
  group_landed g s side None doubt k x is all = absurd (cc)
  group_landed g s side (Some r) doubt k x is all =
      let l = landed_is j k (component.Group g) (Some (payload.Group g r)) x is in
      let same : after_landing (component.Group g) (payload.Group g r) j ≡ k =
      ap (λ p. after_landing (component.Group g) p j) (payload_is (payload.Group g r) l.0 l.1) ∙ l.2 in
      subst All same
      (landed_was (component.Group g) (payload.Group g r) (group_pays g s side s.group.doubt (kept.sides g.0 s side).doubt r doubt) all)

  side_landed : (g : GroupId) (o : Option Side) → map.get j.sides g.0 ≡ o → (k : Joint) (x : Answer) → landing_outcome_in j g o ≡ Stepped k x → All j → All k
  side_landed g None at k x is all = absurd (cc)
  side_landed g (Some s) at k x is all = group_landed g s at s.group.doubt refl k x is all

  -- ---- any event

  came : (p : Plan) (n : Needs) (k : Joint) (x : Answer) → outcome_of (illegal_call p n) (after_call w (prepared_plan p) j) (prepared_plan p).answer ≡ Stepped k x
      → (AllHold (guards_always p n) → All (after_call w (prepared_plan p) j)) → All k
  came p n k x is after =
      let o = outcome_is (illegal_call p n) (after_call w (prepared_plan p) j) k (prepared_plan p).answer x is in
      subst All o.1 (after (always_hold p n (refusal_of p) (all_hold (guards_of (refusal_of p) p n) o.0)))

  sides_after : (e : Event) (k : Joint) (x : Answer) → step j w e ≡ Stepped k x → All j → All k
  sides_after (event.Call (call.Daemon e)) k x is all = daemon_called e k x is all
  sides_after (event.Call (call.Group g e)) k x is all =
      came (plan_of j (call.Group g e)) (needs_of j w (call.Group g e)) k x is (λ legal. side_called g e (map.get j.sides g.0) refl legal all)
  sides_after (event.Call (call.Volume g vsn e)) k x is all =
      came (plan_of j (call.Volume g vsn e)) (needs_of j w (call.Volume g vsn e)) k x is
      (λ legal. in_volume_called g vsn e (map.get j.sides g.0) refl legal all)
  sides_after (event.Fault e healed checkpointed) k x is all = faulted e healed checkpointed k x is all
  sides_after (event.Landed component.Daemon) k x is all = daemon_landed k x j.daemon.doubt is all
  sides_after (event.Landed (component.Group g)) k x is all = side_landed g (map.get j.sides g.0) refl k x is all
  sides_after (event.Look e) k x is all = subst All (look_is j k e x is) all
  sides_after event.Stop k x is all =
      let same : after_stop j ≡ k = cc in
      subst All same (stopped_was all)

  -- a chunk that was once live stays so
  pub event_was : (e : Event) (k : Joint) (x : Answer) → step j w e ≡ Stepped k x → WasLiveIn j g0 epoch b c → WasLiveIn k g0 epoch b c
  event_was e k x is was = λ h s at same.
      with_contents j.history.contents k.history.contents epoch b c s (λ bytes there. content_stays j w kept b bytes there e k x is)
      (sides_after e k x is was h s at same)

-- ---- runs

pub run_was : (g0 epoch b : ℕ) (c : Chunk) (j : Joint) (entries : List RunEntry) (k : Joint) → KeptAlong j entries → Run j entries k
    → WasLiveIn j g0 epoch b c → WasLiveIn k g0 epoch b c
run_was g0 epoch b c j [] k kept run was = subst (λ i. WasLiveIn i g0 epoch b c) run was
run_was g0 epoch b c j (e ∷ es) k kept run was =
    run_was g0 epoch b c run.0 es k (along_rest j run.0 e es kept run.1) run.2
    (event_was j e.worker kept.0 g0 epoch b c e.event run.0 e.answer run.1 was)

-- ---- a chunk of a bitfile is one

pub live_was : (j : Joint) → InvariantHolds j → (g b : ℕ) (s : Side) (row : BitfileRow) (c : Chunk) (v : VolumeRow) → map.get j.sides g ≡ Some s
    → map.get s.group.tables.bitfiles b ≡ Some row → IsAmong c row.chunks → map.get s.group.tables.volumes c.vsn.0 ≡ Some v
    → WasLiveIn j g v.epoch b c
live_was j kept g b s row c v side is among on = λ h x at same.
    let one : s ≡ x = one_row j.sides g h s x (sym same) side at in
    let k = kept.sides g s side in
    let bitfile = k.catalogue.bitfile b row is in
    let lies = bitfile.lies c among in
    let row_is : lies.volume ≡ v = one_row s.group.tables.volumes c.vsn.0 c.vsn.0 lies.volume v refl lies.is on in
    subst (λ (y : Side). WasLive j.history.contents y.group.tables.volumes y.images y.group.reservations y.group.moves v.epoch b c) one
    (record {
      volume = v;
      is = on;
      reached = omega arith;
      still = λ _. record {
        behind = lies.behind;
        within = subst (λ (y : VolumeRow). c.place + c.len ≤ y.end) row_is lies.within;
        sum = lies.sum ∙ ap (λ (y : VolumeRow). has_sum y.version) row_is;
        bytes = bitfile.of.bytes;
        content = bitfile.of.content;
        known = bitfile.known c among;
        right = bitfile.sums c among;
        beside_kept = λ n offset place covers has.
            let never = k.places (Live b c.offset) (InHand n offset) c.vsn.0 place
            (record { row = row; is = is; chunk = c; among = among; at = refl; covers = covers }) has in
            absurd (cc);
        beside_targets = λ job place covers has.
            let never = k.places (Live b c.offset) (Target job) c.vsn.0 place
            (record { row = row; is = is; chunk = c; among = among; at = refl; covers = covers }) has in
            absurd (cc);
      };
    })
