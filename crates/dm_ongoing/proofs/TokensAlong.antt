-- Each event but a stop leaves the numbers of a group's tokens as they are, or lets them rise.
use Rattle.std.proofs.Common.{◌≡◌, ℕ, Bool, true, ◌&&◌, Option, None, Some, refl, sym, ap, subst, ◌∙◌}
use Rattle.std.specs.FinMap as map
use Rattle.dm_base.specs.declared.identifier.GroupId.{GroupId}
use Rattle.dm_base.specs.declared.serial.Vsn.{Vsn}
use Rattle.dm_tables.specs.Rows.{EachRow, adjust}
use Rattle.dm_tables.proofs.Adjusted.{each-adjust}
use Rattle.dm_tables.proofs.Orders.{numbers}
use Rattle.dm_durable.specs.Tables.{ByNumber}
use Rattle.dm_model.specs.declared.answer.Answer.{Answer}
use Rattle.dm_model.specs.declared.call.Call.{Call}
use Rattle.dm_model.specs.declared.call.Call.TheVariants as call
use Rattle.dm_model.specs.declared.call.Component.{Component}
use Rattle.dm_model.specs.declared.call.Component.TheVariants as component
use Rattle.dm_model.specs.declared.call.Event.{Event}
use Rattle.dm_model.specs.declared.call.Event.TheVariants as event
use Rattle.dm_model.specs.declared.call.GroupCall.{GroupCall}
use Rattle.dm_model.specs.declared.call.VolumeCall.{VolumeCall}
use Rattle.dm_model.specs.declared.call.VolumeCall.TheVariants as volume_call
use Rattle.dm_model.specs.declared.plan.Mark.{Mark}
use Rattle.dm_model.specs.declared.plan.Mark.TheVariants as mark
use Rattle.dm_model.specs.declared.plan.Opening.{Opening}
use Rattle.dm_model.specs.declared.plan.Opening.TheVariants as opening
use Rattle.dm_model.specs.declared.plan.Payload.{Payload}
use Rattle.dm_model.specs.declared.plan.Payload.TheVariants as payload
use Rattle.dm_model.specs.declared.plan.Prepared.{Prepared}
use Rattle.dm_model.specs.declared.state.Image.{Image}
use Rattle.dm_model.specs.declared.state.Joint.{Joint}
use Rattle.dm_model.specs.declared.state.MountState.{MountState}
use Rattle.dm_model.specs.declared.state.Side.{Side}
use Rattle.dm_model.specs.DaemonCalls.{daemon_plan}
use Rattle.dm_model.specs.Effects.{after_ending, after_healing, after_mark, after_opening, after_payload}
use Rattle.dm_model.specs.GroupCalls.{group_needs, group_plan}
use Rattle.dm_model.specs.Guards.{AllHold}
use Rattle.dm_model.specs.SideShare.{side_after_opening}
use Rattle.dm_model.specs.Plan.{guards_of, if_accepted, illegal_call, illegal_fault, prepared_plan, refusal_of}
use Rattle.dm_model.specs.VolumeCalls.{mount_in, volume_plan}
use Rattle.dm_model.specs.Step.{Stepped, after_call, after_fault, after_landing, doubt_outcome, landing_outcome_in, needs_of, plan_of, side_needs, side_plan, step, volume_plan_in}
use Rattle.dm_effects.proofs.PutEnded.{each_at_each}
use Rattle.dm_shown.specs.Along.{GoesOn}
use Rattle.dm_shown.proofs.EventsShown.{all_hold, landed_is, look_is, outcome_is, side_opens}
use Rattle.dm_model.proofs.Shares.{OpensOf}
use Rattle.dm_once.proofs.DaemonRequests.{OnlyRequest, daemon_requests}
use Rattle.dm_once.proofs.SidesAlong.{MarksIf, PaysIf, all_called, all_faulted, all_landed}
use Rattle.dm_ongoing.proofs.TokensLeft.{AnyMark, AnyRecord, AreNew, MakesNothing, SideLeft, SideRises, left_begin, left_doubted, left_ended, left_failed, left_marked}
use Rattle.dm_ongoing.proofs.TokensLeft.{left_opened, left_paid, left_settled, opened_rise, rise}
use Rattle.dm_ongoing.proofs.TokensMade.{new_if, plan_new}

module _ (j : Joint) where
  abbrev PaysAny : Joint → Option Payload → Type 0
  PaysAny i o =
      PaysIf (SideLeft j) (AnyRecord j) (AnyMark j) (MakesNothing j) (left_ended j) (left_settled j) (left_paid j) (left_doubted j) (left_marked j)
      (left_failed j) (left_opened j) i o

  abbrev MarksAny : Joint → Mark → Type 0
  MarksAny i x =
      MarksIf (SideLeft j) (AnyRecord j) (AnyMark j) (MakesNothing j) (left_ended j) (left_settled j) (left_paid j) (left_doubted j) (left_marked j)
      (left_failed j) (left_opened j) i x

  any_record : (i : Joint) (o : Option Payload) → PaysAny i o
  any_record i None = tt
  any_record i (Some (payload.Daemon r)) = tt
  any_record i (Some (payload.Group g r)) = λ s is. tt

  any_mark : (i : Joint) (x : Mark) → MarksAny i x
  any_mark i mark.Nothing = tt
  any_mark i (mark.Zone g vsn place zone b index epoch) = λ s is. tt
  any_mark i (mark.Target g vsn m place zone) = λ s is. tt
  any_mark i (mark.Label g vsn m epoch version text) = λ s is. tt
  any_mark i (mark.Read g b offset bytes) = tt
  any_mark i (mark.Source g m bytes) = λ s is. tt
  any_mark i (mark.Deleted g b) = tt

  -- the state in which a call makes something
  abbrev Before : ℕ → Prepared → Joint
  Before w p = after_mark w p.mark (after_payload p.payload (after_healing p.heals p.component (after_ending w p.ends j)))

  before_left : (w : ℕ) (p : Prepared) → EachRow (Before w p).sides (SideLeft j)
  before_left w p =
      let healed = after_healing p.heals p.component (after_ending w p.ends j) in
      all_called (SideLeft j) (AnyRecord j) (AnyMark j) (MakesNothing j) (left_ended j) (left_settled j) (left_paid j) (left_doubted j) (left_marked j)
      (left_failed j) (left_opened j) w (record p { opens = opening.Nothing }) j (any_record healed p.payload)
      (any_mark (after_payload p.payload healed) p.mark) tt (left_begin j)

  all_rise : (i : Joint) → EachRow i.sides (SideLeft j) → EachRow i.sides (SideRises j)
  all_rise i left = λ g s is t at. rise t.group s.group (left g s is t at)

  -- what is made is new in the group, as it was
  abbrev NewIn : GroupId → Opening → Type 0
  NewIn g o = (t : Side) → map.get j.sides g.0 ≡ Some t → AreNew t.group o

  abbrev MadeNew : Opening → Type 0
  MadeNew opening.Nothing = Unit {0}
  MadeNew (opening.Put k r len groups) = Unit {0}
  MadeNew (opening.Recall k r recall) = Unit {0}
  MadeNew (opening.Reservation g n r) = NewIn g (opening.Reservation g n r)
  MadeNew (opening.Mount g m vsn epoch made) = NewIn g (opening.Mount g m vsn epoch made)
  MadeNew (opening.Move g job x source_epoch target_epoch) = NewIn g (opening.Move g job x source_epoch target_epoch)
  MadeNew (opening.Reuse g m epoch x reading) = NewIn g (opening.Reuse g m epoch x reading)

  one_rises : (g : GroupId) (o : Opening) (sides : ByNumber Side) → NewIn g o
      → EachRow sides (SideLeft j) → EachRow (adjust sides g.0 (side_after_opening o)) (SideRises j)
  one_rises g o sides new left =
      each-adjust numbers (SideRises j) sides g.0 (side_after_opening o)
      (λ s is t at. opened_rise t.group s.group o (new t at) (left g.0 s is t at))
      (λ h s is t at. rise t.group s.group (left h s is t at))

  makes_rise : (w : ℕ) (o : Opening) (i : Joint) → MadeNew o → EachRow i.sides (SideLeft j) → EachRow (after_opening w o i).sides (SideRises j)
  makes_rise w opening.Nothing i new left = all_rise i left
  makes_rise w (opening.Put k r len groups) i new left =
      each_at_each (SideRises j) (side_after_opening (opening.Put k r len groups)) groups i.sides
      (λ g s rises t at. rises t at) (all_rise i left)
  makes_rise w (opening.Recall k r recall) i new left = all_rise i left
  makes_rise w (opening.Reservation g n r) i new left = one_rises g (opening.Reservation g n r) i.sides new left
  makes_rise w (opening.Mount g m vsn epoch made) i new left = one_rises g (opening.Mount g m vsn epoch made) i.sides new left
  makes_rise w (opening.Move g job x source_epoch target_epoch) i new left =
      one_rises g (opening.Move g job x source_epoch target_epoch) i.sides new left
  makes_rise w (opening.Reuse g m epoch x reading) i new left = one_rises g (opening.Reuse g m epoch x reading) i.sides new left

  called_rises : (w : ℕ) (p : Prepared) → MadeNew p.opens → EachRow (after_call w p j).sides (SideRises j)
  called_rises w p new = makes_rise w p.opens (Before w p) new (before_left w p)

  faulted_rises : (w : ℕ) (p : Prepared) (far : Bool) → EachRow (after_fault w p far j).sides (SideRises j)
  faulted_rises w p far =
      all_rise (after_fault w p far j)
      (all_faulted (SideLeft j) (AnyRecord j) (AnyMark j) (MakesNothing j) (left_ended j) (left_settled j) (left_paid j) (left_doubted j) (left_marked j)
      (left_failed j) (left_opened j) w p far j (any_mark (after_ending w p.ends j) p.mark) (left_begin j))

  landed_rises : (c : Component) (p : Payload) → EachRow (after_landing c p j).sides (SideRises j)
  landed_rises c p =
      all_rise (after_landing c p j)
      (all_landed (SideLeft j) (AnyRecord j) (AnyMark j) (MakesNothing j) (left_ended j) (left_settled j) (left_paid j) (left_doubted j) (left_marked j)
      (left_failed j) (left_opened j) c p j (any_record (after_healing true c j) (Some p)) (left_begin j))

  -- ---- calls

  -- what a call of the daemon makes is of no group
  request_new : (o : Opening) → OnlyRequest o → MadeNew o
  request_new opening.Nothing only = tt
  request_new (opening.Put k r len groups) only = tt
  request_new (opening.Recall k r recall) only = tt
  request_new (opening.Reservation h n r) only = absurd only
  request_new (opening.Mount h m vsn epoch made) only = absurd only
  request_new (opening.Move h job x source_epoch target_epoch) only = absurd only
  request_new (opening.Reuse h m epoch x reading) only = absurd only

  request_if : (o : Option Answer) (x : Opening) → OnlyRequest x → MadeNew (if_accepted o opening.Nothing x)
  request_if None x only = request_new x only
  request_if (Some a) x only = tt

  -- what a call of a group makes is of that group
  new_there : (g h : GroupId) (s : Side) (o : Opening) → map.get j.sides g.0 ≡ Some s → h ≡ g → AreNew s.group o → NewIn h o
  new_there g h s o is same new = λ t at.
      let here : map.get j.sides g.0 ≡ Some t = ap (λ (i : GroupId). map.get j.sides i.0) (sym same) ∙ at in
      let both : Some s ≡ Some t = sym is ∙ here in
      let one : s ≡ t = cc in
      subst (λ (x : Side). AreNew x.group o) one new

  made_new : (g : GroupId) (s : Side) (o : Opening) → map.get j.sides g.0 ≡ Some s → OpensOf g o → AreNew s.group o → MadeNew o
  made_new g s opening.Nothing is of new = tt
  made_new g s (opening.Put k r len groups) is of new = tt
  made_new g s (opening.Recall k r recall) is of new = tt
  made_new g s (opening.Reservation h n r) is of new = new_there g h s (opening.Reservation h n r) is of new
  made_new g s (opening.Mount h m vsn epoch made) is of new = new_there g h s (opening.Mount h m vsn epoch made) is of new
  made_new g s (opening.Move h job x source_epoch target_epoch) is of new =
      new_there g h s (opening.Move h job x source_epoch target_epoch) is of new
  made_new g s (opening.Reuse h m epoch x reading) is of new = new_there g h s (opening.Reuse h m epoch x reading) is of new

  side_new : (w : ℕ) (g : GroupId) (c : GroupCall) (o : Option Side) → map.get j.sides g.0 ≡ o
      → AllHold (guards_of (refusal_of (side_plan g c o)) (side_plan g c o) (side_needs (map.get j.workers w) j.history g c o))
      → MadeNew (prepared_plan (side_plan g c o)).opens
  side_new w g c None is hold = tt
  side_new w g c (Some s) is hold =
      let p = group_plan g s.group c in
      made_new g s (prepared_plan p).opens is (side_opens g c (Some s))
      (new_if s.group p (group_needs (map.get j.workers w) j.history g s c) (refusal_of p) (plan_new g s.group c) hold)

  image_new : (g : GroupId) (vsn : Vsn) (image : Option Image) (x : Option MountState) (c : VolumeCall)
      → MadeNew (prepared_plan (volume_plan g vsn image x c)).opens
  image_new g vsn None x c = tt
  image_new g vsn (Some i) None c = tt
  image_new g vsn (Some i) (Some y) (volume_call.WriteZone m place zone) = tt
  image_new g vsn (Some i) (Some y) (volume_call.ReadChunk m place n bytes) = tt
  image_new g vsn (Some i) (Some y) (volume_call.Relabel m epoch version) = tt

  volume_new : (g : GroupId) (vsn : Vsn) (c : VolumeCall) (o : Option Side) → MadeNew (prepared_plan (volume_plan_in g vsn c o)).opens
  volume_new g vsn c None = tt
  volume_new g vsn c (Some s) = image_new g vsn (map.get s.images vsn.0) (map.get s.mounts (mount_in c)) c

  call_new : (w : ℕ) (c : Call) → AllHold (guards_of (refusal_of (plan_of j c)) (plan_of j c) (needs_of j w c))
      → MadeNew (prepared_plan (plan_of j c)).opens
  call_new w (call.Daemon c) hold =
      request_if (refusal_of (daemon_plan j.daemon c)) (daemon_plan j.daemon c).opens (daemon_requests j.daemon c).opens
  call_new w (call.Group g c) hold = side_new w g c (map.get j.sides g.0) refl hold
  call_new w (call.Volume g vsn c) hold = volume_new g vsn c (map.get j.sides g.0)

  -- ---- events

  to_side : (k : Joint) (i : Joint) → i ≡ k → EachRow i.sides (SideRises j) → EachRow k.sides (SideRises j)
  to_side k i same rises = subst (λ (x : Joint). EachRow x.sides (SideRises j)) same rises

  doubt_rises : (c : Component) (o : Option Payload) (k : Joint) (x : Answer) → doubt_outcome j c o ≡ Stepped k x → EachRow k.sides (SideRises j)
  doubt_rises c o k x is = let l = landed_is j k c o x is in to_side k (after_landing c l.0 j) l.2 (landed_rises c l.0)

  side_landed : (g : GroupId) (o : Option Side) (k : Joint) (x : Answer) → landing_outcome_in j g o ≡ Stepped k x → EachRow k.sides (SideRises j)
  side_landed g None k x is = absurd (cc)
  side_landed g (Some s) k x is = doubt_rises (component.Group g) _ k x is

  pub tokens_rise : (w : ℕ) (e : Event) (k : Joint) (x : Answer) → GoesOn e → step j w e ≡ Stepped k x → EachRow k.sides (SideRises j)
  tokens_rise w (event.Call c) k x on is =
      let p = plan_of j c in
      let n = needs_of j w c in
      let o = outcome_is (illegal_call p n) (after_call w (prepared_plan p) j) k (prepared_plan p).answer x is in
      to_side k (after_call w (prepared_plan p) j) o.1 (called_rises w (prepared_plan p) (call_new w c (all_hold (guards_of (refusal_of p) p n) o.0)))
  tokens_rise w (event.Fault c healed checkpointed) k x on is =
      let p = plan_of j c in
      let n = needs_of j w c in
      let far = healed && checkpointed in
      let o = outcome_is (illegal_fault p n) (after_fault w (prepared_plan p) far j) k _ x is in
      to_side k (after_fault w (prepared_plan p) far j) o.1 (faulted_rises w (prepared_plan p) far)
  tokens_rise w (event.Landed component.Daemon) k x on is = doubt_rises component.Daemon _ k x is
  tokens_rise w (event.Landed (component.Group g)) k x on is = side_landed g (map.get j.sides g.0) k x is
  tokens_rise w (event.Look c) k x on is = to_side k j (look_is j k c x is) (all_rise j (left_begin j))
  tokens_rise w event.Stop k x on is = absurd on
