-- The number of the next request never falls but by a stop, and what is made has a number between it and the next one after.
use Rattle.std.proofs.Common.{◌≡◌, ◌≤◌, ◌<◌, ◌+◌, ℕ, Bool, true, false, cond, ◌&&◌, Option, None, Some, option_map, refl, ap, subst, ◌∙◌, arith}
use Rattle.dm_base.specs.declared.identifier.Ino.{Ino}
use Rattle.dm_tables.specs.Rows.{EachRow}
use Rattle.dm_tables.proofs.Orders.{numbers}
use Rattle.dm_tables.proofs.Rows.{each-insert, each-remove}
use Rattle.dm_tables.proofs.Adjusted.{each-map}
use Rattle.dm_durable.specs.Tables.{ByNumber}
use Rattle.dm_durable.specs.declared.daemon.DaemonStep.{DaemonStep}
use Rattle.dm_model.specs.declared.state.OpenRequest.{OpenRequest}
use Rattle.dm_model.specs.DaemonCalls.{daemon_plan}
use Rattle.dm_model.specs.Guards.{AllHold}
use Rattle.dm_shown.specs.Along.{GoesOn}
use Rattle.dm_shown.proofs.PathsAsked.{IsNewOf}
use Rattle.dm_lasting.specs.Rise.{RequestsRise}
use Rattle.dm_lasting.proofs.RequestsNew.{group_new, new_if, new_of}
use Rattle.std.specs.FinMap as map
use Rattle.dm_base.specs.declared.identifier.GroupId.{GroupId}
use Rattle.dm_durable.specs.declared.daemon.DaemonStep.TheVariants.{Write, Remove, BeginPut, Stored, EndPut, Release, Taken, Dump, Undump, Restore, HardDelete, Dropped, Restart, Age}
use Rattle.dm_model.specs.declared.answer.Answer.{Answer}
use Rattle.dm_model.specs.declared.call.Call.{Call}
use Rattle.dm_model.specs.declared.call.Call.TheVariants as call
use Rattle.dm_model.specs.declared.call.Component.{Component}
use Rattle.dm_model.specs.declared.call.Component.TheVariants as component
use Rattle.dm_model.specs.declared.call.Event.{Event}
use Rattle.dm_model.specs.declared.call.Event.TheVariants as event
use Rattle.dm_model.specs.declared.plan.Ending.{Ending}
use Rattle.dm_model.specs.declared.plan.Ending.TheVariants as ending
use Rattle.dm_model.specs.declared.plan.Opening.{Opening}
use Rattle.dm_model.specs.declared.plan.Opening.TheVariants as opening
use Rattle.dm_model.specs.declared.plan.Payload.{Payload}
use Rattle.dm_model.specs.declared.plan.Payload.TheVariants as payload
use Rattle.dm_model.specs.declared.plan.Prepared.{Prepared}
use Rattle.dm_model.specs.declared.state.Daemon.{Daemon}
use Rattle.dm_model.specs.declared.state.Joint.{Joint}
use Rattle.dm_model.specs.declared.state.Side.{Side}
use Rattle.dm_model.specs.DaemonShare.{daemon_after_call, daemon_after_ending, daemon_after_fault, daemon_after_opening, daemon_after_payload, daemon_doubting, daemon_without_doubt, requests_after_step, with_change, with_change_on, with_request}
use Rattle.dm_model.specs.Plan.{guards_of, refusal_of, illegal_call, illegal_fault, prepared_plan}
use Rattle.dm_model.specs.Step.{Stepped, after_call, after_fault, after_landing, doubt_outcome, landing_outcome_in, needs_of, plan_of, step}
use Rattle.dm_shown.proofs.EventsShown.{all_hold, side_opens, volume_opens, landed_is, look_is, outcome_is, payload_is}

-- before a call makes anything the next number stands, and each open request was open
record Left (from d : Daemon) : Type 0 where
  next : d.next_request ≡ from.next_request
  rows : EachRow d.requests (λ n r. map.get from.requests n ≡ None → ⊥)

open_before : (d : Daemon) → Left d d
open_before d = record { next = refl; rows = λ n r is none. (let e = is in let f = none in cc) }

module _ (from : Daemon) where
  abbrev Was : ℕ → OpenRequest → Type 0
  Was n r = map.get from.requests n ≡ None → ⊥

  ended : (e : Ending) (d : Daemon) → Left from d → Left from (daemon_after_ending e d)
  ended ending.Nothing d l = l
  ended (ending.Put k c groups) d l = record { next = l.next; rows = each-remove numbers Was d.requests k l.rows }
  ended (ending.Recall k) d l = record { next = l.next; rows = each-remove numbers Was d.requests k l.rows }
  ended (ending.Reservation h n c) d l = l
  ended (ending.Mount h m) d l = l
  ended (ending.Move h job source target) d l = l

  settled : (heals : Bool) (c : Component) (d : Daemon) → Left from d → Left from (daemon_without_doubt heals c d)
  settled true component.Daemon d l = record { next = l.next; rows = l.rows }
  settled false component.Daemon d l = l
  settled heals (component.Group h) d l = l

  changed : (requests : ByNumber OpenRequest) (change : ℕ) (o : Option Ino) → EachRow requests Was → EachRow (with_change_on requests change o) Was
  changed requests change None rows = rows
  changed requests change (Some n) rows = each-map numbers Was (λ k. with_change n.0 change) requests (λ k r is. rows k r is)

  stepped : (s : DaemonStep) (d : Daemon) → EachRow d.requests Was → EachRow (requests_after_step d s) Was
  stepped (Write path change bytes) d rows = changed d.requests change (map.get d.tables.names path) rows
  stepped (Remove path change) d rows = changed d.requests change (map.get d.tables.names path) rows
  stepped (BeginPut path b groups) d rows = rows
  stepped (Stored b group) d rows = rows
  stepped (EndPut n b dual) d rows = rows
  stepped (Release path) d rows = rows
  stepped (Taken n bytes) d rows = rows
  stepped (Dump name) d rows = rows
  stepped (Undump name) d rows = rows
  stepped (Restore name path target change) d rows = rows
  stepped (HardDelete bfids) d rows = rows
  stepped (Dropped b) d rows = rows
  stepped Restart d rows = rows
  stepped (Age age) d rows = rows

  paid : (o : Option Payload) (d : Daemon) → Left from d → Left from (daemon_after_payload o d)
  paid None d l = l
  paid (Some (payload.Daemon r)) d l = record { next = l.next; rows = stepped r.step d l.rows }
  paid (Some (payload.Group h r)) d l = l

  doubted : (o : Option Payload) (d : Daemon) → Left from d → Left from (daemon_doubting o d)
  doubted None d l = l
  doubted (Some (payload.Daemon r)) d l = record { next = l.next; rows = l.rows }
  doubted (Some (payload.Group h r)) d l = l

  stands : (d : Daemon) → Left from d → RequestsRise from d
  stands d l = record {
    next = let e = l.next in omega (arith, e);
    made = λ n r is none. absurd (l.rows n r is none);
  }

  one_more : (d : Daemon) (k : ℕ) (r : OpenRequest) → from.next_request ≤ k → Left from d → RequestsRise from (with_request k r d)
  one_more d k r new l = record {
    next = omega (arith, new);
    made = each-insert numbers (λ n r. map.get from.requests n ≡ None → (from.next_request ≤ n) × (n < k + 1)) d.requests k r
        (λ none. (new, omega arith)) (λ n q is none. absurd (l.rows n q is none));
  }

  opened : (o : Opening) (d : Daemon) → IsNewOf from.next_request o → Left from d → RequestsRise from (daemon_after_opening o d)
  opened opening.Nothing d new l = stands d l
  opened (opening.Put k r len groups) d new l = one_more d k r new l
  opened (opening.Recall k r recall) d new l = one_more d k r new l
  opened (opening.Reservation h n r) d new l = stands d l
  opened (opening.Mount h m vsn epoch made) d new l = stands d l
  opened (opening.Move h job x source_epoch target_epoch) d new l = stands d l
  opened (opening.Reuse h m epoch x reading) d new l = stands d l

called : (p : Prepared) (d : Daemon) → IsNewOf d.next_request p.opens → RequestsRise d (daemon_after_call p d)
called p d new =
    let spent = daemon_after_ending p.ends d in
    let healed = daemon_without_doubt p.heals p.component spent in
    opened d p.opens (daemon_after_payload p.payload healed) new
    (paid d p.payload healed (settled d p.heals p.component spent (ended d p.ends d (open_before d))))

failed : (p : Prepared) (far : Bool) (d : Daemon) → RequestsRise d (daemon_after_fault p far d)
failed p far d =
    stands d (daemon_after_fault p far d)
    (doubted d (cond far p.payload None) (daemon_after_ending p.ends d) (ended d p.ends d (open_before d)))

module _ (j : Joint) (w : ℕ) where
  makes_new : (c : Call) → AllHold (guards_of (refusal_of (plan_of j c)) (plan_of j c) (needs_of j w c))
      → IsNewOf j.daemon.next_request (prepared_plan (plan_of j c)).opens
  makes_new (call.Daemon c) hold =
      new_if j.daemon.next_request (daemon_plan j.daemon c) (needs_of j w (call.Daemon c)) (refusal_of (daemon_plan j.daemon c)) (new_of j.daemon c) hold
  makes_new (call.Group h c) hold =
      group_new h j.daemon.next_request (prepared_plan (plan_of j (call.Group h c))).opens (side_opens h c (map.get j.sides h.0))
  makes_new (call.Volume h vsn c) hold =
      group_new h j.daemon.next_request (prepared_plan (plan_of j (call.Volume h vsn c))).opens (volume_opens h vsn c (map.get j.sides h.0))

  landed_rise : (c : Component) (o : Option Payload) (k : Joint) (x : Answer) → doubt_outcome j c o ≡ Stepped k x → RequestsRise j.daemon k.daemon
  landed_rise c None k x at = absurd (cc)
  landed_rise c (Some p) k x at =
      let l = landed_is j k c (Some p) x at in
      let same : after_landing c p j ≡ k = ap (λ q. after_landing c q j) (payload_is p l.0 l.1) ∙ l.2 in
      subst (λ (i : Joint). RequestsRise j.daemon i.daemon) same
      (stands j.daemon (daemon_after_payload (Some p) (daemon_without_doubt true c j.daemon))
      (paid j.daemon (Some p) (daemon_without_doubt true c j.daemon) (settled j.daemon true c j.daemon (open_before j.daemon))))

  side_landed : (h : GroupId) (o : Option Side) (k : Joint) (x : Answer) → landing_outcome_in j h o ≡ Stepped k x → RequestsRise j.daemon k.daemon
  side_landed h None k x at = absurd (cc)
  side_landed h (Some s) k x at = landed_rise (component.Group h) (option_map (λ r. payload.Group h r) s.group.doubt) k x at

  pub requests_rise : (e : Event) (k : Joint) (x : Answer) → GoesOn e → step j w e ≡ Stepped k x → RequestsRise j.daemon k.daemon
  requests_rise (event.Call c) k x on at =
      let p = plan_of j c in
      let n = needs_of j w c in
      let o = outcome_is (illegal_call p n) (after_call w (prepared_plan p) j) k (prepared_plan p).answer x at in
      subst (λ (i : Joint). RequestsRise j.daemon i.daemon) o.1
      (called (prepared_plan p) j.daemon (makes_new c (all_hold (guards_of (refusal_of p) p n) o.0)))
  requests_rise (event.Fault c healed checkpointed) k x on at =
      let p = plan_of j c in
      let n = needs_of j w c in
      let far = healed && checkpointed in
      let o = outcome_is (illegal_fault p n) (after_fault w (prepared_plan p) far j) k _ x at in
      subst (λ (i : Joint). RequestsRise j.daemon i.daemon) o.1 (failed (prepared_plan p) far j.daemon)
  requests_rise (event.Landed component.Daemon) k x on at =
      landed_rise component.Daemon (option_map (λ r. payload.Daemon r) j.daemon.doubt) k x at
  requests_rise (event.Landed (component.Group h)) k x on at = side_landed h (map.get j.sides h.0) k x at
  requests_rise (event.Look c) k x on at =
      subst (λ (i : Joint). RequestsRise j.daemon i.daemon) (look_is j k c x at) (stands j.daemon j.daemon (open_before j.daemon))
  requests_rise event.Stop k x on at = absurd on
