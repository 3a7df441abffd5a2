-- No event but the daemon's own call, answered or failed, makes a copy a stored one, or leaves it in doubt whether it is.
use Rattle.std.proofs.Common.{◌≡◌, ℕ, Bool, true, false, cond, ◌&&◌, Option, None, Some, option_map, ap, subst, ◌∙◌}
use Rattle.std.specs.FinMap as map
use Rattle.dm_base.specs.declared.identifier.GroupId.{GroupId}
use Rattle.dm_durable.specs.declared.daemon.DaemonRecord.{DaemonRecord}
use Rattle.dm_durable.specs.declared.daemon.DaemonStep.TheVariants.{Restart}
use Rattle.dm_durable.specs.declared.daemon.DaemonTables.{DaemonTables}
use Rattle.dm_durable.specs.declared.group.GroupRecord.{GroupRecord}
use Rattle.dm_durable.specs.Daemon.{after_record}
use Rattle.dm_durable.specs.Inodes.{has_making}
use Rattle.dm_model.specs.declared.answer.Answer.{Answer}
use Rattle.dm_model.specs.declared.call.Call.{Call}
use Rattle.dm_model.specs.declared.call.Call.TheVariants as call
use Rattle.dm_model.specs.declared.call.Component.{Component}
use Rattle.dm_model.specs.declared.call.Component.TheVariants as component
use Rattle.dm_model.specs.declared.call.Event.{Event}
use Rattle.dm_model.specs.declared.call.Event.TheVariants as event
use Rattle.dm_model.specs.declared.plan.Ending.{Ending}
use Rattle.dm_model.specs.declared.plan.Ending.TheVariants as ending
use Rattle.dm_model.specs.declared.plan.Opening.{Opening}
use Rattle.dm_model.specs.declared.plan.Opening.TheVariants as opening
use Rattle.dm_model.specs.declared.plan.Payload.{Payload}
use Rattle.dm_model.specs.declared.plan.Payload.TheVariants as payload
use Rattle.dm_model.specs.declared.plan.Prepared.{Prepared}
use Rattle.dm_model.specs.declared.state.Daemon.{Daemon}
use Rattle.dm_model.specs.declared.state.Joint.{Joint}
use Rattle.dm_model.specs.declared.state.Side.{Side}
use Rattle.dm_model.specs.DaemonShare.{daemon_after_call, daemon_after_ending, daemon_after_fault, daemon_after_opening, daemon_after_payload, daemon_doubting, daemon_without_doubt}
use Rattle.dm_model.specs.Plan.{illegal_call, illegal_fault, prepared_plan}
use Rattle.dm_model.specs.Step.{Stepped, after_call, after_fault, after_landing, after_stop, doubt_outcome, landing_outcome_in, needs_of, plan_of, step}
use Rattle.dm_model.proofs.Shares.{PaysOf}
use Rattle.dm_shown.proofs.EventsShown.{landed_is, look_is, outcome_is, payload_is, side_pays, volume_pays}
use Rattle.dm_lasting.specs.Comes.{DoubtStores, NotStored, SaysStored, StoredBy, Unstored}
use Rattle.dm_lasting.proofs.Planned.{Stores, says_stored}
use Rattle.dm_lasting.proofs.StoredBy.{unstored_after}

module _ (b g : ℕ) where
  -- ---- the parts of a plan, and what they do to the daemon

  ended : (e : Ending) (d : Daemon) → Unstored d b g → Unstored (daemon_after_ending e d) b g
  ended ending.Nothing d u = u
  ended (ending.Put k c groups) d u = record { rows = u.rows; doubt = u.doubt }
  ended (ending.Recall k) d u = record { rows = u.rows; doubt = u.doubt }
  ended (ending.Reservation h n c) d u = u
  ended (ending.Mount h m) d u = u
  ended (ending.Move h job source target) d u = u

  settled : (heals : Bool) (c : Component) (d : Daemon) → Unstored d b g → Unstored (daemon_without_doubt heals c d) b g
  settled true component.Daemon d u = record { rows = u.rows; doubt = λ stores. stores }
  settled false component.Daemon d u = u
  settled heals (component.Group h) d u = u

  after_row : (d : Daemon) (r : DaemonRecord) → (DoubtStores b g (Some r) → ⊥) → NotStored d.tables.entries b g
      → NotStored (after_record d.tables r).entries b g
  after_row d r other each = unstored_after b g (record d.tables { time = r.time }) each r.step other

  paid : (o : Option Payload) (d : Daemon) → (Stores b g o → ⊥) → Unstored d b g → Unstored (daemon_after_payload o d) b g
  paid None d other u = u
  paid (Some (payload.Daemon r)) d other u = record { rows = after_row d r other u.rows; doubt = u.doubt }
  paid (Some (payload.Group h r)) d other u = u

  opened : (o : Opening) (d : Daemon) → Unstored d b g → Unstored (daemon_after_opening o d) b g
  opened opening.Nothing d u = u
  opened (opening.Put k r len groups) d u = record { rows = u.rows; doubt = u.doubt }
  opened (opening.Recall k r recall) d u = record { rows = u.rows; doubt = u.doubt }
  opened (opening.Reservation h n r) d u = u
  opened (opening.Mount h m vsn epoch made) d u = u
  opened (opening.Move h job x source_epoch target_epoch) d u = u
  opened (opening.Reuse h m epoch x reading) d u = u

  doubted : (o : Option Payload) (d : Daemon) → (Stores b g o → ⊥) → Unstored d b g → Unstored (daemon_doubting o d) b g
  doubted None d other u = u
  doubted (Some (payload.Daemon r)) d other u = record { rows = u.rows; doubt = other }
  doubted (Some (payload.Group h r)) d other u = u

  as_far : (far : Bool) (o : Option Payload) → (Stores b g o → ⊥) → Stores b g (cond far o None) → ⊥
  as_far true o other stores = other stores
  as_far false o other stores = stores

  called : (p : Prepared) (d : Daemon) → (Stores b g p.payload → ⊥) → Unstored d b g → Unstored (daemon_after_call p d) b g
  called p d other u =
      let spent = daemon_after_ending p.ends d in
      let healed = daemon_without_doubt p.heals p.component spent in
      opened p.opens (daemon_after_payload p.payload healed)
      (paid p.payload healed other (settled p.heals p.component spent (ended p.ends d u)))

  failed : (p : Prepared) (far : Bool) (d : Daemon) → (Stores b g p.payload → ⊥) → Unstored d b g → Unstored (daemon_after_fault p far d) b g
  failed p far d other u = doubted (cond far p.payload None) (daemon_after_ending p.ends d) (as_far far p.payload other) (ended p.ends d u)

  -- what a group journals says nothing of it
  no_group : (h : GroupId) (o : Option Payload) → PaysOf h o → Stores b g o → ⊥
  no_group h None of stores = stores
  no_group h (Some (payload.Daemon r)) of stores = of
  no_group h (Some (payload.Group i r)) of stores = stores

  stopped_if : (t : DaemonTables) (making : Bool) → NotStored t.entries b g
      → NotStored (cond making (after_record t (record { time = t.time; step = Restart })) t).entries b g
  stopped_if t true each = unstored_after b g (record t { time = t.time }) each Restart (λ stores. stores)
  stopped_if t false each = each

  module _ (j : Joint) (w : ℕ) (u : Unstored j.daemon b g) where
    other_call : (c : Call) → (SaysStored j.daemon b g c → ⊥) → Stores b g (prepared_plan (plan_of j c)).payload → ⊥
    other_call (call.Daemon c) other stores = other (says_stored b g j.daemon c stores)
    other_call (call.Group h c) other stores =
        no_group h (prepared_plan (plan_of j (call.Group h c))).payload (side_pays h c (map.get j.sides h.0)) stores
    other_call (call.Volume h vsn c) other stores =
        no_group h (prepared_plan (plan_of j (call.Volume h vsn c))).payload (volume_pays h vsn c (map.get j.sides h.0)) stores

    called_event : (c : Call) (k : Joint) (x : Answer) → (SaysStored j.daemon b g c → ⊥) → step j w (event.Call c) ≡ Stepped k x → Unstored k.daemon b g
    called_event c k x other at =
        let p = plan_of j c in
        let n = needs_of j w c in
        let o = outcome_is (illegal_call p n) (after_call w (prepared_plan p) j) k (prepared_plan p).answer x at in
        subst (λ (i : Joint). Unstored i.daemon b g) o.1 (called (prepared_plan p) j.daemon (other_call c other) u)

    failed_event : (c : Call) (healed checkpointed : Bool) (k : Joint) (x : Answer) → (SaysStored j.daemon b g c → ⊥)
        → step j w (event.Fault c healed checkpointed) ≡ Stepped k x → Unstored k.daemon b g
    failed_event c healed checkpointed k x other at =
        let p = plan_of j c in
        let n = needs_of j w c in
        let far = healed && checkpointed in
        let o = outcome_is (illegal_fault p n) (after_fault w (prepared_plan p) far j) k _ x at in
        subst (λ (i : Joint). Unstored i.daemon b g) o.1 (failed (prepared_plan p) far j.daemon (other_call c other) u)

    landed_event : (c : Component) (o : Option Payload) (k : Joint) (x : Answer) → (Stores b g o → ⊥) → doubt_outcome j c o ≡ Stepped k x
        → Unstored k.daemon b g
    landed_event c None k x other at = absurd (cc)
    landed_event c (Some p) k x other at =
        let l = landed_is j k c (Some p) x at in
        let same : after_landing c p j ≡ k = ap (λ q. after_landing c q j) (payload_is p l.0 l.1) ∙ l.2 in
        subst (λ (i : Joint). Unstored i.daemon b g) same
        (paid (Some p) (daemon_without_doubt true c j.daemon) other (settled true c j.daemon u))

    doubt_other : (o : Option DaemonRecord) → (DoubtStores b g o → ⊥) → Stores b g (option_map (λ r. payload.Daemon r) o) → ⊥
    doubt_other None other stores = stores
    doubt_other (Some r) other stores = other stores

    group_other : (h : GroupId) (o : Option GroupRecord) → Stores b g (option_map (λ r. payload.Group h r) o) → ⊥
    group_other h None stores = stores
    group_other h (Some r) stores = stores

    side_landed : (h : GroupId) (o : Option Side) (k : Joint) (x : Answer) → landing_outcome_in j h o ≡ Stepped k x → Unstored k.daemon b g
    side_landed h None k x at = absurd (cc)
    side_landed h (Some s) k x at =
        landed_event (component.Group h) (option_map (λ r. payload.Group h r) s.group.doubt) k x (group_other h s.group.doubt) at

    pub stays_unstored : (e : Event) (k : Joint) (x : Answer) → (StoredBy j.daemon b g e → ⊥) → step j w e ≡ Stepped k x → Unstored k.daemon b g
    stays_unstored (event.Call c) k x other at = called_event c k x other at
    stays_unstored (event.Fault c healed checkpointed) k x other at = failed_event c healed checkpointed k x other at
    stays_unstored (event.Landed component.Daemon) k x other at =
        landed_event component.Daemon (option_map (λ r. payload.Daemon r) j.daemon.doubt) k x (doubt_other j.daemon.doubt u.doubt) at
    stays_unstored (event.Landed (component.Group h)) k x other at = side_landed h (map.get j.sides h.0) k x at
    stays_unstored (event.Look c) k x other at = subst (λ (i : Joint). Unstored i.daemon b g) (look_is j k c x at) u
    stays_unstored event.Stop k x other at =
        let same : after_stop j ≡ k = cc in
        subst (λ (i : Joint). Unstored i.daemon b g) same
        (record { rows = stopped_if j.daemon.tables (has_making j.daemon.tables.inodes) u.rows; doubt = λ stores. stores })
