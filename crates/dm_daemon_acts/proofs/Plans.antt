-- What a plan does, by what becomes of its step.
use Rattle.std.proofs.Common.{◌≡◌, Bool, true, false, Option, None, Some, refl, sym, ap, ◌∙◌}
use Rattle.dm_daemon_acts.specs.Acts.{DoesPlan, IsAnswer, IsFault, IsNoMemory}
use Rattle.dm_durable.specs.declared.daemon.DaemonRecord.{DaemonRecord}
use Rattle.dm_model.specs.declared.answer.Answer.{Answer}
use Rattle.dm_model.specs.declared.call.Component.{Component}
use Rattle.dm_model.specs.declared.call.Component.TheVariants as component
use Rattle.dm_model.specs.declared.plan.Ending.{Ending}
use Rattle.dm_model.specs.declared.plan.Ending.TheVariants as ending
use Rattle.dm_model.specs.declared.plan.Opening.{Opening}
use Rattle.dm_model.specs.declared.plan.Opening.TheVariants as opening
use Rattle.dm_model.specs.declared.plan.Payload.{Payload}
use Rattle.dm_model.specs.declared.plan.Payload.TheVariants as payload
use Rattle.dm_model.specs.declared.state.Daemon.{Daemon}
use Rattle.dm_model.specs.DaemonShare.{daemon_after_ending, daemon_after_opening, daemon_after_payload, daemon_after_record, daemon_doubting, daemon_with_doubt, daemon_without_doubt}
use Rattle.dm_model.specs.Plan.{Plan, answer_of, if_accepted, refusal_of}

-- the parts of a plan, one by one
abbrev after_parts : Component → Bool → Ending → Option Payload → Opening → Daemon → Daemon
after_parts c heals ends pays opens d =
    daemon_after_opening opens (daemon_after_payload pays (daemon_without_doubt heals c (daemon_after_ending ends d)))

-- a plan of the daemon that makes nothing
pub record IsStepping (p : Plan) : Type 0 where
  pub component : p.component ≡ component.Daemon
  pub opens : p.opens ≡ opening.Nothing

without_doubt : (heals : Bool) (d : Daemon) → d.doubt ≡ None → d ≡ daemon_without_doubt heals component.Daemon d
without_doubt true d sure = λ i. record { cap = d.cap; tables = d.tables; requests = d.requests; next_request = d.next_request; doubt = sure i }
without_doubt false d sure = refl

ending_doubt : (e : Ending) (d : Daemon) → (daemon_after_ending e d).doubt ≡ d.doubt
ending_doubt ending.Nothing d = refl
ending_doubt (ending.Put k b groups) d = refl
ending_doubt (ending.Recall k) d = refl
ending_doubt (ending.Reservation g n b) d = refl
ending_doubt (ending.Mount g m) d = refl
ending_doubt (ending.Move g job source target) d = refl

-- a refusal changes nothing but what is spent
pub does_refused : (p : Plan) (d : Daemon) (a : Answer) → p.component ≡ component.Daemon → d.doubt ≡ None → refusal_of p ≡ Some a
    → DoesPlan p d (daemon_after_ending p.ends d) (IsAnswer a)
does_refused p d a of sure refused = (
  sym (ap (λ o. answer_of o p.answer) refused),
  without_doubt p.heals (daemon_after_ending p.ends d) (ending_doubt p.ends d ∙ sure)
      ∙ (λ i. after_parts (sym of i) p.heals p.ends (if_accepted (sym refused i) None p.payload) (if_accepted (sym refused i) opening.Nothing p.opens) d),
)

-- a step that was done
pub does_done : (p : Plan) (d new : Daemon) (r : DaemonRecord) → IsStepping p → d.doubt ≡ None → refusal_of p ≡ None
    → p.payload ≡ Some (payload.Daemon r) → new ≡ daemon_after_record r (daemon_after_ending p.ends d)
    → DoesPlan p d new (IsAnswer p.answer)
does_done p d new r of sure accepted pays done = (
  sym (ap (λ o. answer_of o p.answer) accepted),
  done ∙ ap (daemon_after_record r) (without_doubt p.heals (daemon_after_ending p.ends d) (ending_doubt p.ends d ∙ sure))
      ∙ (λ i. after_parts (sym of.component i) p.heals p.ends (sym pays i) (sym of.opens i) d)
      ∙ (λ i. after_parts p.component p.heals p.ends (if_accepted (sym accepted i) None p.payload) (if_accepted (sym accepted i) opening.Nothing p.opens) d),
)

-- one that is in doubt
pub does_doubt : (p : Plan) (d new : Daemon) (r : DaemonRecord) → refusal_of p ≡ None → p.payload ≡ Some (payload.Daemon r)
    → new ≡ daemon_with_doubt (Some r) (daemon_after_ending p.ends d) → DoesPlan p d new IsFault
does_doubt p d new r accepted pays doubt =
    doubt ∙ (λ i. daemon_doubting (sym pays i) (daemon_after_ending p.ends d))
    ∙ (λ i. daemon_doubting (if_accepted (sym accepted i) None p.payload) (daemon_after_ending p.ends d))

-- a call that is accepted and changes nothing but what is spent
pub does_asked : (p : Plan) (d : Daemon) → IsStepping p → d.doubt ≡ None → refusal_of p ≡ None → p.payload ≡ None
    → DoesPlan p d (daemon_after_ending p.ends d) (IsAnswer p.answer)
does_asked p d of sure accepted pays = (
  sym (ap (λ o. answer_of o p.answer) accepted),
  without_doubt p.heals (daemon_after_ending p.ends d) (ending_doubt p.ends d ∙ sure)
      ∙ (λ i. after_parts (sym of.component i) p.heals p.ends (sym pays i) (sym of.opens i) d)
      ∙ (λ i. after_parts p.component p.heals p.ends (if_accepted (sym accepted i) None p.payload) (if_accepted (sym accepted i) opening.Nothing p.opens) d),
)

-- want of memory leaves what was spent
pub does_lack : (p : Plan) (d new : Daemon) → new ≡ daemon_after_ending p.ends d → DoesPlan p d new IsNoMemory
does_lack p d new is = is
