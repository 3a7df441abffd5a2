-- The joint machine: what an event does, and legal runs.
use Rattle.std.specs.Prelude.{◌≡◌, ℕ, Bool, true, cond, ◌&&◌, Option, None, Some, List, [], ◌∷◌}
use Rattle.std.specs.Option.{option_map}
use Rattle.std.specs.FinMap as map
use Rattle.dm_base.specs.declared.identifier.GroupId.{GroupId}
use Rattle.dm_base.specs.declared.serial.Vsn.{Vsn}
use Rattle.dm_model.specs.declared.answer.Answer.{Answer}
use Rattle.dm_model.specs.declared.answer.Answer.TheVariants as answer
use Rattle.dm_model.specs.declared.call.Call.{Call}
use Rattle.dm_model.specs.declared.call.Call.TheVariants as call
use Rattle.dm_model.specs.declared.call.Component.{Component}
use Rattle.dm_model.specs.declared.call.Component.TheVariants as component
use Rattle.dm_model.specs.declared.call.Event.{Event}
use Rattle.dm_model.specs.declared.call.Event.TheVariants as event
use Rattle.dm_model.specs.declared.call.GroupCall.{GroupCall}
use Rattle.dm_model.specs.declared.call.VolumeCall.{VolumeCall}
use Rattle.dm_model.specs.declared.guard.Guard.{Guard}
use Rattle.dm_model.specs.declared.guard.Guard.TheVariants as guard
use Rattle.dm_model.specs.declared.plan.Payload.{Payload}
use Rattle.dm_model.specs.declared.plan.Payload.TheVariants as payload
use Rattle.dm_model.specs.declared.plan.Prepared.{Prepared}
use Rattle.dm_model.specs.declared.state.History.{History}
use Rattle.dm_model.specs.declared.state.Joint.{Joint}
use Rattle.dm_model.specs.declared.state.Side.{Side}
use Rattle.dm_model.specs.declared.state.Worker.{Worker}
use Rattle.dm_model.specs.DaemonCalls.{daemon_plan, daemon_needs}
use Rattle.dm_model.specs.DaemonShare.{daemon_after_stop}
use Rattle.dm_model.specs.Effects.{after_ending, after_failed_mark, after_healing, after_mark, after_opening, after_payload, joint_with_doubt}
use Rattle.dm_model.specs.GroupCalls.{group_plan, group_needs, no_group}
use Rattle.dm_model.specs.Plan.{Plan, Needs, illegal_call, illegal_fault, no_needs, prepared_plan}
use Rattle.dm_model.specs.SideShare.{side_after_stop}
use Rattle.dm_model.specs.VolumeCalls.{mount_in, volume_plan, volume_needs}
use Rattle.dm_tables.specs.Rows.{map_values}

-- what comes of an event: a state and an answer, or that its lowest guard that is false is this
pub data Outcome : Type 0 where
  Stepped : (after : Joint) (answer : Answer) → Outcome
  Illegal : (guard : Guard) → Outcome

-- ---- the plan of a call, and what it needs

-- those of a group that isn't configured need nothing but that it were
abbrev pub side_plan : GroupId → GroupCall → Option Side → Plan
side_plan g c None = no_group g
side_plan g c (Some s) = group_plan g s.group c

abbrev pub side_needs : Option Worker → History → GroupId → GroupCall → Option Side → Needs
side_needs w h g c None = no_needs
side_needs w h g c (Some s) = group_needs w h g s c

abbrev pub volume_plan_in : GroupId → Vsn → VolumeCall → Option Side → Plan
volume_plan_in g vsn c None = no_group g
volume_plan_in g vsn c (Some s) = volume_plan g vsn (map.get s.images vsn.0) (map.get s.mounts (mount_in c)) c

abbrev pub volume_needs_in : Vsn → VolumeCall → Option Side → Needs
volume_needs_in vsn c None = no_needs
volume_needs_in vsn c (Some s) = volume_needs vsn (map.get s.mounts (mount_in c)) c

abbrev pub plan_of : Joint → Call → Plan
plan_of j (call.Daemon c) = daemon_plan j.daemon c
plan_of j (call.Group g c) = side_plan g c (map.get j.sides g.0)
plan_of j (call.Volume g vsn c) = volume_plan_in g vsn c (map.get j.sides g.0)

abbrev pub needs_of : Joint → ℕ → Call → Needs
needs_of j w (call.Daemon c) = daemon_needs j.sides (map.get j.workers w) j.history j.daemon c
needs_of j w (call.Group g c) = side_needs (map.get j.workers w) j.history g c (map.get j.sides g.0)
needs_of j w (call.Volume g vsn c) = volume_needs_in vsn c (map.get j.sides g.0)

-- ---- calls and faults

-- the state after the call: what it spends goes, and a step in doubt, if it heals; its step is journalled, its mark is
-- left, and its tokens are made
abbrev pub after_call : ℕ → Prepared → Joint → Joint
after_call w p j =
    after_opening w p.opens
    (after_mark w p.mark (after_payload p.payload (after_healing p.heals p.component (after_ending w p.ends j))))

-- the state after a call that failed: what it spends in every answer goes, of what it would have written nothing is
-- known, and its step is in doubt, if it had come past its heal and its checkpoint; else an older doubt stays
abbrev pub after_fault : ℕ → Prepared → Bool → Joint → Joint
after_fault w p far j = joint_with_doubt (cond far p.payload None) (after_failed_mark p.mark (after_ending w p.ends j))

abbrev pub outcome_of : Option Guard → Joint → Answer → Outcome
outcome_of None after answer = Stepped after answer
outcome_of (Some guard) after answer = Illegal guard

abbrev pub call_outcome : Joint → ℕ → Plan → Needs → Outcome
call_outcome j w p n = outcome_of (illegal_call p n) (after_call w (prepared_plan p) j) (prepared_plan p).answer

abbrev pub fault_outcome : Joint → ℕ → Bool → Plan → Needs → Outcome
fault_outcome j w far p n = outcome_of (illegal_fault p n) (after_fault w (prepared_plan p) far j) answer.Failed

-- ---- steps in doubt that landed

-- the step in doubt of a component that is configured
abbrev pub group_doubt : GroupId → Side → Option Payload
group_doubt g s = option_map (λ r. payload.Group g r) s.group.doubt

abbrev pub daemon_doubt : Joint → Option Payload
daemon_doubt j = option_map (λ r. payload.Daemon r) j.daemon.doubt

-- a step that landed does what it would have done, and isn't in doubt any more
abbrev pub after_landing : Component → Payload → Joint → Joint
after_landing c p j = after_payload (Some p) (after_healing true c j)

abbrev pub doubt_outcome : Joint → Component → Option Payload → Outcome
doubt_outcome j c None = Illegal guard.InDoubt
doubt_outcome j c (Some p) = Stepped (after_landing c p j) answer.Landed

abbrev pub landing_outcome_in : Joint → GroupId → Option Side → Outcome
landing_outcome_in j g None = Illegal guard.Configured
landing_outcome_in j g (Some s) = doubt_outcome j (component.Group g) (group_doubt g s)

abbrev pub landing_outcome : Joint → Component → Outcome
landing_outcome j component.Daemon = doubt_outcome j component.Daemon (daemon_doubt j)
landing_outcome j (component.Group g) = landing_outcome_in j g (map.get j.sides g.0)

-- ---- looks and stops

abbrev pub look_outcome_in : Joint → Option Side → Outcome
look_outcome_in j None = Illegal guard.Configured
look_outcome_in j (Some s) = Stepped j answer.Looked

-- a look changes nothing, and leaves a step in doubt
abbrev pub look_outcome : Joint → Component → Outcome
look_outcome j component.Daemon = Stepped j answer.Looked
look_outcome j (component.Group g) = look_outcome_in j (map.get j.sides g.0)

-- the end of the program: all that is not durable goes, and steps in doubt with it; one that landed did so before. What was
-- done stays done
abbrev pub after_stop : Joint → Joint
after_stop j = record {
  daemon = daemon_after_stop j.daemon;
  sides = map_values (λ g. side_after_stop) j.sides;
  workers = map.empty;
  history = j.history;
}

-- ---- events and runs

abbrev pub step : Joint → ℕ → Event → Outcome
step j w (event.Call c) = call_outcome j w (plan_of j c) (needs_of j w c)
step j w (event.Fault c healed checkpointed) = fault_outcome j w (healed && checkpointed) (plan_of j c) (needs_of j w c)
step j w (event.Landed c) = landing_outcome j c
step j w (event.Look c) = look_outcome j c
step j w event.Stop = Stepped (after_stop j) answer.Stopped

-- an entry of a run: its worker, its event and the answer
pub record RunEntry : Type 0 where
  pub worker : ℕ
  pub event : Event
  pub answer : Answer

-- the entries are a legal run from one state to another: each event is legal, and each answer is the machine's
abbrev pub Run : Joint → List RunEntry → Joint → Type 0
Run j [] k = j ≡ k
Run j (e ∷ es) k = (mid : Joint) × (step j e.worker e.event ≡ Stepped mid e.answer) × Run mid es k

-- the state after an event; an illegal one changes nothing
abbrev pub state_after : Joint → Outcome → Joint
state_after j (Stepped k a) = k
state_after j (Illegal guard) = j
