-- No event changes which groups are configured.
use Rattle.std.proofs.Common.{◌≡◌, ℕ, Bool, true, cond, ◌&&◌, Option, None, Some, is_some, List, [], ◌∷◌, refl, sym, ap, ◌∙◌}
use Rattle.std.specs.FinMap as fin
use Rattle.std.specs.Option.{option_map}
use Rattle.dm_base.specs.declared.identifier.GroupId.{GroupId}
use Rattle.dm_tables.specs.Rows.{adjust}
use Rattle.dm_tables.proofs.Adjusted.{get-mapped}
use Rattle.dm_tables.proofs.Orders.{numbers}
use Rattle.dm_durable.specs.Tables.{ByNumber}
use Rattle.dm_model.specs.declared.answer.Answer.{Answer}
use Rattle.dm_model.specs.declared.answer.Answer.TheVariants as answer
use Rattle.dm_model.specs.declared.call.Component.{Component}
use Rattle.dm_model.specs.declared.call.Component.TheVariants as component
use Rattle.dm_model.specs.declared.call.Event.{Event}
use Rattle.dm_model.specs.declared.call.Event.TheVariants as event
use Rattle.dm_model.specs.declared.entry.HistoryEntry.{HistoryEntry}
use Rattle.dm_model.specs.declared.guard.Guard.{Guard}
use Rattle.dm_model.specs.declared.plan.Payload.{Payload}
use Rattle.dm_model.specs.declared.plan.Prepared.{Prepared}
use Rattle.dm_model.specs.declared.state.Joint.{Joint}
use Rattle.dm_model.specs.declared.state.Side.{Side as SideState}
use Rattle.dm_model.specs.Effects.{after_ending, after_failed_mark, after_healing, after_mark, after_payload, at_each, groups_of_component, groups_of_ending, groups_of_mark, groups_of_opening, groups_of_payload}
use Rattle.dm_model.specs.Plan.{illegal_call, illegal_fault, prepared_plan}
use Rattle.dm_model.specs.SideShare.{side_after_ending, side_after_failed_mark, side_after_mark, side_after_opening, side_after_payload, side_after_stop, side_doubting, side_without_doubt}
use Rattle.dm_model.specs.Step.{after_call, after_fault, daemon_doubt, group_doubt, doubt_outcome, landing_outcome_in, look_outcome_in, needs_of, outcome_of, plan_of, state_after, step}
use Rattle.dm_history.specs.Alike.{SameGroups}
use Rattle.dm_history.specs.History.{joint_after, state_seen}
use Rattle.dm_history.proofs.PartsGo.{keys_stay}

each_keys : (f : SideState → SideState) (gs : List GroupId) (m : ByNumber SideState) (q : ℕ) → is_some (fin.get (at_each f gs m) q) ≡ is_some (fin.get m q)
each_keys f [] m q = refl
each_keys f (g ∷ gs) m q = each_keys f gs (adjust m g.0 f) q ∙ keys_stay numbers m g.0 q f

call_groups : (w : ℕ) (p : Prepared) (j : Joint) → SameGroups j (after_call w p j)
call_groups w p j q =
    let j1 = after_ending w p.ends j in
    let j2 = after_healing p.heals p.component j1 in
    let j3 = after_payload p.payload j2 in
    let j4 = after_mark w p.mark j3 in
    sym
    (each_keys (side_after_opening p.opens) (groups_of_opening p.opens) j4.sides q
    ∙ (each_keys (side_after_mark p.mark) (groups_of_mark p.mark) j3.sides q
    ∙ (each_keys (side_after_payload p.payload) (groups_of_payload p.payload) j2.sides q
    ∙ (each_keys (side_without_doubt p.heals) (cond p.heals (groups_of_component p.component) []) j1.sides q
    ∙ each_keys (side_after_ending p.ends) (groups_of_ending p.ends) j.sides q))))

fault_groups : (w : ℕ) (p : Prepared) (far : Bool) (j : Joint) → SameGroups j (after_fault w p far j)
fault_groups w p far j q =
    let j1 = after_ending w p.ends j in
    let j2 = after_failed_mark p.mark j1 in
    let doubted = cond far p.payload None in
    sym
    (each_keys (side_doubting doubted) (groups_of_payload doubted) j2.sides q
    ∙ (each_keys (side_after_failed_mark p.mark) (groups_of_mark p.mark) j1.sides q
    ∙ each_keys (side_after_ending p.ends) (groups_of_ending p.ends) j.sides q))

outcome_groups : (g : Option Guard) (j after : Joint) (a : Answer) → SameGroups j after → SameGroups j (state_after j (outcome_of g after a))
outcome_groups None j after a same q = same q
outcome_groups (Some g) j after a same q = refl

landing_groups : (j : Joint) (c : Component) (o : Option Payload) → SameGroups j (state_after j (doubt_outcome j c o))
landing_groups j c None q = refl
landing_groups j c (Some p) q =
    let healed = after_healing true c j in
    sym (each_keys (side_after_payload (Some p)) (groups_of_payload (Some p)) healed.sides q ∙ each_keys (side_without_doubt true) (groups_of_component c) j.sides q)

landed_groups : (j : Joint) (g : GroupId) (o : Option SideState) → SameGroups j (state_after j (landing_outcome_in j g o))
landed_groups j g None q = refl
landed_groups j g (Some s) q = landing_groups j (component.Group g) (group_doubt g s) q

looked_groups : (j : Joint) (o : Option SideState) → SameGroups j (state_after j (look_outcome_in j o))
looked_groups j None q = refl
looked_groups j (Some s) q = refl

mapped_there : (f : SideState → SideState) (o : Option SideState) → is_some o ≡ is_some (option_map f o)
mapped_there f None = refl
mapped_there f (Some s) = refl

event_groups : (j : Joint) (w : ℕ) (e : Event) → SameGroups j (state_after j (step j w e))
event_groups j w (event.Call c) q =
    outcome_groups (illegal_call (plan_of j c) (needs_of j w c)) j (after_call w (prepared_plan (plan_of j c)) j) (prepared_plan (plan_of j c)).answer
    (call_groups w (prepared_plan (plan_of j c)) j) q
event_groups j w (event.Fault c healed checkpointed) q =
    outcome_groups (illegal_fault (plan_of j c) (needs_of j w c)) j (after_fault w (prepared_plan (plan_of j c)) (healed && checkpointed) j) answer.Failed
    (fault_groups w (prepared_plan (plan_of j c)) (healed && checkpointed) j) q
event_groups j w (event.Landed component.Daemon) q = landing_groups j component.Daemon (daemon_doubt j) q
event_groups j w (event.Landed (component.Group g)) q = landed_groups j g (fin.get j.sides g.0) q
event_groups j w (event.Look component.Daemon) q = refl
event_groups j w (event.Look (component.Group g)) q = looked_groups j (fin.get j.sides g.0) q
event_groups j w event.Stop q =
    mapped_there side_after_stop (fin.get j.sides q) ∙ sym (ap (λ (o : Option SideState). is_some o) (get-mapped numbers (λ g. side_after_stop) j.sides q))

pub groups_after : (j : Joint) (xs : List (ℕ × HistoryEntry)) → SameGroups j (state_seen j xs)
groups_after j [] q = refl
groups_after j (a ∷ xs) q = event_groups j a.1.worker a.1.event q ∙ groups_after (joint_after j a.1) xs q

-- two pasts of one beginning have the same groups
pub groups_seen : (j : Joint) (xs ys : List (ℕ × HistoryEntry)) → SameGroups (state_seen j xs) (state_seen j ys)
groups_seen j xs ys q = sym (groups_after j xs q) ∙ groups_after j ys q
