-- Each volume of the configuration keeps an image of its size, whatever happens.
use Rattle.std.specs.List.{AllByRecursion}
use Rattle.std.proofs.Common.{◌≡◌, ℕ, Bool, true, cond, ◌&&◌, Option, None, Some, List, [], ◌∷◌, sym, subst, ◌∙◌}
use Rattle.std.specs.FinMap as map
use Rattle.dm_base.specs.declared.identifier.GroupId.{GroupId}
use Rattle.dm_tables.specs.Rows.{EachRow}
use Rattle.dm_tables.proofs.Adjusted.{each-map}
use Rattle.dm_tables.proofs.Orders.{numbers}
use Rattle.dm_durable.specs.Tables.{ByNumber}
use Rattle.dm_model.specs.declared.answer.Answer.{Answer}
use Rattle.dm_model.specs.declared.call.Component.{Component}
use Rattle.dm_model.specs.declared.call.Component.TheVariants as component
use Rattle.dm_model.specs.declared.call.Event.{Event}
use Rattle.dm_model.specs.declared.call.Event.TheVariants as event
use Rattle.dm_model.specs.declared.guard.Guard.{Guard}
use Rattle.dm_model.specs.declared.plan.Payload.{Payload}
use Rattle.dm_model.specs.declared.plan.Prepared.{Prepared}
use Rattle.dm_model.specs.declared.state.Joint.{Joint}
use Rattle.dm_model.specs.declared.state.Side.{Side}
use Rattle.dm_model.specs.Effects.{at_each, groups_of_component, groups_of_ending, groups_of_mark, groups_of_opening, groups_of_payload}
use Rattle.dm_model.specs.Plan.{illegal_call, illegal_fault, prepared_plan}
use Rattle.dm_model.specs.SideShare.{side_after_ending, side_after_failed_mark, side_after_mark, side_after_opening, side_after_payload, side_after_stop, side_doubting, side_without_doubt}
use Rattle.dm_model.specs.Step.{RunEntry, Run, Stepped, after_call, after_fault, after_landing, after_stop, daemon_doubt, group_doubt, doubt_outcome, landing_outcome_in, look_outcome_in, needs_of, outcome_of, plan_of, step}
use Rattle.dm_invariant.specs.Kept.{InvariantHolds}
use Rattle.dm_invariant.specs.Opened.{Opened}
use Rattle.dm_effects.proofs.PutEnded.{each_at_each}
use Rattle.dm_runs.specs.Images.{ImagesThere, VolumesImaged}
use Rattle.dm_runs.proofs.ImagesStay.{SideImaged, ending_fits, failed_mark_fits, healing_fits, mark_fits, opening_fits, payload_fits, stop_fits, doubting_fits}
use Rattle.dm_runs.proofs.Runs.{EachKeeps, along_all, run_keeps}

-- the images of groups that are changed
abbrev Each : ByNumber Side → Type 0
Each sides = EachRow sides (λ g s. SideImaged s)

at_groups : (f : Side → Side) (gs : List GroupId) (sides : ByNumber Side) → ((s : Side) → SideImaged s → SideImaged (f s)) → Each sides
    → Each (at_each f gs sides)
at_groups f gs sides keeps each = each_at_each (λ g s. SideImaged s) f gs sides (λ g s fits. keeps s fits) each

ended : (w : ℕ) (p : Prepared) (j : Joint) → ImagesThere j → Each (at_each (side_after_ending p.ends) (groups_of_ending p.ends) j.sides)
ended w p j there = at_groups (side_after_ending p.ends) (groups_of_ending p.ends) j.sides (ending_fits p.ends) there

call_images : (w : ℕ) (p : Prepared) (j : Joint) → ImagesThere j → ImagesThere (after_call w p j)
call_images w p j there =
    at_groups (side_after_opening p.opens) (groups_of_opening p.opens) _ (opening_fits p.opens)
    (at_groups (side_after_mark p.mark) (groups_of_mark p.mark) _ (mark_fits p.mark)
    (at_groups (side_after_payload p.payload) (groups_of_payload p.payload) _ (payload_fits p.payload)
    (at_groups (side_without_doubt p.heals) (cond p.heals (groups_of_component p.component) []) _ (healing_fits p.heals) (ended w p j there))))

fault_images : (w : ℕ) (p : Prepared) (far : Bool) (j : Joint) → ImagesThere j → ImagesThere (after_fault w p far j)
fault_images w p far j there =
    at_groups (side_doubting (cond far p.payload None)) (groups_of_payload (cond far p.payload None)) _ (doubting_fits (cond far p.payload None))
    (at_groups (side_after_failed_mark p.mark) (groups_of_mark p.mark) _ (failed_mark_fits p.mark) (ended w p j there))

landing_images : (c : Component) (p : Payload) (j : Joint) → ImagesThere j → ImagesThere (after_landing c p j)
landing_images c p j there =
    at_groups (side_after_payload (Some p)) (groups_of_payload (Some p)) _ (payload_fits (Some p))
    (at_groups (side_without_doubt true) (groups_of_component c) _ (healing_fits true) there)

-- ---- events

-- what holds of the state that an answered event comes to
outcome_is : (o : Option Guard) (after k : Joint) (b a : Answer) → outcome_of o after b ≡ Stepped k a → ImagesThere after → ImagesThere k
outcome_is None after k b a is there = let same : after ≡ k = cc in subst ImagesThere same there
outcome_is (Some guard) after k b a is there = absurd (cc)

landed_is : (j k : Joint) (c : Component) (o : Option Payload) (a : Answer) → doubt_outcome j c o ≡ Stepped k a → ImagesThere j → ImagesThere k
landed_is j k c None a is there = absurd (cc)
landed_is j k c (Some p) a is there = let same : after_landing c p j ≡ k = cc in subst ImagesThere same (landing_images c p j there)

landed_group : (j k : Joint) (g : GroupId) (o : Option Side) (a : Answer) → landing_outcome_in j g o ≡ Stepped k a → ImagesThere j → ImagesThere k
landed_group j k g None a is there = absurd (cc)
landed_group j k g (Some s) a is there = landed_is j k (component.Group g) (group_doubt g s) a is there

looked_group : (j k : Joint) (o : Option Side) (a : Answer) → look_outcome_in j o ≡ Stepped k a → ImagesThere j → ImagesThere k
looked_group j k None a is there = absurd (cc)
looked_group j k (Some s) a is there = let same : j ≡ k = cc in subst ImagesThere same there

stop_images : (j k : Joint) (w : ℕ) (a : Answer) → step j w event.Stop ≡ Stepped k a → ImagesThere j → ImagesThere k
stop_images j k w a is there =
    let same : after_stop j ≡ k = cc in
    subst ImagesThere same (each-map numbers (λ g s. SideImaged s) (λ g. side_after_stop) j.sides (λ g s at. stop_fits s (there g s at)))

abbrev Any : Event → Type 0
Any e = Unit {0}

pub event_images : EachKeeps (λ j e. Unit {0}) ImagesThere
event_images j k w (event.Call c) a any there is =
    let p = plan_of j c in
    outcome_is (illegal_call p (needs_of j w c)) (after_call w (prepared_plan p) j) k (prepared_plan p).answer a is (call_images w (prepared_plan p) j there)
event_images j k w (event.Fault c healed checkpointed) a any there is =
    let p = plan_of j c in
    outcome_is (illegal_fault p (needs_of j w c)) (after_fault w (prepared_plan p) (healed && checkpointed) j) k _ a is
    (fault_images w (prepared_plan p) (healed && checkpointed) j there)
event_images j k w (event.Landed component.Daemon) a any there is = landed_is j k component.Daemon (daemon_doubt j) a is there
event_images j k w (event.Landed (component.Group g)) a any there is = landed_group j k g (map.get j.sides g.0) a is there
event_images j k w (event.Look component.Daemon) a any there is = let same : j ≡ k = cc in subst ImagesThere same there
event_images j k w (event.Look (component.Group g)) a any there is = looked_group j k (map.get j.sides g.0) a is there
event_images j k w event.Stop a any there is = stop_images j k w a is there

-- ---- runs

all_any : (entries : List RunEntry) → AllByRecursion (λ e. Unit {0}) entries
all_any [] = tt
all_any (e ∷ es) = (tt, all_any es)

pub opened_images : (j : Joint) → Opened j → ImagesThere j
opened_images j opened = λ g s is. (opened.sides g s is).images

pub run_images : (j : Joint) (entries : List RunEntry) (k : Joint) → Opened j → Run j entries k → ImagesThere k
run_images j entries k opened run =
    run_keeps (λ i e. Unit {0}) ImagesThere event_images j entries k (along_all (λ e. Unit {0}) j entries (all_any entries)) (opened_images j opened) run

-- a volume of the tables is one of the configuration's, of its size
pub volumes_imaged : (j : Joint) → InvariantHolds j → ImagesThere j → VolumesImaged j
volumes_imaged j kept there = λ g s is vsn v at.
    let k = (kept.sides g s is).volumes.volume vsn v at in
    let i = there g s is vsn k.configured in
    record { image = i.image; is = i.is; sized = i.sized ∙ sym k.size }
