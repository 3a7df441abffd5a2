-- An event changes the states of no names but those that it is about and makes.
use Rattle.std.proofs.Common.{◌≡◌, ℕ, Bool, true, false, cond, ◌&&◌, Option, None, Some, List, [], ◌∷◌, ◌++◌, ap, subst}
use Rattle.std.specs.FinMap as fin
use Rattle.std.specs.Option.{option_map}
use Rattle.dm_base.specs.declared.identifier.GroupId.{GroupId}
use Rattle.dm_durable.specs.declared.daemon.DaemonRecord.{DaemonRecord}
use Rattle.dm_durable.specs.declared.group.GroupRecord.{GroupRecord}
use Rattle.dm_model.specs.declared.answer.Answer.{Answer}
use Rattle.dm_model.specs.declared.answer.Answer.TheVariants as answer
use Rattle.dm_model.specs.declared.call.Call.{Call}
use Rattle.dm_model.specs.declared.call.Component.{Component}
use Rattle.dm_model.specs.declared.call.Component.TheVariants as component
use Rattle.dm_model.specs.declared.call.Event.{Event}
use Rattle.dm_model.specs.declared.call.Event.TheVariants as event
use Rattle.dm_model.specs.declared.entry.Name.{Name}
use Rattle.dm_model.specs.declared.guard.Guard.{Guard}
use Rattle.dm_model.specs.declared.plan.Mark.{Mark}
use Rattle.dm_model.specs.declared.plan.Mark.TheVariants as mark
use Rattle.dm_model.specs.declared.plan.Opening.{Opening}
use Rattle.dm_model.specs.declared.plan.Opening.TheVariants as opening
use Rattle.dm_model.specs.declared.plan.Payload.{Payload}
use Rattle.dm_model.specs.declared.plan.Payload.TheVariants as payload
use Rattle.dm_model.specs.declared.state.Joint.{Joint}
use Rattle.dm_model.specs.declared.state.Side.{Side as SideState}
use Rattle.dm_model.specs.Effects.{after_ending, after_failed_mark, after_healing, after_mark, after_opening, after_payload}
use Rattle.dm_model.specs.Names.{component_name, home_of, home_of_call, made_by, made_by_call, names_of, names_of_call}
use Rattle.dm_model.specs.Plan.{Plan, answer_of, if_accepted, illegal_call, illegal_fault, prepared_plan, refusal_of}
use Rattle.dm_model.specs.Step.{Illegal, Outcome, Stepped, after_call, after_fault, daemon_doubt, group_doubt, doubt_outcome, landing_outcome_in, look_outcome_in, needs_of, outcome_of, plan_of, state_after, step}
use Rattle.dm_shown.specs.Along.{GoesOn}
use Rattle.dm_spine.specs.Past.{In}
use Rattle.dm_spine.proofs.Lists.{in_left}
use Rattle.dm_history.specs.Alike.{Alike}
use Rattle.dm_history.proofs.PartsStay.{alike_self, alike_then, doubting_stays, ending_stays, failed_mark_stays, healing_stays, mark_names, mark_stays, opening_names, opening_stays, payload_names, payload_stays}
use Rattle.dm_history.proofs.PlansTold.{Told, Within, call_told}

abbrev pub Away : Name → List Name → Type 0
Away x names = In x names → ⊥

-- ---- a call, accepted or refused

pays_away : (x : Name) (o : Option Answer) (q : Option Payload) → Away x (payload_names q) → Away x (payload_names (if_accepted o None q))
pays_away x None q away h = away h
pays_away x (Some refusal) q away h = absurd h

marks_away : (x : Name) (w : ℕ) (o : Option Answer) (y : Mark) → Away x (mark_names w y) → Away x (mark_names w (if_accepted o mark.Nothing y))
marks_away x w None y away h = away h
marks_away x w (Some refusal) y away h = absurd h

opens_away : (x : Name) (w : ℕ) (o : Option Answer) (y : Opening) (told : List Name) (c : Call) (a : Answer)
    → Within (opening_names w y) (told ++ made_by_call c a) → Away x (told ++ made_by_call c (answer_of o a))
    → Away x (opening_names w (if_accepted o opening.Nothing y))
opens_away x w None y told c a within away h = away (within x h)
opens_away x w (Some refusal) y told c a within away h = absurd h

called_stays : (w : ℕ) (j : Joint) (x : Name) (c : Call) (told : List Name) (p : Plan) (o : Option Answer) → Told w j told (made_by_call c p.answer) p
    → Away x (told ++ made_by_call c (answer_of o p.answer))
    → Alike x j (after_opening w (if_accepted o opening.Nothing p.opens)
    (after_mark w (if_accepted o mark.Nothing p.mark)
    (after_payload (if_accepted o None p.payload) (after_healing p.heals p.component (after_ending w p.ends j)))))
called_stays w j x c told p o is away =
    let spared : Away x told = λ h. away (in_left x told _ h) in
    let ended = after_ending w p.ends j in
    let healed = after_healing p.heals p.component ended in
    let paid = after_payload (if_accepted o None p.payload) healed in
    let marked = after_mark w (if_accepted o mark.Nothing p.mark) paid in
    let opened = after_opening w (if_accepted o opening.Nothing p.opens) marked in
    alike_then x j ended opened (ending_stays w p.ends j x (λ h. spared (is.ends x h)))
    (alike_then x ended healed opened (healing_stays p.heals p.component ended x (λ h. spared (is.heals x h)))
    (alike_then x healed paid opened (payload_stays (if_accepted o None p.payload) healed x (pays_away x o p.payload (λ h. spared (is.pays x h))))
    (alike_then x paid marked opened
    (mark_stays w (if_accepted o mark.Nothing p.mark) paid x (marks_away x w o p.mark (λ h. spared (is.marks x h))))
    (opening_stays w (if_accepted o opening.Nothing p.opens) marked x (opens_away x w o p.opens told c p.answer is.opens away)))))

-- ---- a call that fails

far_away : (x : Name) (far : Bool) (q : Option Payload) → Away x (payload_names q) → Away x (payload_names (cond far q None))
far_away x true q away h = away h
far_away x false q away h = absurd h

faulted_stays : (w : ℕ) (j : Joint) (x : Name) (told made : List Name) (p : Plan) (far : Bool) → Told w j told made p → Away x told
    → Alike x j (after_fault w (prepared_plan p) far j)
faulted_stays w j x told made p far is away =
    let o = refusal_of p in
    let ended = after_ending w p.ends j in
    let failed = after_failed_mark (if_accepted o mark.Nothing p.mark) ended in
    let doubted = after_fault w (prepared_plan p) far j in
    alike_then x j ended doubted (ending_stays w p.ends j x (λ h. away (is.ends x h)))
    (alike_then x ended failed doubted
    (failed_mark_stays w (if_accepted o mark.Nothing p.mark) ended x (marks_away x w o p.mark (λ h. away (is.marks x h))))
    (doubting_stays (cond far (if_accepted o None p.payload) None) failed x
    (far_away x far (if_accepted o None p.payload) (pays_away x o p.payload (λ h. away (is.pays x h))))))

-- ---- outcomes

abbrev answer_in : Answer → Outcome → Answer
answer_in a (Stepped k b) = b
answer_in a (Illegal g) = a

pub outcome_is : (g : Option Guard) (after k : Joint) (b a : Answer) → outcome_of g after b ≡ Stepped k a → (after ≡ k) × (b ≡ a)
outcome_is None after k b a is = (ap (state_after after) is, ap (answer_in b) is)
outcome_is (Some g) after k b a is = absurd (illegal g k a is)
  where
    illegal : (g : Guard) (k : Joint) (a : Answer) → Illegal g ≡ Stepped k a → ⊥
    illegal g k a is = cc

-- what a step of a component that landed speaks of
landing_stays : (c : Component) (q : Option Payload) (j k : Joint) (a : Answer) (x : Name) → Within (payload_names q) (component_name c ∷ [])
    → doubt_outcome j c q ≡ Stepped k a → Away x (component_name c ∷ []) → Alike x j k
landing_stays c None j k a x within is away = cc
landing_stays c (Some q) j k a x within is away =
    let healed = after_healing true c j in
    let landed = after_payload (Some q) healed in
    subst (λ m. Alike x j m) (ap (state_after j) is)
    (alike_then x j healed landed (healing_stays true c j x away) (payload_stays (Some q) healed x (λ h. away (within x h))))

daemon_doubts : (j : Joint) (o : Option DaemonRecord) → Within (payload_names (option_map (λ r. payload.Daemon r) o)) (component_name component.Daemon ∷ [])
daemon_doubts j None x h = absurd h
daemon_doubts j (Some r) x h = h

group_doubts : (g : GroupId) (o : Option GroupRecord) → Within (payload_names (option_map (λ r. payload.Group g r) o)) (component_name (component.Group g) ∷ [])
group_doubts g None x h = absurd h
group_doubts g (Some r) x h = h

landed_stays : (g : GroupId) (o : Option SideState) (j k : Joint) (a : Answer) (x : Name) → landing_outcome_in j g o ≡ Stepped k a
    → Away x (component_name (component.Group g) ∷ []) → Alike x j k
landed_stays g None j k a x is away = cc
landed_stays g (Some s) j k a x is away = landing_stays (component.Group g) (group_doubt g s) j k a x (group_doubts g s.group.doubt) is away

looked_stays : (o : Option SideState) (j k : Joint) (a : Answer) (x : Name) → look_outcome_in j o ≡ Stepped k a → Alike x j k
looked_stays None j k a x is = cc
looked_stays (Some s) j k a x is = subst (λ m. Alike x j m) (ap (state_after j) is) (alike_self x j)

-- ---- events

pub event_stays : (j k : Joint) (w : ℕ) (e : Event) (a : Answer) (x : Name) → GoesOn e → step j w e ≡ Stepped k a
    → Away x (home_of e ∷ names_of j w e ++ made_by e a) → Alike x j k
event_stays j k w (event.Call c) a x goes is away =
    let p = plan_of j c in
    let told = home_of_call c ∷ names_of_call j w c in
    let done = outcome_is (illegal_call p (needs_of j w c)) (after_call w (prepared_plan p) j) k (prepared_plan p).answer a is in
    let away' : Away x (told ++ made_by_call c (answer_of (refusal_of p) p.answer)) = λ h. away (subst (λ b. In x (told ++ made_by_call c b)) done.1 h) in
    subst (λ m. Alike x j m) done.0 (called_stays w j x c told p (refusal_of p) (call_told w j c) away')
event_stays j k w (event.Fault c healed checkpointed) a x goes is away =
    let p = plan_of j c in
    let told = home_of_call c ∷ names_of_call j w c in
    let far = healed && checkpointed in
    let done = outcome_is (illegal_fault p (needs_of j w c)) (after_fault w (prepared_plan p) far j) k answer.Failed a is in
    subst (λ m. Alike x j m) done.0 (faulted_stays w j x told (made_by_call c p.answer) p far (call_told w j c) (λ h. away (in_left x told [] h)))
event_stays j k w (event.Landed component.Daemon) a x goes is away =
    landing_stays component.Daemon (daemon_doubt j) j k a x (daemon_doubts j j.daemon.doubt) is away
event_stays j k w (event.Landed (component.Group g)) a x goes is away = landed_stays g (fin.get j.sides g.0) j k a x is away
event_stays j k w (event.Look component.Daemon) a x goes is away = subst (λ m. Alike x j m) (ap (state_after j) is) (alike_self x j)
event_stays j k w (event.Look (component.Group g)) a x goes is away = looked_stays (fin.get j.sides g.0) j k a x is
event_stays j k w event.Stop a x goes is away = absurd goes
