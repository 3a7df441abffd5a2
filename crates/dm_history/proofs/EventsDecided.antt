-- What an event makes of a name that was there is decided by what it had, and by the names that the event is about.
use Rattle.std.proofs.Common.{◌≡◌, ℕ, Bool, true, cond, ◌&&◌, Option, None, Some, List, [], ◌∷◌, refl, sym, ap, ◌∙◌, subst, inl, ⊎_elim}
use Rattle.std.specs.FinMap as fin
use Rattle.std.specs.Option.{option_map}
use Rattle.dm_base.specs.declared.identifier.GroupId.{GroupId}
use Rattle.dm_durable.specs.declared.daemon.DaemonRecord.{DaemonRecord}
use Rattle.dm_durable.specs.declared.group.GroupRecord.{GroupRecord}
use Rattle.dm_model.specs.declared.answer.Answer.{Answer}
use Rattle.dm_model.specs.declared.answer.Answer.TheVariants as answer
use Rattle.dm_model.specs.declared.call.Call.{Call}
use Rattle.dm_model.specs.declared.call.Component.{Component}
use Rattle.dm_model.specs.declared.call.Component.TheVariants as component
use Rattle.dm_model.specs.declared.call.Event.{Event}
use Rattle.dm_model.specs.declared.call.Event.TheVariants as event
use Rattle.dm_model.specs.declared.entry.Name.{Name}
use Rattle.dm_model.specs.declared.entry.Name.TheVariants.{Daemon, Side}
use Rattle.dm_model.specs.declared.entry.Part.TheVariants as part
use Rattle.dm_model.specs.declared.plan.Opening.{Opening}
use Rattle.dm_model.specs.declared.plan.Opening.TheVariants as opening
use Rattle.dm_model.specs.declared.plan.Payload.{Payload}
use Rattle.dm_model.specs.declared.plan.Payload.TheVariants as payload
use Rattle.dm_model.specs.declared.plan.Prepared.{Prepared}
use Rattle.dm_model.specs.declared.state.Daemon.{Daemon as DaemonState}
use Rattle.dm_model.specs.declared.state.Joint.{Joint}
use Rattle.dm_model.specs.declared.state.Side.{Side as SideState}
use Rattle.dm_model.specs.Effects.{after_ending, after_failed_mark, after_healing, after_mark, after_payload, groups_of_component, groups_of_ending, groups_of_mark, groups_of_payload}
use Rattle.dm_model.specs.Names.{component_name, home_of, home_of_call, made_by, made_by_call, names_of, names_of_call}
use Rattle.dm_model.specs.Plan.{Plan, if_accepted, illegal_call, illegal_fault, prepared_plan, refusal_of}
use Rattle.dm_model.specs.SideShare.{side_after_ending, side_after_failed_mark, side_after_mark, side_after_payload, side_without_doubt}
use Rattle.dm_model.specs.Step.{Stepped, after_call, after_fault, daemon_doubt, doubt_outcome, landing_outcome_in, look_outcome_in, needs_of, plan_of, state_after, step}
use Rattle.dm_shown.specs.Along.{GoesOn}
use Rattle.dm_spine.specs.Past.{In}
use Rattle.dm_spine.proofs.Lists.{in_append}
use Rattle.dm_history.specs.Alike.{Alike, SameGroups, library_of}
use Rattle.dm_history.proofs.EventsTold.{outcome_is}
use Rattle.dm_history.proofs.MadeSet.{Sets, call_makes, opening_sets}
use Rattle.dm_history.proofs.NamesTold.{IsLasting, made_elsewhere}
use Rattle.dm_history.proofs.PartsGo.{AllAlike, Library, doubting_goes, ending_goes, failed_mark_goes, healing_goes, keys_go, mark_goes, opening_goes, opening_reads, payload_goes}
use Rattle.dm_history.proofs.PartsStay.{ending_names, opening_names, payload_names}
use Rattle.dm_history.proofs.PlansSame.{plan_same}
use Rattle.dm_history.proofs.PlansTold.{Told, Within, call_told}

-- what a plan looks at are these names
pub record Looks (w : ℕ) (j : Joint) (names : List Name) (p : Prepared) : Type 0 where
  pub ends : Within (ending_names w j p.ends) names
  pub pays : Within (payload_names p.payload) names
  pub opens : Within (opening_reads p.opens) names

-- up to what is made
abbrev pub unopened : ℕ → Prepared → Joint → Joint
unopened w p j = after_mark w p.mark (after_payload p.payload (after_healing p.heals p.component (after_ending w p.ends j)))

pub keys_unopened : (w : ℕ) (j k : Joint) (p : Prepared) → SameGroups j k → SameGroups (unopened w p j) (unopened w p k)
keys_unopened w j k p keys =
    let heal = cond p.heals (groups_of_component p.component) [] in
    let j1 = after_ending w p.ends j in
    let k1 = after_ending w p.ends k in
    let j2 = after_healing p.heals p.component j1 in
    let k2 = after_healing p.heals p.component k1 in
    let j3 = after_payload p.payload j2 in
    let k3 = after_payload p.payload k2 in
    let keys1 : SameGroups j1 k1 = keys_go (side_after_ending p.ends) (groups_of_ending p.ends) j.sides k.sides keys in
    let keys2 : SameGroups j2 k2 = keys_go (side_without_doubt p.heals) heal j1.sides k1.sides keys1 in
    let keys3 : SameGroups j3 k3 = keys_go (side_after_payload p.payload) (groups_of_payload p.payload) j2.sides k2.sides keys2 in
    keys_go (side_after_mark p.mark) (groups_of_mark p.mark) j3.sides k3.sides keys3

pub unopened_goes : (w : ℕ) (j k : Joint) (names : List Name) (p : Prepared) → Looks w j names p → SameGroups j k → AllAlike names j k
    → (x : Name) → Alike x j k → Alike x (unopened w p j) (unopened w p k)
unopened_goes w j k names p looks keys all x alike =
    let heal = cond p.heals (groups_of_component p.component) [] in
    let j1 = after_ending w p.ends j in
    let k1 = after_ending w p.ends k in
    let j2 = after_healing p.heals p.component j1 in
    let k2 = after_healing p.heals p.component k1 in
    let j3 = after_payload p.payload j2 in
    let k3 = after_payload p.payload k2 in
    let keys1 : SameGroups j1 k1 = keys_go (side_after_ending p.ends) (groups_of_ending p.ends) j.sides k.sides keys in
    let keys2 : SameGroups j2 k2 = keys_go (side_without_doubt p.heals) heal j1.sides k1.sides keys1 in
    let keys3 : SameGroups j3 k3 = keys_go (side_after_payload p.payload) (groups_of_payload p.payload) j2.sides k2.sides keys2 in
    let go2 : (y : Name) → Alike y j k → Alike y j2 k2 =
    λ y h. healing_goes p.heals p.component j1 k1 y keys1 (ending_goes w p.ends j k y keys (λ z i. all z (looks.ends z i)) h) in
    mark_goes w p.mark j3 k3 x keys3 (payload_goes p.payload j2 k2 x keys2 (λ z i. go2 z (all z (looks.pays z i))) (go2 x alike))

pub parts_go : (w : ℕ) (j k : Joint) (names : List Name) (p : Prepared) (x : Name) → Looks w j names p → SameGroups j k → AllAlike names j k → Alike x j k
    → Alike x (after_call w p j) (after_call w p k)
parts_go w j k names p x looks keys all alike =
    let go : (y : Name) → Alike y j k → Alike y (unopened w p j) (unopened w p k) = λ y h. unopened_goes w j k names p looks keys all y h in
    opening_goes w p.opens (unopened w p j) (unopened w p k) x (keys_unopened w j k p keys) (λ z i. go z (all z (looks.opens z i))) (go x alike)

-- what is made is set
pub parts_set : (w : ℕ) (j k : Joint) (names : List Name) (p : Prepared) (x : Name) → Looks w j names p → SameGroups j k → AllAlike names j k → Sets x p.opens
    → Alike x (after_call w p j) (after_call w p k)
parts_set w j k names p x looks keys all sets =
    let go : (y : Name) → Alike y j k → Alike y (unopened w p j) (unopened w p k) = λ y h. unopened_goes w j k names p looks keys all y h in
    opening_sets w p.opens (unopened w p j) (unopened w p k) x (keys_unopened w j k p keys) (λ z i. go z (all z (looks.opens z i))) sets

pub fault_goes : (w : ℕ) (j k : Joint) (names : List Name) (p : Prepared) (far : Bool) (x : Name) → Looks w j names p → SameGroups j k → AllAlike names j k
    → Alike x j k → Alike x (after_fault w p far j) (after_fault w p far k)
fault_goes w j k names p far x looks keys all alike =
    let j1 = after_ending w p.ends j in
    let k1 = after_ending w p.ends k in
    let keys1 : SameGroups j1 k1 = keys_go (side_after_ending p.ends) (groups_of_ending p.ends) j.sides k.sides keys in
    let one : Alike x j1 k1 = ending_goes w p.ends j k x keys (λ z i. all z (looks.ends z i)) alike in
    let j2 = after_failed_mark p.mark j1 in
    let k2 = after_failed_mark p.mark k1 in
    let keys2 : SameGroups j2 k2 = keys_go (side_after_failed_mark p.mark) (groups_of_mark p.mark) j1.sides k1.sides keys1 in
    doubting_goes (cond far p.payload None) j2 k2 x keys2 (failed_mark_goes p.mark j1 k1 x keys1 one)

-- ---- what the plan of a call looks at is told

reads_last : (o : Opening) (x : Name) → In x (opening_reads o) → IsLasting x
reads_last opening.Nothing x h = absurd h
reads_last (opening.Put k r len groups) x h = absurd h
reads_last (opening.Recall k r recall) x h = absurd h
reads_last (opening.Reservation g n r) x h = absurd h
reads_last (opening.Mount g m vsn epoch made) x h = ⊎_elim (λ s. subst (λ y. IsLasting y) (sym s) refl) (λ r. absurd r) h
reads_last (opening.Move g job y source_epoch target_epoch) x h = ⊎_elim (λ s. subst (λ z. IsLasting z) (sym s) refl) (λ r. absurd r) h
reads_last (opening.Reuse g m epoch y reading) x h = ⊎_elim (λ s. subst (λ z. IsLasting z) (sym s) refl) (λ r. absurd r) h

reads_named : (w : ℕ) (o : Opening) (x : Name) → In x (opening_reads o) → In x (opening_names w o)
reads_named w opening.Nothing x h = absurd h
reads_named w (opening.Put k r len groups) x h = absurd h
reads_named w (opening.Recall k r recall) x h = absurd h
reads_named w (opening.Reservation g n r) x h = absurd h
reads_named w (opening.Mount g m vsn epoch made) x h = ⊎_elim (λ s. inl s) (λ r. absurd r) h
reads_named w (opening.Move g job y source_epoch target_epoch) x h = ⊎_elim (λ s. inl s) (λ r. absurd r) h
reads_named w (opening.Reuse g m epoch y reading) x h = ⊎_elim (λ s. inl s) (λ r. absurd r) h

opens_told : (w : ℕ) (j : Joint) (c : Call) (told : List Name) (p : Plan) → Told w j told (made_by_call c p.answer) p → Within (opening_reads p.opens) told
opens_told w j c told p is x h =
    ⊎_elim (λ t. t) (λ m. absurd (made_elsewhere (event.Call c) p.answer x m (reads_last p.opens x h)))
    (in_append x told (made_by_call c p.answer) (is.opens x (reads_named w p.opens x h)))

pays_if : (o : Option Answer) (q : Option Payload) (names : List Name) → Within (payload_names q) names → Within (payload_names (if_accepted o None q)) names
pays_if None q names within x h = within x h
pays_if (Some refusal) q names within x h = absurd h

opens_if : (o : Option Answer) (y : Opening) (names : List Name) → Within (opening_reads y) names → Within (opening_reads (if_accepted o opening.Nothing y)) names
opens_if None y names within x h = within x h
opens_if (Some refusal) y names within x h = absurd h

pub call_looks : (w : ℕ) (j : Joint) (c : Call) → Looks w j (home_of_call c ∷ names_of_call j w c) (prepared_plan (plan_of j c))
call_looks w j c =
    let p = plan_of j c in
    let told = home_of_call c ∷ names_of_call j w c in
    let is = call_told w j c in
    record {
      ends = is.ends;
      pays = pays_if (refusal_of p) p.payload told is.pays;
      opens = opens_if (refusal_of p) p.opens told (opens_told w j c told p is);
    }

-- ---- outcomes

-- the answers are the same, and the states alike at x
abbrev pub SameEnd : Name → Joint → Joint → Answer → Answer → Type 0
SameEnd x j k a b = (a ≡ b) × Alike x j k

end_as : (x : Name) (j k j' k' : Joint) → j ≡ j' → k ≡ k' → Alike x j k → Alike x j' k'
end_as x j k j' k' e f h = subst (λ m. Alike x m k') e (subst (λ m. Alike x j m) f h)

call_decided : (j k j' k' : Joint) (w : ℕ) (c : Call) (a b : Answer) (x : Name) → SameGroups j k → step j w (event.Call c) ≡ Stepped j' a
    → step k w (event.Call c) ≡ Stepped k' b → AllAlike (home_of_call c ∷ names_of_call j w c) j k → Alike x j k → SameEnd x j' k' a b
call_decided j k j' k' w c a b x keys is_j is_k all alike =
    let p = prepared_plan (plan_of j c) in
    let q = prepared_plan (plan_of k c) in
    let same : p ≡ q = plan_same w j k c keys all in
    let done_j = outcome_is (illegal_call (plan_of j c) (needs_of j w c)) (after_call w p j) j' p.answer a is_j in
    let done_k = outcome_is (illegal_call (plan_of k c) (needs_of k w c)) (after_call w q k) k' q.answer b is_k in
    let goes = parts_go w j k (home_of_call c ∷ names_of_call j w c) p x (call_looks w j c) keys all alike in (
      sym done_j.1 ∙ (ap (λ (r : Prepared). r.answer) same ∙ done_k.1),
      end_as x (after_call w p j) (after_call w p k) j' k' done_j.0 (ap (λ (r : Prepared). after_call w r k) same ∙ done_k.0) goes,
    )

fault_decided : (j k j' k' : Joint) (w : ℕ) (c : Call) (healed checkpointed : Bool) (a b : Answer) (x : Name) → SameGroups j k
    → step j w (event.Fault c healed checkpointed) ≡ Stepped j' a → step k w (event.Fault c healed checkpointed) ≡ Stepped k' b
    → AllAlike (home_of_call c ∷ names_of_call j w c) j k → Alike x j k → SameEnd x j' k' a b
fault_decided j k j' k' w c healed checkpointed a b x keys is_j is_k all alike =
    let far = healed && checkpointed in
    let p = prepared_plan (plan_of j c) in
    let q = prepared_plan (plan_of k c) in
    let same : p ≡ q = plan_same w j k c keys all in
    let done_j = outcome_is (illegal_fault (plan_of j c) (needs_of j w c)) (after_fault w p far j) j' answer.Failed a is_j in
    let done_k = outcome_is (illegal_fault (plan_of k c) (needs_of k w c)) (after_fault w q far k) k' answer.Failed b is_k in
    let goes = fault_goes w j k (home_of_call c ∷ names_of_call j w c) p far x (call_looks w j c) keys all alike in (
      sym done_j.1 ∙ done_k.1,
      end_as x (after_fault w p far j) (after_fault w p far k) j' k' done_j.0 (ap (λ (r : Prepared). after_fault w r far k) same ∙ done_k.0) goes,
    )

landing_answer : (j k : Joint) (c : Component) (q : Option Payload) (a : Answer) → doubt_outcome j c q ≡ Stepped k a → a ≡ answer.Landed
landing_answer j k c None a is = cc
landing_answer j k c (Some q) a is = cc

landing_state : (j k : Joint) (c : Component) (q : Payload) (a : Answer) → doubt_outcome j c (Some q) ≡ Stepped k a
    → after_payload (Some q) (after_healing true c j) ≡ k
landing_state j k c q a is = ap (state_after j) is

landing_decided : (c : Component) (q : Option Payload) (j k j' k' : Joint) (a b : Answer) (x : Name) → SameGroups j k
    → Within (payload_names q) (component_name c ∷ []) → doubt_outcome j c q ≡ Stepped j' a → doubt_outcome k c q ≡ Stepped k' b
    → AllAlike (component_name c ∷ []) j k → Alike x j k → SameEnd x j' k' a b
landing_decided c None j k j' k' a b x keys within is_j is_k all alike = cc
landing_decided c (Some q) j k j' k' a b x keys within is_j is_k all alike =
    let j1 = after_healing true c j in
    let k1 = after_healing true c k in
    let keys1 : SameGroups j1 k1 = keys_go (side_without_doubt true) (groups_of_component c) j.sides k.sides keys in
    let goes = payload_goes (Some q) j1 k1 x keys1 (λ z i. healing_goes true c j k z keys (all z (within z i))) (healing_goes true c j k x keys alike) in (
      landing_answer j j' c (Some q) a is_j ∙ sym (landing_answer k k' c (Some q) b is_k),
      end_as x (after_payload (Some q) j1) (after_payload (Some q) k1) j' k' (landing_state j j' c q a is_j) (landing_state k k' c q b is_k) goes,
    )

doubts_within : (o : Option DaemonRecord) → Within (payload_names (option_map (λ r. payload.Daemon r) o)) (Daemon ∷ [])
doubts_within None x h = absurd h
doubts_within (Some r) x h = h

-- the doubt of a group, by its library server
abbrev doubt_by : GroupId → Library → Option Payload
doubt_by g None = None
doubt_by g (Some l) = option_map (λ r. payload.Group g r) l.0.doubt

doubted_within : (g : GroupId) (o : Option GroupRecord) → Within (payload_names (option_map (λ r. payload.Group g r) o)) (Side g part.Itself ∷ [])
doubted_within g None x h = absurd h
doubted_within g (Some r) x h = h

group_within : (g : GroupId) (l : Library) → Within (payload_names (doubt_by g l)) (Side g part.Itself ∷ [])
group_within g None x h = absurd h
group_within g (Some l) x h = doubted_within g l.0.doubt x h

landed_by : (j k : Joint) (g : GroupId) (o : Option SideState) (a : Answer) → landing_outcome_in j g o ≡ Stepped k a
    → doubt_outcome j (component.Group g) (doubt_by g (library_of o)) ≡ Stepped k a
landed_by j k g None a is = cc
landed_by j k g (Some s) a is = is

looked_by : (j k : Joint) (o : Option SideState) (a : Answer) → look_outcome_in j o ≡ Stepped k a → (j ≡ k) × (a ≡ answer.Looked)
looked_by j k None a is = cc
looked_by j k (Some s) a is = (ap (state_after j) is, cc)

looked_daemon : (j k : Joint) (a : Answer) → Stepped j answer.Looked ≡ Stepped k a → (j ≡ k) × (a ≡ answer.Looked)
looked_daemon j k a is = (ap (state_after j) is, cc)

call_made : (j k j' k' : Joint) (w : ℕ) (c : Call) (a b : Answer) (x : Name) → SameGroups j k → step j w (event.Call c) ≡ Stepped j' a
    → step k w (event.Call c) ≡ Stepped k' b → AllAlike (home_of_call c ∷ names_of_call j w c) j k → In x (made_by_call c a) → Alike x j' k'
call_made j k j' k' w c a b x keys is_j is_k all made =
    let p = prepared_plan (plan_of j c) in
    let q = prepared_plan (plan_of k c) in
    let same : p ≡ q = plan_same w j k c keys all in
    let done_j = outcome_is (illegal_call (plan_of j c) (needs_of j w c)) (after_call w p j) j' p.answer a is_j in
    let done_k = outcome_is (illegal_call (plan_of k c) (needs_of k w c)) (after_call w q k) k' q.answer b is_k in
    let sets = call_makes j c x (subst (λ (r : Answer). In x (made_by_call c r)) (sym done_j.1) made) in
    end_as x (after_call w p j) (after_call w p k) j' k' done_j.0 (ap (λ (r : Prepared). after_call w r k) same ∙ done_k.0)
    (parts_set w j k (home_of_call c ∷ names_of_call j w c) p x (call_looks w j c) keys all sets)

pub event_made : (j k j' k' : Joint) (w : ℕ) (e : Event) (a b : Answer) (x : Name) → SameGroups j k → step j w e ≡ Stepped j' a
    → step k w e ≡ Stepped k' b → ((y : Name) → In y (home_of e ∷ names_of j w e) → Alike y j k) → In x (made_by e a) → Alike x j' k'
event_made j k j' k' w (event.Call c) a b x keys is_j is_k all made = call_made j k j' k' w c a b x keys is_j is_k all made
event_made j k j' k' w (event.Fault c healed checkpointed) a b x keys is_j is_k all made = absurd made
event_made j k j' k' w (event.Landed c) a b x keys is_j is_k all made = absurd made
event_made j k j' k' w (event.Look c) a b x keys is_j is_k all made = absurd made
event_made j k j' k' w event.Stop a b x keys is_j is_k all made = absurd made

pub event_decided : (j k j' k' : Joint) (w : ℕ) (e : Event) (a b : Answer) (x : Name) → SameGroups j k → GoesOn e → step j w e ≡ Stepped j' a
    → step k w e ≡ Stepped k' b → ((y : Name) → In y (home_of e ∷ names_of j w e) → Alike y j k) → Alike x j k → SameEnd x j' k' a b
event_decided j k j' k' w (event.Call c) a b x keys goes is_j is_k all alike = call_decided j k j' k' w c a b x keys is_j is_k all alike
event_decided j k j' k' w (event.Fault c healed checkpointed) a b x keys goes is_j is_k all alike =
    fault_decided j k j' k' w c healed checkpointed a b x keys is_j is_k all alike
event_decided j k j' k' w (event.Landed component.Daemon) a b x keys goes is_j is_k all alike =
    let same : daemon_doubt j ≡ daemon_doubt k = ap (λ (d : DaemonState). option_map (λ r. payload.Daemon r) d.doubt) (all Daemon (inl refl)) in
    landing_decided component.Daemon (daemon_doubt j) j k j' k' a b x keys (doubts_within j.daemon.doubt) is_j
    (subst (λ (q : Option Payload). doubt_outcome k component.Daemon q ≡ Stepped k' b) (sym same) is_k) all alike
event_decided j k j' k' w (event.Landed (component.Group g)) a b x keys goes is_j is_k all alike =
    let here = library_of (fin.get j.sides g.0) in
    let same : here ≡ library_of (fin.get k.sides g.0) = all (Side g part.Itself) (inl refl) in
    landing_decided (component.Group g) (doubt_by g here) j k j' k' a b x keys (group_within g here)
    (landed_by j j' g (fin.get j.sides g.0) a is_j)
    (subst (λ (l : Library). doubt_outcome k (component.Group g) (doubt_by g l) ≡ Stepped k' b) (sym same) (landed_by k k' g (fin.get k.sides g.0) b is_k)) all alike
event_decided j k j' k' w (event.Look component.Daemon) a b x keys goes is_j is_k all alike =
    let done_j = looked_daemon j j' a is_j in
    let done_k = looked_daemon k k' b is_k in
    (done_j.1 ∙ sym done_k.1, end_as x j k j' k' done_j.0 done_k.0 alike)
event_decided j k j' k' w (event.Look (component.Group g)) a b x keys goes is_j is_k all alike =
    let done_j = looked_by j j' (fin.get j.sides g.0) a is_j in
    let done_k = looked_by k k' (fin.get k.sides g.0) b is_k in
    (done_j.1 ∙ sym done_k.1, end_as x j k j' k' done_j.0 done_k.0 alike)
event_decided j k j' k' w event.Stop a b x keys goes is_j is_k all alike = absurd goes
