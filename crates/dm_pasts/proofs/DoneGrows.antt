-- Of two legal pasts, where one is a part of the other, what was done in the smaller was done in the larger.
use Rattle.std.proofs.Common.{◌≡◌, ℕ, Bool, true, ◌&&◌, Option, None, Some, option_map, List, [], ◌∷◌, ◌++◌, refl, sym, ap, subst, ◌∙◌, inl}
use Rattle.std.specs.FinMap as map
use Rattle.dm_base.specs.declared.identifier.GroupId.{GroupId}
use Rattle.dm_durable.specs.declared.group.GroupRecord.{GroupRecord}
use Rattle.dm_model.specs.declared.answer.Answer.{Answer}
use Rattle.dm_model.specs.declared.answer.Answer.TheVariants as answer
use Rattle.dm_model.specs.declared.call.Call.{Call}
use Rattle.dm_model.specs.declared.call.Call.TheVariants as call
use Rattle.dm_model.specs.declared.call.Component.{Component}
use Rattle.dm_model.specs.declared.call.Component.TheVariants as component
use Rattle.dm_model.specs.declared.call.Event.{Event}
use Rattle.dm_model.specs.declared.call.Event.TheVariants as event
use Rattle.dm_model.specs.declared.entry.HistoryEntry.{HistoryEntry}
use Rattle.dm_model.specs.declared.entry.Name.TheVariants.{Daemon, Side}
use Rattle.dm_model.specs.declared.entry.Part.TheVariants as part
use Rattle.dm_model.specs.declared.plan.Payload.{Payload}
use Rattle.dm_model.specs.declared.plan.Payload.TheVariants as payload
use Rattle.dm_model.specs.declared.plan.Prepared.{Prepared}
use Rattle.dm_model.specs.declared.state.Daemon.{Daemon as DaemonState}
use Rattle.dm_model.specs.declared.state.History.{History}
use Rattle.dm_model.specs.declared.state.Joint.{Joint}
use Rattle.dm_model.specs.declared.state.Side.{Side as SideState}
use Rattle.dm_model.specs.DaemonShare.{daemon_after_ending, daemon_without_doubt}
use Rattle.dm_model.specs.Effects.{after_healing, history_after_mark, history_after_payload}
use Rattle.dm_model.specs.Names.{home_of, home_of_call, names_of, names_of_call}
use Rattle.dm_model.specs.Plan.{illegal_call, illegal_fault, prepared_plan}
use Rattle.dm_model.specs.Step.{Stepped, after_call, after_fault, after_landing, daemon_doubt, doubt_outcome, group_doubt, landing_outcome_in, needs_of, plan_of, step}
use Rattle.dm_model.proofs.Shares.{PaysOf}
use Rattle.dm_invariant.specs.Opened.{Opened}
use Rattle.dm_shown.specs.Along.{GoesOn}
use Rattle.dm_shown.proofs.EventsShown.{landed_is, look_is, payload_is, side_pays, volume_pays}
use Rattle.dm_spine.specs.Past.{IsPart, Legal}
use Rattle.dm_copies.specs.Asked.{CopiesAreAsked}
use Rattle.dm_copies.specs.Done.{StaysDone}
use Rattle.dm_copies.proofs.DoneStays.{done_itself, done_then, event_done, marked_same, paid_beside, paid_same}
use Rattle.dm_copies.proofs.EventsAsk.{event_asks, opened_asks}
use Rattle.dm_history.specs.Alike.{SameGroups, library_of}
use Rattle.dm_history.specs.History.{Begun, history, joint_after, state_seen}
use Rattle.dm_history.proofs.EventsTold.{outcome_is}
use Rattle.dm_history.proofs.GroupsStay.{groups_seen}
use Rattle.dm_history.proofs.PartsGo.{AllAlike, Library}
use Rattle.dm_history.proofs.PartsStay.{alike_self}
use Rattle.dm_history.proofs.PastsAlike.{Agrees, Walk, apart, both, go_on, needed, told_alike, walk_first}
use Rattle.dm_history.proofs.PastsRun.{state-last}
use Rattle.dm_history.proofs.PlansSame.{plan_same}

-- ---- one event in two states, where one has all that was done in the other

-- what a call journals and marks, where the daemons are the same or it isn't theirs
served_same : (p : Prepared) (d e : DaemonState) (h i : History) → (history_after_payload d p.payload i ≡ history_after_payload e p.payload i) → StaysDone h i
    → StaysDone (history_after_mark p.mark (history_after_payload d p.payload h)) (history_after_mark p.mark (history_after_payload e p.payload i))
served_same p d e h i beside done =
    marked_same p.mark (history_after_payload d p.payload h) (history_after_payload e p.payload i)
    (subst (λ (x : History). StaysDone (history_after_payload d p.payload h) x) beside (paid_same d p.payload h i done))

module _ (i j : Joint) (w : ℕ) (keys : SameGroups i j) (done : StaysDone i.history j.history) where
  abbrev Same : Joint → Joint → Type 0
  Same x y = StaysDone x.history y.history

  same_as : (x y x' y' : Joint) → x ≡ x' → y ≡ y' → Same x y → Same x' y'
  same_as x y x' y' e f same = subst (λ (z : Joint). Same x' z) f (subst (λ (z : Joint). Same z y) e same)

  abbrev daemon_before : Prepared → DaemonState → DaemonState
  daemon_before p d = daemon_without_doubt p.heals p.component (daemon_after_ending p.ends d)

  call_beside : (c : Call) (h : History) → AllAlike (home_of_call c ∷ names_of_call i w c) i j
      → history_after_payload (daemon_before (prepared_plan (plan_of i c)) i.daemon) (prepared_plan (plan_of i c)).payload h
      ≡ history_after_payload (daemon_before (prepared_plan (plan_of i c)) j.daemon) (prepared_plan (plan_of i c)).payload h
  call_beside (call.Daemon c) h alike =
      let p = prepared_plan (plan_of i (call.Daemon c)) in
      ap (λ (d : DaemonState). history_after_payload (daemon_before p d) p.payload h) (alike Daemon (inl refl))
  call_beside (call.Group g c) h alike =
      let p = prepared_plan (plan_of i (call.Group g c)) in
      paid_beside g (daemon_before p i.daemon) (daemon_before p j.daemon) p.payload h (side_pays g c (map.get i.sides g.0))
  call_beside (call.Volume g vsn c) h alike =
      let p = prepared_plan (plan_of i (call.Volume g vsn c)) in
      paid_beside g (daemon_before p i.daemon) (daemon_before p j.daemon) p.payload h (volume_pays g vsn c (map.get i.sides g.0))

  call_same : (c : Call) (x y : Joint) (a b : Answer) → AllAlike (home_of_call c ∷ names_of_call i w c) i j → step i w (event.Call c) ≡ Stepped x a
      → step j w (event.Call c) ≡ Stepped y b → Same x y
  call_same c x y a b alike is at =
      let p = prepared_plan (plan_of i c) in
      let q = prepared_plan (plan_of j c) in
      let same : p ≡ q = plan_same w i j c keys alike in
      let one = outcome_is (illegal_call (plan_of i c) (needs_of i w c)) (after_call w p i) x p.answer a is in
      let two = outcome_is (illegal_call (plan_of j c) (needs_of j w c)) (after_call w q j) y q.answer b at in
      same_as (after_call w p i) (after_call w p j) x y one.0 (ap (λ (r : Prepared). after_call w r j) same ∙ two.0)
      (served_same p (daemon_before p i.daemon) (daemon_before p j.daemon) i.history j.history (call_beside c j.history alike) done)

  fault_same : (c : Call) (healed checkpointed : Bool) (x y : Joint) (a b : Answer) → step i w (event.Fault c healed checkpointed) ≡ Stepped x a
      → step j w (event.Fault c healed checkpointed) ≡ Stepped y b → Same x y
  fault_same c healed checkpointed x y a b is at =
      let p = prepared_plan (plan_of i c) in
      let q = prepared_plan (plan_of j c) in
      let far = healed && checkpointed in
      let one = outcome_is (illegal_fault (plan_of i c) (needs_of i w c)) (after_fault w p far i) x answer.Failed a is in
      let two = outcome_is (illegal_fault (plan_of j c) (needs_of j w c)) (after_fault w q far j) y answer.Failed b at in
      same_as (after_fault w p far i) (after_fault w q far j) x y one.0 two.0 done

  landing_same : (c : Component) (o : Option Payload) (x y : Joint) (a b : Answer)
      → ((h : History) → history_after_payload (after_healing true c i).daemon o h ≡ history_after_payload (after_healing true c j).daemon o h)
      → doubt_outcome i c o ≡ Stepped x a → doubt_outcome j c o ≡ Stepped y b → Same x y
  landing_same c None x y a b beside is at = absurd (cc)
  landing_same c (Some p) x y a b beside is at =
      let l = landed_is i x c (Some p) a is in
      let m = landed_is j y c (Some p) b at in
      let one : after_landing c p i ≡ x = ap (λ q. after_landing c q i) (payload_is p l.0 l.1) ∙ l.2 in
      let two : after_landing c p j ≡ y = ap (λ q. after_landing c q j) (payload_is p m.0 m.1) ∙ m.2 in
      let di = (after_healing true c i).daemon in
      let dj = (after_healing true c j).daemon in
      same_as (after_landing c p i) (after_landing c p j) x y one two
      (subst (λ (h : History). StaysDone (history_after_payload di (Some p) i.history) h) (beside j.history)
      (paid_same di (Some p) i.history j.history done))

  daemon_landing_same : (x y : Joint) (a b : Answer) → i.daemon ≡ j.daemon → step i w (event.Landed component.Daemon) ≡ Stepped x a
      → step j w (event.Landed component.Daemon) ≡ Stepped y b → Same x y
  daemon_landing_same x y a b same is at =
      landing_same component.Daemon (daemon_doubt i) x y a b
      (λ h. ap (λ (d : DaemonState). history_after_payload (daemon_without_doubt true component.Daemon d) (daemon_doubt i) h) same) is
      (subst (λ (d : DaemonState). doubt_outcome j component.Daemon (option_map (λ r. payload.Daemon r) d.doubt) ≡ Stepped y b) (sym same) at)

  abbrev DoubtBy : GroupId → Library → Option Payload
  DoubtBy g None = None
  DoubtBy g (Some l) = option_map (λ r. payload.Group g r) l.0.doubt

  group_pays : (g : GroupId) (o : Option GroupRecord) → PaysOf g (option_map (λ r. payload.Group g r) o)
  group_pays g None = tt
  group_pays g (Some r) = refl

  group_landing_same : (g : GroupId) (o p : Option SideState) (x y : Joint) (a b : Answer) → library_of o ≡ library_of p → landing_outcome_in i g o ≡ Stepped x a
      → landing_outcome_in j g p ≡ Stepped y b → Same x y
  group_landing_same g None p x y a b same is at = absurd (cc)
  group_landing_same g (Some s) None x y a b same is at = absurd (cc)
  group_landing_same g (Some s) (Some t) x y a b same is at =
      landing_same (component.Group g) (group_doubt g s) x y a b
      (λ h. paid_beside g (after_healing true (component.Group g) i).daemon (after_healing true (component.Group g) j).daemon (group_doubt g s) h (group_pays g s.group.doubt)) is
      (subst (λ (l : Library). doubt_outcome j (component.Group g) (DoubtBy g l) ≡ Stepped y b) (sym same) at)

  pub event_same : (e : Event) (x y : Joint) (a b : Answer) → GoesOn e → AllAlike (home_of e ∷ names_of i w e) i j → step i w e ≡ Stepped x a
      → step j w e ≡ Stepped y b → Same x y
  event_same (event.Call c) x y a b goes alike is at = call_same c x y a b alike is at
  event_same (event.Fault c healed checkpointed) x y a b goes alike is at = fault_same c healed checkpointed x y a b is at
  event_same (event.Landed component.Daemon) x y a b goes alike is at = daemon_landing_same x y a b (alike Daemon (inl refl)) is at
  event_same (event.Landed (component.Group g)) x y a b goes alike is at =
      group_landing_same g (map.get i.sides g.0) (map.get j.sides g.0) x y a b (alike (Side g part.Itself) (inl refl)) is at
  event_same (event.Look c) x y a b goes alike is at = same_as i j x y (look_is i x c a is) (look_is j y c b at) done
  event_same event.Stop x y a b goes alike is at = absurd goes

-- ---- two pasts

-- what is known of two pasts that were gone through side by side
pub record Follows (begun : Begun) (dx dy : List (ℕ × HistoryEntry)) : Type 0 where
  pub agrees : Agrees begun dx dy
  pub done : StaysDone (state_seen begun.opened dx).history (state_seen begun.opened dy).history
  pub asked : CopiesAreAsked (state_seen begun.opened dy)

module _ (begun : Begun) (opened : Opened begun.opened) where
  lone : (low : ℕ) (dx rx dy ry : List (ℕ × HistoryEntry)) (a : ℕ × HistoryEntry) → Walk begun low dx rx dy (a ∷ ry) → Follows begun dx dy → Follows begun dx (dy ++ a ∷ [])
  lone low dx rx dy ry a walk follows =
      let j = state_seen begun.opened dy in
      let taken = (needed begun opened dy ry a walk.part.ordered walk.more).taken.taken in
      let last = sym (state-last begun.opened dy a) in
      record {
        agrees = apart begun opened low dx rx dy ry a walk follows.agrees;
        done = subst (λ (k : Joint). StaysDone (state_seen begun.opened dx).history k.history) last
            (done_then (state_seen begun.opened dx).history j.history (joint_after j a.1).history follows.done
            (event_done j follows.asked a.1.worker a.1.event (joint_after j a.1) a.1.answer taken));
        asked = subst CopiesAreAsked last (event_asks j follows.asked a.1.worker a.1.event (joint_after j a.1) a.1.answer taken);
      }

  pair : (low : ℕ) (dx rx dy ry : List (ℕ × HistoryEntry)) (a : ℕ × HistoryEntry) → Walk begun low dx (a ∷ rx) dy (a ∷ ry) → Follows begun dx dy
      → Follows begun (dx ++ a ∷ []) (dy ++ a ∷ [])
  pair low dx rx dy ry a walk follows =
      let i = state_seen begun.opened dx in
      let j = state_seen begun.opened dy in
      let need = (needed begun opened dx rx a walk.part.rises walk.legal).taken in
      let more = (needed begun opened dy ry a walk.part.ordered walk.more).taken in
      let mine = sym (state-last begun.opened dx a) in
      let last = sym (state-last begun.opened dy a) in
      record {
        agrees = both begun opened low dx rx dy ry a walk follows.agrees;
        done = subst (λ (k : Joint). StaysDone k.history (state_seen begun.opened (dy ++ a ∷ [])).history) mine
            (subst (λ (k : Joint). StaysDone (joint_after i a.1).history k.history) last
            (event_same i j a.1.worker (groups_seen begun.opened dx dy) follows.done a.1.event (joint_after i a.1) (joint_after j a.1) a.1.answer a.1.answer
            need.goes (told_alike begun opened low dx rx dy ry a walk follows.agrees) need.taken more.taken));
        asked = subst CopiesAreAsked last (event_asks j follows.asked a.1.worker a.1.event (joint_after j a.1) a.1.answer more.taken);
      }

  pub pasts_follow : (xs ys : List (ℕ × HistoryEntry)) → IsPart history xs ys → Legal history begun xs → Legal history begun ys → Follows begun xs ys
  pasts_follow xs ys part legal more =
      go_on begun opened (Follows begun) lone pair 0 [] xs [] ys (walk_first begun opened xs ys part legal more)
      (record { agrees = λ z rooted all. alike_self z begun.opened; done = done_itself begun.opened.history; asked = opened_asks begun.opened opened })
