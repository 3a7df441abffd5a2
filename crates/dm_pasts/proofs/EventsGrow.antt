-- An event that is legal in a state is legal, with the same answer, in one that is alike at its names and has all that was done.
use Rattle.std.proofs.Common.{◌≡◌, ℕ, ◌+◌, Bool, true, false, cond, not, ◌&&◌, ◌||◌, Option, None, Some, is_some, option_map, List, [], ◌∷◌, ◌++◌, refl, sym, ap, subst, ◌∙◌, inl, inr}
use Rattle.std.specs.FinMap as map
use Rattle.dm_base.specs.declared.identifier.GroupId.{GroupId}
use Rattle.dm_base.specs.declared.serial.Vsn.{Vsn}
use Rattle.dm_rules.specs.Known.{Known, agrees_with_known}
use Rattle.dm_rules.proofs.Knowledge.{agrees-each, each-agrees}
use Rattle.dm_model.specs.declared.answer.Answer.{Answer}
use Rattle.dm_model.specs.declared.answer.Answer.TheVariants as answer
use Rattle.dm_model.specs.declared.call.Call.{Call}
use Rattle.dm_model.specs.declared.call.Call.TheVariants as call
use Rattle.dm_model.specs.declared.call.Component.{Component}
use Rattle.dm_model.specs.declared.call.Component.TheVariants as component
use Rattle.dm_model.specs.declared.call.Event.{Event}
use Rattle.dm_model.specs.declared.call.Event.TheVariants as event
use Rattle.dm_model.specs.declared.call.VolumeCall.{VolumeCall}
use Rattle.dm_model.specs.declared.call.VolumeCall.TheVariants as volume_call
use Rattle.dm_model.specs.declared.entry.Name.TheVariants.{Daemon, Side}
use Rattle.dm_model.specs.declared.entry.Part.TheVariants as part
use Rattle.dm_model.specs.declared.guard.Guard.{Guard}
use Rattle.dm_model.specs.declared.guard.Guard.TheVariants as guard
use Rattle.dm_model.specs.declared.plan.Payload.{Payload}
use Rattle.dm_model.specs.declared.plan.Payload.TheVariants as payload
use Rattle.dm_model.specs.declared.plan.Prepared.{Prepared}
use Rattle.dm_model.specs.declared.state.Daemon.{Daemon as DaemonState}
use Rattle.dm_model.specs.declared.state.Image.{Image}
use Rattle.dm_model.specs.declared.state.Joint.{Joint}
use Rattle.dm_model.specs.declared.state.MountState.{MountState}
use Rattle.dm_model.specs.declared.state.Side.{Side as SideState}
use Rattle.dm_model.specs.DaemonCalls.{daemon_plan}
use Rattle.dm_model.specs.GroupCalls.{no_group}
use Rattle.dm_model.specs.Guards.{AllHold, Guarded, lower_of, lowest_false}
use Rattle.dm_model.specs.Names.{home_of, home_of_call, mount_and_owner_in, mount_name, names_of, names_of_call}
use Rattle.dm_model.specs.Plan.{Needs, Plan, guards_always, guards_of, guards_of_fault, illegal_call, illegal_fault, prepared_plan, refusal_of}
use Rattle.dm_model.specs.Step.{Stepped, after_call, after_fault, after_landing, daemon_doubt, doubt_outcome, group_doubt, landing_outcome_in, look_outcome_in, needs_of, outcome_of, plan_of, step, volume_plan_in}
use Rattle.dm_model.specs.VolumeCalls.{is_range, mount_in, mounted_plan, volume_plan}
use Rattle.dm_shown.specs.Along.{GoesOn}
use Rattle.dm_shown.proofs.EventsShown.{all_hold}
use Rattle.dm_spine.specs.Past.{In}
use Rattle.dm_copies.specs.Asked.{CopiesAreAsked}
use Rattle.dm_copies.specs.Done.{StaysDone}
use Rattle.dm_history.specs.Alike.{ForgetsOnly, SameGroups, image_of, library_of, mount_of}
use Rattle.dm_history.proofs.EventsTold.{outcome_is}
use Rattle.dm_history.proofs.PartsGo.{AllAlike, Library}
use Rattle.dm_history.proofs.PlansSame.{plan_by, plan_is, plan_same}
use Rattle.dm_pasts.proofs.GuardsGrow.{NeedsKeep, call_keeps}

-- ---- guards

front_holds : (ts us : List Guarded) → AllHold (ts ++ us) → AllHold ts
front_holds [] us all = tt
front_holds (t ∷ ts) us all = (all.0, front_holds ts us all.1)

back_holds : (ts us : List Guarded) → AllHold (ts ++ us) → AllHold us
back_holds [] us all = all
back_holds (t ∷ ts) us all = back_holds ts us all.1

both_hold : (ts us : List Guarded) → AllHold ts → AllHold us → AllHold (ts ++ us)
both_hold [] us front back = back
both_hold (t ∷ ts) us front back = (front.0, both_hold ts us front.1 back)

-- where every test holds none is the lowest that is false
none_false : (ts : List Guarded) → AllHold ts → lowest_false ts ≡ None
none_false [] hold = refl
none_false (t ∷ ts) hold =
    ap (λ b. cond b (lowest_false ts) (Some (lower_of t.1 (lowest_false ts)))) hold.0 ∙ none_false ts hold.1

-- what a plan's own guards say of it holds of another, and so does the rest of what they come to
record PlanKeeps (p q : Plan) : Type 0 where
  pub own : AllHold p.own → AllHold q.own
  pub making : AllHold p.making → AllHold q.making
  pub device : p.device ≡ q.device
  pub refusal : refusal_of p ≡ refusal_of q

plan_itself : (p : Plan) → PlanKeeps p p
plan_itself p = record { own = λ h. h; making = λ h. h; device = refl; refusal = refl }

plan_as : (p q : Plan) → p ≡ q → PlanKeeps p q
plan_as p q same = subst (λ x. PlanKeeps p x) same (plan_itself p)

module _ (p q : Plan) (n m : Needs) (plan : PlanKeeps p q) (needs : NeedsKeep n m) where
  always_keep : AllHold (guards_always p n) → AllHold (guards_always q m)
  always_keep hold =
      let front = front_holds (p.own ++ n.token) n.lasting hold in
      both_hold (q.own ++ m.token) m.lasting
      (both_hold q.own m.token (plan.own (front_holds p.own n.token front)) (needs.token (back_holds p.own n.token front)))
      (needs.lasting (back_holds (p.own ++ n.token) n.lasting hold))

  guards_keep : (o : Option Answer) → AllHold (guards_of o p n) → AllHold (guards_of o q m)
  guards_keep None hold =
      both_hold (guards_always q m) q.making (always_keep (front_holds (guards_always p n) p.making hold))
      (plan.making (back_holds (guards_always p n) p.making hold))
  guards_keep (Some refusal) hold = always_keep hold

  legal_keep : illegal_call p n ≡ None → illegal_call q m ≡ None
  legal_keep legal =
      none_false (guards_of (refusal_of q) q m)
      (subst (λ o. AllHold (guards_of o q m)) plan.refusal (guards_keep (refusal_of p) (all_hold (guards_of (refusal_of p) p n) legal)))

  fault_legal_keep : illegal_fault p n ≡ None → illegal_fault q m ≡ None
  fault_legal_keep legal =
      let hold = all_hold (guards_of_fault p n) legal in
      let device : List Guarded = (p.device, guard.DeviceUsed) ∷ [] in
      none_false (guards_of_fault q m)
      (both_hold (guards_always q m) ((q.device, guard.DeviceUsed) ∷ []) (always_keep (front_holds (guards_always p n) device hold))
      (sym plan.device ∙ (back_holds (guards_always p n) device hold).0, tt))

-- ---- plans

-- fewer places are known, so what agreed agrees
agrees_still : (known fewer : Known) → ((place b : ℕ) → map.get fewer place ≡ Some b → map.get known place ≡ Some b) → (place : ℕ) (bytes : List ℕ)
    → agrees_with_known known place bytes ≡ true → agrees_with_known fewer place bytes ≡ true
agrees_still known fewer less place bytes agree =
    agrees-each fewer place bytes (λ i b below is. each-agrees known place bytes agree i b below (less (place + i) b is))

or_still : (x a b : Bool) → (a ≡ true → b ≡ true) → (x || a) ≡ true → (x || b) ≡ true
or_still true a b on hold = refl
or_still false a b on hold = on hold

mounted_keeps : (g : GroupId) (vsn : Vsn) (i k : Image) (x : MountState) (c : VolumeCall) → ForgetsOnly (Some i) (Some k)
    → PlanKeeps (mounted_plan g vsn i x c) (mounted_plan g vsn k x c)
mounted_keeps g vsn i k x (volume_call.WriteZone m place zone) less = record { own = λ h. h; making = λ h. h; device = refl; refusal = refl }
mounted_keeps g vsn i k x (volume_call.ReadChunk m place n bytes) less = record {
  own = λ h. (sym (ap (λ (size : ℕ). is_range size place n) less.0) ∙ h.0, tt);
  making = λ h. (h.0, (or_still (not x.bound) (agrees_with_known i.known place bytes) (agrees_with_known k.known place bytes) (agrees_still i.known k.known less.1 place bytes) h.1.0, tt));
  device = refl;
  refusal = refl;
}
mounted_keeps g vsn i k x (volume_call.Relabel m epoch version) less = record { own = λ h. h; making = λ h. h; device = refl; refusal = refl }

image_keeps : (g : GroupId) (vsn : Vsn) (a b : Option Image) (x : Option MountState) (c : VolumeCall) → ForgetsOnly a b
    → PlanKeeps (volume_plan g vsn a x c) (volume_plan g vsn b x c)
image_keeps g vsn None None x c less = plan_itself (volume_plan g vsn None x c)
image_keeps g vsn None (Some k) x c less = absurd less
image_keeps g vsn (Some i) None x c less = absurd less
image_keeps g vsn (Some i) (Some k) None c less = plan_itself (volume_plan g vsn (Some k) None c)
image_keeps g vsn (Some i) (Some k) (Some y) c less = mounted_keeps g vsn i k y c less

volume_keeps : (w : ℕ) (g : GroupId) (vsn : Vsn) (c : VolumeCall) (a b : Option SideState) → is_some a ≡ is_some b
    → ForgetsOnly (image_of vsn.0 a) (image_of vsn.0 b)
    → (In (mount_name g (mount_in c)) (mount_and_owner_in w g (mount_in c) a) → mount_of (mount_in c) a ≡ mount_of (mount_in c) b)
    → PlanKeeps (volume_plan_in g vsn c a) (volume_plan_in g vsn c b)
volume_keeps w g vsn c None None keys image mount = plan_itself (no_group g)
volume_keeps w g vsn c None (Some t) keys image mount = cc
volume_keeps w g vsn c (Some s) None keys image mount = cc
volume_keeps w g vsn c (Some s) (Some t) keys image mount =
    subst (λ (x : Option MountState). PlanKeeps (volume_plan g vsn (map.get s.images vsn.0) (map.get s.mounts (mount_in c)) c) (volume_plan g vsn (map.get t.images vsn.0) x c))
    (mount (inl refl))
    (image_keeps g vsn (map.get s.images vsn.0) (map.get t.images vsn.0) (map.get s.mounts (mount_in c)) c image)

plan_keeps : (w : ℕ) (j k : Joint) (c : Call) → SameGroups j k → AllAlike (home_of_call c ∷ names_of_call j w c) j k → PlanKeeps (plan_of j c) (plan_of k c)
plan_keeps w j k (call.Daemon c) keys alike = plan_as _ _ (ap (λ (d : DaemonState). daemon_plan d c) (alike Daemon (inl refl)))
plan_keeps w j k (call.Group g c) keys alike =
    plan_as _ _
    (plan_is g c (map.get j.sides g.0)
    ∙ (ap (plan_by g c) (alike (Side g part.Itself) (inl refl)) ∙ sym (plan_is g c (map.get k.sides g.0))))
plan_keeps w j k (call.Volume g vsn c) keys alike =
    volume_keeps w g vsn c (map.get j.sides g.0) (map.get k.sides g.0) (keys g.0) (alike (Side g (part.Volume vsn)) (inl refl))
    (λ h. alike (mount_name g (mount_in c)) (inr h))

-- ---- events

-- the event is legal there, with this answer
pub record IsStepped (k : Joint) (w : ℕ) (e : Event) (a : Answer) : Type 0 where
  pub after : Joint
  pub is : step k w e ≡ Stepped after a

module _ (j k : Joint) (w : ℕ) (keys : SameGroups j k) (done : StaysDone j.history k.history) (asked : CopiesAreAsked k) where
  call_grows : (c : Call) (i : Joint) (a : Answer) → AllAlike (home_of_call c ∷ names_of_call j w c) j k
      → step j w (event.Call c) ≡ Stepped i a → IsStepped k w (event.Call c) a
  call_grows c i a alike is =
      let p = plan_of j c in
      let q = plan_of k c in
      let o = legal (illegal_call p (needs_of j w c)) (after_call w (prepared_plan p) j) i (prepared_plan p).answer a is in
      let still = legal_keep p q (needs_of j w c) (needs_of k w c) (plan_keeps w j k c keys alike) (call_keeps j k w keys done asked c alike).0 o.0 in
      let same = ap (λ (r : Prepared). r.answer) (plan_same w j k c keys alike) in
      record {
        after = after_call w (prepared_plan q) k;
        is = ap (λ (x : Option Guard). outcome_of x (after_call w (prepared_plan q) k) (prepared_plan q).answer) still
            ∙ ap (λ (b : Answer). Stepped (after_call w (prepared_plan q) k) b) (sym same ∙ o.1);
      }
    where
      legal : (g : Option Guard) (after i : Joint) (b a : Answer) → outcome_of g after b ≡ Stepped i a → (g ≡ None) × (b ≡ a)
      legal None after i b a is = (refl, (outcome_is None after i b a is).1)
      legal (Some g) after i b a is = absurd (cc)

  fault_grows : (c : Call) (healed checkpointed : Bool) (i : Joint) (a : Answer) → AllAlike (home_of_call c ∷ names_of_call j w c) j k
      → step j w (event.Fault c healed checkpointed) ≡ Stepped i a → IsStepped k w (event.Fault c healed checkpointed) a
  fault_grows c healed checkpointed i a alike is =
      let p = plan_of j c in
      let q = plan_of k c in
      let far = healed && checkpointed in
      let o = legal (illegal_fault p (needs_of j w c)) (after_fault w (prepared_plan p) far j) i answer.Failed a is in
      let still = fault_legal_keep p q (needs_of j w c) (needs_of k w c) (plan_keeps w j k c keys alike) (call_keeps j k w keys done asked c alike).0 o.0 in
      record {
        after = after_fault w (prepared_plan q) far k;
        is = ap (λ (x : Option Guard). outcome_of x (after_fault w (prepared_plan q) far k) answer.Failed) still
            ∙ ap (λ (b : Answer). Stepped (after_fault w (prepared_plan q) far k) b) o.1;
      }
    where
      legal : (g : Option Guard) (after i : Joint) (b a : Answer) → outcome_of g after b ≡ Stepped i a → (g ≡ None) × (b ≡ a)
      legal None after i b a is = (refl, (outcome_is None after i b a is).1)
      legal (Some g) after i b a is = absurd (cc)

  landing_grows : (c : Component) (o : Option Payload) (i : Joint) (a : Answer) → doubt_outcome j c o ≡ Stepped i a
      → (after : Joint) × (doubt_outcome k c o ≡ Stepped after a)
  landing_grows c None i a is = absurd (cc)
  landing_grows c (Some p) i a is =
      (after_landing c p k, ap (λ (b : Answer). Stepped (after_landing c p k) b) (answer_is (after_landing c p j) i answer.Landed a is))
    where
      answer_is : (x y : Joint) (b a : Answer) → Stepped x b ≡ Stepped y a → b ≡ a
      answer_is x y b a same = cc

  daemon_landing_grows : (i : Joint) (a : Answer) → j.daemon ≡ k.daemon → step j w (event.Landed component.Daemon) ≡ Stepped i a
      → IsStepped k w (event.Landed component.Daemon) a
  daemon_landing_grows i a same is =
      let at = landing_grows component.Daemon (daemon_doubt j) i a is in
      record {
        after = at.0;
        is = subst (λ (d : DaemonState). doubt_outcome k component.Daemon (option_map (λ r. payload.Daemon r) d.doubt) ≡ Stepped at.0 a) same at.1;
      }

  -- the doubt of a group, by its library server
  abbrev DoubtBy : GroupId → Library → Option Payload
  DoubtBy g None = None
  DoubtBy g (Some l) = option_map (λ r. payload.Group g r) l.0.doubt

  group_landing_grows : (g : GroupId) (o p : Option SideState) (i : Joint) (a : Answer) → library_of o ≡ library_of p → landing_outcome_in j g o ≡ Stepped i a
      → (after : Joint) × (landing_outcome_in k g p ≡ Stepped after a)
  group_landing_grows g None p i a same is = absurd (cc)
  group_landing_grows g (Some s) None i a same is = absurd (cc)
  group_landing_grows g (Some s) (Some t) i a same is =
      let at = landing_grows (component.Group g) (group_doubt g s) i a is in
      (at.0, subst (λ (l : Library). doubt_outcome k (component.Group g) (DoubtBy g l) ≡ Stepped at.0 a) same at.1)

  look_grows : (o p : Option SideState) (i : Joint) (a : Answer) → is_some o ≡ is_some p → look_outcome_in j o ≡ Stepped i a
      → (after : Joint) × (look_outcome_in k p ≡ Stepped after a)
  look_grows None p i a same is = absurd (cc)
  look_grows (Some s) None i a same is = absurd (cc)
  look_grows (Some s) (Some t) i a same is = (k, ap (λ (b : Answer). Stepped k b) (answer_is j i answer.Looked a is))
    where
      answer_is : (x y : Joint) (b a : Answer) → Stepped x b ≡ Stepped y a → b ≡ a
      answer_is x y b a same = cc

  daemon_look_grows : (i : Joint) (a : Answer) → Stepped j answer.Looked ≡ Stepped i a → Stepped k answer.Looked ≡ Stepped k a
  daemon_look_grows i a is = cc

  -- an event that is legal in j is legal in k, with the same answer
  pub event_grows : (e : Event) (i : Joint) (a : Answer) → GoesOn e → AllAlike (home_of e ∷ names_of j w e) j k → step j w e ≡ Stepped i a → IsStepped k w e a
  event_grows (event.Call c) i a goes alike is = call_grows c i a alike is
  event_grows (event.Fault c healed checkpointed) i a goes alike is = fault_grows c healed checkpointed i a alike is
  event_grows (event.Landed component.Daemon) i a goes alike is = daemon_landing_grows i a (alike Daemon (inl refl)) is
  event_grows (event.Landed (component.Group g)) i a goes alike is =
      let at = group_landing_grows g (map.get j.sides g.0) (map.get k.sides g.0) i a (alike (Side g part.Itself) (inl refl)) is in
      record { after = at.0; is = at.1 }
  event_grows (event.Look component.Daemon) i a goes alike is = record { after = k; is = daemon_look_grows i a is }
  event_grows (event.Look (component.Group g)) i a goes alike is =
      let at = look_grows (map.get j.sides g.0) (map.get k.sides g.0) i a (keys g.0) is in
      record { after = at.0; is = at.1 }
  event_grows event.Stop i a goes alike is = absurd goes

  -- and it is about the same names there
  pub names_same : (e : Event) → AllAlike (home_of e ∷ names_of j w e) j k → names_of j w e ≡ names_of k w e
  names_same (event.Call c) alike = (call_keeps j k w keys done asked c alike).1
  names_same (event.Fault c healed checkpointed) alike = (call_keeps j k w keys done asked c alike).1
  names_same (event.Landed c) alike = refl
  names_same (event.Look c) alike = refl
  names_same event.Stop alike = refl
