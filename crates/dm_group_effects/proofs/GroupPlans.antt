-- A legal call of a group keeps the joint state, answered or failed, where its ending, its record, and what it makes fit.
use Rattle.std.proofs.Common.{◌≡◌, ◌⊎◌, inl, inr, ℕ, Bool, true, false, cond, Option, Some, None, List, [], ◌∷◌, ◌++◌, refl, sym, subst}
use Rattle.std.specs.FinMap as map
use Rattle.dm_base.specs.declared.identifier.GroupId.{GroupId}
use Rattle.dm_model.specs.declared.answer.Answer.{Answer}
use Rattle.dm_model.specs.declared.call.Component.{Component}
use Rattle.dm_model.specs.declared.call.Component.TheVariants as component
use Rattle.dm_model.specs.declared.plan.Ending.TheVariants as ending
use Rattle.dm_model.specs.declared.plan.Mark.{Mark}
use Rattle.dm_model.specs.declared.plan.Mark.TheVariants as mark
use Rattle.dm_model.specs.declared.plan.Opening.{Opening}
use Rattle.dm_model.specs.declared.plan.Opening.TheVariants as opening
use Rattle.dm_model.specs.declared.plan.Payload.{Payload}
use Rattle.dm_model.specs.declared.plan.Payload.TheVariants as payload
use Rattle.dm_model.specs.declared.state.Joint.{Joint}
use Rattle.dm_model.specs.declared.state.Side.{Side}
use Rattle.dm_model.specs.Effects.{after_ending, after_failed_mark, after_healing, after_mark, after_opening, after_payload, joint_with_doubt}
use Rattle.dm_model.specs.Guards.{AllHold, Guarded, NoneHold, first_true, lower_of, lowest_false}
use Rattle.dm_model.specs.Plan.{Needs, Plan, guards_always, guards_of, if_accepted, prepared_plan, refusal_of}
use Rattle.dm_model.specs.SideShare.{side_after_ending, side_after_opening, side_without_doubt}
use Rattle.dm_model.specs.Step.{after_call, after_fault}
use Rattle.dm_model.proofs.Shares.{EndsOf, OpensOf, ending-at, healing-at}
use Rattle.dm_invariant.specs.Kept.{InvariantHolds}
use Rattle.dm_effects.proofs.BeginningCalls.{always_hold}
use Rattle.dm_group_effects.proofs.PartsKept.{Pays, doubting_keeps, ending_keeps, healing_keeps, landing_keeps, opening_keeps}
use Rattle.dm_group_effects.proofs.SideChanges.{KeptAs}

-- ---- guards and refusals

-- every test holds where none is the lowest false one
pub all_hold : (ts : List Guarded) → lowest_false ts ≡ None → AllHold ts
all_hold [] e = tt
all_hold (t ∷ ts) e =
    elim t.0 as (λ b. cond b (lowest_false ts) (Some (lower_of t.1 (lowest_false ts))) ≡ None → (b ≡ true) × AllHold ts) [
      | true ↦ λ rest. (refl, all_hold ts rest)
      | false ↦ λ none. cc
    ] e

-- none holds where there is no first one
pub none_hold : {X : Type 0} (ts : List (Bool × X)) → first_true ts ≡ None → NoneHold ts
none_hold [] e = tt
none_hold (t ∷ ts) e =
    elim t.0 as (λ b. cond b (Some t.1) (first_true ts) ≡ None → (b ≡ false) × NoneHold ts) [
      | true ↦ λ none. cc
      | false ↦ λ rest. (refl, none_hold ts rest)
    ] e

-- ---- payloads

-- the record of a payload may land now, if there is one
abbrev pub PaysIf : Joint → GroupId → Side → Option Payload → Type 0
PaysIf j g s None = Unit {0}
PaysIf j g s (Some (payload.Daemon r)) = ⊥
PaysIf j g s (Some (payload.Group h r)) = (h ≡ g) × Pays j g.0 s r

module _ (j : Joint) (kept : InvariantHolds j) (g : GroupId) (s : Side) (side : map.get j.sides g.0 ≡ Some s) where
  paid_keeps : (heals : Bool) (p : Option Payload) → ((heals ≡ true) ⊎ (p ≡ None)) → PaysIf j g s p
      → InvariantHolds (after_payload p (after_healing heals (component.Group g) j))
  paid_keeps heals None healed pays = healing_keeps j kept g s side heals
  paid_keeps heals (Some (payload.Daemon r)) healed pays = absurd pays
  paid_keeps heals (Some (payload.Group h r)) (inr none) pays = absurd (cc)
  paid_keeps heals (Some (payload.Group h r)) (inl heal) pays =
      let lands = landing_keeps j kept g s side r pays.1 in
      let at = subst (λ (x : GroupId). InvariantHolds (after_payload (Some (payload.Group x r)) (after_healing true (component.Group g) j))) (sym pays.0) lands in
      subst (λ b. InvariantHolds (after_payload (Some (payload.Group h r)) (after_healing b (component.Group g) j))) (sym heal) at

  pub doubted_keeps : (far : Bool) (p : Option Payload) → PaysIf j g s p → InvariantHolds (joint_with_doubt (cond far p None) j)
  doubted_keeps false p pays = kept
  doubted_keeps true None pays = kept
  doubted_keeps true (Some (payload.Daemon r)) pays = absurd pays
  doubted_keeps true (Some (payload.Group h r)) pays =
      subst (λ (x : GroupId). InvariantHolds (joint_with_doubt (Some (payload.Group x r)) j)) (sym pays.0) (doubting_keeps j kept g s side r pays.1)

-- ---- calls

-- a legal call of this plan keeps the state, answered or failed
pub record CallKept (j : Joint) (w : ℕ) (p : Plan) (n : Needs) : Type 0 where
  pub answered : AllHold (guards_of (refusal_of p) p n) → InvariantHolds (after_call w (prepared_plan p) j)
  pub failed : AllHold (guards_always p n) → (far : Bool) → InvariantHolds (after_fault w (prepared_plan p) far j)

-- a plan that leaves no mark, makes nothing, and heals or journals nothing
pub record IsStep (g : GroupId) (p : Plan) : Type 0 where
  pub group : p.component ≡ component.Group g
  pub unmarked : p.mark ≡ mark.Nothing
  pub unmade : p.opens ≡ opening.Nothing
  pub healed : (p.heals ≡ true) ⊎ (p.payload ≡ None)

-- what it spends fits, and so does what it journals after that
pub record StepFits (j : Joint) (w : ℕ) (g : GroupId) (s : Side) (p : Plan) (n : Needs) : Type 0 where
  pub is : IsStep g p
  pub of : EndsOf g p.ends
  pub ends : AllHold (guards_always p n) → KeptAs j g.0 (map.get j.history.groups g.0) (side_after_ending p.ends s)
  pub pays : AllHold (guards_always p n) → NoneHold p.refusals → PaysIf (after_ending w p.ends j) g (side_after_ending p.ends s) p.payload

-- one that makes something, and spends, journals and leaves nothing
pub record IsOpening (g : GroupId) (p : Plan) : Type 0 where
  pub group : p.component ≡ component.Group g
  pub unended : p.ends ≡ ending.Nothing
  pub unpaid : p.payload ≡ None
  pub unmarked : p.mark ≡ mark.Nothing

-- what it makes fits after its heal
pub record OpeningFits (j : Joint) (g : GroupId) (s : Side) (p : Plan) (n : Needs) : Type 0 where
  pub is : IsOpening g p
  pub of : OpensOf g p.opens
  pub opens : AllHold (guards_always p n ++ p.making) → NoneHold p.refusals
      → KeptAs j g.0 (map.get j.history.groups g.0) (side_after_opening p.opens (side_without_doubt p.heals s))

-- a call that fails: what it spent is kept, and its record may be in doubt
failed_of : (j : Joint) → InvariantHolds j → (g : GroupId) (s : Side) → map.get j.sides g.0 ≡ Some s → (p : Option Payload) (m : Mark) (o : Option Answer)
    → m ≡ mark.Nothing → (o ≡ None → PaysIf j g s p) → (far : Bool)
    → InvariantHolds (joint_with_doubt (cond far (if_accepted o None p) None) (after_failed_mark (if_accepted o mark.Nothing m) j))
failed_of j kept g s side p m None unmarked pays far =
    subst (λ x. InvariantHolds (joint_with_doubt (cond far p None) (after_failed_mark x j))) (sym unmarked) (doubted_keeps j kept g s side far p (pays refl))
failed_of j kept g s side p m (Some a) unmarked pays far = doubted_keeps j kept g s side far None tt

-- and one that is answered
answered_of : (j : Joint) → InvariantHolds j → (w : ℕ) (g : GroupId) (s : Side) → map.get j.sides g.0 ≡ Some s
    → (heals : Bool) (c : Component) (p : Option Payload) (m : Mark) (x : Opening) (o : Option Answer)
    → c ≡ component.Group g → m ≡ mark.Nothing → x ≡ opening.Nothing → ((heals ≡ true) ⊎ (p ≡ None)) → (o ≡ None → PaysIf j g s p)
    → InvariantHolds (after_opening w (if_accepted o opening.Nothing x)
    (after_mark w (if_accepted o mark.Nothing m) (after_payload (if_accepted o None p) (after_healing heals c j))))
answered_of j kept w g s side heals c p m x None group unmarked unmade healed pays =
    let one = paid_keeps j kept g s side heals p healed (pays refl) in
    let two = subst (λ d. InvariantHolds (after_payload p (after_healing heals d j))) (sym group) one in
    let three = subst (λ y. InvariantHolds (after_mark w y (after_payload p (after_healing heals c j)))) (sym unmarked) two in
    subst (λ y. InvariantHolds (after_opening w y (after_mark w m (after_payload p (after_healing heals c j))))) (sym unmade) three
answered_of j kept w g s side heals c p m x (Some a) group unmarked unmade healed pays =
    subst (λ d. InvariantHolds (after_healing heals d j)) (sym group) (healing_keeps j kept g s side heals)

-- a call that makes something
opened_of : (j : Joint) → InvariantHolds j → (w : ℕ) (g : GroupId) (s : Side) → map.get j.sides g.0 ≡ Some s
    → (heals : Bool) (c : Component) (p : Option Payload) (m : Mark) (x : Opening) (o : Option Answer)
    → c ≡ component.Group g → p ≡ None → m ≡ mark.Nothing → OpensOf g x
    → (o ≡ None → KeptAs j g.0 (map.get j.history.groups g.0) (side_after_opening x (side_without_doubt heals s)))
    → InvariantHolds (after_opening w (if_accepted o opening.Nothing x)
    (after_mark w (if_accepted o mark.Nothing m) (after_payload (if_accepted o None p) (after_healing heals c j))))
opened_of j kept w g s side heals c p m x None group unpaid unmarked of opens =
    let healed = after_healing heals (component.Group g) j in
    let one = opening_keeps healed (healing_keeps j kept g s side heals) g (side_without_doubt heals s) (healing-at g heals j.sides s side) w x of
    (opens refl) in
    let two = subst (λ d. InvariantHolds (after_opening w x (after_healing heals d j))) (sym group) one in
    let three = subst (λ q. InvariantHolds (after_opening w x (after_payload q (after_healing heals c j)))) (sym unpaid) two in
    subst (λ y. InvariantHolds (after_opening w x (after_mark w y (after_payload p (after_healing heals c j))))) (sym unmarked) three
opened_of j kept w g s side heals c p m x (Some a) group unpaid unmarked of opens =
    subst (λ d. InvariantHolds (after_healing heals d j)) (sym group) (healing_keeps j kept g s side heals)

module _ (j : Joint) (kept : InvariantHolds j) (w : ℕ) (g : GroupId) (s : Side) (side : map.get j.sides g.0 ≡ Some s) (p : Plan) (n : Needs) where
  pub step_kept : StepFits j w g s p n → CallKept j w p n
  step_kept fits = record {
    answered = λ legal.
        let always = always_hold p n (refusal_of p) legal in
        let ended = ending_keeps j kept g s side w p.ends fits.of (fits.ends always) in
        answered_of (after_ending w p.ends j) ended w g (side_after_ending p.ends s) (ending-at g p.ends j.sides s fits.of side) p.heals p.component
        p.payload p.mark p.opens (refusal_of p) fits.is.group fits.is.unmarked fits.is.unmade fits.is.healed
        (λ none. fits.pays always (none_hold p.refusals none));
    failed = λ always far.
        let ended = ending_keeps j kept g s side w p.ends fits.of (fits.ends always) in
        failed_of (after_ending w p.ends j) ended g (side_after_ending p.ends s) (ending-at g p.ends j.sides s fits.of side)
        p.payload p.mark (refusal_of p) fits.is.unmarked (λ none. fits.pays always (none_hold p.refusals none)) far;
  }

  accepted : (o : Option Answer) → o ≡ None → AllHold (guards_of o p n) → AllHold (guards_always p n ++ p.making)
  accepted None none legal = legal
  accepted (Some a) none legal = absurd (cc)

  pub opening_kept : OpeningFits j g s p n → CallKept j w p n
  opening_kept fits = record {
    answered = λ legal.
        subst
        (λ e. InvariantHolds (after_opening w (if_accepted (refusal_of p) opening.Nothing p.opens)
        (after_mark w (if_accepted (refusal_of p) mark.Nothing p.mark)
        (after_payload (if_accepted (refusal_of p) None p.payload) (after_healing p.heals p.component (after_ending w e j))))))
        (sym fits.is.unended)
        (opened_of j kept w g s side p.heals p.component p.payload p.mark p.opens (refusal_of p) fits.is.group fits.is.unpaid fits.is.unmarked fits.of
        (λ none. fits.opens (accepted (refusal_of p) none legal) (none_hold p.refusals none)));
    failed = λ always far.
        subst
        (λ e. InvariantHolds (joint_with_doubt (cond far (if_accepted (refusal_of p) None p.payload) None)
        (after_failed_mark (if_accepted (refusal_of p) mark.Nothing p.mark) (after_ending w e j))))
        (sym fits.is.unended)
        (failed_of j kept g s side p.payload p.mark (refusal_of p) fits.is.unmarked
        (λ none. subst (PaysIf j g s) (sym fits.is.unpaid) tt) far);
  }

-- a call that may never be made
pub never_kept : (j : Joint) (w : ℕ) (p : Plan) (n : Needs) → (AllHold (guards_always p n) → ⊥) → CallKept j w p n
never_kept j w p n never = record {
  answered = λ legal. absurd (never (always_hold p n (refusal_of p) legal));
  failed = λ always far. absurd (never always);
}
