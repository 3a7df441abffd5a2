-- What a call comes to.
--
-- A plan is made of the call and of what its own component keeps, and of nothing else: so a component's contract can
-- cite it, and what a call does is the same in any two states in which the component is the same. What the call needs
-- of others stands apart, in `Needs`.
use Rattle.std.specs.Prelude.{Bool, true, false, Option, None, Some, List, [], ◌∷◌, ◌++◌}
use Rattle.dm_model.specs.declared.answer.Answer.{Answer}
use Rattle.dm_model.specs.declared.call.Component.{Component}
use Rattle.dm_model.specs.declared.guard.Guard.{Guard}
use Rattle.dm_model.specs.declared.guard.Guard.TheVariants as guard
use Rattle.dm_model.specs.declared.plan.Ending.{Ending}
use Rattle.dm_model.specs.declared.plan.Ending.TheVariants as ending
use Rattle.dm_model.specs.declared.plan.Mark.{Mark}
use Rattle.dm_model.specs.declared.plan.Mark.TheVariants as mark
use Rattle.dm_model.specs.declared.plan.Opening.{Opening}
use Rattle.dm_model.specs.declared.plan.Opening.TheVariants as opening
use Rattle.dm_model.specs.declared.plan.Payload.{Payload}
use Rattle.dm_model.specs.declared.plan.Prepared.{Prepared}
use Rattle.dm_model.specs.Guards.{Guarded, lowest_false, first_true}

-- The guards in `own` are of the component itself. Those in `making` are of what an accepted call makes or answers: a
-- call that is refused or fails doesn't need them. The first refusal whose test holds is the answer. A call that uses a
-- `device` may fail; one that `heals` settles the component's step in doubt first.
pub record Plan : Type 0 where
  pub component : Component
  pub device : Bool
  pub heals : Bool
  pub own : List Guarded
  pub making : List Guarded
  pub refusals : List (Bool × Answer)
  pub ends : Ending
  pub payload : Option Payload
  pub mark : Mark
  pub opens : Opening
  pub answer : Answer

-- the plan of a call that uses no device, may always be made, is never refused and changes nothing
abbrev pub quiet_plan : Component → Answer → Plan
quiet_plan component answer = record {
  component = component;
  device = false;
  heals = false;
  own = [];
  making = [];
  refusals = [];
  ends = ending.Nothing;
  payload = None;
  mark = mark.Nothing;
  opens = opening.Nothing;
  answer = answer;
}

-- the same of a call that heals, and so uses a device
abbrev pub healing_plan : Component → Answer → Plan
healing_plan component answer = record (quiet_plan component answer) { device = true; heals = true }

-- What a call needs of others: of its worker, and of the mounts, the reservation and the copy that it is about
-- (`token`); and of what elsewhere stays true once it is true (`lasting`). With that, what is legal in the part of the
-- past that a worker has seen is legal in the whole.
pub record Needs : Type 0 where
  pub token : List Guarded
  pub lasting : List Guarded

-- a call that needs nothing of others
abbrev pub no_needs : Needs
no_needs = record { token = []; lasting = [] }

-- the guards that a call needs whether it is accepted, is refused or fails
abbrev pub guards_always : Plan → Needs → List Guarded
guards_always p n = p.own ++ n.token ++ n.lasting

-- those of an accepted call too
abbrev pub guards_of : Option Answer → Plan → Needs → List Guarded
guards_of None p n = guards_always p n ++ p.making
guards_of (Some refusal) p n = guards_always p n

-- those of a fault: the call uses a device, and makes and answers nothing
abbrev pub guards_of_fault : Plan → Needs → List Guarded
guards_of_fault p n = guards_always p n ++ (p.device, guard.DeviceUsed) ∷ []

-- the refusal, if there is one
abbrev pub refusal_of : Plan → Option Answer
refusal_of p = first_true p.refusals

-- the lowest guard that is false, of a call and of its fault
abbrev pub illegal_call : Plan → Needs → Option Guard
illegal_call p n = lowest_false (guards_of (refusal_of p) p n)

abbrev pub illegal_fault : Plan → Needs → Option Guard
illegal_fault p n = lowest_false (guards_of_fault p n)

-- what an accepted call does; one that is refused does none of it
abbrev pub if_accepted : {X : Type 0} → Option Answer → X → X → X
if_accepted None none x = x
if_accepted (Some refusal) none x = none

abbrev pub answer_of : Option Answer → Answer → Answer
answer_of None answer = answer
answer_of (Some refusal) answer = refusal

-- the plan with the tests of its refusals made
abbrev pub prepared_plan : Plan → Prepared
prepared_plan p = record {
  component = p.component;
  heals = p.heals;
  ends = p.ends;
  payload = if_accepted (refusal_of p) None p.payload;
  mark = if_accepted (refusal_of p) mark.Nothing p.mark;
  opens = if_accepted (refusal_of p) opening.Nothing p.opens;
  answer = answer_of (refusal_of p) p.answer;
}
