-- Each legal event of a group keeps the invariant, and so does each run of them.
use Rattle.std.proofs.Common.{◌≡◌, ℕ, Bool, ◌&&◌, Option, Some, None, is_some, List, [], ◌∷◌, option_map, refl, subst}
use Rattle.std.specs.List.{AllByRecursion}
use Rattle.std.specs.FinMap as map
use Rattle.dm_base.specs.declared.identifier.GroupId.{GroupId}
use Rattle.dm_durable.specs.declared.group.GroupRecord.{GroupRecord}
use Rattle.dm_model.specs.declared.answer.Answer.{Answer}
use Rattle.dm_model.specs.declared.call.Call.TheVariants as call
use Rattle.dm_model.specs.declared.call.Component.{Component}
use Rattle.dm_model.specs.declared.call.Component.TheVariants as component
use Rattle.dm_model.specs.declared.call.Event.{Event}
use Rattle.dm_model.specs.declared.call.Event.TheVariants as event
use Rattle.dm_model.specs.declared.call.GroupCall.{GroupCall}
use Rattle.dm_model.specs.declared.call.GroupCall.TheVariants as group_call
use Rattle.dm_model.specs.declared.guard.Guard.{Guard}
use Rattle.dm_model.specs.declared.plan.Payload.{Payload}
use Rattle.dm_model.specs.declared.plan.Payload.TheVariants as payload
use Rattle.dm_model.specs.declared.state.Joint.{Joint}
use Rattle.dm_model.specs.declared.state.Side.{Side}
use Rattle.dm_model.specs.GroupCalls.{group_needs, group_plan, no_group}
use Rattle.dm_model.specs.Plan.{Needs, Plan, guards_always, guards_of, guards_of_fault, illegal_call, illegal_fault, no_needs, prepared_plan, refusal_of}
use Rattle.dm_model.specs.Step.{RunEntry, Run, Stepped, after_call, after_fault, after_landing, call_outcome, fault_outcome, group_doubt, doubt_outcome, landing_outcome_in, look_outcome, look_outcome_in, outcome_of, side_needs, side_plan, step}
use Rattle.dm_invariant.specs.Kept.{InvariantHolds}
use Rattle.dm_effects.proofs.BeginningCalls.{front_holds}
use Rattle.dm_group_effects.specs.OfGroup.{IsOfGroup}
use Rattle.dm_group_effects.proofs.CommitCall.{commit_kept}
use Rattle.dm_group_effects.proofs.GroupPlans.{CallKept, all_hold, never_kept}
use Rattle.dm_group_effects.proofs.MergeCalls.{merge_next_kept, reuse_next_kept}
use Rattle.dm_group_effects.proofs.MountCalls.{abort_kept, asking_kept, drop_move_kept, mount_chunk_kept, mount_new_kept, mount_piece_kept, quiet_kept, unmount_kept}
use Rattle.dm_group_effects.proofs.MoveCall.{move_done_kept}
use Rattle.dm_group_effects.proofs.PartsKept.{doubt_pays, landing_keeps}
use Rattle.dm_group_effects.proofs.StepCalls.{add_volume_kept, delete_kept, free_kept, reserve_kept, reuse_kept}

-- ---- calls

module _ (j : Joint) (kept : InvariantHolds j) (w : ℕ) (g : GroupId) (s : Side) (side : map.get j.sides g.0 ≡ Some s) where
  -- each legal call of the group, answered or failed
  pub group_call_kept : (c : GroupCall) → CallKept j w (group_plan g s.group c) (group_needs (map.get j.workers w) j.history g s c)
  group_call_kept group_call.Missing = quiet_kept j kept w g s side _ no_needs
  group_call_kept (group_call.MountNew vsn m) = mount_new_kept j kept w g s side vsn m
  group_call_kept (group_call.AddVolume m now) = add_volume_kept j kept w g s side m now.0 (map.get s.group.mounts m) refl
  group_call_kept (group_call.Reserve b len n) = reserve_kept j kept w g s side b len n
  group_call_kept (group_call.MountPiece n k m) = mount_piece_kept j kept w g s side n k m (map.get s.group.reservations n) refl
  group_call_kept (group_call.MountChunk b offset m) =
      mount_chunk_kept j kept w g s side b offset m (map.get j.workers w) (map.get s.group.tables.bitfiles b.0) refl
  group_call_kept (group_call.Unmount m) = unmount_kept j kept w g s side m (map.get s.group.mounts m) refl
  group_call_kept (group_call.Commit n sums now) = commit_kept j kept w g s side n sums now.0 (map.get s.group.reservations n) refl
  group_call_kept (group_call.Abort n) = abort_kept j kept w g s side n (map.get s.group.reservations n) refl
  group_call_kept (group_call.Delete b now) = delete_kept j kept w g s side b now.0 (is_some (map.get s.group.tables.bitfiles b.0)) refl
  group_call_kept group_call.MergeList = asking_kept j kept w g s side _ no_needs
  group_call_kept (group_call.MergeNext merged source job from to) = merge_next_kept j kept w g s side merged source job from to
  group_call_kept (group_call.MoveDone job sum now) = move_done_kept j kept w g s side job sum now.0 (map.get s.group.moves job) refl
  group_call_kept (group_call.DropMove job) = drop_move_kept j kept w g s side job (map.get s.group.moves job) refl
  group_call_kept (group_call.Free vsn now) = free_kept j kept w g s side vsn now.0 (map.get s.group.tables.volumes vsn.0) refl
  group_call_kept (group_call.ReuseNext m now) = reuse_next_kept j kept w g s side m now.0
  group_call_kept (group_call.Reuse m now) = reuse_kept j kept w g s side m now.0 (map.get s.group.reuses m) refl
  group_call_kept group_call.Rows = asking_kept j kept w g s side _ no_needs
  group_call_kept group_call.Volumes = asking_kept j kept w g s side _ no_needs

-- also where the group may not be configured
side_call_kept : (j : Joint) → InvariantHolds j → (w : ℕ) (g : GroupId) (c : GroupCall) (o : Option Side) → map.get j.sides g.0 ≡ o
    → CallKept j w (side_plan g c o) (side_needs (map.get j.workers w) j.history g c o)
side_call_kept j kept w g c None is = never_kept j w (no_group g) no_needs (λ all. let f = all.0 in cc)
side_call_kept j kept w g c (Some s) is = group_call_kept j kept w g s is c

-- ---- events

-- an event that is answered was legal, and came to that state
pub outcome_is : (o : Option Guard) (after k : Joint) (b a : Answer) → outcome_of o after b ≡ Stepped k a → (o ≡ None) × (after ≡ k)
outcome_is None after k b a is = (refl, cc)
outcome_is (Some guard) after k b a is = absurd (cc)

-- so a call that was answered keeps the state, and one that failed
pub called_keeps : (j : Joint) (w : ℕ) (p : Plan) (n : Needs) → CallKept j w p n → (k : Joint) (a : Answer) → call_outcome j w p n ≡ Stepped k a → InvariantHolds k
called_keeps j w p n keeps k a is =
    let o = outcome_is (illegal_call p n) (after_call w (prepared_plan p) j) k (prepared_plan p).answer a is in
    subst InvariantHolds o.1 (keeps.answered (all_hold (guards_of (refusal_of p) p n) o.0))

pub faulted_keeps : (j : Joint) (w : ℕ) (p : Plan) (n : Needs) → CallKept j w p n → (far : Bool) (k : Joint) (a : Answer)
    → fault_outcome j w far p n ≡ Stepped k a → InvariantHolds k
faulted_keeps j w p n keeps far k a is =
    let o = outcome_is (illegal_fault p n) (after_fault w (prepared_plan p) far j) k _ a is in
    subst InvariantHolds o.1 (keeps.failed (front_holds (guards_always p n) _ (all_hold (guards_of_fault p n) o.0)) far)

-- a step in doubt that landed was there
landed_is : (j k : Joint) (c : Component) (o : Option Payload) (a : Answer) → doubt_outcome j c o ≡ Stepped k a
    → (p : Payload) × (o ≡ Some p) × (after_landing c p j ≡ k)
landed_is j k c None a is = absurd (cc)
landed_is j k c (Some p) a is = (p, refl, cc)

mapped_is : {X Y : Type 0} (f : X → Y) (o : Option X) (y : Y) → option_map f o ≡ Some y → (x : X) × (o ≡ Some x) × (f x ≡ y)
mapped_is f None y is = absurd (cc)
mapped_is f (Some x) y is = (x, refl, cc)

side_landed : (j : Joint) → InvariantHolds j → (g : GroupId) (k : Joint) (a : Answer) (o : Option Side) → map.get j.sides g.0 ≡ o
    → landing_outcome_in j g o ≡ Stepped k a → InvariantHolds k
side_landed j kept g k a None side is = absurd (cc)
side_landed j kept g k a (Some s) side is =
    let l = landed_is j k (component.Group g) (group_doubt g s) a is in
    let r = mapped_is (λ (r : GroupRecord). payload.Group g r) s.group.doubt l.0 l.1 in
    subst InvariantHolds l.2
    (subst (λ p. InvariantHolds (after_landing (component.Group g) p j)) r.2 (landing_keeps j kept g s side r.0 (doubt_pays j kept g s side r.0 r.1)))

-- and a look changed nothing
looked_is : (j k : Joint) (o : Option Side) (a : Answer) → look_outcome_in j o ≡ Stepped k a → j ≡ k
looked_is j k None a is = absurd (cc)
looked_is j k (Some s) a is = cc

look_is : (j k : Joint) (c : Component) (a : Answer) → look_outcome j c ≡ Stepped k a → j ≡ k
look_is j k component.Daemon a is = cc
look_is j k (component.Group g) a is = looked_is j k (map.get j.sides g.0) a is

module _ (j : Joint) (kept : InvariantHolds j) (w : ℕ) (k : Joint) (a : Answer) where
  -- a legal event of a group keeps the invariant
  pub event_keeps : (e : Event) → IsOfGroup e → step j w e ≡ Stepped k a → InvariantHolds k
  event_keeps (event.Call (call.Daemon c)) of is = absurd of
  event_keeps (event.Call (call.Group g c)) of is =
      let o = map.get j.sides g.0 in
      called_keeps j w (side_plan g c o) (side_needs (map.get j.workers w) j.history g c o) (side_call_kept j kept w g c o refl) k a is
  event_keeps (event.Call (call.Volume g vsn c)) of is = absurd of
  event_keeps (event.Fault (call.Daemon c) healed checkpointed) of is = absurd of
  event_keeps (event.Fault (call.Group g c) healed checkpointed) of is =
      let o = map.get j.sides g.0 in
      faulted_keeps j w (side_plan g c o) (side_needs (map.get j.workers w) j.history g c o) (side_call_kept j kept w g c o refl)
      (healed && checkpointed) k a is
  event_keeps (event.Fault (call.Volume g vsn c) healed checkpointed) of is = absurd of
  event_keeps (event.Landed component.Daemon) of is = absurd of
  event_keeps (event.Landed (component.Group g)) of is = side_landed j kept g k a (map.get j.sides g.0) refl is
  event_keeps (event.Look c) of is = subst InvariantHolds (look_is j k c a is) kept
  event_keeps event.Stop of is = absurd of

-- and so does a run of them
pub run_keeps : (j : Joint) (entries : List RunEntry) (k : Joint) → InvariantHolds j → AllByRecursion (λ e. IsOfGroup e.event) entries → Run j entries k → InvariantHolds k
run_keeps j [] k kept of run = subst InvariantHolds run kept
run_keeps j (e ∷ es) k kept of run = run_keeps run.0 es k (event_keeps j kept e.worker run.0 e.answer e.event of.0 run.1) of.1 run.2
