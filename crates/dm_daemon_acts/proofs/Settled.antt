-- A call of a state in which a step is in doubt: whether it landed or not, what the machine does is `Did`.
use Rattle.std.proofs.Common.{◌≡◌, inl, ℕ, Bool, true, false, Option, None, Some, List, [], ◌∷◌, refl, sym, ap, ◌∙◌, subst}
use Rattle.std.specs.FinMap as map
use Rattle.std.specs.Option.{option_map}
use Rattle.dm_base.specs.declared.identifier.Bfid.{Bfid}
use Rattle.dm_base.specs.declared.identifier.GroupId.{GroupId}
use Rattle.dm_durable.specs.declared.daemon.Contents.{Contents}
use Rattle.dm_durable.specs.declared.daemon.Contents.TheVariants as contents
use Rattle.dm_durable.specs.declared.daemon.Dump.{Dump}
use Rattle.dm_durable.specs.declared.daemon.DumpInode.{DumpInode}
use Rattle.dm_durable.specs.declared.daemon.Entry.{Entry}
use Rattle.dm_durable.specs.Dumps.{file_in}
use Rattle.dm_model.specs.declared.state.OpenRequest.{OpenRequest}
use Rattle.dm_model.specs.Files.{File, file_at}
use Rattle.dm_daemon_acts.proofs.Events.{answered, failed}
use Rattle.dm_daemon_acts.proofs.Follows.{accepted_may_follow}
use Rattle.dm_daemon_acts.specs.Acts.{Did, Does, DoesPlan, IsAnswer, IsFault, Ready}
use Rattle.dm_durable.specs.declared.daemon.DaemonRecord.{DaemonRecord}
use Rattle.dm_durable.specs.DaemonConditions.{MayFollow}
use Rattle.dm_model.specs.declared.answer.Answer.{Answer}
use Rattle.dm_model.specs.declared.call.Call.TheVariants as of
use Rattle.dm_model.specs.declared.call.Component.TheVariants as component
use Rattle.dm_model.specs.declared.call.DaemonCall.{DaemonCall}
use Rattle.dm_model.specs.declared.call.DaemonCall.TheVariants as call
use Rattle.dm_model.specs.declared.call.Event.TheVariants as event
use Rattle.dm_model.specs.declared.plan.Ending.{Ending}
use Rattle.dm_model.specs.declared.plan.Ending.TheVariants as ending
use Rattle.dm_model.specs.declared.plan.Payload.TheVariants as payload
use Rattle.dm_model.specs.declared.plan.Prepared.{Prepared}
use Rattle.dm_model.specs.declared.state.Daemon.{Daemon}
use Rattle.dm_model.specs.declared.state.Joint.{Joint}
use Rattle.dm_model.specs.DaemonCalls.{attributes, begin_put, begin_recall, begin_recall_of, copy_stored, daemon_plan, drop_recall, dropped, end_put, end_recall, hard_delete_of, patch, release, remove, restore, restore_file, taken_at, time_at}
use Rattle.dm_model.specs.DaemonShare.{daemon_after_call, daemon_after_ending, daemon_after_heal, daemon_after_opening, daemon_after_payload, daemon_doubting, daemon_settled, daemon_with_doubt, daemon_without_doubt}
use Rattle.dm_model.specs.Plan.{Plan, prepared_plan}
use Rattle.dm_model.specs.Step.{Stepped, doubt_outcome, state_after, step}

-- the daemon with no step in doubt
abbrev sure : Daemon → Daemon
sure d = record d { doubt = None }

-- no plan looks at the step in doubt
plan_sure : (d : Daemon) (c : DaemonCall) → daemon_plan d c ≡ daemon_plan (sure d) c
plan_sure d (call.BeginPut path asked now k) = refl
plan_sure d (call.CopyStored k group now) = refl
plan_sure d (call.EndPut k now) = refl
plan_sure d (call.Release path now) = refl
plan_sure d (call.BeginRecall path k) = refl
plan_sure d (call.EndRecall k bytes now) = refl
plan_sure d (call.DropRecall k) = refl
plan_sure d (call.Write path bytes now) = refl
plan_sure d (call.Patch path offset bytes now) = refl
plan_sure d (call.Remove path now) = refl
plan_sure d (call.MakeDump name now) = refl
plan_sure d (call.Undump name now) = refl
plan_sure d (call.Restore name path target now) = refl
plan_sure d (call.SetAge age now) = refl
plan_sure d (call.HardDelete now) = refl
plan_sure d (call.NextDropping after) = refl
plan_sure d (call.Dropped b now) = refl
plan_sure d (call.Attributes path) = refl
plan_sure d call.List = refl

ending_sure : (e : Ending) (d : Daemon) → sure (daemon_after_ending e d) ≡ sure (daemon_after_ending e (sure d))
ending_sure ending.Nothing d = refl
ending_sure (ending.Put k b groups) d = refl
ending_sure (ending.Recall k) d = refl
ending_sure (ending.Reservation g n b) d = refl
ending_sure (ending.Mount g m) d = refl
ending_sure (ending.Move g job source target) d = refl

-- a call that settles leaves nothing of it
call_sure : (p : Prepared) (d : Daemon) → p.heals ≡ true → p.component ≡ component.Daemon
    → daemon_after_call p d ≡ daemon_after_call p (sure d)
call_sure p d heals of =
    let behind : Daemon → Daemon = λ x. daemon_after_opening p.opens (daemon_after_payload p.payload x) in
    (λ i. behind (daemon_without_doubt (heals i) (of i) (daemon_after_ending p.ends d)))
    ∙ ap behind (ending_sure p.ends d)
    ∙ (λ i. behind (daemon_without_doubt (sym heals i) (sym of i) (daemon_after_ending p.ends (sure d))))

-- every plan is of the daemon
abbrev OfDaemon : Plan → Type 0
OfDaemon p = p.component ≡ component.Daemon

begin_put_of : (d : Daemon) (path : List ℕ) (asked : List (Option GroupId)) (now k : ℕ) (o : Option File) → OfDaemon (begin_put d path asked now k o)
begin_put_of d path asked now k None = refl
begin_put_of d path asked now k (Some f) = refl

copy_stored_of : (d : Daemon) (g : GroupId) (now : ℕ) (o : Option OpenRequest) → OfDaemon (copy_stored d g now o)
copy_stored_of d g now None = refl
copy_stored_of d g now (Some r) = refl

end_put_of : (d : Daemon) (k now : ℕ) (o : Option OpenRequest) → OfDaemon (end_put d k now o)
end_put_of d k now None = refl
end_put_of d k now (Some r) = refl

release_of : (d : Daemon) (path : List ℕ) (now : ℕ) (o : Option File) → OfDaemon (release d path now o)
release_of d path now None = refl
release_of d path now (Some f) = refl

begin_recall_of_contents : (d : Daemon) (k : ℕ) (f : File) (c : Contents) → OfDaemon (begin_recall_of d k f c)
begin_recall_of_contents d k f (contents.Regular bytes) = refl
begin_recall_of_contents d k f (contents.Making bytes b) = refl
begin_recall_of_contents d k f (contents.Dual bytes b) = refl
begin_recall_of_contents d k f (contents.Offline len b) = refl

begin_recall_if : (d : Daemon) (k : ℕ) (o : Option File) → OfDaemon (begin_recall d k o)
begin_recall_if d k None = refl
begin_recall_if d k (Some f) = begin_recall_of_contents d k f f.inode.contents

end_recall_of : (d : Daemon) (k : ℕ) (bytes : List ℕ) (now : ℕ) (o : Option OpenRequest) → OfDaemon (end_recall d k bytes now o)
end_recall_of d k bytes now None = refl
end_recall_of d k bytes now (Some r) = refl

drop_recall_of : (d : Daemon) (k : ℕ) (o : Option OpenRequest) → OfDaemon (drop_recall d k o)
drop_recall_of d k None = refl
drop_recall_of d k (Some r) = refl

patch_of : (d : Daemon) (path : List ℕ) (offset : ℕ) (bytes : List ℕ) (now : ℕ) (o : Option File) → OfDaemon (patch d path offset bytes now o)
patch_of d path offset bytes now None = refl
patch_of d path offset bytes now (Some f) = refl

remove_of : (d : Daemon) (path : List ℕ) (now : ℕ) (o : Option File) → OfDaemon (remove d path now o)
remove_of d path now None = refl
remove_of d path now (Some f) = refl

restore_file_of : (d : Daemon) (name path target : List ℕ) (now : ℕ) (dump : Dump) (o : Option DumpInode)
    → OfDaemon (restore_file d name path target now dump o)
restore_file_of d name path target now dump None = refl
restore_file_of d name path target now dump (Some file) = refl

restore_of : (d : Daemon) (name path target : List ℕ) (now : ℕ) (o : Option Dump) → OfDaemon (restore d name path target now o)
restore_of d name path target now None = refl
restore_of d name path target now (Some dump) = restore_file_of d name path target now dump (file_in (Some dump) path)

hard_delete_of_list : (d : Daemon) (now : ℕ) (bfids : List Bfid) → OfDaemon (hard_delete_of d now bfids)
hard_delete_of_list d now [] = refl
hard_delete_of_list d now (b ∷ bs) = refl

dropped_of : (d : Daemon) (b : Bfid) (now : ℕ) (o : Option Entry) → OfDaemon (dropped d b now o)
dropped_of d b now None = refl
dropped_of d b now (Some e) = refl

attributes_of : (d : Daemon) (path : List ℕ) (o : Option File) → OfDaemon (attributes d path o)
attributes_of d path None = refl
attributes_of d path (Some f) = refl

plan_of_daemon : (d : Daemon) (c : DaemonCall) → OfDaemon (daemon_plan d c)
plan_of_daemon d (call.BeginPut path asked now k) = begin_put_of d path asked now.0 k (file_at d path)
plan_of_daemon d (call.CopyStored k group now) = copy_stored_of d group now.0 (map.get d.requests k)
plan_of_daemon d (call.EndPut k now) = end_put_of d k now.0 (map.get d.requests k)
plan_of_daemon d (call.Release path now) = release_of d path now.0 (file_at d path)
plan_of_daemon d (call.BeginRecall path k) = begin_recall_if d k (file_at d path)
plan_of_daemon d (call.EndRecall k bytes now) = end_recall_of d k bytes now.0 (map.get d.requests k)
plan_of_daemon d (call.DropRecall k) = drop_recall_of d k (map.get d.requests k)
plan_of_daemon d (call.Write path bytes now) = refl
plan_of_daemon d (call.Patch path offset bytes now) = patch_of d path offset bytes now.0 (file_at d path)
plan_of_daemon d (call.Remove path now) = remove_of d path now.0 (file_at d path)
plan_of_daemon d (call.MakeDump name now) = refl
plan_of_daemon d (call.Undump name now) = refl
plan_of_daemon d (call.Restore name path target now) = restore_of d name path target now.0 (map.get d.tables.dumps name)
plan_of_daemon d (call.SetAge age now) = refl
plan_of_daemon d (call.HardDelete now) = hard_delete_of_list d now.0 (taken_at d (time_at d now.0))
plan_of_daemon d (call.NextDropping after) = refl
plan_of_daemon d (call.Dropped b now) = dropped_of d b now.0 (map.get d.tables.entries b.0)
plan_of_daemon d (call.Attributes path) = attributes_of d path (file_at d path)
plan_of_daemon d call.List = refl

heal_false_of : (d : Daemon) (doubt : Option DaemonRecord) → sure d ≡ daemon_settled false doubt d
heal_false_of d None = refl
heal_false_of d (Some r) = refl

heal_false : (d : Daemon) → sure d ≡ daemon_after_heal false d
heal_false d = heal_false_of d d.doubt

-- what a call does where a step is in doubt that did not land
pub does_sure : (d new : Daemon) (c : DaemonCall) (a : Answer) → (daemon_plan d c).heals ≡ true
    → Does d new c (IsAnswer a) → Does (daemon_after_heal false d) new c (IsAnswer a)
does_sure d new c a heals does =
    let same = call_sure (prepared_plan (daemon_plan d c)) d heals (plan_of_daemon d c) in
    let first : DoesPlan (daemon_plan d c) (sure d) new (IsAnswer a) = (does.0, does.1 ∙ same) in
    let second : Does (sure d) new c (IsAnswer a) = subst (λ p. DoesPlan p (sure d) new (IsAnswer a)) (plan_sure d c) first in
    subst (λ x. Does x new c (IsAnswer a)) (heal_false d) second

-- a step that may land later stands in the place of the one in doubt
pub fails_sure : (d new : Daemon) (c : DaemonCall) (r : DaemonRecord) → (prepared_plan (daemon_plan d c)).payload ≡ Some (payload.Daemon r)
    → Does d new c IsFault → Does (daemon_after_heal false d) new c IsFault
fails_sure d new c r pays does =
    let p = prepared_plan (daemon_plan d c) in
    let same : daemon_doubting p.payload (daemon_after_ending p.ends d) ≡ daemon_doubting p.payload (daemon_after_ending p.ends (sure d)) =
    (λ i. daemon_doubting (pays i) (daemon_after_ending p.ends d))
    ∙ ap (daemon_with_doubt (Some r)) (ending_sure p.ends d)
    ∙ (λ i. daemon_doubting (sym pays i) (daemon_after_ending p.ends (sure d))) in
    let first : DoesPlan (daemon_plan d c) (sure d) new IsFault = does ∙ same in
    let second : Does (sure d) new c IsFault = subst (λ q. DoesPlan q (sure d) new IsFault) (plan_sure d c) first in
    subst (λ x. Does x new c IsFault) (heal_false d) second

pub failed_call : (j k : Joint) (w : ℕ) (c : DaemonCall) (a : Answer) (r : DaemonRecord)
    → (prepared_plan (daemon_plan j.daemon c)).payload ≡ Some (payload.Daemon r)
    → step j w (event.Fault (of.Daemon c) true true) ≡ Stepped k a → Did j.daemon k.daemon false c IsFault
failed_call j k w c a r pays is = inl (fails_sure j.daemon k.daemon c r pays (failed j k w c a is))

-- a call of the machine
pub called : (j k : Joint) (w : ℕ) (c : DaemonCall) (a : Answer) → (daemon_plan j.daemon c).heals ≡ true
    → step j w (event.Call (of.Daemon c)) ≡ Stepped k a → Did j.daemon k.daemon false c (IsAnswer a)
called j k w c a heals is = inl (does_sure j.daemon k.daemon c a heals (answered j k w c a is))

landing_state : (j k : Joint) (a : Answer) (o : Option DaemonRecord)
    → doubt_outcome j component.Daemon (option_map (λ r. payload.Daemon r) o) ≡ Stepped k a → k.daemon ≡ daemon_settled true o j.daemon
landing_state j k a None is = cc
landing_state j k a (Some r) is = ap (λ x. x.daemon) (sym (ap (state_after j) is))

-- a step that landed, and then a call
pub landed_called : (j m k : Joint) (v w : ℕ) (c : DaemonCall) (a b : Answer) → step j v (event.Landed component.Daemon) ≡ Stepped m b
    → step m w (event.Call (of.Daemon c)) ≡ Stepped k a → Did j.daemon k.daemon true c (IsAnswer a)
landed_called j m k v w c a b landed is =
    let settled = landing_state j m b j.daemon.doubt landed in
    inl (subst (λ x. Does x k.daemon c (IsAnswer a)) settled (answered m k w c a is))

-- what a call that is ready journals may follow, whatever became of the step in doubt
pub ready_may_follow : (d : Daemon) (c : DaemonCall) (landed : Bool) (r : DaemonRecord) → Ready d c
    → (prepared_plan (daemon_plan (daemon_after_heal landed d) c)).payload ≡ Some (payload.Daemon r)
    → MayFollow (daemon_after_heal landed d).tables r
ready_may_follow d c landed r ready pays = accepted_may_follow (daemon_after_heal landed d) c r (ready.may landed) (ready.usable landed) pays
