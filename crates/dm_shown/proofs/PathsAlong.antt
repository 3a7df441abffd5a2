-- The path at which a recall was begun goes on leading to its file along a run; and what the recall answers at its end is what
-- the namespace has there.
use Rattle.std.proofs.Common.{◌≡◌, ℕ, Bool, true, cond, ◌&&◌, Some, None, Option, option_map, List, [], ◌∷◌, ◌++◌, refl, sym, ap, subst, ◌∙◌, arith}
use Rattle.std.proofs.lemmas.Bool.{leb-true}
use Rattle.std.proofs.lemmas.Option.{same_Some}
use Rattle.std.specs.FinMap as map
use Rattle.std.specs.List.{AllByRecursion}
use Rattle.dm_base.specs.declared.identifier.Bfid.{Bfid}
use Rattle.dm_base.specs.declared.identifier.GroupId.{GroupId}
use Rattle.dm_base.specs.declared.identifier.Secs.{Secs}
use Rattle.dm_tables.proofs.Orders.{numbers}
use Rattle.dm_tables.proofs.Rows.{get-here}
use Rattle.dm_durable.specs.declared.daemon.Contents.{Contents}
use Rattle.dm_durable.specs.declared.daemon.Contents.TheVariants.{Regular, Making, Dual, Offline}
use Rattle.dm_durable.specs.declared.daemon.DaemonRecord.{DaemonRecord}
use Rattle.dm_durable.specs.declared.daemon.Dump.{Dump}
use Rattle.dm_durable.specs.declared.daemon.DumpInode.{DumpInode}
use Rattle.dm_durable.specs.declared.daemon.Entry.{Entry}
use Rattle.dm_model.specs.declared.answer.Answer.{Answer}
use Rattle.dm_model.specs.declared.answer.Answer.TheVariants as answer
use Rattle.dm_model.specs.declared.call.Call.{Call}
use Rattle.dm_model.specs.declared.call.Call.TheVariants as call
use Rattle.dm_model.specs.declared.call.Component.TheVariants as component
use Rattle.dm_model.specs.declared.call.DaemonCall.{DaemonCall}
use Rattle.dm_model.specs.declared.call.DaemonCall.TheVariants as daemon_call
use Rattle.dm_model.specs.declared.call.Event.{Event}
use Rattle.dm_model.specs.declared.call.Event.TheVariants as event
use Rattle.dm_model.specs.declared.plan.Opening.{Opening}
use Rattle.dm_model.specs.declared.plan.Opening.TheVariants as opening
use Rattle.dm_model.specs.declared.plan.Payload.{Payload}
use Rattle.dm_model.specs.declared.plan.Payload.TheVariants as payload
use Rattle.dm_model.specs.declared.state.Daemon.{Daemon}
use Rattle.dm_model.specs.declared.state.Joint.{Joint}
use Rattle.dm_model.specs.declared.state.OpenRequest.{OpenRequest}
use Rattle.dm_model.specs.declared.state.RequestKind.TheVariants as kind
use Rattle.dm_model.specs.declared.state.Side.{Side}
use Rattle.dm_model.specs.DaemonCalls.{attributes, begin_put, begin_recall, begin_recall_of, copy_stored, daemon_needs, daemon_plan, drop_recall, dropped}
use Rattle.dm_model.specs.DaemonCalls.{end_put, end_recall, hard_delete_of, patch, release, remove, restore, restore_file, taken_at, time_at}
use Rattle.dm_model.specs.DaemonShare.{daemon_after_ending, with_request}
use Rattle.dm_model.specs.Effects.{after_ending}
use Rattle.dm_model.specs.Files.{File, file_at}
use Rattle.dm_model.specs.Guards.{AllHold, Guarded}
use Rattle.dm_model.specs.Plan.{Plan, Needs, guards_always, guards_of, if_accepted, illegal_call, illegal_fault, prepared_plan, refusal_of}
use Rattle.dm_model.specs.Step.{RunEntry, Run, Stepped, after_call, after_fault, after_landing, doubt_outcome, landing_outcome_in, needs_of, outcome_of, plan_of, step}
use Rattle.dm_model.proofs.Shares.{OpensOf, PaysOf}
use Rattle.dm_plain.specs.Namespace.{Namespace, bytes_of}
use Rattle.dm_durable.specs.declared.group.GroupRecord.{GroupRecord}
use Rattle.dm_invariant.specs.Doubts.{MayLandIf}
use Rattle.dm_invariant.specs.Kept.{InvariantHolds}
use Rattle.dm_landing.proofs.CallFiles.{found}
use Rattle.dm_landing.proofs.CallsLanded.{PayloadLands, daemon_call_lands}
use Rattle.dm_effects.proofs.BeginningCalls.{always_hold}
use Rattle.dm_shown.specs.Along.{GoesOn, KeptAlong}
use Rattle.dm_shown.proofs.EventsShown.{all_hold, landed_is, look_is, outcome_is, payload_is, side_pays, volume_pays, side_opens, volume_opens}
use Rattle.dm_shown.proofs.FilesRead.{recalled_answered}
use Rattle.dm_shown.proofs.PathsAsked.{Asked, IsNewOf, PayloadMay, call_asked, doubted_asked, ended_asked, ended_tables, healed_asked, paid_asked}
use Rattle.dm_shown.proofs.PlansShown.{AgreesWith, files_of}
use Rattle.dm_shown.proofs.RunsShown.{along_rest, kept_last}

-- ---- what a call of the daemon makes is new

abbrev NewOf : Daemon → Plan → Type 0
NewOf d p = AllHold p.making → IsNewOf d.next_request p.opens

module _ (d : Daemon) where
  put_begins : (path : List ℕ) (asked : List (Option GroupId)) (now k : ℕ) (o : Option File) → NewOf d (begin_put d path asked now k o)
  put_begins path asked now k None hold = tt
  put_begins path asked now k (Some f) hold = leb-true d.next_request k hold.0

  copy_is_stored : (g : GroupId) (now : ℕ) (o : Option OpenRequest) → NewOf d (copy_stored d g now o)
  copy_is_stored g now None hold = tt
  copy_is_stored g now (Some r) hold = tt

  put_ends : (k now : ℕ) (o : Option OpenRequest) → NewOf d (end_put d k now o)
  put_ends k now None hold = tt
  put_ends k now (Some r) hold = tt

  file_released : (path : List ℕ) (now : ℕ) (o : Option File) → NewOf d (release d path now o)
  file_released path now None hold = tt
  file_released path now (Some f) hold = tt

  recall_begins_of : (k : ℕ) (f : File) (c : Contents) → NewOf d (begin_recall_of d k f c)
  recall_begins_of k f (Regular bytes) hold = tt
  recall_begins_of k f (Making bytes b) hold = tt
  recall_begins_of k f (Dual bytes b) hold = tt
  recall_begins_of k f (Offline len b) hold = leb-true d.next_request k hold.0

  recall_begins : (k : ℕ) (o : Option File) → NewOf d (begin_recall d k o)
  recall_begins k None hold = tt
  recall_begins k (Some f) hold = recall_begins_of k f f.inode.contents hold

  recall_ends : (k : ℕ) (bytes : List ℕ) (now : ℕ) (o : Option OpenRequest) → NewOf d (end_recall d k bytes now o)
  recall_ends k bytes now None hold = tt
  recall_ends k bytes now (Some r) hold = tt

  recall_dropped : (k : ℕ) (o : Option OpenRequest) → NewOf d (drop_recall d k o)
  recall_dropped k None hold = tt
  recall_dropped k (Some r) hold = tt

  file_patched : (path : List ℕ) (offset : ℕ) (bytes : List ℕ) (now : ℕ) (o : Option File) → NewOf d (patch d path offset bytes now o)
  file_patched path offset bytes now None hold = tt
  file_patched path offset bytes now (Some f) hold = tt

  file_removed : (path : List ℕ) (now : ℕ) (o : Option File) → NewOf d (remove d path now o)
  file_removed path now None hold = tt
  file_removed path now (Some f) hold = tt

  file_restored_in : (name path target : List ℕ) (now : ℕ) (dump : Dump) (o : Option DumpInode) → NewOf d (restore_file d name path target now dump o)
  file_restored_in name path target now dump None hold = tt
  file_restored_in name path target now dump (Some f) hold = tt

  file_restored : (name path target : List ℕ) (now : ℕ) (o : Option Dump) → NewOf d (restore d name path target now o)
  file_restored name path target now None hold = tt
  file_restored name path target now (Some dump) hold = file_restored_in name path target now dump (map.get dump.files path) hold

  hard_deleted : (now : ℕ) (bs : List Bfid) → NewOf d (hard_delete_of d now bs)
  hard_deleted now [] hold = tt
  hard_deleted now (b ∷ bs) hold = tt

  entry_dropped : (b : Bfid) (now : ℕ) (o : Option Entry) → NewOf d (dropped d b now o)
  entry_dropped b now None hold = tt
  entry_dropped b now (Some e) hold = tt

  file_told : (path : List ℕ) (o : Option File) → NewOf d (attributes d path o)
  file_told path None hold = tt
  file_told path (Some f) hold = tt

  new_of : (c : DaemonCall) → NewOf d (daemon_plan d c)
  new_of (daemon_call.BeginPut path asked now k) hold = put_begins path asked now.0 k (file_at d path) hold
  new_of (daemon_call.CopyStored k group now) hold = copy_is_stored group now.0 (map.get d.requests k) hold
  new_of (daemon_call.EndPut k now) hold = put_ends k now.0 (map.get d.requests k) hold
  new_of (daemon_call.Release path now) hold = file_released path now.0 (file_at d path) hold
  new_of (daemon_call.BeginRecall path k) hold = recall_begins k (file_at d path) hold
  new_of (daemon_call.EndRecall k bytes now) hold = recall_ends k bytes now.0 (map.get d.requests k) hold
  new_of (daemon_call.DropRecall k) hold = recall_dropped k (map.get d.requests k) hold
  new_of (daemon_call.Write path bytes now) hold = tt
  new_of (daemon_call.Patch path offset bytes now) hold = file_patched path offset bytes now.0 (file_at d path) hold
  new_of (daemon_call.Remove path now) hold = file_removed path now.0 (file_at d path) hold
  new_of (daemon_call.MakeDump name now) hold = tt
  new_of (daemon_call.Undump name now) hold = tt
  new_of (daemon_call.Restore name path target now) hold = file_restored name path target now.0 (map.get d.tables.dumps name) hold
  new_of (daemon_call.SetAge age now) hold = tt
  new_of (daemon_call.HardDelete now) hold = hard_deleted now.0 (taken_at d (time_at d now.0)) hold
  new_of (daemon_call.NextDropping after) hold = tt
  new_of (daemon_call.Dropped b now) hold = entry_dropped b now.0 (map.get d.tables.entries b.0) hold
  new_of (daemon_call.Attributes path) hold = file_told path (file_at d path) hold
  new_of daemon_call.List hold = tt

-- the guards behind others
back_holds : (ts us : List Guarded) → AllHold (ts ++ us) → AllHold us
back_holds [] us hold = hold
back_holds (t ∷ ts) us hold = back_holds ts us hold.1

-- a call that is refused makes nothing
new_if : (next : ℕ) (p : Plan) (n : Needs) (o : Option Answer) → (AllHold p.making → IsNewOf next p.opens) → AllHold (guards_of o p n)
    → IsNewOf next (if_accepted o opening.Nothing p.opens)
new_if next p n None new hold = new (back_holds (guards_always p n) p.making hold)
new_if next p n (Some a) new hold = tt

-- what a group's call makes is no request
group_new : (g : GroupId) (next : ℕ) (o : Opening) → OpensOf g o → IsNewOf next o
group_new g next opening.Nothing of = tt
group_new g next (opening.Put k r len groups) of = absurd of
group_new g next (opening.Recall k r recall) of = absurd of
group_new g next (opening.Reservation h n r) of = tt
group_new g next (opening.Mount h m vsn epoch made) of = tt
group_new g next (opening.Move h job moving source_epoch target_epoch) of = tt
group_new g next (opening.Reuse h m epoch reusing reading) of = tt

group_may : (g : GroupId) (d : Daemon) (o : Option Payload) → PaysOf g o → PayloadMay d.tables o
group_may g d None of = tt
group_may g d (Some (payload.Daemon r)) of = absurd of
group_may g d (Some (payload.Group h r)) of = tt

lands_may : (j i : Joint) (o : Option Payload) → i.daemon.tables ≡ j.daemon.tables → PayloadLands i o → PayloadMay j.daemon.tables o
lands_may j i None same lands = tt
lands_may j i (Some (payload.Daemon r)) same lands = subst (λ t. PayloadMay t (Some (payload.Daemon r))) same lands.follow.step
lands_may j i (Some (payload.Group g r)) same lands = absurd lands

-- ---- an event

module _ (path : List ℕ) (k : ℕ) (j : Joint) (w : ℕ) (kept : InvariantHolds j) (a : Asked path k j.daemon) where
  daemon_call_asked : (c : DaemonCall) (i : Joint) (x : Answer) → step j w (event.Call (call.Daemon c)) ≡ Stepped i x → Asked path k i.daemon
  daemon_call_asked c i x is =
      let p = daemon_plan j.daemon c in
      let n = daemon_needs j.sides (map.get j.workers w) j.history j.daemon c in
      let o = outcome_is (illegal_call p n) (after_call w (prepared_plan p) j) i (prepared_plan p).answer x is in
      let hold = all_hold (guards_of (refusal_of p) p n) o.0 in
      let lands = daemon_call_lands j kept w c (always_hold p n (refusal_of p) hold) in
      let same : (after_ending w p.ends j).daemon.tables ≡ j.daemon.tables = ended_tables j.daemon p.ends in
      subst (λ (y : Joint). Asked path k y.daemon) o.1
      (call_asked path k j.daemon (prepared_plan p) (lands_may j (after_ending w p.ends j) (prepared_plan p).payload same lands)
      (new_if j.daemon.next_request p n (refusal_of p) (new_of j.daemon c) hold) a)

  other_call_asked : (g : GroupId) (p : Plan) (n : Needs) (i : Joint) (x : Answer) → PaysOf g (prepared_plan p).payload → OpensOf g (prepared_plan p).opens
      → outcome_of (illegal_call p n) (after_call w (prepared_plan p) j) (prepared_plan p).answer ≡ Stepped i x → Asked path k i.daemon
  other_call_asked g p n i x pays opens is =
      let o = outcome_is (illegal_call p n) (after_call w (prepared_plan p) j) i (prepared_plan p).answer x is in
      subst (λ (y : Joint). Asked path k y.daemon) o.1
      (call_asked path k j.daemon (prepared_plan p) (group_may g j.daemon (prepared_plan p).payload pays)
      (group_new g j.daemon.next_request (prepared_plan p).opens opens) a)

  fault_asked : (c : Call) (healed checkpointed : Bool) (i : Joint) (x : Answer) → step j w (event.Fault c healed checkpointed) ≡ Stepped i x
      → Asked path k i.daemon
  fault_asked c healed checkpointed i x is =
      let p = plan_of j c in
      let n = needs_of j w c in
      let far = healed && checkpointed in
      let o = outcome_is (illegal_fault p n) (after_fault w (prepared_plan p) far j) i _ x is in
      subst (λ (y : Joint). Asked path k y.daemon) o.1
      (doubted_asked path k (daemon_after_ending p.ends j.daemon) (cond far (prepared_plan p).payload None) (ended_asked path k j.daemon p.ends a))

  landing_asked : (i : Joint) (x : Answer) (o : Option DaemonRecord)
      → MayLandIf j.daemon.tables j.daemon.requests j.history.contents j.daemon.cap j.sides o
      → doubt_outcome j component.Daemon (option_map (λ r. payload.Daemon r) o) ≡ Stepped i x → Asked path k i.daemon
  landing_asked i x None may is = absurd (cc)
  landing_asked i x (Some r) may is =
      let l = landed_is j i component.Daemon (Some (payload.Daemon r)) x is in
      let same : after_landing component.Daemon (payload.Daemon r) j ≡ i =
      ap (λ p. after_landing component.Daemon p j) (payload_is (payload.Daemon r) l.0 l.1) ∙ l.2 in
      subst (λ (y : Joint). Asked path k y.daemon) same
      (paid_asked path k (record j.daemon { doubt = None }) (Some (payload.Daemon r)) may.follow.step (healed_asked path k j.daemon true component.Daemon a))

  group_landing_asked : (g : GroupId) (o : Option GroupRecord) (i : Joint) (x : Answer)
      → doubt_outcome j (component.Group g) (option_map (λ r. payload.Group g r) o) ≡ Stepped i x → Asked path k i.daemon
  group_landing_asked g None i x is = absurd (cc)
  group_landing_asked g (Some r) i x is =
      let l = landed_is j i (component.Group g) (Some (payload.Group g r)) x is in
      let same : after_landing (component.Group g) (payload.Group g r) j ≡ i =
      ap (λ p. after_landing (component.Group g) p j) (payload_is (payload.Group g r) l.0 l.1) ∙ l.2 in
      subst (λ (y : Joint). Asked path k y.daemon) same a

  side_landing_asked : (g : GroupId) (o : Option Side) (i : Joint) (x : Answer) → landing_outcome_in j g o ≡ Stepped i x → Asked path k i.daemon
  side_landing_asked g None i x is = absurd (cc)
  side_landing_asked g (Some s) i x is = group_landing_asked g s.group.doubt i x is

  -- an event of a program that goes on
  event_asked : (e : Event) (i : Joint) (x : Answer) → GoesOn e → step j w e ≡ Stepped i x → Asked path k i.daemon
  event_asked (event.Call (call.Daemon c)) i x on is = daemon_call_asked c i x is
  event_asked (event.Call (call.Group g c)) i x on is =
      other_call_asked g (plan_of j (call.Group g c)) (needs_of j w (call.Group g c)) i x (side_pays g c (map.get j.sides g.0))
      (side_opens g c (map.get j.sides g.0)) is
  event_asked (event.Call (call.Volume g vsn c)) i x on is =
      other_call_asked g (plan_of j (call.Volume g vsn c)) (needs_of j w (call.Volume g vsn c)) i x (volume_pays g vsn c (map.get j.sides g.0))
      (volume_opens g vsn c (map.get j.sides g.0)) is
  event_asked (event.Fault c healed checkpointed) i x on is = fault_asked c healed checkpointed i x is
  event_asked (event.Landed component.Daemon) i x on is = landing_asked i x j.daemon.doubt kept.doubt is
  event_asked (event.Landed (component.Group g)) i x on is = side_landing_asked g (map.get j.sides g.0) i x is
  event_asked (event.Look c) i x on is = subst (λ (y : Joint). Asked path k y.daemon) (look_is j i c x is) a
  event_asked event.Stop i x on is = absurd on

-- ---- a run

run_asked : (path : List ℕ) (k : ℕ) (j : Joint) (entries : List RunEntry) (i : Joint) → KeptAlong j entries
    → AllByRecursion (λ e. GoesOn e.event) entries → Run j entries i → Asked path k j.daemon → Asked path k i.daemon
run_asked path k j [] i kept on run a = subst (λ (y : Joint). Asked path k y.daemon) run a
run_asked path k j (e ∷ es) i kept on run a =
    run_asked path k run.0 es i (along_rest j run.0 e es kept run.1) on.1 run.2 (event_asked path k j e.worker kept.0 a e.event run.0 e.answer on.0 run.1)

-- ---- a recall that is begun

-- the request that is made is of the file of that path
new_asked : (path : List ℕ) (k : ℕ) (d : Daemon) (q : OpenRequest) → map.get d.tables.names path ≡ Some q.ino → Asked path k (with_request k q d)
new_asked path k d q name = record {
  below = omega arith;
  leads = λ r at none.
      let same : q ≡ r = same_Some q r (sym (get-here numbers d.requests k q) ∙ at) in
      name ∙ ap (λ (x : OpenRequest). Some x.ino) same;
}

begun_of : (path : List ℕ) (k : ℕ) (j : Joint) (w : ℕ) (f : File) (c : Contents) (l len : ℕ) (b : Bfid) (asked : List GroupId)
    → map.get j.daemon.tables.names path ≡ Some (record { 0 = f.number })
    → (prepared_plan (begin_recall_of j.daemon k f c)).answer ≡ answer.RecallBegun l b len asked
    → Asked path k (after_call w (prepared_plan (begin_recall_of j.daemon k f c)) j).daemon
begun_of path k j w f (Regular bytes) l len b asked name is = absurd (cc)
begun_of path k j w f (Making bytes d) l len b asked name is = absurd (cc)
begun_of path k j w f (Dual bytes d) l len b asked name is = absurd (cc)
begun_of path k j w f (Offline size d) l len b asked name is =
    let q : OpenRequest = record { ino = record { 0 = f.number }; bfid = d; was = f.inode.change; found = None; kind = kind.Recall } in
    new_asked path k (record j.daemon { doubt = None }) q name

begun_at : (path : List ℕ) (k : ℕ) (j : Joint) (w : ℕ) (o : Option File) (l len : ℕ) (b : Bfid) (asked : List GroupId) → file_at j.daemon path ≡ o
    → (prepared_plan (begin_recall j.daemon k o)).answer ≡ answer.RecallBegun l b len asked
    → Asked path k (after_call w (prepared_plan (begin_recall j.daemon k o)) j).daemon
begun_at path k j w None l len b asked at is = absurd (cc)
begun_at path k j w (Some f) l len b asked at is =
    let there = found j path f at in
    begun_of path k j w f f.inode.contents l len b asked (there.name ∙ ap (λ n. Some (record { 0 = n })) (sym there.number)) is

recall_begun : (path : List ℕ) (k : ℕ) (j : Joint) (w : ℕ) (mid : Joint) (l len : ℕ) (b : Bfid) (asked : List GroupId)
    → step j w (event.Call (call.Daemon (daemon_call.BeginRecall path k))) ≡ Stepped mid (answer.RecallBegun l b len asked)
    → Asked path k mid.daemon
recall_begun path k j w mid l len b asked is =
    let p = daemon_plan j.daemon (daemon_call.BeginRecall path k) in
    let n = daemon_needs j.sides (map.get j.workers w) j.history j.daemon (daemon_call.BeginRecall path k) in
    let o = outcome_is (illegal_call p n) (after_call w (prepared_plan p) j) mid (prepared_plan p).answer (answer.RecallBegun l b len asked) is in
    subst (λ (y : Joint). Asked path k y.daemon) o.1 (begun_at path k j w (file_at j.daemon path) l len b asked refl o.2)

-- ---- the path that was asked

-- a recall that is answered has a request
request_at : (j : Joint) (w k : ℕ) (bytes given : List ℕ) (now : Secs) (later : Joint) (o : Option OpenRequest) → map.get j.daemon.requests k ≡ o
    → (prepared_plan (end_recall j.daemon k bytes now.0 o)).answer ≡ answer.Recalled given → (r : OpenRequest) × (map.get j.daemon.requests k ≡ Some r)
request_at j w k bytes given now later None at is = absurd (cc)
request_at j w k bytes given now later (Some r) at is = (r, at)

request_there : (j : Joint) (w k : ℕ) (bytes given : List ℕ) (now : Secs) (later : Joint)
    → step j w (event.Call (call.Daemon (daemon_call.EndRecall k bytes now))) ≡ Stepped later (answer.Recalled given)
    → (r : OpenRequest) × (map.get j.daemon.requests k ≡ Some r)
request_there j w k bytes given now later is =
    let p = daemon_plan j.daemon (daemon_call.EndRecall k bytes now) in
    let n = daemon_needs j.sides (map.get j.workers w) j.history j.daemon (daemon_call.EndRecall k bytes now) in
    let o = outcome_is (illegal_call p n) (after_call w (prepared_plan p) j) later (prepared_plan p).answer (answer.Recalled given) is in
    request_at j w k bytes given now later (map.get j.daemon.requests k) refl o.2

-- what an ended recall answers is what the namespace has at the path at which it was begun
pub asked_right : (path : List ℕ) (k : ℕ) (mid : Joint) (entries : List RunEntry) (last : Joint) (ns : Namespace) → KeptAlong mid entries
    → AllByRecursion (λ e. GoesOn e.event) entries → Run mid entries last → AgreesWith (files_of last) ns → Asked path k mid.daemon
    → (v : ℕ) (bytes given : List ℕ) (now : Secs) (later : Joint)
    → step last v (event.Call (call.Daemon (daemon_call.EndRecall k bytes now))) ≡ Stepped later (answer.Recalled given)
    → bytes_of path ns ≡ Some given
asked_right path k mid entries last ns kept on run agrees a v bytes given now later is =
    let end = run_asked path k mid entries last kept on run a in
    let there = request_there last v k bytes given now later is in
    let x = recalled_answered last ns (kept_last mid entries last kept run) agrees v k bytes given now later is there.0 there.1 in
    x.holds path (end.leads there.0 there.1 x.unfound)

-- from the beginning of the recall
pub begun_right : (path : List ℕ) (k : ℕ) (j : Joint) (w : ℕ) (mid : Joint) (l len : ℕ) (b : Bfid) (asked : List GroupId)
    → step j w (event.Call (call.Daemon (daemon_call.BeginRecall path k))) ≡ Stepped mid (answer.RecallBegun l b len asked)
    → (entries : List RunEntry) (last : Joint) (ns : Namespace) → KeptAlong mid entries
    → AllByRecursion (λ e. GoesOn e.event) entries → Run mid entries last → AgreesWith (files_of last) ns
    → (v : ℕ) (bytes given : List ℕ) (now : Secs) (later : Joint)
    → step last v (event.Call (call.Daemon (daemon_call.EndRecall k bytes now))) ≡ Stepped later (answer.Recalled given)
    → bytes_of path ns ≡ Some given
begun_right path k j w mid l len b asked begun entries last ns kept on run agrees =
    asked_right path k mid entries last ns kept on run agrees (recall_begun path k j w mid l len b asked begun)
