-- The parts of contents that chunks with sums are, stay among the byte lists through each legal event that hashes nothing else.
use Rattle.std.proofs.Common.{◌≡◌, ◌≤◌, ℕ, Bool, true, false, cond, ◌&&◌, Option, None, Some, List, [], ◌∷◌, Contains, option_map, refl, ap, subst, ◌∙◌}
use Rattle.std.specs.FinMap as map
use Rattle.dm_base.specs.declared.identifier.Bfid.{Bfid}
use Rattle.dm_base.specs.declared.identifier.GroupId.{GroupId}
use Rattle.dm_base.specs.declared.serial.Vsn.{Vsn}
use Rattle.dm_tables.specs.Rows.{EachRow}
use Rattle.dm_tables.proofs.Adjusted.{each-map}
use Rattle.dm_tables.proofs.Orders.{numbers}
use Rattle.dm_durable.specs.declared.daemon.Contents.{Contents}
use Rattle.dm_durable.specs.declared.daemon.Contents.TheVariants.{Regular, Making, Dual, Offline}
use Rattle.dm_durable.specs.declared.daemon.DaemonRecord.{DaemonRecord}
use Rattle.dm_durable.specs.declared.daemon.DaemonStep.{DaemonStep}
use Rattle.dm_durable.specs.declared.daemon.DaemonStep.TheVariants.{Write, Remove, BeginPut, Stored, EndPut, Release, Taken, Dump, Undump, Restore, HardDelete, Dropped, Restart, Age}
use Rattle.dm_durable.specs.declared.daemon.Dump.{Dump as DumpRow}
use Rattle.dm_durable.specs.declared.daemon.DumpInode.{DumpInode}
use Rattle.dm_durable.specs.declared.daemon.Entry.{Entry}
use Rattle.dm_durable.specs.declared.group.GroupRecord.{GroupRecord}
use Rattle.dm_durable.specs.DaemonConditions.{MayFollow, MayStep}
use Rattle.dm_durable.specs.Tables.{ByNumber}
use Rattle.dm_model.specs.declared.answer.Answer.{Answer}
use Rattle.dm_model.specs.declared.call.Call.{Call}
use Rattle.dm_model.specs.declared.call.Call.TheVariants as call
use Rattle.dm_model.specs.declared.call.Component.{Component}
use Rattle.dm_model.specs.declared.call.Component.TheVariants as component
use Rattle.dm_model.specs.declared.call.DaemonCall.{DaemonCall}
use Rattle.dm_model.specs.declared.call.DaemonCall.TheVariants as daemon_call
use Rattle.dm_model.specs.declared.call.Event.{Event}
use Rattle.dm_model.specs.declared.call.Event.TheVariants as event
use Rattle.dm_model.specs.declared.call.GroupCall.{GroupCall}
use Rattle.dm_model.specs.declared.call.VolumeCall.{VolumeCall}
use Rattle.dm_model.specs.declared.call.VolumeCall.TheVariants as volume_call
use Rattle.dm_model.specs.declared.plan.Opening.{Opening}
use Rattle.dm_model.specs.declared.plan.Opening.TheVariants as opening
use Rattle.dm_model.specs.declared.plan.Payload.{Payload}
use Rattle.dm_model.specs.declared.plan.Payload.TheVariants as payload
use Rattle.dm_model.specs.declared.plan.Prepared.{Prepared}
use Rattle.dm_model.specs.declared.state.Image.{Image}
use Rattle.dm_model.specs.declared.state.Joint.{Joint}
use Rattle.dm_model.specs.declared.state.MountState.{MountState}
use Rattle.dm_model.specs.declared.state.OpenRequest.{OpenRequest}
use Rattle.dm_model.specs.declared.state.Daemon.{Daemon}
use Rattle.dm_model.specs.declared.state.Side.{Side}
use Rattle.dm_model.specs.DaemonCalls.{attributes, begin_put, begin_recall, begin_recall_of, copy_stored, daemon_needs, daemon_plan, drop_recall, dropped, end_put, end_recall, hard_delete_of, patch, release, remove, restore, restore_file, taken_at, time_at}
use Rattle.dm_model.specs.Effects.{after_ending, at_each, contents_with, groups_of_component, groups_of_ending, groups_of_mark, groups_of_opening, groups_of_payload}
use Rattle.dm_model.specs.Files.{File, file_at}
use Rattle.dm_model.specs.Guards.{AllHold}
use Rattle.dm_model.specs.Hashed.{hashed_by_event, hashed_by_group}
use Rattle.dm_model.specs.Plan.{Plan, guards_always, guards_of, guards_of_fault, illegal_call, illegal_fault, prepared_plan, refusal_of}
use Rattle.dm_model.specs.SideShare.{side_after_ending, side_after_failed_mark, side_after_mark, side_after_opening, side_after_payload, side_after_stop, side_doubting, side_without_doubt}
use Rattle.dm_model.specs.Step.{Stepped, after_call, after_fault, after_landing, after_stop, daemon_doubt, group_doubt, doubt_outcome, landing_outcome_in, look_outcome_in, needs_of, side_needs, side_plan, step, volume_plan_in}
use Rattle.dm_model.specs.VolumeCalls.{mount_in, mounted_plan, volume_plan}
use Rattle.dm_invariant.specs.Doubts.{MayLandIf}
use Rattle.dm_invariant.specs.Kept.{InvariantHolds}
use Rattle.dm_invariant.proofs.LookUps.{beside_free}
use Rattle.dm_landing.proofs.CallsLanded.{PayloadLands, daemon_call_lands}
use Rattle.dm_landing.proofs.FilesBegun.{content_free}
use Rattle.dm_effects.proofs.BeginningCalls.{always_hold, front_holds}
use Rattle.dm_effects.proofs.PutEnded.{each_at_each}
use Rattle.dm_group_effects.proofs.GroupEvents.{outcome_is}
use Rattle.dm_shown.proofs.EventsShown.{all_hold, side_pays, volume_pays}
use Rattle.dm_shown.proofs.PlansShown.{called_files, files_of, files_paid, follows, landed_files, still_follows}
use Rattle.dm_shown.proofs.RecordsShown.{contents_after}
use Rattle.dm_model.proofs.Shares.{PaysOf}
use Rattle.dm_runs.proofs.SummedPlans.{PlanIn, group_plan_in, opens_if, opens_prepared, payload_prepared}
use Rattle.dm_runs.proofs.SummedSides.{DoubtIn, OpeningIn, PayloadIn, SideSummed, doubting_in, ending_in, failed_mark_in, healing_in, mark_in, opening_in, payload_in, side_onward, stop_in}

-- on each side the parts are among these
abbrev pub Summed : List (List ℕ) → Joint → Type 0
Summed lists j = EachRow j.sides (λ g s. SideSummed lists j.history.contents s)

-- what an event hashes is among them
abbrev pub HashesIn : List (List ℕ) → Joint → Event → Type 0
HashesIn lists j e = (x : List ℕ) → Contains (hashed_by_event j e) x → Contains lists x

-- ---- the sides after an event, over the contents before it

module _ (lists : List (List ℕ)) (contents : ByNumber (List ℕ)) where
  abbrev Each : ByNumber Side → Type 0
  Each sides = EachRow sides (λ g s. SideSummed lists contents s)

  at_groups : (f : Side → Side) (gs : List GroupId) (sides : ByNumber Side)
      → ((s : Side) → SideSummed lists contents s → SideSummed lists contents (f s)) → Each sides → Each (at_each f gs sides)
  at_groups f gs sides keeps each = each_at_each (λ g s. SideSummed lists contents s) f gs sides (λ g s k. keeps s k) each

  call_sides : (w : ℕ) (p : Prepared) (j : Joint) → PayloadIn lists contents p.payload → OpeningIn lists contents p.opens → Each j.sides
      → Each (after_call w p j).sides
  call_sides w p j pays opens each =
      at_groups (side_after_opening p.opens) (groups_of_opening p.opens) _ (opening_in lists contents p.opens opens)
      (at_groups (side_after_mark p.mark) (groups_of_mark p.mark) _ (mark_in lists contents p.mark)
      (at_groups (side_after_payload p.payload) (groups_of_payload p.payload) _ (payload_in lists contents p.payload pays)
      (at_groups (side_without_doubt p.heals) (cond p.heals (groups_of_component p.component) []) _ (healing_in lists contents p.heals)
      (at_groups (side_after_ending p.ends) (groups_of_ending p.ends) _ (ending_in lists contents p.ends) each))))

  far_in : (far : Bool) (p : Option Payload) → PayloadIn lists contents p → PayloadIn lists contents (cond far p None)
  far_in true p pays = pays
  far_in false p pays = tt

  fault_sides : (w : ℕ) (p : Prepared) (far : Bool) (j : Joint) → PayloadIn lists contents p.payload → Each j.sides → Each (after_fault w p far j).sides
  fault_sides w p far j pays each =
      let q = cond far p.payload None in
      at_groups (side_doubting q) (groups_of_payload q) _ (doubting_in lists contents q (far_in far p.payload pays))
      (at_groups (side_after_failed_mark p.mark) (groups_of_mark p.mark) _ (failed_mark_in lists contents p.mark)
      (at_groups (side_after_ending p.ends) (groups_of_ending p.ends) _ (ending_in lists contents p.ends) each))

  landing_sides : (c : Component) (p : Payload) (j : Joint) → PayloadIn lists contents (Some p) → Each j.sides → Each (after_landing c p j).sides
  landing_sides c p j pays each =
      at_groups (side_after_payload (Some p)) (groups_of_payload (Some p)) _ (payload_in lists contents (Some p) pays)
      (at_groups (side_without_doubt true) (groups_of_component c) _ (healing_in lists contents true) each)

-- ---- contents grow

grown : (contents : ByNumber (List ℕ)) (b : ℕ) (f : Option File) → map.get contents b ≡ None
    → EachRow contents (λ q bytes. map.get (contents_with b f contents) q ≡ Some bytes)
grown contents b None free = λ q bytes at. at
grown contents b (Some f) free = λ q bytes at. beside_free numbers contents b q _ bytes free at

-- a record that may follow takes no content away
record_grows : (j : Joint) → InvariantHolds j → (time : ℕ) (s : DaemonStep) → j.daemon.tables.time.0 ≤ time → MayStep j.daemon.tables time s
    → EachRow j.history.contents (λ q bytes. map.get (contents_after j.daemon.tables j.history.contents s) q ≡ Some bytes)
record_grows j kept time (BeginPut path b groups) on may =
    grown j.history.contents b.0 _
    (content_free j.daemon.tables j.history.contents j.daemon.cap j.sides j.daemon.requests time kept.files on b.0 may.next)
record_grows j kept time (Write path change bytes) on may = λ q x at. at
record_grows j kept time (Remove path change) on may = λ q x at. at
record_grows j kept time (Stored b g) on may = λ q x at. at
record_grows j kept time (EndPut n b dual) on may = λ q x at. at
record_grows j kept time (Release path) on may = λ q x at. at
record_grows j kept time (Taken n bytes) on may = λ q x at. at
record_grows j kept time (Dump name) on may = λ q x at. at
record_grows j kept time (Undump name) on may = λ q x at. at
record_grows j kept time (Restore name path target change) on may = λ q x at. at
record_grows j kept time (HardDelete bfids) on may = λ q x at. at
record_grows j kept time (Dropped b) on may = λ q x at. at
record_grows j kept time Restart on may = λ q x at. at
record_grows j kept time (Age age) on may = λ q x at. at

-- a payload, of the daemon, may follow
abbrev PayloadFollows : Joint → Option Payload → Type 0
PayloadFollows j None = Unit {0}
PayloadFollows j (Some (payload.Daemon r)) = MayFollow j.daemon.tables r
PayloadFollows j (Some (payload.Group g r)) = Unit {0}

payload_grows : (j : Joint) → InvariantHolds j → (p : Option Payload) → PayloadFollows j p
    → EachRow j.history.contents (λ q bytes. map.get (files_paid p (files_of j)).1 q ≡ Some bytes)
payload_grows j kept None follow = λ q bytes at. at
payload_grows j kept (Some (payload.Daemon r)) follow = record_grows j kept r.time.0 r.step follow.time follow.step
payload_grows j kept (Some (payload.Group g r)) follow = λ q bytes at. at

module _ (lists : List (List ℕ)) (j : Joint) (kept : InvariantHolds j) (summed : Summed lists j) where
  abbrev before : ByNumber (List ℕ)
  before = j.history.contents

  called_in : (w : ℕ) (p : Prepared) → PayloadIn lists before p.payload → OpeningIn lists before p.opens → PayloadFollows j p.payload
      → Summed lists (after_call w p j)
  called_in w p pays opens follow g s is =
      let same : (after_call w p j).history.contents ≡ (files_paid p.payload (files_of j)).1 = ap (λ f. f.1) (called_files w j p) in
      side_onward lists before (after_call w p j).history.contents
      (λ b bytes at. ap (λ m. map.get m b) same ∙ payload_grows j kept p.payload follow b bytes at) s
      (call_sides lists before w p j pays opens summed g s is)

  faulted_in : (w : ℕ) (p : Prepared) (far : Bool) → PayloadIn lists before p.payload → Summed lists (after_fault w p far j)
  faulted_in w p far pays = fault_sides lists before w p far j pays summed

  landed_in_lists : (c : Component) (p : Payload) → PayloadIn lists before (Some p) → PayloadFollows j (Some p) → Summed lists (after_landing c p j)
  landed_in_lists c p pays follow g s is =
      let same : (after_landing c p j).history.contents ≡ (files_paid (Some p) (files_of j)).1 = ap (λ f. f.1) (landed_files j c p) in
      side_onward lists before (after_landing c p j).history.contents
      (λ b bytes at. ap (λ m. map.get m b) same ∙ payload_grows j kept (Some p) follow b bytes at) s
      (landing_sides lists before c p j pays summed g s is)

-- ---- what calls of the daemon make

-- no mount
abbrev MakesRequests : Opening → Type 0
MakesRequests opening.Nothing = Unit {0}
MakesRequests (opening.Put k r len groups) = Unit {0}
MakesRequests (opening.Recall k r recall) = Unit {0}
MakesRequests (opening.Reservation g n r) = ⊥
MakesRequests (opening.Mount g m vsn epoch made) = ⊥
MakesRequests (opening.Move g job x source_epoch target_epoch) = ⊥
MakesRequests (opening.Reuse g m epoch reusing reading) = ⊥

requests_in : (lists : List (List ℕ)) (contents : ByNumber (List ℕ)) (o : Opening) → MakesRequests o → OpeningIn lists contents o
requests_in lists contents opening.Nothing makes = tt
requests_in lists contents (opening.Put k r len groups) makes = tt
requests_in lists contents (opening.Recall k r recall) makes = tt
requests_in lists contents (opening.Reservation g n r) makes = tt
requests_in lists contents (opening.Mount g m vsn epoch made) makes = absurd makes
requests_in lists contents (opening.Move g job x source_epoch target_epoch) makes = absurd makes
requests_in lists contents (opening.Reuse g m epoch reusing reading) makes = tt

module _ (d : Daemon) where
  put_makes : (path : List ℕ) (asked : List (Option GroupId)) (now k : ℕ) (o : Option File) → MakesRequests (begin_put d path asked now k o).opens
  put_makes path asked now k None = tt
  put_makes path asked now k (Some f) = tt

  stored_makes : (g : GroupId) (now : ℕ) (o : Option OpenRequest) → MakesRequests (copy_stored d g now o).opens
  stored_makes g now None = tt
  stored_makes g now (Some r) = tt

  put_end_makes : (k now : ℕ) (o : Option OpenRequest) → MakesRequests (end_put d k now o).opens
  put_end_makes k now None = tt
  put_end_makes k now (Some r) = tt

  release_makes : (path : List ℕ) (now : ℕ) (o : Option File) → MakesRequests (release d path now o).opens
  release_makes path now None = tt
  release_makes path now (Some f) = tt

  recall_of_makes : (k : ℕ) (f : File) (c : Contents) → MakesRequests (begin_recall_of d k f c).opens
  recall_of_makes k f (Regular bytes) = tt
  recall_of_makes k f (Making bytes b) = tt
  recall_of_makes k f (Dual bytes b) = tt
  recall_of_makes k f (Offline len b) = tt

  recall_makes : (k : ℕ) (o : Option File) → MakesRequests (begin_recall d k o).opens
  recall_makes k None = tt
  recall_makes k (Some f) = recall_of_makes k f f.inode.contents

  recall_end_makes : (k : ℕ) (bytes : List ℕ) (now : ℕ) (o : Option OpenRequest) → MakesRequests (end_recall d k bytes now o).opens
  recall_end_makes k bytes now None = tt
  recall_end_makes k bytes now (Some r) = tt

  drop_makes : (k : ℕ) (o : Option OpenRequest) → MakesRequests (drop_recall d k o).opens
  drop_makes k None = tt
  drop_makes k (Some r) = tt

  patch_makes : (path : List ℕ) (offset : ℕ) (bytes : List ℕ) (now : ℕ) (o : Option File) → MakesRequests (patch d path offset bytes now o).opens
  patch_makes path offset bytes now None = tt
  patch_makes path offset bytes now (Some f) = tt

  remove_makes : (path : List ℕ) (now : ℕ) (o : Option File) → MakesRequests (remove d path now o).opens
  remove_makes path now None = tt
  remove_makes path now (Some f) = tt

  restore_file_makes : (name path target : List ℕ) (now : ℕ) (dump : DumpRow) (o : Option DumpInode)
      → MakesRequests (restore_file d name path target now dump o).opens
  restore_file_makes name path target now dump None = tt
  restore_file_makes name path target now dump (Some f) = tt

  restore_makes : (name path target : List ℕ) (now : ℕ) (o : Option DumpRow) → MakesRequests (restore d name path target now o).opens
  restore_makes name path target now None = tt
  restore_makes name path target now (Some dump) = restore_file_makes name path target now dump (map.get dump.files path)

  hard_delete_makes : (now : ℕ) (bs : List Bfid) → MakesRequests (hard_delete_of d now bs).opens
  hard_delete_makes now [] = tt
  hard_delete_makes now (b ∷ bs) = tt

  dropped_makes : (b : Bfid) (now : ℕ) (o : Option Entry) → MakesRequests (dropped d b now o).opens
  dropped_makes b now None = tt
  dropped_makes b now (Some e) = tt

  attributes_make : (path : List ℕ) (o : Option File) → MakesRequests (attributes d path o).opens
  attributes_make path None = tt
  attributes_make path (Some f) = tt

  daemon_makes : (c : DaemonCall) → MakesRequests (daemon_plan d c).opens
  daemon_makes (daemon_call.BeginPut path asked now k) = put_makes path asked now.0 k (file_at d path)
  daemon_makes (daemon_call.CopyStored k group now) = stored_makes group now.0 (map.get d.requests k)
  daemon_makes (daemon_call.EndPut k now) = put_end_makes k now.0 (map.get d.requests k)
  daemon_makes (daemon_call.Release path now) = release_makes path now.0 (file_at d path)
  daemon_makes (daemon_call.BeginRecall path k) = recall_makes k (file_at d path)
  daemon_makes (daemon_call.EndRecall k bytes now) = recall_end_makes k bytes now.0 (map.get d.requests k)
  daemon_makes (daemon_call.DropRecall k) = drop_makes k (map.get d.requests k)
  daemon_makes (daemon_call.Write path bytes now) = tt
  daemon_makes (daemon_call.Patch path offset bytes now) = patch_makes path offset bytes now.0 (file_at d path)
  daemon_makes (daemon_call.Remove path now) = remove_makes path now.0 (file_at d path)
  daemon_makes (daemon_call.MakeDump name now) = tt
  daemon_makes (daemon_call.Undump name now) = tt
  daemon_makes (daemon_call.Restore name path target now) = restore_makes name path target now.0 (map.get d.tables.dumps name)
  daemon_makes (daemon_call.SetAge age now) = tt
  daemon_makes (daemon_call.HardDelete now) = hard_delete_makes now.0 (taken_at d (time_at d now.0))
  daemon_makes (daemon_call.NextDropping after) = tt
  daemon_makes (daemon_call.Dropped b now) = dropped_makes b now.0 (map.get d.tables.entries b.0)
  daemon_makes (daemon_call.Attributes path) = attributes_make path (file_at d path)
  daemon_makes daemon_call.List = tt

-- a plan that makes requests alone still does with the tests of its refusals made
requests_prepared : (lists : List (List ℕ)) (contents : ByNumber (List ℕ)) (p : Plan) → MakesRequests p.opens → OpeningIn lists contents (prepared_plan p).opens
requests_prepared lists contents p makes = opens_if lists contents (refusal_of p) p.opens (requests_in lists contents p.opens makes)

-- ---- events

-- a payload of the daemon has no chunk
lands_in : (lists : List (List ℕ)) (contents : ByNumber (List ℕ)) (i : Joint) (o : Option Payload) → PayloadLands i o → PayloadIn lists contents o
lands_in lists contents i None lands = tt
lands_in lists contents i (Some (payload.Daemon r)) lands = tt
lands_in lists contents i (Some (payload.Group g r)) lands = absurd lands

of_group_follows : (j : Joint) (g : GroupId) (o : Option Payload) → PaysOf g o → PayloadFollows j o
of_group_follows j g None of = tt
of_group_follows j g (Some (payload.Daemon r)) of = absurd of
of_group_follows j g (Some (payload.Group h r)) of = tt

mapped_is : {X Y : Type 0} (f : X → Y) (o : Option X) (y : Y) → option_map f o ≡ Some y → (x : X) × (o ≡ Some x) × (f x ≡ y)
mapped_is f None y is = absurd (cc)
mapped_is f (Some x) y is = (x, refl, cc)

landed_is : (j k : Joint) (c : Component) (o : Option Payload) (a : Answer) → doubt_outcome j c o ≡ Stepped k a
    → (p : Payload) × (o ≡ Some p) × (after_landing c p j ≡ k)
landed_is j k c None a is = absurd (cc)
landed_is j k c (Some p) a is = (p, refl, cc)

module _ (lists : List (List ℕ)) (j : Joint) (kept : InvariantHolds j) (summed : Summed lists j) (w : ℕ) where
  -- what a call on a volume journals and makes is nothing
  mounted_in : (g : GroupId) (vsn : Vsn) (image : Image) (x : MountState) (c : VolumeCall) → PlanIn lists j.history.contents (mounted_plan g vsn image x c)
  mounted_in g vsn image x (volume_call.WriteZone m place zone) = record { payload = tt; opens = tt }
  mounted_in g vsn image x (volume_call.ReadChunk m place n bytes) = record { payload = tt; opens = tt }
  mounted_in g vsn image x (volume_call.Relabel m epoch version) = record { payload = tt; opens = tt }

  volume_in : (g : GroupId) (vsn : Vsn) (o : Option Image) (x : Option MountState) (c : VolumeCall) → PlanIn lists j.history.contents (volume_plan g vsn o x c)
  volume_in g vsn None x c = record { payload = tt; opens = tt }
  volume_in g vsn (Some image) None c = record { payload = tt; opens = tt }
  volume_in g vsn (Some image) (Some x) c = mounted_in g vsn image x c

  on_volume_in : (g : GroupId) (vsn : Vsn) (c : VolumeCall) (o : Option Side) → PlanIn lists j.history.contents (volume_plan_in g vsn c o)
  on_volume_in g vsn c None = record { payload = tt; opens = tt }
  on_volume_in g vsn c (Some s) = volume_in g vsn (map.get s.images vsn.0) (map.get s.mounts (mount_in c)) c

  -- what a call of a group does
  group_in : (g : GroupId) (c : GroupCall) (o : Option Side) → map.get j.sides g.0 ≡ o
      → ((x : List ℕ) → Contains (hashed_by_group j c o) x → Contains lists x)
      → AllHold (guards_always (side_plan g c o) (side_needs (map.get j.workers w) j.history g c o)) → PlanIn lists j.history.contents (side_plan g c o)
  group_in g c None is hashed all = record { payload = tt; opens = tt }
  group_in g c (Some s) is hashed all =
      group_plan_in lists j g s (kept.sides g.0 s is) (summed g.0 s is) (map.get j.workers w) c hashed all

  daemon_follows : (p : Prepared) (o : Option Payload) → PayloadLands (after_ending w p.ends j) o → PayloadFollows j o
  daemon_follows p None lands = tt
  daemon_follows p (Some (payload.Daemon r)) lands = (still_follows w j p.ends r (follows (after_ending w p.ends j) r lands)).may
  daemon_follows p (Some (payload.Group g r)) lands = tt

  -- an answered call
  call_in : (c : Call) (k : Joint) (a : Answer) → HashesIn lists j (event.Call c) → step j w (event.Call c) ≡ Stepped k a → Summed lists k
  call_in (call.Daemon c) k a hashed is =
      let p = daemon_plan j.daemon c in
      let n = daemon_needs j.sides (map.get j.workers w) j.history j.daemon c in
      let o = outcome_is (illegal_call p n) (after_call w (prepared_plan p) j) k (prepared_plan p).answer a is in
      let lands = daemon_call_lands j kept w c (always_hold p n (refusal_of p) (all_hold (guards_of (refusal_of p) p n) o.0)) in
      subst (Summed lists) o.1
      (called_in lists j kept summed w (prepared_plan p) (lands_in lists j.history.contents (after_ending w p.ends j) (prepared_plan p).payload lands)
      (requests_prepared lists j.history.contents p (daemon_makes j.daemon c)) (daemon_follows (prepared_plan p) (prepared_plan p).payload lands))
  call_in (call.Group g c) k a hashed is =
      let p = side_plan g c (map.get j.sides g.0) in
      let n = side_needs (map.get j.workers w) j.history g c (map.get j.sides g.0) in
      let o = outcome_is (illegal_call p n) (after_call w (prepared_plan p) j) k (prepared_plan p).answer a is in
      let i = group_in g c (map.get j.sides g.0) refl hashed (always_hold p n (refusal_of p) (all_hold (guards_of (refusal_of p) p n) o.0)) in
      subst (Summed lists) o.1
      (called_in lists j kept summed w (prepared_plan p) (payload_prepared lists j.history.contents p i) (opens_prepared lists j.history.contents p i)
      (of_group_follows j g (prepared_plan p).payload (side_pays g c (map.get j.sides g.0))))
  call_in (call.Volume g vsn c) k a hashed is =
      let p = volume_plan_in g vsn c (map.get j.sides g.0) in
      let n = needs_of j w (call.Volume g vsn c) in
      let o = outcome_is (illegal_call p n) (after_call w (prepared_plan p) j) k (prepared_plan p).answer a is in
      let i = on_volume_in g vsn c (map.get j.sides g.0) in
      subst (Summed lists) o.1
      (called_in lists j kept summed w (prepared_plan p) (payload_prepared lists j.history.contents p i) (opens_prepared lists j.history.contents p i)
      (of_group_follows j g (prepared_plan p).payload (volume_pays g vsn c (map.get j.sides g.0))))

  -- one that failed
  fault_in : (c : Call) (healed checkpointed : Bool) (k : Joint) (a : Answer) → HashesIn lists j (event.Fault c healed checkpointed)
      → step j w (event.Fault c healed checkpointed) ≡ Stepped k a → Summed lists k
  fault_in (call.Daemon c) healed checkpointed k a hashed is =
      let p = daemon_plan j.daemon c in
      let n = daemon_needs j.sides (map.get j.workers w) j.history j.daemon c in
      let far = healed && checkpointed in
      let o = outcome_is (illegal_fault p n) (after_fault w (prepared_plan p) far j) k _ a is in
      let lands = daemon_call_lands j kept w c (front_holds (guards_always p n) _ (all_hold (guards_of_fault p n) o.0)) in
      subst (Summed lists) o.1
      (faulted_in lists j kept summed w (prepared_plan p) far (lands_in lists j.history.contents (after_ending w p.ends j) (prepared_plan p).payload lands))
  fault_in (call.Group g c) healed checkpointed k a hashed is =
      let p = side_plan g c (map.get j.sides g.0) in
      let n = side_needs (map.get j.workers w) j.history g c (map.get j.sides g.0) in
      let far = healed && checkpointed in
      let o = outcome_is (illegal_fault p n) (after_fault w (prepared_plan p) far j) k _ a is in
      let i = group_in g c (map.get j.sides g.0) refl hashed (front_holds (guards_always p n) _ (all_hold (guards_of_fault p n) o.0)) in
      subst (Summed lists) o.1 (faulted_in lists j kept summed w (prepared_plan p) far (payload_prepared lists j.history.contents p i))
  fault_in (call.Volume g vsn c) healed checkpointed k a hashed is =
      let p = volume_plan_in g vsn c (map.get j.sides g.0) in
      let n = needs_of j w (call.Volume g vsn c) in
      let far = healed && checkpointed in
      let o = outcome_is (illegal_fault p n) (after_fault w (prepared_plan p) far j) k _ a is in
      subst (Summed lists) o.1
      (faulted_in lists j kept summed w (prepared_plan p) far
      (payload_prepared lists j.history.contents p (on_volume_in g vsn c (map.get j.sides g.0))))

  -- a step in doubt that landed
  doubt_in : (g : GroupId) (k : Joint) (a : Answer) (o : Option Side) → map.get j.sides g.0 ≡ o → landing_outcome_in j g o ≡ Stepped k a → Summed lists k
  doubt_in g k a None side is = absurd (cc)
  doubt_in g k a (Some s) side is =
      let l = landed_is j k (component.Group g) (group_doubt g s) a is in
      let r = mapped_is (λ (r : GroupRecord). payload.Group g r) s.group.doubt l.0 l.1 in
      subst (Summed lists) l.2
      (subst (λ p. Summed lists (after_landing (component.Group g) p j)) r.2
      (landed_in_lists lists j kept summed (component.Group g) (payload.Group g r.0)
      (subst (λ o. DoubtIn lists j.history.contents o) r.1 (summed g.0 s side).doubt) tt))

  daemon_doubt_in : (k : Joint) (a : Answer) → step j w (event.Landed component.Daemon) ≡ Stepped k a → Summed lists k
  daemon_doubt_in k a is =
      let l = landed_is j k component.Daemon (daemon_doubt j) a is in
      let r = mapped_is (λ (r : DaemonRecord). payload.Daemon r) j.daemon.doubt l.0 l.1 in
      let may = subst (λ o. MayLandIf j.daemon.tables j.daemon.requests j.history.contents j.daemon.cap j.sides o) r.1 kept.doubt in
      subst (Summed lists) l.2
      (subst (λ p. Summed lists (after_landing component.Daemon p j)) r.2
      (landed_in_lists lists j kept summed component.Daemon (payload.Daemon r.0) tt may.follow))

  looked_in_lists : (k : Joint) (o : Option Side) (a : Answer) → look_outcome_in j o ≡ Stepped k a → Summed lists k
  looked_in_lists k None a is = absurd (cc)
  looked_in_lists k (Some s) a is = let same : j ≡ k = cc in subst (Summed lists) same summed

  stop_in_lists : (k : Joint) (a : Answer) → step j w event.Stop ≡ Stepped k a → Summed lists k
  stop_in_lists k a is =
      let same : after_stop j ≡ k = cc in
      subst (Summed lists) same
      (each-map numbers (λ g s. SideSummed lists j.history.contents s) (λ g. side_after_stop) j.sides
      (λ g s at. stop_in lists j.history.contents s (summed g s at)))

  -- an event of whatever kind
  pub event_in : (e : Event) (k : Joint) (a : Answer) → HashesIn lists j e → step j w e ≡ Stepped k a → Summed lists k
  event_in (event.Call c) k a hashed is = call_in c k a hashed is
  event_in (event.Fault c healed checkpointed) k a hashed is = fault_in c healed checkpointed k a hashed is
  event_in (event.Landed component.Daemon) k a hashed is = daemon_doubt_in k a is
  event_in (event.Landed (component.Group g)) k a hashed is = doubt_in g k a (map.get j.sides g.0) refl is
  event_in (event.Look component.Daemon) k a hashed is = let same : j ≡ k = cc in subst (Summed lists) same summed
  event_in (event.Look (component.Group g)) k a hashed is = looked_in_lists k (map.get j.sides g.0) a is
  event_in event.Stop k a hashed is = stop_in_lists k a is
