-- Each event leaves a mount of any volume what it says of the tables.
use Rattle.std.proofs.Common.{◌≡◌, ◌≢◌, ℕ, Bool, true, false, cond, ◌&&◌, nat_eq, Option, None, Some, List, [], ◌∷◌, option_map, refl, sym, ap, subst, ◌∙◌, nat_cmp}
use Rattle.std.specs.FinMap as map
use Rattle.dm_base.specs.declared.identifier.Bfid.{Bfid}
use Rattle.dm_base.specs.declared.identifier.GroupId.{GroupId}
use Rattle.dm_base.specs.declared.serial.Vsn.{Vsn}
use Rattle.dm_base.specs.declared.volume.Chunk.{Chunk}
use Rattle.dm_base.specs.declared.volume.Piece.{Piece}
use Rattle.dm_tables.specs.Rows.{EachRow}
use Rattle.dm_tables.proofs.Orders.{numbers}
use Rattle.dm_tables.proofs.Rows.{each-empty, each-left}
use Rattle.dm_durable.specs.declared.daemon.DaemonRecord.{DaemonRecord}
use Rattle.dm_durable.specs.declared.group.BitfileRow.{BitfileRow}
use Rattle.dm_durable.specs.declared.group.GroupRecord.{GroupRecord}
use Rattle.dm_durable.specs.declared.group.GroupStep.{GroupStep}
use Rattle.dm_durable.specs.declared.group.GroupStep.TheVariants as group_step
use Rattle.dm_durable.specs.declared.group.VolumeRow.{VolumeRow}
use Rattle.dm_durable.specs.Group.{chunk_at}
use Rattle.dm_durable.specs.Tables.{ByNumber}
use Rattle.dm_durable.specs.Volumes.{LiveChunk, destination_in, first_on, is_freeable_in, reusable_in}
use Rattle.dm_rules.specs.declared.space.Space.{Space}
use Rattle.std.proofs.lemmas.Option.{same_Some}
use Rattle.dm_model.specs.declared.answer.Answer.{Answer}
use Rattle.dm_model.specs.declared.call.Call.{Call}
use Rattle.dm_model.specs.declared.call.Call.TheVariants as call
use Rattle.dm_model.specs.declared.call.Component.{Component}
use Rattle.dm_model.specs.declared.call.Component.TheVariants as component
use Rattle.dm_model.specs.declared.call.DaemonCall.{DaemonCall}
use Rattle.dm_model.specs.declared.call.Event.{Event}
use Rattle.dm_model.specs.declared.call.Event.TheVariants as event
use Rattle.dm_model.specs.declared.call.GroupCall.{GroupCall}
use Rattle.dm_model.specs.declared.call.GroupCall.TheVariants as group_call
use Rattle.dm_model.specs.declared.call.VolumeCall.{VolumeCall}
use Rattle.dm_model.specs.declared.call.VolumeCall.TheVariants as volume_call
use Rattle.dm_model.specs.declared.plan.Ending.{Ending}
use Rattle.dm_model.specs.declared.plan.Mark.{Mark}
use Rattle.dm_model.specs.declared.plan.Mark.TheVariants as mark
use Rattle.dm_model.specs.declared.plan.Opening.{Opening}
use Rattle.dm_model.specs.declared.plan.Opening.TheVariants as opening
use Rattle.dm_model.specs.declared.plan.Payload.{Payload}
use Rattle.dm_model.specs.declared.plan.Payload.TheVariants as payload
use Rattle.dm_model.specs.declared.plan.Prepared.{Prepared}
use Rattle.dm_model.specs.declared.state.Image.{Image}
use Rattle.dm_model.specs.declared.state.Joint.{Joint}
use Rattle.dm_model.specs.declared.state.Mounted.{Mounted}
use Rattle.dm_model.specs.declared.state.MountState.{MountState}
use Rattle.dm_model.specs.declared.state.Moving.{Moving}
use Rattle.dm_model.specs.declared.state.Reserved.{Reserved}
use Rattle.dm_model.specs.declared.state.Reusing.{Reusing}
use Rattle.dm_model.specs.declared.state.Side.{Side}
use Rattle.dm_model.specs.DaemonCalls.{daemon_needs, daemon_plan}
use Rattle.dm_model.specs.Effects.{after_ending, after_healing, after_mark, after_payload}
use Rattle.dm_model.specs.GroupCalls.{abort, add_volume, commit, delete_of, drop_move, free, free_of, group_plan, merge_first, merge_to, mount_chunk}
use Rattle.dm_model.specs.GroupCalls.{mount_chunk_of, mount_piece, mount_piece_of, move_done, piece_at, reuse, reuse_first, unmount, group_time}
use Rattle.dm_model.specs.Volumes.{usage_of}
use Rattle.dm_model.specs.Plan.{Plan, Needs, guards_of, if_accepted, illegal_call, illegal_fault, prepared_plan, refusal_of}
use Rattle.dm_model.specs.SideShare.{mounts_after_ending, side_after_ending, side_without_doubt}
use Rattle.dm_model.specs.VolumeCalls.{mount_in, volume_plan}
use Rattle.dm_model.specs.Step.{RunEntry, Run, Stepped, after_call, after_fault, after_landing, after_stop, doubt_outcome, landing_outcome_in, needs_of, outcome_of, plan_of, side_plan, step, volume_plan_in}
use Rattle.dm_model.proofs.PlansOf.{group_plan-of, prepared-of}
use Rattle.dm_model.proofs.Shares.{IsOfGroup, PaysOf, ending-at, healing-at}
use Rattle.dm_invariant.specs.Doubts.{GroupMayLandIf, GroupStepNeeds}
use Rattle.dm_invariant.specs.Kept.{InvariantHolds, SideKept, committed_in, deleted_in}
use Rattle.dm_landing.proofs.CallsLanded.{PayloadLands, daemon_call_lands}
use Rattle.dm_effects.proofs.BeginningCalls.{always_hold}
use Rattle.dm_shown.specs.Along.{KeptAlong}
use Rattle.dm_once.specs.Missing.{ListedRight, MountsListed}
use Rattle.dm_shown.proofs.RunsShown.{along_rest}
use Rattle.dm_once.proofs.DaemonRequests.{OnlyRequest, daemon_requests}
use Rattle.dm_once.proofs.MissingParts.{AnyMark, OpensListed, SideListed, Spares, SparesMounts, listed_doubted, listed_ended, listed_failed, listed_marked}
use Rattle.dm_once.proofs.MissingParts.{listed_opened, listed_paid, listed_settled, listed_stopped}
use Rattle.dm_shown.proofs.EventsShown.{all_hold, landed_is, look_is, mapped_is, outcome_is, payload_is}
use Rattle.dm_once.proofs.MissingMakes.{MadeListed, plan_makes}
use Rattle.dm_once.proofs.SidesAlong.{MarksIf, PaysIf, all_called, all_faulted, all_landed, all_stopped}

-- ---- what events do to sides, of this

abbrev PaysListed : Joint → Option Payload → Type 0
PaysListed j o =
    PaysIf SideListed SparesMounts AnyMark OpensListed listed_ended listed_settled listed_paid listed_doubted listed_marked listed_failed listed_opened j o

abbrev MarksListed : Joint → Mark → Type 0
MarksListed j x =
    MarksIf SideListed SparesMounts AnyMark OpensListed listed_ended listed_settled listed_paid listed_doubted listed_marked listed_failed listed_opened j x

any_mark : (j : Joint) (x : Mark) → MarksListed j x
any_mark j mark.Nothing = tt
any_mark j (mark.Zone g vsn place zone d index e) = λ s is. tt
any_mark j (mark.Target g vsn m place zone) = λ s is. tt
any_mark j (mark.Label g vsn m e version text) = λ s is. tt
any_mark j (mark.Read g d offset bytes) = tt
any_mark j (mark.Source g m bytes) = λ s is. tt
any_mark j (mark.Deleted g d) = tt

called_listed : (w : ℕ) (p : Prepared) (j : Joint) → PaysListed (after_healing p.heals p.component (after_ending w p.ends j)) p.payload
    → MadeListed (after_mark w p.mark (after_payload p.payload (after_healing p.heals p.component (after_ending w p.ends j)))) p.opens → ListedRight j
    → ListedRight (after_call w p j)
called_listed w p j pays opens listed =
    all_called SideListed SparesMounts AnyMark OpensListed listed_ended listed_settled listed_paid listed_doubted listed_marked listed_failed listed_opened w p j pays
    (any_mark (after_payload p.payload (after_healing p.heals p.component (after_ending w p.ends j))) p.mark) opens listed

faulted_listed : (w : ℕ) (p : Prepared) (far : Bool) (j : Joint) → ListedRight j → ListedRight (after_fault w p far j)
faulted_listed w p far j listed =
    all_faulted SideListed SparesMounts AnyMark OpensListed listed_ended listed_settled listed_paid listed_doubted listed_marked listed_failed listed_opened w p far j
    (any_mark (after_ending w p.ends j) p.mark) listed

landed_listed : (c : Component) (p : Payload) (j : Joint) → PaysListed (after_healing true c j) (Some p) → ListedRight j → ListedRight (after_landing c p j)
landed_listed c p j pays listed =
    all_landed SideListed SparesMounts AnyMark OpensListed listed_ended listed_settled listed_paid listed_doubted listed_marked listed_failed listed_opened c p j pays listed

stopped_listed : (j : Joint) → ListedRight j → ListedRight (after_stop j)
stopped_listed j listed =
    all_stopped SideListed SparesMounts AnyMark OpensListed listed_ended listed_settled listed_paid listed_doubted listed_marked listed_failed listed_opened j listed_stopped
    listed

-- ---- what a group journals spares the mounts that are left

abbrev SparesIf : Side → Ending → Option Payload → Type 0
SparesIf s e None = Unit {0}
SparesIf s e (Some (payload.Daemon r)) = Unit {0}
SparesIf s e (Some (payload.Group g r)) = EachRow (mounts_after_ending e s) (λ m x. Spares r.step x.vsn.0)

abbrev PlanSpares : Side → Plan → Type 0
PlanSpares s p = SparesIf s p.ends p.payload

spares_if : (s : Side) (e : Ending) (o : Option Answer) (q : Option Payload) → SparesIf s e q → SparesIf s e (if_accepted o None q)
spares_if s e None q spares = spares
spares_if s e (Some a) q spares = tt

-- of the volume of a mount that is spent no other mount is open
alone : (mounts : ByNumber MountState) (m : ℕ) (y : MountState) (vsn : List ℕ)
    → ((n l : ℕ) (x z : MountState) → map.get mounts n ≡ Some x → map.get mounts l ≡ Some z → x.vsn.0 ≡ z.vsn.0 → n ≡ l)
    → map.get mounts m ≡ Some y → y.vsn.0 ≡ vsn → EachRow (map.remove mounts m) (λ n x. x.vsn.0 ≢ vsn)
alone mounts m y vsn apart is of =
    each-left numbers (λ n x. x.vsn.0 ≢ vsn) mounts m (λ n x differ at same. differ (apart n m x y at is (same ∙ sym of)))

module _ (j : Joint) (kept : InvariantHolds j) (g : GroupId) (s : Side) (side : map.get j.sides g.0 ≡ Some s) where
  abbrev K : SideKept j.daemon.tables.entries j.history.contents j.history.taken j.daemon.requests g.0 (committed_in (map.get j.history.groups g.0))
      (deleted_in (map.get j.history.groups g.0)) s
  K = kept.sides g.0 s side

  volume_added : (m now : ℕ) (o : Option Mounted) → map.get s.group.mounts m ≡ o → PlanSpares s (add_volume g s.group m now o)
  volume_added m now None is = tt
  volume_added m now (Some x) is =
      let mount = mapped_is (λ (y : MountState). record { vsn = y.vsn; epoch = y.epoch }) (map.get s.mounts m) x (sym (K.mounts.same m) ∙ is) in
      alone s.mounts m mount.0 x.vsn.0 K.mounts.apart mount.1 (ap (λ (y : Mounted). y.vsn.0) mount.2)

  volume_reused : (m now : ℕ) (o : Option Reusing) → PlanSpares s (reuse g s.group m now o)
  volume_reused m now None = tt
  volume_reused m now (Some x) = λ m y is. tt

  piece_mounted_of : (r : Reserved) (k m : ℕ) (o : Option Piece) → PlanSpares s (mount_piece_of g s.group r k m o)
  piece_mounted_of r k m None = tt
  piece_mounted_of r k m (Some p) = tt

  piece_mounted : (k m : ℕ) (o : Option Reserved) → PlanSpares s (mount_piece g s.group k m o)
  piece_mounted k m None = tt
  piece_mounted k m (Some r) = piece_mounted_of r k m (piece_at k r.pieces)

  chunk_mounted_of : (b : Bfid) (m : ℕ) (o : Option Chunk) → PlanSpares s (mount_chunk_of g s.group b m o)
  chunk_mounted_of b m None = tt
  chunk_mounted_of b m (Some c) = tt

  at_end : (q p : Plan) (end : Bool) → PlanSpares s q → PlanSpares s p → PlanSpares s (cond end q p)
  at_end q p true is_q is_p = is_q
  at_end q p false is_q is_p = is_p

  chunk_mounted : (b : Bfid) (offset m : ℕ) (o : Option BitfileRow) → PlanSpares s (mount_chunk g s.group b offset m o)
  chunk_mounted b offset m None = chunk_mounted_of b m None
  chunk_mounted b offset m (Some row) = at_end _ _ (nat_eq offset row.len) tt (chunk_mounted_of b m (chunk_at offset row.chunks))

  unmounted : (m : ℕ) (o : Option Mounted) → PlanSpares s (unmount g m o)
  unmounted m None = tt
  unmounted m (Some x) = tt

  committed : (n : ℕ) (sums : List (List ℕ)) (now : ℕ) (o : Option Reserved) → PlanSpares s (commit g s.group n sums now o)
  committed n sums now None = tt
  committed n sums now (Some r) = λ m x is. tt

  aborted : (n : ℕ) (o : Option Reserved) → PlanSpares s (abort g n o)
  aborted n None = tt
  aborted n (Some r) = tt

  deleted : (b : Bfid) (now : ℕ) (there : Bool) → PlanSpares s (delete_of g s.group b now there)
  deleted b now true = λ m x is. tt
  deleted b now false = tt

  merged_to : (merged : List Vsn) (l : LiveChunk) (job from to : ℕ) (o : Option Space) → PlanSpares s (merge_to g s.group merged l job from to o)
  merged_to merged l job from to None = tt
  merged_to merged l job from to (Some p) = tt

  merged_first : (merged : List Vsn) (job from to : ℕ) (o : Option LiveChunk) → PlanSpares s (merge_first g s.group merged job from to o)
  merged_first merged job from to None = tt
  merged_first merged job from to (Some l) =
      merged_to merged l job from to (destination_in (usage_of s.group) merged s.group.tables.volumes l.chunk.len)

  moved : (job : ℕ) (sum : Option (List ℕ)) (now : ℕ) (o : Option Moving) → PlanSpares s (move_done g s.group job sum now o)
  moved job sum now None = tt
  moved job sum now (Some x) = λ m y is. tt

  move_dropped : (job : ℕ) (o : Option Moving) → PlanSpares s (drop_move g job o)
  move_dropped job None = tt
  move_dropped job (Some x) = tt

  freed_of : (vsn : Vsn) (now : ℕ) (freed : Bool) → PlanSpares s (free_of g s.group vsn now freed)
  freed_of vsn now true = λ m x is. tt
  freed_of vsn now false = tt

  freed : (vsn : Vsn) (now : ℕ) (o : Option VolumeRow) → PlanSpares s (free g s.group vsn now o)
  freed vsn now None = tt
  freed vsn now (Some v) = freed_of vsn now (is_freeable_in (usage_of s.group) s.group.tables vsn.0 v)

  reuse_begun : (m now : ℕ) (vsns : List Vsn) → PlanSpares s (reuse_first g s.group m now vsns)
  reuse_begun m now [] = tt
  reuse_begun m now (v ∷ vs) = tt

  plan_spares : (c : GroupCall) → PlanSpares s (group_plan g s.group c)
  plan_spares group_call.Missing = tt
  plan_spares (group_call.MountNew vsn m) = tt
  plan_spares (group_call.AddVolume m now) = volume_added m now.0 (map.get s.group.mounts m) refl
  plan_spares (group_call.Reserve b len n) = tt
  plan_spares (group_call.MountPiece n k m) = piece_mounted k m (map.get s.group.reservations n)
  plan_spares (group_call.MountChunk b offset m) = chunk_mounted b offset m (map.get s.group.tables.bitfiles b.0)
  plan_spares (group_call.Unmount m) = unmounted m (map.get s.group.mounts m)
  plan_spares (group_call.Commit n sums now) = committed n sums now.0 (map.get s.group.reservations n)
  plan_spares (group_call.Abort n) = aborted n (map.get s.group.reservations n)
  plan_spares (group_call.Delete b now) = deleted b now.0 _
  plan_spares group_call.MergeList = tt
  plan_spares (group_call.MergeNext merged source job from to) = merged_first merged job from to (first_on s.group.tables.bitfiles source.0)
  plan_spares (group_call.MoveDone job sum now) = moved job sum now.0 (map.get s.group.moves job)
  plan_spares (group_call.DropMove job) = move_dropped job (map.get s.group.moves job)
  plan_spares (group_call.Free vsn now) = freed vsn now.0 (map.get s.group.tables.volumes vsn.0)
  plan_spares (group_call.ReuseNext m now) =
      reuse_begun m now.0 (reusable_in (usage_of s.group) (group_time s.group now.0) s.group.conf.hold s.group.conf.format s.group.tables.volumes)
  plan_spares (group_call.Reuse m now) = volume_reused m now.0 (map.get s.group.reuses m)
  plan_spares group_call.Rows = tt
  plan_spares group_call.Volumes = tt

  -- ---- the side as it journals

  healed_side : (w : ℕ) (p : Prepared) → IsOfGroup g p
      → map.get (after_healing p.heals p.component (after_ending w p.ends j)).sides g.0 ≡ Some (side_without_doubt p.heals (side_after_ending p.ends s))
  healed_side w p of =
      let spent = ending-at g p.ends j.sides s of.ends side in
      subst (λ c. map.get (after_healing p.heals c (after_ending w p.ends j)).sides g.0 ≡ Some (side_without_doubt p.heals (side_after_ending p.ends s)))
      (sym of.component) (healing-at g p.heals (after_ending w p.ends j).sides (side_after_ending p.ends s) spent)

  pays_spared : (w : ℕ) (p : Prepared) (o : Option Payload) → IsOfGroup g p → PaysOf g o → SparesIf s p.ends o
      → PaysListed (after_healing p.heals p.component (after_ending w p.ends j)) o
  pays_spared w p None of pays spares = tt
  pays_spared w p (Some (payload.Daemon r)) of pays spares = tt
  pays_spared w p (Some (payload.Group h r)) of pays spares = λ x is.
      let here = subst (λ (i : GroupId). map.get (after_healing p.heals p.component (after_ending w p.ends j)).sides i.0 ≡ Some x) pays is in
      let same : side_without_doubt p.heals (side_after_ending p.ends s) ≡ x = same_Some _ x (sym (healed_side w p of) ∙ here) in
      subst (λ (y : Side). SparesMounts h.0 y r) same spares

  -- a step in doubt spares all mounts
  doubt_spares : (now : ℕ) (st : GroupStep)
      → GroupStepNeeds g.0 j.daemon.tables.entries j.history.contents j.history.taken (deleted_in (map.get j.history.groups g.0)) s now st
      → EachRow s.mounts (λ m x. Spares st x.vsn.0)
  doubt_spares now (group_step.Volume vsn slot version size) needs = λ m x is same. needs.unmounted m x is same
  doubt_spares now (group_step.Commit b len chunks) needs = λ m x is. tt
  doubt_spares now (group_step.Delete b) needs = λ m x is. tt
  doubt_spares now (group_step.Move b from to) needs = λ m x is. tt
  doubt_spares now (group_step.Free vsn) needs = λ m x is. tt
  doubt_spares now (group_step.Reuse vsn epoch version) needs = λ m x is. tt

  landed_spares : (o : Option GroupRecord)
      → GroupMayLandIf g.0 j.daemon.tables.entries j.history.contents j.history.taken (deleted_in (map.get j.history.groups g.0)) s o
      → (r : GroupRecord) → o ≡ Some r → PaysListed (after_healing true (component.Group g) j) (Some (payload.Group g r))
  landed_spares None may r is = absurd (cc)
  landed_spares (Some q) may r is = λ x at.
      let same : side_without_doubt true s ≡ x = same_Some _ x (sym (healing-at g true j.sides s side) ∙ at) in
      let record_same : q ≡ r = same_Some q r is in
      subst (λ (y : Side). SparesMounts g.0 y r) same (subst (λ (y : GroupRecord). SparesMounts g.0 s y) record_same (doubt_spares q.time.0 q.step may.needs))

-- ---- an event

module _ (j : Joint) (w : ℕ) (kept : InvariantHolds j) (listed : ListedRight j) where
  -- the state in which a plan makes something
  abbrev Made : Plan → Joint
  Made p = let q = prepared_plan p in after_mark w q.mark (after_payload q.payload (after_healing q.heals q.component (after_ending w q.ends j)))

  of_daemon : (i : Joint) (o : Option Payload) → PayloadLands i o
      → (l : Joint) → PaysListed l o
  of_daemon i None lands l = tt
  of_daemon i (Some (payload.Daemon r)) lands l = tt
  of_daemon i (Some (payload.Group g r)) lands l = absurd lands

  request_made : (i : Joint) (o : Option Answer) (x : Opening) → OnlyRequest x → MadeListed i (if_accepted o opening.Nothing x)
  request_made i (Some a) x only = tt
  request_made i None opening.Nothing only = tt
  request_made i None (opening.Put k r len groups) only = λ g s. tt
  request_made i None (opening.Recall k r recall) only = tt
  request_made i None (opening.Reservation g n r) only = absurd only
  request_made i None (opening.Mount g m vsn e made) only = absurd only
  request_made i None (opening.Move g job x source_epoch target_epoch) only = absurd only
  request_made i None (opening.Reuse g m e x reading) only = absurd only

  daemon_called : (c : DaemonCall) (k : Joint) (x : Answer) → step j w (event.Call (call.Daemon c)) ≡ Stepped k x → ListedRight k
  daemon_called c k x is =
      let p = daemon_plan j.daemon c in
      let n = daemon_needs j.sides (map.get j.workers w) j.history j.daemon c in
      let o = outcome_is (illegal_call p n) (after_call w (prepared_plan p) j) k (prepared_plan p).answer x is in
      let legal = always_hold p n (refusal_of p) (all_hold (guards_of (refusal_of p) p n) o.0) in
      let lands = daemon_call_lands j kept w c legal in
      subst ListedRight o.1
      (called_listed w (prepared_plan p) j
      (of_daemon (after_ending w p.ends j) (prepared_plan p).payload lands (after_healing p.heals p.component (after_ending w p.ends j)))
      (request_made (Made p) (refusal_of p) p.opens (daemon_requests j.daemon c).opens) listed)

  makes_if : (p : Plan) (o : Option Answer)
      → MadeListed (after_mark w p.mark (after_payload p.payload (after_healing p.heals p.component (after_ending w p.ends j)))) p.opens
      → MadeListed (after_mark w (if_accepted o mark.Nothing p.mark) (after_payload (if_accepted o None p.payload) (after_healing p.heals p.component (after_ending w p.ends j))))
      (if_accepted o opening.Nothing p.opens)
  makes_if p None makes = makes
  makes_if p (Some a) makes = tt

  side_called : (g : GroupId) (c : GroupCall) (o : Option Side) → map.get j.sides g.0 ≡ o → ListedRight (after_call w (prepared_plan (side_plan g c o)) j)
  side_called g c None at =
      called_listed w (prepared_plan (side_plan g c None)) j tt tt listed
  side_called g c (Some s) at =
      let p = group_plan g s.group c in
      let of = prepared-of g p (group_plan-of g s.group c) in
      called_listed w (prepared_plan p) j
      (pays_spared j kept g s at w (prepared_plan p) (prepared_plan p).payload of of.pays
      (spares_if s p.ends (refusal_of p) p.payload (plan_spares j kept g s at c)))
      (makes_if p (refusal_of p) (plan_makes j w g s at c)) listed

  image_spares : (g : GroupId) (vsn : Vsn) (image : Option Image) (x : Option MountState) (c : VolumeCall) (l : Joint)
      → PaysListed l (prepared_plan (volume_plan g vsn image x c)).payload
  image_spares g vsn None x c l = tt
  image_spares g vsn (Some i) None c l = tt
  image_spares g vsn (Some i) (Some y) (volume_call.WriteZone m place zone) l = tt
  image_spares g vsn (Some i) (Some y) (volume_call.ReadChunk m place n bytes) l = tt
  image_spares g vsn (Some i) (Some y) (volume_call.Relabel m epoch version) l = tt

  image_makes : (g : GroupId) (vsn : Vsn) (image : Option Image) (x : Option MountState) (c : VolumeCall) (l : Joint)
      → MadeListed l (prepared_plan (volume_plan g vsn image x c)).opens
  image_makes g vsn None x c l = tt
  image_makes g vsn (Some i) None c l = tt
  image_makes g vsn (Some i) (Some y) (volume_call.WriteZone m place zone) l = tt
  image_makes g vsn (Some i) (Some y) (volume_call.ReadChunk m place n bytes) l = tt
  image_makes g vsn (Some i) (Some y) (volume_call.Relabel m epoch version) l = tt

  volume_makes : (g : GroupId) (vsn : Vsn) (c : VolumeCall) (o : Option Side) (l : Joint) → MadeListed l (prepared_plan (volume_plan_in g vsn c o)).opens
  volume_makes g vsn c None l = tt
  volume_makes g vsn c (Some s) l = image_makes g vsn (map.get s.images vsn.0) (map.get s.mounts (mount_in c)) c l

  volume_spares : (g : GroupId) (vsn : Vsn) (c : VolumeCall) (o : Option Side) (l : Joint) → PaysListed l (prepared_plan (volume_plan_in g vsn c o)).payload
  volume_spares g vsn c None l = tt
  volume_spares g vsn c (Some s) l = image_spares g vsn (map.get s.images vsn.0) (map.get s.mounts (mount_in c)) c l

  came : (p : Plan) (n : Needs) (k : Joint) (x : Answer) → outcome_of (illegal_call p n) (after_call w (prepared_plan p) j) (prepared_plan p).answer ≡ Stepped k x
      → ListedRight (after_call w (prepared_plan p) j) → ListedRight k
  came p n k x is after = subst ListedRight (outcome_is (illegal_call p n) (after_call w (prepared_plan p) j) k (prepared_plan p).answer x is).1 after

  faulted : (c : Call) (healed checkpointed : Bool) (k : Joint) (x : Answer) → step j w (event.Fault c healed checkpointed) ≡ Stepped k x → ListedRight k
  faulted c healed checkpointed k x is =
      let p = plan_of j c in
      let n = needs_of j w c in
      let far = healed && checkpointed in
      let o = outcome_is (illegal_fault p n) (after_fault w (prepared_plan p) far j) k _ x is in
      subst ListedRight o.1 (faulted_listed w (prepared_plan p) far j listed)

  daemon_landed : (k : Joint) (x : Answer) (o : Option DaemonRecord)
      → doubt_outcome j component.Daemon (option_map (λ r. payload.Daemon r) o) ≡ Stepped k x → ListedRight k
  daemon_landed k x None is = absurd (cc)
  daemon_landed k x (Some r) is =
      let l = landed_is j k component.Daemon (Some (payload.Daemon r)) x is in
      let same : after_landing component.Daemon (payload.Daemon r) j ≡ k =
      ap (λ p. after_landing component.Daemon p j) (payload_is (payload.Daemon r) l.0 l.1) ∙ l.2 in
      subst ListedRight same (landed_listed component.Daemon (payload.Daemon r) j tt listed)

  group_landed : (g : GroupId) (s : Side) → map.get j.sides g.0 ≡ Some s → (o : Option GroupRecord) → s.group.doubt ≡ o → (k : Joint) (x : Answer)
      → doubt_outcome j (component.Group g) (option_map (λ r. payload.Group g r) o) ≡ Stepped k x → ListedRight k
  group_landed g s side None doubt k x is = absurd (cc)
  group_landed g s side (Some r) doubt k x is =
      let l = landed_is j k (component.Group g) (Some (payload.Group g r)) x is in
      let same : after_landing (component.Group g) (payload.Group g r) j ≡ k =
      ap (λ p. after_landing (component.Group g) p j) (payload_is (payload.Group g r) l.0 l.1) ∙ l.2 in
      subst ListedRight same
      (landed_listed (component.Group g) (payload.Group g r) j
      (landed_spares j kept g s side s.group.doubt (kept.sides g.0 s side).doubt r doubt) listed)

  side_landed : (g : GroupId) (o : Option Side) → map.get j.sides g.0 ≡ o → (k : Joint) (x : Answer) → landing_outcome_in j g o ≡ Stepped k x → ListedRight k
  side_landed g None at k x is = absurd (cc)
  side_landed g (Some s) at k x is = group_landed g s at s.group.doubt refl k x is

  -- an event leaves what mounts of any volume say of the tables
  pub event_listed : (e : Event) (k : Joint) (x : Answer) → step j w e ≡ Stepped k x → ListedRight k
  event_listed (event.Call (call.Daemon c)) k x is = daemon_called c k x is
  event_listed (event.Call (call.Group g c)) k x is =
      came (plan_of j (call.Group g c)) (needs_of j w (call.Group g c)) k x is (side_called g c (map.get j.sides g.0) refl)
  event_listed (event.Call (call.Volume g vsn c)) k x is =
      let p = plan_of j (call.Volume g vsn c) in
      came p (needs_of j w (call.Volume g vsn c)) k x is
      (called_listed w (prepared_plan p) j
      (volume_spares g vsn c (map.get j.sides g.0) (after_healing p.heals p.component (after_ending w p.ends j)))
      (volume_makes g vsn c (map.get j.sides g.0) (Made p)) listed)
  event_listed (event.Fault c healed checkpointed) k x is = faulted c healed checkpointed k x is
  event_listed (event.Landed component.Daemon) k x is = daemon_landed k x j.daemon.doubt is
  event_listed (event.Landed (component.Group g)) k x is = side_landed g (map.get j.sides g.0) refl k x is
  event_listed (event.Look c) k x is = subst ListedRight (look_is j k c x is) listed
  event_listed event.Stop k x is =
      let same : after_stop j ≡ k = cc in
      subst ListedRight same (stopped_listed j listed)

-- ---- runs

-- where no mount is open there is nothing to say
pub unmounted_listed : (j : Joint) → EachRow j.sides (λ g s. s.mounts ≡ map.empty) → ListedRight j
unmounted_listed j none = λ g s is.
    subst (λ mounts. MountsListed s.group.tables.volumes mounts) (sym (none g s is)) (each-empty nat_cmp _)

pub run_listed : (j : Joint) (entries : List RunEntry) (k : Joint) → KeptAlong j entries → Run j entries k → ListedRight j → ListedRight k
run_listed j [] k kept run listed = subst ListedRight run listed
run_listed j (e ∷ es) k kept run listed =
    run_listed run.0 es k (along_rest j run.0 e es kept run.1) run.2 (event_listed j e.worker kept.0 listed e.event run.0 e.answer run.1)
