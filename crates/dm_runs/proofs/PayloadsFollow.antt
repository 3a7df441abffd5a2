-- What a legal call journals may be next, and what is in doubt; and tables may be a state.
--
-- Of a group's call it follows from the call's failure: its record is in doubt then, and what is in doubt may land.
use Rattle.std.proofs.Common.{◌≡◌, ℕ, true, Option, None, Some, refl, sym, ap, subst, ◌∙◌, arith}
use Rattle.std.specs.FinMap as map
use Rattle.dm_base.specs.declared.identifier.GroupId.{GroupId}
use Rattle.dm_base.specs.declared.serial.Vsn.{Vsn}
use Rattle.dm_base.specs.declared.volume.Chunk.{Chunk}
use Rattle.dm_durable.specs.declared.group.GroupRecord.{GroupRecord}
use Rattle.dm_durable.specs.declared.group.GroupTables.{GroupTables}
use Rattle.dm_durable.specs.GroupConditions.{LiesOn, MayGroupFollow}
use Rattle.dm_durable.specs.GroupJournal.{MayBeGroupState}
use Rattle.dm_durable.specs.Limits.{IsGroupNumber, IsVolumeSize}
use Rattle.dm_model.specs.declared.call.Call.{Call}
use Rattle.dm_model.specs.declared.call.Call.TheVariants as call
use Rattle.dm_model.specs.declared.call.GroupCall.{GroupCall}
use Rattle.dm_model.specs.declared.call.VolumeCall.{VolumeCall}
use Rattle.dm_model.specs.declared.call.VolumeCall.TheVariants as volume_call
use Rattle.dm_model.specs.declared.plan.Ending.{Ending}
use Rattle.dm_model.specs.declared.plan.Ending.TheVariants as ending
use Rattle.dm_model.specs.declared.plan.Payload.{Payload}
use Rattle.dm_model.specs.declared.plan.Payload.TheVariants as payload
use Rattle.dm_model.specs.declared.state.Group.{Group}
use Rattle.dm_model.specs.declared.state.Image.{Image}
use Rattle.dm_model.specs.declared.state.Joint.{Joint}
use Rattle.dm_model.specs.declared.state.MountState.{MountState}
use Rattle.dm_model.specs.declared.state.Side.{Side}
use Rattle.dm_model.specs.DaemonCalls.{daemon_plan}
use Rattle.dm_model.specs.Effects.{after_ending}
use Rattle.dm_model.specs.GroupCalls.{group_needs, group_plan}
use Rattle.dm_model.specs.GroupShare.{group_after_ending, group_doubting}
use Rattle.dm_model.specs.Guards.{AllHold}
use Rattle.dm_model.specs.Plan.{guards_always, guards_of, guards_of_fault, prepared_plan, refusal_of}
use Rattle.dm_model.specs.SideShare.{side_after_fault}
use Rattle.dm_model.specs.Step.{after_fault, needs_of, plan_of, side_needs, side_plan, volume_plan_in}
use Rattle.dm_model.specs.VolumeCalls.{mount_in, volume_plan}
use Rattle.dm_model.proofs.PlansOf.{group_plan-of, prepared-of}
use Rattle.dm_model.proofs.Shares.{PaysOf, group-after_fault, side-after_fault}
use Rattle.dm_invariant.specs.Catalogue.{LiesBefore}
use Rattle.dm_invariant.specs.Doubts.{GroupMayLandIf, MayLandIf}
use Rattle.dm_invariant.specs.Kept.{InvariantHolds, SideOf, deleted_in}
use Rattle.dm_invariant.specs.Volumes.{VolumesKept}
use Rattle.dm_invariant.proofs.Options.{same_row}
use Rattle.dm_landing.proofs.CallsLanded.{PayloadLands, daemon_call_lands}
use Rattle.dm_landing.proofs.VolumeChunkLists.{each_lies}
use Rattle.dm_effects.proofs.BeginningCalls.{always_hold, front_holds}
use Rattle.dm_group_effects.proofs.GroupEvents.{group_call_kept}
use Rattle.dm_shown.proofs.EventsShown.{all_hold, side_pays}
use Rattle.dm_shown.proofs.PlansShown.{follows, still_follows}
use Rattle.dm_runs.specs.Journals.{CallsMayJournal, DoubtsMayLand, FaultsMayJournal, MayBeNext, TablesMayBe}

-- ---- what is in doubt

doubted_follows : (j : Joint) (g : ℕ) (s : Side) (r : GroupRecord) → SideOf j g s → s.group.doubt ≡ Some r → MayGroupFollow s.group.tables r
doubted_follows j g s r own is =
    (subst (λ o. GroupMayLandIf g j.daemon.tables.entries j.history.contents j.history.taken (deleted_in (map.get j.history.groups g)) s o) is own.doubt).follow

pub doubts_follow : (j : Joint) → InvariantHolds j → DoubtsMayLand j
doubts_follow j kept = record {
  daemon = λ r is.
      (subst (λ o. MayLandIf j.daemon.tables j.daemon.requests j.history.contents j.daemon.cap j.sides o) is kept.doubt).follow;
  groups = λ g s r side is. doubted_follows j g s r (kept.sides g s side) is;
}

-- ---- what a group's call journals

ended_tables : (e : Ending) (x : Group) → (group_after_ending e x).tables ≡ x.tables
ended_tables ending.Nothing x = refl
ended_tables (ending.Put k b groups) x = refl
ended_tables (ending.Recall k) x = refl
ended_tables (ending.Reservation g n b) x = refl
ended_tables (ending.Mount g m) x = refl
ended_tables (ending.Move g job source target) x = refl

module _ (j : Joint) (kept : InvariantHolds j) (w : ℕ) where
  group_next : (g h : GroupId) (s : Side) (c : GroupCall) (r : GroupRecord) → map.get j.sides g.0 ≡ Some s
      → AllHold (guards_always (group_plan g s.group c) (group_needs (map.get j.workers w) j.history g s c))
      → (prepared_plan (group_plan g s.group c)).payload ≡ Some (payload.Group h r) → MayGroupFollow s.group.tables r
  group_next g h s c r side all is =
      let p = prepared_plan (group_plan g s.group c) in
      let failed = (group_call_kept j kept w g s side c).failed all true in
      let x = side_after_fault p true s in
      let there = side-after_fault g w p true j s (prepared-of g (group_plan g s.group c) (group_plan-of g s.group c)) side in
      let spent = group_after_ending p.ends s.group in
      let group : x.group ≡ group_doubting (Some (payload.Group h r)) spent = group-after_fault p true s ∙ ap (λ q. group_doubting q spent) is in
      let follow = doubted_follows (after_fault w p true j) g.0 x r (failed.sides g.0 x there) (ap (λ (y : Group). y.doubt) group) in
      subst (λ (t : GroupTables). MayGroupFollow t r) (ap (λ (y : Group). y.tables) group ∙ ended_tables p.ends s.group) follow

  side_next : (g : GroupId) (c : GroupCall) (o : Option Side) (p : Payload) → map.get j.sides g.0 ≡ o
      → AllHold (guards_always (side_plan g c o) (side_needs (map.get j.workers w) j.history g c o))
      → (prepared_plan (side_plan g c o)).payload ≡ Some p → MayBeNext j p
  side_next g c None p side all is = absurd (cc)
  side_next g c (Some s) (payload.Daemon r) side all is = absurd (subst (λ o. PaysOf g o) is (side_pays g c (Some s)))
  side_next g c (Some s) (payload.Group h r) side all is = λ t there.
      let same : h ≡ g = subst (λ o. PaysOf g o) is (side_pays g c (Some s)) in
      let one : s ≡ t = same_row (map.get j.sides g.0) s t side (ap (λ (x : GroupId). map.get j.sides x.0) (sym same) ∙ there) in
      subst (λ (x : Side). MayGroupFollow x.group.tables r) one (group_next g h s c r side all is)

  -- ---- what a call of the daemon journals

  daemon_next : (i : Ending) (p : Payload) → PayloadLands (after_ending w i j) (Some p) → MayBeNext j p
  daemon_next i (payload.Daemon r) lands = (still_follows w j i r (follows (after_ending w i j) r lands)).may
  daemon_next i (payload.Group g r) lands = absurd lands

  -- ---- a call on a volume journals nothing

  volume_pays : (g : GroupId) (vsn : Vsn) (o : Option Image) (x : Option MountState) (c : VolumeCall) → (prepared_plan (volume_plan g vsn o x c)).payload ≡ None
  volume_pays g vsn None x c = refl
  volume_pays g vsn (Some image) None c = refl
  volume_pays g vsn (Some image) (Some x) (volume_call.WriteZone m place zone) = refl
  volume_pays g vsn (Some image) (Some x) (volume_call.ReadChunk m place n bytes) = refl
  volume_pays g vsn (Some image) (Some x) (volume_call.Relabel m epoch version) = refl

  on_volume_pays : (g : GroupId) (vsn : Vsn) (c : VolumeCall) (o : Option Side) → (prepared_plan (volume_plan_in g vsn c o)).payload ≡ None
  on_volume_pays g vsn c None = refl
  on_volume_pays g vsn c (Some s) = volume_pays g vsn (map.get s.images vsn.0) (map.get s.mounts (mount_in c)) c

  -- ---- any call

  call_next : (c : Call) (p : Payload) → AllHold (guards_always (plan_of j c) (needs_of j w c)) → (prepared_plan (plan_of j c)).payload ≡ Some p → MayBeNext j p
  call_next (call.Daemon c) p all is =
      daemon_next (daemon_plan j.daemon c).ends p
      (subst (λ o. PayloadLands (after_ending w (daemon_plan j.daemon c).ends j) o) is (daemon_call_lands j kept w c all))
  call_next (call.Group g c) p all is = side_next g c (map.get j.sides g.0) p refl all is
  call_next (call.Volume g vsn c) p all is = let none = on_volume_pays g vsn c (map.get j.sides g.0) in absurd (cc)

pub calls_follow : (j : Joint) → InvariantHolds j → CallsMayJournal j
calls_follow j kept w c p legal is =
    let q = plan_of j c in
    let n = needs_of j w c in
    call_next j kept w c p (always_hold q n (refusal_of q) (all_hold (guards_of (refusal_of q) q n) legal)) is

pub faults_follow : (j : Joint) → InvariantHolds j → FaultsMayJournal j
faults_follow j kept w c p legal is =
    let q = plan_of j c in
    let n = needs_of j w c in
    call_next j kept w c p (front_holds (guards_always q n) _ (all_hold (guards_of_fault q n) legal)) is

-- ---- tables

-- a chunk that lies before the end of its volume lies on it
lies_on : (s : Side) (c : Chunk) → VolumesKept s.group.conf s.group.tables.time.0 s.group.tables.volumes s.group.tips
    → LiesBefore s.group.tables.volumes c → LiesOn s.group.tables.volumes c
lies_on s c k l =
    let v = k.volume c.vsn.0 l.volume l.is in
    let within = l.within in
    let end = v.end in
    let tip = v.tip in
    record { volume = l.volume; is = l.is; usable = l.usable; behind = l.behind; within = omega (arith, within, end, tip); sum = l.sum }

group_may_be : (j : Joint) (g : ℕ) (s : Side) → SideOf j g s → MayBeGroupState s.group.tables
group_may_be j g s own = record {
  group = subst (λ n. IsGroupNumber n) (sym own.number.same) own.number.fits;
  volumes = λ vsn v is.
      let k = own.volumes.volume vsn v is in
      let end = k.end in
      let tip = k.tip in
      record {
        slot = k.slot;
        version = k.version;
        size = subst (λ n. IsVolumeSize n) (sym k.size) own.volumes.fits.sized;
        epoch = k.epoch;
        behind = k.label;
        within = omega (arith, end, tip);
        freed = k.freed;
      };
  slots = own.volumes.slots;
  bitfiles = λ b row is.
      let k = own.catalogue.bitfile b row is in
      record {
        joins = k.joins;
        lies = each_lies s.group.tables.volumes row.chunks (λ c among. lies_on s c own.volumes (k.lies c among));
      };
}

pub tables_may_be : (j : Joint) → InvariantHolds j → TablesMayBe j
tables_may_be j kept = record { daemon = kept.files.state; groups = λ g s is. group_may_be j g s (kept.sides g s is) }
