-- Two states that are alike at the names that a call is about come to one plan, but for its guards.
use Rattle.std.proofs.Common.{◌≡◌, ℕ, true, false, Option, None, Some, is_some, ◌∷◌, refl, sym, ap, ◌∙◌, inl, inr}
use Rattle.std.specs.FinMap as fin
use Rattle.dm_base.specs.declared.identifier.GroupId.{GroupId}
use Rattle.dm_base.specs.declared.serial.Vsn.{Vsn}
use Rattle.dm_model.specs.declared.answer.Answer.TheVariants as answer
use Rattle.dm_model.specs.declared.call.Call.{Call}
use Rattle.dm_model.specs.declared.call.Call.TheVariants as call
use Rattle.dm_model.specs.declared.call.GroupCall.{GroupCall}
use Rattle.dm_model.specs.declared.call.VolumeCall.{VolumeCall}
use Rattle.dm_model.specs.declared.call.VolumeCall.TheVariants as volume_call
use Rattle.dm_model.specs.declared.entry.Name.TheVariants.{Daemon, Side}
use Rattle.dm_model.specs.declared.entry.Part.TheVariants as part
use Rattle.dm_model.specs.declared.plan.Mark.TheVariants as mark
use Rattle.dm_model.specs.declared.plan.Prepared.{Prepared}
use Rattle.dm_model.specs.declared.state.Image.{Image}
use Rattle.dm_model.specs.declared.state.Joint.{Joint}
use Rattle.dm_model.specs.declared.state.MountState.{MountState}
use Rattle.dm_model.specs.declared.state.Side.{Side as SideState}
use Rattle.dm_model.specs.DaemonCalls.{daemon_plan}
use Rattle.dm_model.specs.GroupCalls.{group_plan, no_group}
use Rattle.dm_model.specs.Names.{home_of_call, mount_and_owner_in, mount_name, names_of_call}
use Rattle.dm_model.specs.Plan.{Plan, prepared_plan}
use Rattle.dm_model.specs.Step.{plan_of, side_plan, volume_plan_in}
use Rattle.dm_model.specs.VolumeCalls.{mount_in, mounted_plan, on_volume, volume_plan}
use Rattle.dm_rules.specs.Label.{label}
use Rattle.dm_spine.specs.Past.{In}
use Rattle.dm_history.specs.Alike.{ForgetsOnly, SameGroups, image_of, library_of, mount_of}
use Rattle.dm_history.proofs.PartsGo.{AllAlike, Library}

-- a group's plan is of its library server
abbrev pub plan_by : GroupId → GroupCall → Library → Plan
plan_by g c None = no_group g
plan_by g c (Some l) = group_plan g l.0 c

pub plan_is : (g : GroupId) (c : GroupCall) (o : Option SideState) → side_plan g c o ≡ plan_by g c (library_of o)
plan_is g c None = refl
plan_is g c (Some s) = refl

-- of a volume's plan only guards look at what is known
mounted_same : (g : GroupId) (vsn : Vsn) (i k : Image) (x : MountState) (c : VolumeCall) → i.size ≡ k.size
    → prepared_plan (mounted_plan g vsn i x c) ≡ prepared_plan (mounted_plan g vsn k x c)
mounted_same g vsn i k x (volume_call.WriteZone m place zone) size = refl
mounted_same g vsn i k x (volume_call.ReadChunk m place n bytes) size = refl
mounted_same g vsn i k x (volume_call.Relabel m epoch version) size =
    let labelled : ℕ → Prepared = λ n.
    prepared_plan (record (on_volume g answer.Labelled) { mark = mark.Label g vsn m epoch version (label vsn.0 g.0 version epoch n) }) in
    ap labelled size

image_same : (g : GroupId) (vsn : Vsn) (a b : Option Image) (x : Option MountState) (c : VolumeCall) → ForgetsOnly a b
    → prepared_plan (volume_plan g vsn a x c) ≡ prepared_plan (volume_plan g vsn b x c)
image_same g vsn None None x c h = refl
image_same g vsn None (Some k) x c h = absurd h
image_same g vsn (Some i) None x c h = absurd h
image_same g vsn (Some i) (Some k) None c h = refl
image_same g vsn (Some i) (Some k) (Some y) c h = mounted_same g vsn i k y c h.0

true_false : {P : Type 0} → true ≡ false → P
true_false h = cc

volume_same : (w : ℕ) (g : GroupId) (vsn : Vsn) (c : VolumeCall) (a b : Option SideState) → is_some a ≡ is_some b
    → ForgetsOnly (image_of vsn.0 a) (image_of vsn.0 b)
    → (In (mount_name g (mount_in c)) (mount_and_owner_in w g (mount_in c) a) → mount_of (mount_in c) a ≡ mount_of (mount_in c) b)
    → prepared_plan (volume_plan_in g vsn c a) ≡ prepared_plan (volume_plan_in g vsn c b)
volume_same w g vsn c None None keys image mount = refl
volume_same w g vsn c None (Some t) keys image mount = true_false (sym keys)
volume_same w g vsn c (Some s) None keys image mount = true_false keys
volume_same w g vsn c (Some s) (Some t) keys image mount =
    image_same g vsn (fin.get s.images vsn.0) (fin.get t.images vsn.0) (fin.get s.mounts (mount_in c)) c image
    ∙ ap (λ (x : Option MountState). prepared_plan (volume_plan g vsn (fin.get t.images vsn.0) x c)) (mount (inl refl))

pub plan_same : (w : ℕ) (j k : Joint) (c : Call) → SameGroups j k → AllAlike (home_of_call c ∷ names_of_call j w c) j k
    → prepared_plan (plan_of j c) ≡ prepared_plan (plan_of k c)
plan_same w j k (call.Daemon c) keys alike = ap (λ d. prepared_plan (daemon_plan d c)) (alike Daemon (inl refl))
plan_same w j k (call.Group g c) keys alike =
    ap prepared_plan
    (plan_is g c (fin.get j.sides g.0)
    ∙ (ap (plan_by g c) (alike (Side g part.Itself) (inl refl)) ∙ sym (plan_is g c (fin.get k.sides g.0))))
plan_same w j k (call.Volume g vsn c) keys alike =
    volume_same w g vsn c (fin.get j.sides g.0) (fin.get k.sides g.0) (keys g.0) (alike (Side g (part.Volume vsn)) (inl refl))
    (λ h. alike (mount_name g (mount_in c)) (inr h))
