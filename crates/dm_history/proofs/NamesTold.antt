-- The laws of names: they are told apart, an event is about its home, what it ends and the makers of what it makes, and what is
-- made is neither fixed nor a home.
use Rattle.std.proofs.Common.{Option, ◌≡◌, ℕ, zero, suc, Bool, true, false, cond, ◌||◌, List, [], ◌∷◌, ◌++◌, map, filter, nat_eq, refl, sym, ap, ◌∙◌, subst, inl, inr, ⊎_elim}
use Rattle.std.specs.List.{flat_map, list_any}
use Rattle.std.specs.FinMap as fin
use Rattle.std.proofs.lemmas.Bool.{and_from, and_parts, eq-eqb, eqb-true, or_left, or_right, true≢false}
use Rattle.dm_base.specs.declared.identifier.Bfid.{Bfid}
use Rattle.dm_base.specs.declared.identifier.GroupId.{GroupId}
use Rattle.dm_base.specs.declared.identifier.Secs.{Secs}
use Rattle.dm_base.specs.declared.serial.Vsn.{Vsn}
use Rattle.dm_invariant.proofs.Texts.{same_texts, texts_equal}
use Rattle.dm_model.specs.declared.answer.Answer.{Answer}
use Rattle.dm_model.specs.declared.answer.Answer.TheVariants as answer
use Rattle.dm_model.specs.declared.call.Call.{Call}
use Rattle.dm_model.specs.declared.call.Call.TheVariants as call
use Rattle.dm_model.specs.declared.call.Component.{Component}
use Rattle.dm_model.specs.declared.call.Component.TheVariants as component
use Rattle.dm_model.specs.declared.call.DaemonCall.{DaemonCall}
use Rattle.dm_model.specs.declared.call.DaemonCall.TheVariants as daemon_call
use Rattle.dm_model.specs.declared.call.Event.{Event}
use Rattle.dm_model.specs.declared.call.Event.TheVariants as event
use Rattle.dm_model.specs.declared.call.GroupCall.{GroupCall}
use Rattle.dm_model.specs.declared.call.GroupCall.TheVariants as group_call
use Rattle.dm_model.specs.declared.entry.HistoryEntry.{HistoryEntry}
use Rattle.dm_model.specs.declared.entry.Name.{Name}
use Rattle.dm_model.specs.declared.entry.Name.TheVariants.{Daemon, Worker, Side}
use Rattle.dm_model.specs.declared.entry.Part.{Part}
use Rattle.dm_model.specs.declared.entry.Part.TheVariants as part
use Rattle.dm_model.specs.declared.state.Image.{Image}
use Rattle.dm_model.specs.declared.state.Joint.{Joint}
use Rattle.dm_model.specs.declared.state.Side.{Side as SideState}
use Rattle.dm_model.specs.Files.{groups_of}
use Rattle.dm_model.specs.Names.{component_name, copy_name, ended_by, ended_by_call, ended_by_daemon, ended_by_group, fixed_names, home_of, home_of_call, is_about, is_copy, is_mount, made_by, made_by_call, made_by_daemon, made_by_group, maker_of, mount_name, same_name, same_part, side_names, workers_below}
use Rattle.dm_spine.specs.Past.{In}
use Rattle.dm_history.specs.History.{does_end}

-- ---- names are told apart

same_part_is : (p q : Part) → same_part p q ≡ true → p ≡ q
same_part_is part.Itself part.Itself e = refl
same_part_is part.Itself (part.Volume w) e = absurd (true≢false (sym e))
same_part_is part.Itself (part.Copy c) e = absurd (true≢false (sym e))
same_part_is part.Itself (part.Mount n) e = absurd (true≢false (sym e))
same_part_is (part.Volume v) part.Itself e = absurd (true≢false (sym e))
same_part_is (part.Volume v) (part.Volume w) e =
    let V : List ℕ → Vsn = λ t. record { 0 = t } in ap (λ t. part.Volume (V t)) (texts_equal v.0 w.0 e)
same_part_is (part.Volume v) (part.Copy c) e = absurd (true≢false (sym e))
same_part_is (part.Volume v) (part.Mount n) e = absurd (true≢false (sym e))
same_part_is (part.Copy b) part.Itself e = absurd (true≢false (sym e))
same_part_is (part.Copy b) (part.Volume w) e = absurd (true≢false (sym e))
same_part_is (part.Copy b) (part.Copy c) e =
    let B : ℕ → Bfid = λ n. record { 0 = n } in ap (λ n. part.Copy (B n)) (eqb-true b.0 c.0 e)
same_part_is (part.Copy b) (part.Mount n) e = absurd (true≢false (sym e))
same_part_is (part.Mount m) part.Itself e = absurd (true≢false (sym e))
same_part_is (part.Mount m) (part.Volume w) e = absurd (true≢false (sym e))
same_part_is (part.Mount m) (part.Copy c) e = absurd (true≢false (sym e))
same_part_is (part.Mount m) (part.Mount n) e = ap (λ k. part.Mount k) (eqb-true m n e)

same_part_self : (p : Part) → same_part p p ≡ true
same_part_self part.Itself = refl
same_part_self (part.Volume v) = same_texts v.0 v.0 refl
same_part_self (part.Copy b) = eq-eqb b.0 b.0 refl
same_part_self (part.Mount m) = eq-eqb m m refl

pub same_name_is : (x y : Name) → same_name x y ≡ true → x ≡ y
same_name_is Daemon Daemon e = refl
same_name_is Daemon (Worker v) e = absurd (true≢false (sym e))
same_name_is Daemon (Side h q) e = absurd (true≢false (sym e))
same_name_is (Worker w) Daemon e = absurd (true≢false (sym e))
same_name_is (Worker w) (Worker v) e = ap (λ n. Worker n) (eqb-true w v e)
same_name_is (Worker w) (Side h q) e = absurd (true≢false (sym e))
same_name_is (Side g p) Daemon e = absurd (true≢false (sym e))
same_name_is (Side g p) (Worker v) e = absurd (true≢false (sym e))
same_name_is (Side g p) (Side h q) e =
    let both = and_parts (nat_eq g.0 h.0) (same_part p q) e in
    let G : ℕ → GroupId = λ n. record { 0 = n } in
    ap (λ n. Side (G n) p) (eqb-true g.0 h.0 both.0) ∙ ap (λ r. Side h r) (same_part_is p q both.1)

pub same_name_self : (x : Name) → same_name x x ≡ true
same_name_self Daemon = refl
same_name_self (Worker w) = eq-eqb w w refl
same_name_self (Side g p) = and_from (nat_eq g.0 g.0) (same_part p p) (eq-eqb g.0 g.0 refl) (same_part_self p)

-- ---- what an entry is about

pub home_told : (e : HistoryEntry) → is_about e (home_of e.event) ≡ true
home_told e = or_left _ _ (same_name_self (home_of e.event))

-- a name that one of its names is like
listed : (e : HistoryEntry) (x : Name) → list_any (same_name x) e.names ≡ true → is_about e x ≡ true
listed e x h = or_right (same_name (home_of e.event) x) _ h

or_more : (b c d : Bool) → (c ≡ true → d ≡ true) → (b || c) ≡ true → (b || d) ≡ true
or_more true c d more h = refl
or_more false c d more h = more h

any_more : (t : Name → Bool) (x : Name) (some all : List Name) → (list_any t some ≡ true → list_any t all ≡ true) → (b : Bool)
    → list_any t (cond b (x ∷ some) some) ≡ true → list_any t (x ∷ all) ≡ true
any_more t x some all more true h = or_more (t x) (list_any t some) (list_any t all) more h
any_more t x some all more false h = or_right (t x) (list_any t all) (more h)

-- what passes a test among some of a list passes it among all
any_filtered : (t p : Name → Bool) (xs : List Name) → list_any t (filter p xs) ≡ true → list_any t xs ≡ true
any_filtered t p [] h = h
any_filtered t p (x ∷ xs) h = any_more t x (filter p xs) xs (any_filtered t p xs) (p x) h

none_any : {P : Type 0} (t : Name → Bool) → list_any t [] ≡ true → P
none_any t h = absurd (true≢false (sym h))

ended_by_daemon_listed : (c : DaemonCall) (names : List Name) (t : Name → Bool) → list_any t (ended_by_daemon c names) ≡ true → list_any t names ≡ true
ended_by_daemon_listed (daemon_call.BeginPut path asked now k) names t h = none_any t h
ended_by_daemon_listed (daemon_call.CopyStored k group now) names t h = none_any t h
ended_by_daemon_listed (daemon_call.EndPut k now) names t h = any_filtered t is_copy names h
ended_by_daemon_listed (daemon_call.Release path now) names t h = none_any t h
ended_by_daemon_listed (daemon_call.BeginRecall path k) names t h = none_any t h
ended_by_daemon_listed (daemon_call.EndRecall k bytes now) names t h = none_any t h
ended_by_daemon_listed (daemon_call.DropRecall k) names t h = none_any t h
ended_by_daemon_listed (daemon_call.Write path bytes now) names t h = none_any t h
ended_by_daemon_listed (daemon_call.Patch path offset bytes now) names t h = none_any t h
ended_by_daemon_listed (daemon_call.Remove path now) names t h = none_any t h
ended_by_daemon_listed (daemon_call.MakeDump name now) names t h = none_any t h
ended_by_daemon_listed (daemon_call.Undump name now) names t h = none_any t h
ended_by_daemon_listed (daemon_call.Restore name path target now) names t h = none_any t h
ended_by_daemon_listed (daemon_call.SetAge age now) names t h = none_any t h
ended_by_daemon_listed (daemon_call.HardDelete now) names t h = none_any t h
ended_by_daemon_listed (daemon_call.NextDropping after) names t h = none_any t h
ended_by_daemon_listed (daemon_call.Dropped b now) names t h = none_any t h
ended_by_daemon_listed (daemon_call.Attributes path) names t h = none_any t h
ended_by_daemon_listed daemon_call.List names t h = none_any t h

ended_by_group_listed : (c : GroupCall) (names : List Name) (t : Name → Bool) → list_any t (ended_by_group c names) ≡ true → list_any t names ≡ true
ended_by_group_listed group_call.Missing names t h = none_any t h
ended_by_group_listed (group_call.MountNew vsn m) names t h = none_any t h
ended_by_group_listed (group_call.AddVolume m now) names t h = any_filtered t is_mount names h
ended_by_group_listed (group_call.Reserve b len n) names t h = none_any t h
ended_by_group_listed (group_call.MountPiece n k m) names t h = none_any t h
ended_by_group_listed (group_call.MountChunk b offset m) names t h = none_any t h
ended_by_group_listed (group_call.Unmount m) names t h = any_filtered t is_mount names h
ended_by_group_listed (group_call.Commit n sums now) names t h = none_any t h
ended_by_group_listed (group_call.Abort n) names t h = none_any t h
ended_by_group_listed (group_call.Delete b now) names t h = none_any t h
ended_by_group_listed group_call.MergeList names t h = none_any t h
ended_by_group_listed (group_call.MergeNext merged source job from to) names t h = none_any t h
ended_by_group_listed (group_call.MoveDone job sum now) names t h = any_filtered t is_mount names h
ended_by_group_listed (group_call.DropMove job) names t h = any_filtered t is_mount names h
ended_by_group_listed (group_call.Free vsn now) names t h = none_any t h
ended_by_group_listed (group_call.ReuseNext m now) names t h = none_any t h
ended_by_group_listed (group_call.Reuse m now) names t h = any_filtered t is_mount names h
ended_by_group_listed group_call.Rows names t h = none_any t h
ended_by_group_listed group_call.Volumes names t h = none_any t h

ended_by_call_listed : (c : Call) (names : List Name) (t : Name → Bool) → list_any t (ended_by_call c names) ≡ true → list_any t names ≡ true
ended_by_call_listed (call.Daemon c) names t h = ended_by_daemon_listed c names t h
ended_by_call_listed (call.Group g c) names t h = ended_by_group_listed c names t h
ended_by_call_listed (call.Volume g vsn c) names t h = none_any t h

ended_listed : (e : Event) (names : List Name) (t : Name → Bool) → list_any t (ended_by e names) ≡ true → list_any t names ≡ true
ended_listed (event.Call c) names t h = ended_by_call_listed c names t h
ended_listed (event.Fault c healed checkpointed) names t h = ended_by_call_listed c names t h
ended_listed (event.Landed c) names t h = none_any t h
ended_listed (event.Look c) names t h = none_any t h
ended_listed event.Stop names t h = none_any t h

pub ends_told : (e : HistoryEntry) (x : Name) → does_end e x ≡ true → is_about e x ≡ true
ends_told e x h = listed e x (ended_listed e.event e.names (same_name x) h)

-- ---- what is made

-- a copy or a mount, whose maker is this
abbrev pub IsMadeAt : Name → Name → Type 0
IsMadeAt home x = ((is_copy x || is_mount x) ≡ true) × (maker_of x ≡ home)

copies_made : (gs : List GroupId) (b : Bfid) (x : Name) → In x (map (λ g. copy_name g b) gs) → IsMadeAt Daemon x
copies_made [] b x h = absurd h
copies_made (g ∷ gs) b x (inl same) = subst (λ y. IsMadeAt Daemon y) (sym same) (refl, refl)
copies_made (g ∷ gs) b x (inr after) = copies_made gs b x after

mount_made : (g : GroupId) (m : ℕ) (x : Name) → x ≡ mount_name g m → IsMadeAt (Side g part.Itself) x
mount_made g m x same = subst (λ y. IsMadeAt (Side g part.Itself) y) (sym same) (refl, refl)

one_made : (g : GroupId) (m : ℕ) (x : Name) → In x (mount_name g m ∷ []) → IsMadeAt (Side g part.Itself) x
one_made g m x h = ⊎_elim (λ s. mount_made g m x s) (λ r. absurd r) h

begin_made : (path : List ℕ) (asked : List (Option GroupId)) (now : Secs) (k : ℕ) (a : Answer) (x : Name)
    → In x (made_by_daemon (daemon_call.BeginPut path asked now k) a) → IsMadeAt Daemon x
begin_made path asked now k (answer.PutBegun n b bytes change) x h = copies_made (groups_of asked) b x h
begin_made path asked now k answer.CopyStored x h = absurd h
begin_made path asked now k (answer.PutEnded f0) x h = absurd h
begin_made path asked now k answer.Released x h = absurd h
begin_made path asked now k (answer.Online f0) x h = absurd h
begin_made path asked now k (answer.RecallBegun f0 f1 f2 f3) x h = absurd h
begin_made path asked now k (answer.Recalled f0) x h = absurd h
begin_made path asked now k answer.RecallDropped x h = absurd h
begin_made path asked now k (answer.Changed f0) x h = absurd h
begin_made path asked now k (answer.DumpMade f0) x h = absurd h
begin_made path asked now k answer.Undumped x h = absurd h
begin_made path asked now k answer.AgeSet x h = absurd h
begin_made path asked now k (answer.HardDeleted f0) x h = absurd h
begin_made path asked now k (answer.NextDropping f0) x h = absurd h
begin_made path asked now k (answer.Dropped f0) x h = absurd h
begin_made path asked now k (answer.File f0) x h = absurd h
begin_made path asked now k (answer.Files f0) x h = absurd h
begin_made path asked now k (answer.DaemonRefused f0) x h = absurd h
begin_made path asked now k (answer.Missing f0) x h = absurd h
begin_made path asked now k (answer.Mounted f0 f1 f2) x h = absurd h
begin_made path asked now k answer.VolumeAdded x h = absurd h
begin_made path asked now k (answer.Reserved f0 f1 f2) x h = absurd h
begin_made path asked now k answer.AtEnd x h = absurd h
begin_made path asked now k (answer.AtChunk f0 f1 f2) x h = absurd h
begin_made path asked now k answer.Unmounted x h = absurd h
begin_made path asked now k answer.Committed x h = absurd h
begin_made path asked now k answer.Aborted x h = absurd h
begin_made path asked now k (answer.Deleted f0) x h = absurd h
begin_made path asked now k (answer.SparseVolumes f0) x h = absurd h
begin_made path asked now k answer.SourceEmpty x h = absurd h
begin_made path asked now k (answer.MoveBegun f0 f1 f2 f3 f4 f5 f6 f7 f8 f9) x h = absurd h
begin_made path asked now k answer.Moved x h = absurd h
begin_made path asked now k answer.MoveDropped x h = absurd h
begin_made path asked now k (answer.Freed f0) x h = absurd h
begin_made path asked now k answer.NoneReusable x h = absurd h
begin_made path asked now k (answer.ReuseBegun f0 f1 f2 f3 f4) x h = absurd h
begin_made path asked now k answer.Reused x h = absurd h
begin_made path asked now k (answer.Rows f0) x h = absurd h
begin_made path asked now k (answer.Volumes f0) x h = absurd h
begin_made path asked now k (answer.GroupRefused f0) x h = absurd h
begin_made path asked now k answer.ZoneWritten x h = absurd h
begin_made path asked now k (answer.ChunkRead f0) x h = absurd h
begin_made path asked now k answer.Labelled x h = absurd h
begin_made path asked now k answer.Failed x h = absurd h
begin_made path asked now k answer.Landed x h = absurd h
begin_made path asked now k answer.Looked x h = absurd h
begin_made path asked now k answer.Stopped x h = absurd h

pub daemon_made : (c : DaemonCall) (a : Answer) (x : Name) → In x (made_by_daemon c a) → IsMadeAt Daemon x
daemon_made (daemon_call.BeginPut path asked now k) a x h = begin_made path asked now k a x h
daemon_made (daemon_call.CopyStored k group now) a x h = absurd h
daemon_made (daemon_call.EndPut k now) a x h = absurd h
daemon_made (daemon_call.Release path now) a x h = absurd h
daemon_made (daemon_call.BeginRecall path k) a x h = absurd h
daemon_made (daemon_call.EndRecall k bytes now) a x h = absurd h
daemon_made (daemon_call.DropRecall k) a x h = absurd h
daemon_made (daemon_call.Write path bytes now) a x h = absurd h
daemon_made (daemon_call.Patch path offset bytes now) a x h = absurd h
daemon_made (daemon_call.Remove path now) a x h = absurd h
daemon_made (daemon_call.MakeDump name now) a x h = absurd h
daemon_made (daemon_call.Undump name now) a x h = absurd h
daemon_made (daemon_call.Restore name path target now) a x h = absurd h
daemon_made (daemon_call.SetAge age now) a x h = absurd h
daemon_made (daemon_call.HardDelete now) a x h = absurd h
daemon_made (daemon_call.NextDropping after) a x h = absurd h
daemon_made (daemon_call.Dropped b now) a x h = absurd h
daemon_made (daemon_call.Attributes path) a x h = absurd h
daemon_made daemon_call.List a x h = absurd h

pub group_made : (g : GroupId) (a : Answer) (x : Name) → In x (made_by_group g a) → IsMadeAt (Side g part.Itself) x
group_made g (answer.PutBegun f0 f1 f2 f3) x h = absurd h
group_made g answer.CopyStored x h = absurd h
group_made g (answer.PutEnded f0) x h = absurd h
group_made g answer.Released x h = absurd h
group_made g (answer.Online f0) x h = absurd h
group_made g (answer.RecallBegun f0 f1 f2 f3) x h = absurd h
group_made g (answer.Recalled f0) x h = absurd h
group_made g answer.RecallDropped x h = absurd h
group_made g (answer.Changed f0) x h = absurd h
group_made g (answer.DumpMade f0) x h = absurd h
group_made g answer.Undumped x h = absurd h
group_made g answer.AgeSet x h = absurd h
group_made g (answer.HardDeleted f0) x h = absurd h
group_made g (answer.NextDropping f0) x h = absurd h
group_made g (answer.Dropped f0) x h = absurd h
group_made g (answer.File f0) x h = absurd h
group_made g (answer.Files f0) x h = absurd h
group_made g (answer.DaemonRefused f0) x h = absurd h
group_made g (answer.Missing f0) x h = absurd h
group_made g (answer.Mounted m vsn epoch) x h = one_made g m x h
group_made g answer.VolumeAdded x h = absurd h
group_made g (answer.Reserved f0 f1 f2) x h = absurd h
group_made g answer.AtEnd x h = absurd h
group_made g (answer.AtChunk m epoch chunk) x h = one_made g m x h
group_made g answer.Unmounted x h = absurd h
group_made g answer.Committed x h = absurd h
group_made g answer.Aborted x h = absurd h
group_made g (answer.Deleted f0) x h = absurd h
group_made g (answer.SparseVolumes f0) x h = absurd h
group_made g answer.SourceEmpty x h = absurd h
group_made g (answer.MoveBegun job b total from to source source_epoch target target_epoch version) x h =
    ⊎_elim (λ s. mount_made g source x s) (λ r. one_made g target x r) h
group_made g answer.Moved x h = absurd h
group_made g answer.MoveDropped x h = absurd h
group_made g (answer.Freed f0) x h = absurd h
group_made g answer.NoneReusable x h = absurd h
group_made g (answer.ReuseBegun m vsn epoch next_epoch version) x h = one_made g m x h
group_made g answer.Reused x h = absurd h
group_made g (answer.Rows f0) x h = absurd h
group_made g (answer.Volumes f0) x h = absurd h
group_made g (answer.GroupRefused f0) x h = absurd h
group_made g answer.ZoneWritten x h = absurd h
group_made g (answer.ChunkRead f0) x h = absurd h
group_made g answer.Labelled x h = absurd h
group_made g answer.Failed x h = absurd h
group_made g answer.Landed x h = absurd h
group_made g answer.Looked x h = absurd h
group_made g answer.Stopped x h = absurd h

call_made : (c : Call) (a : Answer) (x : Name) → In x (made_by_call c a) → IsMadeAt (home_of_call c) x
call_made (call.Daemon c) a x h = daemon_made c a x h
call_made (call.Group g c) a x h = group_made g a x h
call_made (call.Volume g vsn c) a x h = absurd h

pub event_made : (e : Event) (a : Answer) (x : Name) → In x (made_by e a) → IsMadeAt (home_of e) x
event_made (event.Call c) a x h = call_made c a x h
event_made (event.Fault c healed checkpointed) a x h = absurd h
event_made (event.Landed c) a x h = absurd h
event_made (event.Look c) a x h = absurd h
event_made event.Stop a x h = absurd h

pub makes_told : (e : HistoryEntry) (x : Name) → In x (made_by e.event e.answer) → is_about e (maker_of x) ≡ true
makes_told e x h = subst (λ y. is_about e y ≡ true) (sym (event_made e.event e.answer x h).1) (home_told e)

-- ---- fixed names and homes are neither copies nor mounts

abbrev pub IsLasting : Name → Type 0
IsLasting x = (is_copy x || is_mount x) ≡ false

component_lasts : (c : Component) → IsLasting (component_name c)
component_lasts component.Daemon = refl
component_lasts (component.Group g) = refl

call_lasts : (c : Call) → IsLasting (home_of_call c)
call_lasts (call.Daemon c) = refl
call_lasts (call.Group g c) = refl
call_lasts (call.Volume g vsn c) = refl

pub home_lasts : (e : Event) → IsLasting (home_of e)
home_lasts (event.Call c) = call_lasts c
home_lasts (event.Fault c healed checkpointed) = call_lasts c
home_lasts (event.Landed c) = component_lasts c
home_lasts (event.Look c) = component_lasts c
home_lasts event.Stop = refl

-- a fact of each element of two lists is one of each element of both joined
each_joined : (P : Name → Type 0) (xs ys : List Name) → ((x : Name) → In x xs → P x) → ((x : Name) → In x ys → P x) → (x : Name) → In x (xs ++ ys) → P x
each_joined P [] ys f g x h = g x h
each_joined P (y ∷ xs) ys f g x (inl same) = f x (inl same)
each_joined P (y ∷ xs) ys f g x (inr after) = each_joined P xs ys (λ z k. f z (inr k)) g x after

lasting_as : (x y : Name) → x ≡ y → IsLasting y → IsLasting x
lasting_as x y same lasts = subst (λ z. IsLasting z) (sym same) lasts

workers_last : (n : ℕ) (x : Name) → In x (workers_below n) → IsLasting x
workers_last zero x h = absurd h
workers_last (suc n) x h =
    each_joined IsLasting (workers_below n) (Worker n ∷ []) (workers_last n)
    (λ y k. ⊎_elim (λ s. lasting_as y (Worker n) s refl) (λ r. absurd r) k) x h

volumes_last : (g : GroupId) (es : List (List ℕ × Image)) (x : Name) → In x (map (λ e. Side g (part.Volume (record { 0 = e.0 }))) es) → IsLasting x
volumes_last g [] x h = absurd h
volumes_last g (e ∷ es) x (inl same) = subst (λ z. IsLasting z) (sym same) refl
volumes_last g (e ∷ es) x (inr after) = volumes_last g es x after

side_lasts : (g : ℕ) (s : SideState) (x : Name) → In x (side_names g s) → IsLasting x
side_lasts g s x (inl same) = subst (λ z. IsLasting z) (sym same) refl
side_lasts g s x (inr after) = volumes_last (record { 0 = g }) (fin.entries s.images) x after

sides_last : (es : List (ℕ × SideState)) (x : Name) → In x (flat_map (λ e. side_names e.0 e.1) es) → IsLasting x
sides_last [] x h = absurd h
sides_last (e ∷ es) x h = each_joined IsLasting (side_names e.0 e.1) (flat_map (λ f. side_names f.0 f.1) es) (side_lasts e.0 e.1) (sides_last es) x h

pub fixed_lasts : (j : Joint) (n : ℕ) (x : Name) → In x (fixed_names j n) → IsLasting x
fixed_lasts j n x (inl same) = subst (λ z. IsLasting z) (sym same) refl
fixed_lasts j n x (inr after) =
    each_joined IsLasting (workers_below n) (flat_map (λ e. side_names e.0 e.1) (fin.entries j.sides)) (workers_last n)
    (sides_last (fin.entries j.sides)) x after

-- so none of them is made
pub made_elsewhere : (e : Event) (a : Answer) (x : Name) → In x (made_by e a) → IsLasting x → ⊥
made_elsewhere e a x h lasts = true≢false (sym (event_made e a x h).0 ∙ lasts)
