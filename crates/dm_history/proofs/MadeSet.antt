-- What an event makes is set by it, whatever was there before.
use Rattle.std.proofs.Common.{◌≡◌, ℕ, ◌⊎◌, Bool, true, false, cond, Option, None, Some, is_some, List, [], ◌∷◌, map, refl, sym, ap, ◌∙◌, subst, inl, inr, ⊎_elim, nat_eq}
use Rattle.std.specs.FinMap as fin
use Rattle.std.specs.Option.{option_map}
use Rattle.dm_base.specs.declared.identifier.Bfid.{Bfid}
use Rattle.dm_base.specs.declared.identifier.GroupId.{GroupId}
use Rattle.dm_base.specs.declared.identifier.Secs.{Secs}
use Rattle.dm_base.specs.declared.serial.Vsn.{Vsn}
use Rattle.dm_base.specs.declared.volume.Chunk.{Chunk}
use Rattle.dm_base.specs.declared.volume.Piece.{Piece}
use Rattle.dm_tables.specs.Rows.{adjust}
use Rattle.dm_tables.proofs.Adjusted.{adjusted-here}
use Rattle.dm_tables.proofs.Orders.{numbers}
use Rattle.dm_tables.proofs.Rows.{get-here}
use Rattle.dm_durable.specs.declared.group.BitfileRow.{BitfileRow}
use Rattle.dm_durable.specs.declared.group.VolumeRow.{VolumeRow}
use Rattle.dm_durable.specs.Group.{chunk_at}
use Rattle.dm_durable.specs.Tables.{ByNumber}
use Rattle.dm_durable.specs.Volumes.{LiveChunk, destination_in, first_on, is_freeable_in, reusable_in}
use Rattle.dm_model.specs.declared.answer.Answer.{Answer}
use Rattle.dm_model.specs.declared.answer.Answer.TheVariants as answer
use Rattle.dm_model.specs.declared.call.Call.{Call}
use Rattle.dm_model.specs.declared.call.Call.TheVariants as call
use Rattle.dm_model.specs.declared.call.DaemonCall.{DaemonCall}
use Rattle.dm_model.specs.declared.call.DaemonCall.TheVariants as daemon_call
use Rattle.dm_model.specs.declared.call.GroupCall.{GroupCall}
use Rattle.dm_model.specs.declared.call.GroupCall.TheVariants as group_call
use Rattle.dm_model.specs.declared.entry.Name.{Name}
use Rattle.dm_model.specs.declared.entry.Name.TheVariants.{Daemon, Worker, Side}
use Rattle.dm_model.specs.declared.entry.Part.{Part}
use Rattle.dm_model.specs.declared.entry.Part.TheVariants as part
use Rattle.dm_model.specs.declared.plan.Opening.{Opening}
use Rattle.dm_model.specs.declared.plan.Opening.TheVariants as opening
use Rattle.dm_model.specs.declared.state.Daemon.{Daemon as DaemonState}
use Rattle.dm_model.specs.declared.state.Group.{Group}
use Rattle.dm_model.specs.declared.state.Joint.{Joint}
use Rattle.dm_model.specs.declared.state.Mounted.{Mounted}
use Rattle.dm_model.specs.declared.state.MountState.{MountState}
use Rattle.dm_model.specs.declared.state.Moving.{Moving}
use Rattle.dm_model.specs.declared.state.OpenRequest.{OpenRequest}
use Rattle.dm_model.specs.declared.state.Origin.TheVariants as origin
use Rattle.dm_model.specs.declared.state.Reserved.{Reserved}
use Rattle.dm_model.specs.declared.state.Reusing.{Reusing}
use Rattle.dm_model.specs.declared.state.Side.{Side as SideState}
use Rattle.dm_model.specs.DaemonCalls.{begin_put, daemon_plan}
use Rattle.dm_model.specs.Effects.{after_opening, at_each}
use Rattle.dm_model.specs.Files.{File, file_at}
use Rattle.dm_model.specs.GroupCalls.{abort, add_volume, group_healing_plan, commit, drop_move, free, free_of, group_plan, group_time, merge_first, merge_to, mount_chunk, mount_chunk_of, mount_piece, mount_piece_of, move_done, piece_at, reuse, reuse_first, unmount}
use Rattle.dm_model.specs.Names.{copy_name, made_by_call, made_by_daemon, made_by_group, mount_name}
use Rattle.dm_model.specs.Plan.{Plan, answer_of, if_accepted, prepared_plan}
use Rattle.dm_model.specs.Guards.{first_true}
use Rattle.dm_model.specs.SideShare.{side_after_opening, source_of, target_of}
use Rattle.dm_model.specs.Step.{plan_of, side_plan}
use Rattle.dm_model.specs.Volumes.{usage_of}
use Rattle.dm_rules.specs.declared.space.Space.{Space}
use Rattle.dm_spine.specs.Past.{In}
use Rattle.dm_history.specs.Alike.{Alike, PartsAlike, SameGroups}
use Rattle.dm_history.proofs.PartsGo.{AllAlike, each_goes, insert_goes, keys_go, libraries_at, new_mount_same, opening_reads, parts_as, put_opened_goes, SameKeys}
use Rattle.dm_history.proofs.PartsStay.{part_self}

-- the opening sets the name
abbrev pub Sets : Name → Opening → Type 0
Sets x opening.Nothing = ⊥
Sets x (opening.Put k r len groups) = In x (map (λ g. copy_name g r.bfid) groups)
Sets x (opening.Recall k r recall) = ⊥
Sets x (opening.Reservation g n r) = ⊥
Sets x (opening.Mount g m vsn epoch made) = x ≡ mount_name g m
Sets x (opening.Move g job y source_epoch target_epoch) = (x ≡ mount_name g y.source) ⊎ (x ≡ mount_name g y.target)
Sets x (opening.Reuse g m epoch y reading) = x ≡ mount_name g m

-- ---- what an answer makes

-- what is made by an answer, by whichever definition
module _ (makes : Answer → List Name) where
  -- no refusal makes anything
  abbrev pub NoneMade : List (Bool × Answer) → Type 0
  NoneMade [] = Unit {0}
  NoneMade (t ∷ ts) = (makes t.1 ≡ []) × NoneMade ts

  -- what the answer of a plan makes is what its opening sets
  abbrev pub Makes : Plan → Type 0
  Makes p = (x : Name) → In x (makes (prepared_plan p).answer) → Sets x (prepared_plan p).opens

  chosen : (x : Name) (a : Answer) (o : Opening) → (In x (makes a) → Sets x o) → (l : List (Bool × Answer)) → NoneMade l
      → In x (makes (answer_of (first_true l) a)) → Sets x (if_accepted (first_true l) opening.Nothing o)
  chosen x a o sets [] none h = sets h
  chosen x a o sets (t ∷ ts) none h =
      elim t.0 as (λ b. In x (makes (answer_of (cond b (Some t.1) (first_true ts)) a)) → Sets x (if_accepted (cond b (Some t.1) (first_true ts)) opening.Nothing o)) [
        | true ↦ λ g. absurd (subst (λ l. In x l) none.0 g)
        | false ↦ λ g. chosen x a o sets ts none.1 g
      ] h

  pub makes_as : (p : Plan) → NoneMade p.refusals → ((x : Name) → In x (makes p.answer) → Sets x p.opens) → Makes p
  makes_as p none sets x h = chosen x p.answer p.opens (sets x) p.refusals none h

one : (g : GroupId) (m : ℕ) (x : Name) → In x (mount_name g m ∷ []) → x ≡ mount_name g m
one g m x h = ⊎_elim (λ s. s) (λ r. absurd r) h

abbrev GroupMakes : GroupId → Plan → Type 0
GroupMakes g p = Makes (made_by_group g) p

piece_mounted : (g : GroupId) (x : Group) (r : Reserved) (k m : ℕ) (o : Option Piece) → GroupMakes g (mount_piece_of g x r k m o)
piece_mounted g x r k m None = makes_as (made_by_group g) (mount_piece_of g x r k m None) tt (λ y h. absurd h)
piece_mounted g x r k m (Some p) = makes_as (made_by_group g) (mount_piece_of g x r k m (Some p)) (refl, tt) (λ y h. one g m y h)

piece_makes : (g : GroupId) (x : Group) (k m : ℕ) (o : Option Reserved) → GroupMakes g (mount_piece g x k m o)
piece_makes g x k m None = makes_as (made_by_group g) (mount_piece g x k m None) tt (λ y h. absurd h)
piece_makes g x k m (Some r) = piece_mounted g x r k m (piece_at k r.pieces)

chunk_mounted : (g : GroupId) (x : Group) (b : Bfid) (m : ℕ) (o : Option Chunk) → GroupMakes g (mount_chunk_of g x b m o)
chunk_mounted g x b m None = makes_as (made_by_group g) (mount_chunk_of g x b m None) tt (λ y h. absurd h)
chunk_mounted g x b m (Some c) = makes_as (made_by_group g) (mount_chunk_of g x b m (Some c)) (refl, tt) (λ y h. one g m y h)

either_makes : (g : GroupId) (q p : Plan) (end : Bool) → GroupMakes g q → GroupMakes g p → GroupMakes g (cond end q p)
either_makes g q p true a b x h = a x h
either_makes g q p false a b x h = b x h

chunk_makes : (g : GroupId) (x : Group) (b : Bfid) (offset m : ℕ) (o : Option BitfileRow) → GroupMakes g (mount_chunk g x b offset m o)
chunk_makes g x b offset m None = chunk_mounted g x b m None
chunk_makes g x b offset m (Some row) =
    either_makes g (group_healing_plan g answer.AtEnd) (mount_chunk_of g x b m (chunk_at offset row.chunks)) (nat_eq offset row.len)
    (makes_as (made_by_group g) (group_healing_plan g answer.AtEnd) tt (λ y h. absurd h)) (chunk_mounted g x b m (chunk_at offset row.chunks))

unmount_makes : (g : GroupId) (m : ℕ) (o : Option Mounted) → GroupMakes g (unmount g m o)
unmount_makes g m None = makes_as (made_by_group g) (unmount g m None) tt (λ y h. absurd h)
unmount_makes g m (Some x) = makes_as (made_by_group g) (unmount g m (Some x)) tt (λ y h. absurd h)

added_makes : (g : GroupId) (x : Group) (m now : ℕ) (o : Option Mounted) → GroupMakes g (add_volume g x m now o)
added_makes g x m now None = makes_as (made_by_group g) (add_volume g x m now None) tt (λ y h. absurd h)
added_makes g x m now (Some z) = makes_as (made_by_group g) (add_volume g x m now (Some z)) tt (λ y h. absurd h)

commit_makes : (g : GroupId) (x : Group) (n : ℕ) (sums : List (List ℕ)) (now : ℕ) (o : Option Reserved) → GroupMakes g (commit g x n sums now o)
commit_makes g x n sums now None = makes_as (made_by_group g) (commit g x n sums now None) tt (λ y h. absurd h)
commit_makes g x n sums now (Some r) = makes_as (made_by_group g) (commit g x n sums now (Some r)) tt (λ y h. absurd h)

abort_makes : (g : GroupId) (n : ℕ) (o : Option Reserved) → GroupMakes g (abort g n o)
abort_makes g n None = makes_as (made_by_group g) (abort g n None) tt (λ y h. absurd h)
abort_makes g n (Some r) = makes_as (made_by_group g) (abort g n (Some r)) tt (λ y h. absurd h)

merge_to_makes : (g : GroupId) (x : Group) (merged : List Vsn) (l : LiveChunk) (job from to : ℕ) (o : Option Space) → GroupMakes g (merge_to g x merged l job from to o)
merge_to_makes g x merged l job from to None = makes_as (made_by_group g) (merge_to g x merged l job from to None) (refl, (refl, tt)) (λ y h. absurd h)
merge_to_makes g x merged l job from to (Some s) =
    makes_as (made_by_group g) (merge_to g x merged l job from to (Some s)) (refl, tt) (λ y h. ⊎_elim (λ e. inl e) (λ r. inr (one g to y r)) h)

merge_first_makes : (g : GroupId) (x : Group) (merged : List Vsn) (job from to : ℕ) (o : Option LiveChunk) → GroupMakes g (merge_first g x merged job from to o)
merge_first_makes g x merged job from to None = makes_as (made_by_group g) (merge_first g x merged job from to None) tt (λ y h. absurd h)
merge_first_makes g x merged job from to (Some l) =
    merge_to_makes g x merged l job from to (destination_in (usage_of x) merged x.tables.volumes l.chunk.len)

done_makes : (g : GroupId) (x : Group) (job : ℕ) (sum : Option (List ℕ)) (now : ℕ) (o : Option Moving) → GroupMakes g (move_done g x job sum now o)
done_makes g x job sum now None = makes_as (made_by_group g) (move_done g x job sum now None) tt (λ y h. absurd h)
done_makes g x job sum now (Some z) = makes_as (made_by_group g) (move_done g x job sum now (Some z)) (refl, tt) (λ y h. absurd h)

drop_makes : (g : GroupId) (job : ℕ) (o : Option Moving) → GroupMakes g (drop_move g job o)
drop_makes g job None = makes_as (made_by_group g) (drop_move g job None) tt (λ y h. absurd h)
drop_makes g job (Some z) = makes_as (made_by_group g) (drop_move g job (Some z)) tt (λ y h. absurd h)

free_makes : (g : GroupId) (x : Group) (vsn : Vsn) (now : ℕ) (o : Option VolumeRow) → GroupMakes g (free g x vsn now o)
free_makes g x vsn now None = makes_as (made_by_group g) (free g x vsn now None) tt (λ y h. absurd h)
free_makes g x vsn now (Some v) =
    makes_as (made_by_group g) (free_of g x vsn now (is_freeable_in (usage_of x) x.tables vsn.0 v)) tt (λ y h. absurd h)

reused_makes : (g : GroupId) (x : Group) (m now : ℕ) (vsns : List Vsn) → GroupMakes g (reuse_first g x m now vsns)
reused_makes g x m now [] = makes_as (made_by_group g) (reuse_first g x m now []) tt (λ y h. absurd h)
reused_makes g x m now (v ∷ vs) = makes_as (made_by_group g) (reuse_first g x m now (v ∷ vs)) (refl, tt) (λ y h. one g m y h)

reuse_makes : (g : GroupId) (x : Group) (m now : ℕ) (o : Option Reusing) → GroupMakes g (reuse g x m now o)
reuse_makes g x m now None = makes_as (made_by_group g) (reuse g x m now None) tt (λ y h. absurd h)
reuse_makes g x m now (Some z) = makes_as (made_by_group g) (reuse g x m now (Some z)) tt (λ y h. absurd h)

group_makes : (g : GroupId) (x : Group) (c : GroupCall) → GroupMakes g (group_plan g x c)
group_makes g x group_call.Missing = makes_as (made_by_group g) (group_plan g x group_call.Missing) tt (λ y h. absurd h)
group_makes g x (group_call.MountNew vsn m) = makes_as (made_by_group g) (group_plan g x (group_call.MountNew vsn m)) (refl, tt) (λ y h. one g m y h)
group_makes g x (group_call.AddVolume m now) = added_makes g x m now.0 (fin.get x.mounts m)
group_makes g x (group_call.Reserve b len n) = makes_as (made_by_group g) (group_plan g x (group_call.Reserve b len n)) (refl, tt) (λ y h. absurd h)
group_makes g x (group_call.MountPiece n k m) = piece_makes g x k m (fin.get x.reservations n)
group_makes g x (group_call.MountChunk b offset m) = chunk_makes g x b offset m (fin.get x.tables.bitfiles b.0)
group_makes g x (group_call.Unmount m) = unmount_makes g m (fin.get x.mounts m)
group_makes g x (group_call.Commit n sums now) = commit_makes g x n sums now.0 (fin.get x.reservations n)
group_makes g x (group_call.Abort n) = abort_makes g n (fin.get x.reservations n)
group_makes g x (group_call.Delete b now) = makes_as (made_by_group g) (group_plan g x (group_call.Delete b now)) tt (λ y h. absurd h)
group_makes g x group_call.MergeList = makes_as (made_by_group g) (group_plan g x group_call.MergeList) tt (λ y h. absurd h)
group_makes g x (group_call.MergeNext merged source job from to) =
    merge_first_makes g x merged job from to (first_on x.tables.bitfiles source.0)
group_makes g x (group_call.MoveDone job sum now) = done_makes g x job sum now.0 (fin.get x.moves job)
group_makes g x (group_call.DropMove job) = drop_makes g job (fin.get x.moves job)
group_makes g x (group_call.Free vsn now) = free_makes g x vsn now.0 (fin.get x.tables.volumes vsn.0)
group_makes g x (group_call.ReuseNext m now) =
    reused_makes g x m now.0 (reusable_in (usage_of x) (group_time x now.0) x.conf.hold x.conf.format x.tables.volumes)
group_makes g x (group_call.Reuse m now) = reuse_makes g x m now.0 (fin.get x.reuses m)
group_makes g x group_call.Rows = makes_as (made_by_group g) (group_plan g x group_call.Rows) tt (λ y h. absurd h)
group_makes g x group_call.Volumes = makes_as (made_by_group g) (group_plan g x group_call.Volumes) tt (λ y h. absurd h)

put_makes : (d : DaemonState) (path : List ℕ) (asked : List (Option GroupId)) (now : Secs) (k : ℕ) (o : Option File)
    → Makes (made_by_daemon (daemon_call.BeginPut path asked now k)) (begin_put d path asked now.0 k o)
put_makes d path asked now k None =
    makes_as (made_by_daemon (daemon_call.BeginPut path asked now k)) (begin_put d path asked now.0 k None) (refl, tt) (λ y h. absurd h)
put_makes d path asked now k (Some f) =
    makes_as (made_by_daemon (daemon_call.BeginPut path asked now k)) (begin_put d path asked now.0 k (Some f)) (refl, (refl, (refl, tt))) (λ y h. h)

daemon_makes : (d : DaemonState) (c : DaemonCall) → Makes (made_by_daemon c) (daemon_plan d c)
daemon_makes d (daemon_call.BeginPut path asked now k) x h = put_makes d path asked now k (file_at d path) x h
daemon_makes d (daemon_call.CopyStored k group now) x h = absurd h
daemon_makes d (daemon_call.EndPut k now) x h = absurd h
daemon_makes d (daemon_call.Release path now) x h = absurd h
daemon_makes d (daemon_call.BeginRecall path k) x h = absurd h
daemon_makes d (daemon_call.EndRecall k bytes now) x h = absurd h
daemon_makes d (daemon_call.DropRecall k) x h = absurd h
daemon_makes d (daemon_call.Write path bytes now) x h = absurd h
daemon_makes d (daemon_call.Patch path offset bytes now) x h = absurd h
daemon_makes d (daemon_call.Remove path now) x h = absurd h
daemon_makes d (daemon_call.MakeDump name now) x h = absurd h
daemon_makes d (daemon_call.Undump name now) x h = absurd h
daemon_makes d (daemon_call.Restore name path target now) x h = absurd h
daemon_makes d (daemon_call.SetAge age now) x h = absurd h
daemon_makes d (daemon_call.HardDelete now) x h = absurd h
daemon_makes d (daemon_call.NextDropping after) x h = absurd h
daemon_makes d (daemon_call.Dropped b now) x h = absurd h
daemon_makes d (daemon_call.Attributes path) x h = absurd h
daemon_makes d daemon_call.List x h = absurd h

side_makes : (g : GroupId) (c : GroupCall) (o : Option SideState) → GroupMakes g (side_plan g c o)
side_makes g c None = makes_as (made_by_group g) (side_plan g c None) tt (λ y h. absurd h)
side_makes g c (Some s) = group_makes g s.group c

pub call_makes : (j : Joint) (c : Call) (x : Name) → In x (made_by_call c (prepared_plan (plan_of j c)).answer) → Sets x (prepared_plan (plan_of j c)).opens
call_makes j (call.Daemon c) x h = daemon_makes j.daemon c x h
call_makes j (call.Group g c) x h = side_makes g c (fin.get j.sides g.0) x h
call_makes j (call.Volume g vsn c) x h = absurd h

-- ---- what an opening sets

true_false : {P : Type 0} → true ≡ false → P
true_false h = cc

found_set : (p : Part) (f : SideState → SideState) (a b : Option SideState) → is_some a ≡ is_some b
    → ((s t : SideState) → a ≡ Some s → b ≡ Some t → PartsAlike p (Some (f s)) (Some (f t))) → PartsAlike p (option_map f a) (option_map f b)
found_set p f None None keys sets = part_self p None
found_set p f None (Some t) keys sets = true_false (sym keys)
found_set p f (Some s) None keys sets = true_false keys
found_set p f (Some s) (Some t) keys sets = sets s t refl refl

one_set : (p : Part) (f : SideState → SideState) (g : GroupId) (a b : ByNumber SideState) → SameKeys a b
    → ((s t : SideState) → fin.get a g.0 ≡ Some s → fin.get b g.0 ≡ Some t → PartsAlike p (Some (f s)) (Some (f t)))
    → PartsAlike p (fin.get (adjust a g.0 f) g.0) (fin.get (adjust b g.0 f) g.0)
one_set p f g a b keys sets =
    parts_as p _ _ (option_map f (fin.get a g.0)) (option_map f (fin.get b g.0)) (adjusted-here numbers a g.0 f) (adjusted-here numbers b g.0 f)
    (found_set p f (fin.get a g.0) (fin.get b g.0) (keys g.0) sets)

abbrev group_in_name : GroupId → Name → GroupId
group_in_name g Daemon = g
group_in_name g (Worker w) = g
group_in_name g (Side h p) = h

copies_set : (k : ℕ) (r : OpenRequest) (len : ℕ) (groups gs : List GroupId) (a b : ByNumber SideState) (i : GroupId) → SameKeys a b
    → In (copy_name i r.bfid) (map (λ g. copy_name g r.bfid) gs)
    → PartsAlike (part.Copy r.bfid) (fin.get (at_each (side_after_opening (opening.Put k r len groups)) gs a) i.0)
    (fin.get (at_each (side_after_opening (opening.Put k r len groups)) gs b) i.0)
copies_set k r len groups [] a b i keys h = absurd h
copies_set k r len groups (g ∷ gs) a b i keys (inl same) =
    let f = side_after_opening (opening.Put k r len groups) in
    let here = one_set (part.Copy r.bfid) f g a b keys
    (λ s t is_s is_t. get-here numbers s.copies r.bfid.0 _ ∙ sym (get-here numbers t.copies r.bfid.0 _)) in
    let at : g.0 ≡ i.0 = sym (ap (λ (n : Name). (group_in_name i n).0) same) in
    each_goes (part.Copy r.bfid) f i gs (adjust a g.0 f) (adjust b g.0 f) (keys_go f (g ∷ []) a b keys)
    (subst (λ n. PartsAlike (part.Copy r.bfid) (fin.get (adjust a g.0 f) n) (fin.get (adjust b g.0 f) n)) at here)
    (put_opened_goes k r len groups (part.Copy r.bfid))
copies_set k r len groups (g ∷ gs) a b i keys (inr after) =
    let f = side_after_opening (opening.Put k r len groups) in
    copies_set k r len groups gs (adjust a g.0 f) (adjust b g.0 f) i (keys_go f (g ∷ []) a b keys) after

copy_in : (c : Bfid) (gs : List GroupId) (x : Name) → In x (map (λ g. copy_name g c) gs) → (i : GroupId) × (x ≡ copy_name i c)
copy_in c [] x h = absurd h
copy_in c (g ∷ gs) x (inl same) = (g, same)
copy_in c (g ∷ gs) x (inr after) = copy_in c gs x after

set_same : (m n : ByNumber MountState) (k : ℕ) (v w : MountState) → v ≡ w → fin.get (fin.insert m k v) k ≡ fin.get (fin.insert n k w) k
set_same m n k v w same = get-here numbers m k v ∙ (ap (λ (y : MountState). Some y) same ∙ sym (get-here numbers n k w))

pub opening_sets : (w : ℕ) (o : Opening) (j k : Joint) (x : Name) → SameGroups j k → AllAlike (opening_reads o) j k → Sets x o
    → Alike x (after_opening w o j) (after_opening w o k)
opening_sets w opening.Nothing j k x keys reads sets = absurd sets
opening_sets w (opening.Put i r len groups) j k x keys reads sets =
    let c = copy_in r.bfid groups x sets in
    let there = subst (λ y. In y (map (λ g. copy_name g r.bfid) groups)) c.1 sets in
    subst (λ y. Alike y (after_opening w (opening.Put i r len groups) j) (after_opening w (opening.Put i r len groups) k)) (sym c.1)
    (copies_set i r len groups groups j.sides k.sides c.0 keys there)
opening_sets w (opening.Recall i r recall) j k x keys reads sets = absurd sets
opening_sets w (opening.Reservation g n r) j k x keys reads sets = absurd sets
opening_sets w (opening.Mount g m vsn epoch made) j k x keys reads sets =
    let o = opening.Mount g m vsn epoch made in
    subst (λ y. Alike y (after_opening w o j) (after_opening w o k)) (sym sets)
    (one_set (part.Mount m) (side_after_opening o) g j.sides k.sides keys
    (λ s t is_s is_t. set_same s.mounts t.mounts m _ _
    (new_mount_same s t vsn epoch made (libraries_at g g j.sides k.sides s t refl is_s is_t (reads (Side g part.Itself) (inl refl))))))
opening_sets w (opening.Move g job y source_epoch target_epoch) j k x keys reads (inl sets) =
    let o = opening.Move g job y source_epoch target_epoch in
    subst (λ z. Alike z (after_opening w o j) (after_opening w o k)) (sym sets)
    (one_set (part.Mount y.source) (side_after_opening o) g j.sides k.sides keys
    (λ s t is_s is_t.
    let same = libraries_at g g j.sides k.sides s t refl is_s is_t (reads (Side g part.Itself) (inl refl)) in
    insert_goes numbers _ _ y.target y.source _ _ (new_mount_same s t y.to.vsn target_epoch (target_of job y) same)
    (set_same s.mounts t.mounts y.source _ _ (new_mount_same s t y.from.vsn source_epoch (source_of job y) same))))
opening_sets w (opening.Move g job y source_epoch target_epoch) j k x keys reads (inr sets) =
    let o = opening.Move g job y source_epoch target_epoch in
    subst (λ z. Alike z (after_opening w o j) (after_opening w o k)) (sym sets)
    (one_set (part.Mount y.target) (side_after_opening o) g j.sides k.sides keys
    (λ s t is_s is_t.
    let same = libraries_at g g j.sides k.sides s t refl is_s is_t (reads (Side g part.Itself) (inl refl)) in
    set_same _ _ y.target _ _ (new_mount_same s t y.to.vsn target_epoch (target_of job y) same)))
opening_sets w (opening.Reuse g m epoch y reading) j k x keys reads sets =
    let o = opening.Reuse g m epoch y reading in
    subst (λ z. Alike z (after_opening w o j) (after_opening w o k)) (sym sets)
    (one_set (part.Mount m) (side_after_opening o) g j.sides k.sides keys
    (λ s t is_s is_t. set_same s.mounts t.mounts m _ _
    (new_mount_same s t y.vsn epoch (origin.Reuse y.next_epoch y.version (record { 0 = reading }))
    (libraries_at g g j.sides k.sides s t refl is_s is_t (reads (Side g part.Itself) (inl refl))))))
