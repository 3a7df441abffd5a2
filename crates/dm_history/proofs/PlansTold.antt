-- What a call's plan speaks of are the names that the call is about, and those that it makes.
use Rattle.std.proofs.Common.{◌≡◌, ℕ, Bool, true, false, cond, Option, None, Some, List, [], ◌∷◌, ◌++◌, refl, ap, ◌∙◌, subst, inl, inr, ⊎_elim, nat_eq, is_some}
use Rattle.std.specs.FinMap as fin
use Rattle.dm_base.specs.declared.identifier.Bfid.{Bfid}
use Rattle.dm_base.specs.declared.identifier.GroupId.{GroupId}
use Rattle.dm_base.specs.declared.identifier.Secs.{Secs}
use Rattle.dm_base.specs.declared.serial.Vsn.{Vsn}
use Rattle.dm_base.specs.declared.volume.Chunk.{Chunk}
use Rattle.dm_base.specs.declared.volume.Piece.{Piece}
use Rattle.dm_durable.specs.declared.daemon.Contents.{Contents}
use Rattle.dm_durable.specs.declared.daemon.Contents.TheVariants as contents
use Rattle.dm_durable.specs.declared.daemon.Dump.{Dump}
use Rattle.dm_durable.specs.declared.daemon.DumpInode.{DumpInode}
use Rattle.dm_durable.specs.declared.daemon.Entry.{Entry as EntryRow}
use Rattle.dm_durable.specs.declared.group.BitfileRow.{BitfileRow}
use Rattle.dm_durable.specs.declared.group.VolumeRow.{VolumeRow}
use Rattle.dm_durable.specs.Dumps.{file_in}
use Rattle.dm_durable.specs.Group.{chunk_at}
use Rattle.dm_durable.specs.Volumes.{LiveChunk, destination_in, first_on, is_freeable_in, reusable_in}
use Rattle.dm_model.specs.declared.call.Call.{Call}
use Rattle.dm_model.specs.declared.call.Call.TheVariants as call
use Rattle.dm_model.specs.declared.call.Component.{Component}
use Rattle.dm_model.specs.declared.call.Component.TheVariants as component
use Rattle.dm_model.specs.declared.call.DaemonCall.{DaemonCall}
use Rattle.dm_model.specs.declared.call.DaemonCall.TheVariants as daemon_call
use Rattle.dm_model.specs.declared.call.GroupCall.{GroupCall}
use Rattle.dm_model.specs.declared.call.GroupCall.TheVariants as group_call
use Rattle.dm_model.specs.declared.call.VolumeCall.{VolumeCall}
use Rattle.dm_model.specs.declared.call.VolumeCall.TheVariants as volume_call
use Rattle.dm_model.specs.declared.entry.Name.{Name}
use Rattle.dm_model.specs.declared.entry.Name.TheVariants.{Daemon, Worker, Side}
use Rattle.dm_model.specs.declared.entry.Part.TheVariants as part
use Rattle.dm_model.specs.declared.plan.Ending.TheVariants as ending
use Rattle.dm_model.specs.declared.plan.Mark.{Mark}
use Rattle.dm_model.specs.declared.plan.Mark.TheVariants as mark
use Rattle.dm_model.specs.declared.plan.Opening.TheVariants as opening
use Rattle.dm_model.specs.declared.plan.Payload.{Payload}
use Rattle.dm_model.specs.declared.plan.Payload.TheVariants as payload
use Rattle.dm_model.specs.declared.state.Daemon.{Daemon as DaemonState}
use Rattle.dm_model.specs.declared.state.Group.{Group}
use Rattle.dm_model.specs.declared.state.Image.{Image}
use Rattle.dm_model.specs.declared.state.Joint.{Joint}
use Rattle.dm_model.specs.declared.state.Mounted.{Mounted}
use Rattle.dm_model.specs.declared.state.MountState.{MountState}
use Rattle.dm_model.specs.declared.state.Moving.{Moving}
use Rattle.dm_model.specs.declared.state.OpenRequest.{OpenRequest}
use Rattle.dm_model.specs.declared.state.Origin.{Origin}
use Rattle.dm_model.specs.declared.state.Origin.TheVariants as origin
use Rattle.dm_model.specs.declared.state.Reserved.{Reserved}
use Rattle.dm_model.specs.declared.state.Reusing.{Reusing}
use Rattle.dm_model.specs.declared.state.Side.{Side as SideState}
use Rattle.dm_model.specs.DaemonCalls.{attributes, begin_put, begin_recall, begin_recall_of, contents_of, copy_stored, daemon_plan, drop_recall, dropped, end_put, end_recall, hard_delete_of, patch, release, remove, restore, restore_file, step_taken, taken_at, time_at}
use Rattle.dm_model.specs.Files.{File, file_at}
use Rattle.dm_model.specs.GroupCalls.{abort, add_volume, commit, delete_of, drop_move, free, free_of, group_plan, group_time, merge_first, merge_next, merge_to, mount_chunk, mount_chunk_of, mount_piece, mount_piece_of, move_done, piece_at, reuse, reuse_first, unmount}
use Rattle.dm_model.specs.Names.{component_name, copies_of_request, copy_name, copy_of_reservation, daemon_names, group_names, group_names_in, home_of_call, made_by_call, made_by_daemon, made_by_group, mount_and_owner, mount_and_owner_in, mount_name, mounts_of_move, names_of_call, owner_of, owner_of_origin}
use Rattle.dm_model.specs.Plan.{Plan}
use Rattle.dm_model.specs.Step.{plan_of, side_plan, volume_plan_in}
use Rattle.dm_model.specs.VolumeCalls.{is_read_of, mount_in, mounted_plan, read_mark, volume_plan, zone_mark}
use Rattle.dm_model.specs.Volumes.{usage_of}
use Rattle.dm_model.proofs.PlansOf.{PlanOf, group_plan-of}
use Rattle.dm_model.proofs.Shares.{PaysOf}
use Rattle.dm_rules.specs.declared.space.Space.{Space}
use Rattle.dm_spine.specs.Past.{In}
use Rattle.dm_spine.proofs.Lists.{in_left}
use Rattle.dm_history.proofs.PartsStay.{ending_names, healing_names, mark_names, opening_names, payload_names}

abbrev pub Within : List Name → List Name → Type 0
Within xs ys = (x : Name) → In x xs → In x ys

-- the names that a plan speaks of are told, or made
pub record Told (w : ℕ) (j : Joint) (told made : List Name) (p : Plan) : Type 0 where
  pub ends : Within (ending_names w j p.ends) told
  pub heals : Within (healing_names p.heals p.component) told
  pub pays : Within (payload_names p.payload) told
  pub marks : Within (mark_names w p.mark) told
  pub opens : Within (opening_names w p.opens) (told ++ made)

alone : (x y : Name) (rest : List Name) → In x (y ∷ []) → In x (y ∷ rest)
alone x y rest h = ⊎_elim (λ s. inl s) (λ r. absurd r) h

-- the first is there too, and the rest behind another
behind : (y z : Name) (ys : List Name) → Within (y ∷ ys) ((y ∷ z ∷ []) ++ ys)
behind y z ys x (inl same) = inl same
behind y z ys x (inr after) = inr (inr after)

-- ---- the daemon

abbrev pub PaysDaemon : Option Payload → Type 0
PaysDaemon None = Unit {0}
PaysDaemon (Some (payload.Daemon r)) = Unit {0}
PaysDaemon (Some (payload.Group g r)) = ⊥

heals_daemon : (heals : Bool) (c : Component) (rest : List Name) → c ≡ component.Daemon → Within (healing_names heals c) (Daemon ∷ rest)
heals_daemon true c rest is x h = ⊎_elim (λ s. inl (s ∙ ap component_name is)) (λ r. absurd r) h
heals_daemon false c rest is x h = absurd h

pays_daemon : (q : Option Payload) (rest : List Name) → PaysDaemon q → Within (payload_names q) (Daemon ∷ rest)
pays_daemon None rest of x h = absurd h
pays_daemon (Some (payload.Daemon r)) rest of x h = alone x Daemon rest h
pays_daemon (Some (payload.Group g r)) rest of x h = absurd of

-- a plan of the daemon, which leaves no mark
pub record OfDaemon (p : Plan) : Type 0 where
  pub component : p.component ≡ component.Daemon
  pub pays : PaysDaemon p.payload
  pub unmarked : p.mark ≡ mark.Nothing

told_daemon : (w : ℕ) (j : Joint) (rest made : List Name) (p : Plan) → OfDaemon p → Within (ending_names w j p.ends) (Daemon ∷ rest)
    → Within (opening_names w p.opens) ((Daemon ∷ rest) ++ made) → Told w j (Daemon ∷ rest) made p
told_daemon w j rest made p of ends opens = record {
  ends = ends;
  heals = heals_daemon p.heals p.component rest of.component;
  pays = pays_daemon p.payload rest of.pays;
  marks = λ x h. absurd (subst (λ y. In x (mark_names w y)) of.unmarked h);
  opens = opens;
}

-- a plan that spends and makes nothing
pub record Quiet (p : Plan) : Type 0 where
  pub of : OfDaemon p
  pub ends : p.ends ≡ ending.Nothing
  pub opens : p.opens ≡ opening.Nothing

told_quiet : (w : ℕ) (j : Joint) (rest made : List Name) (p : Plan) → Quiet p → Told w j (Daemon ∷ rest) made p
told_quiet w j rest made p q =
    told_daemon w j rest made p q.of (λ x h. absurd (subst (λ e. In x (ending_names w j e)) q.ends h))
    (λ x h. absurd (subst (λ o. In x (opening_names w o)) q.opens h))

quiet : (p : Plan) → p.component ≡ component.Daemon → PaysDaemon p.payload → p.mark ≡ mark.Nothing → p.ends ≡ ending.Nothing
    → p.opens ≡ opening.Nothing → Quiet p
quiet p component pays unmarked ends opens =
    record { of = record { component = component; pays = pays; unmarked = unmarked }; ends = ends; opens = opens }

release_quiet : (d : DaemonState) (path : List ℕ) (now : ℕ) (o : Option File) → Quiet (release d path now o)
release_quiet d path now None = quiet (release d path now None) refl tt refl refl refl
release_quiet d path now (Some f) = quiet (release d path now (Some f)) refl tt refl refl refl

stored_quiet : (d : DaemonState) (g : GroupId) (now : ℕ) (o : Option OpenRequest) → Quiet (copy_stored d g now o)
stored_quiet d g now None = quiet (copy_stored d g now None) refl tt refl refl refl
stored_quiet d g now (Some r) = quiet (copy_stored d g now (Some r)) refl tt refl refl refl

patch_quiet : (d : DaemonState) (path : List ℕ) (offset : ℕ) (bytes : List ℕ) (now : ℕ) (o : Option File) → Quiet (patch d path offset bytes now o)
patch_quiet d path offset bytes now None = quiet (patch d path offset bytes now None) refl tt refl refl refl
patch_quiet d path offset bytes now (Some f) = quiet (patch d path offset bytes now (Some f)) refl tt refl refl refl

remove_quiet : (d : DaemonState) (path : List ℕ) (now : ℕ) (o : Option File) → Quiet (remove d path now o)
remove_quiet d path now None = quiet (remove d path now None) refl tt refl refl refl
remove_quiet d path now (Some f) = quiet (remove d path now (Some f)) refl tt refl refl refl

restore_file_quiet : (d : DaemonState) (name path target : List ℕ) (now : ℕ) (dump : Dump) (o : Option DumpInode)
    → Quiet (restore_file d name path target now dump o)
restore_file_quiet d name path target now dump None = quiet (restore_file d name path target now dump None) refl tt refl refl refl
restore_file_quiet d name path target now dump (Some f) = quiet (restore_file d name path target now dump (Some f)) refl tt refl refl refl

restore_quiet : (d : DaemonState) (name path target : List ℕ) (now : ℕ) (o : Option Dump) → Quiet (restore d name path target now o)
restore_quiet d name path target now None = quiet (restore d name path target now None) refl tt refl refl refl
restore_quiet d name path target now (Some dump) = restore_file_quiet d name path target now dump (file_in (Some dump) path)

hard_quiet : (d : DaemonState) (now : ℕ) (bs : List Bfid) → Quiet (hard_delete_of d now bs)
hard_quiet d now [] = quiet (hard_delete_of d now []) refl tt refl refl refl
hard_quiet d now (b ∷ bs) = quiet (hard_delete_of d now (b ∷ bs)) refl tt refl refl refl

dropped_quiet : (d : DaemonState) (b : Bfid) (now : ℕ) (o : Option EntryRow) → Quiet (dropped d b now o)
dropped_quiet d b now None = quiet (dropped d b now None) refl tt refl refl refl
dropped_quiet d b now (Some e) = quiet (dropped d b now (Some e)) refl tt refl refl refl

attributes_quiet : (d : DaemonState) (path : List ℕ) (o : Option File) → Quiet (attributes d path o)
attributes_quiet d path None = quiet (attributes d path None) refl tt refl refl refl
attributes_quiet d path (Some f) = quiet (attributes d path (Some f)) refl tt refl refl refl

-- the plan of a call of the daemon, by what it looked up
abbrev pub DaemonTells : ℕ → Joint → DaemonCall → List Name → Plan → Type 0
DaemonTells w j c names p = Told w j (Daemon ∷ names) (made_by_daemon c p.answer) p

put_begun : (w : ℕ) (j : Joint) (d : DaemonState) (path : List ℕ) (asked : List (Option GroupId)) (now : Secs) (k : ℕ) (o : Option File)
    → DaemonTells w j (daemon_call.BeginPut path asked now k) (Worker w ∷ []) (begin_put d path asked now.0 k o)
put_begun w j d path asked now k None =
    told_quiet w j (Worker w ∷ []) _ (begin_put d path asked now.0 k None) (quiet (begin_put d path asked now.0 k None) refl tt refl refl refl)
put_begun w j d path asked now k (Some f) =
    told_daemon w j (Worker w ∷ []) _ (begin_put d path asked now.0 k (Some f)) (record { component = refl; pays = tt; unmarked = refl })
    (λ x h. absurd h)
    (λ x h. ⊎_elim (λ s. inl s) (λ r. inr (inr r)) h)

put_ended : (w : ℕ) (j : Joint) (d : DaemonState) (k : ℕ) (now : Secs) (o : Option OpenRequest)
    → DaemonTells w j (daemon_call.EndPut k now) (Worker w ∷ copies_of_request d o) (end_put d k now.0 o)
put_ended w j d k now None = told_quiet w j _ _ (end_put d k now.0 None) (quiet (end_put d k now.0 None) refl tt refl refl refl)
put_ended w j d k now (Some r) =
    told_daemon w j _ _ (end_put d k now.0 (Some r)) (record { component = refl; pays = tt; unmarked = refl })
    (λ x h. ⊎_elim (λ s. inl s) (λ t. inr (inr t)) h)
    (λ x h. absurd h)

recall_begun_of : (w : ℕ) (j : Joint) (d : DaemonState) (path : List ℕ) (k : ℕ) (f : File) (c : Contents)
    → DaemonTells w j (daemon_call.BeginRecall path k) (Worker w ∷ []) (begin_recall_of d k f c)
recall_begun_of w j d path k f (contents.Regular bytes) =
    told_quiet w j _ _ (begin_recall_of d k f (contents.Regular bytes)) (quiet (begin_recall_of d k f (contents.Regular bytes)) refl tt refl refl refl)
recall_begun_of w j d path k f (contents.Making bytes b) =
    told_quiet w j _ _ (begin_recall_of d k f (contents.Making bytes b)) (quiet (begin_recall_of d k f (contents.Making bytes b)) refl tt refl refl refl)
recall_begun_of w j d path k f (contents.Dual bytes b) =
    told_quiet w j _ _ (begin_recall_of d k f (contents.Dual bytes b)) (quiet (begin_recall_of d k f (contents.Dual bytes b)) refl tt refl refl refl)
recall_begun_of w j d path k f (contents.Offline len b) =
    told_daemon w j _ _ (begin_recall_of d k f (contents.Offline len b)) (record { component = refl; pays = tt; unmarked = refl })
    (λ x h. absurd h)
    (λ x h. in_left x (Daemon ∷ Worker w ∷ []) (made_by_daemon (daemon_call.BeginRecall path k) (begin_recall_of d k f (contents.Offline len b)).answer) h)

recall_begun : (w : ℕ) (j : Joint) (d : DaemonState) (path : List ℕ) (k : ℕ) (o : Option File)
    → DaemonTells w j (daemon_call.BeginRecall path k) (Worker w ∷ []) (begin_recall d k o)
recall_begun w j d path k None = told_quiet w j _ _ (begin_recall d k None) (quiet (begin_recall d k None) refl tt refl refl refl)
recall_begun w j d path k (Some f) = recall_begun_of w j d path k f f.inode.contents

pays_taken : (d : DaemonState) (now n : ℕ) (bytes : List ℕ) (c : Contents) → PaysDaemon (step_taken d now n bytes c)
pays_taken d now n bytes (contents.Regular old) = tt
pays_taken d now n bytes (contents.Making old b) = tt
pays_taken d now n bytes (contents.Dual old b) = tt
pays_taken d now n bytes (contents.Offline len b) = tt

recall_ended : (w : ℕ) (j : Joint) (d : DaemonState) (k : ℕ) (bytes : List ℕ) (now : Secs) (o : Option OpenRequest)
    → DaemonTells w j (daemon_call.EndRecall k bytes now) (Worker w ∷ []) (end_recall d k bytes now.0 o)
recall_ended w j d k bytes now None =
    told_quiet w j _ _ (end_recall d k bytes now.0 None) (quiet (end_recall d k bytes now.0 None) refl tt refl refl refl)
recall_ended w j d k bytes now (Some r) =
    told_daemon w j _ _ (end_recall d k bytes now.0 (Some r))
    (record { component = refl; pays = pays_taken d now.0 r.ino.0 bytes (contents_of (fin.get d.tables.inodes r.ino.0)); unmarked = refl })
    (λ x h. h)
    (λ x h. absurd h)

recall_dropped : (w : ℕ) (j : Joint) (d : DaemonState) (k : ℕ) (o : Option OpenRequest)
    → DaemonTells w j (daemon_call.DropRecall k) (Worker w ∷ []) (drop_recall d k o)
recall_dropped w j d k None = told_quiet w j _ _ (drop_recall d k None) (quiet (drop_recall d k None) refl tt refl refl refl)
recall_dropped w j d k (Some r) =
    told_daemon w j _ _ (drop_recall d k (Some r)) (record { component = refl; pays = tt; unmarked = refl }) (λ x h. h) (λ x h. absurd h)

pub daemon_told : (w : ℕ) (j : Joint) (d : DaemonState) (c : DaemonCall) → DaemonTells w j c (daemon_names d w c) (daemon_plan d c)
daemon_told w j d (daemon_call.BeginPut path asked now k) = put_begun w j d path asked now k (file_at d path)
daemon_told w j d (daemon_call.CopyStored k group now) = told_quiet w j _ _ _ (stored_quiet d group now.0 (fin.get d.requests k))
daemon_told w j d (daemon_call.EndPut k now) = put_ended w j d k now (fin.get d.requests k)
daemon_told w j d (daemon_call.Release path now) = told_quiet w j _ _ _ (release_quiet d path now.0 (file_at d path))
daemon_told w j d (daemon_call.BeginRecall path k) = recall_begun w j d path k (file_at d path)
daemon_told w j d (daemon_call.EndRecall k bytes now) = recall_ended w j d k bytes now (fin.get d.requests k)
daemon_told w j d (daemon_call.DropRecall k) = recall_dropped w j d k (fin.get d.requests k)
daemon_told w j d (daemon_call.Write path bytes now) = told_quiet w j _ _ _ (quiet (daemon_plan d (daemon_call.Write path bytes now)) refl tt refl refl refl)
daemon_told w j d (daemon_call.Patch path offset bytes now) = told_quiet w j _ _ _ (patch_quiet d path offset bytes now.0 (file_at d path))
daemon_told w j d (daemon_call.Remove path now) = told_quiet w j _ _ _ (remove_quiet d path now.0 (file_at d path))
daemon_told w j d (daemon_call.MakeDump name now) = told_quiet w j _ _ _ (quiet (daemon_plan d (daemon_call.MakeDump name now)) refl tt refl refl refl)
daemon_told w j d (daemon_call.Undump name now) = told_quiet w j _ _ _ (quiet (daemon_plan d (daemon_call.Undump name now)) refl tt refl refl refl)
daemon_told w j d (daemon_call.Restore name path target now) =
    told_quiet w j _ _ _ (restore_quiet d name path target now.0 (fin.get d.tables.dumps name))
daemon_told w j d (daemon_call.SetAge age now) = told_quiet w j _ _ _ (quiet (daemon_plan d (daemon_call.SetAge age now)) refl tt refl refl refl)
daemon_told w j d (daemon_call.HardDelete now) = told_quiet w j _ _ _ (hard_quiet d now.0 (taken_at d (time_at d now.0)))
daemon_told w j d (daemon_call.NextDropping after) = told_quiet w j _ _ _ (quiet (daemon_plan d (daemon_call.NextDropping after)) refl tt refl refl refl)
daemon_told w j d (daemon_call.Dropped b now) = told_quiet w j _ _ _ (dropped_quiet d b now.0 (fin.get d.tables.entries b.0))
daemon_told w j d (daemon_call.Attributes path) = told_quiet w j _ _ _ (attributes_quiet d path (file_at d path))
daemon_told w j d daemon_call.List = told_quiet w j _ _ _ (quiet (daemon_plan d daemon_call.List) refl tt refl refl refl)

-- ---- groups

heals_group : (g : GroupId) (heals : Bool) (c : Component) (rest : List Name) → c ≡ component.Group g
    → Within (healing_names heals c) (Side g part.Itself ∷ rest)
heals_group g true c rest is x h = ⊎_elim (λ s. inl (s ∙ ap component_name is)) (λ r. absurd r) h
heals_group g false c rest is x h = absurd h

pays_group : (g : GroupId) (q : Option Payload) (rest : List Name) → PaysOf g q → Within (payload_names q) (Side g part.Itself ∷ rest)
pays_group g None rest of x h = absurd h
pays_group g (Some (payload.Daemon r)) rest of x h = absurd of
pays_group g (Some (payload.Group i r)) rest of x h = ⊎_elim (λ s. inl (s ∙ ap (λ k. Side k part.Itself) of)) (λ r. absurd r) h

-- what a plan of a group spends, leaves and makes
pub record GroupTells (w : ℕ) (j : Joint) (g : GroupId) (names : List Name) (p : Plan) : Type 0 where
  pub ends : Within (ending_names w j p.ends) (Side g part.Itself ∷ names)
  pub marks : mark_names w p.mark ≡ []
  pub opens : Within (opening_names w p.opens) ((Side g part.Itself ∷ names) ++ made_by_group g p.answer)

pub told_group : (w : ℕ) (j : Joint) (g : GroupId) (names : List Name) (p : Plan) → PlanOf g p → GroupTells w j g names p
    → Told w j (Side g part.Itself ∷ names) (made_by_group g p.answer) p
told_group w j g names p of tells = record {
  ends = tells.ends;
  heals = heals_group g p.heals p.component names of.component;
  pays = pays_group g p.payload names of.pays;
  marks = λ x h. absurd (subst (λ l. In x l) tells.marks h);
  opens = tells.opens;
}

-- spends and makes nothing
still : (w : ℕ) (j : Joint) (g : GroupId) (names : List Name) (p : Plan) → p.ends ≡ ending.Nothing → mark_names w p.mark ≡ [] → p.opens ≡ opening.Nothing
    → GroupTells w j g names p
still w j g names p ends marks opens = record {
  ends = λ x h. absurd (subst (λ e. In x (ending_names w j e)) ends h);
  marks = marks;
  opens = λ x h. absurd (subst (λ o. In x (opening_names w o)) opens h);
}

-- spends
spending : (w : ℕ) (j : Joint) (g : GroupId) (names : List Name) (p : Plan) → Within (ending_names w j p.ends) (Side g part.Itself ∷ names)
    → mark_names w p.mark ≡ [] → p.opens ≡ opening.Nothing → GroupTells w j g names p
spending w j g names p ends marks opens = record {
  ends = ends;
  marks = marks;
  opens = λ x h. absurd (subst (λ o. In x (opening_names w o)) opens h);
}

-- makes
making : (w : ℕ) (j : Joint) (g : GroupId) (names : List Name) (p : Plan) → p.ends ≡ ending.Nothing → mark_names w p.mark ≡ []
    → Within (opening_names w p.opens) ((Side g part.Itself ∷ names) ++ made_by_group g p.answer) → GroupTells w j g names p
making w j g names p ends marks opens = record {
  ends = λ x h. absurd (subst (λ e. In x (ending_names w j e)) ends h);
  marks = marks;
  opens = opens;
}

-- a mount is made between its home and its owner
mount_made : (home owner m : Name) → Within (home ∷ m ∷ owner ∷ []) ((home ∷ owner ∷ []) ++ m ∷ [])
mount_made home owner m x (inl s) = inl s
mount_made home owner m x (inr (inl s)) = inr (inr (inl s))
mount_made home owner m x (inr (inr (inl s))) = inr (inl s)
mount_made home owner m x (inr (inr (inr r))) = absurd r

piece_mounted : (w : ℕ) (j : Joint) (g : GroupId) (x : Group) (r : Reserved) (k m : ℕ) (o : Option Piece)
    → GroupTells w j g (copy_name g r.bfid ∷ []) (mount_piece_of g x r k m o)
piece_mounted w j g x r k m None = still w j g _ (mount_piece_of g x r k m None) refl refl refl
piece_mounted w j g x r k m (Some p) =
    making w j g _ (mount_piece_of g x r k m (Some p)) refl refl (mount_made (Side g part.Itself) (copy_name g r.bfid) (mount_name g m))

piece_told : (w : ℕ) (j : Joint) (g : GroupId) (x : Group) (k m : ℕ) (o : Option Reserved)
    → GroupTells w j g (copy_of_reservation g o) (mount_piece g x k m o)
piece_told w j g x k m None = still w j g _ (mount_piece g x k m None) refl refl refl
piece_told w j g x k m (Some r) = piece_mounted w j g x r k m (piece_at k r.pieces)

chunk_mounted : (w : ℕ) (j : Joint) (g : GroupId) (x : Group) (b : Bfid) (m : ℕ) (o : Option Chunk)
    → GroupTells w j g (Worker w ∷ []) (mount_chunk_of g x b m o)
chunk_mounted w j g x b m None = still w j g _ (mount_chunk_of g x b m None) refl refl refl
chunk_mounted w j g x b m (Some c) =
    making w j g _ (mount_chunk_of g x b m (Some c)) refl refl (mount_made (Side g part.Itself) (Worker w) (mount_name g m))

either_tells : (w : ℕ) (j : Joint) (g : GroupId) (names : List Name) (q p : Plan) (end : Bool) → GroupTells w j g names q → GroupTells w j g names p
    → GroupTells w j g names (cond end q p)
either_tells w j g names q p true a b = a
either_tells w j g names q p false a b = b

chunk_told : (w : ℕ) (j : Joint) (g : GroupId) (x : Group) (b : Bfid) (offset m : ℕ) (o : Option BitfileRow)
    → GroupTells w j g (Worker w ∷ []) (mount_chunk g x b offset m o)
chunk_told w j g x b offset m None = chunk_mounted w j g x b m None
chunk_told w j g x b offset m (Some row) =
    either_tells w j g (Worker w ∷ []) _ _ (nat_eq offset row.len) (still w j g _ _ refl refl refl)
    (chunk_mounted w j g x b m (chunk_at offset row.chunks))

-- what the end of a mount speaks of
mount_spent : (w : ℕ) (j : Joint) (g : GroupId) (s : SideState) (m : ℕ) → fin.get j.sides g.0 ≡ Some s
    → Within (ending_names w j (ending.Mount g m)) (Side g part.Itself ∷ mount_and_owner w g s.mounts m)
mount_spent w j g s m there x h = subst (λ o. In x (Side g part.Itself ∷ mount_and_owner_in w g m o)) there h

unmount_told : (w : ℕ) (j : Joint) (g : GroupId) (s : SideState) (m : ℕ) (o : Option Mounted) → fin.get j.sides g.0 ≡ Some s
    → GroupTells w j g (mount_and_owner w g s.mounts m) (unmount g m o)
unmount_told w j g s m None there = still w j g _ (unmount g m None) refl refl refl
unmount_told w j g s m (Some x) there = spending w j g _ (unmount g m (Some x)) (mount_spent w j g s m there) refl refl

added_told : (w : ℕ) (j : Joint) (g : GroupId) (s : SideState) (m now : ℕ) (o : Option Mounted) → fin.get j.sides g.0 ≡ Some s
    → GroupTells w j g (mount_and_owner w g s.mounts m) (add_volume g s.group m now o)
added_told w j g s m now None there = still w j g _ (add_volume g s.group m now None) refl refl refl
added_told w j g s m now (Some x) there = spending w j g _ (add_volume g s.group m now (Some x)) (mount_spent w j g s m there) refl refl

reuse_told : (w : ℕ) (j : Joint) (g : GroupId) (s : SideState) (m now : ℕ) (o : Option Reusing) → fin.get j.sides g.0 ≡ Some s
    → GroupTells w j g (mount_and_owner w g s.mounts m) (reuse g s.group m now o)
reuse_told w j g s m now None there = still w j g _ (reuse g s.group m now None) refl refl refl
reuse_told w j g s m now (Some x) there = spending w j g _ (reuse g s.group m now (Some x)) (mount_spent w j g s m there) refl refl

commit_told : (w : ℕ) (j : Joint) (g : GroupId) (x : Group) (n : ℕ) (sums : List (List ℕ)) (now : ℕ) (o : Option Reserved)
    → GroupTells w j g (copy_of_reservation g o) (commit g x n sums now o)
commit_told w j g x n sums now None = still w j g _ (commit g x n sums now None) refl refl refl
commit_told w j g x n sums now (Some r) = spending w j g _ (commit g x n sums now (Some r)) (λ y h. h) refl refl

abort_told : (w : ℕ) (j : Joint) (g : GroupId) (n : ℕ) (o : Option Reserved) → GroupTells w j g (copy_of_reservation g o) (abort g n o)
abort_told w j g n None = still w j g _ (abort g n None) refl refl refl
abort_told w j g n (Some r) = spending w j g _ (abort g n (Some r)) (λ y h. h) refl refl

delete_told : (w : ℕ) (j : Joint) (g : GroupId) (names : List Name) (x : Group) (b : Bfid) (now : ℕ) (there : Bool)
    → GroupTells w j g names (delete_of g x b now there)
delete_told w j g names x b now true = still w j g names (delete_of g x b now true) refl refl refl
delete_told w j g names x b now false = still w j g names (delete_of g x b now false) refl refl refl

merge_to_told : (w : ℕ) (j : Joint) (g : GroupId) (x : Group) (merged : List Vsn) (l : LiveChunk) (job from to : ℕ) (o : Option Space)
    → GroupTells w j g (Worker w ∷ []) (merge_to g x merged l job from to o)
merge_to_told w j g x merged l job from to None = still w j g _ (merge_to g x merged l job from to None) refl refl refl
merge_to_told w j g x merged l job from to (Some s) =
    making w j g _ (merge_to g x merged l job from to (Some s)) refl refl
    (behind (Side g part.Itself) (Worker w) (mount_name g from ∷ mount_name g to ∷ []))

merge_first_told : (w : ℕ) (j : Joint) (g : GroupId) (x : Group) (merged : List Vsn) (job from to : ℕ) (o : Option LiveChunk)
    → GroupTells w j g (Worker w ∷ []) (merge_first g x merged job from to o)
merge_first_told w j g x merged job from to None = still w j g _ (merge_first g x merged job from to None) refl refl refl
merge_first_told w j g x merged job from to (Some l) =
    merge_to_told w j g x merged l job from to (destination_in (usage_of x) merged x.tables.volumes l.chunk.len)

merge_told : (w : ℕ) (j : Joint) (g : GroupId) (x : Group) (merged : List Vsn) (source : Vsn) (job from to : ℕ)
    → GroupTells w j g (Worker w ∷ []) (merge_next g x merged source job from to)
merge_told w j g x merged source job from to =
    let first = merge_first_told w j g x merged job from to (first_on x.tables.bitfiles source.0) in
    record { ends = first.ends; marks = first.marks; opens = first.opens }

done_told : (w : ℕ) (j : Joint) (g : GroupId) (x : Group) (job : ℕ) (sum : Option (List ℕ)) (now : ℕ) (o : Option Moving)
    → GroupTells w j g (Worker w ∷ mounts_of_move g o) (move_done g x job sum now o)
done_told w j g x job sum now None = still w j g _ (move_done g x job sum now None) refl refl refl
done_told w j g x job sum now (Some y) =
    spending w j g _ (move_done g x job sum now (Some y))
    (behind (Side g part.Itself) (Worker w) (mount_name g y.source ∷ mount_name g y.target ∷ [])) refl refl

drop_told : (w : ℕ) (j : Joint) (g : GroupId) (job : ℕ) (o : Option Moving) → GroupTells w j g (Worker w ∷ mounts_of_move g o) (drop_move g job o)
drop_told w j g job None = still w j g _ (drop_move g job None) refl refl refl
drop_told w j g job (Some y) =
    spending w j g _ (drop_move g job (Some y))
    (behind (Side g part.Itself) (Worker w) (mount_name g y.source ∷ mount_name g y.target ∷ [])) refl refl

freed_told : (w : ℕ) (j : Joint) (g : GroupId) (names : List Name) (x : Group) (vsn : Vsn) (now : ℕ) (freed : Bool)
    → GroupTells w j g names (free_of g x vsn now freed)
freed_told w j g names x vsn now true = still w j g names (free_of g x vsn now true) refl refl refl
freed_told w j g names x vsn now false = still w j g names (free_of g x vsn now false) refl refl refl

free_told : (w : ℕ) (j : Joint) (g : GroupId) (names : List Name) (x : Group) (vsn : Vsn) (now : ℕ) (o : Option VolumeRow)
    → GroupTells w j g names (free g x vsn now o)
free_told w j g names x vsn now None = still w j g names (free g x vsn now None) refl refl refl
free_told w j g names x vsn now (Some v) = freed_told w j g names x vsn now (is_freeable_in (usage_of x) x.tables vsn.0 v)

reused_told : (w : ℕ) (j : Joint) (g : GroupId) (x : Group) (m now : ℕ) (vsns : List Vsn) → GroupTells w j g (Worker w ∷ []) (reuse_first g x m now vsns)
reused_told w j g x m now [] = still w j g _ (reuse_first g x m now []) refl refl refl
reused_told w j g x m now (v ∷ vs) =
    making w j g _ (reuse_first g x m now (v ∷ vs)) refl refl (behind (Side g part.Itself) (Worker w) (mount_name g m ∷ []))

pub group_tells : (w : ℕ) (j : Joint) (g : GroupId) (s : SideState) (c : GroupCall) → fin.get j.sides g.0 ≡ Some s
    → GroupTells w j g (group_names w g s c) (group_plan g s.group c)
group_tells w j g s group_call.Missing there = still w j g _ (group_plan g s.group group_call.Missing) refl refl refl
group_tells w j g s (group_call.MountNew vsn m) there =
    making w j g _ (group_plan g s.group (group_call.MountNew vsn m)) refl refl (mount_made (Side g part.Itself) (Worker w) (mount_name g m))
group_tells w j g s (group_call.AddVolume m now) there = added_told w j g s m now.0 (fin.get s.group.mounts m) there
group_tells w j g s (group_call.Reserve b len n) there =
    making w j g _ (group_plan g s.group (group_call.Reserve b len n)) refl refl (λ x h. in_left x (Side g part.Itself ∷ copy_name g b ∷ []) (made_by_group g (group_plan g s.group (group_call.Reserve b len n)).answer) h)
group_tells w j g s (group_call.MountPiece n k m) there = piece_told w j g s.group k m (fin.get s.group.reservations n)
group_tells w j g s (group_call.MountChunk b offset m) there = chunk_told w j g s.group b offset m (fin.get s.group.tables.bitfiles b.0)
group_tells w j g s (group_call.Unmount m) there = unmount_told w j g s m (fin.get s.group.mounts m) there
group_tells w j g s (group_call.Commit n sums now) there = commit_told w j g s.group n sums now.0 (fin.get s.group.reservations n)
group_tells w j g s (group_call.Abort n) there = abort_told w j g n (fin.get s.group.reservations n)
group_tells w j g s (group_call.Delete b now) there = delete_told w j g _ s.group b now.0 (is_some (fin.get s.group.tables.bitfiles b.0))
group_tells w j g s group_call.MergeList there = still w j g _ (group_plan g s.group group_call.MergeList) refl refl refl
group_tells w j g s (group_call.MergeNext merged source job from to) there = merge_told w j g s.group merged source job from to
group_tells w j g s (group_call.MoveDone job sum now) there = done_told w j g s.group job sum now.0 (fin.get s.group.moves job)
group_tells w j g s (group_call.DropMove job) there = drop_told w j g job (fin.get s.group.moves job)
group_tells w j g s (group_call.Free vsn now) there = free_told w j g _ s.group vsn now.0 (fin.get s.group.tables.volumes vsn.0)
group_tells w j g s (group_call.ReuseNext m now) there =
    reused_told w j g s.group m now.0
    (reusable_in (usage_of s.group) (group_time s.group now.0) s.group.conf.hold s.group.conf.format s.group.tables.volumes)
group_tells w j g s (group_call.Reuse m now) there = reuse_told w j g s m now.0 (fin.get s.group.reuses m) there
group_tells w j g s group_call.Rows there = still w j g _ (group_plan g s.group group_call.Rows) refl refl refl
group_tells w j g s group_call.Volumes there = still w j g _ (group_plan g s.group group_call.Volumes) refl refl refl

-- ---- volumes

zone_told : (w : ℕ) (g : GroupId) (vsn : Vsn) (m place : ℕ) (zone : List ℕ) (epoch : ℕ) (made : Origin)
    → Within (mark_names w (zone_mark g vsn m place zone epoch made)) (Side g (part.Volume vsn) ∷ mount_name g m ∷ owner_of_origin w g made ∷ [])
zone_told w g vsn m place zone epoch (origin.New listed format) x h = absurd h
zone_told w g vsn m place zone epoch (origin.Piece b index p chunk) x h = ⊎_elim (λ s. inl s) (λ r. inr (inr r)) h
zone_told w g vsn m place zone epoch (origin.Chunk b c) x h = absurd h
zone_told w g vsn m place zone epoch (origin.Source job b c) x h = absurd h
zone_told w g vsn m place zone epoch (origin.Target job b total c version) x h =
    in_left x (Side g (part.Volume vsn) ∷ mount_name g m ∷ []) (Worker w ∷ []) h
zone_told w g vsn m place zone epoch (origin.Reuse next_epoch version reading) x h = absurd h

counted : (w : ℕ) (y : Mark) (b : Bool) (names : List Name) → Within (mark_names w y) names → Within (mark_names w (cond b y mark.Nothing)) names
counted w y true names within x h = within x h
counted w y false names within x h = absurd h

read_told : (w : ℕ) (g : GroupId) (vsn : Vsn) (m place n : ℕ) (bytes : List ℕ) (made : Origin)
    → Within (mark_names w (read_mark g m place n bytes made)) (Side g (part.Volume vsn) ∷ mount_name g m ∷ owner_of_origin w g made ∷ [])
read_told w g vsn m place n bytes (origin.New listed format) x h = absurd h
read_told w g vsn m place n bytes (origin.Piece b index p chunk) x h = absurd h
read_told w g vsn m place n bytes (origin.Chunk b c) x h =
    counted w (mark.Read g b c.offset bytes) (is_read_of c place n bytes) (Side g (part.Volume vsn) ∷ mount_name g m ∷ Worker w ∷ []) (λ y k. inr (inr k)) x h
read_told w g vsn m place n bytes (origin.Source job b c) x h =
    counted w (mark.Source g m bytes) (is_read_of c place n bytes) (Side g (part.Volume vsn) ∷ mount_name g m ∷ Worker w ∷ [])
    (λ y k. inr (alone y (mount_name g m) (Worker w ∷ []) k)) x h
read_told w g vsn m place n bytes (origin.Target job b total c version) x h = absurd h
read_told w g vsn m place n bytes (origin.Reuse next_epoch version reading) x h = absurd h

-- it only leaves a mark
told_marking : (w : ℕ) (j : Joint) (told made : List Name) (p : Plan) → p.ends ≡ ending.Nothing → p.heals ≡ false → p.payload ≡ None
    → Within (mark_names w p.mark) told → p.opens ≡ opening.Nothing → Told w j told made p
told_marking w j told made p ends heals pays marks opens = record {
  ends = λ x h. absurd (subst (λ e. In x (ending_names w j e)) ends h);
  heals = λ x h. absurd (subst (λ b. In x (healing_names b p.component)) heals h);
  pays = λ x h. absurd (subst (λ q. In x (payload_names q)) pays h);
  marks = marks;
  opens = λ x h. absurd (subst (λ o. In x (opening_names w o)) opens h);
}

mounted_told : (w : ℕ) (j : Joint) (g : GroupId) (vsn : Vsn) (image : Image) (y : MountState) (c : VolumeCall)
    → Told w j (Side g (part.Volume vsn) ∷ mount_name g (mount_in c) ∷ owner_of_origin w g y.origin ∷ []) [] (mounted_plan g vsn image y c)
mounted_told w j g vsn image y (volume_call.WriteZone m place zone) =
    told_marking w j _ [] (mounted_plan g vsn image y (volume_call.WriteZone m place zone)) refl refl refl
    (zone_told w g vsn m place zone y.epoch y.origin) refl
mounted_told w j g vsn image y (volume_call.ReadChunk m place n bytes) =
    told_marking w j _ [] (mounted_plan g vsn image y (volume_call.ReadChunk m place n bytes)) refl refl refl
    (read_told w g vsn m place n bytes y.origin) refl
mounted_told w j g vsn image y (volume_call.Relabel m epoch version) =
    told_marking w j _ [] (mounted_plan g vsn image y (volume_call.Relabel m epoch version)) refl refl refl
    (λ x h. in_left x (Side g (part.Volume vsn) ∷ mount_name g m ∷ []) (owner_of_origin w g y.origin ∷ []) h) refl

image_told : (w : ℕ) (j : Joint) (g : GroupId) (vsn : Vsn) (i : Option Image) (o : Option MountState) (c : VolumeCall)
    → Told w j (Side g (part.Volume vsn) ∷ mount_name g (mount_in c) ∷ owner_of w g o ∷ []) [] (volume_plan g vsn i o c)
image_told w j g vsn None o c = told_marking w j _ [] (volume_plan g vsn None o c) refl refl refl (λ x h. absurd h) refl
image_told w j g vsn (Some i) None c = told_marking w j _ [] (volume_plan g vsn (Some i) None c) refl refl refl (λ x h. absurd h) refl
image_told w j g vsn (Some i) (Some y) c = mounted_told w j g vsn i y c

volume_told : (w : ℕ) (j : Joint) (g : GroupId) (vsn : Vsn) (c : VolumeCall) (o : Option SideState)
    → Told w j (Side g (part.Volume vsn) ∷ mount_and_owner_in w g (mount_in c) o) [] (volume_plan_in g vsn c o)
volume_told w j g vsn c None = told_marking w j _ [] (volume_plan_in g vsn c None) refl refl refl (λ x h. absurd h) refl
volume_told w j g vsn c (Some s) = image_told w j g vsn (fin.get s.images vsn.0) (fin.get s.mounts (mount_in c)) c

-- ---- all calls

side_told : (w : ℕ) (j : Joint) (g : GroupId) (c : GroupCall) (o : Option SideState) → fin.get j.sides g.0 ≡ o
    → Told w j (Side g part.Itself ∷ group_names_in w g c o) (made_by_group g (side_plan g c o).answer) (side_plan g c o)
side_told w j g c None there = told_marking w j _ _ (side_plan g c None) refl refl refl (λ x h. absurd h) refl
side_told w j g c (Some s) there = told_group w j g _ (group_plan g s.group c) (group_plan-of g s.group c) (group_tells w j g s c there)

pub call_told : (w : ℕ) (j : Joint) (c : Call) → Told w j (home_of_call c ∷ names_of_call j w c) (made_by_call c (plan_of j c).answer) (plan_of j c)
call_told w j (call.Daemon c) = daemon_told w j j.daemon c
call_told w j (call.Group g c) = side_told w j g c (fin.get j.sides g.0) refl
call_told w j (call.Volume g vsn c) = volume_told w j g vsn c (fin.get j.sides g.0)
