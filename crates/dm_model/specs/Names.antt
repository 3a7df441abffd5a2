-- What an event is about.
--
-- A name is what has a state of its own: the daemon, a group's library server, a volume, a copy of a bitfile while its put
-- is open, a mount while it is open, and a worker. An event looks at the states of the names that it is about, and at what
-- is true for good, and changes no other. So threads that know the events of their own names alone agree on the whole.
--
-- Requests and reservations are no names: a worker carries its recalls, a copy its put and its reservation. Moves and
-- reuses are known to the library server, and what is done for one is carried by its mounts. A stop is no entry of a
-- history: with the next start another begins.
use Rattle.std.specs.Prelude.{ℕ, zero, suc, Bool, true, false, cond, ◌&&◌, ◌||◌, Option, None, Some, List, [], ◌∷◌, ◌++◌, filter, nat_eq}
use Rattle.std.specs.Prelude as prelude
use Rattle.std.specs.List.{flat_map, list_any}
use Rattle.std.specs.FinMap as map
use Rattle.dm_base.specs.declared.identifier.Bfid.{Bfid}
use Rattle.dm_base.specs.declared.identifier.GroupId.{GroupId}
use Rattle.dm_durable.specs.Tables.{ByNumber, same_text}
use Rattle.dm_model.specs.declared.answer.Answer.{Answer}
use Rattle.dm_model.specs.declared.answer.Answer.TheVariants as answer
use Rattle.dm_model.specs.declared.call.Call.{Call}
use Rattle.dm_model.specs.declared.call.Call.TheVariants as call
use Rattle.dm_model.specs.declared.call.Component.{Component}
use Rattle.dm_model.specs.declared.call.Component.TheVariants as component
use Rattle.dm_model.specs.declared.call.DaemonCall.{DaemonCall}
use Rattle.dm_model.specs.declared.call.DaemonCall.TheVariants as daemon_call
use Rattle.dm_model.specs.declared.call.Event.{Event}
use Rattle.dm_model.specs.declared.call.Event.TheVariants as event
use Rattle.dm_model.specs.declared.call.GroupCall.{GroupCall}
use Rattle.dm_model.specs.declared.call.GroupCall.TheVariants as group_call
use Rattle.dm_model.specs.declared.entry.HistoryEntry.{HistoryEntry}
use Rattle.dm_model.specs.declared.entry.Name.{Name}
use Rattle.dm_model.specs.declared.entry.Name.TheVariants.{Daemon, Worker, Side}
use Rattle.dm_model.specs.declared.entry.Part.{Part}
use Rattle.dm_model.specs.declared.entry.Part.TheVariants as part
use Rattle.dm_model.specs.declared.state.Daemon.{Daemon as DaemonState}
use Rattle.dm_model.specs.declared.state.Joint.{Joint}
use Rattle.dm_model.specs.declared.state.MountState.{MountState}
use Rattle.dm_model.specs.declared.state.Moving.{Moving}
use Rattle.dm_model.specs.declared.state.OpenRequest.{OpenRequest}
use Rattle.dm_model.specs.declared.state.Origin.{Origin}
use Rattle.dm_model.specs.declared.state.Origin.TheVariants as origin
use Rattle.dm_model.specs.declared.state.Reserved.{Reserved}
use Rattle.dm_model.specs.declared.state.Side.{Side as SideState}
use Rattle.dm_model.specs.Files.{asked_by, groups_of}
use Rattle.dm_model.specs.Step.{RunEntry}
use Rattle.dm_model.specs.VolumeCalls.{mount_in}

-- ---- names

abbrev pub copy_name : GroupId → Bfid → Name
copy_name g b = Side g (part.Copy b)

abbrev pub mount_name : GroupId → ℕ → Name
mount_name g m = Side g (part.Mount m)

abbrev pub same_part : Part → Part → Bool
same_part part.Itself part.Itself = true
same_part part.Itself (part.Volume w) = false
same_part part.Itself (part.Copy c) = false
same_part part.Itself (part.Mount n) = false
same_part (part.Volume v) part.Itself = false
same_part (part.Volume v) (part.Volume w) = same_text v.0 w.0
same_part (part.Volume v) (part.Copy c) = false
same_part (part.Volume v) (part.Mount n) = false
same_part (part.Copy b) part.Itself = false
same_part (part.Copy b) (part.Volume w) = false
same_part (part.Copy b) (part.Copy c) = nat_eq b.0 c.0
same_part (part.Copy b) (part.Mount n) = false
same_part (part.Mount m) part.Itself = false
same_part (part.Mount m) (part.Volume w) = false
same_part (part.Mount m) (part.Copy c) = false
same_part (part.Mount m) (part.Mount n) = nat_eq m n

abbrev pub same_name : Name → Name → Bool
same_name Daemon Daemon = true
same_name Daemon (Worker v) = false
same_name Daemon (Side h q) = false
same_name (Worker w) Daemon = false
same_name (Worker w) (Worker v) = nat_eq w v
same_name (Worker w) (Side h q) = false
same_name (Side g p) Daemon = false
same_name (Side g p) (Worker v) = false
same_name (Side g p) (Side h q) = nat_eq g.0 h.0 && same_part p q

abbrev pub is_copy : Name → Bool
is_copy Daemon = false
is_copy (Worker w) = false
is_copy (Side g part.Itself) = false
is_copy (Side g (part.Volume v)) = false
is_copy (Side g (part.Copy b)) = true
is_copy (Side g (part.Mount m)) = false

abbrev pub is_mount : Name → Bool
is_mount Daemon = false
is_mount (Worker w) = false
is_mount (Side g part.Itself) = false
is_mount (Side g (part.Volume v)) = false
is_mount (Side g (part.Copy b)) = false
is_mount (Side g (part.Mount m)) = true

-- the name whose events show whether this one was made
abbrev pub maker_of : Name → Name
maker_of Daemon = Daemon
maker_of (Worker w) = Worker w
maker_of (Side g part.Itself) = Side g part.Itself
maker_of (Side g (part.Volume v)) = Side g (part.Volume v)
maker_of (Side g (part.Copy b)) = Daemon
maker_of (Side g (part.Mount m)) = Side g part.Itself

-- ---- the name that an event is counted under

abbrev pub component_name : Component → Name
component_name component.Daemon = Daemon
component_name (component.Group g) = Side g part.Itself

abbrev pub home_of_call : Call → Name
home_of_call (call.Daemon c) = Daemon
home_of_call (call.Group g c) = Side g part.Itself
home_of_call (call.Volume g vsn c) = Side g (part.Volume vsn)

abbrev pub home_of : Event → Name
home_of (event.Call c) = home_of_call c
home_of (event.Fault c healed checkpointed) = home_of_call c
home_of (event.Landed c) = component_name c
home_of (event.Look c) = component_name c
home_of event.Stop = Daemon

-- ---- the names that an event is about beside its home

-- the copy that a put request is of, in this group
abbrev pub copy_of_request : GroupId → Option OpenRequest → List Name
copy_of_request g None = []
copy_of_request g (Some r) = copy_name g r.bfid ∷ []

-- the copies that a put request asked for
abbrev pub copies_of_request : DaemonState → Option OpenRequest → List Name
copies_of_request d None = []
copies_of_request d (Some r) =
    prelude.map (λ g. copy_name g r.bfid) (asked_by (map.get d.tables.entries r.bfid.0))

abbrev pub copy_of_reservation : GroupId → Option Reserved → List Name
copy_of_reservation g None = []
copy_of_reservation g (Some r) = copy_name g r.bfid ∷ []

-- whose a mount is: the copy's where it was made for a piece, and else the worker's
abbrev pub owner_of_origin : ℕ → GroupId → Origin → Name
owner_of_origin w g (origin.New listed format) = Worker w
owner_of_origin w g (origin.Piece b index piece chunk) = copy_name g b
owner_of_origin w g (origin.Chunk b chunk) = Worker w
owner_of_origin w g (origin.Source job b chunk) = Worker w
owner_of_origin w g (origin.Target job b total chunk version) = Worker w
owner_of_origin w g (origin.Reuse next_epoch version reading) = Worker w

abbrev pub owner_of : ℕ → GroupId → Option MountState → Name
owner_of w g None = Worker w
owner_of w g (Some x) = owner_of_origin w g x.origin

-- a mount and its owner
abbrev pub mount_and_owner : ℕ → GroupId → ByNumber MountState → ℕ → List Name
mount_and_owner w g mounts m = mount_name g m ∷ owner_of w g (map.get mounts m) ∷ []

abbrev pub mounts_of_move : GroupId → Option Moving → List Name
mounts_of_move g None = []
mounts_of_move g (Some x) = mount_name g x.source ∷ mount_name g x.target ∷ []

-- the steps of one copy are about that copy in place of the worker, whoever does them
abbrev pub daemon_names : DaemonState → ℕ → DaemonCall → List Name
daemon_names d w (daemon_call.BeginPut path asked now k) = Worker w ∷ []
daemon_names d w (daemon_call.CopyStored k group now) = copy_of_request group (map.get d.requests k)
daemon_names d w (daemon_call.EndPut k now) = Worker w ∷ copies_of_request d (map.get d.requests k)
daemon_names d w (daemon_call.Release path now) = Worker w ∷ []
daemon_names d w (daemon_call.BeginRecall path k) = Worker w ∷ []
daemon_names d w (daemon_call.EndRecall k bytes now) = Worker w ∷ []
daemon_names d w (daemon_call.DropRecall k) = Worker w ∷ []
daemon_names d w (daemon_call.Write path bytes now) = Worker w ∷ []
daemon_names d w (daemon_call.Patch path offset bytes now) = Worker w ∷ []
daemon_names d w (daemon_call.Remove path now) = Worker w ∷ []
daemon_names d w (daemon_call.MakeDump name now) = Worker w ∷ []
daemon_names d w (daemon_call.Undump name now) = Worker w ∷ []
daemon_names d w (daemon_call.Restore name path target now) = Worker w ∷ []
daemon_names d w (daemon_call.SetAge age now) = Worker w ∷ []
daemon_names d w (daemon_call.HardDelete now) = Worker w ∷ []
daemon_names d w (daemon_call.NextDropping after) = Worker w ∷ []
daemon_names d w (daemon_call.Dropped b now) = Worker w ∷ []
daemon_names d w (daemon_call.Attributes path) = Worker w ∷ []
daemon_names d w daemon_call.List = Worker w ∷ []

abbrev pub group_names : ℕ → GroupId → SideState → GroupCall → List Name
group_names w g s group_call.Missing = Worker w ∷ []
group_names w g s (group_call.MountNew vsn m) = Worker w ∷ []
group_names w g s (group_call.AddVolume m now) = mount_and_owner w g s.mounts m
group_names w g s (group_call.Reserve b len n) = copy_name g b ∷ []
group_names w g s (group_call.MountPiece n k m) = copy_of_reservation g (map.get s.group.reservations n)
group_names w g s (group_call.MountChunk b offset m) = Worker w ∷ []
group_names w g s (group_call.Unmount m) = mount_and_owner w g s.mounts m
group_names w g s (group_call.Commit n sums now) = copy_of_reservation g (map.get s.group.reservations n)
group_names w g s (group_call.Abort n) = copy_of_reservation g (map.get s.group.reservations n)
group_names w g s (group_call.Delete b now) = Worker w ∷ []
group_names w g s group_call.MergeList = Worker w ∷ []
group_names w g s (group_call.MergeNext merged source job from to) = Worker w ∷ []
group_names w g s (group_call.MoveDone job sum now) = Worker w ∷ mounts_of_move g (map.get s.group.moves job)
group_names w g s (group_call.DropMove job) = Worker w ∷ mounts_of_move g (map.get s.group.moves job)
group_names w g s (group_call.Free vsn now) = Worker w ∷ []
group_names w g s (group_call.ReuseNext m now) = Worker w ∷ []
group_names w g s (group_call.Reuse m now) = mount_and_owner w g s.mounts m
group_names w g s group_call.Rows = Worker w ∷ []
group_names w g s group_call.Volumes = Worker w ∷ []

abbrev pub group_names_in : ℕ → GroupId → GroupCall → Option SideState → List Name
group_names_in w g c None = Worker w ∷ []
group_names_in w g c (Some s) = group_names w g s c

abbrev pub mount_and_owner_in : ℕ → GroupId → ℕ → Option SideState → List Name
mount_and_owner_in w g m None = Worker w ∷ []
mount_and_owner_in w g m (Some s) = mount_and_owner w g s.mounts m

-- of a call, in the state before it
abbrev pub names_of_call : Joint → ℕ → Call → List Name
names_of_call j w (call.Daemon c) = daemon_names j.daemon w c
names_of_call j w (call.Group g c) = group_names_in w g c (map.get j.sides g.0)
names_of_call j w (call.Volume g vsn c) = mount_and_owner_in w g (mount_in c) (map.get j.sides g.0)

abbrev pub names_of : Joint → ℕ → Event → List Name
names_of j w (event.Call c) = names_of_call j w c
names_of j w (event.Fault c healed checkpointed) = names_of_call j w c
names_of j w (event.Landed c) = []
names_of j w (event.Look c) = Worker w ∷ []
names_of j w event.Stop = []

-- ---- the names that an event makes and ends

-- a put that begins makes the copies that it asks for
abbrev pub made_by_daemon : DaemonCall → Answer → List Name
made_by_daemon (daemon_call.BeginPut path asked now k) (answer.PutBegun n b bytes change) =
    prelude.map (λ g. copy_name g b) (groups_of asked)
made_by_daemon c a = []

abbrev pub made_by_group : GroupId → Answer → List Name
made_by_group g (answer.Mounted m vsn epoch) = mount_name g m ∷ []
made_by_group g (answer.AtChunk m epoch chunk) = mount_name g m ∷ []
made_by_group g (answer.MoveBegun job b total from to source source_epoch target target_epoch version) =
    mount_name g source ∷ mount_name g target ∷ []
made_by_group g (answer.ReuseBegun m vsn epoch next_epoch version) = mount_name g m ∷ []
made_by_group g a = []

abbrev pub made_by_call : Call → Answer → List Name
made_by_call (call.Daemon c) a = made_by_daemon c a
made_by_call (call.Group g c) a = made_by_group g a
made_by_call (call.Volume g vsn c) a = []

abbrev pub made_by : Event → Answer → List Name
made_by (event.Call c) a = made_by_call c a
made_by (event.Fault c healed checkpointed) a = []
made_by (event.Landed c) a = []
made_by (event.Look c) a = []
made_by event.Stop a = []

-- the end of a put ends its copies, in every answer
abbrev pub ended_by_daemon : DaemonCall → List Name → List Name
ended_by_daemon (daemon_call.EndPut k now) names = filter is_copy names
ended_by_daemon c names = []

-- these calls end the mounts that they are about, in every answer
abbrev pub ended_by_group : GroupCall → List Name → List Name
ended_by_group (group_call.AddVolume m now) names = filter is_mount names
ended_by_group (group_call.Unmount m) names = filter is_mount names
ended_by_group (group_call.MoveDone job sum now) names = filter is_mount names
ended_by_group (group_call.DropMove job) names = filter is_mount names
ended_by_group (group_call.Reuse m now) names = filter is_mount names
ended_by_group c names = []

abbrev pub ended_by_call : Call → List Name → List Name
ended_by_call (call.Daemon c) names = ended_by_daemon c names
ended_by_call (call.Group g c) names = ended_by_group c names
ended_by_call (call.Volume g vsn c) names = []

abbrev pub ended_by : Event → List Name → List Name
ended_by (event.Call c) names = ended_by_call c names
ended_by (event.Fault c healed checkpointed) names = ended_by_call c names
ended_by (event.Landed c) names = []
ended_by (event.Look c) names = []
ended_by event.Stop names = []

-- ---- entries

abbrev pub is_about : HistoryEntry → Name → Bool
is_about e x = same_name (home_of e.event) x || list_any (same_name x) e.names

-- an entry as one of a run
abbrev pub run_entry_of : HistoryEntry → RunEntry
run_entry_of e = record { worker = e.worker; event = e.event; answer = e.answer }

-- ---- the names that are there from the beginning

abbrev pub workers_below : ℕ → List Name
workers_below zero = []
workers_below (suc n) = workers_below n ++ Worker n ∷ []

abbrev pub side_names : ℕ → SideState → List Name
side_names g s =
    let id : GroupId = record { 0 = g } in
    Side id part.Itself ∷ prelude.map (λ e. Side id (part.Volume (record { 0 = e.0 }))) (map.entries s.images)

-- the daemon, so many workers, the groups and their volumes
abbrev pub fixed_names : Joint → ℕ → List Name
fixed_names j n = Daemon ∷ workers_below n ++ flat_map (λ e. side_names e.0 e.1) (map.entries j.sides)
