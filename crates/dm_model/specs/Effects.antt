-- What the parts of a plan do to the whole state.
--
-- Each is a record of what it does to the daemon, to the groups that it is about, to the worker who called, and to the
-- history. The shares of the daemon and of a group are what the components themselves do.
use Rattle.std.specs.Prelude.{ℕ, Bool, cond, Option, None, Some, List, [], ◌∷◌, nat_eq}
use Rattle.std.specs.FinMap as map
use Rattle.dm_base.specs.declared.identifier.Bfid.{Bfid}
use Rattle.dm_base.specs.declared.identifier.GroupId.{GroupId}
use Rattle.dm_durable.specs.declared.daemon.DaemonStep.{DaemonStep}
use Rattle.dm_durable.specs.declared.daemon.DaemonStep.TheVariants as step
use Rattle.dm_durable.specs.declared.group.GroupStep.{GroupStep}
use Rattle.dm_durable.specs.declared.group.GroupStep.TheVariants as group_step
use Rattle.dm_durable.specs.Inodes.{bytes_online}
use Rattle.dm_durable.specs.Tables.{ByNumber}
use Rattle.dm_model.specs.declared.call.Component.{Component}
use Rattle.dm_model.specs.declared.call.Component.TheVariants as component
use Rattle.dm_model.specs.declared.plan.Ending.{Ending}
use Rattle.dm_model.specs.declared.plan.Ending.TheVariants as ending
use Rattle.dm_model.specs.declared.plan.Mark.{Mark}
use Rattle.dm_model.specs.declared.plan.Mark.TheVariants as mark
use Rattle.dm_model.specs.declared.plan.Opening.{Opening}
use Rattle.dm_model.specs.declared.plan.Opening.TheVariants as opening
use Rattle.dm_model.specs.declared.plan.Payload.{Payload}
use Rattle.dm_model.specs.declared.plan.Payload.TheVariants as payload
use Rattle.dm_model.specs.declared.state.Daemon.{Daemon}
use Rattle.dm_model.specs.declared.state.GroupHistory.{GroupHistory}
use Rattle.dm_model.specs.declared.state.History.{History}
use Rattle.dm_model.specs.declared.state.Joint.{Joint}
use Rattle.dm_model.specs.declared.state.Recall.{Recall}
use Rattle.dm_model.specs.declared.state.Side.{Side}
use Rattle.dm_model.specs.declared.state.Worker.{Worker}
use Rattle.dm_model.specs.DaemonCalls.{reads_or}
use Rattle.dm_model.specs.DaemonShare.{daemon_after_ending, daemon_after_opening, daemon_after_payload, daemon_doubting, daemon_without_doubt}
use Rattle.dm_model.specs.Files.{File, file_at}
use Rattle.dm_model.specs.SideShare.{side_after_ending, side_after_failed_mark, side_after_mark, side_after_opening, side_after_payload, side_doubting, side_without_doubt}
use Rattle.dm_tables.specs.Rows.{adjust, map_values}

-- ---- several groups, and a worker

-- the sides of these groups are changed
abbrev pub at_each : (Side → Side) → List GroupId → ByNumber Side → ByNumber Side
at_each f [] sides = sides
at_each f (g ∷ gs) sides = at_each f gs (adjust sides g.0 f)

-- the worker's state; one of which nothing is known has no open recall
abbrev pub worker_or : Option Worker → Worker
worker_or None = record { recalls = map.empty }
worker_or (Some w) = w

abbrev pub without_recall : ℕ → Worker → Worker
without_recall k w = record w { recalls = map.remove w.recalls k }

abbrev pub with_recall : ℕ → Recall → Worker → Worker
with_recall k r w = record w { recalls = map.insert w.recalls k r }

-- ---- ENDINGS: what is spent

-- the groups that an ending is about
abbrev pub groups_of_ending : Ending → List GroupId
groups_of_ending ending.Nothing = []
groups_of_ending (ending.Put k b groups) = groups
groups_of_ending (ending.Recall k) = []
groups_of_ending (ending.Reservation g n b) = g ∷ []
groups_of_ending (ending.Mount g m) = g ∷ []
groups_of_ending (ending.Move g job source target) = g ∷ []

abbrev pub workers_after_ending : ℕ → Ending → ByNumber Worker → ByNumber Worker
workers_after_ending w ending.Nothing workers = workers
workers_after_ending w (ending.Put k b groups) workers = workers
workers_after_ending w (ending.Recall k) workers = adjust workers w (without_recall k)
workers_after_ending w (ending.Reservation g n b) workers = workers
workers_after_ending w (ending.Mount g m) workers = workers
workers_after_ending w (ending.Move g job source target) workers = workers

abbrev pub after_ending : ℕ → Ending → Joint → Joint
after_ending w e j = record {
  daemon = daemon_after_ending e j.daemon;
  sides = at_each (side_after_ending e) (groups_of_ending e) j.sides;
  workers = workers_after_ending w e j.workers;
  history = j.history;
}

-- ---- DOUBTS: steps of which it isn't known whether they are in the journal

-- the group that a component is
abbrev pub groups_of_component : Component → List GroupId
groups_of_component component.Daemon = []
groups_of_component (component.Group g) = g ∷ []

-- a call that heals leaves no doubt
abbrev pub after_healing : Bool → Component → Joint → Joint
after_healing heals c j = record j {
  daemon = daemon_without_doubt heals c j.daemon;
  sides = at_each (side_without_doubt heals) (cond heals (groups_of_component c) []) j.sides;
}

abbrev pub groups_of_payload : Option Payload → List GroupId
groups_of_payload None = []
groups_of_payload (Some (payload.Daemon r)) = []
groups_of_payload (Some (payload.Group g r)) = g ∷ []

-- the payload may be in the journal; where there is none an older doubt stays
abbrev pub joint_with_doubt : Option Payload → Joint → Joint
joint_with_doubt p j = record j {
  daemon = daemon_doubting p j.daemon;
  sides = at_each (side_doubting p) (groups_of_payload p) j.sides;
}

-- ---- PAYLOADS: what is journalled

-- the bytes of a bitfile are those of the file as its put begins
abbrev pub contents_with : ℕ → Option File → ByNumber (List ℕ) → ByNumber (List ℕ)
contents_with b None contents = contents
contents_with b (Some f) contents = map.insert contents b (bytes_online f.inode.contents)

abbrev pub with_taken : List Bfid → ByNumber (Unit {0}) → ByNumber (Unit {0})
with_taken [] taken = taken
with_taken (b ∷ bs) taken = with_taken bs (map.insert taken b.0 tt)

-- the history after a step of the daemon, which looks at its files before the step
abbrev pub history_after_step : Daemon → DaemonStep → History → History
history_after_step d (step.BeginPut path b groups) h =
    record h { contents = contents_with b.0 (file_at d path) h.contents }
history_after_step d (step.HardDelete bfids) h = record h { taken = with_taken bfids h.taken }
history_after_step d (step.Write path change bytes) h = h
history_after_step d (step.Remove path change) h = h
history_after_step d (step.Stored b group) h = h
history_after_step d (step.EndPut n b dual) h = h
history_after_step d (step.Release path) h = h
history_after_step d (step.Taken n bytes) h = h
history_after_step d (step.Dump name) h = h
history_after_step d (step.Undump name) h = h
history_after_step d (step.Restore name path target change) h = h
history_after_step d (step.Dropped b) h = h
history_after_step d step.Restart h = h
history_after_step d (step.Age age) h = h

-- what a group has done; one of which nothing is known has done nothing
abbrev pub group_history_or : Option GroupHistory → GroupHistory
group_history_or None = record { committed = map.empty; deleted = map.empty }
group_history_or (Some h) = h

abbrev pub at_group_history : ℕ → (GroupHistory → GroupHistory) → History → History
at_group_history g f h = record h { groups = map.insert h.groups g (f (group_history_or (map.get h.groups g))) }

abbrev pub with_committed : ℕ → GroupHistory → GroupHistory
with_committed b h = record h { committed = map.insert h.committed b tt }

abbrev pub with_deleted : ℕ → GroupHistory → GroupHistory
with_deleted b h = record h { deleted = map.insert h.deleted b tt }

abbrev pub history_after_group_step : ℕ → GroupStep → History → History
history_after_group_step g (group_step.Commit b len chunks) h = at_group_history g (with_committed b.0) h
history_after_group_step g (group_step.Volume vsn slot version size) h = h
history_after_group_step g (group_step.Delete b) h = h
history_after_group_step g (group_step.Move b from to) h = h
history_after_group_step g (group_step.Free vsn) h = h
history_after_group_step g (group_step.Reuse vsn epoch version) h = h

abbrev pub history_after_payload : Daemon → Option Payload → History → History
history_after_payload d None h = h
history_after_payload d (Some (payload.Daemon r)) h = history_after_step d r.step h
history_after_payload d (Some (payload.Group g r)) h = history_after_group_step g.0 r.step h

abbrev pub after_payload : Option Payload → Joint → Joint
after_payload p j = record {
  daemon = daemon_after_payload p j.daemon;
  sides = at_each (side_after_payload p) (groups_of_payload p) j.sides;
  workers = j.workers;
  history = history_after_payload j.daemon p j.history;
}

-- ---- MARKS: what is left on a volume, of the work on it, and of the past

abbrev pub groups_of_mark : Mark → List GroupId
groups_of_mark mark.Nothing = []
groups_of_mark (mark.Zone g vsn place zone b index epoch) = g ∷ []
groups_of_mark (mark.Target g vsn m place zone) = g ∷ []
groups_of_mark (mark.Label g vsn m epoch version text) = g ∷ []
groups_of_mark (mark.Read g b offset bytes) = []
groups_of_mark (mark.Source g m bytes) = g ∷ []
groups_of_mark (mark.Deleted g b) = []

-- the reads of a group, with one more, which replaces an earlier one at its offset
abbrev pub with_read : ℕ → ℕ → List ℕ → Recall → Recall
with_read g offset bytes r =
    record r { reads = map.insert r.reads g (map.insert (reads_or (map.get r.reads g)) offset bytes) }

-- each open recall of the bitfile has the read
abbrev pub with_read_of : ℕ → ℕ → ℕ → List ℕ → Recall → Recall
with_read_of b g offset bytes r = cond (nat_eq r.bfid.0 b) (with_read g offset bytes r) r

abbrev pub worker_with_read : ℕ → ℕ → ℕ → List ℕ → Worker → Worker
worker_with_read b g offset bytes w = record w { recalls = map_values (λ k. with_read_of b g offset bytes) w.recalls }

abbrev pub workers_after_mark : ℕ → Mark → ByNumber Worker → ByNumber Worker
workers_after_mark w mark.Nothing workers = workers
workers_after_mark w (mark.Zone g vsn place zone b index epoch) workers = workers
workers_after_mark w (mark.Target g vsn m place zone) workers = workers
workers_after_mark w (mark.Label g vsn m epoch version text) workers = workers
workers_after_mark w (mark.Read g b offset bytes) workers = adjust workers w (worker_with_read b.0 g.0 offset bytes)
workers_after_mark w (mark.Source g m bytes) workers = workers
workers_after_mark w (mark.Deleted g b) workers = workers

abbrev pub history_after_mark : Mark → History → History
history_after_mark mark.Nothing h = h
history_after_mark (mark.Zone g vsn place zone b index epoch) h = h
history_after_mark (mark.Target g vsn m place zone) h = h
history_after_mark (mark.Label g vsn m epoch version text) h = h
history_after_mark (mark.Read g b offset bytes) h = h
history_after_mark (mark.Source g m bytes) h = h
history_after_mark (mark.Deleted g b) h = at_group_history g.0 (with_deleted b.0) h

abbrev pub after_mark : ℕ → Mark → Joint → Joint
after_mark w x j = record {
  daemon = j.daemon;
  sides = at_each (side_after_mark x) (groups_of_mark x) j.sides;
  workers = workers_after_mark w x j.workers;
  history = history_after_mark x j.history;
}

-- of what a call that failed would have written nothing is known
abbrev pub after_failed_mark : Mark → Joint → Joint
after_failed_mark x j = record j { sides = at_each (side_after_failed_mark x) (groups_of_mark x) j.sides }

-- ---- OPENINGS: what is made

abbrev pub groups_of_opening : Opening → List GroupId
groups_of_opening opening.Nothing = []
groups_of_opening (opening.Put k r len groups) = groups
groups_of_opening (opening.Recall k r recall) = []
groups_of_opening (opening.Reservation g n r) = g ∷ []
groups_of_opening (opening.Mount g m vsn epoch made) = g ∷ []
groups_of_opening (opening.Move g job moving source_epoch target_epoch) = g ∷ []
groups_of_opening (opening.Reuse g m epoch reusing reading) = g ∷ []

abbrev pub workers_after_opening : ℕ → Opening → ByNumber Worker → ByNumber Worker
workers_after_opening w opening.Nothing workers = workers
workers_after_opening w (opening.Put k r len groups) workers = workers
workers_after_opening w (opening.Recall k r recall) workers =
    map.insert workers w (with_recall k recall (worker_or (map.get workers w)))
workers_after_opening w (opening.Reservation g n r) workers = workers
workers_after_opening w (opening.Mount g m vsn epoch made) workers = workers
workers_after_opening w (opening.Move g job moving source_epoch target_epoch) workers = workers
workers_after_opening w (opening.Reuse g m epoch reusing reading) workers = workers

abbrev pub after_opening : ℕ → Opening → Joint → Joint
after_opening w o j = record {
  daemon = daemon_after_opening o j.daemon;
  sides = at_each (side_after_opening o) (groups_of_opening o) j.sides;
  workers = workers_after_opening w o j.workers;
  history = j.history;
}
