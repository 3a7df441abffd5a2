-- What each call of the daemon comes to, and what it needs of others.
--
-- For each call there is its plan, made of the daemon alone, and below it what it needs of the worker, of the copies of
-- its bitfile, and of what is true for good. A definition takes what was looked up, and not the table: so it goes by cases.
-- Refusals stand in the order in which they are tried.
use Rattle.std.specs.Prelude.{ℕ, ◌+◌, ◌-◌, Bool, true, false, cond, not, ◌&&◌, Option, None, Some, is_some, List, [], ◌∷◌, length, take, drop, filter, nat_eq, nat_le, nat_lt, slice_get}
use Rattle.std.specs.Prelude as prelude
use Rattle.std.specs.List.{list_any, list_all}
use Rattle.std.specs.FinMap as map
use Rattle.dm_base.specs.declared.error.DaemonError.{DaemonError}
use Rattle.dm_base.specs.declared.error.DaemonError.TheVariants as error
use Rattle.dm_base.specs.declared.identifier.Bfid.{Bfid}
use Rattle.dm_base.specs.declared.identifier.GroupId.{GroupId}
use Rattle.dm_base.specs.declared.request.Dropping.{Dropping}
use Rattle.dm_base.specs.declared.request.PutEnd.TheVariants as end
use Rattle.dm_base.specs.Limits.{age_limit, dumps_limit, entries_limit, file_limit, files_limit, number_limit}
use Rattle.dm_durable.specs.declared.daemon.Contents.{Contents}
use Rattle.dm_durable.specs.declared.daemon.Contents.TheVariants as contents
use Rattle.dm_durable.specs.declared.daemon.DaemonStep.{DaemonStep}
use Rattle.dm_durable.specs.declared.daemon.DaemonStep.TheVariants as step
use Rattle.dm_durable.specs.declared.daemon.Dump.{Dump}
use Rattle.dm_durable.specs.declared.daemon.DumpInode.{DumpInode}
use Rattle.dm_durable.specs.declared.daemon.Entry.{Entry}
use Rattle.dm_durable.specs.declared.daemon.Inode.{Inode}
use Rattle.dm_durable.specs.Daemon.{bfid_of, size_of}
use Rattle.dm_durable.specs.Dumps.{dump_size, file_in, is_young, length_dumped, new_dump}
use Rattle.dm_durable.specs.Entries.{asks, groups_asked, has_stored, is_due, is_stored}
use Rattle.dm_durable.specs.Inodes.{bytes_online}
use Rattle.dm_durable.specs.Tables.{ByNumber, same_text}
use Rattle.dm_model.specs.declared.answer.Answer.{Answer}
use Rattle.dm_model.specs.declared.answer.Answer.TheVariants as answer
use Rattle.dm_model.specs.declared.call.Component.TheVariants as component
use Rattle.dm_model.specs.declared.call.DaemonCall.{DaemonCall}
use Rattle.dm_model.specs.declared.call.DaemonCall.TheVariants as call
use Rattle.dm_model.specs.declared.guard.Guard.TheVariants as guard
use Rattle.dm_model.specs.declared.plan.Ending.TheVariants as ending
use Rattle.dm_model.specs.declared.plan.Opening.TheVariants as opening
use Rattle.dm_model.specs.declared.plan.Payload.{Payload}
use Rattle.dm_model.specs.declared.plan.Payload.TheVariants as payload
use Rattle.dm_model.specs.declared.state.CopyState.{CopyState}
use Rattle.dm_model.specs.declared.state.Daemon.{Daemon}
use Rattle.dm_model.specs.declared.state.GroupHistory.{GroupHistory}
use Rattle.dm_model.specs.declared.state.History.{History}
use Rattle.dm_model.specs.declared.state.OpenRequest.{OpenRequest}
use Rattle.dm_model.specs.declared.state.Recall.{Recall}
use Rattle.dm_model.specs.declared.state.RequestKind.TheVariants as kind
use Rattle.dm_model.specs.declared.state.Side.{Side}
use Rattle.dm_model.specs.declared.state.Worker.{Worker}
use Rattle.dm_model.specs.Files.{File, all_rows, asked_by, file_at, groups_of, has_open_request, is_away, is_dual, is_put, is_recall, is_regular, length_at, places_of, row_of, state_of}
use Rattle.dm_model.specs.Guards.{Guarded}
use Rattle.dm_model.specs.Plan.{Plan, Needs, quiet_plan, healing_plan, no_needs}
use Rattle.dm_rules.specs.Patching.{with_patch}
use Rattle.dm_rules.specs.Numbers.{greater, as_word}
use Rattle.dm_tables.specs.Rows.{any}

-- ---- the forms that plans have

-- a call that heals and changes nothing
abbrev pub daemon_healing_plan : Answer → Plan
daemon_healing_plan a = healing_plan component.Daemon a

abbrev pub daemon_refusal : DaemonError → Answer
daemon_refusal e = answer.DaemonRefused e

-- a call that takes a request which isn't open
abbrev pub no_request : Plan
no_request = record (daemon_healing_plan answer.Failed) { own = (false, guard.Tokens) ∷ [] }

-- there is no file of that path
abbrev pub no_file : Plan
no_file = record (daemon_healing_plan answer.Failed) { refusals = (true, daemon_refusal error.NoFile) ∷ [] }

-- the daemon's time after a step whose command read the clock so
abbrev pub time_at : Daemon → ℕ → ℕ
time_at d now = greater now d.tables.time.0

-- a step journalled at that time
abbrev pub journal_payload : Daemon → ℕ → DaemonStep → Option Payload
journal_payload d now s = Some (payload.Daemon (record { time = record { 0 = time_at d now }; step = s }))

-- a call that journals a step and makes and spends nothing
abbrev pub step_plan : List (Bool × Answer) → Option Payload → Answer → Plan
step_plan refusals record_of a = record (daemon_healing_plan a) { refusals = refusals; payload = record_of }

-- the number of a request that is made was never used: it is the next, or a greater one
abbrev pub is_new_request : Daemon → ℕ → Guarded
is_new_request d k = (nat_le d.next_request k, guard.Tokens)

-- ---- refusals that several calls have

-- as many as there may be
abbrev pub too_many : ℕ → Answer
too_many limit = daemon_refusal (error.TooMany limit)

-- the change numbers are used up
abbrev pub changes_used : Daemon → Bool × Answer
changes_used d = (nat_le number_limit d.tables.change, too_many number_limit)

-- there is no place for a further name
abbrev pub names_used : Daemon → Bool × Answer
names_used d = (nat_le files_limit (map.len d.tables.names), too_many files_limit)

-- files and dumps have `have` bytes beside the `need` that the step wants, and together they would pass the cap
abbrev pub too_full : Daemon → ℕ → ℕ → Bool × Answer
too_full d have need = (nat_lt d.cap (have + need), daemon_refusal (error.Full (as_word have) (as_word need) d.cap))

-- the bytes of all files and dumps without those of this file
abbrev pub size_without : Daemon → Option File → ℕ
size_without d f = size_of d.tables - length_at f

-- the inode was changed or removed since the request began
abbrev pub changed_by : ℕ → Option ℕ → List (Bool × Answer)
changed_by was None = []
changed_by was (Some found) = (true, daemon_refusal (error.Changed was found)) ∷ []

abbrev pub changed_in : OpenRequest → List (Bool × Answer)
changed_in r = changed_by r.was r.found

-- ---- begin_put

-- the first of the two places is filled, and the groups differ
abbrev pub is_filled : Option GroupId → Bool
is_filled None = false
is_filled (Some g) = true

abbrev pub is_first_filled : List (Option GroupId) → Bool
is_first_filled [] = false
is_first_filled (g ∷ rest) = is_filled g

abbrev pub are_one_or_two : List GroupId → Bool
are_one_or_two [] = false
are_one_or_two (g ∷ []) = true
are_one_or_two (g ∷ h ∷ []) = not (nat_eq g.0 h.0)
are_one_or_two (g ∷ h ∷ i ∷ rest) = false

abbrev pub may_ask : List (Option GroupId) → Guarded
may_ask asked = (is_first_filled asked && are_one_or_two (groups_of asked), guard.AskedGroups)

-- no put of a file begins that is stored or being stored, nor where an entry or a counter more would be too many
abbrev pub put_refusals : Daemon → File → List (Bool × Answer)
put_refusals d f =
    let state = state_of d.requests f.number f.inode.contents in
    (not (is_regular state), daemon_refusal (error.WrongState state))
    ∷ (nat_le entries_limit (map.len d.tables.entries), too_many entries_limit)
    ∷ (nat_lt number_limit d.tables.counter, too_many number_limit)
    ∷ []

abbrev pub begin_put : Daemon → List ℕ → List (Option GroupId) → ℕ → ℕ → Option File → Plan
begin_put d path asked now k None = record no_file { own = may_ask asked ∷ [] }
begin_put d path asked now k (Some f) =
    let b : Bfid = record { 0 = bfid_of d.tables.site d.tables.counter } in
    let bytes = bytes_online f.inode.contents in
    let groups = groups_of asked in
    let request : OpenRequest =
    record { ino = record { 0 = f.number }; bfid = b; was = f.inode.change; found = None; kind = kind.Put } in
    record (daemon_healing_plan (answer.PutBegun k b bytes f.inode.change)) {
      own = may_ask asked ∷ [];
      making = is_new_request d k ∷ [];
      refusals = put_refusals d f;
      payload = journal_payload d now (step.BeginPut path b groups);
      opens = opening.Put k request (length bytes) groups;
    }

abbrev pub are_configured : ByNumber Side → List GroupId → Bool
are_configured sides groups = list_all (λ g. is_some (map.get sides g.0)) groups

-- which groups are configured never changes
abbrev pub begin_put_needs : ByNumber Side → List (Option GroupId) → Needs
begin_put_needs sides asked =
    record { token = []; lasting = (are_configured sides (groups_of asked), guard.AskedGroups) ∷ [] }

-- ---- copy_stored

-- the group is asked and hasn't stored
abbrev pub is_awaited : Option Entry → ℕ → Bool
is_awaited None g = false
is_awaited (Some e) g = asks e g && not (has_stored e g)

abbrev pub copy_stored : Daemon → GroupId → ℕ → Option OpenRequest → Plan
copy_stored d g now None = no_request
copy_stored d g now (Some r) =
    record (step_plan (changed_in r) (journal_payload d now (step.Stored r.bfid g)) answer.CopyStored) {
      own =
          (is_put r.kind, guard.CopyCommitted)
          ∷ (is_awaited (map.get d.tables.entries r.bfid.0) g.0, guard.CopyCommitted)
          ∷ [];
    }

abbrev pub committed_in : Option GroupHistory → ℕ → Bool
committed_in None b = false
committed_in (Some h) b = is_some (map.get h.committed b)

-- the group has committed the bitfile
abbrev pub copy_stored_needs : History → GroupId → Option OpenRequest → Needs
copy_stored_needs h g None = no_needs
copy_stored_needs h g (Some r) =
    record { token = []; lasting = (committed_in (map.get h.groups g.0) r.bfid.0, guard.CopyCommitted) ∷ [] }

-- ---- end_put

abbrev pub is_stored_if : Option Entry → Bool
is_stored_if None = false
is_stored_if (Some e) = is_stored e

abbrev pub end_put : Daemon → ℕ → ℕ → Option OpenRequest → Plan
end_put d k now None = no_request
end_put d k now (Some r) =
    let entry = map.get d.tables.entries r.bfid.0 in
    let dual = is_stored_if entry in
    let ended = answer.PutEnded (cond dual end.Dual end.Regular) in
    record (step_plan (changed_in r) (journal_payload d now (step.EndPut r.ino r.bfid dual)) ended) {
      own = (is_put r.kind, guard.NothingReserved) ∷ [];
      ends = ending.Put k r.bfid (asked_by entry);
    }

abbrev pub has_reservation : Option CopyState → Bool
has_reservation None = false
has_reservation (Some c) = is_some c.reservation

abbrev pub is_reserved : ByNumber Side → ℕ → Bool
is_reserved sides b = any (λ g s. has_reservation (map.get s.copies b)) sides

-- no reservation of the bitfile is open
abbrev pub end_put_needs : ByNumber Side → Option OpenRequest → Needs
end_put_needs sides None = no_needs
end_put_needs sides (Some r) =
    record { token = (not (is_reserved sides r.bfid.0), guard.NothingReserved) ∷ []; lasting = [] }

-- ---- release

abbrev pub release : Daemon → List ℕ → ℕ → Option File → Plan
release d path now None = no_file
release d path now (Some f) =
    let state = state_of d.requests f.number f.inode.contents in
    step_plan ((not (is_dual state), daemon_refusal (error.WrongState state)) ∷ [])
    (journal_payload d now (step.Release path))
    answer.Released

-- ---- begin_recall

-- a recall of a bitfile whose bytes are on volumes alone
abbrev pub recall_of_away : Daemon → ℕ → File → ℕ → Bfid → Plan
recall_of_away d k f len b =
    let asked = asked_by (map.get d.tables.entries b.0) in
    let request : OpenRequest =
    record { ino = record { 0 = f.number }; bfid = b; was = f.inode.change; found = None; kind = kind.Recall } in
    record (daemon_healing_plan (answer.RecallBegun k b len asked)) {
      making = is_new_request d k ∷ [];
      opens = opening.Recall k request (record { bfid = b; len = len; asked = asked; reads = map.empty });
    }

abbrev pub begin_recall_of : Daemon → ℕ → File → Contents → Plan
begin_recall_of d k f (contents.Regular bytes) = daemon_healing_plan (answer.Online bytes)
begin_recall_of d k f (contents.Making bytes b) = daemon_healing_plan (answer.Online bytes)
begin_recall_of d k f (contents.Dual bytes b) = daemon_healing_plan (answer.Online bytes)
begin_recall_of d k f (contents.Offline len b) = recall_of_away d k f len b

abbrev pub begin_recall : Daemon → ℕ → Option File → Plan
begin_recall d k None = no_file
begin_recall d k (Some f) = begin_recall_of d k f f.inode.contents

-- ---- end_recall, drop_recall

-- what the inode of a number holds; one that isn't there holds nothing
abbrev pub contents_of : Option Inode → Contents
contents_of None = contents.Regular []
contents_of (Some i) = i.contents

-- what the recall of an inode that holds this gives, and what it journals
abbrev pub bytes_taken : List ℕ → Contents → List ℕ
bytes_taken bytes (contents.Regular old) = old
bytes_taken bytes (contents.Making old b) = old
bytes_taken bytes (contents.Dual old b) = old
bytes_taken bytes (contents.Offline len b) = bytes

abbrev pub step_taken : Daemon → ℕ → ℕ → List ℕ → Contents → Option Payload
step_taken d now n bytes (contents.Regular old) = None
step_taken d now n bytes (contents.Making old b) = None
step_taken d now n bytes (contents.Dual old b) = None
step_taken d now n bytes (contents.Offline len b) = journal_payload d now (step.Taken (record { 0 = n }) bytes)

abbrev pub end_recall : Daemon → ℕ → List ℕ → ℕ → Option OpenRequest → Plan
end_recall d k bytes now None = no_request
end_recall d k bytes now (Some r) =
    let here = contents_of (map.get d.tables.inodes r.ino.0) in
    record (step_plan (changed_in r) (step_taken d now r.ino.0 bytes here) (answer.Recalled (bytes_taken bytes here))) {
      own = (is_recall r.kind, guard.RecallRead) ∷ [];
      ends = ending.Recall k;
    }

abbrev pub recall_in : Option Worker → ℕ → Option Recall
recall_in None k = None
recall_in (Some w) k = map.get w.recalls k

-- the parts, each at its offset, are the bytes from one place on, one behind another
abbrev pub joins : ℕ → List (ℕ × List ℕ) → List ℕ → Bool
joins at [] bytes = nat_eq (length bytes) 0
joins at (part ∷ rest) bytes =
    nat_eq part.0 at && same_text (take (length part.1) bytes) part.1
    && joins (at + length part.1) rest (drop (length part.1) bytes)

abbrev pub reads_or : Option (ByNumber (List ℕ)) → ByNumber (List ℕ)
reads_or None = map.empty
reads_or (Some reads) = reads

-- the bytes are the whole bitfile as the worker read it from one of the groups that were asked
abbrev pub was_read : Option Recall → List ℕ → Bool
was_read None bytes = false
was_read (Some r) bytes =
    nat_eq (length bytes) r.len && list_any (λ g. joins 0 (map.entries (reads_or (map.get r.reads g.0))) bytes) r.asked

abbrev pub end_recall_needs : Option Worker → ℕ → List ℕ → Needs
end_recall_needs w k bytes = record {
  token = (is_some (recall_in w k), guard.RecallRead) ∷ (was_read (recall_in w k) bytes, guard.RecallRead) ∷ [];
  lasting = [];
}

-- it looks at the request alone, uses no device and so leaves a step in doubt
abbrev pub drop_recall : Daemon → ℕ → Option OpenRequest → Plan
drop_recall d k None = record no_request { device = false; heals = false }
drop_recall d k (Some r) = record (quiet_plan component.Daemon answer.RecallDropped) {
  own = (is_recall r.kind, guard.RecallRead) ∷ [];
  ends = ending.Recall k;
}

abbrev pub drop_recall_needs : Option Worker → ℕ → Needs
drop_recall_needs w k = record { token = (is_some (recall_in w k), guard.RecallRead) ∷ []; lasting = [] }

-- ---- write, patch, remove

-- a file that isn't there needs a name
abbrev pub names_used_if : Daemon → Option File → Bool × Answer
names_used_if d None = names_used d
names_used_if d (Some f) = (false, too_many files_limit)

abbrev pub write : Daemon → List ℕ → List ℕ → ℕ → Option File → Plan
write d path bytes now f =
    let change = d.tables.change + 1 in
    step_plan
    ((nat_lt file_limit (length bytes), too_many file_limit)
    ∷ names_used_if d f
    ∷ changes_used d
    ∷ too_full d (size_without d f) (length bytes)
    ∷ [])
    (journal_payload d now (step.Write path change bytes))
    (answer.Changed change)

-- the range of a patch ends behind the longest file
abbrev pub is_patch_too_long : ℕ → List ℕ → Bool × Answer
is_patch_too_long offset bytes = (nat_lt file_limit (offset + length bytes), too_many file_limit)

-- what is journalled is the write of the whole bytes
abbrev pub patch : Daemon → List ℕ → ℕ → List ℕ → ℕ → Option File → Plan
patch d path offset bytes now None =
    record no_file { refusals = is_patch_too_long offset bytes ∷ (true, daemon_refusal error.NoFile) ∷ [] }
patch d path offset bytes now (Some f) =
    let state = state_of d.requests f.number f.inode.contents in
    let whole = with_patch offset bytes (bytes_online f.inode.contents) in
    let change = d.tables.change + 1 in
    step_plan
    (is_patch_too_long offset bytes
    ∷ (is_away state, daemon_refusal (error.WrongState state))
    ∷ changes_used d
    ∷ too_full d (size_without d (Some f)) (length whole)
    ∷ [])
    (journal_payload d now (step.Write path change whole))
    (answer.Changed change)

abbrev pub remove : Daemon → List ℕ → ℕ → Option File → Plan
remove d path now None = no_file
remove d path now (Some f) =
    let change = d.tables.change + 1 in
    step_plan (changes_used d ∷ []) (journal_payload d now (step.Remove path change)) (answer.Changed change)

-- ---- dumps

abbrev pub make_dump : Daemon → List ℕ → ℕ → Plan
make_dump d name now =
    let dump = new_dump (time_at d now) d.tables.age d.tables.names d.tables.inodes in
    step_plan
    ((is_some (map.get d.tables.dumps name), daemon_refusal error.Exists)
    ∷ (nat_le dumps_limit (map.len d.tables.dumps), too_many dumps_limit)
    ∷ too_full d (size_of d.tables) (dump_size dump)
    ∷ [])
    (journal_payload d now (step.Dump name))
    (answer.DumpMade (map.len dump.files))

abbrev pub undump : Daemon → List ℕ → ℕ → Plan
undump d name now =
    step_plan ((not (is_some (map.get d.tables.dumps name)), daemon_refusal error.NoDump) ∷ [])
    (journal_payload d now (step.Undump name))
    answer.Undumped

-- there is no dump of that name, or it has no file of that path
abbrev pub restore_nothing : DaemonError → Plan
restore_nothing e = record (daemon_healing_plan answer.Failed) { refusals = (true, daemon_refusal e) ∷ [] }

-- the dump isn't young at the time of the step
abbrev pub is_expired : ℕ → Dump → Bool × Answer
is_expired now dump = (not (is_young now dump), daemon_refusal (error.Expired (record { 0 = now }) dump.made dump.least))

abbrev pub restore_file : Daemon → List ℕ → List ℕ → List ℕ → ℕ → Dump → Option DumpInode → Plan
restore_file d name path target now dump None = restore_nothing error.NoFile
restore_file d name path target now dump (Some file) =
    let change = d.tables.change + 1 in
    step_plan
    (is_expired (time_at d now) dump
    ∷ (is_some (map.get d.tables.names target), daemon_refusal error.Exists)
    ∷ names_used d
    ∷ changes_used d
    ∷ too_full d (size_of d.tables) (length_dumped file)
    ∷ [])
    (journal_payload d now (step.Restore name path target change))
    (answer.Changed change)

abbrev pub restore : Daemon → List ℕ → List ℕ → List ℕ → ℕ → Option Dump → Plan
restore d name path target now None = restore_nothing error.NoDump
restore d name path target now (Some dump) =
    restore_file d name path target now dump (file_in (Some dump) path)

-- ---- ages and hard deletes

abbrev pub set_age : Daemon → ℕ → ℕ → Plan
set_age d age now =
    step_plan ((nat_lt age_limit age, too_many age_limit) ∷ []) (journal_payload d now (step.Age age)) answer.AgeSet

-- whether a hard delete at this time takes the entry
abbrev pub is_taken_at : Daemon → ℕ → ℕ → Entry → Bool
is_taken_at d now b e = is_due now d.tables.age e && not (has_open_request d.requests b)

-- the bitfiles whose entries it takes, by identifier
abbrev pub taken_at : Daemon → ℕ → List Bfid
taken_at d now =
    prelude.map (λ e. record { 0 = e.0 }) (filter (λ e. is_taken_at d now e.0 e.1) (map.entries d.tables.entries))

abbrev pub hard_delete_of : Daemon → ℕ → List Bfid → Plan
hard_delete_of d now [] = daemon_healing_plan (answer.HardDeleted 0)
hard_delete_of d now (b ∷ bs) =
    step_plan [] (journal_payload d now (step.HardDelete (b ∷ bs))) (answer.HardDeleted (length (b ∷ bs)))

abbrev pub hard_delete : Daemon → ℕ → Plan
hard_delete d now = hard_delete_of d now (taken_at d (time_at d now))

abbrev pub is_behind : Option Bfid → ℕ → Bool
is_behind None b = true
is_behind (Some after) b = nat_lt after.0 b

abbrev pub dropping_of : ℕ → Entry → Dropping
dropping_of b e = record { bfid = record { 0 = b }; asked = places_of (groups_asked e) }

-- the entries behind that one whose copies are being deleted, by identifier
abbrev pub dropping_behind : ByNumber Entry → Option Bfid → List Dropping
dropping_behind entries after =
    prelude.map (λ e. dropping_of e.0 e.1) (filter (λ e. is_behind after e.0 && e.1.dropping) (map.entries entries))

-- it uses no device, and so leaves a step in doubt
abbrev pub next_dropping : Daemon → Option Bfid → Plan
next_dropping d after =
    quiet_plan component.Daemon (answer.NextDropping (slice_get (dropping_behind d.tables.entries after) 0))

abbrev pub dropped : Daemon → Bfid → ℕ → Option Entry → Plan
dropped d b now None = daemon_healing_plan (answer.Dropped false)
dropped d b now (Some e) =
    record (step_plan [] (journal_payload d now (step.Dropped b)) (answer.Dropped true)) {
      own = (e.dropping, guard.CopiesDeleted) ∷ [];
    }

abbrev pub deleted_in : Option GroupHistory → ℕ → Bool
deleted_in None b = false
deleted_in (Some h) b = is_some (map.get h.deleted b)

-- each group that was asked was told to delete the bitfile
abbrev pub dropped_needs : History → Bfid → Option Entry → Needs
dropped_needs h b None = no_needs
dropped_needs h b (Some e) = record {
  token = [];
  lasting = (list_all (λ g. deleted_in (map.get h.groups g.0) b.0) (groups_asked e), guard.CopiesDeleted) ∷ [];
}

-- ---- what the daemon tells

abbrev pub attributes : Daemon → List ℕ → Option File → Plan
attributes d path None = no_file
attributes d path (Some f) = daemon_healing_plan (answer.File (row_of d.requests path f))

-- ---- all calls

abbrev pub daemon_plan : Daemon → DaemonCall → Plan
daemon_plan d (call.BeginPut path asked now k) = begin_put d path asked now.0 k (file_at d path)
daemon_plan d (call.CopyStored k group now) = copy_stored d group now.0 (map.get d.requests k)
daemon_plan d (call.EndPut k now) = end_put d k now.0 (map.get d.requests k)
daemon_plan d (call.Release path now) = release d path now.0 (file_at d path)
daemon_plan d (call.BeginRecall path k) = begin_recall d k (file_at d path)
daemon_plan d (call.EndRecall k bytes now) = end_recall d k bytes now.0 (map.get d.requests k)
daemon_plan d (call.DropRecall k) = drop_recall d k (map.get d.requests k)
daemon_plan d (call.Write path bytes now) = write d path bytes now.0 (file_at d path)
daemon_plan d (call.Patch path offset bytes now) = patch d path offset bytes now.0 (file_at d path)
daemon_plan d (call.Remove path now) = remove d path now.0 (file_at d path)
daemon_plan d (call.MakeDump name now) = make_dump d name now.0
daemon_plan d (call.Undump name now) = undump d name now.0
daemon_plan d (call.Restore name path target now) = restore d name path target now.0 (map.get d.tables.dumps name)
daemon_plan d (call.SetAge age now) = set_age d age now.0
daemon_plan d (call.HardDelete now) = hard_delete d now.0
daemon_plan d (call.NextDropping after) = next_dropping d after
daemon_plan d (call.Dropped b now) = dropped d b now.0 (map.get d.tables.entries b.0)
daemon_plan d (call.Attributes path) = attributes d path (file_at d path)
daemon_plan d call.List = daemon_healing_plan (answer.Files (all_rows d))

-- the worker is the one that calls, if anything is known of it
abbrev pub daemon_needs : ByNumber Side → Option Worker → History → Daemon → DaemonCall → Needs
daemon_needs sides w h d (call.BeginPut path asked now k) = begin_put_needs sides asked
daemon_needs sides w h d (call.CopyStored k group now) = copy_stored_needs h group (map.get d.requests k)
daemon_needs sides w h d (call.EndPut k now) = end_put_needs sides (map.get d.requests k)
daemon_needs sides w h d (call.Release path now) = no_needs
daemon_needs sides w h d (call.BeginRecall path k) = no_needs
daemon_needs sides w h d (call.EndRecall k bytes now) = end_recall_needs w k bytes
daemon_needs sides w h d (call.DropRecall k) = drop_recall_needs w k
daemon_needs sides w h d (call.Write path bytes now) = no_needs
daemon_needs sides w h d (call.Patch path offset bytes now) = no_needs
daemon_needs sides w h d (call.Remove path now) = no_needs
daemon_needs sides w h d (call.MakeDump name now) = no_needs
daemon_needs sides w h d (call.Undump name now) = no_needs
daemon_needs sides w h d (call.Restore name path target now) = no_needs
daemon_needs sides w h d (call.SetAge age now) = no_needs
daemon_needs sides w h d (call.HardDelete now) = no_needs
daemon_needs sides w h d (call.NextDropping after) = no_needs
daemon_needs sides w h d (call.Dropped b now) = dropped_needs h b (map.get d.tables.entries b.0)
daemon_needs sides w h d (call.Attributes path) = no_needs
daemon_needs sides w h d call.List = no_needs
