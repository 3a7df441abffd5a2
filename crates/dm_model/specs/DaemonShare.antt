-- What the parts of a plan do to the daemon alone.
--
-- This is all that the daemon itself does: the effects on the whole state (`Effects`) are written by it, so what the
-- machine makes of the daemon is, by computation, what its component does. A plan's parts may be of a group, and then
-- leave the daemon as it is.
use Rattle.std.specs.Prelude.{ℕ, ◌+◌, Bool, cond, Option, None, Some, nat_eq}
use Rattle.std.specs.FinMap as map
use Rattle.dm_base.specs.declared.identifier.Ino.{Ino}
use Rattle.dm_durable.specs.declared.daemon.DaemonRecord.{DaemonRecord}
use Rattle.dm_durable.specs.declared.daemon.DaemonStep.{DaemonStep}
use Rattle.dm_durable.specs.declared.daemon.DaemonStep.TheVariants as step
use Rattle.dm_durable.specs.Daemon.{after_record, after_stop}
use Rattle.dm_durable.specs.Tables.{ByNumber}
use Rattle.dm_model.specs.declared.call.Component.{Component}
use Rattle.dm_model.specs.declared.call.Component.TheVariants as component
use Rattle.dm_model.specs.declared.plan.Ending.{Ending}
use Rattle.dm_model.specs.declared.plan.Ending.TheVariants as ending
use Rattle.dm_model.specs.declared.plan.Opening.{Opening}
use Rattle.dm_model.specs.declared.plan.Opening.TheVariants as opening
use Rattle.dm_model.specs.declared.plan.Payload.{Payload}
use Rattle.dm_model.specs.declared.plan.Payload.TheVariants as payload
use Rattle.dm_model.specs.declared.plan.Prepared.{Prepared}
use Rattle.dm_model.specs.declared.state.Daemon.{Daemon}
use Rattle.dm_model.specs.declared.state.OpenRequest.{OpenRequest}
use Rattle.dm_tables.specs.Rows.{map_values}

-- ---- what is spent

abbrev pub without_request : ℕ → Daemon → Daemon
without_request k d = record d { requests = map.remove d.requests k }

abbrev pub daemon_after_ending : Ending → Daemon → Daemon
daemon_after_ending ending.Nothing d = d
daemon_after_ending (ending.Put k b groups) d = without_request k d
daemon_after_ending (ending.Recall k) d = without_request k d
daemon_after_ending (ending.Reservation g n b) d = d
daemon_after_ending (ending.Mount g m) d = d
daemon_after_ending (ending.Move g job source target) d = d

-- ---- what is journalled

-- a request on an inode that was changed or removed keeps the number of the change, of several the last
abbrev pub with_change : ℕ → ℕ → OpenRequest → OpenRequest
with_change n change r = record r { found = cond (nat_eq r.ino.0 n) (Some change) r.found }

abbrev pub with_change_on : ByNumber OpenRequest → ℕ → Option Ino → ByNumber OpenRequest
with_change_on requests change None = requests
with_change_on requests change (Some n) = map_values (λ k. with_change n.0 change) requests

-- the requests after a step
abbrev pub requests_after_step : Daemon → DaemonStep → ByNumber OpenRequest
requests_after_step d (step.Write path change bytes) = with_change_on d.requests change (map.get d.tables.names path)
requests_after_step d (step.Remove path change) = with_change_on d.requests change (map.get d.tables.names path)
requests_after_step d (step.BeginPut path b groups) = d.requests
requests_after_step d (step.Stored b group) = d.requests
requests_after_step d (step.EndPut n b dual) = d.requests
requests_after_step d (step.Release path) = d.requests
requests_after_step d (step.Taken n bytes) = d.requests
requests_after_step d (step.Dump name) = d.requests
requests_after_step d (step.Undump name) = d.requests
requests_after_step d (step.Restore name path target change) = d.requests
requests_after_step d (step.HardDelete bfids) = d.requests
requests_after_step d (step.Dropped b) = d.requests
requests_after_step d step.Restart = d.requests
requests_after_step d (step.Age age) = d.requests

abbrev pub daemon_after_record : DaemonRecord → Daemon → Daemon
daemon_after_record r d =
    record d { tables = after_record d.tables r; requests = requests_after_step d r.step }

abbrev pub daemon_after_payload : Option Payload → Daemon → Daemon
daemon_after_payload None d = d
daemon_after_payload (Some (payload.Daemon r)) d = daemon_after_record r d
daemon_after_payload (Some (payload.Group g r)) d = d

-- ---- what is in doubt

abbrev pub daemon_with_doubt : Option DaemonRecord → Daemon → Daemon
daemon_with_doubt doubt d = record d { doubt = doubt }

-- a call that heals leaves no doubt
abbrev pub daemon_without_doubt : Bool → Component → Daemon → Daemon
daemon_without_doubt heals component.Daemon d = cond heals (daemon_with_doubt None d) d
daemon_without_doubt heals (component.Group g) d = d

-- the payload may be in the journal; where there is none an older doubt stays
abbrev pub daemon_doubting : Option Payload → Daemon → Daemon
daemon_doubting None d = d
daemon_doubting (Some (payload.Daemon r)) d = daemon_with_doubt (Some r) d
daemon_doubting (Some (payload.Group g r)) d = d

-- ---- what is made

abbrev pub with_request : ℕ → OpenRequest → Daemon → Daemon
with_request k r d = record d { requests = map.insert d.requests k r; next_request = k + 1 }

abbrev pub daemon_after_opening : Opening → Daemon → Daemon
daemon_after_opening opening.Nothing d = d
daemon_after_opening (opening.Put k r len groups) d = with_request k r d
daemon_after_opening (opening.Recall k r recall) d = with_request k r d
daemon_after_opening (opening.Reservation g n r) d = d
daemon_after_opening (opening.Mount g m vsn epoch made) d = d
daemon_after_opening (opening.Move g job moving source_epoch target_epoch) d = d
daemon_after_opening (opening.Reuse g m epoch reusing reading) d = d

-- ---- whole events

-- the daemon after a call: what it spends goes, and a step in doubt, if it heals; its step is journalled, and its
-- request is made
abbrev pub daemon_after_call : Prepared → Daemon → Daemon
daemon_after_call p d =
    daemon_after_opening p.opens
    (daemon_after_payload p.payload (daemon_without_doubt p.heals p.component (daemon_after_ending p.ends d)))

-- the daemon after a call that failed: `far` says that it had come past its heal and its checkpoint
abbrev pub daemon_after_fault : Prepared → Bool → Daemon → Daemon
daemon_after_fault p far d = daemon_doubting (cond far p.payload None) (daemon_after_ending p.ends d)

-- the step in doubt, if there is one, landed or did not, and isn't in doubt any more
abbrev pub daemon_settled : Bool → Option DaemonRecord → Daemon → Daemon
daemon_settled landed None d = daemon_with_doubt None d
daemon_settled landed (Some r) d =
    cond landed (daemon_after_record r (daemon_with_doubt None d)) (daemon_with_doubt None d)

abbrev pub daemon_after_heal : Bool → Daemon → Daemon
daemon_after_heal landed d = daemon_settled landed d.doubt d

-- what the end of the program, and then a beginning, leaves: each put that had not ended is over
abbrev pub daemon_after_stop : Daemon → Daemon
daemon_after_stop d =
    record d { tables = after_stop d.tables; requests = map.empty; next_request = 0; doubt = None }
