-- What a run does to the plain namespace.
--
-- An accepted call gives the time that it journals and then the plain step of its name, which is made of the call's own
-- arguments: so a machine that journalled something else would not agree with the namespace. Of a step in doubt that
-- lands no arguments are known any more, and it gives what the record says; a patch is journalled as the write of the
-- whole bytes and lands as one. All other steps of the daemon that are journalled or land give the time alone; and what a
-- group or a volume does, a look and a stop give nothing.
use Rattle.std.specs.Prelude.{Option, None, Some, List, [], ◌∷◌, ◌++◌}
use Rattle.dm_durable.specs.declared.daemon.DaemonRecord.{DaemonRecord}
use Rattle.dm_durable.specs.declared.daemon.DaemonStep.{DaemonStep}
use Rattle.dm_durable.specs.declared.daemon.DaemonStep.TheVariants as step
use Rattle.dm_model.specs.declared.call.Call.TheVariants as call
use Rattle.dm_model.specs.declared.call.Component.TheVariants as component
use Rattle.dm_model.specs.declared.call.DaemonCall.{DaemonCall}
use Rattle.dm_model.specs.declared.call.DaemonCall.TheVariants as daemon_call
use Rattle.dm_model.specs.declared.call.Event.{Event}
use Rattle.dm_model.specs.declared.call.Event.TheVariants as event
use Rattle.dm_model.specs.declared.plan.Payload.{Payload}
use Rattle.dm_model.specs.declared.plan.Payload.TheVariants as payload
use Rattle.dm_model.specs.declared.state.Joint.{Joint}
use Rattle.dm_model.specs.DaemonCalls.{daemon_plan}
use Rattle.dm_model.specs.Plan.{prepared_plan}
use Rattle.dm_model.specs.Step as machine
use Rattle.dm_model.specs.Step.{RunEntry, state_after}
use Rattle.dm_plain.specs.declared.step.PlainStep.{PlainStep}
use Rattle.dm_plain.specs.declared.step.PlainStep.TheVariants as plain
use Rattle.dm_plain.specs.Namespace.{Namespace}
use Rattle.dm_plain.specs.Steps.{namespace_after}

-- the plain step of a call, by its arguments
abbrev pub steps_of_call : DaemonCall → List PlainStep
steps_of_call (daemon_call.Write path bytes now) = plain.Write path bytes ∷ []
steps_of_call (daemon_call.Patch path offset bytes now) = plain.Patch path offset bytes ∷ []
steps_of_call (daemon_call.Remove path now) = plain.Remove path ∷ []
steps_of_call (daemon_call.MakeDump name now) = plain.Dump name ∷ []
steps_of_call (daemon_call.Undump name now) = plain.Undump name ∷ []
steps_of_call (daemon_call.Restore name path target now) = plain.Restore name path target ∷ []
steps_of_call (daemon_call.SetAge age now) = plain.Age age ∷ []
steps_of_call (daemon_call.BeginPut path asked now k) = []
steps_of_call (daemon_call.CopyStored k group now) = []
steps_of_call (daemon_call.EndPut k now) = []
steps_of_call (daemon_call.Release path now) = []
steps_of_call (daemon_call.BeginRecall path k) = []
steps_of_call (daemon_call.EndRecall k bytes now) = []
steps_of_call (daemon_call.DropRecall k) = []
steps_of_call (daemon_call.HardDelete now) = []
steps_of_call (daemon_call.NextDropping namespace_after) = []
steps_of_call (daemon_call.Dropped b now) = []
steps_of_call (daemon_call.Attributes path) = []
steps_of_call daemon_call.List = []

-- the plain step of a record that lands
abbrev pub steps_of_step : DaemonStep → List PlainStep
steps_of_step (step.Write path change bytes) = plain.Write path bytes ∷ []
steps_of_step (step.Remove path change) = plain.Remove path ∷ []
steps_of_step (step.Dump name) = plain.Dump name ∷ []
steps_of_step (step.Undump name) = plain.Undump name ∷ []
steps_of_step (step.Restore name path target change) = plain.Restore name path target ∷ []
steps_of_step (step.Age age) = plain.Age age ∷ []
steps_of_step (step.BeginPut path b groups) = []
steps_of_step (step.Stored b group) = []
steps_of_step (step.EndPut n b dual) = []
steps_of_step (step.Release path) = []
steps_of_step (step.Taken n bytes) = []
steps_of_step (step.HardDelete bfids) = []
steps_of_step (step.Dropped b) = []
steps_of_step step.Restart = []

-- what a call journals says that it was accepted, and when
abbrev pub steps_at : Option Payload → List PlainStep → List PlainStep
steps_at None steps = []
steps_at (Some (payload.Daemon r)) steps = plain.Time r.time ∷ steps
steps_at (Some (payload.Group g r)) steps = []

-- those of a step in doubt that lands
abbrev pub steps_of_record : DaemonRecord → List PlainStep
steps_of_record r = plain.Time r.time ∷ steps_of_step r.step

abbrev pub steps_of_doubt : Option DaemonRecord → List PlainStep
steps_of_doubt None = []
steps_of_doubt (Some r) = steps_of_record r

-- the plain steps of a legal event, in the state before it
abbrev pub event_steps : Joint → Event → List PlainStep
event_steps j (event.Call (call.Daemon c)) = steps_at (prepared_plan (daemon_plan j.daemon c)).payload (steps_of_call c)
event_steps j (event.Call (call.Group g c)) = []
event_steps j (event.Call (call.Volume g vsn c)) = []
event_steps j (event.Fault c healed checkpointed) = []
event_steps j (event.Landed component.Daemon) = steps_of_doubt j.daemon.doubt
event_steps j (event.Landed (component.Group g)) = []
event_steps j (event.Look c) = []
event_steps j event.Stop = []

-- those of a run, in order
abbrev pub run_steps : Joint → List RunEntry → List PlainStep
run_steps j [] = []
run_steps j (e ∷ es) = event_steps j e.event ++ run_steps (state_after j (machine.step j e.worker e.event)) es

-- the namespace after steps
abbrev pub plain_run : List PlainStep → Namespace → Namespace
plain_run [] ns = ns
plain_run (s ∷ ss) ns = plain_run ss (namespace_after s ns)
