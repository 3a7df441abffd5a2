-- Each legal event keeps the invariant, and so does each run from an opened state, where reads tell their bytes apart by sums.
use Rattle.std.proofs.Common.{◌≡◌, List, [], ◌∷◌}
use Rattle.dm_model.specs.declared.call.Call.TheVariants as call
use Rattle.dm_model.specs.declared.call.Component.TheVariants as component
use Rattle.dm_model.specs.declared.call.Event.TheVariants as event
use Rattle.dm_model.specs.declared.state.Joint.{Joint}
use Rattle.dm_model.specs.Project.{plain_run, run_steps}
use Rattle.dm_model.specs.Step.{RunEntry, Run, state_after, step}
use Rattle.dm_invariant.specs.Kept.{InvariantHolds}
use Rattle.dm_invariant.specs.Opened.{Opened}
use Rattle.dm_invariant.specs.StandsFor.{plain_of, shown_namespace}
use Rattle.dm_effects.proofs.DaemonEvents.{event_keeps as of_daemon}
use Rattle.dm_group_effects.specs.OnVolume.{ReadTellsApart, ReadsTellApart}
use Rattle.dm_group_effects.proofs.GroupEvents.{event_keeps as of_group}
use Rattle.dm_group_effects.proofs.VolumeEvents.{volume_event_keeps as on_volume}
use Rattle.dm_shown.specs.Along.{KeptAlong}
use Rattle.dm_shown.proofs.RunsShown.{plain_is_shown, run_plain}
use Rattle.dm_stops.proofs.OpenedKept.{opened_kept}
use Rattle.dm_stops.proofs.StopKept.{stopped_keeps}
use Rattle.dm_runs.proofs.Runs.{Along, EachKeeps, kept_along, run_keeps}

-- an event of whatever kind
pub event_keeps : EachKeeps ReadTellsApart InvariantHolds
event_keeps j k w (event.Call (call.Daemon c)) a apart kept is = of_daemon j kept w k a (event.Call (call.Daemon c)) tt is
event_keeps j k w (event.Call (call.Group g c)) a apart kept is = of_group j kept w k a (event.Call (call.Group g c)) tt is
event_keeps j k w (event.Call (call.Volume g vsn c)) a apart kept is = on_volume j kept w k a (event.Call (call.Volume g vsn c)) tt apart is
event_keeps j k w (event.Fault (call.Daemon c) healed checkpointed) a apart kept is =
    of_daemon j kept w k a (event.Fault (call.Daemon c) healed checkpointed) tt is
event_keeps j k w (event.Fault (call.Group g c) healed checkpointed) a apart kept is =
    of_group j kept w k a (event.Fault (call.Group g c) healed checkpointed) tt is
event_keeps j k w (event.Fault (call.Volume g vsn c) healed checkpointed) a apart kept is =
    on_volume j kept w k a (event.Fault (call.Volume g vsn c) healed checkpointed) tt apart is
event_keeps j k w (event.Landed component.Daemon) a apart kept is = of_daemon j kept w k a (event.Landed component.Daemon) tt is
event_keeps j k w (event.Landed (component.Group g)) a apart kept is = of_group j kept w k a (event.Landed (component.Group g)) tt is
event_keeps j k w (event.Look c) a apart kept is = of_daemon j kept w k a (event.Look c) tt is
event_keeps j k w event.Stop a apart kept is = stopped_keeps j k w a kept is

-- ---- runs

apart_along : (j : Joint) (entries : List RunEntry) → ReadsTellApart j entries → Along ReadTellsApart j entries
apart_along j [] apart = tt
apart_along j (e ∷ es) apart = (apart.0, apart_along (state_after j (step j e.worker e.event)) es apart.1)

pub run_kept : (j : Joint) (entries : List RunEntry) (k : Joint) → Opened j → ReadsTellApart j entries → Run j entries k → InvariantHolds k
run_kept j entries k opened apart run =
    run_keeps ReadTellsApart InvariantHolds event_keeps j entries k (apart_along j entries apart) (opened_kept j opened) run

pub run_kept_along : (j : Joint) (entries : List RunEntry) (k : Joint) → Opened j → ReadsTellApart j entries → Run j entries k → KeptAlong j entries
run_kept_along j entries k opened apart run =
    kept_along ReadTellsApart event_keeps j entries k (apart_along j entries apart) (opened_kept j opened) run

-- a run goes along with the plain namespace
pub run_shows : (j : Joint) (entries : List RunEntry) (k : Joint) → Opened j → ReadsTellApart j entries → Run j entries k
    → plain_of k ≡ shown_namespace (plain_run (run_steps j entries) (plain_of j))
run_shows j entries k opened apart run =
    run_plain j entries k (plain_of j) (run_kept_along j entries k opened apart run) run (plain_is_shown j (opened_kept j opened))
