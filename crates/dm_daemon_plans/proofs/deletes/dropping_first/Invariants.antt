use Rattle.std.proofs.Common.{◌≡◌, ◌&&◌, slice_get}
use Rattle.dm_model.specs.DaemonCalls.{dropping_behind, dropping_of, is_behind}
use Rattle.dm_daemon_plans.proofs.Lists.{first_picked}
use Rattle.dm_daemon_plans.proofs.deletes.dropping_first.Given as goal

abbrev pub invariant-loop-number : goal.invariant-loop-number
invariant-loop-number l = first_picked (λ e. dropping_of e.0 e.1) (λ e. is_behind l.after e.0 && e.1.dropping) l.number-iterator ≡ slice_get (dropping_behind l.entries l.after) 0
