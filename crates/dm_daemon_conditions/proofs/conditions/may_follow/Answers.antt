use Rattle.std.proofs.Common.{◌≡◌, Bool, subst, sym, IsTrue}
use Rattle.std.specs.Prelude.{◌↔◌}
use Rattle.dm_durable.specs.DaemonConditions.{MayFollow}
use Rattle.dm_daemon_tables.specs.Tables.{state_of}
use Rattle.dm_daemon_conditions.proofs.Tested.{follows}
use Rattle.dm_daemon_conditions.proofs.conditions.may_follow.Goals as goal

pub returns : goal.returns
returns c =
    subst (λ (b : Bool). IsTrue b ↔ MayFollow (state_of c.args.tables.now) c.args.next.now) (sym c.may_come.ensures) (follows (state_of c.args.tables.now) c.args.next.now)
