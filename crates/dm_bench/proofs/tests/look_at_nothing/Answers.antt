use Rattle.std.proofs.Common.{sym, subst}
use Rattle.dm_model.specs.declared.call.Component.TheVariants as component
use Rattle.dm_model.specs.declared.state.Joint.{Joint}
use Rattle.dm_bench.specs.Looks.{IsConfigured}
use Rattle.dm_bench.specs.Systems.{loaded_by}
use Rattle.dm_bench.specs.declared.system.System.{System}
use Rattle.dm_bench.proofs.Looking.{group_there}
use Rattle.dm_bench.proofs.tests.look_at_nothing.Goals as goal

pub begin_both-requires-clause-configured : goal.begin_both-requires-clause-configured
begin_both-requires-clause-configured c =
    subst (λ (j : Joint). IsConfigured j (component.Group c.args.group.now.group)) (sym c.in-Ok.ensures.loaded)
    (group_there c.args.daemon.now c.args.group.now)

pub look_all-past-requires-clause-configured : goal.look_all-past-requires-clause-configured
look_all-past-requires-clause-configured c =
    subst (λ (s : System). IsConfigured (loaded_by s).state (component.Group c.args.group.now.group)) (sym c.in_ok-first.ensures.parts.0)
    (subst (λ (j : Joint). IsConfigured j (component.Group c.args.group.now.group)) (sym c.in-Ok.ensures.loaded)
    (group_there c.args.daemon.now c.args.group.now))
