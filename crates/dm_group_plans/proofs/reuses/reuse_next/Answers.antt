use Rattle.std.proofs.Common.{◌∙◌, arith}
use Rattle.dm_model.specs.Volumes.{usage_of}
use Rattle.dm_group_usage.proofs.Listed.{reusable_at}
use Rattle.dm_group_plans.proofs.reuses.reuse_next.Goals as goal

pub reuse_of-requires : goal.reuse_of-requires
reuse_of-requires c =
    let g = c.args.library.now in
    reusable_at (usage_of g) c.time_at.result.0 g.conf.hold g.conf.format g.tables.volumes c.as_slice.result.now _ (c.as_slice.ensures ∙ c.in_ok-vsns.ensures) (omega arith)
