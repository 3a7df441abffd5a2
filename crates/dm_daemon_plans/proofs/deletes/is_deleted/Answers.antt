use Rattle.std.proofs.Common.{◌∙◌, ap}
use Rattle.std.specs.FinMap as map
use Rattle.std.specs.List.{list_all}
use Rattle.dm_model.specs.DaemonCalls.{deleted_in}
use Rattle.dm_daemon_plans.proofs.Lists.{all_mapped}
use Rattle.dm_daemon_plans.proofs.deletes.is_deleted.Goals as goal

pub returns : goal.returns
returns c =
    let groups = c.args.groups.now in
    let b = c.args.bfid.0 in
    c.are_deleted.ensures ∙ ap (list_all (λ x. deleted_in (map.get groups x.group.0) b)) c.as_slice.ensures
    ∙ all_mapped (λ g. deleted_in (map.get groups g.0) b) (λ x. x.group) c.args.entry.now.copies
