use Rattle.std.proofs.Common.{sym, subst, List, [], ◌∷◌}
use Rattle.dm_base.specs.declared.conf.GroupConf.{GroupConf}
use Rattle.toml.specs.View.{table_view}
use Rattle.dm_config.specs.Groups.{AreGroups}
use Rattle.dm_config.proofs.Reading.{misses_top, misses_groups, misses_space, misses_known, all_met, of_parts}
use Rattle.dm_config.proofs.read.read_parts.Goals as goal

pub returns-in-Err-clause-err : goal.returns-in-Err-clause-err
returns-in-Err-clause-err c = misses_top (table_view c.args.table.now) c.in-Err.key c.in-Err.ensures.err

pub returns-in-Err-read_groups-clause-err : goal.returns-in-Err-read_groups-clause-err
returns-in-Err-read_groups-clause-err c =
    misses_groups (table_view c.args.table.now) (table_view c.args.groups.now) c.in-Err-read_groups.error c.requires.groups c.in-Ok.ensures.met c.in-Err-read_groups.ensures.err

pub returns-in-Err-read_space-clause-err : goal.returns-in-Err-read_space-clause-err
returns-in-Err-read_space-clause-err c =
    misses_space (table_view c.args.table.now) (table_view c.args.groups.now) (table_view c.args.space.now) c.in-Ok.top.daemon.cap c.in-Err-read_space.key
    c.requires.groups c.requires.space c.in-Ok.ensures.ok.cap c.in-Ok.ensures.met c.in-Ok-read_groups.ensures.met c.in-Err-read_space.ensures.err

pub returns-then-not-is_known-clause-err : goal.returns-then-not-is_known-clause-err
returns-then-not-is_known-clause-err c =
    misses_known (table_view c.args.table.now) (table_view c.args.groups.now) (table_view c.args.space.now) c.in-Ok.top.daemon.cap
    c.requires.groups c.requires.space c.in-Ok.ensures.ok.cap c.in-Ok.ensures.met c.in-Ok-read_groups.ensures.met c.in-Ok-read_space.ensures.met
    (sym c.if-not-is_known.ensures)

pub returns-clause-ok : goal.returns-clause-ok
returns-clause-ok c =
    let P : List GroupConf → Type 0 = λ cs. AreGroups (table_view c.args.groups.now) (1 ∷ 2 ∷ 3 ∷ 4 ∷ []) [] cs in
    of_parts (table_view c.args.table.now) (table_view c.args.groups.now) (table_view c.args.space.now) c.in-Ok.top c.from_vec.result c.in-Ok-read_space.space
    c.requires.groups c.requires.space c.in-Ok.ensures.ok (subst P (sym c.from_vec.ensures) c.in-Ok-read_groups.ensures.ok) c.in-Ok-read_space.ensures.ok

pub returns-clause-met : goal.returns-clause-met
returns-clause-met c =
    all_met (table_view c.args.table.now) (table_view c.args.groups.now) (table_view c.args.space.now) c.in-Ok.top.daemon.cap
    c.requires.groups c.requires.space c.in-Ok.ensures.ok.cap c.in-Ok.ensures.met c.in-Ok-read_groups.ensures.met c.in-Ok-read_space.ensures.met
    (sym c.if-not-is_known.ensures)
