use Rattle.std.proofs.Common.{◌++◌, ◌+◌, ◌-◌, subst, List}
use Rattle.std.proofs.lemmas.Result.{IfErr-weaker, on_ok_weaker}
use Rattle.dm_base.specs.declared.serial.Vsn.{Vsn}
use Rattle.dm_base.specs.declared.identifier.GroupId.{GroupId}
use Rattle.toml.specs.View.{table_view}
use Rattle.dm_config.specs.Misses.{Misses}
use Rattle.dm_config.specs.Rows.{counted, group_in, rows_of_groups, rows_of_number, volumes_of_number}
use Rattle.dm_config.proofs.Rows.{misses_here, misses_later}
use Rattle.dm_config.proofs.Growing.{counted_on, grows_on, taken_after}
use Rattle.dm_config.proofs.groups.+read_from.Goals as goal

pub returns-in-Err-clause-err : goal.returns-in-Err-clause-err
returns-in-Err-clause-err t c =
    let n = c.args.number in
    let groups = table_view c.args.groups.now in
    let taken = c.args.taken.now.items in
    let group : GroupId = record { 0 = n } in
    let rest = rows_of_groups groups (taken ++ volumes_of_number (group_in groups n) taken) (counted (5 - (n + 1)) (n + 1)) in
    rw (counted_on n c.if-number-gt-GROUPS_LIMIT.false) (misses_here (rows_of_number (group_in groups n) group taken) rest c.in-Err.error c.in-Err.ensures.err)

pub returns-in-Ok-clause-ok : goal.returns-in-Ok-clause-ok
returns-in-Ok-clause-ok t c =
    rw (counted_on c.args.number c.if-number-gt-GROUPS_LIMIT.false)
    (on_ok_weaker c.read_from.result (λ s. grows_on c.in-Ok.ensures.ok s) c.read_from.ensures.ok)

pub returns-in-Ok-clause-err : goal.returns-in-Ok-clause-err
returns-in-Ok-clause-err t c =
    let n = c.args.number in
    let groups = table_view c.args.groups.now in
    let taken = c.args.taken.now.items in
    let group : GroupId = record { 0 = n } in
    let numbers = counted (5 - (n + 1)) (n + 1) in
    rw (counted_on n c.if-number-gt-GROUPS_LIMIT.false)
    (IfErr-weaker c.read_from.result _ _
    (λ e m. misses_later (rows_of_number (group_in groups n) group taken) (rows_of_groups groups (taken ++ volumes_of_number (group_in groups n) taken) numbers) e c.in-Ok.ensures.met
    (let P : List Vsn → Type 0 = λ v. Misses (rows_of_groups groups v numbers) e in subst P (taken_after c.in-Ok.ensures.ok) m))
    c.read_from.ensures.err)
