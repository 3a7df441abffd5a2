use Rattle.std.proofs.Common.{◌∙◌, sym, length}
use Rattle.std.proofs.lemmas.Bool.{eqb-true, eqb-false}
use Rattle.dm_config.proofs.Serials.{volumes_none, volumes_many, volumes_some}
use Rattle.dm_config.proofs.volumes.volumes_of.Goals as goal

pub returns-then-is_empty-clause-said : goal.returns-then-is_empty-clause-said
returns-then-is_empty-clause-said c =
    volumes_none c.args.taken.now.items c.args.items.now (eqb-true (length c.args.items.now) 0 (sym c.is_empty.ensures ∙ c.if-is_empty.true))

pub returns-clause-said : goal.returns-clause-said
returns-clause-said c =
    rw (volumes_some c.args.taken.now.items c.args.items.now (eqb-false (length c.args.items.now) 0 (sym c.is_empty.ensures ∙ c.if-is_empty.false)) c.if-items-gt-VOLUMES_LIMIT.false)
    c.serials_of.ensures.said

pub returns-then-items-gt-VOLUMES_LIMIT-clause-said : goal.returns-then-items-gt-VOLUMES_LIMIT-clause-said
returns-then-items-gt-VOLUMES_LIMIT-clause-said c = volumes_many c.args.taken.now.items c.args.items.now c.if-items-gt-VOLUMES_LIMIT.true
