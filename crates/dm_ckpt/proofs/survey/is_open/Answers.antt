use Rattle.dm_ckpt.proofs.survey.is_open.Goals as goal

pub returns-clause-ok : goal.returns-clause-ok
returns-clause-ok g c = λ rows told may. c.is_of.ensures rows _ (c.in_ok-header.ensures.says told) may
