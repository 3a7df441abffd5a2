use Rattle.dm_base.proofs.Names.{path_decided, text_empty, text_unslashed, text_long, text_names}
use Rattle.dm_base.proofs.naming.is_path.Goals as goal

pub returns-in_default : goal.returns-in_default
returns-in_default c = let is = text_empty _ c.in_default.ensures.cases in record { test = is; grammar = path_decided _ _ is }

pub returns-then-first-ne47 : goal.returns-then-first-ne47
returns-then-first-ne47 c = let is = text_unslashed _ _ _ c.in-Some.ensures.cases.0 c.if-first-ne47.true in record { test = is; grammar = path_decided _ _ is }

pub returns-then-text-gt-PATH_LIMIT : goal.returns-then-text-gt-PATH_LIMIT
returns-then-text-gt-PATH_LIMIT c = let is = text_long _ _ _ c.in-Some.ensures.cases.0 c.if-first-ne47.false c.if-text-gt-PATH_LIMIT.true in record { test = is; grammar = path_decided _ _ is }

pub returns : goal.returns
returns c = let is = text_names _ _ _ _ c.in-Some.ensures.cases.0 c.if-first-ne47.false c.if-text-gt-PATH_LIMIT.false c.is_name_list.ensures in record { test = is; grammar = path_decided _ _ is }
