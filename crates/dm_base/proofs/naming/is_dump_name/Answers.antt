use Rattle.std.proofs.Common.{◌∙◌, sym}
use Rattle.dm_base.proofs.Names.{dump_name_decided, dump_name_empty, dump_name_long, dump_name_bytes}
use Rattle.dm_base.proofs.naming.is_dump_name.Goals as goal

pub returns-then-is_empty : goal.returns-then-is_empty
returns-then-is_empty c = let is = dump_name_empty _ (sym c.is_empty.ensures ∙ c.if-is_empty.true) in record { test = is; grammar = dump_name_decided _ _ is }

pub returns-then-text-gt-DUMP_NAME_LIMIT : goal.returns-then-text-gt-DUMP_NAME_LIMIT
returns-then-text-gt-DUMP_NAME_LIMIT c = let is = dump_name_long _ (sym c.is_empty.ensures ∙ c.if-is_empty.false) c.if-text-gt-DUMP_NAME_LIMIT.true in record { test = is; grammar = dump_name_decided _ _ is }

pub returns : goal.returns
returns c = let is = dump_name_bytes _ _ (sym c.is_empty.ensures ∙ c.if-is_empty.false) c.if-text-gt-DUMP_NAME_LIMIT.false c.are_name_bytes.ensures in record { test = is; grammar = dump_name_decided _ _ is }
