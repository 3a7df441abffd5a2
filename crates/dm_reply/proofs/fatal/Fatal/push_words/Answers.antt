use Rattle.std.proofs.Common.{append_assoc}
use Rattle.dm_reply.proofs.fatal.Fatal.push_words.Goals as goal

pub returns-in-Config-clause-value : goal.returns-in-Config-clause-value
returns-in-Config-clause-value c = rw (c.in-Config.is, c.push_key.ensures.value, c.push.ensures) (simp append_assoc)

pub returns-in-Damaged-clause-value : goal.returns-in-Damaged-clause-value
returns-in-Damaged-clause-value c =
    rw (c.in-Damaged.is, c.push_words-in-Damaged.ensures.value, c.push_words.ensures.value, c.from.ensures) (simp append_assoc)

pub returns-in-Tables-clause-value : goal.returns-in-Tables-clause-value
returns-in-Tables-clause-value c =
    rw (c.in-Tables.is, c.push-in-Tables-2.ensures.value, c.push-in-Tables.ensures) (simp append_assoc)
