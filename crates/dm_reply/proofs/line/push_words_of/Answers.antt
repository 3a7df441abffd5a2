use Rattle.std.proofs.Common.{append_assoc, refl}
use Rattle.dm_reply.proofs.line.push_words_of.Goals as goal

pub returns-in-ChangedMeanwhile-clause-value : goal.returns-in-ChangedMeanwhile-clause-value
returns-in-ChangedMeanwhile-clause-value g c =
    rw (c.in-ChangedMeanwhile.is, c.push_two-in-ChangedMeanwhile.ensures.value, c.push-in-ChangedMeanwhile.ensures) (simp append_assoc)

pub returns-in-Expired-clause-value : goal.returns-in-Expired-clause-value
returns-in-Expired-clause-value g c =
    rw (c.in-Expired.is, c.push_words-in-Expired.ensures.value, c.push_two-in-Expired.ensures.value, c.push-in-Expired.ensures) (simp append_assoc)

pub returns-in-Damaged-clause-value : goal.returns-in-Damaged-clause-value
returns-in-Damaged-clause-value g c =
    rw (c.in-Damaged.is, c.push_words-in-Damaged.ensures.value, c.push_of_volume.ensures.value, c.push-in-Damaged.ensures) (simp append_assoc)

pub returns-in-NoGroup-clause-value : goal.returns-in-NoGroup-clause-value
returns-in-NoGroup-clause-value g c = rw (c.in-NoGroup.is, c.push-in-NoGroup.ensures) refl

pub returns-in-QueueFull-clause-value : goal.returns-in-QueueFull-clause-value
returns-in-QueueFull-clause-value g c = rw (c.in-QueueFull.is, c.push-in-QueueFull.ensures) refl
