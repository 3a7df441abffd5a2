use Rattle.dm_runs.proofs.PastStays.{content_stays, live_stays}
use Rattle.dm_runs.proofs.laws.past_stays.Goals as goal

pub returns-clause-live : goal.returns-clause-live
returns-clause-live x j before mid later k opened apart one two g b s row c v side is among there =
    live_stays j before mid later k opened apart one two g b s row c v side is among there

pub returns-clause-content : goal.returns-clause-content
returns-clause-content x j before mid later k opened apart one two b bytes is = content_stays j before mid later k opened apart one two b bytes is
