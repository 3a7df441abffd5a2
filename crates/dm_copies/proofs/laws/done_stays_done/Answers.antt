use Rattle.dm_copies.proofs.EventsAsk.{opened_asks, run_asks}
use Rattle.dm_copies.proofs.DoneStays.{run_done}
use Rattle.dm_copies.proofs.laws.done_stays_done.Goals as goal

pub returns : goal.returns
returns c = record { runs = λ j before mid later k opened one two. run_done mid later k (run_asks j before mid (opened_asks j opened) one) two }
