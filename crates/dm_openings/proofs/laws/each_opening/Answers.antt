use Rattle.dm_history.specs.History.{history}
use Rattle.dm_openings.specs.Openings.{BeginsAs, names_loaded}
use Rattle.dm_openings.proofs.EveryLawful.{legal_each}
use Rattle.dm_openings.proofs.OpeningsBegin.{begins_in}
use Rattle.dm_openings.proofs.laws.each_opening.Goals as goal

pub returns-clause-begins : goal.returns-clause-begins
returns-clause-begins c l j is = begins_in l j is

pub returns-clause-legal : goal.returns-clause-legal
returns-clause-legal c l begun xs begins legal = legal_each BeginsAs names_loaded history l begun xs begins legal
