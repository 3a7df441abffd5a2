use Rattle.dm_spine.specs.Passes.{kept_by}
use Rattle.dm_spine.proofs.Seats.{has_it}
use Rattle.shared_tally.specs.Counting.{lawful_counting}
use Rattle.shared_tally.specs.declared.counting.Name.TheVariants.{Worker}
use Rattle.shared_tally.proofs.session.Session.begin.Goals as goal

pub invariant_of-result-clause-keeps : goal.invariant_of-result-clause-keeps
invariant_of-result-clause-keeps g c = has_it lawful_counting (Worker c.args.worker) (kept_by c.args.pass) c.requires.keeps
