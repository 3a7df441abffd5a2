use Rattle.dm_spine.specs.Passes.{kept_by}
use Rattle.dm_spine.proofs.Seats.{has_in}
use Rattle.shared_tally.specs.Counting.{lawful_counting}
use Rattle.shared_tally.specs.declared.counting.Name.TheVariants.{Worker}
use Rattle.shared_tally.proofs.session.Session.end.Goals as goal

pub returns-clause-keeps : goal.returns-clause-keeps
returns-clause-keeps g c = has_in lawful_counting (Worker c.args.self.worker) (kept_by c.args.self.pass) c.args.self.keeps
