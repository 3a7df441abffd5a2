use Rattle.std.proofs.Common.{◌∙◌}
use Rattle.dm_spine.specs.Passes.{seen_by, kept_by}
use Rattle.dm_spine.proofs.Seats.{has_in, has_it}
use Rattle.shared_tally.specs.Counting.{lawful_counting}
use Rattle.shared_tally.specs.declared.counting.Name.TheVariants.{Worker}
use Rattle.shared_tally.proofs.Sessions.{adds_once}
use Rattle.shared_tally.proofs.session.Session.add.Goals as goal

pub add-added-requires-clause-keeps : goal.add-added-requires-clause-keeps
add-added-requires-clause-keeps g c = let me = c.args.self.now in has_in lawful_counting (Worker me.worker) (kept_by me.pass) me.keeps

pub invariant_of-self-clause-beside : goal.invariant_of-self-clause-beside
invariant_of-self-clause-beside g c = c.args.self.now.beside ∙ c.add-added.ensures.beside.1

pub invariant_of-self-clause-keeps : goal.invariant_of-self-clause-keeps
invariant_of-self-clause-keeps g c = has_it lawful_counting (Worker c.args.self.now.worker) (kept_by c.add-added.new.me) c.add-added.ensures.keeps

pub returns-clause-added : goal.returns-clause-added
returns-clause-added g c =
    let me = c.args.self.now in
    let t = c.take-tally.result.0 in
    adds_once me.worker c.args.amount (seen_by t.pass) (seen_by me.pass) (seen_by c.add-added.new.me) t.number me.lock.now.table.shared.key.number c.add-added.result c.take-tally.ensures.fits.number c.add-added.ensures.added
