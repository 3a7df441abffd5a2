use Rattle.dm_spine.proofs.pass.Pass.finish.Goals as goal

pub returns-clause-legal : goal.returns-clause-legal
returns-clause-legal g c = rw c.deref.ensures at c.look_at.ensures.legal
