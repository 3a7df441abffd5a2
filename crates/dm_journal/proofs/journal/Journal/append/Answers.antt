use Rattle.std.proofs.Common.{◌∙◌, subst}
use Rattle.dm_host.specs.Works.{Works, File}
use Rattle.dm_journal.specs.Grammar.{BeforeOrAfter}
use Rattle.dm_journal.specs.State.{At, Keeps}
use Rattle.dm_journal.proofs.Appending.{resettled}
use Rattle.dm_journal.proofs.journal.Journal.append.Goals as goal

pub returns-in_err-add-clause-any_moment : goal.returns-in_err-add-clause-any_moment
returns-in_err-add-clause-any_moment g c = λ ps.
    subst (λ (a : At). Keeps (g.B.Bay.disk c.args.bay.now) a ps → Works (File a.file) (g.B.Bay.disk c.args.bay.now) (g.B.Bay.disk c.add.new.bay) (λ x. BeforeOrAfter ps c.args.payload.now (x a.file)))
    c.self.view_is (λ k. c.add.ensures.any_moment ps c.args.payload.now (resettled _ _ ps k) c.requires.size (c.deref.ensures.value ∙ c.put_frame.ensures.bytes))

pub returns-clause-any_moment : goal.returns-clause-any_moment
returns-clause-any_moment g c = λ ps.
    subst (λ (a : At). Keeps (g.B.Bay.disk c.args.bay.now) a ps → Works (File a.file) (g.B.Bay.disk c.args.bay.now) (g.B.Bay.disk c.add.new.bay) (λ x. BeforeOrAfter ps c.args.payload.now (x a.file)))
    c.self.view_is (λ k. c.add.ensures.any_moment ps c.args.payload.now (resettled _ _ ps k) c.requires.size (c.deref.ensures.value ∙ c.put_frame.ensures.bytes))
