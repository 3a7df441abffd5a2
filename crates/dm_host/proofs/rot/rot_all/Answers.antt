use Rattle.std.proofs.Common.{List, ℕ, ◌+◌, drop, sym, ap, ◌∙◌}
use Rattle.std.proofs.lemmas.List.{drop_more}
use Rattle.dm_host.specs.Past.{contents}
use Rattle.dm_host.specs.Rot.{Rot, rotted}
use Rattle.dm_host.proofs.rot.rot_all.Goals as goal

pub loop-entry-preserved : goal.loop-entry-preserved
loop-entry-preserved c = λ g.
    let i = c.loop-entry.entry-index in
    let entries = c.args.entries.now in
    let none : Rot = (0, 0, 0, 0) in
    ap (λ (l : List ℕ). rotted (drop (i + 1) entries) c.args.call g l) (c.rot_one.ensures g)
    ∙ sym (ap (λ (es : List Rot). rotted es c.args.call g (contents c.loop-entry.files.items g)) (drop_more entries i none c.loop-entry-test.true))
    ∙ c.loop-entry.invariant g
