use Rattle.std.proofs.Common.{Option, sym, subst}
use Rattle.dm_spine.specs.Passes.{parts_of, view_of}
use Rattle.dm_bench.specs.Drawing.{EntersAll, landed_first}
use Rattle.dm_bench.specs.declared.component_notes.LandedNote.{LandedNote}
use Rattle.dm_bench.proofs.Entering.{one_entered}
use Rattle.dm_bench.proofs.drawing.draw_call.Goals as goal

pub returns-in-None-clause-enters : goal.returns-in-None-clause-enters
returns-in-None-clause-enters g c =
    let s = parts_of c.args.pass.now in
    let e = g.N.Note.entry c.args.note.now in
    let v = view_of c.args.pass.now in
    let w = view_of c.draw_entry.new.pass in
    subst (λ (l : Option LandedNote). EntersAll s (landed_first l) e v w) (sym c.in-None.is) (one_entered s e v w c.draw_entry.ensures.enters)
