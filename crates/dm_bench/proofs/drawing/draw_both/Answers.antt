use Rattle.std.proofs.Common.{[], ◌∙◌, sym, ap, subst, arith}
use Rattle.dm_spine.specs.Past.{at_home}
use Rattle.dm_spine.specs.Passes.{parts_of, seen_by, view_of}
use Rattle.dm_spine.proofs.Uses.{beside_parts}
use Rattle.dm_bench.specs.Drawing.{Enters, MayEnter, landed_entry}
use Rattle.dm_bench.specs.Systems.{machine}
use Rattle.dm_bench.specs.declared.system.System.{System}
use Rattle.dm_bench.proofs.Entering.{both_entered, call_may, landed_may, more_at}
use Rattle.dm_bench.proofs.drawing.draw_both.Goals as goal

pub draw_entry-entries-requires-clause-may : goal.draw_entry-entries-requires-clause-may
draw_entry-entries-requires-clause-may g c =
    landed_may (parts_of c.args.pass.now) c.args.first.worker c.args.first.component (g.N.Note.entry c.args.note.now) (view_of c.args.pass.now)
    c.requires.home c.requires.may

pub draw_entry-entries-requires-clause-counted : goal.draw_entry-entries-requires-clause-counted
draw_entry-entries-requires-clause-counted g c =
    c.requires.counted ∙ ap (λ h. at_home machine h (seen_by c.args.pass.now)) (sym c.requires.home)

pub draw_entry-requires-clause-may : goal.draw_entry-requires-clause-may
draw_entry-requires-clause-may g c =
    let d = c.draw_entry-entries in
    let e = g.N.Note.entry c.args.note.now in
    let u = view_of d.new.pass in
    subst (λ (s : System). MayEnter s [] e u) (beside_parts c.args.pass.now d.new.pass d.ensures.spine)
    (call_may (parts_of c.args.pass.now) c.args.first.worker c.args.first.component e (view_of c.args.pass.now) c.requires.home c.requires.may u d.ensures.enters)

pub draw_entry-requires-clause-counted : goal.draw_entry-requires-clause-counted
draw_entry-requires-clause-counted g c =
    let d = c.draw_entry-entries in
    d.ensures.counted ∙ ap (λ h. at_home machine h (seen_by d.new.pass)) c.requires.home

pub draw_entry-requires-clause-room : goal.draw_entry-requires-clause-room
draw_entry-requires-clause-room g c =
    let d = c.draw_entry-entries in
    let first = landed_entry c.args.first.worker c.args.first.component in
    let same = c.requires.counted ∙ ap (λ h. at_home machine h (seen_by c.args.pass.now)) (sym c.requires.home) in
    let more = d.ensures.counted ∙ more_at (parts_of c.args.pass.now) first (view_of c.args.pass.now) (view_of d.new.pass) d.ensures.enters in
    let room = c.requires.room in
    omega (arith, same, more, room)

pub returns-clause-enters : goal.returns-clause-enters
returns-clause-enters g c =
    let d = c.draw_entry-entries in
    let f = c.draw_entry in
    let e = g.N.Note.entry c.args.note.now in
    both_entered (parts_of c.args.pass.now) c.args.first.worker c.args.first.component e (view_of c.args.pass.now) c.requires.home c.requires.may
    (view_of d.new.pass) d.ensures.enters (view_of f.new.pass)
    (subst (λ (s : System). Enters s e (view_of d.new.pass) (view_of f.new.pass)) (sym (beside_parts c.args.pass.now d.new.pass d.ensures.spine)) f.ensures.enters)
