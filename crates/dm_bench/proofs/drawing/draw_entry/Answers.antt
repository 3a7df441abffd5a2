use Rattle.std.proofs.Common.{ℕ, ◌+◌, ◌<◌, ◌∙◌, sym, ap, subst}
use Rattle.dm_spine.specs.Passes.{parts_of, view_of}
use Rattle.dm_bench.proofs.Entering.{may_draw, more_at}
use Rattle.dm_bench.proofs.drawing.draw_entry.Goals as goal

pub draw-requires : goal.draw-requires
draw-requires g c =
    may_draw (parts_of c.args.pass.now) (g.N.Note.entry c.args.note.now) (view_of c.args.pass.now) c.requires.may
    (subst (λ (n : ℕ). n < 281474976710656) c.requires.counted c.requires.room)

pub returns-clause-enters : goal.returns-clause-enters
returns-clause-enters g c = (c.draw.result, c.draw.ensures.drawn)

pub returns-clause-counted : goal.returns-clause-counted
returns-clause-counted g c =
    ap (λ (n : ℕ). n + 1) c.requires.counted
    ∙ sym (more_at (parts_of c.args.pass.now) (g.N.Note.entry c.args.note.now) (view_of c.args.pass.now) (view_of c.draw.new.self) (c.draw.result, c.draw.ensures.drawn))
