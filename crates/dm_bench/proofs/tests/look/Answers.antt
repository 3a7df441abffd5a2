use Rattle.dm_spine.specs.Passes.{parts_of, view_of}
use Rattle.dm_bench.proofs.Looking.{look_may}
use Rattle.dm_bench.proofs.tests.look.Goals as goal

pub draw_entry-requires-clause-may : goal.draw_entry-requires-clause-may
draw_entry-requires-clause-may c =
    look_may (parts_of c.args.pass.now) c.args.worker c.args.component (view_of c.args.pass.now) c.requires.sound c.requires.keeps.0 c.requires.keeps.1
    c.requires.configured
