use Rattle.std.proofs.Common.{ap}
use Rattle.std.specs.Ordering.{nat_cmp}
use Rattle.std.specs.Cmp.Lexicographic.{slice_cmp}
use Rattle.dm_tables.proofs.Orders.{paths}
use Rattle.dm_rows.specs.Places.{text_row_of}
use Rattle.dm_rows.proofs.Methods.{Stands, entry_some, entry_none}
use Rattle.dm_rows.proofs.texts.TextRows.entry.Goals as goal

pub returns-in-Some : goal.returns-in-Some
returns-in-Some g c =
    let s : Stands {R = (slice_cmp nat_cmp)} (text_row_of g.K.Text.text) c.self.inside.rows.items c.args.self.now.rows = record { order = c.self.invariant; is = ap (λ t. t.rows) c.self.view_is } in
    entry_some paths (text_row_of g.K.Text.text) c.self.inside.rows.items c.args.self.now.rows s c.deref.result.now c.args.at c.in-Some.row.now _ c.deref.ensures.value c.in-Some.ensures.lookup.3.0 c.in-Some.ensures.lookup.1
    (λ i. ((g.K.Text.text (c.deref-in-Some.ensures i).0), (c.deref-in-Some-2.ensures i).1))

pub returns-in-None : goal.returns-in-None
returns-in-None g c =
    let s : Stands {R = (slice_cmp nat_cmp)} (text_row_of g.K.Text.text) c.self.inside.rows.items c.args.self.now.rows = record { order = c.self.invariant; is = ap (λ t. t.rows) c.self.view_is } in
    entry_none paths (text_row_of g.K.Text.text) c.self.inside.rows.items c.args.self.now.rows s c.deref.result.now c.args.at c.deref.ensures.value c.in-None.ensures.lookup.3
