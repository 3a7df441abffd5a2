use Rattle.std.proofs.Common.{ap, sym, ◌∙◌}
use Rattle.std.specs.Ordering.{nat_cmp}
use Rattle.std.specs.Cmp.Lexicographic.{slice_cmp}
use Rattle.dm_tables.proofs.Orders.{paths}
use Rattle.dm_rows.specs.Places.{text_row_of}
use Rattle.dm_rows.proofs.Methods.{Stands, len_is}
use Rattle.dm_rows.proofs.texts.TextRows.len.Goals as goal

pub returns-clause-len : goal.returns-clause-len
returns-clause-len g c =
    let s : Stands {R = (slice_cmp nat_cmp)} (text_row_of g.K.Text.text) c.self.inside.rows.items c.args.self.now.rows = record { order = c.self.invariant; is = ap (λ t. t.rows) c.self.view_is } in
    c.len.ensures ∙ c.self.inside.rows.ok.0 ∙ sym (len_is paths (text_row_of g.K.Text.text) c.self.inside.rows.items c.args.self.now.rows s)
