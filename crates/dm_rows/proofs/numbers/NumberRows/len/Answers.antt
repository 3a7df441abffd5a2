use Rattle.std.proofs.Common.{ap, sym, ◌∙◌}
use Rattle.std.specs.Ordering.{nat_cmp}
use Rattle.dm_tables.proofs.Orders.{numbers}
use Rattle.dm_rows.specs.Places.{row_of}
use Rattle.dm_rows.proofs.Methods.{Stands, len_is}
use Rattle.dm_rows.proofs.numbers.NumberRows.len.Goals as goal

pub returns-clause-len : goal.returns-clause-len
returns-clause-len g c =
    let s : Stands {R = nat_cmp} row_of c.self.inside.rows.items c.args.self.now.rows = record { order = c.self.invariant; is = ap (λ t. t.rows) c.self.view_is } in
    c.len.ensures ∙ c.self.inside.rows.ok.0 ∙ sym (len_is numbers row_of c.self.inside.rows.items c.args.self.now.rows s)
