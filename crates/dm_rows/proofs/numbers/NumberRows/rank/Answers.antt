use Rattle.std.proofs.Common.{ap}
use Rattle.std.specs.Ordering.{nat_cmp}
use Rattle.dm_tables.proofs.Orders.{numbers}
use Rattle.dm_rows.specs.Places.{row_of}
use Rattle.dm_rows.proofs.Methods.{Stands, answered, rank_there, rank_gap}
use Rattle.dm_rows.proofs.numbers.NumberRows.rank.Goals as goal

pub returns-in-Ok : goal.returns-in-Ok
returns-in-Ok g c =
    let s : Stands {R = nat_cmp} row_of c.self.inside.rows.items c.args.self.now.rows = record { order = c.self.invariant; is = ap (λ t. t.rows) c.self.view_is } in
    let h = answered nat_cmp row_of c.args.key c.as_slice.result.now c.self.inside.rows.items c.place.result _ c.as_slice.ensures.value c.place.ensures c.in-Ok.is in
    rank_there numbers row_of c.self.inside.rows.items c.args.self.now.rows s c.args.key c.in-Ok.at h

pub returns-in-Err : goal.returns-in-Err
returns-in-Err g c =
    let s : Stands {R = nat_cmp} row_of c.self.inside.rows.items c.args.self.now.rows = record { order = c.self.invariant; is = ap (λ t. t.rows) c.self.view_is } in
    let h = answered nat_cmp row_of c.args.key c.as_slice.result.now c.self.inside.rows.items c.place.result _ c.as_slice.ensures.value c.place.ensures c.in-Err.is in
    rank_gap numbers row_of c.self.inside.rows.items c.args.self.now.rows s c.args.key c.in-Err.at h
