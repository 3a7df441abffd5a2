use Rattle.std.proofs.Common.{ap, sym, ◌∙◌, arith, slice_get, add-one}
use Rattle.std.specs.Ordering.{nat_cmp}
use Rattle.dm_tables.proofs.Orders.{numbers}
use Rattle.dm_rows.specs.Places.{row_of}
use Rattle.std.specs.FinMap.{entries}
use Rattle.dm_tables.specs.Rows.{row_after}
use Rattle.dm_rows.proofs.Methods.{Stands, answered, hit_within, past_there, past_gap, first_is}
use Rattle.dm_rows.proofs.numbers.NumberRows.first_after.Goals as goal

pub overflow_add-at : goal.overflow_add-at
overflow_add-at g c =
    let s : Stands {R = nat_cmp} row_of c.self.inside.rows.items c.args.self.now.rows = record { order = c.self.invariant; is = ap (λ t. t.rows) c.self.view_is } in
    let h = answered nat_cmp row_of c.in-Some.key c.as_slice.result.now c.self.inside.rows.items c.place.result _ c.as_slice.ensures.value c.place.ensures c.in-Ok.is in
    let within = hit_within numbers row_of c.self.inside.rows.items c.args.self.now.rows s c.in-Some.key c.in-Ok.at h in
    let ok = c.self.inside.rows.ok in
    let small = c.self.inside.rows.small in
    omega arith

pub returns-in-None : goal.returns-in-None
returns-in-None g c =
    let s : Stands {R = nat_cmp} row_of c.self.inside.rows.items c.args.self.now.rows = record { order = c.self.invariant; is = ap (λ t. t.rows) c.self.view_is } in
    c.entry.ensures ∙ sym (first_is numbers row_of c.self.inside.rows.items c.args.self.now.rows s) ∙ ap (row_after c.args.self.now.rows) (sym c.in-None.is)

pub returns-in-Ok : goal.returns-in-Ok
returns-in-Ok g c =
    let s : Stands {R = nat_cmp} row_of c.self.inside.rows.items c.args.self.now.rows = record { order = c.self.invariant; is = ap (λ t. t.rows) c.self.view_is } in
    let h = answered nat_cmp row_of c.in-Some.key c.as_slice.result.now c.self.inside.rows.items c.place.result _ c.as_slice.ensures.value c.place.ensures c.in-Ok.is in
    c.entry-in-Ok.ensures ∙ ap (slice_get (entries c.args.self.now.rows)) (add-one c.in-Ok.at) ∙ sym (past_there numbers row_of c.self.inside.rows.items c.args.self.now.rows s c.in-Some.key c.in-Ok.at h) ∙ ap (row_after c.args.self.now.rows) (sym c.in-Some.is)

pub returns-in-Err : goal.returns-in-Err
returns-in-Err g c =
    let s : Stands {R = nat_cmp} row_of c.self.inside.rows.items c.args.self.now.rows = record { order = c.self.invariant; is = ap (λ t. t.rows) c.self.view_is } in
    let h = answered nat_cmp row_of c.in-Some.key c.as_slice.result.now c.self.inside.rows.items c.place.result _ c.as_slice.ensures.value c.place.ensures c.in-Err.is in
    c.entry-in-Err.ensures ∙ sym (past_gap numbers row_of c.self.inside.rows.items c.args.self.now.rows s c.in-Some.key c.in-Err.at h) ∙ ap (row_after c.args.self.now.rows) (sym c.in-Some.is)
