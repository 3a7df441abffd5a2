use Rattle.std.proofs.Common.{ap, ◌∙◌, arith, cond, ◌-◌, ◌+◌, ◌≡◌}
use Rattle.std.specs.Ordering.{nat_cmp}
use Rattle.dm_tables.proofs.Orders.{numbers}
use Rattle.dm_rows.specs.Places.{row_of}
use Rattle.dm_rows.proofs.Methods.{Stands, answered, hit_within, row_taken, no_row, is_there, isnt_there, taken, taken_order, not_taken}
use Rattle.dm_rows.proofs.numbers.NumberRows.take.Goals as goal

pub remove-requires : goal.remove-requires
remove-requires g c =
    let s : Stands {R = nat_cmp} row_of c.self.inside.rows.items c.args.self.now.rows = record { order = c.self.invariant; is = ap (λ t. t.rows) c.self.view_is } in
    let h = answered nat_cmp row_of c.args.key c.as_slice.result.now c.self.inside.rows.items c.place.result _ c.as_slice.ensures.value c.place.ensures c.in-Ok.is in
    let small = hit_within numbers row_of c.self.inside.rows.items c.args.self.now.rows s c.args.key c.in-Ok.at h in
    let ok = c.self.inside.rows.ok in
    omega arith

pub invariant_of-self : goal.invariant_of-self
invariant_of-self g c =
    let s : Stands {R = nat_cmp} row_of c.self.inside.rows.items c.args.self.now.rows = record { order = c.self.invariant; is = ap (λ t. t.rows) c.self.view_is } in
    let h = answered nat_cmp row_of c.args.key c.as_slice.result.now c.self.inside.rows.items c.place.result _ c.as_slice.ensures.value c.place.ensures c.in-Ok.is in
    rw c.remove.ensures.items (taken_order numbers row_of c.self.inside.rows.items c.args.self.now.rows s c.args.key c.in-Ok.at h)

pub returns-in-Ok-clause-row : goal.returns-in-Ok-clause-row
returns-in-Ok-clause-row g c =
    let s : Stands {R = nat_cmp} row_of c.self.inside.rows.items c.args.self.now.rows = record { order = c.self.invariant; is = ap (λ t. t.rows) c.self.view_is } in
    let h = answered nat_cmp row_of c.args.key c.as_slice.result.now c.self.inside.rows.items c.place.result _ c.as_slice.ensures.value c.place.ensures c.in-Ok.is in
    row_taken numbers row_of c.self.inside.rows.items c.args.self.now.rows s c.args.key c.in-Ok.at h c.remove.result c.remove.ensures.value

pub returns-in-Ok-clause-rows : goal.returns-in-Ok-clause-rows
returns-in-Ok-clause-rows g c =
    let s : Stands {R = nat_cmp} row_of c.self.inside.rows.items c.args.self.now.rows = record { order = c.self.invariant; is = ap (λ t. t.rows) c.self.view_is } in
    let h = answered nat_cmp row_of c.args.key c.as_slice.result.now c.self.inside.rows.items c.place.result _ c.as_slice.ensures.value c.place.ensures c.in-Ok.is in
    rw c.remove.ensures.items (taken numbers row_of c.self.inside.rows.items c.args.self.now.rows s c.args.key c.in-Ok.at h)

pub returns-in-Ok-clause-spare : goal.returns-in-Ok-clause-spare
returns-in-Ok-clause-spare g c =
    let s : Stands {R = nat_cmp} row_of c.self.inside.rows.items c.args.self.now.rows = record { order = c.self.invariant; is = ap (λ t. t.rows) c.self.view_is } in
    let h = answered nat_cmp row_of c.args.key c.as_slice.result.now c.self.inside.rows.items c.place.result _ c.as_slice.ensures.value c.place.ensures c.in-Ok.is in
    let ok = c.self.inside.rows.ok in
    let was : c.self.inside.rows.cap - c.self.inside.rows.len ≡ c.args.self.now.spare = ap (λ t. t.spare) c.self.view_is in
    let more : c.remove.new.self.cap - c.remove.new.self.len ≡ c.args.self.now.spare + 1 = omega (arith, c.remove.ensures.len, c.remove.ensures.capacity) in
    more ∙ ap (λ b. cond b (c.args.self.now.spare + 1) c.args.self.now.spare) (is_there numbers row_of c.self.inside.rows.items c.args.self.now.rows s c.args.key c.in-Ok.at h)

pub returns-in-Err-clause-row : goal.returns-in-Err-clause-row
returns-in-Err-clause-row g c =
    let s : Stands {R = nat_cmp} row_of c.self.inside.rows.items c.args.self.now.rows = record { order = c.self.invariant; is = ap (λ t. t.rows) c.self.view_is } in
    let h = answered nat_cmp row_of c.args.key c.as_slice.result.now c.self.inside.rows.items c.place.result _ c.as_slice.ensures.value c.place.ensures c.in-Err.is in
    no_row numbers row_of c.self.inside.rows.items c.args.self.now.rows s c.args.key c.in-Err.field-0 h

pub returns-in-Err-clause-rows : goal.returns-in-Err-clause-rows
returns-in-Err-clause-rows g c =
    let s : Stands {R = nat_cmp} row_of c.self.inside.rows.items c.args.self.now.rows = record { order = c.self.invariant; is = ap (λ t. t.rows) c.self.view_is } in
    let h = answered nat_cmp row_of c.args.key c.as_slice.result.now c.self.inside.rows.items c.place.result _ c.as_slice.ensures.value c.place.ensures c.in-Err.is in
    not_taken numbers row_of c.self.inside.rows.items c.args.self.now.rows s c.args.key c.in-Err.field-0 h

pub returns-in-Err-clause-spare : goal.returns-in-Err-clause-spare
returns-in-Err-clause-spare g c =
    let s : Stands {R = nat_cmp} row_of c.self.inside.rows.items c.args.self.now.rows = record { order = c.self.invariant; is = ap (λ t. t.rows) c.self.view_is } in
    let h = answered nat_cmp row_of c.args.key c.as_slice.result.now c.self.inside.rows.items c.place.result _ c.as_slice.ensures.value c.place.ensures c.in-Err.is in
    ap (λ b. cond b (c.args.self.now.spare + 1) c.args.self.now.spare) (isnt_there numbers row_of c.self.inside.rows.items c.args.self.now.rows s c.args.key c.in-Err.field-0 h)
