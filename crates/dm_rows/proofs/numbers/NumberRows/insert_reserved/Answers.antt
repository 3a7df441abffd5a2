use Rattle.std.proofs.Common.{ap, sym, refl, arith, ◌∙◌, ◌≡◌, ◌+◌, ◌-◌, cond, map as map_list}
use Rattle.std.specs.Ordering.{nat_cmp}
use Rattle.dm_tables.proofs.Orders.{numbers}
use Rattle.dm_rows.specs.Places.{row_of}
use Rattle.dm_rows.specs.Places.{place_of}
use Rattle.dm_rows.proofs.Methods.{Stands, answered, hit_within, is_there, isnt_there, replaced, replaced_order, inserted, inserted_order, miss_within}
use Rattle.dm_rows.proofs.numbers.NumberRows.insert_reserved.Goals as goal

pub index_mut-requires : goal.index_mut-requires
index_mut-requires g c =
    let s : Stands {R = nat_cmp} row_of c.self.inside.rows.items c.args.self.now.rows = record { order = c.self.invariant; is = ap (λ t. t.rows) c.self.view_is } in
    let h = answered nat_cmp row_of c.deref.result.now.0 c.as_slice.result.now c.self.inside.rows.items c.place.result _ c.as_slice.ensures.value c.place.ensures c.in-Ok.is in
    let k = ap (λ e. place_of nat_cmp e.0 (map_list row_of c.self.inside.rows.items)) (sym c.deref.ensures) ∙ h in
    let within = hit_within numbers row_of c.self.inside.rows.items c.args.self.now.rows s c.args.row.value.0 c.in-Ok.at k in
    let ok = c.self.inside.rows.ok in
    omega arith

pub invariant_of-self : goal.invariant_of-self
invariant_of-self g c =
    let s : Stands {R = nat_cmp} row_of c.self.inside.rows.items c.args.self.now.rows = record { order = c.self.invariant; is = ap (λ t. t.rows) c.self.view_is } in
    let h = answered nat_cmp row_of c.deref.result.now.0 c.as_slice.result.now c.self.inside.rows.items c.place.result _ c.as_slice.ensures.value c.place.ensures c.in-Ok.is in
    let k = ap (λ e. place_of nat_cmp e.0 (map_list row_of c.self.inside.rows.items)) (sym c.deref.ensures) ∙ h in
    replaced_order numbers row_of c.self.inside.rows.items c.args.self.now.rows s c.args.row.value.0 c.in-Ok.at k c.args.row c.args.row.value.1 refl

pub put-requires-clause-there : goal.put-requires-clause-there
put-requires-clause-there g c =
    let s : Stands {R = nat_cmp} row_of c.self.inside.rows.items c.args.self.now.rows = record { order = c.self.invariant; is = ap (λ t. t.rows) c.self.view_is } in
    let h = answered nat_cmp row_of c.deref.result.now.0 c.as_slice.result.now c.self.inside.rows.items c.place.result _ c.as_slice.ensures.value c.place.ensures c.in-Err.is in
    let k = ap (λ e. place_of nat_cmp e.0 (map_list row_of c.self.inside.rows.items)) (sym c.deref.ensures) ∙ h in
    let within = miss_within numbers row_of c.self.inside.rows.items c.args.self.now.rows s c.args.row.value.0 c.in-Err.at k in
    let ok = c.self.inside.rows.ok in
    omega arith

pub invariant_of-self-in-Err : goal.invariant_of-self-in-Err
invariant_of-self-in-Err g c =
    let s : Stands {R = nat_cmp} row_of c.self.inside.rows.items c.args.self.now.rows = record { order = c.self.invariant; is = ap (λ t. t.rows) c.self.view_is } in
    let h = answered nat_cmp row_of c.deref.result.now.0 c.as_slice.result.now c.self.inside.rows.items c.place.result _ c.as_slice.ensures.value c.place.ensures c.in-Err.is in
    let k = ap (λ e. place_of nat_cmp e.0 (map_list row_of c.self.inside.rows.items)) (sym c.deref.ensures) ∙ h in
    rw c.put.ensures.items (inserted_order numbers row_of c.self.inside.rows.items c.args.self.now.rows s c.args.row.value.0 c.in-Err.at k c.args.row c.args.row.value.1 refl)

pub returns-in-Ok-clause-rows : goal.returns-in-Ok-clause-rows
returns-in-Ok-clause-rows g c =
    let s : Stands {R = nat_cmp} row_of c.self.inside.rows.items c.args.self.now.rows = record { order = c.self.invariant; is = ap (λ t. t.rows) c.self.view_is } in
    let h = answered nat_cmp row_of c.deref.result.now.0 c.as_slice.result.now c.self.inside.rows.items c.place.result _ c.as_slice.ensures.value c.place.ensures c.in-Ok.is in
    let k = ap (λ e. place_of nat_cmp e.0 (map_list row_of c.self.inside.rows.items)) (sym c.deref.ensures) ∙ h in
    replaced numbers row_of c.self.inside.rows.items c.args.self.now.rows s c.args.row.value.0 c.in-Ok.at k c.args.row c.args.row.value.1 refl

pub returns-in-Ok-clause-spare : goal.returns-in-Ok-clause-spare
returns-in-Ok-clause-spare g c =
    let s : Stands {R = nat_cmp} row_of c.self.inside.rows.items c.args.self.now.rows = record { order = c.self.invariant; is = ap (λ t. t.rows) c.self.view_is } in
    let h = answered nat_cmp row_of c.deref.result.now.0 c.as_slice.result.now c.self.inside.rows.items c.place.result _ c.as_slice.ensures.value c.place.ensures c.in-Ok.is in
    let k = ap (λ e. place_of nat_cmp e.0 (map_list row_of c.self.inside.rows.items)) (sym c.deref.ensures) ∙ h in
    let was : c.self.inside.rows.cap - c.self.inside.rows.len ≡ c.args.self.now.spare = ap (λ t. t.spare) c.self.view_is in
    ap (λ n. n + 1) was ∙ ap (λ b. cond b (c.args.self.now.spare + 1) c.args.self.now.spare) (is_there numbers row_of c.self.inside.rows.items c.args.self.now.rows s c.args.row.value.0 c.in-Ok.at k)

pub returns-in-Err-clause-rows : goal.returns-in-Err-clause-rows
returns-in-Err-clause-rows g c =
    let s : Stands {R = nat_cmp} row_of c.self.inside.rows.items c.args.self.now.rows = record { order = c.self.invariant; is = ap (λ t. t.rows) c.self.view_is } in
    let h = answered nat_cmp row_of c.deref.result.now.0 c.as_slice.result.now c.self.inside.rows.items c.place.result _ c.as_slice.ensures.value c.place.ensures c.in-Err.is in
    let k = ap (λ e. place_of nat_cmp e.0 (map_list row_of c.self.inside.rows.items)) (sym c.deref.ensures) ∙ h in
    rw c.put.ensures.items (inserted numbers row_of c.self.inside.rows.items c.args.self.now.rows s c.args.row.value.0 c.in-Err.at k c.args.row c.args.row.value.1 refl)

pub returns-in-Err-clause-spare : goal.returns-in-Err-clause-spare
returns-in-Err-clause-spare g c =
    let s : Stands {R = nat_cmp} row_of c.self.inside.rows.items c.args.self.now.rows = record { order = c.self.invariant; is = ap (λ t. t.rows) c.self.view_is } in
    let h = answered nat_cmp row_of c.deref.result.now.0 c.as_slice.result.now c.self.inside.rows.items c.place.result _ c.as_slice.ensures.value c.place.ensures c.in-Err.is in
    let k = ap (λ e. place_of nat_cmp e.0 (map_list row_of c.self.inside.rows.items)) (sym c.deref.ensures) ∙ h in
    let was : c.self.inside.rows.cap - c.self.inside.rows.len ≡ c.args.self.now.spare = ap (λ t. t.spare) c.self.view_is in
    let ok = c.self.inside.rows.ok in
    let free = c.requires in
    let fewer : (c.put.new.rows.cap - c.put.new.rows.len) + 1 ≡ c.args.self.now.spare = omega (arith, c.put.ensures.len, c.put.ensures.capacity) in
    fewer ∙ ap (λ b. cond b (c.args.self.now.spare + 1) c.args.self.now.spare) (isnt_there numbers row_of c.self.inside.rows.items c.args.self.now.rows s c.args.row.value.0 c.in-Err.at k)
