use Rattle.std.proofs.Common.{ap, subst, ◌<◌, ◌≡◌, ◌∙◌, length, sym, IsTrue, map as map_list}
use Rattle.std.specs.Ordering.{nat_cmp}
use Rattle.dm_tables.proofs.Orders.{numbers}
use Rattle.dm_rows.specs.Places.{row_of}
use Rattle.std.specs.FinMap.{is_sorted, from_entries}
use Rattle.dm_rows.specs.Places.{EditsAt}
use Rattle.dm_rows.proofs.Methods.{Stands, answered, hit_within, is_there, isnt_there, edited, edited_order, not_edited, refilled}
use Rattle.dm_rows.proofs.numbers.NumberRows.change.Goals as goal

pub edit_at-requires : goal.edit_at-requires
edit_at-requires g c =
    let s : Stands {R = nat_cmp} row_of c.self.inside.rows.items c.args.self.now.rows = record { order = c.self.invariant; is = ap (λ t. t.rows) c.self.view_is } in
    let h = answered nat_cmp row_of c.args.key c.as_slice.result.now c.self.inside.rows.items c.place.result _ c.as_slice.ensures.value c.place.ensures c.in-Ok.is in
    let within = hit_within numbers row_of c.self.inside.rows.items c.args.self.now.rows s c.args.key c.in-Ok.at h in
    subst (λ l. c.in-Ok.at < length l) (sym c.as_mut_slice.ensures.value) within

pub invariant_of-self : goal.invariant_of-self
invariant_of-self g c =
    let s : Stands {R = nat_cmp} row_of c.self.inside.rows.items c.args.self.now.rows = record { order = c.self.invariant; is = ap (λ t. t.rows) c.self.view_is } in
    let h = answered nat_cmp row_of c.args.key c.as_slice.result.now c.self.inside.rows.items c.place.result _ c.as_slice.ensures.value c.place.ensures c.in-Ok.is in
    let as_many : length c.edit_at.new.rows ≡ length c.self.inside.rows.items = c.edit_at.auto.rows ∙ ap length c.as_mut_slice.ensures.value in
    let back = refilled row_of c.edit_at.new.rows c.self.inside.rows.items c.self.inside.rows.len c.self.inside.rows.ok.0 as_many in
    let e = subst (λ l. EditsAt (g.F.Edit.edited c.args.edit.now) c.in-Ok.at (map_list row_of l) (map_list row_of c.edit_at.new.rows)) c.as_mut_slice.ensures.value c.edit_at.ensures in
    subst (λ l. IsTrue (is_sorted nat_cmp l)) (sym back) (edited_order numbers row_of c.self.inside.rows.items c.args.self.now.rows s c.args.key c.in-Ok.at h (g.F.Edit.edited c.args.edit.now) c.edit_at.new.rows e)

pub returns-in-Ok-clause-there : goal.returns-in-Ok-clause-there
returns-in-Ok-clause-there g c =
    let s : Stands {R = nat_cmp} row_of c.self.inside.rows.items c.args.self.now.rows = record { order = c.self.invariant; is = ap (λ t. t.rows) c.self.view_is } in
    let h = answered nat_cmp row_of c.args.key c.as_slice.result.now c.self.inside.rows.items c.place.result _ c.as_slice.ensures.value c.place.ensures c.in-Ok.is in
    is_there numbers row_of c.self.inside.rows.items c.args.self.now.rows s c.args.key c.in-Ok.at h

pub returns-in-Ok-clause-rows : goal.returns-in-Ok-clause-rows
returns-in-Ok-clause-rows g c =
    let s : Stands {R = nat_cmp} row_of c.self.inside.rows.items c.args.self.now.rows = record { order = c.self.invariant; is = ap (λ t. t.rows) c.self.view_is } in
    let h = answered nat_cmp row_of c.args.key c.as_slice.result.now c.self.inside.rows.items c.place.result _ c.as_slice.ensures.value c.place.ensures c.in-Ok.is in
    let as_many : length c.edit_at.new.rows ≡ length c.self.inside.rows.items = c.edit_at.auto.rows ∙ ap length c.as_mut_slice.ensures.value in
    let back = refilled row_of c.edit_at.new.rows c.self.inside.rows.items c.self.inside.rows.len c.self.inside.rows.ok.0 as_many in
    let e = subst (λ l. EditsAt (g.F.Edit.edited c.args.edit.now) c.in-Ok.at (map_list row_of l) (map_list row_of c.edit_at.new.rows)) c.as_mut_slice.ensures.value c.edit_at.ensures in
    ap (from_entries {R = nat_cmp}) back ∙ edited numbers row_of c.self.inside.rows.items c.args.self.now.rows s c.args.key c.in-Ok.at h (g.F.Edit.edited c.args.edit.now) c.edit_at.new.rows e

pub returns-in-Err-clause-there : goal.returns-in-Err-clause-there
returns-in-Err-clause-there g c =
    let s : Stands {R = nat_cmp} row_of c.self.inside.rows.items c.args.self.now.rows = record { order = c.self.invariant; is = ap (λ t. t.rows) c.self.view_is } in
    let h = answered nat_cmp row_of c.args.key c.as_slice.result.now c.self.inside.rows.items c.place.result _ c.as_slice.ensures.value c.place.ensures c.in-Err.is in
    isnt_there numbers row_of c.self.inside.rows.items c.args.self.now.rows s c.args.key c.in-Err.field-0 h

pub returns-in-Err-clause-rows : goal.returns-in-Err-clause-rows
returns-in-Err-clause-rows g c =
    let s : Stands {R = nat_cmp} row_of c.self.inside.rows.items c.args.self.now.rows = record { order = c.self.invariant; is = ap (λ t. t.rows) c.self.view_is } in
    let h = answered nat_cmp row_of c.args.key c.as_slice.result.now c.self.inside.rows.items c.place.result _ c.as_slice.ensures.value c.place.ensures c.in-Err.is in
    not_edited numbers row_of c.self.inside.rows.items c.args.self.now.rows s c.args.key c.in-Err.field-0 h _
