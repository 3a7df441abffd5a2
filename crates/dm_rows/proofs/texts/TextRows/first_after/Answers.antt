use Rattle.std.proofs.Common.{ap, sym, ◌∙◌, arith, slice_get, add-one, option_map}
use Rattle.std.specs.Ordering.{nat_cmp}
use Rattle.std.specs.Cmp.Lexicographic.{slice_cmp}
use Rattle.dm_tables.proofs.Orders.{paths}
use Rattle.dm_rows.specs.Places.{text_row_of}
use Rattle.std.specs.FinMap.{entries}
use Rattle.dm_tables.specs.Rows.{row_after}
use Rattle.dm_rows.proofs.Methods.{Stands, answered, hit_within, past_there, past_gap, first_is}
use Rattle.dm_rows.proofs.texts.TextRows.first_after.Goals as goal

pub overflow_add-at : goal.overflow_add-at
overflow_add-at g c =
    let s : Stands {R = (slice_cmp nat_cmp)} (text_row_of g.K.Text.text) c.self.inside.rows.items c.args.self.now.rows = record { order = c.self.invariant; is = ap (λ t. t.rows) c.self.view_is } in
    let h = answered (slice_cmp nat_cmp) (text_row_of g.K.Text.text) c.in-Some.key.now c.as_slice.result.now c.self.inside.rows.items c.place.result _ c.as_slice.ensures.value c.place.ensures c.in-Ok.is in
    let within = hit_within paths (text_row_of g.K.Text.text) c.self.inside.rows.items c.args.self.now.rows s c.in-Some.key.now c.in-Ok.at h in
    let ok = c.self.inside.rows.ok in
    let small = c.self.inside.rows.small in
    omega arith

pub returns-in-None : goal.returns-in-None
returns-in-None g c =
    let s : Stands {R = (slice_cmp nat_cmp)} (text_row_of g.K.Text.text) c.self.inside.rows.items c.args.self.now.rows = record { order = c.self.invariant; is = ap (λ t. t.rows) c.self.view_is } in
    c.entry.ensures ∙ sym (first_is paths (text_row_of g.K.Text.text) c.self.inside.rows.items c.args.self.now.rows s) ∙ ap (row_after c.args.self.now.rows) (ap (option_map (λ k. k.now)) (sym c.in-None.is))

pub returns-in-Ok : goal.returns-in-Ok
returns-in-Ok g c =
    let s : Stands {R = (slice_cmp nat_cmp)} (text_row_of g.K.Text.text) c.self.inside.rows.items c.args.self.now.rows = record { order = c.self.invariant; is = ap (λ t. t.rows) c.self.view_is } in
    let h = answered (slice_cmp nat_cmp) (text_row_of g.K.Text.text) c.in-Some.key.now c.as_slice.result.now c.self.inside.rows.items c.place.result _ c.as_slice.ensures.value c.place.ensures c.in-Ok.is in
    c.entry-in-Ok.ensures ∙ ap (slice_get (entries c.args.self.now.rows)) (add-one c.in-Ok.at) ∙ sym (past_there paths (text_row_of g.K.Text.text) c.self.inside.rows.items c.args.self.now.rows s c.in-Some.key.now c.in-Ok.at h) ∙ ap (row_after c.args.self.now.rows) (ap (option_map (λ k. k.now)) (sym c.in-Some.is))

pub returns-in-Err : goal.returns-in-Err
returns-in-Err g c =
    let s : Stands {R = (slice_cmp nat_cmp)} (text_row_of g.K.Text.text) c.self.inside.rows.items c.args.self.now.rows = record { order = c.self.invariant; is = ap (λ t. t.rows) c.self.view_is } in
    let h = answered (slice_cmp nat_cmp) (text_row_of g.K.Text.text) c.in-Some.key.now c.as_slice.result.now c.self.inside.rows.items c.place.result _ c.as_slice.ensures.value c.place.ensures c.in-Err.is in
    c.entry-in-Err.ensures ∙ sym (past_gap paths (text_row_of g.K.Text.text) c.self.inside.rows.items c.args.self.now.rows s c.in-Some.key.now c.in-Err.at h) ∙ ap (row_after c.args.self.now.rows) (ap (option_map (λ k. k.now)) (sym c.in-Some.is))
