use Rattle.std.proofs.Common.{ap, arith, Some, ◌∙◌}
use Rattle.std.specs.Ordering.{nat_cmp}
use Rattle.std.specs.Cmp.Lexicographic.{slice_cmp}
use Rattle.dm_tables.proofs.Orders.{paths}
use Rattle.dm_rows.specs.Places.{text_row_of}
use Rattle.dm_rows.proofs.Methods.{Stands, answered, hit_within, row_there, none_there}
use Rattle.dm_rows.proofs.texts.TextRows.get.Goals as goal

pub index-requires : goal.index-requires
index-requires g c =
    let s : Stands {R = (slice_cmp nat_cmp)} (text_row_of g.K.Text.text) c.self.inside.rows.items c.args.self.now.rows = record { order = c.self.invariant; is = ap (λ t. t.rows) c.self.view_is } in
    let h = answered (slice_cmp nat_cmp) (text_row_of g.K.Text.text) c.args.key.now c.as_slice.result.now c.self.inside.rows.items c.place.result _ c.as_slice.ensures.value c.place.ensures c.in-Ok.is in
    let small = hit_within paths (text_row_of g.K.Text.text) c.self.inside.rows.items c.args.self.now.rows s c.args.key.now c.in-Ok.at h in
    let ok = c.self.inside.rows.ok in
    omega arith

pub returns-in-Ok : goal.returns-in-Ok
returns-in-Ok g c =
    let s : Stands {R = (slice_cmp nat_cmp)} (text_row_of g.K.Text.text) c.self.inside.rows.items c.args.self.now.rows = record { order = c.self.invariant; is = ap (λ t. t.rows) c.self.view_is } in
    let h = answered (slice_cmp nat_cmp) (text_row_of g.K.Text.text) c.args.key.now c.as_slice.result.now c.self.inside.rows.items c.place.result _ c.as_slice.ensures.value c.place.ensures c.in-Ok.is in
    ap (λ b. Some b.1) c.deref.ensures
    ∙ row_there paths (text_row_of g.K.Text.text) c.self.inside.rows.items c.args.self.now.rows s c.args.key.now c.in-Ok.at h c.index.result.now c.index.ensures

pub returns-in-Err : goal.returns-in-Err
returns-in-Err g c =
    let s : Stands {R = (slice_cmp nat_cmp)} (text_row_of g.K.Text.text) c.self.inside.rows.items c.args.self.now.rows = record { order = c.self.invariant; is = ap (λ t. t.rows) c.self.view_is } in
    let h = answered (slice_cmp nat_cmp) (text_row_of g.K.Text.text) c.args.key.now c.as_slice.result.now c.self.inside.rows.items c.place.result _ c.as_slice.ensures.value c.place.ensures c.in-Err.is in
    none_there paths (text_row_of g.K.Text.text) c.self.inside.rows.items c.args.self.now.rows s c.args.key.now c.in-Err.field-0 h
