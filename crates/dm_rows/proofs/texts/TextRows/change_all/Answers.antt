use Rattle.std.proofs.Common.{ap, subst, ◌≡◌, ◌∙◌, length, sym, IsTrue, map as map_list}
use Rattle.std.specs.Ordering.{nat_cmp}
use Rattle.std.specs.Cmp.Lexicographic.{slice_cmp}
use Rattle.dm_tables.proofs.Orders.{paths}
use Rattle.dm_rows.specs.Places.{text_row_of}
use Rattle.std.specs.FinMap.{is_sorted, from_entries}
use Rattle.dm_tables.specs.Rows.{changed}
use Rattle.dm_rows.proofs.Methods.{Stands, refilled, all_edited, all_order, text_edits_all}
use Rattle.dm_rows.proofs.texts.TextRows.change_all.Goals as goal

pub invariant_of-self : goal.invariant_of-self
invariant_of-self g c =
    let s : Stands {R = (slice_cmp nat_cmp)} (text_row_of g.K.Text.text) c.self.inside.rows.items c.args.self.now.rows = record { order = c.self.invariant; is = ap (λ t. t.rows) c.self.view_is } in
    let as_many : length c.edit_all.new.rows ≡ length c.self.inside.rows.items = c.edit_all.auto.rows ∙ ap length c.as_mut_slice.ensures.value in
    let back = refilled (text_row_of g.K.Text.text) c.edit_all.new.rows c.self.inside.rows.items c.self.inside.rows.len c.self.inside.rows.ok.0 as_many in
    let e = text_edits_all g.K.Text.text (g.F.Edit.edited c.args.edit.now) c.as_mut_slice.result.now c.edit_all.new.rows c.edit_all.ensures ∙ ap (λ l. changed (λ _. g.F.Edit.edited c.args.edit.now) (map_list (text_row_of g.K.Text.text) l)) c.as_mut_slice.ensures.value in
    subst (λ l. IsTrue (is_sorted (slice_cmp nat_cmp) l)) (sym back) (all_order paths (text_row_of g.K.Text.text) c.self.inside.rows.items c.args.self.now.rows s (g.F.Edit.edited c.args.edit.now) c.edit_all.new.rows e)

pub returns-clause-rows : goal.returns-clause-rows
returns-clause-rows g c =
    let s : Stands {R = (slice_cmp nat_cmp)} (text_row_of g.K.Text.text) c.self.inside.rows.items c.args.self.now.rows = record { order = c.self.invariant; is = ap (λ t. t.rows) c.self.view_is } in
    let as_many : length c.edit_all.new.rows ≡ length c.self.inside.rows.items = c.edit_all.auto.rows ∙ ap length c.as_mut_slice.ensures.value in
    let back = refilled (text_row_of g.K.Text.text) c.edit_all.new.rows c.self.inside.rows.items c.self.inside.rows.len c.self.inside.rows.ok.0 as_many in
    let e = text_edits_all g.K.Text.text (g.F.Edit.edited c.args.edit.now) c.as_mut_slice.result.now c.edit_all.new.rows c.edit_all.ensures ∙ ap (λ l. changed (λ _. g.F.Edit.edited c.args.edit.now) (map_list (text_row_of g.K.Text.text) l)) c.as_mut_slice.ensures.value in
    ap (from_entries {R = (slice_cmp nat_cmp)}) back ∙ all_edited paths (text_row_of g.K.Text.text) c.self.inside.rows.items c.args.self.now.rows s (g.F.Edit.edited c.args.edit.now) c.edit_all.new.rows e
