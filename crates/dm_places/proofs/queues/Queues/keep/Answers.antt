use Rattle.std.proofs.Common.{◌≡◌, ◌+◌, Some, ap, sym, ◌∙◌}
use Rattle.std.specs.FinMap as map
use Rattle.dm_rows.proofs.Methods.{value_of_row}
use Rattle.dm_places.proofs.OfVolumes.{again, keeps_one, keeps_same, key_of_row, on_err, on_ok}
use Rattle.dm_places.proofs.queues.Queues.keep.Goals as goal

pub returns-clause-ok : goal.returns-clause-ok
returns-clause-ok c =
    let old = c.know.new.self.rows.rows in
    let vsn = c.args.chunk.now.vsn.0 in
    let before = c.in-Some.row.value.1 in
    let was : map.get old vsn ≡ Some before = sym (value_of_row vsn (c.in-Some.row.value.0.0, before) (map.get old vsn) c.in-Some.ensures.row) in
    let key : c.deref_mut.result.now.0.0 ≡ vsn = ap (λ z. z.0.0) c.deref_mut.ensures.value ∙ key_of_row vsn (c.in-Some.row.value.0.0, before) (map.get old vsn) c.in-Some.ensures.row in
    let put = again old c.take.new.self.rows c.insert_reserved.new.self.rows vsn c.deref_mut.result.now.0.0 c.keep_one-kept.new.self c.take.ensures.rows key c.insert_reserved.ensures.rows in
    on_ok c.keep_one-kept.result (λ more.
    keeps_one c.args.self.now.rows.rows old c.insert_reserved.new.self.rows c.args.chunk.now before c.keep_one-kept.new.self c.know.ensures.same was put
    (c.keep_one-kept.ensures.spots ∙ ap (λ z. z.1.spots) c.deref_mut.ensures.value) (more ∙ ap (λ z. z.1.spare + 1) c.deref_mut.ensures.value)) c.keep_one-kept.ensures.ok

pub returns-clause-err : goal.returns-clause-err
returns-clause-err c =
    let old = c.know.new.self.rows.rows in
    let vsn = c.args.chunk.now.vsn.0 in
    let before = c.in-Some.row.value.1 in
    let was : map.get old vsn ≡ Some before = sym (value_of_row vsn (c.in-Some.row.value.0.0, before) (map.get old vsn) c.in-Some.ensures.row) in
    let key : c.deref_mut.result.now.0.0 ≡ vsn = ap (λ z. z.0.0) c.deref_mut.ensures.value ∙ key_of_row vsn (c.in-Some.row.value.0.0, before) (map.get old vsn) c.in-Some.ensures.row in
    let put = again old c.take.new.self.rows c.insert_reserved.new.self.rows vsn c.deref_mut.result.now.0.0 c.keep_one-kept.new.self c.take.ensures.rows key c.insert_reserved.ensures.rows in
    on_err c.keep_one-kept.result (λ same.
    keeps_same c.args.self.now.rows.rows old c.insert_reserved.new.self.rows vsn before c.keep_one-kept.new.self c.know.ensures.same was put
    (c.keep_one-kept.ensures.spots ∙ ap (λ z. z.1.spots) c.deref_mut.ensures.value) (same ∙ ap (λ z. z.1.spare) c.deref_mut.ensures.value)) c.keep_one-kept.ensures.err
