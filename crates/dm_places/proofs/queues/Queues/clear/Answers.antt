use Rattle.std.proofs.Common.{◌≡◌, Some, ap, sym, ◌∙◌, length}
use Rattle.std.specs.FinMap as map
use Rattle.dm_rows.proofs.Methods.{value_of_row}
use Rattle.dm_places.proofs.OfVolumes.{again, key_of_row, left_alone, clears_none, clears_of}
use Rattle.dm_places.specs.Queue.{Queue}
use Rattle.std.proofs.Common.{◌+◌}
use Rattle.dm_places.proofs.queues.Queues.clear.Goals as goal

pub returns-in_default : goal.returns-in_default
returns-in_default c =
    let none = left_alone c.args.self.now.rows.rows c.take.new.self.rows c.args.vsn.0 c.in_default.ensures.row c.take.ensures.rows in
    clears_none c.args.self.now.rows.rows c.take.new.self.rows c.args.vsn.0 none.0 none.1

pub returns : goal.returns
returns c =
    let old = c.args.self.now.rows.rows in
    let vsn = c.args.vsn.0 in
    let before = c.in-Some.row.value.1 in
    let was : map.get old vsn ≡ Some before = sym (value_of_row vsn (c.in-Some.row.value.0.0, before) (map.get old vsn) c.in-Some.ensures.row) in
    let key : c.deref_mut.result.now.0.0 ≡ vsn = ap (λ z. z.0.0) c.deref_mut.ensures.value ∙ key_of_row vsn (c.in-Some.row.value.0.0, before) (map.get old vsn) c.in-Some.ensures.row in
    let put = again old c.take.new.self.rows c.insert_reserved.new.self.rows vsn c.deref_mut.result.now.0.0 c.clear.new.self c.take.ensures.rows key c.insert_reserved.ensures.rows in
    let same : c.deref_mut.result.now.1 ≡ before = ap (λ z. z.1) c.deref_mut.ensures.value in
    clears_of old c.insert_reserved.new.self.rows vsn c.clear.new.self put before was c.clear.ensures.spots
    (c.clear.ensures.spare ∙ ap (λ (q : Queue). q.spare + length q.spots) same)
