use Rattle.std.proofs.Common.{◌≡◌, Some, ap, sym, subst, ◌∙◌, length}
use Rattle.std.specs.FinMap as map
use Rattle.dm_rows.proofs.Methods.{value_of_row}
use Rattle.dm_places.proofs.OfVolumes.{again, key_of_row, left_alone, drops_none, drops_of}
use Rattle.dm_places.specs.Queue.{DropsSpot, Queue}
use Rattle.dm_places.specs.Order.{IsFirst}
use Rattle.dm_places.specs.declared.spot.Spot.{Spot}
use Rattle.std.proofs.Common.{◌+◌, ◌-◌}
use Rattle.dm_places.proofs.queues.Queues.drop_first.Goals as goal

pub returns-in_default : goal.returns-in_default
returns-in_default c =
    let none = left_alone c.args.self.now.rows.rows c.take.new.self.rows c.args.vsn.0 c.in_default.ensures.row c.take.ensures.rows in
    drops_none c.args.self.now.rows.rows c.take.new.self.rows c.args.vsn.0 none.0 none.1

pub returns : goal.returns
returns c =
    let old = c.args.self.now.rows.rows in
    let vsn = c.args.vsn.0 in
    let before = c.in-Some.row.value.1 in
    let was : map.get old vsn ≡ Some before = sym (value_of_row vsn (c.in-Some.row.value.0.0, before) (map.get old vsn) c.in-Some.ensures.row) in
    let key : c.deref_mut.result.now.0.0 ≡ vsn = ap (λ z. z.0.0) c.deref_mut.ensures.value ∙ key_of_row vsn (c.in-Some.row.value.0.0, before) (map.get old vsn) c.in-Some.ensures.row in
    let put = again old c.take.new.self.rows c.insert_reserved.new.self.rows vsn c.deref_mut.result.now.0.0 c.drop_first.new.self c.take.ensures.rows key c.insert_reserved.ensures.rows in
    let same : c.deref_mut.result.now.1 ≡ before = ap (λ z. z.1) c.deref_mut.ensures.value in
    drops_of old c.insert_reserved.new.self.rows vsn c.drop_first.new.self put before was
    (subst (λ (q : Queue). (x : Spot) → IsFirst q.spots x → DropsSpot q x c.drop_first.new.self) same c.drop_first.ensures.dropped)
    (c.drop_first.ensures.len ∙ ap (λ (q : Queue). length q.spots - 1) same)
    (c.drop_first.ensures.places ∙ ap (λ (q : Queue). q.spare + length q.spots) same)
