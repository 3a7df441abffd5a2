use Rattle.std.proofs.Common.{◌≡◌, ◌∷◌, Some, ap, sym, subst, ◌∙◌}
use Rattle.std.specs.FinMap as map
use Rattle.dm_rows.proofs.Methods.{value_of_row}
use Rattle.dm_places.proofs.OfVolumes.{again, key_of_row, puts_of}
use Rattle.dm_places.specs.Queue.{Queue}
use Rattle.std.specs.List.Sorted.{IsPermutation}
use Rattle.dm_places.proofs.queues.Queues.put.Goals as goal

pub returns : goal.returns
returns c =
    let old = c.args.self.now.rows.rows in
    let vsn = c.args.vsn.0 in
    let before = c.in-Some.row.value.1 in
    let was : map.get old vsn ≡ Some before = sym (value_of_row vsn (c.in-Some.row.value.0.0, before) (map.get old vsn) c.in-Some.ensures.row) in
    let key : c.deref_mut.result.now.0.0 ≡ vsn = ap (λ z. z.0.0) c.deref_mut.ensures.value ∙ key_of_row vsn (c.in-Some.row.value.0.0, before) (map.get old vsn) c.in-Some.ensures.row in
    let put = again old c.take.new.self.rows c.insert_reserved.new.self.rows vsn c.deref_mut.result.now.0.0 c.push.new.self c.take.ensures.rows key c.insert_reserved.ensures.rows in
    puts_of old c.insert_reserved.new.self.rows vsn c.push.new.self put c.args.spot before was
    (subst (λ (q : Queue). IsPermutation (c.args.spot ∷ q.spots) c.push.new.self.spots) (ap (λ z. z.1) c.deref_mut.ensures.value) c.push.ensures.spots)
    (c.push.ensures.spare ∙ ap (λ z. z.1.spare) c.deref_mut.ensures.value)
