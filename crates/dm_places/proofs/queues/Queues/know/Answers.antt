use Rattle.std.proofs.Common.{ap, ◌∙◌}
use Rattle.std.specs.FinMap as map
use Rattle.dm_places.proofs.OfVolumes.{keeps_new, known_new}
use Rattle.dm_places.proofs.queues.Queues.know.Goals as goal

pub returns-clause-same : goal.returns-clause-same
returns-clause-same c =
    keeps_new c.args.self.now.rows.rows c.insert_reserved.new.self.rows c.args.vsn.0 c.in_ok-row.row.value.1 c.if-contains.ensures
    (ap (λ z. z.1.spots) c.in_ok-row.ensures.ok ∙ c.empty.ensures.spots) (ap (λ z. z.1.spare) c.in_ok-row.ensures.ok ∙ c.empty.ensures.spare)
    (c.insert_reserved.ensures.rows ∙ ap (λ z. map.insert c.reserve.new.self.rows z.0.0 c.in_ok-row.row.value.1) c.in_ok-row.ensures.ok
    ∙ ap (λ m. map.insert m c.args.vsn.0 c.in_ok-row.row.value.1) c.reserve.ensures.rows)

pub returns-clause-known : goal.returns-clause-known
returns-clause-known c =
    known_new c.args.self.now.rows.rows c.insert_reserved.new.self.rows c.args.vsn.0 c.in_ok-row.row.value.1
    (c.insert_reserved.ensures.rows ∙ ap (λ z. map.insert c.reserve.new.self.rows z.0.0 c.in_ok-row.row.value.1) c.in_ok-row.ensures.ok
    ∙ ap (λ m. map.insert m c.args.vsn.0 c.in_ok-row.row.value.1) c.reserve.ensures.rows)
