use Rattle.std.proofs.Common.{◌≡◌, ap, ◌∙◌, sym, false, is_some}
use Rattle.std.specs.FinMap as map
use Rattle.dm_catalogue.proofs.Summing.{same_zero, known_zero}
use Rattle.dm_catalogue.proofs.homes.know.Goals as goal

pub returns-clause-same : goal.returns-clause-same
returns-clause-same c =
    same_zero c.args.homes.now.rows c.insert_reserved.new.self.rows c.args.vsn.0 c.in_ok-row.row.value.1 c.if-contains.ensures
    (ap (λ z. z.1.chunks) c.in_ok-row.ensures.ok) (ap (λ z. z.1.bytes) c.in_ok-row.ensures.ok)
    (c.insert_reserved.ensures.rows ∙ ap (λ z. map.insert c.reserve.new.self.rows z.0.0 c.in_ok-row.row.value.1) c.in_ok-row.ensures.ok
    ∙ ap (λ m. map.insert m c.args.vsn.0 c.in_ok-row.row.value.1) c.reserve.ensures.rows)

pub returns-clause-known : goal.returns-clause-known
returns-clause-known c =
    known_zero c.reserve.new.self.rows c.insert_reserved.new.self.rows c.args.vsn.0 c.in_ok-row.row.value.1
    (c.insert_reserved.ensures.rows ∙ ap (λ z. map.insert c.reserve.new.self.rows z.0.0 c.in_ok-row.row.value.1) c.in_ok-row.ensures.ok)
