use Rattle.std.proofs.Common.{◌≡◌, ap, sym, subst, ◌∙◌}
use Rattle.std.specs.FinMap as map
use Rattle.dm_tables.proofs.Orders.{numbers}
use Rattle.dm_tables.proofs.Rows.{removed-here, insert-remove}
use Rattle.dm_catalogue.proofs.Summing.{known_kept}
use Rattle.dm_places.specs.Queues.{HasPlaces, UsesPlaces}
use Rattle.dm_places.specs.declared.queues.Queues.{Queues}
use Rattle.dm_catalogue.proofs.catalogue.Catalogue.insert.Goals as goal

pub put-requires-clause-new : goal.put-requires-clause-new
put-requires-clause-new c =
    ap (λ m. map.get m c.args.row.value.0) (c.remove.ensures.rows ∙ ap (λ z. map.remove c.args.self.now.rows.rows z.0) c.deref.ensures)
    ∙ removed-here numbers c.args.self.now.rows.rows c.args.row.value.0

pub put-requires-clause-known : goal.put-requires-clause-known
put-requires-clause-known c = known_kept c.args.self.now.homes.rows c.remove.new.self.homes.rows c.args.row.value.1.chunks c.remove.ensures.kept c.requires.known

pub returns-clause-rows : goal.returns-clause-rows
returns-clause-rows c =
    c.put.ensures.rows
    ∙ ap (λ m. map.insert m c.args.row.value.0 c.args.row.value.1) (c.remove.ensures.rows ∙ ap (λ z. map.remove c.args.self.now.rows.rows z.0) c.deref.ensures)
    ∙ insert-remove numbers c.args.self.now.rows.rows c.args.row.value.0 c.args.row.value.1

pub put-requires-clause-room : goal.put-requires-clause-room
put-requires-clause-room c = subst (λ (q : Queues). HasPlaces q.rows.rows c.args.row.value.1.chunks) (sym c.remove.ensures.queues) c.requires.room

pub returns-clause-places : goal.returns-clause-places
returns-clause-places c = subst (λ (q : Queues). UsesPlaces q.rows.rows c.args.row.value.1.chunks c.put.new.self.queues.rows.rows) c.remove.ensures.queues c.put.ensures.places
