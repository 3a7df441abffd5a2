use Rattle.std.proofs.Common.{◌≡◌, [], length}
use Rattle.dm_places.specs.Queues.{UsesPlaces, spots_on}
use Rattle.dm_catalogue.proofs.catalogue.Catalogue.first_on.Given as goal

abbrev pub invariant-loop-left : goal.invariant-loop-left
invariant-loop-left l =
    (l.self.rows ≡ l.fn.self.rows) × (l.self.homes ≡ l.fn.self.homes) × (l.self.promised ≡ l.fn.self.promised)
    × UsesPlaces l.fn.self.queues.rows.rows [] l.self.queues.rows.rows × (length (spots_on l.self.queues.rows.rows l.vsn.0) ≡ l.left)

abbrev pub decreases-loop-left : goal.decreases-loop-left
decreases-loop-left l = l.left
