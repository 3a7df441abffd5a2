use Rattle.std.proofs.Common.{◌≡◌, ◌+◌, ◌-◌, [], None, Some, length, ap, refl, sym, subst, ◌∙◌, arith}
use Rattle.dm_durable.specs.Volumes.{first_on}
use Rattle.dm_places.specs.Queues.{spots_on}
use Rattle.dm_catalogue.specs.Merging.{live_of}
use Rattle.dm_catalogue.proofs.Queueing.{merged_none, none_left, places_same, places_then}
use Rattle.dm_catalogue.proofs.catalogue.Catalogue.first_on.Goals as goal

pub loop-left-init : goal.loop-left-init
loop-left-init c = (refl, refl, refl, places_same c.args.self.now.queues.rows.rows c.args.self.now.queues.rows.rows [] refl, sym c.len-left.ensures)

pub loop-left-preserved : goal.loop-left-preserved
loop-left-preserved c =
    let fewer = c.in-None.ensures.skipped in
    let was = c.loop-left.invariant.4 in (
      c.first_or_skip.ensures.rows ∙ c.loop-left.invariant.0,
      c.first_or_skip.ensures.homes ∙ c.loop-left.invariant.1,
      c.first_or_skip.ensures.promised ∙ c.loop-left.invariant.2,
      places_then c.args.self.now.queues.rows.rows c.loop-left.self.queues.rows.rows c.first_or_skip.new.self.queues.rows.rows c.loop-left.invariant.3 c.first_or_skip.ensures.places,
      omega arith,
    )

pub returns-in_default-clause-first : goal.returns-in_default-clause-first
returns-in_default-clause-first c =
    merged_none c.loop-left.self.rows.rows c.loop-left.self.whole c.args.vsn.0 c.loop-left.self.queues.rows.rows c.loop-left.self.queued c.in_default.ensures.none
    ∙ ap (λ r. first_on r.rows c.args.vsn.0) c.loop-left.invariant.0

pub returns-in-Some-first_or_skip-clause-first : goal.returns-in-Some-first_or_skip-clause-first
returns-in-Some-first_or_skip-clause-first c = c.in-Some-first_or_skip.ensures.found ∙ ap (λ r. first_on r.rows c.args.vsn.0) c.loop-left.invariant.0

pub returns-in-Some-first_or_skip-clause-places : goal.returns-in-Some-first_or_skip-clause-places
returns-in-Some-first_or_skip-clause-places c =
    places_then c.args.self.now.queues.rows.rows c.loop-left.self.queues.rows.rows c.first_or_skip.new.self.queues.rows.rows c.loop-left.invariant.3 c.first_or_skip.ensures.places

pub returns-clause-first : goal.returns-clause-first
returns-clause-first c =
    merged_none c.loop-left.self.rows.rows c.loop-left.self.whole c.args.vsn.0 c.loop-left.self.queues.rows.rows c.loop-left.self.queued
    (none_left (spots_on c.loop-left.self.queues.rows.rows c.args.vsn.0) (let t = c.loop-left-test.false in let w = c.loop-left.invariant.4 in omega arith))
    ∙ ap (λ r. first_on r.rows c.args.vsn.0) c.loop-left.invariant.0
