use Rattle.std.proofs.Common.{◌∙◌}
use Rattle.dm_group_usage.proofs.Listed.{listed_begin, listed_more, listed_none, listed_end}
use Rattle.dm_group_usage.proofs.listing.volumes_listed.Goals as goal

pub loop-text-init : goal.loop-text-init
loop-text-init g c = listed_begin (g.L.Listing.listed c.args.listing.now) _ _ c.args.volumes.now c.new-rows.ensures.items (c.into_iter-text-iterator.ensures.into_iter_gives ∙ c.entries-text-items.ensures.rest)

pub loop-text-preserved : goal.loop-text-preserved
loop-text-preserved g c = listed_none (g.L.Listing.listed c.args.listing.now) c.loop-text.rows.items c.loop-text.text-iterator c.next.new.self c.in-Some.text.now c.in-Some.row.now _ c.in-Some.ensures.steps c.in_default.ensures c.loop-text.invariant

pub loop-text-preserved-in-Continue-1 : goal.loop-text-preserved-in-Continue-1
loop-text-preserved-in-Continue-1 g c = listed_more (g.L.Listing.listed c.args.listing.now) c.loop-text.rows.items c.push.new.self.items c.loop-text.text-iterator c.next.new.self c.in-Some.text.now c.in-Some.row.now _ _ c.in-Some.ensures.steps c.in-Some-volume_listed.ensures c.in_ok-push.ensures.items c.loop-text.invariant

pub returns : goal.returns
returns g c = c.from_vec.ensures ∙ listed_end (g.L.Listing.listed c.args.listing.now) c.loop-text.rows.items _ _ c.in-None.ensures.steps.0 c.loop-text.invariant
