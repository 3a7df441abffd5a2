use Rattle.std.proofs.Common.{◌≡◌, ◌<◌, ◌≤◌, ◌^◌, [], ◌∷◌, refl, sym, subst}
use Rattle.std.specs.FinMap as map
use Rattle.dm_catalogue.specs.Sums.{Finds, without_all, with_all}
use Rattle.dm_catalogue.proofs.Moving.{fits_there, none_changed, rows_moved, summed_moved, whole_moved}
use Rattle.dm_catalogue.proofs.Summing.{kept_moved}
use Rattle.dm_catalogue.proofs.Queueing.{places_put, places_same, queued_moved}
use Rattle.dm_catalogue.proofs.catalogue.Catalogue.move_chunk.Goals as goal

pub returns-in_default-clause-rows : goal.returns-in_default-clause-rows
returns-in_default-clause-rows c = none_changed c.args.self.now.rows.rows c.args.bfid.0 c.args.to c.in_default.ensures.none

pub invariant_of-self : goal.invariant_of-self
invariant_of-self c =
    let f : Finds (map.get c.args.self.now.rows.rows c.args.bfid.0) c.args.to.offset c.in-Some.at c.in-Some.from = c.in-Some.ensures.found in
    let long = fits_there (map.get c.args.self.now.rows.rows c.args.bfid.0) c.in-Some.at c.in-Some.from c.args.to f c.requires.len in
    record {
      whole =
          whole_moved c.args.self.now.rows.rows c.change-there.new.self.rows c.args.bfid.0 f.bitfile c.in-Some.at c.in-Some.from c.args.to
          c.args.self.now.whole f.is f.there (sym f.begins) long c.change-there.ensures.rows;
      summed =
          summed_moved c.args.self.now.homes.rows c.take_all.new.homes.rows c.add_all.new.homes.rows c.args.self.now.rows.rows c.change-there.new.self.rows c.args.bfid.0 f.bitfile c.in-Some.at c.in-Some.from c.args.to
          c.args.self.now.whole (subst (λ n. n < 2 ^ 63) c.len-few.ensures.len c.len-few.ensures.small) f.is f.there long c.requires.known
          c.take_all.ensures c.add_all.ensures c.change-there.ensures.rows c.args.self.now.summed;
      queued =
          queued_moved c.args.self.now.queues.rows.rows c.put_all.new.self.rows.rows c.args.self.now.rows.rows c.change-there.new.self.rows c.args.bfid.0 f.bitfile c.in-Some.at c.in-Some.from c.args.to
          f.is f.there c.put_all.ensures c.change-there.ensures.rows c.args.self.now.queued;
      room = subst (λ n. c.args.self.now.promised ≤ n) (sym c.change-there.ensures.spare) c.args.self.now.room;
    }

pub returns-clause-rows : goal.returns-clause-rows
returns-clause-rows c =
    let f : Finds (map.get c.args.self.now.rows.rows c.args.bfid.0) c.args.to.offset c.in-Some.at c.in-Some.from = c.in-Some.ensures.found in
    rows_moved c.args.self.now.rows.rows c.change-there.new.self.rows c.args.bfid.0 f.bitfile c.in-Some.at c.in-Some.from c.args.to
    c.args.self.now.whole f.is f.there f.begins c.change-there.ensures.rows

pub returns-clause-kept : goal.returns-clause-kept
returns-clause-kept c =
    kept_moved c.args.self.now.homes.rows c.take_all.new.homes.rows c.add_all.new.homes.rows (c.in-Some.from ∷ []) (c.args.to ∷ []) c.take_all.ensures c.add_all.ensures

pub returns-in_default-clause-places : goal.returns-in_default-clause-places
returns-in_default-clause-places c = places_same c.args.self.now.queues.rows.rows c.args.self.now.queues.rows.rows (c.args.to ∷ []) refl

pub returns-clause-places : goal.returns-clause-places
returns-clause-places c = places_put c.args.self.now.queues.rows.rows c.put_all.new.self.rows.rows c.args.bfid.0 (c.args.to ∷ []) c.put_all.ensures
