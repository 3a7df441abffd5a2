use Rattle.std.proofs.Common.{◌≡◌, ◌<◌, ◌^◌, ap, sym, ◌∙◌, subst}
use Rattle.std.specs.FinMap as map
use Rattle.dm_catalogue.specs.Sums.{IsWhole, KeepsHomes, with_all}
use Rattle.dm_tables.specs.Rows.{EachRow}
use Rattle.dm_tables.proofs.Orders.{numbers}
use Rattle.dm_tables.proofs.Rows.{each-insert}
use Rattle.dm_catalogue.proofs.Summing.{summed_in, more_keeps}
use Rattle.dm_catalogue.proofs.Queueing.{places_put, put_parts, queued_in, room_left}
use Rattle.dm_places.specs.Queues.{HasPlaces, UsesPlaces}
use Rattle.dm_catalogue.proofs.catalogue.Catalogue.put.Goals as goal

pub invariant_of-self : goal.invariant_of-self
invariant_of-self c =
    let new : IsWhole c.args.row.value.1 = record {
      joins = c.requires.whole;
      small = subst (λ n. n < 2 ^ 64) (c.length-small.ensures ∙ ap (λ z. z.1.len) c.deref.ensures) c.length-small.type_inv;
    } in
    record {
      whole = subst (λ m. EachRow m (λ b r. IsWhole r)) (sym c.insert_reserved.ensures.rows) (each-insert numbers (λ b r. IsWhole r) c.args.self.now.rows.rows c.args.row.value.0 c.args.row.value.1 new c.args.self.now.whole);
      summed =
          summed_in c.args.self.now.homes.rows c.add_all.new.homes.rows c.args.self.now.rows.rows c.insert_reserved.new.self.rows c.args.row.value.0 c.args.row.value.1
          c.args.self.now.whole (subst (λ n. n < 2 ^ 63) c.len-few.ensures.len c.len-few.ensures.small) c.requires.new new c.requires.known
          (c.add_all.ensures ∙ ap (λ cs. with_all cs c.args.self.now.homes.rows) (c.as_slice.ensures ∙ ap (λ z. z.1.chunks) c.deref-2.ensures))
          c.insert_reserved.ensures.rows c.args.self.now.summed;
      queued =
          queued_in c.args.self.now.queues.rows.rows c.put_all.new.self.rows.rows c.args.self.now.rows.rows c.insert_reserved.new.self.rows c.args.row.value.0 c.args.row.value.1
          (put_parts c.args.self.now.queues.rows.rows c.put_all.new.self.rows.rows _ _ _ _ (ap (λ z. z.0) c.deref-3.ensures) (c.as_slice-2.ensures ∙ ap (λ z. z.1.chunks) c.deref-4.ensures) c.put_all.ensures)
          c.insert_reserved.ensures.rows c.args.self.now.queued;
      room = room_left c.args.self.now.promised c.args.self.now.rows.spare c.insert_reserved.new.self.spare _ c.requires.place c.args.self.now.room c.insert_reserved.ensures.spare;
    }

pub returns-clause-kept : goal.returns-clause-kept
returns-clause-kept c = subst (KeepsHomes c.args.self.now.homes.rows) (sym c.add_all.ensures) (more_keeps c.as_slice.result.now c.args.self.now.homes.rows)

pub put_all-requires : goal.put_all-requires
put_all-requires c = subst (HasPlaces c.args.self.now.queues.rows.rows) (sym (c.as_slice-2.ensures ∙ ap (λ z. z.1.chunks) c.deref-4.ensures)) c.requires.room

pub returns-clause-places : goal.returns-clause-places
returns-clause-places c =
    subst (λ cs. UsesPlaces c.args.self.now.queues.rows.rows cs c.put_all.new.self.rows.rows) (c.as_slice-2.ensures ∙ ap (λ z. z.1.chunks) c.deref-4.ensures)
    (places_put c.args.self.now.queues.rows.rows c.put_all.new.self.rows.rows _ _ c.put_all.ensures)
