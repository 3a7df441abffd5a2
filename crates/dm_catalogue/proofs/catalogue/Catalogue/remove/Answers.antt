use Rattle.std.proofs.Common.{◌≡◌, ap, sym, ◌∙◌, subst}
use Rattle.dm_catalogue.specs.Sums.{IsWhole, KeepsHomes, Summed, without_all}
use Rattle.dm_rows.proofs.Methods.{no_value, value_of_row}
use Rattle.dm_tables.specs.Rows.{EachRow}
use Rattle.dm_tables.proofs.Orders.{numbers}
use Rattle.dm_tables.proofs.Rows.{each-remove, remove-none}
use Rattle.dm_catalogue.proofs.Summing.{summed_out, fewer_keeps}
use Rattle.dm_catalogue.proofs.Queueing.{queued_out, room_more}
use Rattle.dm_catalogue.proofs.catalogue.Catalogue.remove.Goals as goal

pub invariant_of-self : goal.invariant_of-self
invariant_of-self c = record {
  whole = subst (λ m. EachRow m (λ b r. IsWhole r)) (sym c.take.ensures.rows) (each-remove numbers (λ b r. IsWhole r) c.args.self.now.rows.rows c.args.bfid.0 c.args.self.now.whole);
  summed =
      subst (Summed c.args.self.now.homes.rows)
      (sym (c.take.ensures.rows ∙ remove-none numbers c.args.self.now.rows.rows c.args.bfid.0 (sym (no_value c.args.bfid.0 _ c.in_default.ensures.row)))) c.args.self.now.summed;
  queued = queued_out c.args.self.now.queues.rows.rows c.args.self.now.rows.rows c.take.new.self.rows c.args.bfid.0 c.take.ensures.rows c.args.self.now.queued;
  room = room_more c.args.self.now.promised c.args.self.now.rows.spare c.take.new.self.spare _ c.args.self.now.room c.take.ensures.spare;
}

pub invariant_of-self-2 : goal.invariant_of-self-2
invariant_of-self-2 c = record {
  whole = subst (λ m. EachRow m (λ b r. IsWhole r)) (sym c.take.ensures.rows) (each-remove numbers (λ b r. IsWhole r) c.args.self.now.rows.rows c.args.bfid.0 c.args.self.now.whole);
  summed =
      summed_out c.args.self.now.homes.rows c.take_all.new.homes.rows c.args.self.now.rows.rows c.take.new.self.rows c.args.bfid.0 c.in-Some.row.value.1
      (sym (value_of_row c.args.bfid.0 c.in-Some.row.value _ c.in-Some.ensures.row))
      (c.take_all.ensures ∙ ap (λ cs. without_all cs c.args.self.now.homes.rows) (c.as_slice.ensures ∙ ap (λ z. z.1.chunks) c.deref.ensures))
      c.take.ensures.rows c.args.self.now.summed;
  queued = queued_out c.args.self.now.queues.rows.rows c.args.self.now.rows.rows c.take.new.self.rows c.args.bfid.0 c.take.ensures.rows c.args.self.now.queued;
  room = room_more c.args.self.now.promised c.args.self.now.rows.spare c.take.new.self.spare _ c.args.self.now.room c.take.ensures.spare;
}

pub returns-clause-kept : goal.returns-clause-kept
returns-clause-kept c = subst (KeepsHomes c.args.self.now.homes.rows) (sym c.take_all.ensures) (fewer_keeps c.as_slice.result.now c.args.self.now.homes.rows)
