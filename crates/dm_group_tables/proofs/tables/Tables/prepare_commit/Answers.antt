use Rattle.std.proofs.Common.{◌≡◌, ◌+◌, ◌∙◌, ap, sym, subst, refl, arith}
use Rattle.dm_catalogue.specs.Sums.{KeepsHomes, Known}
use Rattle.dm_durable.specs.GroupConditions.{Joins}
use Rattle.dm_places.specs.Queues.{KeepsFewer, KeepsMore}
use Rattle.dm_places.proofs.OfVolumes.{kept_back}
use Rattle.dm_group_tables.proofs.Rooms.{at_err, has_places, one_more, room_kept}
use Rattle.dm_group_tables.proofs.tables.Tables.prepare_commit.Goals as goal

pub returns-in_err-row-clause-as_before : goal.returns-in_err-row-clause-as_before
returns-in_err-row-clause-as_before c = at_err c.from_residual.result (room_kept c.args.self.now)

pub returns-in_err-_known-clause-as_before : goal.returns-in_err-_known-clause-as_before
returns-in_err-_known-clause-as_before c =
    at_err c.from_residual-in_err-_known.result (record {
      volumes = omega arith;
      bitfiles = c.know.ensures.promised;
      chunks = c.in_err-_known.ensures.err;
      homes = c.know.ensures.kept;
    })

pub returns-in-Ok-clause-ready : goal.returns-in-Ok-clause-ready
returns-in-Ok-clause-ready c =
    let same = c.as_slice.ensures ∙ ap (λ z. z.1.chunks) c.deref.ensures in
    let more =
    subst (λ q. KeepsMore c.args.self.now.catalogue.queues.rows.rows c.as_slice.result.now q.rows.rows) (sym c.reserve.ensures.queues) c.in_ok-_known.ensures.ok
    in (
      one_more c.know.new.self.promised c.reserve.new.self.promised c.in-Ok.ensures.ok,
      subst (λ r. Joins 0 r.1.chunks r.1.len) (sym c.in_ok-row.ensures.ok) c.requires,
      subst (Known c.reserve.new.self.homes.rows) same (subst (λ h. Known h.rows c.as_slice.result.now) (sym c.reserve.ensures.homes) c.in_ok-_known.ensures.known),
      has_places c.args.self.now.catalogue.queues.rows.rows c.reserve.new.self.queues.rows.rows c.in_ok-row.row.value.1.chunks
          (subst (λ cs. KeepsMore c.args.self.now.catalogue.queues.rows.rows cs c.reserve.new.self.queues.rows.rows) same more),
    )

pub returns-in-Ok-clause-room : goal.returns-in-Ok-clause-room
returns-in-Ok-clause-room c =
    let same = c.as_slice.ensures ∙ ap (λ z. z.1.chunks) c.deref.ensures in
    record {
      volumes = omega arith;
      bitfiles = c.in-Ok.ensures.ok ∙ ap (λ n. n + 1) c.know.ensures.promised;
      chunks =
          subst (λ cs. KeepsMore c.args.self.now.catalogue.queues.rows.rows cs c.reserve.new.self.queues.rows.rows) same
          (subst (λ q. KeepsMore c.args.self.now.catalogue.queues.rows.rows c.as_slice.result.now q.rows.rows) (sym c.reserve.ensures.queues) c.in_ok-_known.ensures.ok);
      homes = subst (λ h. KeepsHomes c.args.self.now.catalogue.homes.rows h.rows) (sym c.reserve.ensures.homes) c.know.ensures.kept;
    }

pub returns-in-Err-clause-as_before : goal.returns-in-Err-clause-as_before
returns-in-Err-clause-as_before c =
    let first = c.as_slice.ensures ∙ ap (λ z. z.1.chunks) c.deref.ensures in
    let second = c.as_slice-in-Err.ensures ∙ ap (λ z. z.1.chunks) c.deref-in-Err.ensures in
    record {
      volumes = omega arith;
      bitfiles = c.forget.ensures.promised ∙ (c.in-Err.ensures.err ∙ c.know.ensures.promised);
      chunks =
          kept_back c.args.self.now.catalogue.queues.rows.rows c.reserve.new.self.queues.rows.rows c.forget.new.self.queues.rows.rows c.in_ok-row.row.value.1.chunks
          (subst (λ cs. KeepsMore c.args.self.now.catalogue.queues.rows.rows cs c.reserve.new.self.queues.rows.rows) first
          (subst (λ q. KeepsMore c.args.self.now.catalogue.queues.rows.rows c.as_slice.result.now q.rows.rows) (sym c.reserve.ensures.queues) c.in_ok-_known.ensures.ok))
          (subst (λ cs. KeepsFewer c.reserve.new.self.queues.rows.rows cs c.forget.new.self.queues.rows.rows) second c.forget.ensures.places);
      homes = subst (λ h. KeepsHomes c.args.self.now.catalogue.homes.rows h.rows) (sym (c.forget.ensures.homes ∙ c.reserve.ensures.homes)) c.know.ensures.kept;
    }
