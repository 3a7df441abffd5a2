use Rattle.std.proofs.Common.{◌∙◌, false, option_map, refl, ap, sym}
use Rattle.dm_daemon.proofs.Calling.{not_true, noted_settled, one_landed, settled_state}
use Rattle.dm_daemon.proofs.Moments.{disk_settled}
use Rattle.dm_daemon.specs.Changed.{requests_after_doubt}
use Rattle.dm_daemon_tables.specs.Prepared.{record_of}
use Rattle.dm_daemon_tables.specs.Tables.{state_of as tables_of}
use Rattle.dm_daemon.proofs.daemon.Daemon.settle.Goals as goal

pub returns-in-Ok : goal.returns-in-Ok
returns-in-Ok g c =
    let s = c.args.self.now in
    let t = tables_of s.journalled.tables in
    let o = option_map record_of s.journalled.pending in
    let sure = c.in-Ok.ensures.sure in
    record {
      settled = (
        settled_state s.cap s.requests.next c.note.new.requests.next t (tables_of c.settle.new.self.tables) s.requests.rows.rows c.note.new.requests.rows.rows o (option_map record_of c.settle.new.self.pending) c.in-Ok.landed
            c.in-Ok.ensures.tables
            (c.note.ensures.rows ∙ noted_settled c.in-Ok.landed o t s.requests.rows.rows s.found.1 s.found.0 (c.requires.found s.requests.rows.rows))
            c.note.ensures.next (ap (λ p. option_map record_of p) sure.0),
        record { none = sure.0; store = sure.1 },
      );
      landed = one_landed s.journalled.pending c.in-Ok.landed c.in-Ok.ensures.idle;
      disk =
          disk_settled (g.B.Bay.disk c.args.bay.now) (g.B.Bay.disk c.settle.new.bay) s _
          (record {
            sits = c.settle.ensures.sits;
            room = c.requires.room;
            found = λ requests. sym (ap (λ p. requests_after_doubt (tables_of c.settle.new.self.tables) requests (option_map record_of p)) sure.0);
          })
          c.settle.ensures.kept c.settle.ensures.component c.settle.ensures.any_moment;
      counts = record { kept = c.in-Ok.ensures.cause.kept; none = c.in-Ok.ensures.cause.none; rose = tt };
    }

pub returns-in-Err : goal.returns-in-Err
returns-in-Err g c =
    let s = c.args.self.now in
    let same = c.in-Err.ensures.same in
    record {
      settled = (
        λ i. record {
          cap = s.cap;
          tables = same.0 i;
          requests = s.requests.rows.rows;
          next_request = s.requests.next;
          doubt = option_map record_of (same.1 i);
        },
        refl,
      );
      landed = λ is. absurd (not_true false refl is);
      disk =
          disk_settled (g.B.Bay.disk c.args.bay.now) (g.B.Bay.disk c.settle.new.bay) s _
          (record {
            sits = c.settle.ensures.sits;
            room = c.requires.room;
            found = λ requests. c.requires.found requests ∙ λ i. requests_after_doubt (sym same.0 i) requests (option_map record_of (sym same.1 i));
          })
          c.settle.ensures.kept c.settle.ensures.component c.settle.ensures.any_moment;
      counts = record { kept = c.in-Err.ensures.cause.kept; none = tt; rose = c.in-Err.ensures.cause.rose };
    }
