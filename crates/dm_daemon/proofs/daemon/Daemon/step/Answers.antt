use Rattle.std.proofs.Common.{◌≡◌, ◌∙◌, ◌≤◌, ℕ, List, inl, inr, length, option_map, refl, ap, sym, subst, rules}
use Rattle.dm_daemon.proofs.Calling.{done_state}
use Rattle.dm_daemon.proofs.Moments.{disk_stepped}
use Rattle.dm_daemon.specs.Changed.{requests_after_doubt}
use Rattle.dm_daemon_tables.specs.Prepared.{record_of}
use Rattle.dm_daemon_tables.specs.Tables.{state_of as tables_of}
use Rattle.dm_durable.specs.declared.daemon.DaemonRecord.{DaemonRecord}
use Rattle.dm_durable.specs.declared.daemon_journal.DaemonPayload.TheVariants.{Record}
use Rattle.dm_durable.specs.Fields.{FitsPayload}
use Rattle.dm_journal.specs.Grammar.{longest}
use Rattle.dm_records.proofs.Lengths.{short}
use Rattle.dm_records.specs.Limits.{IsWithinLimits}
use Rattle.dm_records.specs.Payloads.{spelling}
use Rattle.dm_daemon.proofs.daemon.Daemon.step.Goals as goal

short_payload : (payload : List ℕ) (r : DaemonRecord) → payload ≡ spelling (Record r) → FitsPayload (Record r) → IsWithinLimits (Record r) → length payload ≤ longest
short_payload payload r is fits within = subst (λ (bytes : List ℕ). length bytes ≤ longest) (sym is) (short (Record r) fits within)

pub journal-requires-clause-short : goal.journal-requires-clause-short
journal-requires-clause-short g c = short_payload _ (record_of c.args.prepared) (search rules) c.requires.may.fits c.requires.may.short

pub returns-in-Ok : goal.returns-in-Ok
returns-in-Ok g c =
    let s = c.args.self.now in
    let t = tables_of s.journalled.tables in
    let o = option_map record_of s.journalled.pending in
    let r = record_of c.args.prepared in
    let done = c.in-Ok.ensures.done in
    let none = ap (λ p. option_map record_of p) c.requires.may.sure.none in
    record {
      comes =
          done_state s.cap s.requests.next c.change_found.new.self.next t (tables_of c.journal.new.self.tables) s.requests.rows.rows c.change_found.new.self.rows.rows o (option_map record_of c.journal.new.self.pending) r
          done.0 (c.change_found.ensures.rows ∙ c.requires.found s.requests.rows.rows) c.change_found.ensures.next none (ap (λ p. option_map record_of p) done.1);
      landed = refl;
      disk =
          disk_stepped (g.B.Bay.disk c.args.bay.now) (g.B.Bay.disk c.journal.new.bay) s _ r none
          (record {
            sits = c.journal.ensures.sits;
            room = c.requires.may.stands.room;
            found = λ requests.
                c.requires.may.stands.found requests ∙ ap (λ q. requests_after_doubt t requests q) none
                ∙ sym (ap (λ p. requests_after_doubt (tables_of c.journal.new.self.tables) requests (option_map record_of p)) done.1);
          })
          c.journal.ensures.kept c.journal.ensures.component c.journal.ensures.any_moment
          (inl (done.0, ap (λ p. option_map record_of p) done.1));
      counts = c.in-Ok.ensures.cause.none;
    }

pub returns-in-Err : goal.returns-in-Err
returns-in-Err g c =
    let s = c.args.self.now in
    let t = tables_of s.journalled.tables in
    let r = record_of c.args.prepared in
    let doubt = c.in-Err.ensures.doubt in
    record {
      comes = λ i. record {
        cap = s.cap;
        tables = doubt.0 i;
        requests = s.requests.rows.rows;
        next_request = s.requests.next;
        doubt = doubt.1 i;
      };
      landed = refl;
      disk =
          disk_stepped (g.B.Bay.disk c.args.bay.now) (g.B.Bay.disk c.journal.new.bay) s _ r (ap (λ p. option_map record_of p) c.requires.may.sure.none)
          (record {
            sits = c.journal.ensures.sits;
            room = c.requires.may.stands.room;
            found = λ requests. c.requires.found requests ∙ λ i. requests_after_doubt (sym doubt.0 i) requests (sym doubt.1 i);
          })
          c.journal.ensures.kept c.journal.ensures.component c.journal.ensures.any_moment
          (inr (doubt.0, doubt.1));
      counts = c.in-Err.ensures.cause.rose;
    }
