use Rattle.std.proofs.Common.{Option, option_map, sym, subst}
use Rattle.dm_daemon_tables.specs.declared.prepared.Prepared.{Prepared}
use Rattle.dm_daemon_tables.specs.Prepared.{record_of}
use Rattle.dm_daemon_tables.specs.Tables.{state_of}
use Rattle.dm_durable.specs.Daemon.{after_record}
use Rattle.dm_durable.specs.declared.daemon.DaemonTables.{DaemonTables}
use Rattle.dm_daemon_journal.specs.Stored.{HoldsWith}
use Rattle.dm_daemon_journal.proofs.Telling.{appended, unappended, at_any_moment}
use Rattle.dm_daemon_journal.proofs.kept.Journalled.journal.Goals as goal

pub returns-in-Ok-clause-kept : goal.returns-in-Ok-clause-kept
returns-in-Ok-clause-kept g c = λ holds.
    subst (λ (t : DaemonTables). HoldsWith (g.B.Bay.disk c.append.new.bay) c.append.new.self t (option_map record_of c.args.self.now.pending)) (sym c.apply.ensures)
    (subst (λ (o : Option Prepared). HoldsWith (g.B.Bay.disk c.append.new.bay) c.append.new.self (after_record (state_of c.args.self.now.tables) (record_of c.args.prepared)) (option_map record_of o)) (sym c.requires.sure)
    (appended (g.B.Bay.disk c.args.bay.now) (g.B.Bay.disk c.append.new.bay) c.args.self.now.store c.append.new.self (state_of c.args.self.now.tables) (record_of c.args.prepared) c.args.payload.now
    c.requires.settled c.requires.spelled c.requires.fits c.requires.may c.in-Ok.ensures.ok
    (subst (λ (o : Option Prepared). HoldsWith (g.B.Bay.disk c.args.bay.now) c.args.self.now.store (state_of c.args.self.now.tables) (option_map record_of o)) c.requires.sure holds)))

pub returns-in-Err-clause-kept : goal.returns-in-Err-clause-kept
returns-in-Err-clause-kept g c = λ holds.
    unappended (g.B.Bay.disk c.args.bay.now) (g.B.Bay.disk c.append.new.bay) c.args.self.now.store c.append.new.self (state_of c.args.self.now.tables) (record_of c.args.prepared) c.args.payload.now
    c.requires.settled c.requires.spelled c.requires.fits c.requires.may c.in-Err.ensures.err
    (subst (λ (o : Option Prepared). HoldsWith (g.B.Bay.disk c.args.bay.now) c.args.self.now.store (state_of c.args.self.now.tables) (option_map record_of o)) c.requires.sure holds)

pub returns-in-Ok-clause-any_moment : goal.returns-in-Ok-clause-any_moment
returns-in-Ok-clause-any_moment g c = λ holds.
    at_any_moment (g.B.Bay.disk c.args.bay.now) (g.B.Bay.disk c.append.new.bay) c.args.self.now.store (state_of c.args.self.now.tables) (record_of c.args.prepared) c.args.payload.now
    c.requires.settled c.requires.spelled c.requires.fits c.requires.may c.append.ensures.any_moment
    (subst (λ (o : Option Prepared). HoldsWith (g.B.Bay.disk c.args.bay.now) c.args.self.now.store (state_of c.args.self.now.tables) (option_map record_of o)) c.requires.sure holds)

pub returns-in-Err-clause-any_moment : goal.returns-in-Err-clause-any_moment
returns-in-Err-clause-any_moment g c = λ holds.
    at_any_moment (g.B.Bay.disk c.args.bay.now) (g.B.Bay.disk c.append.new.bay) c.args.self.now.store (state_of c.args.self.now.tables) (record_of c.args.prepared) c.args.payload.now
    c.requires.settled c.requires.spelled c.requires.fits c.requires.may c.append.ensures.any_moment
    (subst (λ (o : Option Prepared). HoldsWith (g.B.Bay.disk c.args.bay.now) c.args.self.now.store (state_of c.args.self.now.tables) (option_map record_of o)) c.requires.sure holds)
