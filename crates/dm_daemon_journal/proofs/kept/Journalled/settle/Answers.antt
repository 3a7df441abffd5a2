use Rattle.std.proofs.Common.{◌≡◌, Option, option_map, ap, ◌∙◌, sym, subst}
use Rattle.dm_daemon_tables.specs.declared.prepared.Prepared.{Prepared}
use Rattle.dm_daemon_tables.specs.Prepared.{record_of}
use Rattle.dm_daemon_tables.specs.Tables.{state_of}
use Rattle.dm_durable.specs.declared.daemon.DaemonTables.{DaemonTables}
use Rattle.dm_daemon_journal.specs.Doubts.{after_settling}
use Rattle.dm_daemon_journal.specs.Stored.{HoldsWith}
use Rattle.dm_daemon_journal.proofs.Telling.{Heals, healed, unhealed}
use Rattle.dm_daemon_journal.proofs.kept.Journalled.settle.Goals as goal

pub returns-in_err-landed-clause-kept : goal.returns-in_err-landed-clause-kept
returns-in_err-landed-clause-kept g c = λ holds.
    let h : Heals (g.B.Bay.disk c.args.bay.now) (g.B.Bay.disk c.heal.new.bay) c.args.self.now.store c.heal.new.self c.heal.result = record {
      payload = c.heal.ensures.payload;
      turned = c.heal.ensures.turned;
      payload_err = c.heal.ensures.payload_err;
      turned_err = c.heal.ensures.turned_err;
      idle = λ e. let i = c.heal.ensures.idle e in (i.0, i.1, ap (λ b. g.B.Bay.disk b) i.2);
    } in
    unhealed (g.B.Bay.disk c.args.bay.now) (g.B.Bay.disk c.heal.new.bay) c.args.self.now.store c.heal.new.self c.heal.result c.in_err-landed.field-0.0 (state_of c.args.self.now.tables)
    (option_map record_of c.args.self.now.pending) h c.in_err-landed.was holds

pub returns-clause-kept : goal.returns-clause-kept
returns-clause-kept g c = λ holds.
    let h : Heals (g.B.Bay.disk c.args.bay.now) (g.B.Bay.disk c.heal.new.bay) c.args.self.now.store c.heal.new.self c.heal.result = record {
      payload = c.heal.ensures.payload;
      turned = c.heal.ensures.turned;
      payload_err = c.heal.ensures.payload_err;
      turned_err = c.heal.ensures.turned_err;
      idle = λ e. let i = c.heal.ensures.idle e in (i.0, i.1, ap (λ b. g.B.Bay.disk b) i.2);
    } in
    let is : state_of c.finish.new.tables ≡ after_settling c.in_ok-landed.landed (option_map record_of c.args.self.now.pending) (state_of c.args.self.now.tables) =
    c.finish.ensures.tables ∙ ap (λ (o : Option Prepared). after_settling c.in_ok-landed.landed (option_map record_of o) (state_of c.args.self.now.tables)) c.take-pending.ensures.value in
    subst (λ (t : DaemonTables). HoldsWith (g.B.Bay.disk c.heal.new.bay) c.heal.new.self t (option_map record_of c.take-pending.new.self)) (sym is)
    (subst (λ (o : Option Prepared). HoldsWith (g.B.Bay.disk c.heal.new.bay) c.heal.new.self (after_settling c.in_ok-landed.landed (option_map record_of c.args.self.now.pending) (state_of c.args.self.now.tables)) (option_map record_of o)) (sym c.take-pending.ensures.after)
    (healed (g.B.Bay.disk c.args.bay.now) (g.B.Bay.disk c.heal.new.bay) c.args.self.now.store c.heal.new.self c.heal.result c.in_ok-landed.landed (state_of c.args.self.now.tables)
    (option_map record_of c.args.self.now.pending) h c.in_ok-landed.was holds))
