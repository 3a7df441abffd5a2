-- The legal calls that begin and end a put keep the invariant.
use Rattle.std.proofs.Common.{◌≡◌, ℕ, Bool, ◌≤◌, true, false, not, Option, Some, None, is_some, List, [], ◌∷◌, ◌++◌, length, refl, sym, ap, subst, ◌∙◌}
use Rattle.std.specs.FinMap as map
use Rattle.std.proofs.lemmas.Bool.{not-true}
use Rattle.dm_base.specs.declared.identifier.Bfid.{Bfid}
use Rattle.dm_base.specs.declared.identifier.GroupId.{GroupId}
use Rattle.dm_base.specs.declared.identifier.Secs.{Secs}
use Rattle.dm_tables.specs.Rows.{EachRow}
use Rattle.dm_tables.proofs.Any.{any-false}
use Rattle.dm_tables.proofs.Orders.{numbers}
use Rattle.dm_tables.proofs.Rows.{get-here, one_row}
use Rattle.dm_durable.specs.Daemon.{after_begin_put, after_begin_put_at, after_record, bfid_of}
use Rattle.dm_durable.specs.Entries.{groups_asked, new_entry}
use Rattle.dm_durable.specs.Inodes.{as_making, bytes_online, with_contents}
use Rattle.dm_durable.specs.declared.daemon.DaemonStep.TheVariants.{BeginPut}
use Rattle.dm_durable.specs.declared.daemon.DaemonTables.{DaemonTables}
use Rattle.dm_durable.specs.declared.daemon.Entry.{Entry}
use Rattle.dm_durable.specs.declared.daemon.Inode.{Inode}
use Rattle.dm_durable.specs.Tables.{ByNumber}
use Rattle.dm_model.specs.declared.answer.Answer.{Answer}
use Rattle.dm_model.specs.declared.call.DaemonCall.TheVariants as call
use Rattle.dm_model.specs.declared.plan.Ending.TheVariants as ending
use Rattle.dm_model.specs.declared.plan.Opening.{Opening}
use Rattle.dm_model.specs.declared.plan.Opening.TheVariants as opening
use Rattle.dm_model.specs.declared.state.CopyState.{CopyState}
use Rattle.dm_model.specs.declared.state.Joint.{Joint}
use Rattle.dm_model.specs.declared.state.OpenRequest.{OpenRequest}
use Rattle.dm_model.specs.declared.state.RequestKind.TheVariants as kind
use Rattle.dm_model.specs.declared.state.Side.{Side}
use Rattle.dm_model.specs.DaemonCalls.{daemon_needs, daemon_plan, end_put, end_put_needs, has_reservation, is_reserved}
use Rattle.dm_model.specs.Effects.{after_ending}
use Rattle.dm_model.specs.Files.{is_put}
use Rattle.dm_model.specs.Guards.{AllHold}
use Rattle.dm_model.specs.Plan.{guards_always, prepared_plan, refusal_of}
use Rattle.dm_model.specs.Step.{after_call, after_fault}
use Rattle.dm_invariant.specs.Kept.{InvariantHolds}
use Rattle.dm_invariant.proofs.Options.{no_value}
use Rattle.dm_effects.proofs.CopyEnded.{IsUnreserved}
use Rattle.dm_effects.proofs.DaemonCalls.{daemon_call_served, daemon_fault_keeps, opens_nothing, served}
use Rattle.dm_effects.proofs.PutEnded.{put_ended}

-- ---- a put ends

unreserved : (sides : ByNumber Side) (b : ℕ) → is_reserved sides b ≡ false → EachRow sides (λ g s. IsUnreserved s.copies b)
unreserved sides b none = λ g s at c copy.
    let fails = any-false numbers (λ g s. has_reservation (map.get s.copies b)) sides none g s at in
    no_value c.reservation (ap has_reservation (sym copy) ∙ fails)

pub end_ended : (j : Joint) → InvariantHolds j → (w k now : ℕ) (o : Option OpenRequest) → map.get j.daemon.requests k ≡ o
    → AllHold (guards_always (end_put j.daemon k now o) (end_put_needs j.sides o))
    → InvariantHolds (after_ending w (end_put j.daemon k now o).ends j)
end_ended j kept w k now None is legal = kept
end_ended j kept w k now (Some r) is legal = put_ended j kept w k r is legal.0 (unreserved j.sides r.bfid.0 (not-true _ legal.1.0))

end_unmade : (j : Joint) (k now : ℕ) (o : Option OpenRequest) → (end_put j.daemon k now o).opens ≡ opening.Nothing
end_unmade j k now None = refl
end_unmade j k now (Some r) = refl

pub end_put_keeps : (j : Joint) → InvariantHolds j → (w k : ℕ) (now : Secs)
    → AllHold (guards_always (daemon_plan j.daemon (call.EndPut k now)) (daemon_needs j.sides (map.get j.workers w) j.history j.daemon (call.EndPut k now)))
    → InvariantHolds (after_call w (prepared_plan (daemon_plan j.daemon (call.EndPut k now))) j)
end_put_keeps j kept w k now legal =
    let p = daemon_plan j.daemon (call.EndPut k now) in
    let ended = end_ended j kept w k now.0 (map.get j.daemon.requests k) refl legal in
    opens_nothing w (refusal_of p) p.opens (served w (prepared_plan p) j) (end_unmade j k now.0 (map.get j.daemon.requests k))
    (daemon_call_served j kept w (call.EndPut k now) legal ended)

pub end_put_fault_keeps : (j : Joint) → InvariantHolds j → (w k : ℕ) (now : Secs)
    → AllHold (guards_always (daemon_plan j.daemon (call.EndPut k now)) (daemon_needs j.sides (map.get j.workers w) j.history j.daemon (call.EndPut k now)))
    → (far : Bool) → InvariantHolds (after_fault w (prepared_plan (daemon_plan j.daemon (call.EndPut k now))) far j)
end_put_fault_keeps j kept w k now legal =
    daemon_fault_keeps j kept w (call.EndPut k now) legal (end_ended j kept w k now.0 (map.get j.daemon.requests k) refl legal)
