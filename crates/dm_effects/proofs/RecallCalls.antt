-- The legal calls of a recall keep the invariant.
use Rattle.std.proofs.Common.{◌≡◌, ℕ, Bool, true, Option, Some, None, is_some, List, [], ◌∷◌, length, refl, sym, ap, subst, ◌∙◌}
use Rattle.std.specs.FinMap as map
use Rattle.dm_base.specs.declared.identifier.Bfid.{Bfid}
use Rattle.dm_base.specs.declared.identifier.Secs.{Secs}
use Rattle.dm_tables.proofs.Rows.{one_row}
use Rattle.dm_durable.specs.Tables.{ByNumber}
use Rattle.dm_durable.specs.declared.daemon.Contents.{Contents}
use Rattle.dm_durable.specs.declared.daemon.Contents.TheVariants.{Regular, Making, Dual, Offline}
use Rattle.dm_model.specs.declared.answer.Answer.{Answer}
use Rattle.dm_model.specs.declared.call.DaemonCall.TheVariants as call
use Rattle.dm_model.specs.declared.plan.Ending.TheVariants as ending
use Rattle.dm_model.specs.declared.plan.Opening.TheVariants as opening
use Rattle.dm_model.specs.declared.state.Joint.{Joint}
use Rattle.dm_model.specs.declared.state.OpenRequest.{OpenRequest}
use Rattle.dm_model.specs.declared.state.Recall.{Recall}
use Rattle.dm_model.specs.declared.state.Worker.{Worker}
use Rattle.dm_model.specs.DaemonCalls.{daemon_needs, daemon_plan, drop_recall, drop_recall_needs, end_recall, end_recall_needs, recall_in}
use Rattle.dm_model.specs.Effects.{after_ending}
use Rattle.dm_model.specs.Files.{is_recall}
use Rattle.dm_model.specs.Guards.{AllHold}
use Rattle.dm_model.specs.Plan.{guards_always, prepared_plan, refusal_of}
use Rattle.dm_model.specs.Step.{after_call, after_fault}
use Rattle.dm_invariant.specs.Kept.{InvariantHolds}
use Rattle.dm_invariant.proofs.Options.{value_of}
use Rattle.dm_effects.proofs.DaemonCalls.{daemon_call_served, daemon_fault_keeps, opens_nothing, served}
use Rattle.dm_effects.proofs.RecallsKeep.{recall_ended}

-- the recall that a worker has under a number
record HasRecall (o : Option Worker) (k : ℕ) : Type 0 where
  pub worker : Worker
  pub there : o ≡ Some worker
  pub recall : Recall
  pub has : map.get worker.recalls k ≡ Some recall

has_recall : (o : Option Worker) (k : ℕ) → is_some (recall_in o k) ≡ true → HasRecall o k
has_recall None k is = cc
has_recall (Some x) k is =
    let found = value_of (map.get x.recalls k) is in
    record { worker = x; there = refl; recall = found.0; has = found.1 }

ends_if : (j : Joint) → InvariantHolds j → (w k : ℕ) (r : OpenRequest) → map.get j.daemon.requests k ≡ Some r → is_recall r.kind ≡ true
    → is_some (recall_in (map.get j.workers w) k) ≡ true → InvariantHolds (after_ending w (ending.Recall k) j)
ends_if j kept w k r is kind token =
    let x = has_recall (map.get j.workers w) k token in
    recall_ended j kept w k r x.worker x.recall is kind x.there x.has

-- ---- a recall ends

pub end_ended : (j : Joint) → InvariantHolds j → (w k : ℕ) (bytes : List ℕ) (now : ℕ) (o : Option OpenRequest) → map.get j.daemon.requests k ≡ o
    → AllHold (guards_always (end_recall j.daemon k bytes now o) (end_recall_needs (map.get j.workers w) k bytes))
    → InvariantHolds (after_ending w (end_recall j.daemon k bytes now o).ends j)
end_ended j kept w k bytes now None is legal = kept
end_ended j kept w k bytes now (Some r) is legal = ends_if j kept w k r is legal.0 legal.1.0

end_unmade : (j : Joint) (k : ℕ) (bytes : List ℕ) (now : ℕ) (o : Option OpenRequest) → (end_recall j.daemon k bytes now o).opens ≡ opening.Nothing
end_unmade j k bytes now None = refl
end_unmade j k bytes now (Some r) = refl

-- the end of a recall keeps the invariant, answered or failed
pub end_recall_keeps : (j : Joint) → InvariantHolds j → (w k : ℕ) (bytes : List ℕ) (now : Secs)
    → AllHold (guards_always (daemon_plan j.daemon (call.EndRecall k bytes now))
    (daemon_needs j.sides (map.get j.workers w) j.history j.daemon (call.EndRecall k bytes now)))
    → InvariantHolds (after_call w (prepared_plan (daemon_plan j.daemon (call.EndRecall k bytes now))) j)
end_recall_keeps j kept w k bytes now legal =
    let p = daemon_plan j.daemon (call.EndRecall k bytes now) in
    let ended = end_ended j kept w k bytes now.0 (map.get j.daemon.requests k) refl legal in
    opens_nothing w (refusal_of p) p.opens (served w (prepared_plan p) j) (end_unmade j k bytes now.0 (map.get j.daemon.requests k))
    (daemon_call_served j kept w (call.EndRecall k bytes now) legal ended)

pub end_recall_fault_keeps : (j : Joint) → InvariantHolds j → (w k : ℕ) (bytes : List ℕ) (now : Secs)
    → AllHold (guards_always (daemon_plan j.daemon (call.EndRecall k bytes now))
    (daemon_needs j.sides (map.get j.workers w) j.history j.daemon (call.EndRecall k bytes now)))
    → (far : Bool) → InvariantHolds (after_fault w (prepared_plan (daemon_plan j.daemon (call.EndRecall k bytes now))) far j)
end_recall_fault_keeps j kept w k bytes now legal =
    daemon_fault_keeps j kept w (call.EndRecall k bytes now) legal (end_ended j kept w k bytes now.0 (map.get j.daemon.requests k) refl legal)

-- ---- a recall is dropped

pub drop_ended : (j : Joint) → InvariantHolds j → (w k : ℕ) (o : Option OpenRequest) → map.get j.daemon.requests k ≡ o
    → AllHold (guards_always (drop_recall j.daemon k o) (drop_recall_needs (map.get j.workers w) k))
    → InvariantHolds (after_ending w (drop_recall j.daemon k o).ends j)
drop_ended j kept w k None is legal = kept
drop_ended j kept w k (Some r) is legal = ends_if j kept w k r is legal.0 legal.1.0

drop_unmade : (j : Joint) (k : ℕ) (o : Option OpenRequest) → (drop_recall j.daemon k o).opens ≡ opening.Nothing
drop_unmade j k None = refl
drop_unmade j k (Some r) = refl

pub drop_recall_keeps : (j : Joint) → InvariantHolds j → (w k : ℕ)
    → AllHold (guards_always (daemon_plan j.daemon (call.DropRecall k)) (daemon_needs j.sides (map.get j.workers w) j.history j.daemon (call.DropRecall k)))
    → InvariantHolds (after_call w (prepared_plan (daemon_plan j.daemon (call.DropRecall k))) j)
drop_recall_keeps j kept w k legal =
    let p = daemon_plan j.daemon (call.DropRecall k) in
    let ended = drop_ended j kept w k (map.get j.daemon.requests k) refl legal in
    opens_nothing w (refusal_of p) p.opens (served w (prepared_plan p) j) (drop_unmade j k (map.get j.daemon.requests k))
    (daemon_call_served j kept w (call.DropRecall k) legal ended)
