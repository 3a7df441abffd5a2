-- Spans of chunks over runs, and where a request is open.
use Rattle.std.proofs.Common.{◌≡◌, ℕ, false, Option, None, Some, List, [], ◌∷◌, is_some, refl, sym, subst, ◌∙◌}
use Rattle.std.specs.FinMap as map
use Rattle.dm_model.specs.declared.state.Joint.{Joint}
use Rattle.dm_model.specs.declared.state.OpenRequest.{OpenRequest}
use Rattle.dm_model.specs.Step.{RunEntry, Run}
use Rattle.dm_invariant.specs.Kept.{InvariantHolds}
use Rattle.dm_shown.specs.Along.{KeptAlong}
use Rattle.dm_shown.proofs.RunsShown.{along_rest}
use Rattle.dm_ongoing.specs.Spans.{GroupHasSpans, IsUntaken}
use Rattle.dm_ongoing.proofs.SpansAlong.{event_has}
use Rattle.dm_ongoing.proofs.TakenGrows.{event_free}

-- the bitfile isn't taken at the beginning of a run where it isn't at its end
run_free : (b : ℕ) (j : Joint) (entries : List RunEntry) (k : Joint) → Run j entries k → IsUntaken k b → IsUntaken j b
run_free b j [] k run free = subst (λ (i : Joint). IsUntaken i b) (sym run) free
run_free b j (e ∷ es) k run free = event_free b j run.0 e.worker e.answer (run_free b run.0 es k run.2 free) e.event run.1

pub run_has : (g b : ℕ) (spans : List (ℕ × ℕ)) (j : Joint) (entries : List RunEntry) (k : Joint) → KeptAlong j entries → Run j entries k
    → IsUntaken k b → GroupHasSpans j g b spans → GroupHasSpans k g b spans
run_has g b spans j [] k kept run free has = subst (λ (i : Joint). GroupHasSpans i g b spans) run has
run_has g b spans j (e ∷ es) k kept run free has =
    let untaken = run_free b j (e ∷ es) k run free in
    run_has g b spans run.0 es k (along_rest j run.0 e es kept run.1) run.2 free
    (event_has g b spans j e.worker kept.0 untaken has e.event run.0 e.answer run.1)

none_there : (o : Option (Unit {0})) → false ≡ is_some o → o ≡ None
none_there None is = refl
none_there (Some u) is = absurd (cc)

-- while a request of it is open the bitfile isn't taken
pub requested_free : (j : Joint) (n : ℕ) (r : OpenRequest) → InvariantHolds j → map.get j.daemon.requests n ≡ Some r → IsUntaken j r.bfid.0
requested_free j n r kept is =
    let there = kept.requests.entry n r is in
    none_there (map.get j.history.taken r.bfid.0) (sym there.lasting ∙ kept.taken.dropping r.bfid.0 there.entry there.is)
