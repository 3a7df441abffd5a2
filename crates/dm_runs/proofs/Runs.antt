-- The induction over a run: what each event keeps is kept by the run. It knows no event.
use Rattle.std.proofs.Common.{◌≡◌, ℕ, List, [], ◌∷◌, ap, subst, sym}
use Rattle.std.specs.List.{AllByRecursion}
use Rattle.dm_model.specs.declared.answer.Answer.{Answer}
use Rattle.dm_model.specs.declared.call.Event.{Event}
use Rattle.dm_model.specs.declared.state.Joint.{Joint}
use Rattle.dm_model.specs.Step.{RunEntry, Run, Stepped, state_after, step}
use Rattle.dm_invariant.specs.Kept.{InvariantHolds}
use Rattle.dm_shown.specs.Along.{KeptAlong}

-- each event of which P holds keeps Q
abbrev pub EachKeeps : (Joint → Event → Type 0) → (Joint → Type 0) → Type 0
EachKeeps P Q = (j k : Joint) (w : ℕ) (e : Event) (a : Answer) → P j e → Q j → step j w e ≡ Stepped k a → Q k

-- P holds of each event of a run, in the state before it
abbrev pub Along : (Joint → Event → Type 0) → Joint → List RunEntry → Type 0
Along P j [] = Unit {0}
Along P j (e ∷ es) = P j e.event × Along P (state_after j (step j e.worker e.event)) es

pub run_keeps : (P : Joint → Event → Type 0) (Q : Joint → Type 0) → EachKeeps P Q → (j : Joint) (entries : List RunEntry) (k : Joint)
    → Along P j entries → Q j → Run j entries k → Q k
run_keeps P Q keeps j [] k along held run = subst Q run held
run_keeps P Q keeps j (e ∷ es) k along held run =
    run_keeps P Q keeps run.0 es k (subst (λ (m : Joint). Along P m es) (ap (state_after j) run.1) along.1)
    (keeps j run.0 e.worker e.event e.answer along.0 held run.1) run.2

-- what holds of events whatever the state is, holds along a run
pub along_all : (P : Event → Type 0) (j : Joint) (entries : List RunEntry) → AllByRecursion (λ e. P e.event) entries → Along (λ i e. P e) j entries
along_all P j [] all = tt
along_all P j (e ∷ es) all = (all.0, along_all P (state_after j (step j e.worker e.event)) es all.1)

-- where each event keeps the invariant, it holds in each state of a run
pub kept_along : (P : Joint → Event → Type 0) → EachKeeps P InvariantHolds → (j : Joint) (entries : List RunEntry) (k : Joint) → Along P j entries → InvariantHolds j
    → Run j entries k → KeptAlong j entries
kept_along P keeps j [] k along kept run = kept
kept_along P keeps j (e ∷ es) k along kept run = (
  kept,
  subst (λ o. KeptAlong (state_after j o) es) (sym run.1)
      (kept_along P keeps run.0 es k (subst (λ (m : Joint). Along P m es) (ap (state_after j) run.1) along.1)
      (keeps j run.0 e.worker e.event e.answer along.0 kept run.1) run.2),
)
