-- A run and a run behind it.
use Rattle.std.proofs.Common.{◌≡◌, List, [], ◌∷◌, ◌++◌, sym, subst}
use Rattle.dm_model.specs.declared.state.Joint.{Joint}
use Rattle.dm_model.specs.Step.{RunEntry, Run, Stepped, state_after, step}
use Rattle.dm_shown.specs.Along.{KeptAlong}

-- they are one run
pub run_joined : (j : Joint) (xs : List RunEntry) (i : Joint) (ys : List RunEntry) (k : Joint) → Run j xs i → Run i ys k → Run j (xs ++ ys) k
run_joined j [] i ys k one two = subst (λ m. Run m ys k) (sym one) two
run_joined j (e ∷ es) i ys k one two = (one.0, one.1, run_joined one.0 es i ys k one.2 two)

-- what holds along the whole holds along the latter
pub along_behind : (j : Joint) (xs : List RunEntry) (i : Joint) (ys : List RunEntry) → Run j xs i → KeptAlong j (xs ++ ys) → KeptAlong i ys
along_behind j [] i ys run along = subst (λ m. KeptAlong m ys) run along
along_behind j (e ∷ es) i ys run along =
    along_behind run.0 es i ys run.2 (subst (λ o. KeptAlong (state_after j o) (es ++ ys)) run.1 along.1)

-- also behind an entry
pub along_after : (j : Joint) (xs : List RunEntry) (i : Joint) (e : RunEntry) (mid : Joint) (ys : List RunEntry) → Run j xs i
    → step i e.worker e.event ≡ Stepped mid e.answer → KeptAlong j (xs ++ e ∷ ys) → KeptAlong mid ys
along_after j xs i e mid ys run is along =
    subst (λ o. KeptAlong (state_after i o) ys) is (along_behind j xs i (e ∷ ys) run along).1
