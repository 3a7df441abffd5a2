-- A legal past, in the order of its numbers, is a legal run.
use Rattle.std.proofs.Common.{◌≡◌, ℕ, List, [], ◌∷◌, ◌++◌, refl, sym, ap, subst}
use Rattle.dm_model.specs.declared.entry.HistoryEntry.{HistoryEntry}
use Rattle.dm_model.specs.declared.state.Joint.{Joint}
use Rattle.dm_model.specs.Step.{Run}
use Rattle.dm_invariant.specs.Opened.{Opened}
use Rattle.dm_shown.specs.Along.{GoesOn}
use Rattle.std.specs.List.{AllByRecursion}
use Rattle.dm_spine.specs.Past.{Legal, Rises}
use Rattle.dm_spine.proofs.Uses.{fits_run}
use Rattle.dm_history.specs.History.{Begun, history, joint_after, run_of, state_seen}

-- the state after one entry more
pub state-last : (j : Joint) (xs : List (ℕ × HistoryEntry)) (a : ℕ × HistoryEntry) → state_seen j (xs ++ a ∷ []) ≡ joint_after (state_seen j xs) a.1
state-last j [] a = refl
state-last j (x ∷ xs) a = state-last (joint_after j x.1) xs a

pub joined_on : (xs ys : List (ℕ × HistoryEntry)) (a : ℕ × HistoryEntry) → (xs ++ a ∷ []) ++ ys ≡ xs ++ a ∷ ys
joined_on [] ys a = refl
joined_on (x ∷ xs) ys a = ap (λ zs. x ∷ zs) (joined_on xs ys a)

-- what is left of a legal past is a run from the state after what is done
run_from : (begun : Begun) (done rest : List (ℕ × HistoryEntry)) → Opened begun.opened → Rises 0 (done ++ rest) → Legal history begun (done ++ rest)
    → Run (state_seen begun.opened done) (run_of rest) (state_seen (state_seen begun.opened done) rest)
run_from begun done [] opened rises legal = refl
run_from begun done (a ∷ rest) opened rises legal =
    let j = state_seen begun.opened done in
    let fits = fits_run history begun a.0 done rest a.1 rises legal in
    let taken = (fits.needed opened).taken.taken in
    let P : List (ℕ × HistoryEntry) → Type 0 = λ zs. Rises 0 zs in
    let Q : List (ℕ × HistoryEntry) → Type 0 = λ zs. Legal history begun zs in
    let R : Joint → Type 0 = λ k. Run k (run_of rest) (state_seen k rest) in
    let same = sym (joined_on done rest a) in
    let next = run_from begun (done ++ a ∷ []) rest opened (subst P same rises) (subst Q same legal) in
    (joint_after j a.1, taken, subst R (state-last begun.opened done a) next)

pub past_runs : (begun : Begun) (xs : List (ℕ × HistoryEntry)) → Opened begun.opened → Rises 0 xs → Legal history begun xs
    → Run begun.opened (run_of xs) (state_seen begun.opened xs)
past_runs begun xs opened rises legal = run_from begun [] xs opened rises legal

going : (begun : Begun) (done rest : List (ℕ × HistoryEntry)) → Opened begun.opened → Rises 0 (done ++ rest) → Legal history begun (done ++ rest)
    → AllByRecursion (λ e. GoesOn e.event) (run_of rest)
going begun done [] opened rises legal = tt
going begun done (a ∷ rest) opened rises legal =
    let fits = fits_run history begun a.0 done rest a.1 rises legal in
    let P : List (ℕ × HistoryEntry) → Type 0 = λ zs. Rises 0 zs in
    let Q : List (ℕ × HistoryEntry) → Type 0 = λ zs. Legal history begun zs in
    let same = sym (joined_on done rest a) in
    ((fits.needed opened).taken.goes, going begun (done ++ a ∷ []) rest opened (subst P same rises) (subst Q same legal))

-- without a stop
pub past_goes : (begun : Begun) (xs : List (ℕ × HistoryEntry)) → Opened begun.opened → Rises 0 xs → Legal history begun xs
    → AllByRecursion (λ e. GoesOn e.event) (run_of xs)
past_goes begun xs opened rises legal = going begun [] xs opened rises legal
