-- A payload that is lent out of the buffer it was read into.
use Rattle.std.proofs.Common.{◌≡◌, ℕ, List, [], ◌∷◌, ◌++◌, length, Option, Some, None, Result, Ok, Err, sym, ◌∙◌, ap, subst}
use Rattle.std.specs.Borrow.{Bor}
use Rattle.std.specs.List.{AllByRecursion}
use Rattle.dm_host.specs.Disk.{Disk}
use Rattle.dm_base.specs.declared.error.LoadError.{LoadError}
use Rattle.dm_journal.specs.Grammar.{Fits, AtRest}
use Rattle.dm_journal.specs.Load.{LoadAt, Reading, Advances, Finds, Gives, moved, loading_at}
use Rattle.dm_journal.specs.State.{At, Keeps, settled_at}
use Rattle.dm_journal.proofs.Unique.{rests_once}

-- the place of the last gate doesn't matter
pub from_here : (d : Disk) (j : LoadAt) (ps : List (List ℕ)) → Reading d j ps → Reading d (loading_at j.file j.place 0 j.end) ps
from_here d j ps r =
    record { told = r.told; place = r.place; fits = r.fits; gate = r.gate; rest = r.rest; is = r.is; end = r.end; synced = r.synced }

pub lent : (d : Disk) (j : LoadAt) (ps : List (List ℕ)) (items payload : List ℕ) (n : ℕ) → payload ≡ items → Advances d j ps items (Some n)
    → Fits payload × Reading d (moved j (length payload)) (ps ++ payload ∷ [])
lent d j ps items payload n is more =
    subst (λ (l : List ℕ). Fits l × Reading d (moved j (length l)) (ps ++ l ∷ [])) (sym is)
    (more.0, subst (λ (m : ℕ). Reading d (moved j m) (ps ++ items ∷ [])) (sym more.1) more.2)

-- what a caller of `next` knows once the loan is over: there is one payload more
pub loaded_more : (d : Disk) (old new : LoadAt) (ps : List (List ℕ)) (result : Result (Option (Bor (List ℕ))) LoadError) (found : Option (Bor (List ℕ))) (payload : Bor (List ℕ))
    → result ≡ Ok found → found ≡ Some payload → Finds d old ps found → Gives old result new → Reading d new (ps ++ payload.now ∷ [])
loaded_more d old new ps result found payload ok some finds gives =
    let here : Finds d old ps (Some payload) = subst (λ (o : Option (Bor (List ℕ))). Finds d old ps o) some finds in
    let at : new ≡ moved old (length payload.now) = subst (λ (r : Result (Option (Bor (List ℕ))) LoadError). Gives old r new) (ok ∙ ap Ok some) gives in
    subst (λ (j : LoadAt). Reading d j (ps ++ payload.now ∷ [])) (sym at) here.1

-- or these are all
pub loaded_all : (d : Disk) (old new : LoadAt) (ps : List (List ℕ)) (result : Result (Option (Bor (List ℕ))) LoadError) (found : Option (Bor (List ℕ)))
    → result ≡ Ok found → found ≡ None → Finds d old ps found → Gives old result new → Keeps d (settled_at new.file new.place) ps
loaded_all d old new ps result found ok none finds gives =
    let here : Finds d old ps None = subst (λ (o : Option (Bor (List ℕ))). Finds d old ps o) none finds in
    let at : new ≡ old = subst (λ (r : Result (Option (Bor (List ℕ))) LoadError). Gives old r new) (ok ∙ ap Ok none) gives in
    subst (λ (j : LoadAt). Keeps d (settled_at j.file j.place) ps) (sym at) here

-- the load stays at its file
pub same_file : (old new : LoadAt) (result : Result (Option (Bor (List ℕ))) LoadError) → Gives old result new → new.file ≡ old.file
same_file old new (Ok (Some payload)) gives = ap (λ (j : LoadAt). j.file) gives
same_file old new (Ok None) gives = ap (λ (j : LoadAt). j.file) gives
same_file old new (Err e) gives = ap (λ (j : LoadAt). j.file) gives

-- a journal that stands at the end of a file that is at rest keeps what that stands for
pub same_kept : (d : Disk) (j : At) (ps qs : List (List ℕ)) → Keeps d j qs → AllByRecursion Fits ps → AtRest ps (d.seen j.file) → Keeps d j ps
same_kept d j ps qs k fits rest = subst (λ (l : List (List ℕ)). Keeps d j l) (rests_once qs ps (d.seen j.file) k.fits fits k.seen rest) k
