-- What a caller of `next` in a loop knows once the loan of a payload is over.
use Rattle.std.proofs.Common.{◌≡◌, inl, inr, ℕ, List, Option, Some, None, Result, Ok, Err, length, sym, ◌∙◌, ap, subst}
use Rattle.std.proofs.lemmas.Bool.{cases_lt}
use Rattle.std.specs.Borrow.{Bor}
use Rattle.dm_base.specs.declared.error.LoadError.{LoadError}
use Rattle.dm_host.specs.Disk.{Disk}
use Rattle.dm_ckpt.specs.Files.{Unchanged}
use Rattle.dm_ckpt.specs.Load.{LoadAt, Finds, Gives, FindStands, LoadStands, moved, ready_at}
use Rattle.dm_ckpt.specs.Meaning.{KeepsState, AreAll}
use Rattle.dm_ckpt.specs.State.{StandsFor, Stands}
use Rattle.dm_ckpt.proofs.Choosing.{means_same}
use Rattle.dm_ckpt.proofs.Rowing.{moved_row, moved_payload, loaded_all}

moved_component : (l : LoadAt) (n : ℕ) → (moved l n).component ≡ l.component
moved_component l n = elim (cases_lt l.row l.row_end) [
  | inl less ↦ ap (λ (j : LoadAt). j.component) (moved_row l n less)
  | inr past ↦ ap (λ (j : LoadAt). j.component) (moved_payload l n past)
]

-- the load stays at its component
pub same_component : (old new : LoadAt) (result : Result (Option (Bor (List ℕ))) LoadError) → Gives old result new → new.component ≡ old.component
same_component old new (Ok (Some payload)) gives = ap (λ (j : LoadAt). j.component) gives ∙ moved_component old (length payload.now)
same_component old new (Ok None) gives = ap (λ (j : LoadAt). j.component) gives
same_component old new (Err e) gives = ap (λ (j : LoadAt). j.component) gives

-- its log is such as its calls need it
pub next_stands : (d : Disk) (old new : LoadAt) (result : Result (Option (Bor (List ℕ))) LoadError) (found : Option (Bor (List ℕ))) (payload : Bor (List ℕ))
    → result ≡ Ok found → found ≡ Some payload → FindStands d old found → Gives old result new → LoadStands d new
next_stands d old new result found payload ok some finds gives =
    let here : FindStands d old (Some payload) = subst (λ (o : Option (Bor (List ℕ))). FindStands d old o) some finds in
    let at : Gives old (Ok (Some payload)) new = subst (λ (r : Result (Option (Bor (List ℕ))) LoadError). Gives old r new) (ok ∙ ap Ok some) gives in
    subst (λ (j : LoadAt). LoadStands d j) (sym at) here

pub end_stands : (d : Disk) (old new : LoadAt) (result : Result (Option (Bor (List ℕ))) LoadError) (found : Option (Bor (List ℕ)))
    → result ≡ Ok found → found ≡ None → FindStands d old found → Gives old result new → Stands d (ready_at new)
end_stands d old new result found ok none finds gives =
    let here : FindStands d old None = subst (λ (o : Option (Bor (List ℕ))). FindStands d old o) none finds in
    let at : new ≡ old = subst (λ (r : Result (Option (Bor (List ℕ))) LoadError). Gives old r new) (ok ∙ ap Ok none) gives in
    subst (λ (j : LoadAt). Stands d (ready_at j)) (sym at) here

-- the files stand for what they stood for
pub stands_before : (a b : Disk) (l : LoadAt) (c : ℕ) (ps : List (List ℕ)) → l.component ≡ c → Unchanged l.component a b → StandsFor c ps a.seen → StandsFor c ps b.seen
stands_before a b l c ps same u stands = means_same c a.seen b.seen (subst (λ (k : ℕ). Unchanged k a b) same u).seen ps stands

-- a store that is loaded keeps the state that its files stood for
pub loaded_state : (d : Disk) (old new : LoadAt) (means : List (List ℕ) → Type 0) (ps qs : List (List ℕ)) (result : Result (Option (Bor (List ℕ))) LoadError) (found : Option (Bor (List ℕ)))
    → result ≡ Ok found → found ≡ None → Finds d old ps found → Gives old result new → AreAll ps qs found → means qs → KeepsState d (ready_at new) means
loaded_state d old new means ps qs result found ok none finds gives all is =
    let same : ps ≡ qs = subst (λ (o : Option (Bor (List ℕ))). AreAll ps qs o) none all in
    record { payloads = ps; keeps = loaded_all d old new ps result found ok none finds gives; is = subst means (sym same) is }
