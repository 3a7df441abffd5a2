-- How the histories of openings begin, and what a past that is legal for what was loaded is for each of them.
use Rattle.std.proofs.Common.{◌≡◌, ◌≤◌, ℕ, List, length, refl, subst, inl, inr}
use Rattle.dm_model.specs.declared.entry.HistoryEntry.{HistoryEntry}
use Rattle.dm_model.specs.declared.entry.Name.{Name}
use Rattle.dm_model.specs.declared.state.Joint.{Joint}
use Rattle.dm_model.specs.Names.{fixed_names}
use Rattle.dm_model.specs.Step.{Run}
use Rattle.dm_history.specs.Alike.{Alike}
use Rattle.dm_history.specs.History.{Begun, Rooted, history, run_of, state_seen}
use Rattle.dm_history.proofs.NamesTold.{fixed_lasts, made_elsewhere}
use Rattle.dm_history.proofs.PastsAlike.{chains_alike}
use Rattle.dm_history.proofs.PastsRun.{past_runs}
use Rattle.dm_pasts.proofs.NeedsMet.{history_lawful}
use Rattle.dm_spine.specs.Past.{In, IsPart, Lawful, Legal, Rises, chain}
use Rattle.dm_openings.specs.Openings.{BeginsAs, IsOpening, Loaded, RootedIn, names_loaded, openings}
use Rattle.dm_openings.proofs.EveryLawful.{lawful_every, legal_each, part_each}
use Rattle.dm_openings.proofs.NamesSame.{names_same}

pub lawful_openings : Lawful openings
lawful_openings =
    lawful_every BeginsAs names_loaded history
    (λ l n e x made fixed. made_elsewhere e.event e.answer x made (fixed_lasts l.state l.workers x fixed)) (λ l. l.few) history_lawful

-- ---- one opening

pub opening_names : (l : Loaded) (j : Joint) → IsOpening l.state j → names_loaded l ≡ fixed_names j l.workers
opening_names l j is = names_same l.state j l.workers is.libraries is.volumes

-- a history begins in an opening
abbrev pub begun_in : (l : Loaded) (j : Joint) → IsOpening l.state j → Begun
begun_in l j is =
    record { opened = j; workers = l.workers; few = subst (λ (xs : List Name). length xs ≤ 32768) (opening_names l j is) l.few }

pub begins_in : (l : Loaded) (j : Joint) → IsOpening l.state j → (begun : Begun) × (begun.opened ≡ j) × BeginsAs l begun
begins_in l j is = (begun_in l j is, refl, record { opening = is; workers = refl })

-- ---- pasts

legal_begun : (l : Loaded) (begun : Begun) (xs : List (ℕ × HistoryEntry)) → BeginsAs l begun → Legal openings l xs → Legal history begun xs
legal_begun l begun xs begins legal = legal_each BeginsAs names_loaded history l begun xs begins legal

pub legal_in : (l : Loaded) (j : Joint) (is : IsOpening l.state j) (xs : List (ℕ × HistoryEntry)) → Legal openings l xs
    → Legal history (begun_in l j is) xs
legal_in l j is xs legal = legal_begun l (begun_in l j is) xs (record { opening = is; workers = refl }) legal

pub run_in : (l : Loaded) (j : Joint) (xs : List (ℕ × HistoryEntry)) → IsOpening l.state j → Rises 0 xs → Legal openings l xs
    → Run j (run_of xs) (state_seen j xs)
run_in l j xs is rises legal = past_runs (begun_in l j is) xs is.opened rises (legal_in l j is xs legal)

rooted_in : (l : Loaded) (j : Joint) (is : IsOpening l.state j) (x : Name) (xs : List (ℕ × HistoryEntry)) → RootedIn l x xs
    → Rooted (begun_in l j is) x xs
rooted_in l j is x xs (inl fixed) = inl (subst (λ (ys : List Name). In x ys) (opening_names l j is) fixed)
rooted_in l j is x xs (inr made) = inr made

pub alike_in : (l : Loaded) (j : Joint) (xs ys : List (ℕ × HistoryEntry)) (x : Name) → IsOpening l.state j → IsPart openings xs ys
    → Legal openings l xs → Legal openings l ys → RootedIn l x xs → chain openings x xs ≡ chain openings x ys
    → Alike x (state_seen j xs) (state_seen j ys)
alike_in l j xs ys x is part legal more rooted same =
    chains_alike (begun_in l j is) is.opened xs ys x (part_each BeginsAs names_loaded history xs ys part) (legal_in l j is xs legal)
    (legal_in l j is ys more) (rooted_in l j is x xs rooted) same
