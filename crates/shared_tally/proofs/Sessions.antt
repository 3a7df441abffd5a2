-- A session's additions, of which no clause names the locked counter.
use Rattle.std.proofs.Common.{◌≡◌, ℕ, suc, ◌+◌, ◌<◌, ◌≤◌, List, ◌∷◌, ◌++◌, [], length, map, take, get_or, Result, Ok, Err, MatchResult, OnErr, sym, ap, ◌∙◌, subst, length-append, arith}
use Rattle.std.proofs.lemmas.List.{map-append, append_assoc, length-map, length-take-le}
use Rattle.std.proofs.Math.Seq.{take-suc}
use Rattle.dm_spine.specs.Past.{chain}
use Rattle.shared_tally.specs.Counting.{counting, added}
use Rattle.shared_tally.specs.Tallies.{Adds, IsFull}
use Rattle.shared_tally.specs.Runs.{AddsOne, entries_by, entries_of}
use Rattle.shared_tally.specs.declared.counting.Added.{Added}
use Rattle.shared_tally.specs.declared.counting.Name.TheVariants.{Counter, Worker}
use Rattle.shared_tally.specs.declared.tally.Full.{Full}

module _ (worker amount : ℕ) (counters own seen : List (ℕ × Added)) where
  abbrev pub Added_to : ℕ → Result ℕ Full → Type 0
  Added_to number r = MatchResult r (λ t. Adds number counters own (added worker number amount) t seen) (λ _. IsFull number seen × (chain counting (Worker worker) seen ≡ chain counting (Worker worker) own))

  abbrev pub Added_once : ℕ → Result ℕ Full → Type 0
  Added_once number r = MatchResult r (λ t. AddsOne number own (added worker number amount) t seen) (λ _. IsFull number seen × (chain counting (Worker worker) seen ≡ chain counting (Worker worker) own))

  told_once : (number : ℕ) (r : Result ℕ Full) → Added_to number r → Added_once number r
  told_once number (Ok t) h = record { at = h.at; before = chain counting (Counter number) counters; counters = h.counter; workers = h.worker; total = h.total }
  told_once number (Err e) h = h

  -- the number of the locked counter is the place's
  pub adds_once : (number place : ℕ) (r : Result ℕ Full) → number ≡ place → Added_to number r → Added_once place r
  adds_once number place r e h = told_once place r (subst (λ n. Added_to n r) e h)

-- the worker's entries have one more
entries_last : (worker number amount answer : ℕ) (own seen : List (ℕ × Added)) → AddsOne number own (added worker number amount) answer seen → entries_by worker seen ≡ entries_by worker own ++ added worker number amount ∷ []
entries_last worker number amount answer own seen h =
    ap (λ xs. map (λ (a : ℕ × Added). a.1) xs) h.workers ∙ map-append (λ (a : ℕ × Added). a.1) (chain counting (Worker worker) own) ((h.at, added worker number amount) ∷ [])

entries_more : (worker number i : ℕ) (amounts : List ℕ) → i < length amounts → entries_of worker number (take i amounts) ++ added worker number (get_or amounts i 0) ∷ [] ≡ entries_of worker number (take (i + 1) amounts)
entries_more worker number i amounts l =
    let next : suc i ≡ i + 1 = omega arith in
    sym (map-append (λ n. added worker number n) (take i amounts) (get_or amounts i 0 ∷ []))
    ∙ (ap (λ xs. entries_of worker number xs) (sym (take-suc amounts i 0 l)) ∙ ap (λ j. entries_of worker number (take j amounts)) next)

-- One turn of the loop. The worker and the counter stay what they were at its beginning
pub entries_step : (worker number : ℕ) (w n : ℕ) (first : List Added) (own seen : List (ℕ × Added)) (i answer : ℕ) (amounts : List ℕ) → w ≡ worker → n ≡ number → AddsOne n own (added w n (get_or amounts i 0)) answer seen
    → entries_by worker own ≡ first ++ entries_of worker number (take i amounts) → i < length amounts → entries_by worker seen ≡ first ++ entries_of worker number (take (i + 1) amounts)
entries_step worker number w n first own seen i answer amounts e f h so_far l =
    let W : ℕ → Type 0 = λ x. AddsOne number own (added x number (get_or amounts i 0)) answer seen in
    let N : ℕ → Type 0 = λ x. AddsOne x own (added w x (get_or amounts i 0)) answer seen in
    let last = added worker number (get_or amounts i 0) ∷ [] in
    entries_last worker number (get_or amounts i 0) answer own seen (subst W e (subst N f h))
    ∙ (ap (λ xs. xs ++ last) so_far ∙ (append_assoc first (entries_of worker number (take i amounts)) last ∙ ap (λ xs. first ++ xs) (entries_more worker number i amounts l)))

pub on_err : {A E : Type 0} {P : Type 0} (r : Result A E) → P → OnErr r P
on_err (Ok x) h = tt
on_err (Err e) h = h

-- a worker has as many entries more as it took amounts
pub entries_few : (worker number i : ℕ) (amounts : List ℕ) (own seen : List (ℕ × Added)) → entries_by worker seen ≡ entries_by worker own ++ entries_of worker number (take i amounts)
    → i ≤ length amounts → length (entries_by worker seen) ≤ length (entries_by worker own) + length amounts
entries_few worker number i amounts own seen e l =
    let n : length (entries_of worker number (take i amounts)) ≡ i = length-map (take i amounts) (λ k. added worker number k) ∙ length-take-le i amounts l in
    let s : length (entries_by worker seen) ≡ length (entries_by worker own) + length (entries_of worker number (take i amounts)) = ap length e ∙ length-append (entries_by worker own) (entries_of worker number (take i amounts)) in
    omega arith
