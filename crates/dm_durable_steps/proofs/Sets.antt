-- Sets of bitfiles, gathered in a loop over inodes.
use Rattle.std.proofs.Common.{◌≡◌, ℕ, Bool, true, false, cond, not, ◌&&◌, ◌||◌, List, [], ◌∷◌, Option, None, Some, is_some, refl, sym, ap, ◌∙◌, inl, inr}
use Rattle.std.proofs.lemmas.Bool.{eq-eqb, ne_eqb}
use Rattle.std.specs.FinMap.{empty, get, insert, entries, get-empty}
use Rattle.std.specs.Ordering.{nat_cmp}
use Rattle.dm_durable.specs.declared.daemon.Entry.{Entry}
use Rattle.dm_durable.specs.declared.daemon.Inode.{Inode}
use Rattle.dm_durable.specs.Daemon.{after_ending_puts}
use Rattle.dm_durable.specs.Entries.{with_deletion_time}
use Rattle.dm_durable.specs.Inodes.{is_bitfile}
use Rattle.dm_durable.specs.Tables.{ByNumber}
use Rattle.dm_tables.specs.Rows.{any, map_values}
use Rattle.dm_tables.proofs.Any.{any-entries}
use Rattle.dm_tables.proofs.Loops.{asked}
use Rattle.dm_tables.proofs.Orders.{numbers, same_or}
use Rattle.dm_tables.proofs.Rows.{get-here, get-beside}
use Rattle.dm_durable_steps.specs.Bitfiles.{has, HasMore, HasNamed, named_by, entry_after_put}

either_false : (b : Bool) → b ≡ (b || false)
either_false true = refl
either_false false = refl

either_true : (b : Bool) → true ≡ (b || true)
either_true true = refl
either_true false = refl

either_assoc : (a b c : Bool) → ((a || b) || c) ≡ (a || (b || c))
either_assoc true b c = refl
either_assoc false b c = refl

-- one bitfile more
pub has_more : (old new : ByNumber (Unit {0})) (b : ℕ) → new ≡ insert old b tt → HasMore old (Some b) new
has_more old new b put = λ q.
    ap (λ m. is_some (get m q)) put
    ∙ elim (same_or numbers b q) [
      | inl same ↦
          ap (λ k. is_some (get (insert old b tt) k)) same ∙ ap is_some (get-here numbers old b tt)
          ∙ either_true (has old q) ∙ ap (λ t. has old q || t) (sym (eq-eqb b q (sym same)))
      | inr differ ↦
          ap is_some (get-beside numbers old b tt q differ)
          ∙ either_false (has old q) ∙ ap (λ t. has old q || t) (sym (ne_eqb b q (λ e. differ (sym e))))
    ]

pub has_same : (old : ByNumber (Unit {0})) → HasMore old None old
has_same old = λ q. either_false (has old q)

-- whether some of these inodes names it
abbrev pub named_in : Bool → List (ℕ × Inode) → ℕ → Bool
named_in making left b = asked (λ (i : Inode). is_bitfile b (named_by making i.contents)) left

-- the set and what the inodes that are left name are what all name
abbrev pub Gathered : Bool → ByNumber Inode → ByNumber (Unit {0}) → List (ℕ × Inode) → Type 0
Gathered making inodes set left =
    (b : ℕ) → (has set b || named_in making left b) ≡ any (λ n i. is_bitfile b (named_by making i.contents)) inodes

pub gathered_none : (making : Bool) (inodes : ByNumber Inode) (set : ByNumber (Unit {0})) (left : List (ℕ × Inode)) → set ≡ empty → left ≡ entries inodes → Gathered making inodes set left
gathered_none making inodes set left none is = λ b.
    ap (λ m. has m b || named_in making left b) none
    ∙ ap (λ r. is_some r || named_in making left b) (get-empty {X = Unit {0}} nat_cmp b)
    ∙ ap (λ l. named_in making l b) is
    ∙ sym (any-entries numbers (λ n i. is_bitfile b (named_by making i.contents)) inodes)

pub gathered_more : (making : Bool) (inodes : ByNumber Inode) (old new : ByNumber (Unit {0})) (left rest : List (ℕ × Inode)) (n : ℕ) (i : Inode) (named : Option ℕ) → left ≡ (n, i) ∷ rest → named ≡ named_by making i.contents → HasMore old named new → Gathered making inodes old left → Gathered making inodes new rest
gathered_more making inodes old new left rest n i named is names more so_far = λ b.
    ap (λ t. t || named_in making rest b) (more b)
    ∙ either_assoc (has old b) (is_bitfile b named) (named_in making rest b)
    ∙ ap (λ o. has old b || (is_bitfile b o || named_in making rest b)) names
    ∙ ap (λ l. has old b || named_in making l b) (sym is)
    ∙ so_far b

pub gathered_all : (making : Bool) (inodes : ByNumber Inode) (set : ByNumber (Unit {0})) (left : List (ℕ × Inode)) → left ≡ [] → Gathered making inodes set left → HasNamed making inodes set
gathered_all making inodes set left none so_far = λ b.
    either_false (has set b) ∙ ap (λ l. has set b || named_in making l b) (sym none) ∙ so_far b

-- what the sets decide is what the inodes say
pub ended_by : (before after : ByNumber Inode) (made named : ByNumber (Unit {0})) (time : ℕ) (entries : ByNumber Entry) → HasNamed true before made → HasNamed false after named → map_values (λ b e. entry_after_put made named time b e) entries ≡ after_ending_puts entries before after time
ended_by before after made named time entries has_made has_named =
    ap (λ (f : ℕ → Entry → Entry). map_values f entries)
    (λ j b e. cond (has_made b j && not (has_named b j)) (with_deletion_time time e) e)
