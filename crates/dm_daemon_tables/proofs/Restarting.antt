-- The loop that ends all puts, one inode after another.
use Rattle.std.proofs.Common.{◌≡◌, ◌≢◌, ℕ, zero, suc, ◌+◌, ◌<◌, ◌≤◌, Bool, true, false, cond, not, ◌&&◌, ◌||◌, List, [], ◌∷◌, ◌++◌, length, take, map, Option, None, Some, option_map, refl, sym, ap, subst, ◌∙◌, inl, inr, ◌⊎◌, arith, nat_eq, nat_cmp, slice_get}
use Rattle.std.proofs.lemmas.Bool.{eq-eqb, ne_eqb, eqb-true}
use Rattle.std.proofs.lemmas.Option.{slice_get-map, slice_get_within, get_or_from_slice_get}
use Rattle.std.proofs.lemmas.List.{take_more, take_all}
use Rattle.std.specs.Cmp.{both_ways}
use Rattle.std.specs.List.{list_any, AllByRecursion}
use Rattle.std.specs.Ordering.{eq_by_cmp}
use Rattle.std.specs.FinMap.{get, insert, find, entries, len, len-entries, get-entries}
use Rattle.dm_durable.specs.declared.daemon.Contents.{Contents}
use Rattle.dm_durable.specs.declared.daemon.Contents.TheVariants.{Regular, Making, Dual, Offline}
use Rattle.dm_durable.specs.declared.daemon.Entry.{Entry}
use Rattle.dm_durable.specs.declared.daemon.Inode.{Inode}
use Rattle.dm_durable.specs.Tables.{ByNumber}
use Rattle.dm_durable.specs.Inodes.{as_ended, bitfile_of, bitfile_made, is_bitfile, is_made, is_named, with_contents}
use Rattle.dm_durable.specs.Entries.{with_deletion_time, after_letting_go_if}
use Rattle.dm_durable.specs.Daemon.{after_ending_puts}
use Rattle.dm_inodes.specs.Counts.{made_at, ended_at}
use Rattle.dm_tables.specs.Rows.{adjust, changed, map_values}
use Rattle.dm_tables.proofs.Orders.{numbers, same_or, same_of}
use Rattle.dm_tables.proofs.Rows.{same_rows, insert-same}
use Rattle.dm_tables.proofs.Entries.{entries-mapped, entries-found}
use Rattle.dm_tables.proofs.Any.{any-true, any-some}
use Rattle.dm_tables.proofs.Adjusted.{get-mapped, adjust-there, adjusted-here, adjusted-beside, adjusted_row}

-- ---- an inode whose put ends

abbrev ended : Inode → Inode
ended i = with_contents (as_ended false) i

ended_twice : (change : ℕ) (c : Contents) → ended (ended (record { change = change; contents = c })) ≡ ended (record { change = change; contents = c })
ended_twice change (Regular bytes) = refl
ended_twice change (Making bytes b) = refl
ended_twice change (Dual bytes b) = refl
ended_twice change (Offline len b) = refl

ended_other : (change : ℕ) (c : Contents) → bitfile_made c ≡ None → ended (record { change = change; contents = c }) ≡ record { change = change; contents = c }
ended_other change (Regular bytes) e = refl
ended_other change (Making bytes b) e = cc
ended_other change (Dual bytes b) e = refl
ended_other change (Offline len b) e = refl

ended_unmade : (c : Contents) → bitfile_made (as_ended false c) ≡ None
ended_unmade (Regular bytes) = refl
ended_unmade (Making bytes b) = refl
ended_unmade (Dual bytes b) = refl
ended_unmade (Offline len b) = refl

made_named : (c : Contents) (b : ℕ) → bitfile_made c ≡ Some b → bitfile_of c ≡ Some b
made_named (Regular bytes) b e = cc
made_named (Making bytes d) b e = e
made_named (Dual bytes d) b e = cc
made_named (Offline len d) b e = cc

made_lets_go : (c : Contents) (b : ℕ) → bitfile_made c ≡ Some b → bitfile_of (as_ended false c) ≡ None
made_lets_go (Regular bytes) b e = cc
made_lets_go (Making bytes d) b e = refl
made_lets_go (Dual bytes d) b e = cc
made_lets_go (Offline len d) b e = cc

-- ---- the inodes with some of the puts ended

abbrev in_keys : ℕ → List (ℕ × Inode) → Bool
in_keys q es = list_any (λ e. nat_eq e.0 q) es

abbrev ended_if : Bool → Inode → Inode
ended_if b i = cond b (ended i) i

-- those of these entries
abbrev pub ended_of : List (ℕ × Inode) → ByNumber Inode → ByNumber Inode
ended_of es inodes = map_values (λ q i. ended_if (in_keys q es) i) inodes

in_more : (q : ℕ) (es : List (ℕ × Inode)) (e : ℕ × Inode) → in_keys q (es ++ e ∷ []) ≡ (in_keys q es || nat_eq e.0 q)
in_more q [] e = either (nat_eq e.0 q)
  where
    either : (b : Bool) → (b || false) ≡ b
    either true = refl
    either false = refl
in_more q (d ∷ es) e = step (nat_eq d.0 q) (in_more q es e)
  where
    step : (b : Bool) → in_keys q (es ++ e ∷ []) ≡ (in_keys q es || nat_eq e.0 q) → (b || in_keys q (es ++ e ∷ [])) ≡ ((b || in_keys q es) || nat_eq e.0 q)
    step true h = refl
    step false h = h

or_true : (a b : Bool) → b ≡ true → (a || b) ≡ true
or_true true b e = refl
or_true false b e = e

or_false : (a b : Bool) → b ≡ false → (a || b) ≡ a
or_false true b e = refl
or_false false b e = e

again : (b : Bool) (r : Option Inode) → option_map ended (option_map (ended_if b) r) ≡ option_map (ended_if true) r
again b None = refl
again true (Some i) = ap (λ j. Some j) (ended_twice i.change i.contents)
again false (Some i) = refl

one_more : (inodes : ByNumber Inode) (es : List (ℕ × Inode)) (e : ℕ × Inode) → adjust (ended_of es inodes) e.0 ended ≡ ended_of (es ++ e ∷ []) inodes
one_more inodes es e = same_rows numbers _ _ (λ q. at q (same_or numbers e.0 q))
  where
    at : (q : ℕ) → (q ≡ e.0) ⊎ (q ≢ e.0) → get (adjust (ended_of es inodes) e.0 ended) q ≡ get (ended_of (es ++ e ∷ []) inodes) q
    at q (inl same) =
        ap (get (adjust (ended_of es inodes) e.0 ended)) same
        ∙ adjusted-here numbers (ended_of es inodes) e.0 ended
        ∙ ap (option_map ended) (get-mapped numbers (λ k i. ended_if (in_keys k es) i) inodes e.0)
        ∙ again (in_keys e.0 es) (get inodes e.0)
        ∙ ap (λ b. option_map (ended_if b) (get inodes e.0)) (sym (in_more e.0 es e ∙ or_true (in_keys e.0 es) (nat_eq e.0 e.0) (eq-eqb e.0 e.0 refl)))
        ∙ sym (get-mapped numbers (λ k i. ended_if (in_keys k (es ++ e ∷ [])) i) inodes e.0)
        ∙ ap (get (ended_of (es ++ e ∷ []) inodes)) (sym same)
    at q (inr differ) =
        adjusted-beside numbers (ended_of es inodes) e.0 ended q differ
        ∙ get-mapped numbers (λ k i. ended_if (in_keys k es) i) inodes q
        ∙ ap (λ b. option_map (ended_if b) (get inodes q)) (sym (in_more q es e ∙ or_false (in_keys q es) (nat_eq e.0 q) (ne_eqb e.0 q (λ s. differ (sym s)))))
        ∙ sym (get-mapped numbers (λ k i. ended_if (in_keys k (es ++ e ∷ [])) i) inodes q)

unended : (r : Option Inode) → r ≡ option_map (ended_if false) r
unended None = refl
unended (Some i) = refl

pub none_ended : (inodes : ByNumber Inode) → inodes ≡ ended_of [] inodes
none_ended inodes = same_rows numbers _ _ (λ q. unended (get inodes q) ∙ sym (get-mapped numbers (λ k i. ended_if (in_keys k []) i) inodes q))

found_in : (q : ℕ) (es : List (ℕ × Inode)) (i : Inode) → find nat_cmp q es ≡ Some i → in_keys q es ≡ true
found_in q [] i e = cc
found_in q (d ∷ es) i e =
    elim (eq_by_cmp nat_cmp q d.0) as (λ b. eq_by_cmp nat_cmp q d.0 ≡ b → cond b (Some d.1) (find nat_cmp q es) ≡ Some i → (nat_eq d.0 q || in_keys q es) ≡ true) [
      | true ↦ λ t _. ap (λ b. b || in_keys q es) (eq-eqb d.0 q (sym (same_of numbers q d.0 t)))
      | false ↦ λ _ rest. or_true (nat_eq d.0 q) (in_keys q es) (found_in q es i rest)
    ] refl e

pub all_ended : (inodes : ByNumber Inode) → ended_of (entries inodes) inodes ≡ map_values (λ n i. with_contents (as_ended false) i) inodes
all_ended inodes = same_rows numbers _ _ (λ q.
    get-mapped numbers (λ k i. ended_if (in_keys k (entries inodes)) i) inodes q
    ∙ each q (get inodes q) refl
    ∙ sym (get-mapped numbers (λ n i. with_contents (as_ended false) i) inodes q))
  where
    each : (q : ℕ) (r : Option Inode) → get inodes q ≡ r → option_map (ended_if (in_keys q (entries inodes))) r ≡ option_map ended r
    each q None e = refl
    each q (Some i) e = ap (λ b. Some (ended_if b i)) (found_in q (entries inodes) i (sym (get-entries inodes q) ∙ e))

-- ---- the entry at a place
changed_map : {K X Y : Type 0} (f : K → X → Y) (es : List (K × X)) → changed f es ≡ map (λ e. (e.0, f e.0 e.1)) es
changed_map f [] = refl
changed_map f (e ∷ es) = ap ((e.0, f e.0 e.1) ∷◌) (changed_map f es)

at_place : (inodes : ByNumber Inode) (es : List (ℕ × Inode)) (k : ℕ) (e : ℕ × Inode) → slice_get (entries inodes) k ≡ Some e
    → slice_get (entries (ended_of es inodes)) k ≡ Some (e.0, ended_if (in_keys e.0 es) e.1)
at_place inodes es k e there =
    ap (λ l. slice_get l k) (entries-mapped numbers (λ q i. ended_if (in_keys q es) i) inodes ∙ changed_map (λ q i. ended_if (in_keys q es) i) (entries inodes))
    ∙ slice_get-map (λ d. (d.0, ended_if (in_keys d.0 es) d.1)) (entries inodes) k
    ∙ ap (option_map (λ d. (d.0, ended_if (in_keys d.0 es) d.1))) there

listed : (m : ByNumber Inode) (es : List (ℕ × Inode)) (k : ℕ) (e : ℕ × Inode) → AllByRecursion (λ d. get m d.0 ≡ Some d.1) es → slice_get es k ≡ Some e → get m e.0 ≡ Some e.1
listed m [] k e all there = let small = slice_get_within [] k e there in absurd (omega arith)
listed m (d ∷ es) zero e all there = let same : d ≡ e = some_same there in subst (λ x. get m x.0 ≡ Some x.1) same all.0
  where
    some_same : {X : Type 0} {x y : X} → Some x ≡ Some y → x ≡ y
    some_same h = cc
listed m (d ∷ es) (suc k) e all there = listed m es k e all.1 there

take_on : {X : Type 0} (l : List X) (k : ℕ) (x : X) → slice_get l k ≡ Some x → take (k + 1) l ≡ take k l ++ x ∷ []
take_on l k x there = take_more l k x (slice_get_within l k x there) ∙ ap (λ y. take k l ++ y ∷ []) (get_or_from_slice_get l k x x there)

-- ---- which bitfiles are let go

some_same : {X : Type 0} {x y : X} → Some x ≡ Some y → x ≡ y
some_same h = cc

is_made_named : (inodes : ByNumber Inode) (q : ℕ) → is_made inodes q ≡ true → is_named inodes q ≡ true
is_made_named inodes q e =
    let row = any-true (λ n i. is_bitfile q (bitfile_made i.contents)) inodes e in
    any-some numbers (λ n i. is_bitfile q (bitfile_of i.contents)) inodes row.0 row.1 row.2 (names row.1.contents (bitfile_made row.1.contents) refl row.3)
  where
    names : (c : Contents) (o : Option ℕ) → bitfile_made c ≡ o → is_bitfile q o ≡ true → is_bitfile q (bitfile_of c) ≡ true
    names c None e h = cc
    names c (Some b) e h = ap (is_bitfile q) (made_named c b e) ∙ h

-- an inode that named b names nothing any more: other bitfiles are named as before
module _ (inodes : ByNumber Inode) (n : ℕ) (x : Inode) (b : ℕ) (there : get inodes n ≡ Some x) (made : bitfile_made x.contents ≡ Some b) where
  after_it : ByNumber Inode
  after_it = adjust inodes n ended

  still : (q : ℕ) → is_named (adjust inodes n ended) q ≡ true → is_named inodes q ≡ true
  still q e =
      let row = any-true (λ m i. is_bitfile q (bitfile_of i.contents)) (adjust inodes n ended) e in
      at row.0 row.1 row.2 row.3 (same_or numbers n row.0)
    where
      at : (m : ℕ) (y : Inode) → get (adjust inodes n ended) m ≡ Some y → is_bitfile q (bitfile_of y.contents) ≡ true → (m ≡ n) ⊎ (m ≢ n) → is_named inodes q ≡ true
      at m y is names (inl same) =
          let found : get (adjust inodes n ended) n ≡ Some (ended x) = adjusted_row numbers inodes n ended x there in
          let here : Some (ended x) ≡ Some y = sym found ∙ ap (get (adjust inodes n ended)) (sym same) ∙ is in
          let nothing : bitfile_of y.contents ≡ None = ap (λ j. bitfile_of j.contents) (sym (some_same here)) ∙ made_lets_go x.contents b made in
          let no : is_bitfile q (bitfile_of y.contents) ≡ false = ap (is_bitfile q) nothing in
          cc
      at m y is names (inr differ) =
          any-some numbers (λ k i. is_bitfile q (bitfile_of i.contents)) inodes m y (sym (adjusted-beside numbers inodes n ended m differ) ∙ is) names

  yet : (q : ℕ) → q ≢ b → is_named inodes q ≡ true → is_named (adjust inodes n ended) q ≡ true
  yet q other e =
      let row = any-true (λ m i. is_bitfile q (bitfile_of i.contents)) inodes e in
      at row.0 row.1 row.2 row.3 (same_or numbers n row.0)
    where
      at : (m : ℕ) (y : Inode) → get inodes m ≡ Some y → is_bitfile q (bitfile_of y.contents) ≡ true → (m ≡ n) ⊎ (m ≢ n) → is_named (adjust inodes n ended) q ≡ true
      at m y is names (inl same) =
          let here : Some x ≡ Some y = sym there ∙ ap (get inodes) (sym same) ∙ is in
          let it : bitfile_of y.contents ≡ Some b = ap (λ j. bitfile_of j.contents) (sym (some_same here)) ∙ made_named x.contents b made in
          let equal : nat_eq b q ≡ true = sym (ap (is_bitfile q) it) ∙ names in
          absurd (other (sym (eqb-true b q equal)))
      at m y is names (inr differ) =
          any-some numbers (λ k i. is_bitfile q (bitfile_of i.contents)) (adjust inodes n ended) m y (adjusted-beside numbers inodes n ended m differ ∙ is) names

  named_beside : (q : ℕ) → q ≢ b → is_named (adjust inodes n ended) q ≡ is_named inodes q
  named_beside q other = both_ways (is_named (adjust inodes n ended) q) (is_named inodes q) (still q) (yet q other)

  named_here : is_named inodes b ≡ true
  named_here =
      any-some numbers (λ k i. is_bitfile b (bitfile_of i.contents)) inodes n x there
      (ap (is_bitfile b) (made_named x.contents b made) ∙ eq-eqb b b refl)

-- ---- the entries

abbrev deleted_if : ℕ → Bool → Entry → Entry
deleted_if time t e = cond t (with_deletion_time time e) e

abbrev lets_go : ByNumber Inode → ByNumber Inode → ℕ → Bool
lets_go before inodes q = is_made before q && not (is_named inodes q)

undeleted : (time : ℕ) (r : Option Entry) → r ≡ option_map (deleted_if time false) r
undeleted time None = refl
undeleted time (Some e) = refl

none_lets_go : (inodes : ByNumber Inode) (q : ℕ) (t : Bool) → is_made inodes q ≡ t → lets_go inodes inodes q ≡ false
none_lets_go inodes q true e = ap (λ m. m && not (is_named inodes q)) e ∙ ap not (is_made_named inodes q e)
none_lets_go inodes q false e = ap (λ m. m && not (is_named inodes q)) e

pub none_deleted : (es : ByNumber Entry) (inodes : ByNumber Inode) (time : ℕ) → es ≡ after_ending_puts es inodes inodes time
none_deleted es inodes time = same_rows numbers _ _ (λ q.
    undeleted time (get es q)
    ∙ ap (λ t. option_map (deleted_if time t) (get es q)) (sym (none_lets_go inodes q (is_made inodes q) refl))
    ∙ sym (get-mapped numbers (λ k e. deleted_if time (lets_go inodes inodes k) e) es q))

deleted_now : (time : ℕ) (r : Option Entry) → option_map (with_deletion_time time) (option_map (deleted_if time false) r) ≡ option_map (deleted_if time true) r
deleted_now time None = refl
deleted_now time (Some e) = refl

module _ (es : ByNumber Entry) (before inodes : ByNumber Inode) (time n b : ℕ) (x : Inode) (there : get inodes n ≡ Some x) (made : bitfile_made x.contents ≡ Some b) (was : is_made before b ≡ true) where
  kept : is_named (adjust inodes n ended) b ≡ true → (q : ℕ) → (q ≡ b) ⊎ (q ≢ b) → lets_go before inodes q ≡ lets_go before (adjust inodes n ended) q
  kept named q (inl same) =
      ap (lets_go before inodes) same
      ∙ ap (λ t. is_made before b && not t) (named_here inodes n x b there made ∙ sym named)
      ∙ ap (lets_go before (adjust inodes n ended)) (sym same)
  kept named q (inr differ) = ap (λ t. is_made before q && not t) (sym (named_beside inodes n x b there made q differ))

  same_deleted : is_named (adjust inodes n ended) b ≡ true → after_ending_puts es before inodes time ≡ after_ending_puts es before (adjust inodes n ended) time
  same_deleted named = same_rows numbers _ _ (λ q.
      get-mapped numbers (λ k e. deleted_if time (lets_go before inodes k) e) es q
      ∙ ap (λ t. option_map (deleted_if time t) (get es q)) (kept named q (same_or numbers b q))
      ∙ sym (get-mapped numbers (λ k e. deleted_if time (lets_go before (adjust inodes n ended) k) e) es q))

  more_deleted : is_named (adjust inodes n ended) b ≡ false
      → adjust (after_ending_puts es before inodes time) b (with_deletion_time time) ≡ after_ending_puts es before (adjust inodes n ended) time
  more_deleted unnamed = same_rows numbers _ _ (λ q. at q (same_or numbers b q))
    where
      at : (q : ℕ) → (q ≡ b) ⊎ (q ≢ b) → get (adjust (after_ending_puts es before inodes time) b (with_deletion_time time)) q ≡ get (after_ending_puts es before (adjust inodes n ended) time) q
      at q (inl same) =
          ap (get (adjust (after_ending_puts es before inodes time) b (with_deletion_time time))) same
          ∙ adjusted-here numbers (after_ending_puts es before inodes time) b (with_deletion_time time)
          ∙ ap (option_map (with_deletion_time time)) (get-mapped numbers (λ k e. deleted_if time (lets_go before inodes k) e) es b
          ∙ ap (λ t. option_map (deleted_if time t) (get es b)) (ap (λ t. is_made before b && not t) (named_here inodes n x b there made) ∙ ap (λ t. t && false) was))
          ∙ deleted_now time (get es b)
          ∙ ap (λ t. option_map (deleted_if time t) (get es b)) (sym (ap (λ t. is_made before b && not t) unnamed ∙ ap (λ t. t && true) was))
          ∙ sym (get-mapped numbers (λ k e. deleted_if time (lets_go before (adjust inodes n ended) k) e) es b)
          ∙ ap (get (after_ending_puts es before (adjust inodes n ended) time)) (sym same)
      at q (inr differ) =
          adjusted-beside numbers (after_ending_puts es before inodes time) b (with_deletion_time time) q differ
          ∙ get-mapped numbers (λ k e. deleted_if time (lets_go before inodes k) e) es q
          ∙ ap (λ t. option_map (deleted_if time t) (get es q)) (ap (λ t. is_made before q && not t) (sym (named_beside inodes n x b there made q differ)))
          ∙ sym (get-mapped numbers (λ k e. deleted_if time (lets_go before (adjust inodes n ended) k) e) es q)

  it_goes : (t : Bool) → is_named (adjust inodes n ended) b ≡ t
      → cond t (after_ending_puts es before inodes time) (adjust (after_ending_puts es before inodes time) b (with_deletion_time time)) ≡ after_ending_puts es before (adjust inodes n ended) time
  it_goes true e = same_deleted e
  it_goes false e = more_deleted e

-- ---- a step of the loop

-- the inode at a place was that of before, if its put has not ended
made_before : (before : ByNumber Inode) (es : List (ℕ × Inode)) (e : ℕ × Inode) (b : ℕ) (t : Bool) → in_keys e.0 es ≡ t → get before e.0 ≡ Some e.1
    → bitfile_made (ended_if (in_keys e.0 es) e.1).contents ≡ Some b → is_made before b ≡ true
made_before before es e b true is there made =
    let gone : bitfile_made (ended_if (in_keys e.0 es) e.1).contents ≡ None = ap (λ t. bitfile_made (ended_if t e.1).contents) is ∙ ended_unmade e.1.contents in
    cc
made_before before es e b false is there made =
    let now : bitfile_made e.1.contents ≡ Some b = sym (ap (λ t. bitfile_made (ended_if t e.1).contents) is) ∙ made in
    any-some numbers (λ n i. is_bitfile b (bitfile_made i.contents)) before e.0 e.1 there (ap (is_bitfile b) now ∙ eq-eqb b b refl)

-- what ended so far, and what was let go
pub record Ending (at time : ℕ) (before inodes : ByNumber Inode) (first es : ByNumber Entry) : Type 0 where
  pub inodes_are : inodes ≡ ended_of (take at (entries before)) before
  pub entries_are : es ≡ after_ending_puts first before inodes time

pub ending_begun : (time : ℕ) (before : ByNumber Inode) (first : ByNumber Entry) → Ending 0 time before before first first
ending_begun time before first = record { inodes_are = none_ended before; entries_are = none_deleted first before time }

entry_goes : (first : ByNumber Entry) (before inodes : ByNumber Inode) (time n : ℕ) (x : Inode) (o : Option ℕ) → get inodes n ≡ Some x → bitfile_made x.contents ≡ o
    → ((b : ℕ) → o ≡ Some b → is_made before b ≡ true)
    → after_letting_go_if (after_ending_puts first before inodes time) (adjust inodes n ended) time o ≡ after_ending_puts first before (adjust inodes n ended) time
entry_goes first before inodes time n x None there made was =
    let same : adjust inodes n ended ≡ inodes =
    adjust-there inodes n ended x there ∙ ap (insert inodes n) (ended_other x.change x.contents made) ∙ insert-same numbers inodes n x there in
    ap (λ m. after_ending_puts first before m time) (sym same)
entry_goes first before inodes time n x (Some b) there made was =
    it_goes first before inodes time n b x there made (was b refl) (is_named (adjust inodes n ended) b) refl

step_at : (at time : ℕ) (before inodes after : ByNumber Inode) (first es left : ByNumber Entry) (named : Option ℕ) (e : ℕ × Inode)
    → slice_get (entries before) at ≡ Some e
    → Ending at time before inodes first es
    → named ≡ made_at (slice_get (entries inodes) at)
    → after ≡ ended_at inodes (slice_get (entries inodes) at)
    → left ≡ after_letting_go_if es after time named
    → Ending (at + 1) time before after first left
step_at at time before inodes after first es left named e there so_far names changed goes =
    let part : List (ℕ × Inode) = take at (entries before) in
    let x : Inode = ended_if (in_keys e.0 part) e.1 in
    let found : slice_get (entries inodes) at ≡ Some (e.0, x) = ap (λ m. slice_get (entries m) at) so_far.inodes_are ∙ at_place before part at e there in
    let here : get inodes e.0 ≡ Some x = listed inodes (entries inodes) at (e.0, x) (entries-found numbers inodes) found in
    let old : get before e.0 ≡ Some e.1 = listed before (entries before) at e (entries-found numbers before) there in
    let new : after ≡ adjust inodes e.0 ended = changed ∙ ap (ended_at inodes) found in
    let it : named ≡ bitfile_made x.contents = names ∙ ap made_at found in
    record {
      inodes_are = new ∙ ap (λ m. adjust m e.0 ended) so_far.inodes_are ∙ one_more before part e ∙ ap (λ l. ended_of l before) (sym (take_on (entries before) at e there));
      entries_are =
          goes ∙ ap (after_letting_go_if es after time) it
          ∙ ap (λ m. after_letting_go_if es m time (bitfile_made x.contents)) new
          ∙ ap (λ m. after_letting_go_if m (adjust inodes e.0 ended) time (bitfile_made x.contents)) so_far.entries_are
          ∙ entry_goes first before inodes time e.0 x (bitfile_made x.contents) here refl (λ b is. made_before before part e b (in_keys e.0 part) refl old is)
          ∙ ap (λ m. after_ending_puts first before m time) (sym new);
    }

pub ending_on : (at time : ℕ) (before inodes after : ByNumber Inode) (first es left : ByNumber Entry) (named : Option ℕ)
    → at < len before
    → Ending at time before inodes first es
    → named ≡ made_at (slice_get (entries inodes) at)
    → after ≡ ended_at inodes (slice_get (entries inodes) at)
    → left ≡ after_letting_go_if es after time named
    → Ending (at + 1) time before after first left
ending_on at time before inodes after first es left named small so_far names changed goes =
    let row = there (entries before) at (let e = len-entries before in omega arith) in
    step_at at time before inodes after first es left named row.0 row.1 so_far names changed goes
  where
    there : (l : List (ℕ × Inode)) (k : ℕ) → k < length l → (e : ℕ × Inode) × (slice_get l k ≡ Some e)
    there [] k h = absurd (omega arith)
    there (d ∷ l) zero h = (d, refl)
    there (d ∷ l) (suc k) h = there l k (omega arith)

pub ending_end : (at time : ℕ) (before inodes : ByNumber Inode) (first es : ByNumber Entry) → len before ≤ at → Ending at time before inodes first es
    → inodes ≡ map_values (λ n i. with_contents (as_ended false) i) before
ending_end at time before inodes first es past so_far =
    so_far.inodes_are
    ∙ ap (λ l. ended_of l before) (take_all at (entries before) (let e = len-entries before in omega arith))
    ∙ all_ended before
