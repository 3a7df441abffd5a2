-- How many inodes name a bitfile, as inodes come and go.
use Rattle.std.proofs.Common.{◌≡◌, ◌≢◌, ℕ, ◌+◌, ◌-◌, ◌<◌, ◌≤◌, ◌^◌, Bool, true, false, cond, List, [], ◌∷◌, length, Option, None, Some, IsSome, is_some, option_map, refl, sym, ap, subst, ◌∙◌, inl, inr, arith, nat_eq, nat_lt}
use Rattle.std.proofs.lemmas.Bool.{eq-eqb, eqb-true, lt-ltb, le-ltb}
use Rattle.std.specs.FinMap.{get, insert, remove, entries, len, len-entries, empty, get-empty}
use Rattle.dm_durable.specs.declared.daemon.Inode.{Inode}
use Rattle.dm_durable.specs.Tables.{ByNumber}
use Rattle.dm_durable.specs.declared.daemon.Contents.{Contents}
use Rattle.dm_durable.specs.declared.daemon.Contents.TheVariants.{Regular, Making, Dual, Offline}
use Rattle.dm_durable.specs.Inodes.{bitfile_of, is_bitfile, is_named, length_of, with_contents, as_ended, as_offline, as_recalled}
use Rattle.dm_durable.proofs.Sizes.{size_formed, length_ended, length_offline}
use Rattle.dm_durable.specs.Daemon.{size_of_files}
use Rattle.dm_tables.specs.Rows.{adjust}
use Rattle.dm_tables.specs.Totals.{sum_of, weight_at}
use Rattle.dm_tables.proofs.Orders.{numbers, same_or}
use Rattle.dm_tables.proofs.Rows.{get-here, get-beside, removed-here, removed-beside}
use Rattle.dm_tables.proofs.Adjusted.{adjust-none, adjusted-here, adjusted-beside}
use Rattle.dm_tables.proofs.Any.{any-true, any-false}
use Rattle.dm_tables.proofs.Sums.{total-entries, total-empty, total-insert, total-remove, row-le-total, total-same, total-adjust}
use Rattle.dm_inodes.specs.Counts.{naming_of, naming, count_at, Counted, HasCount, KeepsCounts, raised, lowered, with_one_more, with_one_fewer, let_go_by}

-- ---- one inode

named_weight : (b : ℕ) (i : Inode) → is_bitfile b (bitfile_of i.contents) ≡ true → naming_of b i ≡ 1
named_weight b i e = ap (λ t. cond t 1 0) e

other_weight : (b : ℕ) (i : Inode) → is_bitfile b (bitfile_of i.contents) ≡ false → naming_of b i ≡ 0
other_weight b i e = ap (λ t. cond t 1 0) e

weight_small : (b : ℕ) (i : Inode) → naming_of b i ≤ 1
weight_small b i =
    elim (is_bitfile b (bitfile_of i.contents)) as (λ t. cond t 1 0 ≤ 1) [ true ↦ omega arith | false ↦ omega arith ]

-- ---- all of them

sum_small : (b : ℕ) (es : List (ℕ × Inode)) → sum_of (naming_of b) es ≤ length es
sum_small b [] = omega arith
sum_small b (e ∷ es) = let rest = sum_small b es in let here = weight_small b e.1 in omega arith

-- no more than there are
pub naming_few : (inodes : ByNumber Inode) (b : ℕ) → naming inodes b ≤ len inodes
naming_few inodes b =
    let small = sum_small b (entries inodes) in
    let sum : naming inodes b ≡ sum_of (naming_of b) (entries inodes) = total-entries (naming_of b) inodes in
    let many : len inodes ≡ length (entries inodes) = len-entries inodes in
    omega arith

none_weighs : (es : List (ℕ × Inode)) → sum_of {K = ℕ} (λ (i : Inode). 0) es ≡ 0
none_weighs [] = refl
none_weighs (e ∷ es) = let rest = none_weighs es in omega arith

-- none names it, or some
pub unnamed_none : (inodes : ByNumber Inode) (b : ℕ) → is_named inodes b ≡ false → naming inodes b ≡ 0
unnamed_none inodes b e =
    let each = any-false numbers (λ n i. is_bitfile b (bitfile_of i.contents)) inodes e in
    total-same numbers (naming_of b) (λ i. 0) inodes (λ n i f. other_weight b i (each n i f))
    ∙ total-entries (λ i. 0) inodes ∙ none_weighs (entries inodes)

pub named_some : (inodes : ByNumber Inode) (b : ℕ) → is_named inodes b ≡ true → 0 < naming inodes b
named_some inodes b e =
    let row = any-true (λ n i. is_bitfile b (bitfile_of i.contents)) inodes e in
    let one = named_weight b row.1 row.3 in
    let all = row-le-total numbers (naming_of b) inodes row.0 row.1 row.2 in
    omega arith

-- the test of the number that is kept
named_test : (n : ℕ) (t : Bool) → (t ≡ true → 0 < n) → (t ≡ false → n ≡ 0) → nat_lt 0 n ≡ t
named_test n true some none = lt-ltb 0 n (some refl)
named_test n false some none = le-ltb 0 n (let f = none refl in omega arith)

pub named_is : (counts : ByNumber ℕ) (inodes : ByNumber Inode) (b : ℕ) → Counted counts inodes → nat_lt 0 (count_at (get counts b)) ≡ is_named inodes b
named_is counts inodes b counted =
    ap (nat_lt 0) (counted b) ∙ named_test (naming inodes b) (is_named inodes b) (named_some inodes b) (unnamed_none inodes b)

-- ---- beginnings
pub counted_empty : Counted empty empty
counted_empty = λ b. ap count_at (get-empty _ b) ∙ sym (total-empty _ (naming_of b))

-- ---- the number that is kept of a bitfile changes

-- what a change does to it where it is, and to the others
adjusted_count : (counts : ByNumber ℕ) (b : ℕ) (f : ℕ → ℕ) (q : ℕ) → q ≢ b → count_at (get (adjust counts b f) q) ≡ count_at (get counts q)
adjusted_count counts b f q differ = ap count_at (adjusted-beside numbers counts b f q differ)

apart_weight : (b q : ℕ) → q ≢ b → nat_eq b q ≡ false
apart_weight b q differ =
    elim (nat_eq b q) as (λ t. nat_eq b q ≡ t → t ≡ false) [
      | true ↦ λ e. absurd (differ (sym (eqb-true b q e)))
      | false ↦ λ e. refl
    ] refl

same_weight : (b : ℕ) → nat_eq b b ≡ true
same_weight b = eq-eqb b b refl

option_lowered : (r : Option ℕ) → count_at (option_map lowered r) ≡ count_at r - 1
option_lowered None = refl
option_lowered (Some n) = refl

option_raised : (r : Option ℕ) → IsSome r → count_at r < 2 ^ 63 → count_at (option_map raised r) ≡ count_at r + 1
option_raised None there few = cc
option_raised (Some n) there few = omega arith

less_off : (t : Bool) (m n : ℕ) → t ≡ false → m ≡ n → m ≡ n - cond t 1 0
less_off true m n off same = cc
less_off false m n off same = omega arith

more_off : (t : Bool) (m n : ℕ) → t ≡ false → m ≡ n → m ≡ n + cond t 1 0
more_off true m n off same = cc
more_off false m n off same = omega arith

none_off : (o : Option ℕ) (q m n : ℕ) → o ≡ None → m ≡ n → m + cond (is_bitfile q o) 1 0 ≡ n
none_off None q m n none same = omega arith
none_off (Some b) q m n none same = cc

-- one fewer
fewer_at : (counts : ByNumber ℕ) (b q : ℕ) → count_at (get (adjust counts b lowered) q) ≡ count_at (get counts q) - cond (nat_eq b q) 1 0
fewer_at counts b q =
    elim (same_or numbers b q) [
      | inl same ↦
          subst (λ x. count_at (get (adjust counts b lowered) x) ≡ count_at (get counts x) - cond (nat_eq b x) 1 0) (sym same)
          (ap count_at (adjusted-here numbers counts b lowered) ∙ option_lowered (get counts b) ∙ ap (λ t. count_at (get counts b) - cond t 1 0) (sym (same_weight b)))
      | inr differ ↦
          less_off (nat_eq b q) (count_at (get (adjust counts b lowered) q)) (count_at (get counts q)) (apart_weight b q differ) (adjusted_count counts b lowered q differ)
    ]

pub fewer : (counts : ByNumber ℕ) (named : Option ℕ) (q : ℕ) → count_at (get (with_one_fewer counts named) q) ≡ count_at (get counts q) - cond (is_bitfile q named) 1 0
fewer counts None q = omega arith
fewer counts (Some b) q = fewer_at counts b q

-- one more
more_at : (counts : ByNumber ℕ) (b q : ℕ) → IsSome (get counts b) → count_at (get counts b) < 2 ^ 63
    → count_at (get (adjust counts b raised) q) ≡ count_at (get counts q) + cond (nat_eq b q) 1 0
more_at counts b q there few =
    elim (same_or numbers b q) [
      | inl same ↦
          subst (λ x. count_at (get (adjust counts b raised) x) ≡ count_at (get counts x) + cond (nat_eq b x) 1 0) (sym same)
          (ap count_at (adjusted-here numbers counts b raised) ∙ option_raised (get counts b) there few ∙ ap (λ t. count_at (get counts b) + cond t 1 0) (sym (same_weight b)))
      | inr differ ↦
          more_off (nat_eq b q) (count_at (get (adjust counts b raised) q)) (count_at (get counts q)) (apart_weight b q differ) (adjusted_count counts b raised q differ)
    ]

pub more : (counts : ByNumber ℕ) (named : Option ℕ) (q : ℕ) → HasCount counts named → ((b : ℕ) → count_at (get counts b) < 2 ^ 63)
    → count_at (get (with_one_more counts named) q) ≡ count_at (get counts q) + cond (is_bitfile q named) 1 0
more counts None q there few = omega arith
more counts (Some b) q there few = more_at counts b q there (few b)

-- ---- which bitfiles have a number
kept_by_map : (f : ℕ → ℕ) (r : Option ℕ) → IsSome r → IsSome (option_map f r)
kept_by_map f None h = cc
kept_by_map f (Some n) h = refl

adjust_keeps : (counts : ByNumber ℕ) (b : ℕ) (f : ℕ → ℕ) → KeepsCounts counts (adjust counts b f)
adjust_keeps counts b f = λ q there.
    elim (same_or numbers b q) [
      | inl same ↦
          subst (λ x. IsSome (get (adjust counts b f) x)) (sym same)
          (subst IsSome (sym (adjusted-here numbers counts b f)) (kept_by_map f (get counts b) (subst (λ x. IsSome (get counts x)) same there)))
      | inr differ ↦ subst IsSome (sym (adjusted-beside numbers counts b f q differ)) there
    ]

pub fewer_keeps : (counts : ByNumber ℕ) (named : Option ℕ) → KeepsCounts counts (with_one_fewer counts named)
fewer_keeps counts None = λ q there. there
fewer_keeps counts (Some b) = adjust_keeps counts b lowered

-- ---- an inode is taken out

-- one fewer names what it named
pub counted_out : (counts : ByNumber ℕ) (inodes : ByNumber Inode) (n : ℕ) (i : Inode) → get inodes n ≡ Some i → Counted counts inodes
    → Counted (with_one_fewer counts (bitfile_of i.contents)) (remove inodes n)
counted_out counts inodes n i there counted = λ q.
    let kept = fewer counts (bitfile_of i.contents) q in
    let was = counted q in
    let out = total-remove numbers (naming_of q) inodes n in
    let weighs : weight_at (naming_of q) (get inodes n) ≡ naming_of q i = ap (weight_at (naming_of q)) there in
    omega arith

-- ---- an inode is put in

put_in : (counts : ByNumber ℕ) (inodes : ByNumber Inode) (n : ℕ) (i : Inode) → get inodes n ≡ None → Counted counts inodes → len inodes < 2 ^ 63
    → HasCount counts (bitfile_of i.contents) → (q : ℕ) → count_at (get (with_one_more counts (bitfile_of i.contents)) q) ≡ naming (insert inodes n i) q
put_in counts inodes n i absent counted few there q =
    let kept = more counts (bitfile_of i.contents) q there (λ b. let low = naming_few inodes b in let is = counted b in omega arith) in
    let was = counted q in
    let put = total-insert numbers (naming_of q) inodes n i in
    let none : weight_at (naming_of q) (get inodes n) ≡ 0 = ap (weight_at (naming_of q)) absent in
    omega arith

-- one more names what it names
pub counted_in : (counts : ByNumber ℕ) (inodes : ByNumber Inode) (n : ℕ) (i : Inode) → get inodes n ≡ None → Counted counts inodes → len inodes < 2 ^ 63
    → HasCount counts (bitfile_of i.contents) → Counted (with_one_more counts (bitfile_of i.contents)) (insert inodes n i)
counted_in counts inodes n i absent counted few there = put_in counts inodes n i absent counted few there

some_counted : (r : Option ℕ) → 0 < count_at r → IsSome r
some_counted None h = absurd (omega arith)
some_counted (Some n) h = refl

-- what an inode names has a number
known_of : (counts : ByNumber ℕ) (inodes : ByNumber Inode) (n : ℕ) (i : Inode) (named : Option ℕ) → get inodes n ≡ Some i → bitfile_of i.contents ≡ named
    → Counted counts inodes → HasCount counts named
known_of counts inodes n i None there is counted = tt
known_of counts inodes n i (Some b) there is counted =
    let one = named_weight b i (ap (is_bitfile b) is ∙ same_weight b) in
    let all = row-le-total numbers (naming_of b) inodes n i there in
    let kept = counted b in
    some_counted (get counts b) (omega arith)

kept_over : (old new : ByNumber ℕ) (named : Option ℕ) → KeepsCounts old new → HasCount old named → HasCount new named
kept_over old new None keeps has = tt
kept_over old new (Some b) keeps has = keeps b has

pub known_out : (counts : ByNumber ℕ) (inodes : ByNumber Inode) (n : ℕ) (i : Inode) → get inodes n ≡ Some i → Counted counts inodes
    → HasCount (with_one_fewer counts (bitfile_of i.contents)) (bitfile_of i.contents)
known_out counts inodes n i there counted =
    kept_over counts (with_one_fewer counts (bitfile_of i.contents)) (bitfile_of i.contents) (fewer_keeps counts (bitfile_of i.contents))
    (known_of counts inodes n i (bitfile_of i.contents) there refl counted)

pub counted_over : (counts : ByNumber ℕ) (inodes : ByNumber Inode) → empty ≡ counts → empty ≡ inodes → Counted counts inodes
counted_over counts inodes e f = subst (λ m. Counted m inodes) e (subst (Counted empty) f counted_empty)

pub size_empty : size_of_files empty ≡ 0
size_empty = total-empty _ (λ i. length_of i.contents)

-- ---- a bitfile gets a row

zero_at : (counts : ByNumber ℕ) (b q : ℕ) → get counts b ≡ None → count_at (get (insert counts b 0) q) ≡ count_at (get counts q)
zero_at counts b q absent =
    elim (same_or numbers b q) [
      | inl same ↦
          subst (λ x. count_at (get (insert counts b 0) x) ≡ count_at (get counts x)) (sym same)
          (ap count_at (get-here numbers counts b 0) ∙ sym (ap count_at absent))
      | inr differ ↦ ap count_at (get-beside numbers counts b 0 q differ)
    ]

pub counted_zero : (counts : ByNumber ℕ) (inodes : ByNumber Inode) (b : ℕ) → get counts b ≡ None → Counted counts inodes → Counted (insert counts b 0) inodes
counted_zero counts inodes b absent counted = λ q. zero_at counts b q absent ∙ counted q

pub zero_there : (counts : ByNumber ℕ) (b : ℕ) → IsSome (get (insert counts b 0) b)
zero_there counts b = ap is_some (get-here numbers counts b 0)

pub zero_keeps : (counts : ByNumber ℕ) (b : ℕ) → KeepsCounts counts (insert counts b 0)
zero_keeps counts b = λ q there.
    elim (same_or numbers b q) [
      | inl same ↦ subst (λ x. IsSome (get (insert counts b 0) x)) (sym same) (zero_there counts b)
      | inr differ ↦ subst IsSome (sym (get-beside numbers counts b 0 q differ)) there
    ]

-- ---- a bitfile is forgotten

pub counted_forgotten : (counts : ByNumber ℕ) (inodes : ByNumber Inode) (b : ℕ) → count_at (get counts b) ≡ 0 → Counted counts inodes → Counted (remove counts b) inodes
counted_forgotten counts inodes b none counted = λ q. gone q ∙ counted q
  where
    gone : (q : ℕ) → count_at (get (remove counts b) q) ≡ count_at (get counts q)
    gone q =
        elim (same_or numbers b q) [
          | inl same ↦
              subst (λ x. count_at (get (remove counts b) x) ≡ count_at (get counts x)) (sym same)
              (ap count_at (removed-here numbers counts b) ∙ sym none)
          | inr differ ↦ ap count_at (removed-beside numbers counts b q differ)
        ]

-- ---- an inode changes its form

-- the weight of what is at a number, before and after
formed_at : (f : Contents → Contents) (named : Option Inode → Option ℕ) (inodes : ByNumber Inode) (n q : ℕ) (r : Option Inode) → get inodes n ≡ r
    → named None ≡ None
    → ((i : Inode) → naming_of q (with_contents f i) + cond (is_bitfile q (named (Some i))) 1 0 ≡ naming_of q i)
    → naming (adjust inodes n (with_contents f)) q + cond (is_bitfile q (named r)) 1 0 ≡ naming inodes q
formed_at f named inodes n q None e none each =
    none_off (named None) q (naming (adjust inodes n (with_contents f)) q) (naming inodes q) none
    (ap (λ m. naming m q) (adjust-none inodes n (with_contents f) e))
formed_at f named inodes n q (Some i) e none each =
    let sum = total-adjust numbers (naming_of q) inodes n (with_contents f) i e in
    let here = each i in
    omega arith

pub counted_formed : (f : Contents → Contents) (named : Option Inode → Option ℕ) (counts : ByNumber ℕ) (inodes : ByNumber Inode) (n : ℕ)
    → named None ≡ None
    → ((q : ℕ) (i : Inode) → naming_of q (with_contents f i) + cond (is_bitfile q (named (Some i))) 1 0 ≡ naming_of q i)
    → Counted counts inodes
    → Counted (with_one_fewer counts (named (get inodes n))) (adjust inodes n (with_contents f))
counted_formed f named counts inodes n none each counted = λ q.
    let kept = fewer counts (named (get inodes n)) q in
    let was = counted q in
    let sum = formed_at f named inodes n q (get inodes n) refl none (each q) in
    omega arith

-- the end of a put that isn't dual lets the bitfile go
ended_here : (dual : Bool) (q change : ℕ) (c : Contents)
    → naming_of q (record { change = change; contents = as_ended dual c }) + cond (is_bitfile q (let_go_by dual (Some (record { change = change; contents = c })))) 1 0
    ≡ naming_of q (record { change = change; contents = c })
ended_here true q change (Making bytes b) = omega arith
ended_here false q change (Making bytes b) = omega arith
ended_here true q change (Regular bytes) = refl
ended_here false q change (Regular bytes) = refl
ended_here true q change (Dual bytes b) = omega arith
ended_here false q change (Dual bytes b) = omega arith
ended_here true q change (Offline len b) = omega arith
ended_here false q change (Offline len b) = omega arith

none_let_go : (dual : Bool) → let_go_by dual None ≡ None
none_let_go true = refl
none_let_go false = refl

pub counted_ended : (dual : Bool) (counts : ByNumber ℕ) (inodes : ByNumber Inode) (n : ℕ) → Counted counts inodes
    → Counted (with_one_fewer counts (let_go_by dual (get inodes n))) (adjust inodes n (with_contents (as_ended dual)))
counted_ended dual counts inodes n counted =
    counted_formed (as_ended dual) (let_go_by dual) counts inodes n (none_let_go dual) (λ q i. ended_here dual q i.change i.contents) counted

-- a release lets nothing go
abbrev lets_nothing_go : Option Inode → Option ℕ
lets_nothing_go o = None

released_here : (q change : ℕ) (c : Contents)
    → naming_of q (record { change = change; contents = as_offline c }) + 0 ≡ naming_of q (record { change = change; contents = c })
released_here q change (Making bytes b) = omega arith
released_here q change (Regular bytes) = refl
released_here q change (Dual bytes b) = omega arith
released_here q change (Offline len b) = omega arith

pub counted_released : (counts : ByNumber ℕ) (inodes : ByNumber Inode) (n : ℕ) → Counted counts inodes
    → Counted counts (adjust inodes n (with_contents as_offline))
counted_released counts inodes n counted = counted_formed as_offline lets_nothing_go counts inodes n refl (λ q i. released_here q i.change i.contents) counted

-- ---- lengths

pub size_ended : (dual : Bool) (inodes : ByNumber Inode) (n : ℕ) → size_of_files (adjust inodes n (with_contents (as_ended dual))) ≡ size_of_files inodes
size_ended dual inodes n = size_formed inodes n (as_ended dual) (λ i e. length_ended dual i.contents)

pub size_released : (inodes : ByNumber Inode) (n : ℕ) → size_of_files (adjust inodes n (with_contents as_offline)) ≡ size_of_files inodes
size_released inodes n = size_formed inodes n as_offline (λ i e. length_offline i.contents)

-- what is named stays so
pub known_recalled : (counts : ByNumber ℕ) (bytes : List ℕ) (c : Contents) → HasCount counts (bitfile_of c) → HasCount counts (bitfile_of (as_recalled bytes c))
known_recalled counts bytes (Regular old) h = h
known_recalled counts bytes (Making old b) h = h
known_recalled counts bytes (Dual old b) h = h
known_recalled counts bytes (Offline len b) h = h

pub none_of : {X : Type 0} (r : Option X) → false ≡ is_some r → r ≡ None
none_of None e = refl
none_of (Some x) e = cc

pub unnamed_count : (counts : ByNumber ℕ) (inodes : ByNumber Inode) (b : ℕ) → is_named inodes b ≡ false → Counted counts inodes → count_at (get counts b) ≡ 0
unnamed_count counts inodes b e counted = counted b ∙ unnamed_none inodes b e

pub counted_both : {counts after : ByNumber ℕ} {inodes other : ByNumber Inode} → after ≡ counts → other ≡ inodes → Counted counts inodes → Counted after other
counted_both {counts} {after} {inodes} {other} e f counted = subst (λ m. Counted m other) (sym e) (subst (Counted counts) (sym f) counted)
