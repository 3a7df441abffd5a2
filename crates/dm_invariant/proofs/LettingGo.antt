-- What is left of the entries after a bitfile was let go: at most its own row is changed, and of that only the deletion time.
use Rattle.std.proofs.Common.{◌≡◌, ◌≢◌, ◌⊎◌, ℕ, Bool, true, false, cond, nat_eq, Option, None, Some, IsSome, List}
use Rattle.std.proofs.Common.{refl, sym, ap, subst, ◌∙◌, arith, inl, inr}
use Rattle.std.proofs.lemmas.Bool.{eq-eqb, eqb-true}
use Rattle.std.specs.FinMap.{get}
use Rattle.dm_base.specs.declared.identifier.GroupId.{GroupId}
use Rattle.dm_tables.specs.Rows.{EachRow, adjust}
use Rattle.dm_tables.proofs.Orders.{numbers, same_or}
use Rattle.dm_tables.proofs.Adjusted.{adjusted, adjusted_row, adjusted-beside, each-adjust}
use Rattle.dm_tables.proofs.Any.{any-none, any-some, any-false}
use Rattle.dm_durable.specs.Tables.{ByNumber}
use Rattle.dm_durable.specs.Entries.{after_letting_go, after_letting_go_if}
use Rattle.dm_durable.specs.Inodes.{bitfile_of, bitfile_in, is_bitfile, is_named}
use Rattle.dm_durable.specs.declared.daemon.Entry.{Entry}
use Rattle.dm_durable.specs.declared.daemon.Inode.{Inode}
use Rattle.dm_durable.specs.Entries.{groups_asked}
use Rattle.dm_durable.specs.Limits.{IsPast}
use Rattle.dm_invariant.specs.Files.{HeldRightly}
use Rattle.dm_invariant.proofs.Options.{none_some}
use Rattle.dm_invariant.proofs.Held.{held_same}
use Rattle.std.proofs.lemmas.Option.{same_Some}

-- the entry with a deletion time
abbrev gone_at : ℕ → Entry → Entry
gone_at time e = record e { gone = Some (record { 0 = time }) }

-- ---- which bitfiles inodes name

is_this : (b : ℕ) (o : Option ℕ) → o ≡ Some b → is_bitfile b o ≡ true
is_this b None e = cc
is_this b (Some c) e = eq-eqb c b (same_Some c b e)

is_other : (b : ℕ) (o : Option ℕ) → (o ≡ Some b → ⊥) → is_bitfile b o ≡ false
is_other b None other = refl
is_other b (Some c) other =
    elim (nat_eq c b) as (λ t. nat_eq c b ≡ t → t ≡ false) [
      | true ↦ λ e. absurd (other (ap Some (eqb-true c b e)))
      | false ↦ λ e. refl
    ] refl

-- the bitfile of an inode of the table is named
pub named_by : (inodes : ByNumber Inode) (n : ℕ) (i : Inode) (b : ℕ) → get inodes n ≡ Some i → bitfile_of i.contents ≡ Some b
    → is_named inodes b ≡ true
named_by inodes n i b is names =
    any-some numbers (λ k x. is_bitfile b (bitfile_of x.contents)) inodes n i is (is_this b (bitfile_of i.contents) names)

-- where only the inode n is changed, a bitfile that none names now, and that n didn't name, was named by none before
named_still : (old new : ByNumber Inode) (n : ℕ) → ((k : ℕ) → k ≢ n → get new k ≡ get old k) → (b : ℕ)
    → (bitfile_in (get old n) ≡ Some b → ⊥) → is_named new b ≡ false → is_named old b ≡ false
named_still old new n beside b other none =
    any-none (λ k x. is_bitfile b (bitfile_of x.contents)) old (λ k x is. elim (same_or numbers n k) [
      | inl same ↦
          let at : get old n ≡ Some x = ap (get old) (sym same) ∙ is in
          is_other b (bitfile_of x.contents) (λ e. other (ap bitfile_in at ∙ e))
      | inr differ ↦ any-false numbers (λ k x. is_bitfile b (bitfile_of x.contents)) new none k x (beside k differ ∙ is)
    ])

-- ---- look-ups
-- an entry before and after: the same, or that of the bitfile that was let go, with its deletion time
abbrev pub StaysOrGoes : ByNumber Inode → ℕ → Option ℕ → ℕ → Entry → Entry → Type 0
StaysOrGoes inodes time o q e f = (f ≡ e) ⊎ ((o ≡ Some q) × (is_named inodes q ≡ false) × (f ≡ gone_at time e))

there_at : (entries : ByNumber Entry) (inodes : ByNumber Inode) (time b q : ℕ) (e : Entry) → get entries q ≡ Some e → (named : Bool)
    → is_named inodes b ≡ named
    → (f : Entry) × (get (cond named entries (adjust entries b (gone_at time))) q ≡ Some f) × StaysOrGoes inodes time (Some b) q e f
there_at entries inodes time b q e is true named = (e, is, inl refl)
there_at entries inodes time b q e is false named =
    elim (same_or numbers b q) [
      | inl same ↦
          let at : get entries b ≡ Some e = ap (get entries) (sym same) ∙ is in
          let put : get (adjust entries b (gone_at time)) q ≡ Some (gone_at time e) =
          ap (get (adjust entries b (gone_at time))) same ∙ adjusted_row numbers entries b (gone_at time) e at in
          (gone_at time e, put, inr (ap Some (sym same), ap (is_named inodes) same ∙ named, refl))
      | inr differ ↦ (e, adjusted-beside numbers entries b (gone_at time) q differ ∙ is, inl refl)
    ]

-- each row is still there
pub let_go-there : (entries : ByNumber Entry) (inodes : ByNumber Inode) (time : ℕ) (o : Option ℕ)
    → EachRow entries (λ q e. (f : Entry) × (get (after_letting_go_if entries inodes time o) q ≡ Some f) × StaysOrGoes inodes time o q e f)
let_go-there entries inodes time None = λ q e is. (e, is, inl refl)
let_go-there entries inodes time (Some b) = λ q e is. there_at entries inodes time b q e is (is_named inodes b) refl

row_at : (entries : ByNumber Entry) (inodes : ByNumber Inode) (time b q : ℕ) (f : Entry) (named : Bool) → is_named inodes b ≡ named
    → get (cond named entries (adjust entries b (gone_at time))) q ≡ Some f
    → (e : Entry) × (get entries q ≡ Some e) × StaysOrGoes inodes time (Some b) q e f
row_at entries inodes time b q f true named is = (f, is, inl refl)
row_at entries inodes time b q f false named is =
    elim (adjusted numbers entries b (gone_at time) q f is) [
      | inl at ↦ (at.1.0, ap (get entries) at.0 ∙ at.1.1, inr (ap Some (sym at.0), ap (is_named inodes) at.0 ∙ named, at.1.2))
      | inr other ↦ (f, other.1, inl refl)
    ]

-- and each row was there
pub let_go-row : (entries : ByNumber Entry) (inodes : ByNumber Inode) (time : ℕ) (o : Option ℕ)
    → EachRow (after_letting_go_if entries inodes time o) (λ q f. (e : Entry) × (get entries q ≡ Some e) × StaysOrGoes inodes time o q e f)
let_go-row entries inodes time None = λ q f is. (f, is, inl refl)
let_go-row entries inodes time (Some b) = λ q f is. row_at entries inodes time b q f (is_named inodes b) refl is

-- no row comes
none_from : (entries : ByNumber Entry) (inodes : ByNumber Inode) (time : ℕ) (o : Option ℕ) (q : ℕ) (r : Option Entry)
    → get (after_letting_go_if entries inodes time o) q ≡ r → get entries q ≡ None → get (after_letting_go_if entries inodes time o) q ≡ None
none_from entries inodes time o q None at none = at
none_from entries inodes time o q (Some f) at none =
    let row = let_go-row entries inodes time o q f at in absurd (none_some (get entries q) row.0 none row.1)

-- a row that was not there is not there
pub let_go-none : (entries : ByNumber Entry) (inodes : ByNumber Inode) (time : ℕ) (o : Option ℕ) (q : ℕ) → get entries q ≡ None
    → get (after_letting_go_if entries inodes time o) q ≡ None
let_go-none entries inodes time o q none = none_from entries inodes time o q (get (after_letting_go_if entries inodes time o) q) refl none

-- ---- rows
-- a row is as it was, or it got its deletion time
each-after_letting_go : (P : ℕ → Entry → Type 0) (entries : ByNumber Entry) (inodes : ByNumber Inode) (time b : ℕ)
    → ((e : Entry) → get entries b ≡ Some e → is_named inodes b ≡ false → P b (gone_at time e)) → EachRow entries P
    → EachRow (after_letting_go entries inodes time b) P
each-after_letting_go P entries inodes time b gone each =
    elim (is_named inodes b) as (λ t. is_named inodes b ≡ t → EachRow (cond t entries (adjust entries b (gone_at time))) P) [
      | true ↦ λ named. each
      | false ↦ λ named. each-adjust numbers P entries b (gone_at time) (λ e is. gone e is named) each
    ] refl

each-after_letting_go_if : (P : ℕ → Entry → Type 0) (entries : ByNumber Entry) (inodes : ByNumber Inode) (time : ℕ) (o : Option ℕ)
    → ((b : ℕ) (e : Entry) → o ≡ Some b → get entries b ≡ Some e → is_named inodes b ≡ false → P b (gone_at time e)) → EachRow entries P
    → EachRow (after_letting_go_if entries inodes time o) P
each-after_letting_go_if P entries inodes time None gone each = each
each-after_letting_go_if P entries inodes time (Some b) gone each = each-after_letting_go P entries inodes time b (λ e is none. gone b e refl is none) each

-- the row of a bitfile that is named stays
let_go-named : (entries : ByNumber Entry) (inodes : ByNumber Inode) (time b q : ℕ) → is_named inodes q ≡ true
    → get (after_letting_go entries inodes time b) q ≡ get entries q
let_go-named entries inodes time b q named =
    elim (is_named inodes b) as (λ t. is_named inodes b ≡ t → get (cond t entries (adjust entries b (gone_at time))) q ≡ get entries q) [
      | true ↦ λ e. refl
      | false ↦ λ e. adjusted-beside numbers entries b (gone_at time) q (λ same. let f = ap (is_named inodes) same in cc)
    ] refl

after_letting_go_if-named : (entries : ByNumber Entry) (inodes : ByNumber Inode) (time : ℕ) (o : Option ℕ) (q : ℕ) → is_named inodes q ≡ true
    → get (after_letting_go_if entries inodes time o) q ≡ get entries q
after_letting_go_if-named entries inodes time None q named = refl
after_letting_go_if-named entries inodes time (Some b) q named = let_go-named entries inodes time b q named

-- ---- what is kept of entries
-- an entry that no inode names has a deletion time, also after only the inode n was changed and its bitfile was let go
unnamed_here : (entries : ByNumber Entry) (old new : ByNumber Inode) (time b : ℕ)
    → ((q : ℕ) → (Some b ≡ Some q → ⊥) → is_named new q ≡ false → is_named old q ≡ false) → (named : Bool) → is_named new b ≡ named
    → EachRow entries (λ q e. is_named old q ≡ false → IsSome e.gone)
    → EachRow (cond named entries (adjust entries b (gone_at time))) (λ q e. is_named new q ≡ false → IsSome e.gone)
unnamed_here entries old new time b still true named each = λ q e is none.
    each q e is (still q (λ same. let f = ap (is_named new) (same_Some b q same) in cc) none)
unnamed_here entries old new time b still false named each = λ q e is none.
    elim (adjusted numbers entries b (gone_at time) q e is) [
      | inl at ↦ subst (λ x. IsSome x) (sym (ap (λ x. x.gone) at.1.2)) refl
      | inr other ↦ each q e other.1 (still q (λ same. other.0 (sym (same_Some b q same))) none)
    ]

unnamed_if : (entries : ByNumber Entry) (old new : ByNumber Inode) (time : ℕ) (o : Option ℕ)
    → ((q : ℕ) → (o ≡ Some q → ⊥) → is_named new q ≡ false → is_named old q ≡ false)
    → EachRow entries (λ q e. is_named old q ≡ false → IsSome e.gone)
    → EachRow (after_letting_go_if entries new time o) (λ q e. is_named new q ≡ false → IsSome e.gone)
unnamed_if entries old new time None still each = λ q e is none. each q e is (still q (λ same. cc) none)
unnamed_if entries old new time (Some b) still each = unnamed_here entries old new time b still (is_named new b) refl each

-- it is so where the bitfile of the inode that changed is let go
pub let_go-unnamed : (entries : ByNumber Entry) (old new : ByNumber Inode) (n time : ℕ) → ((k : ℕ) → k ≢ n → get new k ≡ get old k)
    → EachRow entries (λ b e. is_named old b ≡ false → IsSome e.gone)
    → EachRow (after_letting_go_if entries new time (bitfile_in (get old n))) (λ b e. is_named new b ≡ false → IsSome e.gone)
let_go-unnamed entries old new n time beside each = unnamed_if entries old new time (bitfile_in (get old n)) (named_still old new n beside) each

-- the deletion times lie in the past
pub let_go-gone : (entries : ByNumber Entry) (inodes : ByNumber Inode) (time : ℕ) (o : Option ℕ)
    → EachRow entries (λ b e. IsPast time e.gone) → EachRow (after_letting_go_if entries inodes time o) (λ b e. IsPast time e.gone)
let_go-gone entries inodes time o each = each-after_letting_go_if (λ b e. IsPast time e.gone) entries inodes time o (λ b e at is none. omega arith) each

-- what holds of a number whatever its entry is still holds
pub let_go-keys : (P : ℕ → Type 0) (entries : ByNumber Entry) (inodes : ByNumber Inode) (time : ℕ) (o : Option ℕ)
    → EachRow entries (λ b e. P b) → EachRow (after_letting_go_if entries inodes time o) (λ b e. P b)
let_go-keys P entries inodes time o each = each-after_letting_go_if (λ b e. P b) entries inodes time o (λ b e at is none. each b e is) each

-- so does what holds of the groups that an entry asks
pub let_go-asked : (P : List GroupId → Type 0) (entries : ByNumber Entry) (inodes : ByNumber Inode) (time : ℕ) (o : Option ℕ)
    → EachRow entries (λ b e. P (groups_asked e)) → EachRow (after_letting_go_if entries inodes time o) (λ b e. P (groups_asked e))
let_go-asked P entries inodes time o each = each-after_letting_go_if (λ b e. P (groups_asked e)) entries inodes time o (λ b e at is none. each b e is) each

-- ---- what is kept of inodes

-- what an inode of the table holds still agrees with the entries
pub let_go-held : (entries : ByNumber Entry) (contents : ByNumber (List ℕ)) (inodes : ByNumber Inode) (time : ℕ) (o : Option ℕ) (n : ℕ) (i : Inode)
    → get inodes n ≡ Some i → HeldRightly entries contents i.contents → HeldRightly (after_letting_go_if entries inodes time o) contents i.contents
let_go-held entries contents inodes time o n i is held =
    held_same entries (after_letting_go_if entries inodes time o) contents contents i.contents
    (λ b names. (after_letting_go_if-named entries inodes time o b (named_by inodes n i b is names), refl)) held
