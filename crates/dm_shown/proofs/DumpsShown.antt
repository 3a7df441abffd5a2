-- The dumps that tables show, by the contents of bitfiles, and which of them are young.
use Rattle.std.proofs.Common.{◌≡◌, ℕ, ◌≤◌, ◌<◌, ◌-◌, Bool, true, false, cond, nat_lt, Some, None, Option, option_map, List, refl, sym, ap, ◌∙◌, arith}
use Rattle.std.proofs.lemmas.Bool.{lt-ltb, ltb-true}
use Rattle.std.specs.FinMap as map
use Rattle.dm_tables.specs.Rows.{map_values}
use Rattle.dm_durable.specs.declared.daemon.Dump.{Dump}
use Rattle.dm_durable.specs.declared.daemon.DumpInode.{DumpInode}
use Rattle.dm_durable.specs.declared.daemon.DumpInode.TheVariants.{Kept, Named as NamedFile}
use Rattle.dm_durable.specs.Dumps.{is_young_at}
use Rattle.dm_durable.specs.Tables.{ByNumber}
use Rattle.dm_plain.specs.Namespace.{PlainDump}
use Rattle.dm_rules.specs.Numbers.{lesser}
use Rattle.dm_plain.specs.Steps.{with_lower_least}
use Rattle.dm_invariant.specs.StandsFor.{copy_or}

-- ---- a dump, by the contents

-- the bytes of a dump's file: its own, or the content of its bitfile
abbrev pub dumped_bytes : ByNumber (List ℕ) → DumpInode → List ℕ
dumped_bytes contents (Kept bytes) = bytes
dumped_bytes contents (NamedFile len b) = copy_or (map.get contents b.0)

abbrev pub dump_shown : ByNumber (List ℕ) → Dump → PlainDump
dump_shown contents d = record { made = d.made.0; least = d.least; files = map_values (λ path f. dumped_bytes contents f) d.files }

-- ---- young dumps

-- a dump that is there, if it is young
abbrev pub young_in : ℕ → Option PlainDump → Option PlainDump
young_in now None = None
young_in now (Some d) = cond (is_young_at now d.made d.least) (Some d) None

-- two agree where both are young or either isn't shown
abbrev pub SameYoung : ℕ → Option PlainDump → Option PlainDump → Type 0
SameYoung now o p = young_in now o ≡ young_in now p

-- a dump that isn't young isn't later, nor with a lesser age
not_later : (now later made least : ℕ) → now ≤ later → is_young_at now made least ≡ false → is_young_at later made least ≡ false
not_later now later made least on old =
    elim (nat_lt (later - made) least) as (λ b. nat_lt (later - made) least ≡ b → b ≡ false) [
      | true ↦ λ young.
          let y : later - made < least = ltb-true (later - made) least young in
          let still = lt-ltb (now - made) least (omega (arith, y, on)) in
          cc
      | false ↦ λ is. refl
    ] refl

not_lowered : (now made least age : ℕ) → is_young_at now made least ≡ false → is_young_at now made (lesser least age) ≡ false
not_lowered now made least age old =
    elim (nat_lt (now - made) (lesser least age)) as (λ b. nat_lt (now - made) (lesser least age) ≡ b → b ≡ false) [
      | true ↦ λ young.
          let y : now - made < lesser least age = ltb-true (now - made) (lesser least age) young in
          let still = lt-ltb (now - made) least (omega (arith, y)) in
          cc
      | false ↦ λ is. refl
    ] refl

-- which are young later depends on those that are young now
later_in : (now later : ℕ) → now ≤ later → (d : PlainDump) (b : Bool) → is_young_at now d.made d.least ≡ b
    → young_in later (cond b (Some d) None) ≡ young_in later (Some d)
later_in now later on d true is = refl
later_in now later on d false is = sym (ap (λ b. cond b (Some d) None) (not_later now later d.made d.least on is))

young_later : (now later : ℕ) → now ≤ later → (o : Option PlainDump) → young_in later (young_in now o) ≡ young_in later o
young_later now later on None = refl
young_later now later on (Some d) = later_in now later on d (is_young_at now d.made d.least) refl

-- dumps that agree go on agreeing
pub same_later : (now later : ℕ) (o p : Option PlainDump) → now ≤ later → SameYoung now o p → SameYoung later o p
same_later now later o p on same = sym (young_later now later on o) ∙ ap (young_in later) same ∙ young_later now later on p

-- and so they do with a lesser age
lowered_in : (now age : ℕ) (d : PlainDump) (b : Bool) → is_young_at now d.made d.least ≡ b
    → young_in now (option_map (with_lower_least age) (cond b (Some d) None)) ≡ young_in now (Some (with_lower_least age d))
unfolding with_lower_least
lowered_in now age d true is = refl
lowered_in now age d false is = sym (ap (λ b. cond b (Some (with_lower_least age d)) None) (not_lowered now d.made d.least age is))

young_lowered : (now age : ℕ) (o : Option PlainDump) → young_in now (option_map (with_lower_least age) (young_in now o)) ≡ young_in now (option_map (with_lower_least age) o)
young_lowered now age None = refl
young_lowered now age (Some d) = lowered_in now age d (is_young_at now d.made d.least) refl

pub same_lowered : (now age : ℕ) (o p : Option PlainDump) → SameYoung now o p
    → SameYoung now (option_map (with_lower_least age) o) (option_map (with_lower_least age) p)
same_lowered now age o p same =
    sym (young_lowered now age o) ∙ ap (λ x. young_in now (option_map (with_lower_least age) x)) same ∙ young_lowered now age p

-- a young dump is the other one
there_in : (now : ℕ) (o : Option PlainDump) (d : PlainDump) → young_in now o ≡ Some d → o ≡ Some d
there_in now None d is = is
there_in now (Some e) d is =
    elim (is_young_at now e.made e.least) as (λ b. cond b (Some e) None ≡ Some d → Some e ≡ Some d) [
      | true ↦ λ same. same
      | false ↦ λ none. absurd (cc)
    ] is

pub young_there : (now : ℕ) (o : Option PlainDump) (d : PlainDump) → is_young_at now d.made d.least ≡ true → SameYoung now o (Some d) → o ≡ Some d
young_there now o d young same = there_in now o d (same ∙ ap (λ b. cond b (Some d) None) young)
