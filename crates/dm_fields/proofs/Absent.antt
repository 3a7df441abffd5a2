-- Why bytes that could not be read have no spelling.
use Rattle.std.proofs.Common.{◌≡◌, Bool, true, false, Option, None, Some, Err, ℕ, ◌+◌, ◌<◌, ◌^◌, List, ◌∷◌, ◌++◌, length, refl, sym, ap, ◌∙◌, arith, append_assoc, length-append}
use Rattle.std.specs.Prelude.{⊤}
use Rattle.dm_base.specs.declared.identifier.Secs.{Secs}
use Rattle.dm_durable.specs.Fields.{IsTimeOrNone, IsSumOrNone}
use Rattle.dm_fields.specs.Fields.{flag_field, moment_field, sum_field}
use Rattle.dm_fields.specs.Numbers.{big_endian, be64}
use Rattle.dm_fields.specs.Reading.{IsRead}
use Rattle.dm_fields.specs.declared.input.ReadError.{ReadError}
use Rattle.dm_fields.specs.declared.input.ReadError.TheVariants.{Damaged, NoMemory}
use Rattle.dm_fields.specs.Once.{front_once, length-big_endian, number_once, byte_once}

-- too few bytes for a number
pub too_short : (width n : ℕ) (old rest : List ℕ) → length old < width → old ≡ big_endian width n ++ rest → ⊥
too_short width n old rest short e =
    let long : length old ≡ width + length rest = ap length e ∙ length-append (big_endian width n) rest ∙ ap (λ m. m + length rest) (length-big_endian width n) in
    omega arith

-- and for as many bytes as there must be
pub too_few : (text old rest : List ℕ) (n : ℕ) → length old < n → length text ≡ n → old ≡ text ++ rest → ⊥
too_few text old rest n short long e = let l : length old ≡ length text + length rest = ap length e ∙ length-append text rest in omega arith

-- the bytes behind a length that was read
module _ (width : ℕ) (x : List ℕ) (fits : length x < 256 ^ width) (old middle rest : List ℕ) (n : ℕ) (small : n < 256 ^ width) (read : old ≡ big_endian width n ++ middle) (spelled : old ≡ (big_endian width (length x) ++ x) ++ rest) where
  behind : (n ≡ length x) × (middle ≡ x ++ rest)
  behind = number_once width n (length x) middle (x ++ rest) small fits (sym read ∙ spelled ∙ append_assoc (big_endian width (length x)) x rest)

  pub not_short : length middle < n → ⊥
  not_short short = too_few x middle rest n short (sym behind.0) behind.1

  pub same_text : (text new : List ℕ) → length text ≡ n → middle ≡ text ++ new → text ≡ x
  same_text text new long e = (front_once text x new rest (long ∙ behind.0) (sym e ∙ behind.1)).0

-- behind a length of one byte
module _ (x old middle rest : List ℕ) (n : ℕ) (read : old ≡ n ∷ middle) (spelled : old ≡ length x ∷ (x ++ rest)) where
  after : (n ≡ length x) × (middle ≡ x ++ rest)
  after = byte_once n (length x) middle (x ++ rest) (sym read ∙ spelled)

  pub same_name : (text new : List ℕ) → length text ≡ n → middle ≡ text ++ new → text ≡ x
  same_name text new long e = (front_once text x new rest (long ∙ after.0) (sym e ∙ after.1)).0

-- what could not be read as one type, nor can be as another that is spelled so
pub absent_as : {A B : Type 0} (f : A → List ℕ) (P : A → Type 0) (g : B → List ℕ) (Q : B → Type 0) (to : B → A) → ((b : B) → Q b → P (to b)) → ((b : B) → g b ≡ f (to b)) → (old new next : List ℕ) (error : ReadError) → IsRead f P old new (Err error) → IsRead g Q old next (Err error)
absent_as f P g Q to fits same old new next NoMemory absent = tt
absent_as f P g Q to fits same old new next Damaged absent = λ b rest q e. absent (to b) rest (fits b q) (e ∙ ap (λ l. l ++ rest) (same b))

-- a time or none
abbrev pub flagged : Option Secs → Bool × ℕ
flagged None = (false, 0)
flagged (Some time) = (true, time.0)

pub flagged-fits : (o : Option Secs) → IsTimeOrNone o → ⊤ × (flagged o).1 < 2 ^ 64
flagged-fits None p = (tt, omega arith)
flagged-fits (Some time) p = (tt, p)

pub flagged-is : (o : Option Secs) → moment_field o ≡ flag_field (flagged o).0 ++ be64 (flagged o).1
flagged-is None = refl
flagged-is (Some time) = refl

pub no_moment : (n : ℕ) (old new : List ℕ) → n < 2 ^ 64 → (n ≡ 0 → ⊥) → old ≡ flag_field false ++ (be64 n ++ new) → (o : Option Secs) (rest : List ℕ) → IsTimeOrNone o → old ≡ moment_field o ++ rest → ⊥
no_moment n old new small some read None rest fits e = some (number_once 8 n 0 new rest small (omega arith) (byte_once 0 0 (be64 n ++ new) (be64 0 ++ rest) (sym read ∙ e)).1).0
no_moment n old new small some read (Some time) rest fits e = let same = (byte_once 0 1 (be64 n ++ new) (be64 time.0 ++ rest) (sym read ∙ e)).0 in omega arith

-- a sum or none
pub no_sum : (old new next : List ℕ) (error : ReadError) → IsRead flag_field (λ _. ⊤) old new (Err error) → IsRead sum_field IsSumOrNone old next (Err error)
no_sum old new next NoMemory absent = tt
no_sum old new next Damaged absent = λ sum rest fits e. elim sum as (λ o. old ≡ sum_field o ++ rest → ⊥) [
  | None ↦ λ is. absent false rest tt is
  | Some bytes ↦ λ is. absent true (bytes ++ rest) tt is
] e
