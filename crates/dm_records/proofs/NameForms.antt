-- The names that heads and states begin with, as numbers.
use Rattle.std.proofs.Common.{◌≡◌, ◌<◌, ◌^◌, ℕ, List, ◌++◌, refl, sym, ap, ◌∙◌, arith}
use Rattle.dm_durable.specs.declared.daemon_journal.JournalVersion.{JournalVersion}
use Rattle.dm_durable.specs.declared.daemon_journal.JournalVersion.TheVariants.{First, Second}
use Rattle.dm_fields.specs.Numbers.{big_endian, be64}
use Rattle.dm_fields.specs.Once.{number_once}
use Rattle.dm_records.specs.Names.{head_name, name_number}

pub name-number : (v : JournalVersion) → head_name v ≡ be64 (name_number v)
unfolding big_endian
name-number First = refl
name-number Second = refl

pub one_version : (v w : JournalVersion) → name_number v ≡ name_number w → v ≡ w
one_version First First e = refl
one_version First Second e = absurd (omega arith)
one_version Second First e = absurd (omega arith)
one_version Second Second e = refl

pub name_small : (v : JournalVersion) → name_number v < 2 ^ 64
name_small First = omega arith
name_small Second = omega arith

-- a name that was read as a number
pub name_read : (v : JournalVersion) (n : ℕ) (old new : List ℕ) → n ≡ name_number v → old ≡ be64 n ++ new → old ≡ head_name v ++ new
name_read v n old new is read = read ∙ ap (λ m. be64 m ++ new) is ∙ ap (λ l. l ++ new) (sym (name-number v))

pub no_name : (v : JournalVersion) (n : ℕ) (old new : List ℕ) → n < 2 ^ 64 → (n ≡ name_number v → ⊥) → old ≡ be64 n ++ new → (rest : List ℕ) → old ≡ head_name v ++ rest → ⊥
no_name v n old new small other read rest e =
    other (number_once 8 n (name_number v) new rest small (name_small v) (sym read ∙ e ∙ ap (λ l. l ++ rest) (name-number v))).0
