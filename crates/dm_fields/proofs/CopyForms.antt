-- The copies of a bitfile: how long they are, how they are made of groups and flags, and why bytes are none.
use Rattle.std.proofs.Common.{◌≡◌, ℕ, suc, zero, ◌+◌, ◌<◌, ◌≤◌, ◌^◌, Bool, Err, List, [], ◌∷◌, ◌++◌, length, get_or, take, drop, refl, sym, ap, subst, ◌∙◌, arith, append_assoc, length-append}
use Rattle.std.specs.Prelude.{slice_index_or}
use Rattle.std.proofs.lemmas.List.{take_more}
use Rattle.std.proofs.lemmas.List.Concat.{flat_map-append}
use Rattle.std.specs.List.{AllByRecursion, flat_map}
use Rattle.dm_durable.specs.Fields.{FitsCopy}
use Rattle.dm_durable.specs.declared.daemon.AskedCopy.{AskedCopy}
use Rattle.dm_fields.specs.Fields.{byte_field, flag_field}
use Rattle.dm_fields.specs.Once.{front_once, byte_once}
use Rattle.dm_fields.specs.Parts.{copy_group, copy_stored, copies_field, FitCopies, AreCopies}
use Rattle.dm_fields.specs.PartsOnce.{length-groups}
use Rattle.dm_fields.specs.Reading.{IsRead}
use Rattle.dm_fields.specs.declared.copies.Copies.{Copies}
use Rattle.dm_fields.specs.declared.input.ReadError.{ReadError}
use Rattle.dm_fields.specs.declared.input.ReadError.TheVariants.{Damaged, NoMemory}
use Rattle.dm_fields.proofs.Items.{all-push}

length-flags : (xs : List AskedCopy) → length (flat_map copy_stored xs) ≡ length xs
length-flags [] = refl
length-flags (x ∷ xs) = ap suc (length-flags xs)

-- a number, groups and flags
pub length-copies : (xs : List AskedCopy) → length (copies_field xs) ≡ 1 + (length xs + length xs)
length-copies xs =
    let both = length-append (flat_map copy_group xs) (flat_map copy_stored xs) in
    let groups = length-groups xs in
    let flags = length-flags xs in
    omega arith

-- ---- copies made of groups and flags, one after the other

pub record HaveCopies (groups flags : List ℕ) (done : List AskedCopy) (count : ℕ) : Type 0 where
  pub groups_are : flat_map copy_group done ≡ take count groups
  pub flags_are : flat_map copy_stored done ≡ take count flags
  pub fits : AllByRecursion FitsCopy done

pub copies_more : (groups flags : List ℕ) (done more : List AskedCopy) (i g f : ℕ) (copy : AskedCopy) → HaveCopies groups flags done i → i < length groups → i < length flags → g ≡ get_or groups i g → f ≡ get_or flags i f → copy.group.0 ≡ g → g < 2 ^ 8 → flag_field copy.stored ≡ byte_field f → more ≡ done ++ copy ∷ [] → HaveCopies groups flags more (i + 1)
copies_more groups flags done more i g f copy h in_groups in_flags group flag is small stored pushed = record {
  groups_are = ap (flat_map copy_group) pushed ∙ flat_map-append copy_group done (copy ∷ [])
      ∙ (λ j. h.groups_are j ++ is j ∷ [])
      ∙ ap (λ y. take i groups ++ y ∷ []) group ∙ sym (take_more groups i g in_groups);
  flags_are = ap (flat_map copy_stored) pushed ∙ flat_map-append copy_stored done (copy ∷ [])
      ∙ (λ j. h.flags_are j ++ stored j)
      ∙ ap (λ y. take i flags ++ y ∷ []) flag ∙ sym (take_more flags i f in_flags);
  fits = subst (AllByRecursion FitsCopy) (sym pushed) (all-push FitsCopy done copy h.fits (subst (λ n. n < 2 ^ 8) (sym is) small));
}

-- a byte that is no flag
pub no_flags : (flags : List ℕ) (i : ℕ) → i < length flags → ((b : Bool) → flag_field b ≡ byte_field (slice_index_or flags i 0) → ⊥) → (cs : List AskedCopy) → flat_map copy_stored cs ≡ flags → ⊥
no_flags flags i small none [] e = let l = ap length e in omega arith
no_flags [] i small none (c ∷ cs) e = omega arith
no_flags (x ∷ flags) zero small none (c ∷ cs) e = none c.stored (let first : flag_field c.stored ≡ byte_field x = cc in first)
no_flags (x ∷ flags) (suc i) small none (c ∷ cs) e = no_flags flags i (omega arith) none cs (let rest : flat_map copy_stored cs ≡ flags = cc in rest)

-- ---- copies that were read

-- the groups and flags behind their number
module _ (cs : List AskedCopy) (old middle rest : List ℕ) (n : ℕ) (read : old ≡ n ∷ middle) (spelled : old ≡ copies_field cs ++ rest) where
  behind : (n ≡ length cs) × (middle ≡ flat_map copy_group cs ++ (flat_map copy_stored cs ++ rest))
  behind =
      let both = byte_once n (length cs) middle ((flat_map copy_group cs ++ flat_map copy_stored cs) ++ rest) (sym read ∙ spelled) in
      (both.0, both.1 ∙ append_assoc (flat_map copy_group cs) (flat_map copy_stored cs) rest)

  -- too few bytes for the groups
  pub few_groups : length middle < n → ⊥
  few_groups short =
      let all = ap length behind.1 in
      let one = length-append (flat_map copy_group cs) (flat_map copy_stored cs ++ rest) in
      let groups = length-groups cs in
      let count = behind.0 in
      omega arith

  module _ (groups last : List ℕ) (long : length groups ≡ n) (taken : middle ≡ groups ++ last) where
    behind_groups : (groups ≡ flat_map copy_group cs) × (last ≡ flat_map copy_stored cs ++ rest)
    behind_groups = front_once groups (flat_map copy_group cs) last (flat_map copy_stored cs ++ rest) (long ∙ behind.0 ∙ sym (length-groups cs)) (sym taken ∙ behind.1)

    -- too few for the flags
    pub few_flags : length last < n → ⊥
    few_flags short =
        let all = ap length behind_groups.1 in
        let one = length-append (flat_map copy_stored cs) rest in
        let flags = length-flags cs in
        let count = behind.0 in
        omega arith

    pub same_flags : (flags new : List ℕ) → length flags ≡ n → last ≡ flags ++ new → flat_map copy_stored cs ≡ flags
    same_flags flags new long_flags e = sym (front_once flags (flat_map copy_stored cs) new rest (long_flags ∙ behind.0 ∙ sym (length-flags cs)) (sym e ∙ behind_groups.1)).0

pub copies_absent : (old middle last new next groups flags : List ℕ) (n : ℕ) (error : ReadError) → old ≡ n ∷ middle → length groups ≡ n → middle ≡ groups ++ last → length flags ≡ n → last ≡ flags ++ new → AreCopies groups flags (Err error) → IsRead {X = Copies} (λ c. copies_field c.items) (λ c. FitCopies c.items) old next (Err error)
copies_absent old middle last new next groups flags n NoMemory read long taken long_flags rest_taken absent = tt
copies_absent old middle last new next groups flags n Damaged read long taken long_flags rest_taken absent = λ c rest fits e.
    absent c.items (same_flags c.items old middle rest n read e groups last long taken flags new long_flags rest_taken)

pub copies_read : (old middle last new groups flags : List ℕ) (n : ℕ) (cs : List AskedCopy) → n < 2 ^ 8 → old ≡ n ∷ middle → length groups ≡ n → middle ≡ groups ++ last → last ≡ flags ++ new → (flat_map copy_group cs ≡ groups) × (flat_map copy_stored cs ≡ flags) × AllByRecursion FitsCopy cs → (old ≡ copies_field cs ++ new) × FitCopies cs
copies_read old middle last new groups flags n cs small read long taken rest_taken are =
    let count : n ≡ length cs = sym long ∙ ap length (sym are.0) ∙ length-groups cs in
    let are_groups = sym are.0 in
    let are_flags = sym are.1 in
    let whole : middle ≡ (flat_map copy_group cs ++ flat_map copy_stored cs) ++ new =
    taken ∙ ap (λ l. groups ++ l) rest_taken ∙ (λ i. are_groups i ++ (are_flags i ++ new)) ∙ sym (append_assoc (flat_map copy_group cs) (flat_map copy_stored cs) new) in
    (read ∙ (λ i. count i ∷ whole i), (subst (λ m. m < 2 ^ 8) count small, are.2))

-- ---- room for one copy more

left_some : (cs : List AskedCopy) (i : ℕ) → i < length cs → 1 ≤ length (drop i cs)
left_some [] i small = omega arith
left_some (c ∷ cs) zero small = omega arith
left_some (c ∷ cs) (suc i) small = left_some cs i (omega arith)

pub room_of_group : (cs : List AskedCopy) (i end all : ℕ) → i < length cs → end + length (flat_map copy_group (drop i cs)) ≤ all → end + 1 ≤ all
room_of_group cs i end all small room = let a = left_some cs i small in let b = length-groups (drop i cs) in omega arith

pub room_of_flag : (cs : List AskedCopy) (i end all : ℕ) → i < length cs → end + length (flat_map copy_stored (drop i cs)) ≤ all → end + 1 ≤ all
room_of_flag cs i end all small room = let a = left_some cs i small in let b = length-flags (drop i cs) in omega arith
