-- The tests of a write and of a patch are those of their plans.
use Rattle.std.proofs.Common.{◌≡◌, ◌+◌, ◌-◌, ℕ, ◌&&◌, Option, None, Some, is_none, arith, List, [], ◌∷◌, length, nat_le, nat_lt, ◌∙◌}
use Rattle.std.specs.FinMap as map
use Rattle.dm_base.specs.Limits.{file_limit, files_limit, number_limit}
use Rattle.dm_base.specs.declared.error.DaemonError.TheVariants as error
use Rattle.dm_base.specs.declared.reply.FileState.{FileState}
use Rattle.dm_daemon_refusals.specs.Seen.{length_if, without_file}
use Rattle.dm_durable.specs.Daemon.{size_of}
use Rattle.dm_durable.specs.Inodes.{bytes_online, length_of}
use Rattle.dm_model.specs.declared.state.Daemon.{Daemon}
use Rattle.dm_model.specs.DaemonCalls.{daemon_refusal, names_used_if, patch, size_without, too_full, too_many, write}
use Rattle.dm_model.specs.Files.{File, is_away, state_of}
use Rattle.dm_model.specs.Guards.{first_true}
use Rattle.dm_model.specs.Plan.{refusal_of}
use Rattle.dm_rules.specs.Numbers.{as_word}
use Rattle.dm_rules.specs.Patching.{with_patch}

-- the place for a further name
names_test : (d : Daemon) (o : Option File) (old : Option ℕ) (files : ℕ) → old ≡ length_if o → files ≡ map.len d.tables.names
    → (is_none old && nat_le files_limit files, too_many files_limit) ≡ names_used_if d o
names_test d None old files is counted = λ i. (is_none (is i) && nat_le files_limit (counted i), too_many files_limit)
names_test d (Some f) old files is counted = λ i. (is_none (is i) && nat_le files_limit files, too_many files_limit)

none_less : (n : ℕ) → n ≡ n - 0
none_less n = omega arith

-- the bytes of the others
have_is : (d : Daemon) (o : Option File) (old : Option ℕ) (size have : ℕ) → old ≡ length_if o → size ≡ size_of d.tables → have ≡ without_file size old
    → have ≡ size_without d o
have_is d None old size have is sized left = left ∙ (λ i. without_file (sized i) (is i)) ∙ none_less (size_of d.tables)
have_is d (Some f) old size have is sized left = left ∙ (λ i. without_file (sized i) (is i))

-- the test of the cap
full_is : (d : Daemon) (have need h n : ℕ) → have ≡ h → need ≡ n
    → (nat_lt d.cap (have + need), daemon_refusal (error.Full (as_word have) (as_word need) d.cap)) ≡ too_full d h n
full_is d have need h n e f = λ i. (nat_lt d.cap (e i + f i), daemon_refusal (error.Full (as_word (e i)) (as_word (f i)) d.cap))

pub write_tests : (d : Daemon) (path bytes : List ℕ) (now : ℕ) (o : Option File) (old : Option ℕ) (len files change size have : ℕ)
    → old ≡ length_if o → len ≡ length bytes → files ≡ map.len d.tables.names → change ≡ d.tables.change → size ≡ size_of d.tables
    → have ≡ without_file size old
    → first_true ((nat_lt file_limit len, too_many file_limit) ∷ (is_none old && nat_le files_limit files, too_many files_limit)
    ∷ (nat_le number_limit change, too_many number_limit)
    ∷ (nat_lt d.cap (have + len), daemon_refusal (error.Full (as_word have) (as_word len) d.cap)) ∷ [])
    ≡ refusal_of (write d path bytes now o)
write_tests d path bytes now o old len files change size have is l counted c sized left =
    let names = names_test d o old files is counted in
    let full = full_is d have len (size_without d o) (length bytes) (have_is d o old size have is sized left) l in
    λ i. first_true ((nat_lt file_limit (l i), too_many file_limit) ∷ names i ∷ (nat_le number_limit (c i), too_many number_limit) ∷ full i ∷ [])

pub patch_tests : (d : Daemon) (path : List ℕ) (offset : ℕ) (bytes : List ℕ) (now : ℕ) (f : File) (found : FileState) (end len change size have : ℕ)
    → end ≡ offset + length bytes → found ≡ state_of d.requests f.number f.inode.contents
    → len ≡ length (with_patch offset bytes (bytes_online f.inode.contents)) → change ≡ d.tables.change → size ≡ size_of d.tables
    → have ≡ size - length_of f.inode.contents
    → first_true ((nat_lt file_limit end, too_many file_limit) ∷ (is_away found, daemon_refusal (error.WrongState found))
    ∷ (nat_le number_limit change, too_many number_limit)
    ∷ (nat_lt d.cap (have + len), daemon_refusal (error.Full (as_word have) (as_word len) d.cap)) ∷ [])
    ≡ refusal_of (patch d path offset bytes now (Some f))
patch_tests d path offset bytes now f found end len change size have e s l c sized left =
    let whole = length (with_patch offset bytes (bytes_online f.inode.contents)) in
    let full = full_is d have len (size_without d (Some f)) whole (left ∙ (λ i. sized i - length_of f.inode.contents)) l in
    λ i. first_true ((nat_lt file_limit (e i), too_many file_limit) ∷ (is_away (s i), daemon_refusal (error.WrongState (s i)))
    ∷ (nat_le number_limit (c i), too_many number_limit) ∷ full i ∷ [])
