-- An inode is taken out of the table and put in again.
use Rattle.std.proofs.Common.{◌≡◌, ℕ, ◌+◌, ◌-◌, ◌<◌, ◌^◌, ◌%◌, Option, None, Some, option_map, refl, sym, ap, subst, ◌∙◌, arith}
use Rattle.std.specs.FinMap.{get, insert, remove, len}
use Rattle.dm_durable.specs.declared.daemon.Inode.{Inode}
use Rattle.dm_durable.specs.Daemon.{size_of_files}
use Rattle.dm_durable.specs.Inodes.{bitfile_of, length_of}
use Rattle.dm_durable.specs.Tables.{ByNumber}
use Rattle.dm_rows.specs.Places.{with_key}
use Rattle.dm_tables.specs.Totals.{weight_at}
use Rattle.dm_tables.specs.Rows.{adjust}
use Rattle.dm_tables.proofs.Orders.{numbers}
use Rattle.dm_tables.proofs.Rows.{remove-none, removed-here, insert-remove}
use Rattle.dm_tables.proofs.Adjusted.{adjust-there, adjust-none}
use Rattle.dm_tables.proofs.Sums.{total-insert, total-remove}
use Rattle.dm_inodes.specs.Counts.{Counted, HasCount, with_one_more, with_one_fewer}
use Rattle.dm_inodes.proofs.Namings.{counted_in, counted_out}
use Rattle.dm_inodes.proofs.Sizes.{size_more, size_less}

-- what was found at a key
pub found_there : (k : ℕ) (row : ℕ × Inode) (r : Option Inode) → Some row ≡ with_key k r → r ≡ Some row.1
found_there k row None e = cc
found_there k row (Some i) e = ap (λ o. option_map (λ p. p.1) o) (sym e)

pub found_key : (k : ℕ) (row : ℕ × Inode) (r : Option Inode) → Some row ≡ with_key k r → row.0 ≡ k
found_key k row None e = cc
found_key k row (Some i) e = let same : row ≡ (k, i) = some_same e in ap (λ p. p.0) same
  where
    some_same : {X : Type 0} {x y : X} → Some x ≡ Some y → x ≡ y
    some_same h = cc

pub none_found : (k : ℕ) (r : Option Inode) → None ≡ with_key k r → r ≡ None
none_found k None e = refl
none_found k (Some i) e = cc

-- ---- what is kept, when an inode goes
pub record Kept (counts : ByNumber ℕ) (size : ℕ) (inodes : ByNumber Inode) : Type 0 where
  pub counted : Counted counts inodes
  pub sized : size ≡ size_of_files inodes % 2 ^ 64

abbrev pub kept_out : (counts after : ByNumber ℕ) (size len : ℕ) (inodes left : ByNumber Inode) (n : ℕ) (i : Inode) (named : Option ℕ)
    → get inodes n ≡ Some i → left ≡ remove inodes n → named ≡ bitfile_of i.contents → after ≡ with_one_fewer counts named → len ≡ length_of i.contents → len < 2 ^ 64
    → Counted counts inodes → size ≡ size_of_files inodes % 2 ^ 64
    → Kept after ((size + (2 ^ 64 - len)) % 2 ^ 64) left
kept_out counts after size len inodes left n i named there out names fewer is small counted sized =
    let sum = total-remove numbers (λ j. length_of j.contents) inodes n in
    let weighs : weight_at (λ j. length_of j.contents) (get inodes n) ≡ length_of i.contents = ap (weight_at (λ j. length_of j.contents)) there in
    let whole : size_of_files (remove inodes n) + len ≡ size_of_files inodes = omega arith in
    record {
      counted = subst (λ m. Counted after m) (sym out) (subst (λ m. Counted m (remove inodes n)) (sym (fewer ∙ ap (with_one_fewer counts) names)) (counted_out counts inodes n i there counted));
      sized = size_less size len (size_of_files (remove inodes n)) (size_of_files inodes) small sized whole ∙ ap (λ m. size_of_files m % 2 ^ 64) (sym out);
    }

abbrev pub kept_in : (counts after : ByNumber ℕ) (size length : ℕ) (inodes more : ByNumber Inode) (n : ℕ) (i : Inode) (named : Option ℕ)
    → get inodes n ≡ None → more ≡ insert inodes n i → named ≡ bitfile_of i.contents → after ≡ with_one_more counts named → length ≡ length_of i.contents
    → len inodes < 2 ^ 63 → HasCount counts (bitfile_of i.contents) → Counted counts inodes → size ≡ size_of_files inodes % 2 ^ 64
    → Kept after ((size + length) % 2 ^ 64) more
kept_in counts after size length inodes more n i named absent put names one is few known counted sized =
    let sum = total-insert numbers (λ j. length_of j.contents) inodes n i in
    let none : weight_at (λ j. length_of j.contents) (get inodes n) ≡ 0 = ap (weight_at (λ j. length_of j.contents)) absent in
    let whole : size_of_files (insert inodes n i) ≡ length + size_of_files inodes = omega arith in
    record {
      counted = subst (λ m. Counted after m) (sym put) (subst (λ m. Counted m (insert inodes n i)) (sym (one ∙ ap (with_one_more counts) names)) (counted_in counts inodes n i absent counted few known));
      sized = size_more size length (size_of_files inodes) (size_of_files (insert inodes n i)) sized whole ∙ ap (λ m. size_of_files m % 2 ^ 64) (sym put);
    }

-- where there was none, none is gone
pub none_out : (inodes left : ByNumber Inode) (n : ℕ) → get inodes n ≡ None → left ≡ remove inodes n → inodes ≡ left
none_out inodes left n absent out = sym (out ∙ remove-none numbers inodes n absent)

-- a row that is taken out, changed and put back is the row changed where it is
pub put_back : (inodes left back : ByNumber Inode) (n key : ℕ) (f : Inode → Inode) (x y : Inode) → get inodes n ≡ Some x → left ≡ remove inodes n → key ≡ n → y ≡ f x
    → back ≡ insert left key y → back ≡ adjust inodes n f
put_back inodes left back n key f x y there taken same changed put =
    put ∙ ap (λ k. insert left k y) same ∙ ap (λ m. insert m n y) taken ∙ insert-remove numbers inodes n y ∙ ap (insert inodes n) changed
    ∙ sym (adjust-there inodes n f x there)

pub none_back : (inodes left : ByNumber Inode) (n : ℕ) (f : Inode → Inode) → get inodes n ≡ None → left ≡ remove inodes n → left ≡ adjust inodes n f
none_back inodes left n f absent taken = taken ∙ remove-none numbers inodes n absent ∙ sym (adjust-none inodes n f absent)

pub gone_here : (inodes left : ByNumber Inode) (n key : ℕ) → left ≡ remove inodes n → key ≡ n → get left key ≡ None
gone_here inodes left n key out same = ap (λ m. get m key) out ∙ ap (get (remove inodes n)) same ∙ removed-here numbers inodes n
