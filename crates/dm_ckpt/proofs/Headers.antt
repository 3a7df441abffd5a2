-- Reading the header of an area.
use Rattle.std.proofs.Common.{◌≡◌, ◌≢◌, ◌⊎◌, inl, inr, ⊎_elim, ℕ, ◌+◌, ◌-◌, ◌<◌, ◌≤◌, ◌^◌, List, [], ◌∷◌, ◌++◌, length, take, drop, get_or, refl, sym, ◌∙◌, ap, subst, arith, length-append, length-drop, Some, None}
use Rattle.std.proofs.lemmas.Bool.{cases_lt}
use Rattle.std.proofs.lemmas.List.{append_assoc, take_at, drop_at, drop-drop, length-take-le, take-append-drop}
use Rattle.std.proofs.lemmas.Nat.{from_be_bytes-to_be_bytes_8}
use Rattle.std.specs.Int.{w32, w64, to_be_bytes, from_be_bytes}
use Rattle.std.specs.List.{AllByRecursion}
use Rattle.dm_host.specs.Disk.{part}
use Rattle.dm_host.proofs.Outside.{part-within, part-at}
use Rattle.dm_journal.specs.Grammar.{longest, Fits, inner}
use Rattle.dm_journal.proofs.Measuring.{same_number}
use Rattle.dm_ckpt.specs.Area.{body, header, IsShut, HoldsRows, IsDamaged, BeginsWithRows}
use Rattle.dm_ckpt.specs.State.{MayHold}
use Rattle.dm_ckpt.specs.Survey.{RowAt}
use Rattle.dm_ckpt.proofs.Gates.{length-header, length-holds}

pub seventeen : (xs : List ℕ) → length xs ≡ 17 → xs ≡ get_or xs 0 0 ∷ get_or xs 1 0 ∷ get_or xs 2 0 ∷ get_or xs 3 0 ∷ get_or xs 4 0 ∷ get_or xs 5 0 ∷ get_or xs 6 0 ∷ get_or xs 7 0 ∷ get_or xs 8 0 ∷ get_or xs 9 0 ∷ get_or xs 10 0 ∷ get_or xs 11 0 ∷ get_or xs 12 0 ∷ get_or xs 13 0 ∷ get_or xs 14 0 ∷ get_or xs 15 0 ∷ get_or xs 16 0 ∷ []
seventeen [] is = absurd (omega arith)
seventeen (x0 ∷ []) is = absurd (omega arith)
seventeen (x0 ∷ x1 ∷ []) is = absurd (omega arith)
seventeen (x0 ∷ x1 ∷ x2 ∷ []) is = absurd (omega arith)
seventeen (x0 ∷ x1 ∷ x2 ∷ x3 ∷ []) is = absurd (omega arith)
seventeen (x0 ∷ x1 ∷ x2 ∷ x3 ∷ x4 ∷ []) is = absurd (omega arith)
seventeen (x0 ∷ x1 ∷ x2 ∷ x3 ∷ x4 ∷ x5 ∷ []) is = absurd (omega arith)
seventeen (x0 ∷ x1 ∷ x2 ∷ x3 ∷ x4 ∷ x5 ∷ x6 ∷ []) is = absurd (omega arith)
seventeen (x0 ∷ x1 ∷ x2 ∷ x3 ∷ x4 ∷ x5 ∷ x6 ∷ x7 ∷ []) is = absurd (omega arith)
seventeen (x0 ∷ x1 ∷ x2 ∷ x3 ∷ x4 ∷ x5 ∷ x6 ∷ x7 ∷ x8 ∷ []) is = absurd (omega arith)
seventeen (x0 ∷ x1 ∷ x2 ∷ x3 ∷ x4 ∷ x5 ∷ x6 ∷ x7 ∷ x8 ∷ x9 ∷ []) is = absurd (omega arith)
seventeen (x0 ∷ x1 ∷ x2 ∷ x3 ∷ x4 ∷ x5 ∷ x6 ∷ x7 ∷ x8 ∷ x9 ∷ x10 ∷ []) is = absurd (omega arith)
seventeen (x0 ∷ x1 ∷ x2 ∷ x3 ∷ x4 ∷ x5 ∷ x6 ∷ x7 ∷ x8 ∷ x9 ∷ x10 ∷ x11 ∷ []) is = absurd (omega arith)
seventeen (x0 ∷ x1 ∷ x2 ∷ x3 ∷ x4 ∷ x5 ∷ x6 ∷ x7 ∷ x8 ∷ x9 ∷ x10 ∷ x11 ∷ x12 ∷ []) is = absurd (omega arith)
seventeen (x0 ∷ x1 ∷ x2 ∷ x3 ∷ x4 ∷ x5 ∷ x6 ∷ x7 ∷ x8 ∷ x9 ∷ x10 ∷ x11 ∷ x12 ∷ x13 ∷ []) is = absurd (omega arith)
seventeen (x0 ∷ x1 ∷ x2 ∷ x3 ∷ x4 ∷ x5 ∷ x6 ∷ x7 ∷ x8 ∷ x9 ∷ x10 ∷ x11 ∷ x12 ∷ x13 ∷ x14 ∷ []) is = absurd (omega arith)
seventeen (x0 ∷ x1 ∷ x2 ∷ x3 ∷ x4 ∷ x5 ∷ x6 ∷ x7 ∷ x8 ∷ x9 ∷ x10 ∷ x11 ∷ x12 ∷ x13 ∷ x14 ∷ x15 ∷ []) is = absurd (omega arith)
seventeen (x0 ∷ x1 ∷ x2 ∷ x3 ∷ x4 ∷ x5 ∷ x6 ∷ x7 ∷ x8 ∷ x9 ∷ x10 ∷ x11 ∷ x12 ∷ x13 ∷ x14 ∷ x15 ∷ x16 ∷ []) is = refl
seventeen (x0 ∷ x1 ∷ x2 ∷ x3 ∷ x4 ∷ x5 ∷ x6 ∷ x7 ∷ x8 ∷ x9 ∷ x10 ∷ x11 ∷ x12 ∷ x13 ∷ x14 ∷ x15 ∷ x16 ∷ x17 ∷ xs) is = absurd (omega arith)

pub header_read : (xs : List ℕ) (gate g n : ℕ) → length xs ≡ 17 → gate ≡ get_or xs 0 0
    → to_be_bytes w64 g ≡ get_or xs 1 0 ∷ get_or xs 2 0 ∷ get_or xs 3 0 ∷ get_or xs 4 0 ∷ get_or xs 5 0 ∷ get_or xs 6 0 ∷ get_or xs 7 0 ∷ get_or xs 8 0 ∷ []
    → to_be_bytes w64 n ≡ get_or xs 9 0 ∷ get_or xs 10 0 ∷ get_or xs 11 0 ∷ get_or xs 12 0 ∷ get_or xs 13 0 ∷ get_or xs 14 0 ∷ get_or xs 15 0 ∷ get_or xs 16 0 ∷ [] → xs ≡ gate ∷ header g n
unfolding header
header_read xs gate g n size first generation length = seventeen xs size ∙ (λ i. sym first i ∷ (sym generation i ++ sym length i))

same_number_8 : (m n : ℕ) → m < 2 ^ 64 → n < 2 ^ 64 → to_be_bytes w64 m ≡ to_be_bytes w64 n → m ≡ n
same_number_8 m n small small' is =
    sym (from_be_bytes-to_be_bytes_8 m small) ∙ ap (λ (l : List ℕ). from_be_bytes w64 l) is ∙ from_be_bytes-to_be_bytes_8 n small'

pub header_once : (g n g' n' : ℕ) → g < 2 ^ 64 → n < 2 ^ 64 → g' < 2 ^ 64 → n' < 2 ^ 64 → header g n ≡ header g' n' → (g ≡ g') × (n ≡ n')
unfolding header
header_once g n g' n' fg fn fg' fn' is =
    (same_number_8 g g' fg fg' (ap (λ (l : List ℕ). take 8 l) is), same_number_8 n n' fn fn' (ap (λ (l : List ℕ). drop 8 l) is))

zeros : 0 ∷ header 0 0 ≡ part [] 0 17
unfolding header
zeros = refl

zeros_behind : (a : ℕ) → a ∷ header 0 0 ≡ part (a ∷ []) 0 17
unfolding header
zeros_behind a = refl

-- a file of at most a byte reads as generation 0
pub short_zero : (file : List ℕ) (gate g n : ℕ) → length file ≤ 1 → g < 2 ^ 64 → n < 2 ^ 64 → part file 0 17 ≡ gate ∷ header g n → g ≡ 0
short_zero [] gate g n short fg fn is =
    sym (header_once 0 0 g n (omega arith) (omega arith) fg fn (ap (λ (l : List ℕ). drop 1 l) (zeros ∙ is))).0
short_zero (a ∷ []) gate g n short fg fn is =
    sym (header_once 0 0 g n (omega arith) (omega arith) fg fn (ap (λ (l : List ℕ). drop 1 l) (zeros_behind a ∙ is))).0
short_zero (a ∷ b ∷ rest) gate g n short fg fn is = absurd (omega (arith, short))

-- the first byte is the gate
pub says_gate : (file : List ℕ) (gate g n : ℕ) → part file 0 17 ≡ gate ∷ header g n → get_or file 0 0 ≡ gate
says_gate file gate g n is = sym (part-at file 0 17 0 (omega arith)) ∙ ap (λ (l : List ℕ). get_or l 0 0) is

-- what a file that holds rows says
pub says_holds : (g : ℕ) (rows : List (List ℕ)) (file : List ℕ) → HoldsRows g rows file → part file 0 17 ≡ 1 ∷ header g (length (body rows))
says_holds g rows file h =
    let n = length (body rows) in
    let size : length (1 ∷ header g n) ≡ 17 = omega (arith, length-header g n) in
    part-within file 0 17 (omega (arith, length-holds g rows file h))
    ∙ ap (λ (l : List ℕ). take 17 l) (h.is ∙ ap (λ (l : List ℕ). 1 ∷ l) (append_assoc (header g n) (body rows) h.junk))
    ∙ take_at (1 ∷ header g n) (body rows ++ h.junk) 17 size

pub behind_header : (g : ℕ) (rows : List (List ℕ)) (file : List ℕ) (h : HoldsRows g rows file) → drop 17 file ≡ body rows ++ h.junk
behind_header g rows file h =
    let n = length (body rows) in
    let size : length (1 ∷ header g n) ≡ 17 = omega (arith, length-header g n) in
    ap (λ (l : List ℕ). drop 17 l) (h.is ∙ ap (λ (l : List ℕ). 1 ∷ l) (append_assoc (header g n) (body rows) h.junk))
    ∙ drop_at (1 ∷ header g n) (body rows ++ h.junk) 17 size

-- a file that holds rows says its generation and length
pub says_once : (g : ℕ) (rows : List (List ℕ)) (file : List ℕ) (gate g' n' : ℕ) → HoldsRows g rows file → g' < 2 ^ 64 → n' < 2 ^ 64 → part file 0 17 ≡ gate ∷ header g' n'
    → (gate ≡ 1) × ((g' ≡ g) × (n' ≡ length (body rows)))
says_once g rows file gate g' n' h fg fn is =
    let both : gate ∷ header g' n' ≡ 1 ∷ header g (length (body rows)) = sym is ∙ says_holds g rows file h in
    (ap (λ (l : List ℕ). get_or l 0 0) both, header_once g' n' g (length (body rows)) fg fn h.number h.size (ap (λ (l : List ℕ). drop 1 l) both))

module _ (g : ℕ) (rows : List (List ℕ)) (file : List ℕ) (gate g' n' : ℕ) (later : 0 < g) (fg : g' < 2 ^ 64) (fn : n' < 2 ^ 64) (is : part file 0 17 ≡ gate ∷ header g' n') where
  -- an area that isn't open with that generation is shut
  pub isn't_open : (gate ≢ 1) ⊎ (g' ≢ g) → MayHold g rows file → IsShut file
  isn't_open other (inl shut) = shut
  isn't_open other (inr holds) =
      let once = says_once g rows file gate g' n' holds fg fn is in
      ⊎_elim (λ shut. absurd (shut once.0)) (λ apart. absurd (apart once.1.0)) other

  pub is_open_holds : gate ≡ 1 → g' ≡ g → MayHold g rows file → HoldsRows g rows file
  is_open_holds is_open same (inl (inl short)) = absurd (omega (arith, later, same, short_zero file gate g' n' short fg fn is))
  is_open_holds is_open same (inl (inr shut)) = absurd (shut (says_gate file gate g' n' is ∙ is_open))
  is_open_holds is_open same (inr holds) = holds

-- the row at the beginning, and what follows
pub first_row : (m : ℕ) (bytes : List ℕ) → BeginsWithRows m bytes → 0 < m
    → (n : ℕ) × ((n ≤ longest) × ((4 + n ≤ m) × ((take 4 bytes ≡ to_be_bytes w32 n) × BeginsWithRows (m - (4 + n)) (drop (4 + n) bytes))))
first_row m bytes (b) some = by_rows m bytes b.rows b.junk b.fits b.size b.is some
  where
    by_rows : (m : ℕ) (bytes : List ℕ) (rows : List (List ℕ)) (junk : List ℕ) → AllByRecursion Fits rows → m ≡ length (body rows) → bytes ≡ body rows ++ junk → 0 < m
        → (n : ℕ) × ((n ≤ longest) × ((4 + n ≤ m) × ((take 4 bytes ≡ to_be_bytes w32 n) × BeginsWithRows (m - (4 + n)) (drop (4 + n) bytes))))
    by_rows m bytes [] junk fits size is some = absurd (omega (arith, size, some))
    by_rows m bytes (row ∷ rows) junk fits size is some =
        let n = length row in
        let whole : bytes ≡ inner row ++ (body rows ++ junk) = is ∙ append_assoc (inner row) (body rows) junk in
        let long : length (inner row) ≡ 4 + n = omega arith in
        let all : m ≡ (4 + n) + length (body rows) = size ∙ length-append (inner row) (body rows) ∙ omega (arith, long) in
        let rest : m - (4 + n) ≡ length (body rows) = omega (arith, all) in (
          n,
          (
            fits.0,
            (
              omega (arith, all),
              (
                ap (λ (l : List ℕ). take 4 l) whole,
                record {
                  rows = rows;
                  junk = junk;
                  fits = fits.1;
                  size = rest;
                  is = ap (λ (l : List ℕ). drop (4 + n) l) whole ∙ drop_at (inner row) (body rows ++ junk) (4 + n) long;
                },
              ),
            ),
          ),
        )

-- one row more in front
pub row_more : (m n : ℕ) (bytes : List ℕ) → m ≤ length bytes → n ≤ longest → 4 + n ≤ m → take 4 bytes ≡ to_be_bytes w32 n → BeginsWithRows (m - (4 + n)) (drop (4 + n) bytes)
    → BeginsWithRows m bytes
row_more m n bytes within small room says b =
    let row = take n (drop 4 bytes) in
    let size : length row ≡ n = length-take-le n (drop 4 bytes) (omega (arith, within, room, length-drop 4 bytes)) in
    let split : bytes ≡ to_be_bytes w32 (length row) ++ (row ++ drop (4 + n) bytes) =
    sym (take-append-drop 4 bytes) ∙ (λ i. (says ∙ ap (λ (k : ℕ). to_be_bytes w32 k) (sym size)) i ++ (sym (take-append-drop n (drop 4 bytes)) ∙ ap (λ (l : List ℕ). row ++ l) (drop-drop n 4 bytes)) i) in
    record {
      rows = row ∷ b.rows;
      junk = b.junk;
      fits = (omega (arith, small, size), b.fits);
      size = omega (arith, b.size, room, size, length-append (inner row) (body b.rows));
      is =
          split ∙ sym (append_assoc (to_be_bytes w32 (length row)) row (drop (4 + n) bytes)) ∙ ap (λ (l : List ℕ). inner row ++ l) b.is
          ∙ sym (append_assoc (inner row) (body b.rows) b.junk);
    }

pub no_rows : (bytes : List ℕ) → BeginsWithRows 0 bytes
no_rows bytes = record { rows = []; junk = bytes; fits = tt; size = refl; is = refl }

-- what is read at a place within the rows
pub row_says : (file : List ℕ) (place end : ℕ) (read : List ℕ) (n : ℕ) → end ≤ length file → 4 ≤ end - place → read ≡ part file place 4 → to_be_bytes w32 n ≡ read
    → take 4 (drop place file) ≡ to_be_bytes w32 n
row_says file place end read n within long is back = sym (part-within file place 4 (omega (arith, within, long))) ∙ sym is ∙ sym back

-- where a row's length is wrong there are no rows
pub row_wrong : (file : List ℕ) (place end : ℕ) (read : List ℕ) (n : ℕ) → place < end → end ≤ length file → n < 2 ^ 32 → read ≡ part file place 4 → to_be_bytes w32 n ≡ read
    → (longest < n) ⊎ (end - place < 4 + n) → RowAt None (end - place) (drop place file)
row_wrong file place end read n some within small is back wrong b =
    let first = first_row (end - place) (drop place file) b (omega (arith, some)) in
    let says = row_says file place end read n within (omega (arith, first.1.1.0)) is back in
    let same : n ≡ first.0 = same_number n first.0 small (omega (arith, first.1.0)) (sym says ∙ first.1.1.1.0) in
    ⊎_elim (λ over. omega (arith, over, same, first.1.0)) (λ cut. omega (arith, cut, same, first.1.1.0)) wrong

pub row_right : (file : List ℕ) (place end : ℕ) (read : List ℕ) (n : ℕ) → end ≤ length file → read ≡ part file place 4 → to_be_bytes w32 n ≡ read
    → n ≤ longest → 4 + n ≤ end - place → RowAt (Some n) (end - place) (drop place file)
row_right file place end read n within is back fits room = (fits, room, row_says file place end read n within (omega (arith, room)) is back)

-- the rows behind the one at a place
pub rows_after : (file : List ℕ) (next end n : ℕ) → next < end → RowAt (Some n) (end - next) (drop next file) → n < 2 ^ 32
    → BeginsWithRows (end - next) (drop next file) → BeginsWithRows (end - (next + (4 + n))) (drop (next + (4 + n)) file)
rows_after file next end n some at small b =
    let first = first_row (end - next) (drop next file) b (omega (arith, some)) in
    let same : first.0 ≡ n = same_number first.0 n (omega (arith, first.1.0)) small (sym first.1.1.1.0 ∙ at.2) in
    let left : end - next - (4 + n) ≡ end - (next + (4 + n)) = omega arith in
    subst (λ (k : ℕ). BeginsWithRows k (drop (next + (4 + n)) file)) left
    (subst (λ (l : List ℕ). BeginsWithRows (end - next - (4 + n)) l) (drop-drop (4 + n) next file)
    (subst (λ (k : ℕ). BeginsWithRows (end - next - (4 + k)) (drop (4 + k) (drop next file))) same first.1.1.1.1))

pub rows_before : (file : List ℕ) (next end n : ℕ) → end ≤ length file → RowAt (Some n) (end - next) (drop next file)
    → BeginsWithRows (end - (next + (4 + n))) (drop (next + (4 + n)) file) → BeginsWithRows (end - next) (drop next file)
rows_before file next end n within at b =
    let left : end - (next + (4 + n)) ≡ end - next - (4 + n) = omega arith in
    row_more (end - next) n (drop next file) (omega (arith, within, length-drop next file)) at.0 at.1 at.2
    (subst (λ (k : ℕ). BeginsWithRows k (drop (4 + n) (drop next file))) left
    (subst (λ (l : List ℕ). BeginsWithRows (end - (next + (4 + n))) l) (sym (drop-drop (4 + n) next file)) b))

pub rows_at_end : (next end : ℕ) (file : List ℕ) → end ≤ next → BeginsWithRows (end - next) (drop next file)
rows_at_end next end file past =
    let none : 0 ≡ end - next = omega arith in
    subst (λ (k : ℕ). BeginsWithRows k (drop next file)) none (no_rows (drop next file))

-- what a survey found out
module _ (file : List ℕ) (len gate g n : ℕ) (size : len ≡ length file) (fg : g < 2 ^ 64) (fn : n < 2 ^ 64) (says : part file 0 17 ≡ gate ∷ header g n) where
  pub survey_shut : ((1 < len) × (gate ≡ 1) → ⊥) → IsShut file
  survey_shut no_area = elim (cases_lt 1 (length file)) [
    | inr short ↦ inl short
    | inl long ↦ inr (λ is_open. no_area (omega (arith, long, size), sym (says_gate file gate g n says) ∙ is_open))
  ]

  survey_open : (1 < len) × (gate ≡ 1) → IsShut file → ⊥
  survey_open area (inl short) = absurd (omega (arith, area.0, short, size))
  survey_open area (inr shut) = shut (says_gate file gate g n says ∙ area.1)

  -- the file is too short for its header
  pub survey_cut : (1 < len) × (gate ≡ 1) → (17 + n ≤ len → ⊥) → IsDamaged file
  survey_cut area no_body = record {
    is_open = survey_open area;
    none = λ g' rows holds.
        let once = says_once g' rows file gate g n holds fg fn says in
        no_body (omega (arith, once.1.1, length-holds g' rows file holds, size));
  }

  -- there are no rows behind the header
  pub survey_wrong : (1 < len) × (gate ≡ 1) → (BeginsWithRows (17 + n - 17) (drop 17 file) → ⊥) → IsDamaged file
  survey_wrong area no_rows' = record {
    is_open = survey_open area;
    none = λ g' rows holds.
        let once = says_once g' rows file gate g n holds fg fn says in
        no_rows' (record { rows = rows; junk = holds.junk; fits = holds.fits; size = omega (arith, once.1.1); is = behind_header g' rows file holds });
  }

  pub survey_holds : gate ≡ 1 → 17 + n ≤ len → (b : BeginsWithRows (17 + n - 17) (drop 17 file)) → HoldsRows g b.rows file × (n ≡ length (body b.rows))
  survey_holds is_open long b =
      let whole : n ≡ length (body b.rows) = omega (arith, b.size) in
      let front : take 17 file ≡ 1 ∷ header g (length (body b.rows)) =
      sym (part-within file 0 17 (omega (arith, long, size))) ∙ says ∙ (λ i. is_open i ∷ header g (whole i)) in (
        record {
          number = fg;
          size = subst (λ (k : ℕ). k < 2 ^ 64) whole fn;
          fits = b.fits;
          junk = b.junk;
          is =
              sym (take-append-drop 17 file) ∙ (λ i. front i ++ b.is i)
              ∙ ap (λ (l : List ℕ). 1 ∷ l) (sym (append_assoc (header g (length (body b.rows))) (body b.rows) b.junk));
        },
        whole,
      )
