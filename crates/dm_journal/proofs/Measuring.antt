-- What the five bytes from a gate on say of the file.
use Rattle.std.proofs.Common.{◌≡◌, ◌≢◌, ◌⊎◌, inl, inr, ⊎_elim, ℕ, ◌+◌, ◌<◌, ◌≤◌, ◌^◌, List, [], ◌∷◌, ◌++◌, length, take, drop, get_or, refl, sym, ◌∙◌, ap, subst, arith, length-append, length-take-le, length-drop, length-take, replicate, take-append-drop}
use Rattle.std.proofs.lemmas.List.{append_assoc, length-replicate, drop_at, drop-drop, get_or_at}
use Rattle.std.proofs.lemmas.Nat.{from_be_bytes-to_be_bytes_4}
use Rattle.std.specs.Int.{w32, to_be_bytes, from_be_bytes}
use Rattle.dm_host.specs.Disk.{Disk, Same, part}
use Rattle.dm_host.specs.Works.{Works, File, Follows}
use Rattle.dm_host.proofs.Moments.{fewer_after, still_told}
use Rattle.dm_host.proofs.Outside.{part-within, part-at}
use Rattle.dm_journal.specs.Grammar.{longest, Fits, inner, frames, AtRest}
use Rattle.dm_journal.specs.State.{Keeps, settled_at}
use Rattle.dm_journal.specs.Load.{Reading, IsDamage, moved, loading_at}
use Rattle.dm_journal.proofs.Frames.{all_push, frames_push, length-frames_push}
use Rattle.dm_journal.proofs.Opening.{Front, front_of}

pub five : (xs : List ℕ) → length xs ≡ 5 → xs ≡ get_or xs 0 0 ∷ get_or xs 1 0 ∷ get_or xs 2 0 ∷ get_or xs 3 0 ∷ get_or xs 4 0 ∷ []
five [] is = absurd (omega arith)
five (a ∷ []) is = absurd (omega arith)
five (a ∷ b ∷ []) is = absurd (omega arith)
five (a ∷ b ∷ c ∷ []) is = absurd (omega arith)
five (a ∷ b ∷ c ∷ d ∷ []) is = absurd (omega arith)
five (a ∷ b ∷ c ∷ d ∷ e ∷ []) is = refl
five (a ∷ b ∷ c ∷ d ∷ e ∷ f ∷ xs) is = absurd (omega arith)

length-part : (file : List ℕ) (p n : ℕ) → length (part file p n) ≡ n
length-part file p n = omega (arith, length-take n (drop p file ++ replicate n 0), length-append (drop p file) (replicate n 0), length-replicate {A = ℕ} n 0)

pub first_of_five : (file : List ℕ) (p : ℕ) → get_or (part file p 5) 0 0 ≡ get_or file p 0
first_of_five file p =
    let at : p + 0 ≡ p = omega arith in
    part-at file p 5 0 (omega arith) ∙ ap (λ (k : ℕ). get_or file k 0) at

header_says : (file : List ℕ) (p : ℕ) (h : List ℕ) (n : ℕ) → h ≡ part file p 5 → get_or h 0 0 ≡ 1
    → to_be_bytes w32 n ≡ get_or h 1 0 ∷ get_or h 2 0 ∷ get_or h 3 0 ∷ get_or h 4 0 ∷ [] → part file p 5 ≡ 1 ∷ to_be_bytes w32 n
header_says file p h n read is_open back =
    sym read ∙ five h (ap (λ (l : List ℕ). length l) read ∙ length-part file p 5) ∙ (λ i. is_open i ∷ sym back i)

pub same_number : (m n : ℕ) → m < 2 ^ 32 → n < 2 ^ 32 → to_be_bytes w32 m ≡ to_be_bytes w32 n → m ≡ n
same_number m n small small' is =
    sym (from_be_bytes-to_be_bytes_4 m small) ∙ ap (λ (l : List ℕ). from_be_bytes w32 l) is ∙ from_be_bytes-to_be_bytes_4 n small'

module _ (ps : List (List ℕ)) (gate : ℕ) (rest file : List ℕ) (p : ℕ) (is : file ≡ frames ps ++ gate ∷ rest) (at : p ≡ length (frames ps)) where
  pub length-file : length file ≡ p + (1 + length rest)
  length-file = omega (arith, at, ap (λ (l : List ℕ). length l) is, length-append (frames ps) (gate ∷ rest))

  drop-place : drop p file ≡ gate ∷ rest
  drop-place = ap (λ (l : List ℕ). drop p l) is ∙ drop_at (frames ps) (gate ∷ rest) p (sym at)

  pub gate_there : get_or file p 0 ≡ gate
  gate_there = ap (λ (l : List ℕ). get_or l p 0) is ∙ get_or_at (frames ps) gate rest 0 p (sym at)

  head : 4 ≤ length rest → part file p 5 ≡ gate ∷ take 4 rest
  head long = part-within file p 5 (omega (arith, length-file, long)) ∙ ap (λ (l : List ℕ). take 5 l) drop-place

  module _ (n : ℕ) (small : n < 2 ^ 32) (says : part file p 5 ≡ 1 ∷ to_be_bytes w32 n) (is_open : gate ≡ 1) where
    -- no frame of a payload that fits: its length would be n
    pub damage : (longest < n) ⊎ (length file < p + (n + 6)) → IsDamage ps file
    damage wrong = record {
      rest = rest;
      is = is ∙ ap (λ (g : ℕ). frames ps ++ g ∷ rest) is_open;
      none = λ payload next junk fits whole.
          let length-rest : length rest ≡ 4 + (length payload + (1 + length junk)) = ap (λ (l : List ℕ). length l) whole ∙ omega (arith, length-append payload (next ∷ junk)) in
          let front : take 4 rest ≡ to_be_bytes w32 (length payload) = ap (λ (l : List ℕ). take 4 l) whole in
          let heads : gate ∷ take 4 rest ≡ 1 ∷ to_be_bytes w32 n = sym (head (omega (arith, length-rest))) ∙ says in
          let numbers : to_be_bytes w32 n ≡ to_be_bytes w32 (length payload) = sym (ap (λ (l : List ℕ). drop 1 l) heads) ∙ front in
          let size : n ≡ length payload = same_number n (length payload) small (omega (arith, fits)) numbers in
          ⊎_elim (λ over. absurd (omega (arith, over, size, fits))) (λ cut. absurd (omega (arith, cut, size, length-rest, length-file))) wrong;
    }

  module _ (n : ℕ) (payload : List ℕ) (says : part file p 5 ≡ 1 ∷ to_be_bytes w32 n) (within : p + (n + 6) ≤ length file) (read : payload ≡ part file (p + 5) n) where
    long : n + 5 ≤ length rest
    long = omega (arith, within, length-file)

    heads : gate ∷ take 4 rest ≡ 1 ∷ to_be_bytes w32 n
    heads = sym (head (omega (arith, long))) ∙ says

    bytes : payload ≡ take n (drop 4 rest)
    bytes = read ∙ part-within file (p + 5) n (omega (arith, within)) ∙ ap (λ (l : List ℕ). take n l) (sym (drop-drop 5 p file) ∙ ap (λ (l : List ℕ). drop 5 l) drop-place)

    pub length-payload : length payload ≡ n
    length-payload = ap (λ (l : List ℕ). length l) bytes ∙ length-take-le n (drop 4 rest) (omega (arith, long, length-drop 4 rest))

    pub behind : Front (drop n (drop 4 rest))
    behind = front_of (drop n (drop 4 rest)) (omega (arith, long, length-drop 4 rest, length-drop n (drop 4 rest)))

    opened_gate : gate ≡ 1
    opened_gate = cc (heads)

    split : rest ≡ inner payload ++ (behind.gate ∷ behind.rest)
    split =
        sym (take-append-drop 4 rest)
        ∙ ap (λ (l : List ℕ). l ++ drop 4 rest) (ap (λ (l : List ℕ). drop 1 l) heads ∙ ap (λ (m : ℕ). to_be_bytes w32 m) (sym length-payload))
        ∙ ap (λ (l : List ℕ). to_be_bytes w32 (length payload) ++ l) (sym (take-append-drop n (drop 4 rest)) ∙ (λ i. sym bytes i ++ behind.is i))
        ∙ sym (append_assoc (to_be_bytes w32 (length payload)) payload (behind.gate ∷ behind.rest))

    pub one_more : file ≡ frames (ps ++ payload ∷ []) ++ (behind.gate ∷ behind.rest)
    one_more = is ∙ (λ i. frames ps ++ opened_gate i ∷ split i) ∙ frames_push ps payload (behind.gate ∷ behind.rest)

module _ (f p last end : ℕ) (ps : List (List ℕ)) (d0 d1 : Disk) (r : Reading d0 (loading_at f p last end) ps) (w : Works (File f) d0 d1 (Follows Same f d0)) (same : d1.seen f ≡ d0.seen f) where
  -- a call that changes nothing
  pub reading_still : Reading d1 (loading_at f p last end) ps
  reading_still = record {
    told = still_told (File f) d0 d1 _ w f r.told;
    place = r.place;
    fits = r.fits;
    gate = r.gate;
    rest = r.rest;
    is = same ∙ r.is;
    end = r.end ∙ ap (λ (l : List ℕ). length l) (sym same);
    synced = λ c left. r.synced c (fewer_after f d0 d1 w c left) ∙ sym same;
  }

  -- a closed gate ends the journal
  pub reading_ends : get_or (d0.seen f) p 0 ≢ 1 → Keeps d1 (settled_at f p) ps
  reading_ends shut =
      let still = reading_still in
      let rest : AtRest ps (d1.seen f) = record { gate = r.gate; junk = r.rest; closed = λ e. shut (gate_there ps r.gate r.rest (d0.seen f) p r.is r.place ∙ e); is = same ∙ r.is } in
      record {
        told = still_told (File f) d0 d1 _ w f r.told;
        settled = refl;
        place = r.place;
        fits = r.fits;
        seen = rest;
        left = λ c left. subst (λ (l : List ℕ). AtRest ps l) (sym (r.synced c (fewer_after f d0 d1 w c left) ∙ sym same)) rest;
      }

module _ (f p last end : ℕ) (ps : List (List ℕ)) (d : Disk) (r : Reading d (loading_at f p last end) ps) (h : List ℕ) (n : ℕ) (read : h ≡ part (d.seen f) p 5) (is_open : get_or h 0 0 ≡ 1)
    (back : to_be_bytes w32 n ≡ get_or h 1 0 ∷ get_or h 2 0 ∷ get_or h 3 0 ∷ get_or h 4 0 ∷ []) where
  pub says_length : part (d.seen f) p 5 ≡ 1 ∷ to_be_bytes w32 n
  says_length = header_says (d.seen f) p h n read is_open back

  pub damaged : n < 2 ^ 32 → (longest < n) ⊎ (end < p + (n + 6)) → IsDamage ps (d.seen f)
  damaged small wrong =
      let gate_open : r.gate ≡ 1 =
      sym (gate_there ps r.gate r.rest (d.seen f) p r.is r.place) ∙ sym (first_of_five (d.seen f) p) ∙ sym (ap (λ (l : List ℕ). get_or l 0 0) read) ∙ is_open in
      damage ps r.gate r.rest (d.seen f) p r.is r.place n small says_length gate_open
      (⊎_elim (λ over. inl over) (λ cut. inr (omega (arith, cut, r.end))) wrong)

-- a payload was read behind an open gate
module _ (f p last end n : ℕ) (ps : List (List ℕ)) (payload : List ℕ) (d : Disk) (r : Reading d (loading_at f p last end) ps) (fits : n ≤ longest)
    (says : part (d.seen f) p 5 ≡ 1 ∷ to_be_bytes w32 n) (within : p + (n + 6) ≤ end) (read : payload ≡ part (d.seen f) (p + 5) n) where
  inside : p + (n + 6) ≤ length (d.seen f)
  inside = omega (arith, within, r.end)

  pub read_length : length payload ≡ n
  read_length = length-payload ps r.gate r.rest (d.seen f) p r.is r.place n payload says inside read

  pub read_fits : Fits payload
  read_fits = omega (arith, fits, read_length)

  pub reading_more : Reading d (moved (loading_at f p last end) n) (ps ++ payload ∷ [])
  reading_more = record {
    told = r.told;
    place = omega (arith, r.place, read_length, length-frames_push ps payload);
    fits = all_push ps payload r.fits read_fits;
    gate = (behind ps r.gate r.rest (d.seen f) p r.is r.place n payload says inside read).gate;
    rest = (behind ps r.gate r.rest (d.seen f) p r.is r.place n payload says inside read).rest;
    is = one_more ps r.gate r.rest (d.seen f) p r.is r.place n payload says inside read;
    end = r.end;
    synced = r.synced;
  }
