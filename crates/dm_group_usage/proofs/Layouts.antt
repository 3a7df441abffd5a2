-- Steps of loops that lay out a bitfile.
use Rattle.std.proofs.Common.{◌≡◌, ℕ, suc, ◌+◌, ◌-◌, ◌*◌, ◌<◌, ◌≤◌, ◌^◌, min, None, List, [], ◌∷◌, ◌++◌, sym, ap, ◌∙◌, append_assoc, arith, cond, subst, true, nat_le}
use Rattle.std.proofs.lemmas.List.{append-nil}
use Rattle.std.proofs.lemmas.Bool.{and_parts, leb-true, ne_eqb}
use Rattle.dm_base.specs.declared.volume.Piece.{Piece}
use Rattle.dm_base.specs.declared.volume.Chunk.{Chunk}
use Rattle.dm_rules.specs.declared.space.Space.{Space}
use Rattle.dm_group_usage.specs.Range.{is_piece_in_range}
use Rattle.dm_rules.specs.Numbers.{last_u64, lesser}
use Rattle.dm_rules.specs.Plan.{rooms, pieces_of, chunks_at, chunks_of, zone_end}
use Rattle.dm_rules.specs.Version.{chunk_header}
use Rattle.dm_rules.specs.Zone.{chunk_count}

-- ---- rooms
pub record Summed (sum whole index : ℕ) (left : List Space) : Type 0 where
  pub is : sum + rooms left ≡ whole
  pub low : sum ≤ 2 ^ 64 * index

pub summed_on : (sum whole index : ℕ) (left rest : List Space) (s : Space) → left ≡ s ∷ rest → s.room < 2 ^ 64 → Summed sum whole index left → Summed (sum + s.room) whole (index + 1) rest
summed_on sum whole index left rest s is small so =
    let parts : rooms left ≡ s.room + rooms rest = ap rooms is in
    let a = so.is in
    let b = so.low in
    record { is = omega arith; low = omega arith }

pub summed_end : (sum whole index : ℕ) (left : List Space) → left ≡ [] → Summed sum whole index left → sum ≡ whole
summed_end sum whole index left none so =
    let parts : rooms left ≡ 0 = ap rooms none in
    let a = so.is in
    omega arith

-- ---- pieces
-- one that takes nothing
pub piece_none : (s : Space) (rest : List Space) (offset left : ℕ) → lesser s.room left ≡ 0 → pieces_of (s ∷ rest) offset left ≡ pieces_of rest offset left
unfolding pieces_of
piece_none s rest offset left h = rw h

pub piece_some : (s : Space) (rest : List Space) (offset left taken : ℕ) → taken ≡ lesser s.room left → 0 < taken → pieces_of (s ∷ rest) offset left ≡ record { vsn = s.vsn; version = s.version; zone = s.tip; offset = offset; len = taken } ∷ pieces_of rest (offset + taken) (left - taken)
unfolding pieces_of
piece_some s rest offset left taken is some =
    let later : ℕ → List Piece = λ t. record { vsn = s.vsn; version = s.version; zone = s.tip; offset = offset; len = t } ∷ pieces_of rest (offset + t) (left - t) in
    ap (λ b. cond b (pieces_of rest offset left) (later (lesser s.room left))) (ne_eqb (lesser s.room left) 0 (λ h. absurd (omega arith))) ∙ ap later (sym is)

pub record Placed (out : List Piece) (left_spaces spaces : List Space) (offset left len : ℕ) : Type 0 where
  pub is : out ++ pieces_of left_spaces offset left ≡ pieces_of spaces 0 len
  pub whole : offset + left ≡ len

pub placed_begin : (out : List Piece) (all : List Space) (len : ℕ) → out ≡ [] → Placed out all all 0 len len
placed_begin out all len none = record { is = ap (λ ps. ps ++ pieces_of all 0 len) none; whole = omega arith }

pub placed_none : (out : List Piece) (xs rest all : List Space) (s : Space) (offset left len taken : ℕ) → xs ≡ s ∷ rest → taken ≡ min s.room left → taken ≡ 0 → Placed out xs all offset left len → Placed out rest all offset left len
placed_none out xs rest all s offset left len taken is is_taken none so = record {
  is = ap (λ ps. out ++ ps) (sym (ap (λ l. pieces_of l offset left) is ∙ piece_none s rest offset left (omega arith))) ∙ so.is;
  whole = so.whole;
}

pub placed_some : (out more : List Piece) (xs rest all : List Space) (s : Space) (offset left len taken : ℕ) → xs ≡ s ∷ rest → taken ≡ min s.room left → 0 < taken → more ≡ out ++ (record { vsn = s.vsn; version = s.version; zone = s.tip; offset = offset; len = taken } ∷ []) → Placed out xs all offset left len → Placed more rest all (offset + taken) (left - taken) len
placed_some out more xs rest all s offset left len taken is is_taken some grown so =
    let p : Piece = record { vsn = s.vsn; version = s.version; zone = s.tip; offset = offset; len = taken } in
    let later = pieces_of rest (offset + taken) (left - taken) in
    let w = so.whole in
    record {
      is = ap (λ ps. ps ++ later) grown ∙ append_assoc out (p ∷ []) later ∙ ap (λ ps. out ++ ps) (sym (ap (λ l. pieces_of l offset left) is ∙ piece_some s rest offset left taken (omega arith) some)) ∙ so.is;
      whole = omega arith;
    }

pub placed_end : (out : List Piece) (xs all : List Space) (offset left len : ℕ) → xs ≡ [] → Placed out xs all offset left len → out ≡ pieces_of all 0 len
unfolding pieces_of
placed_end out xs all offset left len none so = sym (append-nil out) ∙ sym (ap (λ l. out ++ pieces_of l offset left) none) ∙ so.is

-- ---- chunks
-- the chunks that are made, with those that are left to be, are all of the piece; and there is a place for each of those
pub record Cut (out : List Chunk) (chunk count : ℕ) (piece : Piece) (offset left place : ℕ) : Type 0 where
  pub is : out ++ chunks_at piece.version chunk count piece offset left place ≡ chunks_of chunk piece
  pub fits : place + (chunk_header piece.version * count + left) < 2 ^ 64
  pub within : offset + left < 2 ^ 64

pub cut_begin : (out : List Chunk) (chunk count : ℕ) (piece : Piece) (place : ℕ) → out ≡ [] → count ≡ chunk_count chunk piece.len → place ≡ piece.zone + 32 → is_piece_in_range chunk piece ≡ true → Cut out chunk (count - 0) piece piece.offset piece.len place
cut_begin out chunk count piece place none many there in_range =
    let parts = and_parts (nat_le (zone_end chunk piece) last_u64) (nat_le (piece.offset + piece.len) last_u64) in_range in
    let all : count - 0 ≡ chunk_count chunk piece.len = omega (arith, many) in
    let low = leb-true (zone_end chunk piece) last_u64 parts.0 in
    record {
      is =
          ap (λ cs. cs ++ chunks_at piece.version chunk (count - 0) piece piece.offset piece.len place) none
          ∙ ap (λ n. chunks_at piece.version chunk n piece piece.offset piece.len place) all
          ∙ ap (λ p. chunks_at piece.version chunk (chunk_count chunk piece.len) piece piece.offset piece.len p) there;
      fits = subst (λ n. place + (chunk_header piece.version * n + piece.len) < 2 ^ 64) (sym all) (behind_first piece.zone (chunk_header piece.version * chunk_count chunk piece.len) piece.len place there low);
      within = let w = leb-true (piece.offset + piece.len) last_u64 parts.1 in omega arith;
    }
  where
    behind_first : (zone headers len place : ℕ) → place ≡ zone + 32 → zone + (32 + headers + len) ≤ 18446744073709551615 → place + (headers + len) < 2 ^ 64
    behind_first zone headers len place there low = omega arith

-- what the chunk that comes takes, and what is left behind it
one_taken : (header n place left taken : ℕ) → taken ≤ left → place + (header * suc n + left) < 2 ^ 64 → (place + header + taken) + (header * n + (left - taken)) < 2 ^ 64
one_taken header n place left taken low fits = omega (arith, low, fits)

-- there is a place for it
pub cut_place : (out : List Chunk) (chunk count n : ℕ) (piece : Piece) (offset left place taken : ℕ) → count ≡ suc n → taken ≡ min chunk left → Cut out chunk count piece offset left place → place + chunk_header piece.version + taken < 2 ^ 64
cut_place out chunk count n piece offset left place taken one is_taken so =
    let fits = one_taken (chunk_header piece.version) n place left taken (omega arith) (subst (λ k. place + (chunk_header piece.version * k + left) < 2 ^ 64) one so.fits) in
    below (place + chunk_header piece.version + taken) (chunk_header piece.version * n + (left - taken)) fits
  where
    below : (a b : ℕ) → a + b < 2 ^ 64 → a < 2 ^ 64
    below a b all = omega arith

pub cut_on : (out more : List Chunk) (chunk count n : ℕ) (piece : Piece) (offset left place bytes next behind taken : ℕ) → count ≡ suc n → taken ≡ min chunk left → bytes ≡ place + chunk_header piece.version → next ≡ offset + taken → behind ≡ bytes + taken → more ≡ out ++ (record { offset = offset; len = taken; vsn = piece.vsn; zone = piece.zone; place = bytes; sum = None } ∷ []) → Cut out chunk count piece offset left place → Cut more chunk n piece next (left - taken) behind
unfolding chunks_at
cut_on out more chunk count n piece offset left place bytes next behind taken one is_taken is_bytes is_next is_behind grown so =
    let header = chunk_header piece.version in
    let c : Chunk = record { offset = offset; len = taken; vsn = piece.vsn; zone = piece.zone; place = bytes; sum = None } in
    let later = chunks_at piece.version chunk n piece next (left - taken) behind in
    let is_lesser : taken ≡ lesser chunk left = omega arith in
    let low : taken ≤ left = omega arith in
    let whole : ℕ → List Chunk = λ t. record { offset = offset; len = t; vsn = piece.vsn; zone = piece.zone; place = place + header; sum = None } ∷ chunks_at piece.version chunk n piece (offset + t) (left - t) (place + header + t) in
    let same : (c ∷ later) ≡ whole taken =
    ap (λ o. c ∷ chunks_at piece.version chunk n piece o (left - taken) behind) is_next
    ∙ ap (λ b. c ∷ chunks_at piece.version chunk n piece (offset + taken) (left - taken) b) is_behind
    ∙ ap (λ b. record { offset = offset; len = taken; vsn = piece.vsn; zone = piece.zone; place = b; sum = None } ∷ chunks_at piece.version chunk n piece (offset + taken) (left - taken) (b + taken)) is_bytes in
    record {
      is =
          ap (λ cs. cs ++ later) grown ∙ append_assoc out (c ∷ []) later
          ∙ ap (λ cs. out ++ cs) (same ∙ ap whole is_lesser)
          ∙ sym (ap (λ k. out ++ chunks_at piece.version chunk k piece offset left place) one) ∙ so.is;
      fits =
          subst (λ p. p + (header * n + (left - taken)) < 2 ^ 64) (sym (is_behind ∙ ap (λ b. b + taken) is_bytes))
          (one_taken header n place left taken low (subst (λ k. place + (header * k + left) < 2 ^ 64) one so.fits));
      within = let w = so.within in omega (arith, is_next, low);
    }

pub cut_end : (out : List Chunk) (chunk count : ℕ) (piece : Piece) (offset left place : ℕ) → count ≡ 0 → Cut out chunk count piece offset left place → out ≡ chunks_of chunk piece
unfolding chunks_at
cut_end out chunk count piece offset left place none so = sym (append-nil out) ∙ sym (ap (λ k. out ++ chunks_at piece.version chunk k piece offset left place) none) ∙ so.is
