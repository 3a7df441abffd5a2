-- How long payloads are.
use Rattle.std.proofs.Common.{◌≡◌, ◌≤◌, ◌<◌, ◌+◌, ◌-◌, ◌*◌, ℕ, zero, suc, cond, inl, inr, Option, None, Some, List, [], ◌∷◌, ◌++◌, length, refl, ap, arith, length-append, mul-le-mul_left}
use Rattle.std.specs.List.{AllByRecursion, flat_map}
use Rattle.std.proofs.lemmas.Bool.{cases_lt, ne_eqb}
use Rattle.std.proofs.lemmas.Grind.{div_ceil_times}
use Rattle.dm_base.specs.declared.identifier.Secs.{Secs}
use Rattle.dm_base.specs.declared.volume.Chunk.{Chunk}
use Rattle.dm_base.specs.declared.volume.Piece.{Piece}
use Rattle.dm_durable.specs.Fields.{IsSumOrNone, FitsChunk, FitsGroupStep, FitsGroupRow, FitsGroupPayload}
use Rattle.dm_durable.specs.declared.group.GroupStep.{GroupStep}
use Rattle.dm_durable.specs.declared.group.GroupStep.TheVariants.{Volume, Commit, Delete, Move, Free, Reuse}
use Rattle.dm_durable.specs.declared.group_journal.GroupPayload.{GroupPayload}
use Rattle.dm_durable.specs.declared.group_journal.GroupPayload.TheVariants.{Head, Record, OldRecord, Row}
use Rattle.dm_durable.specs.declared.group_journal.GroupRow.{GroupRow}
use Rattle.dm_durable.specs.declared.group_journal.GroupRow.TheVariants as row
use Rattle.dm_fields.specs.Fields.{byte_field, chunk_field, longer_chunk_field, sum_field, list_field, moment_field}
use Rattle.dm_fields.specs.Numbers.{be64, be128}
use Rattle.dm_fields.specs.Once.{length-behind, length-big_endian}
use Rattle.dm_group_records.specs.Limits.{AreAsPlanned, IsStepWithinLimits, IsRowWithinLimits, IsWithinLimits, payload_limit}
use Rattle.dm_group_records.specs.OldSteps.{old_fields}
use Rattle.dm_group_records.specs.Payloads.{spelling}
use Rattle.dm_group_records.specs.Rows.{row_fields}
use Rattle.dm_group_records.specs.Steps.{step_fields, serial_field}
use Rattle.dm_group_records.proofs.LogForms.{head-spelling, head_length, name}
use Rattle.dm_rules.specs.Numbers.{lesser}
use Rattle.dm_rules.specs.Plan.{pieces_of, chunks_at, chunks_of, all_chunks}
use Rattle.dm_rules.specs.Zone.{chunk_count}
use Rattle.dm_rules.specs.declared.space.Space.{Space}

-- ---- how many chunks a bitfile is laid out in

length-chunks_at : (version chunk count : ℕ) (piece : Piece) (offset left place : ℕ) → length (chunks_at version chunk count piece offset left place) ≡ count
unfolding chunks_at
length-chunks_at version chunk zero piece offset left place = refl
length-chunks_at version chunk (suc count) piece offset left place = ap suc (length-chunks_at version chunk count piece _ _ _)

-- chunks of 64 bytes or more, but for the last one
few_of : (chunk count n : ℕ) → 64 ≤ chunk → count * chunk < n + chunk → 64 * count ≤ n + 63
few_of chunk zero n wide low = omega arith
few_of chunk (suc q) n wide low = omega (arith, low, mul-le-mul_left {m = 64} {n = chunk} q wide)

few_chunks : (chunk : ℕ) (piece : Piece) → 64 ≤ chunk → 64 * length (chunks_of chunk piece) ≤ piece.len + 63
few_chunks chunk piece wide =
    let count : ℕ = chunk_count chunk piece.len in
    let same : length (chunks_of chunk piece) ≡ count = length-chunks_at piece.version chunk count piece piece.offset piece.len _ in
    let few : 64 * count ≤ piece.len + 63 = few_of chunk count piece.len wide (div_ceil_times piece.len chunk (omega arith)).1 in
    omega (arith, same, few)

piece_on : Space → ℕ → ℕ → Piece
piece_on s offset taken = record { vsn = s.vsn; version = s.version; zone = s.tip; offset = offset; len = taken }

piece_none : (s : Space) (rest : List Space) (offset left : ℕ) → lesser s.room left ≡ 0 → pieces_of (s ∷ rest) offset left ≡ pieces_of rest offset left
unfolding pieces_of
piece_none s rest offset left h = rw h

piece_some : (s : Space) (rest : List Space) (offset left : ℕ) → 0 < lesser s.room left → pieces_of (s ∷ rest) offset left ≡ piece_on s offset (lesser s.room left) ∷ pieces_of rest (offset + lesser s.room left) (left - lesser s.room left)
unfolding pieces_of piece_on
piece_some s rest offset left some =
    let t = lesser s.room left in
    ap (λ b. cond b (pieces_of rest offset left) (piece_on s offset t ∷ pieces_of rest (offset + t) (left - t))) (ne_eqb t 0 (λ h. absurd (omega arith)))

-- each volume adds one chunk that isn't whole
few_pieces : (ss : List Space) (chunk offset left : ℕ) → 64 ≤ chunk → 64 * length (all_chunks chunk (pieces_of ss offset left)) ≤ left + 63 * length ss
unfolding pieces_of piece_on
few_pieces [] chunk offset left wide = omega arith
few_pieces (s ∷ rest) chunk offset left wide =
    let t = lesser s.room left in
    elim (cases_lt 0 t) [
      | inl some ↦
          let p = piece_on s offset t in
          let here = few_chunks chunk p wide in
          let later = few_pieces rest chunk (offset + t) (left - t) wide in
          let both = length-append (chunks_of chunk p) (all_chunks chunk (pieces_of rest (offset + t) (left - t))) in
          let is = ap (λ ps. length (all_chunks chunk ps)) (piece_some s rest offset left some) in
          omega arith
      | inr none ↦
          let later = few_pieces rest chunk offset left wide in
          let is = ap (λ ps. length (all_chunks chunk ps)) (piece_none s rest offset left (omega arith)) in
          omega arith
    ]

few_planned : (chunks : List Chunk) → AreAsPlanned chunks → length chunks ≤ 262159
few_planned chunks p =
    let few = few_pieces p.spaces p.chunk 0 p.len p.least in
    omega (arith, p.volumes, p.most, p.planned)

-- ---- chunks

length-chunk : (c : Chunk) → FitsChunk c → length (chunk_field c) ≡ 38
length-chunk c p =
    let a = length-behind 8 c.offset (be64 c.len ++ (c.vsn.0 ++ (be64 c.zone ++ be64 c.place))) in
    let b = length-behind 8 c.len (c.vsn.0 ++ (be64 c.zone ++ be64 c.place)) in
    let d = length-append c.vsn.0 (be64 c.zone ++ be64 c.place) in
    let f = length-behind 8 c.zone (be64 c.place) in
    let g = length-big_endian 8 c.place in
    let six = p.serial.six in
    omega arith

short_sum : (sum : Option (List ℕ)) → IsSumOrNone sum → length (sum_field sum) ≤ 33
short_sum None p = omega arith
short_sum (Some sum) p = omega (arith, p)

short_chunk : (c : Chunk) → FitsChunk c → length (longer_chunk_field c) ≤ 71
short_chunk c p =
    let a = length-append (chunk_field c) (sum_field c.sum) in
    let b = length-chunk c p in
    let d = short_sum c.sum p.sum in
    omega arith

short_chunks : (cs : List Chunk) → AllByRecursion FitsChunk cs → length (flat_map longer_chunk_field cs) ≤ 71 * length cs
short_chunks [] p = omega arith
short_chunks (c ∷ cs) p =
    let a = length-append (longer_chunk_field c) (flat_map longer_chunk_field cs) in
    let b = short_chunk c p.0 in
    let d = short_chunks cs p.1 in
    omega arith

short_old_chunks : (cs : List Chunk) → AllByRecursion FitsChunk cs → length (flat_map chunk_field cs) ≤ 38 * length cs
short_old_chunks [] p = omega arith
short_old_chunks (c ∷ cs) p =
    let a = length-append (chunk_field c) (flat_map chunk_field cs) in
    let b = length-chunk c p.0 in
    let d = short_old_chunks cs p.1 in
    omega arith

-- a bitfile: its identifier, its length and its chunks
short_bitfile : (b len : ℕ) (cs : List Chunk) → AllByRecursion FitsChunk cs → AreAsPlanned cs → length (be128 b ++ (be64 len ++ list_field longer_chunk_field cs)) ≤ 18613317
short_bitfile b len cs fits planned =
    let a = length-behind 16 b (be64 len ++ list_field longer_chunk_field cs) in
    let d = length-behind 8 len (list_field longer_chunk_field cs) in
    let f = length-behind 4 (length cs) (flat_map longer_chunk_field cs) in
    let g = short_chunks cs fits in
    let few = few_planned cs planned in
    omega arith

short_old_bitfile : (b len : ℕ) (cs : List Chunk) → AllByRecursion FitsChunk cs → AreAsPlanned cs → length (be128 b ++ (be64 len ++ list_field chunk_field cs)) ≤ 18613317
short_old_bitfile b len cs fits planned =
    let a = length-behind 16 b (be64 len ++ list_field chunk_field cs) in
    let d = length-behind 8 len (list_field chunk_field cs) in
    let f = length-behind 4 (length cs) (flat_map chunk_field cs) in
    let g = short_old_chunks cs fits in
    let few = few_planned cs planned in
    omega arith

-- ---- records

short_step : (s : GroupStep) → FitsGroupStep s → IsStepWithinLimits s → length (step_fields s) ≤ 18613317
short_step (Volume vsn slot version size) p q =
    let a = length-append (serial_field vsn) (byte_field slot ++ (byte_field version ++ be64 size)) in
    let b = length-big_endian 8 size in
    let six = p.0.six in
    omega arith
short_step (Commit b len chunks) p q = short_bitfile b.0 len chunks p.3 q
short_step (Delete b) p q = let a = length-big_endian 16 b.0 in omega arith
short_step (Move b from to) p q =
    let a = length-behind 16 b.0 (longer_chunk_field from ++ longer_chunk_field to) in
    let d = length-append (longer_chunk_field from) (longer_chunk_field to) in
    let f = short_chunk from p.1 in
    let g = short_chunk to p.2 in
    omega arith
short_step (Free vsn) p q = let six = p.six in omega arith
short_step (Reuse vsn epoch version) p q =
    let a = length-append (serial_field vsn) (be64 epoch ++ byte_field version) in
    let b = length-behind 8 epoch (byte_field version) in
    let six = p.0.six in
    omega arith

short_old_step : (s : GroupStep) → FitsGroupStep s → IsStepWithinLimits s → length (old_fields s) ≤ 18613317
short_old_step (Volume vsn slot version size) p q =
    let a = length-append (serial_field vsn) (byte_field slot ++ be64 size) in
    let b = length-big_endian 8 size in
    let six = p.0.six in
    omega arith
short_old_step (Commit b len chunks) p q = short_old_bitfile b.0 len chunks p.3 q
short_old_step (Delete b) p q = omega arith
short_old_step (Move b from to) p q =
    let a = length-behind 16 b.0 (chunk_field from ++ chunk_field to) in
    let d = length-append (chunk_field from) (chunk_field to) in
    let f = length-chunk from p.1 in
    let g = length-chunk to p.2 in
    omega arith
short_old_step (Free vsn) p q = omega arith
short_old_step (Reuse vsn epoch version) p q =
    let a = length-append (serial_field vsn) (be64 epoch) in
    let b = length-big_endian 8 epoch in
    let six = p.0.six in
    omega arith

-- ---- rows

length-moment : (held : Option Secs) → length (moment_field held) ≡ 9
length-moment None = ap suc (length-big_endian 8 0)
length-moment (Some time) = ap suc (length-big_endian 8 time.0)

short_row : (r : GroupRow) → FitsGroupRow r → IsRowWithinLimits r → length (row_fields r) ≤ 18613317
short_row (row.State time group) p q = let a = length-behind 8 time.0 (byte_field group.0) in omega arith
short_row (row.Volume vsn v) p q =
    let a = length-append (serial_field vsn) (byte_field v.slot ++ (byte_field v.version ++ (be64 v.size ++ (be64 v.epoch ++ (be64 v.end ++ moment_field v.held))))) in
    let b = length-behind 8 v.size (be64 v.epoch ++ (be64 v.end ++ moment_field v.held)) in
    let d = length-behind 8 v.epoch (be64 v.end ++ moment_field v.held) in
    let f = length-behind 8 v.end (moment_field v.held) in
    let g = length-moment v.held in
    let six = p.0.six in
    omega arith
short_row (row.Bitfile b r) p q = short_bitfile b.0 r.len r.chunks p.1.chunks q
short_row (row.OldVolume vsn v) p q =
    let a = length-append (serial_field vsn) (byte_field v.slot ++ (be64 v.size ++ (be64 v.epoch ++ (be64 v.end ++ moment_field v.held)))) in
    let b = length-behind 8 v.size (be64 v.epoch ++ (be64 v.end ++ moment_field v.held)) in
    let d = length-behind 8 v.epoch (be64 v.end ++ moment_field v.held) in
    let f = length-behind 8 v.end (moment_field v.held) in
    let g = length-moment v.held in
    let six = p.0.six in
    omega arith
short_row (row.OldBitfile b r) p q = short_old_bitfile b.0 r.len r.chunks p.1.chunks q

-- ---- all payloads

pub short : (p : GroupPayload) → FitsGroupPayload p → IsWithinLimits p → length (spelling p) ≤ payload_limit
short (Head t g) p q = let a = ap length (head-spelling t g) in let b = head_length (t, (name, g)) in omega arith
short (Record r) p q =
    let a = length-behind 8 r.time.0 (step_fields r.step) in
    let b = short_step r.step p.1 q in
    omega arith
short (OldRecord r) p q =
    let a = length-behind 8 r.time.0 (old_fields r.step) in
    let b = short_old_step r.step p.1 q in
    omega arith
short (Row r) p q = let b = short_row r p q in omega arith
