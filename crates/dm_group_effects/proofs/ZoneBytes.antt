-- What is known of the chunks of a zone that is known.
use Rattle.std.proofs.Common.{◌≡◌, ℕ, zero, suc, ◌+◌, ◌-◌, ◌*◌, ◌≤◌, Option, Some, None, List, [], ◌∷◌, ◌++◌, length, take, drop, refl, sym, ap}
use Rattle.std.proofs.Common.{subst, ◌∙◌, inl, inr, arith, append_assoc, length-take, length-drop}
use Rattle.std.specs.FinMap as map
use Rattle.std.specs.List.{flat_map}
use Rattle.std.proofs.lemmas.Bool.{cases_lt}
use Rattle.std.proofs.lemmas.List.{take_all, take-take, drop-take, drop-drop}
use Rattle.dm_base.specs.declared.volume.Chunk.{Chunk}
use Rattle.dm_base.specs.declared.volume.Piece.{Piece}
use Rattle.dm_rules.specs.Known.{Known, byte_and, known_bytes}
use Rattle.dm_rules.specs.Numbers.{lesser}
use Rattle.dm_rules.specs.Plan.{chunks_at, chunks_of}
use Rattle.dm_rules.specs.Version.{chunk_header}
use Rattle.dm_rules.specs.Zone.{chunk_count, chunk_text, chunk_split, chunk_split_into, zone, zone_front, zone_header, zone_length}
use Rattle.dm_zone.proofs.Cuts.{header_text, length-header_text, length-zone_front}
use Rattle.dm_invariant.specs.Among.{IsAmong}

-- ---- known bytes in two parts

byte_parts : (o : Option ℕ) (rest : Option (List ℕ)) (b : ℕ) (bs : List ℕ) → byte_and o rest ≡ Some (b ∷ bs) → (o ≡ Some b) × (rest ≡ Some bs)
byte_parts None rest b bs is = absurd cc
byte_parts (Some a) None b bs is = absurd cc
byte_parts (Some a) (Some as_known) b bs is = (cc, cc)

known_parts_at : (known : Known) (place m n : ℕ) (xs ys : List ℕ) → m ≡ length xs + n → known_bytes known place m ≡ Some (xs ++ ys)
    → (known_bytes known place (length xs) ≡ Some xs) × (known_bytes known (place + length xs) n ≡ Some ys)
unfolding known_bytes
known_parts_at known place m n [] ys long is =
    let at : place ≡ place + 0 = omega arith in
    let same : m ≡ n = omega (arith, long) in
    (refl, subst (λ p. known_bytes known p n ≡ Some ys) at (subst (λ k. known_bytes known place k ≡ Some ys) same is))
known_parts_at known place zero n (x ∷ xs) ys long is = absurd (omega (arith, long))
known_parts_at known place (suc m) n (x ∷ xs) ys long is =
    let first = byte_parts (map.get known place) (known_bytes known (place + 1) m) x (xs ++ ys) is in
    let rest = known_parts_at known (place + 1) m n xs ys (omega (arith, long)) first.1 in
    let at : place + 1 + length xs ≡ place + suc (length xs) = omega arith in (
      ap (λ o. byte_and o (known_bytes known (place + 1) (length xs))) first.0 ∙ ap (λ o. byte_and (Some x) o) rest.0,
      subst (λ p. known_bytes known p n ≡ Some ys) at rest.1,
    )

-- where two texts are known behind one another, each is known at its place
known_parts : (known : Known) (place m n : ℕ) (xs ys : List ℕ) → length xs ≡ m → known_bytes known place (m + n) ≡ Some (xs ++ ys)
    → (known_bytes known place m ≡ Some xs) × (known_bytes known (place + m) n ≡ Some ys)
known_parts known place m n xs ys long is =
    subst (λ k. (known_bytes known place k ≡ Some xs) × (known_bytes known (place + k) n ≡ Some ys)) long
    (known_parts_at known place (m + n) n xs ys (ap (λ k. k + n) (sym long)) is)

-- ---- parts of bytes

-- the first of the bytes that are left
front_is : (chunk left : ℕ) (xs : List ℕ) → take chunk (take left xs) ≡ take (lesser chunk left) xs
front_is chunk left xs =
    elim (cases_lt left chunk) [
      | inl few ↦
          let all : length (take left xs) ≤ chunk = omega (arith, length-take left xs, few) in
          let same : left ≡ lesser chunk left = omega (arith, few) in
          take_all chunk (take left xs) all ∙ ap (λ n. take n xs) same
      | inr many ↦
          let same : chunk ≡ lesser chunk left = omega (arith, many) in
          take-take chunk left xs many ∙ ap (λ n. take n xs) same
    ]

-- and those behind them
none_behind : (m : ℕ) (xs ys : List ℕ) → length xs ≤ m → drop m xs ≡ take 0 ys
none_behind zero [] ys few = refl
none_behind (suc m) [] ys few = refl
none_behind zero (x ∷ xs) ys few = absurd (omega (arith, few))
none_behind (suc m) (x ∷ xs) ys few = none_behind m xs ys (omega (arith, few))

back_is : (chunk left : ℕ) (xs : List ℕ) → drop chunk (take left xs) ≡ take (left - lesser chunk left) (drop (lesser chunk left) xs)
back_is chunk left xs =
    elim (cases_lt left chunk) [
      | inl few ↦
          let all : length (take left xs) ≤ chunk = omega (arith, length-take left xs, few) in
          let nothing : 0 ≡ left - lesser chunk left = omega (arith, few) in
          none_behind chunk (take left xs) (drop (lesser chunk left) xs) all ∙ ap (λ n. take n (drop (lesser chunk left) xs)) nothing
      | inr many ↦
          let whole : left ≡ chunk + (left - chunk) = omega (arith, many) in
          let same : chunk ≡ lesser chunk left = omega (arith, many) in
          ap (λ n. drop chunk (take n xs)) whole ∙ drop-take chunk (left - chunk) xs ∙ ap (λ n. take (left - n) (drop n xs)) same
    ]

-- ---- chunks from an offset and a place on

lengths : (h count left taken : ℕ) → taken ≤ left → h * suc count + left ≡ h + (taken + (h * count + (left - taken)))
lengths h count left taken less = omega (arith, less)

-- the first chunk of the bytes that are left, behind its header, and what stands behind it
first_known : (known : Known) (version place count b total offset left chunk : ℕ) (xs : List ℕ) → length xs ≡ left
    → known_bytes known place (chunk_header version * suc count + left) ≡ Some (flat_map chunk_text (chunk_split_into version (suc count) b total offset xs chunk))
    → (known_bytes known (place + chunk_header version) (lesser chunk left) ≡ Some (take chunk xs))
    × (known_bytes known (place + chunk_header version + lesser chunk left) (chunk_header version * count + (left - lesser chunk left))
    ≡ Some (flat_map chunk_text (chunk_split_into version count b total (offset + length (take chunk xs)) (drop chunk xs) chunk)))
unfolding chunk_split_into
first_known known version place count b total offset left chunk xs long is =
    let h : ℕ = chunk_header version in
    let taken = lesser chunk left in
    let front = take chunk xs in
    let head = header_text version b total offset front in
    let later = flat_map chunk_text (chunk_split_into version count b total (offset + length front) (drop chunk xs) chunk) in
    let parts : (head ++ front) ++ later ≡ head ++ (front ++ later) = append_assoc head front later in
    let rest : ℕ = h * count + (left - taken) in
    let less : taken ≤ left = omega arith in
    let whole : h * suc count + left ≡ h + (taken + rest) = lengths h count left taken less in
    let all : known_bytes known place (h + (taken + rest)) ≡ Some (head ++ (front ++ later)) =
    ap (λ n. known_bytes known place n) (sym whole) ∙ is ∙ ap (λ t. Some t) parts in
    let behind = (known_parts known place h (taken + rest) head (front ++ later) (length-header_text version b total offset front) all).1 in
    known_parts known (place + h) taken rest front later (omega (arith, length-take chunk xs, long)) behind

known_at : (known : Known) (version : ℕ) (p : Piece) (place count b total offset left chunk : ℕ) (bytes : List ℕ) (c : Chunk)
    → offset + left ≤ length bytes
    → known_bytes known place (chunk_header version * count + left)
    ≡ Some (flat_map chunk_text (chunk_split_into version count b total offset (take left (drop offset bytes)) chunk))
    → IsAmong c (chunks_at version chunk count p offset left place) → known_bytes known c.place c.len ≡ Some (take c.len (drop c.offset bytes))
unfolding chunks_at
known_at known version p place zero b total offset left chunk bytes c within is among = absurd among
known_at known version p place (suc count) b total offset left chunk bytes c within is among =
    let taken = lesser chunk left in
    let xs = take left (drop offset bytes) in
    let long : length xs ≡ left = omega (arith, length-take left (drop offset bytes), length-drop offset bytes, within) in
    let parts = first_known known version place count b total offset left chunk xs long is in
    elim among [
      | inl same ↦
          subst (λ (x : Chunk). known_bytes known x.place x.len ≡ Some (take x.len (drop x.offset bytes))) (sym same)
          (parts.0 ∙ ap (λ t. Some t) (front_is chunk left (drop offset bytes)))
      | inr after ↦
          let next : offset + length (take chunk xs) ≡ offset + taken = omega (arith, length-take chunk xs, long) in
          let back : drop chunk xs ≡ take (left - taken) (drop (offset + taken) bytes) =
          back_is chunk left (drop offset bytes) ∙ ap (take (left - taken)) (drop-drop taken offset bytes) in
          let rest = parts.1 ∙ ap (λ n. Some (flat_map chunk_text (chunk_split_into version count b total n (drop chunk xs) chunk))) next
          ∙ ap (λ t. Some (flat_map chunk_text (chunk_split_into version count b total (offset + taken) t chunk))) back in
          known_at known version p (place + chunk_header version + taken) count b total (offset + taken) (left - taken) chunk bytes c
          (omega (arith, within)) rest after
    ]

-- where a zone of a part of a bitfile is known, so is each of its chunks
pub chunk_known : (known : Known) (p : Piece) (epoch b total chunk : ℕ) (bytes : List ℕ) (c : Chunk) → p.offset + p.len ≤ length bytes
    → known_bytes known p.zone (zone_length p.version chunk p.len)
    ≡ Some (zone epoch (chunk_split p.version b total p.offset (take p.len (drop p.offset bytes)) chunk))
    → IsAmong c (chunks_of chunk p) → known_bytes known c.place c.len ≡ Some (take c.len (drop c.offset bytes))
chunk_known known p epoch b total chunk bytes c within is among =
    let count : ℕ = chunk_count chunk p.len in
    let h : ℕ = chunk_header p.version in
    let part = take p.len (drop p.offset bytes) in
    let long : length part ≡ p.len = omega (arith, length-take p.len (drop p.offset bytes), length-drop p.offset bytes, within) in
    let chunks = chunk_split p.version b total p.offset part chunk in
    let head = zone_front epoch (length chunks) (zone_header + length (flat_map chunk_text chunks)) in
    let whole : zone_length p.version chunk p.len ≡ 32 + (h * count + p.len) = omega arith in
    let front = length-zone_front epoch (length chunks) (zone_header + length (flat_map chunk_text chunks)) in
    let behind =
    (known_parts known p.zone 32 (h * count + p.len) head (flat_map chunk_text chunks) front
    (ap (known_bytes known p.zone) (sym whole) ∙ is)).1 in
    let cut_same = ap (λ n. Some (flat_map chunk_text (chunk_split_into p.version (chunk_count chunk n) b total p.offset part chunk))) long in
    known_at known p.version p (p.zone + zone_header) count b total p.offset p.len chunk bytes c within (behind ∙ cut_same) among
