-- The volumes of a group that may take pieces or a moved chunk, and the pieces that a bitfile is cut into on them.
use Rattle.std.proofs.Common.{◌≡◌, ◌⊎◌, inl, inr, ℕ, zero, suc, ◌+◌, ◌-◌, ◌*◌, ◌<◌, ◌≤◌, ◌&&◌, ◌||◌, Bool, true, false, cond, T, Option, Some, None, List, [], ◌∷◌, ◌++◌, length}
use Rattle.std.proofs.Common.{nat_eq, refl, sym, ap, subst, ◌∙◌, zero-add, arith, Less, nat_cmp}
use Rattle.std.specs.Prelude.{find, nat_le}
use Rattle.std.specs.FinMap as map
use Rattle.std.specs.Cmp.{tied_itself}
use Rattle.std.specs.Cmp.Lexicographic.{slice_cmp}
use Rattle.std.specs.FinMap.Entries.{below_all, is_sorted}
use Rattle.std.specs.List.{AllByRecursion, flat_map}
use Rattle.std.proofs.lemmas.Bool.{and_parts, cases_lt, leb-true, ne_eqb, or_parts}
use Rattle.std.proofs.lemmas.Grind.{div_ceil_times}
use Rattle.std.proofs.Math.Nat.{mul-le-mul_left, mul-le-mul_right}
use Rattle.dm_base.specs.declared.identifier.Secs.{Secs}
use Rattle.dm_base.specs.declared.serial.TheConstants.{VSN_LENGTH}
use Rattle.dm_base.specs.declared.serial.Vsn.{Vsn}
use Rattle.dm_base.specs.declared.volume.Piece.{Piece}
use Rattle.dm_rules.specs.declared.space.Space.{Space}
use Rattle.dm_rules.specs.Merge.{first_with_room, or_else}
use Rattle.dm_rules.specs.Numbers.{lesser}
use Rattle.dm_rules.specs.Plan.{rooms, pieces_of}
use Rattle.dm_rules.specs.Room.{room, most_bytes}
use Rattle.dm_rules.specs.Version.{chunk_header, first_version, second_version}
use Rattle.dm_rules.specs.Zone.{chunk_count, weight, zone_length}
use Rattle.dm_tables.proofs.Entries.{first, second, less, entries-found}
use Rattle.dm_tables.proofs.Orders.{paths}
use Rattle.dm_zone.proofs.RoomLemmas.{bytes_fit, room_none, room_some}
use Rattle.dm_durable.specs.Tables.{ByName}
use Rattle.dm_durable.specs.declared.group.VolumeRow.{VolumeRow}
use Rattle.dm_durable.specs.Volumes.{Usage, destination_in, is_listed, of_serial, room_in, space_if, space_of, spaces, target_spaces, tip_in}
use Rattle.dm_invariant.specs.Among.{IsAmong}
use Rattle.dm_invariant.specs.Reservations.{PiecesJoin}
use Rattle.dm_invariant.proofs.Lists.{among_either, among_if}

-- ---- the spaces of a group

-- a space is a volume that isn't held, with its tip and its room
pub record SpaceOf (u : Usage) (volumes : ByName VolumeRow) (sp : Space) : Type 0 where
  pub volume : VolumeRow
  pub is : map.get volumes sp.vsn.0 ≡ Some volume
  pub usable : volume.held ≡ None
  pub version : sp.version ≡ volume.version
  pub tip : sp.tip ≡ tip_in u.tips sp.vsn.0 volume
  pub fits : sp.room ≡ room_in u sp.vsn.0 volume

-- no two spaces are of one volume
abbrev NoneOn : List ℕ → List Space → Type 0
NoneOn vsn sps = (sp : Space) → IsAmong sp sps → sp.vsn.0 ≡ vsn → ⊥

abbrev pub SpacesApart : List Space → Type 0
SpacesApart [] = Unit {0}
SpacesApart (sp ∷ sps) = NoneOn sp.vsn.0 sps × SpacesApart sps

module _ (u : Usage) (volumes : ByName VolumeRow) where
  -- the spaces of some entries
  abbrev spaces_in : List (List ℕ × VolumeRow) → List Space
  spaces_in es = flat_map (λ e. of_serial e.0 (space_if u e.0 e.1 e.1.held)) es

  one_space : (vsn : List ℕ) (v : VolumeRow) (since : Option Secs) (sp : Space) → IsAmong sp (space_if u vsn v since)
      → (sp ≡ space_of u vsn v) × (since ≡ None)
  one_space vsn v None sp (inl same) = (same, refl)
  one_space vsn v None sp (inr a) = absurd a
  one_space vsn v (Some t) sp a = absurd a

  space_here : (vsn : List ℕ) (v : VolumeRow) (sp : Space) → IsAmong sp (of_serial vsn (space_if u vsn v v.held))
      → (sp ≡ space_of u vsn v) × (v.held ≡ None)
  space_here vsn v sp a = one_space vsn v v.held sp (among_if (nat_eq (length vsn) VSN_LENGTH) sp (space_if u vsn v v.held) a)

  space_row : (vsn : List ℕ) (v : VolumeRow) → map.get volumes vsn ≡ Some v → v.held ≡ None → SpaceOf u volumes (space_of u vsn v)
  space_row vsn v e free = record { volume = v; is = e; usable = free; version = refl; tip = refl; fits = refl }

  spaces_rows : (es : List (List ℕ × VolumeRow)) (sp : Space) → AllByRecursion (λ e. map.get volumes e.0 ≡ Some e.1) es
      → IsAmong sp (spaces_in es) → SpaceOf u volumes sp
  spaces_rows [] sp all a = absurd a
  spaces_rows (e ∷ es) sp all a =
      elim (among_either sp (of_serial e.0 (space_if u e.0 e.1 e.1.held)) (spaces_in es) a) [
        | inl b ↦
            let h = space_here e.0 e.1 sp b in
            subst (SpaceOf u volumes) (sym h.0) (space_row e.0 e.1 all.0 h.1)
        | inr b ↦ spaces_rows es sp all.1 b
      ]

  -- each space of a group is one of its volumes that aren't held
  pub spaces_are : (sp : Space) → IsAmong sp (spaces u volumes) → SpaceOf u volumes sp
  spaces_are sp a = spaces_rows (map.entries volumes) sp (entries-found paths volumes) a

  spaces_above : (k : List ℕ) (es : List (List ℕ × VolumeRow)) (sp : Space) → T (below_all (slice_cmp nat_cmp) k es)
      → IsAmong sp (spaces_in es) → slice_cmp nat_cmp k sp.vsn.0 ≡ Less
  spaces_above k [] sp h a = absurd a
  spaces_above k (e ∷ es) sp h a =
      elim (among_either sp (of_serial e.0 (space_if u e.0 e.1 e.1.held)) (spaces_in es) a) [
        | inl b ↦
            let same = (space_here e.0 e.1 sp b).0 in
            subst (λ (s : Space). slice_cmp nat_cmp k s.vsn.0 ≡ Less) (sym same) (less _ (first _ _ h))
        | inr b ↦ spaces_above k es sp (second _ _ h) b
      ]

  none_above : (k : List ℕ) (es : List (List ℕ × VolumeRow)) → T (below_all (slice_cmp nat_cmp) k es) → NoneOn k (spaces_in es)
  none_above k es h sp a same =
      let above = spaces_above k es sp h a in
      let at : slice_cmp nat_cmp k sp.vsn.0 ≡ slice_cmp nat_cmp k k = ap (slice_cmp nat_cmp k) same in
      let tie = tied_itself paths.total k in
      cc

  apart_one : (vsn : List ℕ) (v : VolumeRow) (since : Option Secs) (sps : List Space) → NoneOn vsn sps → SpacesApart sps
      → SpacesApart (space_if u vsn v since ++ sps)
  apart_one vsn v None sps beyond apart = (beyond, apart)
  apart_one vsn v (Some t) sps beyond apart = apart

  apart_or_none : (b : Bool) (xs sps : List Space) → SpacesApart (xs ++ sps) → SpacesApart sps → SpacesApart (cond b xs [] ++ sps)
  apart_or_none true xs sps joined rest = joined
  apart_or_none false xs sps joined rest = rest

  spaces_apart_in : (es : List (List ℕ × VolumeRow)) → T (is_sorted (slice_cmp nat_cmp) es) → SpacesApart (spaces_in es)
  spaces_apart_in [] h = tt
  spaces_apart_in (e ∷ es) h =
      let rest = spaces_apart_in es (second _ _ h) in
      apart_or_none (nat_eq (length e.0) VSN_LENGTH) (space_if u e.0 e.1 e.1.held) (spaces_in es)
      (apart_one e.0 e.1 e.1.held (spaces_in es) (none_above e.0 es (first _ _ h)) rest) rest

  -- no two spaces of a group are of one volume
  pub spaces_apart : SpacesApart (spaces u volumes)
  spaces_apart = spaces_apart_in (map.entries volumes) (map.entries_sorted volumes)

-- ---- the pieces of a bitfile

-- a piece is the first zone on one space, within its room
pub record PieceFrom (sps : List Space) (p : Piece) : Type 0 where
  pub space : Space
  pub among : IsAmong space sps
  pub vsn : p.vsn ≡ space.vsn
  pub version : p.version ≡ space.version
  pub zone : p.zone ≡ space.tip
  pub some : 0 < p.len
  pub fits : p.len ≤ space.room

from_rest : (sp : Space) (sps : List Space) (p : Piece) → PieceFrom sps p → PieceFrom (sp ∷ sps) p
from_rest sp sps p f =
    record { space = f.space; among = inr f.among; vsn = f.vsn; version = f.version; zone = f.zone; some = f.some; fits = f.fits }

-- the piece that takes so much of a space
abbrev piece_on : Space → ℕ → ℕ → Piece
piece_on sp offset taken = record { vsn = sp.vsn; version = sp.version; zone = sp.tip; offset = offset; len = taken }

from_first : (sp : Space) (sps : List Space) (offset taken : ℕ) (p : Piece) → p ≡ piece_on sp offset taken → 0 < taken → taken ≤ sp.room
    → PieceFrom (sp ∷ sps) p
from_first sp sps offset taken p is some fits =
    let len : p.len ≡ taken = ap (λ (q : Piece). q.len) is in
    record {
      space = sp;
      among = inl refl;
      vsn = ap (λ (q : Piece). q.vsn) is;
      version = ap (λ (q : Piece). q.version) is;
      zone = ap (λ (q : Piece). q.zone) is;
      some = omega (arith, len, some);
      fits = omega (arith, len, fits);
    }

-- the pieces on spaces of which the first takes so much, or nothing
data FirstTakes (sp : Space) (sps : List Space) (offset left : ℕ) : Type 0 where
  TakesNone : lesser sp.room left ≡ 0 → pieces_of (sp ∷ sps) offset left ≡ pieces_of sps offset left → FirstTakes sp sps offset left
  TakesSome : 0 < lesser sp.room left
      → pieces_of (sp ∷ sps) offset left
      ≡ piece_on sp offset (lesser sp.room left) ∷ pieces_of sps (offset + lesser sp.room left) (left - lesser sp.room left)
      → FirstTakes sp sps offset left

piece_none : (s : Space) (rest : List Space) (offset left : ℕ) → lesser s.room left ≡ 0 → pieces_of (s ∷ rest) offset left ≡ pieces_of rest offset left
unfolding pieces_of
piece_none s rest offset left h = rw h

piece_some : (s : Space) (rest : List Space) (offset left taken : ℕ) → taken ≡ lesser s.room left → 0 < taken
    → pieces_of (s ∷ rest) offset left ≡ piece_on s offset taken ∷ pieces_of rest (offset + taken) (left - taken)
unfolding pieces_of
piece_some s rest offset left taken is some =
    let later : ℕ → List Piece = λ t. piece_on s offset t ∷ pieces_of rest (offset + t) (left - t) in
    ap (λ b. cond b (pieces_of rest offset left) (later (lesser s.room left))) (ne_eqb (lesser s.room left) 0 (λ h. absurd (omega arith)))
    ∙ ap later (sym is)

first_takes : (sp : Space) (sps : List Space) (offset left : ℕ) → FirstTakes sp sps offset left
first_takes sp sps offset left =
    elim (cases_lt 0 (lesser sp.room left)) [
      | inl l ↦ TakesSome l (piece_some sp sps offset left (lesser sp.room left) refl l)
      | inr g ↦ let nothing : lesser sp.room left ≡ 0 = omega arith in TakesNone nothing (piece_none sp sps offset left nothing)
    ]

-- each piece is on one of the spaces
pub pieces_from : (sps : List Space) (offset left : ℕ) (p : Piece) → IsAmong p (pieces_of sps offset left) → PieceFrom sps p
unfolding pieces_of
pieces_from [] offset left p a = absurd a
pieces_from (sp ∷ sps) offset left p a =
    elim (first_takes sp sps offset left) [
      | TakesNone h is ↦ from_rest sp sps p (pieces_from sps offset left p (subst (IsAmong p) is a))
      | TakesSome l is ↦ elim (subst (IsAmong p) is a) [
        | inl same ↦ from_first sp sps offset (lesser sp.room left) p same l (omega arith)
        | inr b ↦ from_rest sp sps p (pieces_from sps (offset + lesser sp.room left) (left - lesser sp.room left) p b)
      ]
    ]

-- a piece on the spaces behind isn't on the volume of the first
elsewhere : (sp : Space) (sps : List Space) (p q : Piece) → NoneOn sp.vsn.0 sps → p.vsn ≡ sp.vsn → PieceFrom sps q → p.vsn.0 ≡ q.vsn.0 → ⊥
elsewhere sp sps p q none at f same =
    none f.space f.among (sym (ap (λ v. v.0) f.vsn) ∙ sym same ∙ ap (λ v. v.0) at)

-- two pieces on one volume are one piece
pub one_on_volume : (sps : List Space) (offset left : ℕ) (p q : Piece) → SpacesApart sps → IsAmong p (pieces_of sps offset left)
    → IsAmong q (pieces_of sps offset left) → p.vsn.0 ≡ q.vsn.0 → p ≡ q
unfolding pieces_of
one_on_volume [] offset left p q apart a b same = absurd a
one_on_volume (sp ∷ sps) offset left p q apart a b same =
    let taken = lesser sp.room left in
    elim (first_takes sp sps offset left) [
      | TakesNone h is ↦ one_on_volume sps offset left p q apart.1 (subst (IsAmong p) is a) (subst (IsAmong q) is b) same
      | TakesSome l is ↦ elim (subst (IsAmong p) is a) [
        | inl first_p ↦ elim (subst (IsAmong q) is b) [
          | inl first_q ↦ first_p ∙ sym first_q
          | inr rest_q ↦ absurd (elsewhere sp sps p q apart.0 (ap (λ (x : Piece). x.vsn) first_p)
              (pieces_from sps (offset + taken) (left - taken) q rest_q) same)
        ]
        | inr rest_p ↦ elim (subst (IsAmong q) is b) [
          | inl first_q ↦ absurd (elsewhere sp sps q p apart.0 (ap (λ (x : Piece). x.vsn) first_q)
              (pieces_from sps (offset + taken) (left - taken) p rest_p) (sym same))
          | inr rest_q ↦ one_on_volume sps (offset + taken) (left - taken) p q apart.1 rest_p rest_q same
        ]
      ]
    ]

-- where there is room, the pieces are all of the bytes
pieces_join : (sps : List Space) (offset left : ℕ) → left ≤ rooms sps → PiecesJoin offset (pieces_of sps offset left) (offset + left)
unfolding pieces_of
pieces_join [] offset left fits = let e : offset ≡ offset + left = omega (arith, fits) in e
pieces_join (sp ∷ sps) offset left fits =
    let taken = lesser sp.room left in
    elim (first_takes sp sps offset left) [
      | TakesNone h is ↦ subst (λ ps. PiecesJoin offset ps (offset + left)) (sym is) (pieces_join sps offset left (omega (arith, h, fits)))
      | TakesSome l is ↦
          let e : (offset + taken) + (left - taken) ≡ offset + left = omega arith in
          subst (λ ps. PiecesJoin offset ps (offset + left)) (sym is) (
            refl,
            l,
            subst (PiecesJoin (offset + taken) (pieces_of sps (offset + taken) (left - taken))) e
                (pieces_join sps (offset + taken) (left - taken) (omega (arith, fits))),
          )
    ]

-- and so those of a whole bitfile
pub pieces_whole : (sps : List Space) (len : ℕ) → len ≤ rooms sps → PiecesJoin 0 (pieces_of sps 0 len) len
pieces_whole sps len fits = subst (PiecesJoin 0 (pieces_of sps 0 len)) (zero-add len) (pieces_join sps 0 len fits)

-- ---- the zone of a piece

above : (q m chunk n : ℕ) → n ≤ m * chunk → q * chunk < n → q < m
above q m chunk n reach past =
    elim (cases_lt q m) [ inl l ↦ l | inr g ↦ absurd (omega (arith, mul-le-mul_right {m = m} {n = q} chunk g)) ]

count_of : (p q chunk m n : ℕ) → m ≤ n → p * chunk < m + chunk → n ≤ q * chunk → p ≤ q
count_of zero q chunk m n le low high = omega arith
count_of (suc p) q chunk m n le low high = omega (arith, above p q chunk n high (omega (arith, low)))

count_le : (chunk m n : ℕ) → 0 < chunk → m ≤ n → chunk_count chunk m ≤ chunk_count chunk n
count_le chunk m n some le = count_of (chunk_count chunk m) (chunk_count chunk n) chunk m n le (div_ceil_times m chunk some).1 (div_ceil_times n chunk some).0

fewer_fit : (h c d n m left : ℕ) → c ≤ d → n ≤ m → h * d + m ≤ left → h * c + n ≤ left
fewer_fit h c d n m left fewer less fits = omega (arith, mul-le-mul_left {m = c} {n = d} h fewer, less, fits)

-- a zone of bytes for which a volume has room ends within its size
pub zone_fits : (version size tip chunk n : ℕ) → 0 < chunk → tip ≤ size → 0 < n → n ≤ room version size tip chunk
    → tip + zone_length version chunk n ≤ size
zone_fits version size tip chunk n positive within some fits =
    elim (cases_lt (size - tip) 32) [
      | inl l ↦ let e = room_none version size tip chunk l in absurd (omega (arith, e, some, fits))
      | inr g ↦
          let e = room_some version size tip chunk g in
          let h : ℕ = chunk_header version in
          let most : ℕ = most_bytes h (size - tip - 32) chunk in
          let le : n ≤ most = omega (arith, e, fits) in
          let fewer = count_le chunk n most positive le in
          let whole = bytes_fit h (size - tip - 32) chunk (omega arith) positive in
          let rest = fewer_fit h (chunk_count chunk n) (chunk_count chunk most) n most (size - tip - 32) fewer le whole in
          omega (arith, g, rest, within)
    ]

-- and takes a chunk's header and the bytes at least
pub zone_longer : (version chunk n : ℕ) → 0 < chunk → 0 < n → weight version n ≤ zone_length version chunk n
zone_longer version chunk n positive some =
    let count : ℕ = chunk_count chunk n in
    let one : 1 ≤ count = at_least count chunk n some (div_ceil_times n chunk positive).0 in
    longer (chunk_header version) count n one
  where
    at_least : (c chunk n : ℕ) → 0 < n → n ≤ c * chunk → 1 ≤ c
    at_least zero chunk n some reach = absurd (omega (arith, some, reach))
    at_least (suc c) chunk n some reach = omega arith

    longer : (h c n : ℕ) → 1 ≤ c → 32 + h + n ≤ 32 + h * c + n
    longer h c n one = omega (arith, mul-le-mul_left {m = 1} {n = c} h one)

-- ---- the volume that takes a moved chunk

-- one that isn't mounted, nor one of the list, with room for the bytes
pub record Destination (u : Usage) (listed : List Vsn) (volumes : ByName VolumeRow) (len : ℕ) (sp : Space) : Type 0 where
  pub of : SpaceOf u volumes sp
  pub unmounted : u.mounted sp.vsn.0 ≡ false
  pub unlisted : is_listed listed sp.vsn.0 ≡ false
  pub room : len ≤ sp.room

found : {X : Type 0} (t : X → Bool) (xs : List X) (x : X) → find t xs ≡ Some x → IsAmong x xs × (t x ≡ true)
found t [] x e = absurd (cc)
found {X} t (y ∷ ys) x e =
    elim (t y) as (λ b. t y ≡ b → cond b (Some y) (find t ys) ≡ Some x → ((x ≡ y) ⊎ IsAmong x ys) × (t x ≡ true)) [
      | true ↦ λ passes is. let same : y ≡ x = cc in (inl (sym same), ap t (sym same) ∙ passes)
      | false ↦ λ fails is. let rest = found t ys x is in (inr rest.0, rest.1)
    ] refl e

first_found : (version len : ℕ) (sps : List Space) (sp : Space) → first_with_room version len sps ≡ Some sp → IsAmong sp sps × (len ≤ sp.room)
first_found version len sps sp is =
    let f = found (λ s. nat_eq s.version version && nat_le len s.room) sps sp is in
    (f.0, leb-true len sp.room (and_parts _ _ f.1).1)

either_found : (len : ℕ) (sps : List Space) (sp : Space) (o : Option Space) → first_with_room second_version len sps ≡ o
    → or_else o (first_with_room first_version len sps) ≡ Some sp → IsAmong sp sps × (len ≤ sp.room)
either_found len sps sp None is e = first_found first_version len sps sp e
either_found len sps sp (Some x) is e = first_found second_version len sps sp (is ∙ e)

module _ (u : Usage) (listed : List Vsn) (volumes : ByName VolumeRow) where
  abbrev targets_in : List (List ℕ × VolumeRow) → List Space
  targets_in es =
      flat_map (λ e. of_serial e.0 (cond (u.mounted e.0 || is_listed listed e.0) [] (space_if u e.0 e.1 e.1.held))) es

  -- a space is among those that a test lets through
  let_through : (b : Bool) (sp : Space) (xs : List Space) → IsAmong sp (cond b [] xs) → (b ≡ false) × IsAmong sp xs
  let_through true sp xs a = absurd a
  let_through false sp xs a = (refl, a)

  target_here : (vsn : List ℕ) (v : VolumeRow) (len : ℕ) (sp : Space) → map.get volumes vsn ≡ Some v → len ≤ sp.room
      → IsAmong sp (of_serial vsn (cond (u.mounted vsn || is_listed listed vsn) [] (space_if u vsn v v.held))) → Destination u listed volumes len sp
  target_here vsn v len sp is room a =
      let b = among_if (nat_eq (length vsn) VSN_LENGTH) sp (cond (u.mounted vsn || is_listed listed vsn) [] (space_if u vsn v v.held)) a in
      let c = let_through (u.mounted vsn || is_listed listed vsn) sp (space_if u vsn v v.held) b in
      let o = or_parts _ _ c.0 in
      let s = one_space u volumes vsn v v.held sp c.1 in
      let at : vsn ≡ sp.vsn.0 = ap (λ (x : Space). x.vsn.0) (sym s.0) in
      record {
        of = subst (SpaceOf u volumes) (sym s.0) (space_row u volumes vsn v is s.1);
        unmounted = subst (λ q. u.mounted q ≡ false) at o.0;
        unlisted = subst (λ q. is_listed listed q ≡ false) at o.1;
        room = room;
      }

  targets_rows : (es : List (List ℕ × VolumeRow)) (len : ℕ) (sp : Space) → AllByRecursion (λ e. map.get volumes e.0 ≡ Some e.1) es
      → len ≤ sp.room → IsAmong sp (targets_in es) → Destination u listed volumes len sp
  targets_rows [] len sp all room a = absurd a
  targets_rows (e ∷ es) len sp all room a =
      elim (among_either sp (of_serial e.0 (cond (u.mounted e.0 || is_listed listed e.0) [] (space_if u e.0 e.1 e.1.held))) (targets_in es) a) [
        | inl b ↦ target_here e.0 e.1 len sp all.0 room b
        | inr b ↦ targets_rows es len sp all.1 room b
      ]

  -- where a chunk of so many bytes goes is such a volume
  pub destination_is : (len : ℕ) (sp : Space) → destination_in u listed volumes len ≡ Some sp → Destination u listed volumes len sp
  destination_is len sp is =
      let sps = target_spaces u listed volumes in
      let f = either_found len sps sp (first_with_room second_version len sps) refl is in
      targets_rows (map.entries volumes) len sp (entries-found paths volumes) f.1 f.0
