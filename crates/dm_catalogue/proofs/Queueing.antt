-- The queues of volumes, as bitfiles come, change and go, and what a merge finds by them.
use Rattle.std.proofs.Common.{◌≡◌, ◌≢◌, ◌⊎◌, inl, inr, ℕ, zero, suc, ◌+◌, ◌-◌, ◌<◌, ◌≤◌, Bool, true, false, cond, ◌&&◌, ◌||◌, nat_eq, Option, None, Some, Result, Ok, Err, OnOk, OnErr, IsTrue, List, [], ◌∷◌, Contains, length, slice_get, slice_set, refl, sym, ap, subst, ◌∙◌, arith, eqb-true, eq-eqb}
use lib.Pointwise.{bytes_decides}
use Rattle.std.specs.List.{list_any}
use Rattle.std.specs.FinMap.{get, insert, remove, empty}
use Rattle.dm_base.specs.declared.volume.Chunk.{Chunk}
use Rattle.dm_durable.specs.declared.group.BitfileRow.{BitfileRow}
use Rattle.dm_durable.specs.Group.{chunk_at, has_chunk_on, is_on}
use Rattle.dm_durable.specs.Tables.{ByName, ByNumber}
use Rattle.dm_durable.specs.Volumes.{first_on}
use Rattle.dm_durable.specs.Volumes as volumes
use Rattle.dm_tables.specs.Rows.{EachRow, adjust}
use Rattle.dm_tables.proofs.Adjusted.{each-adjust-known}
use Rattle.dm_tables.proofs.Any.{any-false}
use Rattle.dm_tables.proofs.Orders.{numbers, paths, same_or}
use Rattle.dm_tables.proofs.Rows.{each-empty, each-insert, each-remove}
use Rattle.dm_places.specs.Chunks.{Ascends, EachSpotOn, spot_of}
use Rattle.dm_places.specs.Order.{IsFirst, IsNotPast}
use Rattle.dm_places.specs.Queue.{Queue}
use Rattle.dm_places.specs.Queues.{AllQueued, Clears, Drops, KeepsFewer, KeepsMore, KeepsQueued, PutsAll, Queued, UsesPlaces, count_in, is_queued, places_in, places_on, same_spot, spots_in, spots_on}
use Rattle.dm_places.specs.declared.spot.Spot.{Spot}
use Rattle.dm_places.proofs.First.{first_on_is, first_on_none}
use Rattle.dm_places.proofs.Found.{among_cases, among_first, among_later, among_none, chunk_found, found_chunk, joins_ascend}
use Rattle.dm_places.proofs.OfVolumes.{among_of, queued_beside, still_queued}
use Rattle.dm_places.proofs.Queued.{first_not_past, none_queued}
use Rattle.dm_catalogue.specs.declared.chunks.LiveChunk.{LiveChunk}
use Rattle.dm_catalogue.specs.Merging.{IsThere, live_of}
use Rattle.dm_catalogue.specs.Sums.{Finds, IsWhole, chunk_in, put_at, with_chunk_at}
use Rattle.dm_catalogue.proofs.Moving.{put_is}
use Rattle.dm_catalogue.proofs.Texts.{on_its}

-- ---- what the table keeps

pub all_still : (old new : ByName Queue) (bitfiles : ByNumber BitfileRow) → KeepsQueued old new → Queued old bitfiles → Queued new bitfiles
all_still old new bitfiles keeps queued = λ b r is. still_queued old new b r.chunks keeps (queued b r is)

same_queued : (old new : ByName Queue) → ((v : List ℕ) → spots_on new v ≡ spots_on old v) → KeepsQueued old new
same_queued old new same = λ v s queued. subst (λ l. IsTrue (list_any (same_spot s) l)) (sym (same v)) queued

pub queued_empty : (queues : ByName Queue) (bitfiles : ByNumber BitfileRow) → bitfiles ≡ empty → Queued queues bitfiles
queued_empty queues bitfiles none = subst (Queued queues) (sym none) (each-empty _ (λ b r. AllQueued queues b r.chunks))

pub queued_more : (old new : ByName Queue) (bitfiles : ByNumber BitfileRow) (cs : List Chunk) → KeepsMore old cs new → Queued old bitfiles → Queued new bitfiles
queued_more old new bitfiles cs more queued = all_still old new bitfiles (same_queued old new more.spots) queued

pub queued_either : {X Y : Type 0} (r : Result X Y) (old new : ByName Queue) (bitfiles : ByNumber BitfileRow) (cs : List Chunk) → OnOk r (KeepsMore old cs new) → OnErr r (KeepsMore old [] new)
    → Queued old bitfiles → Queued new bitfiles
queued_either (Ok x) old new bitfiles cs ok err queued = queued_more old new bitfiles cs ok queued
queued_either (Err y) old new bitfiles cs ok err queued = queued_more old new bitfiles [] err queued

pub queued_fewer : (old new : ByName Queue) (bitfiles : ByNumber BitfileRow) (cs : List Chunk) → KeepsFewer old cs new → Queued old bitfiles → Queued new bitfiles
queued_fewer old new bitfiles cs fewer queued = all_still old new bitfiles (same_queued old new fewer.spots) queued

pub queued_in : (old new : ByName Queue) (bitfiles after : ByNumber BitfileRow) (b : ℕ) (r : BitfileRow) → PutsAll old b r.chunks new → after ≡ insert bitfiles b r → Queued old bitfiles → Queued new after
queued_in old new bitfiles after b r puts put queued =
    subst (Queued new) (sym put) (each-insert numbers (λ b r. AllQueued new b r.chunks) bitfiles b r puts.queued (all_still old new bitfiles puts.kept queued))

pub queued_out : (queues : ByName Queue) (bitfiles after : ByNumber BitfileRow) (b : ℕ) → after ≡ remove bitfiles b → Queued queues bitfiles → Queued queues after
queued_out queues bitfiles after b out queued = subst (Queued queues) (sym out) (each-remove numbers (λ b r. AllQueued queues b r.chunks) bitfiles b queued)

among_set : (cs : List Chunk) (at : ℕ) (c to d : Chunk) → slice_get cs at ≡ Some c → Contains (slice_set cs at to) d → (to ≡ d) ⊎ Contains cs d
among_set [] at c to d there among = absurd (cc)
among_set (x ∷ cs) zero c to d there among = elim (among_cases d to cs among) [ inl same ↦ inl same | inr later ↦ inr (among_later d x cs later) ]
among_set (x ∷ cs) (suc at) c to d there among =
    elim (among_cases d x (slice_set cs at to) among) [
      | inl same ↦ inr (subst (Contains (x ∷ cs)) same (among_first x cs))
      | inr later ↦ elim (among_set cs at c to d there later) [ inl same ↦ inl same | inr other ↦ inr (among_later d x cs other) ]
    ]

pub queued_moved : (old new : ByName Queue) (bitfiles after : ByNumber BitfileRow) (b : ℕ) (r : BitfileRow) (at : ℕ) (c to : Chunk) → get bitfiles b ≡ Some r → slice_get r.chunks at ≡ Some c
    → PutsAll old b (to ∷ []) new → after ≡ adjust bitfiles b (with_chunk_at at to) → Queued old bitfiles → Queued new after
queued_moved old new bitfiles after b r at c to is there puts changed queued =
    let still = all_still old new bitfiles puts.kept queued in
    let here : AllQueued new b (put_at at to r.chunks) = λ d among.
    elim (among_set r.chunks at c to d there (subst (λ l. Contains l d) (put_is at to c r.chunks there) among)) [
      | inl same ↦ subst (λ e. IsTrue (is_queued new e.vsn.0 (spot_of b e))) same (puts.queued to (among_first to []))
      | inr other ↦ still b r is d other
    ] in
    subst (Queued new) (sym changed) (each-adjust-known numbers (λ b r. AllQueued new b r.chunks) bitfiles b (with_chunk_at at to) r is here still)

-- ---- the chunk at a spot

abbrev with_total : LiveChunk → ℕ → volumes.LiveChunk
with_total l n = record { bfid = l.bfid; total = n; chunk = l.chunk }

names_its : (vsn : List ℕ) (c : Chunk) → is_on vsn c ≡ true → c.vsn.0 ≡ vsn
names_its vsn c on = (bytes_decides c.vsn.0 vsn).0 on

module _ (bitfiles : ByNumber BitfileRow) (whole : EachRow bitfiles (λ b r. IsWhole r)) (vsn : List ℕ) where
  found_again : (b : ℕ) (r : BitfileRow) (c : Chunk) → get bitfiles b ≡ Some r → Contains r.chunks c → chunk_in c.offset (get bitfiles b) ≡ Some c
  found_again b r c is among = ap (chunk_in c.offset) is ∙ found_chunk r.chunks c (joins_ascend 0 r.chunks r.len (whole b r is).joins) among

  -- none lies there: no chunk of that bitfile begins at that offset
  pub gone_none : (spot : Spot) → chunk_in spot.offset (get bitfiles spot.bfid.0) ≡ None → EachSpotOn bitfiles vsn (λ s. s ≢ spot)
  gone_none spot none = λ b r is c among on e.
      let there : chunk_in spot.offset (get bitfiles spot.bfid.0) ≡ Some c = subst (λ s. chunk_in s.offset (get bitfiles s.bfid.0) ≡ Some c) e (found_again b r c is among) in
      absurd (cc)

  -- or it lies elsewhere
  pub gone_moved : (spot : Spot) (at : ℕ) (d : Chunk) → Finds (get bitfiles spot.bfid.0) spot.offset at d → is_on vsn d && nat_eq d.place spot.place ≡ false → EachSpotOn bitfiles vsn (λ s. s ≢ spot)
  gone_moved spot at d f elsewhere = λ b r is c among on e.
      let there : chunk_in spot.offset (get bitfiles spot.bfid.0) ≡ Some c = subst (λ s. chunk_in s.offset (get bitfiles s.bfid.0) ≡ Some c) e (found_again b r c is among) in
      let found : chunk_in spot.offset (get bitfiles spot.bfid.0) ≡ Some d = ap (chunk_in spot.offset) f.is ∙ f.first in
      let one : c ≡ d = cc in
      let place : c.place ≡ spot.place = ap (λ s. s.place) e in
      let here : is_on vsn d && nat_eq d.place spot.place ≡ true = λ i. subst (λ x. is_on vsn x ≡ true) one on i && eq-eqb d.place spot.place (ap (λ x. x.place) (sym one) ∙ place) i in
      absurd (cc)

  pub there_of : (spot : Spot) (at : ℕ) (d : Chunk) (r : BitfileRow) → Finds (get bitfiles spot.bfid.0) spot.offset at d → is_on vsn d && nat_eq d.place spot.place ≡ true → get bitfiles spot.bfid.0 ≡ Some r
      → IsThere bitfiles vsn spot (record { bfid = spot.bfid; total = r.len; chunk = d })
  there_of spot at d r f here is =
      let parts = and_parts (is_on vsn d) (nat_eq d.place spot.place) here in
      let found = chunk_found spot.offset f.bitfile.chunks d f.first in
      let same : r ≡ f.bitfile = cc in
      let place : spot.place ≡ d.place = sym (eqb-true d.place spot.place parts.1) in
      let offset : spot.offset ≡ d.offset = sym found.1 in
      record {
        bitfile = f.bitfile;
        is = f.is;
        total = ap (λ x. x.len) same;
        among = found.0;
        on = parts.0;
        spot = λ i. record { place = place i; bfid = spot.bfid; offset = offset i };
      }
    where
      and_parts : (a b : Bool) → a && b ≡ true → (a ≡ true) × (b ≡ true)
      and_parts true b e = (refl, e)
      and_parts false b e = absurd (cc)

  module _ (queues : ByName Queue) (queued : Queued queues bitfiles) where
    has_all : EachSpotOn bitfiles vsn (Contains (spots_on queues vsn))
    has_all = λ b r is c among on. among_of (spot_of b c) (spots_on queues vsn) (subst (λ v. IsTrue (is_queued queues v (spot_of b c))) (names_its vsn c on) (queued b r is c among))

    -- a chunk at the first spot is the one that a merge moves next
    pub merged_next : (spot : Spot) (l : LiveChunk) → IsFirst (spots_on queues vsn) spot → IsThere bitfiles vsn spot l → Some (live_of l) ≡ first_on bitfiles vsn
    merged_next spot l first there =
        let past = first_not_past bitfiles vsn (spots_on queues vsn) has_all spot first in
        let next = first_on_is bitfiles vsn l.bfid.0 there.bitfile l.chunk (λ b r is. joins_ascend 0 r.chunks r.len (whole b r is).joins) there.is there.among there.on (subst (λ s. EachSpotOn bitfiles vsn (λ t. IsNotPast s t)) there.spot past) in
        ap (λ n. Some (with_total l n)) there.total ∙ sym next

    -- where no spot is left, there is none
    pub merged_none : spots_on queues vsn ≡ [] → None ≡ first_on bitfiles vsn
    merged_none none = sym (first_on_none bitfiles vsn (none_queued bitfiles vsn (spots_on queues vsn) has_all none))

    -- the first spot goes, where no chunk lies at it
    pub queued_skipped : (new : ByName Queue) (spot : Spot) → IsFirst (spots_on queues vsn) spot → EachSpotOn bitfiles vsn (λ s. s ≢ spot) → Drops queues vsn new → Queued new bitfiles
    queued_skipped new spot first gone drops = λ b r is c among.
        queued_beside queues new vsn spot (spot_of b c) c.vsn.0 first drops (λ here same. gone b r is c among (on_its c vsn (sym here)) same) (queued b r is c among)

    -- all spots of a volume go, on which no chunk lies
    pub queued_cleared : (new : ByName Queue) → has_chunk_on bitfiles vsn ≡ false → Clears queues vsn new → Queued new bitfiles
    queued_cleared new none clears = λ b r is c among.
        elim (same_or paths vsn c.vsn.0) [
          | inl here ↦
              let has : list_any (is_on vsn) r.chunks ≡ true = one_passes r.chunks c among (on_its c vsn (sym here)) in
              let has_none : list_any (is_on vsn) r.chunks ≡ false = any-false numbers (λ b row. list_any (is_on vsn) row.chunks) bitfiles none b r is in
              absurd (cc)
          | inr differ ↦ subst (λ o. IsTrue (list_any (same_spot (spot_of b c)) (spots_in o))) (sym (clears.beside c.vsn.0 differ)) (queued b r is c among)
        ]
      where
        one_of_two : (a b : Bool) → b ≡ true → a || b ≡ true
        one_of_two true b e = refl
        one_of_two false b e = e

        one_passes : (cs : List Chunk) (c : Chunk) → Contains cs c → is_on vsn c ≡ true → list_any (is_on vsn) cs ≡ true
        one_passes [] c among on = absurd (among_none c among)
        one_passes (d ∷ cs) c among on =
            elim (among_cases c d cs among) [
              | inl same ↦ ap (λ t. t || list_any (is_on vsn) cs) (subst (λ x. is_on vsn x ≡ true) (sym same) on)
              | inr later ↦ one_of_two (is_on vsn d) (list_any (is_on vsn) cs) (one_passes cs c later on)
            ]

pub skipped_one : (old new : List Spot) (x : Spot) → IsFirst old x → length new ≡ length old - 1 → length new + 1 ≡ length old
skipped_one old new x first fewer = let k = first.among.1 in omega arith

pub none_left : (spots : List Spot) → length spots ≡ 0 → spots ≡ []
none_left [] none = refl
none_left (x ∷ xs) none = absurd (omega arith)

-- ---- places

pub places_skipped : (old new : ByName Queue) (vsn : List ℕ) → Drops old vsn new → UsesPlaces old [] new
places_skipped old new vsn drops = λ v.
    elim (same_or paths vsn v) [
      | inl same ↦ let p = subst (λ w. places_on old w ≤ places_on new w) (sym same) drops.places in omega arith
      | inr differ ↦ let p : places_on new v ≡ places_on old v = ap places_in (drops.beside v differ) in omega arith
    ]

pub places_cleared : (old new : ByName Queue) (vsn : List ℕ) → Clears old vsn new → UsesPlaces old [] new
places_cleared old new vsn clears = λ v.
    elim (same_or paths vsn v) [
      | inl same ↦ let p = subst (λ w. places_on old w ≤ places_on new w) (sym same) clears.places in omega arith
      | inr differ ↦ let p : places_on new v ≡ places_on old v = ap places_in (clears.beside v differ) in omega arith
    ]

pub places_put : (old new : ByName Queue) (b : ℕ) (cs : List Chunk) → PutsAll old b cs new → UsesPlaces old cs new
places_put old new b cs puts = λ v. let p = puts.places v in omega arith

pub places_same : (old new : ByName Queue) (cs : List Chunk) → new ≡ old → UsesPlaces old cs new
places_same old new cs same = λ v. let p : places_on new v ≡ places_on old v = ap (λ q. places_on q v) same in omega arith

pub places_then : (a b c : ByName Queue) → UsesPlaces a [] b → UsesPlaces b [] c → UsesPlaces a [] c
places_then a b c h g = λ v. let x = h v in let y = g v in omega arith

-- what was put in, by other names of the bitfile and its chunks
pub put_parts : (old new : ByName Queue) (b c : ℕ) (cs ds : List Chunk) → b ≡ c → cs ≡ ds → PutsAll old b cs new → PutsAll old c ds new
put_parts old new b c cs ds same alike puts = subst (λ n. PutsAll old n ds new) same (subst (λ l. PutsAll old b l new) alike puts)

-- a place that was promised is used
pub room_left : (promised spare after : ℕ) (there : Bool) → 0 < promised → promised ≤ spare → after + 1 ≡ cond there (spare + 1) spare → promised - 1 ≤ after
room_left promised spare after true some room is = omega arith
room_left promised spare after false some room is = omega arith

-- a place is left behind
pub room_more : (promised spare after : ℕ) (there : Bool) → promised ≤ spare → after ≡ cond there (spare + 1) spare → promised ≤ after
room_more promised spare after true room is = omega arith
room_more promised spare after false room is = omega arith
