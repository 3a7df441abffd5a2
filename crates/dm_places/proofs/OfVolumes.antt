-- The queues of volumes, as spots come and go and places are kept.
use Rattle.std.proofs.Common.{◌≡◌, ◌≢◌, ◌⊎◌, inl, inr, ℕ, zero, suc, ◌+◌, ◌-◌, ◌<◌, ◌≤◌, Bool, true, false, cond, ◌&&◌, ◌||◌, nat_eq, Option, None, Some, Result, Ok, Err, OnOk, OnErr, is_some, IsSome, IsTrue, List, [], ◌∷◌, ◌++◌, Contains, length, take, get_or, refl, sym, ap, subst, ◌∙◌, arith, eqb-true, eq-eqb}
use Rattle.std.specs.FinMap as map
use Rattle.std.specs.List.{list_any}
use Rattle.std.specs.List.Sorted.{IsPermutation}
use Rattle.std.proofs.lemmas.List.{take_all, take_more}
use Rattle.std.proofs.lemmas.List.Sorted.{Contains-permutation}
use Rattle.dm_base.specs.declared.volume.Chunk.{Chunk}
use Rattle.dm_durable.specs.Group.{is_on}
use Rattle.dm_durable.specs.Tables.{ByName}
use Rattle.dm_rows.specs.Places.{with_key}
use Rattle.dm_rows.proofs.Methods.{no_value}
use Rattle.dm_tables.proofs.Orders.{paths, same_or}
use Rattle.dm_tables.proofs.Rows.{get-here, get-beside, insert-remove, remove-none}
use Rattle.dm_places.specs.Chunks.{spot_of}
use Rattle.dm_places.specs.Order.{IsFirst}
use Rattle.dm_places.specs.Queue.{DropsSpot, Queue}
use Rattle.dm_places.specs.Queues.{AllQueued, Clears, Drops, HasPlaces, IsBeside, KeepsFewer, KeepsMore, KeepsQueued, Puts, PutsAll, count_in, is_queued, places_in, places_on, same_spot, spots_in, spots_on}
use Rattle.dm_places.specs.declared.spot.Spot.{Spot}
use Rattle.dm_places.proofs.Found.{among_cases, among_first, among_later, among_none}
use Rattle.dm_places.proofs.Order.{some_first}
use Rattle.dm_places.proofs.Texts.{not_on, on_its}

-- ---- whether a spot is queued

and_parts : (a b : Bool) → a && b ≡ true → (a ≡ true) × (b ≡ true)
and_parts true b e = (refl, e)
and_parts false b e = absurd (cc)

one_spot : (x y : Spot) → same_spot x y ≡ true → x ≡ y
one_spot x y e =
    let outer = and_parts (nat_eq x.place y.place) (nat_eq x.bfid.0 y.bfid.0 && nat_eq x.offset y.offset) e in
    let inner = and_parts (nat_eq x.bfid.0 y.bfid.0) (nat_eq x.offset y.offset) outer.1 in
    let place : x.place ≡ y.place = eqb-true x.place y.place outer.0 in
    let bfid : x.bfid.0 ≡ y.bfid.0 = eqb-true x.bfid.0 y.bfid.0 inner.0 in
    let offset : x.offset ≡ y.offset = eqb-true x.offset y.offset inner.1 in
    λ i. record { place = place i; bfid = record { 0 = bfid i }; offset = offset i }

spot_itself : (x : Spot) → same_spot x x ≡ true
spot_itself x =
    λ i. eq-eqb x.place x.place refl i && (eq-eqb x.bfid.0 x.bfid.0 refl i && eq-eqb x.offset x.offset refl i)

pub queued_of : (s : Spot) (xs : List Spot) → Contains xs s → IsTrue (list_any (same_spot s) xs)
queued_of s [] among = absurd (among_none s among)
queued_of s (x ∷ xs) among =
    elim (among_cases s x xs among) [
      | inl same ↦ ap (λ t. t || list_any (same_spot s) xs) (ap (same_spot s) same ∙ spot_itself s)
      | inr later ↦ either_way (same_spot s x) (list_any (same_spot s) xs) (queued_of s xs later)
    ]
  where
    either_way : (a b : Bool) → b ≡ true → a || b ≡ true
    either_way true b e = refl
    either_way false b e = e

pub among_of : (s : Spot) (xs : List Spot) → IsTrue (list_any (same_spot s) xs) → Contains xs s
among_of s [] e = absurd (cc)
among_of s (x ∷ xs) e =
    elim (same_spot s x) as (λ t. same_spot s x ≡ t → t || list_any (same_spot s) xs ≡ true → Contains (x ∷ xs) s) [
      | true ↦ λ same f. subst (λ y. Contains (x ∷ xs) y) (sym (one_spot s x same)) (among_first x xs)
      | false ↦ λ other f. among_later s x xs (among_of s xs f)
    ] refl e

-- ---- a queue that was taken out is put back, changed

pub key_of_row : {K V : Type 0} (k : K) (e : K × V) (found : Option V) → Some e ≡ with_key k found → e.0 ≡ k
key_of_row k e None is = absurd (cc)
key_of_row k e (Some v) is = let same : e ≡ (k, v) = cc in ap (λ a. a.0) same

-- the row of a table, under its key again
pub again : (old m new : ByName Queue) (vsn key : List ℕ) (q : Queue) → m ≡ map.remove old vsn → key ≡ vsn → new ≡ map.insert m key q → new ≡ map.insert (map.remove old vsn) vsn q
again old m new vsn key q taken is put = put ∙ (λ i. map.insert (taken i) (is i) q)

pub left_alone : (old m : ByName Queue) (vsn : List ℕ) → None ≡ with_key vsn (map.get old vsn) → m ≡ map.remove old vsn → (map.get old vsn ≡ None) × (m ≡ old)
left_alone old m vsn none taken =
    let is : map.get old vsn ≡ None = sym (no_value vsn (map.get old vsn) none) in
    (is, taken ∙ remove-none paths old vsn is)

module _ (old new : ByName Queue) (vsn : List ℕ) (q : Queue) (put : new ≡ map.insert (map.remove old vsn) vsn q) where
  pub here_again : map.get new vsn ≡ Some q
  here_again = ap (λ m. map.get m vsn) (put ∙ insert-remove paths old vsn q) ∙ get-here paths old vsn q

  pub beside_again : IsBeside old vsn new
  beside_again = λ v differ. ap (λ m. map.get m v) (put ∙ insert-remove paths old vsn q) ∙ get-beside paths old vsn q v differ

  pub puts_of : (s : Spot) (before : Queue) → map.get old vsn ≡ Some before → IsPermutation (s ∷ before.spots) q.spots → q.spare + 1 ≡ before.spare → Puts old vsn s new
  puts_of s before was moved fewer = record {
    spots =
        subst (λ o. IsPermutation (s ∷ spots_in o) (spots_on new vsn)) (sym was)
        (subst (λ o. IsPermutation (s ∷ before.spots) (spots_in o)) (sym here_again) moved);
    places = ap (λ o. places_in o + 1) here_again ∙ fewer ∙ sym (ap places_in was);
    beside = beside_again;
  }

  pub drops_of : (before : Queue) → map.get old vsn ≡ Some before → ((x : Spot) → IsFirst before.spots x → DropsSpot before x q) → length q.spots ≡ length before.spots - 1
      → q.spare + length q.spots ≡ before.spare + length before.spots → Drops old vsn new
  drops_of before was dropped fewer all = record {
    spots = λ x first.
        subst (λ o. IsPermutation (spots_in o) (x ∷ spots_on new vsn)) (sym was)
        (subst (λ o. IsPermutation before.spots (x ∷ spots_in o)) (sym here_again) (dropped x (subst (λ o. IsFirst (spots_in o) x) was first)).spots);
    len = ap (λ o. length (spots_in o)) here_again ∙ fewer ∙ sym (ap (λ o. length (spots_in o) - 1) was);
    places =
        subst (λ o. places_in o ≤ places_on new vsn) (sym was) (subst (λ o. before.spare ≤ places_in o) (sym here_again) (let e : before.spare ≤ q.spare = omega arith in e));
    beside = beside_again;
  }

  pub clears_of : (before : Queue) → map.get old vsn ≡ Some before → q.spots ≡ [] → q.spare ≡ before.spare + length before.spots → Clears old vsn new
  clears_of before was none all = record {
    spots = ap spots_in here_again ∙ none;
    places =
        subst (λ o. places_in o ≤ places_on new vsn) (sym was) (subst (λ o. before.spare ≤ places_in o) (sym here_again) (let e : before.spare ≤ q.spare = omega arith in e));
    beside = beside_again;
  }

  -- the places of one volume are others
  other_places : (f : List ℕ → ℕ → ℕ) → ((v : List ℕ) (n : ℕ) → v ≢ vsn → f v n ≡ n) → (before : Queue) → map.get old vsn ≡ Some before → q.spare ≡ f vsn before.spare
      → (v : List ℕ) → places_on new v ≡ f v (places_on old v)
  other_places f off before was is v =
      elim (same_or paths vsn v) [
        | inl same ↦ ap (places_on new) same ∙ ap places_in here_again ∙ is ∙ sym (ap (λ w. f w (places_on old w)) same ∙ ap (λ o. f vsn (places_in o)) was)
        | inr differ ↦ ap places_in (beside_again v differ) ∙ sym (off v (places_on old v) differ)
      ]

  same_spots : (before : Queue) → map.get old vsn ≡ Some before → q.spots ≡ before.spots → (v : List ℕ) → spots_on new v ≡ spots_on old v
  same_spots before was is v =
      elim (same_or paths vsn v) [
        | inl same ↦ ap (spots_on new) same ∙ ap spots_in here_again ∙ is ∙ sym (ap (spots_on old) same ∙ ap spots_in was)
        | inr differ ↦ ap spots_in (beside_again v differ)
      ]

pub drops_none : (old new : ByName Queue) (vsn : List ℕ) → map.get old vsn ≡ None → new ≡ old → Drops old vsn new
drops_none old new vsn none same = subst (Drops old vsn) (sym same) record {
  spots = λ x first. absurd (some_first (spots_on old vsn) x first (ap spots_in none));
  len = ap (λ o. length (spots_in o)) none ∙ sym (ap (λ o. length (spots_in o) - 1) none);
  places = omega arith;
  beside = λ v differ. refl;
}

pub clears_none : (old new : ByName Queue) (vsn : List ℕ) → map.get old vsn ≡ None → new ≡ old → Clears old vsn new
clears_none old new vsn none same = subst (Clears old vsn) (sym same) record { spots = ap spots_in none; places = omega arith; beside = λ v differ. refl }

-- ---- how many chunks are on a volume

abbrev one_on : List ℕ → Chunk → ℕ
one_on vsn c = cond (is_on vsn c) 1 0

count_one : (vsn : List ℕ) (c : Chunk) (rest : ℕ) → cond (is_on vsn c) (1 + rest) rest ≡ one_on vsn c + rest
count_one vsn c rest = elim (is_on vsn c) as (λ t. cond t (1 + rest) rest ≡ cond t 1 0 + rest) [ true ↦ omega arith | false ↦ omega arith ]

count_more : (vsn : List ℕ) (cs : List Chunk) (c : Chunk) → count_in vsn (cs ++ c ∷ []) ≡ count_in vsn cs + one_on vsn c
count_more vsn [] c = let e = count_one vsn c 0 in omega arith
count_more vsn (d ∷ cs) c =
    let rest = count_more vsn cs c in
    let whole = count_one vsn d (count_in vsn (cs ++ c ∷ [])) in
    let part = count_one vsn d (count_in vsn cs) in
    omega arith

count_front : (vsn : List ℕ) (n : ℕ) (cs : List Chunk) → count_in vsn (take n cs) ≤ count_in vsn cs
count_front vsn zero cs = omega arith
count_front vsn (suc n) [] = omega arith
count_front vsn (suc n) (c ∷ cs) =
    let rest = count_front vsn n cs in
    let whole = count_one vsn c (count_in vsn cs) in
    let part = count_one vsn c (count_in vsn (take n cs)) in
    omega arith

one_here : (c : Chunk) → one_on c.vsn.0 c ≡ 1
one_here c = ap (λ t. cond t 1 0) (on_its c c.vsn.0 refl)

one_beside : (c : Chunk) (vsn : List ℕ) → vsn ≢ c.vsn.0 → one_on vsn c ≡ 0
one_beside c vsn differ = ap (λ t. cond t 1 0) (not_on c vsn differ)

-- the chunks up to one more
one_further : (chunks : List Chunk) (i : ℕ) (c : Chunk) → i < length chunks → c ≡ get_or chunks i c → take (i + 1) chunks ≡ take i chunks ++ c ∷ []
one_further chunks i c small is = take_more chunks i c small ∙ ap (λ d. take i chunks ++ d ∷ []) (sym is)

-- ---- spots are put in

queued_put : (old new : ByName Queue) (vsn : List ℕ) (s : Spot) → Puts old vsn s new → IsTrue (is_queued new vsn s)
queued_put old new vsn s puts =
    queued_of s (spots_on new vsn) (Contains-permutation (s ∷ spots_on old vsn) (spots_on new vsn) s puts.spots (among_first s (spots_on old vsn)))

kept_put : (old new : ByName Queue) (vsn : List ℕ) (s : Spot) → Puts old vsn s new → KeepsQueued old new
kept_put old new vsn s puts v x queued =
    elim (same_or paths vsn v) [
      | inl same ↦
          let there : Contains (spots_on old vsn) x = subst (λ w. Contains (spots_on old w) x) same (among_of x (spots_on old v) queued) in
          subst (λ w. IsTrue (is_queued new w x)) (sym same)
          (queued_of x (spots_on new vsn) (Contains-permutation (s ∷ spots_on old vsn) (spots_on new vsn) x puts.spots (among_later x s (spots_on old vsn) there)))
      | inr differ ↦ subst (λ o. IsTrue (list_any (same_spot x) (spots_in o))) (sym (puts.beside v differ)) queued
    ]

pub still_queued : (old new : ByName Queue) (b : ℕ) (cs : List Chunk) → KeepsQueued old new → AllQueued old b cs → AllQueued new b cs
still_queued old new b cs keeps all = λ c among. keeps c.vsn.0 (spot_of b c) (all c among)

among_last : {X : Type 0} (xs : List X) (x y : X) → Contains (xs ++ x ∷ []) y → Contains xs y ⊎ (x ≡ y)
among_last [] x y among = elim (among_cases y x [] among) [ inl same ↦ inr same | inr later ↦ absurd (among_none y later) ]
among_last (z ∷ xs) x y among =
    elim (among_cases y z (xs ++ x ∷ []) among) [
      | inl same ↦ inl (subst (λ w. Contains (z ∷ xs) w) same (among_first z xs))
      | inr later ↦ elim (among_last xs x y later) [ inl there ↦ inl (among_later y z xs there) | inr last ↦ inr last ]
    ]

queued_more : (queues : ByName Queue) (b : ℕ) (cs : List Chunk) (c : Chunk) → AllQueued queues b cs → IsTrue (is_queued queues c.vsn.0 (spot_of b c)) → AllQueued queues b (cs ++ c ∷ [])
queued_more queues b cs c all here = λ d among.
    elim (among_last cs c d among) [
      | inl there ↦ all d there
      | inr last ↦ subst (λ e. IsTrue (is_queued queues e.vsn.0 (spot_of b e))) last here
    ]

pub puts_nothing : (queues : ByName Queue) (b : ℕ) → PutsAll queues b [] queues
puts_nothing queues b = record { queued = λ c among. absurd (among_none c among); kept = λ v s queued. queued; places = λ v. omega arith }

puts_more : (old m new : ByName Queue) (b : ℕ) (cs : List Chunk) (c : Chunk) → PutsAll old b cs m → Puts m c.vsn.0 (spot_of b c) new → PutsAll old b (cs ++ c ∷ []) new
puts_more old m new b cs c all puts = record {
  queued = queued_more new b cs c (still_queued m new b cs (kept_put m new c.vsn.0 (spot_of b c) puts) all.queued) (queued_put m new c.vsn.0 (spot_of b c) puts);
  kept = λ v s queued. kept_put m new c.vsn.0 (spot_of b c) puts v s (all.kept v s queued);
  places = λ v.
      let before = all.places v in
      let many = count_more v cs c in
      elim (same_or paths c.vsn.0 v) [
        | inl same ↦
            let one : one_on v c ≡ 1 = ap (λ w. one_on w c) same ∙ one_here c in
            let here : places_on new v + 1 ≡ places_on m v = subst (λ w. places_on new w + 1 ≡ places_on m w) (sym same) puts.places in
            omega arith
        | inr differ ↦
            let none : one_on v c ≡ 0 = one_beside c v differ in
            let here : places_on new v ≡ places_on m v = ap places_in (puts.beside v differ) in
            omega arith
      ];
}

module _ (chunks : List Chunk) (i : ℕ) (c : Chunk) (small : i < length chunks) (is : c ≡ get_or chunks i c) where
  pub puts_on : (old m new : ByName Queue) (b : ℕ) (s : Spot) → s ≡ spot_of b c → PutsAll old b (take i chunks) m → Puts m c.vsn.0 s new → PutsAll old b (take (i + 1) chunks) new
  puts_on old m new b s its all puts =
      subst (λ l. PutsAll old b l new) (sym (one_further chunks i c small is)) (puts_more old m new b (take i chunks) c all (subst (λ x. Puts m c.vsn.0 x new) its puts))

  -- there is a place for the next
  pub place_next : (old m : ByName Queue) (b : ℕ) → HasPlaces old chunks → PutsAll old b (take i chunks) m → 0 < places_on m c.vsn.0
  place_next old m b room all =
      let enough = room c.vsn.0 in
      let left = all.places c.vsn.0 in
      let front : count_in c.vsn.0 (take i chunks ++ c ∷ []) ≤ count_in c.vsn.0 chunks = subst (λ l. count_in c.vsn.0 l ≤ count_in c.vsn.0 chunks) (one_further chunks i c small is) (count_front c.vsn.0 (i + 1) chunks) in
      let many = count_more c.vsn.0 (take i chunks) c in
      let one = one_here c in
      omega arith

pub puts_end : (chunks : List Chunk) (i : ℕ) (old new : ByName Queue) (b : ℕ) → length chunks ≤ i → PutsAll old b (take i chunks) new → PutsAll old b chunks new
puts_end chunks i old new b past all = subst (λ l. PutsAll old b l new) (take_all i chunks past) all

-- ---- places are kept, and given back

pub keeps_nothing : (queues : ByName Queue) → KeepsMore queues [] queues
keeps_nothing queues = record { spots = λ v. refl; places = λ v. omega arith }

pub fewer_nothing : (queues : ByName Queue) → KeepsFewer queues [] queues
fewer_nothing queues = record { spots = λ v. refl; places = λ v. omega arith }

pub keeps_then : (old m new : ByName Queue) (cs : List Chunk) → KeepsMore old cs m → KeepsMore m [] new → KeepsMore old cs new
keeps_then old m new cs all same = record {
  spots = λ v. same.spots v ∙ all.spots v;
  places = λ v. let a = all.places v in let s = same.places v in omega arith;
}

-- what was kept is given back
pub kept_back : (old m new : ByName Queue) (cs : List Chunk) → KeepsMore old cs m → KeepsFewer m cs new → KeepsMore old [] new
kept_back old m new cs more fewer = record {
  spots = λ v. fewer.spots v ∙ more.spots v;
  places = λ v. let a = more.places v in let s = fewer.places v in omega arith;
}

module _ (chunks : List Chunk) (i : ℕ) (c : Chunk) (small : i < length chunks) (is : c ≡ get_or chunks i c) (old m new : ByName Queue) where
  pub keeps_on : KeepsMore old (take i chunks) m → KeepsMore m (c ∷ []) new → KeepsMore old (take (i + 1) chunks) new
  keeps_on all one = record {
    spots = λ v. one.spots v ∙ all.spots v;
    places = λ v.
        let a = all.places v in
        let s = one.places v in
        let first = count_one v c 0 in
        let many : count_in v (take (i + 1) chunks) ≡ count_in v (take i chunks) + one_on v c = ap (count_in v) (one_further chunks i c small is) ∙ count_more v (take i chunks) c in
        omega arith;
  }

  pub fewer_on : KeepsFewer old (take i chunks) m → KeepsFewer m (c ∷ []) new → KeepsFewer old (take (i + 1) chunks) new
  fewer_on all one = record {
    spots = λ v. one.spots v ∙ all.spots v;
    places = λ v.
        let a = all.places v in
        let s = one.places v in
        let first = count_one v c 0 in
        let many : count_in v (take (i + 1) chunks) ≡ count_in v (take i chunks) + one_on v c = ap (count_in v) (one_further chunks i c small is) ∙ count_more v (take i chunks) c in
        omega arith;
  }

pub keeps_end : (chunks : List Chunk) (i : ℕ) (old new : ByName Queue) → length chunks ≤ i → KeepsMore old (take i chunks) new → KeepsMore old chunks new
keeps_end chunks i old new past all = subst (λ l. KeepsMore old l new) (take_all i chunks past) all

pub fewer_end : (chunks : List Chunk) (i : ℕ) (old new : ByName Queue) → length chunks ≤ i → KeepsFewer old (take i chunks) new → KeepsFewer old chunks new
fewer_end chunks i old new past all = subst (λ l. KeepsFewer old l new) (take_all i chunks past) all

-- ---- one volume's places

-- a place more for a chunk, where its volume has a row
pub keeps_one : (old m new : ByName Queue) (c : Chunk) (before after : Queue) → KeepsMore old [] m → map.get m c.vsn.0 ≡ Some before
    → new ≡ map.insert (map.remove m c.vsn.0) c.vsn.0 after → after.spots ≡ before.spots → after.spare ≡ before.spare + 1 → KeepsMore old (c ∷ []) new
keeps_one old m new c before after none was put same more = record {
  spots = λ v. same_spots m new c.vsn.0 after put before was same v ∙ none.spots v;
  places = λ v.
      other_places m new c.vsn.0 after put (λ w n. n + count_in w (c ∷ [])) (λ w n differ. let z = one_beside c w differ in let e = count_one w c 0 in omega arith) before was
      (let o = one_here c in let e = count_one c.vsn.0 c 0 in omega arith) v
      ∙ (let z = none.places v in omega arith);
}

-- as many as before
pub keeps_same : (old m new : ByName Queue) (vsn : List ℕ) (before after : Queue) → KeepsMore old [] m → map.get m vsn ≡ Some before
    → new ≡ map.insert (map.remove m vsn) vsn after → after.spots ≡ before.spots → after.spare ≡ before.spare → KeepsMore old [] new
keeps_same old m new vsn before after none was put same as_many = record {
  spots = λ v. same_spots m new vsn after put before was same v ∙ none.spots v;
  places = λ v. other_places m new vsn after put (λ w n. n) (λ w n differ. refl) before was as_many v ∙ none.places v;
}

-- a place fewer
pub fewer_one : (old new : ByName Queue) (c : Chunk) (before after : Queue) → map.get old c.vsn.0 ≡ Some before
    → new ≡ map.insert (map.remove old c.vsn.0) c.vsn.0 after → after.spots ≡ before.spots → after.spare ≡ before.spare - 1 → KeepsFewer old (c ∷ []) new
fewer_one old new c before after was put same fewer = record {
  spots = same_spots old new c.vsn.0 after put before was same;
  places =
      other_places old new c.vsn.0 after put (λ w n. n - count_in w (c ∷ [])) (λ w n differ. let z = one_beside c w differ in let e = count_one w c 0 in omega arith) before was
      (let o = one_here c in let e = count_one c.vsn.0 c 0 in omega arith);
}

pub fewer_none : (old new : ByName Queue) (c : Chunk) → map.get old c.vsn.0 ≡ None → new ≡ old → KeepsFewer old (c ∷ []) new
fewer_none old new c none same = subst (KeepsFewer old (c ∷ [])) (sym same) record {
  spots = λ v. refl;
  places = λ v.
      elim (same_or paths c.vsn.0 v) [
        | inl at ↦ let z : places_on old v ≡ 0 = ap (places_on old) at ∙ ap places_in none in omega arith
        | inr differ ↦ let z = one_beside c v differ in let e = count_one v c 0 in omega arith
      ];
}

-- a volume gets a row that has nothing
pub keeps_new : (old new : ByName Queue) (vsn : List ℕ) (q : Queue) → false ≡ is_some (map.get old vsn) → q.spots ≡ [] → q.spare ≡ 0 → new ≡ map.insert old vsn q → KeepsMore old [] new
keeps_new old new vsn q unknown no_spot no_place put = subst (KeepsMore old []) (sym put) record {
  spots = λ v.
      elim (same_or paths vsn v) [
        | inl same ↦ ap (λ w. spots_on (map.insert old vsn q) w) same ∙ ap spots_in (get-here paths old vsn q) ∙ no_spot ∙ sym (ap (spots_on old) same ∙ ap spots_in (none_of (map.get old vsn) unknown))
        | inr differ ↦ ap spots_in (get-beside paths old vsn q v differ)
      ];
  places = λ v.
      elim (same_or paths vsn v) [
        | inl same ↦
            let here : places_on (map.insert old vsn q) v ≡ 0 = ap (λ w. places_on (map.insert old vsn q) w) same ∙ ap places_in (get-here paths old vsn q) ∙ no_place in
            let was : places_on old v ≡ 0 = ap (places_on old) same ∙ ap places_in (none_of (map.get old vsn) unknown) in
            omega arith
        | inr differ ↦ let e : places_on (map.insert old vsn q) v ≡ places_on old v = ap places_in (get-beside paths old vsn q v differ) in omega arith
      ];
}
  where
    none_of : {X : Type 0} (o : Option X) → false ≡ is_some o → o ≡ None
    none_of None e = refl
    none_of (Some x) e = cc

-- ---- a spot that is that of no chunk any more goes

pub queued_beside : (old new : ByName Queue) (vsn : List ℕ) (x s : Spot) (v : List ℕ) → IsFirst (spots_on old vsn) x → Drops old vsn new → (v ≡ vsn → s ≡ x → ⊥)
    → IsTrue (is_queued old v s) → IsTrue (is_queued new v s)
queued_beside old new vsn x s v first drops other queued =
    elim (same_or paths vsn v) [
      | inl same ↦
          let there : Contains (spots_on old vsn) s = subst (λ w. Contains (spots_on old w) s) same (among_of s (spots_on old v) queued) in
          elim (among_cases s x (spots_on new vsn) (Contains-permutation (spots_on old vsn) (x ∷ spots_on new vsn) s (drops.spots x first) there)) [
            | inl is ↦ absurd (other same (sym is))
            | inr left ↦ subst (λ w. IsTrue (is_queued new w s)) (sym same) (queued_of s (spots_on new vsn) left)
          ]
      | inr differ ↦ subst (λ o. IsTrue (list_any (same_spot s) (spots_in o))) (sym (drops.beside v differ)) queued
    ]

pub known_new : (old new : ByName Queue) (vsn : List ℕ) (q : Queue) → new ≡ map.insert old vsn q → IsSome (map.get new vsn)
known_new old new vsn q put = subst (λ m. IsSome (map.get m vsn)) (sym put) (subst IsSome (sym (get-here paths old vsn q)) refl)

-- ---- results, and items that were read

pub on_ok : {X Y : Type 0} {A B : Type 0} (r : Result X Y) → (A → B) → OnOk r A → OnOk r B
on_ok (Ok x) f a = f a
on_ok (Err e) f a = tt

pub on_err : {X Y : Type 0} {A B : Type 0} (r : Result X Y) → (A → B) → OnErr r A → OnErr r B
on_err (Ok x) f a = tt
on_err (Err e) f a = f a

pub read_again : {A : Type 0} (l : List A) (i : ℕ) (y : A) → i < length l → get_or l i y ≡ get_or l i (get_or l i y)
read_again [] i y small = absurd (omega arith)
read_again (x ∷ l) zero y small = refl
read_again (x ∷ l) (suc i) y small = read_again l i y (omega arith)
