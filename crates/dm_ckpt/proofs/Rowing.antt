-- Reading rows and payloads, one at a time.
use Rattle.std.proofs.Common.{◌≡◌, inl, inr, ⊎_elim, ℕ, ◌+◌, ◌-◌, ◌<◌, ◌≤◌, List, [], ◌∷◌, ◌++◌, length, take, drop, Option, Some, None, Result, Ok, IsSome, Bool, true, false, nat_lt, refl, sym, ◌∙◌, ap, subst, arith, length-append}
use Rattle.std.specs.Prelude.{if◌then◌else◌}
use Rattle.std.specs.Borrow.{Bor}
use Rattle.dm_base.specs.declared.error.LoadError.{LoadError}
use Rattle.std.proofs.lemmas.Bool.{lt-ltb, le-ltb, cases_lt}
use Rattle.std.proofs.lemmas.Grind.{flat_map-append}
use Rattle.std.proofs.lemmas.List.{append-nil, append_assoc, append_cancel_left, drop_at, drop-drop, take_at}
use Rattle.std.specs.Int.{w32, to_be_bytes}
use Rattle.std.specs.List.{AllByRecursion}
use Rattle.dm_host.specs.Disk.{Disk, part, Tells}
use Rattle.dm_host.proofs.Outside.{part-within}
use Rattle.dm_journal.specs.Grammar.{Fits, inner, frames}
use Rattle.dm_journal.specs.Load.{LoadAt as JournalAt, Reading as LogReading, IsDamage, loading_at, Advances}
use Rattle.dm_journal.proofs.Measuring.{same_number}
use Rattle.dm_journal.proofs.Frames.{frames_push}
use Rattle.dm_journal.proofs.Unique.{rests_undamaged}
use Rattle.dm_ckpt.proofs.Told.{was_told}
use Rattle.dm_ckpt.specs.declared.files.Index.{Index}
use Rattle.dm_ckpt.specs.Area.{body, HoldsRows}
use Rattle.dm_ckpt.specs.Files.{area_file, log_file, opposite, Mine, Unchanged}
use Rattle.dm_ckpt.specs.State.{InUseIf, IsBehind, Keeps}
use Rattle.dm_ckpt.specs.Load.{LoadAt, Reading, RowsAt, FirstRow, Steps, Finds, Gives, moved, behind_row, behind_payload, ready_at, IsDamagedLog, LoadStands, StepStands}
use Rattle.dm_ckpt.specs.Survey.{RowAt}
use Rattle.dm_ckpt.proofs.Choosing.{in_use_if}
use Rattle.dm_ckpt.proofs.Four.{area_mine, log_mine}
use Rattle.dm_ckpt.proofs.Gates.{length-holds}
use Rattle.dm_ckpt.proofs.Headers.{behind_header}
use Rattle.dm_ckpt.proofs.Settling.{unchanged_told}

if_lt : {X : Type 0} (a b : X) (m n : ℕ) → m < n → (if nat_lt m n then a else b) ≡ a
if_lt a b m n less = ap (λ (t : Bool). if t then a else b) (lt-ltb m n less)

if_not_lt : {X : Type 0} (a b : X) (m n : ℕ) → n ≤ m → (if nat_lt m n then a else b) ≡ b
if_not_lt a b m n past = ap (λ (t : Bool). if t then a else b) (le-ltb m n past)

pub moved_row : (l : LoadAt) (n : ℕ) → l.row < l.row_end → moved l n ≡ behind_row l n
moved_row l n less = if_lt (behind_row l n) (behind_payload l n) l.row l.row_end less

pub moved_payload : (l : LoadAt) (n : ℕ) → l.row_end ≤ l.row → moved l n ≡ behind_payload l n
moved_payload l n past = if_not_lt (behind_row l n) (behind_payload l n) l.row l.row_end past

body_append : (rows more : List (List ℕ)) → body (rows ++ more) ≡ body rows ++ body more
body_append rows more = flat_map-append inner rows more

all_split : (rows more : List (List ℕ)) → AllByRecursion Fits (rows ++ more) → AllByRecursion Fits more
all_split [] more all = all
all_split (row ∷ rows) more all = all_split rows more all.1

long_row : (rows : List (List ℕ)) → 0 < length (body rows) → (rows ≡ [] → ⊥)
long_row rows some none = absurd (omega (arith, some, ap (λ (l : List (List ℕ)). length (body l)) none))

no_row : (rows : List (List ℕ)) → length (body rows) ≡ 0 → rows ≡ []
no_row [] none = refl
no_row (row ∷ rows) none = absurd (omega (arith, none, length-append (inner row) (body rows)))

-- the area in use holds rows, where there are any
holds_some : (b : Bool) (i : Index) (g : ℕ) (rows : List (List ℕ)) (area : List ℕ) → InUseIf b i g rows area → (rows ≡ [] → ⊥) → HoldsRows g rows area
holds_some true i g rows area u some = u
holds_some false i g rows area u some = absurd (some u.1.1.1)

append_none : (rows more : List (List ℕ)) → rows ++ more ≡ [] → more ≡ []
append_none [] more none = none
append_none (row ∷ rows) more none = absurd (cc (none))

module _ (d : Disk) (l : LoadAt) (ps : List (List ℕ)) (r : Reading d l ps) (less : l.row < l.row_end) where
  some_left : r.rows_left ≡ [] → ⊥
  some_left none = absurd (omega (arith, less, r.at_row_end, ap (λ (rows : List (List ℕ)). length (body rows)) none))

  pub none_logged : r.logged ≡ []
  none_logged = ⊎_elim (λ none. absurd (some_left none)) (λ none. none) r.turn

  pub area_holds : HoldsRows l.generation (r.rows ++ r.rows_left) (d.seen (area_file l.component l.index))
  area_holds = holds_some l.has_area l.index l.generation (r.rows ++ r.rows_left) _ r.in_use (λ none. some_left (append_none r.rows r.rows_left none))

  -- what stands where the next row is read
  pub rows_there : RowsAt r.rows_left area_holds.junk l.row l.row_end (d.seen (area_file l.component l.index))
  rows_there =
      let file = d.seen (area_file l.component l.index) in
      let all = area_holds in
      let sizes : length (body (r.rows ++ r.rows_left)) ≡ length (body r.rows) + length (body r.rows_left) =
      ap (λ (b : List ℕ). length b) (body_append r.rows r.rows_left) ∙ length-append (body r.rows) (body r.rows_left) in
      let split : drop 17 file ≡ body r.rows ++ (body r.rows_left ++ all.junk) =
      behind_header l.generation (r.rows ++ r.rows_left) file all ∙ ap (λ (b : List ℕ). b ++ all.junk) (body_append r.rows r.rows_left)
      ∙ append_assoc (body r.rows) (body r.rows_left) all.junk in
      record {
        fits = all_split r.rows r.rows_left all.fits;
        size = r.at_row_end;
        within = omega (arith, r.at_row, r.at_row_end, sizes, length-holds l.generation (r.rows ++ r.rows_left) file all);
        is =
            ap (λ (n : ℕ). drop n file) r.at_row ∙ sym (drop-drop (length (body r.rows)) 17 file) ∙ ap (λ (b : List ℕ). drop (length (body r.rows)) b) split
            ∙ drop_at (body r.rows) (body r.rows_left ++ all.junk) (length (body r.rows)) refl;
      }

-- nothing changed
abbrev pub reading_still : (a b : Disk) (l : LoadAt) (ps : List (List ℕ)) → Unchanged l.component a b → Reading a l ps → Reading b l ps
reading_still a b l ps u r = record {
  told = unchanged_told l.component a b u r.told;
  rows = r.rows;
  rows_left = r.rows_left;
  logged = r.logged;
  is = r.is;
  turn = r.turn;
  in_use = subst (λ (x : List ℕ). InUseIf l.has_area l.index l.generation (r.rows ++ r.rows_left) x) (sym (u.seen (area_file l.component l.index) (area_mine l.component l.index))) r.in_use;
  synced = λ x left. r.synced x (u.left (area_file l.component l.index) x (area_mine l.component l.index) left) ∙ sym (u.seen (area_file l.component l.index) (area_mine l.component l.index));
  at_row = r.at_row;
  at_row_end = r.at_row_end;
  behind = subst (λ (x : List ℕ). IsBehind l.generation x) (sym (u.seen (area_file l.component (opposite l.index)) (area_mine l.component (opposite l.index)))) r.behind;
  behind_synced = λ x left. r.behind_synced x (u.left (area_file l.component (opposite l.index)) x (area_mine l.component (opposite l.index)) left) ∙ sym (u.seen (area_file l.component (opposite l.index)) (area_mine l.component (opposite l.index)));
  log = record {
    told = unchanged_told l.component a b u r.told (log_file l.component l.index) (log_mine l.component l.index);
    place = r.log.place;
    fits = r.log.fits;
    gate = r.log.gate;
    rest = r.log.rest;
    is = u.seen (log_file l.component l.index) (log_mine l.component l.index) ∙ r.log.is;
    end = r.log.end ∙ ap (λ (x : List ℕ). length x) (sym (u.seen (log_file l.component l.index) (log_mine l.component l.index)));
    synced = λ x left. r.log.synced x (u.left (log_file l.component l.index) x (log_mine l.component l.index) left) ∙ sym (u.seen (log_file l.component l.index) (log_mine l.component l.index));
  };
}

-- one row more was read
pub row_read : (d : Disk) (l : LoadAt) (ps : List (List ℕ)) (r : Reading d l ps) → l.row < l.row_end → (items : List ℕ) (found : Option ℕ) → FirstRow r.rows_left items found
    → Steps d l ps items found
row_read d l ps r less items found first = go r.rows_left refl first
  where
    go : (left : List (List ℕ)) → r.rows_left ≡ left → FirstRow left items found → Steps d l ps items found
    go [] is none = absurd none
    go (row ∷ rows) is one =
        let there = rows_there d l ps r less in
        let fits : Fits row = (subst (λ (x : List (List ℕ)). AllByRecursion Fits x) is there.fits).0 in
        let whole : (r.rows ++ row ∷ []) ++ rows ≡ r.rows ++ r.rows_left = append_assoc r.rows (row ∷ []) rows ∙ ap (λ (x : List (List ℕ)). r.rows ++ x) (sym is) in
        let long : length (inner row) ≡ 4 + length row = omega arith in
        let size : length (body r.rows_left) ≡ 4 + length row + length (body rows) =
        ap (λ (x : List (List ℕ)). length (body x)) is ∙ length-append (inner row) (body rows) ∙ omega (arith, long) in
        let sum : length (body (r.rows ++ row ∷ [])) ≡ length (body r.rows) + (4 + length row) =
        ap (λ (b : List ℕ). length b) (body_append r.rows (row ∷ [])) ∙ length-append (body r.rows) (body (row ∷ [])) ∙ omega (arith, ap (λ (b : List ℕ). length b) (append-nil (inner row))) in
        let next : Reading d (behind_row l (length row)) (ps ++ row ∷ []) = record {
          told = r.told;
          rows = r.rows ++ row ∷ [];
          rows_left = rows;
          logged = [];
          is = ap (λ (x : List (List ℕ)). x ++ row ∷ []) (r.is ∙ ap (λ (x : List (List ℕ)). r.rows ++ x) (none_logged d l ps r less) ∙ append-nil r.rows) ∙ sym (append-nil (r.rows ++ row ∷ []));
          turn = inr refl;
          in_use = subst (λ (x : List (List ℕ)). InUseIf l.has_area l.index l.generation x (d.seen (area_file l.component l.index))) (sym whole) r.in_use;
          synced = r.synced;
          at_row = omega (arith, r.at_row, sum);
          at_row_end = omega (arith, r.at_row_end, size);
          behind = r.behind;
          behind_synced = r.behind_synced;
          log = subst (λ (x : List (List ℕ)). LogReading d (loading_at (log_file l.component l.index) l.place 0 l.log_end) x) (none_logged d l ps r less) r.log;
        } in
        subst (λ (o : Option ℕ). Steps d l ps items o) (sym one.0)
        (subst (λ (x : List ℕ). Steps d l ps x (Some (length row))) (sym one.1)
        (fits, refl, subst (λ (x : LoadAt). Reading d x (ps ++ row ∷ [])) (sym (moved_row l (length row) less)) next))

-- all rows were read: the next payload is the log's
module _ (d : Disk) (l : LoadAt) (ps : List (List ℕ)) (r : Reading d l ps) (past : l.row_end ≤ l.row) where
  pub none_left : r.rows_left ≡ []
  none_left = no_row r.rows_left (omega (arith, past, r.at_row_end))

  all_rows : InUseIf l.has_area l.index l.generation r.rows (d.seen (area_file l.component l.index))
  all_rows = subst (λ (x : List (List ℕ)). InUseIf l.has_area l.index l.generation x (d.seen (area_file l.component l.index)))
      (ap (λ (x : List (List ℕ)). r.rows ++ x) none_left ∙ append-nil r.rows) r.in_use

  pub payload_read : (items : List ℕ) (found : Option ℕ) → Advances d (loading_at (log_file l.component l.index) l.place 0 l.log_end) r.logged items found → Steps d l ps items found
  payload_read items None k = record {
    sure = refl;
    lists = record {
      rows = r.rows;
      logged = r.logged;
      is = r.is;
      bytes = d.seen (area_file l.component l.index);
      in_use = in_use_if l.has_area l.index l.generation r.rows (d.seen (area_file l.component l.index)) all_rows;
      fits = k.fits;
      reached = k.place;
    };
    other = d.seen (area_file l.component (opposite l.index));
    behind = r.behind;
    left = record {
      told = r.told;
      area = refl;
      area_left = r.synced;
      behind = refl;
      behind_left = r.behind_synced;
      log = k.seen;
      log_left = k.left;
      spare = tt;
      spare_left = λ x left. tt;
    };
  }
  payload_read items (Some n) k =
      let next : Reading d (behind_payload l n) (ps ++ items ∷ []) = record {
        told = r.told;
        rows = r.rows;
        rows_left = r.rows_left;
        logged = r.logged ++ items ∷ [];
        is = ap (λ (x : List (List ℕ)). x ++ items ∷ []) r.is ∙ append_assoc r.rows r.logged (items ∷ []);
        turn = inl none_left;
        in_use = r.in_use;
        synced = r.synced;
        at_row = r.at_row;
        at_row_end = r.at_row_end;
        behind = r.behind;
        behind_synced = r.behind_synced;
        log = record {
          told = k.2.told;
          place = k.2.place;
          fits = k.2.fits;
          gate = k.2.gate;
          rest = k.2.rest;
          is = k.2.is;
          end = k.2.end;
          synced = k.2.synced;
        };
      } in
      (k.0, k.1, subst (λ (x : LoadAt). Reading d x (ps ++ items ∷ [])) (sym (moved_payload l n past)) next)

-- what the device says of the next row
pub row_found : (rows : List (List ℕ)) (junk : List ℕ) (place end : ℕ) (file : List ℕ) → place < end → RowsAt rows junk place end file → (found : Option ℕ)
    → RowAt found (end - place) (drop place file) → (found ≡ None → ⊥)
row_found rows junk place end file less at None none is =
    absurd (none (record { rows = rows; junk = junk; fits = at.fits; size = omega (arith, at.size); is = at.is }))
row_found rows junk place end file less at (Some n) there is = absurd (cc (is))

pub row_fetched : (rows : List (List ℕ)) (junk : List ℕ) (place end : ℕ) (file : List ℕ) → place < end → RowsAt rows junk place end file → (n : ℕ)
    → RowAt (Some n) (end - place) (drop place file) → (items : List ℕ) → items ≡ part file (place + 4) n → FirstRow rows items (Some n)
row_fetched [] junk place end file less at n there items read = absurd (omega (arith, less, at.size))
row_fetched (row ∷ rows) junk place end file less at n there items read =
    let whole : drop place file ≡ inner row ++ (body rows ++ junk) = at.is ∙ append_assoc (inner row) (body rows) junk in
    let says : to_be_bytes w32 n ≡ to_be_bytes w32 (length row) = sym there.2 ∙ ap (λ (x : List ℕ). take 4 x) whole in
    let same : n ≡ length row = same_number n (length row) (omega (arith, there.0)) (omega (arith, at.fits.0)) says in
    let long : length (inner row) ≡ 4 + length row = omega arith in
    let size : length (body (row ∷ rows)) ≡ 4 + length row + length (body rows) = length-append (inner row) (body rows) ∙ omega (arith, long) in
    let behind : drop (place + 4) file ≡ row ++ (body rows ++ junk) = sym (drop-drop 4 place file) ∙ ap (λ (x : List ℕ). drop 4 x) whole in (
      ap (λ (k : ℕ). Some k) same,
      read ∙ part-within file (place + 4) n (omega (arith, at.size, at.within, size, same)) ∙ ap (λ (x : List ℕ). take n x) behind
          ∙ take_at row (body rows ++ junk) n (sym same),
    )

-- what goes on isn't damaged
advances_whole : (d : Disk) (j : JournalAt) (ps : List (List ℕ)) (items : List ℕ) (found : Option ℕ) → Advances d j ps items found → IsDamage ps (d.seen j.file) → ⊥
advances_whole d j ps items None k damage = rests_undamaged ps ps (d.seen j.file) k.fits k.fits k.seen damage
advances_whole d j ps items (Some n) k damage =
    let tails : 1 ∷ damage.rest ≡ 1 ∷ (inner items ++ k.2.gate ∷ k.2.rest) =
    append_cancel_left (frames ps) (1 ∷ damage.rest) (1 ∷ (inner items ++ k.2.gate ∷ k.2.rest)) (sym damage.is ∙ k.2.is ∙ sym (frames_push ps items (k.2.gate ∷ k.2.rest))) in
    damage.none items k.2.gate k.2.rest k.0 (ap (λ (l : List ℕ). drop 1 l) tails)

-- damage behind payloads that end at one place
same_damage : (ps qs : List (List ℕ)) (file rest : List ℕ) (gate : ℕ) → length (frames ps) ≡ length (frames qs) → file ≡ frames ps ++ gate ∷ rest → IsDamage qs file → IsDamage ps file
same_damage ps qs file rest gate size is damage =
    let front : frames qs ≡ frames ps =
    sym (take_at (frames qs) (1 ∷ damage.rest) (length (frames qs)) refl) ∙ ap (λ (l : List ℕ). take (length (frames qs)) l) (sym damage.is ∙ is)
    ∙ take_at (frames ps) (gate ∷ rest) (length (frames qs)) size in
    record { rest = damage.rest; is = damage.is ∙ ap (λ (l : List ℕ). l ++ 1 ∷ damage.rest) front; none = damage.none }

pub found_undamaged : (a b : Disk) (l : LoadAt) (ps : List (List ℕ)) (r : Reading a l ps) → b.seen (log_file l.component l.index) ≡ a.seen (log_file l.component l.index)
    → (items : List ℕ) (found : Option ℕ) → Advances b (loading_at (log_file l.component l.index) l.place 0 l.log_end) r.logged items found → IsDamagedLog l a.seen → ⊥
found_undamaged a b l ps r same items found k damaged =
    let f = log_file l.component l.index in
    let here : IsDamage r.logged (a.seen f) =
    same_damage r.logged damaged.logged (a.seen f) r.log.rest r.log.gate (sym r.log.place ∙ damaged.reached) r.log.is damaged.damage in
    advances_whole b (loading_at f l.place 0 l.log_end) r.logged items found k (subst (λ (x : List ℕ). IsDamage r.logged x) (sym same) here)

-- the log of a load where the disk tells of it alone
pub load_stands_still : (a b : Disk) (l : LoadAt) → Unchanged l.component a b → LoadStands a l → LoadStands b l
load_stands_still a b l u stands told =
    let f = log_file l.component l.index in
    let mine = log_mine l.component l.index in
    let before = stands (was_told (Mine l.component) a b _ u.works f told) in
    let r = before.1 in (
      before.0,
      record {
        told = told;
        place = r.place;
        fits = r.fits;
        gate = r.gate;
        rest = r.rest;
        is = u.seen f mine ∙ r.is;
        end = r.end ∙ ap (λ (x : List ℕ). length x) (sym (u.seen f mine));
        synced = λ x left. r.synced x (u.left f x mine left) ∙ sym (u.seen f mine);
      },
    )

pub row_stands : (a b : Disk) (l : LoadAt) → Unchanged l.component a b → l.row < l.row_end → LoadStands a l → (found : Option ℕ) → IsSome found → StepStands b l found
row_stands a b l u less stands None some = absurd (cc (some))
row_stands a b l u less stands (Some n) some =
    subst (λ (m : LoadAt). LoadStands b m) (sym (moved_row l n less)) (load_stands_still a b l u stands)

pub payload_stands : (b : Disk) (l : LoadAt) (items : List ℕ) → l.row_end ≤ l.row → (found : Option ℕ)
    → (Tells b (log_file l.component l.index) → (logged : List (List ℕ)) × Advances b (loading_at (log_file l.component l.index) l.place 0 l.log_end) logged items found)
    → StepStands b l found
payload_stands b l items past None k = λ told. let x = k told in (x.0, x.1)
payload_stands b l items past (Some n) k =
    let next : LoadStands b (behind_payload l n) = λ told.
    let x = k told in
    let r = x.1.2 in
    (x.0 ++ items ∷ [], record { told = r.told; place = r.place; fits = r.fits; gate = r.gate; rest = r.rest; is = r.is; end = r.end; synced = r.synced }) in
    subst (λ (m : LoadAt). LoadStands b m) (sym (moved_payload l n past)) next

-- a payload that is lent out of the buffer
pub lent : (b : Disk) (l : LoadAt) (ps : List (List ℕ)) (items payload : List ℕ) (n : ℕ) → payload ≡ items → Steps b l ps items (Some n)
    → Fits payload × Reading b (moved l (length payload)) (ps ++ payload ∷ [])
lent b l ps items payload n is more =
    subst (λ (x : List ℕ). Fits x × Reading b (moved l (length x)) (ps ++ x ∷ [])) (sym is)
    (more.0, subst (λ (m : ℕ). Reading b (moved l m) (ps ++ items ∷ [])) (sym more.1) more.2)

pub spot_within : (row row_end place n end next : ℕ) → place < end → (row < row_end → next ≡ place) → (row_end ≤ row → next ≡ place + (5 + n))
    → (row_end ≤ row → place + (n + 6) ≤ end) → next < end
spot_within row row_end place n end next within at_row at_log range = elim (cases_lt row row_end) [
  | inl less ↦ omega (arith, at_row less, within)
  | inr past ↦ omega (arith, at_log past, range past)
]

-- what a caller of `next` knows once the loan is over: there is one payload more
pub loaded_more : (d : Disk) (old new : LoadAt) (ps : List (List ℕ)) (result : Result (Option (Bor (List ℕ))) LoadError) (found : Option (Bor (List ℕ))) (payload : Bor (List ℕ))
    → result ≡ Ok found → found ≡ Some payload → Finds d old ps found → Gives old result new → Reading d new (ps ++ payload.now ∷ [])
loaded_more d old new ps result found payload ok some finds gives =
    let here : Finds d old ps (Some payload) = subst (λ (o : Option (Bor (List ℕ))). Finds d old ps o) some finds in
    let at : new ≡ moved old (length payload.now) = subst (λ (r : Result (Option (Bor (List ℕ))) LoadError). Gives old r new) (ok ∙ ap Ok some) gives in
    subst (λ (j : LoadAt). Reading d j (ps ++ payload.now ∷ [])) (sym at) here.1

-- or these are all
pub loaded_all : (d : Disk) (old new : LoadAt) (ps : List (List ℕ)) (result : Result (Option (Bor (List ℕ))) LoadError) (found : Option (Bor (List ℕ)))
    → result ≡ Ok found → found ≡ None → Finds d old ps found → Gives old result new → Keeps d (ready_at new) ps
loaded_all d old new ps result found ok none finds gives =
    let here : Finds d old ps None = subst (λ (o : Option (Bor (List ℕ))). Finds d old ps o) none finds in
    let at : new ≡ old = subst (λ (r : Result (Option (Bor (List ℕ))) LoadError). Gives old r new) (ok ∙ ap Ok none) gives in
    subst (λ (j : LoadAt). Keeps d (ready_at j) ps) (sym at) here
