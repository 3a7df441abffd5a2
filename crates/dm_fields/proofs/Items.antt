-- Loops over the items of a list.
use Rattle.std.proofs.Common.{◌≡◌, ℕ, ◌+◌, ◌<◌, ◌≤◌, ◌^◌, Result, Ok, Err, List, [], ◌∷◌, ◌++◌, length, get_or, take, drop, sym, ap, subst, ◌∙◌, arith, append_assoc, length-append}
use Rattle.std.proofs.lemmas.List.{drop_more, drop_all, take_more, take_all, append-nil}
use Rattle.std.proofs.lemmas.List.Concat.{flat_map-append}
use Rattle.std.specs.List.{AllByRecursion, flat_map}
use Rattle.dm_fields.specs.Reading.{IsRead, IsSpelledOnce, AreItems}
use Rattle.dm_fields.specs.Fields.{list_field, short_list_field}
use Rattle.dm_fields.specs.Numbers.{be32}
use Rattle.dm_fields.specs.Once.{number_once, byte_once}
use Rattle.dm_fields.specs.Writing.{IsPut}
use Rattle.dm_fields.specs.declared.input.ReadError.{ReadError}
use Rattle.dm_fields.specs.declared.input.ReadError.TheVariants.{Damaged, NoMemory}
use Rattle.dm_fields.proofs.Puts.{put_both}

module _ {X : Type 0} (f : X → List ℕ) where
  -- the next item of those that are left
  pub left_more : (xs : List X) (i : ℕ) (x : X) → i < length xs → x ≡ get_or xs i x → flat_map f (drop i xs) ≡ f x ++ flat_map f (drop (i + 1) xs)
  left_more xs i x small read = ap (flat_map f) (drop_more xs i x small ∙ ap (λ y. y ∷ drop (i + 1) xs) (sym read))

  pub left_length : (xs : List X) (i : ℕ) (x : X) → i < length xs → x ≡ get_or xs i x → length (flat_map f (drop i xs)) ≡ length (f x) + length (flat_map f (drop (i + 1) xs))
  left_length xs i x small read = ap length (left_more xs i x small read) ∙ length-append (f x) (flat_map f (drop (i + 1) xs))

  pub left_none : (xs : List X) (i : ℕ) → length xs ≤ i → flat_map f (drop i xs) ≡ []
  left_none xs i all = ap (flat_map f) (drop_all i xs all)

  -- those that were written, and one more
  pub done_more : (xs : List X) (i : ℕ) (x : X) → i < length xs → x ≡ get_or xs i x → flat_map f (take (i + 1) xs) ≡ flat_map f (take i xs) ++ f x
  done_more xs i x small read =
      ap (flat_map f) (take_more xs i x small ∙ ap (λ y. take i xs ++ y ∷ []) (sym read))
      ∙ flat_map-append f (take i xs) (x ∷ []) ∙ ap (λ l. flat_map f (take i xs) ++ l) (append-nil (f x))

-- a loop that writes items
pub record Writes {X : Type 0} (f : X → List ℕ) (P : X → Type 0) (xs : List X) (i at end : ℕ) (old new : List ℕ) : Type 0 where
  pub put : IsPut (flat_map f (take i xs)) at old new end
  pub room : end + length (flat_map f (drop i xs)) ≤ length old
  pub fits : AllByRecursion P (drop i xs)

module _ {X : Type 0} (f : X → List ℕ) (P : X → Type 0) (xs : List X) (at : ℕ) (old : List ℕ) where
  pub writes_none : AllByRecursion P xs → at + length (flat_map f xs) ≤ length old → Writes f P xs 0 at at old old
  writes_none fits room = record { put = record { ends = omega arith; stands = sym (append-nil (take at old)) }; room = room; fits = fits }

  module _ (i end : ℕ) (new : List ℕ) (w : Writes f P xs i at end old new) where
    pub writes_room : (x : X) → i < length xs → x ≡ get_or xs i x → length new ≡ length old → end + length (f x) ≤ length new
    writes_room x small read same = let more = left_length f xs i x small read in let r = w.room in omega arith

    pub writes_fits : (x : X) → i < length xs → x ≡ get_or xs i x → P x
    writes_fits x small read =
        (subst (AllByRecursion P) (drop_more xs i x small ∙ ap (λ y. y ∷ drop (i + 1) xs) (sym read)) w.fits).0

    pub writes_more : (x : X) (next : List ℕ) (behind : ℕ) → i < length xs → x ≡ get_or xs i x → IsPut (f x) end new next behind → Writes f P xs (i + 1) at behind old next
    writes_more x next behind small read p =
        let both = put_both (flat_map f (take i xs)) (f x) at end behind old new next w.put p in
        let more = left_length f xs i x small read in
        let r = w.room in
        let e = p.ends in
        record {
          put = subst (λ s. IsPut s at old next behind) (sym (done_more f xs i x small read)) both;
          room = omega arith;
          fits = (subst (AllByRecursion P) (drop_more xs i x small ∙ ap (λ y. y ∷ drop (i + 1) xs) (sym read)) w.fits).1;
        }

    pub writes_all : length xs ≤ i → IsPut (flat_map f xs) at old new end
    writes_all all = subst (λ l. IsPut (flat_map f l) at old new end) (take_all i xs all) w.put

-- a loop that reads items: those that were read, and what is left
module _ {X : Type 0} (f : X → List ℕ) (P : X → Type 0) (once : IsSpelledOnce f P) where
  -- what is spelled begins with those that were read, so an item is next
  next_item : (done xs : List X) (cur rest : List ℕ) → length done < length xs → AllByRecursion P done → AllByRecursion P xs → flat_map f done ++ cur ≡ flat_map f xs ++ rest → (y : X) × (tail : List ℕ) × P y × (cur ≡ f y ++ tail)
  next_item [] [] cur rest few p q e = absurd (omega arith)
  next_item [] (y ∷ ys) cur rest few p q e = (y, flat_map f ys ++ rest, q.0, e ∙ append_assoc (f y) (flat_map f ys) rest)
  next_item (x ∷ done) [] cur rest few p q e = absurd (omega arith)
  next_item (x ∷ done) (y ∷ ys) cur rest few p q e =
      let first = once x y (flat_map f done ++ cur) (flat_map f ys ++ rest) p.0 q.0 (sym (append_assoc (f x) (flat_map f done) cur) ∙ e ∙ append_assoc (f y) (flat_map f ys) rest) in
      next_item done ys cur rest (omega arith) p.1 q.1 first.1

  pub items_absent : (done : List X) (count : ℕ) (old cur mid new : List ℕ) (error : ReadError) → length done < count → AllByRecursion P done → old ≡ flat_map f done ++ cur → IsRead f P cur mid (Err error) → IsRead (flat_map f) (AreItems P count) old new (Err error)
  items_absent done count old cur mid new NoMemory few p e absent = tt
  items_absent done count old cur mid new Damaged few p e absent = λ v rest are spelled.
      let next = next_item done v cur rest (let many = are.0 in omega arith) p are.1 (sym e ∙ spelled) in
      absent next.0 next.1 next.2 next.3

pub all-push : {X : Type 0} (P : X → Type 0) (xs : List X) (x : X) → AllByRecursion P xs → P x → AllByRecursion P (xs ++ x ∷ [])
all-push P [] x all p = (p, tt)
all-push P (y ∷ xs) x all p = (all.0, all-push P xs x all.1 p)

-- what was read so far
pub record HaveRead {X : Type 0} (f : X → List ℕ) (P : X → Type 0) (old : List ℕ) (done : List X) (cur : List ℕ) (count : ℕ) : Type 0 where
  pub spelled : old ≡ flat_map f done ++ cur
  pub as_many : length done ≡ count
  pub fits : AllByRecursion P done

pub read_more : {X : Type 0} (f : X → List ℕ) (P : X → Type 0) (old : List ℕ) (done more : List X) (cur next : List ℕ) (count : ℕ) (x : X) → HaveRead f P old done cur count → (cur ≡ f x ++ next) × P x → more ≡ done ++ x ∷ [] → HaveRead f P old more next (count + 1)
read_more f P old done more cur next count x so_far item is =
    let many = so_far.as_many in
    record {
      spelled = so_far.spelled ∙ ap (λ l. flat_map f done ++ l) item.0 ∙ sym (append_assoc (flat_map f done) (f x) next)
          ∙ ap (λ l. l ++ next) (sym (ap (flat_map f) is ∙ flat_map-append f done (x ∷ []) ∙ ap (λ l. flat_map f done ++ l) (append-nil (f x))));
      as_many = omega (arith, ap length is, length-append done (x ∷ []));
      fits = subst (AllByRecursion P) (sym is) (all-push P done x so_far.fits item.1);
    }

-- a list whose items could not be read
pub list_absent : {X : Type 0} (f : X → List ℕ) (P : X → Type 0) (count : ℕ) (old mid new : List ℕ) (error : ReadError) → count < 2 ^ 32 → old ≡ be32 count ++ mid → IsRead (flat_map f) (AreItems P count) mid new (Err error) → IsRead {X = List X} (list_field f) (λ xs. (length xs < 2 ^ 32) × AllByRecursion P xs) old new (Err error)
list_absent f P count old mid new NoMemory small read absent = tt
list_absent f P count old mid new Damaged small read absent = λ xs rest fits spelled.
    let same = number_once 4 count (length xs) mid (flat_map f xs ++ rest) small fits.0 (sym read ∙ spelled ∙ append_assoc (be32 (length xs)) (flat_map f xs) rest) in
    absent xs rest (sym same.0, fits.1) same.1

-- or could
pub list_read : {X : Type 0} (f : X → List ℕ) (P : X → Type 0) (count : ℕ) (old mid new : List ℕ) (r : Result (List X) ReadError) → count < 2 ^ 32 → old ≡ be32 count ++ mid → IsRead (flat_map f) (AreItems P count) mid new r → IsRead {X = List X} (list_field f) (λ xs. (length xs < 2 ^ 32) × AllByRecursion P xs) old new r
list_read f P count old mid new (Err error) small read is = list_absent f P count old mid new error small read is
list_read f P count old mid new (Ok xs) small read is = (
  read ∙ ap (λ l. be32 count ++ l) is.0 ∙ sym (append_assoc (be32 count) (flat_map f xs) new) ∙ ap (λ n. (be32 n ++ flat_map f xs) ++ new) (sym is.1.0),
  (subst (λ n. n < 2 ^ 32) (sym is.1.0) small, is.1.1),
)

pub short_list_absent : {X : Type 0} (f : X → List ℕ) (P : X → Type 0) (count : ℕ) (old mid new : List ℕ) (error : ReadError) → old ≡ count ∷ mid → IsRead (flat_map f) (AreItems P count) mid new (Err error) → IsRead {X = List X} (short_list_field f) (λ xs. (length xs < 2 ^ 8) × AllByRecursion P xs) old new (Err error)
short_list_absent f P count old mid new NoMemory read absent = tt
short_list_absent f P count old mid new Damaged read absent = λ xs rest fits spelled.
    let same = byte_once count (length xs) mid (flat_map f xs ++ rest) (sym read ∙ spelled) in
    absent xs rest (sym same.0, fits.1) same.1
