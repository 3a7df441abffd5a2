-- What a write and a read say of what is known of a file.
use Rattle.std.proofs.Common.{◌≡◌, ⊎_elim, ℕ, ◌+◌, ◌<◌, IsTrue, List, length, drop, slice_index, Result, Ok, Err, OnOk, OnErr, sym, ◌∙◌, ap, subst, arith}
use Rattle.std.proofs.lemmas.List.{get_or-take, get_or-drop}
use Rattle.dm_host.specs.declared.Failed.{Failed}
use Rattle.dm_host.specs.Disk.{Disk, Only, Tells, Torn, Written, part}
use Rattle.dm_host.specs.Works.{Works, File, Follows}
use Rattle.dm_host.proofs.Moments.{weaker}
use Rattle.dm_host.proofs.Outside.{torn_below, torn_above, part-at}
use Rattle.dm_rules.specs.Known.{Known, known_with_write, known_without_range, agrees_with_known, HasKnown}
use Rattle.dm_rules.proofs.Knowledge.{KeepsOutside, holds-forgotten, holds-written, holds-agrees}
use Rattle.dm_volume.specs.Volume.{Replaces}

pub so_ok : {T E P Q : Type 0} (r : Result T E) → OnOk r P → (P → Q) → OnOk r Q
so_ok (Ok x) p so = so p
so_ok (Err e) p so = tt

pub so_err : {T E P Q : Type 0} (r : Result T E) → OnErr r P → (P → Q) → OnErr r Q
so_err (Ok x) p so = tt
so_err (Err e) p so = so p

always_err : {T E P : Type 0} (r : Result T E) → P → OnErr r P
always_err (Ok x) p = tt
always_err (Err e) p = p

pub both_ok : {T E P Q R : Type 0} (r : Result T E) → OnOk r P → OnOk r Q → (P → Q → R) → OnOk r R
both_ok (Ok x) p q so = so p q
both_ok (Err e) p q so = tt

-- a write that may be cut short keeps each byte outside its range
pub torn-outside : (place n : ℕ) (old new : List ℕ) → Torn place n old new → KeepsOutside place n old new
torn-outside place n old new torn = record {
  inside = λ p below. omega (arith, below, torn.no_shorter);
  byte = λ p below out. ⊎_elim (λ before. torn_below place n old new torn p before below) (λ behind. torn_above place n old new torn p behind) out;
}

-- each byte of a write that was done
pub written-there : (place : ℕ) (bytes old new : List ℕ) → Written place bytes old new → (i : ℕ) → i < length bytes
    → (place + i < length new) × (slice_index new (place + i) ≡ slice_index bytes i)
written-there place bytes old new done i below = (
  omega (arith, below, done.within),
  sym (get_or-drop place new i 0) ∙ sym (get_or-take (length bytes) (drop place new) i 0 below) ∙ ap (λ (l : List ℕ). slice_index l i) done.there,
)

-- after a write that may be cut short nothing is known of its range
pub torn-holds : (place n : ℕ) (known : Known) (old new : List ℕ) → Torn place n old new → HasKnown known old → HasKnown (known_without_range place n known) new
torn-holds place n known old new torn = holds-forgotten place n known old new (torn-outside place n old new torn)

-- after one that was done its bytes are known
pub written-holds : (place : ℕ) (bytes : List ℕ) (known : Known) (old new : List ℕ) → Written place bytes old new → HasKnown known old → HasKnown (known_with_write place bytes known) new
written-holds place bytes known old new done =
    holds-written place bytes known old new (torn-outside place (length bytes) old new done.torn) (written-there place bytes old new done)

module _ {T : Type 0} (file place : ℕ) (bytes : List ℕ) (old new : Disk) (result : Result T Failed) where
  -- a write and a sync replace a range
  pub replaces : (Tells old file → OnOk result (Written place bytes (old.seen file) (new.seen file)))
      → (Tells old file → Torn place (length bytes) (old.seen file) (new.seen file)) → (Tells old file → OnOk result (Only (new.seen file) (new.may_leave file)))
      → Works (File file) old new (Follows (Torn place (length bytes)) file old) → Replaces file place bytes old new result
  replaces stands torn durable works = record {
    stands = stands;
    torn = torn;
    done = λ told known holds. so_ok result (stands told) (λ is. written-holds place bytes known (old.seen file) (new.seen file) is holds);
    failed = λ told known holds. always_err result (torn-holds place (length bytes) known (old.seen file) (new.seen file) (torn told) holds);
    durable = durable;
    kept = λ told known holds. both_ok result (stands told) (durable told) (λ is only c left.
        subst (λ (l : List ℕ). HasKnown (known_with_write place bytes known) l) (sym (only c left)) (written-holds place bytes known (old.seen file) (new.seen file) is holds));
    any_moment = λ known settled. weaker (File file) old new (Follows (Torn place (length bytes)) file old) (λ x. HasKnown (known_without_range place (length bytes) known) (x file)) works
        (λ x follows. torn-holds place (length bytes) known follows.0 (x file) follows.2 (settled follows.0 follows.1));
    works = works;
  }

-- what a read gives agrees with what is known
pub part-agrees : (known : Known) (file : List ℕ) (place n : ℕ) (bytes : List ℕ) → length bytes ≡ n → HasKnown known file → bytes ≡ part file place n → IsTrue (agrees_with_known known place bytes)
part-agrees known file place n bytes long holds is = holds-agrees known file place bytes holds (λ i below.
    ap (λ (l : List ℕ). slice_index l i) is ∙ part-at file place n i (omega (arith, below, long)))
