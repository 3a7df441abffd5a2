-- Bytes that change by themselves: in the files that are told none does.
use Rattle.std.proofs.Common.{◌≡◌, ◌⊎◌, inl, inr, ℕ, Bool, true, false, not, IsTrue, ◌||◌, ◌&&◌, ◌==◌, if◌then◌else◌, List, [], ◌∷◌, length, set, refl, sym, ◌∙◌, ap, subst, arith}
use Rattle.std.proofs.lemmas.List.{length-set}
use Rattle.std.specs.List.{list_any}
use Rattle.dm_host.specs.declared.change.Change.{Change}
use Rattle.dm_host.specs.declared.change.Change.TheVariants.{Wrote, Synced}
use Rattle.dm_host.specs.Disk.{Image, Same}
use Rattle.dm_host.specs.Works.{Works, File, Follows, Stays}
use Rattle.dm_host.specs.Past.{restored, undone, Reaches, LeftOf, LeftSince, shown, disk_from}
use Rattle.dm_host.specs.Rot.{Rot, rotted_by, rotted, is_unnamed}

both_false : (a b : Bool) → IsTrue (not (a || b)) → (a ≡ false) × (b ≡ false)
both_false true b is = absurd (cc (is))
both_false false true is = absurd (cc (is))
both_false false false is = (refl, refl)

neither : (a b : Bool) (x y : List ℕ) → b ≡ false → (if a && b then x else y) ≡ y
neither true b x y is = ap (λ (c : Bool). if c then x else y) is
neither false b x y is = refl

-- what no entry names stays as it is
pub rotted_still : (entries : List Rot) (call g : ℕ) (file : List ℕ) → IsTrue (is_unnamed entries g) → rotted entries call g file ≡ file
rotted_still [] call g file is = refl
rotted_still (entry ∷ rest) call g file is =
    let both = both_false (entry.1 == g) (list_any (λ (e : Rot). e.1 == g) rest) is in
    ap (λ (l : List ℕ). rotted rest call g l) (neither (entry.0 == call) (entry.1 == g) (set file entry.2 entry.3) file both.0)
    ∙ rotted_still rest call g file (ap (λ (b : Bool). not b) both.1)

length-either : (b : Bool) (x y : List ℕ) → length x ≡ length y → length (if b then x else y) ≡ length y
length-either true x y same = same
length-either false x y same = refl

-- no file gets longer
pub length-rotted : (entries : List Rot) (call g : ℕ) (file : List ℕ) → length (rotted entries call g file) ≡ length file
length-rotted [] call g file = refl
length-rotted (entry ∷ rest) call g file =
    length-rotted rest call g (rotted_by entry call g file)
    ∙ length-either ((entry.0 == call) && (entry.1 == g)) (set file entry.2 entry.3) file (length-set file entry.2 entry.3)

if_alike : (b : Bool) (x y : List ℕ) → (IsTrue b → x ≡ y) → (if b then x else []) ≡ (if b then y else [])
if_alike true x y same = same refl
if_alike false x y same = refl

-- the files that are told are alike
module _ (told : ℕ → Bool) where
  abbrev Alike : Image → Image → Type 0
  Alike a b = (g : ℕ) → IsTrue (told g) → b g ≡ a g

  left_alike : (log : List Change) (a b : Image) (g : ℕ) (c : List ℕ) → b g ≡ a g → LeftOf log a g c → LeftOf log b g c
  left_alike log a b g c same left = subst (λ (l : List ℕ). (c ≡ l) ⊎ Reaches g log l c) (sym same) left

  undone_alike : (change : Change) (a b : Image) → Alike a b → Alike (undone change a) (undone change b)
  undone_alike (Wrote file place len end before) a b same g is = ap (λ (l : List ℕ). if g == file then restored place end before.items l else l) (same g is)
  undone_alike (Synced file) a b same g is = same g is

  since_alike : (log : List Change) (a b : Image) → Alike a b → (t : ℕ) (x : Image) → LeftSince told log a t x → LeftSince told log b t x
  since_alike [] a b same t x left = λ g is. left_alike [] a b g (x g) (same g is) (left g is)
  since_alike (change ∷ earlier) a b same t x (inl now) = inl (λ g is. left_alike (change ∷ earlier) a b g (x g) (same g is) (now g is))
  since_alike (change ∷ earlier) a b same t x (inr past) = inr (past.0, since_alike earlier (undone change a) (undone change b) (undone_alike change a b same) t x past.1)

  pub alike_shown : (a b : Image) → Alike a b → shown told b ≡ shown told a
  alike_shown a b same = λ i g. if_alike (told g) (b g) (a g) (same g) i

  module _ (log : List Change) (a b : Image) (same : Alike a b) where
    back : Alike b a
    back g is = sym (same g is)

    pub alike_stays : (g : ℕ) → Stays g (disk_from told log a) (disk_from told log b)
    alike_stays g = record {
      seen = ap (λ (image : Image). image g) (alike_shown a b same);
      fewer = λ c left is. left_alike log b a g c (back g is) (left is);
      more = λ c left is. left_alike log a b g c (same g is) (left is);
    }

    pub alike_works : (f : ℕ) → Works (File f) (disk_from told log a) (disk_from told log b) (Follows Same f (disk_from told log a))
    alike_works f = record {
      told = refl;
      others = λ g not. alike_stays g;
      now = λ x here. (x f, λ is. left_alike log b a f (x f) (back f is) (here f refl is), refl);
      later = omega arith;
      moments = λ t x le left. inl (since_alike log b a back t x left);
      keeps = λ t x le left. since_alike log a b same t x left;
    }
