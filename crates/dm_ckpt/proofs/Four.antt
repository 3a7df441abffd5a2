-- A work on one of a component's four files, with what is known of the three others.
use Rattle.std.proofs.Common.{◌≡◌, inl, inr, ℕ, List, refl, sym, subst, arith}
use Rattle.dm_host.specs.Disk.{Disk, Image, Only, Settled}
use Rattle.dm_host.specs.Works.{Works, File}
use Rattle.dm_host.proofs.Moments.{wider, settled_still}
use Rattle.dm_ckpt.specs.declared.files.Index.{Index}
use Rattle.dm_ckpt.specs.declared.files.Index.TheVariants.{First, Second}
use Rattle.dm_ckpt.specs.Files.{opposite, area_file, log_file, Mine, TellsMine}
use Rattle.dm_ckpt.specs.State.{Leaves}
use Rattle.dm_host.proofs.Moments.{still_told}

pub areas_apart : (c : ℕ) (i : Index) → area_file c i ≡ area_file c (opposite i) → ⊥
areas_apart c First e = absurd (omega (arith, e))
areas_apart c Second e = absurd (omega (arith, e))

pub logs_apart : (c : ℕ) (i : Index) → log_file c i ≡ log_file c (opposite i) → ⊥
logs_apart c First e = absurd (omega (arith, e))
logs_apart c Second e = absurd (omega (arith, e))

pub log_apart : (c : ℕ) (i j : Index) → area_file c i ≡ log_file c j → ⊥
log_apart c First First e = absurd (omega (arith, e))
log_apart c First Second e = absurd (omega (arith, e))
log_apart c Second First e = absurd (omega (arith, e))
log_apart c Second Second e = absurd (omega (arith, e))

pub area_mine : (c : ℕ) (i : Index) → Mine c (area_file c i)
area_mine c First = inl (inl refl)
area_mine c Second = inl (inr refl)

pub log_mine : (c : ℕ) (i : Index) → Mine c (log_file c i)
log_mine c First = inr (inl refl)
log_mine c Second = inr (inr refl)

-- what a work leaves of its file
pub settled_now : (f : ℕ) (a b : Disk) (N : List ℕ → Type 0) → Works (File f) a b (λ x. N (x f)) → Settled b f N
settled_now f a b N w x left = w.now (λ g. x) (λ g is. subst (λ (h : ℕ). b.may_leave h x) (sym is) left)

-- what is on the disk is what a crash leaves
pub settled_only : (f : ℕ) (b : Disk) (N : List ℕ → Type 0) → N (b.seen f) → Only (b.seen f) (b.may_leave f) → Settled b f N
settled_only f b N now only x left = subst N (sym (only x left)) now

-- one file of a component
pub one_of : (c f : ℕ) → Mine c f → (g : ℕ) → File f g → Mine c g
one_of c f mine g is = subst (λ (h : ℕ). Mine c h) (sym is) mine

pub mine_told : (c f : ℕ) (a b : Disk) (P : Image → Type 0) → Works (File f) a b P → TellsMine a c → TellsMine b c
mine_told c f a b P w told g mine = still_told (File f) a b P w g (told g mine)

pub opposite_twice : (i : Index) → opposite (opposite i) ≡ i
opposite_twice First = refl
opposite_twice Second = refl

module _ (c : ℕ) (i : Index) (a b : Disk) (P Q R S : List ℕ → Type 0) (l : Leaves a c i P Q R S) where
  abbrev j : Index
  j = opposite i

  -- on the area of the other index
  module _ (N : List ℕ → Type 0) (T : Image → Type 0) (w : Works (File (area_file c (opposite i))) a b T) where
    pub at_behind : N (b.seen (area_file c (opposite i))) → Settled b (area_file c (opposite i)) N → Leaves b c i P N R S
    at_behind now left = record {
      told = mine_told c (area_file c j) a b _ w l.told;
      area = subst P (sym (w.others (area_file c i) (areas_apart c i)).seen) l.area;
      area_left = settled_still (area_file c j) (area_file c i) (areas_apart c i) a b _ P w l.area_left;
      behind = now;
      behind_left = left;
      log = subst R (sym (w.others (log_file c i) (λ e. log_apart c j i (sym e))).seen) l.log;
      log_left = settled_still (area_file c j) (log_file c i) (λ e. log_apart c j i (sym e)) a b _ R w l.log_left;
      spare = subst S (sym (w.others (log_file c j) (λ e. log_apart c j j (sym e))).seen) l.spare;
      spare_left = settled_still (area_file c j) (log_file c j) (λ e. log_apart c j j (sym e)) a b _ S w l.spare_left;
    }

  module _ (N : List ℕ → Type 0) (w : Works (File (area_file c (opposite i))) a b (λ x. N (x (area_file c (opposite i))))) where
    pub works_behind : (Goal : Image → Type 0)
        → ((x : Image) → P (x (area_file c i)) → N (x (area_file c (opposite i))) → R (x (log_file c i)) → S (x (log_file c (opposite i))) → Goal x)
        → Works (Mine c) a b Goal
    works_behind Goal so = wider (File (area_file c j)) (Mine c) a b _ Goal w (one_of c (area_file c j) (area_mine c j)) (λ x here elsewhere.
        so x (l.area_left (x (area_file c i)) (elsewhere (area_file c i) (areas_apart c i) (area_mine c i))) here
        (l.log_left (x (log_file c i)) (elsewhere (log_file c i) (λ e. log_apart c j i (sym e)) (log_mine c i)))
        (l.spare_left (x (log_file c j)) (elsewhere (log_file c j) (λ e. log_apart c j j (sym e)) (log_mine c j))))

  -- on its log
  module _ (N : List ℕ → Type 0) (T : Image → Type 0) (w : Works (File (log_file c (opposite i))) a b T) where
    pub at_spare : N (b.seen (log_file c (opposite i))) → Settled b (log_file c (opposite i)) N → Leaves b c i P Q R N
    at_spare now left = record {
      told = mine_told c (log_file c j) a b _ w l.told;
      area = subst P (sym (w.others (area_file c i) (log_apart c i j)).seen) l.area;
      area_left = settled_still (log_file c j) (area_file c i) (log_apart c i j) a b _ P w l.area_left;
      behind = subst Q (sym (w.others (area_file c j) (log_apart c j j)).seen) l.behind;
      behind_left = settled_still (log_file c j) (area_file c j) (log_apart c j j) a b _ Q w l.behind_left;
      log = subst R (sym (w.others (log_file c i) (logs_apart c i)).seen) l.log;
      log_left = settled_still (log_file c j) (log_file c i) (logs_apart c i) a b _ R w l.log_left;
      spare = now;
      spare_left = left;
    }

  module _ (N : List ℕ → Type 0) (w : Works (File (log_file c (opposite i))) a b (λ x. N (x (log_file c (opposite i))))) where
    pub works_spare : (Goal : Image → Type 0)
        → ((x : Image) → P (x (area_file c i)) → Q (x (area_file c (opposite i))) → R (x (log_file c i)) → N (x (log_file c (opposite i))) → Goal x)
        → Works (Mine c) a b Goal
    works_spare Goal so = wider (File (log_file c j)) (Mine c) a b _ Goal w (one_of c (log_file c j) (log_mine c j)) (λ x here elsewhere.
        so x (l.area_left (x (area_file c i)) (elsewhere (area_file c i) (log_apart c i j) (area_mine c i)))
        (l.behind_left (x (area_file c j)) (elsewhere (area_file c j) (log_apart c j j) (area_mine c j)))
        (l.log_left (x (log_file c i)) (elsewhere (log_file c i) (logs_apart c i) (log_mine c i))) here)

  -- on the log in use
  module _ (N : List ℕ → Type 0) (T : Image → Type 0) (w : Works (File (log_file c i)) a b T) where
    pub at_log : N (b.seen (log_file c i)) → Settled b (log_file c i) N → Leaves b c i P Q N S
    at_log now left = record {
      told = mine_told c (log_file c i) a b _ w l.told;
      area = subst P (sym (w.others (area_file c i) (log_apart c i i)).seen) l.area;
      area_left = settled_still (log_file c i) (area_file c i) (log_apart c i i) a b _ P w l.area_left;
      behind = subst Q (sym (w.others (area_file c j) (log_apart c j i)).seen) l.behind;
      behind_left = settled_still (log_file c i) (area_file c j) (log_apart c j i) a b _ Q w l.behind_left;
      log = now;
      log_left = left;
      spare = subst S (sym (w.others (log_file c j) (λ e. logs_apart c i (sym e))).seen) l.spare;
      spare_left = settled_still (log_file c i) (log_file c j) (λ e. logs_apart c i (sym e)) a b _ S w l.spare_left;
    }

  module _ (N : List ℕ → Type 0) (w : Works (File (log_file c i)) a b (λ x. N (x (log_file c i)))) where
    pub works_log : (Goal : Image → Type 0)
        → ((x : Image) → P (x (area_file c i)) → Q (x (area_file c (opposite i))) → N (x (log_file c i)) → S (x (log_file c (opposite i))) → Goal x)
        → Works (Mine c) a b Goal
    works_log Goal so = wider (File (log_file c i)) (Mine c) a b _ Goal w (one_of c (log_file c i) (log_mine c i)) (λ x here elsewhere.
        so x (l.area_left (x (area_file c i)) (elsewhere (area_file c i) (log_apart c i i) (area_mine c i)))
        (l.behind_left (x (area_file c j)) (elsewhere (area_file c j) (log_apart c j i) (area_mine c j)))
        here (l.spare_left (x (log_file c j)) (elsewhere (log_file c j) (λ e. logs_apart c i (sym e)) (log_mine c j))))

  -- less is said of each
  pub leaves_less : (P' Q' R' S' : List ℕ → Type 0) → ((x : List ℕ) → P x → P' x) → ((x : List ℕ) → Q x → Q' x) → ((x : List ℕ) → R x → R' x) → ((x : List ℕ) → S x → S' x)
      → Leaves a c i P' Q' R' S'
  leaves_less P' Q' R' S' p q r s = record {
    told = l.told;
    area = p _ l.area;
    area_left = λ x left. p x (l.area_left x left);
    behind = q _ l.behind;
    behind_left = λ x left. q x (l.behind_left x left);
    log = r _ l.log;
    log_left = λ x left. r x (l.log_left x left);
    spare = s _ l.spare;
    spare_left = λ x left. s x (l.spare_left x left);
  }
