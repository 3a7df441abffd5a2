-- How one work on a disk follows another.
use Rattle.std.proofs.Common.{◌≡◌, refl, inl, inr, ⊎_elim, ℕ, Bool, IsTrue, List, length, sym, ◌∙◌, subst, arith}
use Rattle.std.proofs.lemmas.List.{take_all}
use Rattle.dm_host.specs.Disk.{Disk, Image, MayLeave, Settled, Same, Tells, Torn}
use Rattle.dm_host.specs.Works.{Works, Elsewhere, File, Every, Follows}

-- less is said of what is left
pub weaker : (mine : ℕ → Type 0) (a b : Disk) (P Q : Image → Type 0) → Works mine a b P → ((x : Image) → P x → Q x) → Works mine a b Q
weaker mine a b P Q w so = record {
  told = w.told;
  others = w.others;
  now = λ x here. so x (w.now x here);
  later = w.later;
  moments = λ t x le left. ⊎_elim (λ was. inl was) (λ new. inr (so x new.0, new.1)) (w.moments t x le left);
  keeps = w.keeps;
}

-- one work after another
pub and_then : (mine : ℕ → Type 0) (a b c : Disk) (P : Image → Type 0) → Works mine a b P → Works mine b c P → Works mine a c P
and_then mine a b c P first second = record {
  told = second.told ∙ first.told;
  others = λ g not. record {
    seen = (second.others g not).seen ∙ (first.others g not).seen;
    fewer = λ f left. (first.others g not).fewer f ((second.others g not).fewer f left);
    more = λ f left. (second.others g not).more f ((first.others g not).more f left);
  };
  now = second.now;
  later = omega (arith, first.later, second.later);
  moments = λ t x le left.
      ⊎_elim (λ was. first.moments t x le was)
      (λ new. inr (new.0, λ g not. (first.others g not).fewer (x g) (new.1 g not)))
      (second.moments t x (omega (arith, le, first.later)) left);
  keeps = λ t x le left. second.keeps t x (omega (arith, le, first.later)) (first.keeps t x le left);
}

-- More files are mine: what is left of those that were not is what a crash at the start may leave.
pub wider : (mine more : ℕ → Type 0) (a b : Disk) (P Q : Image → Type 0) → Works mine a b P → ((g : ℕ) → mine g → more g)
    → ((x : Image) → P x → ((g : ℕ) → (mine g → ⊥) → more g → a.may_leave g (x g)) → Q x) → Works more a b Q
wider mine more a b P Q w in_more so = record {
  told = w.told;
  others = λ g not. w.others g (λ is. not (in_more g is));
  now = λ x here. so x (w.now x (λ g is. here g (in_more g is))) (λ g not is. (w.others g not).fewer (x g) (here g is));
  later = w.later;
  moments = λ t x le left.
      ⊎_elim (λ was. inl was) (λ new. inr (so x new.0 (λ g not is. new.1 g not), λ g not. new.1 g (λ is. not (in_more g is))))
      (w.moments t x le left);
  keeps = w.keeps;
}

-- what a work on one file leaves settled in another
pub settled_still : (f g : ℕ) → (g ≡ f → ⊥) → (a b : Disk) (Q : Image → Type 0) (P : List ℕ → Type 0) → Works (File f) a b Q → Settled a g P → Settled b g P
settled_still f g apart a b Q P w s c left = s c ((w.others g apart).fewer c left)

-- a work on some files, as one to whom every file belongs sees it
pub at_site : (mine : ℕ → Type 0) (a b : Disk) (Q P : Image → Type 0) → Works mine a b Q → ((x : Image) → Q x → Elsewhere mine a x → P x) → Works Every a b P
at_site mine a b Q P w so = wider mine Every a b Q P w (λ g is. tt) (λ x q e. so x q (λ g not. e g not tt))

-- each image that a crash since a might have left has P, if those that a crash at a may leave have it
pub each_moment : (mine : ℕ → Type 0) (a b : Disk) (P : Image → Type 0) → Works mine a b P → ((x : Image) → a.left_since a.moment x → MayLeave a x)
    → ((x : Image) → MayLeave a x → P x) → (x : Image) → b.left_since a.moment x → P x
each_moment mine a b P w only_now start x left =
    ⊎_elim (λ was. start x (only_now x was)) (λ new. new.0) (w.moments a.moment x (omega arith) left)

-- a step on a file, and then a call that changes nothing
pub same_after : (step : List ℕ → List ℕ → Type 0) (f : ℕ) (a b c : Disk) → Works (File f) a b (Follows step f a)
    → Works (File f) b c (Follows Same f b) → Works (File f) a c (Follows step f a)
same_after step f a b c first second =
    and_then (File f) a b c (Follows step f a) first (weaker (File f) b c (Follows Same f b) (Follows step f a) second (λ x follows.
    let here : b.may_leave f (x f) = subst (λ (l : List ℕ). b.may_leave f l) (sym follows.2) follows.1 in
    first.now x (λ g is. subst (λ (h : ℕ). b.may_leave h (x h)) (sym is) here)))

-- after a call that changes nothing a crash leaves nothing new
pub fewer_after : (f : ℕ) (a b : Disk) → Works (File f) a b (Follows Same f a) → (c : List ℕ) → b.may_leave f c → a.may_leave f c
fewer_after f a b w c left =
    let follows : Follows Same f a (λ g. c) = w.now (λ g. c) (λ g is. subst (λ (h : ℕ). b.may_leave h c) (sym is) left) in
    subst (λ (l : List ℕ). a.may_leave f l) (sym follows.2) follows.1

-- a call that changes nothing, and then a step on the file
pub same_before : (step : List ℕ → List ℕ → Type 0) → ((l : List ℕ) → step l l) → (f : ℕ) (a b c : Disk) → Works (File f) a b (Follows Same f a)
    → Works (File f) b c (Follows step f b) → Works (File f) a c (Follows step f a)
same_before step still f a b c first second =
    and_then (File f) a b c (Follows step f a)
    (weaker (File f) a b (Follows Same f a) (Follows step f a) first
    (λ x follows. (follows.0, follows.1, subst (λ (l : List ℕ). step follows.0 l) (sym follows.2) (still follows.0))))
    (weaker (File f) b c (Follows step f b) (Follows step f a) second
    (λ x follows. (follows.0, fewer_after f a b first follows.0 follows.1, follows.2)))

-- a file that was told is told
pub still_told : (mine : ℕ → Type 0) (a b : Disk) (P : Image → Type 0) → Works mine a b P → (f : ℕ) → Tells a f → Tells b f
still_told mine a b P w f is = subst (λ (told : ℕ → Bool). IsTrue (told f)) (sym w.told) is

-- A call that did nothing. With `torn_still` it serves a write of a device that tells nothing.
pub idle : (step : List ℕ → List ℕ → Type 0) → ((l : List ℕ) → step l l) → (f : ℕ) (d : Disk) → Works (File f) d d (Follows step f d)
idle step still f d = record {
  told = refl;
  others = λ g not. record { seen = refl; fewer = λ c left. left; more = λ c left. left };
  now = λ x here. (x f, here f refl, still (x f));
  later = omega arith;
  moments = λ t x le left. inl left;
  keeps = λ t x le left. left;
}

-- a write that did nothing
pub torn_still : (place n : ℕ) (l : List ℕ) → Torn place n l l
torn_still place n l = record {
  before = λ le. refl;
  past_end = λ le. take_all (length l) l (omega arith);
  after = refl;
  no_shorter = omega arith;
  no_longer = omega arith;
}
