-- What a call of a bay over memory does to its disk.
use Rattle.std.proofs.Common.{◌≡◌, ◌≢◌, inl, inr, ⊎_elim, ℕ, ◌+◌, ◌-◌, ◌≤◌, ◌^◌, Bool, true, false, IsTrue, if◌then◌else◌, List, [], ◌∷◌, length, take, drop, Vec, refl, sym, ◌∙◌, ap, subst, arith}
use Rattle.std.proofs.lemmas.Bool.{cases_Bool, cases_eq}
use Rattle.std.proofs.lemmas.Bool.Decides.{nat_tests}
use Rattle.std.proofs.lemmas.List.{drop-drop}
use Rattle.std.specs.declared.alloc.Global.{Global}
use Rattle.dm_host.specs.declared.change.Change.{Change}
use Rattle.dm_host.specs.declared.change.Change.TheVariants.{Wrote, Synced}
use Rattle.dm_host.specs.Disk.{Image, Torn, Written, Same, Only}
use Rattle.dm_host.specs.Works.{Works, File, Follows}
use Rattle.dm_host.proofs.Moments.{idle, torn_still}
use Rattle.dm_host.proofs.Overlay.{written, back}
use Rattle.dm_host.specs.Past.{lengthened, overlaid, restored, undone, Reaches, LeftOf, LeftSince, shown, shown_told, disk_from, Puts}

-- a longer range says less
pub torn_longer : (place m n : ℕ) (old new : List ℕ) → m ≤ n → Torn place m old new → Torn place n old new
torn_longer place m n old new le t = record {
  before = t.before;
  past_end = t.past_end;
  after =
      let at : place + m + (n - m) ≡ place + n = omega arith in
      let e : drop (place + m + (n - m)) new ≡ drop (place + m + (n - m)) old =
      sym (drop-drop (n - m) (place + m) new) ∙ ap (λ (l : List ℕ). drop (n - m) l) t.after ∙ drop-drop (n - m) (place + m) old in
      subst (λ (k : ℕ). drop k new ≡ drop k old) at e;
  no_shorter = t.no_shorter;
  no_longer = omega (arith, t.no_longer);
}

module _ (log : List Change) (files : Image) (f : ℕ) where
  -- a sync of file f
  pub synced_only : Only (files f) (LeftOf (Synced f ∷ log) files f)
  synced_only c (inl now) = now
  synced_only c (inr (inl here)) = here.1
  synced_only c (inr (inr other)) = absurd (other.0 refl)

  synced_fewer : (g : ℕ) → (g ≡ f → ⊥) → (c : List ℕ) → LeftOf (Synced f ∷ log) files g c → LeftOf log files g c
  synced_fewer g not c (inl now) = inl now
  synced_fewer g not c (inr (inl here)) = absurd (not here.0)
  synced_fewer g not c (inr (inr other)) = inr other.1

  pub synced : (told : ℕ → Bool) → Works (File f) (disk_from told log files) (disk_from told (Synced f ∷ log) files) (Follows Same f (disk_from told log files))
  synced told = record {
    told = refl;
    others = λ g not. record {
      seen = refl;
      fewer = λ c left is. synced_fewer g not c (left is);
      more = λ c left is. ⊎_elim (λ now. inl now) (λ past. inr (inr (not, past))) (left is);
    };
    now = λ x here. (x f, λ is. inl (synced_only (x f) (here f refl is)), refl);
    later = omega arith;
    moments = λ t x le left.
        ⊎_elim (λ now. inr ((x f, λ is. inl (synced_only (x f) (now f is)), refl), λ g not is. synced_fewer g not (x g) (now g is))) (λ past. inl past.1) left;
    keeps = λ t x le left. inr (le, left);
  }

  pub synced_shown : (told : ℕ → Bool) → IsTrue (told f) → Only (shown told files f) (λ c. IsTrue (told f) → LeftOf (Synced f ∷ log) files f c)
  synced_shown told is c left = synced_only c (left is) ∙ sym (shown_told told files f is)

module _ (file place : ℕ) (bytes : List ℕ) (log : List Change) (files : Image) (log' : List Change) (files' : Image) (p : Puts file place bytes log files log' files') where
  abbrev change : Change
  change = Wrote file place (length bytes) (length (files file)) p.before

  undone_here : (g : ℕ) → g ≡ file → undone change files' g ≡ restored place (length (files file)) p.before.items (files' g)
  undone_here g is = grind (arith, nat_tests)

  undone_other : (g : ℕ) → g ≢ file → undone change files' g ≡ files' g
  undone_other g not = grind (arith, nat_tests)

  undone_is : undone change files' ≡ files
  undone_is = λ i g. each g i
    where
      each : (g : ℕ) → undone change files' g ≡ files g
      each g = elim (cases_eq g file) [
        | inl is ↦ undone_here g is ∙ ap (λ (h : ℕ). restored place (length (files file)) p.before.items (files' h)) is ∙ p.back ∙ ap files (sym is)
        | inr not ↦ undone_other g not ∙ p.others g not
      ]

  wrote_fewer : (g : ℕ) → (g ≡ file → ⊥) → (c : List ℕ) → LeftOf (change ∷ log) files' g c → LeftOf log files g c
  wrote_fewer g not c (inl now) = inl (now ∙ p.others g not)
  wrote_fewer g not c (inr (inl here)) = absurd (not here.0)
  wrote_fewer g not c (inr (inr other)) = inr (subst (λ (l : List ℕ). Reaches g log l c) (p.others g not) other.1)

  wrote_more : (g : ℕ) → (g ≡ file → ⊥) → (c : List ℕ) → LeftOf log files g c → LeftOf (change ∷ log) files' g c
  wrote_more g not c (inl now) = inl (now ∙ sym (p.others g not))
  wrote_more g not c (inr past) = inr (inr (not, subst (λ (l : List ℕ). Reaches g log l c) (sym (p.others g not)) past))

  -- what a crash leaves of the file follows from what one before left, over a range that is at least as long
  module _ (n : ℕ) (long : length bytes ≤ n) where
    wrote_here : (c : List ℕ) → LeftOf (change ∷ log) files' file c → (d : List ℕ) × LeftOf log files file d × Torn place n d c
    wrote_here c (inl now) =
        (files file, inl refl, subst (λ (l : List ℕ). Torn place n (files file) l) (sym now) (torn_longer place (length bytes) n (files file) (files' file) long p.written.torn))
    wrote_here c (inr (inl here)) =
        let past = here.1 in
        (past.0, inr (subst (λ (l : List ℕ). Reaches file log l past.0) p.back past.1), torn_longer place (length bytes) n past.0 c long past.2)
    wrote_here c (inr (inr other)) = absurd (other.0 refl)

    module _ (told : ℕ → Bool) where
      wrote_follows : (x : Image) → (IsTrue (told file) → LeftOf (change ∷ log) files' file (x file)) → Follows (Torn place n) file (disk_from told log files) x
      wrote_follows x left = elim (cases_Bool (told file)) [
        | inl is ↦ let before = wrote_here (x file) (left is) in (before.0, λ told. before.1, before.2)
        | inr not ↦ (x file, λ is. absurd (let e : true ≡ false = sym is ∙ not in cc (e)), torn_still place n (x file))
      ]

      wrote : Works (File file) (disk_from told log files) (disk_from told (change ∷ log) files') (Follows (Torn place n) file (disk_from told log files))
      wrote = record {
        told = refl;
        others = λ g not. record {
          seen = ap (λ (l : List ℕ). if told g then l else []) (p.others g not);
          fewer = λ c left is. wrote_fewer g not c (left is);
          more = λ c left is. wrote_more g not c (left is);
        };
        now = λ x here. wrote_follows x (here file refl);
        later = omega arith;
        moments = λ t x le left.
            ⊎_elim (λ now. inr (wrote_follows x (now file), λ g not is. wrote_fewer g not (x g) (now g is)))
            (λ past. inl (subst (λ (was : Image). LeftSince told log was t x) undone_is past.1)) left;
        keeps = λ t x le left. inr (le, subst (λ (was : Image). LeftSince told log was t x) (sym undone_is) left);
      }

      pub puts_works : Works (File file) (disk_from told log files) (disk_from told log' files') (Follows (Torn place n) file (disk_from told log files))
      puts_works =
          subst (λ (l : List Change). Works (File file) (disk_from told log files) (disk_from told l files') (Follows (Torn place n) file (disk_from told log files))) (sym p.noted) wrote

    pub puts_torn : Torn place n (files file) (files' file)
    puts_torn = torn_longer place (length bytes) n (files file) (files' file) long p.written.torn

  pub puts_bounded : place + length bytes ≤ 2 ^ 62 → ((g : ℕ) → length (files g) ≤ 2 ^ 62) → (g : ℕ) → length (files' g) ≤ 2 ^ 62
  puts_bounded limit small g = elim (cases_eq g file) [
    | inl is ↦
        let here : length (files' file) ≤ 2 ^ 62 = omega (arith, p.written.torn.no_longer, small file) in
        subst (λ (h : ℕ). length (files' h) ≤ 2 ^ 62) (sym is) here
    | inr not ↦ subst (λ (l : List ℕ). length l ≤ 2 ^ 62) (sym (p.others g not)) (small g)
  ]

-- the parts of a write, put together
pub puts_from : (file place : ℕ) (bytes old : List ℕ) (before : Vec ℕ Global) (log log' : List Change) (files grown files' : Image) → old ≡ files file
    → before.items ≡ take (length bytes) (drop place old) → grown ≡ files → files' file ≡ overlaid place bytes (lengthened (place + length bytes) (grown file))
    → ((g : ℕ) → g ≢ file → files' g ≡ grown g) → log' ≡ Wrote file place (length bytes) (length old) before ∷ log → Puts file place bytes log files log' files'
puts_from file place bytes old before log log' files grown files' is copied same done others noted =
    let now : files' file ≡ overlaid place bytes (lengthened (place + length bytes) (files file)) =
    done ∙ ap (λ (fs : Image). overlaid place bytes (lengthened (place + length bytes) (fs file))) same in
    record {
      before = before;
      noted = noted ∙ ap (λ (l : List ℕ). Wrote file place (length bytes) (length l) before ∷ log) is;
      back =
          ap (λ (b : List ℕ). restored place (length (files file)) b (files' file)) (copied ∙ ap (λ (l : List ℕ). take (length bytes) (drop place l)) is)
          ∙ ap (λ (l : List ℕ). restored place (length (files file)) (take (length bytes) (drop place (files file))) l) now
          ∙ back place bytes (files file);
      written = subst (λ (l : List ℕ). Written place bytes (files file) l) (sym now) (written place bytes (files file));
      others = λ g apart. others g apart ∙ ap (λ (fs : Image). fs g) same;
    }

-- a call that left files and log as they were
module _ (told : ℕ → Bool) (log log' : List Change) (files files' : Image) (same : files' ≡ files) (kept : log' ≡ log) where
  pub unchanged : (step : List ℕ → List ℕ → Type 0) → ((l : List ℕ) → step l l) → (f : ℕ)
      → Works (File f) (disk_from told log files) (disk_from told log' files') (Follows step f (disk_from told log files))
  unchanged step still f =
      subst (λ (fs : Image). Works (File f) (disk_from told log files) (disk_from told log' fs) (Follows step f (disk_from told log files))) (sym same)
      (subst (λ (l : List Change). Works (File f) (disk_from told log files) (disk_from told l files) (Follows step f (disk_from told log files))) (sym kept)
      (idle step still f (disk_from told log files)))
