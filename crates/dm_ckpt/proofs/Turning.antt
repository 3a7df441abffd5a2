-- A checkpoint on the disk, in the disks between its steps.
use Rattle.std.proofs.Common.{◌≡◌, inl, inr, ℕ, ◌+◌, ◌<◌, ◌^◌, List, [], ◌∷◌, length, refl, sym, ◌∙◌, subst}
use Rattle.std.specs.Prelude.{⊤}
use Rattle.std.proofs.lemmas.List.{append-nil}
use Rattle.std.specs.List.{AllByRecursion}
use Rattle.dm_host.specs.Disk.{Disk, Image, Only, Torn, Written}
use Rattle.dm_host.specs.Works.{Works, File, Follows}
use Rattle.dm_host.proofs.Moments.{weaker, and_then, wider}
use Rattle.dm_journal.specs.Grammar.{Fits, AtRest}
use Rattle.dm_ckpt.specs.declared.files.Index.{Index}
use Rattle.dm_ckpt.specs.declared.doubt.Doubt.TheVariants.{Sure, Closing, Turning}
use Rattle.dm_ckpt.specs.Area.{body, content, IsClosed, HoldsRows, Begins}
use Rattle.dm_ckpt.specs.Files.{opposite, area_file, log_file, Mine, Other}
use Rattle.dm_ckpt.specs.State.{IsBehind, MayHold, StandsFor, Either, at, Leaves, Keeps, Closes, Replaces, Emptied}
use Rattle.dm_host.specs.Disk.{Tells}
use Rattle.dm_ckpt.specs.Writing.{WritesBehind}
use Rattle.dm_ckpt.proofs.Four.{at_behind, at_spare, works_behind, works_spare, leaves_less, settled_now, settled_only, area_mine}
use Rattle.dm_ckpt.proofs.Gates.{closed_works, closed_kept, staged_torn, staged_written}
use Rattle.dm_ckpt.proofs.Standing.{old_stands, turn_stands, turned_round, overtaken}

module _ (c : ℕ) (i : Index) (g p : ℕ) (ps : List (List ℕ)) (a b : Disk) (k : Keeps a (at c i g p Sure) ps) where
  abbrev pub other_area : ℕ
  other_area = area_file c (opposite i)

  abbrev pub other_log : ℕ
  other_log = log_file c (opposite i)

  behind_seen : IsBehind g (a.seen other_area)
  behind_seen = subst (λ (l : List ℕ). IsBehind g l) (sym k.left.behind) k.behind

  pub only_seen : Only (a.seen other_area) (a.may_leave other_area)
  only_seen x left = k.left.behind_left x left ∙ sym k.left.behind

  -- the first step, while it runs
  module _ (w : (n : ℕ) → IsBehind n (a.seen other_area) → Only (a.seen other_area) (a.may_leave other_area) → Works (File other_area) a b (λ x. IsBehind n (x other_area))) where
    abbrev one : Works (File other_area) a b (λ x. IsBehind g (x other_area))
    one = w g behind_seen only_seen

    pub first_moments : Works (Mine c) a b (StandsFor c ps)
    first_moments = works_behind c i a b _ _ _ _ k.left (IsBehind g) one (StandsFor c ps) (λ x area behind log spare.
        old_stands c i g p ps k.lists x area behind log)

    -- and where it failed
    pub first_closes : ((n : ℕ) → IsBehind n (a.seen other_area) → IsBehind n (b.seen other_area)) → Closes b (at c i g p Closing) ps
    first_closes still = record {
      doubt = refl;
      lists = k.lists;
      left = at_behind c i a b _ _ _ _ k.left (IsBehind g) _ one (still g behind_seen) (settled_now other_area a b (IsBehind g) one);
    }

    -- and done
    module _ (closed : IsClosed (b.seen other_area)) (only : Only (b.seen other_area) (b.may_leave other_area)) where
      shut : Leaves b c i (λ l. l ≡ k.lists.bytes) IsClosed (AtRest k.lists.logged) (λ l. ⊤)
      shut = at_behind c i a b _ _ _ _ k.left IsClosed _ one closed (settled_only other_area b IsClosed closed only)

      module _ (e : Disk) (w2 : Works (File other_log) b e (λ x. ⊤)) where
        pub second_moments : Works (Mine c) a e (StandsFor c ps)
        second_moments = and_then (Mine c) a b e (StandsFor c ps) first_moments
            (works_spare c i b e _ _ _ _ shut (λ l. ⊤) w2 (StandsFor c ps) (λ x area behind log spare.
            old_stands c i g p ps k.lists x area (inl (inr behind.1)) log))

        pub second_closes : Closes e (at c i g p Closing) ps
        second_closes = record {
          doubt = refl;
          lists = k.lists;
          left = leaves_less c i e e _ _ _ _ (at_spare c i b e _ _ _ _ shut (λ l. ⊤) _ w2 tt (λ x left. tt))
              (λ l. l ≡ k.lists.bytes) (IsBehind g) (AtRest k.lists.logged) (λ l. ⊤) (λ x s. s) (λ x s. inl (inr s.1)) (λ x s. s) (λ x s. s);
        }

        pub second_empties : AtRest [] (e.seen other_log) → Only (e.seen other_log) (e.may_leave other_log) → Emptied e (at c i g p Turning) ps
        second_empties rest only2 = record {
          lists = k.lists;
          left = at_spare c i b e _ _ _ _ shut (AtRest []) _ w2 rest (settled_only other_log e (AtRest []) rest only2);
        }

module _ (c : ℕ) (i : Index) (g p : ℕ) (ps rows : List (List ℕ)) (a b : Disk) (k : Emptied a (at c i g p Turning) ps) (w : WritesBehind (area_file c (opposite i)) a b) where
  abbrev third : Works (File (area_file c (opposite i))) a b (λ x. IsClosed (x (area_file c (opposite i))))
  third = closed_works (area_file c (opposite i)) a b w k.left.behind_left

  -- the third step, while it runs
  pub third_moments : Works (Mine c) a b (Either c ps rows)
  third_moments = works_behind c i a b _ _ _ _ k.left IsClosed third (Either c ps rows) (λ x area behind log spare.
      inl (old_stands c i g p ps k.lists x area (inl (inr behind.1)) log))

  still_shut : Tells a (area_file c (opposite i)) → Leaves b c i (λ l. l ≡ k.lists.bytes) IsClosed (AtRest k.lists.logged) (AtRest [])
  still_shut told = at_behind c i a b _ _ _ _ k.left IsClosed _ third
      (closed_kept (a.seen (area_file c (opposite i))) (b.seen (area_file c (opposite i))) (w.seen told) k.left.behind)
      (settled_now (area_file c (opposite i)) a b IsClosed third)

  abbrev pub told_area : Tells a (area_file c (opposite i))
  told_area = k.left.told (area_file c (opposite i)) (area_mine c (opposite i))

  -- and where it failed
  pub third_replaces : Replaces b (at c i g p Turning) ps rows
  third_replaces = record {
    doubt = refl;
    lists = k.lists;
    left = leaves_less c i b b _ _ _ _ (still_shut told_area) (λ l. l ≡ k.lists.bytes) (MayHold (g + 1) rows) (AtRest k.lists.logged) (AtRest [])
        (λ x s. s) (λ x s. inl (inr s.1)) (λ x s. s) (λ x s. s);
  }

  -- and done
  module _ (number : g + 1 < 2 ^ 64) (size : length (body rows) < 2 ^ 64) (fits : AllByRecursion Fits rows) (gate : ℕ)
      (staged : Begins gate (content (g + 1) rows) (b.seen (area_file c (opposite i)))) (only : Only (b.seen (area_file c (opposite i))) (b.may_leave (area_file c (opposite i))))
      (e : Disk) (w2 : Works (File (area_file c (opposite i))) b e (Follows (Torn 0 1) (area_file c (opposite i)) b)) where
    abbrev fourth : Works (File (area_file c (opposite i))) b e (λ x. MayHold (g + 1) rows (x (area_file c (opposite i))))
    fourth = weaker (File (area_file c (opposite i))) b e _ (λ x. MayHold (g + 1) rows (x (area_file c (opposite i)))) w2 (λ x follows.
        staged_torn (g + 1) rows number size fits gate (b.seen (area_file c (opposite i))) (x (area_file c (opposite i))) staged
        (subst (λ (l : List ℕ). Torn 0 1 l (x (area_file c (opposite i)))) (only follows.0 follows.1) follows.2))

    pub fourth_moments : Works (Mine c) a e (Either c ps rows)
    fourth_moments = and_then (Mine c) a b e (Either c ps rows) third_moments
        (works_behind c i b e _ _ _ _ (still_shut told_area) (MayHold (g + 1) rows) fourth (Either c ps rows) (λ x area behind log spare.
        turn_stands c i g p ps rows k.lists x area behind log spare))

    pub fourth_replaces : Torn 0 1 (b.seen (area_file c (opposite i))) (e.seen (area_file c (opposite i))) → Replaces e (at c i g p Turning) ps rows
    fourth_replaces torn = record {
      doubt = refl;
      lists = k.lists;
      left = at_behind c i b e _ _ _ _ (still_shut told_area) (MayHold (g + 1) rows) _ fourth
          (staged_torn (g + 1) rows number size fits gate (b.seen (area_file c (opposite i))) (e.seen (area_file c (opposite i))) staged torn)
          (settled_now (area_file c (opposite i)) b e (MayHold (g + 1) rows) fourth);
    }

    pub fourth_keeps : Written 0 (1 ∷ []) (b.seen (area_file c (opposite i))) (e.seen (area_file c (opposite i)))
        → Only (e.seen (area_file c (opposite i))) (e.may_leave (area_file c (opposite i))) → Keeps e (at c (opposite i) (g + 1) 0 Sure) rows
    fourth_keeps written only2 =
        let holds : HoldsRows (g + 1) rows (e.seen (area_file c (opposite i))) =
        staged_written (g + 1) rows number size fits gate (b.seen (area_file c (opposite i))) (e.seen (area_file c (opposite i))) staged written in
        let now : Leaves e c i (λ l. l ≡ k.lists.bytes) (λ l. l ≡ e.seen (area_file c (opposite i))) (AtRest k.lists.logged) (AtRest []) =
        at_behind c i b e _ _ _ _ (still_shut told_area) (λ l. l ≡ e.seen (area_file c (opposite i))) _ fourth refl only2 in
        record {
          sure = refl;
          lists = record {
            rows = rows;
            logged = [];
            is = sym (append-nil rows);
            bytes = e.seen (area_file c (opposite i));
            in_use = inl holds;
            fits = tt;
            reached = refl;
          };
          other = k.lists.bytes;
          behind = overtaken i g k.lists.rows k.lists.bytes k.lists.in_use;
          left = leaves_less c (opposite i) e e _ _ _ _ (turned_round e c i _ _ _ _ now)
              (λ l. l ≡ e.seen (area_file c (opposite i))) (λ l. l ≡ k.lists.bytes) (AtRest []) (λ l. ⊤) (λ x s. s) (λ x s. s) (λ x s. s) (λ x s. tt);
        }

-- what isn't the other index's is left alone
pub other_works_area : (c : ℕ) (i : Index) (a b : Disk) (P : Image → Type 0) → Works (File (area_file c (opposite i))) a b P → Works (Other c i) a b (λ x. ⊤)
other_works_area c i a b P w = wider (File (area_file c (opposite i))) (Other c i) a b P (λ x. ⊤) w (λ g is. inl is) (λ x p e. tt)

pub other_works_both : (c : ℕ) (i : Index) (a b d : Disk) (P Q : Image → Type 0) → Works (File (area_file c (opposite i))) a b P → Works (File (log_file c (opposite i))) b d Q
    → Works (Other c i) a d (λ x. ⊤)
other_works_both c i a b d P Q first second = and_then (Other c i) a b d (λ x. ⊤) (other_works_area c i a b P first)
    (wider (File (log_file c (opposite i))) (Other c i) b d Q (λ x. ⊤) second (λ g is. inr is) (λ x p e. tt))
