-- Between two legal pasts what an entry needs stays true in the larger.
use Rattle.std.proofs.Common.{◌≡◌, ℕ, Bool, true, List, ◌∷◌, sym, ap, subst, ◌∙◌, inl, inr}
use Rattle.dm_model.specs.declared.entry.HistoryEntry.{HistoryEntry}
use Rattle.dm_model.specs.declared.entry.Name.{Name}
use Rattle.dm_model.specs.declared.state.Joint.{Joint}
use Rattle.dm_model.specs.Names.{home_of, is_about, made_by, maker_of, names_of}
use Rattle.dm_model.specs.Step.{Stepped, state_after}
use Rattle.dm_invariant.specs.Opened.{Opened}
use Rattle.dm_spine.specs.Past.{In, IsPart, Lawful, Legal, chain}
use Rattle.dm_spine.proofs.Lists.{filter_in, in_filter}
use Rattle.dm_history.specs.Alike.{SameGroups}
use Rattle.dm_history.specs.History.{Begun, MadeIn, Needed, NeedsGrow, Rooted, history, joint_after, state_seen}
use Rattle.dm_history.proofs.GroupsStay.{groups_seen}
use Rattle.dm_history.proofs.NamesTold.{ends_told, fixed_lasts, home_lasts, home_told, made_elsewhere, makes_told, same_name_is, same_name_self}
use Rattle.dm_history.proofs.PartsGo.{AllAlike}
use Rattle.dm_history.proofs.PastsAlike.{chains_alike}
use Rattle.dm_pasts.proofs.DoneGrows.{pasts_follow}
use Rattle.dm_pasts.proofs.EventsGrow.{event_grows, names_same}

module _ (begun : Begun) (xs ys : List (ℕ × HistoryEntry)) (e : HistoryEntry) (part : IsPart history xs ys) (legal : Legal history begun xs) (more : Legal history begun ys)
    (chains : (x : Name) → is_about e x ≡ true → chain history x xs ≡ chain history x ys) (opened : Opened begun.opened) (need : Needed begun xs e) where
  abbrev Small : Joint
  Small = state_seen begun.opened xs

  abbrev Large : Joint
  Large = state_seen begun.opened ys

  own_alike : AllAlike (home_of e.event ∷ names_of Small e.worker e.event) Small Large
  own_alike y (inl home) =
      let about : is_about e y ≡ true = subst (λ x. is_about e x ≡ true) (sym home) (home_told e) in
      chains_alike begun opened xs ys y part legal more (need.rooted y about) (chains y about)
  own_alike y (inr named) =
      let about : is_about e y ≡ true = need.taken.named y named in
      chains_alike begun opened xs ys y part legal more (need.rooted y about) (chains y about)

  still_rooted : (x : Name) → Rooted begun x xs → Rooted begun x ys
  still_rooted x (inl fixed) = inl fixed
  still_rooted x (inr by) = inr (by.0, part.within by.0 by.1, by.2)

  -- who makes a name is about its maker, and so is in both pasts where it is in the larger
  still_fresh : (x : Name) → In x (made_by e.event e.answer) → MadeIn x ys → ⊥
  still_fresh x made by =
      let m = maker_of x in
      let t : ℕ × HistoryEntry → Bool = λ a. is_about a.1 m in
      let same = chains m (makes_told e x made) in
      let in_large = filter_in t by.0 ys by.1 (makes_told by.0.1 x by.2) in
      let in_small = (in_filter t by.0 xs (subst (λ l. In by.0 l) (sym same) in_large)).0 in
      need.fresh x made (by.0, in_small, by.2)

  pub still_needed : Needed begun ys e
  still_needed =
      let follows = pasts_follow begun opened xs ys part legal more in
      let keys : SameGroups Small Large = groups_seen begun.opened xs ys in
      let stepped = event_grows Small Large e.worker keys follows.done follows.asked e.event (joint_after Small e) e.answer need.taken.goes own_alike need.taken.taken in
      let names = names_same Small Large e.worker keys follows.done follows.asked e.event own_alike in
      record {
        taken = record {
          taken = stepped.is ∙ ap (λ (k : Joint). Stepped k e.answer) (sym (ap (state_after Large) stepped.is));
          named = λ x told. need.taken.named x (subst (λ l. In x l) (sym names) told);
          goes = need.taken.goes;
        };
        rooted = λ x about. still_rooted x (need.rooted x about);
        fresh = still_fresh;
      }

-- what an entry needs stays true in a larger past
pub needs_grow : NeedsGrow
needs_grow begun xs ys e part legal more chains need opened = still_needed begun xs ys e part legal more chains opened (need opened)

-- so the machine's history keeps all laws of a shared one
pub history_lawful : Lawful history
history_lawful = record {
  same_is = same_name_is;
  same_self = same_name_self;
  home_about = home_told;
  ends_about = ends_told;
  makes_about = λ n e x h. makes_told e x h;
  makes_loose = λ begun n e x h k. made_elsewhere e.event e.answer x h (fixed_lasts begun.opened begun.workers x k);
  homes_stay = λ n e f h. made_elsewhere e.event e.answer _ h (home_lasts f.event);
  fixed_few = λ begun. begun.few;
  needs_grow = needs_grow;
}
