-- How the entries of a call are drawn.
use Rattle.std.proofs.Common.{◌≡◌, ◌+◌, ◌<◌, ◌⊎◌, ◌||◌, ℕ, Bool, true, false, List, [], ◌∷◌, ◌++◌, refl, sym, ap, subst, ◌∙◌, inl, inr}
use Rattle.dm_model.specs.declared.call.Component.{Component}
use Rattle.dm_model.specs.declared.entry.HistoryEntry.{HistoryEntry}
use Rattle.dm_model.specs.declared.entry.Name.{Name}
use Rattle.dm_model.specs.declared.state.Joint.{Joint}
use Rattle.dm_model.specs.Names.{component_name, fixed_names, home_of, is_about, made_by, same_name}
use Rattle.dm_history.specs.History.{Begun, MadeIn, Rooted, joint_after, state_seen}
use Rattle.dm_history.proofs.NamesTold.{home_told, same_name_is}
use Rattle.dm_history.proofs.PastsRun.{state-last}
use Rattle.dm_openings.specs.Openings.{BeginsAs, names_loaded}
use Rattle.dm_openings.proofs.OpeningsBegin.{opening_names}
use Rattle.dm_spine.specs.Past.{In, Made, Rises}
use Rattle.dm_spine.specs.Rule.{IsSound, MayDraw, view}
use Rattle.dm_spine.specs.declared.rule.View.{View}
use Rattle.dm_spine.proofs.Lists.{in_append}
use Rattle.dm_spine.proofs.Uses.{drawn_seen, home_more, made_kept, still_kept}
use Rattle.dm_bench.specs.Drawing.{Enters, EntersAll, MayEnter, TakenAll, entries_at, landed_entry}
use Rattle.dm_bench.specs.Systems.{loaded_by, machine, machine_lawful}
use Rattle.dm_bench.specs.declared.system.System.{System}

-- ---- one entry

rooted_as : (s : System) (begun : Begun) (x : Name) (xs : List (ℕ × HistoryEntry)) → BeginsAs (loaded_by s) begun
    → In x (machine.fixed s) ⊎ Made machine x xs → Rooted begun x xs
rooted_as s begun x xs begins (inl fixed) =
    let same : names_loaded (loaded_by s) ≡ fixed_names begun.opened begun.workers =
    opening_names (loaded_by s) begun.opened begins.opening ∙ ap (λ n. fixed_names begun.opened n) (sym begins.workers) in
    inl (subst (λ (ys : List Name). In x ys) same fixed)
rooted_as s begun x xs begins (inr made) = inr made

-- an entry that may come after what was seen may be drawn, where its home has room
pub may_draw : (s : System) (e : HistoryEntry) (v : View HistoryEntry Name) → MayEnter s [] e v → entries_at e v.seen < 281474976710656
    → MayDraw machine s e v
may_draw s e v may room = record {
  keeps = may.keeps;
  fresh = λ n x above made was. may.fresh x made was;
  fits = record {
    needed = λ begun begins opened. record {
      taken = (may.taken begun.opened begins.opening).0;
      rooted = λ x about. rooted_as s begun x v.seen begins (may.sound.rooted x (may.keeps x about));
      fresh = may.fresh;
    };
    followed = λ x about begun begins. tt;
  };
  room = room;
}

pub more_at : (s : System) (e : HistoryEntry) (v w : View HistoryEntry Name) → Enters s e v w → entries_at e w.seen ≡ entries_at e v.seen + 1
more_at s e v w d = home_more d.1 machine_lawful

pub one_entered : (s : System) (e : HistoryEntry) (v w : View HistoryEntry Name) → Enters s e v w → EntersAll s [] e v w
one_entered s e v w d = record {
  entries = (d.0, e) ∷ [];
  are = refl;
  seen = drawn_seen d.1;
  keeps = λ x kept lasts. still_kept d.1 x kept lasts;
  makes = λ x made. made_kept d.1 x made;
  legal = d.1.legal;
  sound = d.1.sound;
}

-- ---- a step in doubt that had landed, and the call's own entry

or_false : (b : Bool) → (b || false) ≡ b
or_false true = refl
or_false false = refl

joined : {A : Type 0} (xs : List A) (a b : A) → (xs ++ a ∷ []) ++ b ∷ [] ≡ xs ++ a ∷ b ∷ []
joined [] a b = refl
joined (x ∷ xs) a b = ap (λ ys. x ∷ ys) (joined xs a b)

module _ (s : System) (w : ℕ) (c : Component) (e : HistoryEntry) (v : View HistoryEntry Name) (home : component_name c ≡ home_of e.event)
    (may : MayEnter s (landed_entry w c ∷ []) e v) where
  abbrev Landed : HistoryEntry
  Landed = landed_entry w c

  -- it is about the component alone
  landed_about : (x : Name) → is_about Landed x ≡ true → is_about e x ≡ true
  landed_about x is =
      let same : component_name c ≡ x = same_name_is (component_name c) x (sym (or_false (same_name (component_name c) x)) ∙ is) in
      subst (λ y. is_about e y ≡ true) (sym home ∙ same) (home_told e)

  pub landed_may : MayEnter s [] Landed v
  landed_may = record {
    sound = may.sound;
    keeps = λ x is. may.keeps x (landed_about x is);
    taken = λ j opening. ((may.taken j opening).0, tt);
    fresh = λ x made was. made;
  }

  module _ (u : View HistoryEntry Name) (d : Enters s Landed v u) where
    seen_then : (j : Joint) → state_seen j u.seen ≡ joint_after (state_seen j v.seen) Landed
    seen_then j = ap (λ xs. state_seen j xs) (drawn_seen d.1) ∙ state-last j v.seen (d.0, Landed)

    was_made : (x : Name) → MadeIn x u.seen → MadeIn x v.seen
    was_made x by = made_before (in_append by.0 v.seen ((d.0, Landed) ∷ []) (subst (λ (xs : List (ℕ × HistoryEntry)). In by.0 xs) (drawn_seen d.1) by.1)) where
      made_before : In by.0 v.seen ⊎ In by.0 ((d.0, Landed) ∷ []) → MadeIn x v.seen
      made_before (inl before) = (by.0, before, by.2)
      made_before (inr (inl is)) = absurd (subst (λ (a : ℕ × HistoryEntry). In x (made_by a.1.event a.1.answer)) is by.2)
      made_before (inr (inr none)) = absurd none

    pub call_may : MayEnter s [] e u
    call_may = record {
      sound = d.1.sound;
      keeps = λ x about. still_kept d.1 x (may.keeps x about) refl;
      taken = λ j opening. subst (λ k. TakenAll k (e ∷ [])) (sym (seen_then j)) (may.taken j opening).1;
      fresh = λ x made was. may.fresh x made (was_made x was);
    }

    pub both_entered : (t : View HistoryEntry Name) → Enters s e u t → EntersAll s (Landed ∷ []) e v t
    both_entered t f = record {
      entries = (d.0, Landed) ∷ (f.0, e) ∷ [];
      are = refl;
      seen = drawn_seen f.1 ∙ (ap (λ xs. xs ++ (f.0, e) ∷ []) (drawn_seen d.1) ∙ joined v.seen (d.0, Landed) (f.0, e));
      keeps = λ x kept lasts. still_kept f.1 x (still_kept d.1 x kept refl) lasts;
      makes = λ x made. made_kept f.1 x made;
      legal = f.1.legal;
      sound = f.1.sound;
    }

-- ---- what a pass knows is sound

-- of a pass that has seen nothing and keeps the fixed names
pub sound_begun : (s : System) (v : View HistoryEntry Name) → v.seen ≡ [] → v.keeps ≡ machine.fixed s → IsSound machine s v
sound_begun s v seen keeps = record {
  rises = subst (λ (xs : List (ℕ × HistoryEntry)). Rises 0 xs) (sym seen) tt;
  lives = λ x kept b there ends. subst (λ (xs : List (ℕ × HistoryEntry)). In b xs) seen there;
  rooted = λ x kept. inl (subst (λ (xs : List Name). In x xs) keeps kept);
}

-- of one that keeps some of these names
pub sound_fewer : (s : System) (v : View HistoryEntry Name) (names : List Name) → IsSound machine s v → ((x : Name) → In x names → In x v.keeps)
    → IsSound machine s (view v.seen names)
sound_fewer s v names sound fewer = record {
  rises = sound.rises;
  lives = λ x kept b there ends. sound.lives x (fewer x kept) b there ends;
  rooted = λ x kept. sound.rooted x (fewer x kept);
}
