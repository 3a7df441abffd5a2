-- The end of a put keeps the invariant: the request goes, and so do the copies of its bitfile.
use Rattle.std.proofs.Common.{◌≡◌, ◌≢◌, ◌⊎◌, inl, inr, ℕ, true, Option, Some, None, IsSome, List, [], ◌∷◌, refl, sym, ap, subst, ◌∙◌, arith}
use Rattle.std.specs.FinMap as map
use Rattle.dm_base.specs.declared.identifier.GroupId.{GroupId}
use Rattle.dm_tables.specs.Rows.{EachRow, adjust}
use Rattle.dm_tables.proofs.Adjusted.{adjusted, adjusted_row, adjusted-beside, each-adjust}
use Rattle.dm_tables.proofs.Orders.{numbers, same_or}
use Rattle.dm_tables.proofs.Rows.{one_row, remove-none, removed, removed-beside, removed-here}
use Rattle.dm_durable.specs.declared.daemon.DaemonRecord.{DaemonRecord}
use Rattle.dm_durable.specs.declared.daemon.DaemonStep.{DaemonStep}
use Rattle.dm_durable.specs.declared.daemon.DaemonStep.TheVariants.{Write, Remove, BeginPut, Stored, EndPut, Release, Taken, Dump, Undump, Restore, HardDelete, Dropped, Restart, Age}
use Rattle.dm_durable.specs.declared.daemon.DaemonTables.{DaemonTables}
use Rattle.dm_durable.specs.Tables.{ByNumber}
use Rattle.dm_model.specs.declared.plan.Ending.TheVariants as ending
use Rattle.dm_model.specs.declared.state.CopyState.{CopyState}
use Rattle.dm_model.specs.declared.state.Group.{Group}
use Rattle.dm_model.specs.declared.state.Joint.{Joint}
use Rattle.dm_model.specs.declared.state.OpenRequest.{OpenRequest}
use Rattle.dm_model.specs.declared.state.Side.{Side}
use Rattle.dm_model.specs.Effects.{after_ending, at_each}
use Rattle.dm_model.specs.Files.{asked_by, is_put}
use Rattle.dm_model.specs.SideShare.{side_after_ending}
use Rattle.dm_invariant.specs.Doubts.{DoubtPuts, StepNeeds, MayLandIf}
use Rattle.dm_invariant.specs.Kept.{SideKept, committed_in, deleted_in, InvariantHolds}
use Rattle.dm_invariant.proofs.AskedGroups.{NumberAmong, among_cons, asked_among}
use Rattle.dm_invariant.proofs.Options.{has_value, none_some, value_of}
use Rattle.dm_effects.proofs.CopyEnded.{IsUnreserved, side_put_ended}
use Rattle.dm_effects.proofs.RequestsEnded.{requests_without, recalls_put_ended, doubt_without}
use Rattle.dm_effects.proofs.RequestsOpened.{number_free}
use Rattle.dm_effects.proofs.SidesRequests.{side_copies_stay}

-- ---- the sides of some groups change

-- what a change of a side keeps is kept of all
pub each_at_each : (P : ℕ → Side → Type 0) (f : Side → Side) (gs : List GroupId) (sides : ByNumber Side) → ((g : ℕ) (s : Side) → P g s → P g (f s))
    → EachRow sides P → EachRow (at_each f gs sides) P
each_at_each P f [] sides step each = each
each_at_each P f (g ∷ gs) sides step each =
    each_at_each P f gs (adjust sides g.0 f) step (each-adjust numbers P sides g.0 f (λ s e. step g.0 s (each g.0 s e)) each)

-- what a change of a side brings about holds of each of these groups, where it stays
pub each_changed : (P : Side → Type 0) (f : Side → Side) (gs : List GroupId) (sides : ByNumber Side) → ((s : Side) → P (f s))
    → EachRow sides (λ g s. NumberAmong g gs ⊎ P s) → EachRow (at_each f gs sides) (λ g s. P s)
each_changed P f [] sides made each = λ g s is. elim (each g s is) [ inl among ↦ absurd among.among | inr p ↦ p ]
each_changed P f (h ∷ gs) sides made each =
    each_changed P f gs (adjust sides h.0 f) made (λ g s is.
    elim (adjusted numbers sides h.0 f g s is) [
      | inl at ↦ inr (subst P (sym at.1.2) (made at.1.0))
      | inr other ↦ elim (each g s other.1) [
        | inl among ↦ elim (among_cons g h gs among) [ inl same ↦ absurd (other.0 same) | inr after ↦ inl after ]
        | inr p ↦ inr p
      ]
    ])

-- the same groups, with the same of each
pub record GroupsSame (sides later : ByNumber Side) : Type 0 where
  pub stays : EachRow sides (λ g s. (x : Side) × (map.get later g ≡ Some x) × (x.group ≡ s.group))
  pub comes : EachRow later (λ g x. (s : Side) × (map.get sides g ≡ Some s) × (x.group ≡ s.group))

module _ (f : Side → Side) (same : (s : Side) → (f s).group ≡ s.group) where
  groups_adjusted : (g : ℕ) (sides : ByNumber Side) → GroupsSame sides (adjust sides g f)
  groups_adjusted g sides = record {
    stays = λ h s is.
        elim (same_or numbers g h) [
          | inl here ↦ (f s, ap (map.get (adjust sides g f)) here ∙ adjusted_row numbers sides g f s (ap (map.get sides) (sym here) ∙ is), same s)
          | inr differ ↦ (s, adjusted-beside numbers sides g f h differ ∙ is, refl)
        ];
    comes = λ h x is.
        elim (adjusted numbers sides g f h x is) [
          | inl at ↦ (at.1.0, ap (map.get sides) at.0 ∙ at.1.1, ap (λ y. y.group) at.1.2 ∙ same at.1.0)
          | inr other ↦ (x, other.1, refl)
        ];
  }

  pub groups_at_each : (gs : List GroupId) (sides : ByNumber Side) → GroupsSame sides (at_each f gs sides)
  groups_at_each [] sides = record { stays = λ g s is. (s, is, refl); comes = λ g x is. (x, is, refl) }
  groups_at_each (g ∷ gs) sides =
      let one = groups_adjusted g.0 sides in
      let rest = groups_at_each gs (adjust sides g.0 f) in
      record {
        stays = λ h s is.
            let a = one.stays h s is in
            let b = rest.stays h a.0 a.1 in
            (b.0, b.1, b.2 ∙ a.2);
        comes = λ h x is.
            let b = rest.comes h x is in
            let a = one.comes h b.0 b.1 in
            (a.0, a.1, b.2 ∙ a.2);
      }

-- ---- a step in doubt

module _ (sides later : ByNumber Side) (on : GroupsSame sides later) where
  pub there_later : (g : ℕ) → IsSome (map.get sides g) → IsSome (map.get later g)
  there_later g there =
      let s = value_of (map.get sides g) there in
      let x = on.stays g s.0 s.1 in
      has_value (map.get later g) x.0 x.1

  needs_later : (t : DaemonTables) (requests : ByNumber OpenRequest) (contents : ByNumber (List ℕ)) (cap : ℕ) (s : DaemonStep)
      → StepNeeds t requests contents cap sides s → StepNeeds t requests contents cap later s
  needs_later t requests contents cap (Write path change bytes) needs = needs
  needs_later t requests contents cap (Remove path change) needs = needs
  needs_later t requests contents cap (BeginPut path b groups) needs = (needs.0, λ g among. there_later g.0 (needs.1 g among))
  needs_later t requests contents cap (Stored b g) needs =
      let x = on.stays g.0 needs.side needs.is in
      record { side = x.0; is = x.1; there = subst (λ (y : Group). IsSome (map.get y.tables.bitfiles b.0)) (sym x.2) needs.there }
  needs_later t requests contents cap (EndPut n b dual) needs = needs
  needs_later t requests contents cap (Release path) needs = needs
  needs_later t requests contents cap (Taken n bytes) needs = needs
  needs_later t requests contents cap (Dump name) needs = needs
  needs_later t requests contents cap (Undump name) needs = needs
  needs_later t requests contents cap (Restore name path target change) needs = needs
  needs_later t requests contents cap (HardDelete bfids) needs = needs
  needs_later t requests contents cap (Dropped b) needs = λ g x is.
      let s = on.comes g x is in
      let was = needs g s.0 s.1 in
      record {
        away = subst (λ (y : Group). map.get y.tables.bitfiles b.0 ≡ None) (sym s.2) was.away;
        lasting = subst (λ (y : Group). DoubtPuts b.0 y.doubt → ⊥) (sym s.2) was.lasting;
      }
  needs_later t requests contents cap Restart needs = needs
  needs_later t requests contents cap (Age age) needs = needs

  pub lands_later : (t : DaemonTables) (requests : ByNumber OpenRequest) (contents : ByNumber (List ℕ)) (cap : ℕ) (o : Option DaemonRecord)
      → MayLandIf t requests contents cap sides o → MayLandIf t requests contents cap later o
  lands_later t requests contents cap None lands = tt
  lands_later t requests contents cap (Some r) lands =
      record { follow = lands.follow; needs = needs_later t requests contents cap r.step lands.needs }

-- ---- a put ends

module _ (j : Joint) (kept : InvariantHolds j) (w k : ℕ) (r : OpenRequest) (is : map.get j.daemon.requests k ≡ Some r) (put : is_put r.kind ≡ true)
    (unreserved : EachRow j.sides (λ g s. IsUnreserved s.copies r.bfid.0)) where
  abbrev b : ℕ
  b = r.bfid.0

  abbrev groups : List GroupId
  groups = asked_by (map.get j.daemon.tables.entries b)

  abbrev f : Side → Side
  f = side_after_ending (ending.Put k r.bfid groups)

  -- a side as it is kept, with other requests open
  abbrev SideBeside : ByNumber OpenRequest → ℕ → Side → Type 0
  SideBeside requests g s =
      let o = map.get j.history.groups g in
      SideKept j.daemon.tables.entries j.history.contents j.history.taken requests g (committed_in o) (deleted_in o) s

  -- without its copy of the bitfile it is kept, while the request is still open
  without_copy : (g : ℕ) (s : Side) → SideBeside j.daemon.requests g s × IsUnreserved s.copies b → SideBeside j.daemon.requests g (f s) × IsUnreserved (f s).copies b
  without_copy g s k2 =
      let o = map.get j.history.groups g in
      let next = j.daemon.next_request in
      let free = number_free j.daemon.requests next next kept.requests.numbers (omega arith) in (
        subst (λ m. SideBeside m g (f s)) (remove-none numbers j.daemon.requests next free)
            (side_put_ended j.daemon.tables.entries j.history.contents j.history.taken j.daemon.requests g (committed_in o) (deleted_in o) s next r.bfid groups
            k2.1 (λ q at. absurd (none_some (map.get j.daemon.requests next) q free at)) k2.0),
        λ c at. absurd ((removed numbers s.copies b b c at).0 refl),
      )

  sides_without : EachRow (at_each f groups j.sides) (λ g s. SideBeside j.daemon.requests g s × IsUnreserved s.copies b)
  sides_without =
      each_at_each (λ g s. SideBeside j.daemon.requests g s × IsUnreserved s.copies b) f groups j.sides without_copy
      (λ g s at. (kept.sides g s at, unreserved g s at))

  -- a copy of the bitfile is of a group that was asked
  asked_or : (g : ℕ) (s : Side) → SideBeside j.daemon.requests g s → (o : Option CopyState) → map.get s.copies b ≡ o
      → NumberAmong g groups ⊎ (map.get s.copies b ≡ None)
  asked_or g s side None at = inr at
  asked_or g s side (Some c) at =
      let copy = side.reservations.copy b c at in
      inl (subst (NumberAmong g) (ap asked_by (sym copy.of.is)) (asked_among copy.of.entry g copy.of.asked))

  -- so none is left
  none_left : EachRow (at_each f groups j.sides) (λ g s. map.get s.copies b ≡ None)
  none_left =
      each_changed (λ s. map.get s.copies b ≡ None) f groups j.sides (λ s. removed-here numbers s.copies b)
      (λ g s at. asked_or g s (kept.sides g s at) (map.get s.copies b) refl)

  -- and no copy needs the request
  side_later : (g : ℕ) (s : Side) → map.get (at_each f groups j.sides) g ≡ Some s → SideBeside (map.remove j.daemon.requests k) g s
  side_later g s at =
      let o = map.get j.history.groups g in
      side_copies_stay j.daemon.tables.entries j.history.contents j.history.taken j.daemon.requests (map.remove j.daemon.requests k) g (committed_in o)
      (deleted_in o) s
      (λ q c copy own.
      let differ : c.request ≢ k = λ same.
      let one = one_row j.daemon.requests c.request k own.request r same own.is is in
      let bitfile : b ≡ q = sym (ap (λ (x : OpenRequest). x.bfid.0) one) ∙ own.same in
      none_some (map.get s.copies q) c (ap (map.get s.copies) (sym bitfile) ∙ none_left g s at) copy in
      record {
        request = own.request;
        is = removed-beside numbers j.daemon.requests k c.request differ ∙ own.is;
        put = own.put;
        same = own.same;
      })
      (sides_without g s at).0

  pub put_ended : InvariantHolds (after_ending w (ending.Put k r.bfid groups) j)
  put_ended =
      let t = j.daemon.tables in
      let h = j.history in
      let on = groups_at_each f (λ s. refl) groups j.sides in
      record {
        files = kept.files;
        dumps = kept.dumps;
        taken = kept.taken;
        requests = requests_without j.daemon.requests j.daemon.next_request k t.inodes t.entries h.contents kept.requests;
        recalls = recalls_put_ended j.workers j.daemon.requests k r t.entries h.contents is put kept.recalls;
        configured = λ q e at g among. there_later j.sides (at_each f groups j.sides) on g.0 (kept.configured q e at g among);
        sides = side_later;
        doubt = lands_later j.sides (at_each f groups j.sides) on t (map.remove j.daemon.requests k) h.contents j.daemon.cap j.daemon.doubt
            (doubt_without t j.daemon.requests k h.contents j.daemon.cap j.sides j.daemon.doubt kept.doubt);
      }
