-- One group's side changes, and what that group has done: the joint state is kept where the side is, and where a step of the
-- daemon in doubt still finds there what it needs.
use Rattle.std.proofs.Common.{◌≡◌, ◌≢◌, ℕ, true, false, Option, Some, None, IsSome, is_some, List, sym, ap, ◌∙◌, subst, inl, inr}
use Rattle.std.specs.FinMap as map
use Rattle.dm_tables.specs.Rows.{EachRow}
use Rattle.dm_tables.proofs.Orders.{numbers, same_or}
use Rattle.dm_durable.specs.declared.daemon.DaemonRecord.{DaemonRecord}
use Rattle.dm_durable.specs.declared.daemon.DaemonStep.{DaemonStep}
use Rattle.dm_durable.specs.declared.daemon.DaemonStep.TheVariants.{Write, Remove, BeginPut, Stored, EndPut, Release, Taken, Dump, Undump, Restore, HardDelete, Dropped, Restart, Age}
use Rattle.dm_durable.specs.declared.daemon.DaemonTables.{DaemonTables}
use Rattle.dm_durable.specs.declared.daemon.Entry.{Entry}
use Rattle.dm_durable.specs.DaemonConditions.{MayStep}
use Rattle.dm_durable.specs.Tables.{ByNumber}
use Rattle.dm_model.specs.declared.state.GroupHistory.{GroupHistory}
use Rattle.dm_model.specs.declared.state.Joint.{Joint}
use Rattle.dm_model.specs.declared.state.OpenRequest.{OpenRequest}
use Rattle.dm_model.specs.declared.state.Side.{Side}
use Rattle.dm_invariant.specs.Doubts.{DoubtPuts, InGroup, MayLandIf, NotInGroup, StepNeeds}
use Rattle.dm_invariant.specs.Kept.{InvariantHolds, SideKept, committed_in, deleted_in}
use Rattle.dm_invariant.proofs.Options.{has_value, same_row}

-- what a step of the daemon in doubt looks at in a group: a bitfile that isn't being dropped stays, and one that is being
-- dropped doesn't come
pub record SeenAlike (entries : ByNumber Entry) (s x : Side) : Type 0 where
  pub has : (b : ℕ) (e : Entry) → map.get entries b ≡ Some e → e.dropping ≡ false → IsSome (map.get s.group.tables.bitfiles b)
      → IsSome (map.get x.group.tables.bitfiles b)
  pub gets : (b : ℕ) (e : Entry) → map.get entries b ≡ Some e → e.dropping ≡ true → NotInGroup b s → NotInGroup b x

-- it sees the same where bitfiles and doubts stay
pub alike_still : (entries : ByNumber Entry) (s x : Side) → x.group.tables.bitfiles ≡ s.group.tables.bitfiles → x.group.doubt ≡ s.group.doubt
    → SeenAlike entries s x
alike_still entries s x bitfiles doubt = record {
  has = λ b e is lasting there. subst (λ m. IsSome (map.get m b)) (sym bitfiles) there;
  gets = λ b e is dropping not. record {
    away = ap (λ m. map.get m b) bitfiles ∙ not.away;
    lasting = λ puts. not.lasting (subst (DoubtPuts b) doubt puts);
  };
}

-- and where nothing is in doubt any more
pub alike_settled : (entries : ByNumber Entry) (s x : Side) → x.group.tables.bitfiles ≡ s.group.tables.bitfiles → x.group.doubt ≡ None
    → SeenAlike entries s x
alike_settled entries s x bitfiles none = record {
  has = λ b e is lasting there. subst (λ m. IsSome (map.get m b)) (sym bitfiles) there;
  gets = λ b e is dropping not. record {
    away = ap (λ m. map.get m b) bitfiles ∙ not.away;
    lasting = λ puts. subst (DoubtPuts b) none puts;
  };
}

-- ---- the sides with one of them changed

module _ (g : ℕ) (sides later : ByNumber Side) (s x : Side) (side : map.get sides g ≡ Some s) (now : map.get later g ≡ Some x)
    (beside : (q : ℕ) → q ≢ g → map.get later q ≡ map.get sides q) where
  configured_later : (q : ℕ) → IsSome (map.get sides q) → IsSome (map.get later q)
  configured_later q there =
      elim (same_or numbers g q) [
        | inl here ↦ has_value (map.get later q) x (ap (map.get later) here ∙ now)
        | inr differ ↦ ap is_some (beside q differ) ∙ there
      ]

  each_later : (P : ℕ → Side → Type 0) → P g x → ((q : ℕ) (y : Side) → q ≢ g → map.get sides q ≡ Some y → P q y) → EachRow later P
  each_later P here others = λ q y is.
      elim (same_or numbers g q) [
        | inl at ↦
            subst (λ i. P i y) (sym at)
            (subst (P g) (same_row (map.get later g) x y now (ap (map.get later) (sym at) ∙ is)) here)
        | inr differ ↦ others q y differ (sym (beside q differ) ∙ is)
      ]

  module _ (entries : ByNumber Entry) (alike : SeenAlike entries s x) where
    in_group_later : (h b : ℕ) (e : Entry) → map.get entries b ≡ Some e → e.dropping ≡ false → InGroup sides h b → InGroup later h b
    in_group_later h b e is lasting k =
        elim (same_or numbers g h) [
          | inl at ↦
              let same : k.side ≡ s = same_row (map.get sides g) k.side s (ap (map.get sides) (sym at) ∙ k.is) side in
              record {
                side = x;
                is = ap (map.get later) at ∙ now;
                there = alike.has b e is lasting (subst (λ (y : Side). IsSome (map.get y.group.tables.bitfiles b)) same k.there);
              }
          | inr differ ↦ record { side = k.side; is = beside h differ ∙ k.is; there = k.there }
        ]

    not_in_group_later : (b : ℕ) (e : Entry) → map.get entries b ≡ Some e → e.dropping ≡ true → EachRow sides (λ g s. NotInGroup b s)
        → EachRow later (λ g s. NotInGroup b s)
    not_in_group_later b e is dropping none =
        each_later (λ q y. NotInGroup b y) (alike.gets b e is dropping (none g s side)) (λ q y differ at. none q y at)

  needs_later : (t : DaemonTables) (requests : ByNumber OpenRequest) (contents : ByNumber (List ℕ)) (cap time : ℕ) (step : DaemonStep)
      → SeenAlike t.entries s x → MayStep t time step
      → StepNeeds t requests contents cap sides step → StepNeeds t requests contents cap later step
  needs_later t requests contents cap time (Write path change bytes) alike may needs = needs
  needs_later t requests contents cap time (Remove path change) alike may needs = needs
  needs_later t requests contents cap time (BeginPut path b groups) alike may needs =
      (needs.0, λ h among. configured_later h.0 (needs.1 h among))
  needs_later t requests contents cap time (Stored b h) alike may needs =
      in_group_later t.entries alike h.0 b.0 may.entry may.is may.lasting needs
  needs_later t requests contents cap time (EndPut n b dual) alike may needs = needs
  needs_later t requests contents cap time (Release path) alike may needs = needs
  needs_later t requests contents cap time (Taken n bytes) alike may needs = needs
  needs_later t requests contents cap time (Dump name) alike may needs = needs
  needs_later t requests contents cap time (Undump name) alike may needs = needs
  needs_later t requests contents cap time (Restore name path target change) alike may needs = needs
  needs_later t requests contents cap time (HardDelete bfids) alike may needs = needs
  needs_later t requests contents cap time (Dropped b) alike may needs =
      not_in_group_later t.entries alike b.0 may.entry may.is may.dropping needs
  needs_later t requests contents cap time Restart alike may needs = needs
  needs_later t requests contents cap time (Age age) alike may needs = needs

  lands_later : (t : DaemonTables) (requests : ByNumber OpenRequest) (contents : ByNumber (List ℕ)) (cap : ℕ) (o : Option DaemonRecord)
      → SeenAlike t.entries s x → MayLandIf t requests contents cap sides o → MayLandIf t requests contents cap later o
  lands_later t requests contents cap None alike lands = tt
  lands_later t requests contents cap (Some r) alike lands = record {
    follow = lands.follow;
    needs = needs_later t requests contents cap r.time.0 r.step alike lands.follow.step lands.needs;
  }

-- ---- the joint state

-- the state with these sides, and this of what groups have done
abbrev pub with_sides : ByNumber Side → ByNumber GroupHistory → Joint → Joint
with_sides sides groups j = record j { sides = sides; history = record j.history { groups = groups } }

-- what is kept of a side of the state, by what its group has done
abbrev pub KeptAs : Joint → ℕ → Option GroupHistory → Side → Type 0
KeptAs j g h x =
    SideKept j.daemon.tables.entries j.history.contents j.history.taken j.daemon.requests g (committed_in h) (deleted_in h) x

pub side_changes : (j : Joint) → InvariantHolds j → (g : ℕ) (s x : Side) (sides : ByNumber Side) (groups : ByNumber GroupHistory)
    → map.get j.sides g ≡ Some s → map.get sides g ≡ Some x → ((q : ℕ) → q ≢ g → map.get sides q ≡ map.get j.sides q)
    → ((q : ℕ) → q ≢ g → map.get groups q ≡ map.get j.history.groups q)
    → SeenAlike j.daemon.tables.entries s x → KeptAs j g (map.get groups g) x
    → InvariantHolds (with_sides sides groups j)
side_changes j kept g s x sides groups side now beside others alike keeps =
    let t = j.daemon.tables in
    record {
      files = kept.files;
      dumps = kept.dumps;
      taken = kept.taken;
      requests = kept.requests;
      recalls = kept.recalls;
      configured = λ b e is h among. configured_later g j.sides sides s x side now beside h.0 (kept.configured b e is h among);
      sides = each_later g j.sides sides s x side now beside (λ q y. KeptAs j q (map.get groups q) y) keeps
          (λ q y differ at. subst (λ o. KeptAs j q o y) (sym (others q differ)) (kept.sides q y at));
      doubt = lands_later g j.sides sides s x side now beside t j.daemon.requests j.history.contents j.daemon.cap j.daemon.doubt alike kept.doubt;
    }
