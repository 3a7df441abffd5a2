-- The opening of a put keeps the invariant: there is one more request, and a copy in each group that was asked.
use Rattle.std.proofs.Common.{◌≡◌, ◌≢◌, ◌⊎◌, inl, inr, ℕ, true, Some, None, List, [], ◌∷◌, refl, sym, ap, subst, ◌∙◌}
use Rattle.std.specs.FinMap as map
use Rattle.std.proofs.lemmas.Bool.{eq-eqb}
use Rattle.dm_base.specs.declared.identifier.GroupId.{GroupId}
use Rattle.dm_tables.specs.Rows.{adjust}
use Rattle.dm_tables.proofs.Adjusted.{adjusted, adjusted-beside}
use Rattle.dm_tables.proofs.Orders.{numbers}
use Rattle.dm_durable.specs.DaemonConditions.{OneOrTwo}
use Rattle.dm_durable.specs.Entries.{groups_asked}
use Rattle.dm_durable.specs.Tables.{ByNumber}
use Rattle.dm_model.specs.declared.plan.Opening.TheVariants as opening
use Rattle.dm_model.specs.declared.state.CopyState.{CopyState}
use Rattle.dm_model.specs.declared.state.Joint.{Joint}
use Rattle.dm_model.specs.declared.state.OpenRequest.{OpenRequest}
use Rattle.dm_model.specs.declared.state.Side.{Side}
use Rattle.dm_model.specs.Effects.{after_opening, at_each}
use Rattle.dm_model.specs.Files.{is_put}
use Rattle.dm_model.specs.SideShare.{side_after_opening}
use Rattle.dm_invariant.specs.Doubts.{MayLandIf}
use Rattle.dm_invariant.specs.Kept.{SideKept, committed_in, deleted_in, InvariantHolds}
use Rattle.dm_invariant.proofs.AskedGroups.{NumberAmong, among_asked, number_first, number_later}
use Rattle.dm_effects.proofs.CopyOpened.{side_put_opened}
use Rattle.dm_effects.proofs.PutEnded.{groups_at_each, there_later}
use Rattle.dm_effects.proofs.RequestsOpened.{RequestOpens, number_free, requests_with, recalls_request_opened}
use Rattle.dm_effects.proofs.SidesRequests.{side_puts_stay, puts_stay_with}

-- a side of the tables after a change at each of these groups was one that is among them and changed, or one that isn't
record ChangedSide (f : Side → Side) (groups : List GroupId) (sides : ByNumber Side) (g : ℕ) (s : Side) : Type 0 where
  pub side : Side
  pub is : map.get sides g ≡ Some side
  pub how : (NumberAmong g groups × (s ≡ f side)) ⊎ (s ≡ side)

changed_side : (f : Side → Side) (groups : List GroupId) (sides : ByNumber Side) → OneOrTwo groups → (g : ℕ) (s : Side)
    → map.get (at_each f groups sides) g ≡ Some s → ChangedSide f groups sides g s
changed_side f [] sides some g s is = absurd some
changed_side f (h ∷ []) sides some g s is =
    elim (adjusted numbers sides h.0 f g s is) [
      | inl at ↦ record { side = at.1.0; is = ap (map.get sides) at.0 ∙ at.1.1; how = inl (number_first g h [] at.0, at.1.2) }
      | inr beside ↦ record { side = s; is = beside.1; how = inr refl }
    ]
changed_side f (h ∷ i ∷ []) sides differ g s is =
    elim (adjusted numbers (adjust sides h.0 f) i.0 f g s is) [
      | inl at ↦
          let apart : i.0 ≢ h.0 = λ e. let t = eq-eqb h.0 i.0 (sym e) in cc in
          let was : map.get sides g ≡ Some at.1.0 = ap (map.get sides) at.0 ∙ sym (adjusted-beside numbers sides h.0 f i.0 apart) ∙ at.1.1 in
          record { side = at.1.0; is = was; how = inl (number_later g h (i ∷ []) (number_first g i [] at.0), at.1.2) }
      | inr beside ↦ elim (adjusted numbers sides h.0 f g s beside.1) [
        | inl at ↦ record { side = at.1.0; is = ap (map.get sides) at.0 ∙ at.1.1; how = inl (number_first g h (i ∷ []) at.0, at.1.2) }
        | inr other ↦ record { side = s; is = other.1; how = inr refl }
      ]
    ]
changed_side f (h ∷ i ∷ k ∷ rest) sides some g s is = absurd some

module _ (j : Joint) (kept : InvariantHolds j) (settled : j.daemon.doubt ≡ None) (w k : ℕ) (r : OpenRequest) (len : ℕ) (put : is_put r.kind ≡ true)
    (opens : RequestOpens j.daemon.requests j.daemon.next_request j.daemon.tables.inodes j.daemon.tables.entries j.history.contents k r)
    (len_is : opens.entry.entry.len ≡ len) where
  abbrev groups : List GroupId
  groups = groups_asked opens.entry.entry

  abbrev f : Side → Side
  f = side_after_opening (opening.Put k r len groups)

  abbrev SideLater : ℕ → Side → Type 0
  SideLater g s =
      let o = map.get j.history.groups g in
      SideKept j.daemon.tables.entries j.history.contents j.history.taken (map.insert j.daemon.requests k r) g (committed_in o) (deleted_in o) s

  free : map.get j.daemon.requests k ≡ None
  free = number_free j.daemon.requests j.daemon.next_request k kept.requests.numbers opens.new

  -- no copy of the bitfile is there yet: its put would be open
  no_copy : (g : ℕ) (s : Side) → map.get j.sides g ≡ Some s → (c : CopyState) → map.get s.copies r.bfid.0 ≡ Some c → ⊥
  no_copy g s at c copy =
      let own = ((kept.sides g s at).reservations.copy r.bfid.0 c copy).put in
      opens.alone put (record { number = c.request; request = own.request; is = own.is; put = own.put; same = own.same })

  copy_opened : (g : ℕ) (s : Side) → map.get j.sides g ≡ Some s → NumberAmong g groups → SideLater g (f s)
  copy_opened g s at among =
      let o = map.get j.history.groups g in
      let e = opens.entry.entry in
      side_put_opened j.daemon.tables.entries j.history.contents j.history.taken j.daemon.requests g (committed_in o) (deleted_in o) s k r len groups
      (record {
        free = free;
        put = put;
        of = record {
          entry = e;
          is = opens.entry.is;
          asked = among_asked e g among;
          bytes = opens.content.bytes;
          content = opens.content.is;
          sized = sym (opens.content.len e opens.entry.is);
        };
        len_is = len_is;
        unreserved = λ c copy. absurd (no_copy g s at c copy);
      }) (kept.sides g s at)

  side_stays : (g : ℕ) (s : Side) → map.get j.sides g ≡ Some s → SideLater g s
  side_stays g s at =
      let o = map.get j.history.groups g in
      side_puts_stay j.daemon.tables.entries j.history.contents j.history.taken j.daemon.requests (map.insert j.daemon.requests k r) g (committed_in o)
      (deleted_in o) s (puts_stay_with j.daemon.requests k r free) (kept.sides g s at)

  side_later : (g : ℕ) (s : Side) → map.get (at_each f groups j.sides) g ≡ Some s → SideLater g s
  side_later g s at =
      let asked = (kept.files.state.entries r.bfid.0 opens.entry.entry opens.entry.is).asked in
      let was = changed_side f groups j.sides asked g s at in
      elim was.how [
        | inl changed ↦ subst (SideLater g) (sym changed.1) (copy_opened g was.side was.is changed.0)
        | inr same ↦ subst (SideLater g) (sym same) (side_stays g was.side was.is)
      ]

  pub put_opened : InvariantHolds (after_opening w (opening.Put k r len groups) j)
  put_opened =
      let t = j.daemon.tables in
      let h = j.history in
      let later = at_each f groups j.sides in
      record {
        files = kept.files;
        dumps = kept.dumps;
        taken = kept.taken;
        requests = requests_with j.daemon.requests j.daemon.next_request k r t.inodes t.entries h.contents opens kept.requests;
        recalls = recalls_request_opened j.workers j.daemon.requests k r t.entries h.contents kept.recalls free;
        configured = λ q e at g among. there_later j.sides later (groups_at_each f (λ s. refl) groups j.sides) g.0 (kept.configured q e at g among);
        sides = side_later;
        doubt = subst (λ o. MayLandIf t (map.insert j.daemon.requests k r) h.contents j.daemon.cap later o) (sym settled) tt;
      }
