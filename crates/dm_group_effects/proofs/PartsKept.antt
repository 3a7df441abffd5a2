-- Each part of a plan of a group keeps the joint state where it keeps the group's side: what is spent, a heal, a record that
-- lands or comes into doubt, what is left on a volume, and what is made.
use Rattle.std.proofs.Common.{◌≡◌, ◌≢◌, ℕ, Bool, true, false, Option, Some, None, IsSome, is_some, List, refl, sym, ap, ◌∙◌, subst, inl, inr}
use Rattle.std.specs.FinMap as map
use Rattle.dm_base.specs.declared.identifier.Bfid.{Bfid}
use Rattle.dm_base.specs.declared.identifier.GroupId.{GroupId}
use Rattle.dm_tables.specs.Rows.{EachRow, adjust}
use Rattle.dm_tables.proofs.Adjusted.{adjusted-beside, adjusted-here, adjusted_row}
use Rattle.dm_tables.proofs.Orders.{numbers, same_or}
use Rattle.dm_tables.proofs.Rows.{each-insert, get-beside, get-here, removed-beside}
use Rattle.dm_durable.specs.declared.daemon.Entry.{Entry}
use Rattle.dm_durable.specs.declared.group.GroupRecord.{GroupRecord}
use Rattle.dm_durable.specs.declared.group.GroupStep.{GroupStep}
use Rattle.dm_durable.specs.declared.group.GroupStep.TheVariants as step
use Rattle.dm_durable.specs.declared.group.GroupTables.{GroupTables}
use Rattle.dm_durable.specs.Group.{group_after_step}
use Rattle.dm_durable.specs.Tables.{ByNumber}
use Rattle.dm_model.specs.declared.call.Component.TheVariants as component
use Rattle.dm_model.specs.declared.plan.Ending.{Ending}
use Rattle.dm_model.specs.declared.plan.Ending.TheVariants as ending
use Rattle.dm_model.specs.declared.plan.Mark.{Mark}
use Rattle.dm_model.specs.declared.plan.Mark.TheVariants as mark
use Rattle.dm_model.specs.declared.plan.Opening.{Opening}
use Rattle.dm_model.specs.declared.plan.Opening.TheVariants as opening
use Rattle.dm_model.specs.declared.plan.Payload.TheVariants as payload
use Rattle.dm_model.specs.declared.state.GroupHistory.{GroupHistory}
use Rattle.dm_model.specs.declared.state.History.{History}
use Rattle.dm_model.specs.declared.state.Joint.{Joint}
use Rattle.dm_model.specs.declared.state.Side.{Side}
use Rattle.dm_model.specs.Effects.{after_ending, after_failed_mark, after_healing, after_mark, after_opening, after_payload, joint_with_doubt, group_history_or, history_after_group_step, with_committed, with_deleted}
use Rattle.dm_model.specs.SideShare.{side_after_ending, side_after_failed_mark, side_after_mark, side_after_opening, side_after_payload, side_doubting, side_without_doubt}
use Rattle.dm_model.proofs.Shares.{EndsOf, MarksOf, OpensOf}
use Rattle.dm_invariant.specs.Doubts.{DoubtPuts, GroupMayLandIf, GroupStepNeeds, NotInGroup, PutsBitfile}
use Rattle.dm_invariant.specs.Kept.{InvariantHolds, SideKept, committed_in, deleted_in}
use Rattle.dm_invariant.specs.Places.{PlacesKept}
use Rattle.dm_invariant.proofs.LookUps.{still_there}
use Rattle.dm_invariant.proofs.Options.{mapped_value, there_as}
use Rattle.dm_landing.proofs.GroupLanded.{MayLandNow, committed_after, group_lands}
use Rattle.dm_landing.proofs.VolumeBitfiles.{still_away}
use Rattle.dm_effects.proofs.ReuseOpened.{nothing_in_doubt}
use Rattle.dm_effects.proofs.Settled.{side_healed, side_in_doubt}
use Rattle.dm_group_effects.proofs.SideChanges.{KeptAs, SeenAlike, alike_settled, alike_still, side_changes, with_sides}

-- ---- what a group has done

-- the history after a step of a group: what other groups have done stays
record Did (g : ℕ) (s : GroupStep) (h : History) : Type 0 where
  groups : ByNumber GroupHistory
  is : history_after_group_step g s h ≡ record h { groups = groups }
  others : (q : ℕ) → q ≢ g → map.get groups q ≡ map.get h.groups q
  committed : committed_in (map.get groups g) ≡ committed_after s (committed_in (map.get h.groups g))
  deleted : deleted_in (map.get groups g) ≡ deleted_in (map.get h.groups g)

committed_more : (o : Option GroupHistory) (b : ℕ) → committed_in (Some (with_committed b (group_history_or o))) ≡ map.insert (committed_in o) b tt
committed_more None b = refl
committed_more (Some h) b = refl

committed_beside : (o : Option GroupHistory) (b : ℕ) → deleted_in (Some (with_committed b (group_history_or o))) ≡ deleted_in o
committed_beside None b = refl
committed_beside (Some h) b = refl

deleted_more : (o : Option GroupHistory) (b : ℕ) → deleted_in (Some (with_deleted b (group_history_or o))) ≡ map.insert (deleted_in o) b tt
deleted_more None b = refl
deleted_more (Some h) b = refl

deleted_beside : (o : Option GroupHistory) (b : ℕ) → committed_in (Some (with_deleted b (group_history_or o))) ≡ committed_in o
deleted_beside None b = refl
deleted_beside (Some h) b = refl

did : (g : ℕ) (s : GroupStep) (h : History) → Did g s h
did g (step.Volume vsn slot version size) h = record { groups = h.groups; is = refl; others = λ q differ. refl; committed = refl; deleted = refl }
did g (step.Commit b len chunks) h =
    let more = with_committed b.0 (group_history_or (map.get h.groups g)) in
    record {
      groups = map.insert h.groups g more;
      is = refl;
      others = λ q differ. get-beside numbers h.groups g more q differ;
      committed = ap committed_in (get-here numbers h.groups g more) ∙ committed_more (map.get h.groups g) b.0;
      deleted = ap deleted_in (get-here numbers h.groups g more) ∙ committed_beside (map.get h.groups g) b.0;
    }
did g (step.Delete b) h = record { groups = h.groups; is = refl; others = λ q differ. refl; committed = refl; deleted = refl }
did g (step.Move b from to) h = record { groups = h.groups; is = refl; others = λ q differ. refl; committed = refl; deleted = refl }
did g (step.Free vsn) h = record { groups = h.groups; is = refl; others = λ q differ. refl; committed = refl; deleted = refl }
did g (step.Reuse vsn epoch version) h = record { groups = h.groups; is = refl; others = λ q differ. refl; committed = refl; deleted = refl }

-- ---- bitfiles after a step

-- a bitfile stays where its entry isn't being dropped
has_after : (g : ℕ) (entries : ByNumber Entry) (contents : ByNumber (List ℕ)) (taken deleted : ByNumber (Unit {0})) (s : Side) (time : ℕ)
    (t : GroupTables) (x : GroupStep) → EachRow entries (λ b e. e.dropping ≡ is_some (map.get taken b))
    → GroupStepNeeds g entries contents taken deleted s time x
    → (b : ℕ) (e : Entry) → map.get entries b ≡ Some e → e.dropping ≡ false → IsSome (map.get t.bitfiles b)
    → IsSome (map.get (group_after_step t x).bitfiles b)
has_after g entries contents taken deleted s time t (step.Volume vsn slot version size) dropping needs b e is lasting there = there
has_after g entries contents taken deleted s time t (step.Commit c len chunks) dropping needs b e is lasting there =
    still_there numbers t.bitfiles c.0 (record { len = len; chunks = chunks }) b there
has_after g entries contents taken deleted s time t (step.Delete c) dropping needs b e is lasting there =
    let differ : b ≢ c.0 = λ same.
    let d = sym lasting ∙ dropping b e is ∙ ap (λ q. is_some (map.get taken q)) same ∙ needs in cc in
    ap is_some (removed-beside numbers t.bitfiles c.0 b differ) ∙ there
has_after g entries contents taken deleted s time t (step.Move c from to) dropping needs b e is lasting there =
    elim (same_or numbers c.0 b) [
      | inl same ↦
          subst (λ q. IsSome (map.get (group_after_step t (step.Move c from to)).bitfiles q)) (sym same)
          (there_as _ _ (sym (adjusted-here numbers t.bitfiles c.0 _))
          (mapped_value _ (map.get t.bitfiles c.0) (subst (λ q. IsSome (map.get t.bitfiles q)) same there)))
      | inr differ ↦ ap is_some (adjusted-beside numbers t.bitfiles c.0 _ b differ) ∙ there
    ]
has_after g entries contents taken deleted s time t (step.Free vsn) dropping needs b e is lasting there = there
has_after g entries contents taken deleted s time t (step.Reuse vsn epoch version) dropping needs b e is lasting there = there

-- and one that isn't there comes only by a step that puts it there
away_after : (t : GroupTables) (x : GroupStep) (b : ℕ) → (PutsBitfile b x → ⊥) → map.get t.bitfiles b ≡ None
    → map.get (group_after_step t x).bitfiles b ≡ None
away_after t (step.Volume vsn slot version size) b none away = away
away_after t (step.Commit c len chunks) b none away = get-beside numbers t.bitfiles c.0 _ b (λ same. none (sym same)) ∙ away
away_after t (step.Delete c) b none away = still_away t.bitfiles c.0 b away
away_after t (step.Move c from to) b none away = adjusted-beside numbers t.bitfiles c.0 _ b (λ same. none (sym same)) ∙ away
away_after t (step.Free vsn) b none away = away
away_after t (step.Reuse vsn epoch version) b none away = away

-- ---- the parts

-- a record may land now in this state, and puts no bitfile there that is being dropped
pub record Pays (j : Joint) (g : ℕ) (s : Side) (r : GroupRecord) : Type 0 where
  pub now : MayLandNow g j.daemon.tables.entries j.history.contents j.history.taken (deleted_in (map.get j.history.groups g)) s r
  pub lasting : (b : ℕ) (e : Entry) → map.get j.daemon.tables.entries b ≡ Some e → e.dropping ≡ true → NotInGroup b s → PutsBitfile b r.step → ⊥

-- a mark that is left on a group's side
abbrev pub IsOfSide : Mark → Type 0
IsOfSide mark.Nothing = Unit {0}
IsOfSide (mark.Zone g vsn place zone b index epoch) = Unit {0}
IsOfSide (mark.Target g vsn m place zone) = Unit {0}
IsOfSide (mark.Label g vsn m epoch version text) = Unit {0}
IsOfSide (mark.Read g b offset bytes) = ⊥
IsOfSide (mark.Source g m bytes) = Unit {0}
IsOfSide (mark.Deleted g b) = ⊥

-- what the group was told to delete isn't there, a hard delete took it, and nothing is in doubt
pub record Deletes (taken : ByNumber (Unit {0})) (s : Side) (b : ℕ) : Type 0 where
  pub away : map.get s.group.tables.bitfiles b ≡ None
  pub took : IsSome (map.get taken b)
  pub settled : s.group.doubt ≡ None

module _ (j : Joint) (kept : InvariantHolds j) (g : GroupId) (s : Side) (side : map.get j.sides g.0 ≡ Some s) where
  abbrev done : Option GroupHistory
  done = map.get j.history.groups g.0

  abbrev side_kept : KeptAs j g.0 done s
  side_kept = kept.sides g.0 s side

  one_changes : (f : Side → Side) → SeenAlike j.daemon.tables.entries s (f s) → KeptAs j g.0 done (f s)
      → InvariantHolds (with_sides (adjust j.sides g.0 f) j.history.groups j)
  one_changes f alike keeps =
      side_changes j kept g.0 s (f s) (adjust j.sides g.0 f) j.history.groups side (adjusted_row numbers j.sides g.0 f s side)
      (λ q differ. adjusted-beside numbers j.sides g.0 f q differ) (λ q differ. refl) alike keeps

  pub ending_keeps : (w : ℕ) (e : Ending) → EndsOf g e → KeptAs j g.0 done (side_after_ending e s) → InvariantHolds (after_ending w e j)
  ending_keeps w ending.Nothing of keeps = kept
  ending_keeps w (ending.Put k b groups) of keeps = absurd of
  ending_keeps w (ending.Recall k) of keeps = absurd of
  ending_keeps w (ending.Reservation h n b) of keeps =
      subst (λ (x : GroupId). InvariantHolds (after_ending w (ending.Reservation x n b) j)) (sym of)
      (one_changes (side_after_ending (ending.Reservation g n b)) (alike_still j.daemon.tables.entries s _ refl refl) keeps)
  ending_keeps w (ending.Mount h m) of keeps =
      subst (λ (x : GroupId). InvariantHolds (after_ending w (ending.Mount x m) j)) (sym of)
      (one_changes (side_after_ending (ending.Mount g m)) (alike_still j.daemon.tables.entries s _ refl refl) keeps)
  ending_keeps w (ending.Move h job source target) of keeps =
      subst (λ (x : GroupId). InvariantHolds (after_ending w (ending.Move x job source target) j)) (sym of)
      (one_changes (side_after_ending (ending.Move g job source target)) (alike_still j.daemon.tables.entries s _ refl refl) keeps)

  pub healing_keeps : (heals : Bool) → InvariantHolds (after_healing heals (component.Group g) j)
  healing_keeps false = kept
  healing_keeps true =
      one_changes (side_without_doubt true) (alike_settled j.daemon.tables.entries s _ refl refl)
      (side_healed j.daemon.tables.entries j.history.contents j.history.taken j.daemon.requests g.0 (committed_in done) (deleted_in done) true s
      side_kept)

  pub landing_keeps : (r : GroupRecord) → Pays j g.0 s r → InvariantHolds (after_payload (Some (payload.Group g r)) (after_healing true (component.Group g) j))
  landing_keeps r pays =
      let t = j.daemon.tables in
      let h = j.history in
      let d = did g.0 r.step h in
      let healed = side_without_doubt true s in
      let x = side_after_payload (Some (payload.Group g r)) healed in
      let middle = adjust j.sides g.0 (side_without_doubt true) in
      let sides = adjust middle g.0 (side_after_payload (Some (payload.Group g r))) in
      let lands =
      group_lands t.entries h.contents h.taken j.daemon.requests g.0 (committed_in done) (deleted_in done) s g kept.taken.dropping side_kept r pays.now in
      let more = subst
      (λ (c : ByNumber (Unit {0})). SideKept t.entries h.contents h.taken j.daemon.requests g.0 c (deleted_in done) x) (sym d.committed) lands in
      let keeps : KeptAs j g.0 (map.get d.groups g.0) x = subst
      (λ (c : ByNumber (Unit {0})). SideKept t.entries h.contents h.taken j.daemon.requests g.0 (committed_in (map.get d.groups g.0)) c x)
      (sym d.deleted) more in
      let alike : SeenAlike t.entries s x = record {
        has = has_after g.0 t.entries h.contents h.taken (deleted_in done) s r.time.0 (record s.group.tables { time = r.time }) r.step
            kept.taken.dropping pays.now.may.needs;
        gets = λ b e is dropping not. record {
          away = away_after (record s.group.tables { time = r.time }) r.step b (pays.lasting b e is dropping not) not.away;
          lasting = λ puts. puts;
        };
      } in
      subst (λ (y : History). InvariantHolds (record j { sides = sides; history = y })) (sym d.is)
      (side_changes j kept g.0 s x sides d.groups side
      (adjusted_row numbers middle g.0 (side_after_payload (Some (payload.Group g r))) healed
      (adjusted_row numbers j.sides g.0 (side_without_doubt true) s side))
      (λ q differ. adjusted-beside numbers middle g.0 (side_after_payload (Some (payload.Group g r))) q differ
      ∙ adjusted-beside numbers j.sides g.0 (side_without_doubt true) q differ)
      d.others alike keeps)

  pub doubting_keeps : (r : GroupRecord) → Pays j g.0 s r → InvariantHolds (joint_with_doubt (Some (payload.Group g r)) j)
  doubting_keeps r pays =
      one_changes (side_doubting (Some (payload.Group g r)))
      (record {
        has = λ b e is lasting there. there;
        gets = λ b e is dropping not. record { away = not.away; lasting = pays.lasting b e is dropping not };
      })
      (side_in_doubt j.daemon.tables.entries j.history.contents j.history.taken j.daemon.requests g.0 (committed_in done) (deleted_in done) s
      (Some (payload.Group g r)) pays.now side_kept)

  -- a step in doubt may land
  pub doubt_pays : (r : GroupRecord) → s.group.doubt ≡ Some r → Pays j g.0 s r
  doubt_pays r is = record {
    now = record {
      may = subst (GroupMayLandIf g.0 j.daemon.tables.entries j.history.contents j.history.taken (deleted_in done) s) is side_kept.doubt;
      places = subst (PlacesKept s.group.tables.bitfiles s.group.reservations s.group.moves) is side_kept.places;
    };
    lasting = λ b e there dropping not puts. not.lasting (subst (DoubtPuts b) (sym is) puts);
  }

  -- what is left on a volume
  pub mark_keeps : (w : ℕ) (x : Mark) → MarksOf g x → IsOfSide x → KeptAs j g.0 done (side_after_mark x s) → InvariantHolds (after_mark w x j)
  mark_keeps w mark.Nothing of sided keeps = kept
  mark_keeps w (mark.Zone h vsn place zone b index epoch) of sided keeps =
      subst (λ (y : GroupId). InvariantHolds (after_mark w (mark.Zone y vsn place zone b index epoch) j)) (sym of)
      (one_changes (side_after_mark (mark.Zone g vsn place zone b index epoch)) (alike_still j.daemon.tables.entries s _ refl refl) keeps)
  mark_keeps w (mark.Target h vsn m place zone) of sided keeps =
      subst (λ (y : GroupId). InvariantHolds (after_mark w (mark.Target y vsn m place zone) j)) (sym of)
      (one_changes (side_after_mark (mark.Target g vsn m place zone)) (alike_still j.daemon.tables.entries s _ refl refl) keeps)
  mark_keeps w (mark.Label h vsn m epoch version text) of sided keeps =
      subst (λ (y : GroupId). InvariantHolds (after_mark w (mark.Label y vsn m epoch version text) j)) (sym of)
      (one_changes (side_after_mark (mark.Label g vsn m epoch version text)) (alike_still j.daemon.tables.entries s _ refl refl) keeps)
  mark_keeps w (mark.Read h b offset bytes) of sided keeps = absurd sided
  mark_keeps w (mark.Source h m bytes) of sided keeps =
      subst (λ (y : GroupId). InvariantHolds (after_mark w (mark.Source y m bytes) j)) (sym of)
      (one_changes (side_after_mark (mark.Source g m bytes)) (alike_still j.daemon.tables.entries s _ refl refl) keeps)
  mark_keeps w (mark.Deleted h b) of sided keeps = absurd sided

  -- also where the write failed
  pub failed_mark_keeps : (x : Mark) → MarksOf g x → KeptAs j g.0 done (side_after_failed_mark x s) → InvariantHolds (after_failed_mark x j)
  failed_mark_keeps mark.Nothing of keeps = kept
  failed_mark_keeps (mark.Zone h vsn place zone b index epoch) of keeps =
      subst (λ (y : GroupId). InvariantHolds (after_failed_mark (mark.Zone y vsn place zone b index epoch) j)) (sym of)
      (one_changes (side_after_failed_mark (mark.Zone g vsn place zone b index epoch)) (alike_still j.daemon.tables.entries s _ refl refl) keeps)
  failed_mark_keeps (mark.Target h vsn m place zone) of keeps =
      subst (λ (y : GroupId). InvariantHolds (after_failed_mark (mark.Target y vsn m place zone) j)) (sym of)
      (one_changes (side_after_failed_mark (mark.Target g vsn m place zone)) (alike_still j.daemon.tables.entries s _ refl refl) keeps)
  failed_mark_keeps (mark.Label h vsn m epoch version text) of keeps =
      subst (λ (y : GroupId). InvariantHolds (after_failed_mark (mark.Label y vsn m epoch version text) j)) (sym of)
      (one_changes (side_after_failed_mark (mark.Label g vsn m epoch version text)) (alike_still j.daemon.tables.entries s _ refl refl) keeps)
  failed_mark_keeps (mark.Read h b offset bytes) of keeps = kept
  failed_mark_keeps (mark.Source h m bytes) of keeps =
      subst (λ (y : GroupId). InvariantHolds (after_failed_mark (mark.Source y m bytes) j)) (sym of)
      (one_changes (side_after_failed_mark (mark.Source g m bytes)) (alike_still j.daemon.tables.entries s _ refl refl) keeps)
  failed_mark_keeps (mark.Deleted h b) of keeps = kept

  -- the group was told to delete the bitfile
  pub deleted_keeps : (w : ℕ) (b : Bfid) → Deletes j.history.taken s b.0 → InvariantHolds (after_mark w (mark.Deleted g b) j)
  deleted_keeps w b deletes =
      let t = j.daemon.tables in
      let h = j.history in
      let more = with_deleted b.0 (group_history_or done) in
      let groups = map.insert h.groups g.0 more in
      let here = get-here numbers h.groups g.0 more in
      let k = side_kept in
      let keeps : SideKept t.entries h.contents h.taken j.daemon.requests g.0 (committed_in done) (map.insert (deleted_in done) b.0 tt) s = record {
        number = k.number;
        catalogue = record {
          bitfile = k.catalogue.bitfile;
          stored = k.catalogue.stored;
          commits = k.catalogue.commits;
          commits_made = k.catalogue.commits_made;
          deletes = each-insert numbers (λ q u. map.get s.group.tables.bitfiles q ≡ None) (deleted_in done) b.0 tt deletes.away k.catalogue.deletes;
          deletes_taken = each-insert numbers (λ q u. IsSome (map.get h.taken q)) (deleted_in done) b.0 tt deletes.took k.catalogue.deletes_taken;
        };
        volumes = k.volumes;
        mounts = k.mounts;
        once = k.once;
        reservations = k.reservations;
        moves = k.moves;
        reuses = k.reuses;
        places = k.places;
        doubt = nothing_in_doubt g.0 t.entries h.contents h.taken (map.insert (deleted_in done) b.0 tt) s s.group.doubt deletes.settled;
      } in
      let one = subst
      (λ (c : ByNumber (Unit {0})). SideKept t.entries h.contents h.taken j.daemon.requests g.0 c (map.insert (deleted_in done) b.0 tt) s)
      (sym (ap committed_in here ∙ deleted_beside done b.0)) keeps in
      let both : KeptAs j g.0 (map.get groups g.0) s = subst
      (λ (c : ByNumber (Unit {0})). SideKept t.entries h.contents h.taken j.daemon.requests g.0 (committed_in (map.get groups g.0)) c s)
      (sym (ap deleted_in here ∙ deleted_more done b.0)) one in
      side_changes j kept g.0 s s j.sides groups side side (λ q differ. refl) (λ q differ. get-beside numbers h.groups g.0 more q differ)
      (alike_still t.entries s s refl refl) both

  -- what is made
  pub opening_keeps : (w : ℕ) (o : Opening) → OpensOf g o → KeptAs j g.0 done (side_after_opening o s) → InvariantHolds (after_opening w o j)
  opening_keeps w opening.Nothing of keeps = kept
  opening_keeps w (opening.Put k r len groups) of keeps = absurd of
  opening_keeps w (opening.Recall k r recall) of keeps = absurd of
  opening_keeps w (opening.Reservation h n r) of keeps =
      subst (λ (y : GroupId). InvariantHolds (after_opening w (opening.Reservation y n r) j)) (sym of)
      (one_changes (side_after_opening (opening.Reservation g n r)) (alike_still j.daemon.tables.entries s _ refl refl) keeps)
  opening_keeps w (opening.Mount h m vsn epoch made) of keeps =
      subst (λ (y : GroupId). InvariantHolds (after_opening w (opening.Mount y m vsn epoch made) j)) (sym of)
      (one_changes (side_after_opening (opening.Mount g m vsn epoch made)) (alike_still j.daemon.tables.entries s _ refl refl) keeps)
  opening_keeps w (opening.Move h job moving source_epoch target_epoch) of keeps =
      subst (λ (y : GroupId). InvariantHolds (after_opening w (opening.Move y job moving source_epoch target_epoch) j)) (sym of)
      (one_changes (side_after_opening (opening.Move g job moving source_epoch target_epoch)) (alike_still j.daemon.tables.entries s _ refl refl) keeps)
  opening_keeps w (opening.Reuse h m epoch reusing reading) of keeps =
      subst (λ (y : GroupId). InvariantHolds (after_opening w (opening.Reuse y m epoch reusing reading) j)) (sym of)
      (one_changes (side_after_opening (opening.Reuse g m epoch reusing reading)) (alike_still j.daemon.tables.entries s _ refl refl) keeps)
