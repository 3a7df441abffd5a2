-- What each part of a plan leaves of the copies that are asked for.
use Rattle.std.proofs.Common.{◌≡◌, ◌≢◌, ◌⊎◌, ◌<◌, ◌≤◌, ◌+◌, ℕ, Bool, true, false, Option, None, Some, List, [], ◌∷◌, refl, sym, ap, subst, ◌∙◌, arith, inl, inr}
use Rattle.std.specs.FinMap as map
use Rattle.dm_base.specs.declared.identifier.Bfid.{Bfid}
use Rattle.dm_base.specs.declared.identifier.GroupId.{GroupId}
use Rattle.dm_tables.specs.Rows.{EachRow, adjust}
use Rattle.dm_tables.proofs.Adjusted.{each-adjust}
use Rattle.dm_tables.proofs.Orders.{numbers}
use Rattle.dm_tables.proofs.Rows.{each-insert, each-remove, get-here, one_row, removed-beside, removed-here}
use Rattle.dm_durable.specs.declared.daemon.DaemonRecord.{DaemonRecord}
use Rattle.dm_durable.specs.declared.daemon.DaemonStep.{DaemonStep}
use Rattle.dm_durable.specs.declared.daemon.DaemonStep.TheVariants.{Write, Remove, BeginPut, Stored, EndPut, Release, Taken, Dump, Undump, Restore, HardDelete, Dropped, Restart, Age}
use Rattle.dm_durable.specs.declared.daemon.DaemonTables.{DaemonTables}
use Rattle.dm_durable.specs.declared.group.GroupStep.{GroupStep}
use Rattle.dm_durable.specs.declared.group.GroupStep.TheVariants as group_step
use Rattle.dm_durable.specs.DaemonJournal.{IsGiven}
use Rattle.dm_durable.specs.Entries.{new_entry}
use Rattle.dm_durable.specs.Tables.{ByNumber}
use Rattle.dm_model.specs.declared.call.Component.{Component}
use Rattle.dm_model.specs.declared.call.Component.TheVariants as component
use Rattle.dm_model.specs.declared.plan.Ending.{Ending}
use Rattle.dm_model.specs.declared.plan.Ending.TheVariants as ending
use Rattle.dm_model.specs.declared.plan.Mark.{Mark}
use Rattle.dm_model.specs.declared.plan.Mark.TheVariants as mark
use Rattle.dm_model.specs.declared.plan.Opening.{Opening}
use Rattle.dm_model.specs.declared.plan.Opening.TheVariants as opening
use Rattle.dm_model.specs.declared.plan.Payload.{Payload}
use Rattle.dm_model.specs.declared.plan.Payload.TheVariants as payload
use Rattle.dm_model.specs.declared.state.CopyState.{CopyState}
use Rattle.dm_model.specs.declared.state.Daemon.{Daemon}
use Rattle.dm_model.specs.declared.state.History.{History}
use Rattle.dm_model.specs.declared.state.Joint.{Joint}
use Rattle.dm_model.specs.declared.state.MountState.{MountState}
use Rattle.dm_model.specs.declared.state.OpenRequest.{OpenRequest}
use Rattle.dm_model.specs.declared.state.Origin.{Origin}
use Rattle.dm_model.specs.declared.state.Origin.TheVariants as origin
use Rattle.dm_model.specs.declared.state.Side.{Side}
use Rattle.dm_model.specs.DaemonShare.{daemon_after_ending}
use Rattle.dm_model.specs.Effects.{after_ending, after_failed_mark, after_healing, after_mark, after_opening, after_payload, at_each, joint_with_doubt, groups_of_mark, history_after_group_step}
use Rattle.dm_model.specs.Files.{asked_by, is_put}
use Rattle.dm_model.specs.SideShare.{copies_mounted, copies_unmounted, copies_unmounted_if, side_after_ending, side_after_failed_mark, side_after_mark, side_after_opening, side_after_payload, side_doubting, side_without_doubt}
use Rattle.dm_invariant.specs.Reservations.{PutOf}
use Rattle.dm_invariant.proofs.AskedGroups.{NumberAmong, among_asked, asked_among, number_first, number_later}
use Rattle.dm_invariant.proofs.Options.{none_some}
use Rattle.dm_landing.proofs.CopiesStored.{new_asked}
use Rattle.dm_landing.proofs.RequestsLanded.{was_request}
use Rattle.dm_effects.proofs.PutEnded.{each_at_each, each_changed}
use Rattle.dm_effects.proofs.RequestsOpened.{number_free}
use Rattle.dm_effects.proofs.SidesRequests.{puts_stay_with, puts_stay_without}
use Rattle.dm_copies.specs.Asked.{CopyIsAsked, DoubtSpares, StepSpares}
use Rattle.dm_copies.proofs.TablesStay.{contents_given, copy_paid}

-- ---- what is kept, but for a step in doubt

pub record Standing (t : DaemonTables) (requests : ByNumber OpenRequest) (next : ℕ) (contents : ByNumber (List ℕ)) (sides : ByNumber Side) : Type 0 where
  pub numbers : EachRow requests (λ k r. k < next)
  pub given : EachRow contents (λ b bytes. IsGiven t.site t.counter b)
  pub copies : EachRow sides (λ g s. EachRow s.copies (CopyIsAsked t requests g))

abbrev pub Stands : Joint → Type 0
Stands j = Standing j.daemon.tables j.daemon.requests j.daemon.next_request j.history.contents j.sides

-- ---- the copies of a side

module _ (t : DaemonTables) (requests : ByNumber OpenRequest) (g : ℕ) where
  abbrev Asked : ByNumber CopyState → Type 0
  Asked copies = EachRow copies (CopyIsAsked t requests g)

  same_request : (b : ℕ) (c d : CopyState) → d.request ≡ c.request → CopyIsAsked t requests g b c → CopyIsAsked t requests g b d
  same_request b c d same kept = record {
    given = kept.given;
    entry = kept.entry;
    is = kept.is;
    asked = kept.asked;
    lasting = kept.lasting;
    put = subst (λ k. PutOf requests k b) (sym same) kept.put;
  }

  changed : (copies : ByNumber CopyState) (b : ℕ) (f : CopyState → CopyState) → ((c : CopyState) → (f c).request ≡ c.request) → Asked copies
      → Asked (adjust copies b f)
  changed copies b f same each =
      each-adjust numbers (CopyIsAsked t requests g) copies b f (λ c is. same_request b c (f c) (same c) (each b c is)) each

  unmounted : (m : ℕ) (o : Origin) (copies : ByNumber CopyState) → Asked copies → Asked (copies_unmounted m o copies)
  unmounted m (origin.New listed format) copies each = each
  unmounted m (origin.Piece b index piece chunk) copies each = changed copies b.0 _ (λ c. refl) each
  unmounted m (origin.Chunk b chunk) copies each = each
  unmounted m (origin.Source job b chunk) copies each = each
  unmounted m (origin.Target job b total chunk version) copies each = each
  unmounted m (origin.Reuse next_epoch version reading) copies each = each

  unmounted_if : (m : ℕ) (o : Option MountState) (copies : ByNumber CopyState) → Asked copies → Asked (copies_unmounted_if m o copies)
  unmounted_if m None copies each = each
  unmounted_if m (Some x) copies each = unmounted m x.origin copies each

  mounted : (m : ℕ) (o : Origin) (copies : ByNumber CopyState) → Asked copies → Asked (copies_mounted m o copies)
  mounted m (origin.New listed format) copies each = each
  mounted m (origin.Piece b index piece chunk) copies each = changed copies b.0 _ (λ c. refl) each
  mounted m (origin.Chunk b chunk) copies each = each
  mounted m (origin.Source job b chunk) copies each = each
  mounted m (origin.Target job b total chunk version) copies each = each
  mounted m (origin.Reuse next_epoch version reading) copies each = each

  side_ended : (e : Ending) (s : Side) → Asked s.copies → Asked (side_after_ending e s).copies
  side_ended ending.Nothing s each = each
  side_ended (ending.Put k b groups) s each = each-remove numbers (CopyIsAsked t requests g) s.copies b.0 each
  side_ended (ending.Recall k) s each = each
  side_ended (ending.Reservation h n b) s each = changed s.copies b.0 _ (λ c. refl) each
  side_ended (ending.Mount h m) s each = unmounted_if m (map.get s.mounts m) s.copies each
  side_ended (ending.Move h job source target) s each = each

  side_marked : (x : Mark) (s : Side) → Asked s.copies → Asked (side_after_mark x s).copies
  side_marked mark.Nothing s each = each
  side_marked (mark.Zone h vsn place zone b index epoch) s each = changed s.copies b.0 _ (λ c. refl) each
  side_marked (mark.Target h vsn m place zone) s each = each
  side_marked (mark.Label h vsn m epoch version text) s each = each
  side_marked (mark.Read h b offset bytes) s each = each
  side_marked (mark.Source h m bytes) s each = each
  side_marked (mark.Deleted h b) s each = each

  side_failed : (x : Mark) (s : Side) → Asked s.copies → Asked (side_after_failed_mark x s).copies
  side_failed mark.Nothing s each = each
  side_failed (mark.Zone h vsn place zone b index epoch) s each = changed s.copies b.0 _ (λ c. refl) each
  side_failed (mark.Target h vsn m place zone) s each = each
  side_failed (mark.Label h vsn m epoch version text) s each = each
  side_failed (mark.Read h b offset bytes) s each = each
  side_failed (mark.Source h m bytes) s each = each
  side_failed (mark.Deleted h b) s each = each

-- ---- the copies of all groups

module _ (t : DaemonTables) (requests : ByNumber OpenRequest) where
  abbrev AllAsked : ByNumber Side → Type 0
  AllAsked sides = EachRow sides (λ g s. EachRow s.copies (CopyIsAsked t requests g))

  all_changed : (f : Side → Side) (groups : List GroupId) (sides : ByNumber Side)
      → ((g : ℕ) (s : Side) → EachRow s.copies (CopyIsAsked t requests g) → EachRow (f s).copies (CopyIsAsked t requests g))
      → AllAsked sides → AllAsked (at_each f groups sides)
  all_changed f groups sides keeps each = each_at_each (λ g s. EachRow s.copies (CopyIsAsked t requests g)) f groups sides keeps each

-- the put of each copy is among other requests
other_requests : (t : DaemonTables) (requests later : ByNumber OpenRequest) (sides : ByNumber Side)
    → EachRow sides (λ g s. EachRow s.copies (λ b c. PutOf requests c.request b → PutOf later c.request b))
    → AllAsked t requests sides → AllAsked t later sides
other_requests t requests later sides stay each = λ g s at b c is.
    let kept = each g s at b c is in
    record {
      given = kept.given;
      entry = kept.entry;
      is = kept.is;
      asked = kept.asked;
      lasting = kept.lasting;
      put = stay g s at b c is kept.put;
    }

-- ---- what is spent

-- a put that ends was open, and its copies are those that the entry asks for; a recall that ends was no put
abbrev pub EndsSpare : Daemon → Ending → Type 0
EndsSpare d ending.Nothing = Unit {0}
EndsSpare d (ending.Put k b groups) =
    (r : OpenRequest) × (map.get d.requests k ≡ Some r) × (r.bfid.0 ≡ b.0) × (groups ≡ asked_by (map.get d.tables.entries b.0))
EndsSpare d (ending.Recall k) = (r : OpenRequest) × (map.get d.requests k ≡ Some r) × (is_put r.kind ≡ false)
EndsSpare d (ending.Reservation g n b) = Unit {0}
EndsSpare d (ending.Mount g m) = Unit {0}
EndsSpare d (ending.Move g job source target) = Unit {0}

module _ (t : DaemonTables) (requests : ByNumber OpenRequest) (sides : ByNumber Side) (k : ℕ) (b : Bfid) (groups : List GroupId)
    (asked : groups ≡ asked_by (map.get t.entries b.0)) (each : AllAsked t requests sides) where
  abbrev Without : Side → Side
  Without = side_after_ending (ending.Put k b groups)

  -- a copy of the bitfile is of a group that was asked
  asked_or : (g : ℕ) (s : Side) → map.get sides g ≡ Some s → (o : Option CopyState) → map.get s.copies b.0 ≡ o
      → NumberAmong g groups ⊎ (map.get s.copies b.0 ≡ None)
  asked_or g s at None is = inr is
  asked_or g s at (Some c) is =
      let kept = each g s at b.0 c is in
      inl (subst (NumberAmong g) (ap asked_by (sym kept.is) ∙ sym asked) (asked_among kept.entry g kept.asked))

  none_left : EachRow (at_each Without groups sides) (λ g s. map.get s.copies b.0 ≡ None)
  none_left =
      each_changed (λ s. map.get s.copies b.0 ≡ None) Without groups sides (λ s. removed-here numbers s.copies b.0)
      (λ g s at. asked_or g s at (map.get s.copies b.0) refl)

  put_ended : (r : OpenRequest) → map.get requests k ≡ Some r → r.bfid.0 ≡ b.0 → AllAsked t (map.remove requests k) (at_each Without groups sides)
  put_ended r is same =
      let left = at_each Without groups sides in
      let stay : EachRow left (λ g s. EachRow s.copies (λ q c. PutOf requests c.request q → PutOf (map.remove requests k) c.request q)) = λ g s at q c copy own.
      let differ : c.request ≢ k = λ number.
      let one = one_row requests c.request k own.request r number own.is is in
      let bitfile : q ≡ b.0 = sym own.same ∙ ap (λ (x : OpenRequest). x.bfid.0) one ∙ same in
      none_some (map.get s.copies q) c (ap (map.get s.copies) bitfile ∙ none_left g s at) copy in
      record { request = own.request; is = removed-beside numbers requests k c.request differ ∙ own.is; put = own.put; same = own.same } in
      other_requests t requests (map.remove requests k) left stay
      (all_changed t requests Without groups sides (λ g s kept. side_ended t requests g (ending.Put k b groups) s kept) each)

pub ended : (w : ℕ) (e : Ending) (j : Joint) → EndsSpare j.daemon e → Stands j → Stands (after_ending w e j)
ended w ending.Nothing j spares k = record { numbers = k.numbers; given = k.given; copies = k.copies }
ended w (ending.Put n b groups) j spares k = record {
  numbers = each-remove numbers (λ q r. q < j.daemon.next_request) j.daemon.requests n k.numbers;
  given = k.given;
  copies = put_ended j.daemon.tables j.daemon.requests j.sides n b groups spares.3 k.copies spares.0 spares.1 spares.2;
}
ended w (ending.Recall n) j spares k = record {
  numbers = each-remove numbers (λ q r. q < j.daemon.next_request) j.daemon.requests n k.numbers;
  given = k.given;
  copies = other_requests j.daemon.tables j.daemon.requests (map.remove j.daemon.requests n) j.sides
      (λ g s at b c is put. puts_stay_without j.daemon.requests n spares.0 spares.1 spares.2 c.request b put) k.copies;
}
ended w (ending.Reservation g n b) j spares k = record {
  numbers = k.numbers;
  given = k.given;
  copies = all_changed j.daemon.tables j.daemon.requests (side_after_ending (ending.Reservation g n b)) (g ∷ []) j.sides
      (λ h s kept. side_ended j.daemon.tables j.daemon.requests h (ending.Reservation g n b) s kept) k.copies;
}
ended w (ending.Mount g m) j spares k = record {
  numbers = k.numbers;
  given = k.given;
  copies = all_changed j.daemon.tables j.daemon.requests (side_after_ending (ending.Mount g m)) (g ∷ []) j.sides
      (λ h s kept. side_ended j.daemon.tables j.daemon.requests h (ending.Mount g m) s kept) k.copies;
}
ended w (ending.Move g job source target) j spares k = record {
  numbers = k.numbers;
  given = k.given;
  copies = all_changed j.daemon.tables j.daemon.requests (side_after_ending (ending.Move g job source target)) (g ∷ []) j.sides
      (λ h s kept. side_ended j.daemon.tables j.daemon.requests h (ending.Move g job source target) s kept) k.copies;
}

-- ---- a heal, marks and doubts

pub settled : (heals : Bool) (c : Component) (j : Joint) → Stands j → Stands (after_healing heals c j)
settled true component.Daemon j k = record { numbers = k.numbers; given = k.given; copies = k.copies }
settled false component.Daemon j k = record { numbers = k.numbers; given = k.given; copies = k.copies }
settled true (component.Group g) j k = record {
  numbers = k.numbers;
  given = k.given;
  copies = all_changed j.daemon.tables j.daemon.requests (side_without_doubt true) (g ∷ []) j.sides (λ h s kept. kept) k.copies;
}
settled false (component.Group g) j k = record { numbers = k.numbers; given = k.given; copies = k.copies }

marked_contents : (x : Mark) (w : ℕ) (j : Joint) → (after_mark w x j).history.contents ≡ j.history.contents
marked_contents mark.Nothing w j = refl
marked_contents (mark.Zone g vsn place zone b index epoch) w j = refl
marked_contents (mark.Target g vsn m place zone) w j = refl
marked_contents (mark.Label g vsn m epoch version text) w j = refl
marked_contents (mark.Read g b offset bytes) w j = refl
marked_contents (mark.Source g m bytes) w j = refl
marked_contents (mark.Deleted g b) w j = refl

pub marked : (w : ℕ) (x : Mark) (j : Joint) → Stands j → Stands (after_mark w x j)
marked w x j k = record {
  numbers = k.numbers;
  given = subst (λ c. EachRow c (λ b bytes. IsGiven j.daemon.tables.site j.daemon.tables.counter b)) (sym (marked_contents x w j)) k.given;
  copies = all_changed j.daemon.tables j.daemon.requests (side_after_mark x) (groups_of_mark x) j.sides
      (λ h s kept. side_marked j.daemon.tables j.daemon.requests h x s kept) k.copies;
}

pub failed : (x : Mark) (j : Joint) → Stands j → Stands (after_failed_mark x j)
failed x j k = record {
  numbers = k.numbers;
  given = k.given;
  copies = all_changed j.daemon.tables j.daemon.requests (side_after_failed_mark x) (groups_of_mark x) j.sides
      (λ h s kept. side_failed j.daemon.tables j.daemon.requests h x s kept) k.copies;
}

pub doubted : (p : Option Payload) (j : Joint) → Stands j → Stands (joint_with_doubt p j)
doubted None j k = record { numbers = k.numbers; given = k.given; copies = k.copies }
doubted (Some (payload.Daemon r)) j k = record { numbers = k.numbers; given = k.given; copies = k.copies }
doubted (Some (payload.Group g r)) j k = record {
  numbers = k.numbers;
  given = k.given;
  copies = all_changed j.daemon.tables j.daemon.requests (side_doubting (Some (payload.Group g r))) (g ∷ []) j.sides (λ h s kept. kept) k.copies;
}

-- ---- what is journalled

abbrev pub PaysSpare : DaemonTables → ByNumber OpenRequest → Option Payload → Type 0
PaysSpare t requests None = Unit {0}
PaysSpare t requests (Some (payload.Daemon r)) = StepSpares t requests r.step
PaysSpare t requests (Some (payload.Group g r)) = Unit {0}

group_contents : (g : ℕ) (h : History) (s : GroupStep) → (history_after_group_step g s h).contents ≡ h.contents
group_contents g h (group_step.Volume vsn slot version size) = refl
group_contents g h (group_step.Commit b len chunks) = refl
group_contents g h (group_step.Delete b) = refl
group_contents g h (group_step.Move b from to) = refl
group_contents g h (group_step.Free vsn) = refl
group_contents g h (group_step.Reuse vsn epoch version) = refl

pub paid : (p : Option Payload) (j : Joint) → PaysSpare j.daemon.tables j.daemon.requests p → Stands j → Stands (after_payload p j)
paid None j spares k = record { numbers = k.numbers; given = k.given; copies = k.copies }
paid (Some (payload.Daemon r)) j spares k = record {
  numbers = λ n q is. let was = was_request j.daemon r.step n q is in k.numbers n (record q { found = was.found }) was.is;
  given = contents_given j.daemon j.history r spares k.given;
  copies = λ g s at b c is. copy_paid j.daemon r g b c spares (k.copies g s at b c is);
}
paid (Some (payload.Group g r)) j spares k = record {
  numbers = k.numbers;
  given = subst (λ c. EachRow c (λ b bytes. IsGiven j.daemon.tables.site j.daemon.tables.counter b)) (sym (group_contents g.0 j.history r.step)) k.given;
  copies = all_changed j.daemon.tables j.daemon.requests (side_after_payload (Some (payload.Group g r))) (g ∷ []) j.sides (λ h s kept. kept) k.copies;
}

-- ---- what is made

-- the entry of a put that opens is the new one that the groups are asked of; requests get new numbers
abbrev pub OpensSpare : Daemon → Opening → Type 0
OpensSpare d opening.Nothing = Unit {0}
OpensSpare d (opening.Put k r len groups) =
    (d.next_request ≤ k) × (is_put r.kind ≡ true) × IsGiven d.tables.site d.tables.counter r.bfid.0 × (map.get d.tables.entries r.bfid.0 ≡ Some (new_entry len groups))
OpensSpare d (opening.Recall k r recall) = d.next_request ≤ k
OpensSpare d (opening.Reservation g n r) = Unit {0}
OpensSpare d (opening.Mount g m vsn epoch made) = Unit {0}
OpensSpare d (opening.Move g job moving source_epoch target_epoch) = Unit {0}
OpensSpare d (opening.Reuse g m epoch reusing reading) = Unit {0}

numbers_more : (requests : ByNumber OpenRequest) (next k : ℕ) (r : OpenRequest) → next ≤ k → EachRow requests (λ q r. q < next)
    → EachRow (map.insert requests k r) (λ q r. q < k + 1)
numbers_more requests next k r new below =
    each-insert numbers (λ q r. q < k + 1) requests k r (omega arith) (λ q s is. let low = below q s is in omega (arith, new, low))

with_request_copies : (j : Joint) (k : ℕ) (r : OpenRequest) → j.daemon.next_request ≤ k → Stands j
    → AllAsked j.daemon.tables (map.insert j.daemon.requests k r) j.sides
with_request_copies j k r new standing =
    other_requests j.daemon.tables j.daemon.requests (map.insert j.daemon.requests k r) j.sides
    (λ g s at b c is put.
    puts_stay_with j.daemon.requests k r (number_free j.daemon.requests j.daemon.next_request k standing.numbers new) c.request b put) standing.copies

-- the copies that a put asks for, at the groups that it asks
module _ (t : DaemonTables) (requests : ByNumber OpenRequest) (k : ℕ) (r : OpenRequest) (len : ℕ) (groups : List GroupId) (put : is_put r.kind ≡ true)
    (here : map.get requests k ≡ Some r) (given : IsGiven t.site t.counter r.bfid.0) (entry : map.get t.entries r.bfid.0 ≡ Some (new_entry len groups)) where
  abbrev Opened : Side → Side
  Opened = side_after_opening (opening.Put k r len groups)

  copy_opened : (g : ℕ) → NumberAmong g groups → (c : CopyState) → c.request ≡ k → CopyIsAsked t requests g r.bfid.0 c
  copy_opened g among c same = record {
    given = given;
    entry = new_entry len groups;
    is = entry;
    asked = among_asked (new_entry len groups) g (subst (NumberAmong g) (sym (new_asked len groups)) among);
    lasting = refl;
    put = subst (λ n. PutOf requests n r.bfid.0) (sym same) (record { request = r; is = here; put = put; same = refl });
  }

  side_opened : (g : ℕ) (s : Side) → NumberAmong g groups → EachRow s.copies (CopyIsAsked t requests g) → EachRow (Opened s).copies (CopyIsAsked t requests g)
  side_opened g s among each = each-insert numbers (CopyIsAsked t requests g) s.copies r.bfid.0 _ (copy_opened g among _ refl) each

  opened_at : (rest : List GroupId) (sides : ByNumber Side) → ((g : ℕ) → NumberAmong g rest → NumberAmong g groups) → AllAsked t requests sides
      → AllAsked t requests (at_each Opened rest sides)
  opened_at [] sides within each = each
  opened_at (h ∷ rest) sides within each =
      opened_at rest (adjust sides h.0 Opened) (λ g among. within g (number_later g h rest among))
      (each-adjust numbers (λ g s. EachRow s.copies (CopyIsAsked t requests g)) sides h.0 Opened
      (λ s at. side_opened h.0 s (within h.0 (number_first h.0 h rest refl)) (each h.0 s at)) each)

pub opened : (w : ℕ) (o : Opening) (j : Joint) → OpensSpare j.daemon o → Stands j → Stands (after_opening w o j)
opened w opening.Nothing j spares k = record { numbers = k.numbers; given = k.given; copies = k.copies }
opened w (opening.Put n r len groups) j spares k = record {
  numbers = numbers_more j.daemon.requests j.daemon.next_request n r spares.0 k.numbers;
  given = k.given;
  copies = opened_at j.daemon.tables (map.insert j.daemon.requests n r) n r len groups spares.1 (get-here numbers j.daemon.requests n r) spares.2 spares.3
      groups j.sides (λ g among. among) (with_request_copies j n r spares.0 k);
}
opened w (opening.Recall n r recall) j spares k = record {
  numbers = numbers_more j.daemon.requests j.daemon.next_request n r spares k.numbers;
  given = k.given;
  copies = with_request_copies j n r spares k;
}
opened w (opening.Reservation g n r) j spares k = record {
  numbers = k.numbers;
  given = k.given;
  copies = all_changed j.daemon.tables j.daemon.requests (side_after_opening (opening.Reservation g n r)) (g ∷ []) j.sides
      (λ h s kept. changed j.daemon.tables j.daemon.requests h s.copies r.bfid.0 _ (λ c. refl) kept) k.copies;
}
opened w (opening.Mount g m vsn epoch made) j spares k = record {
  numbers = k.numbers;
  given = k.given;
  copies = all_changed j.daemon.tables j.daemon.requests (side_after_opening (opening.Mount g m vsn epoch made)) (g ∷ []) j.sides
      (λ h s kept. mounted j.daemon.tables j.daemon.requests h m made s.copies kept) k.copies;
}
opened w (opening.Move g job x source_epoch target_epoch) j spares k = record {
  numbers = k.numbers;
  given = k.given;
  copies = all_changed j.daemon.tables j.daemon.requests (side_after_opening (opening.Move g job x source_epoch target_epoch)) (g ∷ []) j.sides
      (λ h s kept. kept) k.copies;
}
opened w (opening.Reuse g m epoch x reading) j spares k = record {
  numbers = k.numbers;
  given = k.given;
  copies = all_changed j.daemon.tables j.daemon.requests (side_after_opening (opening.Reuse g m epoch x reading)) (g ∷ []) j.sides (λ h s kept. kept) k.copies;
}

-- ---- a step in doubt

-- with fewer requests a step still spares what it spared
spares_without : (t : DaemonTables) (requests : ByNumber OpenRequest) (k : ℕ) (s : DaemonStep) → StepSpares t requests s
    → StepSpares t (map.remove requests k) s
spares_without t requests k (Write path change bytes) spares = tt
spares_without t requests k (Remove path change) spares = tt
spares_without t requests k (BeginPut path b groups) spares = spares
spares_without t requests k (Stored b group) spares = tt
spares_without t requests k (EndPut n b dual) spares = tt
spares_without t requests k (Release path) spares = tt
spares_without t requests k (Taken n bytes) spares = tt
spares_without t requests k (Dump name) spares = tt
spares_without t requests k (Undump name) spares = tt
spares_without t requests k (Restore name path target change) spares = tt
spares_without t requests k (HardDelete bfids) spares = λ b among. each-remove numbers (λ n r. r.bfid.0 ≡ b.0 → ⊥) requests k (spares b among)
spares_without t requests k (Dropped b) spares = spares
spares_without t requests k Restart spares = spares
spares_without t requests k (Age age) spares = tt

pub pays_ended : (e : Ending) (d : Daemon) (p : Option Payload) → PaysSpare d.tables d.requests p
    → PaysSpare (daemon_after_ending e d).tables (daemon_after_ending e d).requests p
pays_ended ending.Nothing d p spares = spares
pays_ended (ending.Put k b groups) d p spares = fewer p spares
  where
    fewer : (p : Option Payload) → PaysSpare d.tables d.requests p → PaysSpare d.tables (map.remove d.requests k) p
    fewer None spares = tt
    fewer (Some (payload.Daemon r)) spares = spares_without d.tables d.requests k r.step spares
    fewer (Some (payload.Group g r)) spares = tt
pays_ended (ending.Recall k) d p spares = fewer p spares
  where
    fewer : (p : Option Payload) → PaysSpare d.tables d.requests p → PaysSpare d.tables (map.remove d.requests k) p
    fewer None spares = tt
    fewer (Some (payload.Daemon r)) spares = spares_without d.tables d.requests k r.step spares
    fewer (Some (payload.Group g r)) spares = tt
pays_ended (ending.Reservation g n b) d p spares = spares
pays_ended (ending.Mount g m) d p spares = spares
pays_ended (ending.Move g job source target) d p spares = spares

pub doubt_ended : (e : Ending) (d : Daemon) (o : Option DaemonRecord) → DoubtSpares d.tables d.requests o
    → DoubtSpares (daemon_after_ending e d).tables (daemon_after_ending e d).requests o
doubt_ended e d None spares = tt
doubt_ended e d (Some r) spares = pays_ended e d (Some (payload.Daemon r)) spares
