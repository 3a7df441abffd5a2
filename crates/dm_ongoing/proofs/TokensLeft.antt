-- What a group's tokens are before a call makes any, and after.
use Rattle.std.proofs.Common.{◌≡◌, ◌≤◌, ◌<◌, ◌+◌, ℕ, Bool, true, false, None, Some, refl, sym, subst, ◌∙◌, arith}
use Rattle.std.specs.FinMap as map
use Rattle.dm_base.specs.declared.identifier.GroupId.{GroupId}
use Rattle.dm_tables.specs.Rows.{EachRow}
use Rattle.dm_tables.proofs.Orders.{numbers}
use Rattle.dm_tables.proofs.Rows.{each-insert, each-remove}
use Rattle.dm_durable.specs.declared.group.GroupRecord.{GroupRecord}
use Rattle.dm_durable.specs.Tables.{ByNumber}
use Rattle.dm_model.specs.declared.plan.Ending.{Ending}
use Rattle.dm_model.specs.declared.plan.Ending.TheVariants as ending
use Rattle.dm_model.specs.declared.plan.Mark.{Mark}
use Rattle.dm_model.specs.declared.plan.Mark.TheVariants as mark
use Rattle.dm_model.specs.declared.plan.Opening.{Opening}
use Rattle.dm_model.specs.declared.plan.Opening.TheVariants as opening
use Rattle.dm_model.specs.declared.plan.Payload.TheVariants as payload
use Rattle.dm_model.specs.declared.state.Group.{Group}
use Rattle.dm_model.specs.declared.state.Joint.{Joint}
use Rattle.dm_model.specs.declared.state.Side.{Side}
use Rattle.dm_model.specs.GroupShare.{group_after_opening}
use Rattle.dm_model.specs.SideShare.{side_after_ending, side_after_failed_mark, side_after_mark, side_after_opening, side_after_payload}
use Rattle.dm_model.specs.SideShare.{side_doubting, side_without_doubt}
use Rattle.dm_ongoing.specs.TokensRise.{NumbersRise, TokensRise}

-- ---- one table of tokens

-- the next number stands, and each that is open was open
pub record Left {X : Type 0} (before after : ByNumber X) (next next_after : ℕ) : Type 0 where
  pub same : next ≡ next_after
  pub rows : EachRow after (λ n x. map.get before n ≡ None → ⊥)

module _ {X : Type 0} (before : ByNumber X) (next : ℕ) where
  left_still : Left before before next next
  left_still = record { same = refl; rows = λ n x is none. (let e = is in let f = none in cc) }

  left_less : (after : ByNumber X) (next_after k : ℕ) → Left before after next next_after → Left before (map.remove after k) next next_after
  left_less after next_after k l = record {
    same = l.same;
    rows = each-remove numbers (λ n x. map.get before n ≡ None → ⊥) after k l.rows;
  }

  rise_still : (after : ByNumber X) (next_after : ℕ) → Left before after next next_after → NumbersRise before after next next_after
  rise_still after next_after l = record {
    next = let e = l.same in omega (arith, e);
    made = λ n x is none. absurd (l.rows n x is none);
  }

  -- one more with a number that the next one is or is before
  rise_more : (after : ByNumber X) (next_after k : ℕ) (x : X) → next_after ≤ k → NumbersRise before after next next_after
      → NumbersRise before (map.insert after k x) next (k + 1)
  rise_more after next_after k x new r = record {
    next = let e = r.next in omega (arith, e, new);
    made = each-insert numbers (λ n y. map.get before n ≡ None → (next ≤ n) × (n < k + 1)) after k x
        (λ none. (let e = r.next in omega (arith, e, new), omega arith))
        (λ n y is none.
        let m = r.made n y is none in
        let low = m.0 in
        let high = m.1 in
        (low, omega (arith, high, new)));
  }

-- ---- a group

pub record TokensLeft (from g : Group) : Type 0 where
  pub reservations : Left from.reservations g.reservations from.next_reservation g.next_reservation
  pub mounts : Left from.mounts g.mounts from.next_mount g.next_mount
  pub moves : Left from.moves g.moves from.next_move g.next_move

still : (g : Group) → TokensLeft g g
still g = record {
  reservations = left_still g.reservations g.next_reservation;
  mounts = left_still g.mounts g.next_mount;
  moves = left_still g.moves g.next_move;
}

pub rise : (from g : Group) → TokensLeft from g → TokensRise from g
rise from g l = record {
  reservations = rise_still from.reservations from.next_reservation g.reservations g.next_reservation l.reservations;
  mounts = rise_still from.mounts from.next_mount g.mounts g.next_mount l.mounts;
  moves = rise_still from.moves from.next_move g.moves g.next_move l.moves;
}

-- what is made has numbers that the next ones are or are before
abbrev pub AreNew : Group → Opening → Type 0
AreNew from opening.Nothing = Unit {0}
AreNew from (opening.Put k r len groups) = Unit {0}
AreNew from (opening.Recall k r recall) = Unit {0}
AreNew from (opening.Reservation g n r) = from.next_reservation ≤ n
AreNew from (opening.Mount g m vsn epoch made) = from.next_mount ≤ m
AreNew from (opening.Move g job x source_epoch target_epoch) = (from.next_move ≤ job) × (from.next_mount ≤ x.source) × (x.source + 1 ≤ x.target)
AreNew from (opening.Reuse g m epoch x reading) = from.next_mount ≤ m

pub opened_rise : (from g : Group) (o : Opening) → AreNew from o → TokensLeft from g → TokensRise from (group_after_opening o g)
opened_rise from g opening.Nothing new l = rise from g l
opened_rise from g (opening.Put k r len groups) new l = rise from g l
opened_rise from g (opening.Recall k r recall) new l = rise from g l
opened_rise from g (opening.Reservation h n r) new l =
    let s = rise from g l in
    let at = l.reservations.same in
    record {
      reservations = rise_more from.reservations from.next_reservation g.reservations g.next_reservation n r (omega (arith, at, new)) s.reservations;
      mounts = s.mounts;
      moves = s.moves;
    }
opened_rise from g (opening.Mount h m vsn epoch made) new l =
    let s = rise from g l in
    let at = l.mounts.same in
    record {
      reservations = s.reservations;
      mounts = rise_more from.mounts from.next_mount g.mounts g.next_mount m (record { vsn = vsn; epoch = epoch }) (omega (arith, at, new)) s.mounts;
      moves = s.moves;
    }
opened_rise from g (opening.Move h job x source_epoch target_epoch) new l =
    let s = rise from g l in
    let at = l.mounts.same in
    let job_at = l.moves.same in
    let job_new = new.0 in
    let source_new = new.1 in
    let source =
    rise_more from.mounts from.next_mount g.mounts g.next_mount x.source (record { vsn = x.from.vsn; epoch = source_epoch }) (omega (arith, at, source_new))
    s.mounts in
    record {
      reservations = s.reservations;
      mounts = rise_more from.mounts from.next_mount (map.insert g.mounts x.source (record { vsn = x.from.vsn; epoch = source_epoch })) (x.source + 1) x.target
          (record { vsn = x.to.vsn; epoch = target_epoch }) new.2 source;
      moves = rise_more from.moves from.next_move g.moves g.next_move job x (omega (arith, job_at, job_new)) s.moves;
    }
opened_rise from g (opening.Reuse h m epoch x reading) new l =
    let s = rise from g l in
    let at = l.mounts.same in
    record {
      reservations = s.reservations;
      mounts = rise_more from.mounts from.next_mount g.mounts g.next_mount m (record { vsn = x.vsn; epoch = epoch }) (omega (arith, at, new)) s.mounts;
      moves = s.moves;
    }

-- ---- sides

module _ (j : Joint) where
  -- before anything is made
  abbrev pub SideLeft : ℕ → Side → Type 0
  SideLeft g s = (t : Side) → map.get j.sides g ≡ Some t → TokensLeft t.group s.group

  abbrev pub SideRises : ℕ → Side → Type 0
  SideRises g s = (t : Side) → map.get j.sides g ≡ Some t → TokensRise t.group s.group

  abbrev pub AnyRecord : ℕ → Side → GroupRecord → Type 0
  AnyRecord g s r = Unit {0}

  abbrev pub AnyMark : ℕ → Side → Mark → Type 0
  AnyMark g s x = Unit {0}

  -- of what is made only that nothing is
  abbrev pub MakesNothing : ℕ → Side → Opening → Type 0
  MakesNothing g s opening.Nothing = Unit {0}
  MakesNothing g s (opening.Put k r len groups) = ⊥
  MakesNothing g s (opening.Recall k r recall) = ⊥
  MakesNothing g s (opening.Reservation h n r) = ⊥
  MakesNothing g s (opening.Mount h m vsn epoch made) = ⊥
  MakesNothing g s (opening.Move h job x source_epoch target_epoch) = ⊥
  MakesNothing g s (opening.Reuse h m epoch x reading) = ⊥

  pub left_begin : EachRow j.sides SideLeft
  left_begin g s is t at =
      let same : Some s ≡ Some t = sym is ∙ at in
      let one : s ≡ t = cc in
      subst (λ (x : Side). TokensLeft t.group x.group) (sym one) (still t.group)

  pub left_ended : (g : ℕ) (s : Side) (e : Ending) → SideLeft g s → SideLeft g (side_after_ending e s)
  left_ended g s ending.Nothing l = l
  left_ended g s (ending.Put k b groups) l = l
  left_ended g s (ending.Recall k) l = l
  left_ended g s (ending.Reservation h n b) l = λ t at.
      let one = l t at in
      record {
        reservations = left_less t.group.reservations t.group.next_reservation s.group.reservations s.group.next_reservation n one.reservations;
        mounts = one.mounts;
        moves = one.moves;
      }
  left_ended g s (ending.Mount h m) l = λ t at.
      let one = l t at in
      record {
        reservations = one.reservations;
        mounts = left_less t.group.mounts t.group.next_mount s.group.mounts s.group.next_mount m one.mounts;
        moves = one.moves;
      }
  left_ended g s (ending.Move h job source target) l = λ t at.
      let one = l t at in
      record {
        reservations = one.reservations;
        mounts = left_less t.group.mounts t.group.next_mount (map.remove s.group.mounts source) s.group.next_mount target
            (left_less t.group.mounts t.group.next_mount s.group.mounts s.group.next_mount source one.mounts);
        moves = left_less t.group.moves t.group.next_move s.group.moves s.group.next_move job one.moves;
      }

  pub left_settled : (g : ℕ) (s : Side) (heals : Bool) → SideLeft g s → SideLeft g (side_without_doubt heals s)
  left_settled g s true l = λ t at. let one = l t at in record { reservations = one.reservations; mounts = one.mounts; moves = one.moves }
  left_settled g s false l = l

  pub left_paid : (g : GroupId) (s : Side) (r : GroupRecord) → AnyRecord g.0 s r → SideLeft g.0 s
      → SideLeft g.0 (side_after_payload (Some (payload.Group g r)) s)
  left_paid g s r any l = λ t at. let one = l t at in record { reservations = one.reservations; mounts = one.mounts; moves = one.moves }

  pub left_doubted : (g : GroupId) (s : Side) (r : GroupRecord) → SideLeft g.0 s → SideLeft g.0 (side_doubting (Some (payload.Group g r)) s)
  left_doubted g s r l = λ t at. let one = l t at in record { reservations = one.reservations; mounts = one.mounts; moves = one.moves }

  pub left_marked : (g : ℕ) (s : Side) (x : Mark) → AnyMark g s x → SideLeft g s → SideLeft g (side_after_mark x s)
  left_marked g s mark.Nothing any l = l
  left_marked g s (mark.Zone h vsn place zone b index epoch) any l = l
  left_marked g s (mark.Target h vsn m place zone) any l = l
  left_marked g s (mark.Label h vsn m epoch version text) any l = l
  left_marked g s (mark.Read h b offset bytes) any l = l
  left_marked g s (mark.Source h m bytes) any l = l
  left_marked g s (mark.Deleted h b) any l = l

  pub left_failed : (g : ℕ) (s : Side) (x : Mark) → AnyMark g s x → SideLeft g s → SideLeft g (side_after_failed_mark x s)
  left_failed g s mark.Nothing any l = l
  left_failed g s (mark.Zone h vsn place zone b index epoch) any l = l
  left_failed g s (mark.Target h vsn m place zone) any l = l
  left_failed g s (mark.Label h vsn m epoch version text) any l = l
  left_failed g s (mark.Read h b offset bytes) any l = l
  left_failed g s (mark.Source h m bytes) any l = l
  left_failed g s (mark.Deleted h b) any l = l

  pub left_opened : (g : ℕ) (s : Side) (o : Opening) → MakesNothing g s o → SideLeft g s → SideLeft g (side_after_opening o s)
  left_opened g s opening.Nothing none l = l
  left_opened g s (opening.Put k r len groups) none l = absurd none
  left_opened g s (opening.Recall k r recall) none l = absurd none
  left_opened g s (opening.Reservation h n r) none l = absurd none
  left_opened g s (opening.Mount h m vsn epoch made) none l = absurd none
  left_opened g s (opening.Move h job x source_epoch target_epoch) none l = absurd none
  left_opened g s (opening.Reuse h m epoch x reading) none l = absurd none
