-- A bitfile that a group hasn't stays away, whatever is done to the group's side but a commit of it.
use Rattle.std.proofs.Common.{◌≡◌, ℕ, Bool, true, false, None, Some, option_map, sym, ap, ◌∙◌, inl, inr}
use Rattle.std.specs.FinMap as map
use Rattle.dm_base.specs.declared.identifier.GroupId.{GroupId}
use Rattle.dm_tables.specs.Rows.{adjust}
use Rattle.dm_tables.proofs.Orders.{numbers, same_or}
use Rattle.dm_tables.proofs.Rows.{get-beside}
use Rattle.dm_tables.proofs.Adjusted.{adjusted-beside, adjusted-here}
use Rattle.dm_durable.specs.declared.group.BitfileRow.{BitfileRow}
use Rattle.dm_durable.specs.declared.group.GroupRecord.{GroupRecord}
use Rattle.dm_durable.specs.declared.group.GroupStep.{GroupStep}
use Rattle.dm_durable.specs.declared.group.GroupStep.TheVariants as step
use Rattle.dm_durable.specs.declared.group.GroupTables.{GroupTables}
use Rattle.dm_durable.specs.Group.{group_after_step, with_chunk}
use Rattle.dm_durable.specs.Tables.{ByNumber}
use Rattle.dm_model.specs.declared.plan.Ending.{Ending}
use Rattle.dm_model.specs.declared.plan.Ending.TheVariants as ending
use Rattle.dm_model.specs.declared.plan.Mark.{Mark}
use Rattle.dm_model.specs.declared.plan.Mark.TheVariants as mark
use Rattle.dm_model.specs.declared.plan.Opening.{Opening}
use Rattle.dm_model.specs.declared.plan.Opening.TheVariants as opening
use Rattle.dm_model.specs.declared.plan.Payload.TheVariants as payload
use Rattle.dm_model.specs.declared.state.Side.{Side}
use Rattle.dm_model.specs.SideShare.{side_after_ending, side_after_failed_mark, side_after_mark, side_after_opening, side_after_payload, side_after_stop}
use Rattle.dm_model.specs.SideShare.{side_doubting, side_without_doubt}
use Rattle.dm_landing.proofs.VolumeBitfiles.{still_away}
use Rattle.dm_once.specs.Away.{CommitsOther}

away_adjusted : (m : ByNumber BitfileRow) (k q : ℕ) (f : BitfileRow → BitfileRow) → map.get m q ≡ None → map.get (adjust m k f) q ≡ None
away_adjusted m k q f none =
    elim (same_or numbers k q) [
      | inl same ↦
          ap (map.get (adjust m k f)) same ∙ adjusted-here numbers m k f ∙ ap (option_map f) (ap (map.get m) (sym same) ∙ none)
      | inr differ ↦ adjusted-beside numbers m k f q differ ∙ none
    ]

away_stepped : (t : GroupTables) (b : ℕ) (s : GroupStep) → CommitsOther b s → map.get t.bitfiles b ≡ None
    → map.get (group_after_step t s).bitfiles b ≡ None
away_stepped t b (step.Volume vsn slot version size) other none = none
away_stepped t b (step.Commit d len chunks) other none =
    get-beside numbers t.bitfiles d.0 (record { len = len; chunks = chunks }) b (λ same. other (sym same)) ∙ none
away_stepped t b (step.Delete d) other none = still_away t.bitfiles d.0 b none
away_stepped t b (step.Move d from to) other none = away_adjusted t.bitfiles d.0 b (with_chunk to) none
away_stepped t b (step.Free vsn) other none = none
away_stepped t b (step.Reuse vsn epoch version) other none = none

module _ (g0 b : ℕ) where
  abbrev pub SideAway : ℕ → Side → Type 0
  SideAway g s = g ≡ g0 → map.get s.group.tables.bitfiles b ≡ None

  abbrev pub PaysOther : ℕ → Side → GroupRecord → Type 0
  PaysOther g s r = g ≡ g0 → CommitsOther b r.step

  abbrev pub AnyMark : ℕ → Side → Mark → Type 0
  AnyMark g s x = Unit {0}

  abbrev pub AnyOpening : ℕ → Side → Opening → Type 0
  AnyOpening g s o = Unit {0}

  pub away_ended : (g : ℕ) (s : Side) (e : Ending) → SideAway g s → SideAway g (side_after_ending e s)
  away_ended g s ending.Nothing k = k
  away_ended g s (ending.Put l d groups) k = k
  away_ended g s (ending.Recall l) k = k
  away_ended g s (ending.Reservation h n d) k = k
  away_ended g s (ending.Mount h m) k = k
  away_ended g s (ending.Move h job source target) k = k

  pub away_settled : (g : ℕ) (s : Side) (heals : Bool) → SideAway g s → SideAway g (side_without_doubt heals s)
  away_settled g s true k = k
  away_settled g s false k = k

  pub away_paid : (g : GroupId) (s : Side) (r : GroupRecord) → PaysOther g.0 s r → SideAway g.0 s
      → SideAway g.0 (side_after_payload (Some (payload.Group g r)) s)
  away_paid g s r other k = λ same. away_stepped (record s.group.tables { time = r.time }) b r.step (other same) (k same)

  pub away_doubted : (g : GroupId) (s : Side) (r : GroupRecord) → SideAway g.0 s → SideAway g.0 (side_doubting (Some (payload.Group g r)) s)
  away_doubted g s r k = k

  pub away_marked : (g : ℕ) (s : Side) (x : Mark) → AnyMark g s x → SideAway g s → SideAway g (side_after_mark x s)
  away_marked g s mark.Nothing any k = k
  away_marked g s (mark.Zone h vsn place zone d index epoch) any k = k
  away_marked g s (mark.Target h vsn m place zone) any k = k
  away_marked g s (mark.Label h vsn m epoch version text) any k = k
  away_marked g s (mark.Read h d offset bytes) any k = k
  away_marked g s (mark.Source h m bytes) any k = k
  away_marked g s (mark.Deleted h d) any k = k

  pub away_failed : (g : ℕ) (s : Side) (x : Mark) → AnyMark g s x → SideAway g s → SideAway g (side_after_failed_mark x s)
  away_failed g s mark.Nothing any k = k
  away_failed g s (mark.Zone h vsn place zone d index epoch) any k = k
  away_failed g s (mark.Target h vsn m place zone) any k = k
  away_failed g s (mark.Label h vsn m epoch version text) any k = k
  away_failed g s (mark.Read h d offset bytes) any k = k
  away_failed g s (mark.Source h m bytes) any k = k
  away_failed g s (mark.Deleted h d) any k = k

  pub away_opened : (g : ℕ) (s : Side) (o : Opening) → AnyOpening g s o → SideAway g s → SideAway g (side_after_opening o s)
  away_opened g s opening.Nothing any k = k
  away_opened g s (opening.Put l r len groups) any k = k
  away_opened g s (opening.Recall l r recall) any k = k
  away_opened g s (opening.Reservation h n r) any k = k
  away_opened g s (opening.Mount h m vsn epoch made) any k = k
  away_opened g s (opening.Move h job x source_epoch target_epoch) any k = k
  away_opened g s (opening.Reuse h m epoch x reading) any k = k

  pub away_stopped : (g : ℕ) (s : Side) → SideAway g s → SideAway g (side_after_stop s)
  away_stopped g s k = k
