-- A bitfile that a group has stays there in chunks of the same spans, whatever is done to the group's side but a delete or a commit of it.
use Rattle.std.proofs.Common.{◌≡◌, ℕ, Bool, true, false, Some, List, option_map, sym, ap, ◌∙◌, inl, inr}
use Rattle.std.specs.Prelude as prelude
use Rattle.std.specs.FinMap as map
use Rattle.dm_base.specs.declared.identifier.GroupId.{GroupId}
use Rattle.dm_tables.specs.Rows.{adjust}
use Rattle.dm_tables.proofs.Orders.{numbers, same_or}
use Rattle.dm_tables.proofs.Rows.{get-beside, removed-beside}
use Rattle.dm_tables.proofs.Adjusted.{adjusted-beside, adjusted-here}
use Rattle.dm_durable.specs.declared.group.BitfileRow.{BitfileRow}
use Rattle.dm_durable.specs.declared.group.GroupRecord.{GroupRecord}
use Rattle.dm_durable.specs.declared.group.GroupStep.{GroupStep}
use Rattle.dm_durable.specs.declared.group.GroupStep.TheVariants as step
use Rattle.dm_durable.specs.declared.group.GroupTables.{GroupTables}
use Rattle.dm_durable.specs.Group.{chunk_or_moved, group_after_step, with_chunk}
use Rattle.dm_durable.specs.Tables.{ByNumber}
use Rattle.dm_model.specs.declared.plan.Ending.{Ending}
use Rattle.dm_model.specs.declared.plan.Ending.TheVariants as ending
use Rattle.dm_model.specs.declared.plan.Mark.{Mark}
use Rattle.dm_model.specs.declared.plan.Mark.TheVariants as mark
use Rattle.dm_model.specs.declared.plan.Opening.{Opening}
use Rattle.dm_model.specs.declared.plan.Opening.TheVariants as opening
use Rattle.dm_model.specs.declared.plan.Payload.TheVariants as payload
use Rattle.dm_model.specs.declared.state.Side.{Side}
use Rattle.dm_model.specs.SideShare.{side_after_ending, side_after_failed_mark, side_after_mark, side_after_opening, side_after_payload, side_after_stop}
use Rattle.dm_model.specs.SideShare.{side_doubting, side_without_doubt}
use Rattle.dm_ongoing.specs.Spans.{RowHasSpans, span_of}

-- a step is no delete and no commit of the bitfile, and its chunk that it moves has the same span
abbrev pub KeepsRow : ByNumber BitfileRow → ℕ → GroupStep → Type 0
KeepsRow bitfiles b (step.Volume vsn slot version size) = Unit {0}
KeepsRow bitfiles b (step.Commit d len chunks) = d.0 ≡ b → ⊥
KeepsRow bitfiles b (step.Delete d) = d.0 ≡ b → ⊥
KeepsRow bitfiles b (step.Move d from to) =
    d.0 ≡ b → (row : BitfileRow) → map.get bitfiles b ≡ Some row
    → prelude.map span_of (prelude.map (chunk_or_moved to) row.chunks) ≡ prelude.map span_of row.chunks
KeepsRow bitfiles b (step.Free vsn) = Unit {0}
KeepsRow bitfiles b (step.Reuse vsn epoch version) = Unit {0}

spans_beside : (m n : ByNumber BitfileRow) (b : ℕ) (spans : List (ℕ × ℕ)) → map.get n b ≡ map.get m b → RowHasSpans m b spans → RowHasSpans n b spans
spans_beside m n b spans same has = record { row = has.row; is = same ∙ has.is; same = has.same }

spans_changed : (m : ByNumber BitfileRow) (d b : ℕ) (spans : List (ℕ × ℕ)) (f : BitfileRow → BitfileRow)
    → (d ≡ b → (row : BitfileRow) → map.get m b ≡ Some row → prelude.map span_of (f row).chunks ≡ prelude.map span_of row.chunks)
    → RowHasSpans m b spans → RowHasSpans (adjust m d f) b spans
spans_changed m d b spans f alike has =
    elim (same_or numbers d b) [
      | inl same ↦ record {
        row = f has.row;
        is = ap (map.get (adjust m d f)) same ∙ adjusted-here numbers m d f ∙ ap (option_map f) (ap (map.get m) (sym same) ∙ has.is);
        same = alike (sym same) has.row has.is ∙ has.same;
      }
      | inr differ ↦ spans_beside m (adjust m d f) b spans (adjusted-beside numbers m d f b differ) has
    ]

spans_stepped : (t : GroupTables) (b : ℕ) (spans : List (ℕ × ℕ)) (s : GroupStep) → KeepsRow t.bitfiles b s → RowHasSpans t.bitfiles b spans
    → RowHasSpans (group_after_step t s).bitfiles b spans
spans_stepped t b spans (step.Volume vsn slot version size) keeps has = has
spans_stepped t b spans (step.Commit d len chunks) keeps has =
    spans_beside t.bitfiles _ b spans (get-beside numbers t.bitfiles d.0 (record { len = len; chunks = chunks }) b (λ same. keeps (sym same))) has
spans_stepped t b spans (step.Delete d) keeps has =
    spans_beside t.bitfiles _ b spans (removed-beside numbers t.bitfiles d.0 b (λ same. keeps (sym same))) has
spans_stepped t b spans (step.Move d from to) keeps has = spans_changed t.bitfiles d.0 b spans (with_chunk to) keeps has
spans_stepped t b spans (step.Free vsn) keeps has = has
spans_stepped t b spans (step.Reuse vsn epoch version) keeps has = has

module _ (g0 b : ℕ) (spans : List (ℕ × ℕ)) where
  abbrev pub SideHas : ℕ → Side → Type 0
  SideHas g s = g ≡ g0 → RowHasSpans s.group.tables.bitfiles b spans

  abbrev pub PaysKeeping : ℕ → Side → GroupRecord → Type 0
  PaysKeeping g s r = g ≡ g0 → KeepsRow s.group.tables.bitfiles b r.step

  abbrev pub AnyMark : ℕ → Side → Mark → Type 0
  AnyMark g s x = Unit {0}

  abbrev pub AnyOpening : ℕ → Side → Opening → Type 0
  AnyOpening g s o = Unit {0}

  pub has_ended : (g : ℕ) (s : Side) (e : Ending) → SideHas g s → SideHas g (side_after_ending e s)
  has_ended g s ending.Nothing k = k
  has_ended g s (ending.Put l d groups) k = k
  has_ended g s (ending.Recall l) k = k
  has_ended g s (ending.Reservation h n d) k = k
  has_ended g s (ending.Mount h m) k = k
  has_ended g s (ending.Move h job source target) k = k

  pub has_settled : (g : ℕ) (s : Side) (heals : Bool) → SideHas g s → SideHas g (side_without_doubt heals s)
  has_settled g s true k = k
  has_settled g s false k = k

  pub has_paid : (g : GroupId) (s : Side) (r : GroupRecord) → PaysKeeping g.0 s r → SideHas g.0 s
      → SideHas g.0 (side_after_payload (Some (payload.Group g r)) s)
  has_paid g s r other k = λ same. spans_stepped (record s.group.tables { time = r.time }) b spans r.step (other same) (k same)

  pub has_doubted : (g : GroupId) (s : Side) (r : GroupRecord) → SideHas g.0 s → SideHas g.0 (side_doubting (Some (payload.Group g r)) s)
  has_doubted g s r k = k

  pub has_marked : (g : ℕ) (s : Side) (x : Mark) → AnyMark g s x → SideHas g s → SideHas g (side_after_mark x s)
  has_marked g s mark.Nothing any k = k
  has_marked g s (mark.Zone h vsn place zone d index epoch) any k = k
  has_marked g s (mark.Target h vsn m place zone) any k = k
  has_marked g s (mark.Label h vsn m epoch version text) any k = k
  has_marked g s (mark.Read h d offset bytes) any k = k
  has_marked g s (mark.Source h m bytes) any k = k
  has_marked g s (mark.Deleted h d) any k = k

  pub has_failed : (g : ℕ) (s : Side) (x : Mark) → AnyMark g s x → SideHas g s → SideHas g (side_after_failed_mark x s)
  has_failed g s mark.Nothing any k = k
  has_failed g s (mark.Zone h vsn place zone d index epoch) any k = k
  has_failed g s (mark.Target h vsn m place zone) any k = k
  has_failed g s (mark.Label h vsn m epoch version text) any k = k
  has_failed g s (mark.Read h d offset bytes) any k = k
  has_failed g s (mark.Source h m bytes) any k = k
  has_failed g s (mark.Deleted h d) any k = k

  pub has_opened : (g : ℕ) (s : Side) (o : Opening) → AnyOpening g s o → SideHas g s → SideHas g (side_after_opening o s)
  has_opened g s opening.Nothing any k = k
  has_opened g s (opening.Put l r len groups) any k = k
  has_opened g s (opening.Recall l r recall) any k = k
  has_opened g s (opening.Reservation h n r) any k = k
  has_opened g s (opening.Mount h m vsn epoch made) any k = k
  has_opened g s (opening.Move h job x source_epoch target_epoch) any k = k
  has_opened g s (opening.Reuse h m epoch x reading) any k = k

  pub has_stopped : (g : ℕ) (s : Side) → SideHas g s → SideHas g (side_after_stop s)
  has_stopped g s k = k
