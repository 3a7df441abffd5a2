-- The parts of contents that chunks with sums are, are among these byte lists: what each part of a plan does to that, on a side.
--
-- It is so of each chunk that stands in the tables, is in doubt, or may be read under a mount, where the lists are those that
-- a law on sums supposes to be told apart.
use Rattle.std.proofs.Common.{◌≡◌, ℕ, Bool, true, false, cond, nat_eq, Option, None, Some, IsSome, List, Contains, refl, sym, subst}
use Rattle.std.specs.FinMap as map
use Rattle.dm_base.specs.declared.volume.Chunk.{Chunk}
use Rattle.dm_tables.specs.Rows.{EachRow, adjust}
use Rattle.dm_tables.proofs.Adjusted.{each-adjust}
use Rattle.dm_tables.proofs.Orders.{numbers}
use Rattle.dm_tables.proofs.Rows.{each-empty, each-insert, each-remove}
use Rattle.dm_durable.specs.declared.group.BitfileRow.{BitfileRow}
use Rattle.dm_durable.specs.declared.group.GroupRecord.{GroupRecord}
use Rattle.dm_durable.specs.declared.group.GroupStep.{GroupStep}
use Rattle.dm_durable.specs.declared.group.GroupStep.TheVariants as step
use Rattle.dm_durable.specs.declared.group.GroupTables.{GroupTables}
use Rattle.dm_durable.specs.Group.{chunk_or_moved, group_after_step, with_chunk}
use Rattle.dm_durable.specs.Tables.{ByNumber}
use Rattle.dm_model.specs.declared.plan.Ending.{Ending}
use Rattle.dm_model.specs.declared.plan.Ending.TheVariants as ending
use Rattle.dm_model.specs.declared.plan.Mark.{Mark}
use Rattle.dm_model.specs.declared.plan.Mark.TheVariants as mark
use Rattle.dm_model.specs.declared.plan.Opening.{Opening}
use Rattle.dm_model.specs.declared.plan.Opening.TheVariants as opening
use Rattle.dm_model.specs.declared.plan.Payload.{Payload}
use Rattle.dm_model.specs.declared.plan.Payload.TheVariants as payload
use Rattle.dm_model.specs.declared.state.MountState.{MountState}
use Rattle.dm_model.specs.declared.state.Origin.{Origin}
use Rattle.dm_model.specs.declared.state.Origin.TheVariants as origin
use Rattle.dm_model.specs.declared.state.Side.{Side}
use Rattle.dm_model.specs.GroupCalls.{part_of}
use Rattle.dm_model.specs.SideShare.{side_after_ending, side_after_failed_mark, side_after_mark, side_after_opening, side_after_payload, side_after_stop, side_doubting, side_without_doubt}
use Rattle.dm_invariant.specs.Among.{IsAmong}
use Rattle.dm_invariant.proofs.Lists.{mapped_among}

-- the part of its content that a chunk is
pub record PartAmong (lists : List (List ℕ)) (contents : ByNumber (List ℕ)) (b : ℕ) (c : Chunk) : Type 0 where
  pub bytes : List ℕ
  pub content : map.get contents b ≡ Some bytes
  pub among : Contains lists (part_of bytes c.offset c.len)

-- it is among these where the chunk has a sum
abbrev pub PartIn : List (List ℕ) → ByNumber (List ℕ) → ℕ → Chunk → Type 0
PartIn lists contents b c = IsSome c.sum → PartAmong lists contents b c

abbrev pub OriginIn : List (List ℕ) → ByNumber (List ℕ) → Origin → Type 0
OriginIn lists contents (origin.New listed format) = Unit {0}
OriginIn lists contents (origin.Piece b index p chunk) = Unit {0}
OriginIn lists contents (origin.Chunk b c) = PartIn lists contents b.0 c
OriginIn lists contents (origin.Source job b c) = PartIn lists contents b.0 c
OriginIn lists contents (origin.Target job b total c version) = Unit {0}
OriginIn lists contents (origin.Reuse next_epoch version reading) = Unit {0}

abbrev pub StepIn : List (List ℕ) → ByNumber (List ℕ) → GroupStep → Type 0
StepIn lists contents (step.Volume vsn slot version size) = Unit {0}
StepIn lists contents (step.Commit b len chunks) = (c : Chunk) → IsAmong c chunks → PartIn lists contents b.0 c
StepIn lists contents (step.Delete b) = Unit {0}
StepIn lists contents (step.Move b from to) = PartIn lists contents b.0 to
StepIn lists contents (step.Free vsn) = Unit {0}
StepIn lists contents (step.Reuse vsn epoch version) = Unit {0}

abbrev pub DoubtIn : List (List ℕ) → ByNumber (List ℕ) → Option GroupRecord → Type 0
DoubtIn lists contents None = Unit {0}
DoubtIn lists contents (Some r) = StepIn lists contents r.step

abbrev pub PayloadIn : List (List ℕ) → ByNumber (List ℕ) → Option Payload → Type 0
PayloadIn lists contents None = Unit {0}
PayloadIn lists contents (Some (payload.Daemon r)) = Unit {0}
PayloadIn lists contents (Some (payload.Group g r)) = StepIn lists contents r.step

abbrev pub OpeningIn : List (List ℕ) → ByNumber (List ℕ) → Opening → Type 0
OpeningIn lists contents opening.Nothing = Unit {0}
OpeningIn lists contents (opening.Put k r len groups) = Unit {0}
OpeningIn lists contents (opening.Recall k r recall) = Unit {0}
OpeningIn lists contents (opening.Reservation g n r) = Unit {0}
OpeningIn lists contents (opening.Mount g m vsn epoch made) = OriginIn lists contents made
OpeningIn lists contents (opening.Move g job x source_epoch target_epoch) = PartIn lists contents x.bfid.0 x.from
OpeningIn lists contents (opening.Reuse g m epoch reusing reading) = Unit {0}

-- a row of a bitfile
abbrev pub RowIn : List (List ℕ) → ByNumber (List ℕ) → ℕ → BitfileRow → Type 0
RowIn lists contents b row = (c : Chunk) → IsAmong c row.chunks → PartIn lists contents b c

pub record SideSummed (lists : List (List ℕ)) (contents : ByNumber (List ℕ)) (s : Side) : Type 0 where
  pub rows : EachRow s.group.tables.bitfiles (RowIn lists contents)
  pub mounts : EachRow s.mounts (λ m x. OriginIn lists contents x.origin)
  pub doubt : DoubtIn lists contents s.group.doubt

-- ---- contents that grow

module _ (lists : List (List ℕ)) (contents after : ByNumber (List ℕ)) (more : EachRow contents (λ b bytes. map.get after b ≡ Some bytes)) where
  part_onward : (b : ℕ) (c : Chunk) → PartIn lists contents b c → PartIn lists after b c
  part_onward b c part has = let p = part has in record { bytes = p.bytes; content = more b p.bytes p.content; among = p.among }

  origin_onward : (o : Origin) → OriginIn lists contents o → OriginIn lists after o
  origin_onward (origin.New listed format) part = tt
  origin_onward (origin.Piece b index p chunk) part = tt
  origin_onward (origin.Chunk b c) part = part_onward b.0 c part
  origin_onward (origin.Source job b c) part = part_onward b.0 c part
  origin_onward (origin.Target job b total c version) part = tt
  origin_onward (origin.Reuse next_epoch version reading) part = tt

  step_onward : (x : GroupStep) → StepIn lists contents x → StepIn lists after x
  step_onward (step.Volume vsn slot version size) part = tt
  step_onward (step.Commit b len chunks) part = λ c among. part_onward b.0 c (part c among)
  step_onward (step.Delete b) part = tt
  step_onward (step.Move b from to) part = part_onward b.0 to part
  step_onward (step.Free vsn) part = tt
  step_onward (step.Reuse vsn epoch version) part = tt

  doubt_onward : (o : Option GroupRecord) → DoubtIn lists contents o → DoubtIn lists after o
  doubt_onward None part = tt
  doubt_onward (Some r) part = step_onward r.step part

  pub side_onward : (s : Side) → SideSummed lists contents s → SideSummed lists after s
  side_onward s k = record {
    rows = λ b row is c among. part_onward b c (k.rows b row is c among);
    mounts = λ m x is. origin_onward x.origin (k.mounts m x is);
    doubt = doubt_onward s.group.doubt k.doubt;
  }

-- ---- more lists

module _ (lists more : List (List ℕ)) (within : (x : List ℕ) → Contains lists x → Contains more x) (contents : ByNumber (List ℕ)) where
  part_wider : (b : ℕ) (c : Chunk) → PartIn lists contents b c → PartIn more contents b c
  part_wider b c part has = let p = part has in record { bytes = p.bytes; content = p.content; among = within _ p.among }

  origin_wider : (o : Origin) → OriginIn lists contents o → OriginIn more contents o
  origin_wider (origin.New listed format) part = tt
  origin_wider (origin.Piece b index p chunk) part = tt
  origin_wider (origin.Chunk b c) part = part_wider b.0 c part
  origin_wider (origin.Source job b c) part = part_wider b.0 c part
  origin_wider (origin.Target job b total c version) part = tt
  origin_wider (origin.Reuse next_epoch version reading) part = tt

  step_wider : (x : GroupStep) → StepIn lists contents x → StepIn more contents x
  step_wider (step.Volume vsn slot version size) part = tt
  step_wider (step.Commit b len chunks) part = λ c among. part_wider b.0 c (part c among)
  step_wider (step.Delete b) part = tt
  step_wider (step.Move b from to) part = part_wider b.0 to part
  step_wider (step.Free vsn) part = tt
  step_wider (step.Reuse vsn epoch version) part = tt

  doubt_wider : (o : Option GroupRecord) → DoubtIn lists contents o → DoubtIn more contents o
  doubt_wider None part = tt
  doubt_wider (Some r) part = step_wider r.step part

  pub wider : (s : Side) → SideSummed lists contents s → SideSummed more contents s
  wider s k = record {
    rows = λ b row is c among. part_wider b c (k.rows b row is c among);
    mounts = λ m x is. origin_wider x.origin (k.mounts m x is);
    doubt = doubt_wider s.group.doubt k.doubt;
  }

-- ---- parts of a plan

module _ (lists : List (List ℕ)) (contents : ByNumber (List ℕ)) where
  abbrev In : Side → Type 0
  In s = SideSummed lists contents s

  pub ending_in : (e : Ending) (s : Side) → In s → In (side_after_ending e s)
  ending_in ending.Nothing s k = k
  ending_in (ending.Put b n groups) s k = record { rows = k.rows; mounts = k.mounts; doubt = k.doubt }
  ending_in (ending.Recall n) s k = record { rows = k.rows; mounts = k.mounts; doubt = k.doubt }
  ending_in (ending.Reservation g n b) s k = record { rows = k.rows; mounts = k.mounts; doubt = k.doubt }
  ending_in (ending.Mount g m) s k = record {
    rows = k.rows;
    mounts = each-remove numbers (λ q x. OriginIn lists contents x.origin) s.mounts m k.mounts;
    doubt = k.doubt;
  }
  ending_in (ending.Move g job source target) s k = record {
    rows = k.rows;
    mounts = each-remove numbers (λ q x. OriginIn lists contents x.origin) (map.remove s.mounts source) target
        (each-remove numbers (λ q x. OriginIn lists contents x.origin) s.mounts source k.mounts);
    doubt = k.doubt;
  }

  pub healing_in : (heals : Bool) (s : Side) → In s → In (side_without_doubt heals s)
  healing_in true s k = record { rows = k.rows; mounts = k.mounts; doubt = tt }
  healing_in false s k = record { rows = k.rows; mounts = k.mounts; doubt = k.doubt }

  pub doubting_in : (p : Option Payload) → PayloadIn lists contents p → (s : Side) → In s → In (side_doubting p s)
  doubting_in None part s k = record { rows = k.rows; mounts = k.mounts; doubt = k.doubt }
  doubting_in (Some (payload.Daemon r)) part s k = record { rows = k.rows; mounts = k.mounts; doubt = k.doubt }
  doubting_in (Some (payload.Group g r)) part s k = record { rows = k.rows; mounts = k.mounts; doubt = part }

  -- a chunk of a bitfile of which one was moved
  moved_row : (b : ℕ) (to : Chunk) (row : BitfileRow) → PartIn lists contents b to → RowIn lists contents b row → RowIn lists contents b (with_chunk to row)
  moved_row b to row part old c among =
      let was = mapped_among (chunk_or_moved to) c row.chunks among in
      subst (λ d. PartIn lists contents b d) was.2 (either (nat_eq was.0.offset to.offset) was.0 (old was.0 was.1))
    where
      either : (same : Bool) (d : Chunk) → PartIn lists contents b d → PartIn lists contents b (cond same to d)
      either true d was = part
      either false d was = was

  rows_after : (t : GroupTables) (x : GroupStep) → StepIn lists contents x → EachRow t.bitfiles (RowIn lists contents)
      → EachRow (group_after_step t x).bitfiles (RowIn lists contents)
  rows_after t (step.Volume vsn slot version size) part rows = rows
  rows_after t (step.Commit b len chunks) part rows =
      each-insert numbers (RowIn lists contents) t.bitfiles b.0 (record { len = len; chunks = chunks }) part rows
  rows_after t (step.Delete b) part rows = each-remove numbers (RowIn lists contents) t.bitfiles b.0 rows
  rows_after t (step.Move b from to) part rows =
      each-adjust numbers (RowIn lists contents) t.bitfiles b.0 (with_chunk to) (λ row is. moved_row b.0 to row part (rows b.0 row is)) rows
  rows_after t (step.Free vsn) part rows = rows
  rows_after t (step.Reuse vsn epoch version) part rows = rows

  pub payload_in : (p : Option Payload) → PayloadIn lists contents p → (s : Side) → In s → In (side_after_payload p s)
  payload_in None part s k = record { rows = k.rows; mounts = k.mounts; doubt = k.doubt }
  payload_in (Some (payload.Daemon r)) part s k = record { rows = k.rows; mounts = k.mounts; doubt = k.doubt }
  payload_in (Some (payload.Group g r)) part s k =
      record { rows = rows_after (record s.group.tables { time = r.time }) r.step part k.rows; mounts = k.mounts; doubt = k.doubt }

  -- a mount on which something was done
  worked : (s : Side) (m : ℕ) (f : MountState → MountState) → ((x : MountState) → (f x).origin ≡ x.origin) → In s
      → EachRow (adjust s.mounts m f) (λ q x. OriginIn lists contents x.origin)
  worked s m f same k =
      each-adjust numbers (λ q x. OriginIn lists contents x.origin) s.mounts m f
      (λ x is. subst (λ o. OriginIn lists contents o) (sym (same x)) (k.mounts m x is)) k.mounts

  pub mark_in : (x : Mark) (s : Side) → In s → In (side_after_mark x s)
  mark_in mark.Nothing s k = k
  mark_in (mark.Zone g vsn place zone b index epoch) s k = record { rows = k.rows; mounts = k.mounts; doubt = k.doubt }
  mark_in (mark.Target g vsn m place zone) s k = record { rows = k.rows; mounts = worked s m _ (λ x. refl) k; doubt = k.doubt }
  mark_in (mark.Label g vsn m epoch version text) s k = record { rows = k.rows; mounts = worked s m _ (λ x. refl) k; doubt = k.doubt }
  mark_in (mark.Read g b offset bytes) s k = k
  mark_in (mark.Source g m bytes) s k = record { rows = k.rows; mounts = worked s m _ (λ x. refl) k; doubt = k.doubt }
  mark_in (mark.Deleted g b) s k = k

  pub failed_mark_in : (x : Mark) (s : Side) → In s → In (side_after_failed_mark x s)
  failed_mark_in mark.Nothing s k = k
  failed_mark_in (mark.Zone g vsn place zone b index epoch) s k = record { rows = k.rows; mounts = k.mounts; doubt = k.doubt }
  failed_mark_in (mark.Target g vsn m place zone) s k = record { rows = k.rows; mounts = worked s m _ (λ x. refl) k; doubt = k.doubt }
  failed_mark_in (mark.Label g vsn m epoch version text) s k = record { rows = k.rows; mounts = worked s m _ (λ x. refl) k; doubt = k.doubt }
  failed_mark_in (mark.Read g b offset bytes) s k = k
  failed_mark_in (mark.Source g m bytes) s k = k
  failed_mark_in (mark.Deleted g b) s k = k

  pub opening_in : (o : Opening) → OpeningIn lists contents o → (s : Side) → In s → In (side_after_opening o s)
  opening_in opening.Nothing part s k = record { rows = k.rows; mounts = k.mounts; doubt = k.doubt }
  opening_in (opening.Put n r len groups) part s k = record { rows = k.rows; mounts = k.mounts; doubt = k.doubt }
  opening_in (opening.Recall n r recall) part s k = record { rows = k.rows; mounts = k.mounts; doubt = k.doubt }
  opening_in (opening.Reservation g n r) part s k = record { rows = k.rows; mounts = k.mounts; doubt = k.doubt }
  opening_in (opening.Mount g m vsn epoch made) part s k = record {
    rows = k.rows;
    mounts = each-insert numbers (λ q x. OriginIn lists contents x.origin) s.mounts m _ part k.mounts;
    doubt = k.doubt;
  }
  opening_in (opening.Move g job x source_epoch target_epoch) part s k = record {
    rows = k.rows;
    mounts = each-insert numbers (λ q y. OriginIn lists contents y.origin) _ x.target _ tt
        (each-insert numbers (λ q y. OriginIn lists contents y.origin) s.mounts x.source _ part k.mounts);
    doubt = k.doubt;
  }
  opening_in (opening.Reuse g m epoch x reading) part s k = record {
    rows = k.rows;
    mounts = each-insert numbers (λ q y. OriginIn lists contents y.origin) s.mounts m _ tt k.mounts;
    doubt = k.doubt;
  }

  pub stop_in : (s : Side) → In s → In (side_after_stop s)
  stop_in s k = record { rows = k.rows; mounts = each-empty _ _; doubt = tt }
