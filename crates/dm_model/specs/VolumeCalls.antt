-- What each call on a volume comes to, and what it needs of the mount under which it is made.
--
-- The component is the volume, and its home in a history is the volume: a plan looks at its image and at the mount, and a
-- group is named by number alone. What `own` has is of the image.
use Rattle.std.specs.Prelude.{ℕ, ◌+◌, Bool, true, false, cond, not, ◌&&◌, ◌||◌, Option, None, Some, List, [], ◌∷◌, length, nat_eq, nat_le}
use Rattle.dm_base.specs.declared.identifier.GroupId.{GroupId}
use Rattle.dm_base.specs.declared.serial.Vsn.{Vsn}
use Rattle.dm_base.specs.declared.volume.Chunk.{Chunk}
use Rattle.dm_durable.specs.Tables.{same_text}
use Rattle.dm_model.specs.declared.answer.Answer.{Answer}
use Rattle.dm_model.specs.declared.answer.Answer.TheVariants as answer
use Rattle.dm_model.specs.declared.call.Component.TheVariants as component
use Rattle.dm_model.specs.declared.call.VolumeCall.{VolumeCall}
use Rattle.dm_model.specs.declared.call.VolumeCall.TheVariants as call
use Rattle.dm_model.specs.declared.guard.Guard.TheVariants as guard
use Rattle.dm_model.specs.declared.plan.Mark.{Mark}
use Rattle.dm_model.specs.declared.plan.Mark.TheVariants as mark
use Rattle.dm_model.specs.declared.state.Image.{Image}
use Rattle.dm_model.specs.declared.state.MountState.{MountState}
use Rattle.dm_model.specs.declared.state.Origin.{Origin}
use Rattle.dm_model.specs.declared.state.Origin.TheVariants as origin
use Rattle.dm_model.specs.GroupCalls.{no_group, of_tokens}
use Rattle.dm_model.specs.Guards.{Guarded}
use Rattle.dm_model.specs.Plan.{Plan, Needs, quiet_plan}
use Rattle.dm_rules.specs.Known.{agrees_with_known}
use Rattle.dm_rules.specs.Label.{label, first_zone}
use Rattle.dm_rules.specs.Zone.{weight, zone_length}
use Rattle.sha2.specs.Sha256.{sha256}

-- a call on a volume: it uses a device, and has nothing to settle first
abbrev pub on_volume : GroupId → Answer → Plan
on_volume g a = record (quiet_plan (component.Group g) a) { device = true }

-- ---- write_zone

-- whether a mount is for a zone of this place and length. A moved chunk is a zone of its own, whatever length the group's
-- chunks have, and so as long as what it weighs
abbrev pub is_zone_place : Origin → ℕ → ℕ → Bool
is_zone_place (origin.New listed format) place n = false
is_zone_place (origin.Piece b index p chunk) place n =
    nat_eq place p.zone && nat_eq n (zone_length p.version chunk p.len)
is_zone_place (origin.Chunk b c) place n = false
is_zone_place (origin.Source job b c) place n = false
is_zone_place (origin.Target job b total c version) place n = nat_eq place c.zone && nat_eq n (weight version c.len)
is_zone_place (origin.Reuse next_epoch version reading) place n = false

abbrev pub zone_mark : GroupId → Vsn → ℕ → ℕ → List ℕ → ℕ → Origin → Mark
zone_mark g vsn m place zone epoch (origin.New listed format) = mark.Nothing
zone_mark g vsn m place zone epoch (origin.Piece b index p chunk) = mark.Zone g vsn place zone b index epoch
zone_mark g vsn m place zone epoch (origin.Chunk b c) = mark.Nothing
zone_mark g vsn m place zone epoch (origin.Source job b c) = mark.Nothing
zone_mark g vsn m place zone epoch (origin.Target job b total c version) = mark.Target g vsn m place zone
zone_mark g vsn m place zone epoch (origin.Reuse next_epoch version reading) = mark.Nothing

abbrev pub write_zone : GroupId → Vsn → ℕ → ℕ → List ℕ → MountState → Plan
write_zone g vsn m place zone x =
    record (on_volume g answer.ZoneWritten) { mark = zone_mark g vsn m place zone x.epoch x.origin }

abbrev pub write_zone_needs : ℕ → List ℕ → MountState → List Guarded
write_zone_needs place zone x = (is_zone_place x.origin place (length zone), guard.ZonePlace) ∷ []

-- ---- read_chunk

-- the range lies behind the label within the volume, or is the label
abbrev pub is_range : ℕ → ℕ → ℕ → Bool
is_range size place n =
    (nat_le first_zone place && nat_le (place + n) size) || (nat_eq place 0 && nat_eq n first_zone)

abbrev pub is_of_any_volume : Origin → Bool
is_of_any_volume (origin.New listed format) = true
is_of_any_volume (origin.Piece b index p chunk) = false
is_of_any_volume (origin.Chunk b c) = false
is_of_any_volume (origin.Source job b c) = false
is_of_any_volume (origin.Target job b total c version) = false
is_of_any_volume (origin.Reuse next_epoch version reading) = false

-- whether bytes have the sum, where there is one
abbrev pub has_sum_of : Option (List ℕ) → List ℕ → Bool
has_sum_of None bytes = true
has_sum_of (Some sum) bytes = same_text sum (sha256 bytes)

-- whether a read of this range, which gave these bytes, is one of the whole chunk that counts
abbrev pub is_read_of : Chunk → ℕ → ℕ → List ℕ → Bool
is_read_of c place n bytes = nat_eq place c.place && nat_eq n c.len && has_sum_of c.sum bytes

-- a read that counts is kept for the recalls of the worker, or for the move
abbrev pub read_mark : GroupId → ℕ → ℕ → ℕ → List ℕ → Origin → Mark
read_mark g m place n bytes (origin.New listed format) = mark.Nothing
read_mark g m place n bytes (origin.Piece b index p chunk) = mark.Nothing
read_mark g m place n bytes (origin.Chunk b c) =
    cond (is_read_of c place n bytes) (mark.Read g b c.offset bytes) mark.Nothing
read_mark g m place n bytes (origin.Source job b c) =
    cond (is_read_of c place n bytes) (mark.Source g m bytes) mark.Nothing
read_mark g m place n bytes (origin.Target job b total c version) = mark.Nothing
read_mark g m place n bytes (origin.Reuse next_epoch version reading) = mark.Nothing

abbrev pub read_chunk : GroupId → Image → ℕ → ℕ → ℕ → List ℕ → MountState → Plan
read_chunk g image m place n bytes x = record (on_volume g (answer.ChunkRead bytes)) {
  own = (is_range image.size place n, guard.RangeRead) ∷ [];
  making =
      (nat_eq (length bytes) n, guard.RangeRead)
      ∷ (not x.bound || agrees_with_known image.known place bytes, guard.RangeRead)
      ∷ [];
  mark = read_mark g m place n bytes x.origin;
}

-- the label is read under a mount of any volume alone
abbrev pub read_chunk_needs : ℕ → MountState → List Guarded
read_chunk_needs place x = (nat_le first_zone place || is_of_any_volume x.origin, guard.RangeRead) ∷ []

-- ---- relabel

-- whether a mount is for a label of this epoch and version
abbrev pub is_planned_label : Origin → ℕ → ℕ → Bool
is_planned_label (origin.New listed format) epoch version = not listed && nat_eq epoch 1 && nat_eq version format
is_planned_label (origin.Piece b index p chunk) epoch version = false
is_planned_label (origin.Chunk b c) epoch version = false
is_planned_label (origin.Source job b c) epoch version = false
is_planned_label (origin.Target job b total c v) epoch version = false
is_planned_label (origin.Reuse next_epoch v reading) epoch version = nat_eq epoch next_epoch && nat_eq version v

abbrev pub relabel : GroupId → Vsn → Image → ℕ → ℕ → ℕ → Plan
relabel g vsn image m epoch version = record (on_volume g answer.Labelled) {
  mark = mark.Label g vsn m epoch version (label vsn.0 g.0 version epoch image.size);
}

abbrev pub relabel_needs : ℕ → ℕ → MountState → List Guarded
relabel_needs epoch version x = (is_planned_label x.origin epoch version, guard.LabelPlanned) ∷ []

-- ---- all calls

abbrev pub mount_in : VolumeCall → ℕ
mount_in (call.WriteZone m place zone) = m
mount_in (call.ReadChunk m place n bytes) = m
mount_in (call.Relabel m epoch version) = m

abbrev pub mounted_plan : GroupId → Vsn → Image → MountState → VolumeCall → Plan
mounted_plan g vsn image x (call.WriteZone m place zone) = write_zone g vsn m place zone x
mounted_plan g vsn image x (call.ReadChunk m place n bytes) = read_chunk g image m place n bytes x
mounted_plan g vsn image x (call.Relabel m epoch version) = relabel g vsn image m epoch version

-- of a mount that isn't open there is nothing to do
abbrev pub image_plan : GroupId → Vsn → Image → Option MountState → VolumeCall → Plan
image_plan g vsn image None c = on_volume g answer.Failed
image_plan g vsn image (Some x) c = mounted_plan g vsn image x c

abbrev pub volume_plan : GroupId → Vsn → Option Image → Option MountState → VolumeCall → Plan
volume_plan g vsn None x c = no_group g
volume_plan g vsn (Some image) x c = image_plan g vsn image x c

abbrev pub mounted_needs : MountState → VolumeCall → List Guarded
mounted_needs x (call.WriteZone m place zone) = write_zone_needs place zone x
mounted_needs x (call.ReadChunk m place n bytes) = read_chunk_needs place x
mounted_needs x (call.Relabel m epoch version) = relabel_needs epoch version x

-- the mount is open, and of this volume
abbrev pub volume_needs : Vsn → Option MountState → VolumeCall → Needs
volume_needs vsn None c = of_tokens ((false, guard.Tokens) ∷ [])
volume_needs vsn (Some x) c = of_tokens ((same_text x.vsn.0 vsn.0, guard.Tokens) ∷ mounted_needs x c)
