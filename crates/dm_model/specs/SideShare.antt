-- What the parts of a plan do to a group's side of the state: the library server, the volumes, the copies that are being
-- stored, and the mounts.
--
-- Each part of a side has its own effect, which looks at that part and at what the plan says; so a name's state is
-- changed by the events that are about it. Two effects look at a neighbour: the end of a mount takes it out of the
-- reservation that it was made for, and a mount that is made is told whether its file gives what is known.
use Rattle.std.specs.Prelude.{ℕ, Bool, false, cond, not, ◌&&◌, ◌||◌, Option, None, Some, List, length, nat_eq}
use Rattle.std.specs.List.{list_any}
use Rattle.std.specs.Option.{option_map}
use Rattle.std.specs.FinMap as map
use Rattle.dm_base.specs.declared.serial.Vsn.{Vsn}
use Rattle.dm_durable.specs.declared.group.GroupStep.{GroupStep}
use Rattle.dm_durable.specs.declared.group.GroupStep.TheVariants as step
use Rattle.dm_durable.specs.declared.group.VolumeRow.{VolumeRow}
use Rattle.dm_durable.specs.Tables.{ByNumber, ByName}
use Rattle.dm_model.specs.declared.plan.Ending.{Ending}
use Rattle.dm_model.specs.declared.plan.Ending.TheVariants as ending
use Rattle.dm_model.specs.declared.plan.Mark.{Mark}
use Rattle.dm_model.specs.declared.plan.Mark.TheVariants as mark
use Rattle.dm_model.specs.declared.plan.Opening.{Opening}
use Rattle.dm_model.specs.declared.plan.Opening.TheVariants as opening
use Rattle.dm_model.specs.declared.plan.Payload.{Payload}
use Rattle.dm_model.specs.declared.plan.Payload.TheVariants as payload
use Rattle.dm_model.specs.declared.plan.Prepared.{Prepared}
use Rattle.dm_model.specs.declared.state.CopyReservation.{CopyReservation}
use Rattle.dm_model.specs.declared.state.CopyState.{CopyState}
use Rattle.dm_model.specs.declared.state.Image.{Image}
use Rattle.dm_model.specs.declared.state.MountState.{MountState}
use Rattle.dm_model.specs.declared.state.Moving.{Moving}
use Rattle.dm_model.specs.declared.state.Origin.{Origin}
use Rattle.dm_model.specs.declared.state.Origin.TheVariants as origin
use Rattle.dm_model.specs.declared.state.Side.{Side}
use Rattle.dm_model.specs.GroupShare.{group_after_ending, group_after_opening, group_after_payload, group_after_stop, group_doubting, group_without_doubt}
use Rattle.dm_rules.specs.Known.{Known, known_without_range, known_with_write}
use Rattle.dm_rules.specs.Version.{first_version}
use Rattle.dm_tables.specs.Rows.{adjust}

-- ---- copies

abbrev pub reservation_by : (CopyReservation → CopyReservation) → CopyState → CopyState
reservation_by f c = record c { reservation = option_map f c.reservation }

abbrev pub with_reservation : Option CopyReservation → CopyState → CopyState
with_reservation r c = record c { reservation = r }

-- a mount is one of its reservation's, for the piece of this index; or no longer
abbrev pub with_piece_mount : ℕ → ℕ → CopyReservation → CopyReservation
with_piece_mount m index r = record r { mounts = map.insert r.mounts m index }

abbrev pub without_piece_mount : ℕ → CopyReservation → CopyReservation
without_piece_mount m r = record r { mounts = map.remove r.mounts m }

-- the last write of a piece; one that failed wrote nothing that is known
abbrev pub with_written : ℕ → ℕ → List ℕ → CopyReservation → CopyReservation
with_written index epoch zone r =
    record r { written = map.insert r.written index (record { epoch = epoch; zone = zone }) }

abbrev pub without_written : ℕ → CopyReservation → CopyReservation
without_written index r = record r { written = map.remove r.written index }

-- the copies after the end of a mount that was made for this
abbrev pub copies_unmounted : ℕ → Origin → ByNumber CopyState → ByNumber CopyState
copies_unmounted m (origin.New listed format) copies = copies
copies_unmounted m (origin.Piece b index piece chunk) copies =
    adjust copies b.0 (reservation_by (without_piece_mount m))
copies_unmounted m (origin.Chunk b chunk) copies = copies
copies_unmounted m (origin.Source job b chunk) copies = copies
copies_unmounted m (origin.Target job b total chunk version) copies = copies
copies_unmounted m (origin.Reuse next_epoch version reading) copies = copies

abbrev pub copies_unmounted_if : ℕ → Option MountState → ByNumber CopyState → ByNumber CopyState
copies_unmounted_if m None copies = copies
copies_unmounted_if m (Some x) copies = copies_unmounted m x.origin copies

-- the copies after a mount was made for this
abbrev pub copies_mounted : ℕ → Origin → ByNumber CopyState → ByNumber CopyState
copies_mounted m (origin.New listed format) copies = copies
copies_mounted m (origin.Piece b index piece chunk) copies =
    adjust copies b.0 (reservation_by (with_piece_mount m index))
copies_mounted m (origin.Chunk b chunk) copies = copies
copies_mounted m (origin.Source job b chunk) copies = copies
copies_mounted m (origin.Target job b total chunk version) copies = copies
copies_mounted m (origin.Reuse next_epoch version reading) copies = copies

-- ---- mounts

-- whether the file of a slot is faithful
abbrev pub is_faithful : List ℕ → ℕ → Bool
is_faithful faithful slot = list_any (λ s. nat_eq s slot) faithful

-- whether a read of a volume gives what is known: of version 1 always, of version 2 where its file is faithful. A volume
-- that the tables haven't has no version and no file, and so may give anything
abbrev pub is_bound : List ℕ → Option VolumeRow → Bool
is_bound faithful None = false
is_bound faithful (Some v) = nat_eq v.version first_version || is_faithful faithful v.slot

-- a mount on which nothing was done yet
abbrev pub new_mount : Side → Vsn → ℕ → Origin → MountState
new_mount s vsn epoch made = record {
  vsn = vsn;
  epoch = epoch;
  origin = made;
  bound = is_bound s.faithful (map.get s.group.tables.volumes vsn.0);
  labelled = None;
  read = None;
  written = None;
}

abbrev pub source_of : ℕ → Moving → Origin
source_of job x = origin.Source job x.bfid x.from

abbrev pub target_of : ℕ → Moving → Origin
target_of job x = origin.Target job x.bfid x.total x.to x.version

-- ---- images

abbrev pub known_by : (Known → Known) → Image → Image
known_by f i = record i { known = f i.known }

abbrev pub without_known : Image → Image
without_known i = record i { known = map.empty }

-- a volume that gets version 1 on a file that isn't faithful loses what was known of it: what was written while nothing
-- bound its reads may not bind them now
abbrev pub images_labelled : List ℕ → ℕ → ℕ → List ℕ → ByName Image → ByName Image
images_labelled faithful version slot vsn images =
    cond (nat_eq version first_version && not (is_faithful faithful slot)) (adjust images vsn without_known) images

abbrev pub images_relabelled : List ℕ → ℕ → List ℕ → Option VolumeRow → ByName Image → ByName Image
images_relabelled faithful version vsn None images = images
images_relabelled faithful version vsn (Some v) images = images_labelled faithful version v.slot vsn images

abbrev pub images_after_step : Side → GroupStep → ByName Image
images_after_step s (step.Volume vsn slot version size) = images_labelled s.faithful version slot vsn.0 s.images
images_after_step s (step.Commit b len chunks) = s.images
images_after_step s (step.Delete b) = s.images
images_after_step s (step.Move b from to) = s.images
images_after_step s (step.Free vsn) = s.images
images_after_step s (step.Reuse vsn epoch version) =
    images_relabelled s.faithful version vsn.0 (map.get s.group.tables.volumes vsn.0) s.images

abbrev pub images_after_payload : Side → Option Payload → ByName Image
images_after_payload s None = s.images
images_after_payload s (Some (payload.Daemon r)) = s.images
images_after_payload s (Some (payload.Group g r)) = images_after_step s r.step

-- ---- the parts of a plan

abbrev pub copies_after_ending : Ending → Side → ByNumber CopyState
copies_after_ending ending.Nothing s = s.copies
copies_after_ending (ending.Put k b groups) s = map.remove s.copies b.0
copies_after_ending (ending.Recall k) s = s.copies
copies_after_ending (ending.Reservation g n b) s = adjust s.copies b.0 (with_reservation None)
copies_after_ending (ending.Mount g m) s = copies_unmounted_if m (map.get s.mounts m) s.copies
copies_after_ending (ending.Move g job source target) s = s.copies

abbrev pub mounts_after_ending : Ending → Side → ByNumber MountState
mounts_after_ending ending.Nothing s = s.mounts
mounts_after_ending (ending.Put k b groups) s = s.mounts
mounts_after_ending (ending.Recall k) s = s.mounts
mounts_after_ending (ending.Reservation g n b) s = s.mounts
mounts_after_ending (ending.Mount g m) s = map.remove s.mounts m
mounts_after_ending (ending.Move g job source target) s = map.remove (map.remove s.mounts source) target

abbrev pub side_after_ending : Ending → Side → Side
side_after_ending e s = record s {
  group = group_after_ending e s.group;
  copies = copies_after_ending e s;
  mounts = mounts_after_ending e s;
}

-- a call that heals leaves no doubt
abbrev pub side_without_doubt : Bool → Side → Side
side_without_doubt heals s = record s { group = group_without_doubt heals s.group }

-- the payload may be in the journal; where there is none an older doubt stays
abbrev pub side_doubting : Option Payload → Side → Side
side_doubting p s = record s { group = group_doubting p s.group }

abbrev pub side_after_payload : Option Payload → Side → Side
side_after_payload p s = record s { group = group_after_payload p s.group; images = images_after_payload s p }

-- what a call leaves on a volume, and of the work on it
abbrev pub side_after_mark : Mark → Side → Side
side_after_mark mark.Nothing s = s
side_after_mark (mark.Zone g vsn place zone b index epoch) s = record s {
  images = adjust s.images vsn.0 (known_by (known_with_write place zone));
  copies = adjust s.copies b.0 (reservation_by (with_written index epoch zone));
}
side_after_mark (mark.Target g vsn m place zone) s = record s {
  images = adjust s.images vsn.0 (known_by (known_with_write place zone));
  mounts = adjust s.mounts m (λ x. record x { written = Some zone });
}
side_after_mark (mark.Label g vsn m epoch version text) s = record s {
  images = adjust s.images vsn.0 (known_by (known_with_write 0 text));
  mounts = adjust s.mounts m (λ x. record x { labelled = Some (record { epoch = epoch; version = version }) });
}
side_after_mark (mark.Read g b offset bytes) s = s
side_after_mark (mark.Source g m bytes) s = record s { mounts = adjust s.mounts m (λ x. record x { read = Some bytes }) }
side_after_mark (mark.Deleted g b) s = s

-- what a call that failed leaves: of what it would have written nothing is known
abbrev pub side_after_failed_mark : Mark → Side → Side
side_after_failed_mark mark.Nothing s = s
side_after_failed_mark (mark.Zone g vsn place zone b index epoch) s = record s {
  images = adjust s.images vsn.0 (known_by (known_without_range place (length zone)));
  copies = adjust s.copies b.0 (reservation_by (without_written index));
}
side_after_failed_mark (mark.Target g vsn m place zone) s = record s {
  images = adjust s.images vsn.0 (known_by (known_without_range place (length zone)));
  mounts = adjust s.mounts m (λ x. record x { written = None });
}
side_after_failed_mark (mark.Label g vsn m epoch version text) s = record s {
  images = adjust s.images vsn.0 (known_by (known_without_range 0 (length text)));
  mounts = adjust s.mounts m (λ x. record x { labelled = None });
}
side_after_failed_mark (mark.Read g b offset bytes) s = s
side_after_failed_mark (mark.Source g m bytes) s = s
side_after_failed_mark (mark.Deleted g b) s = s

abbrev pub copies_after_opening : Opening → ByNumber CopyState → ByNumber CopyState
copies_after_opening opening.Nothing copies = copies
copies_after_opening (opening.Put k r len groups) copies =
    map.insert copies r.bfid.0 (record { request = k; len = len; reservation = None })
copies_after_opening (opening.Recall k r recall) copies = copies
copies_after_opening (opening.Reservation g n r) copies =
    adjust copies r.bfid.0 (with_reservation (Some (record { number = n; mounts = map.empty; written = map.empty })))
copies_after_opening (opening.Mount g m vsn epoch made) copies = copies_mounted m made copies
copies_after_opening (opening.Move g job moving source_epoch target_epoch) copies = copies
copies_after_opening (opening.Reuse g m epoch reusing reading) copies = copies

abbrev pub mounts_after_opening : Opening → Side → ByNumber MountState
mounts_after_opening opening.Nothing s = s.mounts
mounts_after_opening (opening.Put k r len groups) s = s.mounts
mounts_after_opening (opening.Recall k r recall) s = s.mounts
mounts_after_opening (opening.Reservation g n r) s = s.mounts
mounts_after_opening (opening.Mount g m vsn epoch made) s = map.insert s.mounts m (new_mount s vsn epoch made)
mounts_after_opening (opening.Move g job x source_epoch target_epoch) s =
    map.insert (map.insert s.mounts x.source (new_mount s x.from.vsn source_epoch (source_of job x))) x.target
    (new_mount s x.to.vsn target_epoch (target_of job x))
mounts_after_opening (opening.Reuse g m epoch x reading) s =
    map.insert s.mounts m (new_mount s x.vsn epoch (origin.Reuse x.next_epoch x.version (record { 0 = reading })))

abbrev pub side_after_opening : Opening → Side → Side
side_after_opening o s = record s {
  group = group_after_opening o s.group;
  copies = copies_after_opening o s.copies;
  mounts = mounts_after_opening o s;
}

-- ---- whole events

-- the side after a call of its group, or on one of its volumes
abbrev pub side_after_call : Prepared → Side → Side
side_after_call p s =
    side_after_opening p.opens
    (side_after_mark p.mark (side_after_payload p.payload (side_without_doubt p.heals (side_after_ending p.ends s))))

-- the side after such a call that failed
abbrev pub side_after_fault : Prepared → Bool → Side → Side
side_after_fault p far s =
    side_doubting (cond far p.payload None) (side_after_failed_mark p.mark (side_after_ending p.ends s))

-- what the end of the program leaves: the library server's tables, and what stands on the volumes
abbrev pub side_after_stop : Side → Side
side_after_stop s = record s { group = group_after_stop s.group; copies = map.empty; mounts = map.empty }
