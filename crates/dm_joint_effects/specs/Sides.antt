-- What a group's payload, a copy that begins, and room for it do to its side: the definitions of the words at those variants.
use Rattle.std.specs.Prelude.{ℕ, ⊤, None, Some}
use Rattle.std.specs.FinMap as map
use Rattle.dm_durable.specs.declared.group.GroupRecord.{GroupRecord}
use Rattle.dm_durable.specs.Tables.{ByNumber}
use Rattle.dm_model.specs.declared.plan.Mark.{Mark}
use Rattle.dm_model.specs.declared.plan.Mark.TheVariants as mark
use Rattle.dm_model.specs.declared.plan.Opening.{Opening}
use Rattle.dm_model.specs.declared.plan.Opening.TheVariants as opening
use Rattle.dm_model.specs.declared.state.Reserved.{Reserved}
use Rattle.dm_model.specs.declared.state.Side.{Side}
use Rattle.dm_model.specs.Effects.{at_each, groups_of_opening}
use Rattle.dm_model.specs.GroupShare.{group_with_doubt, library_after_record, with_reserved}
use Rattle.dm_model.specs.SideShare.{images_after_step, side_after_opening, with_reservation}
use Rattle.dm_tables.specs.Rows.{adjust}

abbrev pub side_with_doubt : GroupRecord → Side → Side
side_with_doubt r s = record s { group = group_with_doubt (Some r) s.group }

abbrev pub side_after_record : GroupRecord → Side → Side
side_after_record r s = record s { group = library_after_record r s.group; images = images_after_step s r.step }

abbrev pub side_with_reserved : ℕ → Reserved → Side → Side
side_with_reserved n r s = record s {
  group = with_reserved n r s.group;
  copies = adjust s.copies r.bfid.0 (with_reservation (Some (record { number = n; mounts = map.empty; written = map.empty })));
}

abbrev pub side_with_copy : ℕ → ℕ → ℕ → Side → Side
side_with_copy k b len s =
    record s { copies = map.insert s.copies b (record { request = k; len = len; reservation = None }) }

-- the mark is no zone of a copy
abbrev pub IsNoZone : Mark → Type 0
IsNoZone mark.Nothing = ⊤
IsNoZone (mark.Zone g vsn place zone b index epoch) = ⊥
IsNoZone (mark.Target g vsn m place zone) = ⊤
IsNoZone (mark.Label g vsn m epoch version text) = ⊤
IsNoZone (mark.Read g b offset bytes) = ⊤
IsNoZone (mark.Source g m bytes) = ⊤
IsNoZone (mark.Deleted g b) = ⊤

-- a call of a group makes it
abbrev pub IsOfGroup : Opening → Type 0
IsOfGroup opening.Nothing = ⊥
IsOfGroup (opening.Put k r len groups) = ⊥
IsOfGroup (opening.Recall k r recall) = ⊥
IsOfGroup (opening.Reservation g n r) = ⊤
IsOfGroup (opening.Mount g m vsn epoch made) = ⊤
IsOfGroup (opening.Move g job moving source_epoch target_epoch) = ⊤
IsOfGroup (opening.Reuse g m epoch reusing reading) = ⊤

-- a chunk is to be moved, or a volume to be used anew
abbrev pub IsJob : Opening → Type 0
IsJob opening.Nothing = ⊥
IsJob (opening.Put k r len groups) = ⊥
IsJob (opening.Recall k r recall) = ⊥
IsJob (opening.Reservation g n r) = ⊥
IsJob (opening.Mount g m vsn epoch made) = ⊥
IsJob (opening.Move g job moving source_epoch target_epoch) = ⊤
IsJob (opening.Reuse g m epoch reusing reading) = ⊤

-- the sides of all groups with what the call made
abbrev pub sides_opened : Opening → ByNumber Side → ByNumber Side
sides_opened o sides = at_each (side_after_opening o) (groups_of_opening o) sides
