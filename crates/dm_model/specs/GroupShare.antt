-- What the parts of a plan do to a group's library server alone.
--
-- This is all that the library server itself does: the effects on a group's side of the state (`SideShare`) are written by
-- it. A plan's parts are here those of a call of this group; what is of another component leaves it as it is.
use Rattle.std.specs.Prelude.{ℕ, ◌+◌, Bool, cond, Option, None, Some, List, [], ◌∷◌}
use Rattle.std.specs.FinMap as map
use Rattle.dm_base.specs.declared.serial.Vsn.{Vsn}
use Rattle.dm_base.specs.declared.volume.Piece.{Piece}
use Rattle.dm_durable.specs.declared.group.GroupRecord.{GroupRecord}
use Rattle.dm_durable.specs.declared.group.GroupStep.{GroupStep}
use Rattle.dm_durable.specs.declared.group.GroupStep.TheVariants as step
use Rattle.dm_durable.specs.Group.{group_after_record}
use Rattle.dm_durable.specs.Tables.{ByName}
use Rattle.dm_model.specs.declared.plan.Ending.{Ending}
use Rattle.dm_model.specs.declared.plan.Ending.TheVariants as ending
use Rattle.dm_model.specs.declared.plan.Opening.{Opening}
use Rattle.dm_model.specs.declared.plan.Opening.TheVariants as opening
use Rattle.dm_model.specs.declared.plan.Payload.{Payload}
use Rattle.dm_model.specs.declared.plan.Payload.TheVariants as payload
use Rattle.dm_model.specs.declared.plan.Prepared.{Prepared}
use Rattle.dm_model.specs.declared.state.Group.{Group}
use Rattle.dm_model.specs.declared.state.Moving.{Moving}
use Rattle.dm_model.specs.declared.state.Reserved.{Reserved}
use Rattle.dm_model.specs.declared.state.Reusing.{Reusing}
use Rattle.dm_rules.specs.Label.{first_zone}
use Rattle.dm_rules.specs.Numbers.{as_word}
use Rattle.dm_rules.specs.Plan.{zone_end}
use Rattle.dm_rules.specs.Zone.{weight}

-- ---- what is spent

-- with a mount ends the reuse of its volume, if it is for one
abbrev pub without_mount : ℕ → Group → Group
without_mount m x = record x { mounts = map.remove x.mounts m; reuses = map.remove x.reuses m }

abbrev pub without_move : ℕ → ℕ → ℕ → Group → Group
without_move job source target x =
    record x { moves = map.remove x.moves job; mounts = map.remove (map.remove x.mounts source) target }

abbrev pub group_after_ending : Ending → Group → Group
group_after_ending ending.Nothing x = x
group_after_ending (ending.Put k b groups) x = x
group_after_ending (ending.Recall k) x = x
group_after_ending (ending.Reservation g n b) x = record x { reservations = map.remove x.reservations n }
group_after_ending (ending.Mount g m) x = without_mount m x
group_after_ending (ending.Move g job source target) x = without_move job source target x

-- ---- what is journalled

-- a volume that was labelled is empty
abbrev pub tips_after_step : ByName ℕ → GroupStep → ByName ℕ
tips_after_step tips (step.Volume vsn slot version size) = map.insert tips vsn.0 first_zone
tips_after_step tips (step.Commit b len chunks) = tips
tips_after_step tips (step.Delete b) = tips
tips_after_step tips (step.Move b from to) = tips
tips_after_step tips (step.Free vsn) = tips
tips_after_step tips (step.Reuse vsn epoch version) = map.insert tips vsn.0 first_zone

abbrev pub library_after_record : GroupRecord → Group → Group
library_after_record r x =
    record x { tables = group_after_record x.tables r; tips = tips_after_step x.tips r.step }

abbrev pub group_after_payload : Option Payload → Group → Group
group_after_payload None x = x
group_after_payload (Some (payload.Daemon r)) x = x
group_after_payload (Some (payload.Group g r)) x = library_after_record r x

-- ---- what is in doubt

abbrev pub group_with_doubt : Option GroupRecord → Group → Group
group_with_doubt doubt x = record x { doubt = doubt }

-- a call that heals leaves no doubt
abbrev pub group_without_doubt : Bool → Group → Group
group_without_doubt heals x = cond heals (group_with_doubt None x) x

-- the payload may be in the journal; where there is none an older doubt stays
abbrev pub group_doubting : Option Payload → Group → Group
group_doubting None x = x
group_doubting (Some (payload.Daemon r)) x = x
group_doubting (Some (payload.Group g r)) x = group_with_doubt (Some r) x

-- ---- what is made

-- each piece moves the tip of its volume behind its zone
abbrev pub tips_behind : ℕ → List Piece → ByName ℕ → ByName ℕ
tips_behind chunk [] tips = tips
tips_behind chunk (p ∷ ps) tips = tips_behind chunk ps (map.insert tips p.vsn.0 (as_word (zone_end chunk p)))

abbrev pub with_reserved : ℕ → Reserved → Group → Group
with_reserved n r x = record x {
  reservations = map.insert x.reservations n r;
  next_reservation = n + 1;
  tips = tips_behind r.chunk r.pieces x.tips;
}

abbrev pub with_mounted : ℕ → Vsn → ℕ → Group → Group
with_mounted m vsn epoch x = record x {
  mounts = map.insert x.mounts m (record { vsn = vsn; epoch = epoch });
  next_mount = m + 1;
}

-- the tip of the target moves behind the zone, which has the one chunk
abbrev pub tip_behind_moved : Moving → ByName ℕ → ByName ℕ
tip_behind_moved x tips = map.insert tips x.to.vsn.0 (as_word (x.to.zone + weight x.version x.to.len))

abbrev pub with_moving : ℕ → Moving → Group → Group
with_moving job x group =
    record group { moves = map.insert group.moves job x; next_move = job + 1; tips = tip_behind_moved x group.tips }

abbrev pub with_reusing : ℕ → Reusing → Group → Group
with_reusing m x group = record group { reuses = map.insert group.reuses m x }

abbrev pub group_after_opening : Opening → Group → Group
group_after_opening opening.Nothing x = x
group_after_opening (opening.Put k r len groups) x = x
group_after_opening (opening.Recall k r recall) x = x
group_after_opening (opening.Reservation g n r) x = with_reserved n r x
group_after_opening (opening.Mount g m vsn epoch made) x = with_mounted m vsn epoch x
group_after_opening (opening.Move g job moving source_epoch target_epoch) x =
    with_moving job moving
    (with_mounted moving.target moving.to.vsn target_epoch (with_mounted moving.source moving.from.vsn source_epoch x))
group_after_opening (opening.Reuse g m epoch reusing reading) x =
    with_reusing m reusing (with_mounted m reusing.vsn epoch x)

-- ---- whole events

-- the group after a call of it: what it spends goes, and a step in doubt, if it heals; its step is journalled, and its
-- tokens are made
abbrev pub group_after_call : Prepared → Group → Group
group_after_call p x =
    group_after_opening p.opens
    (group_after_payload p.payload (group_without_doubt p.heals (group_after_ending p.ends x)))

-- the group after a call of it that failed: `far` says that it had come past its heal and its checkpoint
abbrev pub group_after_fault : Prepared → Bool → Group → Group
group_after_fault p far x = group_doubting (cond far p.payload None) (group_after_ending p.ends x)

-- the step in doubt, if there is one, landed or did not, and isn't in doubt any more
abbrev pub group_settled : Bool → Option GroupRecord → Group → Group
group_settled landed None x = group_with_doubt None x
group_settled landed (Some r) x =
    cond landed (library_after_record r (group_with_doubt None x)) (group_with_doubt None x)

abbrev pub group_after_heal : Bool → Group → Group
group_after_heal landed x = group_settled landed x.doubt x

-- what the end of the program leaves: tips are ends, and nothing is open
abbrev pub group_after_stop : Group → Group
group_after_stop x = record x {
  tips = map.empty;
  reservations = map.empty;
  next_reservation = 0;
  mounts = map.empty;
  next_mount = 0;
  moves = map.empty;
  next_move = 0;
  reuses = map.empty;
  doubt = None;
}
