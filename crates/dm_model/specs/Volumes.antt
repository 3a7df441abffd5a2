-- What a group tells of its volumes while the program runs.
--
-- What the tables say of volumes beside what is open on them is defined below (`dm_durable`, Volumes); here is what of a
-- group that takes. Nothing is kept twice: a component that keeps sums or an index keeps what equals these.
use Rattle.std.specs.Prelude.{ℕ, ◌+◌, ◌-◌, Bool, ◌||◌, List, [], ◌∷◌, nat_lt}
use Rattle.std.specs.List.{flat_map, list_any}
use Rattle.std.specs.FinMap as map
use Rattle.dm_base.specs.declared.error.GroupError.TheVariants.{NotYet}
use Rattle.dm_base.specs.declared.volume.VolRow.{VolRow}
use Rattle.dm_durable.specs.declared.group.VolumeRow.{VolumeRow}
use Rattle.dm_durable.specs.Tables.{ByNumber, same_text}
use Rattle.dm_durable.specs.Volumes.{Usage, epoch_or, is_listed, live_on, of_serial, state_in, tip_in}
use Rattle.dm_model.specs.declared.answer.Answer.{Answer}
use Rattle.dm_model.specs.declared.answer.Answer.TheVariants.{GroupRefused}
use Rattle.dm_model.specs.declared.state.Group.{Group}
use Rattle.dm_model.specs.declared.state.Mounted.{Mounted}
use Rattle.dm_model.specs.declared.state.Reserved.{Reserved}
use Rattle.dm_model.specs.declared.state.Reusing.{Reusing}
use Rattle.dm_rules.specs.Numbers.{as_word}
use Rattle.dm_tables.specs.Rows.{any}

-- ---- what is open on a volume

abbrev pub is_mounted : ByNumber Mounted → List ℕ → Bool
is_mounted mounts vsn = any (λ m x. same_text x.vsn.0 vsn) mounts

-- whether a reservation has a piece there
abbrev pub has_piece_on : List ℕ → Reserved → Bool
has_piece_on vsn r = list_any (λ p. same_text p.vsn.0 vsn) r.pieces

abbrev pub is_reserved : ByNumber Reserved → List ℕ → Bool
is_reserved reservations vsn = any (λ n r. has_piece_on vsn r) reservations

-- whether it is about to be labelled anew
abbrev pub is_being_reused : ByNumber Reusing → List ℕ → Bool
is_being_reused reuses vsn = any (λ m x. same_text x.vsn.0 vsn) reuses

abbrev pub usage_of : Group → Usage
usage_of group = record {
  chunk = group.conf.chunk;
  tips = group.tips;
  reserved = λ vsn. is_reserved group.reservations vsn;
  mounted = λ vsn. is_mounted group.mounts vsn;
  reused = λ vsn. is_being_reused group.reuses vsn;
}

-- ---- rows

-- what a user is told of a volume
abbrev pub volume_row : Group → List ℕ → VolumeRow → VolRow
volume_row group vsn v = record {
  vsn = record { 0 = vsn };
  state = state_in (usage_of group) vsn v;
  tip = tip_in group.tips vsn v;
  live = as_word (live_on group.tables.bitfiles vsn);
}

-- the rows of all volumes, by serial number
abbrev pub all_volumes : Group → List VolRow
all_volumes group = flat_map (λ e. of_serial e.0 (volume_row group e.0 e.1 ∷ [])) (map.entries group.tables.volumes)

-- ---- mounting

abbrev pub is_configured : Group → List ℕ → Bool
is_configured group vsn = is_listed group.conf.volumes vsn

-- the epoch of a volume, which is 1 where the tables haven't the volume yet
abbrev pub epoch_of : Group → List ℕ → ℕ
epoch_of group vsn = epoch_or (map.get group.tables.volumes vsn)

abbrev pub free_drives : Group → ℕ
free_drives group = group.conf.drives - map.len group.mounts

-- a volume can't be mounted where it is mounted already, or no more than `others` drives are free
abbrev pub mount_refusal : ℕ → Group → List ℕ → Bool × Answer
mount_refusal others group vsn =
    let mounted = is_mounted group.mounts vsn in
    (mounted || nat_lt (free_drives group) (others + 1), GroupRefused (NotYet mounted (free_drives group)))
