-- What a record does to a group's tables.
use Rattle.std.specs.Prelude.{ℕ, ◌+◌, Bool, cond, Option, None, Some, List, [], ◌∷◌, map, nat_eq}
use Rattle.std.specs.List.{list_any}
use Rattle.std.specs.FinMap as map
use Rattle.dm_base.specs.declared.identifier.GroupId.{GroupId}
use Rattle.dm_base.specs.declared.volume.Chunk.{Chunk}
use Rattle.dm_durable.specs.declared.group.VolumeRow.{VolumeRow}
use Rattle.dm_durable.specs.declared.group.BitfileRow.{BitfileRow}
use Rattle.dm_durable.specs.declared.group.GroupTables.{GroupTables}
use Rattle.dm_durable.specs.declared.group.GroupStep.{GroupStep}
use Rattle.dm_durable.specs.declared.group.GroupStep.TheVariants.{Volume, Commit, Delete, Move, Free, Reuse}
use Rattle.dm_durable.specs.declared.group.GroupRecord.{GroupRecord}
use Rattle.dm_tables.specs.Rows.{adjust, any}
use Rattle.dm_rules.specs.Label.{first_zone}
use Rattle.dm_rules.specs.Numbers.{greater, as_word}
use Rattle.dm_durable.specs.Tables.{ByName, ByNumber, same_text}

-- ---- volumes

-- a volume that was labelled for the first time
abbrev pub new_volume : ℕ → ℕ → ℕ → VolumeRow
new_volume slot version size =
    record { slot = slot; version = version; size = size; epoch = 1; end = first_zone; held = None }

-- the volume is written up to behind the chunk at least
abbrev pub with_end_behind : Chunk → VolumeRow → VolumeRow
with_end_behind c v = record v { end = greater v.end (as_word (c.place + c.len)) }

-- each chunk raises the end of its volume, where that is lower
unfoldable pub with_ends_behind : List Chunk → ByName VolumeRow → ByName VolumeRow
with_ends_behind [] volumes = volumes
with_ends_behind (c ∷ cs) volumes = with_ends_behind cs (adjust volumes c.vsn.0 (with_end_behind c))

-- the volume was freed at this time, and waits to be used anew
abbrev pub as_held : ℕ → VolumeRow → VolumeRow
as_held time v = record v { held = Some (record { 0 = time }) }

-- the volume is empty under a new label
abbrev pub as_reused : ℕ → ℕ → VolumeRow → VolumeRow
as_reused epoch version v = record v { epoch = epoch; version = version; end = first_zone; held = None }

-- ---- chunks

-- the chunk that begins at an offset
abbrev pub chunk_at : ℕ → List Chunk → Option Chunk
chunk_at offset [] = None
chunk_at offset (c ∷ cs) = cond (nat_eq c.offset offset) (Some c) (chunk_at offset cs)

-- the chunk in the place of the one that begins where it does
abbrev pub chunk_or_moved : Chunk → Chunk → Chunk
chunk_or_moved to c = cond (nat_eq c.offset to.offset) to c

abbrev pub with_chunk : Chunk → BitfileRow → BitfileRow
with_chunk to row = record row { chunks = map (chunk_or_moved to) row.chunks }

-- whether the chunk is on the volume
abbrev pub is_on : List ℕ → Chunk → Bool
is_on vsn c = same_text c.vsn.0 vsn

-- whether a chunk of some bitfile is on the volume
abbrev pub has_chunk_on : ByNumber BitfileRow → List ℕ → Bool
has_chunk_on bitfiles vsn = any (λ b row. list_any (is_on vsn) row.chunks) bitfiles

-- ---- all steps

abbrev pub group_after_step : GroupTables → GroupStep → GroupTables
group_after_step t (Volume vsn slot version size) = record t { volumes = map.insert t.volumes vsn.0 (new_volume slot version size) }
group_after_step t (Commit b len chunks) = record t {
  volumes = with_ends_behind chunks t.volumes;
  bitfiles = map.insert t.bitfiles b.0 (record { len = len; chunks = chunks });
}
group_after_step t (Delete b) = record t { bitfiles = map.remove t.bitfiles b.0 }
group_after_step t (Move b from to) = record t {
  volumes = adjust t.volumes to.vsn.0 (with_end_behind to);
  bitfiles = adjust t.bitfiles b.0 (with_chunk to);
}
group_after_step t (Free vsn) = record t { volumes = adjust t.volumes vsn.0 (as_held t.time.0) }
group_after_step t (Reuse vsn epoch version) = record t { volumes = adjust t.volumes vsn.0 (as_reused epoch version) }

-- the tables after a record: its time, and then its step
abbrev pub group_after_record : GroupTables → GroupRecord → GroupTables
group_after_record t r = group_after_step (record t { time = r.time }) r.step

-- the tables of a group before the first record
abbrev pub empty_group : GroupId → GroupTables
empty_group g = record { group = g; time = record { 0 = 0 }; volumes = map.empty; bitfiles = map.empty }
