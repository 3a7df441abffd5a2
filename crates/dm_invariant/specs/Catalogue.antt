-- The invariant, of the bitfiles that a group has.
use Rattle.std.specs.Prelude.{◌≡◌, ◌≤◌, ◌+◌, ℕ, true, false, None, Some, IsSome, is_some, List, length}
use Rattle.std.specs.FinMap as map
use Rattle.dm_base.specs.declared.volume.Chunk.{Chunk}
use Rattle.dm_rules.specs.Label.{first_zone}
use Rattle.dm_rules.specs.Version.{has_sum}
use Rattle.dm_tables.specs.Rows.{EachRow}
use Rattle.dm_durable.specs.declared.daemon.Entry.{Entry}
use Rattle.dm_durable.specs.declared.group.BitfileRow.{BitfileRow}
use Rattle.dm_durable.specs.declared.group.VolumeRow.{VolumeRow}
use Rattle.dm_durable.specs.Tables.{ByNumber, ByName}
use Rattle.dm_durable.specs.Entries.{asks, has_stored}
use Rattle.dm_durable.specs.GroupConditions.{Joins}
use Rattle.dm_model.specs.declared.state.Image.{Image}
use Rattle.dm_invariant.specs.Among.{IsAmong}
use Rattle.dm_invariant.specs.Assemble.{ChunkKnown, SumRight}

-- a chunk of a stored bitfile lies behind the label of a volume that isn't held, before its end, and has a sum exactly
-- where that volume's chunks do
pub record LiesBefore (volumes : ByName VolumeRow) (c : Chunk) : Type 0 where
  pub volume : VolumeRow
  pub is : map.get volumes c.vsn.0 ≡ Some volume
  pub usable : volume.held ≡ None
  pub behind : first_zone ≤ c.place
  pub within : c.place + c.len ≤ volume.end
  pub sum : is_some c.sum ≡ has_sum volume.version

-- a bitfile that was asked of the group: its entry asks the group, and its content is known and has the entry's length
pub record AskedBitfile (g : ℕ) (entries : ByNumber Entry) (contents : ByNumber (List ℕ)) (b : ℕ) : Type 0 where
  pub entry : Entry
  pub is : map.get entries b ≡ Some entry
  pub asked : asks entry g ≡ true
  pub bytes : List ℕ
  pub content : map.get contents b ≡ Some bytes
  pub sized : length bytes ≡ entry.len

-- a bitfile of the group: it was asked of it, and its chunks join, lie on volumes, and are known to be its content
pub record BitfileKept (g : ℕ) (entries : ByNumber Entry) (contents : ByNumber (List ℕ)) (volumes : ByName VolumeRow) (images : ByName Image) (b : ℕ)
    (row : BitfileRow) : Type 0 where
  pub of : AskedBitfile g entries contents b
  pub len : of.entry.len ≡ row.len
  pub joins : Joins 0 row.chunks row.len
  pub lies : (c : Chunk) → IsAmong c row.chunks → LiesBefore volumes c
  pub known : (c : Chunk) → IsAmong c row.chunks → ChunkKnown images of.bytes c
  pub sums : (c : Chunk) → IsAmong c row.chunks → SumRight of.bytes c

-- what an entry says is stored is there, unless it is being dropped
abbrev pub StoredKept : ℕ → ByNumber Entry → ByNumber BitfileRow → Type 0
StoredKept g entries bitfiles = EachRow entries (λ b e. e.dropping ≡ false → has_stored e g ≡ true → IsSome (map.get bitfiles b))

-- the bitfiles of a group agree with the entries, and with what was committed and deleted
pub record CatalogueKept (g : ℕ) (entries : ByNumber Entry) (contents : ByNumber (List ℕ)) (taken : ByNumber (Unit {0})) (volumes : ByName VolumeRow)
    (images : ByName Image) (bitfiles : ByNumber BitfileRow) (committed deleted : ByNumber (Unit {0})) : Type 0 where
  pub bitfile : EachRow bitfiles (BitfileKept g entries contents volumes images)
  pub stored : StoredKept g entries bitfiles
  -- what was committed is there, unless it is being dropped; and its content is known
  pub commits : EachRow committed (λ b u. (e : Entry) → map.get entries b ≡ Some e → e.dropping ≡ false → IsSome (map.get bitfiles b))
  pub commits_made : EachRow committed (λ b u. IsSome (map.get contents b))
  -- what the group was told to delete was taken by a hard delete, and isn't there
  pub deletes : EachRow deleted (λ b u. map.get bitfiles b ≡ None)
  pub deletes_taken : EachRow deleted (λ b u. IsSome (map.get taken b))
