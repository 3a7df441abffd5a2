-- The spots of each volume.
use Rattle.std.specs.Prelude.{◌≡◌, ◌≢◌, ℕ, ◌+◌, ◌-◌, ◌≤◌, Bool, ◌&&◌, cond, nat_eq, Option, None, Some, List, [], ◌∷◌, Contains, IsTrue, length}
use Rattle.std.specs.FinMap as map
use Rattle.std.specs.List.{list_any}
use Rattle.std.specs.List.Sorted.{IsPermutation}
use Rattle.dm_base.specs.declared.volume.Chunk.{Chunk}
use Rattle.dm_durable.specs.Group.{is_on}
use Rattle.dm_durable.specs.Tables.{ByName, ByNumber}
use Rattle.dm_durable.specs.declared.group.BitfileRow.{BitfileRow}
use Rattle.dm_tables.specs.Rows.{EachRow}
use Rattle.dm_places.specs.Chunks.{spot_of}
use Rattle.dm_places.specs.Order.{IsFirst}
use Rattle.dm_places.specs.Queue.{Queue}
use Rattle.dm_places.specs.declared.spot.Spot.{Spot}

abbrev pub spots_in : Option Queue → List Spot
spots_in None = []
spots_in (Some q) = q.spots

abbrev pub places_in : Option Queue → ℕ
places_in None = 0
places_in (Some q) = q.spare

-- the spots that a volume has, and how many places are kept for more
abbrev pub spots_on : ByName Queue → List ℕ → List Spot
spots_on queues vsn = spots_in (map.get queues vsn)

abbrev pub places_on : ByName Queue → List ℕ → ℕ
places_on queues vsn = places_in (map.get queues vsn)

abbrev pub same_spot : Spot → Spot → Bool
same_spot x y = nat_eq x.place y.place && (nat_eq x.bfid.0 y.bfid.0 && nat_eq x.offset y.offset)

-- whether the spot is among those of the volume
abbrev pub is_queued : ByName Queue → List ℕ → Spot → Bool
is_queued queues vsn s = list_any (same_spot s) (spots_on queues vsn)

-- each spot that a volume has in the first it has in the second
abbrev pub KeepsQueued : ByName Queue → ByName Queue → Type 0
KeepsQueued old new = (vsn : List ℕ) (s : Spot) → IsTrue (is_queued old vsn s) → IsTrue (is_queued new vsn s)

-- the queues of the other volumes are what they were
abbrev pub IsBeside : ByName Queue → List ℕ → ByName Queue → Type 0
IsBeside old vsn new = (v : List ℕ) → v ≢ vsn → map.get new v ≡ map.get old v

-- the spot is put into a place of the volume
pub record Puts (old : ByName Queue) (vsn : List ℕ) (s : Spot) (new : ByName Queue) : Type 0 where
  pub spots : IsPermutation (s ∷ spots_on old vsn) (spots_on new vsn)
  pub places : places_on new vsn + 1 ≡ places_on old vsn
  pub beside : IsBeside old vsn new

-- the first spot of the volume is gone
pub record Drops (old : ByName Queue) (vsn : List ℕ) (new : ByName Queue) : Type 0 where
  pub spots : (x : Spot) → IsFirst (spots_on old vsn) x → IsPermutation (spots_on old vsn) (x ∷ spots_on new vsn)
  pub len : length (spots_on new vsn) ≡ length (spots_on old vsn) - 1
  pub places : places_on old vsn ≤ places_on new vsn
  pub beside : IsBeside old vsn new

-- the volume has no spot
pub record Clears (old : ByName Queue) (vsn : List ℕ) (new : ByName Queue) : Type 0 where
  pub spots : spots_on new vsn ≡ []
  pub places : places_on old vsn ≤ places_on new vsn
  pub beside : IsBeside old vsn new

-- ---- the chunks of a bitfile

-- how many of the chunks stand on the volume
abbrev pub count_in : List ℕ → List Chunk → ℕ
count_in vsn [] = 0
count_in vsn (c ∷ cs) = cond (is_on vsn c) (1 + count_in vsn cs) (count_in vsn cs)

-- each volume has places for those of the chunks that stand there
abbrev pub HasPlaces : ByName Queue → List Chunk → Type 0
HasPlaces queues chunks = (vsn : List ℕ) → count_in vsn chunks ≤ places_on queues vsn

-- the spot of each chunk of a bitfile is in the queue of its volume
abbrev pub AllQueued : ByName Queue → ℕ → List Chunk → Type 0
AllQueued queues b chunks = (c : Chunk) → Contains chunks c → IsTrue (is_queued queues c.vsn.0 (spot_of b c))

-- so is that of each chunk of all bitfiles
abbrev pub Queued : ByName Queue → ByNumber BitfileRow → Type 0
Queued queues bitfiles = EachRow bitfiles (λ b r. AllQueued queues b r.chunks)

-- no volume has more places less than it has chunks among these
abbrev pub UsesPlaces : ByName Queue → List Chunk → ByName Queue → Type 0
UsesPlaces old chunks new = (vsn : List ℕ) → places_on old vsn ≤ places_on new vsn + count_in vsn chunks

-- the chunks' spots are put into places of their volumes
pub record PutsAll (old : ByName Queue) (b : ℕ) (chunks : List Chunk) (new : ByName Queue) : Type 0 where
  pub queued : AllQueued new b chunks
  pub kept : KeepsQueued old new
  pub places : (vsn : List ℕ) → places_on new vsn + count_in vsn chunks ≡ places_on old vsn

-- so many places more are kept as there are chunks on each volume
pub record KeepsMore (old : ByName Queue) (chunks : List Chunk) (new : ByName Queue) : Type 0 where
  pub spots : (vsn : List ℕ) → spots_on new vsn ≡ spots_on old vsn
  pub places : (vsn : List ℕ) → places_on new vsn ≡ places_on old vsn + count_in vsn chunks

-- and so many fewer
pub record KeepsFewer (old : ByName Queue) (chunks : List Chunk) (new : ByName Queue) : Type 0 where
  pub spots : (vsn : List ℕ) → spots_on new vsn ≡ spots_on old vsn
  pub places : (vsn : List ℕ) → places_on new vsn ≡ places_on old vsn - count_in vsn chunks
