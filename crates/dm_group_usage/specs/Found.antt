-- What code finds, as the definitions have it.
use Rattle.std.specs.Prelude.{Option, None, Some, List, [], ◌∷◌, cond, nat_le}
use Rattle.dm_durable.specs.Volumes.{LiveChunk, SparseVolume}
use Rattle.dm_group_usage.specs.declared.foremost.Live.{Live}
use Rattle.dm_group_usage.specs.declared.sparse.Sparse.{Sparse}

-- a volume with its weight
abbrev pub sparse_volume : Sparse → SparseVolume
sparse_volume s = record { vsn = s.vsn; weight = s.weight }

-- a chunk with its bitfile
abbrev pub live_chunk_of : Live → LiveChunk
live_chunk_of l = record { bfid = l.bfid; total = l.total; chunk = l.chunk }

-- of two chunks the one that lies further in front, and the one found before where they lie at one place
abbrev pub in_front : Option LiveChunk → LiveChunk → LiveChunk
in_front None x = x
in_front (Some y) x = cond (nat_le y.chunk.place x.chunk.place) y x

-- the one of these and of what was found that lies furthest in front
abbrev pub furthest : Option LiveChunk → List LiveChunk → Option LiveChunk
furthest found [] = found
furthest found (x ∷ xs) = furthest (Some (in_front found x)) xs
