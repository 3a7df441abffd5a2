-- The chunk of its old spelling.
use Rattle.dm_base.specs.declared.volume.Chunk.{Chunk}
use Rattle.dm_fields.specs.declared.chunks.OldChunk.{OldChunk}

abbrev pub chunk_of : OldChunk → Chunk
chunk_of c = c.chunk
