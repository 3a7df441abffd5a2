use Rattle.std.proofs.Common.{◌≡◌, ◌+◌, List, drop, length}
use Rattle.dm_zone.specs.declared.contents.ZoneChunk.{ZoneChunk}
use Rattle.dm_zone.specs.Reading.{Read}
use Rattle.dm_zone.proofs.decode.chunks_end.Given as goal

-- so many chunks stand there, and what is left
abbrev pub invariant-loop : goal.invariant-loop
invariant-loop l = record {
  read : (told : List ZoneChunk) × Read l.version (drop 32 l.bytes) l.counter told l.place l.rest;
  left : length l.rest + l.place ≡ length l.bytes;
}
