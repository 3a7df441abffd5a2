use Rattle.std.proofs.Common.{◌≡◌, ◌+◌, length}
use Rattle.dm_zone.proofs.Listing.{Listing}
use Rattle.dm_zone.proofs.decode.chunks_of.Given as goal

-- what was told so far, and what is left
abbrev pub invariant-loop : goal.invariant-loop
invariant-loop l = record {
  listing : Listing l.version l.bytes l.count l.counter l.chunks.items l.place l.rest;
  left : length l.rest + l.place ≡ length l.bytes;
}
