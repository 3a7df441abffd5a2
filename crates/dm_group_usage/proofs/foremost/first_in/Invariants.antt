use Rattle.std.proofs.Common.{◌≡◌, drop}
use Rattle.std.specs.Option.{option_map}
use Rattle.dm_group_usage.specs.Found.{furthest, live_chunk_of}
use Rattle.dm_group_usage.proofs.Nearest.{live_in_row}
use Rattle.dm_group_usage.proofs.foremost.first_in.Given as goal

-- what was found, and the chunks that are left
abbrev pub invariant-loop-chunk : goal.invariant-loop-chunk
invariant-loop-chunk l = furthest (option_map live_chunk_of l.first) (live_in_row l.number l.row l.vsn.0 (drop l.chunk-index l.row.chunks)) ≡ furthest (option_map live_chunk_of l.fn.found) (live_in_row l.number l.row l.vsn.0 l.row.chunks)
