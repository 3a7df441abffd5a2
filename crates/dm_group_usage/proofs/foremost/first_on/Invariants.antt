use Rattle.std.proofs.Common.{◌≡◌}
use Rattle.std.specs.Option.{option_map}
use Rattle.dm_durable.specs.Volumes.{first_on}
use Rattle.dm_group_usage.specs.Found.{furthest, live_chunk_of}
use Rattle.dm_group_usage.proofs.Nearest.{live_in_rows}
use Rattle.dm_group_usage.proofs.foremost.first_on.Given as goal

-- what was found, and the chunks of the bitfiles that are left
abbrev pub invariant-loop-number : goal.invariant-loop-number
invariant-loop-number l = furthest (option_map live_chunk_of l.first) (live_in_rows l.vsn.0 l.number-iterator) ≡ first_on l.bitfiles l.vsn.0
