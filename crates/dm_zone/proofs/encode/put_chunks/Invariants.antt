use Rattle.std.proofs.Common.{◌≡◌, ◌-◌, ◌+◌, ◌++◌, length}
use Rattle.std.specs.List.{flat_map}
use Rattle.dm_rules.specs.Zone.{chunk_text, chunk_split_into}
use Rattle.dm_zone.proofs.encode.put_chunks.Given as goal

-- what is written and the chunks of what is left are the chunks of all
abbrev pub invariant-loop : goal.invariant-loop
invariant-loop l = record {
  told : l.out.items ++ flat_map chunk_text (chunk_split_into l.version (l.count - l.counter) l.bfid.0 l.total l.place l.rest l.chunk) ≡ l.fn.out.items ++ flat_map chunk_text (chunk_split_into l.version l.count l.bfid.0 l.total l.offset l.bytes l.chunk);
  within : l.place + length l.rest ≡ l.offset + length l.bytes;
}
