use Rattle.std.proofs.Common.{◌≡◌, ◌≤◌, ◌-◌, ◌++◌, None, length, take}
use Rattle.std.specs.Option.{option_to_list}
use Rattle.dm_proto.specs.Stream.{Consumes}
use Rattle.dm_proto.proofs.reader.Reader.feed.Given as goal

-- what was begun and the bytes that were taken say what is ready
abbrev pub invariant-pieces : goal.invariant-pieces
invariant-pieces l = record {
  bounded : l.taken ≤ length l.bytes;
  none : l.taken ≡ 0 → l.self.ready ≡ None;
  heard : Consumes (l.fn.self.begun ++ take l.taken l.bytes) (option_to_list l.self.ready) l.self.begun;
}

abbrev pub decreases-pieces : goal.decreases-pieces
decreases-pieces l = length l.bytes - l.taken
