use Rattle.std.proofs.Common.{◌≡◌, ◌-◌, ◌≤◌, length, take}
use Rattle.dm_reply.specs.Took.{Took}
use Rattle.dm_reply.proofs.send.send.Given as goal

abbrev pub invariant-loop-sent : goal.invariant-loop-sent
invariant-loop-sent g l =
    let taken = g.K.Sink.taken in
    let count = g.K.Sink.count in
    let ends = g.K.Sink.ends in
    record {
      within : l.sent ≤ length l.bytes;
      took : Took (taken l.fn.sink) (taken l.sink) (take l.sent l.bytes);
      kept : count l.sink ≡ count l.fn.sink;
      ended : ends l.sink → ends l.fn.sink;
    }

abbrev pub decreases-loop-sent : goal.decreases-loop-sent
decreases-loop-sent g l = length l.bytes - l.sent
