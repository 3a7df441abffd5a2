use Rattle.std.proofs.Common.{◌≡◌, ◌≤◌, ◌++◌, ◌-◌, [], None, length, take}
use Rattle.dm_proto.specs.Reading.{MayBegin}
use Rattle.dm_site.specs.Talk.{standing_of, Talk}
use Rattle.dm_site.proofs.session.answer_piece.Given as goal

-- so far the piece was heard, done and answered
abbrev pub invariant-loop-taken : goal.invariant-loop-taken
invariant-loop-taken g l =
    let disk = g.B.Bay.disk in
    let count = g.B.Bay.count in
    let taken = g.K.Sink.taken in
    record {
      within : l.taken ≤ length l.piece;
      talk : Talk ((disk l.fn.bay).told 16) (standing_of l.fn.archive (disk l.fn.bay) (taken l.fn.sink) (count l.fn.bay))
          (standing_of l.archive (disk l.bay) (taken l.sink) (count l.bay)) (l.fn.reader.begun ++ take l.taken l.piece) l.reader.begun [];
      begun : MayBegin l.reader.begun;
      idle : l.reader.ready ≡ None;
      told : (disk l.bay).told ≡ (disk l.fn.bay).told;
      count : g.K.Sink.count l.sink ≡ g.K.Sink.count l.fn.sink;
      ends : g.K.Sink.ends l.sink → g.K.Sink.ends l.fn.sink;
    }

abbrev pub decreases-loop-taken : goal.decreases-loop-taken
decreases-loop-taken g l = length l.piece - l.taken
