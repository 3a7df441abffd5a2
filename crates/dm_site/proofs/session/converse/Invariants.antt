use Rattle.std.proofs.Common.{◌≡◌, ◌≤◌, None, length}
use Rattle.dm_proto.specs.Reading.{MayBegin}
use Rattle.dm_site.specs.Talk.{standing_of}
use Rattle.dm_site.specs.Listening.{Listened}
use Rattle.dm_site.proofs.session.converse.Given as goal

-- what was read so far was heard, done and answered
abbrev pub invariant-loop-more : goal.invariant-loop-more
invariant-loop-more g l =
    let disk = g.B.Bay.disk in
    let count = g.B.Bay.count in
    let taken = g.K.Sink.taken in
    record {
      listened : Listened ((disk l.fn.bay).told 16) (g.S.Source.left l.fn.source) (g.S.Source.left l.source)
          (standing_of l.fn.archive (disk l.fn.bay) (taken l.fn.sink) (count l.fn.bay)) (standing_of l.archive (disk l.bay) (taken l.sink) (count l.bay)) l.more l.reader.begun;
      begun : MayBegin l.reader.begun;
      idle : l.reader.ready ≡ None;
      room : length l.buffer ≡ 4096;
      told : (disk l.bay).told ≡ (disk l.fn.bay).told;
      source_count : g.S.Source.count l.source ≡ g.S.Source.count l.fn.source;
      sink_count : g.K.Sink.count l.sink ≡ g.K.Sink.count l.fn.sink;
      ends : g.K.Sink.ends l.sink → g.K.Sink.ends l.fn.sink;
    }

abbrev pub decreases-loop-more : goal.decreases-loop-more
decreases-loop-more g l = l.more
