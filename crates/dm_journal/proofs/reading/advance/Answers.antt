use Rattle.std.proofs.Common.{◌+◌, ℕ, Option, Some, subst}
use Rattle.dm_host.specs.Disk.{Same}
use Rattle.dm_host.proofs.Moments.{same_after}
use Rattle.dm_journal.specs.Load.{Measures, loading_at}
use Rattle.dm_journal.proofs.Outcome.{of_ok}
use Rattle.dm_journal.proofs.Measuring.{reading_still, read_length, read_fits, reading_more}
use Rattle.dm_journal.proofs.reading.advance.Goals as goal

pub returns-in_err-map_err-in-Some-clause-works : goal.returns-in_err-map_err-in-Some-clause-works
returns-in_err-map_err-in-Some-clause-works g c = same_after Same c.args.file _ _ _ c.measure.ensures.works c.fetch.ensures.works

pub returns-in_ok-map_err-in-Some-clause-works : goal.returns-in_ok-map_err-in-Some-clause-works
returns-in_ok-map_err-in-Some-clause-works g c = same_after Same c.args.file _ _ _ c.measure.ensures.works c.fetch.ensures.works

pub returns-in-None-clause-found : goal.returns-in-None-clause-found
returns-in-None-clause-found g c = λ ps r.
    subst (λ (o : Option ℕ). Measures (g.B.Bay.disk c.measure.new.bay) (loading_at c.args.file c.args.place 0 c.args.end) ps o) c.in-None.is (c.in_ok-measure.ensures.found ps r)

pub returns-in_ok-map_err-in-Some-clause-found : goal.returns-in_ok-map_err-in-Some-clause-found
returns-in_ok-map_err-in-Some-clause-found g c = λ ps r.
    let d1 = g.B.Bay.disk c.measure.new.bay in
    let says : Measures d1 (loading_at c.args.file c.args.place 0 c.args.end) ps (Some c.in-Some.n) =
    subst (λ (o : Option ℕ). Measures d1 (loading_at c.args.file c.args.place 0 c.args.end) ps o) c.in-Some.is (c.in_ok-measure.ensures.found ps r) in
    let still = reading_still c.args.file c.args.place 0 c.args.end ps _ d1 r c.measure.ensures.works c.measure.ensures.same in
    let read = of_ok c.fetch.result c.in_ok-map_err-in-Some.ensures.variant (c.fetch.ensures.bytes still.told) in
    let payload = c.fetch.new.buffer.items in (
      read_fits c.args.file c.args.place 0 c.args.end c.in-Some.n ps payload d1 still says.0 says.1 says.2 read,
      read_length c.args.file c.args.place 0 c.args.end c.in-Some.n ps payload d1 still says.0 says.1 says.2 read,
      reading_still c.args.file (c.args.place + (5 + c.in-Some.n)) c.args.place c.args.end _ d1 _
          (reading_more c.args.file c.args.place 0 c.args.end c.in-Some.n ps payload d1 still says.0 says.1 says.2 read) c.fetch.ensures.works c.fetch.ensures.same,
    )
