use Rattle.std.proofs.Common.{ap}
use Rattle.dm_journal.proofs.Apart.{keeps_apart, first_of_two, two_in_turn}
use Rattle.dm_journal.proofs.tests.append_both.Goals as goal

pub returns-in_err-append : goal.returns-in_err-append
returns-in_err-append g c = record {
  any_moment = λ ps qs k m.
      first_of_two (g.B.Bay.disk c.args.bay.now) (g.B.Bay.disk c.append.new.bay) (g.B.Bay.disk c.append.new.bay) c.args.first.now c.args.second.now c.requires.apart ps qs c.args.one.now c.args.two.now m (c.append.ensures.any_moment ps k);
}

pub returns : goal.returns
returns g c = record {
  any_moment = λ ps qs k m.
      two_in_turn (g.B.Bay.disk c.args.bay.now) (g.B.Bay.disk c.append.new.bay) (g.B.Bay.disk c.append-2.new.bay) c.args.first.now c.args.second.now c.requires.apart ps qs c.args.one.now c.args.two.now
      m (c.append.ensures.any_moment ps k) c.append.new.self (ap (λ j. j.file) c.in_ok-append.ensures.moved) (c.in_ok-append.ensures.ok ps k)
      (c.append-2.ensures.any_moment qs (keeps_apart c.args.first.now.file _ _ _ c.append.ensures.others c.args.second.now c.requires.apart qs m));
}
