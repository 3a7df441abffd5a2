use Rattle.std.proofs.Common.{◌∙◌, subst, sym, arith}
use Rattle.atomic_table.specs.Table.{Allows}
use Rattle.shared_tally.specs.Locks.{Guarded}
use Rattle.shared_tally.proofs.Locks.{releases}
use Rattle.shared_tally.proofs.lock.Lock.put_back.Goals as goal

pub store-requires : goal.store-requires
store-requires g c =
    let fits = g.T.Fits.fits c.args.self.now.table.shared.key in
    let seat = c.exchange.new.seat in (
      c.exchange.ensures.0 ∙ c.requires.loan.0,
      omega (arith, c.args.self.now.sized.0),
      subst (λ n. Allows (Guarded fits) n seat.id seat.me 0 (λ _. 0) (λ _ _. Unit {0})) (sym c.args.self.now.sized.1) (releases fits _ _ _ _ _ c.exchange.ensures.3 c.requires.fits),
    )
