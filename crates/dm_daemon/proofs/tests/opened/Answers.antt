use Rattle.std.proofs.Common.{sym, subst}
use Rattle.dm_ckpt.specs.State.{At, Stands as StoreStands}
use Rattle.dm_ckpt.proofs.Lending.{end_stands}
use Rattle.dm_daemon.proofs.Beginning.{begun_stands}
use Rattle.dm_daemon.proofs.tests.opened.Goals as goal

pub returns-in-Ok : goal.returns-in-Ok
returns-in-Ok g c =
    let d = g.B.Bay.disk c.next.new.bay in
    begun_stands d c.ready.result c.in-Ok.daemon
    (subst (λ (j : At). StoreStands d j) (sym c.ready.ensures)
    (end_stands d c.in_ok-loading.loading c.next.follows.lender-at-none c.next.result c.in_ok-next.field-0 c.in_ok-next.was c.in-None.is (c.in_ok-next.ensures.stands c.in_ok-loading.ensures.stands)
    c.next.follows.holds-at-none))
    c.in-Ok.ensures.store c.in-Ok.ensures.sure c.in-Ok.ensures.room c.in-Ok.ensures.found
